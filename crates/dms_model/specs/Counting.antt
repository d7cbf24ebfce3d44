-- How many records and entries a verb names, refers to, moves or nulls a link in: what it may change is bounded by this number.
use Rattle.std.specs.Prelude.{ℕ, List, Bool, true, false, Some, None, slice_get}
use Rattle.std.specs.declared.option.Option.{Option}
use Rattle.dms_desc.specs.Shape.{Described}
use Rattle.dms_model.specs.declared.verb.Verb.{Verb}
use Rattle.dms_model.specs.declared.verb.Verb.TheVariants.{OpenUpdate, OpenInquiry, Close, Find, Lock, Free, Create, Put as PutItems, Get, Store, Delete, Insert, Remove, Assign, Begin, End, Abort}
use Rattle.dms_model.specs.Changing.{removal_count, storing_count}
use Rattle.dms_model.specs.Db.{Db}
use Rattle.dms_model.specs.Programs.{Program}
use Rattle.dms_model.specs.Session.{Session, area_number, area_of, current_of, or_no_area, or_zero, place_of, restart_of}

-- of storing a program's area of a data set
abbrev pub area_count : Described → Program → Db → ℕ → ℕ
area_count desc p db set = storing_count desc set (area_number (or_no_area (area_of p set)) (current_of p set)) db

abbrev pub restart_count : Bool → Described → Program → Db → ℕ
restart_count true desc p db = area_count desc p db (restart_of desc)
restart_count false desc p db = 0

-- of a verb of a program
abbrev pub verb_count : Described → Program → Db → Verb → ℕ
verb_count desc p db OpenUpdate = 0
verb_count desc p db OpenInquiry = 0
verb_count desc p db Close = 0
verb_count desc p db (Find path) = 0
verb_count desc p db (Lock path) = 0
verb_count desc p db (Free set) = 0
verb_count desc p db (Create set) = 0
verb_count desc p db (PutItems set settings) = 0
verb_count desc p db (Get set items) = 0
verb_count desc p db (Store set) = area_count desc p db set
verb_count desc p db (Delete set) = removal_count desc set (or_zero (current_of p set)) db
verb_count desc p db (Insert set subset) = 2
verb_count desc p db (Remove set subset) = 2
verb_count desc p db (Assign to set item) = 3
verb_count desc p db (Begin audit) = restart_count audit desc p db
verb_count desc p db (End audit sync) = restart_count audit desc p db
verb_count desc p db Abort = 0

-- a program that isn't open changes nothing
abbrev pub count_for : Option Program → Described → Db → Verb → ℕ
count_for None desc db verb = 0
count_for (Some p) desc db verb = verb_count desc p db verb

unfoldable pub counts_of : Described → Session → List ℕ → Verb → ℕ
counts_of desc s name verb = count_for (slice_get s.programs (place_of name s.programs)) desc s.db verb
