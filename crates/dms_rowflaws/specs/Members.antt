-- The first entry at which the list of a set or subset and its definition differ.
use Rattle.std.specs.Prelude.{ℕ, ◌+◌, Bool, false, ◌&&◌, nat_le, List, [], ◌∷◌, Some, None, if◌then◌else◌}
use Rattle.std.specs.declared.option.Option.{Option}
use Rattle.std.specs.Option.{option_map}
use Rattle.std.specs.FinMap.{get}
use Rattle.std.specs.Str.{bytes_eq}
use Rattle.dms_block.specs.Content.{Content}
use Rattle.dms_desc.specs.Keys.{key_of}
use Rattle.dms_desc.specs.Lookups.{structure_of}
use Rattle.dms_desc.specs.Shape.{Shape, Described}
use Rattle.dms_desc.specs.declared.record.Record.{Record}
use Rattle.dms_differ.specs.Differ.{first_diff}
use Rattle.dms_differ.specs.Twins.{first_twin}
use Rattle.dms_model.specs.Db.{Db}
use Rattle.dms_model.specs.Valid.{is_manual, is_set, owner_stands}
use Rattle.dms_sets.specs.Entries.{entry_bytes}
use Rattle.dms_sets.specs.Sets.{entries_of, kinds_over, number_in, owner_in}
use Rattle.dms_spelling.specs.Spelled.{list_at, list_or}
use Rattle.dms_rowflaws.specs.Numbers.{first_of_structures}
use Rattle.dms_rowflaws.specs.Records.{in_structure, told_db}

-- an entry has the key of its record, which stands
abbrev pub has_own_key : Described → Shape → Option Record → List ℕ → Bool
has_own_key desc s None q = false
has_own_key desc s (Some r) q = bytes_eq q (entry_bytes (kinds_over desc s) s.parts (owner_in q) (key_of s.parts r.values) (number_in q))

-- What is asked of the entry at a place of a manual subset's list: its place is at most POPULATION, and its owner and its record stand, whose
-- key it has. So no owner has a record twice.
abbrev pub manual_keeps : Described → Db → Shape → ℕ → List ℕ → Bool
manual_keeps desc db s i q = nat_le i s.population && (owner_stands db.records s.owner (owner_in q) && has_own_key desc s (get db.records (s.set, number_in q)) q)

-- the place of the first entry that doesn't pass, of those from a place on
abbrev pub first_entry : (ℕ → List ℕ → Bool) → ℕ → List (List ℕ) → Option ℕ
first_entry keeps i [] = None
first_entry keeps i (q ∷ qs) = if keeps i q then first_entry keeps (i + 1) qs else Some i

-- the less of two places
abbrev pub lesser : Option ℕ → Option ℕ → Option ℕ
lesser None b = b
lesser (Some a) None = Some a
lesser (Some a) (Some b) = if nat_le a b then Some a else Some b

-- where a list differs from what it is defined to be
abbrev pub misplaced : Described → Db → Shape → List (List ℕ) → Option ℕ
misplaced desc db s xs = if is_manual (Some s) then first_entry (manual_keeps desc db s) 1 xs else first_diff xs (entries_of desc db s)

-- the second of two equal keys of one owner, where they may not be
abbrev pub unwanted_twin : Shape → List (List ℕ) → Option ℕ
unwanted_twin s xs = if s.duplicates then None else first_twin xs

abbrev pub flawed_entry : Described → Content → Option Shape → Option ℕ
flawed_entry desc c None = None
flawed_entry desc c (Some s) = if is_set s then lesser (misplaced desc (told_db desc c) s (list_or (list_at desc c s))) (unwanted_twin s (list_or (list_at desc c s))) else None

-- The place of the first entry, in order of sets and subsets, at which the list and its definition differ.
abbrev pub member_flaw : Described → Content → Option (ℕ × ℕ)
member_flaw desc c = first_of_structures (λ n. option_map (in_structure n) (flawed_entry desc c (structure_of desc n)))
