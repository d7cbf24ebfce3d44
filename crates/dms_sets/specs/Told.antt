-- What one change of a record makes of the lists of all sets, where a database is told.
use Rattle.std.specs.Prelude.{ℕ, ◌^◌, ◌<◌, ◌≤◌, ◌≡◌, Bool, true, false, ◌&&◌, Some, None, slice_get}
use Rattle.std.specs.declared.option.Option.{Option}
use Rattle.std.specs.FinMap.{get, insert, remove}
use Rattle.dms_desc.specs.declared.record.Record.{Record}
use Rattle.dms_desc.specs.Shape.{Shape, Described}
use Rattle.dms_model.specs.Db.{Db}
use Rattle.dms_chain.specs.Lists.{without_in}
use Rattle.dms_sets.specs.declared.answer.SetAnswer.{SetAnswer}
use Rattle.dms_sets.specs.declared.answer.SetAnswer.TheVariants.{Done, Duplicate}
use Rattle.dms_sets.specs.Answers.{clash_seen}
use Rattle.dms_sets.specs.Changes.{HasRoom, ListsOf, OptHasEntry, is_over, list_of_set, entry_opt, refuses}
use Rattle.dms_sets.specs.Entries.{kinds_of}
use Rattle.dms_desc.specs.Lookups.{structure_of, items_of}
use Rattle.dms_sets.specs.Puts.{MayCome}
use Rattle.dms_sets.specs.Sets.{entries_of, items_over, kinds_over}
use Rattle.dms_sets.specs.Spots.{RecordsHaveSpots, NameItems}
use Rattle.dms_desc.specs.Kinds.{is_set_or_automatic}

-- the records with one more, or without one
abbrev pub db_with : Db → ℕ → ℕ → Option Record → Db
db_with db set number None = record db { records = remove db.records (set, number) }
db_with db set number (Some rec) = record db { records = insert db.records (set, number) rec }

-- it holds of each structure
abbrev pub OfStructures : Described → (Shape → Type 0) → Type 0
OfStructures desc P = (k : ℕ) (s : Shape) → slice_get desc.structures k ≡ Some s → P s

-- The lists are those of a database.
abbrev pub AreListed : Described → Db → ListsOf → Type 0
AreListed desc db ls = OfStructures desc (λ s. is_set_or_automatic s ≡ true → list_of_set ls (kinds_over desc s) s ≡ Some (entries_of desc db s))

abbrev pub OptMayCome : Described → ℕ → Option Record → Type 0
OptMayCome desc set None = Unit {0}
OptMayCome desc set (Some rec) = MayCome desc set rec

-- no two structures have one number
abbrev pub HaveOwnNumbers : Described → Type 0
HaveOwnNumbers desc = (j k : ℕ) (s t : Shape) → slice_get desc.structures j ≡ Some s → slice_get desc.structures k ≡ Some t → s.number ≡ t.number → j ≡ k

-- What is told of a change: the old record stands in the database, whose records fit, the new one fits, and the list of each set
-- over the data set has room for its entry.
pub record ChangeStands (desc : Described) (db : Db) (set number : ℕ) (old new : Option Record) : Type 0 where
  pub apart : HaveOwnNumbers desc
  pub named : OfStructures desc (λ s. is_set_or_automatic s ≡ true → NameItems (items_over desc s) s.parts)
  pub old_is : get db.records (set, number) ≡ old
  pub small : number < 2 ^ 32
  pub records : RecordsHaveSpots desc db
  pub may : OptMayCome desc set new
  pub room : OfStructures desc (λ s. is_over s set ≡ true → HasRoom (without_in (entry_opt (kinds_over desc s) s number old) (entries_of desc db s)))

-- the first set in number order that refuses the new record
abbrev pub clash_opt : Described → Db → ℕ → ℕ → Option Record → Option ℕ
clash_opt desc db set number None = None
clash_opt desc db set number (Some rec) = clash_seen desc desc.structures db set (Some number) rec

abbrev pub answer_of : Option ℕ → SetAnswer
answer_of None = Done
answer_of (Some n) = Duplicate n

-- The answer names the first set that refuses the record. Where none does, the lists are those of the database with the change.
pub record KeepsSets (desc : Described) (db : Db) (set number : ℕ) (new : Option Record) (after : ListsOf) (answer : SetAnswer) : Type 0 where
  pub answer_is : answer ≡ answer_of (clash_opt desc db set number new)
  pub lists : answer ≡ Done → AreListed desc (db_with db set number new) after

-- where a database is told
abbrev pub IfJudged : Described → ℕ → ℕ → Option Record → Option Record → ListsOf → (Db → Type 0) → Type 0
IfJudged desc set number old new ls P = (db : Db) → ChangeStands desc db set number old new → AreListed desc db ls → P db

-- the lists of all sets after a change answer it, where those before it are of a database
abbrev pub KeepsListed : Described → ℕ → ℕ → Option Record → Option Record → ListsOf → ListsOf → SetAnswer → Type 0
KeepsListed desc set number old new before after answer = IfJudged desc set number old new before (λ db. KeepsSets desc db set number new after answer)

-- a set over the data set refuses the new record
abbrev pub is_refused : Described → Db → ℕ → ℕ → Option Record → Option Record → Shape → Bool
is_refused desc db set number old new s = is_over s set && refuses (kinds_over desc s) s new (without_in (entry_opt (kinds_over desc s) s number old) (entries_of desc db s))

-- the first k structures are changed, and none of them refused
pub record Upto (desc : Described) (db : Db) (set number : ℕ) (old new : Option Record) (k : ℕ) (now : ListsOf) : Type 0 where
  pub done : (j : ℕ) (s : Shape) → j < k → slice_get desc.structures j ≡ Some s → is_set_or_automatic s ≡ true → list_of_set now (kinds_over desc s) s ≡ Some (entries_of desc (db_with db set number new) s)
  pub left : (j : ℕ) (s : Shape) → k ≤ j → slice_get desc.structures j ≡ Some s → is_set_or_automatic s ≡ true → list_of_set now (kinds_over desc s) s ≡ Some (entries_of desc db s)
  pub none : (j : ℕ) (s : Shape) → j < k → slice_get desc.structures j ≡ Some s → is_refused desc db set number old new s ≡ false

-- a record may have an entry in each set over the data set
abbrev pub MayEnter : Described → ℕ → Option Record → Type 0
MayEnter desc set o = OfStructures desc (λ s. is_over s set ≡ true → OptHasEntry (kinds_of (items_of (structure_of desc set))) s o)
