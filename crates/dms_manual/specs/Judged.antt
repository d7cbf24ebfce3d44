-- What is told of one manual subset of a database, and of a member of it.
use Rattle.std.specs.Prelude.{ℕ, ◌≡◌, true, false, Some}
use Rattle.std.specs.List.{AllByRecursion, list_any}
use Rattle.std.specs.FinMap.{get}
use Rattle.dms_desc.specs.Keys.{key_of}
use Rattle.dms_desc.specs.Lookups.{structure_of}
use Rattle.dms_desc.specs.Shape.{Shape, Described}
use Rattle.dms_desc.specs.declared.record.Record.{Record}
use Rattle.dms_model.specs.Db.{Db}
use Rattle.dms_model.specs.Uses.{after_leave, has_entry}
use Rattle.dms_model.specs.Valid.{AreRising}
use Rattle.dms_chain.specs.Lists.{with_entry, without}
use Rattle.dms_sets.specs.Entries.{IsSetKey}
use Rattle.dms_sets.specs.Sets.{kinds_over}
use Rattle.dms_manual.specs.Counted.{NamesRecord}
use Rattle.dms_manual.specs.Entered.{IsSmallPair, manual_of}
use Rattle.dms_manual.specs.Listed.{bytes_for}
use Rattle.dms_manual.specs.Moves.{SmallIn, with_entry_of}
use Rattle.dms_manual.specs.Named.{names_record, tells}

-- the record stands, and the numbers of entries, of this owner and of this record are small
abbrev pub IfMember : Shape → Db → ℕ → ℕ → Record → Type 0 → Type 0
IfMember s db o n r P = get db.records (s.set, n) ≡ Some r → SmallIn s db → IsSmallPair (o, n) → P

-- the keys of its records fit
abbrev pub KeysFit : Described → Shape → Db → Type 0
KeysFit desc s db = (m : ℕ) (x : Record) → get db.records (s.set, m) ≡ Some x → IsSetKey (kinds_over desc s) s.parts (key_of s.parts x.values)

-- A manual subset of the description: the keys of its records fit, entries rise, and the record of each of its own stands.
pub record IsTold (desc : Described) (s : Shape) (db : Db) : Type 0 where
  pub structure : structure_of desc s.number ≡ Some s
  pub kind : s.kind ≡ 5
  pub fit : KeysFit desc s db
  pub rising : AreRising db.entries
  pub stand : AllByRecursion (NamesRecord s.number s.set db.records) db.entries

abbrev pub IfTold : Described → Shape → Db → Type 0 → Type 0
IfTold desc s db P = IsTold desc s db → P

-- Once an entry came that didn't stand, the list has its bytes in their place; once one went that stood, it hasn't.
abbrev pub ListGains : Described → Shape → Db → ℕ → ℕ → Record → Type 0
ListGains desc s db o n r = has_entry db s.number o n ≡ false → manual_of desc (with_entry_of db s.number o n) s ≡ with_entry (bytes_for (kinds_over desc s) s o n r) (manual_of desc db s)

abbrev pub ListLoses : Described → Shape → Db → ℕ → ℕ → Record → Type 0
ListLoses desc s db o n r = has_entry db s.number o n ≡ true → SmallIn s (after_leave db s.number o n)
    → manual_of desc (after_leave db s.number o n) s ≡ without (bytes_for (kinds_over desc s) s o n r) (manual_of desc db s)

-- the list tells which records are named
abbrev pub NamesIn : Described → Shape → Db → ℕ → Type 0
NamesIn desc s db n = list_any (tells n) (manual_of desc db s) ≡ list_any (names_record s.number n) db.entries
