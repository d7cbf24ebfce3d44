-- What the calls on entries of manual subsets promise, over blocks.
use Rattle.std.specs.Prelude.{ℕ, ◌≡◌, Bool, true, IsTrue, Some, IfOk, IfSome}
use Rattle.std.specs.FinMap.{get}
use Rattle.std.specs.declared.option.Option.{Option}
use Rattle.std.specs.declared.result.Result.{Result}
use Rattle.dms_block.specs.Content.{Content}
use Rattle.dms_block.specs.Held.{HasCausesOr}
use Rattle.dms_block.specs.View.{ReadsOverlay, overlay_content, under}
use Rattle.dms_block.specs.declared.block_fault.BlockFault.{BlockFault}
use Rattle.dms_block.specs.declared.blocks.Blocks.{Ghosts}
use Rattle.dms_block.specs.declared.overlay.Overlay.{Overlay}
use Rattle.dms_desc.specs.Shape.{Shape, Described}
use Rattle.dms_desc.specs.declared.record.Record.{Record}
use Rattle.dms_links.specs.Altering.{WritesSlots}
use Rattle.dms_links.specs.AlteringIn.{BadOf}
use Rattle.dms_manual.specs.Entered.{as_member}
use Rattle.dms_model.specs.Changing.{MayEnter}
use Rattle.dms_model.specs.Db.{Db}
use Rattle.dms_model.specs.Fitting.{IsNumber, IsStored, RecordFits}
use Rattle.dms_model.specs.Uses.{after_enter, after_leave, enter_answer, has_entry}
use Rattle.dms_model.specs.Valid.{owner_stands}
use Rattle.dms_model.specs.declared.put.Put.{Put}
use Rattle.dms_spelling.specs.Ready.{FaultsBelow, IfSpelt}
use Rattle.dms_spelling.specs.Spelled.{database_in}
use Rattle.dms_spelling.specs.Staying.{TakenStay}

-- ---- changes of entries

-- A call that changes entries: it writes at most m blocks over those below; what it answers and leaves is told of the database;
-- where one is told a fault comes from below; and no number of a record is freed.
pub record ChangesEntries {B : Type 0} {g : Ghosts B} {T : Type 0} (desc : Described) (m : ℕ) (P : Db → Content → T → Type 0) (result : Result T BlockFault) (a b : Overlay B g) : Type 0 where
  pub writes : WritesSlots m result a b
  pub told : IfOk result (λ x. IfSpelt desc a (λ db. P db (overlay_content b) x))
  pub below : IfSpelt desc a (λ db. FaultsBelow result a b)
  pub taken : IfOk result (λ x. IsTrue (under a).told → TakenStay desc (overlay_content a) (overlay_content b))

-- The answer is that of the database, and where the entry is made the blocks spell the database with it.
pub record EntryMade (desc : Described) (db : Db) (subset owner number : ℕ) (d : Content) (answer : Put) : Type 0 where
  pub is : answer ≡ enter_answer desc db subset owner number
  pub made : IsStored answer → database_in desc d ≡ Some (after_enter answer db subset owner)

-- The answer is whether the entry stands, and where it does the blocks spell the database without it.
pub record EntryTaken (desc : Described) (db : Db) (subset owner number : ℕ) (d : Content) (was : Bool) : Type 0 where
  pub is : was ≡ has_entry db subset owner number
  pub made : was ≡ true → database_in desc d ≡ Some (after_leave db subset owner number)

-- the same where the record and the owner stand
abbrev pub Enters : Described → ℕ → ℕ → ℕ → Db → Content → Put → Type 0
Enters desc subset owner number db d answer = MayEnter desc db subset owner number → EntryMade desc db subset owner number d answer

abbrev pub Leaves : Described → ℕ → ℕ → ℕ → Db → Content → Bool → Type 0
Leaves desc subset owner number db d was = MayEnter desc db subset owner number → EntryTaken desc db subset owner number d was

-- ---- a member

-- this record, with the owner of an entry as its own, is that with a number of the data set, and the owner stands
pub record IsMember (db : Db) (s : Shape) (number : ℕ) (rec : Record) : Type 0 where
  pub stands : as_member rec.owner (get db.records (s.set, number)) ≡ Some rec
  pub owner : owner_stands db.records s.owner rec.owner ≡ true

abbrev pub EntersMember : Described → Shape → ℕ → Record → Db → Content → Put → Type 0
EntersMember desc s number rec db d answer = IsMember db s number rec → EntryMade desc db s.number rec.owner number d answer

abbrev pub LeavesMember : Described → Shape → ℕ → Record → Db → Content → Bool → Type 0
LeavesMember desc s number rec db d was = IsMember db s number rec → EntryTaken desc db s.number rec.owner number d was

-- A call that reads the record of a data set with a number, or finds none.
pub record ReadsRecord {B : Type 0} {g : Ghosts B} (desc : Described) (set number : ℕ) (result : Result (Option Record) BlockFault) (a b : Overlay B g) : Type 0 where
  pub found : IfOk result (λ o. IfSpelt desc a (λ db. o ≡ get db.records (set, number)))
  pub fits : IfOk result (λ o. IfSome o (RecordFits desc set))
  pub numbered : IfOk result (λ o. IfSome o (λ r. IsNumber desc set number))
  pub reads : ReadsOverlay 1 result a b
  pub causes : HasCausesOr (BadOf desc set a) result (under a) (under b)
