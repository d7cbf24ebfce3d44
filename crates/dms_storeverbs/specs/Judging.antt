-- What refuses DELETE, INSERT, REMOVE and ASSIGN before the store is asked, and what is left to ask.
use Rattle.std.specs.Prelude.{◌≡◌, ℕ, true, false, Some, None, if◌then◌else◌, is_some}
use Rattle.std.specs.declared.option.Option.{Option}
use Rattle.dms_desc.specs.Shape.{Described}
use Rattle.dms_locks.specs.declared.verdict.Verdict.TheVariants.{Goes, Waits as Stays, Deadlocks}
use Rattle.dms_locks.specs.Waits.{verdict}
use Rattle.dms_model.specs.Programs.{Program}
use Rattle.dms_model.specs.Session.{Session, assign_step, blockers, current_of, delete_step, holds, insert_step, owner_for, refuse, remove_step}
use Rattle.dms_model.specs.Uses.{in_use, linkers}
use Rattle.dms_storeverbs.specs.declared.deleting.Deletion.{Deletion}
use Rattle.dms_storeverbs.specs.declared.deleting.Deletion.TheVariants.{InUse as Used, Deadlocks as Circles, Waits as Held, Goes as Free}
use Rattle.dms_model.specs.Fitting.{HasRecord}
use Rattle.dms_storeverbs.specs.declared.refusal.Refusal.{Refusal}
use Rattle.dms_storeverbs.specs.View.{Room}

-- a program in transaction state has this record current and locked
pub record HasLocked (p : Program) (set number : ℕ) : Type 0 where
  pub works : p.in_transaction ≡ true
  pub current : current_of p set ≡ Some number
  pub locked : holds p set (Some number) ≡ true

abbrev pub DeleteRefused : Described → Program → ℕ → Refusal → Type 0
DeleteRefused desc p set r = (i : ℕ) (s : Session) → delete_step desc i p s set ≡ refuse s r.category r.name

-- what is left of DELETE, whatever the programs have at hand: the record is in use, or others hold a record locked whose link would be nulled
abbrev pub DeletionIs : Deletion → Described → Program → Session → ℕ → ℕ → Type 0
DeletionIs Used desc p s set number = in_use desc s.db set number ≡ true
DeletionIs Circles desc p s set number = (in_use desc s.db set number ≡ false) × (verdict s.waits p.name (blockers (linkers desc s.db set number) p.name s.programs) ≡ Deadlocks)
DeletionIs (Held who) desc p s set number =
    (in_use desc s.db set number ≡ false) × (verdict s.waits p.name (blockers (linkers desc s.db set number) p.name s.programs) ≡ Stays) × (who ≡ blockers (linkers desc s.db set number) p.name s.programs)
DeletionIs Free desc p s set number = (in_use desc s.db set number ≡ false) × (verdict s.waits p.name (blockers (linkers desc s.db set number) p.name s.programs) ≡ Goes)

-- a program in transaction state has this record current, and the owner of its entry
pub record HasEntry (desc : Described) (p : Program) (set subset owner number : ℕ) : Type 0 where
  pub works : p.in_transaction ≡ true
  pub current : current_of p set ≡ Some number
  pub owned : owner_for desc p subset ≡ Some owner

pub record EntryRefused (desc : Described) (p : Program) (set subset : ℕ) (r : Refusal) : Type 0 where
  pub insert : (i : ℕ) (s : Session) → insert_step desc i p s set subset ≡ refuse s r.category r.name
  pub remove : (i : ℕ) (s : Session) → remove_step desc i p s set subset ≡ refuse s r.category r.name

-- the data set to whose current record a link is to refer, where a program has no current record of it
abbrev pub missing_target : Option ℕ → Program → Option ℕ
missing_target None p = None
missing_target (Some set) p = if is_some (current_of p set) then None else Some set

abbrev pub AssignRefused : Described → Program → Option ℕ → ℕ → ℕ → Refusal → Type 0
AssignRefused desc p to set item r = (i : ℕ) (s : Session) → assign_step desc i p s to set item ≡ refuse s r.category r.name

-- a record that isn't in use, where there is room for a quiet point
pub record MayDelete (desc : Described) (set number : ℕ) (s : Session) : Type 0 where
  pub room : Room s.next
  pub stands : HasRecord s.db set number
  pub unused : in_use desc s.db set number ≡ false
