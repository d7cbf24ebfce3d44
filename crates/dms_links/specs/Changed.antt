-- What is told of one slot that changes, among the slots of a database.
use Rattle.std.proofs.Common.{◌≡◌, ◌∙◌, ◌≤◌, ℕ, true, cond, Some, None, sym, subst, ap}
use Rattle.std.specs.declared.option.Option.{Option}
use Rattle.std.specs.FinMap.{get}
use Rattle.std.specs.Ordering.{eq_by_cmp}
use Rattle.std.proofs.lemmas.Option.{same_Some}
use Rattle.dms_block.specs.Content.{Content}
use Rattle.dms_desc.specs.Lookups.{structure_of}
use Rattle.dms_desc.specs.Shape.{Shape, Described}
use Rattle.dms_layout.specs.declared.slot.Slot.{Slot}
use Rattle.dms_model.specs.Db.{Db, Place, place_cmp}
use Rattle.dms_model.specs.Valid.{is_data_set}
use Rattle.dms_tally.specs.Gone.{MayGo}
use Rattle.dms_tally.specs.Tally.{without_record}
use Rattle.dms_links.specs.Rows.{AreNumbered}
use Rattle.dms_links.specs.Stands.{RecordsStand, SlotStands, Tally}
use Rattle.dms_links.specs.Steps.{SlotIs, step}

-- structures are numbered in their order, and this one is a data set
pub record IsSetOf (desc : Described) (set : ℕ) (s : Shape) : Type 0 where
  pub numbered : AreNumbered 1 desc.structures
  pub at : structure_of desc set ≡ Some s
  pub is_set : is_data_set (Some s) ≡ true

-- the slot of another record stands after as it stood before
abbrev pub OthersStand : Described → Db → Db → Tally → Tally → ℕ → ℕ → Type 0
OthersStand desc db after own moved set number = (t : Shape) (n : ℕ) (x : Slot) → structure_of desc t.number ≡ Some t → get db.records (t.number, n) ≡ Some x.rec
    → (t.number ≡ set → n ≡ number → ⊥) → SlotStands desc db own t n x → SlotStands desc after moved t n x

-- The database after it has the record of the slot, which stands and counts what is told, and the slots of all others do so.
pub record WritesRecord (desc : Described) (db after : Db) (own moved : Tally) (set number : ℕ) (s : Shape) (x : Slot) : Type 0 where
  pub records : (p : Place) → get after.records p ≡ cond (eq_by_cmp place_cmp p (set, number)) (Some x.rec) (get db.records p)
  pub others : OthersStand desc db after own moved set number
  pub here : SlotStands desc after moved s number x

-- the slots have the records with that one
abbrev pub WritesSlot : Described → Db → Db → Tally → Tally → Content → Content → ℕ → ℕ → Shape → Slot → Type 0
WritesSlot desc db after own moved c d set number s x = IsSetOf desc set s → WritesRecord desc db after own moved set number s x → 1 ≤ number
    → SlotIs s number (Some x) c d → RecordsStand desc db own c → RecordsStand desc after moved d

-- or without one that may go
abbrev pub FreesSlot : Described → Db → Tally → Content → Content → ℕ → ℕ → Shape → Type 0
FreesSlot desc db own c d set number s = IsSetOf desc set s → MayGo desc db set number → 1 ≤ number → SlotIs s number None c d → RecordsStand desc db own c
    → RecordsStand desc (without_record db set number) own d

pub written : (desc : Described) (db after : Db) (own moved : Tally) (c d : Content) (set number : ℕ) (s : Shape) (x : Slot) → IsSetOf desc set s → WritesRecord desc db after own moved set number s x → 1 ≤ number
    → SlotIs s number (Some x) c d → RecordsStand desc db own c → RecordsStand desc after moved d
written desc db after own moved c d set number s x of writes low change files =
    step desc of.numbered db after own moved c d set number s (Some x) of.at of.is_set low change writes.records writes.others (λ y h. subst (λ (z : Slot). SlotStands desc after moved s number z) (same_Some x y h) writes.here) files
