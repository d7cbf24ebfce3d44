-- What the calls on links, entries and records that go leave of the blocks of a database.
use Rattle.std.specs.Prelude.{ℕ, ◌≡◌, ◌*◌, Bool, true, false, not, IfOk, IsTrue, length, if◌then◌else◌}
use Rattle.std.specs.declared.option.Option.{Option}
use Rattle.std.specs.declared.result.Result.{Result}
use Rattle.dms_block.specs.Held.{HasCausesOr}
use Rattle.dms_block.specs.View.{ReadsOverlay, under}
use Rattle.dms_block.specs.declared.block_fault.BlockFault.{BlockFault}
use Rattle.dms_block.specs.declared.blocks.Blocks.{Ghosts}
use Rattle.dms_block.specs.declared.overlay.Overlay.{Overlay}
use Rattle.dms_desc.specs.Shape.{Described}
use Rattle.dms_model.specs.Changing.{IsLinkTarget, MayEnter, removal_count}
use Rattle.dms_model.specs.Db.{Db}
use Rattle.dms_model.specs.Fitting.{HasRecord, IsStored}
use Rattle.dms_model.specs.Uses.{after_enter, after_leave, after_link, after_remove, enter_answer, has_entry, in_use}
use Rattle.dms_model.specs.declared.put.Put.{Put}
use Rattle.dms_model.specs.declared.put.Put.TheVariants.{Stored, Duplicate, Full}
use Rattle.dms_removal.specs.Freed.{FreesOne}
use Rattle.dms_spelling.specs.Ready.{FaultsBelow, IfSpelt}
use Rattle.dms_spelling.specs.Staying.{TakenStay}
use Rattle.dms_store.specs.Settled.{FullWhen, HandsOn, Leaves}

-- at most 64 blocks of each structure for each of so many records and entries
abbrev pub limit_for : Described → (Db → ℕ) → Db → ℕ
limit_for desc count db = 64 * length desc.structures * count db

abbrev pub is_stored : Put → Bool
is_stored (Stored n) = true
is_stored (Duplicate s) = false
is_stored Full = false

-- the record stands, and what a link of it is to refer to
abbrev pub MayBeLinked : Described → ℕ → ℕ → ℕ → Option ℕ → Db → Type 0
MayBeLinked desc set number item to db = HasRecord db set number × IsLinkTarget desc db set item to

-- the database after a record is removed, where it isn't in use
abbrev pub db_removed : Described → ℕ → ℕ → Db → Db
db_removed desc set number db = if in_use desc db set number then db else after_remove desc db set number

abbrev pub db_entered : Described → ℕ → ℕ → ℕ → Db → Db
db_entered desc subset owner number db = after_enter (enter_answer desc db subset owner number) db subset owner

module _ {B : Type 0} {g : Ghosts B} where
  -- A call that only reads: what it answers of blocks that spell a database of which this holds.
  pub record LooksOver {T : Type 0} (desc : Described) (Q : Db → Type 0) (answer : Db → T) (result : Result T BlockFault) (a c : Overlay B g) : Type 0 where
    pub most : ℕ
    pub reads : ReadsOverlay most result a c
    pub causes : HasCausesOr (λ f k. Unit {0}) result (under a) (under c)
    pub below : IfSpelt desc a (λ db. FaultsBelow result a c)
    pub told : IfOk result (λ x. IfSpelt desc a (λ db. Q db → x ≡ answer db))

  -- What a call leaves of blocks that spell a database of which this holds: what it hands on, answers and spells; and where the audit had no
  -- room for it.
  pub record Relates {T : Type 0} (desc : Described) (count : Db → ℕ) (Q : Db → Type 0) (answer : Db → T) (after : Db → Db) (D : Db → Type 0) (result : Result T BlockFault) (a c : Overlay B g) : Type 0 where
    pub on : HandsOn desc (limit_for desc count) result a c
    pub leaves : IfOk result (Leaves desc Q answer after a c)
    pub full : FullWhen desc Q D a result

  -- no number of a record is freed, where this was answered
  abbrev pub StayTaken : {T : Type 0} → Described → Overlay B g → Overlay B g → Result T BlockFault → Type 0
  StayTaken desc a c result = IfOk result (λ x. IsTrue (under a).told → TakenStay desc (under a).content (under c).content)

  pub record RemovesOver (desc : Described) (set number : ℕ) (result : Result Bool BlockFault) (a c : Overlay B g) : Type 0 where
    pub relates : Relates desc (removal_count desc set number) (λ db. HasRecord db set number) (λ db. not (in_use desc db set number)) (db_removed desc set number) (λ db. in_use desc db set number ≡ false) result a c
    pub taken : IfOk result (λ x. IsTrue (under a).told → FreesOne desc set number (under a).content (under c).content)

  pub record LinksOver (desc : Described) (set number item : ℕ) (to : Option ℕ) (result : Result (Unit {0}) BlockFault) (a c : Overlay B g) : Type 0 where
    pub relates : Relates desc (λ db. 3) (MayBeLinked desc set number item to) (λ db. tt) (λ db. after_link db set number item to) (λ db. Unit {0}) result a c
    pub taken : StayTaken desc a c result

  pub record EntersOver (desc : Described) (subset owner number : ℕ) (result : Result Put BlockFault) (a c : Overlay B g) : Type 0 where
    pub relates : Relates desc (λ db. 2) (λ db. MayEnter desc db subset owner number) (λ db. enter_answer desc db subset owner number) (db_entered desc subset owner number) (λ db. IsStored (enter_answer desc db subset owner number)) result a c
    pub taken : StayTaken desc a c result

  pub record LeavesOver (desc : Described) (subset owner number : ℕ) (result : Result Bool BlockFault) (a c : Overlay B g) : Type 0 where
    pub relates : Relates desc (λ db. 2) (λ db. MayEnter desc db subset owner number) (λ db. has_entry db subset owner number) (λ db. after_leave db subset owner number) (λ db. has_entry db subset owner number ≡ true) result a c
    pub taken : StayTaken desc a c result
