-- What each call promises: whether a record is in use, a link set, a record taken out.
use Rattle.std.specs.Prelude.{ℕ, ◌+◌, ◌*◌, ◌≤◌, ◌≡◌, [], Bool, true, false, not, Some, IfOk, IsTrue, length}
use Rattle.std.specs.declared.option.Option.{Option}
use Rattle.std.specs.declared.result.Result.{Result}
use Rattle.dms_block.specs.View.{overlay_changes, overlay_content, under}
use Rattle.dms_block.specs.declared.block_fault.BlockFault.{BlockFault}
use Rattle.dms_block.specs.declared.blocks.Blocks.{Ghosts}
use Rattle.dms_block.specs.declared.overlay.Overlay.{Overlay}
use Rattle.dms_desc.specs.Shape.{Described}
use Rattle.dms_links.specs.Altering.{WritesSlots}
use Rattle.dms_model.specs.Db.{Db}
use Rattle.dms_model.specs.Changing.{IsLinkTarget, removal_count}
use Rattle.dms_model.specs.Uses.{after_link, after_remove, in_use}
use Rattle.dms_spelling.specs.Spelled.{database_in}
use Rattle.dms_spelling.specs.Staying.{TakenStay}
use Rattle.dms_tally.specs.Gone.{MayGo}
use Rattle.dms_tally.specs.Tally.{without_record}
use Rattle.dms_removal.specs.Freed.{FreesOne}
use Rattle.dms_spelling.specs.Ready.{FaultsBelow, IfHolds, IfSpelt}

-- at most 64 blocks of each structure for each record that a removal names
abbrev pub removal_blocks : Described → Db → ℕ → ℕ → ℕ
removal_blocks desc db set number = 64 * length desc.structures * removal_count desc set number db

module _ {B : Type 0} {g : Ghosts B} where
  -- Whether a record is in use. What stands below is only read, and nothing is written over it.
  pub record TellsUse (desc : Described) (set number : ℕ) (result : Result Bool BlockFault) (a b : Overlay B g) : Type 0 where
    pub writes : WritesSlots 0 result a b
    pub none : overlay_changes b ≡ []
    pub answer : IfOk result (λ used. IfHolds desc set number a (λ db. used ≡ in_use desc db set number))
    pub below : IfSpelt desc a (λ db. FaultsBelow result a b)

  -- the same, where lists may have been written over
  pub record LooksForUse (desc : Described) (set number : ℕ) (result : Result Bool BlockFault) (a b : Overlay B g) : Type 0 where
    pub writes : WritesSlots (22 * length desc.structures) result a b
    pub answer : IfOk result (λ used. IfHolds desc set number a (λ db. used ≡ in_use desc db set number))
    pub below : IfSpelt desc a (λ db. FaultsBelow result a b)

  -- A link of a record is set. Where the answer is false, or an error, what was written is to be forgotten.
  pub record LinksRecord (desc : Described) (set number item : ℕ) (to : Option ℕ) (result : Result Bool BlockFault) (a b : Overlay B g) : Type 0 where
    pub writes : WritesSlots 3 result a b
    pub linked : IfOk result (λ done. IfHolds desc set number a (λ db. IsLinkTarget desc db set item to → (done ≡ true) × (database_in desc (overlay_content b) ≡ Some (after_link db set number item to))))
    pub taken : IfOk result (λ done. IsTrue (under a).told → TakenStay desc (overlay_content a) (overlay_content b))
    pub below : IfSpelt desc a (λ db. FaultsBelow result a b)

  -- A record is taken out that may go: it isn't in use, and no self-correcting link refers to it.
  pub record TakesOut (desc : Described) (set number : ℕ) (result : Result Bool BlockFault) (a b : Overlay B g) : Type 0 where
    pub writes : WritesSlots (44 * length desc.structures + 62) result a b
    pub gone : IfOk result (λ done. IfHolds desc set number a (λ db. MayGo desc db set number → (done ≡ true) × (database_in desc (overlay_content b) ≡ Some (without_record db set number))))
    pub taken : IfOk result (λ done. IsTrue (under a).told → FreesOne desc set number (overlay_content a) (overlay_content b))
    pub below : IfSpelt desc a (λ db. FaultsBelow result a b)

  -- A record that isn't in use is removed, and the self-correcting links to it are null. Where the answer is false, or an error, what was
  -- written is to be forgotten.
  pub record RemovesRecord (desc : Described) (set number : ℕ) (result : Result Bool BlockFault) (a b : Overlay B g) : Type 0 where
    pub most : ℕ
    pub writes : WritesSlots most result a b
    pub few : IfSpelt desc a (λ db. most ≤ removal_blocks desc db set number)
    pub removed : IfOk result (λ done. IfHolds desc set number a (λ db.
        (done ≡ not (in_use desc db set number)) × (done ≡ true → database_in desc (overlay_content b) ≡ Some (after_remove desc db set number))))
    pub taken : IfOk result (λ done. IsTrue (under a).told → FreesOne desc set number (overlay_content a) (overlay_content b))
    pub below : IfSpelt desc a (λ db. FaultsBelow result a b)

  -- The same, of one that isn't in use.
  pub record RemovesUnused (desc : Described) (set number : ℕ) (result : Result Bool BlockFault) (a b : Overlay B g) : Type 0 where
    pub most : ℕ
    pub writes : WritesSlots most result a b
    pub few : IfSpelt desc a (λ db. most ≤ removal_blocks desc db set number)
    pub removed : IfOk result (λ done. IfHolds desc set number a (λ db.
        in_use desc db set number ≡ false → (done ≡ true) × (database_in desc (overlay_content b) ≡ Some (after_remove desc db set number))))
    pub taken : IfOk result (λ done. IsTrue (under a).told → FreesOne desc set number (overlay_content a) (overlay_content b))
    pub below : IfSpelt desc a (λ db. FaultsBelow result a b)
