-- A call of a store that only looks.
use Rattle.std.proofs.Common.{◌≡◌, ◌<◌, ◌^◌, ℕ, Some}
use Rattle.std.specs.Prelude.{IsErrOf}
use Rattle.std.specs.declared.result.Result.{Result}
use Rattle.dms_block.specs.declared.block_fault.BlockFault.{BlockFault}
use Rattle.dms_block.specs.declared.block_fault.BlockFault.TheVariants.{Say}
use Rattle.dms_block.specs.declared.blocks.Blocks.{Ghosts}
use Rattle.dms_block.specs.declared.overlay.Overlay.{Overlay}
use Rattle.dms_block.specs.Faults.{NotFull, Unbroken, Undamaged}
use Rattle.dms_block.specs.Held.{BlocksAgree, HasCausesOr}
use Rattle.dms_block.specs.View.{ReadsOverlay, under}
use Rattle.dms_desc.specs.Shape.{Described}
use Rattle.dms_model.specs.Db.{Db}
use Rattle.dms_model.specs.Seen as store
use Rattle.dms_store.specs.Lifted.{IsUsable, db_of, store_seen}
use Rattle.dms_store.specs.LiftedLaws.{causes_lifted, reads_effort, reads_keep, reads_silent}
use Rattle.dms_store.specs.Noted.{causes_noted, noted_by}
use Rattle.dms_store.specs.Undamaged.{undamaged_or}
use Rattle.dms_store.specs.PuttingStore.{mute_or}

-- nothing has changed, and a fault has its cause
pub record Looked {T : Type 0} (result : Result T BlockFault) (old new : store.Seen) : Type 0 where
  pub keeps : Unbroken result (store.Keeps old new)
  pub silent : store.IsSilent old new
  pub effort : new.effort ≡ old.effort
  pub undamaged : (d : Db) → old.db ≡ Some d → Undamaged result
  pub mute_fault : IsErrOf result Say → ⊥
  pub room : NotFull result
  pub causes : store.HasStoreCauses result old new

module _ {B : Type 0} {g : Ghosts B} (desc : Described) (found found' : ℕ) (o o' : Overlay B g) where
  pub look_noted : {T : Type 0} {n : ℕ} (P : ℕ → ℕ → Type 0) (r : Result T BlockFault) → found < 2 ^ 64 → found' ≡ noted_by r found → IsUsable desc o → BlocksAgree (under o) → ((x y : B) → g.same_blocks x y → g.pace y ≡ g.pace x) → ReadsOverlay n r o o' → HasCausesOr P r (under o) (under o')
      → ((d : Db) → db_of desc (under o).told (under o).content ≡ Some d → (f b : ℕ) → P f b → ⊥) → Looked r (store_seen desc found o) (store_seen desc found' o')
  look_noted P r small noted usable agrees law reads cause none = record {
    keeps = reads_keep desc o o' found found' r usable reads;
    silent = reads_silent desc o o' found found' reads;
    effort = reads_effort desc o o' reads;
    undamaged = λ d told. undamaged_or desc (under o) usable.serves agrees d told P r (under o') (none d told) cause;
    mute_fault = mute_or P r (under o) (under o') cause;
    room = reads.looks.not_full;
    causes = causes_lifted desc (IsUsable desc o) (IsUsable desc o') found found' (g.pace o.below) (g.pace o'.below) (under o) (under o') r reads.looks.passes.lasts (law o.below o'.below reads.same) reads.looks.uses.not_fewer
        (causes_noted (under o) (under o') found found' small P r noted cause);
  }
