-- Calls on lists over the blocks, as calls that write over them.
use Rattle.std.proofs.Common.{◌≡◌, ◌+◌, ◌*◌, ◌≤◌, ℕ, Bool, length, arith}
use Rattle.std.specs.Prelude.{⊤}
use Rattle.std.specs.declared.result.Result.{Result}
use Rattle.std.specs.declared.result.Result.TheVariants.{Ok, Err}
use Rattle.dms_block.specs.declared.block_fault.BlockFault.{BlockFault}
use Rattle.dms_block.specs.declared.blocks.Blocks.{Ghosts}
use Rattle.dms_block.specs.declared.overlay.Overlay.{Overlay}
use Rattle.dms_block.specs.HeldLaws.{looks_as, looks_err}
use Rattle.dms_block.specs.View.{under}
use Rattle.dms_chain.specs.SeenLaws.{causes_err}
use Rattle.dms_links.specs.Altering.{WritesSlots}
use Rattle.dms_sets.specs.Keeping.{Calm, EndsInFault}

module _ {B : Type 0} {g : Ghosts B} where
  -- Calls on lists that didn't fail, with at most so many changes, write 22 blocks for each,
  pub calm_writes : {T : Type 0} (p : ℕ → Bool) (n m : ℕ) (x : T) (a b : Overlay B g) → (under a).sound → 22 * n ≤ m → Calm p n a b → WritesSlots m (Ok x) a b
  calm_writes p n m x a b sound le calm = record {
    reads = calm.reads;
    writes = record { looks = looks_as (Ok x) tt (calm.looks sound); more = omega (arith, calm.more, le); same = calm.same };
    causes = calm.faults;
  }

  -- and so do those of which the last one failed.
  pub fails_writes : {T : Type 0} (e : BlockFault) (n m : ℕ) (a b : Overlay B g) → (under a).sound → 22 * n ≤ m → EndsInFault e n a b → WritesSlots {T = T} m (Err e) a b
  fails_writes {T = T} e n m a b sound le ends = record {
    reads = ends.reads;
    writes = record { looks = looks_err e (ends.looks sound); more = omega (arith, ends.more, le); same = ends.same };
    causes = causes_err (Unit {0}) T (λ f k. Unit {0}) (λ f k. ⊤) e (under a) (under b) (λ f k h. tt) (ends.causes sound);
  }
