-- What calls that change the chains of one file leave.
use Rattle.std.proofs.Common.{ℕ, ◌≡◌, ◌≢◌, ◌≤◌, IsTrue, arith}
use Rattle.std.specs.declared.result.Result.{Result}
use Rattle.std.specs.declared.result.Result.TheVariants.{Ok, Err}
use Rattle.dms_block.specs.declared.block_fault.BlockFault.{BlockFault}
use Rattle.dms_block.specs.declared.blocks.Blocks.{Ghosts}
use Rattle.dms_block.specs.declared.overlay.Overlay.{Overlay}
use Rattle.dms_block.specs.Faults.{NotFull}
use Rattle.dms_block.specs.HeldLaws.{looks_as, looks_err, looks_more}
use Rattle.dms_block.specs.View.{WritesOverlay, overlay_content, under}

module _ {B : Type 0} {g : Ghosts B} where
  -- all other files stay as they were, where the content is told
  abbrev pub LeavesOthers : ℕ → Overlay B g → Overlay B g → Type 0
  LeavesOthers file a b = IsTrue (under a).told → (other : ℕ) → other ≢ file → overlay_content b other ≡ overlay_content a other

  -- it holds where the content is told, and what stands below is sound
  abbrev pub IfSeen : Overlay B g → Type 0 → Type 0
  IfSeen o P = IsTrue (under o).told → (under o).sound → P

  pub writes_more : {T : Type 0} {n m : ℕ} (k l : ℕ) {r : Result T BlockFault} {a b : Overlay B g} → n ≤ k → m ≤ l → WritesOverlay n m r a b → WritesOverlay k l r a b
  writes_more k l le le' p = record { looks = looks_more k le p.looks; more = omega (arith, p.more, le'); same = p.same }

  pub writes_as : {T U : Type 0} {n m : ℕ} {x : T} (r : Result U BlockFault) {a b : Overlay B g} → NotFull r → WritesOverlay n m (Ok x) a b → WritesOverlay n m r a b
  writes_as r room p = record { looks = looks_as r room p.looks; more = p.more; same = p.same }

  pub writes_err : {T U : Type 0} {n m : ℕ} (e : BlockFault) {a b : Overlay B g} → WritesOverlay {T = T} n m (Err e) a b → WritesOverlay {T = U} n m (Err e) a b
  writes_err e p = record { looks = looks_err e p.looks; more = p.more; same = p.same }
