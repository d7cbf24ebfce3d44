-- What is seen through an overlay, over one call after another.
use Rattle.std.proofs.Common.{ℕ, ◌+◌, ◌≤◌, ◌≡◌, ◌∙◌, IsTrue, length, refl}
use Rattle.std.specs.declared.result.Result.{Result}
use Rattle.std.specs.declared.result.Result.TheVariants.{Ok}
use Rattle.dms_block.specs.declared.block_fault.BlockFault.{BlockFault}
use Rattle.dms_block.specs.declared.blocks.Blocks.{Ghosts}
use Rattle.dms_block.specs.declared.overlay.Overlay.{Overlay}
use Rattle.dms_block.specs.Changing.{grown_is}
use Rattle.dms_block.specs.Content.{apply_changes}
use Rattle.dms_block.specs.Faults.{NotFull}
use Rattle.dms_block.specs.Held.{BlocksAgree}
use Rattle.dms_block.specs.HeldLaws.{looks_as, looks_more, looks_none, looks_on}
use Rattle.dms_block.specs.View.{ReadsOverlay, overlay_content, seen_counts, under, overlay_changes}

module _ {B : Type 0} {g : Ghosts B} where
  -- the counts that are seen are those of the content that is seen
  pub counts_seen : (o : Overlay B g) → BlocksAgree (under o) → IsTrue (under o).told → (f : ℕ) → seen_counts o f ≡ length (overlay_content o f)
  counts_seen o agrees told f = grown_is (overlay_changes o) (under o).owns (under o).counts (under o).content (agrees.counted told) o.fits f

  -- reads alone leave what is seen
  pub seen_still : {T : Type 0} {n : ℕ} {x : T} {old new : Overlay B g} → ReadsOverlay n (Ok x) old new → IsTrue (under old).told → overlay_content new ≡ overlay_content old
  seen_still {old = old} {new = new} reads told = λ i. apply_changes (reads.written_still i) (reads.looks.same.content told i)

  pub reads_none : {T : Type 0} (n : ℕ) (r : Result T BlockFault) (o : Overlay B g) → ((b : B) → g.same_blocks b b) → NotFull r → (under o).sound → ReadsOverlay n r o o
  reads_none n r o again room sound = record { written_still = refl; looks = looks_none n r (under o) room sound; same = again o.below }

  pub reads_on : {T U : Type 0} {m n : ℕ} {x : T} (r : Result U BlockFault) {a b c : Overlay B g} → ((x y z : B) → g.same_blocks x y → g.same_blocks y z → g.same_blocks x z) → ReadsOverlay m (Ok x) a b → ReadsOverlay n r b c → ReadsOverlay (m + n) r a c
  reads_on r {a} {b} {c} onward p q = record { written_still = q.written_still ∙ p.written_still; looks = looks_on r p.looks q.looks; same = onward a.below b.below c.below p.same q.same }

  pub reads_more : {T : Type 0} {m : ℕ} (n : ℕ) {r : Result T BlockFault} {a b : Overlay B g} → m ≤ n → ReadsOverlay m r a b → ReadsOverlay n r a b
  reads_more n le p = record { written_still = p.written_still; looks = looks_more n le p.looks; same = p.same }

  pub reads_as : {T U : Type 0} {n : ℕ} {x : T} (r : Result U BlockFault) {a b : Overlay B g} → NotFull r → ReadsOverlay n (Ok x) a b → ReadsOverlay n r a b
  reads_as r room p = record { written_still = p.written_still; looks = looks_as r room p.looks; same = p.same }
