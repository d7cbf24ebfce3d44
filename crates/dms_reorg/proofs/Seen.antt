-- What a read that went well leaves of the causes of a later fault.
use Rattle.std.proofs.Common.{◌≡◌, ◌∙◌, ◌<◌, ℕ, List, [], length, subst, ap, sym}
use Rattle.std.specs.Prelude.{slice_index_or}
use Rattle.std.specs.declared.result.Result.{Result}
use Rattle.std.specs.declared.result.Result.TheVariants.{Ok, Err}
use Rattle.dms_block.specs.declared.block_fault.BlockFault.{BlockFault}
use Rattle.dms_block.specs.declared.blocks.Blocks.{Ghosts}
use Rattle.dms_block.specs.declared.overlay.Overlay.{Overlay}
use Rattle.dms_block.specs.Content.{Content, counts_after}
use Rattle.dms_block.specs.Held.{HasCausesOr}
use Rattle.dms_block.specs.HeldLaws.{causes_or_on, looks_err, told_after}
use Rattle.dms_block.specs.View.{ReadsOverlay, seen_counts, under}
use Rattle.dms_block.specs.ViewLaws.{seen_still}
use Rattle.dms_desc.specs.Files.{file_of}
use Rattle.dms_desc.specs.Shape.{Shape}
use Rattle.dms_slots.specs.Seen.{BadIn}
use Rattle.dms_slots.specs.SlotBlocks.{is_block}

module _ {B : Type 0} {g : Ghosts B} where
  pub counts_still : {T : Type 0} {n : ℕ} {x : T} {a b : Overlay B g} → ReadsOverlay n (Ok x) a b → seen_counts b ≡ seen_counts a
  counts_still {a = a} {b = b} reads = λ i. counts_after (reads.written_still i) (reads.looks.counts i)

  -- a block that is bad after reads was so before
  pub bad_since : {T : Type 0} {n : ℕ} {x : T} (s : Shape) (a b : Overlay B g) → ReadsOverlay n (Ok x) a b → (f k : ℕ) → BadIn s b f k → BadIn s a f k
  bad_since s a b reads f k h = (
    (
      h.0.0,
      λ told.
          let still = ap (λ (c : Content). c (file_of s.number)) (seen_still reads told) in
          let bad = h.0.1 (told_after reads.looks.passes.lasts told) in
          (subst (λ (bs : List (List ℕ)). k < length bs) still bad.0, ap (λ (bs : List (List ℕ)). is_block s (slice_index_or bs k [])) (sym still) ∙ bad.1),
    ),
    subst (λ m. k < m) (ap (λ (c : ℕ → ℕ). c (file_of s.number)) (counts_still reads)) h.1,
  )

  -- a fault after reads that went well
  pub bad_causes : {T U : Type 0} {n : ℕ} {x : T} (s : Shape) (r : Result U BlockFault) (a b c : Overlay B g) → (under b).faults ≡ (under a).faults → ReadsOverlay n (Ok x) a b → HasCausesOr (BadIn s b) r (under b) (under c) → HasCausesOr (BadIn s a) r (under a) (under c)
  bad_causes s r a b c is reads h = causes_or_on (BadIn s b) (BadIn s a) r (under a) (under b) (under c) (bad_since s a b reads) is reads.looks.passes.lasts reads.looks.same h

  -- the same fault, of a call that answers another type
  pub reads_err : {T U : Type 0} {n : ℕ} (e : BlockFault) {a b : Overlay B g} → ReadsOverlay {T = T} n (Err e) a b → ReadsOverlay {T = U} n (Err e) a b
  reads_err e p = record { written_still = p.written_still; looks = looks_err e p.looks; same = p.same }
