use Rattle.std.proofs.Common.{◌≡◌, ◌∙◌, ◌+◌, ◌-◌, ◌*◌, ap, sym, arith, length, Ok, Err, Some, None, Option, take}
use Rattle.dms_block.specs.Content.{Content, apply_changes}
use Rattle.dms_block.specs.HeldLaws.{told_after}
use Rattle.dms_block.specs.View.{overlay_content, seen_counts}
use Rattle.dms_block.specs.ViewLaws.{counts_seen, reads_as, reads_on}
use Rattle.dms_desc.specs.Shape.{shape_of}
use Rattle.dms_model.specs.declared.spot.Spot.{Spot}
use Rattle.dms_chain.specs.SeenLaws.{causes_since}
use Rattle.dms_slots.specs.Seen.{BadIn}
use Rattle.dms_desc.specs.Files.{file_of}
use Rattle.dms_slots.specs.SlotBlocks.{per_block, slot_at, slots_of}
use Rattle.dms_store.specs.Finding.{bad_since}
use Rattle.dms_store.specs.Scans.{last_used, owned_spot}
use Rattle.dms_store.specs.ScanSteps.{last_found, last_free}
use Rattle.dms_store.proofs.scanning.last_used.Goals as goal

pub returns-in-Ok-Some-clause-found : goal.returns-in-Ok-Some-clause-found
returns-in-Ok-Some-clause-found g c tells =
    let o = c.args.over.now in
    let s = shape_of c.args.s.now in
    let f = file_of c.args.s.now.number in
    let k = c.args.stop - c.loop-i.i in
    let r = c.loop-i.invariant.reads in
    let still : overlay_content c.loop-i.over ≡ overlay_content o = λ j. apply_changes (r.written_still j) (r.looks.same.content tells j) in
    let here : ◌≡◌ {A = Option Spot} (Some c.in-Ok-Some.found) (owned_spot c.args.owner k (slot_at s (overlay_content o f) k)) =
    (rw c.in-Ok-Some.field-0-is at c.in-Ok-Some.ensures.found) (told_after r.looks.passes.lasts tells) ∙ ap (λ (x : Content). owned_spot c.args.owner k (slot_at s (x f) k)) still in
    let counted : seen_counts o f * per_block s.items ≡ length (overlay_content o f) * per_block s.items = ap (λ j. j * per_block s.items) (counts_seen o (g.met.B.Blocks.agrees o.below c.requires.sound) tells f) in
    sym (c.loop-i.invariant.on tells ∙ last_found s (overlay_content o f) c.args.owner k c.in-Ok-Some.found (omega (arith, c.loop-i-test.true)) (omega (arith, c.requires.within, counted)) (sym here))

pub loop-i-preserved : goal.loop-i-preserved
loop-i-preserved g c =
    let o = c.args.over.now in
    let s = shape_of c.args.s.now in
    let f = file_of c.args.s.now.number in
    let k = c.args.stop - c.loop-i.i in
    let r = c.loop-i.invariant.reads in
    record {
      reads = reads_as (Ok 0) tt (reads_on (Ok c.in-Ok-None.field-0) g.met.B.Blocks.same_then r c.in-Ok-None.ensures.reads);
      faults = c.in-Ok-None.ensures.causes ∙ c.loop-i.invariant.faults;
      on = λ tells.
          let still : overlay_content c.loop-i.over ≡ overlay_content o = λ j. apply_changes (r.written_still j) (r.looks.same.content tells j) in
          let here : ◌≡◌ {A = Option Spot} None (owned_spot c.args.owner k (slot_at s (overlay_content o f) k)) =
          (rw c.in-Ok-None.field-0-is at c.in-Ok-None.ensures.found) (told_after r.looks.passes.lasts tells) ∙ ap (λ (x : Content). owned_spot c.args.owner k (slot_at s (x f) k)) still in
          let counted : seen_counts o f * per_block s.items ≡ length (overlay_content o f) * per_block s.items = ap (λ j. j * per_block s.items) (counts_seen o (g.met.B.Blocks.agrees o.below c.requires.sound) tells f) in
          let e : k - 1 ≡ c.args.stop - (c.loop-i.i + 1) = omega arith in
          c.loop-i.invariant.on tells ∙ last_free s (overlay_content o f) c.args.owner k (omega (arith, c.loop-i-test.true)) (omega (arith, c.requires.within, counted)) (sym here)
          ∙ ap (λ j. last_used c.args.owner 1 (take j (slots_of s (overlay_content o f)))) e;
    }

pub returns-clause-found : goal.returns-clause-found
returns-clause-found g c tells =
    let o = c.args.over.now in
    let s = shape_of c.args.s.now in
    let f = file_of c.args.s.now.number in
    let e : c.args.stop - c.loop-i.i ≡ 0 = omega (arith, c.loop-i-test.false) in
    sym (c.loop-i.invariant.on tells ∙ ap (λ j. last_used c.args.owner 1 (take j (slots_of s (overlay_content o f)))) e)

pub returns-in-Err-clause-causes : goal.returns-in-Err-clause-causes
returns-in-Err-clause-causes g c =
    let s = shape_of c.args.s.now in
    causes_since {U = Option Spot} (BadIn s c.loop-i.over) (BadIn s c.args.over.now) (Err c.in-Err.e) c.args.over.now c.loop-i.over c.owned_at.new.over (bad_since s c.args.over.now c.loop-i.over c.loop-i.invariant.reads) c.loop-i.invariant.faults c.loop-i.invariant.reads c.in-Err.ensures.causes
