use Rattle.std.proofs.Common.{◌≡◌, ◌∙◌, ◌+◌, ◌-◌, ◌*◌, ◌<◌, ◌≤◌, ap, sym, arith, length, min, Ok, Err, Some, None, Option}
use Rattle.dms_block.specs.Content.{Content, apply_changes}
use Rattle.dms_block.specs.HeldLaws.{told_after}
use Rattle.dms_block.specs.View.{overlay_content, seen_counts}
use Rattle.dms_block.specs.ViewLaws.{counts_seen, reads_as, reads_more, reads_on}
use Rattle.dms_desc.specs.Shape.{shape_of}
use Rattle.dms_model.specs.declared.spot.Spot.{Spot}
use Rattle.dms_chain.specs.SeenLaws.{causes_since}
use Rattle.dms_slots.specs.Seen.{BadIn}
use Rattle.dms_desc.specs.Files.{file_of}
use Rattle.dms_slots.specs.SlotBlocks.{per_block, slot_at}
use Rattle.dms_store.specs.Finding.{bad_since}
use Rattle.dms_store.specs.Scans.{owned_spot}
use Rattle.dms_store.specs.ScanSteps.{next_end, next_found, next_free}
use Rattle.dms_store.proofs.scanning.next_used.Goals as goal

pub returns-in-Ok-Some-clause-found : goal.returns-in-Ok-Some-clause-found
returns-in-Ok-Some-clause-found g c tells =
    let o = c.args.over.now in
    let s = shape_of c.args.s.now in
    let f = file_of c.args.s.now.number in
    let i = c.loop-i.i in
    let r = c.loop-i.invariant.reads in
    let still : overlay_content c.loop-i.over ≡ overlay_content o = λ k. apply_changes (r.written_still k) (r.looks.same.content tells k) in
    let here : ◌≡◌ {A = Option Spot} (Some c.in-Ok-Some.found) (owned_spot c.args.owner (i + 1) (slot_at s (overlay_content o f) (i + 1))) =
    (rw c.in-Ok-Some.field-0-is at c.in-Ok-Some.ensures.found) (told_after r.looks.passes.lasts tells) ∙ ap (λ (x : Content). owned_spot c.args.owner (i + 1) (slot_at s (x f) (i + 1))) still in
    let counted : seen_counts o f * per_block s.items ≡ length (overlay_content o f) * per_block s.items = ap (λ k. k * per_block s.items) (counts_seen o (g.met.B.Blocks.agrees o.below c.requires.sound) tells f) in
    let low : i < min (length (overlay_content o f) * per_block s.items) c.args.s.now.population = omega (arith, c.loop-i-test.true, c.slot_count-count.ensures, counted) in
    sym (c.loop-i.invariant.on tells ∙ next_found s (overlay_content o f) c.args.owner c.args.s.now.population i c.in-Ok-Some.found low (sym here))

pub loop-i-preserved : goal.loop-i-preserved
loop-i-preserved g c =
    let o = c.args.over.now in
    let s = shape_of c.args.s.now in
    let f = file_of c.args.s.now.number in
    let i = c.loop-i.i in
    let r = c.loop-i.invariant.reads in
    record {
      reads = reads_more (i + 1 - c.args.from) (omega (arith, c.loop-i.auto.i)) (reads_as (Ok 0) tt (reads_on (Ok c.in-Ok-None.field-0) g.met.B.Blocks.same_then r c.in-Ok-None.ensures.reads));
      bound = omega (arith, c.loop-i-test.true);
      faults = c.in-Ok-None.ensures.causes ∙ c.loop-i.invariant.faults;
      on = λ tells.
          let still : overlay_content c.loop-i.over ≡ overlay_content o = λ k. apply_changes (r.written_still k) (r.looks.same.content tells k) in
          let here : ◌≡◌ {A = Option Spot} None (owned_spot c.args.owner (i + 1) (slot_at s (overlay_content o f) (i + 1))) =
          (rw c.in-Ok-None.field-0-is at c.in-Ok-None.ensures.found) (told_after r.looks.passes.lasts tells) ∙ ap (λ (x : Content). owned_spot c.args.owner (i + 1) (slot_at s (x f) (i + 1))) still in
          let counted : seen_counts o f * per_block s.items ≡ length (overlay_content o f) * per_block s.items = ap (λ k. k * per_block s.items) (counts_seen o (g.met.B.Blocks.agrees o.below c.requires.sound) tells f) in
          let low : i < min (length (overlay_content o f) * per_block s.items) c.args.s.now.population = omega (arith, c.loop-i-test.true, c.slot_count-count.ensures, counted) in
          c.loop-i.invariant.on tells ∙ next_free s (overlay_content o f) c.args.owner c.args.s.now.population i low (sym here);
    }

pub returns-clause-found : goal.returns-clause-found
returns-clause-found g c tells =
    let o = c.args.over.now in
    let s = shape_of c.args.s.now in
    let f = file_of c.args.s.now.number in
    let counted : seen_counts o f * per_block s.items ≡ length (overlay_content o f) * per_block s.items = ap (λ k. k * per_block s.items) (counts_seen o (g.met.B.Blocks.agrees o.below c.requires.sound) tells f) in
    let past : min (length (overlay_content o f) * per_block s.items) c.args.s.now.population ≤ c.loop-i.i = omega (arith, c.loop-i-test.false, c.slot_count-count.ensures, counted) in
    sym (c.loop-i.invariant.on tells ∙ next_end s (overlay_content o f) c.args.owner c.args.s.now.population c.loop-i.i past)

pub returns-in-Err-clause-causes : goal.returns-in-Err-clause-causes
returns-in-Err-clause-causes g c =
    let s = shape_of c.args.s.now in
    causes_since {U = Option Spot} (BadIn s c.loop-i.over) (BadIn s c.args.over.now) (Err c.in-Err.e) c.args.over.now c.loop-i.over c.owned_at.new.over (bad_since s c.args.over.now c.loop-i.over c.loop-i.invariant.reads) c.loop-i.invariant.faults c.loop-i.invariant.reads c.in-Err.ensures.causes
