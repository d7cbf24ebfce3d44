use Rattle.std.proofs.Common.{◌/◌, refl, ◌≡◌, ◌<◌, ◌≤◌, ◌+◌, ◌*◌, ◌∙◌, [], length, ap, arith, get_or, Ok}
use Rattle.dms_desc.specs.Shape.{shape_of}
use Rattle.dms_block.specs.Changing.{grown_is}
use Rattle.dms_block.specs.Content.{Content, apply_changes}
use Rattle.dms_block.specs.HeldLaws.{looks_as, looks_more, looks_none, looks_on, told_after}
use Rattle.dms_block.specs.View.{overlay_content, seen_counts, under, overlay_changes}
use Rattle.dms_desc.specs.Files.{file_of}
use Rattle.std.proofs.Math.Nat as nat
use Rattle.dms_slots.specs.Seen.{count_of}
use Rattle.dms_slots.specs.SlotBlocks.{slots_in, before_free, within}
use Rattle.dms_slots.specs.SlotBlockLaws.{least_from, least_on, least_here, least_behind, place_low, some_weaker}
use Rattle.dms_slots.proofs.finding.next_free.Goals as goal

pub returns-then-here-per-clause-least : goal.returns-then-here-per-clause-least
returns-then-here-per-clause-least g c tells known =
    let b = c.args.b.now in
    let f = file_of c.args.s.now.number in
    let r = c.loop-i.invariant.reads in
    let counted = grown_is (overlay_changes b) (under b).owns (under b).counts (under b).content ((g.met.B.Blocks.agrees b.below c.requires.sound).counted tells) b.fits f in
    let here = ap (seen_counts b) c.file_of.ensures in
    let low : c.loop-i.i < length (overlay_content b f) = omega (arith, counted, here, c.count-count.ensures, c.loop-i-test.true) in
    let still : overlay_content c.loop-i.b ≡ overlay_content b = λ i. apply_changes (r.written_still i) (r.looks.same.content tells i) in
    let taken = c.in_ok-here.ensures.taken (told_after r.looks.passes.lasts tells) ∙ ap (λ (x : Content). before_free (slots_in (shape_of c.args.s.now) (get_or (x f) c.loop-i.i []))) still in
    let all = least_here (shape_of c.args.s.now) (overlay_content b f) c.loop-i.i c.per_block-per.result c.in_ok-here.here _ low c.per_block-per.ensures.count taken c.if-here-per.true (c.loop-i.invariant.used tells known) in
    c.within.ensures.is ∙ ap (within c.args.s.now.population) (omega (arith, all, ap (λ k. k * c.per_block-per.result) c.from.ensures))

pub loop-i-preserved : goal.loop-i-preserved
loop-i-preserved g c =
    let b = c.args.b.now in
    let f = file_of c.args.s.now.number in
    let r = c.loop-i.invariant.reads in
    record {
      reads = record {
        written_still = c.in_ok-here.ensures.reads.written_still ∙ r.written_still;
        looks = looks_as (Ok 0) tt (looks_on (Ok c.in_ok-here.here) r.looks c.in_ok-here.ensures.reads.looks);
        same = g.met.B.Blocks.same_then _ _ _ r.same c.in_ok-here.ensures.reads.same;
      };
      faults = c.in_ok-here.ensures.causes ∙ c.loop-i.invariant.faults;
      used = λ tells known.
          let counted = grown_is (overlay_changes b) (under b).owns (under b).counts (under b).content ((g.met.B.Blocks.agrees b.below c.requires.sound).counted tells) b.fits f in
          let here = ap (seen_counts b) c.file_of.ensures in
          let low : c.loop-i.i < length (overlay_content b f) = omega (arith, counted, here, c.count-count.ensures, c.loop-i-test.true) in
          let still : overlay_content c.loop-i.b ≡ overlay_content b = λ i. apply_changes (r.written_still i) (r.looks.same.content tells i) in
          let taken = c.in_ok-here.ensures.taken (told_after r.looks.passes.lasts tells) ∙ ap (λ (x : Content). before_free (slots_in (shape_of c.args.s.now) (get_or (x f) c.loop-i.i []))) still in
          least_on (shape_of c.args.s.now) (overlay_content b f) c.loop-i.i c.per_block-per.result c.in_ok-here.here _ low c.per_block-per.ensures.count taken c.if-here-per.false (omega (arith, c.in_ok-here.ensures.most, c.per_block-per.ensures.count)) (c.loop-i.invariant.used tells known);
    }

pub returns-clause-least : goal.returns-clause-least
returns-clause-least g c tells known =
    let b = c.args.b.now in
    let f = file_of c.args.s.now.number in
    let counted = grown_is (overlay_changes b) (under b).owns (under b).counts (under b).content ((g.met.B.Blocks.agrees b.below c.requires.sound).counted tells) b.fits f in
    let here = ap (seen_counts b) c.file_of.ensures in
    let past : length (overlay_content b f) ≤ c.loop-i.i = omega (arith, counted, here, c.count-count.ensures, c.loop-i-test.false) in
    let all = least_behind (shape_of c.args.s.now) (overlay_content b f) c.loop-i.i c.per_block-per.result _ past (c.loop-i.invariant.used tells known) in
    let at_end : c.from-2.result ≡ c.loop-i.i = omega (arith, c.from-2.ensures, c.loop-i-test.false, c.loop-i.auto.i-end) in
    c.within-2.ensures.is ∙ ap (within c.args.s.now.population) (omega (arith, all, ap (λ k. k * c.per_block-per.result) at_end))

pub returns-then-here-per-clause-place : goal.returns-then-here-per-clause-place
returns-then-here-per-clause-place g c =
    let b = c.args.b.now in
    let counts = seen_counts b (file_of c.args.s.now.number) in
    let here = ap (seen_counts b) c.file_of.ensures in
    let some : 0 < c.per_block-per.result = omega (arith, c.if-here-per.true) in
    let le : c.from.result ≤ counts = omega (arith, here, c.count-count.ensures, c.loop-i-test.true, c.from.ensures) in
    some_weaker c.within.result _ _ (λ n is. ((let low : 1 ≤ n = omega (arith, is.0) in low), is.1, place_low c.args.s.now.items c.from.result c.per_block-per.result c.in_ok-here.here n counts c.per_block-per.ensures.count some c.if-here-per.true is.0 le)) c.within.ensures.some

pub returns-clause-place : goal.returns-clause-place
returns-clause-place g c =
    let b = c.args.b.now in
    let counts = seen_counts b (file_of c.args.s.now.number) in
    let here = ap (seen_counts b) c.file_of.ensures in
    let some : 0 < c.per_block-per.result = c.per_block-per.ensures.some c.requires.fits in
    let le : c.from-2.result ≤ counts = omega (arith, here, c.count-count.ensures, c.from-2.ensures) in
    some_weaker c.within-2.result _ _ (λ n is. ((let low : 1 ≤ n = omega (arith, is.0) in low), is.1, place_low c.args.s.now.items c.from-2.result c.per_block-per.result 0 n counts c.per_block-per.ensures.count some some (let e : n ≡ c.from-2.result * c.per_block-per.result + 0 + 1 = omega (arith, is.0) in e) le)) c.within-2.ensures.some

pub loop-i-init : goal.loop-i-init
loop-i-init g c =
    let b = c.args.b.now in
    let f = file_of c.args.s.now.number in
    let start = c.full_blocks-i.result in
    record {
      reads = record { written_still = refl; looks = looks_none start (Ok 0) (under b) tt c.requires.sound; same = g.met.B.Blocks.same_again b.below };
      faults = refl;
      used = λ tells known.
          let counted = grown_is (overlay_changes b) (under b).owns (under b).counts (under b).content ((g.met.B.Blocks.agrees b.below c.requires.sound).counted tells) b.fits f in
          let here = ap (seen_counts b) c.file_of.ensures in
          let within : start ≤ length (overlay_content b f) = omega (arith, counted, here, c.count-count.ensures, c.full_blocks-i.ensures) in
          let some : 0 < c.per_block-per.result = c.per_block-per.ensures.some c.requires.fits in
          let low : start ≤ c.args.taken / c.per_block-per.result = omega (arith, c.full_blocks-i.ensures) in
          let filled : start * c.per_block-per.result ≤ c.args.taken = (nat.le-div_iff_mul-le some).0 low in
          least_from (shape_of c.args.s.now) (overlay_content b f) start c.per_block-per.result c.per_block-per.ensures.count within (omega (arith, filled, known));
    }

pub returns-then-here-per-clause-reads : goal.returns-then-here-per-clause-reads
returns-then-here-per-clause-reads g c =
    let r = c.loop-i.invariant.reads in
    let last = c.in_ok-here.ensures.reads in
    record {
      written_still = last.written_still ∙ r.written_still;
      looks = looks_more (count_of (shape_of c.args.s.now) c.args.b.now) (omega (arith, ap (seen_counts c.args.b.now) c.file_of.ensures, c.count-count.ensures, c.loop-i-test.true)) (looks_on (Ok c.within.result) r.looks (looks_as (Ok c.within.result) tt last.looks));
      same = g.met.B.Blocks.same_then _ _ _ r.same last.same;
    }
