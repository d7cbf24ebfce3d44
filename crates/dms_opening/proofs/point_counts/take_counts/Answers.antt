use Rattle.std.proofs.Common.{inl, inr, ◌∙◌, ◌≡◌, ℕ, ◌+◌, ◌-◌, ◌/◌, length, sym, ap, subst, arith, length-drop}
use Rattle.std.specs.Prelude.{slice_set}
use Rattle.dms_audrec.specs.Reading.{counts_at}
use Rattle.dms_audrec.specs.Spelling.{counts_rise}
use Rattle.dms_opening.proofs.Counted.{CountsTaken, taken_more, taken_all, rises_on, rises_not}
use Rattle.dms_opening.proofs.point_counts.take_counts.Goals as goal
use Rattle.dms_opening.proofs.point_counts.take_counts.Goals.{then-file-low-via-then-file-low, then-file-low-via-else-file-low+then-file-gt30200, then-file-low-via-else-file-low+else-file-gt30200+then-blocks-gt2097152}
use Rattle.dms_audrec.proofs.Rising.{counts_end}

pub loop-pair-preserved : goal.loop-pair-preserved
loop-pair-preserved c =
    let p = c.pair_at-file in
    let n : ℕ = length c.args.list.now / 8 in
    let k : ℕ = n - c.loop-pair._pair in
    let e : n - (c.loop-pair._pair + 1) ≡ k - 1 = omega arith in
    let size : length c.loop-pair.counts ≡ 200 = omega (arith, c.requires, c.loop-pair.auto.counts, c.clear.auto.counts) in
    record {
      rises = (λ i. counts_rise (p.result.0 + 1) (counts_at (e i) (p.ensures.rest i)))
          ∙ rises_on c.loop-pair.rest.now p.result.0 p.result.1 p.ensures.one p.ensures.two k c.loop-pair.low (omega (arith, c.loop-pair-test.true)) c.if-file-low.false c.if-file-gt30200.false c.if-blocks-gt2097152.false
          ∙ c.loop-pair.invariant.rises;
      long = omega (arith, c.loop-pair.invariant.long, ap length p.ensures.rest, length-drop 8 c.loop-pair.rest.now, c.loop-pair-test.true);
      taken = subst (λ j. CountsTaken c.args.list.now p.result.2.now n j (p.result.0 + 1) (slice_set c.loop-pair.counts (p.result.0 - 30001) p.result.1)) (sym e)
          (taken_more c.args.list.now c.loop-pair.rest.now p.result.2.now n k c.loop-pair.low p.result.0 p.result.1 c.loop-pair.counts size (omega (arith, c.loop-pair-test.true)) p.ensures.one p.ensures.two p.ensures.rest
          c.if-file-low.false c.if-file-gt30200.false c.if-blocks-gt2097152.false c.loop-pair.invariant.taken);
    }

pub returns-clause-counts : goal.returns-clause-counts
returns-clause-counts c yes_is f =
    taken_all c.args.list.now c.loop-pair.rest.now (length c.args.list.now / 8) (length c.args.list.now / 8 - c.loop-pair._pair) c.loop-pair.low c.loop-pair.counts (omega (arith, c.loop-pair-test.false)) c.loop-pair.invariant.taken f

pub returns-then-file-low-clause-rises : goal.returns-then-file-low-clause-rises
returns-then-file-low-clause-rises c =
    let p = c.pair_at-file in
    rises_not c.loop-pair.rest.now p.result.0 p.result.1 p.ensures.one p.ensures.two _ c.loop-pair.low (omega (arith, c.loop-pair-test.true)) (elim c.then-file-low.branch [
      | then-file-low-via-then-file-low w ↦ inl w.if-file-low.true
      | then-file-low-via-else-file-low+then-file-gt30200 w ↦ inr (inl w.if-file-gt30200.true)
      | then-file-low-via-else-file-low+else-file-gt30200+then-blocks-gt2097152 w ↦ inr (inr w.if-blocks-gt2097152.true)
    ]) ∙ c.loop-pair.invariant.rises

pub returns-clause-rises : goal.returns-clause-rises
returns-clause-rises c = counts_end _ c.loop-pair.low c.loop-pair.rest.now (omega (arith, c.loop-pair-test.false)) ∙ c.loop-pair.invariant.rises
