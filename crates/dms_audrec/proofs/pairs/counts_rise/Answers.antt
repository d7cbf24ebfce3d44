use Rattle.std.proofs.Common.{◌≡◌, ◌+◌, ◌/◌, ◌-◌, length, ℕ, ◌∙◌, inl, inr, arith, length-drop, ap}
use Rattle.dms_audrec.specs.Reading.{counts_at}
use Rattle.dms_audrec.specs.Spelling.{counts_rise}
use Rattle.dms_audrec.proofs.Rising.{counts_step, counts_stop, counts_end}
use Rattle.dms_audrec.proofs.pairs.counts_rise.Goals as goal
use Rattle.dms_audrec.proofs.pairs.counts_rise.Goals.{then-file-low-via-then-file-low, then-file-low-via-else-file-low+then-file-gt30200, then-file-low-via-else-file-low+else-file-gt30200+then-blocks-gt2097152}

pub returns-then-file-low : goal.returns-then-file-low
returns-then-file-low c =
    let p = c.pair_at-file in
    counts_stop c.loop-pair.rest.now p.result.0 p.result.1 p.ensures.one p.ensures.two _ c.loop-pair.low (omega (arith, c.loop-pair-test.true)) (elim c.then-file-low.branch [
      | then-file-low-via-then-file-low w ↦ inl w.if-file-low.true
      | then-file-low-via-else-file-low+then-file-gt30200 w ↦ inr (inl w.if-file-gt30200.true)
      | then-file-low-via-else-file-low+else-file-gt30200+then-blocks-gt2097152 w ↦ inr (inr w.if-blocks-gt2097152.true)
    ]) ∙ c.loop-pair.invariant.same

pub loop-pair-preserved : goal.loop-pair-preserved
loop-pair-preserved c =
    let p = c.pair_at-file in
    let k : ℕ = length c.args.list.now / 8 - c.loop-pair._pair in
    let e : length c.args.list.now / 8 - (c.loop-pair._pair + 1) ≡ k - 1 = omega arith in
    record {
      long = omega (arith, c.loop-pair.invariant.long, ap length p.ensures.rest, length-drop 8 c.loop-pair.rest.now, c.loop-pair-test.true);
      same = (λ i. counts_rise (p.result.0 + 1) (counts_at (e i) (p.ensures.rest i)))
          ∙ counts_step c.loop-pair.rest.now p.result.0 p.result.1 p.ensures.one p.ensures.two k c.loop-pair.low (omega (arith, c.loop-pair-test.true)) c.if-file-low.false c.if-file-gt30200.false c.if-blocks-gt2097152.false
          ∙ c.loop-pair.invariant.same;
    }

pub returns : goal.returns
returns c = counts_end _ c.loop-pair.low c.loop-pair.rest.now (omega (arith, c.loop-pair-test.false)) ∙ c.loop-pair.invariant.same
