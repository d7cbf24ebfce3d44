use Rattle.std.proofs.Common.{◌≡◌, ◌+◌, ◌*◌, ◌/◌, ◌-◌, ◌^◌, length, ℕ, ◌∙◌, inl, inr, arith, length-drop, ap}
use Rattle.dms_audrec.specs.Reading.{rows_at}
use Rattle.dms_audrec.specs.Spelling.{rows_rise}
use Rattle.dms_audrec.proofs.Rising.{rows_step, rows_stop, rows_end}
use Rattle.dms_audrec.proofs.pairs.rows_rise.Goals as goal
use Rattle.dms_audrec.proofs.pairs.rows_rise.Goals.{then-file-lt30001-via-then-file-lt30001, then-file-lt30001-via-else-file-lt30001+then-file-gt30200, then-file-lt30001-via-else-file-lt30001+else-file-gt30200+then-key-low}

pub returns-then-file-lt30001 : goal.returns-then-file-lt30001
returns-then-file-lt30001 c =
    let p = c.pair_at-file in
    rows_stop c.loop-pair.rest.now p.result.0 p.result.1 p.ensures.one p.ensures.two _ c.loop-pair.low (omega (arith, c.loop-pair-test.true)) (elim c.then-file-lt30001.branch [
      | then-file-lt30001-via-then-file-lt30001 w ↦ inl w.if-file-lt30001.true
      | then-file-lt30001-via-else-file-lt30001+then-file-gt30200 w ↦ inr (inl w.if-file-gt30200.true)
      | then-file-lt30001-via-else-file-lt30001+else-file-gt30200+then-key-low w ↦ inr (inr (omega (arith, w.if-key-low.true, c.from.ensures, c.from-in-loop-pair.ensures)))
    ]) ∙ c.loop-pair.invariant.same

pub loop-pair-preserved : goal.loop-pair-preserved
loop-pair-preserved c =
    let p = c.pair_at-file in
    let k : ℕ = length c.args.list.now / 8 - c.loop-pair._pair in
    let e : length c.args.list.now / 8 - (c.loop-pair._pair + 1) ≡ k - 1 = omega arith in
    let key : c.from.result * 4294967296 + c.from-in-loop-pair.result + 1 ≡ p.result.0 * 2 ^ 32 + p.result.1 + 1 = omega (arith, c.from.ensures, c.from-in-loop-pair.ensures) in
    record {
      long = omega (arith, c.loop-pair.invariant.long, ap length p.ensures.rest, length-drop 8 c.loop-pair.rest.now, c.loop-pair-test.true);
      same = (λ i. rows_rise (key i) (rows_at (e i) (p.ensures.rest i)))
          ∙ rows_step c.loop-pair.rest.now p.result.0 p.result.1 p.ensures.one p.ensures.two k c.loop-pair.low (omega (arith, c.loop-pair-test.true)) c.if-file-lt30001.false c.if-file-gt30200.false (omega (arith, c.if-key-low.false, c.from.ensures, c.from-in-loop-pair.ensures))
          ∙ c.loop-pair.invariant.same;
    }

pub returns : goal.returns
returns c = rows_end _ c.loop-pair.low c.loop-pair.rest.now (omega (arith, c.loop-pair-test.false)) ∙ c.loop-pair.invariant.same
