use Rattle.std.proofs.Common.{ℕ, ◌≡◌, ◌+◌, ◌-◌, ◌/◌, ◌++◌, ◌∷◌, [], sym, ◌∙◌, ap, length, length-drop, arith, rules}
use Rattle.dms_history.specs.declared.event.Row.{Row}
use Rattle.dms_audrec.specs.Reading.{rows_at}
use Rattle.dms_restore.proofs.Rows.{rows_cons, rows_none}
use Rattle.dms_restore.proofs.tracing.rows_at.Goals as goal

pub loop-pair-preserved : goal.loop-pair-preserved
loop-pair-preserved c =
    let p = c.pair_at-file in
    let inv = c.loop-pair.invariant in
    let k : ℕ = length c.args.list.now / 8 - c.loop-pair._pair in
    let e : length c.args.list.now / 8 - (c.loop-pair._pair + 1) ≡ k - 1 = omega arith in
    let x : Row = record { file = p.result.0; row = p.result.1 } in
    let pushed : c.push.new.self.items ≡ c.loop-pair.rows.items ++ x ∷ [] = search rules in
    record {
      left = omega (arith, inv.left, ap length p.ensures.rest, length-drop 8 c.loop-pair.rest.now, c.loop-pair-test.true);
      done = (λ i. pushed i ++ rows_at (e i) (p.ensures.rest i)) ∙ rows_cons k c.loop-pair.rest.now x c.loop-pair.rows.items (omega (arith, c.loop-pair-test.true)) p.ensures.one p.ensures.two ∙ inv.done;
    }

pub returns : goal.returns
returns c = sym (rows_none _ c.loop-pair.rest.now c.loop-pair.rows.items (omega (arith, c.loop-pair-test.false))) ∙ c.loop-pair.invariant.done
