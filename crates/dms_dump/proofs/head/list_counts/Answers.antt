use Rattle.std.proofs.Common.{ℕ, ◌≡◌, ◌+◌, ◌-◌, ◌/◌, ◌++◌, ◌∷◌, [], sym, ◌∙◌, ap, length, length-drop, arith, rules}
use Rattle.dms_history.specs.declared.event.FileCount.{FileCount}
use Rattle.dms_audrec.specs.Reading.{counts_at}
use Rattle.dms_dump.proofs.Heads.{counts_cons, counts_none}
use Rattle.dms_dump.proofs.head.list_counts.Goals as goal

pub loop-pair-preserved : goal.loop-pair-preserved
loop-pair-preserved c =
    let p = c.pair_at-file in
    let inv = c.loop-pair.invariant in
    let k : ℕ = length c.args.list.now / 8 - c.loop-pair._pair in
    let e : length c.args.list.now / 8 - (c.loop-pair._pair + 1) ≡ k - 1 = omega arith in
    let x : FileCount = record { file = p.result.0; blocks = p.result.1 } in
    let pushed : c.push.new.self.items ≡ c.loop-pair.counts.items ++ x ∷ [] = search rules in
    record {
      left = omega (arith, inv.left, ap length p.ensures.rest, length-drop 8 c.loop-pair.rest.now, c.loop-pair-test.true);
      done = (λ i. pushed i ++ counts_at (e i) (p.ensures.rest i)) ∙ counts_cons k c.loop-pair.rest.now x c.loop-pair.counts.items (omega (arith, c.loop-pair-test.true)) p.ensures.one p.ensures.two ∙ inv.done;
    }

pub returns : goal.returns
returns c = sym (counts_none _ c.loop-pair.rest.now c.loop-pair.counts.items (omega (arith, c.loop-pair-test.false))) ∙ c.loop-pair.invariant.done
