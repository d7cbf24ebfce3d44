use Rattle.std.proofs.Common.{◌<◌, ◌∙◌, ap, length, add-one, arith}
use Rattle.dms_plain.proofs.Correcting.{correct_length, correct_turn}
use Rattle.dms_plain.proofs.removal.correct.Goals as goal

pub loop-k-preserved : goal.loop-k-preserved
loop-k-preserved c =
    let items = c.args.items.now in
    let k = c.loop-k.k in
    let vs = c.loop-k.values in
    let lt : k < length vs = omega (arith, c.loop-k.invariant.count, c.loop-k-test.true) in
    record {
      count = ap length c.correct_value.ensures ∙ correct_length c.args.to c.args.number k items vs ∙ c.loop-k.invariant.count;
      rest = correct_turn c.args.to c.args.number k _ items vs c.correct_value.new.values (add-one k) lt c.correct_value.ensures ∙ c.loop-k.invariant.rest;
    }
