use Rattle.std.proofs.Common.{◌≡◌, ◌≤◌, ◌+◌, ◌*◌, ◌-◌, ◌^◌, ◌∙◌, sym, get_or, ap, drop, arith, rules}
use Rattle.dms_statements.specs.Statements.{digits_value}
use Rattle.dms_statements.proofs.LongNumbers.{value_step, value_past, value_whole}
use Rattle.dms_statements.proofs.digits.digits_value.Goals as goal

pub returns-in-None : goal.returns-in-None
returns-in-None c =
    let past : 2 ^ 64 ≤ 10 * c.loop-i.value = search rules in
    value_past c.loop-i.value _ c.args.count c.loop-i.i c.args.bytes.now c.loop-i-test.true c.requires c.loop-i.invariant.is (omega (arith, past))

pub returns-in-None-checked_add : goal.returns-in-None-checked_add
returns-in-None-checked_add c =
    let ten : c.in-Some.tenfold ≡ 10 * c.loop-i.value = search rules in
    let past : 2 ^ 64 ≤ c.in-Some.tenfold + (get_or c.args.bytes.now c.loop-i.i 0 - 48) = search rules in
    value_past c.loop-i.value _ c.args.count c.loop-i.i c.args.bytes.now c.loop-i-test.true c.requires c.loop-i.invariant.is (omega (arith, past, ten))

pub loop-i-preserved : goal.loop-i-preserved
loop-i-preserved c =
    let ten : c.in-Some.tenfold ≡ 10 * c.loop-i.value = search rules in
    let next : c.in-Some-checked_add.next ≡ c.in-Some.tenfold + (get_or c.args.bytes.now c.loop-i.i 0 - 48) = search rules in
    let same : c.in-Some-checked_add.next ≡ 10 * c.loop-i.value + (get_or c.args.bytes.now c.loop-i.i 0 - 48) = omega (arith, ten, next) in
    record {
      is = ap (λ v. digits_value v (c.args.count - (c.loop-i.i + 1)) (drop (c.loop-i.i + 1) c.args.bytes.now)) same
          ∙ sym (value_step c.loop-i.value c.args.count c.loop-i.i c.args.bytes.now c.loop-i-test.true c.requires) ∙ c.loop-i.invariant.is;
      small = search rules;
    }

pub returns : goal.returns
returns c = value_whole c.loop-i.value _ c.args.count c.loop-i.i c.args.bytes.now (omega (arith, c.loop-i-test.false)) c.loop-i.invariant.is c.loop-i.invariant.small
