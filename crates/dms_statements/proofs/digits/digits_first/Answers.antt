use Rattle.std.proofs.Common.{◌≡◌, true, false, get_or, arith, rules}
use Rattle.dms_base.specs.Words.{is_digit}
use Rattle.dms_statements.proofs.LongNumbers.{digits_step, digits_stop, digits_end}
use Rattle.dms_statements.proofs.digits.digits_first.Goals as goal

pub loop-i-preserved : goal.loop-i-preserved
loop-i-preserved c =
    let is : is_digit (get_or c.args.bytes.now c.loop-i.i 0) ≡ true = search rules in
    omega (arith, c.loop-i.invariant, digits_step c.args.bytes.now c.loop-i.i c.loop-i-test.true is)

pub returns-then-not-is_digit-clause-is : goal.returns-then-not-is_digit-clause-is
returns-then-not-is_digit-clause-is c =
    let is : is_digit (get_or c.args.bytes.now c.loop-i.i 0) ≡ false = search rules in
    omega (arith, c.loop-i.invariant, digits_stop c.args.bytes.now c.loop-i.i c.loop-i-test.true is)

pub returns-clause-is : goal.returns-clause-is
returns-clause-is c = omega (arith, c.loop-i.invariant, digits_end c.args.bytes.now c.loop-i.i (omega (arith, c.loop-i-test.false)))
