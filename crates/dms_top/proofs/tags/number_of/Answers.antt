use Rattle.std.proofs.Common.{◌≡◌, ◌+◌, ◌-◌, ◌*◌, ◌^◌, ◌≤◌, ◌∙◌, ap, sym, refl, drop, get_or, ℕ, arith}
use Rattle.dms_top.specs.Words.{number_behind}
use Rattle.dms_top.proofs.Digits.{digits_low, digits_high, digits_large, digits_step, digits_end}
use Rattle.dms_top.proofs.tags.number_of.Goals as goal

pub returns-then-digit-lt48 : goal.returns-then-digit-lt48
returns-then-digit-lt48 c = sym (digits_low c.loop-byte.number c.loop-byte.byte-index _ c.args.digits.now c.loop-byte-test.true refl c.if-digit-lt48.true) ∙ c.loop-byte.invariant.so_far

pub returns-then-digit-gt57 : goal.returns-then-digit-gt57
returns-then-digit-gt57 c = sym (digits_high c.loop-byte.number c.loop-byte.byte-index _ c.args.digits.now c.loop-byte-test.true refl c.if-digit-gt57.true) ∙ c.loop-byte.invariant.so_far

pub returns-then-next-gt18446744073709551615 : goal.returns-then-next-gt18446744073709551615
returns-then-next-gt18446744073709551615 c =
    let b : ℕ = get_or c.args.digits.now c.loop-byte.byte-index 0 in
    let far : 2 ^ 64 ≤ c.loop-byte.number * 10 + (b - 48) = omega (arith, c.if-next-gt18446744073709551615.true, c.from.ensures, c.from-in-loop-byte.ensures) in
    sym (digits_large c.loop-byte.number c.loop-byte.byte-index b c.args.digits.now c.loop-byte-test.true refl far) ∙ c.loop-byte.invariant.so_far

pub loop-byte-preserved : goal.loop-byte-preserved
loop-byte-preserved c =
    let b : ℕ = get_or c.args.digits.now c.loop-byte.byte-index 0 in
    let next : c.from.result * 10 + c.from-in-loop-byte.result ≡ c.loop-byte.number * 10 + (b - 48) = (λ j. c.from.ensures j * 10 + c.from-in-loop-byte.ensures j) in
    record {
      small = omega (arith, c.if-next-gt18446744073709551615.false);
      so_far = ap (λ k. number_behind k (drop (c.loop-byte.byte-index + 1) c.args.digits.now)) next
          ∙ digits_step c.loop-byte.number c.loop-byte.byte-index b c.args.digits.now c.loop-byte-test.true refl c.if-digit-lt48.false c.if-digit-gt57.false
          ∙ c.loop-byte.invariant.so_far;
    }

pub returns : goal.returns
returns c = sym (digits_end c.loop-byte.number c.loop-byte.byte-index c.args.digits.now c.loop-byte-test.false c.loop-byte.invariant.small) ∙ c.loop-byte.invariant.so_far
