use Rattle.std.proofs.Common.{◌+◌, ◌∙◌, ap, sym, arith, drop, take}
use Rattle.dms_audfile.specs.Header.{all_zero}
use Rattle.dms_audfile.proofs.Reading.{wrong_used, wrong_zeros}
use Rattle.dms_audfile.proofs.HeldImages.{holds_wrong, holds_block}
use Rattle.dms_audfile.proofs.holding.block_holds.Goals as goal

pub returns-then-used-gt4094 : goal.returns-then-used-gt4094
returns-then-used-gt4094 c = sym (holds_wrong c.args.file c.args.block c.args.whole.now (wrong_used c.args.whole.now (omega (arith, c.if-used-gt4094.true, c.from-used.ensures, c.used_in.ensures))))

pub returns-then-not-all_zero : goal.returns-then-not-all_zero
returns-then-not-all_zero c =
    let u = c.from-used.ensures ∙ c.used_in.ensures in
    sym (holds_wrong c.args.file c.args.block c.args.whole.now (wrong_zeros c.args.whole.now (ap (λ k. all_zero (drop (2 + k) c.args.whole.now)) (sym u) ∙ ap all_zero (sym c.split_at.ensures.back) ∙ sym c.all_zero.ensures ∙ c.if-not-all_zero.true)))

pub returns : goal.returns
returns c =
    let u = c.from-used.ensures ∙ c.used_in.ensures in
    c.holds_in.ensures
    ∙ holds_block c.args.file c.args.block c.args.whole.now c.split_at-2.result.1.now c.requires (omega (arith, u, c.if-used-gt4094.false))
    (ap (λ k. all_zero (drop (2 + k) c.args.whole.now)) (sym u) ∙ ap all_zero (sym c.split_at.ensures.back) ∙ sym c.all_zero.ensures ∙ c.if-not-all_zero.false)
    (c.split_at-2.ensures.back ∙ ap (drop 2) c.split_at.ensures.front ∙ ap (λ k. drop 2 (take (2 + k) c.args.whole.now)) u)
