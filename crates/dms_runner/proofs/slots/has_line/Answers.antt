use Rattle.std.proofs.Common.{◌∙◌, sym, ap, arith}
use Rattle.std.specs.List.{list_any}
use Rattle.std.proofs.lemmas.List.{take_all}
use Rattle.dms_runner.specs.Firsts.{is_at}
use Rattle.dms_runner.proofs.Firsts.{any_at, any_found}
use Rattle.dms_runner.proofs.slots.has_line.Goals as goal

pub returns-then-is_of : goal.returns-then-is_of
returns-then-is_of c =
    sym (any_at (is_at c.args.waiting.now.slots.items c.args.name.now) c.args.waiting.now.firsts.items c.loop-j.j c.index.result.now (omega (arith, c.loop-j-test.true, c.len-j-end.ensures, c.args.waiting.now.firsts.ok.0)) c.index.ensures
    (ap (λ l. is_at l c.args.name.now c.index.result.now) (sym c.as_slice.ensures.value) ∙ sym c.if-is_of.ensures))
    ∙ any_found c.args.waiting.now c.args.name.now c.requires.firsts

pub returns : goal.returns
returns c =
    sym c.loop-j.invariant ∙ ap (list_any (is_at c.args.waiting.now.slots.items c.args.name.now)) (take_all c.loop-j.j c.args.waiting.now.firsts.items (omega (arith, c.loop-j-test.false, c.len-j-end.ensures, c.args.waiting.now.firsts.ok.0)))
    ∙ any_found c.args.waiting.now c.args.name.now c.requires.firsts
