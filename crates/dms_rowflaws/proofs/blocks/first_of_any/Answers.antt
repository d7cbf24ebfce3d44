use Rattle.std.proofs.Common.{◌∙◌, sym, arith}
use Rattle.dms_rowflaws.proofs.Shaping.{none_unowned, some_unowned}
use Rattle.dms_rowflaws.proofs.blocks.first_of_any.Goals as goal

pub returns-then-count-eq0 : goal.returns-then-count-eq0
returns-then-count-eq0 c bs size = none_unowned bs (sym size ∙ c.if-count-eq0.true)

pub returns : goal.returns
returns c bs size = some_unowned bs (λ e. absurd (omega (arith, e, size, c.if-count-eq0.false)))
