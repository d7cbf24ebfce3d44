use Rattle.std.proofs.Common.{◌∙◌}
use Rattle.std.proofs.lemmas.Result.{IfOk-weaker}
use Rattle.dms_desc_bytes.proofs.Trees.{test_read}
use Rattle.dms_desc_bytes.proofs.parts.+read_cond.Goals as goal

pub returns-then-kind-eq1 : goal.returns-then-kind-eq1
returns-then-kind-eq1 t c = IfOk-weaker c.read_test.result _ _ (λ x read. read ∙ test_read c.args.levels c.byte-kind.result c.byte-kind.new.self c.args.input.now c.if-levels-eq0.false c.byte-kind.ensures c.if-kind-eq1.true) c.read_test.ensures
