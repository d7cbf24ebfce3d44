use Rattle.dms_opening.specs.Doing.{kind_asked}
use Rattle.dms_restore.proofs.Results.{one_ok}
use Rattle.dms_opening.proofs.Prepared.{traces_new, traces_old}
use Rattle.dms_opening.proofs.preparing.begin_where.Goals as goal

pub returns-then-choice-clause-traces : goal.returns-then-choice-clause-traces
returns-then-choice-clause-traces c = one_ok c.begin_own.result c.begin_own.ensures (λ begin files p t.
    traces_new files t.entries c.args.asked c.args.rows.now c.args.choice.now.begins c.args.choice.now.point c.begin_own.new.history p c.if-choice.true t.done (begin files t.entries t.traced))

pub returns-else-choice-clause-traces : goal.returns-else-choice-clause-traces
returns-else-choice-clause-traces c files p t = traces_old files t.entries c.args.asked c.args.rows.now c.args.choice.now.begins c.args.choice.now.point c.args.history.now p c.if-choice.false t.done t.traced
