use Rattle.std.proofs.Common.{◌∙◌, arith}
use Rattle.std.proofs.lemmas.Result.{IfOk-weaker}
use Rattle.dms_ordlist.specs.Looks.{last_taken}
use Rattle.dms_ordlist.proofs.finding.last_of.Goals as goal

pub returns : goal.returns
returns c = IfOk-weaker c.entry_at.result _ _ (λ o h. h ∙ last_taken c.args.entries.now c.args.count (omega (arith, c.if-count-eq0.false)) c.requires) c.entry_at.ensures
