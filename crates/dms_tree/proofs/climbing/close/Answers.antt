use Rattle.std.proofs.Common.{◌≡◌, length}
use Rattle.std.proofs.lemmas.Result.{on_ok_weaker}
use Rattle.dms_tree.specs.Climbs.{Closes, closes_by}
use Rattle.dms_tree.proofs.climbing.close.Goals as goal

pub returns-clause-closes : goal.returns-clause-closes
returns-clause-closes g c = on_ok_weaker c.fill_last.result (λ e. closes_by c.args.over.now c.fill_last.new.over c.args.file c.args.gap.now e) c.fill_last.ensures.ends
