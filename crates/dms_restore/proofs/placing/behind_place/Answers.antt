use Rattle.std.proofs.Common.{List, length, sym, ◌∙◌, ap, arith}
use Rattle.dms_history.specs.Ranges.{is_point_logged}
use Rattle.dms_history.proofs.Cuts.{after_none}
use Rattle.dms_restore.specs.declared.live.LiveEntry.{LiveEntry}
use Rattle.dms_restore.specs.LiveEntries.{logged_live}
use Rattle.dms_restore.proofs.RunLoops.{drop_end}
use Rattle.dms_restore.proofs.placing.behind_place.Goals as goal

pub returns-in-None-clause-behind : goal.returns-in-None-clause-behind
returns-in-None-clause-behind c files =
    after_none (is_point_logged c.args.point) (logged_live files c.args.live.now) (c.in-None.ensures.nowhere files)
    ∙ ap (λ (l : List LiveEntry). logged_live files l) (sym (drop_end c.args.live.now (length c.args.live.now) (omega arith)))
