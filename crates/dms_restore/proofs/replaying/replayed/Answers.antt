use Rattle.std.proofs.Common.{sym, ◌∙◌, ap}
use Rattle.dms_restore.specs.Named.{told_noted}
use Rattle.dms_restore.proofs.Replayed.{all_is_front, no_rows}
use Rattle.dms_restore.proofs.Results.{some_if_ok}
use Rattle.dms_restore.proofs.replaying.replayed.Goals as goal

pub returns-clause-tells : goal.returns-clause-tells
returns-clause-tells c = some_if_ok c.replayed_from.result c.replayed_from.ensures.tells (λ v tells files whole of_rows f b.
    tells files whole f b ∙ ap told_noted (all_is_front files c.args.rows.now of_rows c.args.of_others c.args.front.now c.args.behind.now f b (no_rows c.args.rows.now c.if-not-is_empty.ensures) (sym c.if-has_change.ensures)))
