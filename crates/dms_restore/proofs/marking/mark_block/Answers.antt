use Rattle.std.proofs.Common.{refl}
use Rattle.dms_restore.proofs.Marked.{marked_set, bare_set}
use Rattle.dms_restore.proofs.marking.mark_block.Goals as goal

pub returns-in_ok-insert-clause-bare : goal.returns-in_ok-insert-clause-bare
returns-in_ok-insert-clause-bare c = bare_set c.args.spots.now c.insert.new.self c.args.file c.args.block _ (λ f b. c.in_ok-insert.ensures.updates.0 (f, b)) refl c.requires

pub returns-in_ok-insert-clause-marks : goal.returns-in_ok-insert-clause-marks
returns-in_ok-insert-clause-marks c = marked_set c.args.spots.now c.insert.new.self c.args.file c.args.block _ (λ f b. c.in_ok-insert.ensures.updates.0 (f, b))
