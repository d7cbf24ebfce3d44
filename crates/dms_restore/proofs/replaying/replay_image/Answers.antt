use Rattle.std.proofs.Common.{◌++◌, List, ◌∙◌, ap}
use Rattle.dms_restore.specs.declared.told.Told.{Told}
use Rattle.dms_restore.proofs.Replayed.{imaged_more}
use Rattle.dms_restore.proofs.Results.{both_ok}
use Rattle.dms_restore.proofs.replaying.replay_image.Goals as goal

pub returns-in-Ok-clause-replays : goal.returns-in-Ok-clause-replays
returns-in-Ok-clause-replays c = both_ok c.add_told.result c.add_told.ensures.blocks c.add_told.ensures.added (λ blocks added. record {
  blocks = blocks;
  added = added ∙ ap (λ (l : List Told). c.args.table.now.items ++ l) c.image_told.ensures;
  images = imaged_more c.args.imaged.now c.insert.new.self c.args.image.now.file c.args.image.now.block c.in-Ok.ensures.updates.0;
  behind = tt;
})
