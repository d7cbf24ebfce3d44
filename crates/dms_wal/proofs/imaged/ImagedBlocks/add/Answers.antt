use Rattle.std.proofs.Common.{◌∙◌, true, cond, refl, ap}
use Rattle.dms_history.specs.Images.{is_at}
use Rattle.dms_pool.specs.declared.frame.FrameKey.{FrameKey}
use Rattle.dms_pool.specs.Entries.{same_key}
use Rattle.dms_wal.specs.ImagedSets.{has_block}
use Rattle.dms_wal.proofs.Imaging.{done_is, one_or}
use Rattle.dms_wal.proofs.imaged.ImagedBlocks.add.Goals as goal

pub returns-clause-added : goal.returns-clause-added
returns-clause-added c = (
  λ f b.
      let q : FrameKey = record { file = f; block = b } in
      (done_is c.insert-added.result (c.insert-added.ensures.succeeds c.requires) c.insert-added.ensures.updates).0 q
      ∙ ap (λ (key : FrameKey). cond (same_key key q) true (has_block c.args.self.now f b)) c.of.ensures ∙ one_or (is_at f b c.args.id.file c.args.id.block) (has_block c.args.self.now f b),
  (refl, refl),
)
