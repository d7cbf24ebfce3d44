use Rattle.std.proofs.Common.{◌∙◌, ◌+◌, ◌++◌, [], ◌∷◌, ap, List, ℕ, arith}
use Rattle.dms_audfile.specs.Gates.{blocks_from}
use Rattle.dms_audfile.proofs.Laying.{blocks_laid}
use Rattle.dms_audfile.proofs.bytes.fill_group.Goals as goal

pub returns : goal.returns
returns c =
    ap (blocks_from (c.args.full + 1) 0) c.put_bytes.ensures
    ∙ blocks_laid c.args.full c.finish.new.block c.args.group.now (omega (arith, c.finish.auto.block, c.requires.size)) c.requires.room
    ∙ ap (λ (l : List ℕ). blocks_from c.args.full 0 c.args.group.now ++ l ∷ []) c.finish.ensures
