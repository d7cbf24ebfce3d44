use Rattle.std.proofs.Common.{refl, arith}
use Rattle.dms_audrec.proofs.Laid.{laid_more}
use Rattle.dms_audrec.proofs.writing.put_quiet.Goals as goal

pub returns : goal.returns
returns c =
    laid_more 1 8 _ _ _ _ _ c.put_u64.ensures (c.put_u8.ensures) refl refl (omega (arith, c.requires))
