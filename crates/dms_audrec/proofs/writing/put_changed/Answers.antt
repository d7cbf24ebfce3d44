use Rattle.std.proofs.Common.{refl, arith}
use Rattle.dms_audrec.proofs.Laid.{laid_more}
use Rattle.dms_audrec.proofs.writing.put_changed.Goals as goal

pub returns : goal.returns
returns c =
    laid_more 1034 _ _ _ _ _ _ c.put_bytes-2.ensures (laid_more 10 _ _ _ _ _ _ c.put_bytes.ensures (laid_more 9 1 _ _ _ _ _ c.put_u8-2.ensures (laid_more 5 4 _ _ _ _ _ c.put_u32-2.ensures (laid_more 1 4 _ _ _ _ _ c.put_u32.ensures (c.put_u8.ensures) refl refl (omega (arith, c.requires.room))) refl refl (omega (arith, c.requires.room))) refl refl (omega (arith, c.requires.room))) refl refl (omega (arith, c.requires.room, c.requires.size))) (omega (arith, c.requires.size)) refl (omega (arith, c.requires.room))
