use Rattle.std.proofs.Common.{refl, arith}
use Rattle.dms_audrec.proofs.Laid.{laid_more}
use Rattle.dms_audrec.proofs.writing.put_range.Goals as goal

pub returns : goal.returns
returns c =
    laid_more 13 _ _ _ _ _ _ c.put_bytes.ensures (laid_more 11 2 _ _ _ _ _ c.put_u16-2.ensures (laid_more 9 2 _ _ _ _ _ c.put_u16.ensures (laid_more 5 4 _ _ _ _ _ c.put_u32-2.ensures (laid_more 1 4 _ _ _ _ _ c.put_u32.ensures (c.put_u8.ensures) refl refl (omega (arith, c.requires.room))) refl refl (omega (arith, c.requires.room))) refl refl (omega (arith, c.requires.room))) refl refl (omega (arith, c.requires.room))) refl refl (omega (arith, c.requires.room))
