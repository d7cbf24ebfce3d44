use Rattle.std.proofs.Common.{◌∙◌, ◌*◌, ◌/◌, ap, refl, arith, ℕ, List, length, length-take}
use Rattle.dms_fields.specs.Fields.{lay_bytes}
use Rattle.dms_audrec.proofs.Laid.{laid_more, control_is}
use Rattle.dms_audrec.proofs.writing.put_control.Goals as goal

pub returns : goal.returns
returns c =
    let list = c.args.list.now in
    laid_more 19 (8 * (length list / 8)) _ _ _ _ _ c.put_bytes.ensures (laid_more 17 2 _ _ _ _ _ c.put_u16.ensures (laid_more 9 8 _ _ _ _ _ c.put_u64-2.ensures (laid_more 1 8 _ _ _ _ _ c.put_u64.ensures (c.put_u8.ensures) refl refl (omega (arith, c.requires.room))) refl refl (omega (arith, c.requires.room))) refl refl (omega (arith, c.requires.room))) refl (omega (arith, length-take (8 * (length list / 8)) list)) (omega (arith, c.requires.room))
    ∙ ap (λ (l : List ℕ). lay_bytes 0 l c.args.to.now) (control_is c.args.n c.args.next list (λ i. omega (arith, c.type_inv.list i)))
