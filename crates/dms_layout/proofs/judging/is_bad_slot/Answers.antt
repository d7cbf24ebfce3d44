use Rattle.std.proofs.Common.{◌≡◌, ◌∙◌, true, false, ap, sym}
use Rattle.std.specs.Prelude.{◌||◌, not}
use Rattle.dms_desc.specs.Shape.{shape_of}
use Rattle.dms_layout.specs.Judging.{bad_read}
use Rattle.dms_layout.specs.Slots.{is_free, is_spelled, slot_in}
use Rattle.dms_layout.proofs.judging.is_bad_slot.Goals as goal

pub returns-then-is_free : goal.returns-then-is_free
returns-then-is_free c =
    let s = shape_of c.args.desc.now in
    let bytes = c.args.bytes.now in
    let free : is_free s.items bytes ≡ true = sym (c.is_free.ensures ∙ ap (λ l. is_free l bytes) c.as_slice.ensures) ∙ c.if-is_free.true in
    sym (ap (λ a. not (a || is_spelled s bytes (slot_in s.items bytes))) free) ∙ bad_read s bytes

pub returns : goal.returns
returns c =
    let s = shape_of c.args.desc.now in
    let bytes = c.args.bytes.now in
    let used : is_free s.items bytes ≡ false = sym (c.is_free.ensures ∙ ap (λ l. is_free l bytes) c.as_slice.ensures) ∙ c.if-is_free.false in
    ap not c.is_used.ensures ∙ sym (ap (λ a. not (a || is_spelled s bytes (slot_in s.items bytes))) used) ∙ bad_read s bytes
