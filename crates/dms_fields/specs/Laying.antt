-- Fields that are written one behind another.
use Rattle.std.proofs.Common.{◌≡◌, ℕ, ◌+◌, ◌≤◌, List, ◌++◌, length, take, drop, sym, arith, length-append, length-take, length-drop, ◌∙◌}
use Rattle.std.proofs.lemmas.List.{ext_get_or, places}
use Rattle.dms_fields.specs.Fields.{lay_bytes}

-- what was written over other bytes is as long as they were
pub laid_length : (at : ℕ) (bytes old : List ℕ) → at + length bytes ≤ length old → length (lay_bytes at bytes old) ≡ length old
unfolding lay_bytes
laid_length at bytes old room =
    omega (arith, room, length-append (take at old) (bytes ++ drop (at + length bytes) old), length-append bytes (drop (at + length bytes) old), length-take at old, length-drop (at + length bytes) old)

-- two fields, one behind the other, are one
pub laid_on : (at next : ℕ) (first then old : List ℕ) → next ≡ at + length first → next + length then ≤ length old
    → lay_bytes next then (lay_bytes at first old) ≡ lay_bytes at (first ++ then) old
unfolding lay_bytes
laid_on at next first then old is room =
    ext_get_or 0 (lay_bytes next then (lay_bytes at first old)) (lay_bytes at (first ++ then) old)
    (laid_length next then (lay_bytes at first old) (omega (arith, room, laid_length at first old (omega (arith, is, room)))) ∙ laid_length at first old (omega (arith, is, room))
    ∙ sym (laid_length at (first ++ then) old (omega (arith, is, room, length-append first then))))
    (λ k h. grind (arith, places, is, room, h))

-- what was written over all that stood there
pub laid_whole : (bytes old : List ℕ) → length bytes ≡ length old → lay_bytes 0 bytes old ≡ bytes
unfolding lay_bytes
laid_whole bytes old size = ext_get_or 0 (lay_bytes 0 bytes old) bytes (laid_length 0 bytes old (omega (arith, size)) ∙ sym size) (λ k h. grind (arith, places, size, h))
