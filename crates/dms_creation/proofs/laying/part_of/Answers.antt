use Rattle.std.proofs.Common.{◌≡◌, ◌+◌, ◌-◌, ◌*◌, ◌∙◌, ap, sym, take, drop, length, length-drop, arith}
use Rattle.std.proofs.lemmas.List.{take_all}
use Rattle.dms_creation.proofs.laying.part_of.Goals as goal

pub returns-then-number-count-clause-part : goal.returns-then-number-count-clause-part
returns-then-number-count-clause-part c =
    let bytes = c.args.bytes.now in
    let rest = drop (4000 * c.args.number) bytes in
    take_all (length bytes - 4000 * c.args.number) rest (omega (arith, length-drop (4000 * c.args.number) bytes)) ∙ sym (take_all 4000 rest (omega (arith, length-drop (4000 * c.args.number) bytes)))

pub returns-else-number-count-clause-part : goal.returns-else-number-count-clause-part
returns-else-number-count-clause-part c =
    let e : 4000 * c.args.number + 4000 - 4000 * c.args.number ≡ 4000 = omega arith in
    ap (λ k. take k (drop (4000 * c.args.number) c.args.bytes.now)) e
