use Rattle.std.proofs.Common.{◌≤◌, List, ℕ, length, drop, take, arith, ap, ◌∙◌, sym, ⊎_elim}
use Rattle.std.proofs.lemmas.List.{length-drop, take_rest}
use Rattle.dms_load.specs.Drawing.{drawing_of}
use Rattle.dms_load.specs.Script.{next_lines}
use Rattle.dms_load.proofs.Taken.{taken, over}
use Rattle.dms_load.proofs.taking.LoadSourceSource.take.Goals as goal

pub returns-clause-bytes : goal.returns-clause-bytes
returns-clause-bytes c =
    let xs = c.refill.new.self.line.bytes in
    let p = c.refill.new.self.place in
    let n = c.min-count.result in
    let behind = c.refill.new.self.behind in
    let d = drawing_of c.refill.new.self.state in
    let all = c.as_bytes.ensures.value ∙ c.as_str.ensures.value in (
      sym c.refill.ensures.left ∙ taken xs c.copy_from_slice.new.self c.args.into.now (next_lines behind d) p n (c.copy_from_slice.ensures.after ∙ ap (take n) (take_rest c.as_bytes.result.now p) ∙ ap (λ (zs : List ℕ). take n (drop p zs)) all) (omega (arith, length-drop {A = ℕ} p xs)),
      λ none some. let far : length xs ≤ p = omega (arith, none, c.min-count.ensures, c.requires, ap length all, length-drop {A = ℕ} p xs, length-drop {A = ℕ} p c.as_bytes.result.now) in over xs p n behind d far (⊎_elim (λ low. absurd (omega (arith, far, low))) (λ last. last) c.refill.ensures.some) none,
    )
