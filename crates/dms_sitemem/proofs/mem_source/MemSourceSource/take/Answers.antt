use Rattle.std.proofs.Common.{◌≡◌, ◌≤◌, List, ℕ, length, drop, take, ◌+◌, ◌++◌, arith, ap, ◌∙◌, sym}
use Rattle.std.proofs.lemmas.List.{length-drop, length-take-le, take_at, take-append-drop, drop-drop, nil_from_length, take_rest}
use Rattle.dms_sitemem.proofs.mem_source.MemSourceSource.take.Goals as goal

-- what was copied, and the rest
parts : (xs front into : List ℕ) (p n : ℕ) → front ≡ take n (drop p xs) → n ≤ length (drop p xs) → drop p xs ≡ take n (front ++ drop n into) ++ drop (p + n) xs
parts xs front into p n is fits =
    let len : length front ≡ n = ap length is ∙ length-take-le n (drop p xs) fits in
    sym (ap (λ ys. ys ++ drop (p + n) xs) (take_at front (drop n into) n len ∙ is) ∙ ap (λ ys. take n (drop p xs) ++ ys) (sym (drop-drop n p xs)) ∙ take-append-drop n (drop p xs))

pub returns-clause-bytes : goal.returns-clause-bytes
returns-clause-bytes c =
    let xs = c.args.self.now.bytes.items in
    let p = c.args.self.now.place in
    let n = c.min-count.result in (
      parts xs c.copy_from_slice.new.self c.args.into.now p n (c.copy_from_slice.ensures.after ∙ ap (take n) (take_rest c.deref-2.result.now p) ∙ ap (λ zs. take n (drop p zs)) c.deref-2.ensures.value) (omega (arith, length-drop {A = ℕ} p xs)),
      λ none some. nil_from_length _ (omega (arith, length-drop {A = ℕ} p xs, length-drop {A = ℕ} (p + n) xs)),
    )
