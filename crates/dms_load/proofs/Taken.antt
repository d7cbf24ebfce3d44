-- A part of the line that is held is taken.
use Rattle.std.proofs.Common.{◌≡◌, ◌≤◌, List, ℕ, [], length, drop, take, ◌+◌, ◌++◌, append_assoc, arith, ap, ◌∙◌, sym}
use Rattle.std.proofs.lemmas.List.{length-take-le, take_at, take-append-drop, drop-drop, drop_all}
use Rattle.dms_load.specs.Script.{Drawing, next_lines}

-- what was copied, and the rest
pub taken : (xs front into more : List ℕ) (p n : ℕ) → front ≡ take n (drop p xs) → n ≤ length (drop p xs) → drop p xs ++ more ≡ take n (front ++ drop n into) ++ (drop (p + n) xs ++ more)
taken xs front into more p n is fits =
    let len : length front ≡ n = ap length is ∙ length-take-le n (drop p xs) fits in
    let copied : take n (front ++ drop n into) ≡ take n (drop p xs) = take_at front (drop n into) n len ∙ is in
    let halves : take n (drop p xs) ++ drop (p + n) xs ≡ drop p xs = ap (λ (ys : List ℕ). take n (drop p xs) ++ ys) (sym (drop-drop n p xs)) ∙ take-append-drop n (drop p xs) in
    ap (λ (ys : List ℕ). ys ++ more) (sym halves) ∙ append_assoc (take n (drop p xs)) (drop (p + n) xs) more ∙ ap (λ (ys : List ℕ). ys ++ (drop (p + n) xs ++ more)) (sym copied)

-- nothing is left where nothing was taken
pub over : (xs : List ℕ) (p n behind : ℕ) (d : Drawing) → length xs ≤ p → behind ≡ 0 → n ≡ 0 → drop (p + n) xs ++ next_lines behind d ≡ []
unfolding next_lines
over xs p n behind d far last none = ap (λ (k : ℕ). drop (p + n) xs ++ next_lines k d) last ∙ ap (λ (ys : List ℕ). ys ++ []) (drop_all (p + n) xs (omega (arith, far)))
