-- A list that is made one element at a time, as its elements are seen.
use Rattle.std.proofs.Common.{ℕ, ◌+◌, ◌<◌, ◌≡◌, List, [], ◌∷◌, ◌++◌, length, map, take, get_or, ap, sym, ◌∙◌}
use Rattle.std.proofs.lemmas.List.{map-append, take-map, take_more}

pub map_taken : {A B D : Type 0} (f : A → D) (g : B → D) (xs : List B) (i : ℕ) (x : A) (d : B) (made : List A) → i < length xs → map f made ≡ take i (map g xs) → f x ≡ g (get_or xs i d) → map f (made ++ x ∷ []) ≡ take (i + 1) (map g xs)
map_taken {A} {B} {D} f g xs i x d made low so_far same =
    map-append f made (x ∷ [])
    ∙ ap (λ (l : List D). l ++ f x ∷ []) (so_far ∙ take-map g i xs)
    ∙ ap (λ (y : D). map g (take i xs) ++ y ∷ []) same
    ∙ sym (map-append g (take i xs) (get_or xs i d ∷ []))
    ∙ ap (λ (l : List B). map g l) (sym (take_more xs i d low))
    ∙ sym (take-map g (i + 1) xs)
