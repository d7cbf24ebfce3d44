-- A list that is made one element at a time, as its elements are seen.
use Rattle.std.proofs.Common.{ℕ, ◌+◌, ◌<◌, ◌≡◌, List, [], ◌∷◌, ◌++◌, length, map, take, get_or, ap, sym, ◌∙◌}
use Rattle.std.proofs.lemmas.List.{map-append, take-map, take_more}

pub map_taken : {A B : Type 0} (f : A → B) (xs : List A) (i : ℕ) (x d : A) (made : List A) → i < length xs → map f made ≡ take i (map f xs) → f x ≡ f (get_or xs i d) → map f (made ++ x ∷ []) ≡ take (i + 1) (map f xs)
map_taken {A} {B} f xs i x d made low so_far same =
    map-append f made (x ∷ [])
    ∙ ap (λ (l : List B). l ++ f x ∷ []) (so_far ∙ take-map f i xs)
    ∙ ap (λ (y : B). map f (take i xs) ++ y ∷ []) same
    ∙ sym (map-append f (take i xs) (get_or xs i d ∷ []))
    ∙ ap (λ (l : List A). map f l) (sym (take_more xs i d low))
    ∙ sym (take-map f (i + 1) xs)
