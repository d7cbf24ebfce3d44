-- A line's text, place by place.
use Rattle.std.proofs.Common.{◌≡◌, ◌<◌, ◌+◌, ℕ, List, [], ◌∷◌, ◌++◌, Bool, false, cond, sym, ap, ◌∙◌, append_assoc, take, drop, length, get_or}
use Rattle.std.proofs.lemmas.List.{take_more, drop_more}
use Rattle.dms_feed.specs.Lines.{is_end, line_text}

goes_on : (x : ℕ) (ys : List ℕ) → is_end (x ∷ ys) ≡ false → line_text (x ∷ ys) ≡ x ∷ line_text ys
goes_on x ys e = ap (λ (t : Bool). cond t [] (x ∷ line_text ys)) e

pub line_text_on : (xs : List ℕ) (i : ℕ) → i < length xs → is_end (drop i xs) ≡ false → line_text xs ≡ take i xs ++ line_text (drop i xs) → line_text xs ≡ take (i + 1) xs ++ line_text (drop (i + 1) xs)
line_text_on xs i low shut so_far =
    let x = get_or xs i 0 in
    let ys = drop (i + 1) xs in
    let at : drop i xs ≡ x ∷ ys = drop_more xs i 0 low in
    so_far
    ∙ ap (λ (l : List ℕ). take i xs ++ line_text l) at
    ∙ ap (λ (l : List ℕ). take i xs ++ l) (goes_on x ys (sym (ap is_end at) ∙ shut))
    ∙ sym (append_assoc (take i xs) (x ∷ []) (line_text ys))
    ∙ ap (λ (l : List ℕ). l ++ line_text ys) (sym (take_more xs i 0 low))
