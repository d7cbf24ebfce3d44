-- Places by their points.
use Rattle.std.proofs.Common.{ℕ, zero, suc, ◌+◌, ◌-◌, ◌<◌, ◌≤◌, ◌≡◌, ◌==◌, Bool, true, false, cond, List, [], ◌∷◌, length, drop, get_or, Option, Some, None, refl, sym, ◌∙◌, ap, arith}
use Rattle.std.specs.Prelude.{option_map, nat_lt}
use Rattle.std.proofs.lemmas.Bool.Decides.{nat_tests}
use Rattle.dms_points.specs.declared.keeping.PlaceAt.{PlaceAt}
use Rattle.dms_points.specs.Keeping.{is_last, place_among}

pub no_place : PlaceAt
no_place = record { number = 0; need = None }

-- none of the first i is it
abbrev pub Skips : ℕ → List PlaceAt → ℕ → Type 0
Skips i ps n = place_among ps n ≡ option_map (λ k. k + i) (place_among (drop i ps) n)

map_zero : (o : Option ℕ) → o ≡ option_map (λ k. k + 0) o
map_zero None = refl
map_zero (Some k) = ap (λ j. Some j) (omega arith)

map_next : (i : ℕ) (o : Option ℕ) → option_map (λ k. k + i) (option_map (λ k. k + 1) o) ≡ option_map (λ k. k + (i + 1)) o
map_next i None = refl
map_next i (Some k) = ap (λ j. Some j) (omega arith)

pub skips_none : (ps : List PlaceAt) (n : ℕ) → Skips 0 ps n
skips_none ps n = map_zero (place_among ps n)

dropped : (i : ℕ) (ps : List PlaceAt) (d : PlaceAt) → i < length ps → drop i ps ≡ get_or ps i d ∷ drop (i + 1) ps
dropped i [] d low = absurd (omega (arith, low))
dropped zero (p ∷ ps) d low = refl
dropped (suc i) (p ∷ ps) d low =
    let e : suc i + 1 ≡ suc (i + 1) = omega arith in
    dropped i ps d (omega (arith, low)) ∙ ap (λ k. get_or ps i d ∷ drop k (p ∷ ps)) (sym e)

pub skips_next : (i : ℕ) (ps : List PlaceAt) (n : ℕ) (d : PlaceAt) → i < length ps → ((get_or ps i d).number == n) ≡ false → Skips i ps n → Skips (i + 1) ps n
skips_next i ps n d low off so_far =
    so_far ∙ ap (λ (l : List PlaceAt). option_map (λ k. k + i) (place_among l n)) (dropped i ps d low)
    ∙ ap (λ (b : Bool). option_map (λ k. k + i) (cond b (Some 0) (option_map (λ k. k + 1) (place_among (drop (i + 1) ps) n)))) off
    ∙ map_next i (place_among (drop (i + 1) ps) n)

pub skips_found : (i : ℕ) (ps : List PlaceAt) (n : ℕ) (d : PlaceAt) → i < length ps → ((get_or ps i d).number == n) ≡ true → Skips i ps n → place_among ps n ≡ Some i
skips_found i ps n d low on so_far =
    so_far ∙ ap (λ (l : List PlaceAt). option_map (λ k. k + i) (place_among l n)) (dropped i ps d low)
    ∙ ap (λ (b : Bool). option_map (λ k. k + i) (cond b (Some 0) (option_map (λ k. k + 1) (place_among (drop (i + 1) ps) n)))) on
    ∙ ap (λ k. Some k) (omega arith)

past : (i : ℕ) (ps : List PlaceAt) → length ps ≤ i → drop i ps ≡ []
past zero [] low = refl
past (suc i) [] low = refl
past zero (p ∷ ps) low = absurd (omega (arith, low))
past (suc i) (p ∷ ps) low = past i ps (omega (arith, low))

pub skips_all : (i : ℕ) (ps : List PlaceAt) (n : ℕ) → length ps ≤ i → Skips i ps n → place_among ps n ≡ None
skips_all i ps n low so_far = so_far ∙ ap (λ (l : List PlaceAt). option_map (λ k. k + i) (place_among l n)) (past i ps low)

pub last_at : (ps : List PlaceAt) (n : ℕ) (d : PlaceAt) → 0 < length ps → is_last ps n ≡ ((get_or ps (length ps - 1) d).number == n)
last_at [] n d some = absurd (omega (arith, some))
last_at (p ∷ []) n d some = refl
last_at (p ∷ (q ∷ ps)) n d some =
    let e : length (p ∷ (q ∷ ps)) - 1 ≡ suc (length (q ∷ ps) - 1) = omega arith in
    last_at (q ∷ ps) n d (omega arith) ∙ ap (λ k. (get_or (p ∷ (q ∷ ps)) k d).number == n) (sym e)

pub some_of : (n : ℕ) → true ≡ nat_lt 0 n → 0 < n
some_of n is = grind (arith, nat_tests)
