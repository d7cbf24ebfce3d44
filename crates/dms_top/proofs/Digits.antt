-- Numbers in plain digits, and the words of `initialize`.
use Rattle.std.proofs.Common.{◌≡◌, ◌∙◌, ℕ, suc, ◌+◌, ◌-◌, ◌*◌, ◌^◌, ◌<◌, ◌≤◌, Bool, true, false, cond, List, [], ◌∷◌, length, drop, get_or, map, refl, sym, ap, arith, drop-cons, Option, Some, None}
use Rattle.std.specs.Prelude.{nat_le, nat_lt, ◌&&◌, codes}
use Rattle.std.specs.Str.{bytes_eq}
use Rattle.std.proofs.lemmas.List.{drop_all}
use Rattle.std.proofs.lemmas.Bool.Decides.{nat_tests}
use Rattle.dms_top.specs.Words.{are_digits, digits_value, number_behind, tag_of, initialize_tag}

at_next : (i : ℕ) (bytes : List ℕ) → i < length bytes → drop i bytes ≡ get_or bytes i 0 ∷ drop (i + 1) bytes
at_next i bytes low = let h = low in drop-cons bytes i 0 h ∙ ap (λ k. get_or bytes i 0 ∷ drop k bytes) (let e : suc i ≡ i + 1 = omega arith in e)

grows : (n : ℕ) (bytes : List ℕ) → n ≤ digits_value n bytes
grows n [] = omega arith
grows n (b ∷ bs) = omega (arith, grows (10 * n + (b - 48)) bs)

le_is : (a b : ℕ) → a ≤ b → nat_le a b ≡ true
le_is a b le = grind (arith, nat_tests)

le_not : (a b : ℕ) → b < a → nat_le a b ≡ false
le_not a b lt = grind (arith, nat_tests)

lt_is : (a b : ℕ) → a < b → nat_lt a b ≡ true
lt_is a b lt = grind (arith, nat_tests)

lt_not : (a b : ℕ) → b ≤ a → nat_lt a b ≡ false
lt_not a b le = grind (arith, nat_tests)

and_false : (a : Bool) → (a && false) ≡ false
and_false true = refl
and_false false = refl

behind_none : (n : ℕ) (bytes : List ℕ) (a : Bool) → a ≡ false → are_digits bytes ≡ a → number_behind n bytes ≡ None
unfolding number_behind
behind_none n bytes a off is = ap (λ t. cond (t && nat_lt (digits_value n bytes) (2 ^ 64)) (Some (digits_value n bytes)) None) (is ∙ off)

low_digit : (n b : ℕ) (bs : List ℕ) → b < 48 → number_behind n (b ∷ bs) ≡ None
low_digit n b bs low = behind_none n (b ∷ bs) false refl (ap (λ t. (t && nat_le b 57) && are_digits bs) (le_not 48 b low))

high_digit : (n b : ℕ) (bs : List ℕ) → 57 < b → number_behind n (b ∷ bs) ≡ None
high_digit n b bs high = behind_none n (b ∷ bs) false refl (ap (λ t. t && are_digits bs) (ap (λ t. nat_le 48 b && t) (le_not b 57 high) ∙ and_false (nat_le 48 b)))

large : (n b : ℕ) (bs : List ℕ) → 2 ^ 64 ≤ n * 10 + (b - 48) → number_behind n (b ∷ bs) ≡ None
unfolding number_behind
large n b bs far =
    let more = grows (10 * n + (b - 48)) bs in
    ap (λ t. cond t (Some (digits_value n (b ∷ bs))) None) (ap (λ t. are_digits (b ∷ bs) && t) (lt_not (digits_value n (b ∷ bs)) (2 ^ 64) (omega (arith, more, far))) ∙ and_false (are_digits (b ∷ bs)))

step : (n b : ℕ) (bs : List ℕ) → 48 ≤ b → b ≤ 57 → number_behind n (b ∷ bs) ≡ number_behind (n * 10 + (b - 48)) bs
unfolding number_behind
step n b bs low high =
    let e : 10 * n + (b - 48) ≡ n * 10 + (b - 48) = omega arith in
    (λ i. cond (((le_is 48 b low) i && (le_is b 57 high) i) && are_digits bs && nat_lt (digits_value (10 * n + (b - 48)) bs) (2 ^ 64)) (Some (digits_value (10 * n + (b - 48)) bs)) None)
    ∙ ap (λ k. number_behind k bs) e

pub digits_end : (n i : ℕ) (bytes : List ℕ) → length bytes ≤ i → n < 2 ^ 64 → number_behind n (drop i bytes) ≡ Some n
unfolding number_behind
digits_end n i bytes far small = ap (number_behind n) (drop_all i bytes far) ∙ ap (λ t. cond t (Some n) None) (lt_is n (2 ^ 64) small)

pub digits_low : (n i b : ℕ) (bytes : List ℕ) → i < length bytes → b ≡ get_or bytes i 0 → b < 48 → number_behind n (drop i bytes) ≡ None
digits_low n i b bytes at is low = ap (number_behind n) (at_next i bytes at) ∙ low_digit n (get_or bytes i 0) (drop (i + 1) bytes) (omega (arith, is, low))

pub digits_high : (n i b : ℕ) (bytes : List ℕ) → i < length bytes → b ≡ get_or bytes i 0 → 57 < b → number_behind n (drop i bytes) ≡ None
digits_high n i b bytes at is high = ap (number_behind n) (at_next i bytes at) ∙ high_digit n (get_or bytes i 0) (drop (i + 1) bytes) (omega (arith, is, high))

pub digits_large : (n i b : ℕ) (bytes : List ℕ) → i < length bytes → b ≡ get_or bytes i 0 → 2 ^ 64 ≤ n * 10 + (b - 48) → number_behind n (drop i bytes) ≡ None
digits_large n i b bytes at is far = ap (number_behind n) (at_next i bytes at) ∙ large n (get_or bytes i 0) (drop (i + 1) bytes) (omega (arith, ap (λ k. k - 48) is, far))

pub digits_step : (n i b : ℕ) (bytes : List ℕ) → i < length bytes → b ≡ get_or bytes i 0 → 48 ≤ b → b ≤ 57 → number_behind (n * 10 + (b - 48)) (drop (i + 1) bytes) ≡ number_behind n (drop i bytes)
digits_step n i b bytes at is low high =
    ap (λ k. number_behind (n * 10 + (k - 48)) (drop (i + 1) bytes)) is ∙ sym (step n (get_or bytes i 0) (drop (i + 1) bytes) (omega (arith, is, low)) (omega (arith, is, high))) ∙ ap (number_behind n) (sym (at_next i bytes at))

-- ---- the words of `initialize`

pub tag_empty : {W : Type 0} (f : W → List ℕ) (ws : List W) → length ws ≡ 0 → initialize_tag (map f ws) ≡ None
tag_empty f [] none = refl
tag_empty f (x ∷ xs) none = absurd (omega arith)

pub tag_many : {W : Type 0} (f : W → List ℕ) (ws : List W) → 2 < length ws → initialize_tag (map f ws) ≡ None
tag_many f [] many = absurd (omega arith)
tag_many f (x ∷ []) many = absurd (omega arith)
tag_many f (x ∷ y ∷ []) many = absurd (omega arith)
tag_many f (x ∷ y ∷ z ∷ zs) many = refl

pub tag_other : {W : Type 0} (f : W → List ℕ) (ws : List W) (w : W) → w ≡ get_or ws 0 w → bytes_eq (f w) (codes "initialize") ≡ false → initialize_tag (map f ws) ≡ None
tag_other f [] w at off = refl
tag_other f (x ∷ []) w at off = ap (λ t. cond t (Some 0) None) (ap (λ v. bytes_eq (f v) (codes "initialize")) (sym at) ∙ off)
tag_other f (x ∷ y ∷ []) w at off = ap (λ t. cond t (tag_of (f y)) None) (ap (λ v. bytes_eq (f v) (codes "initialize")) (sym at) ∙ off)
tag_other f (x ∷ y ∷ z ∷ zs) w at off = refl

pub tag_alone : {W : Type 0} (f : W → List ℕ) (ws : List W) (w : W) → length ws ≡ 1 → w ≡ get_or ws 0 w → bytes_eq (f w) (codes "initialize") ≡ true → initialize_tag (map f ws) ≡ Some 0
tag_alone f [] w one at on = absurd (omega arith)
tag_alone f (x ∷ []) w one at on = ap (λ t. cond t (Some 0) None) (ap (λ v. bytes_eq (f v) (codes "initialize")) (sym at) ∙ on)
tag_alone f (x ∷ y ∷ zs) w one at on = absurd (omega arith)

pub tag_said : {W : Type 0} (f : W → List ℕ) (ws : List W) (w t : W) → length ws ≡ 2 → w ≡ get_or ws 0 w → t ≡ get_or ws 1 t → bytes_eq (f w) (codes "initialize") ≡ true → initialize_tag (map f ws) ≡ tag_of (f t)
tag_said f [] w t two at next on = absurd (omega arith)
tag_said f (x ∷ []) w t two at next on = absurd (omega arith)
tag_said f (x ∷ y ∷ []) w t two at next on = ap (λ b. cond b (tag_of (f y)) None) (ap (λ v. bytes_eq (f v) (codes "initialize")) (sym at) ∙ on) ∙ ap (λ v. tag_of (f v)) (sym next)
tag_said f (x ∷ y ∷ z ∷ zs) w t two at next on = absurd (omega arith)

-- other words say no tag
pub tag_try : (ws : List (List ℕ)) (tag : ℕ) → ws ≡ codes "try" ∷ [] → initialize_tag ws ≡ Some tag → ⊥
tag_try ws tag is says = not_some tag (sym (ap initialize_tag is) ∙ says)
  where
    not_some : (tag : ℕ) → None ≡ Some tag → ⊥
    not_some tag e = absurd cc

pub tag_compile : (ws : List (List ℕ)) (tag : ℕ) → ws ≡ codes "compile" ∷ [] → initialize_tag ws ≡ Some tag → ⊥
tag_compile ws tag is says = not_some tag (sym (ap initialize_tag is) ∙ says)
  where
    not_some : (tag : ℕ) → None ≡ Some tag → ⊥
    not_some tag e = absurd cc

pub tag_print : (ws : List (List ℕ)) (tag : ℕ) → ws ≡ codes "print" ∷ codes "audit" ∷ [] → initialize_tag ws ≡ Some tag → ⊥
tag_print ws tag is says = not_some tag (sym (ap initialize_tag is) ∙ says)
  where
    not_some : (tag : ℕ) → None ≡ Some tag → ⊥
    not_some tag e = absurd cc

pub tag_run : (ws : List (List ℕ)) (tag : ℕ) → ws ≡ codes "run" ∷ [] → initialize_tag ws ≡ Some tag → ⊥
tag_run ws tag is says = not_some tag (sym (ap initialize_tag is) ∙ says)
  where
    not_some : (tag : ℕ) → None ≡ Some tag → ⊥
    not_some tag e = absurd cc

pub tag_utility : (ws : List (List ℕ)) (tag : ℕ) → ws ≡ codes "utility" ∷ [] → initialize_tag ws ≡ Some tag → ⊥
tag_utility ws tag is says = not_some tag (sym (ap initialize_tag is) ∙ says)
  where
    not_some : (tag : ℕ) → None ≡ Some tag → ⊥
    not_some tag e = absurd cc

pub same_tag : (o : Option ℕ) (a b : ℕ) → Some a ≡ o → o ≡ Some b → a ≡ b
same_tag o a b one two = one_of (one ∙ two)
  where
    one_of : Some a ≡ Some b → a ≡ b
    one_of e = cc

pub no_tag : (o : Option ℕ) (tag : ℕ) → None ≡ o → o ≡ Some tag → ⊥
no_tag o tag none says = not_some (none ∙ says)
  where
    not_some : None ≡ Some tag → ⊥
    not_some e = absurd cc
