-- What a change to one block leaves.
use Rattle.std.proofs.Common.{ℕ, zero, suc, ◌+◌, ◌-◌, ◌<◌, ◌≤◌, max, ◌≡◌, ◌≢◌, inl, inr, ◌⊎◌, List, [], ◌∷◌, length, take, drop, get_or, refl, sym, ◌∙◌, ap, subst, arith, length-append, length-take, length-drop}
use Rattle.std.proofs.lemmas.List.{get_or_at, get_or_append_left, get_or-take, get_or-drop, get_or-append_right}
use Rattle.std.proofs.lemmas.Bool.{cases_eq, cases_lt}
use Rattle.std.proofs.lemmas.Bool.Decides.{nat_tests}
use Rattle.dms_block.specs.Content.{Content, put_block, block_in, with_block}

pub laid_length : (b : ℕ) (x : (List ℕ)) (l : List (List ℕ)) → b ≤ length l → length (put_block b x l) ≡ max (length l) (b + 1)
laid_length b x l le = omega (arith, length-append (take b l) (x ∷ drop (suc b) l), length-take b l, length-drop (suc b) l)

pub laid_here : (b : ℕ) (x : (List ℕ)) (l : List (List ℕ)) → b ≤ length l → get_or (put_block b x l) b [] ≡ x
laid_here b x l le = get_or_at (take b l) x (drop (suc b) l) [] b (omega (arith, length-take b l))

pub laid_other : (b : ℕ) (x : (List ℕ)) (l : List (List ℕ)) (k : ℕ) → b ≤ length l → k ≢ b → get_or (put_block b x l) k [] ≡ get_or l k []
laid_other b x l k le other = elim (cases_lt k b) [
  | inl less ↦ get_or_append_left (take b l) (x ∷ drop (suc b) l) [] k (omega (arith, length-take b l)) ∙ get_or-take b l k [] less
  | inr no_less ↦
      let behind : k - b ≡ suc (k - suc b) = omega arith in
      let place : suc b + (k - suc b) ≡ k = omega arith in
      get_or-append_right (take b l) (x ∷ drop (suc b) l) b k [] (omega (arith, length-take b l)) no_less
      ∙ ap (λ j. get_or (x ∷ drop (suc b) l) j []) behind
      ∙ get_or-drop (suc b) l (k - suc b) []
      ∙ ap (λ j. get_or l j []) place
]

pub in_file : (c : Content) (f b : ℕ) (x : (List ℕ)) → with_block c f b x f ≡ put_block b x (c f)
unfolding with_block
in_file c f b x = grind (arith, nat_tests)

pub in_others : (c : Content) (f b : ℕ) (x : (List ℕ)) (g : ℕ) → g ≢ f → with_block c f b x g ≡ c g
unfolding with_block
in_others c f b x g other = grind (arith, nat_tests)

pub write_here : (c : Content) (f b : ℕ) (x : (List ℕ)) → b ≤ length (c f) → block_in (with_block c f b x) f b ≡ x
write_here c f b x le = ap (λ (l : List (List ℕ)). get_or l b []) (in_file c f b x) ∙ laid_here b x (c f) le

pub write_other : (c : Content) (f b : ℕ) (x : (List ℕ)) (g k : ℕ) → b ≤ length (c f) → (g ≡ f → k ≡ b → ⊥) → block_in (with_block c f b x) g k ≡ block_in c g k
write_other c f b x g k le apart = elim (cases_eq g f) [
  | inl same ↦
      ap (λ j. block_in (with_block c f b x) j k) same ∙ ap (λ (l : List (List ℕ)). get_or l k []) (in_file c f b x)
      ∙ laid_other b x (c f) k le (λ e. apart same e) ∙ ap (λ j. block_in c j k) (sym same)
  | inr other ↦ ap (λ (l : List (List ℕ)). get_or l k []) (in_others c f b x g other)
]

pub write_length : (c : Content) (f b : ℕ) (x : (List ℕ)) (g : ℕ) → b ≤ length (c f) → length (c g) ≤ length (with_block c f b x g)
write_length c f b x g le = elim (cases_eq g f) [
  | inl same ↦ subst (λ j. length (c j) ≤ length (with_block c f b x j)) (sym same) (omega (arith, ap length (in_file c f b x), laid_length b x (c f) le))
  | inr other ↦ omega (arith, ap length (in_others c f b x g other))
]

-- another block than the one that is written was there
pub write_old : (c : Content) (f b : ℕ) (x : (List ℕ)) (g k : ℕ) → b ≤ length (c f) → (g ≡ f → k ≡ b → ⊥) → k < length (with_block c f b x g) → k < length (c g)
write_old c f b x g k le apart low = elim (cases_eq g f) [
  | inl same ↦
      let other : k ≢ b = λ e. apart same e in
      let here : k < length (with_block c f b x f) = subst (λ j. k < length (with_block c f b x j)) same low in
      subst (λ j. k < length (c j)) (sym same) (omega (arith, ap length (in_file c f b x), laid_length b x (c f) le))
  | inr other ↦ omega (arith, ap length (in_others c f b x g other))
]

pub write_long : (c : Content) (f b : ℕ) (x : (List ℕ)) → b ≤ length (c f) → b < length (with_block c f b x f)
write_long c f b x le = omega (arith, ap length (in_file c f b x), laid_length b x (c f) le)

-- one block after another

laid_same : (b : ℕ) (l : List (List ℕ)) → b < length l → put_block b (get_or l b []) l ≡ l
laid_same b [] low = absurd (omega arith)
laid_same zero (y ∷ l) low = refl
laid_same (suc b) (y ∷ l) low = ap (λ m. y ∷ m) (laid_same b l (omega arith))

laid_again : (b : ℕ) (x y : List ℕ) (l : List (List ℕ)) → b ≤ length l → put_block b y (put_block b x l) ≡ put_block b y l
laid_again zero x y [] low = refl
laid_again (suc b) x y [] low = absurd (omega arith)
laid_again zero x y (z ∷ l) low = refl
laid_again (suc b) x y (z ∷ l) low = ap (λ m. z ∷ m) (laid_again b x y l (omega arith))

laid_apart : (b k : ℕ) (x y : List ℕ) (l : List (List ℕ)) → b < length l → k ≤ length l → b ≢ k → put_block k y (put_block b x l) ≡ put_block b x (put_block k y l)
laid_apart b k x y [] low le other = absurd (omega arith)
laid_apart zero zero x y (z ∷ l) low le other = absurd (other refl)
laid_apart zero (suc k) x y (z ∷ l) low le other = refl
laid_apart (suc b) zero x y (z ∷ l) low le other = refl
laid_apart (suc b) (suc k) x y (z ∷ l) low le other = ap (λ m. z ∷ m) (laid_apart b k x y l (omega arith) (omega arith) (λ e. other (ap suc e)))

pub write_same : (c : Content) (f b : ℕ) → b < length (c f) → with_block c f b (block_in c f b) ≡ c
write_same c f b low = λ i g. (elim (cases_eq g f) as (λ _. with_block c f b (block_in c f b) g ≡ c g) [
  | inl same ↦ subst (λ j. with_block c f b (block_in c f b) j ≡ c j) (sym same) (in_file c f b (block_in c f b) ∙ laid_same b (c f) low)
  | inr other ↦ in_others c f b (block_in c f b) g other
]) i

pub write_again : (c : Content) (f b : ℕ) (x y : List ℕ) → b ≤ length (c f) → with_block (with_block c f b x) f b y ≡ with_block c f b y
write_again c f b x y le = λ i g. (elim (cases_eq g f) as (λ _. with_block (with_block c f b x) f b y g ≡ with_block c f b y g) [
  | inl same ↦ subst (λ j. with_block (with_block c f b x) f b y j ≡ with_block c f b y j) (sym same)
      (in_file (with_block c f b x) f b y ∙ ap (λ (l : List (List ℕ)). put_block b y l) (in_file c f b x) ∙ laid_again b x y (c f) le ∙ sym (in_file c f b y))
  | inr other ↦ in_others (with_block c f b x) f b y g other ∙ in_others c f b x g other ∙ sym (in_others c f b y g other)
]) i

-- two writes to distinct blocks, in the file g
apart_in : (c : Content) (f b : ℕ) (x : List ℕ) (h k : ℕ) (y : List ℕ) → b < length (c f) → k ≤ length (c h) → (f ≡ h → b ≡ k → ⊥) → (g : ℕ) → f ≡ h ⊎ f ≢ h → g ≡ f ⊎ g ≢ f → g ≡ h ⊎ g ≢ h
    → with_block (with_block c f b x) h k y g ≡ with_block (with_block c h k y) f b x g
apart_in c f b x h k y low le apart g (inl one) (inl same) here =
    subst (λ j. with_block (with_block c f b x) h k y j ≡ with_block (with_block c h k y) f b x j) (sym same)
    (subst (λ j. with_block (with_block c f b x) j k y f ≡ with_block (with_block c j k y) f b x f) one
    (in_file (with_block c f b x) f k y ∙ ap (λ (l : List (List ℕ)). put_block k y l) (in_file c f b x)
    ∙ laid_apart b k x y (c f) low (subst (λ j. k ≤ length (c j)) (sym one) le) (λ e. apart one e)
    ∙ sym (in_file (with_block c f k y) f b x ∙ ap (λ (l : List (List ℕ)). put_block b x l) (in_file c f k y))))
apart_in c f b x h k y low le apart g (inr two) (inl same) (inl here) = absurd (two (sym same ∙ here))
apart_in c f b x h k y low le apart g (inr two) (inl same) (inr there) =
    subst (λ j. with_block (with_block c f b x) h k y j ≡ with_block (with_block c h k y) f b x j) (sym same)
    (in_others (with_block c f b x) h k y f two ∙ in_file c f b x ∙ sym (in_file (with_block c h k y) f b x ∙ ap (λ (l : List (List ℕ)). put_block b x l) (in_others c h k y f two)))
apart_in c f b x h k y low le apart g (inl one) (inr off) (inl here) = absurd (off (here ∙ sym one))
apart_in c f b x h k y low le apart g (inr two) (inr off) (inl here) =
    subst (λ j. with_block (with_block c f b x) h k y j ≡ with_block (with_block c h k y) f b x j) (sym here)
    (in_file (with_block c f b x) h k y ∙ ap (λ (l : List (List ℕ)). put_block k y l) (in_others c f b x h (λ e. two (sym e))) ∙ sym (in_others (with_block c h k y) f b x h (λ e. two (sym e)) ∙ in_file c h k y))
apart_in c f b x h k y low le apart g either (inr off) (inr there) =
    in_others (with_block c f b x) h k y g there ∙ in_others c f b x g off ∙ sym (in_others (with_block c h k y) f b x g off ∙ in_others c h k y g there)

-- writes to distinct blocks in either order
pub write_apart : (c : Content) (f b : ℕ) (x : List ℕ) (h k : ℕ) (y : List ℕ) → b < length (c f) → k ≤ length (c h) → (f ≡ h → b ≡ k → ⊥)
    → with_block (with_block c f b x) h k y ≡ with_block (with_block c h k y) f b x
write_apart c f b x h k y low le apart = λ i g. apart_in c f b x h k y low le apart g (cases_eq f h) (cases_eq g f) (cases_eq g h) i
