-- The counts that entries reach are those of the content that they tell.
use Rattle.std.proofs.Common.{ℕ, ◌+◌, max, ◌≡◌, ◌==◌, inl, inr, true, cond, List, [], ◌∷◌, ◌++◌, length, Option, Some, None, refl, sym, ◌∙◌, ap, arith}
use Rattle.std.proofs.lemmas.Bool.{cases_eq}
use Rattle.std.proofs.lemmas.Bool.Decides.{nat_tests}
use Rattle.dms_history.specs.Events.{BlockBytes, AllBlocks, Event, change, quiet, control, begin}
use Rattle.dms_history.specs.Replay.{TellsBefore, Chain, replay, with_block}
use Rattle.dms_history.specs.Lists.{has}
use Rattle.dms_history.specs.Places.{is_control}
use Rattle.dms_history.specs.Pick.{reached_count}
use Rattle.dms_history.proofs.Picks.{laid_length, in_file, in_others}

pub reached_append : (xs ys : List Event) (f k : ℕ) → reached_count f k (xs ++ ys) ≡ reached_count f (reached_count f k xs) ys
reached_append [] ys f k = refl
reached_append (change g b None after ∷ xs) ys f k = reached_append xs ys f (cond (g == f) (max k (b + 1)) k)
reached_append (change g b (Some old) after ∷ xs) ys f k = reached_append xs ys f k
reached_append (quiet n ∷ xs) ys f k = reached_append xs ys f k
reached_append (control n next counts described ∷ xs) ys f k = reached_append xs ys f (counts f)
reached_append (begin n how ∷ xs) ys f k = reached_append xs ys f k

-- behind a Control it doesn't count what was before
pub reached_any : (xs : List Event) (f k j : ℕ) → has is_control xs ≡ true → reached_count f k xs ≡ reached_count f j xs
reached_any [] f k j found = absurd cc
reached_any (change g b None after ∷ xs) f k j found = reached_any xs f _ _ found
reached_any (change g b (Some old) after ∷ xs) f k j found = reached_any xs f k j found
reached_any (quiet n ∷ xs) f k j found = reached_any xs f k j found
reached_any (control n next counts described ∷ xs) f k j found = refl
reached_any (begin n how ∷ xs) f k j found = reached_any xs f k j found

-- ---- by the chain

pub count_one : (c : AllBlocks) (f g b : ℕ) (before : Option BlockBytes) (after : BlockBytes) → TellsBefore b before (c g) → reached_count f (length (c f)) (change g b before after ∷ []) ≡ length (with_block c g b after f)
count_one c f g b None after tells = elim (cases_eq g f) [
  | inl same ↦
      let long : b ≡ length (c f) = tells ∙ ap (λ j. length (c j)) same in
      let on : (g == f) ≡ true = grind (arith, nat_tests) in
      let here : reached_count f (length (c f)) (change g b None after ∷ []) ≡ b + 1 = ap (λ t. cond t (max (length (c f)) (b + 1)) (length (c f))) on ∙ omega (arith, long) in
      let there : length (with_block c g b after g) ≡ b + 1 = omega (arith, ap length (in_file c g b after), laid_length b after (c g) (omega (arith, tells)), tells) in
      here ∙ sym there ∙ ap (λ j. length (with_block c g b after j)) same
  | inr other ↦
      let here : reached_count f (length (c f)) (change g b None after ∷ []) ≡ length (c f) = grind (arith, nat_tests) in
      here ∙ sym (ap length (in_others c g b after f (λ e. other (sym e))))
]
count_one c f g b (Some old) after tells = elim (cases_eq f g) [
  | inl same ↦
      let there : length (with_block c g b after g) ≡ length (c g) = omega (arith, ap length (in_file c g b after), laid_length b after (c g) (omega (arith, tells.0)), tells.0) in
      ap (λ j. length (c j)) same ∙ sym there ∙ sym (ap (λ j. length (with_block c g b after j)) same)
  | inr other ↦ sym (ap length (in_others c g b after f other))
]

pub chain_reached : (es : List Event) (c : AllBlocks) (f : ℕ) → Chain es c → reached_count f (length (c f)) es ≡ length (replay es c f)
chain_reached [] c f chain = refl
chain_reached (change g b before after ∷ es) c f chain =
    reached_append (change g b before after ∷ []) es f (length (c f)) ∙ ap (λ k. reached_count f k es) (count_one c f g b before after chain.0) ∙ chain_reached es (with_block c g b after) f chain.1
chain_reached (quiet n ∷ es) c f chain = chain_reached es c f chain
chain_reached (control n next counts described ∷ es) c f chain = ap (λ k. reached_count f k es) (chain.0 f) ∙ chain_reached es c f chain.1
chain_reached (begin n how ∷ es) c f chain = absurd chain
