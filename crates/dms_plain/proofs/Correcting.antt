-- Values and rows of which one after another is corrected.
use Rattle.std.proofs.Common.{◌≡◌, ◌∙◌, ◌+◌, ◌<◌, ℕ, zero, suc, List, [], ◌∷◌, ◌++◌, Bool, true, false, cond, Some, None, refl, ap, length, take, drop, slice_get, slice_set, arith}
use Rattle.std.specs.declared.option.Option.{Option}
use Rattle.std.proofs.lemmas.List.{length-set}
use Rattle.dms_base.specs.declared.value.Value.{Value}
use Rattle.dms_base.specs.declared.value.Value.TheVariants.{Null}
use Rattle.dms_desc.specs.Conds.{or_null}
use Rattle.dms_desc.specs.declared.structure.Item.{Item}
use Rattle.dms_model.specs.Uses.{corrected, corrected_value}
use Rattle.dms_plain.specs.Removed.{corrected_at, is_corrected}

value_is : (o : Option Item) (to number : ℕ) (v : Value) → cond (is_corrected o to number v) Null v ≡ corrected_value o to number v
value_is None to number v = refl
value_is (Some i) to number v = refl

abbrev one_null : Bool → ℕ → List Value → List Value
one_null b k vs = cond b (slice_set vs k Null) vs

module _ (to number j : ℕ) (items : List Item) where
  more : (b : Bool) (k : ℕ) (v : Value) (vs rs : List Value) → take (suc k) (one_null b k vs) ++ corrected to number (j + 1) items (drop (suc k) (one_null b k vs)) ≡ rs
      → take (suc (suc k)) (one_null b (suc k) (v ∷ vs)) ++ corrected to number (j + 1) items (drop (suc (suc k)) (one_null b (suc k) (v ∷ vs))) ≡ v ∷ rs
  more true k v vs rs h = ap (λ (xs : List Value). v ∷ xs) h
  more false k v vs rs h = ap (λ (xs : List Value). v ∷ xs) h

  here : (b : Bool) (v : Value) (vs : List Value) → take 1 (one_null b 0 (v ∷ vs)) ++ corrected to number (j + 1) items (drop 1 (one_null b 0 (v ∷ vs))) ≡ cond b Null v ∷ corrected to number (j + 1) items vs
  here true v vs = refl
  here false v vs = refl

  -- the k-th value is corrected
  turn : (k : ℕ) (vs : List Value) → k < length vs
      → take (suc k) (one_null (is_corrected (slice_get items j) to number (or_null (slice_get vs k))) k vs) ++ corrected to number (j + 1) items (drop (suc k) (one_null (is_corrected (slice_get items j) to number (or_null (slice_get vs k))) k vs))
      ≡ take k vs ++ corrected to number j items (drop k vs)
  turn k [] lt = absurd (omega arith)
  turn zero (v ∷ vs) lt =
      here (is_corrected (slice_get items j) to number v) v vs ∙ ap (λ (x : Value). x ∷ corrected to number (j + 1) items vs) (value_is (slice_get items j) to number v)
  turn (suc k) (v ∷ vs) lt =
      more (is_corrected (slice_get items j) to number (or_null (slice_get vs k))) k v vs (take k vs ++ corrected to number j items (drop k vs)) (turn k vs (omega arith))

pub correct_turn : (to number k n : ℕ) (items : List Item) (vs new : List Value) → n ≡ suc k → k < length vs → new ≡ corrected_at to number items k vs
    → take n new ++ corrected to number (k + 1) items (drop n new) ≡ take k vs ++ corrected to number k items (drop k vs)
correct_turn to number k n items vs new is lt e = (λ i. take (is i) (e i) ++ corrected to number (k + 1) items (drop (is i) (e i))) ∙ turn to number k items k vs lt

pub correct_length : (to number k : ℕ) (items : List Item) (vs : List Value) → length (corrected_at to number items k vs) ≡ length vs
correct_length to number k items vs = by (is_corrected (slice_get items k) to number (or_null (slice_get vs k)))
  where
    by : (b : Bool) → length (one_null b k vs) ≡ length vs
    by true = length-set vs k Null
    by false = refl
