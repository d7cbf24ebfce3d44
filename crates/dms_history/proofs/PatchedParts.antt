-- A block with other bytes, put together from its parts.
use Rattle.std.proofs.Common.{ℕ, ◌+◌, ◌≤◌, ◌≡◌, min, inl, inr, List, [], ◌∷◌, ◌++◌, length, take, drop, refl, sym, ◌∙◌, ap, arith, append_assoc, length-drop}
use Rattle.std.proofs.lemmas.Bool.{cases_lt}
use Rattle.std.proofs.lemmas.List.{take_all}
use Rattle.dms_history.specs.Ranges.{patch_bytes}

none_left : (xs : List ℕ) → length xs ≡ 0 → xs ≡ []
none_left [] is = refl
none_left (x ∷ xs) is = absurd (omega (arith, is))

dropped : (n : ℕ) (xs : List ℕ) → length xs ≤ n → drop n xs ≡ []
dropped n xs le = none_left (drop n xs) (omega (arith, le, length-drop n xs))

same_front : (place start : ℕ) (old : List ℕ) → start ≡ min place (length old) → take start old ≡ take place old
same_front place start old is = elim (cases_lt place (length old)) [
  | inl low ↦ ap (λ n. take n old) (omega (arith, is, low))
  | inr high ↦ take_all start old (omega (arith, is, high)) ∙ sym (take_all place old high)
]

same_rest : (place start n : ℕ) (old : List ℕ) → start ≡ min place (length old) → drop (start + n) old ≡ drop (place + n) old
same_rest place start n old is = elim (cases_lt place (length old)) [
  | inl low ↦ ap (λ k. drop (k + n) old) (omega (arith, is, low))
  | inr high ↦ dropped (start + n) old (omega (arith, is, high)) ∙ sym (dropped (place + n) old (omega (arith, high)))
]

cut_end : (start n : ℕ) (old : List ℕ) → drop (min (start + n) (length old)) old ≡ drop (start + n) old
cut_end start n old = elim (cases_lt (start + n) (length old)) [
  | inl low ↦ ap (λ k. drop k old) (omega (arith, low))
  | inr high ↦ dropped (min (start + n) (length old)) old (omega (arith, high)) ∙ sym (dropped (start + n) old high)
]

pub patched_is : (place start end : ℕ) (bytes old front whole : List ℕ) → start ≡ min place (length old) → end ≡ min (start + length bytes) (length old) → front ≡ take start old
    → whole ≡ (front ++ bytes) ++ drop end old → whole ≡ patch_bytes place bytes old
unfolding patch_bytes
patched_is place start end bytes old front whole is ends cut put =
    put ∙ append_assoc front bytes (drop end old)
    ∙ (λ i. (cut ∙ same_front place start old is) i ++ (bytes ++ (ap (λ k. drop k old) ends ∙ cut_end start (length bytes) old ∙ same_rest place start (length bytes) old is) i))
