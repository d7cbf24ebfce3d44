-- Bytes that are laid over a file with zeros up to their end.
use Rattle.std.proofs.Common.{ℕ, ◌+◌, ◌-◌, ◌≤◌, min, ◌≡◌, inl, inr, List, ◌++◌, length, take, drop, replicate, sym, ◌∙◌, ap, arith, length-append, length-take}
use Rattle.std.proofs.lemmas.List.{places, drop_all, append-nil, length-replicate, take-append-le}
use Rattle.std.proofs.lemmas.Grind.{same_number_lists}
use Rattle.std.proofs.lemmas.Bool.{cases_lt}
use Rattle.dms_site.specs.Files.{pad_zeros, overlay_bytes}

zeros : (n : ℕ) (file : List ℕ) → n ≡ 0 → file ++ replicate n 0 ≡ file
zeros n file none = ap (λ (k : ℕ). file ++ replicate k 0) none ∙ append-nil file

-- nothing is behind the zeros that wasn't there before
behind : (end : ℕ) (file : List ℕ) → drop end (pad_zeros file end) ≡ drop end file
unfolding pad_zeros
behind end file = elim (cases_lt (length file) end) [
  | inl short ↦ drop_all end (file ++ replicate (end - length file) 0) (omega (arith, short, length-append file (replicate (end - length file) 0), length-replicate {A = ℕ} (end - length file) 0)) ∙ sym (drop_all end file (omega (arith, short)))
  | inr long ↦ ap (λ (l : List ℕ). drop end l) (zeros (end - length file) file (omega (arith, long)))
]

-- the prefix is the same with fewer zeros
front : (at end : ℕ) (file : List ℕ) → at ≤ end → take at (pad_zeros file end) ≡ take at (pad_zeros file at)
unfolding pad_zeros
front at end file le = elim (cases_lt (length file) at) [
  | inl short ↦ same_number_lists _ _ (omega (arith, short, le, lens end, lens at)) (λ k low. grind (arith, places, low, short, le))
  | inr long ↦ take-append-le at file (replicate (end - length file) 0) long ∙ sym (take-append-le at file (replicate (at - length file) 0) long)
]
  where
    lens : (n : ℕ) → length (take at (file ++ replicate (n - length file) 0)) ≡ min at (length file + (n - length file))
    lens n = omega (arith, length-take at (file ++ replicate (n - length file) 0), length-append file (replicate (n - length file) 0), length-replicate {A = ℕ} (n - length file) 0)

pub laid_padded : (at : ℕ) (bytes file grown : List ℕ) → grown ≡ pad_zeros file (at + length bytes) → take at grown ++ bytes ++ drop (at + length bytes) grown ≡ overlay_bytes at bytes file
unfolding overlay_bytes
laid_padded at bytes file grown is =
    ap (λ (l : List ℕ). take at l ++ bytes ++ drop (at + length bytes) l) is
    ∙ ap (λ (l : List ℕ). l ++ bytes ++ drop (at + length bytes) (pad_zeros file (at + length bytes))) (front at (at + length bytes) file (omega arith))
    ∙ ap (λ (l : List ℕ). take at (pad_zeros file at) ++ bytes ++ l) (behind (at + length bytes) file)
