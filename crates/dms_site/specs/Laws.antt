-- What a write leaves of the ranges of a file.
use Rattle.std.proofs.Common.{ℕ, ◌+◌, ◌-◌, ◌*◌, ◌<◌, ◌≤◌, min, max, ◌≡◌, ◌≢◌, inl, inr, List, ◌++◌, length, take, drop, get_or, replicate, refl, sym, ◌∙◌, ap, subst, arith, length-append, length-take, length-drop}
use Rattle.std.proofs.lemmas.List.{places, length-replicate, get_or-drop, get_or-take, take_at, drop_at, ext_get_or, append_assoc}
use Rattle.std.proofs.lemmas.Bool.{cases_lt}
use Rattle.std.proofs.lemmas.Bool.Decides.{nat_tests}
use Rattle.dms_site.specs.Files.{Files, with_file, range, pad_zeros, overlay_bytes, InFile, Torn}

pub with_file_here : (files : Files) (f : ℕ) (bytes : List ℕ) → with_file files f bytes f ≡ bytes
unfolding with_file
with_file_here files f bytes = grind (arith, nat_tests)

pub with_file_other : (files : Files) (f : ℕ) (bytes : List ℕ) (g : ℕ) → g ≢ f → with_file files f bytes g ≡ files g
unfolding with_file
with_file_other files f bytes g other = grind (arith, nat_tests)

-- a byte of a range
pub get_or-range : (at n i : ℕ) (file : List ℕ) → i < n → get_or (range at n file) i 0 ≡ get_or file (at + i) 0
unfolding range
get_or-range at n i file low = get_or-take n (drop at file) i 0 low ∙ get_or-drop at file i 0

pub length-range : (at n : ℕ) (file : List ℕ) → length (range at n file) ≡ min n (length file - at)
unfolding range
length-range at n file = omega (arith, length-take n (drop at file), length-drop at file)

-- a range in which two files agree
pub range_same : (at n : ℕ) (old new : List ℕ) → at + n ≤ length old → at + n ≤ length new → ((i : ℕ) → at ≤ i → i < at + n → get_or new i 0 ≡ get_or old i 0) → range at n new ≡ range at n old
range_same at n old new long longer same =
    let el : length (range at n old) ≡ n = omega (arith, length-range at n old) in
    let en : length (range at n new) ≡ n = omega (arith, length-range at n new) in
    ext_get_or 0 (range at n new) (range at n old) (en ∙ sym el) (λ k h.
    let low : k < n = omega arith in
    get_or-range at n k new low ∙ same (at + k) (omega arith) (omega arith) ∙ sym (get_or-range at n k old low))

length-padded : (file : List ℕ) (len : ℕ) → length (pad_zeros file len) ≡ max (length file) len
unfolding pad_zeros
length-padded file len = omega (arith, length-append file (replicate (len - length file) 0), length-replicate {A = ℕ} (len - length file) 0)

front : (at : ℕ) (file : List ℕ) → length (take at (pad_zeros file at)) ≡ at
front at file = omega (arith, length-take at (pad_zeros file at), length-padded file at)

pub length-overlaid : (at : ℕ) (bytes file : List ℕ) → length (overlay_bytes at bytes file) ≡ max (length file) (at + length bytes)
unfolding overlay_bytes
length-overlaid at bytes file =
    omega (arith, front at file, length-append (take at (pad_zeros file at)) bytes, length-append (take at (pad_zeros file at) ++ bytes) (drop (at + length bytes) file), length-drop (at + length bytes) file)

-- a whole write is one that may be cut short
pub torn_overlaid : (at : ℕ) (bytes file : List ℕ) → Torn at (length bytes) file (overlay_bytes at bytes file)
unfolding overlay_bytes pad_zeros
torn_overlaid at bytes file = record {
  no_shorter = omega (arith, length-overlaid at bytes file);
  no_longer = omega (arith, length-overlaid at bytes file);
  below = λ i within low. grind (arith, places, front at file);
  above = λ i within high. grind (arith, places, front at file);
}

-- what was written is read
pub range_overlaid : (at : ℕ) (bytes file : List ℕ) → range at (length bytes) (overlay_bytes at bytes file) ≡ bytes
unfolding overlay_bytes range
range_overlaid at bytes file =
    let before = take at (pad_zeros file at) in
    let after = drop (at + length bytes) file in
    ap (λ (l : List ℕ). take (length bytes) (drop at l)) (append_assoc before bytes after)
    ∙ ap (λ (l : List ℕ). take (length bytes) l) (drop_at before (bytes ++ after) at (front at file))
    ∙ take_at bytes after (length bytes) refl

pub torn_refl : (at n : ℕ) (file : List ℕ) → Torn at n file file
torn_refl at n file = record { no_shorter = omega arith; no_longer = omega arith; below = λ i within low. refl; above = λ i within high. refl }

pub in_file_same : (f : ℕ) (step : List ℕ → List ℕ → Type 0) (files : Files) → step (files f) (files f) → InFile f step files files
in_file_same f step files here = record { here = here; others = λ g other. refl }

pub in_file_with : (f : ℕ) (step : List ℕ → List ℕ → Type 0) (files : Files) (bytes : List ℕ) → step (files f) bytes → InFile f step files (with_file files f bytes)
in_file_with f step files bytes here = record {
  here = subst (λ (l : List ℕ). step (files f) l) (sym (with_file_here files f bytes)) here;
  others = with_file_other files f bytes;
}

-- A torn write of block c leaves each other block as it was: one before it where it stands whole, and each one behind it.
pub range_apart : (b c : ℕ) (old new : List ℕ) → Torn (1024 * c) 1024 old new → b ≢ c → (b < c → 1024 * b + 1024 ≤ length old) → range (1024 * b) 1024 new ≡ range (1024 * b) 1024 old
range_apart b c old new torn apart whole = elim (cases_lt b c) [
  | inl before ↦
      let long = whole before in
      range_same (1024 * b) 1024 old new (omega (arith, long)) (omega (arith, long, torn.no_shorter)) (λ i from to. torn.below i (omega (arith, to, long)) (omega (arith, to, before)))
  | inr not_before ↦
      let behind : c + 1 ≤ b = omega (arith, not_before, apart) in
      let length_new = length-range (1024 * b) 1024 new in
      let length_old = length-range (1024 * b) 1024 old in
      let same : length (range (1024 * b) 1024 new) ≡ length (range (1024 * b) 1024 old) = omega (arith, length_new, length_old, behind, torn.no_shorter, torn.no_longer) in
      ext_get_or 0 (range (1024 * b) 1024 new) (range (1024 * b) 1024 old) same (λ k h.
      let low : k < 1024 = omega (arith, h, length_new) in
      let within : 1024 * b + k < length old = omega (arith, h, length_old, same) in
      get_or-range (1024 * b) 1024 k new low ∙ torn.above (1024 * b + k) within (omega (arith, behind)) ∙ sym (get_or-range (1024 * b) 1024 k old low))
]
