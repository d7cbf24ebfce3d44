-- Reading so many of one kind, one after another.
use Rattle.std.proofs.Common.{ℕ, suc, ◌+◌, ◌-◌, ◌<◌, ◌≤◌, ◌≡◌, List, [], ◌∷◌, ◌++◌, ap, append_assoc, sym, ◌∙◌, arith}
use Rattle.std.proofs.lemmas.List.{append-nil}
use Rattle.dms_desc_bytes.specs.Reading.{ReadBytes, several}

-- what was read before, and what is read now
abbrev pub with_front : {A : Type 0} → List A → ReadBytes (List A) → ReadBytes (List A)
with_front xs r = (xs ++ r.0, r.1)

front_more : {A : Type 0} (one : ℕ → List ℕ → ReadBytes A) (xs : List A) (k n : ℕ) (bytes : List ℕ) → with_front (xs ++ (one k bytes).0 ∷ []) (several one (k + 1) n (one k bytes).1) ≡ with_front xs (several one k (suc n) bytes)
unfolding several
front_more {A} one xs k n bytes = ap (λ (l : List A). (l, (several one (k + 1) n (one k bytes).1).1)) (append_assoc xs ((one k bytes).0 ∷ []) (several one (k + 1) n (one k bytes).1).0)

-- one more is read
pub one_more : {A : Type 0} (one : ℕ → List ℕ → ReadBytes A) (xs ys : List A) (x : A) (k count i : ℕ) (old new : List ℕ) (whole : ReadBytes (List A)) → i < count → with_front xs (several one k (count - i) old) ≡ whole → ◌≡◌ {A = ReadBytes A} (x, new) (one k old) → ys ≡ xs ++ x ∷ [] → with_front ys (several one (k + 1) (count - (i + 1)) new) ≡ whole
one_more {A} one xs ys x k count i old new whole low before read pushed =
    let left : suc (count - (i + 1)) ≡ count - i = omega (arith, low) in
    ap (λ (l : List A). with_front l (several one (k + 1) (count - (i + 1)) new)) pushed
    ∙ ap (λ (p : ReadBytes A). with_front (xs ++ p.0 ∷ []) (several one (k + 1) (count - (i + 1)) p.1)) read
    ∙ front_more one xs k (count - (i + 1)) old
    ∙ ap (λ (n : ℕ). with_front xs (several one k n old)) left
    ∙ before

none_left : {A : Type 0} (one : ℕ → List ℕ → ReadBytes A) (xs : List A) (k n : ℕ) (bytes : List ℕ) → n ≡ 0 → ◌≡◌ {A = ReadBytes (List A)} (xs, bytes) (with_front xs (several one k n bytes))
unfolding several
none_left {A} one xs k n bytes none =
    ap (λ (l : List A). (l, bytes)) (sym (append-nil xs)) ∙ ap (λ (m : ℕ). with_front xs (several one k m bytes)) (sym none)

-- all are read
pub all_read : {A : Type 0} (one : ℕ → List ℕ → ReadBytes A) (xs : List A) (k count i : ℕ) (bytes : List ℕ) (whole : ReadBytes (List A)) → count ≤ i → with_front xs (several one k (count - i) bytes) ≡ whole → ◌≡◌ {A = ReadBytes (List A)} (xs, bytes) whole
all_read one xs k count i bytes whole past so_far = none_left one xs k (count - i) bytes (omega (arith, past)) ∙ so_far
