-- Taking a whole input byte by byte.
use Rattle.std.proofs.Common.{◌≡◌, ◌<◌, ◌+◌, ◌∙◌, ap, sym, refl, subst, arith, ℕ, List, [], ◌∷◌, ◌++◌, length, drop, Some, None, Option, append-nil, append_assoc, length-append, slice_get}
use Rattle.std.proofs.lemmas.Option.{none-some, same_Some}
use Rattle.dms_feed.specs.Feeds.{Remains}

-- so many bytes were taken
pub record InputTaken (n : ℕ) (text all held : List ℕ) (left : Option (List ℕ)) : Type 0 where
  pub rest : List ℕ
  pub remains : Remains held left rest
  pub is : all ≡ text ++ rest
  pub many : length text ≡ n

-- with nothing held, what the source has left remains
at_start : (held : List ℕ) (left : Option (List ℕ)) (all : List ℕ) → held ≡ [] → left ≡ Some all → Remains held left all
at_start held left all none is = subst (λ (h : List ℕ). Remains h left all) (sym none) (subst (λ (l : Option (List ℕ)). Remains [] l all) (sym is) refl)

pub taken_start : (text all held : List ℕ) (left : Option (List ℕ)) → text ≡ [] → held ≡ [] → left ≡ Some all → InputTaken 0 text all held left
taken_start text all held left none empty is = record {
  rest = all;
  remains = at_start held left all empty is;
  is = sym (ap (λ (t : List ℕ). t ++ all) none);
  many = ap length none;
}

-- ---- what remains

empty_front : (held xs : List ℕ) → held ++ xs ≡ [] → xs ≡ []
empty_front [] xs h = h
empty_front (b ∷ bs) xs h = absurd (cc)

-- where nothing remains, the source has nothing left
no_more : (held : List ℕ) (left : Option (List ℕ)) → Remains held left [] → left ≡ Some []
no_more held None h = absurd (none-some [] h)
no_more held (Some xs) h = ap (λ (l : List ℕ). Some l) (empty_front held xs (same_Some _ _ h))

-- ---- byte by byte

first_of : (xs : List ℕ) (b : ℕ) → Some b ≡ slice_get xs 0 → xs ≡ b ∷ drop 1 xs
first_of [] b h = absurd (cc)
first_of (x ∷ xs) b h = cc

none_of : (xs : List ℕ) → None ≡ slice_get xs 0 → xs ≡ []
none_of [] h = refl
none_of (x ∷ xs) h = absurd (cc)

-- one more byte was taken
pub taken_on : (n b : ℕ) (old new all held held' : List ℕ) (left left' : Option (List ℕ)) (t : InputTaken n old all held left) → Some b ≡ slice_get t.rest 0 → Remains held' left' (drop 1 t.rest) → new ≡ old ++ b ∷ [] → InputTaken (n + 1) new all held' left'
taken_on n b old new all held held' left left' t first remains added = record {
  rest = drop 1 t.rest;
  remains = remains;
  is = t.is ∙ ap (λ (l : List ℕ). old ++ l) (first_of t.rest b first) ∙ sym (append_assoc old (b ∷ []) (drop 1 t.rest)) ∙ ap (λ (l : List ℕ). l ++ drop 1 t.rest) (sym added);
  many = omega (arith, t.many, ap length added, length-append old (b ∷ []));
}

pub taken_all : (n : ℕ) (text all held : List ℕ) (left : Option (List ℕ)) (t : InputTaken n text all held left) → None ≡ slice_get t.rest 0 → text ≡ all
taken_all n text all held left t none = sym (t.is ∙ ap (λ (l : List ℕ). text ++ l) (none_of t.rest none) ∙ append-nil text)

pub taken_end : (n : ℕ) (text all held held' : List ℕ) (left left' : Option (List ℕ)) (t : InputTaken n text all held left) → None ≡ slice_get t.rest 0 → Remains held' left' (drop 1 t.rest) → left' ≡ Some []
taken_end n text all held held' left left' t none remains =
    no_more held' left' (subst (λ (l : List ℕ). Remains held' left' (drop 1 l)) (none_of t.rest none) remains)

pub taken_over : (n : ℕ) (text all held : List ℕ) (left : Option (List ℕ)) → InputTaken n text all held left → 10000 < n → 10000 < length all
taken_over n text all held left t over = omega (arith, over, t.many, ap length t.is, length-append text t.rest)
