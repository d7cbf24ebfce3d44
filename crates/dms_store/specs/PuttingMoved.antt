-- How many records each record owns, before and after one record is stored.
use Rattle.std.proofs.Common.{◌≡◌, ◌∙◌, ◌+◌, ◌≤◌, ◌⊎◌, ℕ, Bool, true, false, cond, Some, None, inl, inr, refl, sym, ap, arith}
use Rattle.std.specs.Prelude.{◌&&◌, ◌==◌, if◌then◌else◌}
use Rattle.std.specs.declared.option.Option.{Option}
use Rattle.std.proofs.lemmas.Bool.{cases_eq}
use Rattle.std.proofs.lemmas.Bool.Decides.{nat_tests}

-- 1 where the record m of the data set t owns a record that has this owner in the data set `to`
abbrev pub owns_one : ℕ → ℕ → ℕ → ℕ → ℕ
owns_one to owner t m = if (to == t) && (owner == m) then 1 else 0

-- the same for a record that is replaced, by its owner, and 0 where none is
abbrev pub owed_opt : ℕ → Option ℕ → ℕ → ℕ → ℕ
owed_opt to None t m = 0
owed_opt to (Some was) t m = owns_one to was t m

-- these counts, but that of one record
abbrev pub own_at : (ℕ → ℕ → ℕ) → ℕ → ℕ → ℕ → ℕ → ℕ → ℕ
own_at own t m k a b = if (a == t) && (b == m) then k else own a b

-- the record owns one more
abbrev pub own_one_more : (ℕ → ℕ → ℕ) → ℕ → ℕ → ℕ → ℕ → ℕ
own_one_more own t m = own_at own t m (own t m + 1)

-- the owner of what is stored: that of the record which is replaced, and else the new one's
abbrev pub owner_kept : Option ℕ → ℕ → ℕ
owner_kept None owner = owner
owner_kept (Some was) owner = was

-- The counts after a record was stored in a data set that stands in the data set `to`, or in none where this is 0. A new record
-- raises the count of its owner. One that replaces another has the owner that stood.
abbrev pub owners_after : (ℕ → ℕ → ℕ) → ℕ → Option ℕ → ℕ → ℕ → ℕ → ℕ
owners_after own to None owner = if to == 0 then own else own_one_more own to owner
owners_after own to (Some was) owner = own

-- ---- places

both_same : (t m : ℕ) → ((t == t) && (m == m)) ≡ true
both_same t m = grind (arith, nat_tests)

both_off : (a b t m : ℕ) → (a ≡ t → b ≡ m → ⊥) → ((a == t) && (b == m)) ≡ false
both_off a b t m apart = by (a == t) (b == m) refl refl
  where
    by : (x y : Bool) → (a == t) ≡ x → (b == m) ≡ y → (x && y) ≡ false
    by true true e f = let p : a ≡ t = grind (arith, nat_tests, e) in let q : b ≡ m = grind (arith, nat_tests, f) in absurd (apart p q)
    by true false e f = refl
    by false y e f = refl

cases_at : (a b t m : ℕ) → ((a ≡ t) × (b ≡ m)) ⊎ (a ≡ t → b ≡ m → ⊥)
cases_at a b t m = elim (cases_eq a t) [
  | inl e ↦ elim (cases_eq b m) [ inl f ↦ inl (e, f) | inr f ↦ inr (λ p q. f q) ]
  | inr e ↦ inr (λ p q. e p)
]

pub own_here : (own : ℕ → ℕ → ℕ) (t m k : ℕ) → own_at own t m k t m ≡ k
own_here own t m k = ap (λ b. cond b k (own t m)) (both_same t m)

pub own_off : (own : ℕ → ℕ → ℕ) (t m k a b : ℕ) → (a ≡ t → b ≡ m → ⊥) → own_at own t m k a b ≡ own a b
own_off own t m k a b apart = ap (λ x. cond x k (own a b)) (both_off a b t m apart)

pub owed_here : (to w : ℕ) → owns_one to w to w ≡ 1
owed_here to w = ap (λ b. cond b 1 0) (both_same to w)

pub owed_off : (to w t m : ℕ) → (to ≡ t → w ≡ m → ⊥) → owns_one to w t m ≡ 0
owed_off to w t m apart = ap (λ b. cond b 1 0) (both_off to w t m apart)

-- ---- the counts after it

module _ (own next : ℕ → ℕ → ℕ) (to owner : ℕ) where
  raised_here : next to owner + 0 ≡ own to owner + owns_one to owner to owner → own_one_more own to owner to owner ≡ next to owner
  raised_here h = own_here own to owner (own to owner + 1) ∙ omega (arith, h, owed_here to owner)

  raised_is : ((t m : ℕ) → next t m + 0 ≡ own t m + owns_one to owner t m) → (t m : ℕ) → own_one_more own to owner t m ≡ next t m
  raised_is h t m = elim (cases_at t m to owner) [
    | inl e ↦ (λ i. own_one_more own to owner (e.0 i) (e.1 i)) ∙ raised_here (h to owner) ∙ (λ i. next (sym e.0 i) (sym e.1 i))
    | inr apart ↦ own_off own to owner (own to owner + 1) t m apart ∙ omega (arith, h t m, owed_off to owner t m (λ p q. apart (sym p) (sym q)))
  ]

  none_is : (t m : ℕ) → (to ≡ t → ⊥) → next t m + 0 ≡ own t m + owns_one to owner t m → own t m ≡ next t m
  none_is t m apart h = omega (arith, h, owed_off to owner t m (λ p q. apart p))

  turn : (b : Bool) (t m : ℕ) → (to == 0) ≡ b → 1 ≤ t → ((a c : ℕ) → next a c + 0 ≡ own a c + owns_one to owner a c) → cond b own (own_one_more own to owner) t m ≡ next t m
  turn true t m is low h = none_is t m (λ e. let z : to ≡ 0 = grind (arith, nat_tests, is) in omega (arith, e, z, low)) (h t m)
  turn false t m is low h = raised_is h t m

  -- Counts that tell what storing one record moved are these.
  pub owners_are : (old : Option ℕ) → ((a c : ℕ) → next a c + owed_opt to old a c ≡ own a c + owns_one to (owner_kept old owner) a c) → (t m : ℕ) → 1 ≤ t → owners_after own to old owner t m ≡ next t m
  owners_are None h t m low = turn (to == 0) t m refl low h
  owners_are (Some was) h t m low = omega (arith, h t m)
