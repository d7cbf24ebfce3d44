-- Structures of a description that is served.
use Rattle.std.proofs.Common.{◌≡◌, ◌∙◌, ◌-◌, ℕ, zero, suc, List, [], ◌∷◌, Bool, true, false, cond, Some, None, sym, ap, subst, slice_get, arith}
use Rattle.std.specs.Prelude.{◌==◌}
use Rattle.std.specs.List.{AllByRecursion}
use Rattle.std.specs.declared.option.Option.{Option}
use Rattle.std.proofs.lemmas.Bool.Decides.{nat_tests}
use Rattle.dms_desc.specs.Lookups.{structure_of}
use Rattle.dms_desc.specs.Shape.{Shape, Described}
use Rattle.dms_desc.specs.Kinds.{is_set_or_automatic}
use Rattle.dms_model.specs.Valid.{is_manual}
use Rattle.dms_spelling.specs.Serving.{IsServed, IsServedSet, IsServedShape}

served_in : (ss : List Shape) (i : ℕ) (s : Shape) → AllByRecursion IsServedShape ss → slice_get ss i ≡ Some s → IsServedShape s
served_in [] i s all at = absurd (cc)
served_in (t ∷ ss) zero s all at = subst (λ (x : Shape). IsServedShape x) (some_shape t s at) all.0
  where
    some_shape : (x y : Shape) → ◌≡◌ {A = Option Shape} (Some x) (Some y) → x ≡ y
    some_shape x y h = cc
served_in (t ∷ ss) (suc i) s all at = served_in ss i s all.1 at

pub structure_there : (ss : List Shape) (path : ℕ) (s : Shape) → cond (path == 0) None (slice_get ss (path - 1)) ≡ Some s → slice_get ss (path - 1) ≡ Some s
structure_there ss zero s h = absurd (cc)
structure_there ss (suc n) s h = let t : (suc n == 0) ≡ false = grind (arith, nat_tests) in sym (ap (λ b. cond b None (slice_get ss (suc n - 1))) t) ∙ h

pub served_at : (desc : Described) (n : ℕ) (s : Shape) → IsServed desc → structure_of desc n ≡ Some s → IsServedShape s
served_at desc n s served at = served_in desc.structures (n - 1) s served.each (structure_there desc.structures n s at)

-- ---- sets and subsets

set_in : (desc : Described) (p : Shape → Bool) (ss : List Shape) (i : ℕ) (s : Shape) → AllByRecursion (λ t. p t ≡ true → IsServedSet desc t) ss → slice_get ss i ≡ Some s → p s ≡ true → IsServedSet desc s
set_in desc p [] i s all at is = absurd (cc)
set_in desc p (t ∷ ss) zero s all at is = subst (λ (x : Shape). p x ≡ true → IsServedSet desc x) (some_shape t s at) all.0 is
  where
    some_shape : (x y : Shape) → ◌≡◌ {A = Option Shape} (Some x) (Some y) → x ≡ y
    some_shape x y h = cc
set_in desc p (t ∷ ss) (suc i) s all at is = set_in desc p ss i s all.1 at is

-- a set or automatic subset,
pub set_at : (desc : Described) (n : ℕ) (s : Shape) → IsServed desc → structure_of desc n ≡ Some s → is_set_or_automatic s ≡ true → IsServedSet desc s
set_at desc n s served at kept = set_in desc is_set_or_automatic desc.structures (n - 1) s served.sets (structure_there desc.structures n s at) kept

-- and a manual one
pub manual_at : (desc : Described) (n : ℕ) (s : Shape) → IsServed desc → structure_of desc n ≡ Some s → is_manual (Some s) ≡ true → IsServedSet desc s
manual_at desc n s served at manual = set_in desc (λ t. is_manual (Some t)) desc.structures (n - 1) s served.manual (structure_there desc.structures n s at) manual
