-- How many records and entries a valid database has.
use Rattle.std.proofs.Common.{◌≡◌, ◌≤◌, ◌+◌, ◌-◌, ◌*◌, ◌⊎◌, inl, inr, ℕ, zero, suc, List, [], ◌∷◌, Bool, true, false, cond, Some, None, refl, sym, ap, ◌∙◌, subst, arith, length, filter}
use Rattle.std.specs.Prelude.{◌==◌, slice_get}
use Rattle.std.specs.List.{AllByRecursion}
use Rattle.std.specs.FinMap.{get}
use Rattle.std.specs.declared.option.Option.{Option}
use Rattle.std.proofs.lemmas.Bool.Decides.{nat_tests}
use Rattle.std.proofs.lemmas.Option.{slice_get_within}
use Rattle.dms_desc.specs.declared.record.Record.{Record}
use Rattle.dms_desc.specs.Lookups.{structure_of}
use Rattle.dms_desc.specs.Shape.{Shape, Described}
use Rattle.dms_desc_bytes.specs.WellFormed.{IsWellFormed}
use Rattle.dms_laws.proofs.Formed.{few_structures, of_number}
use Rattle.dms_model.specs.Db.{Db, Place, SubsetEntry}
use Rattle.dms_model.specs.Valid.{EntryStands, IsValid, is_data_set, is_manual}
use Rattle.dms_runner.specs.EventLaws.{HasSize}
use Rattle.dms_runner.proofs.Sizes.{IsLowPlace, records_few}

-- ---- elements of few classes

module _ {X : Type 0} (f : X → ℕ) where
  abbrev class_count : ℕ → List X → ℕ
  class_count k [] = 0
  class_count k (x ∷ xs) = cond (k == f x) 1 0 + class_count k xs

  abbrev rest_of : ℕ → List X → List X
  rest_of k [] = []
  rest_of k (x ∷ xs) = cond (k == f x) (rest_of k xs) (x ∷ rest_of k xs)

  parted : (k : ℕ) (xs : List X) → length xs ≡ class_count k xs + length (rest_of k xs)
  parted k [] = refl
  parted k (x ∷ xs) = by (k == f x) (parted k xs)
    where
      by : (b : Bool) → length xs ≡ class_count k xs + length (rest_of k xs) → suc (length xs) ≡ cond b 1 0 + class_count k xs + length (cond b (rest_of k xs) (x ∷ rest_of k xs))
      by true h = omega (arith, h)
      by false h = omega (arith, h)

  rest_fewer : (j k : ℕ) (xs : List X) → class_count j (rest_of k xs) ≤ class_count j xs
  rest_fewer j k [] = omega arith
  rest_fewer j k (x ∷ xs) = by (k == f x) (rest_fewer j k xs)
    where
      by : (b : Bool) → class_count j (rest_of k xs) ≤ class_count j xs → class_count j (cond b (rest_of k xs) (x ∷ rest_of k xs)) ≤ cond (j == f x) 1 0 + class_count j xs
      by true h = omega (arith, h)
      by false h = omega (arith, h)

  -- a class has no element, or what holds of the classes of all elements holds of it
  has_class : (Q : ℕ → Type 0) (k : ℕ) (xs : List X) → AllByRecursion (λ x. Q (f x)) xs → (class_count k xs ≡ 0) ⊎ Q k
  has_class Q k [] all = inl refl
  has_class Q k (x ∷ xs) all = by (k == f x) refl (has_class Q k xs all.1)
    where
      by : (b : Bool) → (k == f x) ≡ b → (class_count k xs ≡ 0) ⊎ Q k → (cond b 1 0 + class_count k xs ≡ 0) ⊎ Q k
      by true e rest = let same : f x ≡ k = grind (arith, nat_tests, e) in inr (subst Q same all.0)
      by false e (inl none) = inl (omega (arith, none))
      by false e (inr has) = inr has

  -- classes up to n, each of which has a million elements at most
  record InClasses (n : ℕ) (all : List X) (x : X) : Type 0 where
    low : 1 ≤ f x
    high : f x ≤ n
    few : class_count (f x) all ≤ 1000000

  rest_low : (n : ℕ) (all xs : List X) → AllByRecursion (InClasses (suc n) all) xs → AllByRecursion (InClasses n all) (rest_of (suc n) xs)
  rest_low n all [] h = tt
  rest_low n all (x ∷ xs) h = by (suc n == f x) refl (rest_low n all xs h.1)
    where
      by : (b : Bool) → (suc n == f x) ≡ b → AllByRecursion (InClasses n all) (rest_of (suc n) xs) → AllByRecursion (InClasses n all) (cond b (rest_of (suc n) xs) (x ∷ rest_of (suc n) xs))
      by true e rest = rest
      by false e rest = let high = h.0.high in (record { low = h.0.low; high = grind (arith, nat_tests, e, high); few = h.0.few }, rest)

  fews : (n : ℕ) (all xs : List X) → AllByRecursion (InClasses n all) xs → AllByRecursion (λ x. class_count (f x) all ≤ 1000000) xs
  fews n all [] h = tt
  fews n all (x ∷ xs) h = (h.0.few, fews n all xs h.1)

  class_low : (k : ℕ) (all xs : List X) → class_count k xs ≤ class_count k all → (class_count k xs ≡ 0) ⊎ (class_count k all ≤ 1000000) → class_count k xs ≤ 1000000
  class_low k all xs fewer (inl none) = omega (arith, none)
  class_low k all xs fewer (inr few) = omega (arith, fewer, few)

  in_classes : (n : ℕ) (all xs : List X) → ((k : ℕ) → class_count k xs ≤ class_count k all) → AllByRecursion (InClasses n all) xs → length xs ≤ 1000000 * n
  in_classes zero all [] fewer h = omega arith
  in_classes zero all (x ∷ xs) fewer h = absurd (omega (arith, h.0.low, h.0.high))
  in_classes (suc n) all xs fewer h =
      let here = class_low (suc n) all xs (fewer (suc n)) (has_class (λ k. class_count k all ≤ 1000000) (suc n) xs (fews (suc n) all xs h)) in
      let rest = in_classes n all (rest_of (suc n) xs) (λ k. omega (arith, fewer k, rest_fewer k (suc n) xs)) (rest_low n all xs h) in
      omega (arith, parted (suc n) xs, here, rest)

-- ---- structures

structure_low : (desc : Described) (n : ℕ) (s : Shape) → structure_of desc n ≡ Some s → (1 ≤ n) × (n ≤ length desc.structures)
structure_low desc zero s here = absurd (cc)
structure_low desc (suc n) s here =
    let e : suc n - 1 ≡ n = omega arith in
    let some : (suc n == 0) ≡ false = grind (arith, nat_tests) in
    let at : slice_get desc.structures n ≡ Some s = ap (slice_get desc.structures) (sym e) ∙ sym (ap (λ (b : Bool). cond b None (slice_get desc.structures (suc n - 1))) some) ∙ here in
    (omega arith, omega (arith, slice_get_within desc.structures n s at))

-- a structure that passes such a test is there
with_shape : (t : Option Shape → Bool) → t None ≡ false → (o : Option Shape) → t o ≡ true → (s : Shape) × (o ≡ Some s)
with_shape t none None h = absurd (let no = sym none ∙ h in cc)
with_shape t none (Some s) h = (s, refl)

module _ (desc : Described) (well : IsWellFormed desc) (db : Db) (valid : IsValid desc db) where
  few : length desc.structures ≤ 200
  few = few_structures desc well

  place_low : (p : Place) (r : Record) → get db.records p ≡ Some r → IsLowPlace p
  place_low p r here =
      let such = valid.sets p r here in
      let s = with_shape is_data_set refl (structure_of desc p.0) such in
      let at = structure_low desc p.0 s.0 s.1 in
      let number = valid.numbers p r s.0 here s.1 in
      record { set = (at.0, omega (arith, at.1, few)); number = (number.0, omega (arith, number.1, (of_number desc well p.0 s.0 s.1).few)) }

  -- ---- entries

  abbrev subset_of_entry : SubsetEntry → ℕ
  subset_of_entry e = e.subset

  subset_count : (k : ℕ) (es : List SubsetEntry) → length (filter (λ (e : SubsetEntry). e.subset == k) es) ≡ class_count subset_of_entry k es
  subset_count k [] = refl
  subset_count k (e ∷ es) = by (k == e.subset) refl (subset_count k es)
    where
      by : (b : Bool) → (k == e.subset) ≡ b → length (filter (λ (e : SubsetEntry). e.subset == k) es) ≡ class_count subset_of_entry k es
          → length (filter (λ (e : SubsetEntry). e.subset == k) (e ∷ es)) ≡ cond b 1 0 + class_count subset_of_entry k es
      by true is h = let t : (e.subset == k) ≡ true = grind (arith, nat_tests, is) in rw t (omega (arith, h))
      by false is h = let t : (e.subset == k) ≡ false = grind (arith, nat_tests, is) in rw t (omega (arith, h))

  entry_in : (e : SubsetEntry) → EntryStands desc db e → InClasses subset_of_entry 200 db.entries e
  entry_in e h =
      let s = with_shape is_manual refl (structure_of desc e.subset) h.manual in
      let at = structure_low desc e.subset s.0 s.1 in
      let count = valid.entry_counts e.subset s.0 s.1 (sym (ap is_manual s.1) ∙ h.manual) in
      record {
        low = at.0;
        high = omega (arith, at.1, few);
        few = omega (arith, subset_count e.subset db.entries, count, (of_number desc well e.subset s.0 s.1).few);
      }

  entries_in : (es : List SubsetEntry) → AllByRecursion (EntryStands desc db) es → AllByRecursion (InClasses subset_of_entry 200 db.entries) es
  entries_in [] all = tt
  entries_in (e ∷ es) all = (entry_in e all.0, entries_in es all.1)

  entries_low : length db.entries ≤ 200000000
  entries_low = omega (arith, in_classes subset_of_entry 200 db.entries db.entries (λ k. omega arith) (entries_in db.entries valid.entries))

  -- a valid database has at most 1,000,000 records of each of 200 data sets, and as many entries of manual subsets
  pub valid_size : HasSize 200000000 db
  valid_size = record { records = records_few db.records place_low; entries = entries_low }
