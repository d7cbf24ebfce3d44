-- The owner of an entry counts it from then on, or counts it no more: the slot that is altered, and what slots count then.
use Rattle.std.proofs.Common.{◌≡◌, ◌≢◌, ◌∙◌, ◌+◌, ◌-◌, ◌^◌, ◌<◌, ◌≤◌, ℕ, List, [], ◌∷◌, Bool, true, false, cond, Some, None, refl, sym, ap, subst, arith}
use Rattle.std.specs.Prelude.{◌&&◌, ◌==◌, is_some}
use Rattle.std.specs.FinMap.{get}
use Rattle.std.proofs.lemmas.Bool.{and_parts}
use Rattle.std.proofs.lemmas.Bool.Decides.{nat_tests}
use Rattle.dms_block.specs.Content.{Content}
use Rattle.dms_desc.specs.Shape.{Described}
use Rattle.dms_links.specs.Altered.{with_owned}
use Rattle.dms_links.specs.AlteredLaws.{owned_at, slot_disowned, slot_owned}
use Rattle.dms_links.specs.AlteringIn.{AltersIn}
use Rattle.dms_links.specs.Linking.{number_at}
use Rattle.dms_links.specs.Setting.{count_steps}
use Rattle.dms_links.specs.Standing.{is_of, made, slot_there}
use Rattle.dms_links.specs.Stands.{RecordsStand, Tally}
use Rattle.dms_links.specs.Stepping.{AltersSteps, EitherWay, HaveSlotFiles, SlotStep}
use Rattle.dms_links.specs.declared.altering.SlotChange.{SlotChange}
use Rattle.dms_links.specs.declared.altering.SlotChange.TheVariants.{Owned, Disowned}
use Rattle.dms_model.specs.Db.{Db}
use Rattle.dms_model.specs.Valid.{owner_stands}

-- the slot of the owner, changed so; none where a subset is disjoint
abbrev pub owner_steps : ℕ → ℕ → SlotChange → List SlotStep
owner_steps t m change = count_steps t (Some m) change

-- what an entry adds to what a record owns
abbrev pub owned_one : ℕ → ℕ → ℕ → ℕ → ℕ
owned_one t m set n = cond ((t == set) && (m == n)) 1 0

-- the counts with what it adds, and without it
abbrev pub owned_more : Tally → ℕ → ℕ → Tally
owned_more own t m = cond (t == 0) own (owned_at own t m (own.owned t m + 1))

abbrev pub owned_less : Tally → ℕ → ℕ → Tally
owned_less own t m = cond (t == 0) own (owned_at own t m (own.owned t m - 1))

-- ---- what the counts are

turned : (t m set n : ℕ) → ((set == t) && (n == m)) ≡ ((t == set) && (m == n))
turned t m set n =
    let p : (set == t) ≡ (t == set) = grind (arith, nat_tests) in
    let q : (n == m) ≡ (m == n) = grind (arith, nat_tests) in
    λ i. p i && q i

same_count : (own : Tally) (t m set n : ℕ) → ((set == t) && (n == m)) ≡ true → own.owned set n ≡ own.owned t m
same_count own t m set n h =
    let both = and_parts (set == t) (n == m) h in
    let p : set ≡ t = grind (arith, nat_tests, both.0) in
    let q : n ≡ m = grind (arith, nat_tests, both.1) in
    λ i. own.owned (p i) (q i)

disjoint_one : (t m set n : ℕ) → (t == 0) ≡ true → 1 ≤ set → owned_one t m set n ≡ 0
disjoint_one t m set n is low = let off : (t == set) ≡ false = grind (arith, nat_tests, is, low) in ap (λ b. cond (b && (m == n)) 1 0) off

pub more_at : (own : Tally) (t m set n : ℕ) → 1 ≤ set → (owned_more own t m).owned set n ≡ own.owned set n + owned_one t m set n
more_at own t m set n low = by (t == 0) refl
  where
    here : (b : Bool) → ((set == t) && (n == m)) ≡ b → cond b (own.owned t m + 1) (own.owned set n) ≡ own.owned set n + cond b 1 0
    here true h = omega (arith, same_count own t m set n h)
    here false h = omega arith

    by : (b : Bool) → (t == 0) ≡ b → (cond b own (owned_at own t m (own.owned t m + 1))).owned set n ≡ own.owned set n + owned_one t m set n
    by true is = omega (arith, disjoint_one t m set n is low)
    by false is = here ((set == t) && (n == m)) refl ∙ ap (λ b. own.owned set n + cond b 1 0) (turned t m set n)

pub less_at : (own : Tally) (t m set n : ℕ) → 1 ≤ set → (t ≢ 0 → 1 ≤ own.owned t m) → (owned_less own t m).owned set n + owned_one t m set n ≡ own.owned set n
less_at own t m set n low some = by (t == 0) refl
  where
    here : (b : Bool) → ((set == t) && (n == m)) ≡ b → 1 ≤ own.owned t m → cond b (own.owned t m - 1) (own.owned set n) + cond b 1 0 ≡ own.owned set n
    here true h one = omega (arith, same_count own t m set n h, one)
    here false h one = omega arith

    apart : (t == 0) ≡ false → t ≢ 0
    apart is e = let on : (t == 0) ≡ true = grind (arith, nat_tests, e) in absurd (cc (is, on))

    by : (b : Bool) → (t == 0) ≡ b → (cond b own (owned_at own t m (own.owned t m - 1))).owned set n + owned_one t m set n ≡ own.owned set n
    by true is = omega (arith, disjoint_one t m set n is low)
    by false is = ap (λ b. cond ((set == t) && (n == m)) (own.owned t m - 1) (own.owned set n) + cond b 1 0) (sym (turned t m set n)) ∙ here ((set == t) && (n == m)) refl (some (apart is))

pub more_counted : (own : Tally) (t m : ℕ) → (owned_more own t m).counted ≡ own.counted
more_counted own t m = by (t == 0)
  where
    by : (b : Bool) → (cond b own (owned_at own t m (own.owned t m + 1))).counted ≡ own.counted
    by true = refl
    by false = refl

pub less_counted : (own : Tally) (t m : ℕ) → (owned_less own t m).counted ≡ own.counted
less_counted own t m = by (t == 0)
  where
    by : (b : Bool) → (cond b own (owned_at own t m (own.owned t m - 1))).counted ≡ own.counted
    by true = refl
    by false = refl

-- ---- the slot

module _ (desc : Described) (db : Db) (own : Tally) (c d : Content) (have : HaveSlotFiles desc) (files : RecordsStand desc db own c) (set number : ℕ) (stands : is_some (get db.records (set, number)) ≡ true) where
  -- one more
  owns_more : (done : Bool) → own.owned set number + 1 < 2 ^ 32 → AltersIn desc set number Owned c d done → (done ≡ true) × RecordsStand desc db (owned_at own set number (own.owned set number + 1)) d
  owns_more done small h =
      let there = slot_there desc db own c files set number stands in
      let is : there.slot.owned ≡ own.owned set number = there.stands.owned ∙ ap (λ t. own.owned t number) (number_at desc have.numbered set there.shape there.at) in
      let off : (there.slot.owned == 2 ^ 32 - 1) ≡ false = grind (arith, nat_tests, is, small) in
      let next = with_owned (there.slot.owned + 1) there.slot in
      let a = made desc db own c d have files set number stands Owned next done (ap (λ b. cond b None (Some next)) off) h in
      (a.0, slot_owned desc db own c d set number there.shape (is_of desc db own c d have files set number stands) Owned files a.1 a.1.is_next)

  -- one less
  owns_less : (done : Bool) → 1 ≤ own.owned set number → AltersIn desc set number Disowned c d done → (done ≡ true) × RecordsStand desc db (owned_at own set number (own.owned set number - 1)) d
  owns_less done some h =
      let there = slot_there desc db own c files set number stands in
      let is : there.slot.owned ≡ own.owned set number = there.stands.owned ∙ ap (λ t. own.owned t number) (number_at desc have.numbered set there.shape there.at) in
      let off : (there.slot.owned == 0) ≡ false = grind (arith, nat_tests, is, some) in
      let next = with_owned (there.slot.owned - 1) there.slot in
      let a = made desc db own c d have files set number stands Disowned next done (ap (λ b. cond b None (Some next)) off) h in
      (a.0, slot_disowned desc db own c d set number there.shape (is_of desc db own c d have files set number stands) Disowned files a.1 a.1.is_next)

onward : (b : Bool) (P Q : Type 0) → b ≡ true → EitherWay b P Q → P
onward true P Q is h = h
onward false P Q is h = absurd (cc is)

-- an owner that stands is a record, where there is one
owner_there : (db : Db) (t m : ℕ) → (t == 0) ≡ false → owner_stands db.records t m ≡ true → is_some (get db.records (t, m)) ≡ true
owner_there db t m off h = sym (ap (λ b. cond b (m == 0) (is_some (get db.records (t, m)))) off) ∙ h

set_apart : (t : ℕ) → (t == 0) ≡ false → t ≢ 0
set_apart t is e = let on : (t == 0) ≡ true = grind (arith, nat_tests, e) in absurd (cc (is, on))

module _ (desc : Described) (db : Db) (own : Tally) (c d : Content) (have : HaveSlotFiles desc) (files : RecordsStand desc db own c) (t m : ℕ) (stands : owner_stands db.records t m ≡ true) (done : Bool) where
  -- An owner that stands counts one more where there is room,
  pub owner_more : (t ≢ 0 → own.owned t m + 1 < 2 ^ 32) → AltersSteps desc (owner_steps t m Owned) done c d → (done ≡ true) × RecordsStand desc db (owned_more own t m) d
  owner_more small = by (t == 0) refl
    where
      by : (b : Bool) → (t == 0) ≡ b → AltersSteps desc (cond b [] (record { set = t; number = m; change = Owned } ∷ [])) done c d
          → (done ≡ true) × RecordsStand desc db (cond b own (owned_at own t m (own.owned t m + 1))) d
      by true is h = (h.0, subst (RecordsStand desc db own) (sym h.1) files)
      by false is (e, b, a, rest) =
          let made_so = owns_more desc db own c e have files t m (owner_there db t m is stands) b (small (set_apart t is)) a in
          let end = onward b (AltersSteps desc [] done e d) ((done ≡ false) × (d ≡ e)) made_so.0 rest in
          (end.0, subst (RecordsStand desc db (owned_at own t m (own.owned t m + 1))) (sym end.1) made_so.1)

  -- and one less where it owns some.
  pub owner_less : (t ≢ 0 → 1 ≤ own.owned t m) → AltersSteps desc (owner_steps t m Disowned) done c d → (done ≡ true) × RecordsStand desc db (owned_less own t m) d
  owner_less some = by (t == 0) refl
    where
      by : (b : Bool) → (t == 0) ≡ b → AltersSteps desc (cond b [] (record { set = t; number = m; change = Disowned } ∷ [])) done c d
          → (done ≡ true) × RecordsStand desc db (cond b own (owned_at own t m (own.owned t m - 1))) d
      by true is h = (h.0, subst (RecordsStand desc db own) (sym h.1) files)
      by false is (e, b, a, rest) =
          let made_so = owns_less desc db own c e have files t m (owner_there db t m is stands) b (some (set_apart t is)) a in
          let end = onward b (AltersSteps desc [] done e d) ((done ≡ false) × (d ≡ e)) made_so.0 rest in
          (end.0, subst (RecordsStand desc db (owned_at own t m (own.owned t m - 1))) (sym end.1) made_so.1)
