-- The records to which the links of a record that went refer, and its owner, count it no more.
use Rattle.std.proofs.Common.{◌≡◌, ◌∙◌, ◌+◌, ◌-◌, ◌<◌, ◌≤◌, ℕ, zero, suc, List, [], ◌∷◌, ◌++◌, Bool, true, false, cond, Some, None, refl, sym, ap, subst, append-nil, append_assoc, drop, get_or, length, take, arith}
use Rattle.std.specs.Prelude.{◌&&◌, ◌==◌, if◌then◌else◌, is_some}
use Rattle.std.specs.FinMap.{get, remove}
use Rattle.std.proofs.lemmas.Bool.{and_parts}
use Rattle.std.proofs.lemmas.Bool.Decides.{nat_tests}
use Rattle.dms_base.specs.declared.value.Value.{Value}
use Rattle.dms_block.specs.Content.{Content}
use Rattle.dms_desc.specs.Lookups.{items_of, structure_of}
use Rattle.dms_desc.specs.Shape.{Shape, Described}
use Rattle.dms_desc.specs.declared.record.Record.{Record}
use Rattle.dms_desc.specs.declared.structure.Item.{Item}
use Rattle.dms_desc_bytes.specs.Finding.{owner_in as owner_of}
use Rattle.dms_links.specs.Altered.{with_owned}
use Rattle.dms_links.specs.AlteredLaws.{owned_at, slot_disowned}
use Rattle.dms_links.specs.AlteringIn.{AltersIn}
use Rattle.dms_links.specs.Linking.{number_at}
use Rattle.dms_links.specs.Releasing.{AreFrom, HaveAdded, added_by, added_is, less_all, less_from, owned_all, uncount_from, uncounted, value_of}
use Rattle.dms_links.specs.Setting.{count_steps, counts_in_kind, target_of}
use Rattle.dms_links.specs.Standing.{SlotThere, is_of, made, slot_there}
use Rattle.dms_links.specs.Stands.{Counts, RecordsStand, Tally, tally_of}
use Rattle.dms_links.specs.Stepping.{AltersSteps, EitherWay, HaveSlotFiles, SlotStep}
use Rattle.dms_links.specs.declared.altering.SlotChange.TheVariants.{Disowned, Uncounted}
use Rattle.dms_model.specs.Db.{Db}
use Rattle.dms_model.specs.Valid.{owner_stands}
use Rattle.dms_tally.specs.Counts.{counted_in, links_stand, links_to, owned_in, owners_of}
use Rattle.dms_tally.specs.Gone.{LinksStand, MayGo, OwnerStands, links_without, owner_without}
use Rattle.dms_tally.specs.Tally.{counted_removed, owned_removed, without_record}

-- ---- definitions

-- the owner's record owns one less, where there is one
abbrev pub owner_steps : ℕ → ℕ → List SlotStep
owner_steps set owner = if set == 0 then [] else record { set = set; number = owner; change = Disowned } ∷ []

-- the slots that are altered once a record has gone
abbrev pub release_steps : List Item → ℕ → Record → List SlotStep
release_steps items owner rec = uncount_from 0 items rec.values ++ owner_steps owner rec.owner

-- the slots have the records of a database, and count what it has
pub record AreCounted (desc : Described) (db : Db) (d : Content) : Type 0 where
  pub own : Tally
  pub files : RecordsStand desc db own d
  pub counts : Counts desc db own

-- ---- one link after another

module _ (values : List Value) where
  pub uncount_take : (k n : ℕ) (items : List Item) (i : Item) → n < length items → i ≡ get_or items n i
      → uncount_from k (take (n + 1) items) values ≡ uncount_from k (take n items) values ++ count_steps (counts_in_kind i.kind) (target_of (value_of values (k + n))) Uncounted
  uncount_take k n [] i low is = absurd (omega (arith, low))
  uncount_take k zero (x ∷ items) i low is =
      let e : k ≡ k + 0 = omega arith in
      append-nil (count_steps (counts_in_kind x.kind) (target_of (value_of values k)) Uncounted) ∙ (λ j. count_steps (counts_in_kind (sym is j).kind) (target_of (value_of values (e j))) Uncounted)
  uncount_take k (suc n) (x ∷ items) i low is =
      let e : suc n + 1 ≡ suc (n + 1) = omega arith in
      let m : (k + 1) + n ≡ k + suc n = omega arith in
      let first = count_steps (counts_in_kind x.kind) (target_of (value_of values k)) Uncounted in
      ap (λ t. uncount_from k (take t (x ∷ items)) values) e
      ∙ ap (λ (xs : List SlotStep). first ++ xs) (uncount_take (k + 1) n items i (omega (arith, low)) is ∙ ap (λ t. uncount_from (k + 1) (take n items) values ++ count_steps (counts_in_kind i.kind) (target_of (value_of values t)) Uncounted) m)
      ∙ sym (append_assoc first (uncount_from (k + 1) (take n items) values) (count_steps (counts_in_kind i.kind) (target_of (value_of values (k + suc n))) Uncounted))

  pub uncount_split : (k n : ℕ) (items : List Item) → uncount_from k items values ≡ uncount_from k (take n items) values ++ uncount_from (k + n) (drop n items) values
  uncount_split k zero items = ap (λ t. uncount_from t items values) (let e : k ≡ k + 0 = omega arith in e)
  uncount_split k (suc n) [] = refl
  uncount_split k (suc n) (x ∷ items) =
      let m : (k + 1) + n ≡ k + suc n = omega arith in
      let first = count_steps (counts_in_kind x.kind) (target_of (value_of values k)) Uncounted in
      ap (λ (xs : List SlotStep). first ++ xs) (uncount_split (k + 1) n items ∙ ap (λ t. uncount_from (k + 1) (take n items) values ++ uncount_from t (drop n items) values) m)
      ∙ sym (append_assoc first (uncount_from (k + 1) (take n items) values) (uncount_from (k + suc n) (drop n items) values))

  pub uncount_all : (k n : ℕ) (items : List Item) → length items ≤ n → uncount_from k (take n items) values ≡ uncount_from k items values
  uncount_all k zero [] past = refl
  uncount_all k (suc n) [] past = refl
  uncount_all k zero (x ∷ items) past = absurd (omega (arith, past))
  uncount_all k (suc n) (x ∷ items) past = ap (λ (xs : List SlotStep). count_steps (counts_in_kind x.kind) (target_of (value_of values k)) Uncounted ++ xs) (uncount_all (k + 1) n items (omega (arith, past)))

-- ---- one owner

onward : (b : Bool) (P Q : Type 0) → b ≡ true → EitherWay b P Q → P
onward true P Q is h = h
onward false P Q is h = absurd (cc is)

module _ (desc : Described) (have : HaveSlotFiles desc) (db : Db) (own : Tally) (c d : Content) (files : RecordsStand desc db own c) (set number : ℕ) (stands : is_some (get db.records (set, number)) ≡ true) where
  abbrev there : SlotThere desc db own c set number
  there = slot_there desc db own c files set number stands

  -- it owns one fewer
  pub owns_fewer : (done : Bool) → 1 ≤ own.owned set number → AltersIn desc set number Disowned c d done → (done ≡ true) × RecordsStand desc db (owned_at own set number (own.owned set number - 1)) d
  owns_fewer done some h =
      let mine = number_at desc have.numbered set there.shape there.at in
      let is : there.slot.owned ≡ own.owned set number = there.stands.owned ∙ ap (λ t. own.owned t number) mine in
      let one : 1 ≤ there.slot.owned = omega (arith, some, is) in
      let off : (there.slot.owned == 0) ≡ false = grind (arith, nat_tests, one) in
      let next = with_owned (there.slot.owned - 1) there.slot in
      let a = made desc db own c d have files set number stands Disowned next done (ap (λ b. cond b None (Some next)) off) h in
      (a.0, slot_disowned desc db own c d set number there.shape (is_of desc db own c d have files set number stands) Disowned files a.1 a.1.is_next)

-- ---- the database without the record

module _ (desc : Described) (have : HaveSlotFiles desc) (db : Db) (set number : ℕ) (s : Shape) (rec : Record) (at : structure_of desc set ≡ Some s) (may : MayGo desc db set number) (is : get db.records (set, number) ≡ Some rec)
    (links : LinksStand desc db.records (set, number) rec) (owner : OwnerStands desc db.records (set, number) rec) where
  abbrev after : Db
  after = without_record db set number

  abbrev own : Tally
  own = tally_of desc db

  abbrev less : Tally
  less = less_from 0 s.items rec.values own

  items_are : items_of (structure_of desc set) ≡ s.items
  items_are = ap items_of at

  owner_is : owner_of (structure_of desc set) ≡ s.owner
  owner_is = ap owner_of at

  from_first : AreFrom rec.values 0 rec.values
  from_first j = let e : 0 + j ≡ j = omega arith in ap (value_of rec.values) e

  -- what its links added to a count
  links_added : (t m : ℕ) → 1 ≤ t → counted_in desc after t m + added_by t m 0 s.items rec.values ≡ counted_in desc db t m
  links_added t m low =
      let added = added_is t m 0 s.items rec.values rec.values low from_first in
      let gone = counted_removed desc db set number rec t m is in
      let same : links_to t m (items_of (structure_of desc set)) rec.values ≡ links_to t m s.items rec.values = ap (λ (xs : List Item). links_to t m xs rec.values) items_are in
      omega (arith, added, gone, same)

  have_added : HaveAdded own 0 s.items rec.values
  have_added t m low = omega (arith, links_added t m low)

  counted_after : (t m : ℕ) → 1 ≤ t → less.counted t m ≡ counted_in desc after t m
  counted_after t m low = omega (arith, less_all own 0 s.items rec.values have_added t m low, links_added t m low)

  owned_before : (t m : ℕ) → less.owned t m ≡ owned_in desc db t m
  owned_before t m = ap (λ (f : ℕ → ℕ → ℕ). f t m) (owned_all own 0 s.items rec.values)

  -- and its owner
  owner_added : (t m : ℕ) → owned_in desc after t m + cond ((s.owner == t) && (rec.owner == m)) 1 0 ≡ owned_in desc db t m
  owner_added t m =
      let gone = owned_removed desc db set number rec t m is in
      let same : owners_of desc t m ((set, number), rec) ≡ cond ((s.owner == t) && (rec.owner == m)) 1 0 = ap (λ k. cond ((k == t) && (rec.owner == m)) 1 0) owner_is in
      omega (arith, gone, same)

  links_left : links_stand (remove db.records (set, number)) s.items rec.values ≡ true
  links_left = ap (λ (xs : List Item). links_stand (remove db.records (set, number)) xs rec.values) (sym items_are) ∙ links_without desc db set number may (set, number) rec is links

  disjoint_counts : (s.owner == 0) ≡ true → Counts desc after less
  disjoint_counts none = record { counted = counted_after; owned = λ t m low. omega (arith, owned_before t m, owner_added t m, off t m low) }
    where
      off : (t m : ℕ) → 1 ≤ t → ◌≡◌ {A = ℕ} (cond ((s.owner == t) && (rec.owner == m)) 1 0) 0
      off t m low =
          let no : (s.owner == t) ≡ false = grind (arith, nat_tests, none, low) in
          ap (λ b. cond (b && (rec.owner == m)) 1 0) no

  owner_left : (s.owner == 0) ≡ false → is_some (get after.records (s.owner, rec.owner)) ≡ true
  owner_left some =
      let stand : owner_stands after.records s.owner rec.owner ≡ true = ap (λ t. owner_stands after.records t rec.owner) (sym owner_is) ∙ owner_without desc db set number may (set, number) rec is owner in
      sym (ap (λ b. cond b (rec.owner == 0) (is_some (get after.records (s.owner, rec.owner)))) some) ∙ stand

  one_owned : 1 ≤ less.owned s.owner rec.owner
  one_owned =
      let on : ((s.owner == s.owner) && (rec.owner == rec.owner)) ≡ true = grind (arith, nat_tests) in
      let one : ◌≡◌ {A = ℕ} (cond ((s.owner == s.owner) && (rec.owner == rec.owner)) 1 0) 1 = ap (λ b. cond b 1 0) on in
      omega (arith, owned_before s.owner rec.owner, owner_added s.owner rec.owner, one)

  abbrev fewer : Tally
  fewer = owned_at less s.owner rec.owner (less.owned s.owner rec.owner - 1)

  owned_counts : Counts desc after fewer
  owned_counts = record { counted = counted_after; owned = λ t m low. by t m ((t == s.owner) && (m == rec.owner)) refl }
    where
      turned : (t m : ℕ) → ((s.owner == t) && (rec.owner == m)) ≡ ((t == s.owner) && (m == rec.owner))
      turned t m =
          let p : (s.owner == t) ≡ (t == s.owner) = grind (arith, nat_tests) in
          let q : (rec.owner == m) ≡ (m == rec.owner) = grind (arith, nat_tests) in
          λ i. p i && q i

      by : (t m : ℕ) (b : Bool) → ((t == s.owner) && (m == rec.owner)) ≡ b → cond b (less.owned s.owner rec.owner - 1) (less.owned t m) ≡ owned_in desc after t m
      by t m true h =
          let both = and_parts (t == s.owner) (m == rec.owner) h in
          let p : t ≡ s.owner = grind (arith, nat_tests, both.0) in
          let q : m ≡ rec.owner = grind (arith, nat_tests, both.1) in
          let same : less.owned s.owner rec.owner ≡ less.owned t m = λ i. less.owned ((sym p) i) ((sym q) i) in
          let one : ◌≡◌ {A = ℕ} (cond ((s.owner == t) && (rec.owner == m)) 1 0) 1 = ap (λ b. cond b 1 0) (turned t m ∙ h) in
          omega (arith, same, owned_before t m, owner_added t m, one)
      by t m false h =
          let none : ◌≡◌ {A = ℕ} (cond ((s.owner == t) && (rec.owner == m)) 1 0) 0 = ap (λ b. cond b 1 0) (turned t m ∙ h) in
          omega (arith, owned_before t m, owner_added t m, none)

  -- Where the slots have the records without it, they count what is left once these were altered.
  pub released : (c d : Content) (done : Bool) → RecordsStand desc after own c → AltersSteps desc (release_steps s.items s.owner rec) done c d → (done ≡ true) × AreCounted desc after d
  released c d done files h =
      let u = uncounted desc have after own c d 0 s.items rec.values rec.values (owner_steps s.owner rec.owner) done files have_added from_first links_left h in
      by u.0 (s.owner == 0) refl u.1 u.2
    where
      by : (e : Content) (b : Bool) → (s.owner == 0) ≡ b → RecordsStand desc after less e → AltersSteps desc (cond b [] (record { set = s.owner; number = rec.owner; change = Disowned } ∷ [])) done e d → (done ≡ true) × AreCounted desc after d
      by e true none stand rest = (rest.0, record { own = less; files = subst (RecordsStand desc after less) (sym rest.1) stand; counts = disjoint_counts none })
      by e false some stand (z, b, a, rest) =
          let one = owns_fewer desc have after less e z stand s.owner rec.owner (owner_left some) b one_owned a in
          let end = onward b (AltersSteps desc [] done z d) ((done ≡ false) × (d ≡ z)) one.0 rest in
          (end.0, record { own = fewer; files = subst (RecordsStand desc after fewer) (sym end.1) one.1; counts = owned_counts })
