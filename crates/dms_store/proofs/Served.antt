-- A description that a schema can have is one that a store can keep a database under.
use Rattle.std.proofs.Common.{◌≡◌, ◌∙◌, ◌+◌, ◌-◌, ◌<◌, ◌≤◌, ◌==◌, ◌&&◌, ◌||◌, ℕ, List, [], ◌∷◌, Bool, true, false, cond, nat_le, nat_lt, Some, None, refl, sym, ap, subst, length, slice_get, arith}
use Rattle.std.specs.List.{AllByRecursion, list_all}
use Rattle.std.specs.declared.option.Option.{Option}
use Rattle.std.proofs.lemmas.Bool.Decides.{nat_tests}
use Rattle.std.proofs.lemmas.Bool.{and_parts, not-true, or_parts}
use Rattle.dms_base.specs.declared.kind.ItemKind.{ItemKind}
use Rattle.dms_base.specs.declared.kind.ItemKind.TheVariants.{Alpha, Number as Decimal, Bool as OneBit, Field, Link}
use Rattle.dms_base.specs.declared.value.Value.{Value}
use Rattle.dms_base.specs.Fits.{IsKind}
use Rattle.dms_base.specs.Spelling.{is_kind}
use Rattle.dms_desc.specs.declared.structure.Item.{Item}
use Rattle.dms_desc.specs.declared.structure.KeyPart.{KeyPart}
use Rattle.dms_desc.specs.Lookups.{items_of, structure_at, structure_of}
use Rattle.dms_desc.specs.Shape.{Shape, Described, Tree, Empty, Test, Both, Either, Contrary}
use Rattle.dms_desc_bytes.specs.Conditions.{compares_well, is_comparable, is_condition, is_nothing}
use Rattle.dms_desc_bytes.specs.Finding.{item_at, items_at, kind_of, kind_in as structure_kind}
use Rattle.dms_desc_bytes.specs.Lists.{is_empty, is_within, total}
use Rattle.dms_desc_bytes.specs.Members.{is_item_sound}
use Rattle.dms_desc_bytes.specs.Spelling.{is_data_set as is_set_kind}
use Rattle.dms_desc_bytes.specs.WellFormed as well
use Rattle.dms_desc_bytes.specs.WellFormed.{IsWellFormed, are_sound, has_sound_items, is_data_set_sound, is_key_item, is_key_sound, is_part_sound, is_set_sound, is_sound, lacks_set_fields, stand_in_order}
use Rattle.dms_key.specs.KeyBytes as bytes
use Rattle.dms_layout.specs.Slots.{AreKinds, slot_width}
use Rattle.dms_model.specs.Valid.{is_data_set, is_manual}
use Rattle.dms_sets.specs.Entries.{kinds_of}
use Rattle.dms_sets.specs.Padded.{entry_width}
use Rattle.dms_sets.specs.Sets.{items_over}
use Rattle.dms_sets.specs.Spots.{NameItems}
use Rattle.dms_sets.specs.Stored.{NamesNoLink, NamesNoLinks, TestsNoLink, is_link_at}
use Rattle.dms_links.specs.Rows.{AreNumbered}
use Rattle.dms_spelling.specs.Serving.{IsServed, IsServedSet, IsServedShape}
use Rattle.dms_entries.specs.BoundFits.{kind_there}
use Rattle.dms_desc.specs.Kinds.{is_set_or_automatic}

-- ---- numbers and lists

within : (a b n : ℕ) → is_within a b n ≡ true → (a ≤ n) × (n ≤ b)
within a b n h = let two = and_parts (nat_le a n) (nat_le n b) h in (grind (arith, nat_tests, two.0), grind (arith, nat_tests, two.1))

at_most : (n b : ℕ) → nat_le n b ≡ true → n ≤ b
at_most n b h = grind (arith, nat_tests, h)

nothing_in : {A : Type 0} (xs : List A) → is_empty xs ≡ true → xs ≡ []
nothing_in [] h = refl
nothing_in (x ∷ xs) h = absurd (cc)

numbered_in : (k : ℕ) (ss : List Shape) → stand_in_order k ss ≡ true → AreNumbered k ss
numbered_in k [] h = tt
numbered_in k (s ∷ ss) h = let two = and_parts (s.number == k) (stand_in_order (k + 1) ss) h in (grind (arith, nat_tests, two.0), numbered_in (k + 1) ss two.1)

-- ---- items

kind_in : (k : ItemKind) → is_kind k ≡ true → IsKind k
kind_in (Alpha n) h = within 1 200 n h
kind_in (Decimal n m s) h =
    let two = and_parts (nat_le 1 n && nat_le n 18) (nat_le m n) h in
    let size = within 1 18 n two.0 in
    (size.0, size.1, at_most m n two.1)
kind_in OneBit h = tt
kind_in (Field n) h = within 1 48 n h
kind_in (Link to counted) h = tt

item_kind : (ss : List Shape) (i : Item) → is_item_sound ss i ≡ true → IsKind i.kind
unfolding is_item_sound
item_kind ss i h =
    let a = and_parts _ _ h in
    let b = and_parts _ _ a.0 in
    let c = and_parts _ _ b.0 in
    kind_in i.kind (and_parts _ _ c.0).1

kinds_in : (ss : List Shape) (items : List Item) → list_all (is_item_sound ss) items ≡ true → AreKinds items
kinds_in ss [] h = tt
kinds_in ss (i ∷ is) h = let two = and_parts (is_item_sound ss i) (list_all (is_item_sound ss) is) h in (item_kind ss i two.0, kinds_in ss is two.1)

-- ---- an item by its number

item_from : (items : List Item) (n : ℕ) (i : Item) → item_at items n ≡ Some i → slice_get items (n - 1) ≡ Some i
item_from items n i h = by (n == 0) h
  where
    by : (b : Bool) → cond b None (slice_get items (n - 1)) ≡ Some i → slice_get items (n - 1) ≡ Some i
    by true h = absurd (cc)
    by false h = h

-- what a part of a key names
record NamesItem (items : List Item) (n : ℕ) : Type 0 where
  item : Item
  is : item_at items n ≡ Some item
  there : slice_get items (n - 1) ≡ Some item
  no_link : NamesNoLink items n

key_item : (o : Option Item) (items : List Item) (n : ℕ) → item_at items n ≡ o → is_key_item o ≡ true → NamesItem items n
key_item None items n at h = absurd (cc)
key_item (Some i) items n at h =
    let there = item_from items n i at in
    record { item = i; is = at; there = there; no_link = ap is_link_at there ∙ not-true _ h }

part_named : (items : List Item) (p : KeyPart) → is_part_sound items p ≡ true → NamesItem items p.item
part_named items p h = key_item (item_at items p.item) items p.item refl h

-- ---- keys and conditions

module _ (items : List Item) where
  parts_named : (ps : List KeyPart) → list_all (is_part_sound items) ps ≡ true → NameItems items ps
  parts_named [] h = tt
  parts_named (p ∷ ps) h =
      let two = and_parts (is_part_sound items p) (list_all (is_part_sound items) ps) h in
      let here = part_named items p two.0 in
      ((here.item, here.there), parts_named ps two.1)

  parts_unlinked : (ps : List KeyPart) → list_all (is_part_sound items) ps ≡ true → AllByRecursion (λ p. NamesNoLink items p.item) ps
  parts_unlinked [] h = tt
  parts_unlinked (p ∷ ps) h =
      let two = and_parts (is_part_sound items p) (list_all (is_part_sound items) ps) h in
      ((part_named items p two.0).no_link, parts_unlinked ps two.1)

  part_wide : (p : KeyPart) → is_part_sound items p ≡ true → bytes.part_width (bytes.kind_of (kinds_of items) p) ≡ well.part_width items p
  part_wide p h =
      let here = part_named items p h in
      ap bytes.part_width (kind_there items (p.item - 1) here.item here.there) ∙ sym (ap well.width_in here.is)

  parts_wide : (ps : List KeyPart) → list_all (is_part_sound items) ps ≡ true → bytes.key_width (kinds_of items) ps ≡ total (well.part_width items) ps
  parts_wide [] h = refl
  parts_wide (p ∷ ps) h =
      let two = and_parts (is_part_sound items p) (list_all (is_part_sound items) ps) h in
      (λ i. part_wide p two.0 i + parts_wide ps two.1 i)

  comparable : (o : Option Item) (n : ℕ) (v : Value) → item_at items n ≡ o → is_comparable o v ≡ true → NamesNoLink items n
  comparable None n v at h = absurd (cc)
  comparable (Some i) n v at h = (key_item (Some i) items n at (and_parts _ _ (and_parts _ _ h).0).0).no_link

  tests_unlinked : (t : Tree) → compares_well items t ≡ true → TestsNoLink items t
  tests_unlinked Empty h = tt
  tests_unlinked (Test n op v) h = comparable (item_at items n) n v refl h
  tests_unlinked (Both a b) h = let two = and_parts (compares_well items a) (compares_well items b) h in (tests_unlinked a two.0, tests_unlinked b two.1)
  tests_unlinked (Either a b) h = let two = and_parts (compares_well items a) (compares_well items b) h in (tests_unlinked a two.0, tests_unlinked b two.1)
  tests_unlinked (Contrary a) h = tests_unlinked a h

  nothing_unlinked : (t : Tree) → is_nothing t ≡ true → TestsNoLink items t
  nothing_unlinked Empty h = tt
  nothing_unlinked (Test n op v) h = absurd (cc)
  nothing_unlinked (Both a b) h = absurd (cc)
  nothing_unlinked (Either a b) h = absurd (cc)
  nothing_unlinked (Contrary a) h = absurd (cc)

  condition_unlinked : (t : Tree) → is_condition items t ≡ true → TestsNoLink items t
  unfolding is_condition
  condition_unlinked t h = tests_unlinked t (and_parts _ _ h).1

  where_unlinked : (b : Bool) (t : Tree) → cond b (is_condition items t) (is_nothing t) ≡ true → TestsNoLink items t
  where_unlinked true t h = condition_unlinked t h
  where_unlinked false t h = nothing_unlinked t h

-- a key
record IsPartsKey (items : List Item) (ps : List KeyPart) : Type 0 where
  few : length ps ≤ 16
  parts : list_all (is_part_sound items) ps ≡ true
  wide : total (well.part_width items) ps ≤ 96

key_sound : (items : List Item) (ps : List KeyPart) → is_key_sound items ps ≡ true → IsPartsKey items ps
unfolding is_key_sound
key_sound items ps h =
    let a = and_parts _ _ h in
    let b = and_parts _ _ a.0 in
    let c = and_parts _ _ b.0 in
    record { few = at_most (length ps) 16 c.0; parts = c.1; wide = at_most (total (well.part_width items) ps) 96 a.1 }

-- ---- kinds

-- the kind of a data set isn't that of a set or subset
set_apart : (k : ℕ) → is_set_kind k ≡ true → nat_lt 2 k ≡ true → ⊥
set_apart k h more = by (k == 1) refl h
  where
    apart : false ≡ true → ⊥
    apart e = absurd (cc)

    by : (b : Bool) → (k == 1) ≡ b → (b || (k == 2)) ≡ true → ⊥
    by true e h = let is : k ≡ 1 = grind (arith, nat_tests, e) in apart (sym (ap (nat_lt 2) is) ∙ more)
    by false e h = let is : k ≡ 2 = grind (arith, nat_tests, h) in apart (sym (ap (nat_lt 2) is) ∙ more)

-- and that of another structure is none of a data set
no_set : (k : ℕ) → is_set_kind k ≡ false → 1 ≤ k → 2 < k
no_set k h low = let n = or_parts (k == 1) (k == 2) h in grind (arith, nat_tests, n.0, n.1, low)

few_of : (b : Bool) (n : ℕ) → cond b (is_within 1 1000000 n) (n == 0) ≡ true → n ≤ 1000000
few_of true n h = (within 1 1000000 n h).1
few_of false n h = let is : n ≡ 0 = grind (arith, nat_tests, h) in omega (arith, is)

-- a structure with the kind of a data set is one
data_set_of : (o : Option Shape) → is_set_kind (structure_kind o) ≡ true → is_data_set o ≡ true
data_set_of None h = absurd (cc)
data_set_of (Some s) h = by (s.kind == 1) refl h
  where
    by : (b : Bool) → (s.kind == 1) ≡ b → (b || (s.kind == 2)) ≡ true → (nat_lt 0 s.kind && nat_lt s.kind 3) ≡ true
    by true e h = let is : s.kind ≡ 1 = grind (arith, nat_tests, e) in ap (λ n. nat_lt 0 n && nat_lt n 3) is
    by false e h = let is : s.kind ≡ 2 = grind (arith, nat_tests, h) in ap (λ n. nat_lt 0 n && nat_lt n 3) is

-- ---- structures

-- the key and the condition of a set over these items
record KeyServes (items : List Item) (s : Shape) : Type 0 where
  names : NameItems items s.parts
  links : NamesNoLinks items s
  width : entry_width (kinds_of items) s.parts ≤ 104
  few : length s.parts ≤ 16

set_over : (desc : Described) (s : Shape) → is_data_set (structure_of desc s.set) ≡ true → KeyServes (items_over desc s) s → IsServedSet desc s
set_over desc s is k = record { data_set = is; named = record { items = k.names; links = k.links }; few = k.few; width = k.width }

module _ (desc : Described) (s : Shape) (low : 1 ≤ s.kind) (most : s.kind ≤ 5) where
  -- what a structure has to be
  abbrev IsFit : Type 0
  IsFit = IsServedShape s × (nat_lt 2 s.kind ≡ true → IsServedSet desc s)

  data_set_served : is_set_kind s.kind ≡ true → is_data_set_sound desc.structures s ≡ true → IsFit
  unfolding is_data_set_sound has_sound_items lacks_set_fields
  data_set_served is h =
      let a = and_parts _ _ h in
      let b = and_parts _ _ a.0 in
      let c = and_parts _ _ b.0 in
      let d = and_parts _ _ c.0 in
      let e = and_parts _ _ d.0 in
      let items = and_parts _ _ e.1 in
      let few = and_parts _ _ items.0 in
      let wide = at_most _ 480 items.1 in (
        record {
          low = low;
          most = most;
          few = at_most _ 60 few.0;
          fits = omega (arith, wide);
          kinds = kinds_in desc.structures s.items few.1;
          population = (within 1 1000000 s.population (and_parts _ _ e.0).0).1;
          keyless = λ u. nothing_in s.parts (and_parts _ _ a.1).1;
        },
        λ high. absurd (set_apart s.kind is high),
      )

  over_set : 2 < s.kind → items_over desc s ≡ items_at desc.structures s.set
  unfolding items_at
  over_set more =
      let off : nat_lt s.kind 3 ≡ false = grind (arith, nat_tests, more) in
      ap (λ b. items_of (structure_at desc.structures (cond b s.number s.set))) off

  over_kind : is_set_kind (kind_of desc.structures s.set) ≡ true → is_set_kind (structure_kind (structure_at desc.structures s.set)) ≡ true
  unfolding kind_of
  over_kind h = h

  set_served : is_set_kind s.kind ≡ false → is_set_sound desc.structures s ≡ true → IsFit
  unfolding is_set_sound
  set_served other h =
      let a = and_parts _ _ h in
      let b = and_parts _ _ a.0 in
      let c = and_parts _ _ b.0 in
      let d = and_parts _ _ c.0 in
      let e = and_parts _ _ d.0 in
      let f = and_parts _ _ e.0 in
      let g = and_parts _ _ f.0 in
      let more = no_set s.kind other low in
      let none : s.items ≡ [] = nothing_in s.items b.1 in
      let is = over_set more in
      let items = items_at desc.structures s.set in
      let key : IsPartsKey items s.parts = key_sound items s.parts f.1 in
      let wide = parts_wide items s.parts key.parts in (
        record {
          low = low;
          most = most;
          few = subst (λ (xs : List Item). length xs ≤ 60) (sym none) (omega arith);
          fits = subst (λ (xs : List Item). slot_width xs ≤ 1024) (sym none) (omega arith);
          kinds = subst AreKinds (sym none) tt;
          population = few_of (s.kind == 5) s.population (and_parts _ _ g.0).1;
          keyless = λ h. let two = and_parts (nat_lt 0 s.kind) (nat_lt s.kind 3) h in let low : s.kind < 3 = grind (arith, nat_tests, two.1) in absurd (omega (arith, low, more));
        },
        λ high. set_over desc s (data_set_of (structure_at desc.structures s.set) (over_kind (and_parts _ _ (and_parts _ _ g.0).0).0)) (subst (λ (xs : List Item). KeyServes xs s) (sym is) (record {
          names = parts_named items s.parts key.parts;
          links = record { parts = parts_unlinked items s.parts key.parts; cond = where_unlinked items (s.kind == 4) s.cond c.1 };
          width = omega (arith, wide, key.wide);
          few = key.few;
        })),
      )

  by_kind : (b : Bool) → is_set_kind s.kind ≡ b → cond b (is_data_set_sound desc.structures s) (is_set_sound desc.structures s) ≡ true → IsFit
  by_kind true is h = data_set_served is h
  by_kind false is h = set_served is h

above : (k : ℕ) → (k == 5) ≡ true → nat_lt 2 k ≡ true
above k h = let is : k ≡ 5 = grind (arith, nat_tests, h) in ap (nat_lt 2) is

shape_served : (desc : Described) (s : Shape) → is_sound desc.structures s ≡ true → IsServedShape s × (nat_lt 2 s.kind ≡ true → IsServedSet desc s)
unfolding is_sound
shape_served desc s h =
    let a = and_parts _ _ h in
    let b = and_parts _ _ a.0 in
    let c = and_parts _ _ b.0 in
    let d = and_parts _ _ c.0 in
    let e = and_parts _ _ d.0 in
    let kind = within 1 5 s.kind e.0 in
    by_kind desc s kind.0 kind.1 (is_set_kind s.kind) refl a.1

module _ (desc : Described) where
  each_served : (ss : List Shape) → list_all (is_sound desc.structures) ss ≡ true → AllByRecursion IsServedShape ss
  each_served [] h = tt
  each_served (s ∷ ss) h =
      let two = and_parts (is_sound desc.structures s) (list_all (is_sound desc.structures) ss) h in
      ((shape_served desc s two.0).0, each_served ss two.1)

  sets_served : (p : Shape → Bool) → ((s : Shape) → p s ≡ true → nat_lt 2 s.kind ≡ true) → (ss : List Shape) → list_all (is_sound desc.structures) ss ≡ true → AllByRecursion (λ s. p s ≡ true → IsServedSet desc s) ss
  sets_served p high [] h = tt
  sets_served p high (s ∷ ss) h =
      let two = and_parts (is_sound desc.structures s) (list_all (is_sound desc.structures) ss) h in
      ((λ is. (shape_served desc s two.0).1 (high s is)), sets_served p high ss two.1)

  pub served : IsWellFormed desc → IsServed desc
  unfolding are_sound
  served formed =
      let a = and_parts _ _ formed.structures in
      let b = and_parts _ _ a.0 in
      let c = and_parts _ _ b.0 in
      let d = and_parts _ _ c.0 in
      let e = and_parts _ _ d.0 in
      let f = and_parts _ _ e.0 in
      record {
        count = at_most (length desc.structures) 200 f.0;
        numbered = numbered_in 1 desc.structures f.1;
        each = each_served desc.structures a.1;
        sets = sets_served is_set_or_automatic (λ s kept. (and_parts (nat_lt 2 s.kind) (nat_lt s.kind 5) kept).0) desc.structures a.1;
        manual = sets_served (λ s. is_manual (Some s)) (λ s manual. above s.kind manual) desc.structures a.1;
        links = at_most _ 4000 b.1;
      }
