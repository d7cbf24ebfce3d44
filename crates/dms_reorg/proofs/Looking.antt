-- The keys and conditions of a description that a schema can have name items that are there.
use Rattle.std.proofs.Common.{◌≡◌, ◌∙◌, ◌-◌, ◌<◌, ◌||◌, ◌==◌, nat_lt, ℕ, zero, suc, List, [], ◌∷◌, Bool, true, false, cond, eqb, Some, None, refl, sym, ap, subst, length, arith}
use Rattle.std.specs.Prelude.{slice_get}
use Rattle.std.specs.List.{list_all}
use Rattle.std.specs.declared.option.Option.{Option}
use Rattle.std.proofs.lemmas.Bool.{and_parts}
use Rattle.std.proofs.lemmas.Bool.Decides.{nat_tests}
use Rattle.std.proofs.lemmas.Option.{slice_get_within}
use Rattle.dms_base.specs.declared.value.Value.{Value}
use Rattle.dms_desc.specs.declared.structure.Item.{Item}
use Rattle.dms_desc.specs.declared.structure.KeyPart.{KeyPart}
use Rattle.dms_desc.specs.Kinds.{is_automatic}
use Rattle.dms_desc.specs.Lookups.{items_of, structure_of}
use Rattle.dms_desc.specs.Shape.{Described, Shape, Tree, Empty, Test, Both, Either, Contrary}
use Rattle.dms_desc_bytes.specs.Conditions.{compares_well, is_comparable, is_condition, is_nothing}
use Rattle.dms_desc_bytes.specs.Finding.{item_at, items_at}
use Rattle.dms_desc_bytes.specs.Lists.{is_empty}
use Rattle.dms_desc_bytes.specs.Spelling.{is_data_set as is_set_kind}
use Rattle.dms_desc_bytes.specs.WellFormed.{IsWellFormed, are_sound, is_data_set_sound, is_set_sound, is_sound}
use Rattle.dms_sets.specs.Sets.{items_over}
use Rattle.dms_sets.specs.Spots.{NameItems}
use Rattle.dms_reorg.proofs.Prefixes.{LooksWithin, PartsWithin, TestsWithin}

parts_within : (items : List Item) (ps : List KeyPart) → NameItems items ps → PartsWithin (length items) ps
parts_within items [] all = tt
parts_within items (p ∷ ps) all = (slice_get_within items (p.item - 1) all.0.0 all.0.1, parts_within items ps all.1)

module _ (items : List Item) where
  item_within : (o : Option Item) (n : ℕ) (v : Value) → item_at items n ≡ o → is_comparable o v ≡ true → n - 1 < length items
  item_within None n v at h = absurd (cc)
  item_within (Some i) n v at h = by (n == 0) at
    where
      by : (b : Bool) → cond b None (slice_get items (n - 1)) ≡ Some i → n - 1 < length items
      by true e = absurd (cc)
      by false e = slice_get_within items (n - 1) i e

  compared_within : (t : Tree) → compares_well items t ≡ true → TestsWithin (length items) t
  compared_within Empty h = tt
  compared_within (Test n op v) h = item_within (item_at items n) n v refl h
  compared_within (Both a b) h = let two = and_parts (compares_well items a) (compares_well items b) h in (compared_within a two.0, compared_within b two.1)
  compared_within (Either a b) h = let two = and_parts (compares_well items a) (compares_well items b) h in (compared_within a two.0, compared_within b two.1)
  compared_within (Contrary a) h = compared_within a h

  nothing_within : (n : ℕ) (t : Tree) → is_nothing t ≡ true → TestsWithin n t
  nothing_within n Empty h = tt
  nothing_within n (Test m op v) h = absurd (cc)
  nothing_within n (Both a b) h = absurd (cc)
  nothing_within n (Either a b) h = absurd (cc)
  nothing_within n (Contrary a) h = absurd (cc)

  condition_within : (t : Tree) → is_condition items t ≡ true → TestsWithin (length items) t
  unfolding is_condition
  condition_within t h = compared_within t (and_parts _ _ h).1

  where_within : (b : Bool) (t : Tree) → cond b (is_condition items t) (is_nothing t) ≡ true → TestsWithin (length items) t
  where_within true t h = condition_within t h
  where_within false t h = nothing_within (length items) t h

  verify_within : (a b : Bool) (t : Tree) → is_nothing t ≡ a → is_condition items t ≡ b → (a || b) ≡ true → TestsWithin (length items) t
  verify_within true b t is at h = nothing_within (length items) t is
  verify_within false b t is at h = condition_within t (at ∙ h)

-- the condition of a set
set_within : (ss : List Shape) (s : Shape) → is_set_sound ss s ≡ true → TestsWithin (length (items_at ss s.set)) s.cond
unfolding is_set_sound
set_within ss s h = where_within (items_at ss s.set) (is_automatic s) s.cond (and_parts _ _ (and_parts _ _ (and_parts _ _ h).0).0).1

-- and of a data set
verified_within : (ss : List Shape) (s : Shape) → is_data_set_sound ss s ≡ true → TestsWithin (length s.items) s.cond
unfolding is_data_set_sound
verified_within ss s h = verify_within s.items (is_nothing s.cond) (is_condition s.items s.cond) s.cond refl refl (and_parts _ _ (and_parts _ _ h).0).1

nothing_in : {A : Type 0} (xs : List A) → is_empty xs ≡ true → xs ≡ []
nothing_in [] h = refl
nothing_in (x ∷ xs) h = absurd (cc)

all_at : {A : Type 0} (test : A → Bool) (xs : List A) (k : ℕ) (x : A) → list_all test xs ≡ true → slice_get xs k ≡ Some x → test x ≡ true
all_at test [] k x h at = absurd (cc)
all_at test (y ∷ ys) zero x h at = let is : y ≡ x = cc in ap test (sym is) ∙ (and_parts (test y) (list_all test ys) h).0
all_at test (y ∷ ys) (suc k) x h at = all_at test ys k x (and_parts (test y) (list_all test ys) h).1 at

-- the kind of a set or subset is none of a data set
no_set_kind : (k : ℕ) → nat_lt 2 k ≡ true → is_set_kind k ≡ false
no_set_kind k high = grind (arith, nat_tests, high)

-- the structure with a number is sound
module _ (desc : Described) (well : IsWellFormed desc) where
  all_sound : list_all (is_sound desc.structures) desc.structures ≡ true
  unfolding are_sound
  all_sound = (and_parts _ _ well.structures).1

  pub sound_at : (n : ℕ) (s : Shape) → structure_of desc n ≡ Some s → is_sound desc.structures s ≡ true
  sound_at n s h = by (eqb n 0) h
    where
      by : (b : Bool) → cond b None (slice_get desc.structures (n - 1)) ≡ Some s → is_sound desc.structures s ≡ true
      by true h = absurd (cc)
      by false h = all_at (is_sound desc.structures) desc.structures (n - 1) s all_sound h

  over_set : (s : Shape) → nat_lt 2 s.kind ≡ true → items_over desc s ≡ items_at desc.structures s.set
  unfolding items_at
  over_set s high =
      let off : nat_lt s.kind 3 ≡ false = grind (arith, nat_tests, high) in
      ap (λ b. items_of (structure_of desc (cond b s.number s.set))) off

  set_sound_at : (n : ℕ) (s : Shape) → structure_of desc n ≡ Some s → nat_lt 2 s.kind ≡ true → is_set_sound desc.structures s ≡ true
  unfolding is_sound
  set_sound_at n s at high = ap (λ b. cond b (is_data_set_sound desc.structures s) (is_set_sound desc.structures s)) (sym (no_set_kind s.kind high)) ∙ (and_parts _ _ (sound_at n s at)).1

  data_set_sound_at : (n : ℕ) (s : Shape) → structure_of desc n ≡ Some s → is_set_kind s.kind ≡ true → is_data_set_sound desc.structures s ≡ true
  unfolding is_sound
  data_set_sound_at n s at is = ap (λ b. cond b (is_data_set_sound desc.structures s) (is_set_sound desc.structures s)) (sym is) ∙ (and_parts _ _ (sound_at n s at)).1

  -- the key and the condition of a set name items of its data set
  pub set_looks : (n : ℕ) (s : Shape) → structure_of desc n ≡ Some s → nat_lt 2 s.kind ≡ true → NameItems (items_over desc s) s.parts → LooksWithin (length (items_over desc s)) s
  set_looks n s at high named = record {
    parts = parts_within (items_over desc s) s.parts named;
    cond = subst (λ (l : List Item). TestsWithin (length l) s.cond) (sym (over_set s high)) (set_within desc.structures s (set_sound_at n s at high));
  }

  -- a set has no items
  pub set_bare : (n : ℕ) (s : Shape) → structure_of desc n ≡ Some s → nat_lt 2 s.kind ≡ true → s.items ≡ []
  unfolding is_set_sound
  set_bare n s at high = nothing_in s.items (and_parts _ _ (and_parts _ _ (set_sound_at n s at high)).0).1

  -- and the condition of a data set names its items
  pub data_set_tests : (n : ℕ) (s : Shape) → structure_of desc n ≡ Some s → is_set_kind s.kind ≡ true → TestsWithin (length s.items) s.cond
  data_set_tests n s at is = verified_within desc.structures s (data_set_sound_at n s at is)
