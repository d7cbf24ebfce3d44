-- The links of a record that is stored, and how many of them are counted.
use Rattle.std.proofs.Common.{◌≡◌, ◌∙◌, ◌+◌, ℕ, suc, List, [], ◌∷◌, true, false, cond, Some, refl, ap, slice_get, length, arith}
use Rattle.std.specs.Prelude.{T, ◌&&◌, ◌==◌, sum_by}
use Rattle.std.specs.List.{AllByRecursion}
use Rattle.std.specs.FinMap.{find, is_sorted}
use Rattle.std.proofs.lemmas.List.Sums.{sum_by-cons}
use Rattle.dms_base.specs.declared.kind.ItemKind.{ItemKind}
use Rattle.dms_base.specs.declared.kind.ItemKind.TheVariants.{Alpha, Number as Decimal, Bool as OneBit, Field, Link}
use Rattle.dms_base.specs.declared.value.Value.{Value}
use Rattle.dms_base.specs.declared.value.Value.TheVariants.{Null}
use Rattle.dms_desc.specs.Conds.{or_null}
use Rattle.dms_desc.specs.Kinds.{is_link}
use Rattle.dms_desc.specs.declared.record.Record.{Record}
use Rattle.dms_desc.specs.declared.structure.Item.{Item}
use Rattle.dms_model.specs.Db.{Place, Records, place_cmp}
use Rattle.dms_model.specs.Stores.{kept_value, linked_from}
use Rattle.dms_model.specs.Valid.{link_stands}
use Rattle.dms_sets.specs.Spots.{StandsAmong, all_found}
use Rattle.dms_tally.specs.Counts.{is_counted_to, links_stand, links_to}
use Rattle.dms_slots.specs.SlotBlockLaws.{both_false}

-- ---- a sum of nothing

sum_all : (f : Place × Record → ℕ) (es fs : List (Place × Record)) → AllByRecursion (StandsAmong es) fs → ((p : Place) (r : Record) → find place_cmp p es ≡ Some r → f (p, r) ≡ 0) → sum_by f fs ≡ 0
sum_all f es [] found none = refl
sum_all f es (e ∷ fs) found none =
    let here : f e ≡ 0 = none e.0 e.1 found.0 in
    let rest = sum_all f es fs found.1 none in
    omega (arith, sum_by-cons f e fs, here, rest)

pub sum_none : (f : Place × Record → ℕ) (es : List (Place × Record)) → ((p : Place) (r : Record) → find place_cmp p es ≡ Some r → f (p, r) ≡ 0) → T (is_sorted place_cmp es) → sum_by f es ≡ 0
sum_none f es none order = sum_all f es es (all_found es order) none

-- ---- the links of what is stored

kept_counted : (t m : ℕ) (k : ItemKind) (o v : Value) → is_counted_to t m k (cond (is_link k) o v) ≡ is_counted_to t m k o
kept_counted t m (Alpha n) o v = refl
kept_counted t m (Decimal n d s) o v = refl
kept_counted t m OneBit o v = refl
kept_counted t m (Field n) o v = refl
kept_counted t m (Link to counted) o v = refl

null_counted : (t m : ℕ) (k : ItemKind) → is_counted_to t m k Null ≡ false
null_counted t m (Alpha n) = refl
null_counted t m (Decimal n d s) = refl
null_counted t m OneBit = refl
null_counted t m (Field n) = refl
null_counted t m (Link to counted) = both_false (counted && (to == t))

kept_stands : (m : Records) (k : ItemKind) (o v : Value) → link_stands m k (cond (is_link k) o v) ≡ link_stands m k o
kept_stands m (Alpha n) o v = refl
kept_stands m (Decimal n d s) o v = refl
kept_stands m OneBit o v = refl
kept_stands m (Field n) o v = refl
kept_stands m (Link to counted) o v = refl

null_stands : (m : Records) (k : ItemKind) → link_stands m k Null ≡ true
null_stands m (Alpha n) = refl
null_stands m (Decimal n d s) = refl
null_stands m OneBit = refl
null_stands m (Field n) = refl
null_stands m (Link to counted) = refl

pub links_none : (t m : ℕ) (is : List Item) → links_to t m is [] ≡ 0
links_none t m [] = refl
links_none t m (i ∷ is) = refl

stands_none : (m : Records) (is : List Item) → links_stand m is [] ≡ true
stands_none m [] = refl
stands_none m (i ∷ is) = refl

-- these are the items, and the old values, from a place on
record AreBehind (i : ℕ) (items is : List Item) (olds os : List Value) : Type 0 where
  items_are : (j : ℕ) → slice_get items (i + j) ≡ slice_get is j
  olds_are : (j : ℕ) → or_null (slice_get olds (i + j)) ≡ or_null (slice_get os j)

behind_next : (i : ℕ) (items is : List Item) (olds os : List Value) (k : Item) (o : Value) → AreBehind i items (k ∷ is) olds (o ∷ os) → AreBehind (i + 1) items is olds os
behind_next i items is olds os k o b = record {
  items_are = λ j. let e : (i + 1) + j ≡ i + suc j = omega arith in ap (slice_get items) e ∙ b.items_are (suc j);
  olds_are = λ j. let e : (i + 1) + j ≡ i + suc j = omega arith in ap (λ n. or_null (slice_get olds n)) e ∙ b.olds_are (suc j);
}

behind_none : (i : ℕ) (items is : List Item) (olds : List Value) (k : Item) → AreBehind i items (k ∷ is) olds [] → AreBehind (i + 1) items is olds []
behind_none i items is olds k b = record {
  items_are = λ j. let e : (i + 1) + j ≡ i + suc j = omega arith in ap (slice_get items) e ∙ b.items_are (suc j);
  olds_are = λ j. let e : (i + 1) + j ≡ i + suc j = omega arith in ap (λ n. or_null (slice_get olds n)) e ∙ b.olds_are (suc j);
}

-- what is stored for a value, where these are the item and the old value
kept_is : (i : ℕ) (items is : List Item) (olds os : List Value) (k : Item) (v : Value) → AreBehind i items (k ∷ is) olds os → kept_value (slice_get items i) (or_null (slice_get olds i)) v ≡ cond (is_link k.kind) (or_null (slice_get os 0)) v
kept_is i items is olds os k v b =
    let e : i ≡ i + 0 = omega arith in
    (λ j. kept_value ((ap (slice_get items) e ∙ b.items_are 0) j) ((ap (λ n. or_null (slice_get olds n)) e ∙ b.olds_are 0) j) v)

behind_all : (items : List Item) (olds : List Value) → AreBehind 0 items items olds olds
behind_all items olds = record {
  items_are = λ j. let e : 0 + j ≡ j = omega arith in ap (slice_get items) e;
  olds_are = λ j. let e : 0 + j ≡ j = omega arith in ap (λ n. or_null (slice_get olds n)) e;
}

module _ (t m : ℕ) (items : List Item) (olds : List Value) where
  links_behind : (i : ℕ) (is : List Item) (vs os : List Value) → AreBehind i items is olds os → length vs ≡ length is → links_to t m is (linked_from i items olds vs) ≡ links_to t m is os
  links_behind i [] vs os b long = refl
  links_behind i (k ∷ is) [] os b long = absurd (omega (arith, long))
  links_behind i (k ∷ is) (v ∷ vs) [] b long =
      let here : is_counted_to t m k.kind (kept_value (slice_get items i) (or_null (slice_get olds i)) v) ≡ false =
      ap (is_counted_to t m k.kind) (kept_is i items is olds [] k v b) ∙ kept_counted t m k.kind Null v ∙ null_counted t m k.kind in
      let rest = links_behind (i + 1) is vs [] (behind_none i items is olds k b) (omega (arith, long)) ∙ links_none t m is in
      (λ j. cond (here j) 1 0 + rest j)
  links_behind i (k ∷ is) (v ∷ vs) (o ∷ os) b long =
      let here : is_counted_to t m k.kind (kept_value (slice_get items i) (or_null (slice_get olds i)) v) ≡ is_counted_to t m k.kind o =
      ap (is_counted_to t m k.kind) (kept_is i items is olds (o ∷ os) k v b) ∙ kept_counted t m k.kind o v in
      let rest = links_behind (i + 1) is vs os (behind_next i items is olds os k o b) (omega (arith, long)) in
      (λ j. cond (here j) 1 0 + rest j)

  -- what is stored has the counted links that stood
  pub links_linked : (vs : List Value) → length vs ≡ length items → links_to t m items (linked_from 0 items olds vs) ≡ links_to t m items olds
  links_linked vs long = links_behind 0 items vs olds (behind_all items olds) long

module _ (m : Records) (items : List Item) (olds : List Value) where
  stand_behind : (i : ℕ) (is : List Item) (vs os : List Value) → AreBehind i items is olds os → length vs ≡ length is → links_stand m is (linked_from i items olds vs) ≡ links_stand m is os
  stand_behind i [] vs os b long = refl
  stand_behind i (k ∷ is) [] os b long = absurd (omega (arith, long))
  stand_behind i (k ∷ is) (v ∷ vs) [] b long =
      let here : link_stands m k.kind (kept_value (slice_get items i) (or_null (slice_get olds i)) v) ≡ true =
      ap (link_stands m k.kind) (kept_is i items is olds [] k v b) ∙ kept_stands m k.kind Null v ∙ null_stands m k.kind in
      let rest = stand_behind (i + 1) is vs [] (behind_none i items is olds k b) (omega (arith, long)) ∙ stands_none m is in
      (λ j. here j && rest j)
  stand_behind i (k ∷ is) (v ∷ vs) (o ∷ os) b long =
      let here : link_stands m k.kind (kept_value (slice_get items i) (or_null (slice_get olds i)) v) ≡ link_stands m k.kind o =
      ap (link_stands m k.kind) (kept_is i items is olds (o ∷ os) k v b) ∙ kept_stands m k.kind o v in
      let rest = stand_behind (i + 1) is vs os (behind_next i items is olds os k o b) (omega (arith, long)) in
      (λ j. here j && rest j)

  -- and its links stand where those did
  pub stand_linked : (vs : List Value) → length vs ≡ length items → links_stand m items (linked_from 0 items olds vs) ≡ links_stand m items olds
  stand_linked vs long = stand_behind 0 items vs olds (behind_all items olds) long
