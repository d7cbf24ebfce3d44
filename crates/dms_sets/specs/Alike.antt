-- Values that differ in links alone have one key and one entry in each set, so a link that is set or made null changes no list.
use Rattle.std.proofs.Common.{◌≡◌, ◌∙◌, ◌+◌, ◌-◌, ℕ, zero, suc, List, [], ◌∷◌, true, false, cond, Some, None, refl, sym, ap, slice_get, slice_set, arith}
use Rattle.std.specs.Prelude.{◌&&◌, ◌||◌, ◌==◌, not}
use Rattle.std.specs.List.{AllByRecursion}
use Rattle.std.specs.declared.option.Option.{Option}
use Rattle.std.specs.FinMap.{entries, get, insert, keys}
use Rattle.dms_base.specs.declared.kind.ItemKind.{ItemKind}
use Rattle.dms_base.specs.declared.kind.ItemKind.TheVariants.{Alpha, Number as Decimal, Bool as OneBit, Field, Link}
use Rattle.dms_base.specs.declared.value.Value.{Value}
use Rattle.dms_base.specs.declared.value.Value.TheVariants.{Null}
use Rattle.dms_desc.specs.Conds.{compares, item_of, meets, or_null}
use Rattle.dms_desc.specs.Keys.{key_of}
use Rattle.dms_desc.specs.Kinds.{is_link, over, takes}
use Rattle.dms_desc.specs.Shape.{Shape, Tree, Empty, Test, Both, Either, Contrary}
use Rattle.dms_desc.specs.declared.record.Record.{Record}
use Rattle.dms_desc.specs.declared.structure.Item.{Item}
use Rattle.dms_desc.specs.declared.structure.KeyPart.{KeyPart}
use Rattle.dms_model.specs.Db.{Place, Records}
use Rattle.dms_sets.specs.Entries.{entry_bytes}
use Rattle.dms_sets.specs.Listing.{AllPlaces, member_opt}
use Rattle.dms_sets.specs.Sets.{IsSmall, entries_still, entry_of, listed_in}
use Rattle.dms_sets.specs.Stored.{NamesNoLink, NamesNoLinks, TestsNoLink, is_link_at}
use Rattle.dms_model.specs.Uses.{corrected, corrected_value, is_link_into, refers_to}

-- equal at each item that is no link
abbrev pub AreAlike : List Item → List Value → List Value → Type 0
AreAlike items xs ys = (j : ℕ) → is_link_at (slice_get items j) ≡ false → or_null (slice_get xs j) ≡ or_null (slice_get ys j)

module _ (items : List Item) (xs ys : List Value) (same : AreAlike items xs ys) where
  item_alike : (item : ℕ) → NamesNoLink items item → item_of xs item ≡ item_of ys item
  item_alike item h = same (item - 1) h

  pub key_alike : (ps : List KeyPart) → AllByRecursion (λ p. NamesNoLink items p.item) ps → key_of ps xs ≡ key_of ps ys
  key_alike [] all = refl
  key_alike (p ∷ ps) all = λ i. item_alike p.item all.0 i ∷ key_alike ps all.1 i

  meets_alike : (t : Tree) → TestsNoLink items t → meets t xs ≡ meets t ys
  meets_alike Empty h = refl
  meets_alike (Test item op v) h = ap (λ x. compares op x v) (item_alike item h)
  meets_alike (Both a b) h = λ i. meets_alike a h.0 i && meets_alike b h.1 i
  meets_alike (Either a b) h = λ i. meets_alike a h.0 i || meets_alike b h.1 i
  meets_alike (Contrary a) h = ap not (meets_alike a h)

  pub takes_alike : (s : Shape) → NamesNoLinks items s → takes s xs ≡ takes s ys
  takes_alike s none = ap (λ b. cond (s.kind == 4) b true) (meets_alike s.cond none.cond)

-- one entry
pub entry_alike : (kinds : List ItemKind) (items : List Item) (s : Shape) (k : Place) (owner : ℕ) (xs ys : List Value) → NamesNoLinks items s → AreAlike items xs ys → entry_of kinds s k (record { owner = owner; values = xs }) ≡ entry_of kinds s k (record { owner = owner; values = ys })
entry_alike kinds items s k owner xs ys none same =
    let key = key_alike items xs ys same s.parts none.parts in
    let test = takes_alike items xs ys same s none in
    λ i. cond ((over s == k.0) && test i) (Some (entry_bytes kinds s.parts owner (key i) k.1)) None

-- a self-correcting link made null
no_link : (to number : ℕ) (k : ItemKind) (v : Value) → is_link k ≡ false → (is_link_into false to k && refers_to number v) ≡ false
no_link to number (Alpha n) v h = refl
no_link to number (Decimal n d s) v h = refl
no_link to number OneBit v h = refl
no_link to number (Field n) v h = refl
no_link to number (Link t c) v h = absurd (cc)

value_stays : (to number : ℕ) (o : Option Item) (v : Value) → is_link_at o ≡ false → corrected_value o to number v ≡ v
value_stays to number None v h = refl
value_stays to number (Some i) v h = ap (λ b. cond b Null v) (no_link to number i.kind v h)

corrected_at : (to number k : ℕ) (items : List Item) (vs : List Value) (j : ℕ) → is_link_at (slice_get items (k + j)) ≡ false → or_null (slice_get (corrected to number k items vs) j) ≡ or_null (slice_get vs j)
corrected_at to number k items [] j h = refl
corrected_at to number k items (v ∷ vs) zero h = value_stays to number (slice_get items k) v (ap (λ n. is_link_at (slice_get items n)) (let e : k ≡ k + 0 = omega arith in e) ∙ h)
corrected_at to number k items (v ∷ vs) (suc j) h = corrected_at to number (k + 1) items vs j (ap (λ n. is_link_at (slice_get items n)) (let e : (k + 1) + j ≡ k + suc j = omega arith in e) ∙ h)

pub corrected_alike : (to number : ℕ) (items : List Item) (vs : List Value) → AreAlike items (corrected to number 0 items vs) vs
corrected_alike to number items vs j h = corrected_at to number 0 items vs j (ap (λ n. is_link_at (slice_get items n)) (let e : 0 + j ≡ j = omega arith in e) ∙ h)

-- a link set
set_other : (vs : List Value) (i : ℕ) (v : Value) (j : ℕ) → (j ≡ i → ⊥) → slice_get (slice_set vs i v) j ≡ slice_get vs j
set_other [] i v j apart = refl
set_other (x ∷ vs) zero v zero apart = absurd (apart refl)
set_other (x ∷ vs) zero v (suc j) apart = refl
set_other (x ∷ vs) (suc i) v zero apart = refl
set_other (x ∷ vs) (suc i) v (suc j) apart = set_other vs i v j (λ e. apart (ap (λ n. suc n) e))

pub set_alike : (items : List Item) (vs : List Value) (i : ℕ) (v : Value) → is_link_at (slice_get items i) ≡ true → AreAlike items (slice_set vs i v) vs
set_alike items vs i v link j h = ap or_null (set_other vs i v j (λ e. apart (sym (ap (λ n. is_link_at (slice_get items n)) e ∙ link) ∙ h)))
  where
    apart : true ≡ false → ⊥
    apart e = absurd (cc)

-- The list of a set stays where a record's values change in links alone.
pub list_alike : (kinds : List ItemKind) (items : List Item) (s : Shape) (m : Records) (k : Place) (r : Record) (xs : List Value) → AllPlaces IsSmall (entries m) → IsSmall k → get m k ≡ Some r → NamesNoLinks items s → AreAlike items xs r.values
    → keys (listed_in kinds s (insert m k (record r { values = xs }))) ≡ keys (listed_in kinds s m)
list_alike kinds items s m k r xs all here at none same =
    entries_still kinds s m k all here (record r { values = xs }) (entry_alike kinds items s k r.owner xs r.values none same ∙ sym (ap (member_opt (entry_of kinds s) k) at))
