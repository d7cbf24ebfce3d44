-- A description that extends another one widens its data sets.
use Rattle.std.proofs.Common.{◌≡◌, ◌∙◌, ◌-◌, ◌≤◌, ◌++◌, ◌&&◌, ◌||◌, ℕ, zero, suc, List, [], ◌∷◌, Bool, not, true, false, cond, eqb, nat_le, Some, None, refl, sym, ap, subst, length, drop, arith}
use Rattle.std.specs.Prelude.{slice_get}
use Rattle.std.specs.List.{list_all}
use Rattle.std.proofs.lemmas.Bool.Decides.{nat_tests}
use Rattle.std.proofs.lemmas.Bool.{and_from, and_parts}
use Rattle.std.proofs.lemmas.List.{take-append-drop}
use Rattle.dms_base.specs.declared.kind.ItemKind.{ItemKind}
use Rattle.dms_base.specs.declared.kind.ItemKind.TheVariants.{Alpha, Number as Decimal, Bool as OneBit, Field, Link as LinkTo}
use Rattle.dms_base.specs.declared.value.Value.{Value}
use Rattle.dms_base.specs.declared.value.Value.TheVariants.{Null, Text, Number, Bool as Truth, Bits, Link}
use Rattle.dms_base.specs.Fits.{IsKind, fits}
use Rattle.dms_base.specs.Spelling.{is_kind}
use Rattle.dms_base.specs.Text.{is_printable, trim_spaces}
use Rattle.std.specs.Str.{bytes_eq}
use Rattle.std.proofs.lemmas.Slice.Eq.{bytes_eq-Decides}
use Rattle.dms_desc.specs.declared.structure.Item.{Item}
use Rattle.dms_desc.specs.Conds.{is_null}
use Rattle.dms_desc.specs.Fitting.{values_fit}
use Rattle.dms_desc.specs.Kinds.{is_link}
use Rattle.dms_desc.specs.Lookups.{items_of, structure_of}
use Rattle.dms_desc.specs.Plain.{ArePlain, IsPlain}
use Rattle.dms_desc.specs.Shape.{Described, Shape}
use Rattle.dms_desc.specs.Widths.{record_width}
use Rattle.dms_desc_bytes.specs.Lists.{is_empty, is_within}
use Rattle.dms_desc_bytes.specs.Members.{is_item_sound, is_link_sound, is_plain, points_well}
use Rattle.dms_desc_bytes.specs.Spelling.{is_data_set as is_set_kind}
use Rattle.dms_desc_bytes.specs.WellFormed.{IsWellFormed, are_sound, has_sound_items, is_data_set_sound, is_set_sound, is_sound}
use Rattle.dms_layout.specs.Slots.{AreKinds}
use Rattle.dms_reorg.specs.Extended.{first_values, further}
use Rattle.dms_reorg.specs.Laws.{StandsIn, is_unlinked}
use Rattle.dms_reorg.specs.RefusalLaws.{EachGrows, Grows}
use Rattle.dms_reorg.specs.Refusals.{Extends}

-- ---- items

between : (a b n : ℕ) → is_within a b n ≡ true → (a ≤ n) × (n ≤ b)
between a b n h = let two = and_parts (nat_le a n) (nat_le n b) h in (grind (arith, nat_tests, two.0), grind (arith, nat_tests, two.1))

at_most : (n b : ℕ) → nat_le n b ≡ true → n ≤ b
at_most n b h = grind (arith, nat_tests, h)

kind_in : (k : ItemKind) → is_kind k ≡ true → IsKind k
kind_in (Alpha n) h = between 1 200 n h
kind_in (Decimal n m s) h =
    let two = and_parts (nat_le 1 n && nat_le n 18) (nat_le m n) h in
    let size = between 1 18 n two.0 in
    (size.0, size.1, at_most m n two.1)
kind_in OneBit h = tt
kind_in (Field n) h = between 1 48 n h
kind_in (LinkTo to counted) h = tt

plain_of : (k : ItemKind) (v : Value) → is_kind k ≡ true → fits k v ≡ true → is_plain v ≡ true → IsPlain v
plain_of (Alpha n) (Text bytes) kind fit plain =
    let p = and_parts (list_all is_printable bytes) (bytes_eq (trim_spaces bytes) bytes) plain in
    let few : length bytes ≤ n = grind (arith, nat_tests, fit) in
    let most : n ≤ 200 = grind (arith, nat_tests, (and_parts (nat_le 1 n) (nat_le n 200) kind).1) in
    record { few = omega (arith, few, most); printable = p.0; without_space = (bytes_eq-Decides (trim_spaces bytes) bytes).0 p.1 }
plain_of (Decimal n m s) (Text bytes) kind fit plain = absurd (cc)
plain_of OneBit (Text bytes) kind fit plain = absurd (cc)
plain_of (Field n) (Text bytes) kind fit plain = absurd (cc)
plain_of (LinkTo to counted) (Text bytes) kind fit plain = absurd (cc)
plain_of k Null kind fit plain = tt
plain_of k (Number z) kind fit plain = tt
plain_of k (Truth b) kind fit plain = tt
plain_of k (Bits n) kind fit plain = tt
plain_of k (Link n) kind fit plain = tt

unlinked_of : (ss : List Shape) (k : ItemKind) (i : Item) → points_well ss k i ≡ true → (not (is_link k) || is_null i.initial) ≡ true
unfolding is_link_sound
unlinked_of ss (LinkTo to counted) i h = (and_parts _ _ h).1
unlinked_of ss (Alpha n) i h = refl
unlinked_of ss (Decimal n m s) i h = refl
unlinked_of ss OneBit i h = refl
unlinked_of ss (Field n) i h = refl

record SoundItem (i : Item) : Type 0 where
  kind : IsKind i.kind
  fit : fits i.kind i.initial ≡ true
  plain : IsPlain i.initial
  unlinked : is_unlinked i ≡ true

item_sound : (ss : List Shape) (i : Item) → is_item_sound ss i ≡ true → SoundItem i
unfolding is_item_sound
item_sound ss i h =
    let a = and_parts _ _ h in
    let b = and_parts _ _ a.0 in
    let c = and_parts _ _ b.0 in
    let d = and_parts _ _ c.0 in
    record { kind = kind_in i.kind d.1; fit = c.1; plain = plain_of i.kind i.initial d.1 c.1 b.1; unlinked = unlinked_of ss i.kind i a.1 }

-- ---- their lists

record SoundItems (items : List Item) : Type 0 where
  kinds : AreKinds items
  fit : values_fit items (first_values items) ≡ true
  plain : ArePlain (first_values items)
  unlinked : list_all is_unlinked items ≡ true

items_sound : (ss : List Shape) (items : List Item) → list_all (is_item_sound ss) items ≡ true → SoundItems items
items_sound ss [] h = record { kinds = tt; fit = refl; plain = tt; unlinked = refl }
items_sound ss (i ∷ is) h =
    let two = and_parts (is_item_sound ss i) (list_all (is_item_sound ss) is) h in
    let here = item_sound ss i two.0 in
    let rest = items_sound ss is two.1 in
    record {
      kinds = (here.kind, rest.kinds);
      fit = and_from (fits i.kind i.initial) (values_fit is (first_values is)) here.fit rest.fit;
      plain = (here.plain, rest.plain);
      unlinked = and_from (is_unlinked i) (list_all is_unlinked is) here.unlinked rest.unlinked;
    }

all_behind : {A : Type 0} (test : A → Bool) (k : ℕ) (xs : List A) → list_all test xs ≡ true → list_all test (drop k xs) ≡ true
all_behind test zero xs h = h
all_behind test (suc k) [] h = refl
all_behind test (suc k) (x ∷ xs) h = all_behind test k xs (and_parts (test x) (list_all test xs) h).1

all_at : {A : Type 0} (test : A → Bool) (xs : List A) (k : ℕ) (x : A) → list_all test xs ≡ true → slice_get xs k ≡ Some x → test x ≡ true
all_at test [] k x h at = absurd (cc)
all_at test (y ∷ ys) zero x h at = let is : y ≡ x = cc in ap test (sym is) ∙ (and_parts (test y) (list_all test ys) h).0
all_at test (y ∷ ys) (suc k) x h at = all_at test ys k x (and_parts (test y) (list_all test ys) h).1 at

-- ---- structures

record SoundMembers (ss : List Shape) (t : Shape) : Type 0 where
  items : list_all (is_item_sound ss) t.items ≡ true
  width : record_width t.items ≤ 480

members_none : (ss : List Shape) (items : List Item) → is_empty items ≡ true → (list_all (is_item_sound ss) items ≡ true) × (record_width items ≤ 480)
members_none ss [] h = (refl, omega arith)
members_none ss (i ∷ is) h = absurd (cc)

data_set_sound : (ss : List Shape) (t : Shape) → is_data_set_sound ss t ≡ true → SoundMembers ss t
unfolding is_data_set_sound has_sound_items
data_set_sound ss t h =
    let a = and_parts _ _ h in
    let b = and_parts _ _ a.0 in
    let c = and_parts _ _ b.0 in
    let d = and_parts _ _ c.0 in
    let e = and_parts _ _ d.0 in
    let items = and_parts _ _ e.1 in
    record { items = (and_parts _ _ items.0).1; width = at_most _ 480 items.1 }

set_sound : (ss : List Shape) (t : Shape) → is_set_sound ss t ≡ true → SoundMembers ss t
unfolding is_set_sound
set_sound ss t h =
    let none = members_none ss t.items (and_parts _ _ (and_parts _ _ h).0).1 in
    record { items = none.0; width = none.1 }

members_sound : (ss : List Shape) (t : Shape) → is_sound ss t ≡ true → SoundMembers ss t
unfolding is_sound
members_sound ss t h = by (is_set_kind t.kind) (and_parts _ _ h).1
  where
    by : (b : Bool) → cond b (is_data_set_sound ss t) (is_set_sound ss t) ≡ true → SoundMembers ss t
    by true h = data_set_sound ss t h
    by false h = set_sound ss t h

module _ (new : Described) (well : IsWellFormed new) where
  all_sound : list_all (is_sound new.structures) new.structures ≡ true
  unfolding are_sound
  all_sound = (and_parts _ _ well.structures).1

  sound_of : (n : ℕ) (t : Shape) → structure_of new n ≡ Some t → SoundMembers new.structures t
  sound_of n t h = by (eqb n 0) h
    where
      by : (b : Bool) → cond b None (slice_get new.structures (n - 1)) ≡ Some t → SoundMembers new.structures t
      by true h = absurd (cc)
      by false h = members_sound new.structures t (all_at (is_sound new.structures) new.structures (n - 1) t all_sound h)

-- ---- what extends a description

-- the further items of a structure by its number are those behind its own
pub further_is : (old new : Described) (n : ℕ) (s t : Shape) → structure_of old n ≡ Some s → structure_of new n ≡ Some t → further old new n ≡ drop (length s.items) t.items
further_is old new n s t here there = λ i. drop (length (items_of (here i))) (items_of (there i))

module _ (old new : Described) (well : IsWellFormed new) (extends : Extends old new) (n : ℕ) (s : Shape) (here : structure_of old n ≡ Some s) where
  stands_in : StandsIn old new n
  stands_in =
      let at = extends.stand n s here in
      let sound = sound_of new well n at.now at.is in
      record {
        s = s;
        t = at.now;
        was = here;
        now = at.is;
        keeps = at.keeps;
        unlinked = (items_sound new.structures (drop (length s.items) at.now.items) (all_behind (is_item_sound new.structures) (length s.items) at.now.items sound.items)).unlinked;
      }

  widens_at : Grows old new n s
  widens_at =
      let at = extends.stand n s here in
      let t = at.now in
      let sound = sound_of new well n t at.is in
      let more = further_is old new n s t here at.is in
      let behind = items_sound new.structures (drop (length s.items) t.items) (all_behind (is_item_sound new.structures) (length s.items) t.items sound.items) in
      record {
        now = t;
        is = at.is;
        widens = record {
          number = ap (λ (x : Shape). x.number) at.keeps.same;
          owner = ap (λ (x : Shape). x.owner) at.keeps.same;
          further = further old new n;
          items = sym (take-append-drop (length s.items) t.items) ∙ ap (λ (l : List Item). l ++ drop (length s.items) t.items) (ap (λ (x : Shape). x.items) at.keeps.same) ∙ ap (λ (l : List Item). s.items ++ l) (sym more);
          fit = subst (λ (l : List Item). values_fit l (first_values l) ≡ true) (sym more) behind.fit;
          plain = subst (λ (l : List Item). ArePlain (first_values l)) (sym more) behind.plain;
          kinds = (items_sound new.structures t.items sound.items).kinds;
          room = omega (arith, sound.width);
        };
      }

pub each_grows : EachGrows
each_grows old new well extends = record {
  stand = λ n s here. stands_in old new well extends n s here;
  grow = λ n s here. widens_at old new well extends n s here;
}
