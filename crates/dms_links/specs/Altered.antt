-- What becomes of one slot: what it counts, its links made null, or one of them set.
use Rattle.std.proofs.Common.{◌≡◌, ◌∙◌, ◌+◌, ◌-◌, ◌^◌, ◌<◌, ◌≤◌, ℕ, zero, suc, List, [], ◌∷◌, Bool, true, false, cond, Some, None, IsTrue, refl, sym, ap, subst, slice_get, slice_set, length, arith}
use Rattle.std.specs.Prelude.{◌&&◌, ◌==◌, nat_lt, if◌then◌else◌, is_some}
use Rattle.std.specs.declared.option.Option.{Option}
use Rattle.std.proofs.lemmas.Bool.{and_parts}
use Rattle.std.proofs.lemmas.Bool.Decides.{nat_tests}
use Rattle.std.proofs.lemmas.Option.{same_Some}
use Rattle.dms_base.specs.Fits.{fits}
use Rattle.dms_base.specs.declared.kind.ItemKind.{ItemKind}
use Rattle.dms_base.specs.declared.kind.ItemKind.TheVariants.{Alpha, Number as Decimal, Bool as OneBit, Field, Link}
use Rattle.dms_base.specs.declared.value.Value.{Value}
use Rattle.dms_base.specs.declared.value.Value.TheVariants.{Null, Link as Reference}
use Rattle.dms_block.specs.Content.{Content}
use Rattle.dms_desc.specs.Files.{file_of}
use Rattle.dms_desc.specs.Fitting.{values_fit}
use Rattle.dms_desc.specs.Kinds.{is_link}
use Rattle.dms_desc.specs.Plain.{ArePlain, IsPlain}
use Rattle.dms_desc.specs.Shape.{Shape}
use Rattle.dms_desc.specs.declared.structure.Item.{Item}
use Rattle.dms_layout.specs.Slots.{SlotFits, slot_bytes}
use Rattle.dms_layout.specs.declared.slot.Slot.{Slot}
use Rattle.dms_layout.specs.declared.slot.SlotRead.TheVariants.{Used}
use Rattle.dms_model.specs.FitLaws.{null_fits}
use Rattle.dms_model.specs.Uses.{corrected, corrected_value, is_link_into, link_value, refers_to}
use Rattle.dms_slots.specs.SlotBlocks.{block_of, slot_at, slot_put}
use Rattle.dms_links.specs.declared.altering.SlotChange.{SlotChange}
use Rattle.dms_links.specs.declared.altering.SlotChange.TheVariants.{Counted, Uncounted, Corrected, Linked, Owned, Disowned}

-- a slot with these values of its record
abbrev pub with_values : List Value → Slot → Slot
with_values vs x = record x { rec = record x.rec { values = vs } }

-- a slot that counts so many links
abbrev pub with_count : ℕ → Slot → Slot
with_count n x = record x { counted = n }

-- one more, and one fewer; none where the count stands at its type's end, or at 0
abbrev pub counted_more : Slot → Option Slot
counted_more x = if x.counted == 2 ^ 32 - 1 then None else Some (with_count (x.counted + 1) x)

abbrev pub counted_fewer : Slot → Option Slot
counted_fewer x = if x.counted == 0 then None else Some (with_count (x.counted - 1) x)

-- a slot that owns so many records and entries
abbrev pub with_owned : ℕ → Slot → Slot
with_owned n x = record x { owned = n }

abbrev pub owned_more : Slot → Option Slot
owned_more x = if x.owned == 2 ^ 32 - 1 then None else Some (with_owned (x.owned + 1) x)

abbrev pub owned_fewer : Slot → Option Slot
owned_fewer x = if x.owned == 0 then None else Some (with_owned (x.owned - 1) x)

-- The slot after a change; none where its count stands at its type's end, or at 0.
abbrev pub slot_after : List Item → SlotChange → Slot → Option Slot
slot_after items Counted x = counted_more x
slot_after items Uncounted x = counted_fewer x
slot_after items (Corrected to number) x = Some (with_values (corrected to number 0 items x.rec.values) x)
slot_after items (Linked item to) x = Some (with_values (slice_set x.rec.values (item - 1) (link_value to)) x)
slot_after items Owned x = owned_more x
slot_after items Disowned x = owned_fewer x

-- an item is a self-correcting link into a data set
abbrev pub is_item_into : Option Item → ℕ → Bool
is_item_into None to = false
is_item_into (Some i) to = is_link_into false to i.kind

-- the item, counted from 1, is a link, and what it is to refer to has a small number
abbrev pub is_link_item : Option Item → Bool
is_link_item None = false
is_link_item (Some i) = is_link i.kind

abbrev pub IsSmallTarget : Option ℕ → Type 0
IsSmallTarget None = Unit {0}
IsSmallTarget (Some n) = n < 2 ^ 32

abbrev pub MayChange : List Item → SlotChange → Type 0
MayChange items Counted = Unit {0}
MayChange items Uncounted = Unit {0}
MayChange items (Corrected to number) = Unit {0}
MayChange items (Linked item to) = (is_link_item (slice_get items (item - 1)) ≡ true) × IsSmallTarget to
MayChange items Owned = Unit {0}
MayChange items Disowned = Unit {0}

-- ---- it fits

corrected_fits : (to number : ℕ) (o : Option Item) (i : Item) (v : Value) → o ≡ Some i → fits i.kind v ≡ true → fits i.kind (corrected_value o to number v) ≡ true
corrected_fits to number o i v is h = ap (λ (x : Option Item). fits i.kind (corrected_value x to number v)) is ∙ by (is_link_into false to i.kind && refers_to number v)
  where
    by : (b : Bool) → fits i.kind (cond b Null v) ≡ true
    by true = null_fits i.kind
    by false = h

all_corrected : (to number k : ℕ) (all items : List Item) (vs : List Value) → ((j : ℕ) → slice_get all (k + j) ≡ slice_get items j) → values_fit items vs ≡ true → values_fit items (corrected to number k all vs) ≡ true
all_corrected to number k all [] [] behind h = refl
all_corrected to number k all [] (v ∷ vs) behind h = absurd (cc h)
all_corrected to number k all (i ∷ is) [] behind h = absurd (cc h)
all_corrected to number k all (i ∷ is) (v ∷ vs) behind h =
    let both = and_parts (fits i.kind v) (values_fit is vs) h in
    let e : k ≡ k + 0 = omega arith in
    let item : slice_get all k ≡ Some i = ap (slice_get all) e ∙ behind 0 in
    let here = corrected_fits to number (slice_get all k) i v item both.0 in
    let rest = all_corrected to number (k + 1) all is vs (λ j. let m : (k + 1) + j ≡ k + suc j = omega arith in ap (slice_get all) m ∙ behind (suc j)) both.1 in
    λ x. here x && rest x

plain_corrected : (to number k : ℕ) (all : List Item) (vs : List Value) → ArePlain vs → ArePlain (corrected to number k all vs)
plain_corrected to number k all [] h = tt
plain_corrected to number k all (v ∷ vs) h = (by (slice_get all k), plain_corrected to number (k + 1) all vs h.1)
  where
    turn : (b : Bool) → IsPlain (cond b Null v)
    turn true = tt
    turn false = h.0

    by : (o : Option Item) → IsPlain (corrected_value o to number v)
    by None = h.0
    by (Some i) = turn (is_link_into false to i.kind && refers_to number v)

link_fits : (k : ItemKind) (to : Option ℕ) → is_link k ≡ true → IsSmallTarget to → fits k (link_value to) ≡ true
link_fits k None h small = null_fits k
link_fits (Alpha n) (Some m) h small = absurd (cc h)
link_fits (Decimal n d s) (Some m) h small = absurd (cc h)
link_fits OneBit (Some m) h small = absurd (cc h)
link_fits (Field n) (Some m) h small = absurd (cc h)
link_fits (Link t c) (Some m) h small = grind (arith, nat_tests, small)

set_fits : (items : List Item) (vs : List Value) (i : ℕ) (to : Option ℕ) → values_fit items vs ≡ true → is_link_item (slice_get items i) ≡ true → IsSmallTarget to → values_fit items (slice_set vs i (link_value to)) ≡ true
set_fits [] vs i to h link small = absurd (cc link)
set_fits (x ∷ is) [] i to h link small = absurd (cc h)
set_fits (x ∷ is) (v ∷ vs) zero to h link small =
    let both = and_parts (fits x.kind v) (values_fit is vs) h in
    let here = link_fits x.kind to link small in
    λ j. here j && both.1 j
set_fits (x ∷ is) (v ∷ vs) (suc i) to h link small =
    let both = and_parts (fits x.kind v) (values_fit is vs) h in
    let rest = set_fits is vs i to both.1 link small in
    λ j. both.0 j && rest j

plain_set : (vs : List Value) (i : ℕ) (to : Option ℕ) → ArePlain vs → ArePlain (slice_set vs i (link_value to))
plain_set [] i to h = tt
plain_set (v ∷ vs) zero None h = (tt, h.1)
plain_set (v ∷ vs) zero (Some n) h = (tt, h.1)
plain_set (v ∷ vs) (suc i) to h = (h.0, plain_set vs i to h.1)

-- The slot after a change fits where the one before it did.
pub after_fits : (s : Shape) (change : SlotChange) (x y : Slot) → MayChange s.items change → SlotFits s x → slot_after s.items change x ≡ Some y → SlotFits s y
after_fits s Counted x y may fit h = by (x.counted == 2 ^ 32 - 1) refl h
  where
    by : (b : Bool) → (x.counted == 2 ^ 32 - 1) ≡ b → cond b None (Some (with_count (x.counted + 1) x)) ≡ Some y → SlotFits s y
    by true is k = absurd (cc k)
    by false is k = subst (SlotFits s) (same_Some (with_count (x.counted + 1) x) y k) (record { owner = fit.owner; disjoint = fit.disjoint; counted = below is fit.counted; owned = fit.owned; values = fit.values; plain = fit.plain })
      where
        below : (x.counted == 2 ^ 32 - 1) ≡ false → x.counted < 2 ^ 32 → x.counted + 1 < 2 ^ 32
        below off low = grind (arith, nat_tests, off, low)
after_fits s Uncounted x y may fit h = by (x.counted == 0) h
  where
    by : (b : Bool) → cond b None (Some (record x { counted = x.counted - 1 })) ≡ Some y → SlotFits s y
    by true k = absurd (cc k)
    by false k = subst (SlotFits s) (same_Some (record x { counted = x.counted - 1 }) y k) (record { owner = fit.owner; disjoint = fit.disjoint; counted = omega (arith, fit.counted); owned = fit.owned; values = fit.values; plain = fit.plain })
after_fits s (Corrected to number) x y may fit h =
    subst (SlotFits s) (same_Some (with_values (corrected to number 0 s.items x.rec.values) x) y h) (record {
      owner = fit.owner;
      disjoint = fit.disjoint;
      counted = fit.counted;
      owned = fit.owned;
      values = all_corrected to number 0 s.items s.items x.rec.values (λ j. let m : 0 + j ≡ j = omega arith in ap (slice_get s.items) m) fit.values;
      plain = plain_corrected to number 0 s.items x.rec.values fit.plain;
    })
after_fits s (Linked item to) x y may fit h =
    subst (SlotFits s) (same_Some (with_values (slice_set x.rec.values (item - 1) (link_value to)) x) y h) (record {
      owner = fit.owner;
      disjoint = fit.disjoint;
      counted = fit.counted;
      owned = fit.owned;
      values = set_fits s.items x.rec.values (item - 1) to fit.values may.0 may.1;
      plain = plain_set x.rec.values (item - 1) to fit.plain;
    })
after_fits s Owned x y may fit h = by (x.owned == 2 ^ 32 - 1) refl h
  where
    by : (b : Bool) → (x.owned == 2 ^ 32 - 1) ≡ b → cond b None (Some (with_owned (x.owned + 1) x)) ≡ Some y → SlotFits s y
    by true is k = absurd (cc k)
    by false is k = subst (SlotFits s) (same_Some (with_owned (x.owned + 1) x) y k) (record { owner = fit.owner; disjoint = fit.disjoint; counted = fit.counted; owned = below is fit.owned; values = fit.values; plain = fit.plain })
      where
        below : (x.owned == 2 ^ 32 - 1) ≡ false → x.owned < 2 ^ 32 → x.owned + 1 < 2 ^ 32
        below off low = grind (arith, nat_tests, off, low)
after_fits s Disowned x y may fit h = by (x.owned == 0) h
  where
    by : (b : Bool) → cond b None (Some (record x { owned = x.owned - 1 })) ≡ Some y → SlotFits s y
    by true k = absurd (cc k)
    by false k = subst (SlotFits s) (same_Some (record x { owned = x.owned - 1 }) y k) (record { owner = fit.owner; disjoint = fit.disjoint; counted = fit.counted; owned = omega (arith, fit.owned); values = fit.values; plain = fit.plain })

-- ---- what a call leaves

-- The slot of a record is the one after the change, and all else is as it was.
pub record IsAltered (s : Shape) (number : ℕ) (change : SlotChange) (c d : Content) : Type 0 where
  pub slot : Slot
  pub next : Slot
  pub was : slot_at s (c (file_of s.number)) number ≡ Used slot
  pub is_next : slot_after s.items change slot ≡ Some next
  pub fits : SlotFits s next
  pub there : block_of s.items number ≤ length (c (file_of s.number))
  pub is : d ≡ slot_put s number (slot_bytes s.items next) c

-- No record stands in the slot, or the change has no room. Nothing is written.
pub record IsStuck (s : Shape) (number : ℕ) (change : SlotChange) (c d : Content) : Type 0 where
  pub none : (x y : Slot) → slot_at s (c (file_of s.number)) number ≡ Used x → slot_after s.items change x ≡ Some y → ⊥
  pub same : d ≡ c

abbrev pub Alters : Shape → ℕ → SlotChange → Bool → Content → Content → Type 0
Alters s number change true c d = IsAltered s number change c d
Alters s number change false c d = IsStuck s number change c d
