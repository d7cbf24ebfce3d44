-- What is read fits, and its spelling is what stood there.
use Rattle.std.proofs.Common.{◌≡◌, ◌≢◌, ◌<◌, ◌^◌, ℕ, zero, suc, List, [], ◌∷◌, ◌++◌, Bool, true, false, cond, leb-true, refl, sym, ap, ◌∙◌, subst, length, take, drop, replicate, option_map, arith}
use Rattle.std.specs.Prelude.{◌&&◌, ◌==◌, nat_le, slice_index}
use Rattle.std.specs.declared.option.Option.{Option}
use Rattle.std.specs.declared.option.Option.TheVariants.{None, Some}
use Rattle.std.specs.Int.{w32, to_be_bytes, from_be_bytes}
use Rattle.std.specs.List.{list_all}
use Rattle.std.specs.Str.{bytes_eq}
use Rattle.std.proofs.lemmas.List.{length-replicate}
use Rattle.std.proofs.lemmas.Slice.Eq.{bytes_eq-Decides}
use Rattle.std.proofs.lemmas.Bool.Decides.{nat_tests}
use Rattle.std.proofs.lemmas.Bool.{and_from, and_parts}
use Rattle.dms_base.specs.declared.value.Value.TheVariants.{Null}
use Rattle.dms_base.specs.declared.kind.ItemKind.{ItemKind}
use Rattle.dms_base.specs.declared.kind.ItemKind.TheVariants.{Alpha, Number as Decimal, Bool as OneBit, Field, Link}
use Rattle.dms_base.specs.Text.{IsText, text_of, trim_spaces, is_printable}
use Rattle.dms_base.proofs.Kept.{texted}
use Rattle.dms_desc.specs.declared.structure.Item.{Item}
use Rattle.dms_desc.specs.Plain.{IsPlain, ArePlain}
use Rattle.dms_desc.specs.Shape.{Shape}
use Rattle.dms_fields.specs.Fields.{bytes_at}
use Rattle.dms_fields.specs.Laid.{bytes_again}
use Rattle.dms_key.specs.ByteOrder.{byte_small}
use Rattle.dms_layout.specs.declared.slot.Slot.{Slot}
use Rattle.dms_layout.specs.declared.slot.SlotRead.TheVariants.{Free, Used, Bad}
use Rattle.dms_layout.specs.Slots.{record_bytes, slot_width, slot_bytes, may_own, SlotFits, AreKinds, or_zero, text_or_null, value_in, values_at, slot_in, is_zero, is_free, is_spelled, slot_by, slot_of}
use Rattle.dms_desc.specs.Fitting.{values_fit}
use Rattle.dms_layout.specs.SlotLaws.{slot_again}

-- ---- texts that are read are plain

text_is : (b : Bool) (c : Bool) (bytes t : List ℕ) → list_all is_printable bytes ≡ b → nat_le (length (trim_spaces bytes)) 200 ≡ c → cond (b && c) (Some (trim_spaces bytes)) None ≡ Some t → IsText t
text_is true true bytes t p few h = texted bytes t (let e : t ≡ trim_spaces bytes = cc in e) p (leb-true _ _ few)
text_is true false bytes t p few h = absurd (cc)
text_is false c bytes t p few h = absurd (cc)

read_text : (bytes t : List ℕ) → text_of bytes ≡ Some t → IsText t
unfolding text_of
read_text bytes t h = text_is (list_all is_printable bytes) (nat_le (length (trim_spaces bytes)) 200) bytes t refl refl h

text_plain : (o : Option (List ℕ)) (bytes : List ℕ) → text_of bytes ≡ o → IsPlain (text_or_null o)
text_plain None bytes h = tt
text_plain (Some t) bytes h = read_text bytes t h

in_plain : (k : ItemKind) (field : List ℕ) → IsPlain (value_in k field)
in_plain (Alpha n) field = text_plain (text_of (drop 1 field)) (drop 1 field) refl
in_plain (Decimal n m s) field = tt
in_plain OneBit field = tt
in_plain (Field n) field = tt
in_plain (Link to counted) field = tt

null_or_plain : (b : Bool) (k : ItemKind) (field : List ℕ) → IsPlain (cond b Null (value_in k field))
null_or_plain true k field = tt
null_or_plain false k field = in_plain k field

pub values_plain : (is : List Item) (bytes : List ℕ) → ArePlain (values_at is bytes)
values_plain [] bytes = tt
values_plain (i ∷ is) bytes = (null_or_plain (slice_index (take (suc _) bytes) 0 == 255) i.kind (take (suc _) bytes), values_plain is (drop (suc _) bytes))

-- ---- numbers that are read are small

four_low : (n : ℕ) → from_be_bytes w32 (to_be_bytes w32 n) < 2 ^ 32
four_low n = omega (arith, byte_small 0 n, byte_small 1 n, byte_small 2 n, byte_small 3 n)

-- a number that stands in bytes as they are spelled is small
number_low : (at m n : ℕ) (bytes prefix rest : List ℕ) → bytes ≡ prefix ++ (to_be_bytes w32 m ++ rest) → length prefix ≡ at
    → or_zero (option_map (from_be_bytes w32) (bytes_at bytes at 4)) ≡ n → n < 2 ^ 32
number_low at m n bytes prefix rest same before is = subst (λ (k : ℕ). k < 2 ^ 32)
    (sym (ap (λ (o : Option (List ℕ)). or_zero (option_map (from_be_bytes w32) o)) (ap (λ b. bytes_at b at 4) same ∙ bytes_again at 4 prefix (to_be_bytes w32 m) rest before refl)) ∙ is)
    (four_low m)

-- ---- slots

used_by : (a b : Bool) (x slot : Slot) → slot_by a b x ≡ Used slot → (b ≡ true) × (x ≡ slot)
used_by true b x slot h = absurd (cc)
used_by false true x slot h = (refl, cc)
used_by false false x slot h = absurd (cc)

record SpelledSlot (s : Shape) (bytes : List ℕ) (slot : Slot) : Type 0 where
  same : bytes ≡ slot_bytes s.items slot
  disjoint : may_own s slot.rec.owner ≡ true
  values : values_fit s.items slot.rec.values ≡ true

spelled_is : (s : Shape) (bytes : List ℕ) (slot : Slot) → is_spelled s bytes slot ≡ true → SpelledSlot s bytes slot
unfolding is_spelled
spelled_is s bytes slot h =
    let outer = and_parts (bytes_eq bytes (slot_bytes s.items slot)) (may_own s slot.rec.owner && values_fit s.items slot.rec.values) h in
    let inner = and_parts (may_own s slot.rec.owner) (values_fit s.items slot.rec.values) outer.1 in
    record { same = (bytes_eq-Decides bytes (slot_bytes s.items slot)).0 outer.0; disjoint = inner.0; values = inner.1 }

read_fits : (s : Shape) (bytes : List ℕ) (slot : Slot) → slot_in s.items bytes ≡ slot → SpelledSlot s bytes slot → SlotFits s slot
read_fits s bytes slot is spelled =
    let o = to_be_bytes w32 slot.rec.owner in
    let c = to_be_bytes w32 slot.counted in
    let w = to_be_bytes w32 slot.owned in
    let r = record_bytes s.items slot.rec.values in
    record {
      owner = number_low 1 slot.rec.owner slot.rec.owner bytes (1 ∷ []) (c ++ (w ++ r)) spelled.same refl (ap (λ (x : Slot). x.rec.owner) is);
      disjoint = spelled.disjoint;
      counted = number_low 5 slot.counted slot.counted bytes (1 ∷ o) (w ++ r) spelled.same refl (ap (λ (x : Slot). x.counted) is);
      owned = number_low 9 slot.owned slot.owned bytes (1 ∷ o ++ c) r spelled.same refl (ap (λ (x : Slot). x.owned) is);
      values = spelled.values;
      plain = subst ArePlain (ap (λ (x : Slot). x.rec.values) is) (values_plain s.items (drop 13 bytes));
    }

-- a record that is read fits, and its spelling is what stood there
pub used_fits : (s : Shape) (bytes : List ℕ) (slot : Slot) → slot_of s bytes ≡ Used slot → SlotFits s slot × (bytes ≡ slot_bytes s.items slot)
unfolding slot_of
used_fits s bytes slot h =
    let used = used_by (is_free s.items bytes) (is_spelled s bytes (slot_in s.items bytes)) (slot_in s.items bytes) slot h in
    let spelled = spelled_is s bytes slot (ap (is_spelled s bytes) (sym used.1) ∙ used.0) in
    (read_fits s bytes slot used.1 spelled, spelled.same)

free_by : (a b : Bool) (x : Slot) → slot_by a b x ≡ Free → a ≡ true
free_by true b x h = refl
free_by false true x h = absurd (cc)
free_by false false x h = absurd (cc)

bad_by : (a b : Bool) (x : Slot) → slot_by a b x ≡ Bad → a ≡ false
bad_by true b x h = absurd (cc)
bad_by false b x h = refl

same_of : (a b : ℕ) → (a == b) ≡ true → a ≡ b
same_of a b h = grind (arith, nat_tests, h)

zeros_are : (bytes : List ℕ) → list_all is_zero bytes ≡ true → bytes ≡ replicate (length bytes) 0
zeros_are [] h = refl
zeros_are (b ∷ bytes) h =
    let both = and_parts (is_zero b) (list_all is_zero bytes) h in
    let zero_here : b ≡ 0 = same_of b 0 both.0 in
    (λ j. zero_here j ∷ zeros_are bytes both.1 j)

pub are_zeros : (n : ℕ) → list_all is_zero (replicate n 0) ≡ true
are_zeros zero = refl
are_zeros (suc n) = are_zeros n

same_number : (a b : ℕ) → a ≡ b → (a == b) ≡ true
same_number a b e = grind (arith, nat_tests, e)

free_zeros : (items : List Item) (bytes : List ℕ) → is_free items bytes ≡ true → bytes ≡ replicate (slot_width items) 0
unfolding is_free
free_zeros items bytes h =
    let both = and_parts (list_all is_zero bytes) (length bytes == slot_width items) h in
    zeros_are bytes both.0 ∙ ap (λ n. replicate n 0) (same_of (length bytes) (slot_width items) both.1)

zeros_free : (items : List Item) → is_free items (replicate (slot_width items) 0) ≡ true
unfolding is_free
zeros_free items = and_from _ _ (are_zeros (slot_width items)) (same_number _ _ (length-replicate {A = ℕ} (slot_width items) 0))

-- a free slot has zeros alone
pub free_is : (s : Shape) (bytes : List ℕ) → slot_of s bytes ≡ Free → bytes ≡ replicate (slot_width s.items) 0
unfolding slot_of
free_is s bytes h = free_zeros s.items bytes (free_by _ _ _ h)

-- and zeros alone are a free slot
pub free_again : (s : Shape) → slot_of s (replicate (slot_width s.items) 0) ≡ Free
unfolding slot_of
free_again s =
    let bytes = replicate (slot_width s.items) 0 in
    ap (λ a. slot_by a (is_spelled s bytes (slot_in s.items bytes)) (slot_in s.items bytes)) (zeros_free s.items)

free_not_bad : Free ≡ Bad → ⊥
free_not_bad h = cc

used_not_bad : (slot : Slot) → Used slot ≡ Bad → ⊥
used_not_bad slot h = cc

-- what is neither isn't zeros, and no record's spelling
pub bad_is : (s : Shape) (bytes : List ℕ) → AreKinds s.items → slot_of s bytes ≡ Bad
    → (bytes ≢ replicate (slot_width s.items) 0) × ((slot : Slot) → SlotFits s slot → bytes ≢ slot_bytes s.items slot)
bad_is s bytes kinds h = (
  (λ e. free_not_bad (sym (free_again s) ∙ ap (slot_of s) (sym e) ∙ h)),
  (λ slot fits e. used_not_bad slot (sym (slot_again s slot kinds fits) ∙ ap (slot_of s) (sym e) ∙ h)),
)

pub used_one : (a b : Slot) → Used a ≡ Used b → a ≡ b
used_one a b h = cc

-- two records that fit have two spellings
pub one_spelling : (s : Shape) (a b : Slot) → AreKinds s.items → SlotFits s a → SlotFits s b → slot_bytes s.items a ≡ slot_bytes s.items b → a ≡ b
one_spelling s a b kinds f g e = used_one a b (sym (slot_again s a kinds f) ∙ ap (slot_of s) e ∙ slot_again s b kinds g)
