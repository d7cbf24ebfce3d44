-- What was spelled is read, and what is read was spelled.
use Rattle.std.proofs.Common.{◌≡◌, ◌+◌, ◌-◌, ◌<◌, ◌^◌, ℕ, ℤ, pos, negsuc, zero, suc, List, [], ◌∷◌, ◌++◌, Bool, true, false, ltb, leb, refl, ap, ◌∙◌, length, replicate, option_map, arith, length-append}
use Rattle.std.specs.Prelude.{◌==◌, unsigned_abs, IsTrue}
use Rattle.std.specs.declared.option.Option.{Option}
use Rattle.std.specs.declared.option.Option.TheVariants.{Some}
use Rattle.std.specs.Int.{w32, w64, to_be_bytes, from_be_bytes}
use Rattle.std.specs.List.{list_all}
use Rattle.std.proofs.lemmas.List.{take_at, drop_at}
use Rattle.std.proofs.lemmas.List.Folds.{list_all-append}
use Rattle.std.proofs.lemmas.Nat.{from_be_bytes-to_be_bytes_4, from_be_bytes-to_be_bytes_8}
use Rattle.std.proofs.lemmas.Bool.{le-ltb, lt-ltb, le-leb, and_from, and_parts}
use Rattle.std.proofs.lemmas.Cmp.{nat_list_eq_equiv}
use Rattle.dms_base.specs.declared.value.Value.{Value}
use Rattle.dms_base.specs.declared.value.Value.TheVariants.{Null, Text, Number, Bool as Truth, Bits, Link as Reference}
use Rattle.dms_base.specs.declared.kind.ItemKind.{ItemKind}
use Rattle.dms_base.specs.declared.kind.ItemKind.TheVariants.{Alpha, Number as Decimal, Bool as OneBit, Field, Link}
use Rattle.dms_base.specs.Fits.{fits}
use Rattle.dms_base.specs.Text.{IsText, text_of, trim_spaces, before_trimmed, is_printable}
use Rattle.dms_desc.specs.declared.structure.Item.{Item}
use Rattle.dms_desc.specs.Plain.{ArePlain, FitsKind}
use Rattle.dms_desc.specs.Shape.{Shape}
use Rattle.dms_fields.specs.Fields.{number_at}
use Rattle.dms_fields.specs.Laid.{bytes_again}
use Rattle.dms_key.specs.KeyBytes.{shift_up, bit_of, field_bytes}
use Rattle.dms_key.specs.KeyOrder.{field_length, fits_length, number_small, bits_small, link_small, shifted_small}
use Rattle.dms_layout.specs.declared.slot.Slot.{Slot}
use Rattle.dms_layout.specs.declared.slot.SlotRead.TheVariants.{Used}
use Rattle.dms_desc.specs.Widths.{item_width, record_width}
use Rattle.dms_layout.specs.Slots.{record_bytes, slot_width, slot_bytes, SlotFits, AreKinds, or_zero, text_or_null, shift_down, value_at, values_at, slot_in, is_free, is_spelled, slot_by, slot_of}
use Rattle.dms_desc.specs.Fitting.{values_fit}

-- ---- texts

only_spaces : (m : ℕ) → trim_spaces (replicate m 32) ≡ []
only_spaces zero = refl
only_spaces (suc m) = ap (before_trimmed 32) (only_spaces m)

-- spaces behind a text are dropped
spaces_dropped : (a : List ℕ) (m : ℕ) → trim_spaces (a ++ replicate m 32) ≡ trim_spaces a
spaces_dropped [] m = only_spaces m
spaces_dropped (b ∷ a) m = ap (before_trimmed b) (spaces_dropped a m)

spaces_printable : (m : ℕ) → list_all is_printable (replicate m 32) ≡ true
spaces_printable zero = refl
spaces_printable (suc m) = spaces_printable m

text_again : (a : List ℕ) (m : ℕ) → IsText a → text_of (a ++ replicate m 32) ≡ Some a
unfolding text_of
text_again a m t =
    let printable : list_all is_printable (a ++ replicate m 32) ≡ true = list_all-append is_printable a (replicate m 32) ∙ and_from _ _ t.printable (spaces_printable m) in
    let trim : trim_spaces (a ++ replicate m 32) ≡ a = spaces_dropped a m ∙ t.without_space in
    let few : leb (length a) 200 ≡ true = le-leb _ _ t.few in
    rw (printable, trim, few) refl

-- ---- numbers

shifted_again : (z : ℤ) → unsigned_abs z < 2 ^ 63 → shift_down (shift_up z) ≡ z
shifted_again (pos n) low =
    let high : ltb (2 ^ 63 + n) (2 ^ 63) ≡ false = le-ltb _ _ (omega arith) in
    let back : 2 ^ 63 + n - 2 ^ 63 ≡ n = omega arith in
    rw (high, back) refl
shifted_again (negsuc n) low =
    let below : ltb (2 ^ 63 - (n + 1)) (2 ^ 63) ≡ true = lt-ltb _ _ (omega (arith, low)) in
    let back : 2 ^ 63 - (2 ^ 63 - (n + 1)) - 1 ≡ n = omega (arith, low) in
    rw (below, back) refl

eight_again : (n : ℕ) → n < 2 ^ 64 → or_zero (number_at w64 (1 ∷ to_be_bytes w64 n) 1) ≡ n
eight_again n small = from_be_bytes-to_be_bytes_8 n small

four_again : (n : ℕ) → n < 2 ^ 32 → or_zero (number_at w32 (1 ∷ to_be_bytes w32 n) 1) ≡ n
four_again n small = from_be_bytes-to_be_bytes_4 n small

bit_again : (b : Bool) → (bit_of b == 1) ≡ b
bit_again true = refl
bit_again false = refl

-- ---- values

-- a value that fits is read from its bytes
pub value_again : (k : ItemKind) (v : Value) → FitsKind k v → value_at k (field_bytes k v) ≡ v
value_again k Null f = refl
value_again (Alpha n) (Text a) f = ap text_or_null (text_again a (n - length a) f.plain)
value_again (Decimal n m s) (Number z) f =
    let small = number_small n z _ f.kind.1 f.fits in
    ap (λ x. Number (shift_down x)) (eight_again (shift_up z) (shifted_small z small)) ∙ ap (λ (x : ℤ). Number x) (shifted_again z small)
value_again OneBit (Truth b) f = ap (λ (x : Bool). Truth x) (bit_again b)
value_again (Field n) (Bits b) f = ap (λ (x : ℕ). Bits x) (eight_again b (bits_small n b f.kind.1 f.fits))
value_again (Link to counted) (Reference r) f = ap (λ (x : ℕ). Reference x) (four_again r (link_small r f.fits))
value_again k v f = absurd (cc (f.fits))

-- each value of a record fits its item
abbrev AllFit : List Item → List Value → Type 0
AllFit [] [] = Unit {0}
AllFit [] (v ∷ vs) = ⊥
AllFit (i ∷ is) [] = ⊥
AllFit (i ∷ is) (v ∷ vs) = FitsKind i.kind v × AllFit is vs

pub each_fits : (is : List Item) (vs : List Value) → AreKinds is → IsTrue (values_fit is vs) → ArePlain vs → AllFit is vs
each_fits [] [] k f p = tt
each_fits [] (v ∷ vs) k f p = absurd (cc (f))
each_fits (i ∷ is) [] k f p = absurd (cc (f))
each_fits (i ∷ is) (v ∷ vs) k f p =
    let both = and_parts (fits i.kind v) (values_fit is vs) f in
    (record { kind = k.0; fits = both.0; plain = p.0 }, each_fits is vs k.1 both.1 p.1)

pub record_length : (is : List Item) (vs : List Value) → AllFit is vs → length (record_bytes is vs) ≡ record_width is
record_length [] [] f = refl
record_length [] (v ∷ vs) f = absurd f
record_length (i ∷ is) [] f = absurd f
record_length (i ∷ is) (v ∷ vs) f =
    length-append (field_bytes i.kind v) (record_bytes is vs) ∙ (λ j. field_length i.kind v f.0 j + record_length is vs f.1 j)

pub values_again : (is : List Item) (vs : List Value) → AllFit is vs → values_at is (record_bytes is vs) ≡ vs
values_again [] [] f = refl
values_again [] (v ∷ vs) f = absurd f
values_again (i ∷ is) [] f = absurd f
values_again (i ∷ is) (v ∷ vs) f =
    let w = item_width i.kind in
    let here = take_at (field_bytes i.kind v) (record_bytes is vs) w (field_length i.kind v f.0) in
    let behind = drop_at (field_bytes i.kind v) (record_bytes is vs) w (field_length i.kind v f.0) in
    (λ j. (ap (value_at i.kind) here ∙ value_again i.kind v f.0) j ∷ (ap (values_at is) behind ∙ values_again is vs f.1) j)

-- ---- slots

-- a number that stands behind some bytes
number_again : (at n : ℕ) (prefix rest : List ℕ) → length prefix ≡ at → n < 2 ^ 32 → or_zero (number_at w32 (prefix ++ (to_be_bytes w32 n ++ rest)) at) ≡ n
number_again at n prefix rest before small =
    ap (λ (o : Option (List ℕ)). or_zero (option_map (from_be_bytes w32) o)) (bytes_again at 4 prefix (to_be_bytes w32 n) rest before refl) ∙ from_be_bytes-to_be_bytes_4 n small

-- what was spelled is what is read in it
pub parts_again : (s : Shape) (slot : Slot) → AreKinds s.items → SlotFits s slot → slot_in s.items (slot_bytes s.items slot) ≡ slot
parts_again s slot kinds f =
    let o = to_be_bytes w32 slot.rec.owner in
    let c = to_be_bytes w32 slot.counted in
    let w = to_be_bytes w32 slot.owned in
    let r = record_bytes s.items slot.rec.values in
    let owner = number_again 1 slot.rec.owner (1 ∷ []) (c ++ (w ++ r)) refl f.owner in
    let counted = number_again 5 slot.counted (1 ∷ o) (w ++ r) refl f.counted in
    let owned = number_again 9 slot.owned (1 ∷ o ++ c) r refl f.owned in
    let values = values_again s.items slot.rec.values (each_fits s.items slot.rec.values kinds f.values f.plain) in
    (λ j. record { rec = record { owner = owner j; values = values j }; counted = counted j; owned = owned j })

spelling_used : (s : Shape) (slot : Slot) → is_free s.items (slot_bytes s.items slot) ≡ false
unfolding is_free
spelling_used s slot = refl

spelling_spelled : (s : Shape) (slot : Slot) → SlotFits s slot → is_spelled s (slot_bytes s.items slot) slot ≡ true
unfolding is_spelled
spelling_spelled s slot f =
    and_from _ _ (nat_list_eq_equiv.refl (slot_bytes s.items slot)) (and_from _ _ f.disjoint f.values)

-- what was spelled is read
pub slot_again : (s : Shape) (slot : Slot) → AreKinds s.items → SlotFits s slot → slot_of s (slot_bytes s.items slot) ≡ Used slot
unfolding slot_of
slot_again s slot kinds f =
    let same = parts_again s slot kinds f in
    let spelled : is_spelled s (slot_bytes s.items slot) (slot_in s.items (slot_bytes s.items slot)) ≡ true = ap (is_spelled s (slot_bytes s.items slot)) same ∙ spelling_spelled s slot f in
    (λ j. slot_by (spelling_used s slot j) (spelled j) (same j))

pub slot_length : (s : Shape) (slot : Slot) → AreKinds s.items → SlotFits s slot → length (slot_bytes s.items slot) ≡ slot_width s.items
slot_length s slot kinds f =
    let e = record_length s.items slot.rec.values (each_fits s.items slot.rec.values kinds f.values f.plain) in
    omega (arith, e)

record_long : (is : List Item) (vs : List Value) → values_fit is vs ≡ true → length (record_bytes is vs) ≡ record_width is
record_long [] [] f = refl
record_long [] (v ∷ vs) f = absurd (cc (f))
record_long (i ∷ is) [] f = absurd (cc (f))
record_long (i ∷ is) (v ∷ vs) f =
    let both = and_parts (fits i.kind v) (values_fit is vs) f in
    length-append (field_bytes i.kind v) (record_bytes is vs) ∙ (λ j. fits_length i.kind v both.0 j + record_long is vs both.1 j)

-- a slot whose values fit is as long as a slot
pub slot_long : (items : List Item) (slot : Slot) → values_fit items slot.rec.values ≡ true → length (slot_bytes items slot) ≡ slot_width items
slot_long items slot f =
    let e = record_long items slot.rec.values f in
    omega (arith, e)
