-- Whether bytes are a slot, told by their parts.
use Rattle.std.proofs.Common.{◌≡◌, ◌∙◌, ◌+◌, ◌-◌, ◌<◌, ◌≤◌, ◌^◌, ℕ, ℤ, pos, negsuc, zero, suc, List, [], ◌∷◌, ◌++◌, Bool, true, false, cond, refl, sym, ap, length, take, drop, replicate, arith}
use Rattle.std.specs.Prelude.{◌&&◌, ◌||◌, ◌==◌, not, nat_lt}
use Rattle.std.specs.Int.{w32, to_be_bytes}
use Rattle.std.specs.List.{list_all}
use Rattle.std.specs.Str.{bytes_eq}
use Rattle.std.proofs.lemmas.Bool.Decides.{nat_tests}
use Rattle.dms_base.specs.declared.kind.ItemKind.{ItemKind}
use Rattle.dms_base.specs.declared.value.Value.{Value}
use Rattle.dms_base.specs.Fits.{fits}
use Rattle.dms_desc.specs.declared.structure.Item.{Item}
use Rattle.dms_desc.specs.Fitting.{values_fit}
use Rattle.dms_desc.specs.Shape.{Shape}
use Rattle.dms_desc.specs.Widths.{item_width}
use Rattle.dms_fields.specs.Fields.{number_at}
use Rattle.dms_key.specs.KeyBytes.{field_bytes, shift_up}
use Rattle.dms_key.specs.KeyOrder.{fits_length}
use Rattle.dms_layout.specs.declared.slot.Slot.{Slot}
use Rattle.dms_layout.specs.Slots.{are_raw_fields, head_bytes, is_raw, is_raw_field, is_raw_slot, raw_of, record_bytes, may_own, or_zero, shift_down, value_in, value_at, values_at, slot_in, is_free, is_spelled, slot_by, slot_of, reads_bad, reads_free}

-- these bytes spell the value that is read of them, and it fits
abbrev pub is_value : ItemKind → List ℕ → Bool
is_value k field = bytes_eq field (field_bytes k (value_in k field)) && fits k (value_in k field)

abbrev pub is_field : ItemKind → List ℕ → Bool
is_field k field = bytes_eq field (field_bytes k (value_at k field)) && fits k (value_at k field)

-- the fields of a record
abbrev pub are_fields : List Item → List ℕ → Bool
are_fields [] bytes = bytes_eq bytes []
are_fields (i ∷ is) bytes = is_field i.kind (take (item_width i.kind) bytes) && are_fields is (drop (item_width i.kind) bytes)

-- ---- laws

and_false : (a : Bool) → (a && false) ≡ false
and_false true = refl
and_false false = refl

and_true : (a : Bool) → (a && true) ≡ a
and_true true = refl
and_true false = refl

and_and : (a b c : Bool) → ((a && b) && c) ≡ (a && (b && c))
and_and true b c = refl
and_and false b c = refl

-- bytes are two others one behind the other
pub eq_parts : (xs p q : List ℕ) → bytes_eq xs (p ++ q) ≡ (bytes_eq (take (length p) xs) p && bytes_eq (drop (length p) xs) q)
eq_parts xs [] q = refl
eq_parts [] (y ∷ p) q = refl
eq_parts (x ∷ xs) (y ∷ p) q = ap (λ b. (x == y) && b) (eq_parts xs p q) ∙ sym (and_and (x == y) (bytes_eq (take (length p) xs) p) (bytes_eq (drop (length p) xs) q))

zero_suc : (n : ℕ) → (0 == suc n) ≡ false
zero_suc n = grind (arith, nat_tests)

suc_zero : (n : ℕ) → (suc n == 0) ≡ false
suc_zero n = grind (arith, nat_tests)

suc_suc : (m n : ℕ) → (suc m == suc n) ≡ (m == n)
suc_suc m n = grind (arith, nat_tests)

-- and bytes that are all the same
pub eq_same : (xs : List ℕ) (n b : ℕ) → bytes_eq xs (replicate n b) ≡ ((length xs == n) && list_all (λ x. x == b) xs)
eq_same [] zero b = refl
eq_same [] (suc n) b = sym (ap (λ t. t && true) (zero_suc n))
eq_same (x ∷ xs) zero b = sym (ap (λ t. t && list_all (λ y. y == b) (x ∷ xs)) (suc_zero (length xs)))
eq_same (x ∷ xs) (suc n) b =
    ap (λ t. (x == b) && t) (eq_same xs n b) ∙ turn (x == b) (length xs == n) (list_all (λ y. y == b) xs)
    ∙ sym (ap (λ t. t && ((x == b) && list_all (λ y. y == b) xs)) (suc_suc (length xs) n))
  where
    turn : (a c d : Bool) → (a && (c && d)) ≡ (c && (a && d))
    turn true c d = refl
    turn false true d = refl
    turn false false d = refl

-- a number that was moved down is moved up again
pub shifted : (n : ℕ) → shift_up (shift_down n) ≡ n
shifted n = by (nat_lt n (2 ^ 63)) refl
  where
    by : (b : Bool) → nat_lt n (2 ^ 63) ≡ b → shift_up (cond b (negsuc (2 ^ 63 - n - 1)) (pos (n - 2 ^ 63))) ≡ n
    by true low = let e : n < 2 ^ 63 = grind (arith, nat_tests, low) in omega (arith, e)
    by false high = let e : 2 ^ 63 ≤ n = grind (arith, nat_tests, high) in omega (arith, e)

one_field : (b : Bool) (k : ItemKind) (v : Value) (bytes more : List ℕ) (rest : Bool) → fits k v ≡ b
    → ((bytes_eq (take (item_width k) bytes) (field_bytes k v) && b) && (bytes_eq (drop (item_width k) bytes) more && rest)) ≡ (bytes_eq bytes (field_bytes k v ++ more) && (b && rest))
one_field true k v bytes more rest f =
    let long : length (field_bytes k v) ≡ item_width k = fits_length k v f in
    let parts : bytes_eq bytes (field_bytes k v ++ more) ≡ (bytes_eq (take (item_width k) bytes) (field_bytes k v) && bytes_eq (drop (item_width k) bytes) more) =
    eq_parts bytes (field_bytes k v) more ∙ ap (λ n. bytes_eq (take n bytes) (field_bytes k v) && bytes_eq (drop n bytes) more) long in
    ap (λ a. a && (bytes_eq (drop (item_width k) bytes) more && rest)) (and_true (bytes_eq (take (item_width k) bytes) (field_bytes k v)))
    ∙ sym (and_and (bytes_eq (take (item_width k) bytes) (field_bytes k v)) (bytes_eq (drop (item_width k) bytes) more) rest)
    ∙ ap (λ a. a && rest) (sym parts)
one_field false k v bytes more rest f =
    ap (λ a. a && (bytes_eq (drop (item_width k) bytes) more && rest)) (and_false (bytes_eq (take (item_width k) bytes) (field_bytes k v))) ∙ sym (and_false (bytes_eq bytes (field_bytes k v ++ more)))

-- the fields are those of the record that is read
fields_are : (is : List Item) (bytes : List ℕ) → are_fields is bytes ≡ (bytes_eq bytes (record_bytes is (values_at is bytes)) && values_fit is (values_at is bytes))
fields_are [] bytes = sym (and_true (bytes_eq bytes []))
fields_are (i ∷ is) bytes =
    let w = item_width i.kind in
    let v = value_at i.kind (take w bytes) in
    ap (λ b. is_field i.kind (take w bytes) && b) (fields_are is (drop w bytes))
    ∙ one_field (fits i.kind v) i.kind v bytes (record_bytes is (values_at is (drop w bytes))) (values_fit is (values_at is (drop w bytes))) refl

-- a slot is spelled where its parts are
pub parts_spelled : (s : Shape) (bytes : List ℕ)
    → (bytes_eq (take 13 bytes) (head_bytes bytes) && (may_own s (or_zero (number_at w32 bytes 1)) && are_fields s.items (drop 13 bytes))) ≡ is_spelled s bytes (slot_in s.items bytes)
unfolding is_spelled
parts_spelled s bytes =
    let values = values_at s.items (drop 13 bytes) in
    let rest = record_bytes s.items values in
    let own = may_own s (or_zero (number_at w32 bytes 1)) in
    let a = bytes_eq (take 13 bytes) (head_bytes bytes) in
    let b = bytes_eq (drop 13 bytes) rest in
    let f = values_fit s.items values in
    ap (λ x. a && (own && x)) (fields_are s.items (drop 13 bytes))
    ∙ turn a own b f
    ∙ ap (λ x. x && (own && f)) (sym (eq_parts bytes (head_bytes bytes) rest))
  where
    turn : (a own b f : Bool) → (a && (own && (b && f))) ≡ ((a && b) && (own && f))
    turn true true b f = refl
    turn true false b f = sym (and_false b)
    turn false own b f = refl

-- what is read is bad where bytes are neither zeros nor a slot's spelling
pub bad_read : (s : Shape) (bytes : List ℕ) → not (is_free s.items bytes || is_spelled s bytes (slot_in s.items bytes)) ≡ reads_bad (slot_of s bytes)
unfolding slot_of
bad_read s bytes = by (is_free s.items bytes) (is_spelled s bytes (slot_in s.items bytes))
  where
    by : (a b : Bool) → not (a || b) ≡ reads_bad (slot_by a b (slot_in s.items bytes))
    by true b = refl
    by false true = refl
    by false false = refl

-- and free where they are zeros
pub free_read : (s : Shape) (bytes : List ℕ) → is_free s.items bytes ≡ reads_free (slot_of s bytes)
unfolding slot_of
free_read s bytes = by (is_free s.items bytes) (is_spelled s bytes (slot_in s.items bytes))
  where
    by : (a b : Bool) → a ≡ reads_free (slot_by a b (slot_in s.items bytes))
    by true b = refl
    by false true = refl
    by false false = refl

-- ---- ranges aside

both_parts : (a f b g : Bool) → ((a && f) && (b && g)) ≡ ((a && b) && (f && g))
both_parts true true b g = refl
both_parts true false true g = refl
both_parts true false false g = refl
both_parts false f b g = refl

-- the fields of a record are in the format, and their values fit
raw_fields : (is : List Item) (bytes : List ℕ) → are_fields is bytes ≡ (are_raw_fields is bytes && values_fit is (values_at is bytes))
raw_fields [] bytes = sym (and_true (bytes_eq bytes []))
raw_fields (i ∷ is) bytes =
    let w = item_width i.kind in
    let field = take w bytes in
    ap (λ b. is_field i.kind field && b) (raw_fields is (drop w bytes))
    ∙ both_parts (is_raw_field i.kind field) (fits i.kind (value_at i.kind field)) (are_raw_fields is (drop w bytes)) (values_fit is (values_at is (drop w bytes)))

apart : (free h o r f : Bool) → not (free || (h && (o && (r && f)))) ≡ not ((free || (h && (o && r))) && (free || f))
apart true h o r f = refl
apart false true true true f = refl
apart false true true false f = refl
apart false true false r f = refl
apart false false o r f = refl

-- A slot is bad where it isn't in the format, or a value of it doesn't fit.
pub bad_parts : (s : Shape) (bytes : List ℕ) → reads_bad (slot_of s bytes) ≡ not (is_raw_slot s bytes && (is_free s.items bytes || values_fit s.items (values_at s.items (drop 13 bytes))))
unfolding is_raw
bad_parts s bytes =
    let free = is_free s.items bytes in
    let h = bytes_eq (take 13 bytes) (head_bytes bytes) in
    let o = may_own s (or_zero (number_at w32 bytes 1)) in
    sym (bad_read s bytes)
    ∙ ap (λ t. not (free || t)) (sym (parts_spelled s bytes))
    ∙ ap (λ t. not (free || (h && (o && t)))) (raw_fields s.items (drop 13 bytes))
    ∙ apart free h o (are_raw_fields s.items (drop 13 bytes)) (values_fit s.items (values_at s.items (drop 13 bytes)))

three : (h o r f : Bool) → (h && (o && (r && f))) ≡ ((h && (o && r)) && f)
three true true r f = refl
three true false r f = refl
three false o r f = refl

-- a slot is spelled where it is in the format and its values fit
raw_fits : (s : Shape) (bytes : List ℕ) → is_spelled s bytes (slot_in s.items bytes) ≡ (is_raw s bytes && values_fit s.items (values_at s.items (drop 13 bytes)))
unfolding is_raw
raw_fits s bytes =
    let h = bytes_eq (take 13 bytes) (head_bytes bytes) in
    let o = may_own s (or_zero (number_at w32 bytes 1)) in
    sym (parts_spelled s bytes) ∙ ap (λ t. h && (o && t)) (raw_fields s.items (drop 13 bytes)) ∙ three h o (are_raw_fields s.items (drop 13 bytes)) (values_fit s.items (values_at s.items (drop 13 bytes)))

same_by : (free raw spelled fit : Bool) (slot : Slot) → spelled ≡ (raw && fit) → reads_bad (slot_by free spelled slot) ≡ false → slot_by free raw slot ≡ slot_by free spelled slot
same_by true raw spelled fit slot is good = refl
same_by false true true fit slot is good = refl
same_by false true false fit slot is good = absurd (cc (good))
same_by false false true fit slot is good = absurd (cc (is))
same_by false false false fit slot is good = refl

-- Where a slot isn't bad it says the same, ranges or not.
pub raw_read : (s : Shape) (bytes : List ℕ) → reads_bad (slot_of s bytes) ≡ false → raw_of s bytes ≡ slot_of s bytes
unfolding slot_of raw_of
raw_read s bytes good =
    same_by (is_free s.items bytes) (is_raw s bytes) (is_spelled s bytes (slot_in s.items bytes)) (values_fit s.items (values_at s.items (drop 13 bytes))) (slot_in s.items bytes) (raw_fits s bytes) good
