-- The order of keys is that of their bytes.
use Rattle.std.proofs.Common.{◌≡◌, ℕ, ℤ, pos, negsuc, zero, suc, ◌+◌, ◌-◌, ◌^◌, ◌≤◌, ◌<◌, List, [], ◌∷◌, ◌++◌, Bool, true, false, cond, leb, refl, sym, ap, ◌∙◌, map, length, replicate, arith, slice_get, take, drop, length-append, append_assoc}
use Rattle.std.specs.declared.option.Option.{Option}
use Rattle.std.specs.declared.option.Option.TheVariants.{None, Some}
use Rattle.std.proofs.lemmas.List.{take_all}
use Rattle.std.specs.Prelude.{nat_lt, ◌==◌, ◌&&◌, unsigned_abs}
use Rattle.std.specs.List.{list_all}
use Rattle.std.specs.Int.{w32, w64, to_be_bytes, bytes_high_first}
use Rattle.std.specs.Ordering.{nat_cmp, int_cmp, ordering_then, ordering_reverse, MatchOrdering}
use Rattle.std.specs.declared.cmp.Ordering.{Ordering}
use Rattle.std.specs.declared.cmp.Ordering.TheVariants.{Less, Equal, Greater}
use Rattle.std.proofs.lemmas.Cmp.{ranked}
use Rattle.std.specs.Cmp.Lexicographic.{nat_list_cmp_total}
use Rattle.std.proofs.lemmas.Bool.Decides.{nat_tests}
use Rattle.std.proofs.Math.Nat as nat
use Rattle.std.proofs.lemmas.Bool.{and_parts}
use Rattle.dms_base.specs.declared.value.Value.{Value}
use Rattle.dms_base.specs.declared.value.Value.TheVariants.{Null, Text, Number, Bool as Truth, Bits, Link as Reference}
use Rattle.dms_base.specs.declared.kind.ItemKind.{ItemKind}
use Rattle.dms_base.specs.declared.kind.ItemKind.TheVariants.{Alpha, Number as Decimal, Bool as OneBit, Field, Link}
use Rattle.dms_base.specs.Fits.{fits}
use Rattle.dms_base.specs.Orders.{value_cmp, truth_cmp}
use Rattle.dms_base.specs.Text.{IsText, trim_spaces, before_trimmed, is_printable}
use Rattle.dms_desc.specs.declared.structure.KeyPart.{KeyPart}
use Rattle.dms_desc.specs.Conds.{is_null, or_null}
use Rattle.dms_desc.specs.Widths.{width_of}
use Rattle.dms_desc.specs.Keys.{key_cmp_from, key_cmp, reverse_if}
use Rattle.dms_key.specs.ByteOrder.{less_is, equal_is, greater_is, append_cmp, AreBytes, complement_cmp, moved_cmp, high_first_cmp, high_first_bytes}
use Rattle.dms_key.specs.KeyBytes.{bytes_cmp, shift_up, bit_of, field_bytes, turned_bytes, kind_of, part_bytes, part_width, key_bytes, key_width, FitsPart, KeyHasKinds}
use Rattle.dms_desc.specs.Plain.{FitsKind}

-- numbers of so many bytes
pub word_cmp : (k a b : ℕ) → a < 256 ^ k → b < 256 ^ k → bytes_cmp (bytes_high_first k a) (bytes_high_first k b) ≡ nat_cmp a b
word_cmp k a b p q = high_first_cmp k a b ∙ (λ i. nat_cmp (nat.mod-eq_of_lt p i) (nat.mod-eq_of_lt q i))

pub four_cmp : (a b : ℕ) → a < 2 ^ 32 → b < 2 ^ 32 → bytes_cmp (to_be_bytes w32 a) (to_be_bytes w32 b) ≡ nat_cmp a b
four_cmp a b p q = word_cmp 4 a b (omega (arith, p)) (omega (arith, q))

pub eight_cmp : (a b : ℕ) → a < 2 ^ 64 → b < 2 ^ 64 → bytes_cmp (to_be_bytes w64 a) (to_be_bytes w64 b) ≡ nat_cmp a b
eight_cmp a b p q = word_cmp 8 a b (omega (arith, p)) (omega (arith, q))

int_of : (a b : ℕ) → nat_cmp a b ≡ int_cmp (pos a) (pos b)
int_of a b = grind (arith, nat_tests)

below_at : (o : Ordering) (a b : ℕ) → MatchOrdering o (a < b) (a ≡ b) (b < a) → a < 2 ^ 63 → b < 2 ^ 63 → nat_cmp (2 ^ 63 - (a + 1)) (2 ^ 63 - (b + 1)) ≡ ordering_reverse o
below_at Less a b is p q = greater_is (2 ^ 63 - (a + 1)) (2 ^ 63 - (b + 1)) (omega (arith, is, p, q))
below_at Equal a b is p q = equal_is (2 ^ 63 - (a + 1)) (2 ^ 63 - (b + 1)) (omega (arith, is, p, q))
below_at Greater a b is p q = less_is (2 ^ 63 - (a + 1)) (2 ^ 63 - (b + 1)) (omega (arith, is, p, q))

int_below : (o : Ordering) (a b : ℕ) → MatchOrdering o (a < b) (a ≡ b) (b < a) → ordering_reverse o ≡ int_cmp (negsuc a) (negsuc b)
int_below Less a b is = grind (arith, nat_tests, is)
int_below Equal a b is = grind (arith, nat_tests, is)
int_below Greater a b is = grind (arith, nat_tests, is)

pub shift_order : (x y : ℤ) → unsigned_abs x < 2 ^ 63 → unsigned_abs y < 2 ^ 63 → nat_cmp (shift_up x) (shift_up y) ≡ int_cmp x y
shift_order (pos a) (pos b) p q = moved_cmp (2 ^ 63) a b ∙ int_of a b
shift_order (pos a) (negsuc b) p q = greater_is (2 ^ 63 + a) (2 ^ 63 - (b + 1)) (omega arith)
shift_order (negsuc a) (pos b) p q = less_is (2 ^ 63 - (a + 1)) (2 ^ 63 + b) (omega arith)
shift_order (negsuc a) (negsuc b) p q =
    below_at (nat_cmp a b) a b (ranked a b (nat_cmp a b) refl) (omega (arith, p)) (omega (arith, q)) ∙ int_below (nat_cmp a b) a b (ranked a b (nat_cmp a b) refl)

pub shifted_small : (x : ℤ) → unsigned_abs x < 2 ^ 63 → shift_up x < 2 ^ 64
shifted_small (pos a) p = omega (arith, p)
shifted_small (negsuc a) p = omega (arith, p)

-- texts, filled with spaces

-- no byte below a space, and no space at the end
abbrev pub IsTail : List ℕ → Type 0
IsTail [] = Unit {0}
IsTail (b ∷ bs) = (32 ≤ b) × (b ≡ 32 → bs ≡ [] → ⊥) × IsTail bs

same_tail : (b c : ℕ) (xs ys : List ℕ) → ◌≡◌ {A = List ℕ} (b ∷ xs) (c ∷ ys) → xs ≡ ys
same_tail b c xs ys h = cc

tail_at : (z : Bool) (b : ℕ) (bs : List ℕ) → (b == 32) ≡ z → cond z [] (b ∷ []) ≡ b ∷ bs → [] ≡ bs
tail_at true b bs e h = absurd (cc)
tail_at false b bs e h = same_tail b b [] bs h

tail_trimmed : (t : List ℕ) (b : ℕ) (bs : List ℕ) → before_trimmed b t ≡ b ∷ bs → t ≡ bs
tail_trimmed [] b bs h = tail_at (b == 32) b bs refl h
tail_trimmed (x ∷ t) b bs h = same_tail b b (x ∷ t) bs h

last_at : (z : Bool) (b : ℕ) → (b == 32) ≡ z → b ≡ 32 → cond z [] (b ∷ []) ≡ b ∷ [] → ⊥
last_at true b e s h = absurd (cc)
last_at false b e s h = absurd (grind (arith, nat_tests, e, s))

no_space : (b : ℕ) (bs : List ℕ) → trim_spaces (b ∷ bs) ≡ b ∷ bs → b ≡ 32 → bs ≡ [] → ⊥
no_space b [] h s none = last_at (b == 32) b refl s h
no_space b (x ∷ bs) h s none = absurd (cc)

pub tail_of : (bs : List ℕ) → list_all is_printable bs ≡ true → trim_spaces bs ≡ bs → IsTail bs
tail_of [] p t = tt
tail_of (b ∷ bs) p t =
    let both = and_parts (is_printable b) (list_all is_printable bs) p in
    let range = and_parts (leb 32 b) (leb b 126) both.0 in
    (grind (arith, nat_tests, range.0), no_space b bs t, tail_of bs both.1 (tail_trimmed (trim_spaces bs) b bs t))

pub equal_itself : (bs : List ℕ) → bytes_cmp bs bs ≡ Equal
equal_itself [] = refl
equal_itself (b ∷ bs) = ap (λ o. ordering_then o (bytes_cmp bs bs)) (equal_is b b refl) ∙ equal_itself bs

abbrev fill_spaces : ℕ → List ℕ → List ℕ
fill_spaces n bs = bs ++ replicate (n - length bs) 32

filled_more : (m y : ℕ) (ys : List ℕ) → fill_spaces (suc m) (y ∷ ys) ≡ y ∷ fill_spaces m ys
filled_more m y ys = ap (λ n. y ∷ ys ++ replicate n 32) (omega arith)

some_byte : (y : ℕ) (ys : List ℕ) → ◌≡◌ {A = List ℕ} (y ∷ ys) [] → ⊥
some_byte y ys h = absurd (cc)

fill_at : (o : Ordering) (m y : ℕ) (ys : List ℕ) → MatchOrdering o (32 < y) (32 ≡ y) (y < 32) → 32 ≤ y → (32 ≡ y → bytes_cmp (replicate m 32) (fill_spaces m ys) ≡ Less) → ordering_then o (bytes_cmp (replicate m 32) (fill_spaces m ys)) ≡ Less
fill_at Less m y ys is low rest = refl
fill_at Equal m y ys is low rest = rest is
fill_at Greater m y ys is low rest = absurd (omega (arith, is, low))

-- spaces are less than a text
fill_less : (m : ℕ) (ys : List ℕ) → length ys ≤ m → IsTail ys → (ys ≡ [] → ⊥) → bytes_cmp (replicate m 32) (fill_spaces m ys) ≡ Less
fill_less m [] le tail some = absurd (some refl)
fill_less zero (y ∷ ys) le tail some = absurd (omega (arith, le))
fill_less (suc m) (y ∷ ys) le tail some =
    ap (bytes_cmp (replicate (suc m) 32)) (filled_more m y ys)
    ∙ fill_at (nat_cmp 32 y) m y ys (ranked 32 y (nat_cmp 32 y) refl) tail.0 (λ e. fill_less m ys (omega (arith, le)) tail.2 (tail.1 (sym e)))

nothing_filled : (m : ℕ) → fill_spaces m [] ≡ replicate m 32
nothing_filled m = ap (λ n. replicate n 32) (omega arith)

pub filled_cmp : (n : ℕ) (a b : List ℕ) → length a ≤ n → length b ≤ n → IsTail a → IsTail b → bytes_cmp (fill_spaces n a) (fill_spaces n b) ≡ bytes_cmp a b
filled_cmp n [] [] p q s t = equal_itself (fill_spaces n [])
filled_cmp n [] (y ∷ ys) p q s t = ap (λ x. bytes_cmp x (fill_spaces n (y ∷ ys))) (nothing_filled n) ∙ fill_less n (y ∷ ys) q t (some_byte y ys)
filled_cmp n (x ∷ xs) [] p q s t =
    nat_list_cmp_total.antisymm (fill_spaces n (x ∷ xs)) (fill_spaces n [])
    ∙ ap (λ z. ordering_reverse (bytes_cmp z (fill_spaces n (x ∷ xs)))) (nothing_filled n) ∙ ap ordering_reverse (fill_less n (x ∷ xs) p s (some_byte x xs))
filled_cmp zero (x ∷ xs) (y ∷ ys) p q s t = absurd (omega (arith, p))
filled_cmp (suc n) (x ∷ xs) (y ∷ ys) p q s t =
    (λ i. bytes_cmp (filled_more n x xs i) (filled_more n y ys i)) ∙ ap (ordering_then (nat_cmp x y)) (filled_cmp n xs ys (omega (arith, p)) (omega (arith, q)) s.2 t.2)

-- values of items

spaces_length : (n m : ℕ) → length (replicate n m) ≡ n
spaces_length zero m = refl
spaces_length (suc n) m = ap suc (spaces_length n m)

filled_length : (n : ℕ) (a : List ℕ) → length a ≤ n → length (fill_spaces n a) ≡ n
filled_length n a le = length-append a (replicate (n - length a) 32) ∙ ap (λ m. length a + m) (spaces_length (n - length a) 32) ∙ omega (arith, le)

small_power : (n : ℕ) → n ≤ 18 → 10 ^ n ≤ 10 ^ 18
small_power n le = nat.pow-le-pow_right (omega arith) le

small_bits : (n : ℕ) → n ≤ 48 → 2 ^ n ≤ 2 ^ 48
small_bits n le = nat.pow-le-pow_right (omega arith) le

text_short : (n : ℕ) (a : List ℕ) → leb (length a) n ≡ true → length a ≤ n
text_short n a h = grind (arith, nat_tests, h)

pub number_small : (n : ℕ) (z : ℤ) (s : Bool) → n ≤ 18 → (nat_lt (unsigned_abs z) (10 ^ n) && s) ≡ true → unsigned_abs z < 2 ^ 63
number_small n z s le h =
    let lt : unsigned_abs z < 10 ^ n = grind (arith, nat_tests, (and_parts (nat_lt (unsigned_abs z) (10 ^ n)) s h).0) in
    omega (arith, lt, small_power n le)

pub bits_small : (n b : ℕ) → n ≤ 48 → nat_lt b (2 ^ n) ≡ true → b < 2 ^ 64
bits_small n b le h =
    let lt : b < 2 ^ n = grind (arith, nat_tests, h) in
    omega (arith, lt, small_bits n le)

pub link_small : (r : ℕ) → nat_lt r (2 ^ 32) ≡ true → r < 2 ^ 32
link_small r h = grind (arith, nat_tests, h)

tail_in : (a : List ℕ) → IsText a → IsTail a
tail_in a t = tail_of a t.printable t.without_space

bit_order : (a b : Bool) → bytes_cmp (bit_of a ∷ []) (bit_of b ∷ []) ≡ truth_cmp a b
bit_order false false = refl
bit_order false true = refl
bit_order true false = refl
bit_order true true = refl

-- the order of values that fit is that of their bytes
pub field_order : (k : ItemKind) (v w : Value) → FitsKind k v → FitsKind k w → bytes_cmp (field_bytes k v) (field_bytes k w) ≡ value_cmp v w
field_order (Alpha n) (Text a) (Text b) f g = filled_cmp n a b (text_short n a f.fits) (text_short n b g.fits) (tail_in a f.plain) (tail_in b g.plain)
field_order (Decimal n m s) (Number x) (Number y) f g =
    let p = number_small n x _ f.kind.1 f.fits in
    let q = number_small n y _ f.kind.1 g.fits in
    eight_cmp (shift_up x) (shift_up y) (shifted_small x p) (shifted_small y q) ∙ shift_order x y p q
field_order OneBit (Truth a) (Truth b) f g = bit_order a b
field_order (Field n) (Bits a) (Bits b) f g = eight_cmp a b (bits_small n a f.kind.1 f.fits) (bits_small n b f.kind.1 g.fits)
field_order (Link to counted) (Reference a) (Reference b) f g = four_cmp a b (link_small a f.fits) (link_small b g.fits)
field_order k Null Null f g = equal_itself (255 ∷ replicate (width_of k) 255)
field_order k Null (Text b) f g = refl
field_order k Null (Number b) f g = refl
field_order k Null (Truth b) f g = refl
field_order k Null (Bits b) f g = refl
field_order k Null (Reference b) f g = refl
field_order k (Text b) Null f g = refl
field_order k (Number b) Null f g = refl
field_order k (Truth b) Null f g = refl
field_order k (Bits b) Null f g = refl
field_order k (Reference b) Null f g = refl
field_order k v w f g = absurd (cc (f.fits, g.fits))

-- a value's bytes are as many as its kind says
pub fits_length : (k : ItemKind) (v : Value) → fits k v ≡ true → length (field_bytes k v) ≡ suc (width_of k)
fits_length k Null f = ap suc (spaces_length (width_of k) 255)
fits_length (Alpha n) (Text a) f = ap suc (filled_length n a (text_short n a f))
fits_length (Decimal n m s) (Number z) f = refl
fits_length OneBit (Truth b) f = refl
fits_length (Field n) (Bits b) f = refl
fits_length (Link to counted) (Reference r) f = refl
fits_length k v f = absurd (cc (f))

pub field_length : (k : ItemKind) (v : Value) → FitsKind k v → length (field_bytes k v) ≡ suc (width_of k)
field_length k v f = fits_length k v f.fits

all_bytes : (n b : ℕ) → b ≤ 255 → AreBytes (replicate n b)
all_bytes zero b h = tt
all_bytes (suc n) b h = (h, all_bytes n b h)

append_bytes : (a b : List ℕ) → AreBytes a → AreBytes b → AreBytes (a ++ b)
append_bytes [] b p q = q
append_bytes (x ∷ a) b p q = (p.0, append_bytes a b p.1 q)

text_bytes : (bs : List ℕ) → list_all is_printable bs ≡ true → AreBytes bs
text_bytes [] p = tt
text_bytes (b ∷ bs) p =
    let both = and_parts (is_printable b) (list_all is_printable bs) p in
    let range = and_parts (leb 32 b) (leb b 126) both.0 in
    let most : b ≤ 126 = grind (arith, nat_tests, range.1) in
    (omega (arith, most), text_bytes bs both.1)

bit_small : (b : Bool) → bit_of b ≤ 255
bit_small true = omega arith
bit_small false = omega arith

pub field_are_bytes : (k : ItemKind) (v : Value) → FitsKind k v → AreBytes (field_bytes k v)
field_are_bytes k Null f = (omega arith, all_bytes (width_of k) 255 (omega arith))
field_are_bytes (Alpha n) (Text a) f = (omega arith, append_bytes a (replicate (n - length a) 32) (text_bytes a f.plain.printable) (all_bytes (n - length a) 32 (omega arith)))
field_are_bytes (Decimal n m s) (Number z) f = (omega arith, high_first_bytes 8 (shift_up z))
field_are_bytes OneBit (Truth b) f = (omega arith, (bit_small b, tt))
field_are_bytes (Field n) (Bits b) f = (omega arith, high_first_bytes 8 b)
field_are_bytes (Link to counted) (Reference r) f = (omega arith, high_first_bytes 4 r)
field_are_bytes k v f = absurd (cc (f.fits))

-- parts and keys

turned_order : (d : Bool) (x y : List ℕ) (o : Ordering) → length x ≡ length y → AreBytes x → AreBytes y → bytes_cmp x y ≡ o → bytes_cmp (turned_bytes d x) (turned_bytes d y) ≡ reverse_if d o
turned_order false x y o e p q h = h
turned_order true x y o e p q h = complement_cmp x y e p q ∙ ap ordering_reverse h

mapped_length : (x : List ℕ) → length (map (λ b. 255 - b) x) ≡ length x
mapped_length [] = refl
mapped_length (b ∷ x) = ap suc (mapped_length x)

pub turned_length : (d : Bool) (x : List ℕ) → length (turned_bytes d x) ≡ length x
turned_length false x = refl
turned_length true x = mapped_length x

-- a part is as long as its item says
pub part_length : (o : Option ItemKind) (d : Bool) (v : Value) → FitsPart o v → length (part_bytes o d v) ≡ part_width o
part_length None d v f = absurd f
part_length (Some k) d v f = turned_length d (field_bytes k v) ∙ field_length k v f

part_order : (o : Option ItemKind) (d : Bool) (v w : Value) → FitsPart o v → FitsPart o w → bytes_cmp (part_bytes o d v) (part_bytes o d w) ≡ reverse_if d (value_cmp v w)
part_order None d v w f g = absurd f
part_order (Some k) d v w f g =
    turned_order d (field_bytes k v) (field_bytes k w) (value_cmp v w) (field_length k v f ∙ sym (field_length k w g)) (field_are_bytes k v f) (field_are_bytes k w g) (field_order k v w f g)

slice_next : (xs : List Value) (x : Value) (i : ℕ) → slice_get (x ∷ xs) (i + 1) ≡ slice_get xs i
slice_next xs x i = ap (slice_get (x ∷ xs)) (let e : i + 1 ≡ suc i = omega arith in e)

key_next : (i : ℕ) (ps : List KeyPart) (v w : Value) (a b : List Value) → key_cmp_from (i + 1) ps (v ∷ a) (w ∷ b) ≡ key_cmp_from i ps a b
key_next i [] v w a b = refl
key_next i (p ∷ ps) v w a b =
    (λ j. ordering_then (reverse_if p.descending (value_cmp (or_null (slice_next a v i j)) (or_null (slice_next b w i j)))) (key_next (i + 1) ps v w a b j))

-- the order of the first values of keys is that of their bytes
pub prefix_order : (kinds : List ItemKind) (ps : List KeyPart) (a b : List Value) → KeyHasKinds kinds ps a → KeyHasKinds kinds ps b → length a ≡ length b
    → bytes_cmp (key_bytes kinds ps a) (key_bytes kinds ps b) ≡ key_cmp (take (length a) ps) a b
prefix_order kinds ps [] [] f g e = refl
prefix_order kinds ps [] (w ∷ b) f g e = absurd (omega (arith, e))
prefix_order kinds ps (v ∷ a) [] f g e = absurd (omega (arith, e))
prefix_order kinds [] (v ∷ a) (w ∷ b) f g e = absurd f
prefix_order kinds (p ∷ ps) (v ∷ a) (w ∷ b) f g e =
    let o = kind_of kinds p in
    let d = p.descending in
    append_cmp (part_bytes o d v) (part_bytes o d w) (key_bytes kinds ps a) (key_bytes kinds ps b) (part_length o d v f.0 ∙ sym (part_length o d w g.0))
    ∙ (λ j. ordering_then (part_order o d v w f.0 g.0 j) ((prefix_order kinds ps a b f.1 g.1 (omega (arith, e)) ∙ sym (key_next 0 (take (length a) ps) v w a b)) j))

-- and that of whole keys
pub key_order : (kinds : List ItemKind) (ps : List KeyPart) (a b : List Value) → KeyHasKinds kinds ps a → KeyHasKinds kinds ps b → length a ≡ length ps → length b ≡ length ps
    → bytes_cmp (key_bytes kinds ps a) (key_bytes kinds ps b) ≡ key_cmp ps a b
key_order kinds ps a b f g e h = prefix_order kinds ps a b f g (e ∙ sym h) ∙ ap (λ qs. key_cmp qs a b) (take_all (length a) ps (omega (arith, e)))

-- the first values of keys take as many bytes as their parts say
pub key_length : (kinds : List ItemKind) (ps : List KeyPart) (a : List Value) → KeyHasKinds kinds ps a → length (key_bytes kinds ps a) ≡ key_width kinds (take (length a) ps)
key_length kinds ps [] f = refl
key_length kinds [] (v ∷ a) f = absurd f
key_length kinds (p ∷ ps) (v ∷ a) f =
    length-append (part_bytes (kind_of kinds p) p.descending v) (key_bytes kinds ps a)
    ∙ (λ j. part_length (kind_of kinds p) p.descending v f.0 j + key_length kinds ps a f.1 j)

-- never more than a whole key
pub key_most : (kinds : List ItemKind) (ps : List KeyPart) (a : List Value) → KeyHasKinds kinds ps a → length (key_bytes kinds ps a) ≤ key_width kinds ps
key_most kinds ps [] f = omega arith
key_most kinds [] (v ∷ a) f = absurd f
key_most kinds (p ∷ ps) (v ∷ a) f =
    omega (arith, length-append (part_bytes (kind_of kinds p) p.descending v) (key_bytes kinds ps a), part_length (kind_of kinds p) p.descending v f.0, key_most kinds ps a f.1)

-- the bytes of the first values are the first bytes of the key
pub split_key : (kinds : List ItemKind) (ps : List KeyPart) (a b : List Value) → length a ≤ length ps → key_bytes kinds ps (a ++ b) ≡ key_bytes kinds ps a ++ key_bytes kinds (drop (length a) ps) b
split_key kinds ps [] b le = refl
split_key kinds [] (v ∷ a) b le = absurd (omega (arith, le))
split_key kinds (p ∷ ps) (v ∷ a) b le =
    ap (λ l. part_bytes (kind_of kinds p) p.descending v ++ l) (split_key kinds ps a b (omega (arith, le)))
    ∙ sym (append_assoc (part_bytes (kind_of kinds p) p.descending v) (key_bytes kinds ps a) (key_bytes kinds (drop (length a) ps) b))

-- null is above all other values
pub null_highest : (k : ItemKind) (v : Value) → FitsKind k v → is_null v ≡ false → bytes_cmp (field_bytes k v) (field_bytes k Null) ≡ Less
null_highest k Null f h = absurd (cc)
null_highest k (Text b) f h = refl
null_highest k (Number b) f h = refl
null_highest k (Truth b) f h = refl
null_highest k (Bits b) f h = refl
null_highest k (Reference b) f h = refl

-- whole keys have one length
pub whole_length : (kinds : List ItemKind) (ps : List KeyPart) (a : List Value) → KeyHasKinds kinds ps a → length a ≡ length ps → length (key_bytes kinds ps a) ≡ key_width kinds ps
whole_length kinds ps a f e = key_length kinds ps a f ∙ ap (key_width kinds) (take_all (length a) ps (omega (arith, e)))
