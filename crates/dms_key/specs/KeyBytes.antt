-- The bytes of values in structure files, and of keys.
use Rattle.std.specs.Prelude.{ℕ, ℤ, pos, negsuc, ◌+◌, ◌-◌, ◌^◌, List, [], ◌∷◌, ◌++◌, map, Bool, true, false, Some, None, if◌then◌else◌, length, replicate, slice_get}
use Rattle.std.specs.declared.option.Option.{Option}
use Rattle.std.specs.Int.{w32, w64, to_be_bytes}
use Rattle.std.specs.declared.cmp.Ordering.{Ordering}
use Rattle.std.specs.Ordering.{nat_cmp}
use Rattle.std.specs.Cmp.Lexicographic.{slice_cmp}
use Rattle.dms_base.specs.declared.value.Value.{Value}
use Rattle.dms_base.specs.declared.value.Value.TheVariants.{Text, Number, Bool as Truth, Bits, Link as Reference}
use Rattle.dms_base.specs.declared.kind.ItemKind.{ItemKind}
use Rattle.dms_base.specs.declared.kind.ItemKind.TheVariants.{Alpha, Number as Decimal, Bool as OneBit, Field, Link}
use Rattle.dms_desc.specs.declared.structure.KeyPart.{KeyPart}
use Rattle.dms_desc.specs.Conds.{is_null}
use Rattle.dms_desc.specs.Plain.{FitsKind}
use Rattle.dms_desc.specs.Widths.{width_of, item_width}

-- ---- values

-- a number moved so that the least one is 0
abbrev pub shift_up : ℤ → ℕ
shift_up (pos n) = 2 ^ 63 + n
shift_up (negsuc n) = 2 ^ 63 - (n + 1)

abbrev pub bit_of : Bool → ℕ
bit_of true = 1
bit_of false = 0

-- the bytes of a value that isn't null: a text with spaces up to its width, a number, a bit or the number of a record
-- with its highest byte first; zeros where the value is of another kind
abbrev pub value_bytes : ItemKind → Value → List ℕ
value_bytes (Alpha n) (Text bytes) = bytes ++ replicate (n - length bytes) 32
value_bytes (Decimal n m s) (Number z) = to_be_bytes w64 (shift_up z)
value_bytes OneBit (Truth b) = bit_of b ∷ []
value_bytes (Field n) (Bits b) = to_be_bytes w64 b
value_bytes (Link to counted) (Reference r) = to_be_bytes w32 r
value_bytes k v = replicate (width_of k) 0

-- a value: 255s for null, and else 1 and its bytes
abbrev pub field_bytes : ItemKind → Value → List ℕ
field_bytes k v = if is_null v then 255 ∷ replicate (width_of k) 255 else 1 ∷ value_bytes k v

-- ---- keys

-- each byte complemented where the part is descending
abbrev pub turned_bytes : Bool → List ℕ → List ℕ
turned_bytes false bytes = bytes
turned_bytes true bytes = map (λ b. 255 - b) bytes

-- the kind of a part's item, of the kinds of a data set's items
abbrev pub kind_of : List ItemKind → KeyPart → Option ItemKind
kind_of kinds p = slice_get kinds (p.item - 1)

-- a part's value; nothing where there is no such item
abbrev pub part_bytes : Option ItemKind → Bool → Value → List ℕ
part_bytes None descending v = []
part_bytes (Some k) descending v = turned_bytes descending (field_bytes k v)

-- a key, or its first values: each value as its part says
abbrev pub key_bytes : List ItemKind → List KeyPart → List Value → List ℕ
key_bytes kinds ps [] = []
key_bytes kinds [] (v ∷ vs) = []
key_bytes kinds (p ∷ ps) (v ∷ vs) = part_bytes (kind_of kinds p) p.descending v ++ key_bytes kinds ps vs

abbrev pub part_width : Option ItemKind → ℕ
part_width None = 0
part_width (Some k) = item_width k

-- how many bytes a whole key takes
abbrev pub key_width : List ItemKind → List KeyPart → ℕ
key_width kinds [] = 0
key_width kinds (p ∷ ps) = part_width (kind_of kinds p) + key_width kinds ps

-- ---- what fits

abbrev pub FitsPart : Option ItemKind → Value → Type 0
FitsPart None v = ⊥
FitsPart (Some k) v = FitsKind k v

-- there are no more values than parts, and each fits its part's item
abbrev pub KeyHasKinds : List ItemKind → List KeyPart → List Value → Type 0
KeyHasKinds kinds ps [] = Unit {0}
KeyHasKinds kinds [] (v ∷ vs) = ⊥
KeyHasKinds kinds (p ∷ ps) (v ∷ vs) = FitsPart (kind_of kinds p) v × KeyHasKinds kinds ps vs

-- the order of byte strings
abbrev pub bytes_cmp : List ℕ → List ℕ → Ordering
bytes_cmp = slice_cmp nat_cmp

-- the order of the bytes of two keys, or of the first values of two
abbrev pub key_bytes_cmp : List ItemKind → List KeyPart → List Value → List Value → Ordering
key_bytes_cmp kinds ps a b = bytes_cmp (key_bytes kinds ps a) (key_bytes kinds ps b)
