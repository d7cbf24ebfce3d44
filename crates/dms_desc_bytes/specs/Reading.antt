-- Reading a description from left to right. Reading never fails: past the end of the bytes there are zeros, and a
-- byte that says nothing counts as the nearest thing. Bytes that are no description are found by writing again
-- what was read: it then isn't these bytes, or isn't well-formed. What bytes mean is said in Decoding; readings only
-- serve to find the one description that they can spell.
use Rattle.std.specs.Prelude.{ℕ, zero, suc, ℤ, pos, negsuc, ◌+◌, ◌-◌, ◌^◌, List, [], ◌∷◌, length, take, drop, Bool, false, nat_lt, ◌==◌, Some, None, if◌then◌else◌}
use Rattle.std.specs.declared.option.Option.{Option}
use Rattle.std.specs.Int.{Width, w16, w32, w64, byte_len, from_be_bytes}
use Rattle.dms_base.specs.Name.{name_of, unknown_name}
use Rattle.dms_base.specs.Text.{text_of}
use Rattle.dms_base.specs.declared.value.Value.{Value}
use Rattle.dms_base.specs.declared.value.Value.TheVariants.{Null, Text, Number, Bool as Truth, Bits}
use Rattle.dms_base.specs.declared.kind.ItemKind.{ItemKind}
use Rattle.dms_base.specs.declared.kind.ItemKind.TheVariants.{Alpha, Number as Decimal, Bool as OneBit, Field, Link as LinkTo}
use Rattle.dms_base.specs.declared.op.Op.{Op}
use Rattle.dms_base.specs.declared.op.Op.TheVariants.{Equal as Same, NotEqual as Other, Less as Below, LessEqual as Most, Greater as Above, GreaterEqual as Least}
use Rattle.dms_desc.specs.declared.structure.Item.{Item}
use Rattle.dms_desc.specs.declared.structure.Group.{Group}
use Rattle.dms_desc.specs.declared.structure.KeyPart.{KeyPart}
use Rattle.dms_desc.specs.Shape.{Tree, Shape, Described}
use Rattle.dms_desc.specs.Shape.Tree.{Empty, Test, Both, Either, Contrary}
use Rattle.dms_desc_bytes.specs.declared.reading.Head.{Head}
use Rattle.dms_desc_bytes.specs.Spelling.{is_data_set}

-- what is read, and the bytes behind it
abbrev pub ReadBytes : Type 0 → Type 0
ReadBytes A = A × List ℕ

infixl 10 ◌>>=◌
abbrev pub ◌>>=◌ : {A B : Type 0} → ReadBytes A → (ReadBytes A → ReadBytes B) → ReadBytes B
r >>= f = f r

-- a byte
abbrev pub byte_at : List ℕ → ReadBytes ℕ
byte_at [] = (0, [])
byte_at (b ∷ bs) = (b, bs)

-- so many bytes; where they aren't there, none, and the end
unfoldable pub bytes_at : ℕ → List ℕ → ReadBytes (List ℕ)
bytes_at n bytes = if nat_lt (length bytes) n then ([], []) else (take n bytes, drop n bytes)

-- a number
abbrev pub number_in : Width → ReadBytes (List ℕ) → ReadBytes ℕ
number_in w r = (if nat_lt (length r.0) (byte_len w) then 0 else from_be_bytes w r.0, r.1)

unfoldable pub number_at : Width → List ℕ → ReadBytes ℕ
number_at w bytes = number_in w (bytes_at (byte_len w) bytes)

-- yes or no
unfoldable pub flag_at : List ℕ → ReadBytes Bool
flag_at bytes = ((byte_at bytes).0 == 1, (byte_at bytes).1)

-- bytes behind their length
unfoldable pub counted_at : List ℕ → ReadBytes (List ℕ)
counted_at bytes = bytes_at (byte_at bytes).0 (byte_at bytes).1

abbrev pub name_or_unknown : Option (List ℕ) → List ℕ
name_or_unknown None = unknown_name
name_or_unknown (Some name) = name

-- a name
unfoldable pub name_at : List ℕ → ReadBytes (List ℕ)
name_at bytes = (name_or_unknown (name_of (counted_at bytes).0), (counted_at bytes).1)

-- a number that was moved up by 2 ^ 63
abbrev pub shift_down : ℕ → ℤ
shift_down n = if nat_lt n (2 ^ 63) then negsuc (2 ^ 63 - n - 1) else pos (n - 2 ^ 63)

abbrev pub text_or_null : Option (List ℕ) → Value
text_or_null None = Null
text_or_null (Some text) = Text text

unfoldable pub text_at : List ℕ → ReadBytes Value
text_at bytes = (text_or_null (text_of (counted_at bytes).0), (counted_at bytes).1)

unfoldable pub long_at : List ℕ → ReadBytes Value
long_at bytes = (Number (shift_down (number_at w64 bytes).0), (number_at w64 bytes).1)

unfoldable pub truth_at : List ℕ → ReadBytes Value
truth_at bytes = (Truth (flag_at bytes).0, (flag_at bytes).1)

unfoldable pub bits_at : List ℕ → ReadBytes Value
bits_at bytes = (Bits (number_at w64 bytes).0, (number_at w64 bytes).1)

-- a literal behind the byte that says what it is
abbrev pub literal_in : ℕ → List ℕ → ReadBytes Value
literal_in n bytes =
    if n == 1 then text_at bytes
    else (if n == 2 then long_at bytes
    else (if n == 3 then truth_at bytes
    else (if n == 4 then bits_at bytes
    else (Null, bytes))))

unfoldable pub literal_at : List ℕ → ReadBytes Value
literal_at bytes = literal_in (byte_at bytes).0 (byte_at bytes).1

-- the type of an item by its byte, and the three bytes behind it
abbrev pub kind_of_bytes : ℕ → ℕ → ℕ → ℕ → ItemKind
kind_of_bytes n a b c =
    if n == 1 then Alpha a
    else (if n == 2 then Decimal a b (c == 1)
    else (if n == 4 then Field a
    else (if n == 5 then LinkTo (from_be_bytes w16 (a ∷ b ∷ [])) (c == 1)
    else OneBit)))

unfoldable pub kind_at : List ℕ → ReadBytes ItemKind
kind_at bytes = do
  k ← byte_at bytes
  a ← byte_at k.1
  b ← byte_at a.1
  c ← byte_at b.1
  (kind_of_bytes k.0 a.0 b.0 c.0, c.1)

unfoldable pub item_at : List ℕ → ReadBytes Item
item_at bytes = do
  name ← name_at bytes
  kind ← kind_at name.1
  required ← flag_at kind.1
  initial ← literal_at required.1
  (record { name = name.0; kind = kind.0; required = required.0; initial = initial.0 }, initial.1)

unfoldable pub group_at : List ℕ → ReadBytes Group
group_at bytes = do
  name ← name_at bytes
  first ← byte_at name.1
  count ← byte_at first.1
  (record { name = name.0; first = first.0; count = count.0 }, count.1)

unfoldable pub part_at : List ℕ → ReadBytes KeyPart
part_at bytes = do
  item ← byte_at bytes
  descending ← flag_at item.1
  (record { item = item.0; descending = descending.0 }, descending.1)

-- so many of these, one after another, the first one known by the number k and each next one by the next number
unfoldable pub several : {A : Type 0} → (ℕ → List ℕ → ReadBytes A) → ℕ → ℕ → List ℕ → ReadBytes (List A)
several one k zero bytes = ([], bytes)
several one k (suc n) bytes = ((one k bytes).0 ∷ (several one (k + 1) n (one k bytes).1).0, (several one (k + 1) n (one k bytes).1).1)

-- as many of these as a byte says
unfoldable pub list_at : {A : Type 0} → (List ℕ → ReadBytes A) → List ℕ → ReadBytes (List A)
list_at one bytes = several (λ k. one) 1 (byte_at bytes).0 (byte_at bytes).1

abbrev pub op_of : ℕ → Op
op_of n =
    if n == 1 then Same
    else (if n == 2 then Other
    else (if n == 3 then Below
    else (if n == 4 then Most
    else (if n == 5 then Above
    else Least))))

unfoldable pub test_at : List ℕ → ReadBytes Tree
test_at bytes = do
  item ← byte_at bytes
  op ← byte_at item.1
  value ← literal_at op.1
  (Test item.0 (op_of op.0) value.0, value.1)

-- a condition behind the byte that says what it is, and how a part of it is read
abbrev pub tree_in : (List ℕ → ReadBytes Tree) → ℕ → List ℕ → ReadBytes Tree
tree_in part n bytes =
    if n == 1 then test_at bytes
    else (if n == 2 then (Both (part bytes).0 (part (part bytes).1).0, (part (part bytes).1).1)
    else (if n == 3 then (Either (part bytes).0 (part (part bytes).1).0, (part (part bytes).1).1)
    else (if n == 4 then (Contrary (part bytes).0, (part bytes).1)
    else (Empty, bytes))))

-- a condition of at most so many levels, and none at all below them
unfoldable pub tree_at : ℕ → List ℕ → ReadBytes Tree
tree_at zero bytes = (Empty, bytes)
tree_at (suc levels) bytes = tree_in (tree_at levels) (byte_at bytes).0 (byte_at bytes).1

-- the kind that a byte says: 5, a manual subset, where no kind has that number
abbrev pub known_kind : ℕ → ℕ
known_kind byte =
    if byte == 1 then 1
    else (if byte == 2 then 2
    else (if byte == 3 then 3
    else (if byte == 4 then 4
    else 5)))

-- the form that a byte says: 2, an ordered list, where no form has that number
abbrev pub known_form : ℕ → ℕ
known_form byte = if byte == 1 then 1 else 2

unfoldable pub data_set_at : Head → List ℕ → ReadBytes Shape
data_set_at h bytes = do
  population ← number_at w32 bytes
  items ← list_at item_at population.1
  groups ← list_at group_at items.1
  verify ← tree_at 100 groups.1
  (record { number = h.number; kind = known_kind h.kind; name = h.name; owner = h.owner; population = population.0; items = items.0; groups = groups.0; cond = verify.0; set = 0; form = 0; duplicates = false; parts = [] }, verify.1)

-- only an automatic subset has a WHERE
unfoldable pub where_at : ℕ → List ℕ → ReadBytes Tree
where_at kind bytes = if kind == 4 then tree_at 100 bytes else (Empty, bytes)

unfoldable pub set_at : Head → List ℕ → ReadBytes Shape
set_at h bytes = do
  set ← number_at w16 bytes
  form ← byte_at set.1
  duplicates ← flag_at form.1
  population ← number_at w32 duplicates.1
  parts ← list_at part_at population.1
  cond ← where_at h.kind parts.1
  (record { number = h.number; kind = known_kind h.kind; name = h.name; owner = h.owner; population = population.0; items = []; groups = []; cond = cond.0; set = set.0; form = known_form form.0; duplicates = duplicates.0; parts = parts.0 }, cond.1)

unfoldable pub fields_at : Head → List ℕ → ReadBytes Shape
fields_at h bytes = if is_data_set h.kind then data_set_at h bytes else set_at h bytes

-- the structure with this number
unfoldable pub structure_at : ℕ → List ℕ → ReadBytes Shape
structure_at n bytes = do
  kind ← byte_at bytes
  name ← name_at kind.1
  owner ← number_at w16 name.1
  fields_at (record { number = n; kind = kind.0; name = name.0; owner = owner.0 }) owner.1

-- the structures behind their count
unfoldable pub all_structures_at : List ℕ → ReadBytes (List Shape)
all_structures_at bytes = several structure_at 1 (number_at w16 bytes).0 (number_at w16 bytes).1

-- a whole description; the six bytes at its front and those behind it are not looked at
unfoldable pub description_at : List ℕ → ReadBytes Described
description_at bytes = do
  mark ← bytes_at 6 bytes
  syncpoint ← number_at w16 mark.1
  controlpoint ← number_at w16 syncpoint.1
  buffers ← number_at w16 controlpoint.1
  blocks ← number_at w16 buffers.1
  files ← number_at w16 blocks.1
  structures ← all_structures_at files.1
  (record { syncpoint = syncpoint.0; controlpoint = controlpoint.0; buffers = buffers.0; blocks = blocks.0; files = files.0; structures = structures.0 }, structures.1)
