-- The bytes of a description. All numbers are big-endian.
use Rattle.std.specs.Prelude.{ℕ, suc, ℤ, pos, negsuc, ◌+◌, ◌-◌, ◌%◌, ◌^◌, List, [], ◌∷◌, ◌++◌, length, Bool, true, false, flat_map, ◌==◌, ◌||◌, if◌then◌else◌}
use Rattle.std.specs.Int.{w16, w32, w64, to_be_bytes}
use Rattle.dms_base.specs.declared.value.Value.{Value}
use Rattle.dms_base.specs.declared.value.Value.TheVariants.{Null, Text, Number, Bool as Truth, Bits, Link}
use Rattle.dms_base.specs.declared.kind.ItemKind.{ItemKind}
use Rattle.dms_base.specs.declared.kind.ItemKind.TheVariants.{Alpha, Number as Decimal, Bool as OneBit, Field, Link as LinkTo}
use Rattle.dms_base.specs.declared.op.Op.{Op}
use Rattle.dms_base.specs.declared.op.Op.TheVariants.{Equal as Same, NotEqual as Other, Less as Below, LessEqual as Most, Greater as Above, GreaterEqual as Least}
use Rattle.dms_desc.specs.declared.structure.Item.{Item}
use Rattle.dms_desc.specs.declared.structure.Group.{Group}
use Rattle.dms_desc.specs.declared.structure.KeyPart.{KeyPart}
use Rattle.dms_desc.specs.Shape.{Tree, Empty, Test, Both, Either, Contrary, Shape, Described}

-- how many there are, in a byte: never more than 255 in a well-formed description
abbrev pub count_byte : {A : Type 0} → List A → ℕ
count_byte xs = length xs % 256

-- one for yes
abbrev pub flag : Bool → ℕ
flag true = 1
flag false = 0

-- a name: its length, and its bytes
abbrev pub name_bytes : List ℕ → List ℕ
name_bytes name = count_byte name ∷ name

-- a number moved up by 2 ^ 63, so that none is negative
abbrev pub shift_up : ℤ → ℕ
shift_up (pos n) = 2 ^ 63 + n
shift_up (negsuc n) = 2 ^ 63 - suc n

-- a literal: what it is, and its content; a link's number is never written
abbrev pub literal_bytes : Value → List ℕ
literal_bytes Null = 0 ∷ []
literal_bytes (Text bytes) = 1 ∷ count_byte bytes ∷ bytes
literal_bytes (Number z) = 2 ∷ to_be_bytes w64 (shift_up z)
literal_bytes (Truth b) = 3 ∷ flag b ∷ []
literal_bytes (Bits n) = 4 ∷ to_be_bytes w64 n
literal_bytes (Link n) = []

-- the type of an item, and three bytes that say how wide it is or where it points
abbrev pub kind_bytes : ItemKind → List ℕ
kind_bytes (Alpha n) = 1 ∷ n ∷ 0 ∷ 0 ∷ []
kind_bytes (Decimal n m s) = 2 ∷ n ∷ m ∷ flag s ∷ []
kind_bytes OneBit = 3 ∷ 0 ∷ 0 ∷ 0 ∷ []
kind_bytes (Field n) = 4 ∷ n ∷ 0 ∷ 0 ∷ []
kind_bytes (LinkTo target counted) = 5 ∷ to_be_bytes w16 target ++ flag counted ∷ []

unfoldable pub item_bytes : Item → List ℕ
item_bytes i = name_bytes i.name ++ kind_bytes i.kind ++ flag i.required ∷ [] ++ literal_bytes i.initial

unfoldable pub group_bytes : Group → List ℕ
group_bytes g = name_bytes g.name ++ g.first ∷ g.count ∷ []

unfoldable pub part_bytes : KeyPart → List ℕ
part_bytes p = p.item ∷ flag p.descending ∷ []

abbrev pub op_number : Op → ℕ
op_number Same = 1
op_number Other = 2
op_number Below = 3
op_number Most = 4
op_number Above = 5
op_number Least = 6

-- a condition: 0 for none, else what it is and its parts
abbrev pub tree_bytes : Tree → List ℕ
tree_bytes Empty = 0 ∷ []
tree_bytes (Test item op value) = 1 ∷ item ∷ op_number op ∷ literal_bytes value
tree_bytes (Both a b) = 2 ∷ tree_bytes a ++ tree_bytes b
tree_bytes (Either a b) = 3 ∷ tree_bytes a ++ tree_bytes b
tree_bytes (Contrary a) = 4 ∷ tree_bytes a

-- of a data set: population, items, groups and VERIFY
unfoldable pub data_set_bytes : Shape → List ℕ
data_set_bytes s =
    to_be_bytes w32 s.population
    ++ count_byte s.items ∷ [] ++ flat_map item_bytes s.items
    ++ count_byte s.groups ∷ [] ++ flat_map group_bytes s.groups
    ++ tree_bytes s.cond

-- only an automatic subset has a WHERE
abbrev pub where_bytes : Shape → List ℕ
where_bytes s = if s.kind == 4 then tree_bytes s.cond else []

-- of a set or subset: its data set, form, duplicates, population, key and WHERE
unfoldable pub set_bytes : Shape → List ℕ
set_bytes s =
    to_be_bytes w16 s.set
    ++ s.form ∷ flag s.duplicates ∷ [] ++ to_be_bytes w32 s.population
    ++ count_byte s.parts ∷ [] ++ flat_map part_bytes s.parts
    ++ where_bytes s

-- a data set or the restart data set
abbrev pub is_data_set : ℕ → Bool
is_data_set kind = kind == 1 || kind == 2

unfoldable pub structure_bytes : Shape → List ℕ
structure_bytes s =
    s.kind ∷ name_bytes s.name ++ to_be_bytes w16 s.owner
    ++ (if is_data_set s.kind then data_set_bytes s else set_bytes s)

-- a whole description: DMSS, level 1, the parameters, and the structures in the order of their numbers
unfoldable pub spelling : Described → List ℕ
spelling d =
    68 ∷ 77 ∷ 83 ∷ 83 ∷ 0 ∷ 1 ∷ []
    ++ to_be_bytes w16 d.syncpoint ++ to_be_bytes w16 d.controlpoint ++ to_be_bytes w16 d.buffers
    ++ to_be_bytes w16 d.blocks ++ to_be_bytes w16 d.files
    ++ to_be_bytes w16 (length d.structures % 65536) ++ flat_map structure_bytes d.structures
