-- A description has no more bytes than were counted for it.
use Rattle.std.proofs.lemmas.Bool.{le-leb}
use Rattle.std.proofs.Common.{◌≡◌, ◌≤◌, ◌+◌, ◌%◌, ℕ, suc, List, [], ◌∷◌, ◌++◌, map, length, Bool, true, false, cond, refl, sym, arith, length-append}
use Rattle.std.proofs.lemmas.Bool.Decides.{nat_tests}
use Rattle.std.specs.Prelude.{◌==◌, nat_lt, nat_le, flat_map}
use Rattle.std.specs.Int.{w16, w32, to_be_bytes}
use Rattle.dms_base.specs.declared.value.Value.{Value}
use Rattle.dms_base.specs.declared.value.Value.TheVariants.{Null, Text, Number, Bool as Truth, Bits, Link as Reference}
use Rattle.dms_base.specs.declared.kind.ItemKind.{ItemKind}
use Rattle.dms_base.specs.declared.kind.ItemKind.TheVariants.{Alpha, Number as Decimal, Bool as OneBit, Field, Link as LinkTo}
use Rattle.dms_desc.specs.declared.structure.Item.{Item}
use Rattle.dms_desc.specs.declared.structure.Group.{Group}
use Rattle.dms_desc.specs.declared.structure.KeyPart.{KeyPart}
use Rattle.dms_desc.specs.Numbered.{one_or_two}
use Rattle.dms_desc.specs.Shape.{Tree, Shape, Described, kind_number}
use Rattle.dms_desc.specs.Shape.Tree.{Empty, Test, Both, Either, Contrary}
use Rattle.dms_desc_bytes.specs.Spelling.{name_bytes, literal_bytes, kind_bytes, item_bytes, group_bytes, part_bytes, tree_bytes, data_set_bytes, where_bytes, set_bytes, is_data_set, structure_bytes, spelling}
use Rattle.dasdl_parse.specs.declared.schema.Parameters.{Parameters}
use Rattle.dasdl_compile.specs.declared.draft.Draft.{Draft}
use Rattle.dasdl_compile.specs.Compile.{shape_in, description_of}
use Rattle.dasdl_compile.specs.Widths.{plus, size_of, value_width, condition_width, items_width, groups_width, parts_width, data_set_width, set_width, with_structure, structures_width, description_width}

-- a count that is at most 65,535 was never held
whole : (a b : ℕ) → plus a b ≤ 65535 → plus a b ≡ a + b
whole a b h = omega (arith, h)

size_whole : (bytes : List ℕ) → size_of bytes ≤ 65535 → size_of bytes ≡ length bytes
size_whole bytes h = omega (arith, h)

value_bytes : (v : Value) → value_width v ≤ 65535 → length (literal_bytes v) ≤ value_width v
unfolding value_width
value_bytes Null h = omega arith
value_bytes (Text bytes) h =
    let a = whole 2 (size_of bytes) h in
    let b = size_whole bytes (omega (arith, a, h)) in
    omega (arith, a, b)
value_bytes (Number n) h = omega arith
value_bytes (Truth b) h = omega arith
value_bytes (Bits n) h = omega arith
value_bytes (Reference n) h = omega arith

joined_bytes : (wa wb : ℕ) (a b : List ℕ) → plus (plus 1 wa) wb ≤ 65535 → (wa ≤ 65535 → length a ≤ wa) → (wb ≤ 65535 → length b ≤ wb) → suc (length (a ++ b)) ≤ plus (plus 1 wa) wb
joined_bytes wa wb a b h f g =
    let o = whole (plus 1 wa) wb h in
    let i = whole 1 wa (omega (arith, o, h)) in
    let x = f (omega (arith, o, i, h)) in
    let y = g (omega (arith, o, i, h)) in
    omega (arith, o, i, x, y, length-append a b)

condition_bytes : (t : Tree) → condition_width t ≤ 65535 → length (tree_bytes t) ≤ condition_width t
unfolding condition_width
condition_bytes Empty h = omega arith
condition_bytes (Test item op v) h =
    let o = whole 3 (value_width v) h in
    let x = value_bytes v (omega (arith, o, h)) in
    omega (arith, o, x)
condition_bytes (Both a b) h = joined_bytes (condition_width a) (condition_width b) (tree_bytes a) (tree_bytes b) h (condition_bytes a) (condition_bytes b)
condition_bytes (Either a b) h = joined_bytes (condition_width a) (condition_width b) (tree_bytes a) (tree_bytes b) h (condition_bytes a) (condition_bytes b)
condition_bytes (Contrary a) h =
    let o = whole 1 (condition_width a) h in
    let x = condition_bytes a (omega (arith, o, h)) in
    omega (arith, o, x)

kind_length : (k : ItemKind) → length (kind_bytes k) ≡ 4
kind_length (Alpha n) = refl
kind_length (Decimal n m s) = refl
kind_length OneBit = refl
kind_length (Field n) = refl
kind_length (LinkTo target counted) = refl

item_length : (i : Item) → length (item_bytes i) ≡ 6 + length i.name + length (literal_bytes i.initial)
unfolding item_bytes
item_length i = grind (arith, length-append, kind_length i.kind)

items_bytes : (w : ℕ) (is : List Item) → items_width w is ≤ 65535 → w + length (flat_map item_bytes is) ≤ items_width w is
unfolding items_width
items_bytes w [] h = omega arith
items_bytes w (i ∷ is) h =
    let n = plus (plus (plus w 6) (size_of i.name)) (value_width i.initial) in
    let rest : n + length (flat_map item_bytes is) ≤ items_width n is = items_bytes n is h in
    let c : n ≡ plus (plus w 6) (size_of i.name) + value_width i.initial = whole (plus (plus w 6) (size_of i.name)) (value_width i.initial) (omega (arith, rest, h)) in
    let b : plus (plus w 6) (size_of i.name) ≡ plus w 6 + size_of i.name = whole (plus w 6) (size_of i.name) (omega (arith, rest, h, c)) in
    let a : plus w 6 ≡ w + 6 = whole w 6 (omega (arith, rest, h, b, c)) in
    let s : size_of i.name ≡ length i.name = size_whole i.name (omega (arith, rest, h, b, c)) in
    let v = value_bytes i.initial (omega (arith, rest, h, c)) in
    omega (arith, rest, a, b, c, s, v, item_length i, length-append (item_bytes i) (flat_map item_bytes is))

group_length : (g : Group) → length (group_bytes g) ≡ 3 + length g.name
unfolding group_bytes
group_length g = omega (arith, length-append (name_bytes g.name) (g.first ∷ g.count ∷ []))

groups_bytes : (w : ℕ) (gs : List Group) → groups_width w gs ≤ 65535 → w + length (flat_map group_bytes gs) ≤ groups_width w gs
unfolding groups_width
groups_bytes w [] h = omega arith
groups_bytes w (g ∷ gs) h =
    let n = plus (plus w 3) (size_of g.name) in
    let rest : n + length (flat_map group_bytes gs) ≤ groups_width n gs = groups_bytes n gs h in
    let b : n ≡ plus w 3 + size_of g.name = whole (plus w 3) (size_of g.name) (omega (arith, rest, h)) in
    let a : plus w 3 ≡ w + 3 = whole w 3 (omega (arith, rest, h, b)) in
    let s : size_of g.name ≡ length g.name = size_whole g.name (omega (arith, rest, h, b)) in
    omega (arith, rest, a, b, s, group_length g, length-append (group_bytes g) (flat_map group_bytes gs))

part_length : (p : KeyPart) → length (part_bytes p) ≡ 2
unfolding part_bytes
part_length p = refl

parts_bytes : (w : ℕ) (ps : List KeyPart) → parts_width w ps ≤ 65535 → w + length (flat_map part_bytes ps) ≤ parts_width w ps
unfolding parts_width
parts_bytes w [] h = omega arith
parts_bytes w (p ∷ ps) h =
    let n = plus w 2 in
    let rest : n + length (flat_map part_bytes ps) ≤ parts_width n ps = parts_bytes n ps h in
    let a : n ≡ w + 2 = whole w 2 (omega (arith, rest, h)) in
    omega (arith, rest, a, part_length p, length-append (part_bytes p) (flat_map part_bytes ps))

data_set_length : (s : Shape) → length (data_set_bytes s) ≡ 6 + length (flat_map item_bytes s.items) + length (flat_map group_bytes s.groups) + length (tree_bytes s.cond)
unfolding data_set_bytes
data_set_length s =
    let four : length (to_be_bytes w32 s.population) ≡ 4 = refl in
    grind (arith, length-append, four)

data_set_whole : (w : ℕ) (d : Draft) → data_set_width w d ≤ 65535 → w + length (data_set_bytes (shape_in d)) ≤ data_set_width w d
unfolding data_set_width
data_set_whole w d h =
    let all = plus (groups_width (items_width (plus w 6) d.items) d.groups) (condition_width d.cond) in
    let c : all ≡ groups_width (items_width (plus w 6) d.items) d.groups + condition_width d.cond = whole (groups_width (items_width (plus w 6) d.items) d.groups) (condition_width d.cond) h in
    let t = condition_bytes d.cond (omega (arith, c, h)) in
    let g = groups_bytes (items_width (plus w 6) d.items) d.groups (omega (arith, c, h)) in
    let i = items_bytes (plus w 6) d.items (omega (arith, c, h, g)) in
    let a = whole w 6 (omega (arith, c, h, g, i)) in
    omega (arith, a, i, g, t, c, data_set_length (shape_in d))

set_length : (s : Shape) → length (set_bytes s) ≡ 9 + length (flat_map part_bytes s.parts) + length (where_bytes s)
unfolding set_bytes
set_length s =
    let four : length (to_be_bytes w32 s.population) ≡ 4 = refl in
    let two : length (to_be_bytes w16 s.set) ≡ 2 = refl in
    grind (arith, length-append, four, two)

with_where : (b : Bool) (n : ℕ) (t : Tree) → cond b (plus n (condition_width t)) n ≤ 65535 → n + length (cond b (tree_bytes t) []) ≤ cond b (plus n (condition_width t)) n
with_where true n t h =
    let a = whole n (condition_width t) h in
    let c = condition_bytes t (omega (arith, a, h)) in
    omega (arith, a, c)
with_where false n t h = omega arith

set_whole : (w : ℕ) (d : Draft) → set_width w d ≤ 65535 → w + length (set_bytes (shape_in d)) ≤ set_width w d
unfolding set_width
set_whole w d h =
    let c = with_where (kind_number d.kind == 4) (parts_width (plus w 9) d.parts) d.cond h in
    let p = parts_bytes (plus w 9) d.parts (omega (arith, c, h)) in
    let a = whole w 9 (omega (arith, c, h, p)) in
    omega (arith, a, p, c, set_length (shape_in d))

head_whole : (w : ℕ) (name : List ℕ) → plus (plus w 4) (size_of name) ≤ 65535 → w + 4 + length name ≤ plus (plus w 4) (size_of name)
head_whole w name h =
    let b = whole (plus w 4) (size_of name) h in
    let s = size_whole name (omega (arith, b, h)) in
    let a = whole w 4 (omega (arith, b, h)) in
    omega (arith, a, b, s)

rest_whole : (b : Bool) (w : ℕ) (d : Draft) → cond b (data_set_width w d) (set_width w d) ≤ 65535 → w + length (cond b (data_set_bytes (shape_in d)) (set_bytes (shape_in d))) ≤ cond b (data_set_width w d) (set_width w d)
rest_whole true w d h = data_set_whole w d h
rest_whole false w d h = set_whole w d h

structure_length : (s : Shape) → length (structure_bytes s) ≡ 4 + length s.name + length (cond (is_data_set s.kind) (data_set_bytes s) (set_bytes s))
unfolding structure_bytes
structure_length s =
    let two : length (to_be_bytes w16 s.owner) ≡ 2 = refl in
    grind (arith, length-append, two)

by_kind : (b c : Bool) (w : ℕ) (d : Draft) → b ≡ c → cond b (data_set_width w d) (set_width w d) ≤ 65535 → w + length (cond c (data_set_bytes (shape_in d)) (set_bytes (shape_in d))) ≤ cond b (data_set_width w d) (set_width w d)
by_kind b c w d e h = rw (sym e) (rest_whole b w d h)

structure_whole : (w : ℕ) (d : Draft) → with_structure w d ≤ 65535 → w + length (structure_bytes (shape_in d)) ≤ with_structure w d
unfolding with_structure
structure_whole w d h =
    let n = plus (plus w 4) (size_of d.name) in
    let r = by_kind (nat_lt (kind_number d.kind) 3) (is_data_set (kind_number d.kind)) n d (one_or_two d.kind) h in
    let a = head_whole w d.name (omega (arith, r, h)) in
    omega (arith, a, r, structure_length (shape_in d))

structures_whole : (w : ℕ) (ds : List Draft) → structures_width w ds ≤ 65535 → w + length (flat_map structure_bytes (map shape_in ds)) ≤ structures_width w ds
unfolding structures_width
structures_whole w [] h = omega arith
structures_whole w (d ∷ ds) h =
    let rest : with_structure w d + length (flat_map structure_bytes (map shape_in ds)) ≤ structures_width (with_structure w d) ds = structures_whole (with_structure w d) ds h in
    let one = structure_whole w d (omega (arith, rest, h)) in
    omega (arith, rest, one, length-append (structure_bytes (shape_in d)) (flat_map structure_bytes (map shape_in ds)))

spelling_length : (d : Described) → length (spelling d) ≡ 18 + length (flat_map structure_bytes d.structures)
unfolding spelling
spelling_length d =
    let two : (n : ℕ) → length (to_be_bytes w16 n) ≡ 2 = λ n. refl in
    grind (arith, length-append, two d.syncpoint, two d.controlpoint, two d.buffers, two d.blocks, two d.files, two (length d.structures % 65536))

pub is_short : (p : Parameters) (ds : List Draft) → nat_lt 65535 (description_width ds) ≡ false → nat_le (length (spelling (description_of p ds))) 65535 ≡ true
is_short p ds h =
    let low : description_width ds ≤ 65535 = grind (arith, nat_tests) in
    let all = structures_whole 18 ds low in
    le-leb _ _ (omega (arith, all, low, spelling_length (description_of p ds)))
