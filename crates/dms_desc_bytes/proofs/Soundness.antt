-- A sound structure can be spelled.
use Rattle.std.proofs.Common.{◌≡◌, ℕ, ◌+◌, ◌-◌, ◌^◌, ◌<◌, ◌≤◌, Bool, true, false, cond, eqb, List, [], ◌∷◌, length, Option, Some, None, refl, sym, ap, subst, ◌∙◌, ◌++◌, arith, inl, inr}
use Rattle.std.specs.Prelude.{not, ◌&&◌, ◌||◌, ◌==◌, nat_le, slice_get}
use Rattle.std.specs.List.{list_all}
use Rattle.std.proofs.lemmas.Bool.{and_parts, leb-true, eqb-true, not-true, or_cases}
use Rattle.dms_base.specs.Name.{is_name}
use Rattle.dms_base.specs.Fits.{fits}
use Rattle.dms_base.specs.Spelling.{is_kind}
use Rattle.dms_base.specs.declared.kind.ItemKind.{ItemKind}
use Rattle.dms_base.specs.declared.kind.ItemKind.TheVariants.{Alpha, Number as Decimal, Bool as OneBit, Field, Link as LinkTo}
use Rattle.dms_desc.specs.declared.structure.Item.{Item}
use Rattle.dms_desc.specs.declared.structure.Group.{Group}
use Rattle.dms_desc.specs.Shape.{Tree, Shape}
use Rattle.dms_desc.specs.Shape.Tree.{Empty, Test, Both, Either, Contrary}
use Rattle.dms_desc_bytes.specs.Conditions.{nodes, compares_well, is_nothing, is_condition}
use Rattle.dms_desc.specs.Widths.{record_width}
use Rattle.dms_desc.specs.Lookups.{structure_at, items_of}
use Rattle.dms_desc_bytes.specs.Finding.{kind_in, kind_of, owner_of, items_at}
use Rattle.dms_desc_bytes.specs.Lists.{is_within, is_empty, apart, total}
use Rattle.dms_desc.specs.Conds.{is_null}
use Rattle.dms_desc_bytes.specs.Members.{is_plain, is_link_sound, points_well, is_item_sound, items_in_group, is_no_link, is_group_sound, members_differ, groups_follow}
use Rattle.dms_desc_bytes.specs.Reading as reading
use Rattle.dms_desc_bytes.specs.Spelling.{is_data_set, item_bytes, group_bytes, tree_bytes}
use Rattle.dms_desc_bytes.specs.WellFormed.{is_open_behind, is_owned_well, is_shallow, has_member, has_sound_items, has_sound_groups, has_sound_verify, lacks_set_fields, is_data_set_sound, is_key_sound, is_set_placed, is_populated, is_where_sound, is_set_sound, is_placed, has_sound_fields, is_sound, parts_differ, is_part_sound, part_width}
use Rattle.dms_desc_bytes.proofs.Fields.{Again}
use Rattle.dms_desc_bytes.proofs.Numbered.{kind_known, form_known, within_most}
use Rattle.dms_desc_bytes.proofs.Places.{at_place, all_at}
use Rattle.dms_desc_bytes.proofs.Values.{Typed, SpelledValue, value_spelled, null_spelled}
use Rattle.dms_desc_bytes.proofs.CondLaws.{Kinds, tree_again, nothing_again}
use Rattle.dms_desc_bytes.proofs.MemberLaws.{each_again, item_again, group_again}
use Rattle.dms_desc_bytes.proofs.StructureLaws.{SpelledDataSet, SpelledSet, SpelledShape}

-- ---- what a number names

found_in : (o : Option Shape) → (kind_in o ≡ 0 → ⊥) → (t : Shape) × (o ≡ Some t)
found_in None some = absurd (some refl)
found_in (Some t) some = (t, refl)

-- a number with a kind is that of a structure
pub named : (ss : List Shape) (n : ℕ) → (kind_of ss n ≡ 0 → ⊥) → (t : Shape) × (slice_get ss (n - 1) ≡ Some t) × (n ≤ length ss) × (structure_at ss n ≡ Some t)
unfolding kind_of
named ss n some =
    let found = found_in (structure_at ss n) some in
    let place = at_place ss n found.0 found.1 in
    (found.0, place.0, place.1, found.1)

pub not_zero : (k : ℕ) → is_data_set k ≡ true → k ≡ 0 → ⊥
not_zero k holds z = let bad : false ≡ true = sym (ap (λ (n : ℕ). is_data_set n) z) ∙ holds in absurd cc

-- ---- items

link_typed : (ss : List Shape) (i : Item) (target : ℕ) → length ss ≤ 200 → is_link_sound ss target i ≡ true → (target < 2 ^ 16) × (is_null i.initial ≡ true)
unfolding is_link_sound
link_typed ss i target few good =
    let outer = and_parts (is_data_set (kind_of ss target) && owner_of ss target == 0 && not i.required) (is_null i.initial) good in
    let inner = and_parts (is_data_set (kind_of ss target) && owner_of ss target == 0) (not i.required) outer.0 in
    let holds = (and_parts (is_data_set (kind_of ss target)) (owner_of ss target == 0) inner.0).0 in
    let low = (named ss target (not_zero (kind_of ss target) holds)).2 in
    (omega (arith, few, low), outer.1)

item_parts : (ss : List Shape) (i : Item) → is_item_sound ss i ≡ true → (is_name i.name ≡ true) × (is_kind i.kind ≡ true) × (fits i.kind i.initial ≡ true) × (is_plain i.initial ≡ true) × (points_well ss i.kind i ≡ true)
unfolding is_item_sound
item_parts ss i good =
    let e = and_parts (is_name i.name && is_kind i.kind && fits i.kind i.initial && is_plain i.initial) (points_well ss i.kind i) good in
    let d = and_parts (is_name i.name && is_kind i.kind && fits i.kind i.initial) (is_plain i.initial) e.0 in
    let c = and_parts (is_name i.name && is_kind i.kind) (fits i.kind i.initial) d.0 in
    let b = and_parts (is_name i.name) (is_kind i.kind) c.0 in
    (b.0, b.1, c.1, d.1, e.1)

-- what a kind asks of an item's initial value
initial_case : (ss : List Shape) (i : Item) (k : ItemKind) → length ss ≤ 200 → is_kind k ≡ true → fits k i.initial ≡ true → is_plain i.initial ≡ true → points_well ss k i ≡ true → Typed k × SpelledValue i.initial
initial_case ss i (Alpha n) few kind fit plain points = (tt, value_spelled (Alpha n) i.initial kind fit plain refl)
initial_case ss i (Decimal n m s) few kind fit plain points = (tt, value_spelled (Decimal n m s) i.initial kind fit plain refl)
initial_case ss i OneBit few kind fit plain points = (tt, value_spelled OneBit i.initial kind fit plain refl)
initial_case ss i (Field n) few kind fit plain points = (tt, value_spelled (Field n) i.initial kind fit plain refl)
initial_case ss i (LinkTo target counted) few kind fit plain points =
    let link = link_typed ss i target few points in
    (link.0, null_spelled i.initial link.1)

item_spelled : (ss : List Shape) → length ss ≤ 200 → (i : Item) → is_item_sound ss i ≡ true → Again reading.item_at (item_bytes i) i
item_spelled ss few i good =
    let parts = item_parts ss i good in
    let initial = initial_case ss i i.kind few parts.1 parts.2 parts.3 parts.4 in
    item_again i (record { name = parts.0; kind = initial.0; initial = initial.1 })

kinds_of : (ss : List Shape) (items : List Item) → list_all (is_item_sound ss) items ≡ true → Kinds items
kinds_of ss items all n i e =
    let place = at_place items n i e in
    (item_parts ss i (all_at (is_item_sound ss) items (n - 1) i all place.0)).1

group_spelled : (items : List Item) (g : Group) → is_group_sound items g ≡ true → Again reading.group_at (group_bytes g) g
unfolding is_group_sound
group_spelled items g good =
    let d = and_parts (is_name g.name && nat_le 1 g.first && nat_le 1 g.count && nat_le (g.first + g.count) (length items + 1)) (list_all is_no_link (items_in_group items g)) good in
    let c = and_parts (is_name g.name && nat_le 1 g.first && nat_le 1 g.count) (nat_le (g.first + g.count) (length items + 1)) d.0 in
    let b = and_parts (is_name g.name && nat_le 1 g.first) (nat_le 1 g.count) c.0 in
    let a = and_parts (is_name g.name) (nat_le 1 g.first) b.0 in
    group_again g a.0

-- ---- conditions

condition_again : (items : List Item) (t : Tree) → Kinds items → is_condition items t ≡ true → Again (reading.tree_at 100) (tree_bytes t) t
unfolding is_condition
condition_again items t kinds good =
    let parts = and_parts (nat_le (nodes t) 100) (compares_well items t) good in
    tree_again items kinds 100 t (leb-true (nodes t) 100 parts.0) parts.1

pub nothing_is : (t : Tree) → is_nothing t ≡ true → t ≡ Empty
nothing_is Empty nothing = refl
nothing_is (Test item op v) nothing = absurd cc
nothing_is (Both a b) nothing = absurd cc
nothing_is (Either a b) nothing = absurd cc
nothing_is (Contrary a) nothing = absurd cc

verify_case : (items : List Item) (t : Tree) (b : Bool) → Kinds items → is_nothing t ≡ b → (b || is_condition items t) ≡ true → Again (reading.tree_at 100) (tree_bytes t) t
verify_case items t true kinds e good rest =
    let none = nothing_is t e in
    ap (λ (x : Tree). reading.tree_at 100 (tree_bytes x ++ rest)) none ∙ nothing_again rest ∙ ap (λ (x : Tree). (x, rest)) (sym none)
verify_case items t false kinds e good rest = condition_again items t kinds good rest

-- ---- data sets

empty_is : {A : Type 0} (xs : List A) → is_empty xs ≡ true → xs ≡ []
empty_is [] none = refl
empty_is (x ∷ xs) none = absurd cc

record DataSetParts (ss : List Shape) (s : Shape) : Type 0 where
  pub population : is_within 1 1000000 s.population ≡ true
  pub items : has_sound_items ss s ≡ true
  pub groups : has_sound_groups s ≡ true
  pub verify : has_sound_verify s ≡ true
  pub lacks : lacks_set_fields s ≡ true

data_set_parts : (ss : List Shape) (s : Shape) → is_data_set_sound ss s ≡ true → DataSetParts ss s
unfolding is_data_set_sound
data_set_parts ss s good =
    let f = and_parts (is_within 1 1000000 s.population && has_member ss s && has_sound_items ss s && has_sound_groups s && members_differ s.items s.groups && has_sound_verify s) (lacks_set_fields s) good in
    let e = and_parts (is_within 1 1000000 s.population && has_member ss s && has_sound_items ss s && has_sound_groups s && members_differ s.items s.groups) (has_sound_verify s) f.0 in
    let d = and_parts (is_within 1 1000000 s.population && has_member ss s && has_sound_items ss s && has_sound_groups s) (members_differ s.items s.groups) e.0 in
    let c = and_parts (is_within 1 1000000 s.population && has_member ss s && has_sound_items ss s) (has_sound_groups s) d.0 in
    let b = and_parts (is_within 1 1000000 s.population && has_member ss s) (has_sound_items ss s) c.0 in
    let a = and_parts (is_within 1 1000000 s.population) (has_member ss s) b.0 in
    record { population = a.0; items = b.1; groups = c.1; verify = e.1; lacks = f.1 }

items_parts : (ss : List Shape) (s : Shape) → has_sound_items ss s ≡ true → (length s.items ≤ 60) × (list_all (is_item_sound ss) s.items ≡ true)
unfolding has_sound_items
items_parts ss s good =
    let b = and_parts (nat_le (length s.items) 60 && list_all (is_item_sound ss) s.items) (nat_le (record_width s.items) 480) good in
    let a = and_parts (nat_le (length s.items) 60) (list_all (is_item_sound ss) s.items) b.0 in
    (leb-true (length s.items) 60 a.0, a.1)

groups_parts : (s : Shape) → has_sound_groups s ≡ true → (length s.groups ≤ length s.items) × (list_all (is_group_sound s.items) s.groups ≡ true)
unfolding has_sound_groups
groups_parts s good =
    let b = and_parts (nat_le (length s.groups) (length s.items) && list_all (is_group_sound s.items) s.groups) (apart groups_follow s.groups) good in
    let a = and_parts (nat_le (length s.groups) (length s.items)) (list_all (is_group_sound s.items) s.groups) b.0 in
    (leb-true (length s.groups) (length s.items) a.0, a.1)

lacks_parts : (s : Shape) → lacks_set_fields s ≡ true → (s.set ≡ 0) × (s.form ≡ 0) × (s.duplicates ≡ false) × (s.parts ≡ [])
unfolding lacks_set_fields
lacks_parts s good =
    let c = and_parts (s.set == 0 && s.form == 0 && not s.duplicates) (is_empty s.parts) good in
    let b = and_parts (s.set == 0 && s.form == 0) (not s.duplicates) c.0 in
    let a = and_parts (s.set == 0) (s.form == 0) b.0 in
    (eqb-true s.set 0 a.0, eqb-true s.form 0 a.1, not-true s.duplicates b.1, empty_is s.parts c.1)

data_set_spelled : (ss : List Shape) (s : Shape) → length ss ≤ 200 → is_within 1 5 s.kind ≡ true → is_data_set_sound ss s ≡ true → SpelledDataSet s
data_set_spelled ss s few kind good =
    let parts = data_set_parts ss s good in
    let items = items_parts ss s parts.items in
    let groups = groups_parts s parts.groups in
    let lacks = lacks_parts s parts.lacks in
    let most = within_most 1 1000000 s.population parts.population in
    record {
      known = kind_known s.kind kind;
      population = omega (arith, most);
      few_items = omega (arith, items.0);
      items = each_again reading.item_at item_bytes (is_item_sound ss) (item_spelled ss few) 1 s.items items.1;
      few_groups = omega (arith, items.0, groups.0);
      groups = each_again reading.group_at group_bytes (is_group_sound s.items) (group_spelled s.items) 1 s.groups groups.1;
      verify = verify_case s.items s.cond (is_nothing s.cond) (kinds_of ss s.items items.1) refl parts.verify;
      no_set = lacks.0;
      no_form = lacks.1;
      no_duplicates = lacks.2;
      no_parts = lacks.3;
    }

-- ---- sets and subsets

record SetParts (ss : List Shape) (s : Shape) : Type 0 where
  pub form : is_within 1 2 s.form ≡ true
  pub of : is_data_set (kind_of ss s.set) ≡ true
  pub population : is_populated s ≡ true
  pub key : is_key_sound (items_at ss s.set) s.parts ≡ true
  pub cond : is_where_sound (items_at ss s.set) s ≡ true
  pub items : is_empty s.items ≡ true
  pub groups : is_empty s.groups ≡ true

set_parts : (ss : List Shape) (s : Shape) → is_set_sound ss s ≡ true → SetParts ss s
unfolding is_set_sound
set_parts ss s good =
    let a = is_data_set (kind_of ss s.set) in
    let b = is_set_placed ss s in
    let c = is_populated s in
    let d = is_within 1 2 s.form in
    let e = is_key_sound (items_at ss s.set) s.parts in
    let f = s.kind == 5 || not (is_empty s.parts) in
    let g = s.duplicates || not (is_empty s.parts) in
    let h = is_where_sound (items_at ss s.set) s in
    let i = is_empty s.items in
    let j = is_empty s.groups in
    let nine = and_parts (a && b && c && d && e && f && g && h && i) j good in
    let eight = and_parts (a && b && c && d && e && f && g && h) i nine.0 in
    let seven = and_parts (a && b && c && d && e && f && g) h eight.0 in
    let six = and_parts (a && b && c && d && e && f) g seven.0 in
    let five = and_parts (a && b && c && d && e) f six.0 in
    let four = and_parts (a && b && c && d) e five.0 in
    let three = and_parts (a && b && c) d four.0 in
    let two = and_parts (a && b) c three.0 in
    let one = and_parts a b two.0 in
    record { of = one.0; form = three.1; population = two.1; key = four.1; cond = seven.1; items = eight.1; groups = nine.1 }

key_parts : (items : List Item) (s : Shape) → is_key_sound items s.parts ≡ true → length s.parts ≤ 16
unfolding is_key_sound
key_parts items s good =
    let a = nat_le (length s.parts) 16 in
    let b = list_all (is_part_sound items) s.parts in
    let c = apart parts_differ s.parts in
    let two = and_parts (a && b && c) (nat_le (total (part_width items) s.parts) 96) good in
    let one = and_parts (a && b) c two.0 in
    leb-true (length s.parts) 16 (and_parts a b one.0).0

populated_case : (b : Bool) (n : ℕ) → cond b (is_within 1 1000000 n) (n == 0) ≡ true → n ≤ 1000000
populated_case true n good = within_most 1 1000000 n good
populated_case false n good = let none = eqb-true n 0 good in omega (arith, none)

where_has : (b : Bool) (items : List Item) (t : Tree) → cond b (is_condition items t) (is_nothing t) ≡ true → b ≡ true → is_condition items t ≡ true
where_has true items t good e = good
where_has false items t good e = absurd cc

where_lacks : (b : Bool) (items : List Item) (t : Tree) → cond b (is_condition items t) (is_nothing t) ≡ true → b ≡ false → t ≡ Empty
where_lacks true items t good e = absurd cc
where_lacks false items t good e = nothing_is t good

pub fields_parts : (ss : List Shape) (s : Shape) → is_sound ss s ≡ true → (is_name s.name ≡ true) × (is_owned_well ss s ≡ true) × (has_sound_fields ss s ≡ true) × (is_within 1 5 s.kind ≡ true)
unfolding is_sound
fields_parts ss s good =
    let a = is_within 1 5 s.kind in
    let b = is_name s.name in
    let c = is_owned_well ss s in
    let d = is_shallow ss s in
    let e = is_placed s in
    let five = and_parts (a && b && c && d && e) (has_sound_fields ss s) good in
    let four = and_parts (a && b && c && d) e five.0 in
    let three = and_parts (a && b && c) d four.0 in
    let two = and_parts (a && b) c three.0 in
    let one = and_parts a b two.0 in
    (one.1, two.1, five.1, one.0)

data_set_case : (b : Bool) (ss : List Shape) (s : Shape) → cond b (is_data_set_sound ss s) (is_set_sound ss s) ≡ true → b ≡ true → is_data_set_sound ss s ≡ true
data_set_case true ss s good e = good
data_set_case false ss s good e = absurd cc

set_case : (b : Bool) (ss : List Shape) (s : Shape) → cond b (is_data_set_sound ss s) (is_set_sound ss s) ≡ true → b ≡ false → is_set_sound ss s ≡ true
set_case true ss s good e = absurd cc
set_case false ss s good e = good

-- the items of the data set of a set are of kinds that a schema can declare
of_kinds : (ss : List Shape) (n : ℕ) → list_all (is_sound ss) ss ≡ true → is_data_set (kind_of ss n) ≡ true → Kinds (items_at ss n)
unfolding kind_of items_at
of_kinds ss n all holds =
    let found = named ss n (not_zero (kind_of ss n) holds) in
    let t = found.0 in
    let same = found.3 in
    let data_set : is_data_set t.kind ≡ true = ap (λ (o : Option Shape). is_data_set (kind_in o)) (sym same) ∙ holds in
    let fields = (fields_parts ss t (all_at (is_sound ss) ss (n - 1) t all found.1)).2 in
    let good = data_set_case (is_data_set t.kind) ss t fields data_set in
    let kinds = kinds_of ss t.items (items_parts ss t (data_set_parts ss t good).items).1 in
    subst (λ (o : Option Shape). Kinds (items_of o)) (sym same) kinds

set_spelled : (ss : List Shape) (s : Shape) → length ss ≤ 200 → list_all (is_sound ss) ss ≡ true → is_within 1 5 s.kind ≡ true → is_set_sound ss s ≡ true → SpelledSet s
set_spelled ss s few all kind good =
    let parts = set_parts ss s good in
    let low = (named ss s.set (not_zero (kind_of ss s.set) parts.of)).2 in
    let most = populated_case (eqb s.kind 5) s.population parts.population in
    let keys = key_parts (items_at ss s.set) s parts.key in
    let kinds = of_kinds ss s.set all parts.of in
    record {
      known = kind_known s.kind kind;
      known_form = form_known s.form parts.form;
      set = omega (arith, few, low);
      population = omega (arith, most);
      few_parts = omega (arith, keys);
      has_where = λ e. condition_again (items_at ss s.set) s.cond kinds (where_has (eqb s.kind 4) (items_at ss s.set) s.cond parts.cond e);
      no_where = where_lacks (eqb s.kind 4) (items_at ss s.set) s.cond parts.cond;
      no_items = empty_is s.items parts.items;
      no_groups = empty_is s.groups parts.groups;
    }

-- ---- structures

owner_low : (ss : List Shape) (s : Shape) → length ss ≤ 200 → is_owned_well ss s ≡ true → s.owner < 2 ^ 16
unfolding is_owned_well
owner_low ss s few good =
    elim (or_cases (s.owner == 0) (is_open_behind ss (s.number - 1) s.owner && kind_of ss s.owner == 1) good) [
      | inl none ↦ let zero_is = eqb-true s.owner 0 none in omega (arith, zero_is)
      | inr some ↦
          let one = eqb-true (kind_of ss s.owner) 1 (and_parts (is_open_behind ss (s.number - 1) s.owner) (kind_of ss s.owner == 1) some).1 in
          let low = (named ss s.owner (λ z. let bad : 0 ≡ 1 = sym z ∙ one in absurd cc)).2 in
          omega (arith, few, low)
    ]

pub shape_spelled : (ss : List Shape) (s : Shape) → length ss ≤ 200 → list_all (is_sound ss) ss ≡ true → is_sound ss s ≡ true → SpelledShape s
shape_spelled ss s few all good =
    let parts = fields_parts ss s good in
    record {
      name = parts.0;
      owner = owner_low ss s few parts.1;
      data_set = λ e. data_set_spelled ss s few parts.3 (data_set_case (is_data_set s.kind) ss s parts.2 e);
      set = λ e. set_spelled ss s few all parts.3 (set_case (is_data_set s.kind) ss s parts.2 e);
    }
