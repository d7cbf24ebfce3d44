-- What a structure has of others is sound: links, keys, WHERE, and where sets stand.
use Rattle.std.proofs.Common.{◌≡◌, ◌+◌, ◌-◌, ℕ, suc, zero, List, [], ◌∷◌, map, length, Bool, true, false, cond, refl, sym, ap, subst, ◌∙◌, arith}
use Rattle.std.proofs.lemmas.Bool.{and_parts, eqb-true, and_from}
use Rattle.std.proofs.lemmas.Bool.Decides.{nat_tests}
use Rattle.std.proofs.lemmas.Option.{slice_get-map}
use Rattle.std.specs.Prelude.{◌&&◌, ◌==◌, not, nat_lt, nat_le, slice_get, Some, None}
use Rattle.std.specs.List.{list_all, AllByRecursion}
use Rattle.std.specs.Option.{option_map}
use Rattle.std.specs.Str.{bytes_eq}
use Rattle.std.specs.declared.option.Option.{Option}
use Rattle.dms_base.specs.Fits.{fits}
use Rattle.dms_base.specs.declared.value.Value.{Value}
use Rattle.dms_base.specs.declared.kind.ItemKind.{ItemKind}
use Rattle.dms_base.specs.declared.kind.ItemKind.TheVariants.{Alpha, Number as Decimal, Bool as OneBit, Field, Link as LinkTo}
use Rattle.dms_base.specs.declared.kind.StructureKind.{StructureKind}
use Rattle.dms_base.specs.declared.kind.StructureKind.TheVariants.{DataSet as PlainDataSet, RestartDataSet, Set, AutomaticSubset, ManualSubset}
use Rattle.dms_desc.specs.declared.structure.Item.{Item as Member}
use Rattle.dms_desc.specs.declared.structure.KeyPart.{KeyPart}
use Rattle.dms_desc.specs.Numbered.{one_or_two}
use Rattle.dms_desc.specs.Shape.{Shape, Tree, kind_number}
use Rattle.dms_desc.specs.Shape.Tree.{Empty, Test, Both, Either, Contrary}
use Rattle.dms_desc_bytes.specs.Conditions.{nodes, is_comparable, compares_well, is_condition}
use Rattle.dms_desc.specs.Kinds.{is_link}
use Rattle.dms_desc.specs.Lookups.{structure_at}
use Rattle.dms_desc_bytes.specs.Finding.{kind_in, owner_in, kind_of, owner_of, item_at}
use Rattle.dms_desc_bytes.specs.Lists.{apart, total}
use Rattle.dms_desc.specs.Widths.{item_width}
use Rattle.dms_desc_bytes.specs.Members.{is_plain, is_link_sound, points_well, is_item_sound}
use Rattle.dms_desc_bytes.specs.Spelling.{is_data_set}
use Rattle.dms_desc_bytes.specs.WellFormed.{stand_in_order, is_key_item, width_in, is_part_sound, part_width, parts_differ, is_key_sound}
use Rattle.dasdl_compile.specs.declared.draft.Draft.{Draft}
use Rattle.dasdl_compile.specs.Compile.{shape_in}
use Rattle.dasdl_compile.specs.Finding.{data_set_named}
use Rattle.dasdl_laws.specs.Alone.{is_local}
use Rattle.dasdl_laws.proofs.Members.{PointsTo, Points}
use Rattle.dasdl_laws.proofs.Outline.{outline_of, seen_item, seen_type, seen_kind}
use Rattle.dasdl_laws.proofs.Parts.{PointsWell}

-- ---- a data set by its name

named_case : (b : Bool) (name : List ℕ) (d : Draft) (ds : List Draft) (t : Draft) → nat_lt (kind_number d.kind) 3 && bytes_eq d.name name ≡ b → cond b (Some d) (data_set_named name ds) ≡ Some t → (data_set_named name ds ≡ Some t → (k : ℕ) × (slice_get ds k ≡ Some t) × (nat_lt (kind_number t.kind) 3 ≡ true)) → (k : ℕ) × (slice_get (d ∷ ds) k ≡ Some t) × (nat_lt (kind_number t.kind) 3 ≡ true)
named_case true name d ds t e h f =
    let one : d ≡ t = cc in
    let low = (and_parts (nat_lt (kind_number d.kind) 3) (bytes_eq d.name name) e).0 in
    (0, h, subst (λ (x : Draft). nat_lt (kind_number x.kind) 3 ≡ true) one low)
named_case false name d ds t e h f = let r = f h in (suc r.0, r.1, r.2)

named_at : (name : List ℕ) (ds : List Draft) (t : Draft) → data_set_named name ds ≡ Some t → (k : ℕ) × (slice_get ds k ≡ Some t) × (nat_lt (kind_number t.kind) 3 ≡ true)
unfolding data_set_named
named_at name [] t h = absurd (cc)
named_at name (d ∷ ds) t h = named_case (nat_lt (kind_number d.kind) 3 && bytes_eq d.name name) name d ds t refl h (named_at name ds t)

pub mapped : {A B : Type 0} (f : A → B) (r : Option A) (y : B) → option_map f r ≡ Some y → (x : A) × (r ≡ Some x) × (f x ≡ y)
mapped f None y h = absurd (cc)
mapped f (Some x) y h = (x, refl, cc)

numbered_at : (n : ℕ) (ss : List Shape) (k : ℕ) (s : Shape) → stand_in_order n ss ≡ true → slice_get ss k ≡ Some s → s.number ≡ n + k
numbered_at n [] k s h e = absurd (cc)
numbered_at n (x ∷ xs) zero s h e =
    let a = and_parts (x.number == n) (stand_in_order (n + 1) xs) h in
    let one : x ≡ s = cc in
    let is = eqb-true x.number n a.0 in
    subst (λ (y : Shape). y.number ≡ n + 0) one (omega (arith, is))
numbered_at n (x ∷ xs) (suc k) s h e =
    let a = and_parts (x.number == n) (stand_in_order (n + 1) xs) h in
    let is = numbered_at (n + 1) xs k s a.1 e in
    omega (arith, is)

-- what was found by its name among what was noted is a data set of the description
pub record FoundAs (made : List Draft) (t : Draft) : Type 0 where
  pub is : Draft
  pub place : ℕ
  pub at : slice_get made place ≡ Some is
  pub structure : structure_at (map shape_in made) t.number ≡ Some (shape_in is)
  pub alike : outline_of t ≡ outline_of is
  pub kind : is_data_set (kind_number is.kind) ≡ true

seen_low : (k : StructureKind) → nat_lt (kind_number (seen_kind k)) 3 ≡ nat_lt (kind_number k) 3
seen_low PlainDataSet = refl
seen_low RestartDataSet = refl
seen_low Set = refl
seen_low AutomaticSubset = refl
seen_low ManualSubset = refl

kept_low : (a b : StructureKind) → nat_lt (kind_number a) 3 ≡ true → seen_kind a ≡ seen_kind b → is_data_set (kind_number b) ≡ true
kept_low a b low e = sym (one_or_two b) ∙ sym (seen_low b) ∙ ap (λ (k : StructureKind). nat_lt (kind_number k) 3) (sym e) ∙ seen_low a ∙ low

pub ne_zero : (n k : ℕ) → n ≡ 1 + k → (n == 0) ≡ false
ne_zero n k e = grind (arith, nat_tests)

pub found_as : (name : List ℕ) (noted made : List Draft) (t : Draft) → map outline_of noted ≡ map outline_of made → stand_in_order 1 (map shape_in made) ≡ true → data_set_named name noted ≡ Some t → FoundAs made t
found_as name noted made t same numbers h =
    let a = named_at name noted t h in
    let there : slice_get (map outline_of made) a.0 ≡ Some (outline_of t) = sym (ap (λ (l : List Draft). slice_get l a.0) same) ∙ slice_get-map outline_of noted a.0 ∙ ap (option_map outline_of) a.1 in
    let f = mapped outline_of (slice_get made a.0) (outline_of t) (sym (slice_get-map outline_of made a.0) ∙ there) in
    let shape : slice_get (map shape_in made) a.0 ≡ Some (shape_in f.0) = slice_get-map shape_in made a.0 ∙ ap (option_map shape_in) f.1 in
    let number : f.0.number ≡ 1 + a.0 = numbered_at 1 (map shape_in made) a.0 (shape_in f.0) numbers shape in
    let one : t.number ≡ f.0.number = ap (λ (x : Draft). x.number) (sym f.2) in
    let some : (t.number == 0) ≡ false = ne_zero t.number a.0 (one ∙ number) in
    let at : t.number - 1 ≡ a.0 = omega (arith, one, number) in
    record {
      is = f.0;
      place = a.0;
      at = f.1;
      structure = ap (λ (b : Bool). cond b None (slice_get (map shape_in made) (t.number - 1))) some ∙ ap (λ (k : ℕ). slice_get (map shape_in made) k) at ∙ shape;
      alike = sym f.2;
      kind = kept_low t.kind f.0.kind a.2 (ap (λ (x : Draft). x.kind) (sym f.2));
    }

-- ---- links

link_sound : (made : List Draft) (t : Draft) (target : ℕ) (i : Member) (o : List Draft) → PointsTo o target i → FoundAs made t → t.number ≡ target → (t.owner == 0) ≡ true → is_link_sound (map shape_in made) target i ≡ true
unfolding is_link_sound kind_of owner_of
link_sound made t target i o p f n alone =
    let at : structure_at (map shape_in made) target ≡ Some (shape_in f.is) = subst (λ (k : ℕ). structure_at (map shape_in made) k ≡ Some (shape_in f.is)) n f.structure in
    let owner : (f.is.owner == 0) ≡ true = ap (λ (x : Draft). x.owner == 0) (sym f.alike) ∙ alone in
    and_from _ _ (and_from _ _ (and_from _ _ (ap (λ (x : Option Shape). is_data_set (kind_in x)) at ∙ f.kind) (ap (λ (x : Option Shape). owner_in x == 0) at ∙ owner)) (ap not p.required)) p.initial

points_case : (noted made : List Draft) (k : ItemKind) (i : Member) → map outline_of noted ≡ map outline_of made → stand_in_order 1 (map shape_in made) ≡ true → Points noted k i → points_well (map shape_in made) k i ≡ true
points_case noted made (LinkTo target counted) i same numbers p =
    link_sound made p.to target i noted p (found_as p.name noted made p.to same numbers p.found) p.number p.alone
points_case noted made (Alpha n) i same numbers p = refl
points_case noted made (Decimal n m s) i same numbers p = refl
points_case noted made OneBit i same numbers p = refl
points_case noted made (Field n) i same numbers p = refl

pub items_sound : (noted made : List Draft) (is : List Member) → map outline_of noted ≡ map outline_of made → stand_in_order 1 (map shape_in made) ≡ true → list_all is_local is ≡ true → AllByRecursion (PointsWell noted) is → list_all (is_item_sound (map shape_in made)) is ≡ true
unfolding is_item_sound
items_sound noted made [] same numbers local points = refl
items_sound noted made (i ∷ is) same numbers local points =
    let a = and_parts (is_local i) (list_all is_local is) local in
    and_from _ _ (and_from _ _ a.0 (points_case noted made i.kind i same numbers points.0)) (items_sound noted made is same numbers a.1 points.1)

-- ---- keys and conditions see items by their types

at_case : (b : Bool) (is : List Member) (n : ℕ) → cond b None (slice_get (map seen_item is) (n - 1)) ≡ option_map seen_item (cond b None (slice_get is (n - 1)))
at_case true is n = refl
at_case false is n = slice_get-map seen_item is (n - 1)

link_seen : (k : ItemKind) → is_link (seen_type k) ≡ is_link k
link_seen (LinkTo target counted) = refl
link_seen (Alpha n) = refl
link_seen (Decimal n m s) = refl
link_seen OneBit = refl
link_seen (Field n) = refl

type_width : (k : ItemKind) → item_width (seen_type k) ≡ item_width k
type_width (LinkTo target counted) = refl
type_width (Alpha n) = refl
type_width (Decimal n m s) = refl
type_width OneBit = refl
type_width (Field n) = refl

item_seen : (is : List Member) (n : ℕ) → item_at (map seen_item is) n ≡ option_map seen_item (item_at is n)
item_seen is n = at_case (n == 0) is n

key_item_seen : (r : Option Member) → is_key_item (option_map seen_item r) ≡ is_key_item r
key_item_seen None = refl
key_item_seen (Some i) = ap not (link_seen i.kind)

width_seen : (r : Option Member) → width_in (option_map seen_item r) ≡ width_in r
width_seen None = refl
width_seen (Some i) = type_width i.kind

all_same : {A : Type 0} (p q : A → Bool) (xs : List A) → ((x : A) → p x ≡ q x) → list_all p xs ≡ list_all q xs
all_same p q [] e = refl
all_same p q (x ∷ xs) e = rw (e x, all_same p q xs e) refl

total_same : {A : Type 0} (p q : A → ℕ) (xs : List A) → ((x : A) → p x ≡ q x) → total p xs ≡ total q xs
total_same p q [] e = refl
total_same p q (x ∷ xs) e = rw (e x, total_same p q xs e) refl

key_seen : (is : List Member) (ps : List KeyPart) → is_key_sound (map seen_item is) ps ≡ is_key_sound is ps
unfolding is_key_sound
key_seen is ps =
    let parts = all_same (is_part_sound (map seen_item is)) (is_part_sound is) ps (λ p. ap is_key_item (item_seen is p.item) ∙ key_item_seen (item_at is p.item)) in
    let widths = total_same (part_width (map seen_item is)) (part_width is) ps (λ p. ap width_in (item_seen is p.item) ∙ width_seen (item_at is p.item)) in
    ap (λ (b : Bool). nat_le (length ps) 16 && b && apart parts_differ ps && nat_le (total (part_width (map seen_item is)) ps) 96) parts
    ∙ ap (λ (n : ℕ). nat_le (length ps) 16 && list_all (is_part_sound is) ps && apart parts_differ ps && nat_le n 96) widths

type_compared : (k : ItemKind) (v : Value) → (not (is_link (seen_type k)) && fits (seen_type k) v) ≡ (not (is_link k) && fits k v)
type_compared (LinkTo target counted) v = refl
type_compared (Alpha n) v = refl
type_compared (Decimal n m s) v = refl
type_compared OneBit v = refl
type_compared (Field n) v = refl

comparable_seen : (r : Option Member) (v : Value) → is_comparable (option_map seen_item r) v ≡ is_comparable r v
comparable_seen None v = refl
comparable_seen (Some i) v = ap (λ (b : Bool). b && is_plain v) (type_compared i.kind v)

compares_seen : (is : List Member) (t : Tree) → compares_well (map seen_item is) t ≡ compares_well is t
compares_seen is Empty = refl
compares_seen is (Test item op v) = ap (λ (r : Option Member). is_comparable r v) (item_seen is item) ∙ comparable_seen (item_at is item) v
compares_seen is (Both a b) = rw (compares_seen is a, compares_seen is b) refl
compares_seen is (Either a b) = rw (compares_seen is a, compares_seen is b) refl
compares_seen is (Contrary a) = compares_seen is a

condition_seen : (is : List Member) (t : Tree) → is_condition (map seen_item is) t ≡ is_condition is t
unfolding is_condition
condition_seen is t = ap (λ (b : Bool). nat_le (nodes t) 100 && b) (compares_seen is t)

-- items that are seen as the same have the same keys and conditions
pub same_keys : (is js : List Member) (ps : List KeyPart) → map seen_item is ≡ map seen_item js → is_key_sound is ps ≡ is_key_sound js ps
same_keys is js ps e = sym (key_seen is ps) ∙ ap (λ (l : List Member). is_key_sound l ps) e ∙ key_seen js ps

pub same_conditions : (is js : List Member) (t : Tree) → map seen_item is ≡ map seen_item js → is_condition is t ≡ is_condition js t
same_conditions is js t e = sym (condition_seen is t) ∙ ap (λ (l : List Member). is_condition l t) e ∙ condition_seen js t
