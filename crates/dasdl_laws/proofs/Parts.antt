-- A data set that is open is sound so far, and one that has ended is sound.
use Rattle.std.proofs.Common.{min, ◌≡◌, ◌≤◌, ◌+◌, ◌-◌, ℕ, List, [], ◌∷◌, ◌++◌, length, take, drop, true, refl, sym, ap, subst, ◌∙◌, arith, append_assoc, length-append, length-drop}
use Rattle.std.proofs.lemmas.List.{append-nil, drop-append-le, take-append-le, drop_at, take_all}
use Rattle.std.proofs.lemmas.Bool.{le-leb, ltb-false, or_right, and_from}
use Rattle.std.specs.Prelude.{◌||◌, not, nat_lt, Some, None}
use Rattle.std.specs.List.{list_all, AllByRecursion}
use Rattle.std.specs.declared.option.Option.{Option}
use Rattle.std.specs.declared.result.Result.TheVariants.{Ok}
use Rattle.dms_base.specs.Name.{is_name}
use Rattle.dms_desc.specs.declared.structure.Item.{Item as Member}
use Rattle.dms_desc.specs.declared.structure.Group.{Group as ItemGroup}
use Rattle.dms_desc.specs.Shape.{Tree}
use Rattle.dms_desc.specs.Shape.Tree.{Empty}
use Rattle.dms_desc_bytes.specs.Conditions.{is_nothing, is_condition}
use Rattle.dms_desc_bytes.specs.Lists.{apart, is_within}
use Rattle.dms_desc_bytes.specs.Members.{items_in_group, is_no_link, is_group_sound, members_differ, groups_follow}
use Rattle.dms_desc_bytes.specs.WellFormed.{has_sound_verify}
use Rattle.dasdl_phrases.specs.Trees.{Condition}
use Rattle.dasdl_parse.specs.declared.declarations.ItemDecl.{ItemDecl}
use Rattle.dasdl_parse.specs.declared.declarations.GroupDecl.{GroupDecl}
use Rattle.dasdl_parse.specs.declared.declarations.DataSetEnd.{DataSetEnd}
use Rattle.dasdl_compile.specs.declared.draft.Draft.{Draft}
use Rattle.dasdl_compile.specs.Answers.{steps}
use Rattle.dasdl_compile.specs.Compile.{shape_in}
use Rattle.dasdl_compile.specs.Conditions.{verify_tree}
use Rattle.dasdl_compile.specs.Finding.{is_taken, next_item}
use Rattle.dasdl_compile.specs.Members.{count_of, width_of, with_item, with_group, item_at, group_at, end_at}
use Rattle.dms_desc.specs.Widths.{record_width}
use Rattle.dasdl_laws.specs.Alone.{is_local}
use Rattle.dasdl_laws.proofs.Judging.{bind_ok, skip_ok, ok_same}
use Rattle.dasdl_laws.proofs.Judged.{condition_sound}
use Rattle.dasdl_laws.proofs.Members.{Points, AddsDraft, item_adds, item_plain, item_differs, group_differs}
use Rattle.dasdl_laws.proofs.Ordered.{all_push, apart_push}
use Rattle.dasdl_laws.proofs.Written.{IsWrittenItem, IsPlainCondition}

abbrev pub PointsWell : List Draft → Member → Type 0
PointsWell o i = Points o i.kind i

-- its items and links, and all their names
pub record Base (o : List Draft) (d : Draft) : Type 0 where
  pub local : list_all is_local d.items ≡ true
  pub points : AllByRecursion (PointsWell o) d.items
  pub differ : members_differ d.items d.groups ≡ true

points_push : (o : List Draft) (is : List Member) (m : Member) → AllByRecursion (PointsWell o) is → PointsWell o m → AllByRecursion (PointsWell o) (is ++ m ∷ [])
points_push o [] m h p = (p, tt)
points_push o (i ∷ is) m h p = (h.0, points_push o is m h.1 p)

base_adds : (o : List Draft) (d t : Draft) → AddsDraft o d t → Base o d → Base o t
base_adds o d t a b =
    subst (Base o) a.is (record { local = all_push is_local d.items a.one b.local a.local; points = points_push o d.items a.one b.points a.points; differ = item_differs d a.one b.differ a.new })

pub grown : (o : List Draft) (d t : Draft) → AddsDraft o d t → (length t.items ≡ length d.items + 1) × (t.groups ≡ d.groups)
grown o d t a =
    let one : length (with_item d a.one).items ≡ length d.items + 1 = length-append d.items (a.one ∷ []) in
    (sym (ap (λ (x : Draft). length x.items) a.is) ∙ one, sym (ap (λ (x : Draft). x.groups) a.is))

-- ---- groups

-- a group ends within so many items
abbrev pub GroupWithin : ℕ → ItemGroup → Type 0
GroupWithin n g = (is_name g.name ≡ true) × (1 ≤ g.first) × (1 ≤ g.count) × (g.first + g.count ≤ n + 1)

-- its groups, by how many items there are
pub record Grouped (n : ℕ) (gs : List ItemGroup) : Type 0 where
  pub within : AllByRecursion (GroupWithin n) gs
  pub follow : apart groups_follow gs ≡ true
  pub few : length gs ≤ n

within_more : (n m : ℕ) (gs : List ItemGroup) → n ≤ m → AllByRecursion (GroupWithin n) gs → AllByRecursion (GroupWithin m) gs
within_more n m [] low h = tt
within_more n m (g ∷ gs) low h = let last = h.0.3 in ((h.0.0, h.0.1, h.0.2, omega (arith, last, low)), within_more n m gs low h.1)

group_push : (P : ItemGroup → Type 0) (gs : List ItemGroup) (g : ItemGroup) → AllByRecursion P gs → P g → AllByRecursion P (gs ++ g ∷ [])
group_push P [] g h w = (w, tt)
group_push P (x ∷ xs) g h w = (h.0, group_push P xs g h.1 w)

all_before : (n : ℕ) (gs : List ItemGroup) (g : ItemGroup) → n + 1 ≤ g.first → AllByRecursion (GroupWithin n) gs → list_all (λ (x : ItemGroup). groups_follow x g) gs ≡ true
all_before n [] g low h = refl
all_before n (x ∷ xs) g low h = let last = h.0.3 in and_from _ _ (le-leb _ _ (omega (arith, low, last))) (all_before n xs g low h.1)

more_items : (n m : ℕ) (gs : List ItemGroup) → n ≤ m → Grouped n gs → Grouped m gs
more_items n m gs low h = let few = h.few in record { within = within_more n m gs low h.within; follow = h.follow; few = omega (arith, few, low) }

one_group : (n m : ℕ) (gs : List ItemGroup) (g : ItemGroup) → Grouped n gs → is_name g.name ≡ true → g.first ≡ n + 1 → g.count ≡ m → 1 ≤ m → Grouped (n + m) (gs ++ g ∷ [])
one_group n m gs g h named first count some =
    let few = h.few in
    record {
      within = group_push (GroupWithin (n + m)) gs g (within_more n (n + m) gs (omega arith) h.within) (named, omega (arith, first), omega (arith, count, some), omega (arith, first, count));
      follow = apart_push groups_follow gs g h.follow (all_before n gs g (omega (arith, first)) h.within);
      few = omega (arith, few, some, length-append gs (g ∷ []));
    }

-- no item of a group is a link
abbrev pub HasNoLinks : List Member → ItemGroup → Type 0
HasNoLinks is g = list_all is_no_link (items_in_group is g) ≡ true

same_items : (is more : List Member) (g : ItemGroup) → GroupWithin (length is) g → items_in_group (is ++ more) g ≡ items_in_group is g
same_items is more g h =
    let from = h.1 in
    let to = h.3 in
    ap (λ (l : List Member). take g.count l) (drop-append-le (g.first - 1) is more (omega (arith, from, to)))
    ∙ take-append-le g.count (drop (g.first - 1) is) more (omega (arith, from, to, length-drop (g.first - 1) is))

plain_more : (is more : List Member) (gs : List ItemGroup) → AllByRecursion (GroupWithin (length is)) gs → AllByRecursion (HasNoLinks is) gs → AllByRecursion (HasNoLinks (is ++ more)) gs
plain_more is more [] h p = tt
plain_more is more (g ∷ gs) h p = (ap (list_all is_no_link) (same_items is more g h.0) ∙ p.0, plain_more is more gs h.1 p.1)

plain_new : (is new : List Member) (g : ItemGroup) → g.first ≡ length is + 1 → g.count ≡ length new → list_all is_no_link new ≡ true → HasNoLinks (is ++ new) g
plain_new is new g first count p =
    ap (λ (l : List Member). list_all is_no_link (take g.count l)) (drop_at is new (g.first - 1) (omega (arith, first)))
    ∙ ap (list_all is_no_link) (take_all g.count new (omega (arith, count)))
    ∙ p

pub groups_sound : (is : List Member) (gs : List ItemGroup) → AllByRecursion (GroupWithin (length is)) gs → AllByRecursion (HasNoLinks is) gs → list_all (is_group_sound is) gs ≡ true
unfolding is_group_sound
groups_sound is [] h p = refl
groups_sound is (g ∷ gs) h p = and_from _ _ (and_from _ _ (and_from _ _ (and_from _ _ (and_from _ _ h.0.0 (le-leb 1 g.first h.0.1)) (le-leb 1 g.count h.0.2)) (le-leb _ _ h.0.3)) p.0) (groups_sound is gs h.1 p.1)

-- ---- a data set that is open

pub record Sofar (o : List Draft) (d : Draft) : Type 0 where
  pub base : Base o d
  pub grouped : Grouped (length d.items) d.groups
  pub plain : AllByRecursion (HasNoLinks d.items) d.groups

pub sofar_adds : (o : List Draft) (d t : Draft) → AddsDraft o d t → Sofar o d → Sofar o t
sofar_adds o d t a h =
    let g = grown o d t a in
    let n = g.0 in
    record { base = base_adds o d t a h.base; grouped = subst (Grouped (length t.items)) (sym g.1) (more_items (length d.items) (length t.items) d.groups (omega (arith, n)) h.grouped); plain = subst (λ (x : Draft). AllByRecursion (HasNoLinks x.items) x.groups) a.is (plain_more d.items (a.one ∷ []) d.groups h.grouped.within h.plain) }

record ItemsAdded (o : List Draft) (d t : Draft) (n : ℕ) : Type 0 where
  base : Base o t
  new : List Member
  made : t.items ≡ d.items ++ new
  size : length new ≡ n
  plain : list_all is_no_link new ≡ true
  groups : t.groups ≡ d.groups

items_run : (o : List Draft) (d t : Draft) (is : List ItemDecl) → AllByRecursion IsWrittenItem is → Base o d → steps item_at o d is ≡ Ok t → ItemsAdded o d t (length is)
unfolding steps
items_run o d t [] w b h =
    let e = ok_same d t h in
    record { base = subst (Base o) e b; new = []; made = sym (ap (λ (x : Draft). x.items) e) ∙ sym (append-nil d.items); size = refl; plain = refl; groups = sym (ap (λ (x : Draft). x.groups) e) }
items_run o d t (i ∷ is) w b h =
    let a = bind_ok {A = Draft} {B = Draft} (item_at o d i) _ t h in
    let one = item_adds o d a.0 i w.0 a.1 in
    let g = grown o d a.0 one in
    let r = items_run o a.0 t is w.1 (base_adds o d a.0 one b) a.2 in
    let n = r.size in
    let more : a.0.items ≡ d.items ++ one.one ∷ [] = sym (ap (λ (x : Draft). x.items) one.is) in
    let made : t.items ≡ d.items ++ one.one ∷ r.new = r.made ∙ ap (λ (l : List Member). l ++ r.new) more ∙ append_assoc d.items (one.one ∷ []) r.new in
    let plain : is_no_link one.one ≡ true = ap not (item_plain o d a.0 i w.0 a.1) in
    record { base = r.base; new = one.one ∷ r.new; made = made; size = omega (arith, n); plain = and_from _ _ plain r.plain; groups = r.groups ∙ g.1 }

pub group_adds : (o : List Draft) (d t : Draft) (g : GroupDecl) → is_name g.name ≡ true → AllByRecursion IsWrittenItem g.items → 1 ≤ length g.items → length d.items + length g.items ≤ 60 → Sofar o d → group_at o d g ≡ Ok t → Sofar o t × (length t.items ≡ length d.items + length g.items)
unfolding group_at
group_adds o d t g named w some room h e =
    let a = skip_ok (is_taken g.name d) _ _ _ e in
    let new : ItemGroup = record { name = g.name; first = next_item d.items; count = count_of g.items } in
    let begun : Base o (with_group d g) = record { local = h.base.local; points = h.base.points; differ = group_differs d new h.base.differ a.0 } in
    let r = items_run o (with_group d g) t g.items w begun a.1 in
    let k = one_group (length d.items) (length g.items) d.groups new h.grouped named (omega (arith, room)) (omega (arith, room)) some in
    let size = r.size in
    let n : length t.items ≡ length d.items + length g.items = ap length r.made ∙ omega (arith, size, length-append d.items r.new) in
    let plain : AllByRecursion (HasNoLinks (d.items ++ r.new)) (d.groups ++ new ∷ []) = group_push (HasNoLinks (d.items ++ r.new)) d.groups new (plain_more d.items r.new d.groups h.grouped.within h.plain) (plain_new d.items r.new new (omega (arith, room)) (omega (arith, room, size)) r.plain) in
    (record { base = r.base; grouped = subst (λ (m : ℕ). Grouped m t.groups) (sym n) (subst (Grouped (length d.items + length g.items)) (sym r.groups) k); plain = subst (λ (l : List Member). AllByRecursion (HasNoLinks l) t.groups) (sym r.made) (subst (AllByRecursion (HasNoLinks (d.items ++ r.new))) (sym r.groups) plain) }, n)

-- ---- its end

width_whole : (n : ℕ) → min n 4294967295 ≤ 480 → n ≤ 480
width_whole n h = omega (arith, h)

verify_sound : (items : List Member) (c : Option Condition) (t : Tree) → length items ≤ 254 → IsPlainCondition c → verify_tree items c ≡ Ok t → (is_nothing t || is_condition items t) ≡ true
unfolding verify_tree
verify_sound items None t few w h = subst (λ (x : Tree). (is_nothing x || is_condition items x) ≡ true) (ok_same Empty t h) refl
verify_sound items (Some c) t few w h = or_right (is_nothing t) _ (condition_sound items c.tree t few w.0 w.1 h)

-- a data set that has ended
pub record EndedDraft (o : List Draft) (d : Draft) : Type 0 where
  pub sofar : Sofar o d
  pub few : length d.items ≤ 60
  pub short : record_width d.items ≤ 480
  pub verify : has_sound_verify (shape_in d) ≡ true
  pub population : is_within 1 1000000 d.population ≡ true

pub ended : (o : List Draft) (d t : Draft) (e : DataSetEnd) → Sofar o d → length d.items ≤ 60 → IsPlainCondition e.verify → is_within 1 1000000 e.population ≡ true → end_at d e ≡ Ok t → EndedDraft o t
unfolding end_at
ended o d t e h few w p k =
    let a = bind_ok {A = Tree} {B = Draft} (verify_tree d.items e.verify) _ t k in
    let b = skip_ok (nat_lt 480 (width_of d)) _ _ _ a.2 in
    let low : width_of d ≤ 480 = ltb-false 480 (width_of d) b.0 in
    let width = width_whole (record_width d.items) low in
    subst (EndedDraft o) (ok_same _ t b.1)
    (record { sofar = record { base = record { local = h.base.local; points = h.base.points; differ = h.base.differ }; grouped = h.grouped; plain = h.plain }; few = few; short = width; verify = verify_sound d.items e.verify a.0 (omega (arith, few)) w a.1; population = p })

pub end_items : (d t : Draft) (e : DataSetEnd) → end_at d e ≡ Ok t → t.items ≡ d.items
unfolding end_at
end_items d t e k =
    let a = bind_ok {A = Tree} {B = Draft} (verify_tree d.items e.verify) _ t k in
    let b = skip_ok (nat_lt 480 (width_of d)) _ _ _ a.2 in
    ap (λ (x : Draft). x.items) (sym (ok_same _ t b.1))
