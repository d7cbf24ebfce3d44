-- Items, links and groups of a data set, as they are added one after another.
use Rattle.std.proofs.Common.{◌≡◌, ℕ, List, [], ◌∷◌, ◌++◌, Bool, true, false, cond, refl, sym, ap, subst, ◌∙◌}
use Rattle.std.proofs.lemmas.Bool.{and_parts, not-true, both_ways, or_parts, and_from}
use Rattle.std.proofs.lemmas.Slice.Eq.{bytes_eq-Decides}
use Rattle.std.specs.Prelude.{◌&&◌, ◌==◌, not, is_some, Some, None}
use Rattle.std.specs.List.{list_all}
use Rattle.std.specs.Str.{bytes_eq}
use Rattle.std.specs.declared.option.Option.{Option}
use Rattle.std.specs.declared.result.Result.TheVariants.{Ok, Err}
use Rattle.dms_base.specs.Name.{is_name}
use Rattle.dms_base.specs.Fits.{fits}
use Rattle.dms_base.specs.declared.value.Value.{Value}
use Rattle.dms_base.specs.declared.value.Value.TheVariants.{Null}
use Rattle.dms_base.specs.declared.kind.ItemKind.{ItemKind}
use Rattle.dms_base.specs.declared.kind.ItemKind.TheVariants.{Alpha, Number as Decimal, Bool as OneBit, Field, Link as LinkTo}
use Rattle.dms_base.specs.declared.kind.Literal.{Literal}
use Rattle.dms_desc.specs.declared.structure.Item.{Item as Member}
use Rattle.dms_desc.specs.declared.structure.Group.{Group as ItemGroup}
use Rattle.dms_desc.specs.Kinds.{is_link}
use Rattle.dms_desc_bytes.specs.Lists.{apart}
use Rattle.dms_desc.specs.Conds.{is_null}
use Rattle.dms_desc_bytes.specs.Members.{is_plain, items_differ, groups_differ, is_free_of, members_differ}
use Rattle.dasdl_parse.specs.declared.declarations.ItemDecl.{ItemDecl}
use Rattle.dasdl_parse.specs.declared.declarations.LinkDecl.{LinkDecl}
use Rattle.dasdl_compile.specs.declared.fault.CompileFault.TheVariants.{Embedding}
use Rattle.dasdl_compile.specs.declared.draft.Draft.{Draft}
use Rattle.dasdl_compile.specs.Conditions.{literal_of, value_in}
use Rattle.dms_desc.specs.Lookups.{item_named, group_named, after_item}
use Rattle.dasdl_compile.specs.Finding.{is_taken, data_set_named}
use Rattle.dasdl_compile.specs.Members.{with_item, initial_in, initial_of, item_at, link_to, link_kind, link_at}
use Rattle.dasdl_laws.specs.Alone.{is_local}
use Rattle.dasdl_laws.proofs.Judging.{bind_ok, skip_ok, ok_same}
use Rattle.dasdl_laws.proofs.Literals.{judged_fits}
use Rattle.dasdl_laws.proofs.Judged.{literal_in}
use Rattle.dasdl_laws.proofs.Ordered.{all_push, apart_push}
use Rattle.dasdl_laws.proofs.Written.{IsWrittenItem, IsPlainInitial}

-- a link points to a data set of these that stands in no other
pub record PointsTo (o : List Draft) (target : ℕ) (i : Member) : Type 0 where
  pub name : List ℕ
  pub to : Draft
  pub found : data_set_named name o ≡ Some to
  pub number : to.number ≡ target
  pub alone : (to.owner == 0) ≡ true
  pub required : i.required ≡ false
  pub initial : is_null i.initial ≡ true

abbrev pub Points : List Draft → ItemKind → Member → Type 0
Points o (LinkTo target counted) i = PointsTo o target i
Points o (Alpha n) i = Unit {0}
Points o (Decimal n m s) i = Unit {0}
Points o OneBit i = Unit {0}
Points o (Field n) i = Unit {0}

-- one more item or link
pub record AddsDraft (o : List Draft) (d t : Draft) : Type 0 where
  pub one : Member
  pub new : is_taken one.name d ≡ false
  pub local : is_local one ≡ true
  pub points : Points o one.kind one
  pub is : with_item d one ≡ t

no_link : (o : List Draft) (k : ItemKind) (i : Member) → is_link k ≡ false → Points o k i
no_link o (LinkTo target counted) i h = absurd (cc)
no_link o (Alpha n) i h = tt
no_link o (Decimal n m s) i h = tt
no_link o OneBit i h = tt
no_link o (Field n) i h = tt

null_fits : (k : ItemKind) → fits k Null ≡ true
null_fits (LinkTo target counted) = refl
null_fits (Alpha n) = refl
null_fits (Decimal n m s) = refl
null_fits OneBit = refl
null_fits (Field n) = refl

initial_fits : (i : ItemDecl) (l : Option Literal) (v : Value) → IsPlainInitial l → initial_in i l ≡ Ok v → (fits i.kind v ≡ true) × (is_plain v ≡ true)
unfolding literal_of
initial_fits i None v plain h =
    let e : Null ≡ v = ok_same Null v h in
    subst (λ (x : Value). (fits i.kind x ≡ true) × (is_plain x ≡ true)) e (null_fits i.kind, refl)
initial_fits i (Some l) v plain h =
    let f = judged_fits i.kind l v plain (literal_in i.name (value_in i.kind l) v h) in
    let a = and_parts (not (is_link i.kind) && fits i.kind v) (is_plain v) f in
    ((and_parts (not (is_link i.kind)) (fits i.kind v) a.0).1, a.1)

pub item_adds : (o : List Draft) (d t : Draft) (i : ItemDecl) → IsWrittenItem i → item_at o d i ≡ Ok t → AddsDraft o d t
unfolding item_at initial_of
item_adds o d t i w h =
    let a = skip_ok (is_taken i.name d) _ _ _ h in
    let b = bind_ok {A = Value} {B = Draft} (initial_in i i.initial) _ t a.1 in
    let f = initial_fits i i.initial b.0 w.initial b.1 in
    record { one = record { name = i.name; kind = i.kind; required = i.required; initial = b.0 }; new = a.0; local = and_from _ _ (and_from _ _ (and_from _ _ w.name w.kind) f.0) f.1; points = no_link o i.kind _ w.plain; is = ok_same _ t b.2 }

pub item_plain : (o : List Draft) (d t : Draft) (i : ItemDecl) (w : IsWrittenItem i) (h : item_at o d i ≡ Ok t) → is_link (item_adds o d t i w h).one.kind ≡ false
unfolding item_adds
item_plain o d t i w h = w.plain

by_owner : (o : List Draft) (l : LinkDecl) (t : Draft) (k : ItemKind) (b : Bool) → (t.owner == 0) ≡ b → data_set_named l.target o ≡ Some t → cond b (Ok (LinkTo t.number l.counted)) (Err (Embedding l.name)) ≡ Ok k → (u : Draft) × (data_set_named l.target o ≡ Some u) × ((u.owner == 0) ≡ true) × (k ≡ LinkTo u.number l.counted)
by_owner o l t k true a e h = (t, e, a, sym (ok_same _ k h))
by_owner o l t k false a e h = absurd (cc)

pub link_found : (o : List Draft) (l : LinkDecl) (r : Option Draft) (k : ItemKind) → data_set_named l.target o ≡ r → link_to l r ≡ Ok k → (t : Draft) × (data_set_named l.target o ≡ Some t) × ((t.owner == 0) ≡ true) × (k ≡ LinkTo t.number l.counted)
link_found o l None k e h = absurd (cc)
link_found o l (Some t) k e h = by_owner o l t k (t.owner == 0) refl e h

link_adds_as : (o : List Draft) (d t : Draft) (l : LinkDecl) (k : ItemKind) (to : Draft) → is_name l.name ≡ true → is_taken l.name d ≡ false → data_set_named l.target o ≡ Some to → (to.owner == 0) ≡ true → k ≡ LinkTo to.number l.counted → with_item d (record { name = l.name; kind = k; required = false; initial = Null }) ≡ t → AddsDraft o d t
link_adds_as o d t l k to named new e alone kind is =
    record { one = record { name = l.name; kind = LinkTo to.number l.counted; required = false; initial = Null }; new = new; local = and_from _ _ (and_from _ _ (and_from _ _ named refl) refl) refl; points = record { name = l.target; to = to; found = e; number = refl; alone = alone; required = refl; initial = refl }; is = ap (λ (x : ItemKind). with_item d (record { name = l.name; kind = x; required = false; initial = Null })) (sym kind) ∙ is }

pub link_adds : (o : List Draft) (d t : Draft) (l : LinkDecl) → is_name l.name ≡ true → link_at o d l ≡ Ok t → AddsDraft o d t
unfolding link_at link_kind
link_adds o d t l named h =
    let a = skip_ok (is_taken l.name d) _ _ _ h in
    let b = bind_ok {A = ItemKind} {B = Draft} (link_to l (data_set_named l.target o)) _ t a.1 in
    let f = link_found o l (data_set_named l.target o) b.0 refl b.1 in
    link_adds_as o d t l b.0 f.0 named a.0 f.1 f.2 f.3 (ok_same _ t b.2)

-- ---- names

by_test : (t : Bool) (a b : List ℕ) → bytes_eq a b ≡ false → bytes_eq b a ≡ t → bytes_eq b a ≡ false
by_test false a b h e = e
by_test true a b h e =
    let same : b ≡ a = (bytes_eq-Decides b a).0 e in
    let bad = (bytes_eq-Decides a b).1 (sym same) in
    absurd (both_ways (bytes_eq a b) h bad)

eq_turned : (a b : List ℕ) → bytes_eq a b ≡ false → bytes_eq b a ≡ false
eq_turned a b h = by_test (bytes_eq b a) a b h refl

by_name : (b : Bool) (name : List ℕ) (n : ℕ) (i : Member) (is : List Member) → is_some (cond b (Some (record { number = n; kind = i.kind })) (item_named name (after_item n) is)) ≡ false → (is_some (item_named name (after_item n) is) ≡ false → list_all (λ (x : Member). not (bytes_eq x.name name)) is ≡ true) → (not b && list_all (λ (x : Member). not (bytes_eq x.name name)) is) ≡ true
by_name true name n i is h f = absurd (cc)
by_name false name n i is h f = f h

free_items : (name : List ℕ) (n : ℕ) (is : List Member) → is_some (item_named name n is) ≡ false → list_all (λ (i : Member). not (bytes_eq i.name name)) is ≡ true
free_items name n [] h = refl
free_items name n (i ∷ is) h = by_name (bytes_eq i.name name) name n i is h (free_items name (after_item n) is)

by_group : (b : Bool) (name : List ℕ) (g : ItemGroup) (gs : List ItemGroup) → is_some (cond b (Some g) (group_named name gs)) ≡ false → (is_some (group_named name gs) ≡ false → list_all (λ (x : ItemGroup). not (bytes_eq x.name name)) gs ≡ true) → (not b && list_all (λ (x : ItemGroup). not (bytes_eq x.name name)) gs) ≡ true
by_group true name g gs h f = absurd (cc)
by_group false name g gs h f = f h

free_groups : (name : List ℕ) (gs : List ItemGroup) → is_some (group_named name gs) ≡ false → list_all (λ (g : ItemGroup). not (bytes_eq g.name name)) gs ≡ true
free_groups name [] h = refl
free_groups name (g ∷ gs) h = by_group (bytes_eq g.name name) name g gs h (free_groups name gs)

not_taken : (name : List ℕ) (d : Draft) → is_taken name d ≡ false → (list_all (λ (i : Member). not (bytes_eq i.name name)) d.items ≡ true) × (list_all (λ (g : ItemGroup). not (bytes_eq g.name name)) d.groups ≡ true)
unfolding is_taken
not_taken name d h =
    let a = or_parts (is_some (item_named name 1 d.items)) (is_some (group_named name d.groups)) h in
    (free_items name 1 d.items a.0, free_groups name d.groups a.1)

all_free : (is : List Member) (m : Member) (gs : List ItemGroup) → list_all (is_free_of is) gs ≡ true → list_all (λ (g : ItemGroup). not (bytes_eq g.name m.name)) gs ≡ true → list_all (is_free_of (is ++ m ∷ [])) gs ≡ true
all_free is m [] h e = refl
all_free is m (g ∷ gs) h e =
    let a = and_parts (is_free_of is g) (list_all (is_free_of is) gs) h in
    let b = and_parts (not (bytes_eq g.name m.name)) _ e in
    and_from _ _ (all_push (λ (i : Member). not (bytes_eq i.name g.name)) is m a.0 (ap not (eq_turned g.name m.name (not-true _ b.0)))) (all_free is m gs a.1 b.1)

record Differ (is : List Member) (gs : List ItemGroup) : Type 0 where
  items : apart items_differ is ≡ true
  groups : apart groups_differ gs ≡ true
  free : list_all (is_free_of is) gs ≡ true

differ_parts : (is : List Member) (gs : List ItemGroup) → members_differ is gs ≡ true → Differ is gs
unfolding members_differ
differ_parts is gs h =
    let b = and_parts (apart items_differ is && apart groups_differ gs) (list_all (is_free_of is) gs) h in
    let a = and_parts (apart items_differ is) (apart groups_differ gs) b.0 in
    record { items = a.0; groups = a.1; free = b.1 }

differ_whole : (is : List Member) (gs : List ItemGroup) → Differ is gs → members_differ is gs ≡ true
unfolding members_differ
differ_whole is gs h = and_from _ _ (and_from _ _ h.items h.groups) h.free

pub item_differs : (d : Draft) (m : Member) → members_differ d.items d.groups ≡ true → is_taken m.name d ≡ false → members_differ (d.items ++ m ∷ []) d.groups ≡ true
item_differs d m h new =
    let p = differ_parts d.items d.groups h in
    let f = not_taken m.name d new in
    differ_whole (d.items ++ m ∷ []) d.groups (record { items = apart_push items_differ d.items m p.items f.0; groups = p.groups; free = all_free d.items m d.groups p.free f.1 })

pub group_differs : (d : Draft) (g : ItemGroup) → members_differ d.items d.groups ≡ true → is_taken g.name d ≡ false → members_differ d.items (d.groups ++ g ∷ []) ≡ true
group_differs d g h new =
    let p = differ_parts d.items d.groups h in
    let f = not_taken g.name d new in
    differ_whole d.items (d.groups ++ g ∷ []) (record { items = p.items; groups = apart_push groups_differ d.groups g p.groups f.1; free = all_push (is_free_of d.items) d.groups g p.free f.0 })
