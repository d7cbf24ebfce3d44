-- What is noted of declarations is what is made of them, but for the kinds of sets, links and values.
use Rattle.std.proofs.Common.{◌≡◌, ◌+◌, ◌-◌, ℕ, min, List, [], ◌∷◌, ◌++◌, map, length, Bool, true, false, cond, refl, sym, ap, subst, ◌∙◌, arith}
use Rattle.std.proofs.lemmas.List.{map-append, map-set, length-map}
use Rattle.std.proofs.lemmas.Option.{slice_get-map}
use Rattle.std.specs.Prelude.{not, is_some, slice_get, set, Some, None}
use Rattle.std.specs.Option.{option_map}
use Rattle.std.specs.declared.option.Option.{Option}
use Rattle.std.specs.declared.result.Result.TheVariants.{Ok}
use Rattle.dms_base.specs.declared.value.Value.{Value}
use Rattle.dms_base.specs.declared.value.Value.TheVariants.{Null}
use Rattle.dms_base.specs.declared.kind.ItemKind.{ItemKind}
use Rattle.dms_base.specs.declared.kind.ItemKind.TheVariants.{Alpha, Number as Decimal, Bool as OneBit, Field, Link as LinkTo}
use Rattle.dms_base.specs.declared.kind.StructureKind.{StructureKind}
use Rattle.dms_base.specs.declared.kind.StructureKind.TheVariants.{DataSet as PlainDataSet, RestartDataSet, Set, AutomaticSubset, ManualSubset}
use Rattle.dms_desc.specs.declared.structure.Item.{Item as Member}
use Rattle.dms_desc.specs.Shape.Tree.{Empty}
use Rattle.dasdl_parse.specs.declared.declarations.Declaration.{Declaration}
use Rattle.dasdl_parse.specs.declared.declarations.Declaration.TheVariants.{DataSet, Item, Group, Link, SetOf, End}
use Rattle.dasdl_parse.specs.declared.declarations.DataSetDecl.{DataSetDecl}
use Rattle.dasdl_parse.specs.declared.declarations.DataSetEnd.{DataSetEnd}
use Rattle.dasdl_parse.specs.declared.declarations.ItemDecl.{ItemDecl}
use Rattle.dasdl_parse.specs.declared.declarations.GroupDecl.{GroupDecl}
use Rattle.dasdl_parse.specs.declared.declarations.LinkDecl.{LinkDecl}
use Rattle.dasdl_parse.specs.declared.declarations.SetDecl.{SetDecl}
use Rattle.dasdl_grammar.specs.SchemaSpelling.{structures_of}
use Rattle.dasdl_compile.specs.declared.draft.Draft.{Draft}
use Rattle.dasdl_compile.specs.declared.sets.WhereAndKey.{WhereAndKey}
use Rattle.dasdl_compile.specs.declared.work.Compilation.{Compilation}
use Rattle.dasdl_compile.specs.declared.work.Plain.{Plain}
use Rattle.dasdl_compile.specs.Answers.{steps}
use Rattle.dasdl_compile.specs.Compile.{inside_in, inside_at, declared_at}
use Rattle.dasdl_compile.specs.Conditions.{verify_tree}
use Rattle.dasdl_compile.specs.Finding.{new_draft, next_structure, is_taken, data_set_named}
use Rattle.dasdl_compile.specs.Members.{count_of, with_item, with_group, initial_of, item_at, group_at, link_to, link_kind, link_at, end_at, member_at, open_after}
use Rattle.dasdl_compile.specs.Outlines.{data_set_kind, outlined_item, outlined_member, outlined_in, outlined_inside, outlined_data_set, outlined_set, outlined_one}
use Rattle.dasdl_compile.specs.Sets.{set_draft}
use Rattle.dasdl_laws.proofs.Judging.{bind_ok, skip_ok, ok_same}
use Rattle.dasdl_laws.proofs.Members.{link_found}
use Rattle.dasdl_laws.proofs.Trees.{opened_by}
use Rattle.dasdl_laws.proofs.Turns.{DraftTurn, turn_of}
use Rattle.dasdl_laws.proofs.Turns.DraftTurn.{inside, data_set, a_set as set_added}

abbrev pub seen_type : ItemKind → ItemKind
seen_type (LinkTo target counted) = LinkTo 0 false
seen_type (Alpha n) = Alpha n
seen_type (Decimal n m s) = Decimal n m s
seen_type OneBit = OneBit
seen_type (Field n) = Field n

-- an item, but for what it points to and how it begins
abbrev pub seen_item : Member → Member
seen_item i = record { name = i.name; kind = seen_type i.kind; required = false; initial = Null }

-- a set or subset, whichever it is
abbrev pub seen_kind : StructureKind → StructureKind
seen_kind PlainDataSet = PlainDataSet
seen_kind RestartDataSet = RestartDataSet
seen_kind Set = Set
seen_kind AutomaticSubset = Set
seen_kind ManualSubset = Set

-- a structure, by what can be said of it before it is judged
abbrev pub outline_of : Draft → Draft
outline_of d = record { number = d.number; kind = seen_kind d.kind; name = d.name; owner = d.owner; population = 0; items = map seen_item d.items; groups = d.groups; cond = Empty; set = 0; form = None; duplicates = false; parts = [] }

seen_with_item : (d : Draft) (m : Member) → outline_of (with_item d m) ≡ with_item (outline_of d) (seen_item m)
seen_with_item d m = ap (λ (is : List Member). record { number = d.number; kind = seen_kind d.kind; name = d.name; owner = d.owner; population = 0; items = is; groups = d.groups; cond = Empty; set = 0; form = None; duplicates = false; parts = [] }) (map-append seen_item d.items (m ∷ []))

seen_with_group : (d : Draft) (g : GroupDecl) → outline_of (with_group d g) ≡ with_group (outline_of d) g
seen_with_group d g = ap (λ (n : ℕ). record { number = d.number; kind = seen_kind d.kind; name = d.name; owner = d.owner; population = 0; items = map seen_item d.items; groups = d.groups ++ record { name = g.name; first = min (n + 1) 255; count = count_of g.items } ∷ []; cond = Empty; set = 0; form = None; duplicates = false; parts = [] }) (sym (length-map d.items seen_item))

item_alike_as : (a b : Draft) (m n : Member) → outline_of a ≡ outline_of b → seen_item m ≡ seen_item n → outline_of (with_item a m) ≡ outline_of (with_item b n)
item_alike_as a b m n e f = seen_with_item a m ∙ ap (λ (d : Draft). with_item d (seen_item m)) e ∙ ap (λ (i : Member). with_item (outline_of b) i) f ∙ sym (seen_with_item b n)

item_alike : (plain : Plain) (o : List Draft) (a b x y : Draft) (i : ItemDecl) → outline_of a ≡ outline_of b → outlined_item plain a i ≡ Ok x → item_at o b i ≡ Ok y → outline_of x ≡ outline_of y
unfolding outlined_item item_at
item_alike plain o a b x y i e h k =
    let c = skip_ok (is_taken i.name b) _ _ _ k in
    let v = bind_ok {A = Value} {B = Draft} (initial_of i) _ y c.1 in
    ap outline_of (sym (ok_same _ x h)) ∙ item_alike_as a b (record { name = i.name; kind = i.kind; required = i.required; initial = Null }) (record { name = i.name; kind = i.kind; required = i.required; initial = v.0 }) e refl ∙ ap outline_of (ok_same _ y v.2)

items_alike : (plain : Plain) (o : List Draft) (is : List ItemDecl) (a b x y : Draft) → outline_of a ≡ outline_of b → steps outlined_item plain a is ≡ Ok x → steps item_at o b is ≡ Ok y → outline_of x ≡ outline_of y
unfolding steps
items_alike plain o [] a b x y e h k = ap outline_of (sym (ok_same a x h)) ∙ e ∙ ap outline_of (ok_same b y k)
items_alike plain o (i ∷ is) a b x y e h k =
    let c = bind_ok {A = Draft} {B = Draft} (outlined_item plain a i) _ x h in
    let d = bind_ok {A = Draft} {B = Draft} (item_at o b i) _ y k in
    items_alike plain o is c.0 d.0 x y (item_alike plain o a b c.0 d.0 i e c.1 d.1) c.2 d.2

group_alike : (plain : Plain) (o : List Draft) (a b x y : Draft) (g : GroupDecl) → outline_of a ≡ outline_of b → steps outlined_item plain (with_group a g) g.items ≡ Ok x → group_at o b g ≡ Ok y → outline_of x ≡ outline_of y
unfolding group_at
group_alike plain o a b x y g e h k =
    let c = skip_ok (is_taken g.name b) _ _ _ k in
    items_alike plain o g.items (with_group a g) (with_group b g) x y (seen_with_group a g ∙ ap (λ (d : Draft). with_group d g) e ∙ sym (seen_with_group b g)) h c.1

link_alike : (o : List Draft) (a b y : Draft) (l : LinkDecl) → outline_of a ≡ outline_of b → link_at o b l ≡ Ok y → outline_of (with_item a (record { name = l.name; kind = LinkTo 0 l.counted; required = false; initial = Null })) ≡ outline_of y
unfolding link_at link_kind
link_alike o a b y l e k =
    let c = skip_ok (is_taken l.name b) _ _ _ k in
    let v = bind_ok {A = ItemKind} {B = Draft} (link_to l (data_set_named l.target o)) _ y c.1 in
    let f = link_found o l (data_set_named l.target o) v.0 refl v.1 in
    let same : seen_item (record { name = l.name; kind = LinkTo 0 l.counted; required = false; initial = Null }) ≡ seen_item (record { name = l.name; kind = v.0; required = false; initial = Null }) = ap (λ (t : ItemKind). seen_item (record { name = l.name; kind = t; required = false; initial = Null })) (sym f.3) in
    item_alike_as a b _ (record { name = l.name; kind = v.0; required = false; initial = Null }) e same ∙ ap outline_of (ok_same _ y v.2)

end_alike : (b y : Draft) (e : DataSetEnd) → end_at b e ≡ Ok y → outline_of b ≡ outline_of y
unfolding end_at
end_alike b y e k =
    let c = bind_ok (verify_tree b.items e.verify) _ _ k in
    let d = skip_ok _ _ _ _ c.2 in
    ap outline_of (ok_same _ y d.1)

member_alike : (plain : Plain) (o : List Draft) (decl : Declaration) (a b x y : Draft) → outline_of a ≡ outline_of b → outlined_member plain decl a ≡ Ok x → member_at o decl b ≡ Ok y → outline_of x ≡ outline_of y
unfolding outlined_member member_at
member_alike plain o (Item i) a b x y e h k = item_alike plain o a b x y i e h k
member_alike plain o (Group g) a b x y e h k = group_alike plain o a b x y g e h k
member_alike plain o (Link l) a b x y e h k = ap outline_of (sym (ok_same _ x h)) ∙ link_alike o a b y l e k
member_alike plain o (End d) a b x y e h k = ap outline_of (sym (ok_same a x h)) ∙ e ∙ end_alike b y d k
member_alike plain o (DataSet s) a b x y e h k = ap outline_of (sym (ok_same a x h)) ∙ e ∙ ap outline_of (ok_same b y k)
member_alike plain o (SetOf s) a b x y e h k = ap outline_of (sym (ok_same a x h)) ∙ e ∙ ap outline_of (ok_same b y k)

-- ---- works

pub record AlikeCompilations (x w : Compilation) : Type 0 where
  pub within : x.within ≡ w.within
  pub made : map outline_of x.made ≡ map outline_of w.made

pub same_length : (xs ys : List Draft) → map outline_of xs ≡ map outline_of ys → length xs ≡ length ys
same_length xs ys e = sym (length-map xs outline_of) ∙ ap length e ∙ length-map ys outline_of

push_alike : (xs ys : List Draft) (a b : Draft) → map outline_of xs ≡ map outline_of ys → outline_of a ≡ outline_of b → map outline_of (xs ++ a ∷ []) ≡ map outline_of (ys ++ b ∷ [])
push_alike xs ys a b e f = map-append outline_of xs (a ∷ []) ∙ ap (λ (l : List Draft). l ++ outline_of a ∷ []) e ∙ ap (λ (d : Draft). map outline_of ys ++ d ∷ []) f ∙ sym (map-append outline_of ys (b ∷ []))

set_alike : (xs ys : List Draft) (j k : ℕ) (a b : Draft) → map outline_of xs ≡ map outline_of ys → j ≡ k → outline_of a ≡ outline_of b → map outline_of (set xs j a) ≡ map outline_of (set ys k b)
set_alike xs ys j k a b e i f = map-set outline_of xs j a ∙ ap (λ (l : List Draft). set l j (outline_of a)) e ∙ ap (λ (n : ℕ). set (map outline_of ys) n (outline_of a)) i ∙ ap (λ (d : Draft). set (map outline_of ys) k d) f ∙ sym (map-set outline_of ys k b)

inside_alike : (plain : Plain) (o : List Draft) (decl : Declaration) (x w y v : Compilation) (r q : Option Draft) → option_map outline_of r ≡ option_map outline_of q → AlikeCompilations x w → outlined_in plain decl x r ≡ Ok y → inside_in o decl w q ≡ Ok v → AlikeCompilations y v
inside_alike plain o decl x w y v None None e a h k =
    let s : x ≡ y = ok_same x y h in
    let t : w ≡ v = ok_same w v k in
    subst (λ (u : Compilation). AlikeCompilations y u) t (subst (λ (u : Compilation). AlikeCompilations u w) s a)
inside_alike plain o decl x w y v None (Some b) e a h k = absurd (cc)
inside_alike plain o decl x w y v (Some c) None e a h k = absurd (cc)
inside_alike plain o decl x w y v (Some c) (Some b) e a h k =
    let same : outline_of c ≡ outline_of b = cc in
    let s = bind_ok {A = Draft} {B = Compilation} (outlined_member plain decl c) _ y h in
    let t = bind_ok {A = Draft} {B = Compilation} (member_at o decl b) _ v k in
    let m = member_alike plain o decl c b s.0 t.0 same s.1 t.1 in
    let owners : c.owner ≡ b.owner = ap (λ (d : Draft). d.owner) same in
    let places : x.within - 1 ≡ w.within - 1 = ap (λ (n : ℕ). n - 1) a.within in
    let p = ok_same _ y s.2 in
    let q = ok_same _ v t.2 in
    record {
      within = ap (λ (u : Compilation). u.within) (sym p) ∙ ap (λ (n : ℕ). open_after decl n x.within) owners ∙ ap (λ (n : ℕ). open_after decl b.owner n) a.within ∙ ap (λ (u : Compilation). u.within) q;
      made = ap (λ (u : Compilation). map outline_of u.made) (sym p) ∙ set_alike x.made w.made (x.within - 1) (w.within - 1) s.0 t.0 a.made places m ∙ ap (λ (u : Compilation). map outline_of u.made) q;
    }

got_alike : (x w : Compilation) → AlikeCompilations x w → option_map outline_of (slice_get x.made (x.within - 1)) ≡ option_map outline_of (slice_get w.made (w.within - 1))
got_alike x w a =
    sym (slice_get-map outline_of x.made (x.within - 1)) ∙ ap (λ (l : List Draft). slice_get l (x.within - 1)) a.made ∙ ap (λ (n : ℕ). slice_get (map outline_of w.made) (n - 1)) a.within ∙ slice_get-map outline_of w.made (w.within - 1)

members_alike : (plain : Plain) (o : List Draft) (decl : Declaration) (x w y v : Compilation) → AlikeCompilations x w → outlined_inside plain decl x ≡ Ok y → inside_at o decl w ≡ Ok v → AlikeCompilations y v
unfolding outlined_inside inside_at
members_alike plain o decl x w y v a h k = inside_alike plain o decl x w y v (slice_get x.made (x.within - 1)) (slice_get w.made (w.within - 1)) (got_alike x w a) a h k

next_alike : (xs ys : List Draft) → map outline_of xs ≡ map outline_of ys → next_structure xs ≡ next_structure ys
next_alike xs ys e = ap (λ (n : ℕ). min (n + 1) 65535) (same_length xs ys e)

drafted_alike : (n m : ℕ) (kind : StructureKind) (name : List ℕ) (i j : ℕ) → n ≡ m → i ≡ j → outline_of (new_draft n kind name i) ≡ outline_of (new_draft m kind name j)
drafted_alike n m kind name i j e f = ap (λ (k : ℕ). outline_of (new_draft k kind name i)) e ∙ ap (λ (k : ℕ). outline_of (new_draft m kind name k)) f

by_words : (a b : Bool) → Set ≡ seen_kind (cond (not a) Set (cond b AutomaticSubset ManualSubset))
by_words true true = refl
by_words true false = refl
by_words false b = refl

set_seen : (w : Compilation) (s : SetDecl) (d : Draft) (p : WhereAndKey) → outline_of (new_draft (next_structure w.made) Set s.name w.within) ≡ outline_of (set_draft w s d p)
set_seen w s d p = ap (λ (k : StructureKind). record { number = next_structure w.made; kind = k; name = s.name; owner = w.within; population = 0; items = []; groups = []; cond = Empty; set = 0; form = None; duplicates = false; parts = [] }) (by_words s.subset (is_some s.cond))

set_alike_by : (o : List Draft) (w v : Compilation) (decl : Declaration) (s : SetDecl) → decl ≡ SetOf s → DraftTurn o w v decl → (x y : Compilation) → AlikeCompilations x w → outlined_set s x ≡ Ok y → AlikeCompilations y v
unfolding outlined_set
set_alike_by o w v _ s same (inside decl none i) x y a h = let one : structures_of (SetOf s) ≡ 0 = subst (λ (z : Declaration). structures_of z ≡ 0) same none in absurd (omega (arith, one))
set_alike_by o w v _ s same (data_set t new placed once e) x y a h = absurd (cc)
set_alike_by o w v _ s same (set_added t d p new of placed read key e) x y a h =
    let one : t ≡ s = cc in
    let g = ok_same _ y h in
    let name : t.name ≡ s.name = ap (λ (z : SetDecl). z.name) one in
    record {
      within = ap (λ (u : Compilation). u.within) (sym g) ∙ a.within ∙ ap (λ (u : Compilation). u.within) (sym e);
      made = ap (λ (u : Compilation). map outline_of u.made) (sym g)
          ∙ push_alike x.made w.made (new_draft (next_structure x.made) Set s.name x.within) (set_draft w t d p) a.made (drafted_alike (next_structure x.made) (next_structure w.made) Set s.name x.within w.within (next_alike x.made w.made a.made) a.within ∙ ap (λ (n : List ℕ). outline_of (new_draft (next_structure w.made) Set n w.within)) (sym name) ∙ set_seen w t d p)
          ∙ ap (λ (u : Compilation). map outline_of u.made) (sym e);
    }

data_set_alike : (o : List Draft) (s : DataSetDecl) (x w y v : Compilation) → AlikeCompilations x w → outlined_data_set s x ≡ Ok y → DraftTurn o w v (DataSet s) → AlikeCompilations y v
unfolding outlined_data_set
data_set_alike o s x w y v a h t =
    let e = opened_by o w v (DataSet s) s refl t in
    let g = ok_same _ y h in
    let n = next_alike x.made w.made a.made in
    record {
      within = ap (λ (u : Compilation). u.within) (sym g) ∙ n ∙ ap (λ (u : Compilation). u.within) (sym e);
      made = ap (λ (u : Compilation). map outline_of u.made) (sym g)
          ∙ push_alike x.made w.made (new_draft (next_structure x.made) (data_set_kind s.restart) s.name x.within) (new_draft (next_structure w.made) (data_set_kind s.restart) s.name w.within) a.made (drafted_alike (next_structure x.made) (next_structure w.made) (data_set_kind s.restart) s.name x.within w.within n a.within)
          ∙ ap (λ (u : Compilation). map outline_of u.made) (sym e);
    }

one_alike : (plain : Plain) (o : List Draft) (decl : Declaration) (x w y v : Compilation) → AlikeCompilations x w → outlined_one plain x decl ≡ Ok y → declared_at o w decl ≡ Ok v → AlikeCompilations y v
unfolding outlined_one declared_at
one_alike plain o (DataSet s) x w y v a h k = data_set_alike o s x w y v a h (turn_of o w v (DataSet s) k)
one_alike plain o (SetOf s) x w y v a h k = set_alike_by o w v (SetOf s) s refl (turn_of o w v (SetOf s) k) x y a h
one_alike plain o (Item i) x w y v a h k = members_alike plain o (Item i) x w y v a h k
one_alike plain o (Group g) x w y v a h k = members_alike plain o (Group g) x w y v a h k
one_alike plain o (Link l) x w y v a h k = members_alike plain o (Link l) x w y v a h k
one_alike plain o (End e) x w y v a h k = members_alike plain o (End e) x w y v a h k

-- what is noted of declarations is seen as what is made of them
pub all_alike : (plain : Plain) (o : List Draft) (ds : List Declaration) (x w y v : Compilation) → AlikeCompilations x w → steps outlined_one plain x ds ≡ Ok y → steps declared_at o w ds ≡ Ok v → AlikeCompilations y v
unfolding steps
all_alike plain o [] x w y v a h k =
    let s : x ≡ y = ok_same x y h in
    let t : w ≡ v = ok_same w v k in
    subst (λ (u : Compilation). AlikeCompilations y u) t (subst (λ (u : Compilation). AlikeCompilations u w) s a)
all_alike plain o (d ∷ ds) x w y v a h k =
    let s = bind_ok {A = Compilation} {B = Compilation} (outlined_one plain x d) _ y h in
    let t = bind_ok {A = Compilation} {B = Compilation} (declared_at o w d) _ v k in
    all_alike plain o ds s.0 t.0 y v (one_alike plain o d x w s.0 t.0 a s.1 t.1) s.2 t.2
