-- A description has as many counted links as its text.
use Rattle.std.proofs.Common.{◌≡◌, ◌≤◌, ◌+◌, ◌-◌, ℕ, suc, zero, List, [], ◌∷◌, ◌++◌, map, Bool, true, false, refl, sym, ap, ◌∙◌, arith}
use Rattle.std.specs.Prelude.{slice_get, set, Some}
use Rattle.std.specs.List.{AllByRecursion}
use Rattle.std.specs.declared.result.Result.TheVariants.{Ok}
use Rattle.dms_base.specs.declared.value.Value.{Value}
use Rattle.dms_base.specs.declared.kind.ItemKind.{ItemKind}
use Rattle.dms_base.specs.declared.kind.ItemKind.TheVariants.{Alpha, Number as Decimal, Bool as OneBit, Field, Link as LinkTo}
use Rattle.dms_desc.specs.declared.structure.Item.{Item as Member}
use Rattle.dms_desc.specs.Kinds.{is_link}
use Rattle.dms_desc_bytes.specs.Lists.{total}
use Rattle.dms_desc_bytes.specs.Members.{counted_one}
use Rattle.dms_desc_bytes.specs.WellFormed.{counted_in as counted_shape}
use Rattle.dms_tokens.specs.declared.token.Lexeme.{Lexeme}
use Rattle.dasdl_parse.specs.declared.schema.Parameters.{Parameters}
use Rattle.dasdl_parse.specs.declared.declarations.Declaration.{Declaration}
use Rattle.dasdl_parse.specs.declared.declarations.Declaration.TheVariants.{DataSet, Item, Group, Link, SetOf, End}
use Rattle.dasdl_parse.specs.declared.declarations.DataSetEnd.{DataSetEnd}
use Rattle.dasdl_parse.specs.declared.declarations.ItemDecl.{ItemDecl}
use Rattle.dasdl_parse.specs.declared.declarations.GroupDecl.{GroupDecl}
use Rattle.dasdl_parse.specs.declared.declarations.LinkDecl.{LinkDecl}
use Rattle.dasdl_grammar.specs.SchemaSpelling.{Members, Many, Declares, one_if, counted_of, counted_in}
use Rattle.dasdl_grammar.specs.SchemaSpelling.Members.{a_set, a_data_set, an_item, a_link, a_group, a_first, a_further}
use Rattle.dasdl_grammar.specs.SchemaSpelling.Declares.{no_declaration, then_parameters, then_audit, then_structure}
use Rattle.dasdl_compile.specs.declared.draft.Draft.{Draft}
use Rattle.dasdl_compile.specs.declared.work.Compilation.{Compilation}
use Rattle.dasdl_compile.specs.Answers.{steps}
use Rattle.dasdl_compile.specs.Compile.{declared_at, nothing_yet, shape_in}
use Rattle.dasdl_compile.specs.Conditions.{verify_tree}
use Rattle.dasdl_compile.specs.Finding.{new_draft, next_structure, is_taken, data_set_named}
use Rattle.dasdl_compile.specs.Members.{with_item, with_group, initial_of, item_at, group_at, link_to, link_kind, link_at, end_at, member_at}
use Rattle.dasdl_compile.specs.Outlines.{data_set_kind}
use Rattle.dasdl_compile.specs.Sets.{set_draft}
use Rattle.dasdl_laws.proofs.Judging.{bind_ok, skip_ok, ok_same}
use Rattle.dasdl_laws.proofs.Keys.{total_push}
use Rattle.dasdl_laws.proofs.Members.{link_found}
use Rattle.dasdl_laws.proofs.Turns.{DraftTurn, Inside, turn_of}
use Rattle.dasdl_laws.proofs.Turns.DraftTurn.{inside, data_set, a_set as set_added}
use Rattle.dasdl_laws.proofs.Turns.Inside.{untouched, changed}
use Rattle.dasdl_laws.proofs.Written.{IsWrittenItem, item_written, group_written}

-- ---- an item that is declared as one is no link

abbrev IsPlainItem : ItemDecl → Type 0
IsPlainItem i = is_link i.kind ≡ false

abbrev IsPlainDeclaration : Declaration → Type 0
IsPlainDeclaration (Item i) = IsPlainItem i
IsPlainDeclaration (Group g) = AllByRecursion IsPlainItem g.items
IsPlainDeclaration (DataSet s) = Unit {0}
IsPlainDeclaration (SetOf s) = Unit {0}
IsPlainDeclaration (Link l) = Unit {0}
IsPlainDeclaration (End e) = Unit {0}

plain_items : (is : List ItemDecl) → AllByRecursion IsWrittenItem is → AllByRecursion IsPlainItem is
plain_items [] h = tt
plain_items (i ∷ is) h = (h.0.plain, plain_items is h.1)

both_plain : (ds es : List Declaration) → AllByRecursion IsPlainDeclaration ds → AllByRecursion IsPlainDeclaration es → AllByRecursion IsPlainDeclaration (ds ++ es)
both_plain [] es h k = k
both_plain (d ∷ ds) es h k = (h.0, both_plain ds es h.1 k)

members_plain : (k : Many) (depth n : ℕ) (ds : List Declaration) (us : List Lexeme) → Members k depth n ds us → AllByRecursion IsPlainDeclaration ds
members_plain _ _ _ _ _ (a_set depth l name s vs deep e named z) = (tt, tt)
members_plain _ _ _ _ _ (a_data_set depth l name head hs n ds us end es deep e named z members low y) = (tt, both_plain ds (End end ∷ []) (members_plain _ (suc depth) n ds us members) (tt, tt))
members_plain _ _ _ _ _ (an_item depth l name i vs e named z) = ((item_written l.place name i _ z named).plain, tt)
members_plain _ _ _ _ _ (a_link depth l name i vs e named z) = (tt, tt)
members_plain _ _ _ _ _ (a_group depth l name items vs e named z) = (plain_items items (group_written items vs z).0, tt)
members_plain _ _ _ _ _ (a_first depth n ds us m) = members_plain _ depth n ds us m
members_plain _ _ _ _ _ (a_further depth n m ds es us vs x y) = both_plain ds es (members_plain _ depth n ds us x) (members_plain _ depth m es vs y)

all_plain : (p : Parameters) (b a : Bool) (ds : List Declaration) (us : List Lexeme) → Declares p b a ds us → AllByRecursion IsPlainDeclaration ds
all_plain _ _ _ _ _ no_declaration = tt
all_plain _ _ _ _ _ (then_parameters p a ds us said vs d q) = all_plain p false a ds us d
all_plain _ _ _ _ _ (then_audit p b ds us said vs d q) = all_plain p b false ds us d
all_plain _ _ _ _ _ (then_structure p b a ds us es vs d m) = both_plain ds es (all_plain p b a ds us d) (members_plain _ _ _ es vs m)

-- ---- counted links

abbrev one : Member → ℕ
one i = counted_one i.kind

abbrev links : Draft → ℕ
links d = total one d.items

not_counted : (k : ItemKind) → is_link k ≡ false → counted_one k ≡ 0
not_counted (LinkTo target counted) h = absurd (cc)
not_counted (Alpha n) h = refl
not_counted (Decimal n m s) h = refl
not_counted OneBit h = refl
not_counted (Field n) h = refl

link_counted : (target : ℕ) (b : Bool) → counted_one (LinkTo target b) ≡ one_if b
link_counted target true = refl
link_counted target false = refl

item_counts : (o : List Draft) (d t : Draft) (i : ItemDecl) → IsPlainItem i → item_at o d i ≡ Ok t → links t ≡ links d
unfolding item_at
item_counts o d t i p h =
    let a = skip_ok (is_taken i.name d) _ _ _ h in
    let b = bind_ok {A = Value} {B = Draft} (initial_of i) _ t a.1 in
    let m : Member = record { name = i.name; kind = i.kind; required = i.required; initial = b.0 } in
    let n = not_counted i.kind p in
    let sum : links (with_item d m) ≡ links d + one m = total_push one d.items m in
    let e = ap links (sym (ok_same _ t b.2)) in
    omega (arith, e, sum, n)

items_count : (o : List Draft) (is : List ItemDecl) (d t : Draft) → AllByRecursion IsPlainItem is → steps item_at o d is ≡ Ok t → links t ≡ links d
unfolding steps
items_count o [] d t p h = ap links (sym (ok_same d t h))
items_count o (i ∷ is) d t p h =
    let a = bind_ok {A = Draft} {B = Draft} (item_at o d i) _ t h in
    items_count o is a.0 t p.1 a.2 ∙ item_counts o d a.0 i p.0 a.1

group_counts : (o : List Draft) (d t : Draft) (g : GroupDecl) → AllByRecursion IsPlainItem g.items → group_at o d g ≡ Ok t → links t ≡ links d
unfolding group_at
group_counts o d t g p h =
    let a = skip_ok (is_taken g.name d) _ _ _ h in
    items_count o g.items (with_group d g) t p a.1

link_counts : (o : List Draft) (d t : Draft) (l : LinkDecl) → link_at o d l ≡ Ok t → links t ≡ links d + one_if l.counted
unfolding link_at link_kind
link_counts o d t l h =
    let a = skip_ok (is_taken l.name d) _ _ _ h in
    let b = bind_ok {A = ItemKind} {B = Draft} (link_to l (data_set_named l.target o)) _ t a.1 in
    let f = link_found o l (data_set_named l.target o) b.0 refl b.1 in
    let n : counted_one b.0 ≡ one_if l.counted = ap counted_one f.3 ∙ link_counted f.0.number l.counted in
    ap links (sym (ok_same _ t b.2)) ∙ total_push one d.items _ ∙ ap (λ (k : ℕ). links d + k) n

end_counts : (d t : Draft) (e : DataSetEnd) → end_at d e ≡ Ok t → links t ≡ links d
unfolding end_at
end_counts d t e h =
    let a = bind_ok (verify_tree d.items e.verify) _ _ h in
    let b = skip_ok _ _ _ _ a.2 in
    ap links (sym (ok_same _ t b.1))

member_counts : (o : List Draft) (decl : Declaration) (d t : Draft) → IsPlainDeclaration decl → member_at o decl d ≡ Ok t → links t ≡ links d + counted_of decl
unfolding member_at
member_counts o (Item i) d t p h = let e = item_counts o d t i p h in omega (arith, e)
member_counts o (Group g) d t p h = let e = group_counts o d t g p h in omega (arith, e)
member_counts o (Link l) d t p h = link_counts o d t l h
member_counts o (End x) d t p h = let e = end_counts d t x h in omega (arith, e)
member_counts o (DataSet s) d t p h = let e = ap links (sym (ok_same d t h)) in omega (arith, e)
member_counts o (SetOf s) d t p h = let e = ap links (sym (ok_same d t h)) in omega (arith, e)

total_set : (ds : List Draft) (k : ℕ) (d t : Draft) (n : ℕ) → slice_get ds k ≡ Some d → links t ≡ links d + n → total links (set ds k t) ≡ total links ds + n
total_set [] k d t n at e = absurd (cc)
total_set (x ∷ xs) zero d t n at e =
    let same : x ≡ d = cc in
    let l = ap links same in
    omega (arith, e, l)
total_set (x ∷ xs) (suc k) d t n at e = let r = total_set xs k d t n at e in omega (arith, r)

-- nothing counts outside of all data sets
abbrev CountsDrafts : Compilation → Compilation → ℕ → Type 0
CountsDrafts w v n = total links v.made ≤ total links w.made + n

inside_counts : (o : List Draft) (decl : Declaration) (w v : Compilation) → IsPlainDeclaration decl → Inside o decl w v → CountsDrafts w v (counted_of decl)
inside_counts o decl w v p (untouched none e) = let s = ap (λ (x : Compilation). total links x.made) e in omega (arith, s)
inside_counts o decl w v p (changed d t at h e) =
    let s = ap (λ (x : Compilation). total links x.made) e in
    let r = total_set w.made (w.within - 1) d t (counted_of decl) at (member_counts o decl d t p h) in
    omega (arith, s, r)

turn_counts : (o : List Draft) (w v : Compilation) (decl : Declaration) → IsPlainDeclaration decl → DraftTurn o w v decl → CountsDrafts w v (counted_of decl)
turn_counts o w v _ p (inside decl none i) = inside_counts o decl w v p i
turn_counts o w v _ p (data_set s new placed once e) =
    let a = ap (λ (x : Compilation). total links x.made) e in
    let b = total_push links w.made (new_draft (next_structure w.made) (data_set_kind s.restart) s.name w.within) in
    omega (arith, a, b)
turn_counts o w v _ p (set_added s d q new of placed read key e) =
    let a = ap (λ (x : Compilation). total links x.made) e in
    let b = total_push links w.made (set_draft w s d q) in
    omega (arith, a, b)

steps_count : (o : List Draft) (ds : List Declaration) (w v : Compilation) → AllByRecursion IsPlainDeclaration ds → steps declared_at o w ds ≡ Ok v → CountsDrafts w v (counted_in ds)
unfolding steps
steps_count o [] w v p h = let e = ap (λ (x : Compilation). total links x.made) (ok_same w v h) in omega (arith, e)
steps_count o (d ∷ ds) w v p h =
    let a = bind_ok {A = Compilation} {B = Compilation} (declared_at o w d) _ v h in
    let x = turn_counts o w a.0 d p.0 (turn_of o w a.0 d a.1) in
    let y = steps_count o ds a.0 v p.1 a.2 in
    omega (arith, x, y)

shapes_count : (ds : List Draft) → total counted_shape (map shape_in ds) ≡ total links ds
shapes_count [] = refl
shapes_count (d ∷ ds) = ap (λ (n : ℕ). links d + n) (shapes_count ds)

pub few_counted : (p : Parameters) (b a : Bool) (ds : List Declaration) (us : List Lexeme) → Declares p b a ds us → (o : List Draft) (w : Compilation) → counted_in ds ≤ 4000 → steps declared_at o nothing_yet ds ≡ Ok w → total counted_shape (map shape_in w.made) ≤ 4000
few_counted p b a ds us d o w few h =
    let x = steps_count o ds nothing_yet w (all_plain p b a ds us d) h in
    let y = shapes_count w.made in
    omega (arith, x, y, few)
