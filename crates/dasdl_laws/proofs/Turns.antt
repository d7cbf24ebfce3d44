-- What one declaration does to the structures that were declared before it.
use Rattle.std.proofs.Common.{◌≡◌, ℕ, zero, suc, ◌-◌, List, [], ◌∷◌, ◌++◌, map, false, refl, sym, ap, ◌∙◌}
use Rattle.std.specs.Prelude.{slice_get, set, ◌&&◌, Some, None}
use Rattle.std.specs.declared.option.Option.{Option}
use Rattle.std.specs.declared.result.Result.TheVariants.{Ok}
use Rattle.dms_desc.specs.Shape.{Empty}
use Rattle.dasdl_parse.specs.declared.declarations.Declaration.{Declaration}
use Rattle.dasdl_parse.specs.declared.declarations.Declaration.TheVariants.{DataSet, Item, Group, Link, SetOf, End}
use Rattle.dasdl_parse.specs.declared.declarations.DataSetDecl.{DataSetDecl}
use Rattle.dasdl_parse.specs.declared.declarations.DataSetEnd.{DataSetEnd}
use Rattle.dasdl_parse.specs.declared.declarations.ItemDecl.{ItemDecl}
use Rattle.dasdl_parse.specs.declared.declarations.GroupDecl.{GroupDecl}
use Rattle.dasdl_parse.specs.declared.declarations.LinkDecl.{LinkDecl}
use Rattle.dasdl_parse.specs.declared.declarations.SetDecl.{SetDecl}
use Rattle.dasdl_grammar.specs.SchemaSpelling.{structures_of}
use Rattle.dasdl_compile.specs.declared.draft.Draft.{Draft}
use Rattle.dasdl_compile.specs.declared.sets.WhereAndKey.{WhereAndKey}
use Rattle.dasdl_compile.specs.declared.work.Compilation.{Compilation}
use Rattle.dasdl_compile.specs.Compile.{is_misplaced as is_data_set_misplaced, data_set_at, inside_in, inside_at, declared_at}
use Rattle.dasdl_compile.specs.Conditions.{verify_tree}
use Rattle.dasdl_compile.specs.Finding.{new_draft, next_structure, is_structure, has_restart, data_set_named, is_taken}
use Rattle.dasdl_compile.specs.Members.{with_group, initial_of, item_at, group_at, link_kind, link_at, end_at, member_at, open_after}
use Rattle.dasdl_compile.specs.Outlines.{data_set_kind}
use Rattle.dasdl_compile.specs.Sets.{is_misplaced, options_at, lacks_key, set_draft, set_over, set_in, set_at}
use Rattle.dasdl_laws.proofs.Judging.{bind_ok, skip_ok, ok_same, steps_keep}

-- a structure without what its members and its end say
abbrev pub outer : Draft → Draft
outer d = record { number = d.number; kind = d.kind; name = d.name; owner = d.owner; population = 0; items = []; groups = []; cond = Empty; set = d.set; form = d.form; duplicates = d.duplicates; parts = d.parts }

item_kept : (o : List Draft) (d t : Draft) (i : ItemDecl) → item_at o d i ≡ Ok t → outer t ≡ outer d
unfolding item_at
item_kept o d t i h =
    let a = skip_ok (is_taken i.name d) _ _ _ h in
    let b = bind_ok (initial_of i) _ _ a.1 in
    ap outer (sym (ok_same _ t b.2))

group_kept : (o : List Draft) (d t : Draft) (g : GroupDecl) → group_at o d g ≡ Ok t → outer t ≡ outer d
unfolding group_at
group_kept o d t g h =
    let a = skip_ok (is_taken g.name d) _ _ _ h in
    steps_keep (λ (x : Draft). outer x ≡ outer d) item_at o (λ s u x p e. item_kept o s u x e ∙ p) (with_group d g) g.items t refl a.1

link_kept : (o : List Draft) (d t : Draft) (l : LinkDecl) → link_at o d l ≡ Ok t → outer t ≡ outer d
unfolding link_at
link_kept o d t l h =
    let a = skip_ok (is_taken l.name d) _ _ _ h in
    let b = bind_ok (link_kind o l) _ _ a.1 in
    ap outer (sym (ok_same _ t b.2))

end_kept : (d t : Draft) (e : DataSetEnd) → end_at d e ≡ Ok t → outer t ≡ outer d
unfolding end_at
end_kept d t e h =
    let a = bind_ok (verify_tree d.items e.verify) _ _ h in
    let b = skip_ok _ _ _ _ a.2 in
    ap outer (sym (ok_same _ t b.1))

pub member_kept : (o : List Draft) (decl : Declaration) (d t : Draft) → member_at o decl d ≡ Ok t → outer t ≡ outer d
unfolding member_at
member_kept o (Item i) d t h = item_kept o d t i h
member_kept o (Group g) d t h = group_kept o d t g h
member_kept o (Link l) d t h = link_kept o d t l h
member_kept o (End e) d t h = end_kept d t e h
member_kept o (DataSet s) d t h = ap outer (sym (ok_same d t h))
member_kept o (SetOf s) d t h = ap outer (sym (ok_same d t h))

-- what a member does in the data set that is open
pub data Inside (o : List Draft) (decl : Declaration) (w v : Compilation) : Type 0 where
  untouched : slice_get w.made (w.within - 1) ≡ None → v ≡ w → Inside o decl w v
  changed : (d t : Draft) → slice_get w.made (w.within - 1) ≡ Some d → member_at o decl d ≡ Ok t → v ≡ record { made = set w.made (w.within - 1) t; within = open_after decl d.owner w.within } → Inside o decl w v

inside_by : (o : List Draft) (decl : Declaration) (w v : Compilation) (r : Option Draft) → slice_get w.made (w.within - 1) ≡ r → inside_in o decl w r ≡ Ok v → Inside o decl w v
inside_by o decl w v None e h = untouched e (sym (ok_same w v h))
inside_by o decl w v (Some d) e h =
    let a = bind_ok (member_at o decl d) _ _ h in
    changed d a.0 e a.1 (sym (ok_same _ v a.2))

-- a declaration adds a structure, or says something of the data set that is open
pub data DraftTurn (o : List Draft) (w v : Compilation) : Declaration → Type 0 where
  inside : (decl : Declaration) → structures_of decl ≡ 0 → Inside o decl w v → DraftTurn o w v decl
  data_set : (s : DataSetDecl) → is_structure s.name w.made ≡ false → is_data_set_misplaced s w ≡ false → s.restart && has_restart w.made ≡ false → v ≡ record { made = w.made ++ new_draft (next_structure w.made) (data_set_kind s.restart) s.name w.within ∷ []; within = next_structure w.made } → DraftTurn o w v (DataSet s)
  a_set : (s : SetDecl) (d : Draft) (p : WhereAndKey) → is_structure s.name w.made ≡ false → data_set_named s.of o ≡ Some d → is_misplaced w s d ≡ false → options_at d s ≡ Ok p → lacks_key s ≡ false → v ≡ record { made = w.made ++ set_draft w s d p ∷ []; within = w.within } → DraftTurn o w v (SetOf s)

inside_turn : (o : List Draft) (decl : Declaration) (w v : Compilation) → structures_of decl ≡ 0 → inside_at o decl w ≡ Ok v → DraftTurn o w v decl
unfolding inside_at
inside_turn o decl w v none h = inside decl none (inside_by o decl w v _ refl h)

data_set_turn : (o : List Draft) (s : DataSetDecl) (w v : Compilation) → data_set_at s w ≡ Ok v → DraftTurn o w v (DataSet s)
unfolding data_set_at
data_set_turn o s w v h =
    let a = skip_ok (is_structure s.name w.made) _ _ _ h in
    let b = skip_ok (is_data_set_misplaced s w) _ _ _ a.1 in
    let c = skip_ok (s.restart && has_restart w.made) _ _ _ b.1 in
    data_set s a.0 b.0 c.0 (sym (ok_same _ v c.1))

set_over_turn : (o : List Draft) (s : SetDecl) (d : Draft) (w v : Compilation) → is_structure s.name w.made ≡ false → data_set_named s.of o ≡ Some d → set_over s d w ≡ Ok v → DraftTurn o w v (SetOf s)
unfolding set_over
set_over_turn o s d w v new e h =
    let b = skip_ok (is_misplaced w s d) _ _ _ h in
    let c = bind_ok (options_at d s) _ _ b.1 in
    let k = skip_ok (lacks_key s) _ _ _ c.2 in
    a_set s d c.0 new e b.0 c.1 k.0 (sym (ok_same _ v k.1))

set_in_turn : (o : List Draft) (s : SetDecl) (w v : Compilation) (r : Option Draft) → is_structure s.name w.made ≡ false → data_set_named s.of o ≡ r → set_in s w r ≡ Ok v → DraftTurn o w v (SetOf s)
set_in_turn o s w v None new e h = absurd (cc)
set_in_turn o s w v (Some d) new e h = set_over_turn o s d w v new e h

set_turn : (o : List Draft) (s : SetDecl) (w v : Compilation) → set_at o s w ≡ Ok v → DraftTurn o w v (SetOf s)
unfolding set_at
set_turn o s w v h =
    let a = skip_ok (is_structure s.name w.made) _ _ _ h in
    set_in_turn o s w v _ a.0 refl a.1

pub turn_of : (o : List Draft) (w v : Compilation) (decl : Declaration) → declared_at o w decl ≡ Ok v → DraftTurn o w v decl
unfolding declared_at
turn_of o w v (DataSet s) h = data_set_turn o s w v h
turn_of o w v (SetOf s) h = set_turn o s w v h
turn_of o w v (Item i) h = inside_turn o (Item i) w v refl h
turn_of o w v (Group g) h = inside_turn o (Group g) w v refl h
turn_of o w v (Link l) h = inside_turn o (Link l) w v refl h
turn_of o w v (End e) h = inside_turn o (End e) w v refl h

pub set_same : {A B : Type 0} (f : A → B) (xs : List A) (k : ℕ) (x y : A) → slice_get xs k ≡ Some x → f y ≡ f x → map f (set xs k y) ≡ map f xs
set_same f [] k x y h e = absurd (cc)
set_same {A} {B} f (z ∷ zs) zero x y h e =
    let same : z ≡ x = cc in
    ap (λ (b : B). b ∷ map f zs) (e ∙ ap f (sym same))
set_same {A} {B} f (z ∷ zs) (suc k) x y h e = ap (λ (bs : List B). f z ∷ bs) (set_same f zs k x y h e)

-- a member leaves what is outside of data sets
pub inside_kept : (o : List Draft) (decl : Declaration) (w v : Compilation) → Inside o decl w v → map outer v.made ≡ map outer w.made
inside_kept o decl w v (untouched none e) = ap (λ (x : Compilation). map outer x.made) e
inside_kept o decl w v (changed d t at h e) =
    ap (λ (x : Compilation). map outer x.made) e ∙ set_same outer w.made (w.within - 1) d t at (member_kept o decl d t h)
