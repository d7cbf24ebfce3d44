-- The restart data set stands in no other.
use Rattle.std.proofs.Common.{◌≡◌, List, [], ◌∷◌, ◌++◌, map, Bool, true, false, cond, refl, sym, subst}
use Rattle.std.proofs.lemmas.List.{map-append}
use Rattle.std.specs.Prelude.{◌&&◌, ◌||◌, ◌==◌, not, is_some}
use Rattle.std.specs.List.{list_all, AllByRecursion}
use Rattle.std.specs.declared.result.Result.TheVariants.{Ok}
use Rattle.std.proofs.lemmas.Bool.{and_from}
use Rattle.dms_base.specs.declared.kind.StructureKind.TheVariants.{Set, AutomaticSubset, ManualSubset}
use Rattle.dms_desc.specs.Shape.{kind_number}
use Rattle.dms_desc_bytes.specs.WellFormed.{is_placed}
use Rattle.dasdl_parse.specs.declared.declarations.Declaration.{Declaration}
use Rattle.dasdl_parse.specs.declared.declarations.DataSetDecl.{DataSetDecl}
use Rattle.dasdl_compile.specs.declared.draft.Draft.{Draft}
use Rattle.dasdl_compile.specs.declared.work.Compilation.{Compilation}
use Rattle.dasdl_compile.specs.Answers.{steps}
use Rattle.dasdl_compile.specs.Compile.{is_misplaced, declared_at, nothing_yet, shape_in}
use Rattle.dasdl_compile.specs.Finding.{new_draft, next_structure, kind_of}
use Rattle.dasdl_compile.specs.Outlines.{data_set_kind}
use Rattle.dasdl_compile.specs.Sets.{set_draft}
use Rattle.dasdl_laws.proofs.Judging.{steps_keep}
use Rattle.dasdl_laws.proofs.Turns.{outer, DraftTurn, turn_of, inside_kept}
use Rattle.dasdl_laws.proofs.Turns.DraftTurn.{inside, data_set, a_set}

abbrev IsPlacedDraft : Draft → Type 0
IsPlacedDraft d = (not (kind_number d.kind == 2) || d.owner == 0) ≡ true

placed_push : (ds : List Draft) (d : Draft) → AllByRecursion IsPlacedDraft ds → IsPlacedDraft d → AllByRecursion IsPlacedDraft (ds ++ d ∷ [])
placed_push [] d h k = (k, tt)
placed_push (x ∷ xs) d h k = (h.0, placed_push xs d h.1 k)

head_placed : (b c e : Bool) → ((b && not c) || e) ≡ false → (not (kind_number (data_set_kind b) == 2) || c) ≡ true
head_placed true true e h = refl
head_placed true false e h = absurd (cc)
head_placed false c e h = refl

data_set_placed : (s : DataSetDecl) (w : Compilation) → is_misplaced s w ≡ false → IsPlacedDraft (new_draft (next_structure w.made) (data_set_kind s.restart) s.name w.within)
unfolding is_misplaced
data_set_placed s w h = head_placed s.restart (w.within == 0) (kind_of w.within w.made == 2) h

set_placed : (a b c : Bool) → (not (kind_number (cond (not a) Set (cond b AutomaticSubset ManualSubset)) == 2) || c) ≡ true
set_placed true true c = refl
set_placed true false c = refl
set_placed false b c = refl

turned : (o : List Draft) (w v : Compilation) (decl : Declaration) → DraftTurn o w v decl → AllByRecursion IsPlacedDraft (map outer w.made) → AllByRecursion IsPlacedDraft (map outer v.made)
turned o w v _ (inside decl none i) h = subst (AllByRecursion IsPlacedDraft) (sym (inside_kept o decl w v i)) h
turned o w v _ (data_set s new placed once e) h =
    let d = new_draft (next_structure w.made) (data_set_kind s.restart) s.name w.within in
    subst (λ (x : Compilation). AllByRecursion IsPlacedDraft (map outer x.made)) (sym e)
    (subst (AllByRecursion IsPlacedDraft) (sym (map-append outer w.made (d ∷ []))) (placed_push (map outer w.made) (outer d) h (data_set_placed s w placed)))
turned o w v _ (a_set s d p new of placed read key e) h =
    let t = set_draft w s d p in
    subst (λ (x : Compilation). AllByRecursion IsPlacedDraft (map outer x.made)) (sym e)
    (subst (AllByRecursion IsPlacedDraft) (sym (map-append outer w.made (t ∷ []))) (placed_push (map outer w.made) (outer t) h (set_placed s.subset (is_some s.cond) (w.within == 0))))

all_of : (ds : List Draft) → AllByRecursion IsPlacedDraft (map outer ds) → list_all is_placed (map shape_in ds) ≡ true
all_of [] h = refl
all_of (d ∷ ds) h = and_from _ _ h.0 (all_of ds h.1)

pub all_placed : (o : List Draft) (decls : List Declaration) (w : Compilation) → steps declared_at o nothing_yet decls ≡ Ok w → list_all is_placed (map shape_in w.made) ≡ true
all_placed o decls w h =
    all_of w.made (steps_keep (λ (x : Compilation). AllByRecursion IsPlacedDraft (map outer x.made)) declared_at o (λ s t d p e. turned o s t d (turn_of o s t d e) p) nothing_yet decls w tt h)
