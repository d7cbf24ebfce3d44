use Rattle.std.proofs.Common.{ℕ, ◌≡◌, ◌∙◌, sym, ap, List, length, Option, None, Some, slice_get, get_or, is_some, ltb, refl, IfSome, Bor, Bool}
use Rattle.std.proofs.lemmas.Option.{slice_get_past, slice_get_read}
use Rattle.std.proofs.lemmas.Bool.{ltb-true, ltb-false}
use Rattle.std.specs.Map.{lookup}
use Rattle.std.specs.Str.{bytes_eq}
use Rattle.std.specs.Option.{option_copied}
use Rattle.dms_base.proofs.NameTests.{Name-eq-Decides}
use Rattle.dasdl_compile.specs.declared.draft.Draft.{Draft}
use Rattle.dasdl_compile.specs.Finding.{data_set_named}
use Rattle.dasdl_compile.specs.Tables.{names_of, note_of}
use Rattle.dasdl_compile.proofs.Titles.{same_test, chosen, names_found}
use Rattle.dasdl_compile.proofs.drafts.Drafts.data_set_named.Goals as goal

read : (ds : List Draft) (at : ℕ) (r : Option (Bor Draft)) → is_some r ≡ ltb at (length ds) → IfSome r (λ x. x.now ≡ get_or ds at x.now) → option_copied r ≡ slice_get ds at
read ds at None found is = sym (slice_get_past ds at (ltb-false at (length ds) (sym found)))
read ds at (Some d) found is = sym (slice_get_read ds (length ds) at d.now refl (ltb-true at (length ds) (sym found)) is)

answered : (test : List ℕ → List ℕ → Bool) → test ≡ bytes_eq → (n : List ℕ) (ds now : List Draft) (es : List (List ℕ × Option ℕ)) (o : Option (Option ℕ)) → es ≡ names_of ds → o ≡ lookup (test n) es → ds ≡ now → chosen ds o None ≡ data_set_named n now
answered test same n ds now es o is found view =
    ap (λ (p : Option (Option ℕ)). chosen ds p None) (found ∙ ap (λ (t : List ℕ → List ℕ → Bool). lookup (t n) es) same ∙ ap (λ (l : List (List ℕ × Option ℕ)). note_of n l) is)
    ∙ names_found n ds
    ∙ ap (λ (l : List Draft). data_set_named n l) view

pub returns-in-Some-Some : goal.returns-in-Some-Some
returns-in-Some-Some c =
    let at = c.in-Some-Some.at in
    read c.as_slice.result.now at c.get-in-Some-Some.result c.get-in-Some-Some.ensures.lookup.0 c.get-in-Some-Some.ensures.lookup.1
    ∙ ap (λ (ds : List Draft). slice_get ds at) c.as_slice.ensures.value
    ∙ answered _ (same_test _ Name-eq-Decides) c.args.name.now c.self.inside.kept.items c.args.self.now c.self.inside.names.entries (Some (Some at)) c.self.invariant
    (ap (λ (o : Option ℕ). Some o) (sym c.in-Some-Some.field-0-is) ∙ c.in-Some-Some.ensures.value) c.self.view_is

pub returns-in-Some-None : goal.returns-in-Some-None
returns-in-Some-None c =
    answered _ (same_test _ Name-eq-Decides) c.args.name.now c.self.inside.kept.items c.args.self.now c.self.inside.names.entries (Some None) c.self.invariant
    (ap (λ (o : Option ℕ). Some o) (sym c.in-Some-None.field-0-is) ∙ c.in-Some-None.ensures.value) c.self.view_is

pub returns-in-None : goal.returns-in-None
returns-in-None c =
    answered _ (same_test _ Name-eq-Decides) c.args.name.now c.self.inside.kept.items c.args.self.now c.self.inside.names.entries None c.self.invariant c.in-None.ensures.value c.self.view_is
