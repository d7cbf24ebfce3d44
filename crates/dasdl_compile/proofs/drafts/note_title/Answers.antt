use Rattle.std.proofs.Common.{ℕ, ◌≡◌, ◌∙◌, ap, List, Option, Bool, nat_lt}
use Rattle.std.specs.Map.{lookup}
use Rattle.std.specs.Str.{bytes_eq}
use Rattle.indexmap.specs.IndexMap.{insert_entry}
use Rattle.dms_base.proofs.NameTests.{Name-eq-Decides}
use Rattle.dms_desc.specs.Shape.{kind_number}
use Rattle.dasdl_compile.specs.Tables.{first_place, with_title}
use Rattle.dasdl_compile.proofs.Titles.{same_test}
use Rattle.dasdl_compile.proofs.drafts.note_title.Goals as goal

put : (test : List ℕ → List ℕ → Bool) → test ≡ bytes_eq → (es new : List (List ℕ × Option ℕ)) (name : List ℕ) (kind at : ℕ) (place : Option ℕ) (o : Option (Option ℕ)) → new ≡ insert_entry test es name place → place ≡ first_place o (nat_lt kind 3) at → o ≡ lookup (test name) es → new ≡ with_title name kind at es
put test same es new name kind at place o made is found =
    made
    ∙ ap (λ (p : Option ℕ). insert_entry test es name p) (is ∙ ap (λ (r : Option (Option ℕ)). first_place r (nat_lt kind 3) at) found)
    ∙ ap (λ (t : List ℕ → List ℕ → Bool). insert_entry t es name (first_place (lookup (t name) es) (nat_lt kind 3) at)) same

pub returns-clause-ok : goal.returns-clause-ok
returns-clause-ok c =
    put _ (same_test _ Name-eq-Decides) c.args.names.now.entries c.insert.new.self.entries c.args.name (kind_number c.args.kind) c.args.at c.first_place-place.result c.copied.result
    c.in_ok-insert.ensures.entries (c.first_place-place.ensures ∙ ap (λ (b : Bool). first_place c.copied.result b c.args.at) c.is_data_set.ensures) (c.copied.ensures ∙ c.get.ensures.value)
