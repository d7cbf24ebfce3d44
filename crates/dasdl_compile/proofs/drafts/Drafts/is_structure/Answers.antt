use Rattle.std.proofs.Common.{ℕ, ◌∙◌, ap, List, Option, is_some, Bool}
use Rattle.std.specs.Map.{lookup}
use Rattle.dms_base.proofs.NameTests.{Name-eq-Decides}
use Rattle.dasdl_compile.specs.declared.draft.Draft.{Draft}
use Rattle.dasdl_compile.specs.Finding.{is_structure}
use Rattle.dasdl_compile.specs.Tables.{note_of}
use Rattle.dasdl_compile.proofs.Titles.{same_test, names_seen}
use Rattle.dasdl_compile.proofs.drafts.Drafts.is_structure.Goals as goal

pub returns : goal.returns
returns c =
    let n = c.args.name.now in
    c.contains_key.ensures
    ∙ ap (λ (test : List ℕ → List ℕ → Bool). is_some (lookup (test n) c.self.inside.names.entries)) (same_test _ Name-eq-Decides)
    ∙ ap (λ (es : List (List ℕ × Option ℕ)). is_some (note_of n es)) c.self.invariant
    ∙ names_seen n c.self.inside.kept.items
    ∙ ap (λ (ds : List Draft). is_structure n ds) c.self.view_is
