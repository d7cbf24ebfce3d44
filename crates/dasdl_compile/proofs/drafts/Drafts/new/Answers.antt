use Rattle.std.proofs.Common.{◌∙◌, sym, List, ap}
use Rattle.dasdl_compile.specs.declared.draft.Draft.{Draft}
use Rattle.dasdl_compile.specs.Tables.{names_of, with_titles}
use Rattle.dasdl_compile.proofs.drafts.Drafts.new.Goals as goal

pub invariant_of-result : goal.invariant_of-result
unfolding with_titles
invariant_of-result c =
    c.new-2.ensures.empty ∙ sym (ap (λ (ds : List Draft). names_of ds) c.new.ensures.items)
