use Rattle.std.proofs.Common.{ℕ, ◌+◌, ◌≡◌, ◌∙◌, sym, ap, [], List, length, arith, OnOk, Option, Result, false, is_err}
use Rattle.dms_desc.specs.Shape.{kind_number}
use Rattle.dasdl_compile.specs.declared.draft.Draft.{Draft}
use Rattle.dasdl_compile.specs.Tables.{names_of, with_title}
use Rattle.dasdl_compile.proofs.Titles.{titles-push}
use Rattle.dasdl_compile.proofs.drafts.Drafts.push.Goals as goal

done : {A B P : Type 0} (r : Result A B) → false ≡ is_err r → OnOk r P → P
done r h p = grind arith

pub invariant_of-self-else-is_err : goal.invariant_of-self-else-is_err
invariant_of-self-else-is_err c =
    let ds = c.self.inside.kept.items in
    let d = c.args.draft in
    done _ c.if-is_err.ensures.value c.note_title-noted.ensures.ok
    ∙ ap (λ (k : ℕ). with_title d.name (kind_number d.kind) k c.self.inside.names.entries) (omega (arith, c.len-at.ensures, c.self.inside.kept.ok.0))
    ∙ ap (λ (es : List (List ℕ × Option ℕ)). with_title d.name (kind_number d.kind) (0 + length ds) es) c.self.invariant
    ∙ sym (titles-push 0 [] ds d)
    ∙ sym (ap (λ (l : List Draft). names_of l) c.in_ok-push.ensures.items)
