use Rattle.std.proofs.Common.{ℕ, ◌-◌, ◌<◌, ◌≤◌, List, get_or, length, sym, ◌∙◌, ap, subst}
use Rattle.std.proofs.lemmas.List.{length-map}
use Rattle.dms_desc.specs.Shape.{as_described, shape_of}
use Rattle.dms_opening.proofs.Trims.{named_cut}
use Rattle.dms_opening.proofs.plan.OpeningPlan.cut_counts.Goals as goal

pub returns-clause-named : goal.returns-clause-named
returns-clause-named c =
    let found = rw c.in-Ok-Some.field-0-is at c.in-Ok-Some.ensures in
    let used = c.used_counts-used.result in
    let value = c.deref-2.ensures.value in
    named_cut (as_described c.in-Ok-Some.desc) (length c.as_slice.result.now) c.max.result used c.args.self.now.schema.items c.args.self.now.counts.items _ c.spelling_law.ensures found.0 (found.1 ∙ c.deref.ensures.value)
    (ap (λ l. length l) c.as_slice.ensures ∙ sym (length-map c.in-Ok-Some.desc.structures shape_of)) c.requires.size
    (subst (λ (l : List ℕ). used ≤ length l) value c.used_counts-used.ensures.within) (λ some. subst (λ (l : List ℕ). 0 < get_or l (used - 1) 0) value (c.used_counts-used.ensures.last some)) c.max.ensures c.truncate.ensures.items
