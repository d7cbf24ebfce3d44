use Rattle.std.proofs.Common.{◌≢◌, ◌∙◌, ap, inl, inr, arith}
use Rattle.dms_site.specs.Files.{Files}
use Rattle.dms_site.specs.Laws.{with_file_other}
use Rattle.dms_creation.proofs.Cleared.{cut_absent}
use Rattle.dms_creation.proofs.clearing.clear_last.Goals as goal

pub returns-in_ok-cut-clause-absent : goal.returns-in_ok-cut-clause-absent
returns-in_ok-cut-clause-absent g c tells = cut_absent _ _ _ c.args.low c.args.high c.in_ok-last.last (c.in_ok-last.ensures.found tells) (c.in_ok-last.ensures.files tells) (c.in_ok-cut.ensures.cut tells)

pub returns-in_ok-cut-clause-others : goal.returns-in_ok-cut-clause-others
returns-in_ok-cut-clause-others g c tells h out =
    let bound = c.in_ok-last.ensures.bound c.if-last-gt0.true in
    let other : h ≢ c.in_ok-last.last = elim out [ inl before ↦ omega (arith, before, bound.0) | inr behind ↦ omega (arith, behind, bound.1) ] in
    ap (λ (l : Files). l h) (c.in_ok-cut.ensures.cut tells) ∙ with_file_other _ c.in_ok-last.last _ h other ∙ ap (λ (l : Files). l h) (c.in_ok-last.ensures.files tells)
