use Rattle.std.proofs.Common.{List, sym, subst}
use Rattle.dms_audfile.specs.declared.place.EntryPlace.{EntryPlace}
use Rattle.dms_opening.specs.Plans.{IsTaggedRead}
use Rattle.dms_opening.proofs.Looks.{cut_plans}
use Rattle.dms_opening.proofs.looking.plan_scanned.Goals as goal

pub returns-clause-plans : goal.returns-clause-plans
returns-clause-plans g c tells read =
    let s = c.args.scanned in
    let kept = c.cut_counts.ensures.kept in
    cut_plans _ _ _ _ _ kept.0 kept.1 kept.2 kept.3 c.in-Ok-cut_counts.ensures.same
    (c.in-Ok.ensures.plans tells _ (subst (λ (l : List EntryPlace). IsTaggedRead s.log.end.total s.log.end.tag s.log.first (g.S.Site.files s.log.site) l s.trace) (sym c.deref.ensures.value) read))
