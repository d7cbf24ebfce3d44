use Rattle.std.proofs.Common.{[], refl}
use Rattle.dms_opening.specs.declared.asked.Asked.TheVariants.{HaltLoad}
use Rattle.dms_restore.proofs.Results.{one_if_ok, two_if_ok, three_if_ok, one_if_err}
use Rattle.dms_opening.proofs.Carries.{writes_by}
use Rattle.dms_opening.proofs.Opens.{opens_at, runs_at, is_planned, whole_at, since}
use Rattle.dms_opening.proofs.Growths.{grows_by}
use Rattle.dms_opening.proofs.Looks.{same_none}
use Rattle.dms_opening.proofs.looking.PlannedOpening.open.Goals as goal

pub returns-clause-opens : goal.returns-clause-opens
returns-clause-opens g c = two_if_ok c.carry_out.result c.carry_out.ensures.kind c.carry_out.ensures.plan (λ o kind plan tells l.
    opens_at _ c.args.self o kind.0 kind.2 plan.0 plan.1 plan.2 plan.3 l.trail l.plans c.requires.named)

pub returns-clause-runs : goal.returns-clause-runs
returns-clause-runs g c = three_if_ok c.carry_out.result c.carry_out.ensures.kind c.carry_out.ensures.plan c.carry_out.ensures.runs (λ o kind plan runs tells l whole.
    runs_at _ c.args.self o kind.0 kind.2 plan.0 plan.1 plan.2 plan.3 _ _ refl (runs tells refl (is_planned g.S.Site c.args.self.log.site c.args.self refl l.starts l.plans) (whole_at g.S.Site c.args.self.log.site c.args.self refl _ _ kind.0 kind.2 whole)))

pub returns-clause-moments : goal.returns-clause-moments
returns-clause-moments g c = one_if_ok c.carry_out.result c.carry_out.ensures.moments (λ o run tells l.
    since g.S.Site c.args.self.log.site c.args.self refl g.met.S.Site.counts_now (same_none _) refl l.trail o.log.site (run tells refl (is_planned g.S.Site c.args.self.log.site c.args.self refl l.starts l.plans)))

pub returns-clause-stopped : goal.returns-clause-stopped
returns-clause-stopped g c = one_if_err c.carry_out.result c.carry_out.ensures.stopped (λ e run tells l.
    since g.S.Site c.args.self.log.site c.args.self refl g.met.S.Site.counts_now (same_none _) refl l.trail e.1 (run tells refl (is_planned g.S.Site c.args.self.log.site c.args.self refl l.starts l.plans)))

pub returns-clause-only : goal.returns-clause-only
returns-clause-only g c = one_if_err c.carry_out.result c.carry_out.ensures.only (λ e only tells l. only _ tells (writes_by _ HaltLoad [] _ (is_planned g.S.Site c.args.self.log.site c.args.self refl l.starts l.plans)))

pub returns-clause-full : goal.returns-clause-full
returns-clause-full g c = one_if_err c.carry_out.result c.carry_out.ensures.full (λ e full tells l is. record {
  total = c.args.self.log.end.total;
  first = c.args.self.log.first;
  trail = l.trail;
  full = full _ tells (writes_by _ HaltLoad [] _ (is_planned g.S.Site c.args.self.log.site c.args.self refl l.starts l.plans)) is;
})

pub returns-clause-grows : goal.returns-clause-grows
returns-clause-grows g c = one_if_ok c.carry_out.result c.carry_out.ensures.grown (λ o grown tells l.
    let p = c.args.self in
    grows_by g.S.Site p.log.site p refl (same_none _) l.trail l.starts o.log.site o.log.end o.log.first (grown _ tells (writes_by _ HaltLoad [] _ (is_planned g.S.Site p.log.site p refl l.starts l.plans))))

pub returns-clause-grows_then : goal.returns-clause-grows_then
returns-clause-grows_then g c = one_if_err c.carry_out.result c.carry_out.ensures.grown_then (λ e grown tells l.
    let p = c.args.self in
    grows_by g.S.Site p.log.site p refl (same_none _) l.trail l.starts e.1 p.log.end p.log.first (grown _ tells (writes_by _ HaltLoad [] _ (is_planned g.S.Site p.log.site p refl l.starts l.plans))))
