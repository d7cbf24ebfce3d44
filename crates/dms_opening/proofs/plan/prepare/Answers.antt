use Rattle.std.proofs.Common.{◌≡◌, IsTrue, refl, sym, ◌∙◌, subst}
use Rattle.dms_site.specs.Files.{Files}
use Rattle.dms_restore.proofs.Results.{one_if_ok, one_if_err}
use Rattle.dms_opening.proofs.OpeningPlans.{found_now, plan_as, refuses_as, plain_plan}
use Rattle.dms_opening.proofs.Faults.{plain_audit}
use Rattle.dms_opening.specs.declared.asked.Asked.TheVariants.{HaltLoad}
use Rattle.dms_opening.proofs.plan.prepare.Goals as goal

pub returns-in-Err-clause-refused : goal.returns-in-Err-clause-refused
returns-in-Err-clause-refused g c tells total r = plain_plan total c.args.first (g.S.Site.files c.args.site.now) HaltLoad _ (plain_audit c.in-Err.fault c.in-Err.ensures.only)

pub returns-clause-plans : goal.returns-clause-plans
returns-clause-plans g c = one_if_ok c.prepare_asked-planned.result c.prepare_asked-planned.ensures.plans (λ plan plans tells total r.
    let same = c.find_begun.ensures.reads.files_stay tells in
    plan_as total c.args.first _ _ plan same (plans tells total (found_now total c.args.tag c.args.first _ _ c.args.places.now c.args.trace c.in-Ok.begun same r (c.in-Ok.ensures.found tells))))

pub returns-clause-refused : goal.returns-clause-refused
returns-clause-refused g c = one_if_err c.prepare_asked-planned.result c.prepare_asked-planned.ensures.refused (λ e why tells total r.
    let same = c.find_begun.ensures.reads.files_stay tells in
    refuses_as total c.args.first _ _ e same (why tells total (found_now total c.args.tag c.args.first _ _ c.args.places.now c.args.trace c.in-Ok.begun same r (c.in-Ok.ensures.found tells))))
