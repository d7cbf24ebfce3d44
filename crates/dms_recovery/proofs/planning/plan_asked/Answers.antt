use Rattle.dms_restore.proofs.Results.{one_if_ok, one_if_err}
use Rattle.dms_opening.proofs.Faults.{plain_audit}
use Rattle.dms_recovery.proofs.Found.{found_both, all_back, plain_all, refused_back}
use Rattle.dms_recovery.proofs.planning.plan_asked.Goals as goal

pub returns-in-Err-clause-refused : goal.returns-in-Err-clause-refused
returns-in-Err-clause-refused g c tells total r = plain_all total c.args.first _ c.args.asked _ (plain_audit c.in-Err.fault c.in-Err.ensures.only)

pub returns-in-Err-find_asked-clause-refused : goal.returns-in-Err-find_asked-clause-refused
returns-in-Err-find_asked-clause-refused g c tells total r = plain_all total c.args.first _ c.args.asked _ (plain_audit c.in-Err-find_asked.fault c.in-Err-find_asked.ensures.only)

pub returns-clause-plans : goal.returns-clause-plans
returns-clause-plans g c = one_if_ok c.plan_found-planned.result c.plan_found-planned.ensures.plans (λ p plans tells total r.
    let same = c.find_begun.ensures.reads.files_stay tells in
    let still = c.find_asked.ensures.reads.files_stay tells in
    all_back total c.args.first _ _ _ c.args.asked c.args.rows.now _ _ same still
    (plans tells total (found_both total c.args.tag c.args.first _ _ _ c.args.places.now c.args.trace c.args.asked c.in-Ok.begun c.in-Ok-find_asked.look same still r (c.in-Ok.ensures.found tells) (c.in-Ok-find_asked.ensures.found tells))))

pub returns-clause-refused : goal.returns-clause-refused
returns-clause-refused g c = one_if_err c.plan_found-planned.result c.plan_found-planned.ensures.refused (λ e why tells total r.
    let same = c.find_begun.ensures.reads.files_stay tells in
    let still = c.find_asked.ensures.reads.files_stay tells in
    refused_back total c.args.first _ _ _ c.args.asked _ same still
    (why tells total (found_both total c.args.tag c.args.first _ _ _ c.args.places.now c.args.trace c.args.asked c.in-Ok.begun c.in-Ok-find_asked.look same still r (c.in-Ok.ensures.found tells) (c.in-Ok-find_asked.ensures.found tells))))
