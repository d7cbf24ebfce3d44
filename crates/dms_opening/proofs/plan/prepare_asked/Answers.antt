use Rattle.std.proofs.Common.{List, refl, sym, subst}
use Rattle.dms_site.specs.Files.{Files}
use Rattle.dms_opening.specs.Starts.{TracesDone}
use Rattle.dms_opening.proofs.OpeningPlans.{chosen_at, refused_for, planned, not_described, not_prepared, point_lives}
use Rattle.dms_opening.proofs.DumpLooks.{fit_for}
use Rattle.dms_opening.proofs.plan.prepare_asked.Goals as goal

pub returns-in-Err-clause-refused : goal.returns-in-Err-clause-refused
returns-in-Err-clause-refused g c tells total r =
    refused_for total c.args.first (g.S.Site.files c.args.site.now) c.args.places.now c.args.trace.now c.args.asked c.args.rows.now c.args.begun.now c.args.look.now r c.look.result c.look-2.result c.in-Err.fault c.look.ensures c.look-2.ensures c.in-Err.ensures.refused

pub returns-in-Err-read_description-clause-refused : goal.returns-in-Err-read_description-clause-refused
returns-in-Err-read_description-clause-refused g c tells total r =
    let files = g.S.Site.files c.args.site.now in
    not_described total c.args.first files c.args.places.now c.args.trace.now c.args.asked c.args.rows.now c.args.begun.now c.args.look.now r c.in-Ok.choice c.in-Err-read_description.fault
    (λ rows. chosen_at total c.args.first files c.args.places.now c.args.trace.now c.args.asked rows c.args.begun.now c.args.look.now r c.look.result c.look-2.result c.in-Ok.choice c.look.ensures c.look-2.ensures c.in-Ok.ensures.chosen)
    (λ lives. c.in-Err-read_description.ensures.only tells total r.read lives)

pub returns-in-Ok-prepare_restore-clause-plans : goal.returns-in-Ok-prepare_restore-clause-plans
returns-in-Ok-prepare_restore-clause-plans g c tells total r =
    let files = g.S.Site.files c.args.site.now in
    let same = c.read_description.ensures.reads.files_stay tells in
    let rows = c.args.rows.now in
    let chooses = chosen_at total c.args.first files c.args.places.now c.args.trace.now c.args.asked rows c.args.begun.now c.args.look.now r c.look.result c.look-2.result c.in-Ok.choice c.look.ensures c.look-2.ensures c.in-Ok.ensures.chosen in
    planned total c.args.first files c.args.places.now c.args.trace.now c.args.asked rows c.args.begun.now c.args.look.now r c.in-Ok.choice c.args.trace.now.history.next c.in-Ok-prepare_restore.table c.in-Ok-prepare_restore.counts.items c.in-Ok-read_description.schema.items c.found_for-found.result.now
    _ refl refl refl refl refl refl chooses c.found_for-found.ensures
    (λ p t new u has. c.in-Ok-prepare_restore.ensures.plan tells p (subst (λ (f : Files). TracesDone f c.args.trace.now.history c.args.asked rows c.in-Ok.choice p) (sym same) t) new u has)
    (λ p t. c.in-Ok-prepare_restore.ensures.counts tells p (subst (λ (f : Files). TracesDone f c.args.trace.now.history c.args.asked rows c.in-Ok.choice p) (sym same) t))
    (λ lives. c.in-Ok-read_description.ensures.bytes tells total r.read lives)

pub returns-in-Err-prepare_restore-clause-refused : goal.returns-in-Err-prepare_restore-clause-refused
returns-in-Err-prepare_restore-clause-refused g c tells total r =
    let files = g.S.Site.files c.args.site.now in
    let same = c.read_description.ensures.reads.files_stay tells in
    let rows = c.args.rows.now in
    let chooses = chosen_at total c.args.first files c.args.places.now c.args.trace.now c.args.asked rows c.args.begun.now c.args.look.now r c.look.result c.look-2.result c.in-Ok.choice c.look.ensures c.look-2.ensures c.in-Ok.ensures.chosen in
    not_prepared total c.args.first files c.args.places.now c.args.trace.now c.args.asked rows c.args.begun.now c.args.look.now r c.in-Ok.choice c.in-Err-prepare_restore.fault chooses
    (λ p t. c.in-Err-prepare_restore.ensures.only tells p (subst (λ (f : Files). TracesDone f c.args.trace.now.history c.args.asked rows c.in-Ok.choice p) (sym same) t))

pub prepare_restore-requires : goal.prepare_restore-requires
prepare_restore-requires g c = record {
  fit = fit_for c.in-Ok.choice.begins c.args.begun.now c.args.look.now c.found_for-found.result.now c.found_for-found.ensures c.requires.begun c.requires.look;
}
