use Rattle.std.proofs.Common.{inl, refl, sym, subst}
use Rattle.dms_site.specs.Files.{Files}
use Rattle.dms_opening.specs.Behind.{restore_asked}
use Rattle.dms_opening.specs.DumpLooks.{IsFoundFor}
use Rattle.dms_audfile.specs.TrailEntries.{trail_entries}
use Rattle.dms_restore.specs.Tracing.{TracesPending}
use Rattle.dms_opening.proofs.Behinds.{asked_lives, not_described_behind, pending_now, plans_behind}
use Rattle.dms_opening.proofs.Faults.{plain_audit}
use Rattle.dms_opening.proofs.behind.prepare_behind.Goals as goal

pub returns-in-Err-clause-refused : goal.returns-in-Err-clause-refused
returns-in-Err-clause-refused g c tells total begun r none =
    let files = g.S.Site.files c.args.site.now in
    let lives = asked_lives total c.args.first files c.args.places.now c.args.trace c.args.asked c.args.rows.now begun c.args.look.now r none c.last_point.result c.point_of-point.result c.last_point.ensures c.point_of-point.ensures in
    not_described_behind total c.args.first files c.args.places.now c.args.trace c.args.asked c.args.rows.now begun c.args.look.now r none c.last_point.result c.point_of-point.result c.last_point.ensures c.point_of-point.ensures c.in-Err.fault
    (c.in-Err.ensures.only tells total r.read lives)

pub returns-in-Ok-plan_pending-clause-plans : goal.returns-in-Ok-plan_pending-clause-plans
returns-in-Ok-plan_pending-clause-plans g c tells total begun r none =
    let files = g.S.Site.files c.args.site.now in
    let same = c.read_description.ensures.reads.files_stay tells in
    let last = c.last_point.result in
    let point = c.point_of-point.result in
    let rows = c.args.rows.now in
    let h = c.begin_own.new.history in
    let p = restore_asked (trail_entries total c.args.first files) c.args.asked rows point in
    let lives = asked_lives total c.args.first files c.args.places.now c.args.trace c.args.asked rows begun c.args.look.now r none last point c.last_point.ensures c.point_of-point.ensures in
    let now = pending_now total c.args.first files c.args.places.now c.args.trace c.args.asked rows begun c.args.look.now r none last point c.last_point.ensures c.point_of-point.ensures h c.in-Ok-begin_own.ensures in
    let there = subst (λ (f : Files). TracesPending f h p) (sym same) now in
    plans_behind total c.args.first files c.args.places.now c.args.trace c.args.asked rows begun c.args.look.now r none last point c.last_point.ensures c.point_of-point.ensures h c.in-Ok-begin_own.ensures
    c.args.trace.history.next c.in-Ok-plan_pending.table c.in-Ok-plan_pending.counts.items c.in-Ok.schema.items _ refl refl refl refl refl refl refl
    (λ new t has. c.in-Ok-plan_pending.ensures.plan tells p there new t has)
    (λ f. c.in-Ok-plan_pending.ensures.counts tells p there f)
    (c.in-Ok.ensures.bytes tells total r.read lives)

pub returns-clause-refused : goal.returns-clause-refused
returns-clause-refused g c tells total begun r none =
    let files = g.S.Site.files c.args.site.now in
    let same = c.read_description.ensures.reads.files_stay tells in
    let last = c.last_point.result in
    let point = c.point_of-point.result in
    let rows = c.args.rows.now in
    let h = c.begin_own.new.history in
    let p = restore_asked (trail_entries total c.args.first files) c.args.asked rows point in
    let now = pending_now total c.args.first files c.args.places.now c.args.trace c.args.asked rows begun c.args.look.now r none last point c.last_point.ensures c.point_of-point.ensures h c.in-Ok-begin_own.ensures in
    inl (plain_audit c.in-Err-plan_pending.fault (c.in-Err-plan_pending.ensures.only tells p (subst (λ (f : Files). TracesPending f h p) (sym same) now)))
