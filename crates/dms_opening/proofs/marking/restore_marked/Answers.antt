use Rattle.std.proofs.Common.{[], ◌≤◌, ◌≡◌, ◌∙◌, sym, subst}
use Rattle.dms_audfile.specs.declared.audit_end.AuditEnd.{AuditEnd}
use Rattle.dms_audfile.specs.TrailEntries.{trail_entries}
use Rattle.dms_running.specs.ByHow.{IsKeptBy}
use Rattle.dms_running.proofs.Rewriting.{rewritten_on, steps_more}
use Rattle.dms_restore.specs.Views.{view_of}
use Rattle.dms_restore.proofs.Backed.{rewrites_silent, silent_on}
use Rattle.dms_restore.proofs.Results.{one_if_ok, one_if_err}
use Rattle.dms_restore.proofs.Trails.{first_low, trail_entries_low}
use Rattle.dms_opening.specs.Marking.{StoodWhole}
use Rattle.dms_opening.proofs.GoneOn.{each_on}
use Rattle.dms_opening.proofs.Marked.{keeps_or_marks, kept_whole, marked_begun, marked_grows, marked_keeps, marked_leaves, marked_sealed, over_low, plan_low, restores_on, steps_whole, tells_as}
use Rattle.dms_opening.proofs.Sealings.{grows_sealed}
use Rattle.dms_opening.proofs.marking.restore_marked.Goals as goal

pub returns-in-Ok-clause-marked : goal.returns-in-Ok-clause-marked
returns-in-Ok-clause-marked g c = one_if_ok c.restore.result c.restore.ensures.over (λ r over p tells plan counts.
    let m = c.in-Ok.ensures in
    let x = g.S.Site.files c.args.begun.log.site in
    let y = g.S.Site.files c.in-Ok.marked.log.site in
    let there = plan_low x y (m.written tells).others p c.args.table.now c.requires.runs c.requires.blocks plan in
    keeps_or_marks p x y (g.S.Site.files r.log.site) c.args.counts.now c.args.table.now plan counts (m.marked tells) (m.written tells) (over p tells there).written)

pub returns-in-Ok-clause-begun : goal.returns-in-Ok-clause-begun
returns-in-Ok-clause-begun g c = one_if_ok c.restore.result c.restore.ensures.begun (λ r done p tells begun plan.
    let m = c.in-Ok.ensures in
    let a = view_of g.S.Site c.args.begun.log in
    let b = view_of g.S.Site c.in-Ok.marked.log in
    done p tells (marked_begun a b m.kind.0 m.kind.1 (m.written tells) (m.moments tells) p begun (g.met.S.Site.may_stay c.args.begun.log.site tells))
    (plan_low a.files b.files (m.written tells).others p c.args.table.now c.requires.runs c.requires.blocks plan))

pub returns-in-Ok-clause-restored : goal.returns-in-Ok-clause-restored
returns-in-Ok-clause-restored g c = one_if_ok c.restore.result c.restore.ensures.restored (λ r done p tells begun plan.
    let m = c.in-Ok.ensures in
    let a = view_of g.S.Site c.args.begun.log in
    let b = view_of g.S.Site c.in-Ok.marked.log in
    done p tells (marked_begun a b m.kind.0 m.kind.1 (m.written tells) (m.moments tells) p begun (g.met.S.Site.may_stay c.args.begun.log.site tells))
    (plan_low a.files b.files (m.written tells).others p c.args.table.now c.requires.runs c.requires.blocks plan))

pub returns-in-Ok-clause-keeps : goal.returns-in-Ok-clause-keeps
returns-in-Ok-clause-keeps g c = one_if_ok c.restore.result c.restore.ensures.keeps (λ r done p tells begun plan.
    let m = c.in-Ok.ensures in
    let a = view_of g.S.Site c.args.begun.log in
    let b = view_of g.S.Site c.in-Ok.marked.log in
    let read = g.met.S.Site.may_stay c.args.begun.log.site tells in
    restores_on a b m.kind.0 m.kind.1 (m.written tells) (m.moments tells) p (view_of g.S.Site r.log) (marked_keeps a b m.kind.0 m.kind.1 (m.written tells) (m.moments tells) p begun read)
    (done p tells (marked_begun a b m.kind.0 m.kind.1 (m.written tells) (m.moments tells) p begun read) (plan_low a.files b.files (m.written tells).others p c.args.table.now c.requires.runs c.requires.blocks plan)))

pub returns-in-Ok-clause-entries : goal.returns-in-Ok-clause-entries
returns-in-Ok-clause-entries g c = one_if_ok c.restore.result c.restore.ensures.entries (λ r same tells low.
    let m = c.in-Ok.ensures in
    let was = c.args.begun.log in
    let x = g.S.Site.files was.site in
    let y = g.S.Site.files c.in-Ok.marked.log.site in
    let there = same tells (subst (λ n. n ≤ 20000) (sym m.kind.1) low) in
    subst (λ n. trail_entries was.end.total n (g.S.Site.files r.log.site) ≡ trail_entries was.end.total n y) m.kind.1
    (subst (λ (e : AuditEnd). trail_entries e.total c.in-Ok.marked.log.first (g.S.Site.files r.log.site) ≡ trail_entries e.total c.in-Ok.marked.log.first y) m.kind.0 there)
    ∙ trail_entries_low was.end.total was.first low y x (m.written tells).others)

pub returns-in-Ok-clause-low : goal.returns-in-Ok-clause-low
returns-in-Ok-clause-low g c = one_if_ok c.restore.result c.restore.ensures.low (λ r low tells h upto. low tells h upto ∙ (c.in-Ok.ensures.written tells).others h upto)

pub returns-in-Ok-clause-moments : goal.returns-in-Ok-clause-moments
returns-in-Ok-clause-moments g c = one_if_ok c.restore.result c.restore.ensures.moments (λ r leaves p tells begun plan.
    let m = c.in-Ok.ensures in
    let a = view_of g.S.Site c.args.begun.log in
    let b = view_of g.S.Site c.in-Ok.marked.log in
    let read = g.met.S.Site.may_stay c.args.begun.log.site tells in
    let keeps = marked_keeps a b m.kind.0 m.kind.1 (m.written tells) (m.moments tells) p begun read in
    each_on a b _ (tells_as a b m.kind.0 m.kind.1 (m.written tells) (m.moments tells)) keeps.points_same keeps.next_same (marked_leaves a b m.kind.0 m.kind.1 (m.written tells) (m.moments tells) p begun read)
    (leaves p tells (marked_begun a b m.kind.0 m.kind.1 (m.written tells) (m.moments tells) p begun read) (plan_low a.files b.files (m.written tells).others p c.args.table.now c.requires.runs c.requires.blocks plan)))

pub returns-in-Ok-clause-stopped : goal.returns-in-Ok-clause-stopped
returns-in-Ok-clause-stopped g c = one_if_err c.restore.result c.restore.ensures.stopped (λ e leaves p tells begun plan.
    let m = c.in-Ok.ensures in
    let a = view_of g.S.Site c.args.begun.log in
    let b = view_of g.S.Site c.in-Ok.marked.log in
    let read = g.met.S.Site.may_stay c.args.begun.log.site tells in
    let keeps = marked_keeps a b m.kind.0 m.kind.1 (m.written tells) (m.moments tells) p begun read in
    each_on a b _ (tells_as a b m.kind.0 m.kind.1 (m.written tells) (m.moments tells)) keeps.points_same keeps.next_same (marked_leaves a b m.kind.0 m.kind.1 (m.written tells) (m.moments tells) p begun read)
    (leaves p tells (marked_begun a b m.kind.0 m.kind.1 (m.written tells) (m.moments tells) p begun read) (plan_low a.files b.files (m.written tells).others p c.args.table.now c.requires.runs c.requires.blocks plan)))

pub returns-in-Err-clause-stopped : goal.returns-in-Err-clause-stopped
returns-in-Err-clause-stopped g c p tells begun plan =
    let m = c.in-Err.ensures in
    marked_leaves (view_of g.S.Site c.args.begun.log) (view_of g.S.Site c.in-Err.fault.1) m.kind_then.0 m.kind_then.1 (m.written_then tells) (m.moments_then tells) p begun (g.met.S.Site.may_stay c.args.begun.log.site tells)

pub returns-in-Ok-clause-over : goal.returns-in-Ok-clause-over
returns-in-Ok-clause-over g c = one_if_ok c.restore.result c.restore.ensures.over (λ r over p tells plan.
    let m = c.in-Ok.ensures in
    let x = g.S.Site.files c.args.begun.log.site in
    let y = g.S.Site.files c.in-Ok.marked.log.site in
    over_low x y (m.written tells).others p (g.S.Site.files r.log.site) (kept_whole (IsKeptBy p.how p.entries p.point) x y (m.written tells))
    (over p tells (plan_low x y (m.written tells).others p c.args.table.now c.requires.runs c.requires.blocks plan)))

pub returns-in-Ok-clause-rewrites : goal.returns-in-Ok-clause-rewrites
returns-in-Ok-clause-rewrites g c = one_if_ok c.restore.result c.restore.ensures.rewrites (λ r steps p tells plan.
    let m = c.in-Ok.ensures in
    let x = g.S.Site.files c.args.begun.log.site in
    let y = g.S.Site.files c.in-Ok.marked.log.site in
    steps_more (IsKeptBy p.how p.entries p.point) _ _ _ (steps_whole (IsKeptBy p.how p.entries p.point) _ _ (m.moments tells)) (steps p tells (plan_low x y (m.written tells).others p c.args.table.now c.requires.runs c.requires.blocks plan)))

pub returns-in-Ok-clause-rewrites_then : goal.returns-in-Ok-clause-rewrites_then
returns-in-Ok-clause-rewrites_then g c = one_if_err c.restore.result c.restore.ensures.rewrites_then (λ e steps p tells plan.
    let m = c.in-Ok.ensures in
    let x = g.S.Site.files c.args.begun.log.site in
    let y = g.S.Site.files c.in-Ok.marked.log.site in
    steps_more (IsKeptBy p.how p.entries p.point) _ _ _ (steps_whole (IsKeptBy p.how p.entries p.point) _ _ (m.moments tells)) (steps p tells (plan_low x y (m.written tells).others p c.args.table.now c.requires.runs c.requires.blocks plan)))

pub returns-in-Err-clause-rewrites_then : goal.returns-in-Err-clause-rewrites_then
returns-in-Err-clause-rewrites_then g c p tells plan = steps_whole (IsKeptBy p.how p.entries p.point) _ _ (c.in-Err.ensures.moments_then tells)

pub returns-in-Ok-clause-stays : goal.returns-in-Ok-clause-stays
returns-in-Ok-clause-stays g c = one_if_ok c.restore.result c.restore.ensures.stays (λ r stays p tells plan ends.
    let m = c.in-Ok.ensures in
    let a = view_of g.S.Site c.args.begun.log in
    let b = view_of g.S.Site c.in-Ok.marked.log in
    stays p tells (plan_low a.files b.files (m.written tells).others p c.args.table.now c.requires.runs c.requires.blocks plan) (marked_sealed a b m.kind.0 m.kind.1 (m.written tells) (m.moments tells) ends))

pub returns-in-Ok-clause-grown : goal.returns-in-Ok-clause-grown
returns-in-Ok-clause-grown g c = one_if_ok c.restore.result c.restore.ensures.grown (λ r grown tells ends.
    let m = c.in-Ok.ensures in
    let a = view_of g.S.Site c.args.begun.log in
    let b = view_of g.S.Site c.in-Ok.marked.log in
    let sealed = marked_sealed a b m.kind.0 m.kind.1 (m.written tells) (m.moments tells) ends in
    grows_sealed 0 0 a b (view_of g.S.Site r.log) (λ i. (m.kind.0 i).total) m.kind.1 sealed (marked_grows a b m.kind.0 m.kind.1 (m.written tells) (m.moments tells) (first_low a.end a.first [] a.files a.clock ends))
    (grown tells (first_low b.end b.first [] b.files b.clock sealed)))

pub returns-in-Ok-clause-grown_then : goal.returns-in-Ok-clause-grown_then
returns-in-Ok-clause-grown_then g c = one_if_err c.restore.result c.restore.ensures.grown_then (λ e grown tells ends.
    let m = c.in-Ok.ensures in
    let a = view_of g.S.Site c.args.begun.log in
    let b = view_of g.S.Site c.in-Ok.marked.log in
    let sealed = marked_sealed a b m.kind.0 m.kind.1 (m.written tells) (m.moments tells) ends in
    grows_sealed 0 0 a b (view_of g.S.Site e.1) (λ i. (m.kind.0 i).total) m.kind.1 sealed (marked_grows a b m.kind.0 m.kind.1 (m.written tells) (m.moments tells) (first_low a.end a.first [] a.files a.clock ends))
    (grown tells (first_low b.end b.first [] b.files b.clock sealed)))

pub returns-in-Err-clause-grown_then : goal.returns-in-Err-clause-grown_then
returns-in-Err-clause-grown_then g c tells ends =
    let m = c.in-Err.ensures in
    let a = view_of g.S.Site c.args.begun.log in
    marked_grows a (view_of g.S.Site c.in-Err.fault.1) m.kind_then.0 m.kind_then.1 (m.written_then tells) (m.moments_then tells) (first_low a.end a.first [] a.files a.clock ends)

pub returns-in-Ok-clause-silent : goal.returns-in-Ok-clause-silent
returns-in-Ok-clause-silent g c = one_if_ok c.restore.result c.restore.ensures.silent (λ r still p tells plan.
    let m = c.in-Ok.ensures in
    let x = g.S.Site.files c.args.begun.log.site in
    let y = g.S.Site.files c.in-Ok.marked.log.site in
    silent_on _ _ _ (rewrites_silent StoodWhole _ _ (m.moments tells)) (still p tells (plan_low x y (m.written tells).others p c.args.table.now c.requires.runs c.requires.blocks plan)))

pub returns-in-Ok-clause-silent_then : goal.returns-in-Ok-clause-silent_then
returns-in-Ok-clause-silent_then g c = one_if_err c.restore.result c.restore.ensures.silent_then (λ e still p tells plan.
    let m = c.in-Ok.ensures in
    let x = g.S.Site.files c.args.begun.log.site in
    let y = g.S.Site.files c.in-Ok.marked.log.site in
    silent_on _ _ _ (rewrites_silent StoodWhole _ _ (m.moments tells)) (still p tells (plan_low x y (m.written tells).others p c.args.table.now c.requires.runs c.requires.blocks plan)))

pub returns-in-Err-clause-silent_then : goal.returns-in-Err-clause-silent_then
returns-in-Err-clause-silent_then g c p tells plan = rewrites_silent StoodWhole _ _ (c.in-Err.ensures.moments_then tells)

pub returns-in-Ok-clause-only : goal.returns-in-Ok-clause-only
returns-in-Ok-clause-only g c = one_if_err c.restore.result c.restore.ensures.only (λ e only p tells plan.
    let m = c.in-Ok.ensures in
    let x = g.S.Site.files c.args.begun.log.site in
    let y = g.S.Site.files c.in-Ok.marked.log.site in
    only p tells (plan_low x y (m.written tells).others p c.args.table.now c.requires.runs c.requires.blocks plan))
