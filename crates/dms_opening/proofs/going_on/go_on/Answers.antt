use Rattle.std.proofs.Common.{ℕ, List, [], ◌+◌, ◌*◌, ◌<◌, ◌≡◌, inl, sym, ◌∙◌, ap, subst, arith}
use Rattle.dms_site.specs.Files.{range}
use Rattle.dms_site.specs.StoredLaws.{stored_range}
use Rattle.dms_audfile.specs.TrailEntries.{trail_entries}
use Rattle.dms_audfile.specs.declared.fault.AudFault.TheVariants.{Full}
use Rattle.dms_restore.specs.Logging.{LogView, view, telling_of}
use Rattle.dms_restore.specs.GrowLaws.{log_grows_more, starts_takes}
use Rattle.dms_restore.specs.Views.{view_of}
use Rattle.dms_restore.proofs.Trails.{first_low}
use Rattle.dms_restore.proofs.Results.{one_if_ok, one_if_err}
use Rattle.dms_restore.proofs.Backed.{silent_on}
use Rattle.dms_opening.proofs.GoneOn.{each_on, ends_by, opened}
use Rattle.dms_opening.proofs.Overs.{writes_runs, within_over, ends_over}
use Rattle.dms_opening.proofs.Sealings.{ends_sealed, grows_ended, grows_sealed, sealed_as}
use Rattle.dms_opening.proofs.Faults.{disk_no_full}
use Rattle.dms_opening.proofs.going_on.go_on.Goals as goal

pub returns-in-Ok-clause-opened : goal.returns-in-Ok-clause-opened
returns-in-Ok-clause-opened g c = one_if_ok c.finish.result c.finish.ensures.ended (λ l ended p tells m.
    let a : LogView = view c.args.begun.log.end c.args.begun.log.first (g.S.Site.files c.args.begun.log.site) (g.S.Site.clock c.args.begun.log.site) in
    let r = c.in-Ok.ensures in
    opened p a _ c.args.table.now c.args.point c.args.next c.args.counts.now m (r.begun p tells m.begun m.plan_is) (r.restored p tells m.begun m.plan_is) (r.keeps p tells m.begun m.plan_is)
    ((λ i. trail_entries (r.kind.0 i).total (r.kind.1 i) (g.S.Site.files c.in-Ok.restored.log.site)) ∙ r.entries tells (first_low _ a.first [] _ _ (ends_sealed p a m.begun))) _ _
    (ended p tells (ends_by p a _ c.args.table.now c.args.point c.args.next c.args.counts.now m (r.begun p tells m.begun m.plan_is) (r.restored p tells m.begun m.plan_is) (r.keeps p tells m.begun m.plan_is))))

pub returns-in-Ok-clause-moments : goal.returns-in-Ok-clause-moments
returns-in-Ok-clause-moments g c = one_if_ok c.finish.result c.finish.ensures.moments (λ l leaves p tells m.
    let a : LogView = view c.args.begun.log.end c.args.begun.log.first (g.S.Site.files c.args.begun.log.site) (g.S.Site.clock c.args.begun.log.site) in
    let log = c.in-Ok.restored.log in
    let b : LogView = view log.end log.first (g.S.Site.files log.site) (g.S.Site.clock log.site) in
    let r = c.in-Ok.ensures in
    let keeps = r.keeps p tells m.begun m.plan_is in
    each_on a b _ (λ i. telling_of (r.kind.0 i).total (r.kind.1 i)) keeps.points_same keeps.next_same (r.moments p tells m.begun m.plan_is)
    (leaves p tells (ends_by p a b c.args.table.now c.args.point c.args.next c.args.counts.now m (r.begun p tells m.begun m.plan_is) (r.restored p tells m.begun m.plan_is) keeps)))

pub returns-in-Ok-clause-stopped : goal.returns-in-Ok-clause-stopped
returns-in-Ok-clause-stopped g c = one_if_err c.finish.result c.finish.ensures.stopped (λ e leaves p tells m.
    let a : LogView = view c.args.begun.log.end c.args.begun.log.first (g.S.Site.files c.args.begun.log.site) (g.S.Site.clock c.args.begun.log.site) in
    let log = c.in-Ok.restored.log in
    let b : LogView = view log.end log.first (g.S.Site.files log.site) (g.S.Site.clock log.site) in
    let r = c.in-Ok.ensures in
    let keeps = r.keeps p tells m.begun m.plan_is in
    each_on a b _ (λ i. telling_of (r.kind.0 i).total (r.kind.1 i)) keeps.points_same keeps.next_same (r.moments p tells m.begun m.plan_is)
    (leaves p tells (ends_by p a b c.args.table.now c.args.point c.args.next c.args.counts.now m (r.begun p tells m.begun m.plan_is) (r.restored p tells m.begun m.plan_is) keeps)))

pub returns-in-Err-clause-stopped : goal.returns-in-Err-clause-stopped
returns-in-Err-clause-stopped g c p tells m = c.in-Err.ensures.stopped p tells m.begun m.plan_is

pub returns-in-Err-clause-only : goal.returns-in-Err-clause-only
returns-in-Err-clause-only g c p tells table = inl (c.in-Err.ensures.only p tells table)

pub returns-in-Ok-clause-full : goal.returns-in-Ok-clause-full
returns-in-Ok-clause-full g c = one_if_err c.finish.result c.finish.ensures.full (λ e full p tells table is.
    let kind = c.in-Ok.ensures.kind in
    let limit : c.in-Ok.restored.log.end.limit ≡ c.args.begun.log.end.limit = λ i. (kind.0 i).limit in
    let was = full (is ∙ ap (λ k. Full k) (sym limit)) in
    (was.0, subst (λ k. 10000 + k < e.1.end.file) limit was.1))

pub returns-in-Err-clause-full : goal.returns-in-Err-clause-full
returns-in-Err-clause-full g c p tells table is = absurd (disk_no_full (c.in-Err.ensures.only p tells table) is)

pub returns-in-Ok-clause-silent : goal.returns-in-Ok-clause-silent
returns-in-Ok-clause-silent g c = one_if_ok c.finish.result c.finish.ensures.silent (λ l still p tells m.
    let a : LogView = view c.args.begun.log.end c.args.begun.log.first (g.S.Site.files c.args.begun.log.site) (g.S.Site.clock c.args.begun.log.site) in
    let log = c.in-Ok.restored.log in
    let b : LogView = view log.end log.first (g.S.Site.files log.site) (g.S.Site.clock log.site) in
    let r = c.in-Ok.ensures in
    silent_on _ _ _ (r.silent p tells m.plan_is) (still p tells (ends_by p a b c.args.table.now c.args.point c.args.next c.args.counts.now m (r.begun p tells m.begun m.plan_is) (r.restored p tells m.begun m.plan_is) (r.keeps p tells m.begun m.plan_is))))

pub returns-in-Ok-clause-silent_then : goal.returns-in-Ok-clause-silent_then
returns-in-Ok-clause-silent_then g c = one_if_err c.finish.result c.finish.ensures.silent_then (λ e still p tells m.
    let a : LogView = view c.args.begun.log.end c.args.begun.log.first (g.S.Site.files c.args.begun.log.site) (g.S.Site.clock c.args.begun.log.site) in
    let log = c.in-Ok.restored.log in
    let b : LogView = view log.end log.first (g.S.Site.files log.site) (g.S.Site.clock log.site) in
    let r = c.in-Ok.ensures in
    silent_on _ _ _ (r.silent p tells m.plan_is) (still p tells (ends_by p a b c.args.table.now c.args.point c.args.next c.args.counts.now m (r.begun p tells m.begun m.plan_is) (r.restored p tells m.begun m.plan_is) (r.keeps p tells m.begun m.plan_is))))

pub returns-in-Err-clause-silent_then : goal.returns-in-Err-clause-silent_then
returns-in-Err-clause-silent_then g c p tells m = c.in-Err.ensures.silent_then p tells m.plan_is

pub returns-in-Ok-clause-ends : goal.returns-in-Ok-clause-ends
returns-in-Ok-clause-ends g c = one_if_err c.finish.result c.finish.ensures.ends (λ e ends p tells table sealed is.
    let r = c.in-Ok.ensures in
    let limit : c.in-Ok.restored.log.end.limit ≡ c.args.begun.log.end.limit = λ i. (r.kind.0 i).limit in
    ends (is ∙ ap (λ k. Full k) (sym limit)) tells (r.stays p tells table sealed))

pub returns-in-Err-clause-ends : goal.returns-in-Err-clause-ends
returns-in-Err-clause-ends g c p tells table sealed is = absurd (disk_no_full (c.in-Err.ensures.only p tells table) is)

pub returns-in-Ok-clause-kind_then : goal.returns-in-Ok-clause-kind_then
returns-in-Ok-clause-kind_then g c = one_if_err c.finish.result c.finish.ensures.kind_then (λ e kind.
    let was = c.in-Ok.ensures.kind in
    (kind.0 ∙ (λ i. (was.0 i).total), kind.1 ∙ (λ i. (was.0 i).tag), kind.2 ∙ (λ i. (was.0 i).limit), kind.3 ∙ was.1))

pub returns-in-Err-clause-kind_then : goal.returns-in-Err-clause-kind_then
returns-in-Err-clause-kind_then g c = let was = c.in-Err.ensures.kind_then in (λ i. (was.0 i).total, λ i. (was.0 i).tag, λ i. (was.0 i).limit, was.1)

pub returns-in-Ok-clause-part : goal.returns-in-Ok-clause-part
returns-in-Ok-clause-part g c = one_if_err c.finish.result c.finish.ensures.part (λ e part p tells m is.
    let a : LogView = view c.args.begun.log.end c.args.begun.log.first (g.S.Site.files c.args.begun.log.site) (g.S.Site.clock c.args.begun.log.site) in
    let log = c.in-Ok.restored.log in
    let b : LogView = view log.end log.first (g.S.Site.files log.site) (g.S.Site.clock log.site) in
    let r = c.in-Ok.ensures in
    sealed_as a b (view e.1.end e.1.first (g.S.Site.files e.1.site) (g.S.Site.clock e.1.site)) _ (λ i. (r.kind.0 i).total) r.kind.1 (r.entries tells (first_low _ a.first [] _ _ (ends_sealed p a m.begun))) (part tells (r.stays p tells m.plan_is (ends_sealed p a m.begun))))

pub returns-in-Err-clause-part : goal.returns-in-Err-clause-part
returns-in-Err-clause-part g c p tells m is = absurd (disk_no_full (c.in-Err.ensures.only p tells m.plan_is) is)

pub returns-in-Ok-clause-grown : goal.returns-in-Ok-clause-grown
returns-in-Ok-clause-grown g c = one_if_ok c.finish.result c.finish.ensures.grown (λ l grown p tells table sealed.
    let was = c.args.begun.log in
    let b : LogView = view_of g.S.Site c.in-Ok.restored.log in
    let r = c.in-Ok.ensures in
    let start = r.stays p tells table sealed in
    grows_sealed 0 18 (view_of g.S.Site was) b (view_of g.S.Site l) (λ i. (r.kind.0 i).total) r.kind.1 start.ends (r.grown tells sealed)
    (grows_ended b (view_of g.S.Site l) c.args.description.now c.args.point c.args.next c.args.counts.now c.requires.few (grown tells (starts_takes b start))))

pub returns-in-Ok-clause-grown_then : goal.returns-in-Ok-clause-grown_then
returns-in-Ok-clause-grown_then g c = one_if_err c.finish.result c.finish.ensures.grown_then (λ e grown p tells table sealed.
    let was = c.args.begun.log in
    let b : LogView = view_of g.S.Site c.in-Ok.restored.log in
    let r = c.in-Ok.ensures in
    let start = r.stays p tells table sealed in
    grows_sealed 0 18 (view_of g.S.Site was) b (view_of g.S.Site e.1) (λ i. (r.kind.0 i).total) r.kind.1 start.ends (r.grown tells sealed)
    (grows_ended b (view_of g.S.Site e.1) c.args.description.now c.args.point c.args.next c.args.counts.now c.requires.few (grown tells (starts_takes b start))))

pub returns-in-Err-clause-grown_then : goal.returns-in-Err-clause-grown_then
returns-in-Err-clause-grown_then g c p tells table sealed =
    let was = c.args.begun.log in
    log_grows_more 0 18 _ _ (omega arith) (c.in-Err.ensures.grown_then tells sealed)

pub returns-in-Ok-clause-dumps : goal.returns-in-Ok-clause-dumps
returns-in-Ok-clause-dumps g c = one_if_ok c.finish.result c.finish.ensures.above (λ l above p tells table sealed f up upto.
    let r = c.in-Ok.ensures in
    above tells (r.stays p tells table sealed) f up ∙ r.low tells f upto)

pub returns-in-Ok-clause-starts : goal.returns-in-Ok-clause-starts
returns-in-Ok-clause-starts g c = one_if_ok c.finish.result c.finish.ensures.starts (λ l starts p tells table sealed. starts tells (c.in-Ok.ensures.stays p tells table sealed))

pub returns-in-Ok-clause-over : goal.returns-in-Ok-clause-over
returns-in-Ok-clause-over g c = one_if_ok c.finish.result c.finish.ensures.laid (λ l laid p tells start plan.
    let a : LogView = view_of g.S.Site c.args.begun.log in
    let b : LogView = view_of g.S.Site c.in-Ok.restored.log in
    let r = c.in-Ok.ensures in
    ends_over p a b (λ i. (r.kind.0 i).total) r.kind.1 _ (r.over p tells plan) (view_of g.S.Site l) (laid tells (r.stays p tells plan start.ends)))

pub returns-in-Ok-clause-over_moments : goal.returns-in-Ok-clause-over_moments
returns-in-Ok-clause-over_moments g c = one_if_ok c.finish.result c.finish.ensures.within (λ l within p tells start plan.
    let a : LogView = view_of g.S.Site c.args.begun.log in
    let b : LogView = view_of g.S.Site c.in-Ok.restored.log in
    let r = c.in-Ok.ensures in
    within_over p a b (λ i. (r.kind.0 i).total) r.kind.1 _ (r.over p tells plan) _ (writes_runs p a _ b.clock start.only (r.rewrites p tells plan)) (within tells (r.stays p tells plan start.ends)))

pub returns-in-Ok-clause-over_stopped : goal.returns-in-Ok-clause-over_stopped
returns-in-Ok-clause-over_stopped g c = one_if_err c.finish.result c.finish.ensures.within_then (λ e within p tells start plan.
    let a : LogView = view_of g.S.Site c.args.begun.log in
    let b : LogView = view_of g.S.Site c.in-Ok.restored.log in
    let r = c.in-Ok.ensures in
    within_over p a b (λ i. (r.kind.0 i).total) r.kind.1 _ (r.over p tells plan) _ (writes_runs p a _ b.clock start.only (r.rewrites p tells plan)) (within tells (r.stays p tells plan start.ends)))

pub returns-in-Err-clause-over_stopped : goal.returns-in-Err-clause-over_stopped
returns-in-Err-clause-over_stopped g c p tells start plan = writes_runs p (view_of g.S.Site c.args.begun.log) _ _ start.only (c.in-Err.ensures.rewrites_then p tells plan)

pub returns-in-Ok-clause-marked : goal.returns-in-Ok-clause-marked
returns-in-Ok-clause-marked g c = one_if_ok c.finish.result c.finish.ensures.above (λ l above p tells plan counts sealed f b kept.
    let r = c.in-Ok.ensures in
    let start = r.stays p tells plan sealed in
    stored_range _ _ f b (λ structure. ap (λ (bytes : List ℕ). range (1024 * b) 1024 bytes) (above tells start f (omega (arith, structure)))) ∙ r.marked p tells plan counts f b kept)
