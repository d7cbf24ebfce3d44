use Rattle.dms_site.specs.Files.{range}
use Rattle.dms_site.specs.StoredLaws.{stored_range}
use Rattle.dms_restore.specs.Planned.{AreCountsAt}
use Rattle.dms_opening.specs.Marking.{whole_or_mark}
use Rattle.std.proofs.Common.{ℕ, ◌*◌, ◌∙◌, List, [], refl, sym, ap, subst, arith}
use Rattle.std.proofs.lemmas.Bool.{true≢false}
use Rattle.dms_moments.specs.Moments.{Runs}
use Rattle.dms_audrec.specs.Seen.{how_seen}
use Rattle.dms_running.specs.AnyBegun.{BeginLeaves}
use Rattle.dms_restore.specs.GrowLaws.{log_grows_more}
use Rattle.dms_restore.specs.Logging.{LogView, telling, state, telling_of}
use Rattle.dms_restore.specs.Over.{LeavesOver}
use Rattle.dms_restore.specs.Views.{view_of}
use Rattle.dms_restore.proofs.Backed.{silent_on}
use Rattle.dms_restore.proofs.CountBytes.{counts_entry}
use Rattle.dms_wal.specs.Closing.{IsFullTrail}
use Rattle.dms_opening.specs.Claims.{ends_of}
use Rattle.dms_opening.specs.Openings.{Reopens, text_of}
use Rattle.dms_opening.proofs.Overs.{starts_same, over_as, left_as}
use Rattle.dms_opening.proofs.Rooms.{as_limit, full_by}
use Rattle.dms_opening.proofs.Sealings.{grows_sealed, grows_site}
use Rattle.dms_opening.proofs.Carries.{BeginsWhole, count_table, may_open, begins_whole, leaves_on, reopens_all, written_at, may_end, runs_from, bytes_are}
use Rattle.dms_opening.proofs.RunsTo.{may_end_so, runs_to, leaves_to}
use Rattle.dms_opening.proofs.carrying.carry_out.Goals as goal

pub go_on-requires-clause-control : goal.go_on-requires-clause-control
go_on-requires-clause-control g c = counts_entry c.args.planned.plan.counts.items (count_table c.args.planned.plan c.requires.ready) _ (bytes_are _ _ _ c.deref.ensures.value c.count_bytes-used.ensures.bytes) c.args.planned.plan.choice.point c.args.planned.plan.next (omega arith) (omega arith)

pub returns-in-Err-clause-stopped : goal.returns-in-Err-clause-stopped
returns-in-Err-clause-stopped g c tells kind s whole =
    let a : LogView = view_of g.S.Site c.args.planned.log in
    let r = c.in-Err.ensures in
    subst (λ site. Runs (g.S.Site.clock c.args.planned.log.site) (g.S.Site.clock site) (Reopens (telling a) (g.S.Site.files c.args.planned.log.site) (text_of g.S.Site c.args.planned.log.site))) (sym c.site_of.ensures)
    (reopens_all g.S.Site g.met.S.Site.now_said (telling a) c.args.planned.log.site _ [] (r.stopped _ tells kind (may_open a c.args.planned.plan s whole)) (r.silent_then tells s.start))

pub returns-in-Ok-go_on-clause-runs : goal.returns-in-Ok-go_on-clause-runs
returns-in-Ok-go_on-clause-runs g c tells kind s whole =
    let a : LogView = view_of g.S.Site c.args.planned.log in
    let b : LogView = view_of g.S.Site c.in-Ok.begun.log in
    let r = c.in-Ok.ensures in
    let may = may_open a c.args.planned.plan s whole in
    let w : BeginsWhole a c.args.planned.plan b = begins_whole a b c.args.planned.plan s r.kind.0 r.kind.3 (r.grown tells s.start).stays.kept.grown (r.dumps tells) _ kind (r.sealed tells s.start) whole (r.begun _ tells kind may) (r.keeps _ tells kind may) in
    let is = bytes_are _ _ _ c.deref.ensures.value c.count_bytes-used.ensures.bytes in
    runs_from a b c.args.planned.plan w c.requires.ready _ is _ (λ i. telling_of ((c.in-Ok-go_on.ensures.kind.0 ∙ r.kind.0) i) ((c.in-Ok-go_on.ensures.kind.3 ∙ r.kind.3) i)) _ c.deref-3.ensures.value
    (c.in-Ok-go_on.ensures.opened _ tells (may_end a b c.args.planned.plan w c.requires.ready _ is))

pub returns-in-Ok-go_on-clause-moments : goal.returns-in-Ok-go_on-clause-moments
returns-in-Ok-go_on-clause-moments g c tells kind s whole =
    let a : LogView = view_of g.S.Site c.args.planned.log in
    let b : LogView = view_of g.S.Site c.in-Ok.begun.log in
    let r = c.in-Ok.ensures in
    let may = may_open a c.args.planned.plan s whole in
    let w : BeginsWhole a c.args.planned.plan b = begins_whole a b c.args.planned.plan s r.kind.0 r.kind.3 (r.grown tells s.start).stays.kept.grown (r.dumps tells) _ kind (r.sealed tells s.start) whole (r.begun _ tells kind may) (r.keeps _ tells kind may) in
    let e = may_end a b c.args.planned.plan w c.requires.ready _ (bytes_are _ _ _ c.deref.ensures.value c.count_bytes-used.ensures.bytes) in
    reopens_all g.S.Site g.met.S.Site.now_said (telling a) c.args.planned.log.site _ []
    (leaves_on a b c.args.planned.plan _ w (r.moments _ tells kind may) (c.in-Ok-go_on.ensures.moments _ tells e))
    (silent_on _ _ _ (r.silent tells s.start) (c.in-Ok-go_on.ensures.silent _ tells e))

pub returns-clause-stopped : goal.returns-clause-stopped
returns-clause-stopped g c tells kind s whole =
    let a : LogView = view_of g.S.Site c.args.planned.log in
    let b : LogView = view_of g.S.Site c.in-Ok.begun.log in
    let r = c.in-Ok.ensures in
    let may = may_open a c.args.planned.plan s whole in
    let w : BeginsWhole a c.args.planned.plan b = begins_whole a b c.args.planned.plan s r.kind.0 r.kind.3 (r.grown tells s.start).stays.kept.grown (r.dumps tells) _ kind (r.sealed tells s.start) whole (r.begun _ tells kind may) (r.keeps _ tells kind may) in
    let e = may_end a b c.args.planned.plan w c.requires.ready _ (bytes_are _ _ _ c.deref.ensures.value c.count_bytes-used.ensures.bytes) in
    subst (λ site. Runs (g.S.Site.clock c.args.planned.log.site) (g.S.Site.clock site) (Reopens (telling a) (g.S.Site.files c.args.planned.log.site) (text_of g.S.Site c.args.planned.log.site))) (sym c.site_of-in-Err-go_on.ensures)
    (reopens_all g.S.Site g.met.S.Site.now_said (telling a) c.args.planned.log.site _ []
    (leaves_on a b c.args.planned.plan _ w (r.moments _ tells kind may) (c.in-Err-go_on.ensures.stopped _ tells e))
    (silent_on _ _ _ (r.silent tells s.start) (c.in-Err-go_on.ensures.silent_then _ tells e)))

pub returns-in-Ok-go_on-clause-runs_to : goal.returns-in-Ok-go_on-clause-runs_to
returns-in-Ok-go_on-clause-runs_to g c right tells m =
    let a : LogView = view_of g.S.Site c.args.planned.log in
    let b : LogView = view_of g.S.Site c.in-Ok.begun.log in
    let plan = c.args.planned.plan in
    let r = c.in-Ok.ensures in
    let start = m.writes.start in
    let any = r.begins_any right tells m.begins m.from in
    let is = bytes_are _ _ _ c.deref.ensures.value c.count_bytes-used.ensures.bytes in
    let e = may_end_so a b right (how_seen c.args.how) plan m c.requires.ready r.kind.0 r.kind.3 any _ is (r.grown tells start).stays.kept.grown (r.dumps tells) in
    runs_to a b right (how_seen c.args.how) plan m c.requires.ready r.kind.0 r.kind.3 any _ is (view_of g.S.Site c.in-Ok-go_on.log) _ c.deref-3.ensures.value (c.in-Ok-go_on.ensures.opened _ tells e) (r.sealed tells start)

pub returns-in-Ok-go_on-clause-leaves : goal.returns-in-Ok-go_on-clause-leaves
returns-in-Ok-go_on-clause-leaves g c right tells m =
    let a : LogView = view_of g.S.Site c.args.planned.log in
    let b : LogView = view_of g.S.Site c.in-Ok.begun.log in
    let plan = c.args.planned.plan in
    let r = c.in-Ok.ensures in
    let any = r.begins_any right tells m.begins m.from in
    let is = bytes_are _ _ _ c.deref.ensures.value c.count_bytes-used.ensures.bytes in
    let e = may_end_so a b right (how_seen c.args.how) plan m c.requires.ready r.kind.0 r.kind.3 any _ is (r.grown tells m.writes.start).stays.kept.grown (r.dumps tells) in
    leaves_to a b right (how_seen c.args.how) plan m c.requires.ready r.kind.0 r.kind.3 any _ (r.leaves right tells m.begins m.from) (c.in-Ok-go_on.ensures.moments _ tells e)

pub returns-in-Err-clause-leaves_then : goal.returns-in-Err-clause-leaves_then
returns-in-Err-clause-leaves_then g c right tells m =
    let a : LogView = view_of g.S.Site c.args.planned.log in
    subst (λ site. Runs (g.S.Site.clock c.args.planned.log.site) (g.S.Site.clock site) (BeginLeaves (telling a) (state a) right c.args.planned.plan.choice.point)) (sym c.site_of.ensures) (c.in-Err.ensures.leaves_then right tells m.from)

pub returns-clause-leaves_then : goal.returns-clause-leaves_then
returns-clause-leaves_then g c right tells m =
    let a : LogView = view_of g.S.Site c.args.planned.log in
    let b : LogView = view_of g.S.Site c.in-Ok.begun.log in
    let plan = c.args.planned.plan in
    let r = c.in-Ok.ensures in
    let any = r.begins_any right tells m.begins m.from in
    let is = bytes_are _ _ _ c.deref.ensures.value c.count_bytes-used.ensures.bytes in
    let e = may_end_so a b right (how_seen c.args.how) plan m c.requires.ready r.kind.0 r.kind.3 any _ is (r.grown tells m.writes.start).stays.kept.grown (r.dumps tells) in
    subst (λ site. Runs (g.S.Site.clock c.args.planned.log.site) (g.S.Site.clock site) (BeginLeaves (telling a) (state a) right plan.choice.point)) (sym c.site_of-in-Err-go_on.ensures)
    (leaves_to a b right (how_seen c.args.how) plan m c.requires.ready r.kind.0 r.kind.3 any _ (r.leaves right tells m.begins m.from) (c.in-Err-go_on.ensures.stopped _ tells e))

pub returns-in-Err-clause-only : goal.returns-in-Err-clause-only
returns-in-Err-clause-only g c p tells s = written_at _ _ c.requires.limit c.in-Err.ensures.only

pub returns-clause-only : goal.returns-clause-only
returns-clause-only g c p tells s =
    let r = c.in-Ok.ensures in
    written_at _ _ (r.kind.2 ∙ c.requires.limit)
    (c.in-Err-go_on.ensures.only p tells (s.plan_is (g.S.Site.files c.in-Ok.begun.log.site) (r.grown tells s.start).stays.kept.grown (r.dumps tells)))

pub returns-in-Err-clause-full : goal.returns-in-Err-clause-full
returns-in-Err-clause-full g c p tells s full =
    let a : LogView = view_of g.S.Site c.args.planned.log in
    let r = c.in-Err.ensures in
    let is = as_limit _ _ c.requires.limit full in
    subst (λ site. IsFullTrail a (g.S.Site.files site)) (sym c.site_of.ensures) (full_by a _ _ c.requires.limit r.kind_then.0 r.kind_then.3 (r.full is).1 (r.ends is tells s.start))

pub returns-clause-full : goal.returns-clause-full
returns-clause-full g c p tells s full =
    let a : LogView = view_of g.S.Site c.args.planned.log in
    let r = c.in-Ok.ensures in
    let n = c.in-Err-go_on.ensures in
    let table = s.plan_is (g.S.Site.files c.in-Ok.begun.log.site) (r.grown tells s.start).stays.kept.grown (r.dumps tells) in
    let limit = r.kind.2 ∙ c.requires.limit in
    let is = as_limit _ _ limit full in
    subst (λ site. IsFullTrail a (g.S.Site.files site)) (sym c.site_of-in-Err-go_on.ensures)
    (full_by a _ _ limit (n.kind_then.0 ∙ r.kind.0) (n.kind_then.3 ∙ r.kind.3) (n.full p tells table is).1 (n.ends p tells table (r.starts tells s.start) is))

pub returns-in-Err-clause-grown_then : goal.returns-in-Err-clause-grown_then
returns-in-Err-clause-grown_then g c p tells s =
    let a : LogView = view_of g.S.Site c.args.planned.log in
    grows_site g.S.Site 19 a c.in-Err.log _ c.site_of.ensures (log_grows_more 1 19 a (view_of g.S.Site c.in-Err.log) (omega arith) (c.in-Err.ensures.grown_then tells s.start))

pub returns-in-Ok-go_on-clause-grown : goal.returns-in-Ok-go_on-clause-grown
returns-in-Ok-go_on-clause-grown g c p tells s =
    let r = c.in-Ok.ensures in
    let grown = r.grown tells s.start in
    let table = s.plan_is (g.S.Site.files c.in-Ok.begun.log.site) grown.stays.kept.grown (r.dumps tells) in
    grows_sealed 1 18 (view_of g.S.Site c.args.planned.log) (view_of g.S.Site c.in-Ok.begun.log) (view_of g.S.Site c.in-Ok-go_on.log) r.kind.0 r.kind.3 (r.starts tells s.start) grown
    (c.in-Ok-go_on.ensures.grown p tells table (r.starts tells s.start))

pub returns-clause-grown_then : goal.returns-clause-grown_then
returns-clause-grown_then g c p tells s =
    let a : LogView = view_of g.S.Site c.args.planned.log in
    let r = c.in-Ok.ensures in
    let grown = r.grown tells s.start in
    let table = s.plan_is (g.S.Site.files c.in-Ok.begun.log.site) grown.stays.kept.grown (r.dumps tells) in
    grows_site g.S.Site 19 a c.in-Err-go_on.log _ c.site_of-in-Err-go_on.ensures
    (grows_sealed 1 18 a (view_of g.S.Site c.in-Ok.begun.log) (view_of g.S.Site c.in-Err-go_on.log) r.kind.0 r.kind.3 (r.starts tells s.start) grown
    (c.in-Err-go_on.ensures.grown_then p tells table (r.starts tells s.start)))

pub returns-in-Ok-go_on-clause-dumps : goal.returns-in-Ok-go_on-clause-dumps
returns-in-Ok-go_on-clause-dumps g c p tells s f up upto =
    let r = c.in-Ok.ensures in
    let table = s.plan_is (g.S.Site.files c.in-Ok.begun.log.site) (r.grown tells s.start).stays.kept.grown (r.dumps tells) in
    c.in-Ok-go_on.ensures.dumps p tells table (r.starts tells s.start) f up upto ∙ r.dumps tells f up upto

pub returns-in-Ok-go_on-clause-starts : goal.returns-in-Ok-go_on-clause-starts
returns-in-Ok-go_on-clause-starts g c p tells s =
    let r = c.in-Ok.ensures in
    c.in-Ok-go_on.ensures.starts p tells (s.plan_is (g.S.Site.files c.in-Ok.begun.log.site) (r.grown tells s.start).stays.kept.grown (r.dumps tells)) (r.starts tells s.start)

pub returns-in-Ok-go_on-clause-over : goal.returns-in-Ok-go_on-clause-over
returns-in-Ok-go_on-clause-over g c p tells off s =
    let old = c.args.planned.log in
    let log = c.in-Ok.begun.log in
    let plan = c.args.planned.plan in
    let r = c.in-Ok.ensures in
    let same = r.stays off in
    let start = starts_same g.S.Site old log same s.start in
    let table = s.plan_is (g.S.Site.files log.site) (r.grown tells s.start).stays.kept.grown (r.dumps tells) in
    let is = bytes_are _ _ _ c.deref.ensures.value c.count_bytes-used.ensures.bytes in
    over_as g.S.Site p old log same plan c.requires.ready _ is _ c.deref-3.ensures.value (view_of g.S.Site c.in-Ok-go_on.log) (c.in-Ok-go_on.ensures.over p tells start table)

pub returns-in-Ok-go_on-clause-over_moments : goal.returns-in-Ok-go_on-clause-over_moments
returns-in-Ok-go_on-clause-over_moments g c p tells off s =
    let old = c.args.planned.log in
    let log = c.in-Ok.begun.log in
    let plan = c.args.planned.plan in
    let r = c.in-Ok.ensures in
    let same = r.stays off in
    let start = starts_same g.S.Site old log same s.start in
    let table = s.plan_is (g.S.Site.files log.site) (r.grown tells s.start).stays.kept.grown (r.dumps tells) in
    let is = bytes_are _ _ _ c.deref.ensures.value c.count_bytes-used.ensures.bytes in
    left_as g.S.Site p old log same plan c.requires.ready _ is _ c.deref-3.ensures.value _ (c.in-Ok-go_on.ensures.over_moments p tells start table)

pub returns-clause-over_stopped : goal.returns-clause-over_stopped
returns-clause-over_stopped g c p tells off s =
    let old = c.args.planned.log in
    let log = c.in-Ok.begun.log in
    let plan = c.args.planned.plan in
    let r = c.in-Ok.ensures in
    let same = r.stays off in
    let start = starts_same g.S.Site old log same s.start in
    let table = s.plan_is (g.S.Site.files log.site) (r.grown tells s.start).stays.kept.grown (r.dumps tells) in
    let is = bytes_are _ _ _ c.deref.ensures.value c.count_bytes-used.ensures.bytes in
    subst (λ site. Runs (g.S.Site.clock old.site) (g.S.Site.clock site) (LeavesOver p (view_of g.S.Site old) (ends_of plan))) (sym c.site_of-in-Err-go_on.ensures)
    (left_as g.S.Site p old log same plan c.requires.ready _ is _ c.deref-3.ensures.value _ (c.in-Err-go_on.ensures.over_stopped p tells start table))

pub returns-in-Err-clause-over_stopped : goal.returns-in-Err-clause-over_stopped
returns-in-Err-clause-over_stopped g c p tells off s = absurd (true≢false (sym c.in-Err.ensures.begins ∙ off))

pub returns-in-Ok-go_on-clause-marked : goal.returns-in-Ok-go_on-clause-marked
returns-in-Ok-go_on-clause-marked g c p tells s counts f b kept =
    let r = c.in-Ok.ensures in
    let table = s.plan_is (g.S.Site.files c.in-Ok.begun.log.site) (r.grown tells s.start).stays.kept.grown (r.dumps tells) in
    let same = stored_range (g.S.Site.files c.in-Ok.begun.log.site) (g.S.Site.files c.args.planned.log.site) f b (λ structure. ap (λ (bytes : List ℕ). range (1024 * b) 1024 bytes) (r.above tells f (omega (arith, structure)))) in
    c.in-Ok-go_on.ensures.marked p tells table (subst (λ (l : List ℕ). AreCountsAt l p) (sym c.deref-2.ensures.value) counts) (r.starts tells s.start) f b kept ∙ ap whole_or_mark same
