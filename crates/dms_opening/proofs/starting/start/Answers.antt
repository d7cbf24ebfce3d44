use Rattle.std.proofs.Common.{true, cond, [], ◌∷◌, ◌++◌, refl, sym, ◌∙◌, ap, subst, arith}
use Rattle.std.proofs.lemmas.Bool.{true≢false}
use Rattle.dms_history.specs.Entries.{Kind, begin_restore, how_of}
use Rattle.dms_audrec.specs.Seen.{how_seen}
use Rattle.dms_restore.specs.Begins.{BegunAt, BeginsRestore, begun_to}
use Rattle.dms_history.proofs.Order.{append_none}
use Rattle.dms_audfile.specs.TrailEntries.{trail_entries}
use Rattle.dms_restore.proofs.Laid.{none_silent}
use Rattle.dms_restore.specs.GrowLaws.{log_grows_more, log_grows_none, starts_takes}
use Rattle.dms_restore.specs.Logging.{LogView, view}
use Rattle.dms_restore.specs.Views.{view_of}
use Rattle.dms_restore.proofs.Results.{one_if_ok, one_if_err}
use Rattle.dms_opening.proofs.Started.{audit_kind, may_run, last_found, begun_new, keeps_new, leaves_new, begun_found, keeps_found, leaves_found}
use Rattle.dms_opening.proofs.starting.start.Goals as goal

pub returns-then-begins-clause-begun : goal.returns-then-begins-clause-begun
returns-then-begins-clause-begun g c = one_if_ok c.begin.result c.begin.ensures.begun (λ b begun p tells kind s.
    let v : LogView = view c.args.log.end c.args.log.first (g.S.Site.files c.args.log.site) (g.S.Site.clock c.args.log.site) in
    begun_new v c.args.begins c.args.point p s c.if-begins.true _ (subst (λ (k : Kind). BegunAt (begun_to v c.args.point (how_of k)) (view_of g.S.Site b.log)) kind (begun tells (audit_kind _ kind) (may_run v c.args.begins c.args.point p s c.if-begins.true) (last_found v c.args.begins c.args.point p s c.if-begins.true))))

pub returns-then-begins-clause-keeps : goal.returns-then-begins-clause-keeps
returns-then-begins-clause-keeps g c = one_if_ok c.begin.result c.begin.ensures.keeps (λ b keeps p tells kind s.
    let v : LogView = view c.args.log.end c.args.log.first (g.S.Site.files c.args.log.site) (g.S.Site.clock c.args.log.site) in
    keeps_new v c.args.begins c.args.point p s c.if-begins.true _ (subst (λ (k : Kind). BeginsRestore v (view_of g.S.Site b.log) c.args.point (how_of k)) kind (keeps tells (audit_kind _ kind) (may_run v c.args.begins c.args.point p s c.if-begins.true) (last_found v c.args.begins c.args.point p s c.if-begins.true))))

pub returns-then-begins-clause-moments : goal.returns-then-begins-clause-moments
returns-then-begins-clause-moments g c = one_if_ok c.begin.result c.begin.ensures.moments (λ b leaves p tells kind s.
    let v : LogView = view c.args.log.end c.args.log.first (g.S.Site.files c.args.log.site) (g.S.Site.clock c.args.log.site) in
    leaves_new v c.args.begins c.args.point p s _ (leaves tells (audit_kind _ kind) (may_run v c.args.begins c.args.point p s c.if-begins.true) (last_found v c.args.begins c.args.point p s c.if-begins.true)))

pub returns-then-begins-clause-stopped : goal.returns-then-begins-clause-stopped
returns-then-begins-clause-stopped g c = one_if_err c.begin.result c.begin.ensures.stopped (λ e leaves p tells kind s.
    let v : LogView = view c.args.log.end c.args.log.first (g.S.Site.files c.args.log.site) (g.S.Site.clock c.args.log.site) in
    leaves_new v c.args.begins c.args.point p s _ (leaves tells (audit_kind _ kind) (may_run v c.args.begins c.args.point p s c.if-begins.true) (last_found v c.args.begins c.args.point p s c.if-begins.true)))

pub returns-else-begins-clause-begun : goal.returns-else-begins-clause-begun
returns-else-begins-clause-begun g c p tells kind s =
    let v : LogView = view c.args.log.end c.args.log.first (g.S.Site.files c.args.log.site) (g.S.Site.clock c.args.log.site) in
    begun_found v c.args.begins c.args.point p s c.if-begins.false

pub returns-else-begins-clause-keeps : goal.returns-else-begins-clause-keeps
returns-else-begins-clause-keeps g c p tells kind s = keeps_found p (view c.args.log.end c.args.log.first (g.S.Site.files c.args.log.site) (g.S.Site.clock c.args.log.site))

pub returns-else-begins-clause-moments : goal.returns-else-begins-clause-moments
returns-else-begins-clause-moments g c p tells kind s = leaves_found (view c.args.log.end c.args.log.first (g.S.Site.files c.args.log.site) (g.S.Site.clock c.args.log.site))

pub returns-else-begins-clause-grown : goal.returns-else-begins-clause-grown
returns-else-begins-clause-grown g c tells start = let v : LogView = view_of g.S.Site c.args.log in log_grows_more 0 1 v v (omega arith) (log_grows_none v)

pub returns-then-begins-clause-sealed : goal.returns-then-begins-clause-sealed
returns-then-begins-clause-sealed g c = one_if_ok c.begin.result c.begin.ensures.sealed (λ b sealed tells start.
    sealed tells start ∙ ap (λ t. trail_entries c.args.log.end.total c.args.log.first (g.S.Site.files c.args.log.site) ++ cond t (begin_restore c.args.point (how_seen c.args.how) ∷ []) []) (sym c.if-begins.true))

pub returns-else-begins-clause-sealed : goal.returns-else-begins-clause-sealed
returns-else-begins-clause-sealed g c tells start =
    let entries = trail_entries c.args.log.end.total c.args.log.first (g.S.Site.files c.args.log.site) in
    sym (append_none entries) ∙ ap (λ t. entries ++ cond t (begin_restore c.args.point (how_seen c.args.how) ∷ []) []) (sym c.if-begins.false)

pub returns-then-begins-clause-begins : goal.returns-then-begins-clause-begins
returns-then-begins-clause-begins g c = one_if_err c.begin.result c.begin.ensures.only (λ e only. c.if-begins.true)

pub returns-then-begins-clause-past : goal.returns-then-begins-clause-past
returns-then-begins-clause-past g c = c.begin.ensures.past

pub returns-else-begins-clause-silent : goal.returns-else-begins-clause-silent
returns-else-begins-clause-silent g c tells start = none_silent _

pub returns-else-begins-clause-starts : goal.returns-else-begins-clause-starts
returns-else-begins-clause-starts g c tells start = start.ends

pub returns-then-begins-clause-ends : goal.returns-then-begins-clause-ends
returns-then-begins-clause-ends g c = c.begin.ensures.ends

pub returns-then-begins-clause-part : goal.returns-then-begins-clause-part
returns-then-begins-clause-part g c = c.begin.ensures.part

pub returns-then-begins-clause-grown : goal.returns-then-begins-clause-grown
returns-then-begins-clause-grown g c = one_if_ok c.begin.result c.begin.ensures.grows (λ b grows tells start. grows tells (starts_takes _ start))

pub returns-then-begins-clause-grown_then : goal.returns-then-begins-clause-grown_then
returns-then-begins-clause-grown_then g c = one_if_err c.begin.result c.begin.ensures.grows_then (λ e grows tells start. grows tells (starts_takes _ start))

pub returns-then-begins-clause-begins_any : goal.returns-then-begins-clause-begins_any
returns-then-begins-clause-begins_any g c = one_if_ok c.begin.result c.begin.ensures.begins_any (λ b any right tells on from. any right tells from)

pub returns-then-begins-clause-leaves : goal.returns-then-begins-clause-leaves
returns-then-begins-clause-leaves g c = one_if_ok c.begin.result c.begin.ensures.leaves (λ b any right tells on from. any right tells from)

pub returns-then-begins-clause-dumps : goal.returns-then-begins-clause-dumps
returns-then-begins-clause-dumps g c = one_if_ok c.begin.result c.begin.ensures.above (λ b above tells f up low. above tells f up)

pub returns-else-begins-clause-begins_any : goal.returns-else-begins-clause-begins_any
returns-else-begins-clause-begins_any g c right tells on = absurd (true≢false (sym on ∙ c.if-begins.false))

pub returns-else-begins-clause-leaves : goal.returns-else-begins-clause-leaves
returns-else-begins-clause-leaves g c right tells on = absurd (true≢false (sym on ∙ c.if-begins.false))

pub returns-else-begins-clause-dumps : goal.returns-else-begins-clause-dumps
returns-else-begins-clause-dumps g c tells f up low = refl

pub returns-then-begins-clause-stays : goal.returns-then-begins-clause-stays
returns-then-begins-clause-stays g c = one_if_ok c.begin.result c.begin.ensures.kind (λ b kind off. absurd (true≢false (sym c.if-begins.true ∙ off)))

pub returns-else-begins-clause-stays : goal.returns-else-begins-clause-stays
returns-else-begins-clause-stays g c off = refl

pub returns-then-begins-clause-above : goal.returns-then-begins-clause-above
returns-then-begins-clause-above g c = one_if_ok c.begin.result c.begin.ensures.above (λ b above. above)
