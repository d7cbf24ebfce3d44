use Rattle.std.proofs.Common.{◌≤◌, inl, length, refl, sym, subst}
use Rattle.dms_audrec.specs.Spelling.{AreRows}
use Rattle.dms_moments.specs.Moments.{Runs}
use Rattle.dms_moments.specs.MomentLaws.{runs_weaken}
use Rattle.dms_site.specs.Files.{Only}
use Rattle.dms_history.specs.EntryEvents.{history_of}
use Rattle.dms_history.specs.Entries.{named_by}
use Rattle.dms_audfile.specs.TrailEntries.{trail_entries}
use Rattle.dms_restore.specs.Logging.{telling_of}
use Rattle.dms_recovery.specs.Leaving.{HoldsUpTo, MendsTo}
use Rattle.dms_recovery.specs.Looked.{rows_in}
use Rattle.dms_recovery.specs.declared.wanted.Wanted.TheVariants.{Reconstruct}
use Rattle.dms_restore.proofs.Results.{one_if_ok, two_if_ok, three_if_ok, one_if_err}
use Rattle.dms_recovery.proofs.Named.{mends_as, mends_in}
use Rattle.dms_recovery.proofs.Rolled.{by_pending, may_mend, meant_rows, two_if_err}
use Rattle.dms_recovery.proofs.reconstructing.reconstruct.Goals as goal

pub recover-requires-clause-kind : goal.recover-requires-clause-kind
recover-requires-clause-kind g c = ((c.requires.some, c.requires.few), subst (λ l. AreRows (rows_in l)) (sym c.as_slice.ensures) c.requires.rows)

pub recover-requires-clause-few : goal.recover-requires-clause-few
recover-requires-clause-few g c = subst (λ l. length (rows_in l) ≤ 100) (sym c.as_slice.ensures) c.requires.hundred

pub returns-clause-ends : goal.returns-clause-ends
returns-clause-ends g c = three_if_ok c.recover.result c.recover.ensures.ends c.recover.ensures.point c.recover.ensures.mended (λ r ends point mended named from looked u t f n desc tells may.
    let files = g.S.Site.files from in
    let d = c.args.dump in
    let rows = rows_in c.args.looked.list in
    let meant = meant_rows d c.args.looked.list c.as_slice.result.now c.as_slice.ensures in
    let m = mends_in g.S.Site from from refl t f u d named rows rows refl n desc (looked.names tells) may in
    by_pending (history_of (trail_entries t f files)).pending (HoldsUpTo (telling_of t f) u n (g.S.Site.files r.site) × Only (g.S.Site.files r.site) (g.S.Site.clock r.site))
    (λ none. subst (λ k. HoldsUpTo (telling_of t f) u k (g.S.Site.files r.site) × Only (g.S.Site.files r.site) (g.S.Site.clock r.site)) (point (Reconstruct d) rows from meant looked.looked t f tells m.trail n m.last)
    (ends (Reconstruct d) rows from meant looked.looked u t f tells (may_mend t f d rows files u m.trail none m.mended)))
    (λ q some. mended (Reconstruct d) rows from meant looked.looked u d n t f q tells refl m.trail some m.last m.mended))

pub returns-clause-moments : goal.returns-clause-moments
returns-clause-moments g c = two_if_ok c.recover.result c.recover.ensures.moments c.recover.ensures.mends (λ r moments since named from looked u t f n desc tells may.
    let files = g.S.Site.files from in
    let d = c.args.dump in
    let rows = rows_in c.args.looked.list in
    let meant = meant_rows d c.args.looked.list c.as_slice.result.now c.as_slice.ensures in
    let m = mends_in g.S.Site from from refl t f u d named rows rows refl n desc (looked.names tells) may in
    mends_as g.S.Site from r.site t f u d named rows n desc (looked.names tells) may
    (by_pending (history_of (trail_entries t f files)).pending (Runs (g.S.Site.clock from) (g.S.Site.clock r.site) (MendsTo (telling_of t f) files u (named_by rows) n))
    (λ none. runs_weaken (moments (Reconstruct d) rows from meant looked.looked u t f n tells (may_mend t f d rows files u m.trail none m.mended) m.last) (λ x leaves. inl leaves))
    (λ q some. since (Reconstruct d) rows from meant looked.looked u d n t f q tells refl m.trail some m.last m.mended)))

pub returns-clause-stopped : goal.returns-clause-stopped
returns-clause-stopped g c = two_if_err c.recover.result c.recover.ensures.stopped c.recover.ensures.mends_then (λ e moments since named from looked u t f n desc tells may.
    let files = g.S.Site.files from in
    let d = c.args.dump in
    let rows = rows_in c.args.looked.list in
    let meant = meant_rows d c.args.looked.list c.as_slice.result.now c.as_slice.ensures in
    let m = mends_in g.S.Site from from refl t f u d named rows rows refl n desc (looked.names tells) may in
    mends_as g.S.Site from e.1 t f u d named rows n desc (looked.names tells) may
    (by_pending (history_of (trail_entries t f files)).pending (Runs (g.S.Site.clock from) (g.S.Site.clock e.1) (MendsTo (telling_of t f) files u (named_by rows) n))
    (λ none. runs_weaken (moments (Reconstruct d) rows from meant looked.looked u t f n tells (may_mend t f d rows files u m.trail none m.mended) m.last) (λ x leaves. inl leaves))
    (λ q some. since (Reconstruct d) rows from meant looked.looked u d n t f q tells refl m.trail some m.last m.mended)))

pub returns-clause-point : goal.returns-clause-point
returns-clause-point g c = one_if_ok c.recover.result c.recover.ensures.point (λ r point named from looked tells t f n trail last.
    let d = c.args.dump in
    point (Reconstruct d) (rows_in c.args.looked.list) from (meant_rows d c.args.looked.list c.as_slice.result.now c.as_slice.ensures) looked.looked t f tells trail n last)

pub returns-clause-only : goal.returns-clause-only
returns-clause-only g c = one_if_err c.recover.result c.recover.ensures.only (λ e only named from looked. only (Reconstruct c.args.dump) (rows_in c.args.looked.list) from looked.looked)

pub returns-clause-full : goal.returns-clause-full
returns-clause-full g c = one_if_err c.recover.result c.recover.ensures.full (λ e full named from looked. full (Reconstruct c.args.dump) (rows_in c.args.looked.list) from looked.looked)

pub returns-clause-grows : goal.returns-clause-grows
returns-clause-grows g c = one_if_ok c.recover.result c.recover.ensures.grows (λ r grows named from looked. grows (Reconstruct c.args.dump) (rows_in c.args.looked.list) from looked.looked)

pub returns-clause-grows_then : goal.returns-clause-grows_then
returns-clause-grows_then g c = one_if_err c.recover.result c.recover.ensures.grows_then (λ e grows named from looked. grows (Reconstruct c.args.dump) (rows_in c.args.looked.list) from looked.looked)

pub returns-clause-marked : goal.returns-clause-marked
returns-clause-marked g c = one_if_ok c.recover.result c.recover.ensures.marked (λ r marked named from looked tells.
    let rows = rows_in c.args.looked.list in
    (rows, looked.names tells, marked (Reconstruct c.args.dump) rows from looked.looked tells))
