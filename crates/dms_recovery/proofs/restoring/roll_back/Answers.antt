use Rattle.std.proofs.Common.{[], refl, subst}
use Rattle.dms_moments.specs.Moments.{Runs}
use Rattle.dms_moments.specs.MomentLaws.{runs_weaken}
use Rattle.dms_site.specs.Files.{Only}
use Rattle.dms_history.specs.EntryEvents.{history_of}
use Rattle.dms_audfile.specs.TrailEntries.{trail_entries}
use Rattle.dms_restore.specs.Logging.{telling_of}
use Rattle.dms_restore.proofs.Results.{one_if_ok, two_if_ok, three_if_ok}
use Rattle.dms_recovery.specs.Leaving.{HoldsUpTo, RollsTo}
use Rattle.dms_recovery.specs.declared.wanted.Wanted.TheVariants.{Rollback}
use Rattle.dms_recovery.proofs.Rolled.{by_pending, may_roll, meant_roll, rolls, low_first, two_if_err}
use Rattle.dms_recovery.proofs.restoring.roll_back.Goals as goal

pub returns-clause-ends : goal.returns-clause-ends
returns-clause-ends g c = three_if_ok c.recover.result c.recover.ensures.ends c.recover.ensures.point c.recover.ensures.rolled (λ r ends point rolled n from looked t f tells trail whole.
    let files = g.S.Site.files from in
    by_pending (history_of (trail_entries t f files)).pending (HoldsUpTo (telling_of t f) files n (g.S.Site.files r.site) × Only (g.S.Site.files r.site) (g.S.Site.clock r.site))
    (λ none. subst (λ m. HoldsUpTo (telling_of t f) files m (g.S.Site.files r.site) × Only (g.S.Site.files r.site) (g.S.Site.clock r.site)) (point (Rollback n) [] from (meant_roll n) looked t f tells trail n refl)
    (ends (Rollback n) [] from (meant_roll n) looked files t f tells (may_roll t f n files trail none whole)))
    (λ q some. rolled (Rollback n) [] from (meant_roll n) looked n t f q tells refl trail some whole))

pub returns-clause-moments : goal.returns-clause-moments
returns-clause-moments g c = two_if_ok c.recover.result c.recover.ensures.moments c.recover.ensures.rolls (λ r moments since n from looked t f tells trail whole.
    let files = g.S.Site.files from in
    by_pending (history_of (trail_entries t f files)).pending (Runs (g.S.Site.clock from) (g.S.Site.clock r.site) (RollsTo (telling_of t f) files n))
    (λ none. runs_weaken (moments (Rollback n) [] from (meant_roll n) looked files t f n tells (may_roll t f n files trail none whole) refl) (λ x leaves. rolls t f n files x (low_first t f files trail) whole leaves))
    (λ q some. since (Rollback n) [] from (meant_roll n) looked n t f q tells refl trail some whole))

pub returns-clause-stopped : goal.returns-clause-stopped
returns-clause-stopped g c = two_if_err c.recover.result c.recover.ensures.stopped c.recover.ensures.rolls_then (λ e moments since n from looked t f tells trail whole.
    let files = g.S.Site.files from in
    by_pending (history_of (trail_entries t f files)).pending (Runs (g.S.Site.clock from) (g.S.Site.clock e.1) (RollsTo (telling_of t f) files n))
    (λ none. runs_weaken (moments (Rollback n) [] from (meant_roll n) looked files t f n tells (may_roll t f n files trail none whole) refl) (λ x leaves. rolls t f n files x (low_first t f files trail) whole leaves))
    (λ q some. since (Rollback n) [] from (meant_roll n) looked n t f q tells refl trail some whole))

pub returns-clause-point : goal.returns-clause-point
returns-clause-point g c = one_if_ok c.recover.result c.recover.ensures.point (λ r point n from looked tells t f trail. point (Rollback n) [] from (meant_roll n) looked t f tells trail n refl)

pub returns-clause-marked : goal.returns-clause-marked
returns-clause-marked g c = one_if_ok c.recover.result c.recover.ensures.marked (λ r marked n from looked tells. marked (Rollback n) [] from looked tells)
