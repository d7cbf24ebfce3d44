use Rattle.std.proofs.Common.{◌∙◌, sym, subst}
use Rattle.dms_site.specs.Files.{Only, stored_of}
use Rattle.dms_history.specs.Entries.{named_by}
use Rattle.dms_restore.specs.Logging.{telling_of}
use Rattle.dms_restore.specs.Views.{view_of}
use Rattle.dms_opening.specs.Doing.{kind_asked}
use Rattle.dms_recovery.specs.Leaving.{HoldsUpTo, MendsTo, RollsTo, RestoresTo}
use Rattle.dms_recovery.specs.Refusing.{RecoveryGrows}
use Rattle.dms_recovery.specs.Wanting.{asked_with, last_of}
use Rattle.dms_moments.specs.Moments.{Runs}
use Rattle.dms_recovery.specs.Marks.{MarksWanted}
use Rattle.dms_recovery.proofs.Marked.{marks_here}
use Rattle.dms_recovery.proofs.Seen.{ready_here, none_before, may_begin_here, ends_here, leaves_here, grows_here, point_of_trail, rolls_here, rolled_here, rolls_since, mends_here, mended_here, mends_since}
use Rattle.dms_recovery.proofs.recovering.recover.Goals as goal

pub returns-in-Ok-clause-ends : goal.returns-in-Ok-clause-ends
returns-in-Ok-clause-ends g c wanted rows from meant looked u t f tells may =
    let p = c.args.planned in
    let o = c.in-Ok.opened in
    let r = c.in-Ok.ensures in
    let kind = meant.is (last_of p.log.end.total p.log.first (g.S.Site.files p.log.site)) in
    let begin = may_begin_here g.S.Site from p (looked.stays.files tells) (looked.trail tells) (looked.starts tells) wanted rows (looked.plans tells) t f u may _ kind in
    let runs = r.runs_to (stored_of u) tells (none_before g.S.Site from p (looked.stays.files tells) (looked.trail tells) (looked.starts tells) wanted rows (looked.plans tells) t f u may) begin in
    let done = ends_here g.S.Site from p (looked.stays.files tells) (looked.trail tells) (looked.starts tells) wanted rows (looked.plans tells) t f u may o.log.site (view_of g.S.Site o.log) r.kind.0 r.kind.2 _ runs (g.met.S.Site.may_stay o.log.site tells) c.recovered.result.point (c.recovered.ensures.1 ∙ r.point) in
    subst (λ s. HoldsUpTo (telling_of t f) u c.recovered.result.point (g.S.Site.files s) × Only (g.S.Site.files s) (g.S.Site.clock s)) (sym c.recovered.ensures.0) done

pub returns-in-Ok-clause-point : goal.returns-in-Ok-clause-point
returns-in-Ok-clause-point g c wanted rows from meant looked t f tells found n is =
    let p = c.args.planned in
    c.recovered.ensures.1 ∙ c.in-Ok.ensures.point ∙ point_of_trail g.S.Site from p (looked.stays.files tells) (looked.trail tells) (looked.starts tells) wanted rows (looked.plans tells) t f found n is

pub returns-in-Ok-clause-moments : goal.returns-in-Ok-clause-moments
returns-in-Ok-clause-moments g c wanted rows from meant looked u t f n tells may is =
    let p = c.args.planned in
    let o = c.in-Ok.opened in
    let r = c.in-Ok.ensures in
    let kind = meant.is (last_of p.log.end.total p.log.first (g.S.Site.files p.log.site)) in
    let begin = may_begin_here g.S.Site from p (looked.stays.files tells) (looked.trail tells) (looked.starts tells) wanted rows (looked.plans tells) t f u may _ kind in
    let leaves = r.leaves (stored_of u) tells (none_before g.S.Site from p (looked.stays.files tells) (looked.trail tells) (looked.starts tells) wanted rows (looked.plans tells) t f u may) begin in
    subst (λ s. Runs (g.S.Site.clock from) (g.S.Site.clock s) (RestoresTo (telling_of t f) (g.S.Site.files from) u n)) (sym c.recovered.ensures.0)
    (leaves_here g.S.Site from p (looked.stays.files tells) (looked.trail tells) (looked.starts tells) wanted rows (looked.plans tells) t f u may n o.log.site is g.met.S.Site.counts_now looked.stays.moments leaves)

pub returns-in-Err-clause-stopped : goal.returns-in-Err-clause-stopped
returns-in-Err-clause-stopped g c wanted rows from meant looked u t f n tells may is =
    let p = c.args.planned in
    let r = c.in-Err.ensures in
    let kind = meant.is (last_of p.log.end.total p.log.first (g.S.Site.files p.log.site)) in
    let begin = may_begin_here g.S.Site from p (looked.stays.files tells) (looked.trail tells) (looked.starts tells) wanted rows (looked.plans tells) t f u may _ kind in
    let leaves = r.leaves_then (stored_of u) tells (none_before g.S.Site from p (looked.stays.files tells) (looked.trail tells) (looked.starts tells) wanted rows (looked.plans tells) t f u may) begin in
    leaves_here g.S.Site from p (looked.stays.files tells) (looked.trail tells) (looked.starts tells) wanted rows (looked.plans tells) t f u may n c.in-Err.refused.1 is g.met.S.Site.counts_now looked.stays.moments leaves

pub returns-in-Err-clause-full : goal.returns-in-Err-clause-full
returns-in-Err-clause-full g c wanted rows from looked tells full =
    let p = c.args.planned in
    record {
      total = p.log.end.total;
      first = p.log.first;
      trail = looked.trail tells;
      full = c.in-Err.ensures.full tells (ready_here g.S.Site from p (looked.stays.files tells) (looked.trail tells) (looked.starts tells) wanted rows (looked.plans tells)) full;
    }

pub returns-in-Ok-clause-grows : goal.returns-in-Ok-clause-grows
returns-in-Ok-clause-grows g c wanted rows from looked tells =
    let p = c.args.planned in
    let grown = c.in-Ok.ensures.grown tells (ready_here g.S.Site from p (looked.stays.files tells) (looked.trail tells) (looked.starts tells) wanted rows (looked.plans tells)) in
    subst (λ s. RecoveryGrows g.S.Site from s) (sym c.recovered.ensures.0)
    (grows_here g.S.Site from p (looked.stays.files tells) (looked.trail tells) (looked.starts tells) wanted rows (looked.plans tells) c.in-Ok.opened.log.site looked.stays.moments grown.stays.kept grown.stays.left grown.few)

pub returns-in-Err-clause-grows_then : goal.returns-in-Err-clause-grows_then
returns-in-Err-clause-grows_then g c wanted rows from looked tells =
    let p = c.args.planned in
    let grown = c.in-Err.ensures.grown_then tells (ready_here g.S.Site from p (looked.stays.files tells) (looked.trail tells) (looked.starts tells) wanted rows (looked.plans tells)) in
    grows_here g.S.Site from p (looked.stays.files tells) (looked.trail tells) (looked.starts tells) wanted rows (looked.plans tells) c.in-Err.refused.1 looked.stays.moments grown.stays.kept grown.stays.left grown.few

pub returns-in-Ok-clause-rolled : goal.returns-in-Ok-clause-rolled
returns-in-Ok-clause-rolled g c wanted rows from meant looked n t f q tells is found pending whole =
    let p = c.args.planned in
    let none = meant.plain n is in
    let kind = meant.is (last_of t f (g.S.Site.files from)) ∙ (λ i. kind_asked (asked_with (last_of t f (g.S.Site.files from)) (is i)) (none i)) in
    subst (λ s. HoldsUpTo (telling_of t f) (g.S.Site.files from) n (g.S.Site.files s) × Only (g.S.Site.files s) (g.S.Site.clock s)) (sym c.recovered.ensures.0)
    (rolled_here g.S.Site from p (looked.stays.files tells) (looked.trail tells) (looked.starts tells) wanted rows (looked.plans tells) t f n q found pending whole is none c.in-Ok.opened.log.site
    (c.in-Ok.ensures.rolled _ tells kind (rolls_here g.S.Site from p (looked.stays.files tells) (looked.trail tells) (looked.starts tells) wanted rows (looked.plans tells) t f n q found pending whole is none)))

pub returns-in-Ok-clause-rolls : goal.returns-in-Ok-clause-rolls
returns-in-Ok-clause-rolls g c wanted rows from meant looked n t f q tells is found pending whole =
    let p = c.args.planned in
    let none = meant.plain n is in
    let kind = meant.is (last_of t f (g.S.Site.files from)) ∙ (λ i. kind_asked (asked_with (last_of t f (g.S.Site.files from)) (is i)) (none i)) in
    subst (λ s. Runs (g.S.Site.clock from) (g.S.Site.clock s) (RollsTo (telling_of t f) (g.S.Site.files from) n)) (sym c.recovered.ensures.0)
    (rolls_since g.S.Site from p (looked.stays.files tells) (looked.trail tells) (looked.starts tells) wanted rows (looked.plans tells) t f n q found pending whole is none c.in-Ok.opened.log.site g.met.S.Site.counts_now looked.stays.moments
    (c.in-Ok.ensures.rolls _ tells kind (rolls_here g.S.Site from p (looked.stays.files tells) (looked.trail tells) (looked.starts tells) wanted rows (looked.plans tells) t f n q found pending whole is none)))

pub returns-in-Err-clause-rolls_then : goal.returns-in-Err-clause-rolls_then
returns-in-Err-clause-rolls_then g c wanted rows from meant looked n t f q tells is found pending whole =
    let p = c.args.planned in
    let none = meant.plain n is in
    let kind = meant.is (last_of t f (g.S.Site.files from)) ∙ (λ i. kind_asked (asked_with (last_of t f (g.S.Site.files from)) (is i)) (none i)) in
    rolls_since g.S.Site from p (looked.stays.files tells) (looked.trail tells) (looked.starts tells) wanted rows (looked.plans tells) t f n q found pending whole is none c.in-Err.refused.1 g.met.S.Site.counts_now looked.stays.moments
    (c.in-Err.ensures.rolls_then _ tells kind (rolls_here g.S.Site from p (looked.stays.files tells) (looked.trail tells) (looked.starts tells) wanted rows (looked.plans tells) t f n q found pending whole is none))

pub returns-in-Ok-clause-mended : goal.returns-in-Ok-clause-mended
returns-in-Ok-clause-mended g c wanted rows from meant looked u d n t f q tells is found pending last mended =
    let p = c.args.planned in
    let kind = meant.is (last_of t f (g.S.Site.files from)) ∙ (λ i. kind_asked (asked_with (last_of t f (g.S.Site.files from)) (is i)) rows) in
    subst (λ s. HoldsUpTo (telling_of t f) u n (g.S.Site.files s) × Only (g.S.Site.files s) (g.S.Site.clock s)) (sym c.recovered.ensures.0)
    (mended_here g.S.Site from p (looked.stays.files tells) (looked.trail tells) (looked.starts tells) wanted rows (looked.plans tells) t f n d q u found pending last mended is c.in-Ok.opened.log.site
    (c.in-Ok.ensures.mended u d rows tells kind (mends_here g.S.Site from p (looked.stays.files tells) (looked.trail tells) (looked.starts tells) wanted rows (looked.plans tells) t f n d q u found pending last mended is)))

pub returns-in-Ok-clause-mends : goal.returns-in-Ok-clause-mends
returns-in-Ok-clause-mends g c wanted rows from meant looked u d n t f q tells is found pending last mended =
    let p = c.args.planned in
    let kind = meant.is (last_of t f (g.S.Site.files from)) ∙ (λ i. kind_asked (asked_with (last_of t f (g.S.Site.files from)) (is i)) rows) in
    subst (λ s. Runs (g.S.Site.clock from) (g.S.Site.clock s) (MendsTo (telling_of t f) (g.S.Site.files from) u (named_by rows) n)) (sym c.recovered.ensures.0)
    (mends_since g.S.Site from p (looked.stays.files tells) (looked.trail tells) (looked.starts tells) wanted rows (looked.plans tells) t f n d q u found pending last mended is c.in-Ok.opened.log.site g.met.S.Site.counts_now looked.stays.moments
    (c.in-Ok.ensures.mends u d rows tells kind (mends_here g.S.Site from p (looked.stays.files tells) (looked.trail tells) (looked.starts tells) wanted rows (looked.plans tells) t f n d q u found pending last mended is)))

pub returns-in-Err-clause-mends_then : goal.returns-in-Err-clause-mends_then
returns-in-Err-clause-mends_then g c wanted rows from meant looked u d n t f q tells is found pending last mended =
    let p = c.args.planned in
    let kind = meant.is (last_of t f (g.S.Site.files from)) ∙ (λ i. kind_asked (asked_with (last_of t f (g.S.Site.files from)) (is i)) rows) in
    mends_since g.S.Site from p (looked.stays.files tells) (looked.trail tells) (looked.starts tells) wanted rows (looked.plans tells) t f n d q u found pending last mended is c.in-Err.refused.1 g.met.S.Site.counts_now looked.stays.moments
    (c.in-Err.ensures.mends_then u d rows tells kind (mends_here g.S.Site from p (looked.stays.files tells) (looked.trail tells) (looked.starts tells) wanted rows (looked.plans tells) t f n d q u found pending last mended is))

pub returns-in-Err-clause-only : goal.returns-in-Err-clause-only
returns-in-Err-clause-only g c wanted rows from looked tells =
    c.in-Err.ensures.only tells (ready_here g.S.Site from c.args.planned (looked.stays.files tells) (looked.trail tells) (looked.starts tells) wanted rows (looked.plans tells))

pub returns-in-Ok-clause-same : goal.returns-in-Ok-clause-same
returns-in-Ok-clause-same g c = subst (λ s. g.S.Site.same_site c.args.planned.log.site s) (sym c.recovered.ensures.0) c.in-Ok.ensures.same

pub returns-in-Ok-clause-marked : goal.returns-in-Ok-clause-marked
returns-in-Ok-clause-marked g c wanted rows from looked tells =
    let p = c.args.planned in
    subst (λ s. MarksWanted (g.S.Site.files from) (g.S.Site.files s) wanted rows) (sym c.recovered.ensures.0)
    (marks_here g.S.Site from p (looked.stays.files tells) (looked.trail tells) (looked.starts tells) wanted rows (looked.plans tells) (g.S.Site.files c.in-Ok.opened.log.site) (λ first r all. c.in-Ok.ensures.marked first r tells all))
