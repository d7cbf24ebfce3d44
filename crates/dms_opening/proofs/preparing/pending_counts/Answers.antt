use Rattle.std.proofs.Common.{◌≡◌, length, arith}
use Rattle.dms_restore.proofs.Results.{one_if_ok, one_if_err}
use Rattle.dms_opening.proofs.Prepared.{counts_at_point}
use Rattle.dms_opening.proofs.Counted.{none_in_front}
use Rattle.dms_opening.proofs.Standing.{all_counted}
use Rattle.dms_opening.proofs.preparing.pending_counts.Goals as goal

pub returns-clause-counts : goal.returns-clause-counts
returns-clause-counts g c = one_if_ok c.counts_after.result c.counts_after.ensures.counts (λ v counts tells p t f.
    let live = c.args.history.now.live in
    let size : c.len.result ≡ length live.items = omega (arith, c.len.ensures, live.ok.0) in
    counts_at_point (g.S.Site.files c.args.site.now) c.args.history.now p c.kept_of-kept.result c.len.result f _ _ c.deref.ensures.value size c.kept_of-kept.ensures.kept t (counts tells f))

pub returns-clause-only : goal.returns-clause-only
returns-clause-only g c = one_if_err c.counts_after.result c.counts_after.ensures.only (λ e only. none_in_front g.S.Site.tells (g.S.Site.files c.args.site.now) c.kept_of-kept.result c.args.history.now.live.items _ e c.deref.ensures.value only)

pub returns-clause-scanned : goal.returns-clause-scanned
returns-clause-scanned g c =
    let tells = g.S.Site.tells in
    let files = g.S.Site.files c.args.site.now in
    let live = c.args.history.now.live.items in
    one_if_err c.counts_after.result c.counts_after.ensures.only (λ e only t p traces.
    all_counted tells files live e t traces.traced.live_whole (none_in_front tells files c.kept_of-kept.result live _ e c.deref.ensures.value only))
