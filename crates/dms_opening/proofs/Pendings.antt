-- The restore that is pending, as it is kept.
use Rattle.std.proofs.Common.{◌≡◌, List, Option, Some, None, refl, subst}
use Rattle.dms_site.specs.Files.{Files}
use Rattle.dms_history.specs.History.{Pending}
use Rattle.dms_history.specs.Entries.{Entry}
use Rattle.dms_history.specs.EntryEvents.{history_of}
use Rattle.dms_restore.specs.declared.live.PendingAt.{PendingAt}
use Rattle.dms_restore.specs.declared.tracing.TrailHistory.{TrailHistory}
use Rattle.dms_restore.specs.Tracing.{MatchesHow, MatchesRestore, IsPendingAt, MatchesPending, IsTraced}

-- no restore is pending
pub none_pending : (files : Files) (entries : List Entry) (h : TrailHistory) → h.pending ≡ None → IsTraced files entries h → (history_of entries).pending ≡ None
none_pending files entries h none t = go h.pending (history_of entries).pending none t.pending_matches
  where
    go : (q : Option PendingAt) (p : Option Pending) → q ≡ None → MatchesPending files h.live.items h.removed.items q p → p ≡ None
    go q None is m = refl
    go None (Some p) is m = absurd m
    go (Some q) (Some p) is m = absurd cc

-- this one is
pub record SomePending (files : Files) (entries : List Entry) (h : TrailHistory) (q : PendingAt) : Type 0 where
  pub p : Pending
  pub is : (history_of entries).pending ≡ Some p
  pub at : IsPendingAt files h.live.items h.removed.items q p
  pub how : MatchesHow q.how h.rows.items p.how

pub some_pending : (files : Files) (entries : List Entry) (h : TrailHistory) (q : PendingAt) → h.pending ≡ Some q → IsTraced files entries h → SomePending files entries h q
some_pending files entries h q some t = go h.pending (history_of entries).pending some refl t.pending_matches t.how_matches
  where
    go : (x : Option PendingAt) (o : Option Pending) → x ≡ Some q → (history_of entries).pending ≡ o → MatchesPending files h.live.items h.removed.items x o → MatchesRestore x h.rows.items o → SomePending files entries h q
    go None None is pending m by = absurd cc
    go None (Some p) is pending m by = absurd m
    go (Some x) None is pending m by = absurd m
    go (Some x) (Some p) is pending m by =
        let same : x ≡ q = cc is in
        record { p = p; is = pending; at = subst (λ (y : PendingAt). IsPendingAt files h.live.items h.removed.items y p) same m; how = subst (λ (y : PendingAt). MatchesHow y.how h.rows.items p.how) same by }
