-- What an opening needs of a trail before its first write.
use Rattle.std.proofs.Common.{ℕ, min, ◌≡◌, Bool, true, false, List, [], ◌∷◌, ◌++◌, length, take, Option, Some, None, refl, sym, ◌∙◌, ap, subst, arith}
use Rattle.dms_site.specs.Files.{Files}
use Rattle.dms_history.specs.Events.{begin}
use Rattle.dms_history.specs.Lists.{until_first}
use Rattle.dms_history.specs.Places.{is_point}
use Rattle.dms_history.specs.History.{Pending, History}
use Rattle.dms_history.specs.Pick.{reached_count, count_at}
use Rattle.dms_history.specs.Entries.{Entry, Kind, begin_restore, how_of}
use Rattle.dms_history.specs.declared.event.Row.{Row}
use Rattle.dms_history.specs.EntryEvents.{history_of}
use Rattle.dms_running.proofs.OneMore.{history_entry}
use Rattle.dms_restore.specs.declared.live.LiveEntry.{LiveEntry}
use Rattle.dms_restore.specs.declared.live.PendingAt.{PendingAt}
use Rattle.dms_restore.specs.declared.tracing.TrailHistory.{TrailHistory}
use Rattle.dms_restore.specs.LiveEntries.{logged_live, events_at}
use Rattle.dms_history.specs.Ranges.{all_changes}
use Rattle.dms_history.proofs.Turns.{changes_until}
use Rattle.dms_restore.proofs.Patched.{reached_own}
use Rattle.dms_opening.specs.declared.asked.Asked.{Asked}
use Rattle.dms_opening.specs.declared.asked.Asked.TheVariants.{HaltLoad, Rollback, Rebuild, Reconstruct}
use Rattle.dms_opening.specs.Doing.{IsDone, goes_first, kind_asked}
use Rattle.dms_restore.specs.Tracing.{IsPendingAt, MatchesPending, IsTraced, TracesPending}

-- entries with the Begin of what is asked behind them
abbrev pub with_begin : List Entry → ℕ → Kind → List Entry
with_begin entries point kind = entries ++ begin_restore point kind ∷ []

pub pending_new : (entries : List Entry) (asked : Asked) (rows : List Row) (begins : Bool) (point : ℕ) (p : Pending) → begins ≡ true → IsDone (history_of entries) asked rows begins point p
    → (history_of (with_begin entries point (kind_asked asked rows))).pending ≡ Some p
pending_new entries asked rows begins point p new o =
    ap (λ (h : History). h.pending) (history_entry entries (begin_restore point (kind_asked asked rows)) (begin point (how_of (kind_asked asked rows))) refl) ∙ ap (λ (q : Pending). Some q) (sym (o.new new).3)

-- what goes on first is pending
pub first_pending : (asked : Asked) (q : Option Pending) (p : Pending) → goes_first asked q ≡ Some p → q ≡ Some p
first_pending HaltLoad q p is = is
first_pending (Rollback n) q p is = is
first_pending (Rebuild d n) q p is = absurd cc
first_pending (Reconstruct d) q p is = is

pub traces_new : (files : Files) (entries : List Entry) (asked : Asked) (rows : List Row) (begins : Bool) (point : ℕ) (h : TrailHistory) (p : Pending) → begins ≡ true → IsDone (history_of entries) asked rows begins point p
    → IsTraced files (with_begin entries point (kind_asked asked rows)) h → TracesPending files h p
traces_new files entries asked rows begins point h p new o t = record { entries = with_begin entries point (kind_asked asked rows); traced = t; pending = pending_new entries asked rows begins point p new o }

pub traces_old : (files : Files) (entries : List Entry) (asked : Asked) (rows : List Row) (begins : Bool) (point : ℕ) (h : TrailHistory) (p : Pending) → begins ≡ false → IsDone (history_of entries) asked rows begins point p → IsTraced files entries h
    → TracesPending files h p
traces_old files entries asked rows begins point h p old o t = record { entries = entries; traced = t; pending = first_pending asked (history_of entries).pending p (o.goes_on old) }

-- the pending restore as it is kept
pub record HoldsPending (files : Files) (h : TrailHistory) (p : Pending) : Type 0 where
  pub q : PendingAt
  pub is : h.pending ≡ Some q
  pub at : IsPendingAt files h.live.items h.removed.items q p

pub holds : (files : Files) (entries : List Entry) (h : TrailHistory) (p : Pending) → IsTraced files entries h → (history_of entries).pending ≡ Some p → HoldsPending files h p
holds files entries h p t is = go h.pending refl (subst (λ (o : Option Pending). MatchesPending files h.live.items h.removed.items h.pending o) is t.pending_matches)
  where
    go : (o : Option PendingAt) → h.pending ≡ o → MatchesPending files h.live.items h.removed.items o (Some p) → HoldsPending files h p
    go None none m = absurd m
    go (Some q) some m = record { q = q; is = some; at = m }

-- the counts at its point
pub counts_at_point : (files : Files) (h : TrailHistory) (p : Pending) (kept size f n : ℕ) (lent : List LiveEntry) → lent ≡ h.live.items → size ≡ length h.live.items → ((q : PendingAt) → h.pending ≡ Some q → kept ≡ min q.kept size) → TracesPending files h p
    → n ≡ reached_count f 0 (events_at files (take kept lent)) → n ≡ count_at p.entries p.point f
unfolding count_at
counts_at_point files h p kept size f n lent same long least t is =
    let held : HoldsPending files h p = holds files t.entries h p t.traced t.pending in
    let all : kept ≡ held.q.kept = omega (arith, least held.q held.is, long, held.at.within) in
    let front = logged_live files (take held.q.kept h.live.items) in
    is ∙ (λ i. reached_count f 0 (events_at files (take (all i) (same i)))) ∙ sym (reached_own f front)
    ∙ ap (reached_count f 0) (ap all_changes (sym held.at.front) ∙ changes_until held.q.point (logged_live files (take held.q.kept h.live.items ++ h.removed.items)))
    ∙ (λ i. reached_count f 0 (until_first (is_point (sym held.at.point_is i)) (sym held.at.entries_are i)))
