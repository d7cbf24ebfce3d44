-- What the restore that is pending writes, from the history that is kept in memory.
use Rattle.std.proofs.Common.{ℕ, ◌≤◌, ◌≡◌, cond, List, [], ◌++◌, length, take, Option, Some, None, sym, ◌∙◌, ap, subst}
use Rattle.dms_site.specs.Files.{Files}
use Rattle.dms_history.specs.Events.{Event}
use Rattle.dms_history.specs.Lists.{until_first, after_first}
use Rattle.dms_history.specs.Ranges.{is_point_logged}
use Rattle.dms_history.specs.History.{Pending}
use Rattle.dms_history.specs.Pick.{count_at}
use Rattle.dms_history.specs.EntryEvents.{history_of}
use Rattle.dms_history.specs.declared.event.Row.{Row}
use Rattle.dms_dump.specs.declared.reading.DumpHead.{DumpHead}
use Rattle.dms_restore.specs.declared.live.LiveEntry.{LiveEntry}
use Rattle.dms_restore.specs.declared.live.PendingAt.{PendingAt}
use Rattle.dms_restore.specs.declared.restore_table.RestoreTable.{RestoreTable}
use Rattle.dms_restore.specs.declared.tracing.TrailHistory.{TrailHistory}
use Rattle.dms_restore.specs.Dumped.{dumps_of}
use Rattle.dms_restore.specs.LiveEntries.{logged_live, AllStandWhole}
use Rattle.dms_restore.specs.Table.{IsPlanOf, IsPlan}
use Rattle.dms_restore.specs.Tracing.{MatchesHow, MatchesRestore, IsPendingAt, TracesPending}
use Rattle.dms_restore.specs.Planned.{IsHeadFor, AreCountsAt, CutsAt, PlansCut}
use Rattle.dms_restore.proofs.PendingTables.{pending_is}
use Rattle.dms_restore.proofs.Traced.{whole_take}

-- the entries up to the place of its point and those behind it
pending_cut : (files : Files) (live removed : List LiveEntry) (q : PendingAt) (p : Pending) (k : ℕ) (behind : List LiveEntry) → (q.kept ≤ length live → k ≡ q.kept)
    → logged_live files behind ≡ cond q.has_place (logged_live files removed) [] → (AllStandWhole files removed → AllStandWhole files behind)
    → IsPendingAt files live removed q p → AllStandWhole files live → AllStandWhole files removed → CutsAt files (logged_live files (take q.kept live ++ removed)) p.point (take k live) behind
pending_cut files live removed q p k behind cut are whole at live_whole removed_whole =
    let all = logged_live files (take q.kept live ++ removed) in
    record {
      until = ap (λ n. until_first (is_point_logged n) all) at.point_is ∙ at.front ∙ ap (λ n. logged_live files (take n live)) (sym (cut at.within));
      after = ap (λ n. after_first (is_point_logged n) all) at.point_is ∙ at.behind ∙ sym are;
      front_whole = whole_take files k live live_whole;
      behind_whole = whole removed_whole;
    }

pub pending_plan : (files : Files) (live removed : List LiveEntry) (rows : List Row) (q : PendingAt) (p : Pending) (k : ℕ) (behind : List LiveEntry) (counts : List ℕ) (head : Option DumpHead) (t : RestoreTable) → (q.kept ≤ length live → k ≡ q.kept)
    → logged_live files behind ≡ cond q.has_place (logged_live files removed) [] → (AllStandWhole files removed → AllStandWhole files behind) → PlansCut q.how rows head counts (take k live) behind t
    → IsPendingAt files live removed q p → AllStandWhole files live → AllStandWhole files removed → MatchesHow q.how rows p.how → AreCountsAt counts p → IsHeadFor files p.how head → IsPlan p files t
pending_plan files live removed rows q p k behind counts head t cut are whole plans at live_whole removed_whole matches counted has =
    let logged = logged_live files (take q.kept live ++ removed) in
    subst (λ (l : List Event). IsPlanOf p.how (dumps_of files) l p.point files t.runs.items t.told.items) (sym at.entries_are)
    (plans files logged p.point p.how matches (pending_cut files live removed q p k behind cut are whole at live_whole removed_whole) has (λ f. counted f ∙ ap (λ (l : List Event). count_at l p.point f) at.entries_are))

-- none is pending
pub none_traced : (files : Files) (h : TrailHistory) (p : Pending) → h.pending ≡ None → TracesPending files h p → ⊥
none_traced files h p none t = pending_is files t.entries h None p none t.pending t.traced

how_is : (files : Files) (h : TrailHistory) (q : PendingAt) (p : Pending) → h.pending ≡ Some q → TracesPending files h p → MatchesHow q.how h.rows.items p.how
how_is files h q p held t =
    subst (λ (o : Option Pending). MatchesRestore (Some q) h.rows.items o) t.pending
    (subst (λ (o : Option PendingAt). MatchesRestore o h.rows.items (history_of t.entries).pending) held t.traced.how_matches)

-- the same, of lists that were lent
pub plan_traced : (files : Files) (h : TrailHistory) (q : PendingAt) (p : Pending) (live removed : List LiveEntry) (rows : List Row) (counts : List ℕ) (head : Option DumpHead) (t : RestoreTable) → live ≡ h.live.items → removed ≡ h.removed.items → rows ≡ h.rows.items
    → (IsPendingAt files live removed q p → AllStandWhole files live → AllStandWhole files removed → MatchesHow q.how rows p.how → AreCountsAt counts p → IsHeadFor files p.how head → IsPlan p files t)
    → h.pending ≡ Some q → TracesPending files h p → AreCountsAt counts p → IsHeadFor files p.how head → IsPlan p files t
plan_traced files h q p live removed rows counts head t lent gone named plan held traces counted has =
    plan
    (subst (λ (l : List LiveEntry). IsPendingAt files l removed q p) (sym lent) (subst (λ (l : List LiveEntry). IsPendingAt files h.live.items l q p) (sym gone) (pending_is files traces.entries h (Some q) p held traces.pending traces.traced)))
    (subst (AllStandWhole files) (sym lent) traces.traced.live_whole)
    (subst (AllStandWhole files) (sym gone) traces.traced.removed_whole)
    (subst (λ (l : List Row). MatchesHow q.how l p.how) (sym named) (how_is files h q p held traces))
    counted has
