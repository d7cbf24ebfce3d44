-- The first refusal of what is asked.
use Rattle.std.proofs.Common.{ℕ, min, ◌≡◌, List, ◌++◌, length, take, Option, Some, None, refl, sym, ◌∙◌, ap, subst, arith}
use Rattle.dms_site.specs.Files.{Files}
use Rattle.dms_history.specs.Events.{Event, How}
use Rattle.dms_history.specs.History.{Pending, last_point}
use Rattle.dms_history.specs.Entries.{Entry}
use Rattle.dms_history.specs.EntryEvents.{history_of, live_of, next_of}
use Rattle.dms_history.specs.declared.event.Row.{Row}
use Rattle.dms_restore.specs.declared.live.LiveEntry.{LiveEntry}
use Rattle.dms_restore.specs.declared.live.PendingAt.{PendingAt}
use Rattle.dms_restore.specs.declared.tracing.TrailHistory.{TrailHistory}
use Rattle.dms_restore.specs.LiveEntries.{changes_at}
use Rattle.dms_restore.specs.Tracing.{MatchesHow, MatchesPending, MatchesRestore, IsPendingAt, IsTraced}
use Rattle.dms_restore.proofs.Traced.{live_at}
use Rattle.dms_opening.specs.declared.asked.DumpLook.{DumpLook}
use Rattle.dms_opening.specs.declared.asked.Asked.{Asked}
use Rattle.dms_opening.specs.declared.asked.Refusal.{Refusal}
use Rattle.dms_opening.specs.Asked.{Refused, judge_own, judge_restore, judge_begun, refused_seen}
use Rattle.dms_opening.proofs.Pendings.{none_pending}

pub own_judged : (files : Files) (entries : List Entry) (h : TrailHistory) (lent : List LiveEntry) (first : ℕ) (last : Option ℕ) (asked : Asked) (look : DumpLook) (r : Option Refusal) → lent ≡ h.live.items → last ≡ last_point (history_of entries)
    → refused_seen r ≡ judge_own first (changes_at files lent) h.next last asked look → IsTraced files entries h → refused_seen r ≡ judge_own first (live_of entries) (next_of entries) (last_point (history_of entries)) asked look
own_judged files entries h lent first last asked look r same is judged t =
    judged ∙ ap (λ (l : List LiveEntry). judge_own first (changes_at files l) h.next last asked look) same
    ∙ (λ i. judge_own first (sym (live_at files entries h t) i) (sym t.next_is i) (is i) asked look)

pub none_begun : (files : Files) (entries : List Entry) (h : TrailHistory) (first : ℕ) (look : DumpLook) → h.pending ≡ None → IsTraced files entries h → (let r : Option Refused = None in r) ≡ judge_begun first (next_of entries) (history_of entries).pending look
none_begun files entries h first look none t = ap (λ (p : Option Pending). judge_begun first (next_of entries) p look) (sym (none_pending files entries h none t))

-- the pending restore, over the live entries before its Begin
pub some_begun : (files : Files) (entries : List Entry) (h : TrailHistory) (lent : List LiveEntry) (at : PendingAt) (kept first : ℕ) (look : DumpLook) (r : Option Refusal) → h.pending ≡ Some at → kept ≡ min at.kept (length h.live.items) → lent ≡ take kept h.live.items ++ h.removed.items
    → ((rows : List Row) (how : How) → MatchesHow at.how rows how → refused_seen r ≡ judge_restore first h.next how look (changes_at files lent) at.point) → IsTraced files entries h
    → refused_seen r ≡ judge_begun first (next_of entries) (history_of entries).pending look
some_begun files entries h lent at kept first look r some least is judged t = go h.pending (history_of entries).pending some refl t.pending_matches t.how_matches
  where
    go : (q : Option PendingAt) (p : Option Pending) → q ≡ Some at → (history_of entries).pending ≡ p → MatchesPending files h.live.items h.removed.items q p → MatchesRestore q h.rows.items p → refused_seen r ≡ judge_begun first (next_of entries) p look
    go None p q is m by = absurd cc
    go (Some q) None e is m by = absurd m
    go (Some q) (Some p) e found m by =
        let same : q ≡ at = cc in
        let n = subst (λ (k : PendingAt). IsPendingAt files h.live.items h.removed.items k p) same m in
        let all : kept ≡ at.kept = omega (arith, least, n.within) in
        judged h.rows.items p.how (subst (λ (k : PendingAt). MatchesHow k.how h.rows.items p.how) same by)
        ∙ (λ i. judge_restore first (sym t.next_is i) p.how look (changes_at files ((is ∙ ap (λ (k : ℕ). take k h.live.items ++ h.removed.items) all) i)) (sym n.point_is i))
        ∙ ap (λ (l : List Event). judge_restore first (next_of entries) p.how look l p.point) (sym n.entries_are)
