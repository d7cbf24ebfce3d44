-- The last number of entries that are kept in memory.
use Rattle.std.specs.Prelude.{option_map}
use Rattle.std.proofs.Common.{ℕ, ◌≡◌, List, [], ◌∷◌, ◌++◌, Option, Some, None, refl, sym, ◌∙◌, ap}
use Rattle.dms_site.specs.Files.{Files}
use Rattle.dms_history.specs.Events.{Event, change, quiet, control, begin}
use Rattle.dms_history.specs.History.{Pending, last_number, last_point, pending_point}
use Rattle.dms_history.specs.Entries.{Entry}
use Rattle.dms_history.specs.EntryEvents.{history_of, live_of}
use Rattle.dms_restore.specs.declared.live.LiveEntry.{LiveEntry}
use Rattle.dms_restore.specs.declared.live.PendingAt.{PendingAt}
use Rattle.dms_restore.specs.declared.tracing.TrailHistory.{TrailHistory}
use Rattle.dms_restore.specs.LiveEntries.{logged_live, events_at}
use Rattle.dms_restore.proofs.Traced.{live_at}
use Rattle.dms_opening.proofs.Logged.{last_changes}
use Rattle.dms_restore.specs.Tracing.{MatchesPending, IsTraced}

pub last_more : (k : Option ℕ) (es e : List Event) → last_number k (es ++ e) ≡ last_number (last_number k es) e
last_more k [] e = refl
last_more k (change f b before after ∷ es) e = last_more k es e
last_more k (quiet n ∷ es) e = last_more (Some n) es e
last_more k (control n next counts described ∷ es) e = last_more (Some n) es e
last_more k (begin n how ∷ es) e = last_more k es e

pub last_traced : (files : Files) (entries : List Entry) (h : TrailHistory) (lent : List LiveEntry) (first result : Option ℕ) → lent ≡ h.live.items → ((p : Option Pending) → MatchesPending files h.live.items h.removed.items h.pending p → first ≡ pending_point p)
    → result ≡ last_number first (events_at files lent) → IsTraced files entries h → result ≡ last_point (history_of entries)
last_traced files entries h lent first result same pending is t =
    is ∙ ap (λ (l : List LiveEntry). last_number first (events_at files l)) same ∙ sym (last_changes first (logged_live files h.live.items)) ∙ ap (λ (l : List Event). last_number first l) (sym (live_at files entries h t))
    ∙ ap (λ (k : Option ℕ). last_number k (live_of entries)) (pending (history_of entries).pending t.pending_matches)

pub pending_number : (files : Files) (live removed : List LiveEntry) (q : Option PendingAt) (p : Option Pending) → MatchesPending files live removed q p → option_map (λ (a : PendingAt). a.point) q ≡ pending_point p
pending_number files live removed None None m = refl
pending_number files live removed None (Some p) m = absurd m
pending_number files live removed (Some q) None m = absurd m
pending_number files live removed (Some q) (Some p) m = ap (λ k. Some k) (sym m.point_is)
