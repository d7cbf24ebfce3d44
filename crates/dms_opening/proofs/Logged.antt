-- What is judged and counted of live entries, Ranges among them, is so of their changes.
use Rattle.std.specs.Prelude.{◌&&◌, nat_le}
use Rattle.std.proofs.Common.{ℕ, ◌≡◌, List, [], ◌∷◌, ◌++◌, Option, Some, None, refl, sym, ◌∙◌, ap}
use Rattle.dms_history.specs.Events.{BlockBytes, Event, change, quiet, control, begin}
use Rattle.dms_history.specs.Images.{last_after}
use Rattle.dms_history.specs.Lists.{has, until_first}
use Rattle.dms_history.specs.Places.{is_point, is_described}
use Rattle.dms_history.specs.History.{last_number}
use Rattle.dms_history.specs.Judge.{is_live}
use Rattle.dms_history.specs.Ranges.{Logged, event, range, range_change, changes_from, all_changes, is_point_logged}
use Rattle.dms_history.proofs.Turns.{changes_until}
use Rattle.dms_restore.specs.LiveEntries.{own_events}
use Rattle.dms_restore.proofs.Points.{IsKind, has_changes, point_kind}
use Rattle.dms_opening.specs.Judged.{is_low, is_described_logged, is_live_logged, is_low_logged}

described_kind : IsKind is_described is_described_logged
described_kind = record { events = λ e. refl; ranges = λ f b place bytes. refl; changes = λ f b before after. refl }

pub live_changes : (xs : List Logged) (n : ℕ) → is_live (all_changes xs) n ≡ is_live_logged xs n
live_changes xs n =
    (λ i. has_changes (is_point n) (is_point_logged n) (point_kind n) xs i && has is_described (sym (changes_until n xs) i))
    ∙ ap (λ k. has (is_point_logged n) xs && k) (has_changes is_described is_described_logged described_kind (until_first (is_point_logged n) xs))

low_event : (xs : List Logged) (n : ℕ) (e : Event) → is_low_logged xs n (event e) ≡ is_low (all_changes xs) n e
low_event xs n (change f b before after) = refl
low_event xs n (quiet m) = ap (λ k. nat_le m n && k) (sym (live_changes xs m))
low_event xs n (control m next counts described) = ap (λ k. nat_le m n && k) (sym (live_changes xs m))
low_event xs n (begin m how) = refl

pub low_changes : (xs : List Logged) (n : ℕ) → has (is_low (all_changes xs) n) (all_changes xs) ≡ has (is_low_logged xs n) xs
low_changes xs n = has_changes (is_low (all_changes xs) n) (is_low_logged xs n) (record { events = low_event xs n; ranges = λ f b place bytes. refl; changes = λ f b before after. refl }) xs

-- ---- the last number

last_append : (k : Option ℕ) (es fs : List Event) → last_number k (es ++ fs) ≡ last_number (last_number k es) fs
last_append k [] fs = refl
last_append k (change f b before after ∷ es) fs = last_append k es fs
last_append k (quiet n ∷ es) fs = last_append (Some n) es fs
last_append k (control n next counts described ∷ es) fs = last_append (Some n) es fs
last_append k (begin n how ∷ es) fs = last_append k es fs

last_ranged : (k : Option ℕ) (f b place : ℕ) (bytes : List ℕ) (o : Option BlockBytes) → last_number k (range_change f b place bytes o) ≡ k
last_ranged k f b place bytes None = refl
last_ranged k f b place bytes (Some old) = refl

last_own : (k : Option ℕ) (e : Event) (xs : List Logged) → last_number (last_number k (e ∷ [])) (own_events xs) ≡ last_number k (e ∷ own_events xs)
last_own k (change f b before after) xs = refl
last_own k (quiet n) xs = refl
last_own k (control n next counts described) xs = refl
last_own k (begin n how) xs = refl

last_from : (k : Option ℕ) (xs : List Logged) (live : List Event) → last_number k (changes_from live xs) ≡ last_number (last_number k live) (own_events xs)
last_from k [] live = refl
last_from k (event e ∷ xs) live = last_from k xs (live ++ e ∷ []) ∙ ap (λ m. last_number m (own_events xs)) (last_append k live (e ∷ [])) ∙ last_own (last_number k live) e xs
last_from k (range f b place bytes ∷ xs) live =
    let c = range_change f b place bytes (last_after f b live) in
    last_from k xs (live ++ c) ∙ ap (λ m. last_number m (own_events xs)) (last_append k live c ∙ last_ranged (last_number k live) f b place bytes (last_after f b live))

pub last_changes : (k : Option ℕ) (xs : List Logged) → last_number k (all_changes xs) ≡ last_number k (own_events xs)
unfolding all_changes
last_changes k xs = last_from k xs []
