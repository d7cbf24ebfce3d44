-- What a stop makes of events, one by one.
use Rattle.std.proofs.Common.{ℕ, zero, suc, ◌+◌, ◌-◌, ◌<◌, ◌≤◌, ◌≡◌, ◌≢◌, inl, inr, if◌then◌else◌, Bool, true, false, List, [], ◌∷◌, ◌++◌, length, take, drop, Some, slice_get, refl, sym, ◌∙◌, ap, subst, arith}
use Rattle.std.proofs.lemmas.Option.{none-some, slice_get_within}
use Rattle.std.specs.Option.{unwrap_or}
use Rattle.std.proofs.lemmas.Bool.{false≢true, cases_lt}
use Rattle.std.proofs.lemmas.Bool.Decides.{nat_tests}
use Rattle.std.proofs.lemmas.List.{drop_all, append-nil, append_assoc}
use Rattle.dms_site.specs.Files.{Files}
use Rattle.dms_sitemem.specs.declared.event.SiteEvent.{SiteEvent}
use Rattle.dms_sitemem.specs.declared.event.SiteEvent.TheVariants.{Looked, Wrote, Shortened, Synced, Said, Replaced, Recalled}
use Rattle.dms_sitemem.specs.declared.pick.Fill.{Fill}
use Rattle.dms_sitemem.specs.Events.{is_call, is_sync, through}
use Rattle.dms_sitemem.specs.Replay.{Replayed, after, state_of}
use Rattle.dms_sitemem.specs.Picks.{Struck, strike, fill_of, cuts_of, pick_state, picked_after}
use Rattle.dms_sitemem.specs.Honest.{state_push}

one_more : (n : ℕ) → n + 1 ≡ suc n
one_more n = omega arith

same_some : {X : Type 0} (x y : X) → Some x ≡ Some y → x ≡ y
same_some x y is = ap (λ o. unwrap_or o x) is

take_suc : {X : Type 0} (xs : List X) (p : ℕ) (x : X) → slice_get xs p ≡ Some x → take (suc p) xs ≡ take p xs ++ x ∷ []
take_suc [] p x is = absurd (none-some x is)
take_suc (y ∷ xs) zero x is = ap (λ z. z ∷ []) (same_some y x is)
take_suc (y ∷ xs) (suc p) x is = ap (λ l. y ∷ l) (take_suc xs p x is)

drop_suc : {X : Type 0} (xs : List X) (p : ℕ) (x : X) → slice_get xs p ≡ Some x → drop p xs ≡ x ∷ drop (suc p) xs
drop_suc [] p x is = absurd (none-some x is)
drop_suc (y ∷ xs) zero x is = ap (λ z. z ∷ xs) (same_some y x is)
drop_suc (y ∷ xs) (suc p) x is = drop_suc xs p x is

pub take_one : {X : Type 0} (xs : List X) (p : ℕ) (x : X) → slice_get xs p ≡ Some x → take (p + 1) xs ≡ take p xs ++ x ∷ []
take_one xs p x is = ap (λ (n : ℕ). take n xs) (one_more p) ∙ take_suc xs p x is

pub drop_one : {X : Type 0} (xs : List X) (p : ℕ) (x : X) → slice_get xs p ≡ Some x → drop p xs ≡ x ∷ drop (p + 1) xs
drop_one xs p x is = drop_suc xs p x is ∙ ap (λ (n : ℕ). x ∷ drop n xs) (sym (one_more p))

-- one more event is read
pub state_take : (events : List SiteEvent) (p : ℕ) (event : SiteEvent) → slice_get events p ≡ Some event → state_of (take (p + 1) events) ≡ after event (state_of (take p events))
state_take events p event is = ap (λ (l : List SiteEvent). state_of l) (take_one events p event is) ∙ state_push (take p events) event

-- after a sync that succeeded nothing is pending
pub sync_settles : (event : SiteEvent) (s : Replayed) → is_sync event ≡ true → ((after event s).pending ≡ []) × ((after event s).stable ≡ (after event s).files)
sync_settles (Looked ok) s is = absurd (false≢true is)
sync_settles (Wrote f at bytes ok) s is = absurd (false≢true is)
sync_settles (Shortened f len ok) s is = absurd (false≢true is)
sync_settles (Synced ok) s is = (ap (λ (b : Bool). if b then [] else Synced ok ∷ s.pending) is, ap (λ (b : Bool). if b then s.files else s.stable) is)
sync_settles (Said bytes ok) s is = absurd (false≢true is)
sync_settles (Replaced f bytes) s is = absurd (false≢true is)
sync_settles (Recalled bytes) s is = absurd (false≢true is)

-- the end of the call of that number
pub through_none : (events : List SiteEvent) → through 0 events ≡ []
unfolding through
through_none [] = refl
through_none (e ∷ events) = refl

pub through_nil : (n : ℕ) → through n [] ≡ []
unfolding through
through_nil n = refl

through_cons : (n : ℕ) (event : SiteEvent) (events : List SiteEvent) → n ≢ 0 → through n (event ∷ events) ≡ event ∷ through (n - (if is_call event then 1 else 0)) events
unfolding through
through_cons n event events some = grind (arith, nat_tests)

pub through_step : (n p : ℕ) (events : List SiteEvent) (event : SiteEvent) → slice_get events p ≡ Some event → n ≢ 0 → take p events ++ through n (drop p events) ≡ take (p + 1) events ++ through (n - (if is_call event then 1 else 0)) (drop (p + 1) events)
through_step n p events event is some =
    let rest = through (n - (if is_call event then 1 else 0)) (drop (p + 1) events) in
    ap (λ (l : List SiteEvent). take p events ++ through n l) (drop_one events p event is)
    ∙ ap (λ (l : List SiteEvent). take p events ++ l) (through_cons n event (drop (p + 1) events) some)
    ∙ sym (append_assoc (take p events) (event ∷ []) rest)
    ∙ ap (λ (l : List SiteEvent). l ++ rest) (sym (take_one events p event is))

-- where the calls to go are none, or no event is left
pub through_end : (n p : ℕ) (events all : List SiteEvent) → all ≡ take p events ++ through n (drop p events) → n ≡ 0 → take p events ≡ all
through_end n p events all is none =
    sym (is ∙ ap (λ (k : ℕ). take p events ++ through k (drop p events)) none ∙ ap (λ (l : List SiteEvent). take p events ++ l) (through_none (drop p events)) ∙ append-nil (take p events))

pub through_all : (n p : ℕ) (events all : List SiteEvent) → all ≡ take p events ++ through n (drop p events) → length events ≤ p → take p events ≡ all
through_all n p events all is past =
    sym (is ∙ ap (λ (l : List SiteEvent). take p events ++ through n l) (drop_all p events past) ∙ ap (λ (l : List SiteEvent). take p events ++ l) (through_nil n) ∙ append-nil (take p events))

-- one more event that isn't followed by a sync
picked_event : (pick : ℕ) (event : SiteEvent) (s : Replayed) → is_sync event ≡ false → pick_state pick (after event s).stable (after event s).pending ≡ strike (fill_of pick) (cuts_of pick) event (pick_state pick s.stable s.pending)
unfolding pick_state
picked_event pick event s isnt =
    ap (λ (b : Bool). pick_state pick (if b then s.files else s.stable) (if b then [] else event ∷ s.pending)) isnt

pub picked_step : (pick p : ℕ) (events : List SiteEvent) (event : SiteEvent) → slice_get events p ≡ Some event → is_sync event ≡ false → picked_after pick (take (p + 1) events) ≡ strike (fill_of pick) (cuts_of pick) event (picked_after pick (take p events))
picked_step pick p events event is isnt =
    ap (λ (s : Replayed). pick_state pick s.stable s.pending) (state_take events p event is) ∙ picked_event pick event (state_of (take p events)) isnt

pub picked_start : (pick : ℕ) (s : Replayed) → s.pending ≡ [] → s.stable ≡ s.files → pick_state pick s.stable s.pending ≡ record { files = s.files; seed = pick }
unfolding pick_state
picked_start pick s none same =
    ap (λ (l : List SiteEvent). pick_state pick s.stable l) none ∙ ap (λ (l : Files). record { files = l; seed = pick }) same

-- up to a place, the last sync that succeeded ends before this one
abbrev pub SyncedTo : List SiteEvent → ℕ → ℕ → Type 0
SyncedTo events p synced = record {
  bound : synced ≤ p;
  none_pending : (state_of (take synced events)).pending ≡ [];
  stable : (state_of (take synced events)).stable ≡ (state_of (take synced events)).files;
  none_behind : (i : ℕ) (e : SiteEvent) → synced ≤ i → i < p → slice_get events i ≡ Some e → is_sync e ≡ false;
}

pub synced_start : (events : List SiteEvent) → SyncedTo events 0 0
unfolding state_of
synced_start events = record { bound = omega arith; none_pending = refl; stable = refl; none_behind = λ i e from low. absurd (omega (arith, low)) }

pub synced_here : (events : List SiteEvent) (p : ℕ) (event : SiteEvent) → slice_get events p ≡ Some event → is_sync event ≡ true → SyncedTo events (p + 1) (p + 1)
synced_here events p event is sync =
    let settled = subst (λ (s : Replayed). (s.pending ≡ []) × (s.stable ≡ s.files)) (sym (state_take events p event is)) (sync_settles event (state_of (take p events)) sync) in
    record { bound = omega arith; none_pending = settled.0; stable = settled.1; none_behind = λ i e from low. absurd (omega (arith, from, low)) }

pub synced_on : (events : List SiteEvent) (p synced : ℕ) (event : SiteEvent) → SyncedTo events p synced → slice_get events p ≡ Some event → is_sync event ≡ false → SyncedTo events (p + 1) synced
synced_on events p synced event was is isnt = record {
  bound = omega (arith, was.bound);
  none_pending = was.none_pending;
  stable = was.stable;
  none_behind = λ i e from low at. elim (cases_lt i p) [
    | inl before ↦ was.none_behind i e from before at
    | inr here ↦ subst (λ (x : SiteEvent). is_sync x ≡ false) (same_some event e (sym is ∙ ap (λ (k : ℕ). slice_get events k) (last i p here low) ∙ at)) isnt
  ];
}
  where
    last : (i p : ℕ) → p ≤ i → i < p + 1 → p ≡ i
    last i p here low = omega (arith, here, low)

pub synced_all : (events : List SiteEvent) (p synced : ℕ) → SyncedTo events p synced → length events ≤ p → (i : ℕ) (e : SiteEvent) → synced ≤ i → slice_get events i ≡ Some e → is_sync e ≡ false
synced_all events p synced was past i e from at = was.none_behind i e from (omega (arith, past, slice_get_within events i e at)) at

-- one more event before the stop
pub struck_next : (pick p : ℕ) (events : List SiteEvent) (event : SiteEvent) (fill : Fill) (files : Files) (seed : ℕ) → slice_get events p ≡ Some event → is_sync event ≡ false → fill ≡ fill_of pick → files ≡ (picked_after pick (take p events)).files → seed ≡ (picked_after pick (take p events)).seed → strike fill (cuts_of pick) event (record { files = files; seed = seed }) ≡ picked_after pick (take (p + 1) events)
struck_next pick p events event fill files seed at isnt same files_same seed_same =
    ap (λ (f : Fill). strike f (cuts_of pick) event (record { files = files; seed = seed })) same
    ∙ ap (λ (s : Struck). strike (fill_of pick) (cuts_of pick) event s) (λ i. record { files = files_same i; seed = seed_same i })
    ∙ sym (picked_step pick p events event at isnt)
