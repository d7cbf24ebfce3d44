-- What is seen is one of the things that a stop may leave, and a call's step is one of the clock.
use Rattle.std.proofs.Common.{ℕ, ◌+◌, ◌≤◌, ◌≡◌, ◌⊎◌, inl, inr, ⊎_elim, Bool, true, false, IsTrue, List, [], ◌∷◌, ◌++◌, length, refl, sym, ◌∙◌, ap, subst, arith, length-append}
use Rattle.std.proofs.lemmas.List.{take_all, take-append-le, append-nil}
use Rattle.std.proofs.lemmas.Bool.{cases_lt}
use Rattle.dms_moments.specs.Moments.{Now, After, Steps}
use Rattle.dms_site.specs.Laws.{with_file_here, with_file_other, torn_overlaid, torn_refl}
use Rattle.dms_calls.specs.World.{World, OnFile, Speaks, StableFile, StableNames}
use Rattle.dms_memcalls.specs.declared.event.CallEvent.{CallEvent}
use Rattle.dms_memcalls.specs.declared.event.CallEvent.TheVariants.{Looked, Made, Wrote, Shortened, Lengthened, Synced, SyncedNames, Printed, Found, Recalled}
use Rattle.dms_memcalls.specs.Names.{leads}
use Rattle.dms_memcalls.specs.NameLaws.{name_is, leads_is, leads_same, adds_seen}
use Rattle.dms_memcalls.specs.Folders.{FolderSeen, nothing, with_bytes, with_said, world_of, AlikeFolders}
use Rattle.dms_memcalls.specs.Events.{seen_after}
use Rattle.dms_memcalls.specs.Outcomes.{EventMakes, IsOutcomeOf, seen_of, WorldMayBeLeft, reverse_onto, past_of, seen_now, world_now, clock_of}

-- the same folder is seen the same
pub alike_world : (a b : FolderSeen) → AlikeFolders a b → world_of a ≡ world_of b
alike_world a b alike = λ i. record { names = λ m. names m i; bytes = alike.bytes i; said = alike.said i }
  where
    names : (m : List ℕ) → leads a.count a.names m ≡ leads b.count b.names m
    names m = ap (λ (n : ℕ). leads n a.names m) alike.count ∙ leads_same b.count b.names a.names m alike.names

-- one file has other bytes, as they are seen
pub on_file : (s : FolderSeen) (f : ℕ) (step : List ℕ → List ℕ → Type 0) (bytes : List ℕ) → step (s.bytes f) bytes → OnFile f step (world_of s) (world_of (with_bytes s f bytes))
on_file s f step bytes here = record {
  here = subst (λ (l : List ℕ). step (s.bytes f) l) (sym (with_file_here s.bytes f bytes)) here;
  others = λ j other. with_file_other s.bytes f bytes j other;
  names = λ m. refl;
  said = refl;
}

pub on_file_same : (f : ℕ) (step : List ℕ → List ℕ → Type 0) → ((l : List ℕ) → step l l) → (w : World) → OnFile f step w w
on_file_same f step refls w = record { here = refls (w.bytes f); others = λ j other. refl; names = λ m. refl; said = refl }

pub speaks_none : (text : List ℕ) (w : World) → Speaks text w w
speaks_none text w = record { names = refl; bytes = refl; some = 0; said = sym (append-nil w.said) }

pub speaks_all : (s : FolderSeen) (text : List ℕ) → Speaks text (world_of s) (world_of (with_said s (s.said ++ text)))
speaks_all s text = record { names = refl; bytes = refl; some = length text; said = ap (λ (l : List ℕ). s.said ++ l) (sym (take_all (length text) text (omega arith))) }

-- an event's step leads from what was seen to what is seen
pub takes_seen : (s : FolderSeen) (e : CallEvent) → EventMakes s e (world_of s) (world_of (seen_after e s))
takes_seen s (Looked ok) = refl
takes_seen s (Made name true) = adds_seen s name.items name.items [] (inl refl)
takes_seen s (Made name false) = adds_seen s name.items [] [] (inr refl)
takes_seen s (Wrote f at bytes true) = on_file s f _ _ (torn_overlaid at bytes.items (s.bytes f))
takes_seen s (Wrote f at bytes false) = on_file_same f _ (torn_refl at (length bytes.items)) (world_of s)
takes_seen s (Shortened f len true) = on_file s f _ _ (inr refl)
takes_seen s (Shortened f len false) = on_file_same f _ (λ l. inl refl) (world_of s)
takes_seen s (Lengthened f len true) = on_file s f _ _ (torn_overlaid len [] (s.bytes f))
takes_seen s (Lengthened f len false) = on_file_same f _ (torn_refl len 0) (world_of s)
takes_seen s (Synced f ok) = (refl, λ done. refl)
takes_seen s (SyncedNames ok) = (refl, λ done m. refl)
takes_seen s (Printed bytes true) = speaks_all s bytes.items
takes_seen s (Printed bytes false) = speaks_none bytes.items (world_of s)
takes_seen s (Found name bytes) = adds_seen s name.items name.items bytes.items (inl refl)
takes_seen s (Recalled bytes) = speaks_all s bytes.items

pub fits_seen : (s : FolderSeen) → IsOutcomeOf s (world_of s)
fits_seen s = record {
  said = refl;
  one_name = λ m n i at is. sym (name_is (s.names i) m (leads_is s.count s.names m i at).1) ∙ name_is (s.names i) n (leads_is s.count s.names n i is).1;
}

pub stays : (past : List CallEvent) → WorldMayBeLeft past (world_of (seen_of past))
stays [] = refl
stays (e ∷ past) = (fits_seen (seen_after e (seen_of past)), (world_of (seen_of past), stays past, takes_seen (seen_of past) e))

pub fits : (past : List CallEvent) (w : World) → WorldMayBeLeft past w → IsOutcomeOf (seen_of past) w
fits [] w is = subst (λ (v : World). IsOutcomeOf nothing v) (sym is) (fits_seen nothing)
fits (e ∷ past) w may = may.0

-- one more event
turned_push : (events : List CallEvent) (e : CallEvent) (past : List CallEvent) → reverse_onto (events ++ e ∷ []) past ≡ e ∷ reverse_onto events past
turned_push [] e past = refl
turned_push (x ∷ events) e past = turned_push events e (x ∷ past)

pub past_push : (events : List CallEvent) (e : CallEvent) → past_of (events ++ e ∷ []) ≡ e ∷ past_of events
past_push events e = turned_push events e []

pub seen_push : (events : List CallEvent) (e : CallEvent) → seen_now (events ++ e ∷ []) ≡ seen_after e (seen_now events)
unfolding seen_now
seen_push events e = ap seen_of (past_push events e)

-- the clock
pub now_leaves : (events : List CallEvent) (w : World) → WorldMayBeLeft (past_of events) w → Now (clock_of events) w
unfolding clock_of
now_leaves events w may = (length events, omega arith, omega arith, subst (λ (l : List CallEvent). WorldMayBeLeft (past_of l) w) (sym (take_all (length events) events (omega arith))) may)

pub left_now : (events : List CallEvent) (w : World) → Now (clock_of events) w → WorldMayBeLeft (past_of events) w
unfolding clock_of
left_now events w left = subst (λ (l : List CallEvent). WorldMayBeLeft (past_of l) w) (take_all left.0 events left.1) left.3

pub counts_since : (events : List CallEvent) (t : ℕ) (w : World) → t ≤ (clock_of events).now → Now (clock_of events) w → (clock_of events).left t w
unfolding clock_of
counts_since events t w le left = (left.0, omega (arith, le, left.1), left.2, left.3)

-- One more event does a step, where each outcome after it comes by that step from one before it.
push_holds : (events : List CallEvent) (e : CallEvent) (step : World → World → Type 0) → ((v w : World) → EventMakes (seen_now events) e v w → step v w) → Steps step (clock_of events) (clock_of (events ++ e ∷ []))
unfolding clock_of seen_now
push_holds events e step leads = record { follows = λ w now. one w (left_now all w now); runs = record { later = later; only = only; keeps = keeps } }
  where
    all : List CallEvent
    all = events ++ e ∷ []

    one : (w : World) → WorldMayBeLeft (past_of all) w → After (clock_of events) step w
    one w may =
        let from : WorldMayBeLeft (e ∷ past_of events) w = subst (λ (l : List CallEvent). WorldMayBeLeft l w) (past_push events e) may in
        (from.1.0, now_leaves events from.1.0 from.1.1, leads from.1.0 w from.1.2)

    long : length all ≡ length events + 1
    long = length-append events (e ∷ [])

    later : (clock_of events).now ≤ (clock_of all).now
    later = omega (arith, long)

    only : (t : ℕ) (w : World) → t ≤ (clock_of events).now → (clock_of all).left t w → (clock_of events).left t w ⊎ After (clock_of events) step w
    only t w le left = elim (cases_lt (length events) left.0) [
      | inl past ↦ inr (one w (subst (λ (l : List CallEvent). WorldMayBeLeft (past_of l) w) (take_all left.0 all (omega (arith, long, past))) left.3))
      | inr before ↦ inl (left.0, left.1, before, subst (λ (l : List CallEvent). WorldMayBeLeft (past_of l) w) (take-append-le left.0 events (e ∷ []) before) left.3)
    ]

    keeps : (t : ℕ) (w : World) → t ≤ (clock_of events).now → (clock_of events).left t w → (clock_of all).left t w
    keeps t w le left = (left.0, left.1, omega (arith, long, left.2), subst (λ (l : List CallEvent). WorldMayBeLeft (past_of l) w) (sym (take-append-le left.0 events (e ∷ []) left.2)) left.3)

-- no event
still : (events : List CallEvent) (step : World → World → Type 0) → ((w : World) → step w w) → Steps step (clock_of events) (clock_of events)
still events step refls = record {
  follows = λ w now. (w, now, refls w);
  runs = record { later = omega arith; only = λ t w le left. inl left; keeps = λ t w le left. left };
}

pub steps_more : (events all : List CallEvent) (e : CallEvent) (step : World → World → Type 0) → all ≡ events ++ e ∷ [] → ((v w : World) → EventMakes (seen_now events) e v w → step v w) → Steps step (clock_of events) (clock_of all)
steps_more events all e step more leads = subst (λ (l : List CallEvent). Steps step (clock_of events) (clock_of l)) (sym more) (push_holds events e step leads)

pub step_more : (events all : List CallEvent) (e : CallEvent) (step : World → World → Type 0) → all ≡ events ++ e ∷ [] → ((v w : World) → EventMakes (seen_now events) e v w → step v w) → step (world_now events) (world_now all)
step_more events all e step more leads = subst (λ (s : FolderSeen). step (world_now events) (world_of s)) (sym (ap seen_now more ∙ seen_push events e)) (leads _ _ (takes_seen (seen_now events) e))

-- these events, or one more
abbrev pub IsUpToOneMore : List CallEvent → CallEvent → List CallEvent → Type 0
IsUpToOneMore events e all = (all ≡ events) ⊎ (all ≡ events ++ e ∷ [])

pub steps_grew : (events all : List CallEvent) (e : CallEvent) (step : World → World → Type 0) → IsUpToOneMore events e all → ((w : World) → step w w) → ((v w : World) → EventMakes (seen_now events) e v w → step v w) → Steps step (clock_of events) (clock_of all)
steps_grew events all e step grew refls leads = ⊎_elim
    (λ same. subst (λ (l : List CallEvent). Steps step (clock_of events) (clock_of l)) (sym same) (still events step refls))
    (λ more. steps_more events all e step more leads)
    grew

pub step_grew : (events all : List CallEvent) (e : CallEvent) (step : World → World → Type 0) → IsUpToOneMore events e all → ((w : World) → step w w) → ((v w : World) → EventMakes (seen_now events) e v w → step v w) → step (world_now events) (world_now all)
step_grew events all e step grew refls leads = ⊎_elim
    (λ same. subst (λ (l : List CallEvent). step (world_now events) (world_now l)) (sym same) (refls (world_now events)))
    (λ more. step_more events all e step more leads)
    grew

-- the laws of the calls
pub stays_now : (events : List CallEvent) → Now (clock_of events) (world_now events)
unfolding seen_now
stays_now events = now_leaves events (world_now events) (stays (past_of events))

pub fits_now : (events : List CallEvent) (w : World) → Now (clock_of events) w → IsOutcomeOf (seen_now events) w
unfolding seen_now
fits_now events w now = fits (past_of events) w (left_now events w now)

-- a sync that succeeded
pub file_stable : (events all : List CallEvent) (f : ℕ) (done : Bool) → all ≡ events ++ Synced f done ∷ [] → IsTrue done → StableFile f ((world_now events).bytes f) (clock_of all)
unfolding seen_now
file_stable events all f done more yes' w now =
    let from : WorldMayBeLeft (Synced f done ∷ past_of events) w = subst (λ (l : List CallEvent). WorldMayBeLeft l w) (ap past_of more ∙ past_push events (Synced f done)) (left_now all w now) in
    from.1.2.1 yes'

pub names_stable : (events all : List CallEvent) (done : Bool) → all ≡ events ++ SyncedNames done ∷ [] → IsTrue done → StableNames (world_now events).names (clock_of all)
unfolding seen_now
names_stable events all done more yes' w now =
    let from : WorldMayBeLeft (SyncedNames done ∷ past_of events) w = subst (λ (l : List CallEvent). WorldMayBeLeft l w) (ap past_of more ∙ past_push events (SyncedNames done)) (left_now all w now) in
    from.1.2.1 yes'
