-- What a stop may leave after one more event, and that a pick leaves nothing else.
use Rattle.std.proofs.Common.{ℕ, zero, suc, ◌+◌, ◌≤◌, ◌≡◌, ◌⊎◌, inl, inr, ⊎_elim, List, [], ◌∷◌, ◌++◌, length, take, refl, sym, ◌∙◌, ap, subst, arith, length-append, Bool, true, false, Vec}
use Rattle.std.specs.declared.alloc.Global.{Global}
use Rattle.std.proofs.lemmas.List.{take_all, take-append-le, append-nil, length-replicate}
use Rattle.std.proofs.lemmas.Bool.{cases_lt}
use Rattle.dms_moments.specs.Moments.{Now, After, Steps}
use Rattle.dms_site.specs.Files.{Files, Left, overlay_bytes, InFile, Torn, Cut, OnDisk, PrintsPartOf, Same, Only}
use Rattle.dms_site.specs.Laws.{torn_overlaid, torn_refl, in_file_with, in_file_same}
use Rattle.dms_sitemem.specs.declared.event.SiteEvent.{SiteEvent}
use Rattle.dms_sitemem.specs.declared.event.SiteEvent.TheVariants.{Looked, Wrote, Shortened, Synced, Said, Replaced, Recalled}
use Rattle.dms_sitemem.specs.declared.pick.Fill.{Fill}
use Rattle.dms_sitemem.specs.declared.pick.Fill.TheVariants.{Old, New, Sevens, Drawn}
use Rattle.dms_sitemem.specs.Replay.{EventMayMake, Reaches, Replayed, empty, MayLeave, after, run, state_of, clock_of}
use Rattle.dms_sitemem.specs.Picks.{draw_bytes, start_of, count_of, file_after, Struck, strike, fill_of, cuts_of, pick_state}

run_push : (events : List SiteEvent) (event : SiteEvent) (s : Replayed) → run (events ++ event ∷ []) s ≡ after event (run events s)
run_push [] event s = refl
run_push (e ∷ events) event s = run_push events event (after e s)

pub state_push : (events : List SiteEvent) (event : SiteEvent) → state_of (events ++ event ∷ []) ≡ after event (state_of events)
unfolding state_of
state_push events event = run_push events event empty

pub now_leaves : (events : List SiteEvent) (x : Left) → MayLeave (state_of events) x → Now (clock_of events) x
unfolding clock_of
now_leaves events x may = (length events, omega arith, omega arith, subst (λ (l : List SiteEvent). MayLeave (state_of l) x) (sym (take_all (length events) events (omega arith))) may)

pub left_now : (events : List SiteEvent) (x : Left) → Now (clock_of events) x → MayLeave (state_of events) x
unfolding clock_of
left_now events x left = subst (λ (l : List SiteEvent). MayLeave (state_of l) x) (take_all left.0 events left.1) left.3

pub counts_since : (events : List SiteEvent) (t : ℕ) (x : Left) → t ≤ (clock_of events).now → Now (clock_of events) x → (clock_of events).left t x
unfolding clock_of
counts_since events t x le left = (left.0, omega (arith, le, left.1), left.2, left.3)

-- One more event does a step, where what it may leave is an earlier outcome after that step.
pub push_holds : (events : List SiteEvent) (event : SiteEvent) (step : Left → Left → Type 0) → ((x : Left) → MayLeave (after event (state_of events)) x → (y : Left) × MayLeave (state_of events) y × step y x) → Steps step (clock_of events) (clock_of (events ++ event ∷ []))
unfolding clock_of
push_holds events event step leads = record { follows = λ x now. one x (left_now all x now); runs = record { later = later; only = only; keeps = keeps } }
  where
    all : List SiteEvent
    all = events ++ event ∷ []

    one : (x : Left) → MayLeave (state_of all) x → After (clock_of events) step x
    one x may =
        let from = leads x (subst (λ s. MayLeave s x) (state_push events event) may) in
        (from.0, now_leaves events from.0 from.1, from.2)

    long : length all ≡ length events + 1
    long = length-append events (event ∷ [])

    later : (clock_of events).now ≤ (clock_of all).now
    later = omega (arith, long)

    only : (t : ℕ) (x : Left) → t ≤ (clock_of events).now → (clock_of all).left t x → (clock_of events).left t x ⊎ After (clock_of events) step x
    only t x le left = elim (cases_lt (length events) left.0) [
      | inl past ↦ inr (one x (subst (λ (l : List SiteEvent). MayLeave (state_of l) x) (take_all left.0 all (omega (arith, long, past))) left.3))
      | inr before ↦ inl (left.0, left.1, before, subst (λ (l : List SiteEvent). MayLeave (state_of l) x) (take-append-le left.0 events (event ∷ []) before) left.3)
    ]

    keeps : (t : ℕ) (x : Left) → t ≤ (clock_of events).now → (clock_of events).left t x → (clock_of all).left t x
    keeps t x le left = (left.0, left.1, omega (arith, long, left.2), subst (λ (l : List SiteEvent). MayLeave (state_of l) x) (sym (take-append-le left.0 events (event ∷ []) left.2)) left.3)

-- no event
pub still : (events : List SiteEvent) (step : Left → Left → Type 0) → ((x : Left) → step x x) → Steps step (clock_of events) (clock_of events)
still events step refls = record {
  follows = λ x now. (x, now, refls x);
  runs = record { later = omega arith; only = λ t x le left. inl left; keeps = λ t x le left. left };
}

-- the events, one by one
module _ (s : Replayed) where
  passes_one : (files : Files) → ((before : Files) × Reaches s.stable s.pending before × (files ≡ before)) → Reaches s.stable s.pending files
  passes_one files from = subst (λ (l : Files). Reaches s.stable s.pending l) (sym from.2) from.1

  pub write_leads : (f at : ℕ) (bytes : Vec ℕ Global) (ok : Bool) (x : Left) → MayLeave (after (Wrote f at bytes ok) s) x → (y : Left) × MayLeave s y × OnDisk f (Torn at (length bytes.items)) y x
  write_leads f at bytes true x (inl now, said) = (
    record { files = s.files; said = s.said },
    (inl refl, refl),
    record {
      files = subst (λ (l : Files). InFile f (Torn at (length bytes.items)) s.files l) (sym now) (in_file_with f (Torn at (length bytes.items)) s.files (overlay_bytes at bytes.items (s.files f)) (torn_overlaid at bytes.items (s.files f)));
      said = said;
    },
  )
  write_leads f at bytes false x (inl now, said) = (
    record { files = s.files; said = s.said },
    (inl refl, refl),
    record {
      files = subst (λ (l : Files). InFile f (Torn at (length bytes.items)) s.files l) (sym now) (in_file_same f (Torn at (length bytes.items)) s.files (torn_refl at (length bytes.items) (s.files f)));
      said = said;
    },
  )
  write_leads f at bytes ok x (inr reached, said) = (record { files = reached.0; said = s.said }, (inr reached.1, refl), record { files = reached.2; said = said })

  pub cut_leads : (f len : ℕ) (ok : Bool) (x : Left) → MayLeave (after (Shortened f len ok) s) x → (y : Left) × MayLeave s y × OnDisk f (Cut len) y x
  cut_leads f len true x (inl now, said) = (
    record { files = s.files; said = s.said },
    (inl refl, refl),
    record {
      files = subst (λ (l : Files). InFile f (Cut len) s.files l) (sym now) (in_file_with f (Cut len) s.files (take len (s.files f)) (inr refl));
      said = said;
    },
  )
  cut_leads f len false x (inl now, said) = (
    record { files = s.files; said = s.said },
    (inl refl, refl),
    record {
      files = subst (λ (l : Files). InFile f (Cut len) s.files l) (sym now) (in_file_same f (Cut len) s.files (inl refl));
      said = said;
    },
  )
  cut_leads f len ok x (inr reached, said) = (record { files = reached.0; said = s.said }, (inr reached.1, refl), record { files = reached.2; said = said })

  pub look_leads : (ok : Bool) (x : Left) → MayLeave (after (Looked ok) s) x → (y : Left) × MayLeave s y × Same y x
  look_leads ok x (inl now, said) = (x, (inl now, said), refl)
  look_leads ok x (inr reached, said) = (x, (inr (passes_one x.files reached), said), refl)

  pub sync_leads : (ok : Bool) (x : Left) → MayLeave (after (Synced ok) s) x → (y : Left) × MayLeave s y × Same y x
  sync_leads true x (inl now, said) = (x, (inl now, said), refl)
  sync_leads true x (inr stable, said) = (x, (inl stable, said), refl)
  sync_leads false x (inl now, said) = (x, (inl now, said), refl)
  sync_leads false x (inr reached, said) = (x, (inr (passes_one x.files reached), said), refl)

  pub say_leads : (bytes : Vec ℕ Global) (ok : Bool) (x : Left) → MayLeave (after (Said bytes ok) s) x → (y : Left) × MayLeave s y × PrintsPartOf bytes.items y x
  say_leads bytes true x (from, said) = (
    record { files = x.files; said = s.said },
    (⊎_elim (λ now. inl now) (λ reached. inr (passes_one x.files reached)) from, refl),
    record { files = refl; some = length bytes.items; said = said ∙ ap (λ (l : List ℕ). s.said ++ l) (sym (take_all (length bytes.items) bytes.items (omega arith))) },
  )
  say_leads bytes false x (from, said) = (
    record { files = x.files; said = s.said },
    (⊎_elim (λ now. inl now) (λ reached. inr (passes_one x.files reached)) from, refl),
    record { files = refl; some = 0; said = said ∙ sym (append-nil s.said) },
  )

  pub replace_leads : (f : ℕ) (bytes : Vec ℕ Global) (x : Left) → MayLeave (after (Replaced f bytes) s) x → (y : Left) × MayLeave s y × OnDisk f (λ old new. new ≡ bytes.items) y x
  replace_leads f bytes x (inl now, said) = (
    record { files = s.files; said = s.said },
    (inl refl, refl),
    record { files = subst (λ (l : Files). InFile f (λ old new. new ≡ bytes.items) s.files l) (sym now) (in_file_with f (λ old new. new ≡ bytes.items) s.files bytes.items refl); said = said },
  )
  replace_leads f bytes x (inr reached, said) = (
    record { files = reached.0; said = s.said },
    (inr reached.1, refl),
    record { files = subst (λ (l : Files). InFile f (λ old new. new ≡ bytes.items) reached.0 l) (sym reached.2) (in_file_with f (λ old new. new ≡ bytes.items) reached.0 bytes.items refl); said = said },
  )

-- after a sync that succeeded
pub synced_only : (events : List SiteEvent) → Only (state_of events).files (clock_of (events ++ Synced true ∷ []))
synced_only events x now = elim (subst (λ s. MayLeave s x) (state_push events (Synced true)) (left_now (events ++ Synced true ∷ []) x now)).0 [ inl is ↦ is | inr is ↦ is ]

pub stays : (events : List SiteEvent) (files : Files) → files ≡ (state_of events).files → (x : Left) × Now (clock_of events) x × (x.files ≡ files)
stays events files same =
    let s = state_of events in
    (record { files = s.files; said = s.said }, now_leaves events (record { files = s.files; said = s.said }) (inl refl, refl), sym same)

pub said_now : (events : List SiteEvent) (said : List ℕ) → said ≡ (state_of events).said → (x : Left) → Now (clock_of events) x → x.said ≡ said
said_now events said same x now = (left_now events x now).1 ∙ sym same

-- A pick leaves what a stop may leave.
length-drawn : (count seed : ℕ) → length (draw_bytes count seed) ≡ count
unfolding draw_bytes
length-drawn zero seed = refl
length-drawn (suc count) seed = ap suc (length-drawn count _)

-- a write of the gap too is one that began at its offset
torn_gap : (at : ℕ) (bytes other file : List ℕ) → length other ≡ count_of at bytes file → Torn at (length bytes) file (overlay_bytes (start_of at file) other file)
torn_gap at bytes other file long =
    let t = torn_overlaid (start_of at file) other file in
    record {
      no_shorter = t.no_shorter;
      no_longer = omega (arith, long, t.no_longer);
      below = λ i within low. t.below i within (omega (arith, within, low));
      above = λ i within high. t.above i within (omega (arith, long, high, within));
    }

pub marked_torn : (fill : Fill) (seed at : ℕ) (bytes file : List ℕ) → Torn at (length bytes) file (file_after fill seed at bytes file)
marked_torn Old seed at bytes file = torn_refl at (length bytes) file
marked_torn New seed at bytes file = torn_overlaid at bytes file
marked_torn Sevens seed at bytes file = torn_gap at bytes _ file (length-replicate (count_of at bytes file) 7)
marked_torn Drawn seed at bytes file = torn_gap at bytes _ file (length-drawn (count_of at bytes file) seed)

strikes : (fill : Fill) (cuts : Bool) (event : SiteEvent) (s : Struck) → EventMayMake event s.files (strike fill cuts event s).files
strikes fill cuts (Looked ok) s = refl
strikes fill cuts (Wrote f at bytes ok) s = in_file_with f _ s.files _ (marked_torn fill s.seed at bytes.items (s.files f))
strikes fill true (Shortened f len ok) s = in_file_with f _ s.files _ (inr refl)
strikes fill false (Shortened f len ok) s = in_file_same f _ s.files (inl refl)
strikes fill cuts (Synced ok) s = refl
strikes fill cuts (Said bytes ok) s = refl
strikes fill cuts (Replaced f bytes) s = refl
strikes fill cuts (Recalled bytes) s = refl

pub picks_reach : (pick : ℕ) (stable : Files) (pending : List SiteEvent) → Reaches stable pending (pick_state pick stable pending).files
unfolding pick_state
picks_reach pick stable [] = refl
picks_reach pick stable (event ∷ earlier) = ((pick_state pick stable earlier).files, picks_reach pick stable earlier, strikes (fill_of pick) (cuts_of pick) event (pick_state pick stable earlier))
