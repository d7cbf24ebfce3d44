-- What a database keeps between two calls.
use Rattle.std.proofs.Common.{ℕ, ◌≡◌, inl, inr, Bool, true, List, [], ◌∷◌, ◌++◌, take, Some, None, refl, sym, ◌∙◌, ap, subst, arith}
use Rattle.std.proofs.lemmas.Option.{none-some}
use Rattle.dms_history.specs.Events.{AllBlocks, Stored, How, Event, change, quiet, control, begin}
use Rattle.dms_history.specs.Replay.{apply, replay}
use Rattle.dms_history.specs.Lists.{has}
use Rattle.dms_history.specs.Places.{is_control, is_point}
use Rattle.dms_history.specs.History.{History, after_event, history, next_number}
use Rattle.dms_history.specs.Images.{or_else, last_after}
use Rattle.dms_history.specs.Pick.{Dumps}
use Rattle.dms_history.specs.Here.{here}
use Rattle.dms_history.specs.Base.{opening, from_control, base_of, Sound, OpenedFrom}
use Rattle.dms_history.specs.Agrees.{Numbered}
use Rattle.dms_history.specs.Restores.{Steady}
use Rattle.dms_history.specs.Ranges.{Logged, event, range, patch_bytes, all_changes, told_events, live_step, live_logged}
use Rattle.dms_history.specs.LawsOfRanges.{HasImages}
use Rattle.dms_history.specs.Entries.{Entry, schema_part, image, byte_range, quiet_point, control_point, begin_restore, counts_in, how_of}
use Rattle.dms_history.specs.declared.event.FileCount.{FileCount}
use Rattle.dms_history.specs.Schemas.{no_parts, parts_from, is_whole, schema_entries}
use Rattle.dms_history.specs.EntryEvents.{said_by, events_in, events, history_of, live_of, next_of, ends_restore_logged, BeginsAlone}
use Rattle.dms_history.specs.Kept.{content_told, Kept}
use Rattle.dms_history.specs.LawsOfKept.{KeptFirst, KeptImage, KeptRange, KeptQuiet, KeptSchema, KeptControl, KeptLevel, KeptBegin, KeptEnds, KeptWrites, KeptRestores, KeptAgrees, AgreesKept, KeptInParts, FirstAgrees}
use Rattle.dms_history.proofs.Picks.{last_append}
use Rattle.dms_history.proofs.AtPoints.{replay_append}
use Rattle.dms_history.proofs.Base.{parts}
use Rattle.dms_history.proofs.Converse.{opening_append, agrees_leads}
use Rattle.dms_history.proofs.Given.{controlled, opening_stays}
use Rattle.dms_history.proofs.HalfDone.{has_front}
use Rattle.dms_history.proofs.Stops.{restore_begins, restore_writes, restore_ends, outcome_length}
use Rattle.dms_history.proofs.Runs.{writes_early}
use Rattle.dms_history.proofs.Again.{runs_steady, ranges_steady, steady_of, here_unpending}
use Rattle.dms_history.proofs.Order.{append_none, not_empty, numbers_change, numbers_quiet, numbers_begin, numbers_control, numbers_level, numbers_first}
use Rattle.dms_history.proofs.Schemas.{logged_append}
use Rattle.dms_history.proofs.Splits.{images_go_on}
use Rattle.dms_history.proofs.Turns.{live_of_ranges}
use Rattle.dms_history.proofs.Sealed.{one, image_sealed, range_sealed, quiet_sealed, control_logged, control_sealed, begin_sealed, one_more_event}
use Rattle.dms_history.proofs.Whole.{agrees_is_steady, steady_agrees}
use Rattle.dms_history.proofs.LastPending.{pending_cuts}
use Rattle.dms_history.proofs.Alone.{alone_events, alone_more, not_begun}
use Rattle.dms_history.proofs.SchemaParts.{parts_say_nothing, schema_in_parts}
use Rattle.dms_history.proofs.Imaged.{image_told}

-- ---- one more entry

-- all that is kept depends on what the entries say
kept_same : (first : Bool) (es more : List Entry) (dumps : Dumps) (base : AllBlocks) (stored : Stored) → events_in more ≡ events_in es → Kept first es dumps base stored → Kept first more dumps base stored
kept_same first es more dumps base stored same k = record {
  steady = subst (λ (l : List Logged). Steady dumps (history (told_events l)) base stored) (sym same) k.steady;
  opened = subst (λ (l : List Logged). OpenedFrom (opening (history (told_events l)).live) base) (sym same) k.opened;
  numbered = subst (λ (l : List Logged). Numbered (history (told_events l)).live (next_number (told_events l))) (sym same) k.numbered;
  alone = subst BeginsAlone (sym same) k.alone;
  images = subst (λ (l : List Logged). HasImages (live_logged [] l)) (sym same) k.images;
  empty = k.empty;
}

says_one : (es : List Entry) (e : Entry) (l : Logged) → said_by (parts_from no_parts es) e ≡ l ∷ [] → events_in (es ++ e ∷ []) ≡ events_in es ++ l ∷ []
says_one es e l said = logged_append es (e ∷ []) no_parts ∙ ap (λ (k : List Logged). events_in es ++ (k ++ [])) said

live_append : (xs ys live : List Logged) → live_logged live (xs ++ ys) ≡ live_logged (live_logged live xs) ys
live_append [] ys live = refl
live_append (x ∷ xs) ys live = live_append xs ys (live_step live x)

module _ (first : Bool) (es : List Entry) (e : Entry) (l : Logged) (ev : Event) (dumps : Dumps) (base : AllBlocks) (is : events (es ++ e ∷ []) ≡ events es ++ ev ∷ []) where
  one_step : history_of (es ++ e ∷ []) ≡ after_event (history_of es) ev
  one_step = ap history is ∙ one_more_event (events es) ev

  kept_event : (others : Dumps) (stored written : Stored) → Kept first es dumps base stored → events_in (es ++ e ∷ []) ≡ events_in es ++ l ∷ []
      → Steady others (after_event (history_of es) ev) base written → OpenedFrom (opening (after_event (history_of es) ev).live) base
      → Numbered (after_event (history_of es) ev).live (next_number (events es ++ ev ∷ []))
      → ((xs : List Logged) (m : ℕ) (how : How) → events_in es ≡ xs ++ event (begin m how) ∷ [] → ends_restore_logged l ≡ true)
      → HasImages (live_step (live_logged [] (events_in es)) l) → Kept first (es ++ e ∷ []) others base written
  kept_event others stored written k says steady opened numbered alone images = record {
    steady = subst (λ (h : History). Steady others h base written) (sym one_step) steady;
    opened = subst (λ (h : History). OpenedFrom (opening h.live) base) (sym one_step) opened;
    numbered = subst (λ (h : History). Numbered h.live (next_of (es ++ e ∷ []))) (sym one_step) (subst (λ (k : List Event). Numbered (after_event (history_of es) ev).live (next_number k)) (sym is) numbered);
    alone = subst BeginsAlone (sym says) (alone_more (events_in es) l k.alone alone);
    images = subst (λ (k : List Logged). HasImages (live_logged [] k)) (sym says) (subst HasImages (sym (live_append (events_in es) (l ∷ []) [])) images);
    empty = k.empty;
  }

  -- the content after it
  content_event : (after_event (history_of es) ev).live ≡ live_of es ++ ev ∷ [] → has is_control (live_of es) ≡ true → content_told (es ++ e ∷ []) base ≡ apply ev (content_told es base)
  content_event grows found =
      ap (λ (h : History). replay (from_control h.live) base) one_step ∙ ap (λ (k : List Event). replay (from_control k) base) grows
      ∙ ap (λ (k : List Event). replay k base) (opening_append (live_of es) (ev ∷ []) found).1 ∙ replay_append (from_control (live_of es)) (ev ∷ []) base

still_opened : (live : List Event) (e : Event) (base : AllBlocks) → has is_control live ≡ true → OpenedFrom (opening live) base → OpenedFrom (opening (live ++ e ∷ [])) base
still_opened live e base found opened = subst (λ (l : List Event). OpenedFrom l base) (sym (opening_append live (e ∷ []) found).0) opened

-- ---- a database that runs

pub kept_image : KeptImage
kept_image first es dumps base stored f b before after k idle tells =
    let ev = change f b before after in
    let is = image_sealed es f b before after in
    let live = live_of es in record {
      kept = kept_event first es (image f b before after) (event ev) ev dumps base is dumps stored stored k (says_one es (image f b before after) (event ev) refl)
          ((runs_steady dumps (history_of es) base stored idle.none idle.controlled k.steady).change f b before after tells)
          (still_opened live ev base idle.controlled k.opened)
          (numbers_change (events es) live f b before after k.numbered)
          (λ xs m how at. absurd (not_begun es idle.none xs m how at))
          ((images_go_on (live_logged [] (events_in es)) k.images).others (event ev) refl);
      tells = content_event first es (image f b before after) (event ev) ev dumps base is refl idle.controlled;
    }

pub kept_range : KeptRange
kept_range first es dumps base stored f b place bytes k idle itself =
    let e = byte_range f b place bytes in
    let l : Logged = range f b place bytes in
    let live = live_of es in
    let ls = live_logged [] (events_in es) in
    let told : live ≡ all_changes ls = live_of_ranges (events_in es) in
    let had = image_told ls f b k.images (ap (λ (l : List Event). has is_control l) (sym told) ∙ idle.controlled) itself in
    let old = had.0 in
    let last : last_after f b (from_control live) ≡ Some old = ap (λ (l : List Event). last_after f b (from_control l)) told ∙ had.1 in
    let live_last : last_after f b live ≡ Some old =
    ap (λ (l : List Event). last_after f b l) (sym (parts live)) ∙ last_append (opening live) (from_control live) f b ∙ ap (λ o. or_else o (last_after f b (opening live))) last in
    let ev = change f b (Some old) (patch_bytes place bytes old) in
    let is = (range_sealed es f b place bytes).0 old live_last in
    let r = ranges_steady dumps (history_of es) base stored f b place bytes old idle.none idle.controlled k.steady last in record {
      kept = kept_event first es e l ev dumps base is dumps stored stored k (says_one es e l refl) r.steady
          (still_opened live ev base idle.controlled k.opened)
          (numbers_change (events es) live f b (Some old) (patch_bytes place bytes old) k.numbered)
          (λ xs m how at. absurd (not_begun es idle.none xs m how at))
          ((images_go_on ls k.images).ranges f b place bytes itself);
      tells = ap (λ (h : History). replay (from_control h.live) base) (one_step first es e l ev dumps base is) ∙ r.content;
    }

pub kept_quiet : KeptQuiet
kept_quiet first es dumps base stored n k idle free low =
    let ev = quiet n in
    let is = quiet_sealed es n in
    let live = live_of es in record {
      kept = kept_event first es (quiet_point n) (event ev) ev dumps base is dumps stored stored k (says_one es (quiet_point n) (event ev) refl)
          ((runs_steady dumps (history_of es) base stored idle.none idle.controlled k.steady).quiet n)
          (still_opened live ev base idle.controlled k.opened)
          (numbers_quiet (events es) live n k.numbered free low)
          (λ xs m how at. absurd (not_begun es idle.none xs m how at))
          ((images_go_on (live_logged [] (events_in es)) k.images).others (event ev) refl);
      tells = content_event first es (quiet_point n) (event ev) ev dumps base is refl idle.controlled;
    }

pub kept_schema : KeptSchema
kept_schema first es dumps base stored part parts bytes k =
    kept_same first es (es ++ schema_part part parts bytes ∷ []) dumps base stored (logged_append es (schema_part part parts bytes ∷ []) no_parts ∙ append_none (events_in es)) k

module _ (first : Bool) (es : List Entry) (n next : ℕ) (counts : List FileCount) where
  abbrev pub the_control : Event
  the_control = control n next (counts_in counts) (is_whole (parts_from no_parts es))

  control_is : events (es ++ control_point n next counts ∷ []) ≡ events es ++ the_control ∷ []
  control_is = one es (control_point n next counts) (event the_control) refl

pub kept_control : KeptControl
kept_control first es dumps base stored written n next counts k idle last placed carried count stand =
    let ev = the_control first es n next counts in
    let is = control_is first es n next counts in
    let live = live_of es in record {
      kept = kept_event first es (control_point n next counts) (event ev) ev dumps base is dumps stored written k (says_one es (control_point n next counts) (event ev) refl)
          ((runs_steady dumps (history_of es) base stored idle.none idle.controlled k.steady).control written n next (counts_in counts) (is_whole (parts_from no_parts es)) count stand)
          (still_opened live ev base idle.controlled k.opened)
          (numbers_control (events es) (history_of es) n next (counts_in counts) (is_whole (parts_from no_parts es)) k.numbered last placed carried)
          (λ xs m how at. refl)
          ((images_go_on (live_logged [] (events_in es)) k.images).others (event ev) refl);
      tells = content_event first es (control_point n next counts) (event ev) ev dumps base is refl idle.controlled;
    }

pub kept_level : KeptLevel
kept_level first es dumps base stored written n next counts k idle free up low count stand =
    let ev = the_control first es n next counts in
    let is = control_is first es n next counts in
    let live = live_of es in record {
      kept = kept_event first es (control_point n next counts) (event ev) ev dumps base is dumps stored written k (says_one es (control_point n next counts) (event ev) refl)
          ((runs_steady dumps (history_of es) base stored idle.none idle.controlled k.steady).control written n next (counts_in counts) (is_whole (parts_from no_parts es)) count stand)
          (still_opened live ev base idle.controlled k.opened)
          (numbers_level (events es) live n next (counts_in counts) (is_whole (parts_from no_parts es)) k.numbered free up low)
          (λ xs m how at. refl)
          ((images_go_on (live_logged [] (events_in es)) k.images).others (event ev) refl);
      tells = content_event first es (control_point n next counts) (event ev) ev dumps base is refl idle.controlled;
    }

pub kept_writes : KeptWrites
kept_writes first es dumps base stored written k none same =
    let live = live_of es in
    let sound : Sound (from_control live) base stored = subst (λ (s : Stored). Sound (from_control live) base s) (here_unpending dumps (history_of es) stored none) k.steady.sound in
    record {
      steady = steady_of dumps (history_of es) base written none (writes_early (from_control live) base stored written sound same);
      opened = k.opened;
      numbered = k.numbered;
      alone = k.alone;
      images = k.images;
      empty = k.empty;
    }

-- ---- restores

pub kept_begin : KeptBegin
kept_begin first es dumps others base right stored m kind k ready =
    let how = how_of kind in
    let ev = begin m how in
    let live = live_of es in
    kept_event first es (begin_restore m kind) (event ev) ev dumps base (begin_sealed es m kind) others right stored k (says_one es (begin_restore m kind) (event ev) refl)
    (restore_begins how others (history_of es) base (here dumps (history_of es) right) stored m ready).steady
    (subst (λ (l : List Event). OpenedFrom l base) (sym ((opening_stays live).1 m ready.point_lives)) k.opened)
    (numbers_begin (events es) live m how k.numbered ready.point_lives.found)
    (λ xs n other at. refl)
    ((images_go_on (live_logged [] (events_in es)) k.images).cuts m)

pub kept_restores : KeptRestores
kept_restores first es dumps base stored written p k is same =
    let r = restore_writes dumps (history_of es) base stored written p is k.steady same in record {
      kept = record {
        steady = r.steady;
        opened = k.opened;
        numbered = k.numbered;
        alone = k.alone;
        images = k.images;
        empty = k.empty;
      };
      counts = r.counts;
    }

pub kept_ends : KeptEnds
kept_ends first es dumps base stored written p next counts k pending carried count stand =
    let ev = the_control first es p.point next counts in
    let is = control_is first es p.point next counts in
    let live = live_of es in
    let at = k.steady.point_lives p pending in
    let found : has is_control live ≡ true = has_front (is_point p.point) is_control live (controlled live p.point at) in
    let cut = pending_cuts (events es) p (alone_events es k.alone) pending in record {
      kept = kept_event first es (control_point p.point next counts) (event ev) ev dumps base is dumps stored written k (says_one es (control_point p.point next counts) (event ev) refl)
          (restore_ends dumps (history_of es) base stored written p next (counts_in counts) (is_whole (parts_from no_parts es)) pending k.steady (λ f. count f ∙ sym (outcome_length p.how dumps p.entries p.point f stored)) stand).steady
          (still_opened live ev base found k.opened)
          (numbers_control (events es) (history_of es) p.point next (counts_in counts) (is_whole (parts_from no_parts es)) k.numbered cut.last at.found carried)
          (λ xs m how at. refl)
          ((images_go_on (live_logged [] (events_in es)) k.images).others (event ev) refl);
      tells = content_event first es (control_point p.point next counts) (event ev) ev dumps base is refl found;
    }

-- ---- agreement

pub kept_agrees : KeptAgrees
kept_agrees first es dumps base stored k = record {
  events_agree = steady_agrees first (events es) dumps stored base k.steady k.opened k.numbered k.empty;
  alone = k.alone;
  images = k.images;
}

pub agrees_kept : AgreesKept
agrees_kept first es dumps stored agrees found points =
    let live = live_of es in
    let counted = here dumps (history_of es) stored in
    let lists = agrees.events_agree.lists in
    let leads = agrees_leads first live (next_of es) counted lists found in record {
      base = base_of live counted;
      kept = record {
        steady = agrees_is_steady first (events es) dumps stored agrees.events_agree (alone_events es agrees.alone) points;
        opened = leads.0;
        numbered = record { never_fall = lists.never_fall; below_next = lists.below_next };
        alone = agrees.alone;
        images = agrees.images;
        empty = leads.1;
      };
    }

-- ---- a new database

nothing_yet : events [] ≡ []
unfolding told_events
nothing_yet = refl

first_live : (history (control 0 1 (counts_in []) true ∷ [])).live ≡ control 0 1 (counts_in []) true ∷ []
unfolding history
first_live = refl

first_pending : (history (control 0 1 (counts_in []) true ∷ [])).pending ≡ None
unfolding history
first_pending = refl

pub kept_first : KeptFirst
kept_first one rest dumps stored =
    let c = control 0 1 (counts_in []) true in
    let es = schema_entries (one ∷ rest) ++ control_point 0 1 [] ∷ [] in
    let says : events_in es ≡ event c ∷ [] = control_logged no_parts one rest 0 1 [] in
    let is : events es ≡ c ∷ [] = control_sealed [] one rest 0 1 [] ∙ ap (λ (l : List Event). l ++ c ∷ []) nothing_yet in
    record {
      steady = subst (λ (l : List Event). Steady dumps (history l) (λ f. []) stored) (sym is) (first_steady dumps stored);
      opened = subst (λ (l : List Event). OpenedFrom (opening (history l).live) (λ f. [])) (sym is) first_opened;
      numbered = subst (λ (l : List Event). Numbered (history l).live (next_number l)) (sym is) first_numbered;
      alone = subst BeginsAlone (sym says) (alone_more [] (event c) (λ xs ys m how x at. absurd (not_empty xs (x ∷ ys) (event (begin m how)) (sym at))) (λ xs m how at. absurd (not_empty xs [] (event (begin m how)) (sym at))));
      images = subst (λ (k : List Logged). HasImages (live_logged [] k)) (sym says)
          ((images_go_on [] (record { images = λ xs ys f b place bytes at some. absurd (not_empty xs ys (range f b place bytes) (sym at)) })).others (event c) refl);
      empty = λ yes_first f. refl;
    }
  where
    first_steady : (dumps : Dumps) (stored : Stored) → Steady dumps (history (control 0 1 (counts_in []) true ∷ [])) (λ f. []) stored
    first_steady dumps stored = steady_of dumps (history (control 0 1 (counts_in []) true ∷ [])) (λ f. []) stored first_pending
        (subst (λ (l : List Event). Sound (from_control l) (λ f. []) stored) (sym first_live) (record { chain = (λ f. refl, tt); stands = λ f b low none. absurd (omega (arith, low)) }))

    first_opened : OpenedFrom (opening (history (control 0 1 (counts_in []) true ∷ [])).live) (λ f. [])
    first_opened = subst (λ (l : List Event). OpenedFrom (opening l) (λ f. [])) (sym first_live) (record { leads = λ f b x at. absurd (none-some x at); linked = λ xs ys f b before after old at last. absurd (not_empty xs ys (change f b before after) (sym at)) })

    first_numbered : Numbered (history (control 0 1 (counts_in []) true ∷ [])).live (next_number (control 0 1 (counts_in []) true ∷ []))
    first_numbered = subst (λ (l : List Event). Numbered l (next_number (control 0 1 (counts_in []) true ∷ []))) (sym first_live) (numbers_first (counts_in []) true)

pub first_agrees : FirstAgrees
first_agrees one rest dumps stored = kept_agrees true (schema_entries (one ∷ rest) ++ control_point 0 1 [] ∷ []) dumps (λ f. []) stored (kept_first one rest dumps stored)

pub kept_in_parts : KeptInParts
kept_in_parts first es dumps base stored some one rest e before with_all = elim (schema_in_parts some one rest e) [
  | inl parts ↦ kept_same first es (es ++ take some (schema_entries (one ∷ rest) ++ e ∷ [])) dumps base stored (parts_say_nothing es (take some (schema_entries (one ∷ rest) ++ e ∷ [])) parts).0 before
  | inr whole ↦ subst (λ (l : List Entry). Kept first (es ++ l) dumps base stored) (sym whole) with_all
]
