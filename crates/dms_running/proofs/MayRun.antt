-- A database that may run, with one entry more or other blocks.
use Rattle.std.proofs.Common.{ℕ, ◌-◌, ◌^◌, ◌+◌, ◌≤◌, ◌<◌, ◌≡◌, Bool, true, false, cond, List, [], ◌∷◌, ◌++◌, map, length, Option, Some, None, refl, sym, ◌∙◌, ap, subst, arith}
use Rattle.std.specs.Prelude.{◌&&◌, not}
use Rattle.dms_history.specs.Events.{BlockBytes, AllBlocks, Stored, Event, change, quiet, control, begin, block_in}
use Rattle.dms_history.specs.Replay.{TellsBefore, with_block}
use Rattle.dms_history.specs.Lists.{has, after_last}
use Rattle.dms_history.specs.Places.{is_control, is_described, is_point}
use Rattle.dms_history.specs.History.{History, history, after_event}
use Rattle.dms_history.specs.Images.{or_else, last_after}
use Rattle.dms_history.specs.Ranges.{patch_bytes, is_control_logged, is_image, live_logged}
use Rattle.dms_history.specs.Base.{opening, from_control, Sound}
use Rattle.dms_history.specs.Pick.{Dumps, blocks_at}
use Rattle.dms_history.specs.Here.{here}
use Rattle.dms_history.specs.Points.{numbers_from, live_points}
use Rattle.dms_history.specs.Entries.{Entry, image, byte_range, quiet_point}
use Rattle.dms_history.specs.EntryEvents.{events_in, events, history_of, live_of, next_of}
use Rattle.dms_history.specs.Kept.{content_told, Kept}
use Rattle.dms_history.specs.LawsOfKept.{IsIdle}
use Rattle.dms_history.specs.Sizes.{AllSized, IsSizedBefore, ImagesSized}
use Rattle.dms_history.proofs.AtPoints.{true_or}
use Rattle.dms_history.proofs.Base.{has_append, parts}
use Rattle.dms_history.proofs.Converse.{opening_append, logged_below}
use Rattle.dms_history.proofs.Picks.{last_append, last_stands}
use Rattle.dms_history.proofs.Turns.{live_of_ranges}
use Rattle.dms_history.proofs.Imaged.{image_told}
use Rattle.dms_history.proofs.Patches.{range_fits}
use Rattle.dms_history.proofs.Given.{described_control}
use Rattle.dms_history.proofs.Again.{here_unpending}
use Rattle.dms_history.proofs.LastPending.{no_dump_counts}
use Rattle.dms_history.proofs.Running.{above_all, quiet_is_live}
use Rattle.dms_history.proofs.Sealed.{image_sealed, range_sealed, quiet_sealed, one_more_event}
use Rattle.dms_history.proofs.Sizing.{sized_replay}
use Rattle.dms_history.proofs.Listed.{points_listed}
use Rattle.dms_history.proofs.Keeping.{kept_image, kept_range, kept_quiet, kept_writes}
use Rattle.dms_running.specs.Standing.{Stands, MayRun}
use Rattle.dms_running.specs.Points.{described_in, points_told}
use Rattle.dms_running.proofs.Described.{AllPlaced, all_placed}

pub images_both : (xs ys : List Event) → ImagesSized xs → ImagesSized ys → ImagesSized (xs ++ ys)
images_both [] ys one two = two
images_both (change f b before after ∷ xs) ys one two = (one.0, images_both xs ys one.1 two)
images_both (quiet n ∷ xs) ys one two = images_both xs ys one two
images_both (control n next counts described ∷ xs) ys one two = images_both xs ys one two
images_both (begin n how ∷ xs) ys one two = images_both xs ys one two

before_sized : (b : ℕ) (before : Option BlockBytes) (c : AllBlocks) (f : ℕ) → TellsBefore b before (c f) → AllSized c → IsSizedBefore before
before_sized b None c f tells sized = tt
before_sized b (Some old) c f tells sized = ap length tells.1 ∙ sized f b tells.0

module _ (first : Bool) (es : List Entry) (dumps : Dumps) (base : AllBlocks) (stored : Stored) (m : MayRun first es dumps base stored) where
  pub has_one : has is_control (live_of es) ≡ true
  has_one = described_control (live_of es) m.stands.described

  pub idle : IsIdle es
  idle = record { none = m.none; controlled = has_one }

  -- what counts is what is stored
  pub counted : here dumps (history_of es) stored ≡ stored
  counted = here_unpending dumps (history_of es) stored m.none

  pub sound : Sound (from_control (live_of es)) base stored
  sound = subst (λ (s : Stored). Sound (from_control (live_of es)) base s) counted m.stands.kept.steady.sound

  pub content_sized : AllSized (content_told es base)
  content_sized = sized_replay (from_control (live_of es)) base sound.chain m.stands.base_sized m.stands.images_sized

  pub points_are : points_told dumps es stored ≡ map (described_in es) (live_points (live_of es) stored)
  points_are = ap (λ (s : Stored). map (described_in es) (live_points (live_of es) s)) counted

  -- each of them has its place
  pub points_placed : AllPlaced es (live_points (live_of es) stored)
  points_placed = all_placed es stored (live_points (live_of es) stored) (points_listed (live_of es) (next_of es) stored m.stands.kept.numbered).lives

  module _ (e : Entry) (ev : Event) (is : events (es ++ e ∷ []) ≡ events es ++ ev ∷ []) where
    pub one_step : history_of (es ++ e ∷ []) ≡ after_event (history_of es) ev
    one_step = ap history is ∙ one_more_event (events es) ev

    module _ (grows : (after_event (history_of es) ev).live ≡ live_of es ++ ev ∷ []) where
      pub live_more : live_of (es ++ e ∷ []) ≡ live_of es ++ ev ∷ []
      live_more = ap (λ (h : History). h.live) one_step ∙ grows

      described_more : has is_described (live_of (es ++ e ∷ [])) ≡ true
      described_more = ap (λ (l : List Event). has is_described l) live_more ∙ has_append is_described (live_of es) (ev ∷ []) ∙ true_or (has is_described (live_of es)) (has is_described (ev ∷ [])) m.stands.described

      pub from_more : from_control (live_of (es ++ e ∷ [])) ≡ from_control (live_of es) ++ ev ∷ []
      from_more = ap (λ (l : List Event). from_control l) live_more ∙ (opening_append (live_of es) (ev ∷ []) has_one).1

      pub stands_more : (others : Dumps) (written : Stored) → Kept first (es ++ e ∷ []) others base written → ImagesSized (ev ∷ []) → Stands first (es ++ e ∷ []) others base written
      stands_more others written kept sized = record {
        kept = kept;
        described = described_more;
        base_sized = m.stands.base_sized;
        images_sized = subst ImagesSized (sym from_more) (images_both (from_control (live_of es)) (ev ∷ []) m.stands.images_sized sized);
      }

  -- an Image
  module _ (f b : ℕ) (before : Option BlockBytes) (after : BlockBytes) (tells : TellsBefore b before (content_told es base f)) (sized : length after ≡ 1024) where
    abbrev pub with_image : List Entry
    with_image = es ++ image f b before after ∷ []

    pub may_image : MayRun first with_image dumps base stored
    may_image = record {
      stands = stands_more (image f b before after) (change f b before after) (image_sealed es f b before after) refl dumps stored (kept_image first es dumps base stored f b before after m.stands.kept idle tells).kept
          (record { was = before_sized b before (content_told es base) f tells content_sized; becomes = sized }, tt);
      none = ap (λ (h : History). h.pending) (one_step (image f b before after) (change f b before after) (image_sealed es f b before after)) ∙ m.none;
    }

    pub content_image : content_told with_image base ≡ with_block (content_told es base) f b after
    content_image = (kept_image first es dumps base stored f b before after m.stands.kept idle tells).tells

    pub live_image : live_of with_image ≡ live_of es ++ change f b before after ∷ []
    live_image = live_more (image f b before after) (change f b before after) (image_sealed es f b before after) refl

  -- a Range
  module _ (f b place : ℕ) (bytes : List ℕ) (itself : has (is_image f b) (after_last is_control_logged (live_logged [] (events_in es))) ≡ true) (within : place + length bytes ≤ 1024) where
    abbrev pub with_range : List Entry
    with_range = es ++ byte_range f b place bytes ∷ []

    -- the block as it was last logged
    abbrev pub had : (old : BlockBytes) × (last_after f b (from_control (live_of es)) ≡ Some old)
    had =
        let told = live_of_ranges (events_in es) in
        let r = image_told (live_logged [] (events_in es)) f b m.stands.kept.images (ap (λ (l : List Event). has is_control l) (sym told) ∙ has_one) itself in
        (r.0, ap (λ (l : List Event). last_after f b (from_control l)) told ∙ r.1)

    abbrev pub changed : Event
    changed = change f b (Some had.0) (patch_bytes place bytes had.0)

    pub range_is : events with_range ≡ events es ++ changed ∷ []
    range_is =
        (range_sealed es f b place bytes).0 had.0
        (ap (λ (l : List Event). last_after f b l) (sym (parts (live_of es))) ∙ last_append (opening (live_of es)) (from_control (live_of es)) f b ∙ ap (λ o. or_else o (last_after f b (opening (live_of es)))) had.1)

    old_sized : length had.0 ≡ 1024
    old_sized =
        ap length (sym (last_stands (from_control (live_of es)) base f b had.0 sound.chain had.1))
        ∙ content_sized f b (logged_below (from_control (live_of es)) base f b had.0 sound.chain had.1)

    new_sized : length (patch_bytes place bytes had.0) ≡ 1024
    new_sized = (range_fits place 0 had.0 had.0 (omega (arith, within, old_sized)) refl (λ i low. refl) (λ i low high. refl)).1 bytes (omega (arith, within, old_sized)) ∙ old_sized

    pub may_range : MayRun first with_range dumps base stored
    may_range = record {
      stands = stands_more (byte_range f b place bytes) changed range_is refl dumps stored (kept_range first es dumps base stored f b place bytes m.stands.kept idle itself).kept (record { was = old_sized; becomes = new_sized }, tt);
      none = ap (λ (h : History). h.pending) (one_step (byte_range f b place bytes) changed range_is) ∙ m.none;
    }

    pub content_range : content_told with_range base ≡ with_block (content_told es base) f b (patch_bytes place bytes (block_in (content_told es base) f b))
    content_range = (kept_range first es dumps base stored f b place bytes m.stands.kept idle itself).tells

    pub live_range : live_of with_range ≡ live_of es ++ changed ∷ []
    live_range = live_more (byte_range f b place bytes) changed range_is refl

  -- a Quiet
  module _ (n : ℕ) (free : next_of es ≤ n) (low : n < 2 ^ 64 - 1) where
    abbrev pub with_quiet : List Entry
    with_quiet = es ++ quiet_point n ∷ []

    pub may_quiet : MayRun first with_quiet dumps base stored
    may_quiet = record {
      stands = stands_more (quiet_point n) (quiet n) (quiet_sealed es n) refl dumps stored (kept_quiet first es dumps base stored n m.stands.kept idle free low).kept tt;
      none = ap (λ (h : History). h.pending) (one_step (quiet_point n) (quiet n) (quiet_sealed es n)) ∙ m.none;
    }

    pub content_quiet : content_told with_quiet base ≡ content_told es base
    content_quiet = (kept_quiet first es dumps base stored n m.stands.kept idle free low).tells

    pub live_quiet : live_of with_quiet ≡ live_of es ++ quiet n ∷ []
    live_quiet = live_more (quiet_point n) (quiet n) (quiet_sealed es n) refl

  -- blocks are written early
  pub may_write : (written : Stored) → ((f b : ℕ) → b < length (content_told es base f) → last_after f b (after_last is_control (from_control (live_of es))) ≡ None → written f b ≡ stored f b)
      → MayRun first es dumps base written
  may_write written same = record {
    stands = record {
      kept = kept_writes first es dumps base stored written m.stands.kept m.none same;
      described = m.stands.described;
      base_sized = m.stands.base_sized;
      images_sized = m.stands.images_sized;
    };
    none = m.none;
  }

  -- a quiet point with the next number would have the content
  pub content_at : blocks_at (live_of es ++ quiet (next_of es) ∷ []) stored (next_of es) ≡ content_told es base
  content_at = (quiet_is_live (live_of es) (next_of es) base stored (next_of es) m.stands.kept.numbered (omega arith) m.stands.described sound).same

  pub new_number : (n : ℕ) → next_of es ≤ n → has (is_point n) (live_of es) ≡ false
  new_number n free = above_all (live_of es) (next_of es) n m.stands.kept.numbered free

  pub new_place_at : (n : ℕ) → next_of es ≤ n → numbers_from (live_of es) (quiet n ∷ []) ≡ n ∷ []
  new_place_at n free =
      let off : has (is_point n) (live_of es) ≡ false = new_number n free in
      let told : has is_described (live_of es ++ quiet n ∷ []) ≡ true = has_append is_described (live_of es) (quiet n ∷ []) ∙ true_or (has is_described (live_of es)) (has is_described (quiet n ∷ [])) m.stands.described in
      λ i. cond (not (off i) && told i) (n ∷ []) [] ++ []

-- where no restore is pending no dump counts
pub other_dumps : (first : Bool) (es : List Entry) (dumps : Dumps) (base : AllBlocks) (stored : Stored) → MayRun first es dumps base stored → (others : Dumps) → MayRun first es others base stored
other_dumps first es dumps base stored m others = record {
  stands = record {
    kept = record {
      steady = no_dump_counts dumps others (history_of es) base stored m.none m.stands.kept.steady;
      opened = m.stands.kept.opened;
      numbered = m.stands.kept.numbered;
      alone = m.stands.kept.alone;
      images = m.stands.kept.images;
      empty = m.stands.kept.empty;
    };
    described = m.stands.described;
    base_sized = m.stands.base_sized;
    images_sized = m.stands.images_sized;
  };
  none = m.none;
}
