-- Frames over a running database.
use Rattle.std.proofs.Common.{ℕ, ◌+◌, ◌*◌, ◌≤◌, ◌<◌, ◌≡◌, ◌⊎◌, inl, inr, true, false, cond, List, [], ◌∷◌, ◌++◌, length, Bool, Option, Some, None, refl, sym, ◌∙◌, ap, subst, arith}
use Rattle.std.specs.Prelude.{◌||◌}
use Rattle.std.proofs.lemmas.Bool.{cases_Bool, cases_eq, true≢false}
use Rattle.std.proofs.lemmas.Option.{none-some}
use Rattle.dms_site.specs.Files.{Files, with_file, overlay_bytes, InFile, Torn, stored_of}
use Rattle.dms_site.specs.Laws.{torn_overlaid, in_file_with}
use Rattle.dms_site.specs.StoredLaws.{stored_whole, stored_apart}
use Rattle.dms_history.specs.Events.{BlockBytes, AllBlocks, Stored, Event, change, block_in}
use Rattle.dms_history.specs.Replay.{TellsBefore, with_block}
use Rattle.dms_history.specs.Lists.{has, after_last}
use Rattle.dms_history.specs.Ranges.{patch_bytes, is_control_logged, is_image, live_logged}
use Rattle.dms_history.specs.Places.{is_control}
use Rattle.dms_history.specs.Images.{is_at, last_after}
use Rattle.dms_history.specs.History.{History, history}
use Rattle.dms_history.specs.Entries.{Entry, image, byte_range}
use Rattle.dms_history.specs.EntryEvents.{events, events_in, live_of}
use Rattle.dms_history.specs.Sizes.{AllSized}
use Rattle.dms_history.proofs.Picks.{laid_length, in_file, tells_le, write_here, write_other, write_length, write_old, place_cases, or_none, if_none, last_append, option_cases, some_is}
use Rattle.dms_history.proofs.Turns.{left_out, live_of_ranges}
use Rattle.dms_history.proofs.Runs.{after_push}
use Rattle.dms_history.proofs.Sealed.{image_sealed, range_sealed, one_more_event}
use Rattle.dms_running.specs.Telling.{Telling}
use Rattle.dms_running.specs.Running.{State, entries_now, content_now, IsChanged, AllWritten}
use Rattle.dms_running.specs.Frames.{Frame, Frames, with_frame, HoldsOne, FramesHold}

module _ (frames : Frames) (f b : ℕ) (o : Option Frame) where
  pub frame_here : with_frame frames f b o f b ≡ o
  frame_here = elim (place_cases f b f b) [
    | inl place ↦ ap (λ k. cond k o (frames f b)) place.2
    | inr apart ↦ absurd (apart.0 refl refl)
  ]

  pub frame_other : (g c : ℕ) → (f ≡ g → b ≡ c → ⊥) → with_frame frames f b o g c ≡ frames g c
  frame_other g c off = elim (place_cases f b g c) [
    | inl place ↦ absurd (off (sym place.0) (sym place.1))
    | inr apart ↦ ap (λ k. cond k o (frames g c)) apart.1
  ]

same_place : (f b g c : ℕ) → ((f ≡ g) × (b ≡ c)) ⊎ (f ≡ g → b ≡ c → ⊥)
same_place f b g c = elim (cases_eq f g) [
  | inr other ↦ inr (λ e k. other e)
  | inl same ↦ elim (cases_eq b c) [ inl also ↦ inl (same, also) | inr other ↦ inr (λ e k. other k) ]
]

-- one block gets another frame, the others keep theirs
pub holds_with : (t : Telling) (s : State) (frames : Frames) (f b : ℕ) (o : Option Frame) → HoldsOne t s f b o → ((g c : ℕ) → (f ≡ g → b ≡ c → ⊥) → HoldsOne t s g c (frames g c)) → FramesHold t s (with_frame frames f b o)
holds_with t s frames f b o one others g c = elim (same_place f b g c) [
  | inl same ↦ subst (λ j. HoldsOne t s j c (with_frame frames f b o j c)) same.0
      (subst (λ j. HoldsOne t s f j (with_frame frames f b o f j)) same.1 (subst (HoldsOne t s f b) (sym (frame_here frames f b o)) one))
  | inr off ↦ subst (HoldsOne t s g c) (sym (frame_other frames f b o g c off)) (others g c off)
]

-- no block is held, and each stands in its file as the content has it
pub holds_none : (t : Telling) (s : State) → AllWritten t s → FramesHold t s (λ f b. None)
holds_none t s written f b = record {
  held = λ x is. absurd (none-some x is);
  stands = λ low clean. written f b low;
  changed = λ x is dirty. absurd (none-some x is);
}

-- ---- a block is read into a frame, or one that isn't to be written is given up

module _ (t : Telling) (s : State) (frames : Frames) (h : FramesHold t s frames) (f b : ℕ) where
  pub holds_read : frames f b ≡ None → b < length (content_now t s f) → FramesHold t s (with_frame frames f b (Some (record { block = stored_of s.files f b; dirty = false })))
  holds_read none low =
      let x : Frame = record { block = stored_of s.files f b; dirty = false } in
      let at : stored_of s.files f b ≡ block_in (content_now t s) f b = (h f b).stands low (λ y is. absurd (none-some y (sym none ∙ is))) in
      holds_with t s frames f b (Some x) (record {
        held = λ y is. let own : x ≡ y = some_is x y is in (low, ap (λ (z : Frame). z.block) (sym own) ∙ at);
        stands = λ under clean. at;
        changed = λ y is dirty. let own : x ≡ y = some_is x y is in absurd (true≢false (sym dirty ∙ ap (λ (z : Frame). z.dirty) (sym own)));
      }) (λ g c off. h g c)

  pub holds_given_up : ((x : Frame) → frames f b ≡ Some x → x.dirty ≡ false) → FramesHold t s (with_frame frames f b None)
  holds_given_up clean = holds_with t s frames f b None (record {
    held = λ y is. absurd (none-some y is);
    stands = λ low off. (h f b).stands low clean;
    changed = λ y is dirty. absurd (none-some y is);
  }) (λ g c off. h g c)

-- ---- the state is another one with the same content and blocks, and changes stay changes

pub holds_same : (t : Telling) (a b : State) (frames : Frames) → FramesHold t a frames → content_now t b ≡ content_now t a → stored_of b.files ≡ stored_of a.files → ((f k : ℕ) → IsChanged t a f k → IsChanged t b f k) → FramesHold t b frames
holds_same t a b frames h content blocks changes f k = record {
  held = λ x is. let r = (h f k).held x is in (subst (λ (c : AllBlocks). k < length (c f)) (sym content) r.0, r.1 ∙ ap (λ (c : AllBlocks). block_in c f k) (sym content));
  stands = λ low clean. ap (λ (st : Stored). st f k) blocks ∙ (h f k).stands (subst (λ (c : AllBlocks). k < length (c f)) content low) clean ∙ ap (λ (c : AllBlocks). block_in c f k) (sym content);
  changed = λ x is dirty. changes f k ((h f k).changed x is dirty);
}

-- a block with an Image itself since the last Control has a live change
behind_found : {A : Type 0} (p q : A → Bool) (xs : List A) → has p (after_last q xs) ≡ true → has p xs ≡ true
behind_found p q [] found = found
behind_found p q (x ∷ xs) found = elim (cases_Bool (has q (x ∷ xs))) [
  | inl on ↦ ap (λ k. p x || k) (behind_found p q xs (sym (ap (λ k. has p (cond k (after_last q xs) (x ∷ xs))) on) ∙ found)) ∙ or_true (p x)
  | inr off ↦ sym (ap (λ k. has p (cond k (after_last q xs) (x ∷ xs))) off) ∙ found
]
  where
    or_true : (k : Bool) → k || true ≡ true
    or_true true = refl
    or_true false = refl

ranged_old : (es : List Entry) (f b : ℕ) → has (is_image f b) (after_last is_control_logged (live_logged [] (events_in es))) ≡ true → (old : BlockBytes) × (last_after f b (live_of es) ≡ Some old)
ranged_old es f b itself = elim (option_cases (last_after f b (live_of es))) [
  | inl none ↦ absurd (true≢false (sym (behind_found (is_image f b) is_control_logged (live_logged [] (events_in es)) itself)
      ∙ (left_out (live_logged [] (events_in es)) f b).1 (ap (λ (l : List Event). last_after f b l) (sym (live_of_ranges (events_in es))) ∙ none)))
  | inr some ↦ some
]

-- ---- a block is changed

module _ (t : Telling) (a later : State) (frames : Frames) (h : FramesHold t a frames) (f b : ℕ) (told : Option BlockBytes) (left after : BlockBytes)
    (le : b ≤ length (content_now t a f)) (grown : content_now t later ≡ with_block (content_now t a) f b after)
    (live : live_of (entries_now t later) ≡ live_of (entries_now t a) ++ change f b told left ∷ []) (blocks : stored_of later.files ≡ stored_of a.files) where
  behind : after_last is_control (live_of (entries_now t later)) ≡ after_last is_control (live_of (entries_now t a)) ++ change f b told left ∷ []
  behind = ap (λ (l : List Event). after_last is_control l) live ∙ after_push is_control (live_of (entries_now t a)) (change f b told left) refl

  both : (g k : ℕ) → last_after g k (after_last is_control (live_of (entries_now t later))) ≡ None → (is_at g k f b ≡ false) × (last_after g k (after_last is_control (live_of (entries_now t a))) ≡ None)
  both g k none =
      let r = or_none (last_after g k (change f b told left ∷ [])) (last_after g k (after_last is_control (live_of (entries_now t a))))
      (sym (last_append (after_last is_control (live_of (entries_now t a))) (change f b told left ∷ []) g k) ∙ ap (λ (l : List Event). last_after g k l) (sym behind) ∙ none) in
      (if_none (is_at g k f b) left r.0, r.1)

  -- one change more is live, which is the block's
  pub holds_more : FramesHold t later (with_frame frames f b (Some (record { block = after; dirty = true })))
  holds_more =
      let x : Frame = record { block = after; dirty = true } in
      let was = content_now t a in
      let long : b < length (with_block was f b after f) = omega (arith, ap length (in_file was f b after), laid_length b after (was f) le, le) in
      holds_with t later frames f b (Some x) (record {
        held = λ y is. let own : x ≡ y = some_is x y is in
            (subst (λ (k : AllBlocks). b < length (k f)) (sym grown) long, ap (λ (z : Frame). z.block) (sym own) ∙ sym (ap (λ (k : AllBlocks). block_in k f b) grown ∙ write_here was f b after le));
        stands = λ low clean. absurd (true≢false (clean x refl));
        changed = λ y is dirty none. elim (place_cases f b f b) [
          | inl place ↦ absurd (true≢false (sym place.2 ∙ (both f b none).0))
          | inr apart ↦ absurd (apart.0 refl refl)
        ];
      }) (λ g k off.
      let apart : g ≡ f → k ≡ b → ⊥ = λ p q. off (sym p) (sym q) in
      record {
        held = λ y is. let r = (h g k).held y is in
            (subst (λ (l : AllBlocks). k < length (l g)) (sym grown) (omega (arith, r.0, write_length was f b after g le)), r.1 ∙ sym (ap (λ (l : AllBlocks). block_in l g k) grown ∙ write_other was f b after g k le apart r.0));
        stands = λ low clean.
            let old : k < length (was g) = write_old was f b after g k le apart (subst (λ (l : AllBlocks). k < length (l g)) grown low) in
            ap (λ (st : Stored). st g k) blocks ∙ (h g k).stands old clean ∙ sym (ap (λ (l : AllBlocks). block_in l g k) grown ∙ write_other was f b after g k le apart old);
        changed = λ y is dirty none. (h g k).changed y is dirty (both g k none).1;
      })

-- by an Image
pub holds_changed : (t : Telling) (a later : State) (frames : Frames) → FramesHold t a frames → (f b : ℕ) (before : Option BlockBytes) (after : BlockBytes) → TellsBefore b before (content_now t a f) → content_now t later ≡ with_block (content_now t a) f b after
    → entries_now t later ≡ entries_now t a ++ image f b before after ∷ [] → stored_of later.files ≡ stored_of a.files → FramesHold t later (with_frame frames f b (Some (record { block = after; dirty = true })))
holds_changed t a later frames h f b before after tells grown entries blocks =
    holds_more t a later frames h f b before after after (tells_le b before (content_now t a f) tells) grown
    (ap live_of entries ∙ ap (λ (l : List Event). (history l).live) (image_sealed (entries_now t a) f b before after) ∙ ap (λ (k : History). k.live) (one_more_event (events (entries_now t a)) (change f b before after))) blocks

-- by a Range of a block with an Image itself since the last Control
pub holds_ranged : (t : Telling) (a later : State) (frames : Frames) → FramesHold t a frames → (f b place : ℕ) (bytes : List ℕ) (after : BlockBytes)
    → has (is_image f b) (after_last is_control_logged (live_logged [] (events_in (entries_now t a)))) ≡ true → b < length (content_now t a f) → content_now t later ≡ with_block (content_now t a) f b after
    → entries_now t later ≡ entries_now t a ++ byte_range f b place bytes ∷ [] → stored_of later.files ≡ stored_of a.files → FramesHold t later (with_frame frames f b (Some (record { block = after; dirty = true })))
holds_ranged t a later frames h f b place bytes after itself low grown entries blocks =
    let es = entries_now t a in
    let old = ranged_old es f b itself in
    holds_more t a later frames h f b (Some old.0) (patch_bytes place bytes old.0) after (omega (arith, low)) grown
    (ap live_of entries ∙ ap (λ (l : List Event). (history l).live) ((range_sealed es f b place bytes).0 old.0 old.1) ∙ ap (λ (k : History). k.live) (one_more_event (events es) (change f b (Some old.0) (patch_bytes place bytes old.0)))) blocks

-- ---- a block is written, and its frame isn't to be written any more, or is given up

module _ (t : Telling) (a later : State) (frames : Frames) (h : FramesHold t a frames) (f b : ℕ) (x : Frame) (is : frames f b ≡ Some x) (structure : 30000 < f) (sized : AllSized (content_now t a))
    (written : later.files ≡ with_file a.files f (overlay_bytes (1024 * b) x.block (a.files f))) (same : content_now t later ≡ content_now t a) (entries : entries_now t later ≡ entries_now t a) where
  len : length x.block ≡ 1024
  len = let r = (h f b).held x is in ap length r.1 ∙ sized f b r.0

  torn : InFile f (Torn (1024 * b) 1024) a.files later.files
  torn = subst (λ (l : Files). InFile f (Torn (1024 * b) 1024) a.files l) (sym written)
      (in_file_with f (Torn (1024 * b) 1024) a.files (overlay_bytes (1024 * b) x.block (a.files f)) (subst (λ k. Torn (1024 * b) k (a.files f) (overlay_bytes (1024 * b) x.block (a.files f))) len (torn_overlaid (1024 * b) x.block (a.files f))))

  still : (g c : ℕ) → (f ≡ g → b ≡ c → ⊥) → length (stored_of a.files g c) ≡ 1024 → stored_of later.files g c ≡ stored_of a.files g c
  still g c off whole =
      let there = stored_whole a.files g c whole in
      stored_apart a.files later.files f b g c torn (λ here at. off (sym here) (sym at)) (λ here less. subst (λ j. 1024 * c + 1024 ≤ length (a.files j)) here there.1)

  others : (g c : ℕ) → (f ≡ g → b ≡ c → ⊥) → HoldsOne t later g c (frames g c)
  others g c off = record {
    held = λ y at. let r = (h g c).held y at in (subst (λ (k : AllBlocks). c < length (k g)) (sym same) r.0, r.1 ∙ ap (λ (k : AllBlocks). block_in k g c) (sym same));
    stands = λ low clean.
        let old : c < length (content_now t a g) = subst (λ (k : AllBlocks). c < length (k g)) same low in
        let at = (h g c).stands old clean in
        still g c off (ap length at ∙ sized g c old) ∙ at ∙ ap (λ (k : AllBlocks). block_in k g c) (sym same);
    changed = λ y at dirty none. (h g c).changed y at dirty (subst (λ (l : List Entry). last_after g c (after_last is_control (live_of l)) ≡ None) entries none);
  }

-- where no frame is to be written, all blocks are
pub all_written : (t : Telling) (s : State) (frames : Frames) → FramesHold t s frames → ((f b : ℕ) (x : Frame) → frames f b ≡ Some x → x.dirty ≡ false) → AllWritten t s
all_written t s frames h clean f b low = (h f b).stands low (clean f b)
