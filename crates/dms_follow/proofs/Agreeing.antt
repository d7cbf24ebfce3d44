-- What follows agrees, and has the content that the entries tell.
use Rattle.std.proofs.Common.{ℕ, ◌<◌, ◌≡◌, inl, inr, Bool, true, false, List, [], ◌∷◌, length, Option, Some, None, refl, sym, ◌∙◌, ap, subst, arith}
use Rattle.std.proofs.lemmas.Bool.{cases_Bool, true≢false}
use Rattle.std.proofs.lemmas.Option.{none-some}
use Rattle.dms_history.specs.Events.{BlockBytes, AllBlocks, Stored, How, halt_load, back_out, roll_back, rebuild, reconstruct, Event, block_in}
use Rattle.dms_history.specs.Lists.{has, until_first, after_last}
use Rattle.dms_history.specs.Places.{is_control, is_point, IsLive}
use Rattle.dms_history.specs.Replay.{replay}
use Rattle.dms_history.specs.Images.{last_after}
use Rattle.dms_history.specs.History.{Pending, History, history, next_number}
use Rattle.dms_history.specs.Pick.{Dumps, pick, content_of, count_at, blocks_at}
use Rattle.dms_history.specs.Here.{here, here_by, restore_pick, outcome}
use Rattle.dms_history.specs.Base.{from_control, base_of, Sound}
use Rattle.dms_history.specs.Agrees.{ListAgrees, EventsAgree}
use Rattle.dms_history.specs.Restores.{is_unlogged, Steady}
use Rattle.dms_history.specs.Entries.{Entry}
use Rattle.dms_history.specs.EntryEvents.{events, history_of, live_of, next_of, Agrees}
use Rattle.dms_history.proofs.Picks.{option_cases}
use Rattle.dms_history.proofs.Base.{content_length, content_block}
use Rattle.dms_history.proofs.Alone.{alone_events}
use Rattle.dms_history.proofs.Stops.{here_is, outcome_block, log_same, log_takes, front_live}
use Rattle.dms_history.proofs.Whole.{pending_cut, history_clean, agrees_is_steady, content_same}
use Rattle.dms_history.proofs.Given.{controlled}
use Rattle.dms_history.proofs.HalfDone.{has_front}
use Rattle.dms_history.proofs.Again.{here_unpending}
use Rattle.dms_running.specs.Begun.{ByAudit}
use Rattle.dms_follow.specs.Following.{no_blocks, or_no_bytes, last_told, AgreesAlone, PendingTells, StandsBy, Follows}
use Rattle.dms_follow.specs.Laws.{FollowsAgrees, AgreesContent, AgreesAsAlone}
use Rattle.dms_follow.proofs.Picked.{from_nothing, sound_nothing, opened_nothing, last_is, has_last, front_from, front_chain, front_opened, point_content, point_count, is_there, pick_is}

-- the same lists, with other stored blocks
pub relisted : (live : List Event) (next : ℕ) (one two : Stored) → ListAgrees true live next one
    → ((f b : ℕ) (x : BlockBytes) → last_after f b live ≡ Some x → last_after f b (after_last is_control live) ≡ None → two f b ≡ x) → ListAgrees true live next two
relisted live next one two lists stands = record {
  never_fall = lists.never_fall;
  below_next = lists.below_next;
  counted_first = lists.counted_first;
  linked = lists.linked;
  stands = stands;
  empty = lists.empty;
  grows = lists.grows;
  recounts = lists.recounts;
}

audit_pick : (how : How) (dumps : Dumps) (live : List Event) (m : ℕ) (stored : Stored) (f b : ℕ) → ByAudit how → restore_pick how dumps live m stored f b ≡ pick live m stored f b
unfolding restore_pick
audit_pick halt_load dumps live m stored f b by = refl
audit_pick back_out dumps live m stored f b by = refl
audit_pick roll_back dumps live m stored f b by = refl
audit_pick (rebuild d) dumps live m stored f b by = absurd by
audit_pick (reconstruct d named) dumps live m stored f b by = absurd by

-- while a restore is pending each block with a live after-image counts so
pub pending_is : (es : List Entry) (dumps : Dumps) (stored : Stored) (p : Pending) → AgreesAlone es → (history_of es).pending ≡ Some p → PendingTells p
    → ((f b : ℕ) (x : BlockBytes) → last_after f b (live_of es) ≡ Some x → is_unlogged p.entries p.point f b ≡ true → stored f b ≡ x)
    → (f b : ℕ) (x : BlockBytes) → last_after f b (live_of es) ≡ Some x → here dumps (history_of es) stored f b ≡ x
pending_is es dumps stored p tells is pending stands f b x last =
    let m = p.point in
    let told = last_told p.entries in
    let cut : live_of es ≡ until_first (is_point m) p.entries = pending_cut (events es) (alone_events es tells.alone) p is in
    let up_to : last_after f b (until_first (is_point m) p.entries) ≡ Some x = ap (λ (l : List Event). last_after f b l) (sym cut) ∙ last in
    let low = is_there p.entries m told pending.sound pending.opened pending.lives f b x up_to in
    ap (λ (s : Stored). s f b) (here_is dumps (history_of es) p stored is)
    ∙ outcome_block p.how dumps p.entries m f b stored low
    ∙ audit_pick p.how dumps p.entries m stored f b pending.by_audit
    ∙ elim (cases_Bool (is_unlogged p.entries m f b)) [
      | inl on ↦ log_takes p.entries m f b stored on ∙ stands f b x last on
      | inr off ↦ log_same p.entries m f b stored told (λ on. absurd (true≢false (sym on ∙ off))) ∙ pick_is p.entries m told pending.sound pending.opened pending.lives f b x up_to
    ]

stands_then : (es : List Entry) (stored : Stored) (p : Pending) → Follows es stored → (history_of es).pending ≡ Some p
    → (f b : ℕ) (x : BlockBytes) → last_after f b (live_of es) ≡ Some x → is_unlogged p.entries p.point f b ≡ true → stored f b ≡ x
stands_then es stored p follows is = subst (λ (o : Option Pending). StandsBy o (live_of es) stored) is follows.stands

stands_idle : (es : List Entry) (stored : Stored) → Follows es stored → (history_of es).pending ≡ None
    → (f b : ℕ) (x : BlockBytes) → last_after f b (live_of es) ≡ Some x → last_after f b (after_last is_control (live_of es)) ≡ None → stored f b ≡ x
stands_idle es stored follows none = subst (λ (o : Option Pending). StandsBy o (live_of es) stored) none follows.stands

pub follows_agrees : FollowsAgrees
follows_agrees es dumps stored follows =
    let h = history_of es in
    let all : (p : Pending) (f b : ℕ) (x : BlockBytes) → h.pending ≡ Some p → last_after f b (live_of es) ≡ Some x → here dumps h stored f b ≡ x =
    λ p f b x is last. pending_is es dumps stored p follows.tells is (follows.pending p is) (stands_then es stored p follows is) f b x last in
    record {
      events_agree = record {
        lists = relisted (live_of es) (next_of es) (last_told (live_of es)) (here dumps h stored) follows.tells.lists (λ f b x last none. elim (option_cases h.pending) [
          | inl idle ↦ ap (λ (s : Stored). s f b) (here_unpending dumps h stored idle) ∙ stands_idle es stored follows idle f b x last none
          | inr some ↦ all some.0 f b x some.1 last
        ]);
        restored = all;
      };
      alone = follows.tells.alone;
      images = follows.tells.images;
    }

pub agrees_content : AgreesContent
agrees_content es dumps stored n agrees at =
    let h = history_of es in
    let live = live_of es in
    let counted = here dumps h stored in
    let lists = agrees.events_agree.lists in
    let found : has is_control live ≡ true = has_front (is_point n) is_control live (controlled live n at) in
    let sound : Sound (from_control live) no_blocks counted = sound_nothing live (next_of es) counted (history_clean (events es)) lists in
    let opened = opened_nothing live (next_of es) counted found lists in
    let front = until_first (is_point n) live in
    let chain = front_chain live n counted sound opened at in
    let begun = front_opened live n counted sound opened at in
    point_content live n counted sound opened at
    ∙ content_same (replay (from_control front) no_blocks) (content_of (count_at live n) (last_told front))
    (λ f. sym (point_count live n counted sound opened at f) ∙ sym (content_length (count_at live n) (last_told front) f))
    (λ f b low.
    let there : b < count_at live n f = omega (arith, low, content_length (count_at live n) (last_told front) f) in
    let long : b < length (replay (from_control front) no_blocks f) = omega (arith, there, point_count live n counted sound opened at f) in
    elim (option_cases (last_after f b front)) [
      | inl none ↦ absurd (has_last front f b chain long none)
      | inr some ↦
          (last_is front f b some.0 chain begun some.1).1
          ∙ sym (content_block (count_at live n) (last_told front) f b there ∙ ap or_no_bytes some.1)
    ])

told_is : (live : List Event) (f b : ℕ) (x : BlockBytes) → last_after f b live ≡ Some x → last_told live f b ≡ x
told_is live f b x last = ap or_no_bytes last

pub agrees_as_alone : AgreesAsAlone
agrees_as_alone es dumps stored agrees = record {
  lists = relisted (live_of es) (next_of es) (here dumps (history_of es) stored) (last_told (live_of es)) agrees.events_agree.lists (λ f b x last none. told_is (live_of es) f b x last);
  alone = agrees.alone;
  images = agrees.images;
}
