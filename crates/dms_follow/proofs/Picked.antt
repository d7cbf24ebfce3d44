-- Entries that lead from nothing, and blocks at a point of them.
use Rattle.std.proofs.Common.{ℕ, ◌<◌, ◌≡◌, inl, inr, Bool, true, false, cond, List, [], ◌∷◌, ◌++◌, length, Some, None, refl, sym, ◌∙◌, ap, subst, arith}
use Rattle.std.proofs.lemmas.Bool.{cases_Bool, true≢false}
use Rattle.dms_history.specs.Events.{BlockBytes, AllBlocks, Stored, Counts, Event, change, quiet, control, begin, block_in}
use Rattle.dms_history.specs.Lists.{has, until_first, after_first}
use Rattle.dms_history.specs.Places.{is_control, is_point, IsLive}
use Rattle.dms_history.specs.Places as places
use Rattle.dms_history.specs.Replay.{Chain, replay}
use Rattle.dms_history.specs.Images.{or_else, last_after, choice}
use Rattle.dms_history.specs.Pick.{pick, count_at, content_of, blocks_at}
use Rattle.dms_history.specs.Base.{opening, from_control, first_counts, base_of, Sound, OpenedFrom}
use Rattle.dms_history.specs.Agrees.{ListAgrees}
use Rattle.dms_history.proofs.Picks.{option_cases, or_none, some_is, last_append, last_stands, none_stands, replay_length, chain_split}
use Rattle.dms_history.proofs.AtPoints.{split_first}
use Rattle.dms_history.proofs.Base.{content_length, content_block, parts, agrees_has_base}
use Rattle.dms_history.proofs.Converse.{logged_below, agrees_leads}
use Rattle.dms_history.proofs.Given.{from_until, controlled, live_from, at_point, count_right, opening_stays}
use Rattle.dms_follow.specs.Following.{no_blocks}

-- ---- the base is empty

empty_list : (xs : List BlockBytes) → length xs ≡ 0 → xs ≡ []
empty_list [] none = refl
empty_list (x ∷ xs) none = absurd (omega (arith, none))

no_counts : (es : List Event) → has is_control es ≡ false → (f : ℕ) → first_counts es f ≡ 0
no_counts [] off f = refl
no_counts (change g k before after ∷ es) off f = no_counts es off f
no_counts (quiet n ∷ es) off f = no_counts es off f
no_counts (control n next counts described ∷ es) off f = absurd (true≢false off)
no_counts (begin n how ∷ es) off f = no_counts es off f

base_length : (live : List Event) (counted : Stored) (f : ℕ) → length (base_of live counted f) ≡ first_counts live f
unfolding base_of
base_length live counted f = content_length (first_counts live) (choice [] (from_control live) counted) f

pub from_nothing : (live : List Event) (next : ℕ) (counted : Stored) → ListAgrees true live next counted → base_of live counted ≡ no_blocks
from_nothing live next counted agrees = λ i f. empty_list (base_of live counted f) (long f) i
  where
    long : (f : ℕ) → length (base_of live counted f) ≡ 0
    long f = elim (cases_Bool (has is_control live)) [
      | inl found ↦ (agrees_leads true live next counted agrees found).1 refl f
      | inr off ↦ base_length live counted f ∙ no_counts live off f
    ]

pub sound_nothing : (live : List Event) (next : ℕ) (counted : Stored) → has places.is_begin live ≡ false → ListAgrees true live next counted → Sound (from_control live) no_blocks counted
sound_nothing live next counted clean agrees = subst (λ (c : AllBlocks). Sound (from_control live) c counted) (from_nothing live next counted agrees) (agrees_has_base true live next counted clean agrees)

pub opened_nothing : (live : List Event) (next : ℕ) (counted : Stored) → has is_control live ≡ true → ListAgrees true live next counted → OpenedFrom (opening live) no_blocks
opened_nothing live next counted found agrees = subst (λ (c : AllBlocks). OpenedFrom (opening live) c) (from_nothing live next counted agrees) (agrees_leads true live next counted agrees found).0

-- ---- the last after-image is the content

pub last_is : (live : List Event) (f b : ℕ) (x : BlockBytes) → Chain (from_control live) no_blocks → OpenedFrom (opening live) no_blocks → last_after f b live ≡ Some x
    → (b < length (replay (from_control live) no_blocks f)) × (block_in (replay (from_control live) no_blocks) f b ≡ x)
last_is live f b x chain opened last =
    let all = from_control live in
    let joint : or_else (last_after f b all) (last_after f b (opening live)) ≡ Some x = sym (last_append (opening live) all f b) ∙ ap (λ (l : List Event). last_after f b l) (parts live) ∙ last in
    elim (option_cases (last_after f b all)) [
      | inr (y, at) ↦ (logged_below all no_blocks f b y chain at, last_stands all no_blocks f b y chain at ∙ some_is y x (sym (ap (λ o. or_else o (last_after f b (opening live))) at) ∙ joint))
      | inl off ↦
          let leads = opened.leads f b x (sym (ap (λ o. or_else o (last_after f b (opening live))) off) ∙ joint) in
          absurd (omega (arith, leads.0))
    ]

-- each block of the content has a live after-image
pub has_last : (live : List Event) (f b : ℕ) → Chain (from_control live) no_blocks → b < length (replay (from_control live) no_blocks f) → last_after f b live ≡ None → ⊥
has_last live f b chain low none =
    let all = from_control live in
    let out = or_none (last_after f b all) (last_after f b (opening live)) (sym (last_append (opening live) all f b) ∙ ap (λ (l : List Event). last_after f b l) (parts live) ∙ none) in
    let stays = none_stands all no_blocks f b chain out.0 low in
    absurd (omega (arith, stays.0))

-- ---- up to a live point

module _ (live : List Event) (m : ℕ) (counted : Stored) (sound : Sound (from_control live) no_blocks counted) (opened : OpenedFrom (opening live) no_blocks) (at : IsLive live m) where
  abbrev pub front : List Event
  front = until_first (is_point m) live

  pub front_from : from_control front ≡ until_first (is_point m) (from_control live)
  front_from = from_until (is_point m) live (controlled live m at)

  pub front_chain : Chain (from_control front) no_blocks
  front_chain = subst (λ (l : List Event). Chain l no_blocks) (sym front_from)
      (chain_split (until_first (is_point m) (from_control live)) (after_first (is_point m) (from_control live)) no_blocks
      (subst (λ (l : List Event). Chain l no_blocks) (sym (split_first (is_point m) (from_control live) (live_from live m at).found)) sound.chain)).0

  pub front_opened : OpenedFrom (opening front) no_blocks
  front_opened = subst (λ (l : List Event). OpenedFrom l no_blocks) (sym ((opening_stays live).1 m at)) opened

  pub point_content : blocks_at live counted m ≡ replay (from_control front) no_blocks
  point_content = at_point live no_blocks counted m sound at ∙ ap (λ (l : List Event). replay l no_blocks) (sym front_from)

  pub point_count : (f : ℕ) → count_at live m f ≡ length (replay (from_control front) no_blocks f)
  point_count f = count_right live no_blocks counted m sound at f ∙ ap (λ (l : List Event). length (replay l no_blocks f)) (sym front_from)

  pub is_there : (f b : ℕ) (x : BlockBytes) → last_after f b front ≡ Some x → b < count_at live m f
  is_there f b x last = omega (arith, (last_is front f b x front_chain front_opened last).0, point_count f)

  -- a block with an after-image up to the point is picked so
  pub pick_is : (f b : ℕ) (x : BlockBytes) → last_after f b front ≡ Some x → pick live m counted f b ≡ x
  unfolding blocks_at
  pick_is f b x last =
      sym (content_block (count_at live m) (pick live m counted) f b (is_there f b x last)) ∙ ap (λ (c : AllBlocks). block_in c f b) point_content ∙ (last_is front f b x front_chain front_opened last).1
