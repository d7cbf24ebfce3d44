-- Whole blocks stay whole.
use Rattle.std.proofs.Common.{ℕ, ◌≤◌, ◌<◌, ◌≡◌, inl, inr, Bool, true, false, cond, List, [], ◌∷◌, length, Option, Some, None, sym, ◌∙◌, ap, arith}
use Rattle.dms_history.specs.Events.{BlockBytes, AllBlocks, Event, change, quiet, control, begin, block_in}
use Rattle.dms_history.specs.Replay.{replay, with_block}
use Rattle.dms_history.specs.Images.{is_at, first_before}
use Rattle.dms_history.specs.Sizes.{AllSized, IsSizedBefore, ImagesSized, SizedReplay, SizedBase}
use Rattle.dms_history.proofs.Picks.{tells_le, write_here, write_other, write_old, place_cases, option_cases, replay_length, none_stands, first_old, first_none, some_is}

sized_block : (c : AllBlocks) (f b : ℕ) (x : BlockBytes) → AllSized c → b ≤ length (c f) → length x ≡ 1024 → AllSized (with_block c f b x)
sized_block c f b x sized le len g k low = elim (place_cases g k f b) [
  | inl place ↦ (λ i. length (block_in (with_block c f b x) (sym place.0 i) (sym place.1 i))) ∙ ap length (write_here c f b x le) ∙ len
  | inr apart ↦
      let old : k < length (c g) = write_old c f b x g k le apart.0 low in
      ap length (write_other c f b x g k le apart.0 old) ∙ sized g k old
]

pub sized_replay : SizedReplay
sized_replay [] c chain sized images = sized
sized_replay (change f b before after ∷ es) c chain sized images =
    sized_replay es (with_block c f b after) chain.1 (sized_block c f b after sized (tells_le b before (c f) chain.0) images.0.becomes) images.1
sized_replay (quiet n ∷ es) c chain sized images = sized_replay es c chain sized images
sized_replay (control n next counts described ∷ es) c chain sized images = sized_replay es c chain.1 sized images
sized_replay (begin n how ∷ es) c chain sized images = absurd chain

before_sized : (es : List Event) (f b : ℕ) (old : BlockBytes) → ImagesSized es → first_before f b es ≡ Some (Some old) → length old ≡ 1024
before_sized [] f b old images is = absurd cc
before_sized (change g k before after ∷ es) f b old images is = go (is_at f b g k) is (λ more. before_sized es f b old images.1 more)
  where
    one : (before : Option BlockBytes) → IsSizedBefore before → before ≡ Some old → length old ≡ 1024
    one None sized is = absurd cc
    one (Some x) sized is = sym (ap length (some_is x old is)) ∙ sized

    go : (t : Bool) → cond t (Some before) (first_before f b es) ≡ Some (Some old) → (first_before f b es ≡ Some (Some old) → length old ≡ 1024) → length old ≡ 1024
    go true is rest = one before images.0.was (some_is before (Some old) is)
    go false is rest = rest is
before_sized (quiet n ∷ es) f b old images is = before_sized es f b old images is
before_sized (control n next counts described ∷ es) f b old images is = before_sized es f b old images is
before_sized (begin n how ∷ es) f b old images is = before_sized es f b old images is

pub sized_base : SizedBase
sized_base es base chain sized images f b low = elim (option_cases (first_before f b es)) [
  | inl none ↦
      let long : b < length (replay es base f) = omega (arith, low, replay_length es base f chain) in
      let same = none_stands es base f b chain (first_none es f b none) long in
      ap length (sym same.1) ∙ sized f b long
  | inr some ↦
      let is : some.0 ≡ Some (block_in base f b) = first_old es base f b some.0 chain low some.1 in
      before_sized es f b (block_in base f b) images (some.1 ∙ ap (λ o. Some o) is)
]
