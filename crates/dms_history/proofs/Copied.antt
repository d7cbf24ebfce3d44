-- A dump that was copied while programs ran serves each point from its end on.
use Rattle.std.proofs.Common.{ℕ, ◌<◌, ◌≤◌, ◌≡◌, ◌||◌, inl, inr, Bool, true, false, cond, List, [], ◌∷◌, ◌++◌, length, None, refl, sym, ◌∙◌, ap, subst, arith}
use Rattle.std.proofs.lemmas.Bool.{true≢false}
use Rattle.dms_history.specs.Events.{AllBlocks, Stored, Event, block_in}
use Rattle.dms_history.specs.Replay.{Chain, replay}
use Rattle.dms_history.specs.Images.{last_after, value}
use Rattle.dms_history.specs.Lists.{has, until_first, after_first}
use Rattle.dms_history.specs.Pick.{blocks_at, Dump, count_at, between, dump_pick, pick}
use Rattle.dms_history.specs.Places.{is_point, IsLive}
use Rattle.dms_history.specs.Base.{Sound, from_control}
use Rattle.dms_history.specs.Agrees.{Numbered}
use Rattle.dms_history.specs.Copied.{CopiedAt, IsCopiedDump, CopiedDumpServes, TrueDumpIsCopied}
use Rattle.dms_history.proofs.Picks.{chain_split, option_cases, none_stands, last_stands, last_append, or_none}
use Rattle.dms_history.proofs.AtPoints.{split_first, replay_append}
use Rattle.dms_history.proofs.HalfDone.{until_until}
use Rattle.dms_history.proofs.Given.{controlled, from_until, after_until, live_from, at_point, count_right}
use Rattle.dms_history.proofs.Base.{content_length}
use Rattle.dms_history.proofs.Order.{rolls_back}

after_grow : (p : Event → Bool) (xs ys : List Event) → has p xs ≡ true → after_first p (xs ++ ys) ≡ after_first p xs ++ ys
after_grow p [] ys found = absurd (true≢false (sym found))
after_grow p (e ∷ xs) ys found = go (p e) found (λ some. after_grow p xs ys some)
  where
    go : (b : Bool) → b || has p xs ≡ true → (has p xs ≡ true → after_first p (xs ++ ys) ≡ after_first p xs ++ ys) → cond b (xs ++ ys) (after_first p (xs ++ ys)) ≡ cond b xs (after_first p xs) ++ ys
    go true some rest = refl
    go false some rest = rest some

module _ (live : List Event) (base : AllBlocks) (next m : ℕ) (dump : Dump) (counted : Stored) (sound : Sound (from_control live) base counted) (numbered : Numbered live next) (at : IsLive live m) where
  -- what stands up to a lower live point begins what stands up to a higher one
  front_of : (k n : ℕ) → IsLive live k → IsLive live n → n ≤ k → IsLive (until_first (is_point k) (from_control live)) n
  front_of k n at_k at_n le =
      let inner = (rolls_back live next k numbered at_k).kept n le at_n in
      subst (λ (l : List Event). IsLive l n) (from_until (is_point k) live (controlled live k at_k)) (live_from (until_first (is_point k) live) n inner)

  copied_block : (f b : ℕ) → IsLive live dump.point → (c : CopiedAt dump live counted f b) → dump.end ≤ m → b < length (replay (until_first (is_point m) (from_control live)) base f)
      → last_after f b (after_first (is_point dump.point) (until_first (is_point m) (from_control live))) ≡ None
      → block_in dump.blocks f b ≡ block_in (replay (until_first (is_point m) (from_control live)) base) f b
  copied_block f b at_p c high low none =
      let p = dump.point in
      let k = c.point in
      let all = from_control live in
      let front = until_first (is_point m) all in
      let k_in = front_of m k at c.lives (omega (arith, c.high, high)) in
      let p_in = front_of k p c.lives at_p c.low in
      let same_k : until_first (is_point k) front ≡ until_first (is_point k) all = until_until (is_point m) (is_point k) all k_in.found in
      let same_p : until_first (is_point p) (until_first (is_point k) all) ≡ until_first (is_point p) all = until_until (is_point k) (is_point p) all p_in.found in
      let mid = after_first (is_point p) (until_first (is_point k) all) in
      let rest = after_first (is_point k) front in
      let whole : until_first (is_point k) all ++ rest ≡ front = ap (λ (l : List Event). l ++ rest) (sym same_k) ∙ split_first (is_point k) front k_in.found in
      let late_is : after_first (is_point p) front ≡ mid ++ rest = ap (λ (l : List Event). after_first (is_point p) l) (sym whole) ∙ after_grow (is_point p) (until_first (is_point k) all) rest p_in.found in
      let parts : until_first (is_point p) all ++ mid ≡ until_first (is_point k) all = ap (λ (l : List Event). l ++ mid) (sym same_p) ∙ split_first (is_point p) (until_first (is_point k) all) p_in.found in
      let start = replay (until_first (is_point p) all) base in
      let at_k : replay (until_first (is_point k) all) base ≡ replay mid start = ap (λ (l : List Event). replay l base) (sym parts) ∙ replay_append (until_first (is_point p) all) mid base in
      let at_m : replay front base ≡ replay rest (replay mid start) =
      ap (λ (l : List Event). replay l base) (sym whole) ∙ replay_append (until_first (is_point k) all) rest base ∙ ap (λ (x : AllBlocks). replay rest x) at_k in
      let chain : Chain front base = (chain_split front (after_first (is_point m) all) base (subst (λ (l : List Event). Chain l base) (sym (split_first (is_point m) all (live_from live m at).found)) sound.chain)).0 in
      let chain_rest : Chain rest (replay mid start) =
      subst (λ (x : AllBlocks). Chain rest x) at_k (chain_split (until_first (is_point k) all) rest base (subst (λ (l : List Event). Chain l base) (sym whole) chain)).1 in
      let nones = or_none (last_after f b rest) (last_after f b mid) (sym (last_append mid rest f b) ∙ ap (λ (l : List Event). last_after f b l) (sym late_is) ∙ none) in
      let stays = none_stands rest (replay mid start) f b chain_rest nones.0 (subst (λ (x : AllBlocks). b < length (x f)) at_m low) in
      c.same ∙ ap (λ (x : AllBlocks). block_in x f b) (at_point live base counted k sound c.lives ∙ at_k) ∙ sym stays.1 ∙ ap (λ (x : AllBlocks). block_in x f b) (sym at_m)

  copied_right : (f b : ℕ) → IsCopiedDump dump live counted → dump.point ≤ m → dump.end ≤ m → b < count_at live m f
      → dump_pick live dump m f b ≡ block_in (replay (until_first (is_point m) (from_control live)) base) f b
  unfolding dump_pick
  copied_right f b copied le high low =
      let p = dump.point in
      let all = from_control live in
      let front = until_first (is_point m) all in
      let inner = (rolls_back live next m numbered at).kept p le copied.point_lives in
      let p_in = front_of m p at copied.point_lives le in
      let same_late : between p m live ≡ after_first (is_point p) front =
      after_until (is_point p) (until_first (is_point m) live) (controlled (until_first (is_point m) live) p inner) ∙ ap (λ (l : List Event). after_first (is_point p) l) (from_until (is_point m) live (controlled live m at)) in
      let same_front : until_first (is_point p) front ≡ until_first (is_point p) all = until_until (is_point m) (is_point p) all p_in.found in
      let late = after_first (is_point p) front in
      let halves : until_first (is_point p) front ++ late ≡ front = split_first (is_point p) front p_in.found in
      let chain : Chain front base = (chain_split front (after_first (is_point m) all) base (subst (λ (l : List Event). Chain l base) (sym (split_first (is_point m) all (live_from live m at).found)) sound.chain)).0 in
      let start = replay (until_first (is_point p) front) base in
      let late_chain : Chain late start = (chain_split (until_first (is_point p) front) late base (subst (λ (l : List Event). Chain l base) (sym halves) chain)).1 in
      let now : replay front base ≡ replay late start = ap (λ (l : List Event). replay l base) (sym halves) ∙ replay_append (until_first (is_point p) front) late base in
      let low_all : b < length (replay front base f) = omega (arith, low, count_right live base counted m sound at f) in
      let low_now : b < length (replay late start f) = subst (λ (x : AllBlocks). b < length (x f)) now low_all in
      ap (λ (l : List Event). value (last_after f b l) None (block_in dump.blocks f b)) same_late
      ∙ elim (option_cases (last_after f b late)) [
        | inr (x, is) ↦ ap (λ o. value o None (block_in dump.blocks f b)) is ∙ sym (last_stands late start f b x late_chain is) ∙ ap (λ (x : AllBlocks). block_in x f b) (sym now)
        | inl none ↦
            let low_start : b < length (start f) = (none_stands late start f b late_chain none low_now).0 in
            let same_start : start ≡ replay (until_first (is_point p) all) base = ap (λ (l : List Event). replay l base) same_front in
            let low_p : b < count_at live p f = omega (arith, subst (λ (x : AllBlocks). b < length (x f)) same_start low_start, count_right live base counted p sound copied.point_lives f) in
            ap (λ o. value o None (block_in dump.blocks f b)) none ∙ copied_block f b copied.point_lives (copied.each f b low_p) high low_all none
      ]

pub copied_dump_serves : CopiedDumpServes
copied_dump_serves live base next m dump counted sound numbered at copied high = record {
  gives = λ f b low. copied_right live base next m dump counted sound numbered at f b copied (omega (arith, copied.order, high)) high low ∙ ap (λ (x : AllBlocks). block_in x f b) (sym (at_point live base counted m sound at));
}

pub true_dump_is_copied : TrueDumpIsCopied
unfolding blocks_at
true_dump_is_copied live dump counted ends is = record {
  point_lives = is.point_lives;
  end_lives = subst (λ n. IsLive live n) (sym ends) is.point_lives;
  order = omega (arith, ends);
  counts = λ f. ap (λ (x : AllBlocks). length (x f)) is.same ∙ content_length (count_at live dump.point) (pick live dump.point counted) f;
  each = λ f b low. record { point = dump.point; lives = is.point_lives; low = omega arith; high = omega (arith, ends); same = ap (λ (x : AllBlocks). block_in x f b) is.same };
}
