-- What a restore gives by any rule.
use Rattle.std.proofs.Common.{ℕ, ◌<◌, ◌≡◌, ◌||◌, inl, inr, Bool, true, false, cond, List, [], ◌∷◌, ◌++◌, length, None, refl, sym, ◌∙◌, ap, subst, arith}
use Rattle.std.proofs.lemmas.List.FromFn.{fill_by_all}
use Rattle.std.proofs.lemmas.Bool.{cases_Bool, true≢false}
use Rattle.dms_history.specs.Events.{AllBlocks, Stored, How, halt_load, back_out, roll_back, rebuild, reconstruct, Event, change, quiet, control, begin, block_in}
use Rattle.dms_history.specs.Replay.{Chain, replay}
use Rattle.dms_history.specs.Images.{last_after, first_before, value, choice}
use Rattle.dms_history.specs.Lists.{has, until_first, after_first, after_last}
use Rattle.dms_history.specs.Pick.{reached_count, blocks_at, Dump, Dumps, count_at, pick, between, dump_pick, content_of}
use Rattle.dms_history.specs.Places.{is_control, is_point, is_described, IsLive}
use Rattle.dms_history.specs.Base.{Sound, opening, from_control}
use Rattle.dms_history.specs.Here.{restore_pick, outcome}
use Rattle.dms_history.specs.Restores.{may_hold_anything, DumpServes, HasDump}
use Rattle.dms_history.specs.LawsOfBase.{OpeningStays}
use Rattle.dms_history.proofs.Counts.{reached_append, reached_any}
use Rattle.dms_history.proofs.Converse.{opening_append}
use Rattle.dms_history.specs.LawsOfPoints.{OpeningNeverCounts}
use Rattle.dms_history.proofs.Picks.{chain_split, option_cases, none_stands, last_stands}
use Rattle.dms_history.proofs.AtPoints.{each_point, split_first, replay_append, true_or}
use Rattle.dms_history.proofs.HalfDone.{has_front, until_until}
use Rattle.dms_history.proofs.Base.{content_length, content_block, parts, after_behind}

-- ---- what stands before the first Control doesn't count

-- a prefix with a Control that begins with something else
pub peel : (b c : Bool) (e : Event) (u : List Event) → is_control e ≡ false → has is_control (cond b (e ∷ []) (cond c (e ∷ u) [])) ≡ true → (b ≡ false) × (c ≡ true) × (has is_control u ≡ true)
peel true c e u off found = absurd (true≢false (sym found ∙ ap (λ k. k || false) off))
peel false true e u off found = (refl, refl, ap (λ k. k || has is_control u) (sym off) ∙ found)
peel false false e u off found = absurd (true≢false (sym found))

starts_from : (b c : Bool) (e : Event) (u : List Event) → is_control e ≡ true → from_control (cond b (e ∷ []) (cond c (e ∷ u) [])) ≡ cond b (e ∷ []) (cond c (e ∷ u) [])
starts_from true c e u on = ap (λ k. cond k (e ∷ []) []) on
starts_from false true e u on = ap (λ k. cond k (e ∷ u) (from_control u)) on
starts_from false false e u on = refl

-- a prefix that has a Control is cut behind the first Control
pub from_until : (p : Event → Bool) (es : List Event) → has is_control (until_first p es) ≡ true → from_control (until_first p es) ≡ until_first p (from_control es)
from_until p [] found = refl
from_until p (e ∷ es) found = elim (cases_Bool (is_control e)) [
  | inl on ↦ starts_from (p e) (has p es) e (until_first p es) on ∙ ap (λ k. until_first p (cond k (e ∷ es) (from_control es))) (sym on)
  | inr off ↦
      let r = peel (p e) (has p es) e (until_first p es) off found in
      (λ i. from_control (cond (r.0 i) (e ∷ []) (cond (r.1 i) (e ∷ until_first p es) [])))
      ∙ ap (λ k. cond k (e ∷ until_first p es) (from_control (until_first p es))) off
      ∙ from_until p es r.2 ∙ ap (λ k. until_first p (cond k (e ∷ es) (from_control es))) (sym off)
]

pub after_until : (p : Event → Bool) (es : List Event) → has is_control (until_first p es) ≡ true → after_first p es ≡ after_first p (from_control es)
after_until p [] found = refl
after_until p (e ∷ es) found = elim (cases_Bool (is_control e)) [
  | inl on ↦ ap (λ k. after_first p (cond k (e ∷ es) (from_control es))) (sym on)
  | inr off ↦
      let r = peel (p e) (has p es) e (until_first p es) off found in
      ap (λ k. cond k es (after_first p es)) r.0 ∙ after_until p es r.2 ∙ ap (λ k. after_first p (cond k (e ∷ es) (from_control es))) (sym off)
]

pub has_from : (p : Event → Bool) (es : List Event) → has is_control (until_first p es) ≡ true → has p es ≡ true → has p (from_control es) ≡ true
has_from p [] found has_p = has_p
has_from p (e ∷ es) found has_p = elim (cases_Bool (is_control e)) [
  | inl on ↦ ap (λ k. has p (cond k (e ∷ es) (from_control es))) on ∙ has_p
  | inr off ↦
      let r = peel (p e) (has p es) e (until_first p es) off found in
      ap (λ k. has p (cond k (e ∷ es) (from_control es))) off ∙ has_from p es r.2 r.1
]

pub from_has : (es : List Event) → has is_control es ≡ true → has is_control (from_control es) ≡ true
from_has [] found = found
from_has (e ∷ es) found = elim (cases_Bool (is_control e)) [
  | inl on ↦ ap (λ k. has is_control (cond k (e ∷ es) (from_control es))) on ∙ true_or (is_control e) (has is_control es) on
  | inr off ↦ ap (λ k. has is_control (cond k (e ∷ es) (from_control es))) off ∙ from_has es (ap (λ k. k || has is_control es) (sym off) ∙ found)
]

after_last_from : (es : List Event) → has is_control es ≡ true → after_last is_control es ≡ after_last is_control (from_control es)
after_last_from es found = ap (λ (l : List Event). after_last is_control l) (sym (parts es)) ∙ after_behind is_control (opening es) (from_control es) (from_has es found)

-- a described Control is a Control
pub described_control : (es : List Event) → has is_described es ≡ true → has is_control es ≡ true
described_control [] found = found
described_control (change f b before after ∷ es) found = described_control es found
described_control (quiet n ∷ es) found = described_control es found
described_control (control n next counts described ∷ es) found = refl
described_control (begin n how ∷ es) found = described_control es found

pub controlled : (live : List Event) (n : ℕ) → IsLive live n → has is_control (until_first (is_point n) live) ≡ true
controlled live n at = described_control (until_first (is_point n) live) at.described

described_from : (es : List Event) → has is_described es ≡ true → has is_described (from_control es) ≡ true
described_from [] found = found
described_from (change f b before after ∷ es) found = described_from es found
described_from (quiet n ∷ es) found = described_from es found
described_from (control n next counts described ∷ es) found = found
described_from (begin n how ∷ es) found = described_from es found

pub live_from : (entries : List Event) (n : ℕ) → IsLive entries n → IsLive (from_control entries) n
live_from entries n at = record {
  found = has_from (is_point n) entries (controlled entries n at) at.found;
  described = ap (λ (l : List Event). has is_described l) (sym (from_until (is_point n) entries (controlled entries n at))) ∙ described_from (until_first (is_point n) entries) at.described;
}

mid_from : (entries : List Event) (n : ℕ) → IsLive entries n → after_last is_control (until_first (is_point n) entries) ≡ after_last is_control (until_first (is_point n) (from_control entries))
mid_from entries n at = after_last_from (until_first (is_point n) entries) (controlled entries n at) ∙ ap (λ (l : List Event). after_last is_control l) (from_until (is_point n) entries (controlled entries n at))

reached_from : (f : ℕ) (es : List Event) → has is_control es ≡ true → reached_count f 0 es ≡ reached_count f 0 (from_control es)
reached_from f es found = ap (λ (l : List Event). reached_count f 0 l) (sym (parts es)) ∙ reached_append (opening es) (from_control es) f 0 ∙ reached_any (from_control es) f _ 0 (from_has es found)

pub count_from : (entries : List Event) (n : ℕ) → IsLive entries n → count_at entries n ≡ count_at (from_control entries) n
unfolding count_at
count_from entries n at =
    λ i f. (reached_from f (until_first (is_point n) entries) (controlled entries n at) ∙ ap (λ (l : List Event). reached_count f 0 l) (from_until (is_point n) entries (controlled entries n at))) i

pub pick_from : (entries : List Event) (n : ℕ) (stored : Stored) → IsLive entries n → pick entries n stored ≡ pick (from_control entries) n stored
unfolding pick
pick_from entries n stored at = λ i. choice (mid_from entries n at i) (after_until (is_point n) entries (controlled entries n at) i) stored

as_content : (entries : List Event) (n : ℕ) (stored : Stored) → blocks_at entries stored n ≡ content_of (count_at entries n) (pick entries n stored)
unfolding blocks_at content_of count_at pick
as_content entries n stored = refl

pub at_from : (entries : List Event) (n : ℕ) (stored : Stored) → IsLive entries n → blocks_at entries stored n ≡ blocks_at (from_control entries) stored n
at_from entries n stored at =
    as_content entries n stored ∙ (λ i. content_of (count_from entries n at i) (pick_from entries n stored at i)) ∙ sym (as_content (from_control entries) n stored)

-- at each live point, whatever stands before the first Control
pub at_point : (entries : List Event) (base : AllBlocks) (counted : Stored) (n : ℕ) → Sound (from_control entries) base counted → IsLive entries n → blocks_at entries counted n ≡ replay (until_first (is_point n) (from_control entries)) base
at_point entries base counted n sound at =
    let more = live_from entries n at in
    at_from entries n counted at ∙ each_point (from_control entries) base counted n sound more.found (controlled (from_control entries) n more)

opening_until : (p : Event → Bool) (es : List Event) → has is_control (until_first p es) ≡ true → opening (until_first p es) ≡ opening es
opening_until p [] found = refl
opening_until p (e ∷ es) found = elim (cases_Bool (is_control e)) [
  | inl on ↦ first (p e) (has p es) on
  | inr off ↦
      let r = peel (p e) (has p es) e (until_first p es) off found in
      (λ i. opening (cond (r.0 i) (e ∷ []) (cond (r.1 i) (e ∷ until_first p es) [])))
      ∙ ap (λ k. cond k [] (e ∷ opening (until_first p es))) off ∙ ap (λ (l : List Event). e ∷ l) (opening_until p es r.2) ∙ ap (λ k. cond k [] (e ∷ opening es)) (sym off)
]
  where
    first : (b c : Bool) → is_control e ≡ true → opening (cond b (e ∷ []) (cond c (e ∷ until_first p es) [])) ≡ cond (is_control e) [] (e ∷ opening es)
    first true c on = ap (λ k. cond k [] (e ∷ [])) on ∙ ap (λ k. cond k [] (e ∷ opening es)) (sym on)
    first false true on = ap (λ k. cond k [] (e ∷ opening (until_first p es))) on ∙ ap (λ k. cond k [] (e ∷ opening es)) (sym on)
    first false false on = ap (λ k. cond k [] (e ∷ opening es)) (sym on)

pub opening_stays : OpeningStays
opening_stays live = (λ e found. (opening_append live (e ∷ []) found).0, λ n at. opening_until (is_point n) live (controlled live n at))

pub opening_never_counts : OpeningNeverCounts
opening_never_counts live counted n at = record { lives = live_from live n at; same = sym (at_from live n counted at) }

-- ---- the rule gives the chosen point

module _ (entries : List Event) (base : AllBlocks) (counted : Stored) (m : ℕ) (sound : Sound (from_control entries) base counted) (at : IsLive entries m) where
  abbrev pub right : AllBlocks
  right = replay (until_first (is_point m) (from_control entries)) base

  pub count_right : (f : ℕ) → count_at entries m f ≡ length (right f)
  count_right f = sym (content_length (count_at entries m) (pick entries m counted) f) ∙ ap (λ (c : AllBlocks). length (c f)) (sym (as_content entries m counted) ∙ at_point entries base counted m sound at)

  log_right : (stored : Stored) (f b : ℕ) → stored f b ≡ counted f b → b < count_at entries m f → pick entries m stored f b ≡ block_in right f b
  unfolding pick choice
  log_right stored f b same low =
      ap (λ x. value (last_after f b (after_last is_control (until_first (is_point m) entries))) (first_before f b (after_first (is_point m) entries)) x) same
      ∙ sym (content_block (count_at entries m) (pick entries m counted) f b low)
      ∙ ap (λ (c : AllBlocks). block_in c f b) (sym (as_content entries m counted) ∙ at_point entries base counted m sound at)

  -- a true dump whose point is live up to the place of m
  pub true_right : (dump : Dump) (f b : ℕ) → IsLive (until_first (is_point m) entries) dump.point → dump.blocks ≡ blocks_at entries counted dump.point → b < count_at entries m f
      → dump_pick entries dump m f b ≡ block_in right f b
  unfolding dump_pick
  true_right dump f b at_dump same low =
      let p = dump.point in
      let all = from_control entries in
      let front = until_first (is_point m) all in
      let cut : from_control (until_first (is_point m) entries) ≡ front = from_until (is_point m) entries (controlled entries m at) in
      let in_front : IsLive front p = subst (λ (l : List Event). IsLive l p) cut (live_from (until_first (is_point m) entries) p at_dump) in
      let same_late : between p m entries ≡ after_first (is_point p) front =
      after_until (is_point p) (until_first (is_point m) entries) (controlled (until_first (is_point m) entries) p at_dump) ∙ ap (λ (l : List Event). after_first (is_point p) l) cut in
      let same_front : until_first (is_point p) front ≡ until_first (is_point p) all = until_until (is_point m) (is_point p) all in_front.found in
      let old_found : has (is_point p) entries ≡ true = has_front (is_point m) (is_point p) entries at_dump.found in
      let old_described : has is_described (until_first (is_point p) entries) ≡ true =
      ap (λ (l : List Event). has is_described l) (sym (until_until (is_point m) (is_point p) entries at_dump.found)) ∙ at_dump.described in
      let was : dump.blocks ≡ replay (until_first (is_point p) front) base =
      same ∙ at_point entries base counted p sound (record { found = old_found; described = old_described }) ∙ ap (λ (l : List Event). replay l base) (sym same_front) in
      let halves : until_first (is_point p) front ++ after_first (is_point p) front ≡ front = split_first (is_point p) front in_front.found in
      let chain : Chain front base = (chain_split front (after_first (is_point m) all) base
      (subst (λ (l : List Event). Chain l base) (sym (split_first (is_point m) all (live_from entries m at).found)) sound.chain)).0 in
      let late = after_first (is_point p) front in
      let start = replay (until_first (is_point p) front) base in
      let late_chain : Chain late start = (chain_split (until_first (is_point p) front) late base (subst (λ (l : List Event). Chain l base) (sym halves) chain)).1 in
      let now : replay front base ≡ replay late start = ap (λ (l : List Event). replay l base) (sym halves) ∙ replay_append (until_first (is_point p) front) late base in
      let low_now : b < length (replay late start f) = subst (λ (c : AllBlocks). b < length (c f)) now (omega (arith, low, count_right f)) in
      ap (λ (l : List Event). value (last_after f b l) None (block_in dump.blocks f b)) same_late
      ∙ elim (option_cases (last_after f b late)) [
        | inr (x, is) ↦ ap (λ o. value o None (block_in dump.blocks f b)) is ∙ sym (last_stands late start f b x late_chain is) ∙ ap (λ (c : AllBlocks). block_in c f b) (sym now)
        | inl none ↦
            ap (λ o. value o None (block_in dump.blocks f b)) none ∙ ap (λ (c : AllBlocks). block_in c f b) was
            ∙ sym (none_stands late start f b late_chain none low_now).1 ∙ ap (λ (c : AllBlocks). block_in c f b) (sym now)
      ]

  dump_right : (dump : Dump) (f b : ℕ) → DumpServes dump entries counted m → b < count_at entries m f → dump_pick entries dump m f b ≡ block_in right f b
  dump_right dump f b serves low = serves.gives f b low ∙ ap (λ (c : AllBlocks). block_in c f b) (at_point entries base counted m sound at)

  restore_right : (how : How) (dumps : Dumps) (stored : Stored) (f b : ℕ) → ((f b : ℕ) → may_hold_anything how f b ≡ false → stored f b ≡ counted f b) → HasDump how dumps entries counted m
      → b < count_at entries m f → restore_pick how dumps entries m stored f b ≡ block_in right f b
  unfolding restore_pick
  restore_right halt_load dumps stored f b same has_dump low = log_right stored f b (same f b refl) low
  restore_right back_out dumps stored f b same has_dump low = log_right stored f b (same f b refl) low
  restore_right roll_back dumps stored f b same has_dump low = log_right stored f b (same f b refl) low
  restore_right (rebuild d) dumps stored f b same has_dump low = dump_right (dumps d) f b has_dump low
  restore_right (reconstruct d named) dumps stored f b same has_dump low = elim (cases_Bool (named f b)) [
    | inl on ↦ ap (λ t. cond t (dump_pick entries (dumps d) m f b) (pick entries m stored f b)) on ∙ dump_right (dumps d) f b has_dump low
    | inr off ↦ ap (λ t. cond t (dump_pick entries (dumps d) m f b) (pick entries m stored f b)) off ∙ log_right stored f b (same f b off) low
  ]

  pub outcome_right : (how : How) (dumps : Dumps) (stored : Stored) → ((f b : ℕ) → may_hold_anything how f b ≡ false → stored f b ≡ counted f b) → HasDump how dumps entries counted m
      → outcome how dumps entries m stored ≡ replay (until_first (is_point m) (from_control entries)) base
  unfolding outcome content_of
  outcome_right how dumps stored same has_dump =
      λ i f. sym (fill_by_all (restore_pick how dumps entries m stored f) (right f) (count_at entries m f) [] (sym (count_right f))
      (λ k low. sym (restore_right how dumps stored f k same has_dump low))) i
