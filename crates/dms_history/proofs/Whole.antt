-- Trails, dumps and blocks that agree are steady.
use Rattle.std.proofs.Common.{ℕ, ◌<◌, ◌≡◌, ◌||◌, inl, inr, Bool, true, false, List, [], ◌∷◌, ◌++◌, length, Some, None, refl, sym, ◌∙◌, ap, subst, arith, append_assoc}
use Rattle.std.proofs.lemmas.List.{ext_get_or}
use Rattle.std.proofs.lemmas.Bool.{cases_Bool, true≢false}
use Rattle.dms_history.specs.Events.{BlockBytes, AllBlocks, Stored, How, Event, change, quiet, control, begin, block_in}
use Rattle.dms_history.specs.Replay.{replay}
use Rattle.dms_history.specs.Images.{or_else, last_after}
use Rattle.dms_history.specs.Lists.{has, until_first}
use Rattle.dms_history.specs.Pick.{reached_count, count_at}
use Rattle.dms_history.specs.Places.{is_control, is_point, is_begin}
use Rattle.dms_history.specs.Base.{Sound, opening, from_control, OpenedFrom, base_of}
use Rattle.dms_history.specs.Here.{outcome, here}
use Rattle.dms_history.specs.History.{Pending, History, after_event, history_from, history, next_number}
use Rattle.dms_history.specs.Agrees.{ends_restore, BeginsAloneEvents}
use Rattle.dms_history.specs.LawsOfBase.{AgreesIsSteady, SteadyAgrees}
use Rattle.dms_history.proofs.Picks.{option_cases, or_none, some_is, last_append, last_stands, none_stands, replay_length}
use Rattle.dms_history.proofs.AtPoints.{suffix_none}
use Rattle.dms_history.proofs.HalfDone.{has_front, until_until}
use Rattle.dms_history.proofs.Base.{has_append, parts, agrees_has_base}
use Rattle.dms_history.proofs.Converse.{logged_below, agrees_leads, base_agrees}
use Rattle.dms_history.proofs.Given.{controlled, from_until, count_right}
use Rattle.dms_history.proofs.Order.{append_none}
use Rattle.dms_history.proofs.Stops.{has_self, here_is, outcome_length}

-- no Begin is live
clean_front : (p : Event → Bool) (es : List Event) → has is_begin es ≡ false → has is_begin (until_first p es) ≡ false
clean_front p es off = elim (cases_Bool (has is_begin (until_first p es))) [
  | inr none ↦ none
  | inl some ↦ absurd (true≢false (sym (has_front p is_begin es some) ∙ off))
]

clean_push : (es : List Event) (e : Event) → has is_begin es ≡ false → is_begin e ≡ false → has is_begin (es ++ e ∷ []) ≡ false
clean_push es e off one = has_append is_begin es (e ∷ []) ∙ (λ i. off i || (one i || false))

clean_step : (t : History) (e : Event) → has is_begin t.live ≡ false → has is_begin (after_event t e).live ≡ false
clean_step t (change f b before after) off = clean_push t.live (change f b before after) off refl
clean_step t (quiet n) off = clean_push t.live (quiet n) off refl
clean_step t (control n next counts described) off = clean_push t.live (control n next counts described) off refl
clean_step t (begin m how) off = clean_front (is_point m) t.live off

clean_from : (es : List Event) (t : History) → has is_begin t.live ≡ false → has is_begin (history_from t es).live ≡ false
clean_from [] t off = off
clean_from (e ∷ es) t off = clean_from es (after_event t e) (clean_step t e off)

pub history_clean : (entries : List Event) → has is_begin (history entries).live ≡ false
unfolding history
history_clean entries = clean_from entries (record { live = []; pending = None }) refl

-- a restore is pending only right behind its Begin
record CutHistory (t : History) (xs : List Event) : Type 0 where
  live : (p : Pending) → t.pending ≡ Some p → t.live ≡ until_first (is_point p.point) p.entries
  last : (p : Pending) → t.pending ≡ Some p → (ws : List Event) × (m : ℕ) × (how : How) × (xs ≡ ws ++ begin m how ∷ [])

not_pending : (t : History) (xs es : List Event) (e : Event) → BeginsAloneEvents (xs ++ e ∷ es) → CutHistory t xs → ends_restore e ≡ false → (p : Pending) → t.pending ≡ Some p → ⊥
not_pending t xs es e alone cut off p is =
    let r = cut.last p is in
    true≢false (sym (alone r.0 es r.1 r.2 e (ap (λ (l : List Event). l ++ e ∷ es) r.3 ∙ append_assoc r.0 (begin r.1 r.2 ∷ []) (e ∷ es))) ∙ off)

none_not_some : (p : Pending) → None ≡ Some p → ⊥
none_not_some p e = absurd cc

cut_step : (t : History) (xs es : List Event) (e : Event) → BeginsAloneEvents (xs ++ e ∷ es) → CutHistory t xs → CutHistory (after_event t e) (xs ++ e ∷ [])
cut_step t xs es (change f b before after) alone cut = record {
  live = λ p is. absurd (not_pending t xs es (change f b before after) alone cut refl p is);
  last = λ p is. absurd (not_pending t xs es (change f b before after) alone cut refl p is);
}
cut_step t xs es (quiet n) alone cut = record {
  live = λ p is. absurd (not_pending t xs es (quiet n) alone cut refl p is);
  last = λ p is. absurd (not_pending t xs es (quiet n) alone cut refl p is);
}
cut_step t xs es (control n next counts described) alone cut = record { live = λ p is. absurd (none_not_some p is); last = λ p is. absurd (none_not_some p is) }
cut_step t xs es (begin m how) alone cut =
    let pending : Pending = record { entries = t.live; point = m; how = how } in
    record {
      live = λ p is. subst (λ (q : Pending). until_first (is_point m) t.live ≡ until_first (is_point q.point) q.entries) (some_is pending p is) refl;
      last = λ p is. (xs, m, how, refl);
    }

cut_from : (es xs : List Event) (t : History) → BeginsAloneEvents (xs ++ es) → CutHistory t xs → CutHistory (history_from t es) (xs ++ es)
cut_from [] xs t alone cut = subst (λ (l : List Event). CutHistory t l) (sym (append_none xs)) cut
cut_from (e ∷ es) xs t alone cut =
    let same : (xs ++ e ∷ []) ++ es ≡ xs ++ e ∷ es = append_assoc xs (e ∷ []) es in
    subst (λ (l : List Event). CutHistory (history_from (after_event t e) es) l) same
    (cut_from es (xs ++ e ∷ []) (after_event t e) (subst (λ (l : List Event). BeginsAloneEvents l) (sym same) alone) (cut_step t xs es e alone cut))

-- live entries end at the place of the pending point
pub pending_cut : (entries : List Event) → BeginsAloneEvents entries → (p : Pending) → (history entries).pending ≡ Some p → (history entries).live ≡ until_first (is_point p.point) p.entries
unfolding history
pending_cut entries alone = (cut_from entries [] (record { live = []; pending = None }) alone (record { live = λ p is. absurd (none_not_some p is); last = λ p is. absurd (none_not_some p is) })).live

pub count_front : (entries : List Event) (m : ℕ) → has (is_point m) entries ≡ true → count_at (until_first (is_point m) entries) m ≡ count_at entries m
unfolding count_at
count_front entries m found =
    let same = until_until (is_point m) (is_point m) entries (has_self (is_point m) entries found) in
    λ i f. reached_count f 0 (same i)

pub content_same : (c d : AllBlocks) → ((f : ℕ) → length (c f) ≡ length (d f)) → ((f b : ℕ) → b < length (d f) → block_in c f b ≡ block_in d f b) → c ≡ d
content_same c d long same = λ i f. ext_get_or [] (c f) (d f) (long f) (λ k low. same f k (omega (arith, low, long f))) i

has_until : (p : Event → Bool) (es : List Event) → has p (until_first p es) ≡ true → has p es ≡ true
has_until p es found = has_front p p es found

-- a block with a live after-image stands so in the content that the entries give
block_last : (live : List Event) (base : AllBlocks) (counted : Stored) (f b : ℕ) (x : BlockBytes) → Sound (from_control live) base counted → OpenedFrom (opening live) base → last_after f b live ≡ Some x
    → (b < length (replay (from_control live) base f)) × (block_in (replay (from_control live) base) f b ≡ x)
block_last live base counted f b x sound opened last =
    let all = from_control live in
    let joint : or_else (last_after f b all) (last_after f b (opening live)) ≡ Some x = sym (last_append (opening live) all f b) ∙ ap (λ (l : List Event). last_after f b l) (parts live) ∙ last in
    elim (option_cases (last_after f b all)) [
      | inr (y, at) ↦
          (logged_below all base f b y sound.chain at, last_stands all base f b y sound.chain at ∙ some_is y x (sym (ap (λ o. or_else o (last_after f b (opening live))) at) ∙ joint))
      | inl off ↦
          let leads = opened.leads f b x (sym (ap (λ o. or_else o (last_after f b (opening live))) off) ∙ joint) in
          let low : b < length (replay all base f) = omega (arith, leads.0, replay_length all base f sound.chain) in
          (low, (none_stands all base f b sound.chain off low).1 ∙ leads.1)
    ]

pub agrees_is_steady : AgreesIsSteady
agrees_is_steady first entries dumps stored whole alone at_points =
    let t = history entries in
    let live = t.live in
    let counted = here dumps t stored in
    let base = base_of live counted in
    let sound : Sound (from_control live) base counted = agrees_has_base first live (next_number entries) counted (history_clean entries) whole.lists in
    record {
      sound = sound;
      restored = λ p is.
          let m = p.point in
          let left = outcome p.how dumps p.entries m stored in
          let at = at_points p is in
          let cut : live ≡ until_first (is_point m) p.entries = pending_cut entries alone p is in
          let found : has (is_point m) p.entries ≡ true = has_until (is_point m) p.entries (ap (λ (l : List Event). has (is_point m) l) (sym cut) ∙ at.found) in
          let stays : until_first (is_point m) live ≡ live = ap (λ (l : List Event). until_first (is_point m) l) cut ∙ until_until (is_point m) (is_point m) p.entries (has_self (is_point m) p.entries found) ∙ sym cut in
          let inner : until_first (is_point m) (from_control live) ≡ from_control live = sym (from_until (is_point m) live (controlled live m at)) ∙ ap (λ (l : List Event). from_control l) stays in
          let counts : count_at p.entries m ≡ count_at live m = sym (count_front p.entries m found) ∙ ap (λ (l : List Event). count_at l m) (sym cut) in
          let some_control : has is_control live ≡ true = has_front (is_point m) is_control live (controlled live m at) in
          let opened = (agrees_leads first live (next_number entries) counted whole.lists some_control).0 in
          content_same left (replay (from_control live) base)
          (λ f. outcome_length p.how dumps p.entries m f stored ∙ ap (λ (k : ℕ → ℕ). k f) counts ∙ count_right live base counted m sound at f ∙ ap (λ (l : List Event). length (replay l base f)) inner)
          (λ f b low.
          let is_here : block_in left f b ≡ counted f b = ap (λ (s : Stored). s f b) (sym (here_is dumps t p stored is)) in
          is_here ∙ elim (option_cases (last_after f b live)) [
            | inr (x, last) ↦ whole.restored p f b x is last ∙ sym (block_last live base counted f b x sound opened last).1
            | inl none ↦
                let out : last_after f b (from_control live) ≡ None = (or_none (last_after f b (from_control live)) (last_after f b (opening live))
                (sym (last_append (opening live) (from_control live) f b) ∙ ap (λ (l : List Event). last_after f b l) (parts live) ∙ none)).0 in
                sound.stands f b low (suffix_none is_control (from_control live) f b out)
          ]);
      point_lives = at_points;
    }

pub steady_agrees : SteadyAgrees
steady_agrees first entries dumps stored base steady opened numbered empty =
    let t = history entries in
    record {
      lists = base_agrees first t.live (next_number entries) (here dumps t stored) base steady.sound opened numbered empty;
      restored = λ p f b x is last.
          ap (λ (s : Stored). s f b) (here_is dumps t p stored is) ∙ ap (λ (c : AllBlocks). block_in c f b) (steady.restored p is)
          ∙ (block_last t.live base (here dumps t stored) f b x steady.sound opened last).1;
    }
