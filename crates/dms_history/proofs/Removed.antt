-- Old files are removed from the front of a trail.
use Rattle.std.proofs.Common.{ℕ, ◌<◌, ◌≡◌, inl, inr, Bool, true, false, cond, List, [], ◌∷◌, ◌++◌, length, Some, refl, sym, ◌∙◌, ap, subst, append_assoc}
use Rattle.std.proofs.lemmas.Bool.{cases_Bool}
use Rattle.dms_history.specs.Events.{AllBlocks, Event, change, block_in}
use Rattle.dms_history.specs.Replay.{Chain, replay}
use Rattle.dms_history.specs.Images.{or_else, last_after}
use Rattle.dms_history.specs.Lists.{has, until_first, after_last}
use Rattle.dms_history.specs.Places.{is_control, is_described, is_point, IsLive}
use Rattle.dms_history.specs.Base.{Sound, opening, from_control, OpenedFrom}
use Rattle.dms_history.specs.LawsOfBase.{PrefixGoes}
use Rattle.dms_history.proofs.Picks.{last_append, last_stands, chain_split}
use Rattle.dms_history.proofs.AtPoints.{or_no, replay_append, or_true_right}
use Rattle.dms_history.proofs.Base.{has_append, parts, after_behind}
use Rattle.dms_history.proofs.Converse.{opening_append, logged_below, told}
use Rattle.dms_history.proofs.Given.{controlled, peel, from_has, at_point}

-- a prefix without the point
until_past : (p : Event → Bool) (xs ys : List Event) → has p xs ≡ false → has p ys ≡ true → until_first p (xs ++ ys) ≡ xs ++ until_first p ys
until_past p [] ys off found = refl
until_past p (x ∷ xs) ys off found =
    let both = or_no (p x) (has p xs) off in
    let more : has p (xs ++ ys) ≡ true = has_append p xs ys ∙ or_true_right (has p xs) (has p ys) found in
    (λ i. cond (both.0 i) (x ∷ []) (cond (more i) (x ∷ until_first p (xs ++ ys)) [])) ∙ ap (λ (l : List Event). x ∷ l) (until_past p xs ys both.1 found)

-- without a Control in front
behind_none : (xs ys : List Event) → has is_control xs ≡ false → (opening (xs ++ ys) ≡ xs ++ opening ys) × (from_control (xs ++ ys) ≡ from_control ys)
behind_none [] ys off = (refl, refl)
behind_none (x ∷ xs) ys off =
    let both = or_no (is_control x) (has is_control xs) off in
    let r = behind_none xs ys both.1 in (
      ap (λ k. cond k [] (x ∷ opening (xs ++ ys))) both.0 ∙ ap (λ (l : List Event). x ∷ l) r.0,
      ap (λ k. cond k (x ∷ (xs ++ ys)) (from_control (xs ++ ys))) both.0 ∙ r.1,
    )

-- what a chain leads to
opened_by : (os : List Event) (c : AllBlocks) → Chain os c → OpenedFrom os (replay os c)
opened_by os c chain = record {
  leads = λ f b x last. (logged_below os c f b x chain last, last_stands os c f b x chain last);
  linked = λ xs ys f b before after old is last.
      let parts = chain_split xs (change f b before after ∷ ys) c (subst (λ (l : List Event). Chain l c) is chain) in
      told before b (replay xs c f) parts.1.0 (logged_below xs c f b old parts.0 last) ∙ ap (λ x. Some x) (last_stands xs c f b old parts.0 last);
}

tail_opened : (xs os : List Event) (base : AllBlocks) → OpenedFrom (xs ++ os) base → OpenedFrom os base
tail_opened xs os base opened = record {
  leads = λ f b x last. opened.leads f b x (last_append xs os f b ∙ ap (λ o. or_else o (last_after f b xs)) last);
  linked = λ us vs f b before after old is last.
      opened.linked (xs ++ us) vs f b before after old (ap (λ (l : List Event). xs ++ l) is ∙ sym (append_assoc xs us (change f b before after ∷ vs)))
      (last_append xs us f b ∙ ap (λ o. or_else o (last_after f b xs)) last);
}

live_whole : (xs ys : List Event) (n : ℕ) → IsLive ys n → has (is_point n) xs ≡ false → IsLive (xs ++ ys) n
live_whole xs ys n at off = record {
  found = has_append (is_point n) xs ys ∙ or_true_right (has (is_point n) xs) (has (is_point n) ys) at.found;
  described = ap (λ (l : List Event). has is_described l) (until_past (is_point n) xs ys off at.found) ∙ has_append is_described xs (until_first (is_point n) ys)
      ∙ or_true_right (has is_described xs) (has is_described (until_first (is_point n) ys)) at.described;
}

-- the opening of a list that has a live point has no such point
opening_on : (p : Event → Bool) (es : List Event) → has is_control (until_first p es) ≡ true → until_first p es ≡ opening es ++ until_first p (from_control es)
opening_on p [] found = refl
opening_on p (e ∷ es) found = elim (cases_Bool (is_control e)) [
  | inl on ↦ λ i. cond (sym on i) [] (e ∷ opening es) ++ until_first p (cond (sym on i) (e ∷ es) (from_control es))
  | inr off ↦
      let r = peel (p e) (has p es) e (until_first p es) off found in
      (λ i. cond (r.0 i) (e ∷ []) (cond (r.1 i) (e ∷ until_first p es) []))
      ∙ ap (λ (l : List Event). e ∷ l) (opening_on p es r.2)
      ∙ (λ i. cond (sym off i) [] (e ∷ opening es) ++ until_first p (cond (sym off i) (e ∷ es) (from_control es)))
]

not_opening : (es : List Event) (n : ℕ) → IsLive es n → until_first (is_point n) es ≡ opening es ++ until_first (is_point n) (from_control es)
not_opening es n at = opening_on (is_point n) es (controlled es n at)

pub front_goes : PrefixGoes
front_goes xs ys base counted sound opened found = elim (cases_Bool (has is_control xs)) [
  | inr off ↦
      let r = behind_none xs ys off in
      let same : Sound (from_control ys) base counted = subst (λ (l : List Event). Sound l base counted) r.1 sound in record {
        later = base;
        sound = same;
        opened = tail_opened xs (opening ys) base (subst (λ (l : List Event). OpenedFrom l base) r.0 opened);
        points = λ n at none.
            let whole = live_whole xs ys n at none in
            record { lives = whole; same = at_point (xs ++ ys) base counted n sound whole ∙ ap (λ (l : List Event). replay (until_first (is_point n) l) base) r.1 ∙ sym (at_point ys base counted n same at) };
      }
  | inl on ↦
      let r = opening_append xs ys on in
      let os = opening ys in
      let all = from_control ys in
      let front : List Event = from_control xs ++ os in
      let joint : from_control (xs ++ ys) ≡ front ++ all = r.1 ∙ ap (λ (l : List Event). from_control xs ++ l) (sym (parts ys)) ∙ sym (append_assoc (from_control xs) os all) in
      let chains = chain_split front all base (subst (λ (l : List Event). Chain l base) joint sound.chain) in
      let start = chain_split (from_control xs) os base chains.0 in
      let later = replay front base in
      let through : replay front base ≡ replay os (replay (from_control xs) base) = replay_append (from_control xs) os base in
      let now : replay (from_control (xs ++ ys)) base ≡ replay all later = ap (λ (l : List Event). replay l base) joint ∙ replay_append front all base in
      let late : after_last is_control (from_control (xs ++ ys)) ≡ after_last is_control all =
      ap (λ (l : List Event). after_last is_control l) joint ∙ after_behind is_control front all (from_has ys found) in
      let same : Sound all later counted = record {
        chain = chains.1;
        stands = λ f b low none.
            sound.stands f b (subst (λ (c : AllBlocks). b < length (c f)) (sym now) low) (ap (λ (l : List Event). last_after f b l) late ∙ none)
            ∙ ap (λ (c : AllBlocks). block_in c f b) now;
      } in record {
        later = later;
        sound = same;
        opened = subst (λ (c : AllBlocks). OpenedFrom os c) (sym through) (opened_by os (replay (from_control xs) base) start.1);
        points = λ n at none.
            let whole = live_whole xs ys n at none in
            let none_behind : has (is_point n) (from_control xs) ≡ false =
            (or_no (has (is_point n) (opening xs)) (has (is_point n) (from_control xs)) (sym (has_append (is_point n) (opening xs) (from_control xs)) ∙ ap (λ (l : List Event). has (is_point n) l) (parts xs) ∙ none)).1 in
            let cut : until_first (is_point n) (from_control (xs ++ ys)) ≡ front ++ until_first (is_point n) all =
            ap (λ (l : List Event). until_first (is_point n) l) r.1 ∙ until_past (is_point n) (from_control xs) ys none_behind at.found
            ∙ ap (λ (l : List Event). from_control xs ++ l) (not_opening ys n at) ∙ sym (append_assoc (from_control xs) os (until_first (is_point n) all)) in
            record { lives = whole; same = at_point (xs ++ ys) base counted n sound whole ∙ ap (λ (l : List Event). replay l base) cut ∙ replay_append front (until_first (is_point n) all) base ∙ sym (at_point ys later counted n same at) };
      }
]
