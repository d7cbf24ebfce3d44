-- A database that runs: its points go on, and what a block seals at once.
use Rattle.std.proofs.Common.{ℕ, ◌<◌, ◌≤◌, ◌≡◌, ◌||◌, ◌==◌, inl, inr, Bool, true, false, cond, List, [], ◌∷◌, ◌++◌, length, None, refl, sym, ◌∙◌, ap, subst, arith, append_assoc}
use Rattle.std.proofs.lemmas.Bool.Decides.{nat_tests}
use Rattle.std.proofs.lemmas.Bool.{cases_Bool, true≢false}
use Rattle.dms_history.specs.Events.{AllBlocks, Stored, Event, change, quiet, control, begin}
use Rattle.dms_history.specs.Replay.{Chain, apply, replay}
use Rattle.dms_history.specs.Lists.{has, until_first, after_last}
use Rattle.dms_history.specs.Places.{is_control, is_described, is_point, IsLive}
use Rattle.dms_history.specs.History.{History, after_event, history_from}
use Rattle.dms_history.specs.Pick.{Dumps, content_of}
use Rattle.dms_history.specs.Images.{last_after}
use Rattle.dms_history.specs.Base.{from_control, Sound}
use Rattle.dms_history.specs.Agrees.{Numbered}
use Rattle.dms_history.specs.Points.{HasPoint}
use Rattle.dms_history.specs.LawsOfRunning.{PointsGoOn, SealsRun, QuietIsLive, LevelIsLive, ControlStands}
use Rattle.dms_history.proofs.AtPoints.{replay_append, true_or}
use Rattle.dms_history.proofs.Base.{has_append, content_length, content_block}
use Rattle.dms_history.proofs.Converse.{opening_append}
use Rattle.dms_history.proofs.Given.{controlled, live_from, at_point, described_control, from_until}
use Rattle.dms_history.proofs.Stops.{until_append, has_self}
use Rattle.dms_history.proofs.HalfDone.{has_front}
use Rattle.dms_history.proofs.Order.{point_among, append_none}
use Rattle.dms_history.proofs.Whole.{content_same}
use Rattle.dms_history.proofs.Runs.{quiets, changes}
use Rattle.dms_history.proofs.Picks.{chain_split}
use Rattle.dms_history.proofs.Again.{steady_of, here_unpending}

pub live_more : (live more : List Event) (n : ℕ) → IsLive live n → IsLive (live ++ more) n
live_more live more n at = record {
  found = has_append (is_point n) live more ∙ true_or (has (is_point n) live) (has (is_point n) more) at.found;
  described = ap (λ (l : List Event). has is_described l) (until_append (is_point n) live more at.found) ∙ at.described;
}

pub points_go_on : PointsGoOn
points_go_on live more base counted later n sound grown at =
    let on = live_more live more n at in
    let found : has is_control live ≡ true = has_front (is_point n) is_control live (controlled live n at) in
    let split : from_control (live ++ more) ≡ from_control live ++ more = (opening_append live more found).1 in
    let same : until_first (is_point n) (from_control (live ++ more)) ≡ until_first (is_point n) (from_control live) =
    ap (λ (l : List Event). until_first (is_point n) l) split ∙ until_append (is_point n) (from_control live) more (live_from live n at).found in
    record { lives = on; same = at_point (live ++ more) base later n grown on ∙ ap (λ (l : List Event). replay l base) same ∙ sym (at_point live base counted n sound at) }

-- ---- a new quiet point

pub above_all : (live : List Event) (next n : ℕ) → Numbered live next → next ≤ n → has (is_point n) live ≡ false
above_all live next n numbered le = elim (cases_Bool (has (is_point n) live)) [
  | inr off ↦ off
  | inl on ↦
      let among = point_among live n on in
      let low : n < next = numbered.below_next among.0 among.1 n among.2 in
      absurd (omega (arith, low, le))
]

self_eq : (n : ℕ) → (n == n) ≡ true
self_eq n = grind (arith, nat_tests)

until_new : (live : List Event) (n : ℕ) (x : Event) → is_point n x ≡ true → has (is_point n) live ≡ false → until_first (is_point n) (live ++ x ∷ []) ≡ live ++ x ∷ []
until_new [] n x at off = ap (λ t. cond t (x ∷ []) []) at
until_new (e ∷ es) n x at off = go (is_point n e) (has (is_point n) es) (has (is_point n) (es ++ x ∷ [])) off last (λ out. until_new es n x at out)
  where
    go : (b c d : Bool) → b || c ≡ false → d ≡ true → (c ≡ false → until_first (is_point n) (es ++ x ∷ []) ≡ es ++ x ∷ [])
        → cond b (e ∷ []) (cond d (e ∷ until_first (is_point n) (es ++ x ∷ [])) []) ≡ e ∷ (es ++ x ∷ [])
    go true c d none on rest = absurd (true≢false none)
    go false true d none on rest = absurd (true≢false none)
    go false false d none on rest = λ i. cond (on i) (e ∷ rest refl i) []

    or_true : (b c : Bool) → c ≡ true → b || c ≡ true
    or_true true c on = refl
    or_true false c on = on

    last : has (is_point n) (es ++ x ∷ []) ≡ true
    last = has_append (is_point n) es (x ∷ []) ∙ or_true (has (is_point n) es) (has (is_point n) (x ∷ [])) (ap (λ t. t || false) at)

-- a new point is live, with the content of now
new_is_live : (live : List Event) (next : ℕ) (base : AllBlocks) (later : Stored) (n : ℕ) (x : Event) → is_point n x ≡ true → ((c : AllBlocks) → apply x c ≡ c) → Numbered live next → next ≤ n
    → has is_described live ≡ true → Sound (from_control (live ++ x ∷ [])) base later → HasPoint (live ++ x ∷ []) later n (replay (from_control live) base)
new_is_live live next base later n x at still numbered le described grown =
    let all = live ++ x ∷ [] in
    let off = above_all live next n numbered le in
    let cut : until_first (is_point n) all ≡ all = until_new live n x at off in
    let lives : IsLive all n = record {
      found = ap (λ (l : List Event). has (is_point n) l) (sym cut) ∙ has_self (is_point n) all (has_append (is_point n) live (x ∷ []) ∙ (λ i. has (is_point n) live || (at i || false)) ∙ or_end (has (is_point n) live));
      described = ap (λ (l : List Event). has is_described l) cut ∙ has_append is_described live (x ∷ []) ∙ true_or (has is_described live) (has is_described (x ∷ [])) described;
    } in
    let found : has is_control live ≡ true = described_control live described in
    let split : from_control all ≡ from_control live ++ x ∷ [] = (opening_append live (x ∷ []) found).1 in
    let whole : until_first (is_point n) (from_control all) ≡ from_control all = sym (from_until (is_point n) all (ap (λ (l : List Event). has is_control l) cut ∙ has_append is_control live (x ∷ []) ∙ true_or (has is_control live) (has is_control (x ∷ [])) found)) ∙ ap (λ (l : List Event). from_control l) cut in
    record { lives = lives; same = at_point all base later n grown lives ∙ ap (λ (l : List Event). replay l base) (whole ∙ split) ∙ replay_append (from_control live) (x ∷ []) base ∙ still (replay (from_control live) base) }
  where
    or_end : (b : Bool) → b || (true || false) ≡ true
    or_end true = refl
    or_end false = refl

pub quiet_is_live : QuietIsLive
quiet_is_live live next base counted n numbered le described sound =
    let split : from_control (live ++ quiet n ∷ []) ≡ from_control live ++ quiet n ∷ [] = (opening_append live (quiet n ∷ []) (described_control live described)).1 in
    new_is_live live next base counted n (quiet n) (self_eq n) (λ c. refl) numbered le described (subst (λ (l : List Event). Sound l base counted) (sym split) (quiets (from_control live) base counted n sound))

pub level_is_live : LevelIsLive
level_is_live live next base later n after counts described numbered le described_before grown =
    new_is_live live next base later n (control n after counts described) (self_eq n) (λ c. refl) numbered le described_before grown

-- ---- behind a Control

pub control_stands : ControlStands
control_stands live base stored n next counts described sound =
    let e = control n next counts described in
    let all = from_control (live ++ e ∷ []) in
    let ends = ends_with live in
    content_same (content_of counts stored) (replay all base)
    (λ f. content_length counts stored f ∙ count_is (ends.0) base (subst (λ (l : List Event). Chain l base) ends.1 sound.chain) f ∙ ap (λ (l : List Event). length (replay l base f)) (sym ends.1))
    (λ f b low.
    let under : b < counts f = omega (arith, low, count_is (ends.0) base (subst (λ (l : List Event). Chain l base) ends.1 sound.chain) f, ap (λ (l : List Event). length (replay l base f)) (sym ends.1)) in
    content_block counts stored f b under ∙ sound.stands f b low (ap (λ (l : List Event). last_after f b (after_last is_control l)) ends.1 ∙ ap (λ (l : List Event). last_after f b l) (none_after (ends.0))))
  where
    ends_with : (xs : List Event) → (ys : List Event) × (from_control (xs ++ control n next counts described ∷ []) ≡ ys ++ control n next counts described ∷ [])
    ends_with [] = ([], refl)
    ends_with (change f b before after ∷ xs) = ends_with xs
    ends_with (quiet m ∷ xs) = ends_with xs
    ends_with (control m later k d ∷ xs) = (control m later k d ∷ xs, refl)
    ends_with (begin m how ∷ xs) = ends_with xs

    count_is : (ys : List Event) (c : AllBlocks) → Chain (ys ++ control n next counts described ∷ []) c → (f : ℕ) → counts f ≡ length (replay (ys ++ control n next counts described ∷ []) c f)
    count_is [] c chain f = chain.0 f
    count_is (change g b before after ∷ ys) c chain f = count_is ys _ chain.1 f
    count_is (quiet m ∷ ys) c chain f = count_is ys c chain f
    count_is (control m later k d ∷ ys) c chain f = count_is ys c chain.1 f
    count_is (begin m how ∷ ys) c chain f = absurd chain

    some_last : (ys : List Event) → has is_control (ys ++ control n next counts described ∷ []) ≡ true
    some_last [] = refl
    some_last (y ∷ ys) = ap (λ t. is_control y || t) (some_last ys) ∙ or_yes (is_control y)
      where
        or_yes : (b : Bool) → b || true ≡ true
        or_yes true = refl
        or_yes false = refl

    none_after : (ys : List Event) → after_last is_control (ys ++ control n next counts described ∷ []) ≡ []
    none_after [] = refl
    none_after (y ∷ ys) = ap (λ t. cond (is_control y || t) (after_last is_control (ys ++ control n next counts described ∷ [])) (y ∷ (ys ++ control n next counts described ∷ []))) (some_last ys) ∙ or_cut (is_control y) ∙ none_after ys
      where
        or_cut : (b : Bool) → cond (b || true) (after_last is_control (ys ++ control n next counts described ∷ [])) (y ∷ (ys ++ control n next counts described ∷ [])) ≡ after_last is_control (ys ++ control n next counts described ∷ [])
        or_cut true = refl
        or_cut false = refl

-- ---- what one block seals

seals : (es : List Event) (dumps : Dumps) (h : History) (base : AllBlocks) (stored : Stored) → h.pending ≡ None → has is_control h.live ≡ true → Sound (from_control h.live) base stored
    → Chain (from_control h.live ++ es) base → has is_control es ≡ false
    → ((history_from h es).live ≡ h.live ++ es) × ((history_from h es).pending ≡ None) × Sound (from_control (history_from h es).live) base stored
seals [] dumps h base stored none found sound chain off = (sym (append_none h.live), none, sound)
seals (change f b before after ∷ es) dumps h base stored none found sound chain off =
    let e = change f b before after in
    let all = from_control h.live in
    let split : from_control (h.live ++ e ∷ []) ≡ all ++ e ∷ [] = (opening_append h.live (e ∷ []) found).1 in
    let one : Sound (all ++ e ∷ []) base stored = changes all base stored f b before after sound ((chain_split all (e ∷ es) base chain).1.0) in
    let rest = seals es dumps (after_event h e) base stored none (has_append is_control h.live (e ∷ []) ∙ true_or (has is_control h.live) false found)
    (subst (λ (l : List Event). Sound l base stored) (sym split) one)
    (subst (λ (l : List Event). Chain l base) (sym (append_assoc all (e ∷ []) es) ∙ ap (λ (l : List Event). l ++ es) (sym split)) chain) off in
    (rest.0 ∙ append_assoc h.live (e ∷ []) es, rest.1, rest.2)
seals (quiet n ∷ es) dumps h base stored none found sound chain off =
    let e = quiet n in
    let all = from_control h.live in
    let split : from_control (h.live ++ e ∷ []) ≡ all ++ e ∷ [] = (opening_append h.live (e ∷ []) found).1 in
    let rest = seals es dumps (after_event h e) base stored none (has_append is_control h.live (e ∷ []) ∙ true_or (has is_control h.live) false found)
    (subst (λ (l : List Event). Sound l base stored) (sym split) (quiets all base stored n sound))
    (subst (λ (l : List Event). Chain l base) (sym (append_assoc all (e ∷ []) es) ∙ ap (λ (l : List Event). l ++ es) (sym split)) chain) off in
    (rest.0 ∙ append_assoc h.live (e ∷ []) es, rest.1, rest.2)
seals (control n next counts described ∷ es) dumps h base stored none found sound chain off = absurd (true≢false off)
seals (begin n how ∷ es) dumps h base stored none found sound chain off = absurd ((chain_split (from_control h.live) (begin n how ∷ es) base chain).1)

pub seals_run : SealsRun
seals_run dumps h base stored es none found steady chain off =
    let rest = seals es dumps h base stored none found (subst (λ (s : Stored). Sound (from_control h.live) base s) (here_unpending dumps h stored none) steady.sound) chain off in
    record { live = rest.0; none = rest.1; steady = steady_of dumps (history_from h es) base stored rest.1 rest.2 }
