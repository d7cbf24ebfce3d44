-- The content at each live point is what the entries tell.
use Rattle.std.proofs.Common.{ℕ, ◌<◌, ◌≡◌, ◌||◌, ◌⊎◌, inl, inr, Bool, true, false, cond, List, [], ◌∷◌, ◌++◌, length, None, refl, sym, ◌∙◌, ap, subst, arith, append_assoc}
use Rattle.std.proofs.lemmas.List.FromFn.{fill_by_all}
use Rattle.std.proofs.lemmas.Bool.{cases_Bool}
use Rattle.dms_history.specs.Events.{AllBlocks, Event, change, quiet, control, begin, block_in}
use Rattle.dms_history.specs.Replay.{Chain, replay, with_block}
use Rattle.dms_history.specs.Images.{last_after, choice}
use Rattle.dms_history.specs.Lists.{has, until_last, after_last, until_first, after_first}
use Rattle.dms_history.specs.Places.{is_control, is_point}
use Rattle.dms_history.specs.Pick.{reached_count, count_at, pick, content_of, blocks_at}
use Rattle.dms_history.specs.LawsOfPoints.{EachPoint}
use Rattle.dms_history.proofs.Counts.{reached_any, chain_reached}
use Rattle.dms_history.proofs.Picks.{choice_gives_content, chain_split, or_none, last_append, none_stands, replay_length}

split_last_case : (b : Bool) (e : Event) (es front from_control : List Event) → front ++ from_control ≡ es → cond b (e ∷ front) [] ++ cond b from_control (e ∷ es) ≡ e ∷ es
split_last_case true e es front from_control rest = ap (λ (l : List Event). e ∷ l) rest
split_last_case false e es front from_control rest = refl

pub split_last : (p : Event → Bool) (es : List Event) → until_last p es ++ after_last p es ≡ es
split_last p [] = refl
split_last p (e ∷ es) = split_last_case (has p (e ∷ es)) e es (until_last p es) (after_last p es) (split_last p es)

split_first_case : (b c : Bool) (e : Event) (es front from_control : List Event) → b || c ≡ true → (c ≡ true → front ++ from_control ≡ es) → cond b (e ∷ []) (cond c (e ∷ front) []) ++ cond b es from_control ≡ e ∷ es
split_first_case true c e es front from_control found rest = refl
split_first_case false true e es front from_control found rest = ap (λ (l : List Event). e ∷ l) (rest refl)
split_first_case false false e es front from_control found rest = absurd (false_is_true found)
  where
    false_is_true : false ≡ true → ⊥
    false_is_true e = absurd cc

pub split_first : (p : Event → Bool) (es : List Event) → has p es ≡ true → until_first p es ++ after_first p es ≡ es
split_first p [] found = absurd cc
split_first p (e ∷ es) found = split_first_case (p e) (has p es) e es (until_first p es) (after_first p es) found (λ more. split_first p es more)

has_until : (p : Event → Bool) (es : List Event) → has p (until_last p es) ≡ has p es
has_until p [] = refl
has_until p (e ∷ es) = elim (cases_Bool (has p (e ∷ es))) [
  | inl durable ↦ ap (λ b. has p (cond b (e ∷ until_last p es) [])) durable ∙ ap (λ b. p e || b) (has_until p es)
  | inr off ↦ ap (λ b. has p (cond b (e ∷ until_last p es) [])) off ∙ sym off
]

or_left : (b c d : Bool) → b || c ≡ true → c ≡ true ⊎ (b ≡ true)
or_left true c d e = inr refl
or_left false c d e = inl e

pub true_or : (b c : Bool) → b ≡ true → b || c ≡ true
true_or true c e = refl
true_or false c e = absurd cc

pub or_true_right : (b c : Bool) → c ≡ true → b || c ≡ true
or_true_right true c e = refl
or_true_right false c e = e

has_append_left : (p : Event → Bool) (xs ys : List Event) → has p xs ≡ true → has p (xs ++ ys) ≡ true
has_append_left p [] ys found = absurd cc
has_append_left p (e ∷ xs) ys found = elim (or_left (p e) (has p xs) true found) [
  | inl more ↦ or_true_right (p e) (has p (xs ++ ys)) (has_append_left p xs ys more)
  | inr here ↦ true_or (p e) (has p (xs ++ ys)) here
]

pub suffix_none : (p : Event → Bool) (es : List Event) (f b : ℕ) → last_after f b es ≡ None → last_after f b (after_last p es) ≡ None
suffix_none p es f b none =
    (or_none (last_after f b (after_last p es)) (last_after f b (until_last p es)) (sym (last_append (until_last p es) (after_last p es) f b) ∙ ap (λ (l : List Event). last_after f b l) (split_last p es) ∙ none)).0

-- behind the last Control of a prefix that ends with one
after_front : (p : Event → Bool) (xs ys : List Event) (f b : ℕ) → last_after f b ys ≡ None → last_after f b (after_last p (until_last p xs ++ ys)) ≡ None
after_front p [] ys f b none = suffix_none p ys f b none
after_front p (e ∷ xs) ys f b none = elim (cases_Bool (has p (e ∷ xs))) [
  | inl durable ↦
      let found : has p (e ∷ (until_last p xs ++ ys)) ≡ true =
      has_append_left p (e ∷ until_last p xs) ys (ap (λ c. p e || c) (has_until p xs) ∙ durable) in
      ap (λ c. last_after f b (after_last p (cond c (e ∷ until_last p xs) [] ++ ys))) durable
      ∙ ap (λ c. last_after f b (cond c (after_last p (until_last p xs ++ ys)) (e ∷ (until_last p xs ++ ys)))) found
      ∙ after_front p xs ys f b none
  | inr off ↦ ap (λ c. last_after f b (after_last p (cond c (e ∷ until_last p xs) [] ++ ys))) off ∙ suffix_none p ys f b none
]

pub no_front : (p : Event → Bool) (es : List Event) → has p es ≡ false → until_last p es ≡ []
no_front p [] off = refl
no_front p (e ∷ es) off = ap (λ c. cond c (e ∷ until_last p es) []) off

pub or_no : (b c : Bool) → b || c ≡ false → (b ≡ false) × (c ≡ false)
or_no true c e = absurd cc
or_no false c e = (refl, e)

pub replay_append : (xs ys : List Event) (c : AllBlocks) → replay (xs ++ ys) c ≡ replay ys (replay xs c)
replay_append [] ys c = refl
replay_append (change g b before after ∷ xs) ys c = replay_append xs ys (with_block c g b after)
replay_append (quiet n ∷ xs) ys c = replay_append xs ys c
replay_append (control n next counts described ∷ xs) ys c = replay_append xs ys c
replay_append (begin n how ∷ xs) ys c = replay_append xs ys c

pub each_point : EachPoint
unfolding blocks_at content_of count_at choice pick
each_point entries base stored n sound found from_control =
    let before = until_first (is_point n) entries in
    let late = after_first (is_point n) entries in
    let front = until_last is_control before in
    let mid = after_last is_control before in
    let start = replay front base in
    let halves : before ++ late ≡ entries = split_first (is_point n) entries found in
    let parts : front ++ mid ≡ before = split_last is_control before in
    let whole : front ++ (mid ++ late) ≡ entries = sym (append_assoc front mid late) ∙ ap (λ (l : List Event). l ++ late) parts ∙ halves in
    let chain : Chain (front ++ (mid ++ late)) base = subst (λ (l : List Event). Chain l base) (sym whole) sound.chain in
    let split = chain_split front (mid ++ late) base chain in
    let behind_chain : Chain (mid ++ late) start = split.1 in
    let mid_chain = (chain_split mid late start behind_chain).0 in
    let before_chain : Chain before base = (chain_split before late base (subst (λ (l : List Event). Chain l base) (sym halves) sound.chain)).0 in
    let now : replay entries base ≡ replay (mid ++ late) start = ap (λ (l : List Event). replay l base) (sym whole) ∙ replay_append front (mid ++ late) base in
    let there : replay before base ≡ replay mid start = ap (λ (l : List Event). replay l base) (sym parts) ∙ replay_append front mid base in
    let kept : (f b : ℕ) → b < length (start f) → last_after f b (mid ++ late) ≡ None → stored f b ≡ block_in start f b =
    λ f b low none.
    let long : b < length (replay (mid ++ late) start f) = omega (arith, low, replay_length (mid ++ late) start f behind_chain) in
    let quiet_now : last_after f b (after_last is_control entries) ≡ None =
    ap (λ (l : List Event). last_after f b (after_last is_control l)) (sym whole) ∙ after_front is_control before (mid ++ late) f b none in
    sound.stands f b (subst (λ (c : AllBlocks). b < length (c f)) (sym now) long) quiet_now
    ∙ ap (λ (c : AllBlocks). block_in c f b) now
    ∙ (none_stands (mid ++ late) start f b behind_chain none long).1 in
    let count : (f : ℕ) → reached_count f 0 before ≡ length (replay mid start f) =
    λ f. reached_any before f 0 (length (base f)) from_control ∙ chain_reached before base f before_chain ∙ ap (λ (c : AllBlocks). length (c f)) there in
    (λ i f. sym (fill_by_all (choice mid late stored f) (replay mid start f) (reached_count f 0 before) [] (sym (count f))
    (λ k low. sym (choice_gives_content mid late start stored behind_chain kept f k (omega (arith, low, count f))))) i)
    ∙ sym there
