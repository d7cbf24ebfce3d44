-- Ranges as changes.
use Rattle.std.proofs.Common.{ℕ, ◌≡◌, ◌||◌, inl, inr, Bool, true, false, cond, List, [], ◌∷◌, ◌++◌, map, Option, Some, None, refl, sym, ◌∙◌, ap, subst, append_assoc}
use Rattle.std.proofs.lemmas.Bool.{cases_Bool, true≢false}
use Rattle.dms_history.specs.Events.{BlockBytes, Event, change, quiet, control, begin, block_in}
use Rattle.dms_history.specs.Images.{is_at, or_else, last_after}
use Rattle.dms_history.specs.Replay.{replay, with_block}
use Rattle.dms_history.specs.Lists.{has, until_first}
use Rattle.dms_history.specs.Places.{is_point}
use Rattle.dms_history.specs.Base.{Sound}
use Rattle.dms_history.specs.History.{History, after_event, history_from, history}
use Rattle.dms_history.specs.Ranges.{Logged, event, range, patch_bytes, range_change, changes_of, changes_from, all_changes, events_from, told_events, is_point_logged, live_step, live_logged, is_image}
use Rattle.dms_history.specs.LawsOfRanges.{NoRanges, LiveOfRanges, LeftOut, RangeChanges}
use Rattle.dms_history.proofs.Cuts.{until_none}
use Rattle.dms_history.proofs.Picks.{place_cases, if_none, or_none, last_append, last_stands}
use Rattle.dms_history.proofs.AtPoints.{replay_append, or_true_right, true_or, or_no}
use Rattle.dms_history.proofs.Runs.{changes}
use Rattle.dms_history.proofs.Base.{has_append}
use Rattle.dms_history.proofs.Converse.{logged_below}
use Rattle.dms_history.proofs.Order.{append_none}

pub range_changes : RangeChanges
range_changes entries base stored f b place bytes old sound last =
    let e = change f b (Some old) (patch_bytes place bytes old) in
    let is : changes_of entries (range f b place bytes) ≡ e ∷ [] = ap (λ o. range_change f b place bytes o) last in
    let low = logged_below entries base f b old sound.chain last in
    let stands : old ≡ block_in (replay entries base) f b = sym (last_stands entries base f b old sound.chain last) in (
      subst (λ (l : List Event). Sound (entries ++ l) base stored) (sym is) (changes entries base stored f b (Some old) (patch_bytes place bytes old) sound (low, stands)),
      ap (λ (l : List Event). replay (entries ++ l) base) is ∙ replay_append entries (e ∷ []) base ∙ ap (λ x. with_block (replay entries base) f b (patch_bytes place bytes x)) stands,
    )

changes_of_events : (es acc : List Event) → changes_from acc (map event es) ≡ acc ++ es
changes_of_events [] acc = sym (append_none acc)
changes_of_events (e ∷ es) acc = changes_of_events es (acc ++ e ∷ []) ∙ append_assoc acc (e ∷ []) es

pub no_ranges : NoRanges
unfolding all_changes
no_ranges es = changes_of_events es []

pub some_not_none : {A : Type 0} (x : A) → Some x ≡ None → ⊥
some_not_none x e = absurd cc

-- ---- cuts

changes_more : (xs : List Logged) (acc : List Event) (x : Logged) → changes_from acc (xs ++ x ∷ []) ≡ changes_from acc xs ++ changes_of (changes_from acc xs) x
changes_more [] acc x = refl
changes_more (y ∷ xs) acc x = changes_more xs (acc ++ changes_of acc y) x

pub changes_tail : (xs : List Logged) (acc : List Event) → (zs : List Event) × (changes_from acc xs ≡ acc ++ zs)
changes_tail [] acc = ([], sym (append_none acc))
changes_tail (x ∷ xs) acc = let r = changes_tail xs (acc ++ changes_of acc x) in (changes_of acc x ++ r.0, r.1 ∙ append_assoc acc (changes_of acc x) r.0)

range_none : (n f b place : ℕ) (bytes : List ℕ) (o : Option BlockBytes) → has (is_point n) (range_change f b place bytes o) ≡ false
range_none n f b place bytes None = refl
range_none n f b place bytes (Some old) = refl

change_has : (n : ℕ) (acc : List Event) (x : Logged) → has (is_point n) (changes_of acc x) ≡ is_point_logged n x
change_has n acc (event e) = or_nothing (is_point n e)
  where
    or_nothing : (b : Bool) → b || false ≡ b
    or_nothing true = refl
    or_nothing false = refl
change_has n acc (range f b place bytes) = range_none n f b place bytes (last_after f b acc)

or_false : (a b : Bool) → a ≡ false → b ≡ false → a || b ≡ false
or_false true b one two = one
or_false false b one two = two

pub until_at : (p : Event → Bool) (acc : List Event) (e : Event) (zs : List Event) → has p acc ≡ false → p e ≡ true → until_first p (acc ++ e ∷ zs) ≡ acc ++ e ∷ []
until_at p [] e zs off on = ap (λ k. cond k (e ∷ []) (cond (has p zs) (e ∷ until_first p zs) [])) on
until_at p (x ∷ acc) e zs off on =
    let both = or_no (p x) (has p acc) off in
    let found : has p (acc ++ e ∷ zs) ≡ true = has_append p acc (e ∷ zs) ∙ or_true_right (has p acc) (p e || has p zs) (true_or (p e) (has p zs) on) in
    (λ i. cond (both.0 i) (x ∷ []) (cond (found i) (x ∷ until_first p (acc ++ e ∷ zs)) [])) ∙ ap (λ (l : List Event). x ∷ l) (until_at p acc e zs both.1 on)

changes_has : (n : ℕ) (xs : List Logged) (acc : List Event) → has (is_point n) (changes_from acc xs) ≡ (has (is_point n) acc || has (is_point_logged n) xs)
changes_has n [] acc = sym (or_nothing (has (is_point n) acc))
  where
    or_nothing : (b : Bool) → b || false ≡ b
    or_nothing true = refl
    or_nothing false = refl
changes_has n (x ∷ xs) acc =
    changes_has n xs (acc ++ changes_of acc x)
    ∙ ap (λ k. k || has (is_point_logged n) xs) (has_append (is_point n) acc (changes_of acc x) ∙ ap (λ k. has (is_point n) acc || k) (change_has n acc x))
    ∙ or_assoc (has (is_point n) acc) (is_point_logged n x) (has (is_point_logged n) xs)
  where
    or_assoc : (a b c : Bool) → ((a || b) || c) ≡ (a || (b || c))
    or_assoc true b c = refl
    or_assoc false b c = refl

point_head : (n : ℕ) (x : Logged) → is_point_logged n x ≡ true → (e : Event) × (x ≡ event e) × (is_point n e ≡ true)
point_head n (event e) on = (e, refl, on)
point_head n (range f b place bytes) on = absurd (true≢false (sym on))

changes_cut : (n : ℕ) (xs : List Logged) (acc : List Event) → has (is_point n) acc ≡ false → has (is_point_logged n) xs ≡ true → changes_from acc (until_first (is_point_logged n) xs) ≡ until_first (is_point n) (changes_from acc xs)
changes_cut n [] acc off found = absurd (true≢false (sym found))
changes_cut n (x ∷ xs) acc off found = elim (cases_Bool (is_point_logged n x)) [
  | inl on ↦
      let r = point_head n x on in
      ap (λ k. changes_from acc (cond k (x ∷ []) (cond (has (is_point_logged n) xs) (x ∷ until_first (is_point_logged n) xs) []))) on
      ∙ ap (λ y. acc ++ changes_of acc y) r.1 ∙ ends r.0 r.2 ∙ ap (λ y. until_first (is_point n) (changes_from (acc ++ changes_of acc y) xs)) (sym r.1)
  | inr none ↦
      let more : has (is_point_logged n) xs ≡ true = ap (λ k. k || has (is_point_logged n) xs) (sym none) ∙ found in
      (λ i. changes_from acc (cond (none i) (x ∷ []) (cond (more i) (x ∷ until_first (is_point_logged n) xs) [])))
      ∙ changes_cut n xs (acc ++ changes_of acc x) (has_append (is_point n) acc (changes_of acc x) ∙ or_false (has (is_point n) acc) (has (is_point n) (changes_of acc x)) off (change_has n acc x ∙ none)) more
]
  where
    -- the head as a point
    ends : (e : Event) → is_point n e ≡ true → acc ++ e ∷ [] ≡ until_first (is_point n) (changes_from (acc ++ e ∷ []) xs)
    ends e on =
        let r = changes_tail xs (acc ++ e ∷ []) in
        sym (ap (λ (l : List Event). until_first (is_point n) l) (r.1 ∙ append_assoc acc (e ∷ []) r.0) ∙ until_at (is_point n) acc e r.0 off on)

entry_none : (p : Logged → Bool) (xs : List Logged) → has p xs ≡ false → until_first p xs ≡ []
entry_none p [] off = refl
entry_none p (x ∷ xs) off = let both = or_no (p x) (has p xs) off in λ i. cond (both.0 i) (x ∷ []) (cond (both.1 i) (x ∷ until_first p xs) [])

pub changes_until : (n : ℕ) (xs : List Logged) → all_changes (until_first (is_point_logged n) xs) ≡ until_first (is_point n) (all_changes xs)
unfolding all_changes
changes_until n xs = elim (cases_Bool (has (is_point_logged n) xs)) [
  | inl found ↦ changes_cut n xs [] refl found
  | inr none ↦ ap (λ (l : List Logged). changes_from [] l) (entry_none (is_point_logged n) xs none) ∙ sym (until_none (is_point n) (changes_from [] xs) (changes_has n xs [] ∙ none))
]

pub changes_push : (xs : List Logged) (x : Logged) → all_changes (xs ++ x ∷ []) ≡ all_changes xs ++ changes_of (all_changes xs) x
unfolding all_changes
changes_push xs x = changes_more xs [] x

-- ---- the live changes

pub history_append : (xs ys : List Event) (t : History) → history_from t (xs ++ ys) ≡ history_from (history_from t xs) ys
history_append [] ys t = refl
history_append (x ∷ xs) ys t = history_append xs ys (after_event t x)

history_changed : (t : History) (f b place : ℕ) (bytes : List ℕ) (o : Option BlockBytes) → (history_from t (range_change f b place bytes o)).live ≡ t.live ++ range_change f b place bytes o
history_changed t f b place bytes None = sym (append_none t.live)
history_changed t f b place bytes (Some old) = refl

live_same : (t : History) (xs : List Logged) (x : Logged) → t.live ≡ all_changes xs → (history_from t (changes_of t.live x)).live ≡ all_changes (live_step xs x)
live_same t xs (event (change f b before after)) is = ap (λ (l : List Event). l ++ change f b before after ∷ []) is ∙ sym (changes_push xs (event (change f b before after)))
live_same t xs (event (quiet n)) is = ap (λ (l : List Event). l ++ quiet n ∷ []) is ∙ sym (changes_push xs (event (quiet n)))
live_same t xs (event (control n next counts described)) is = ap (λ (l : List Event). l ++ control n next counts described ∷ []) is ∙ sym (changes_push xs (event (control n next counts described)))
live_same t xs (event (begin n how)) is = ap (λ (l : List Event). until_first (is_point n) l) is ∙ sym (changes_until n xs)
live_same t xs (range f b place bytes) is =
    history_changed t f b place bytes (last_after f b t.live) ∙ ap (λ (l : List Event). l ++ changes_of l (range f b place bytes)) is ∙ sym (changes_push xs (range f b place bytes))

live_all : (xs live : List Logged) (t : History) → t.live ≡ all_changes live → (history_from t (events_from t xs)).live ≡ all_changes (live_logged live xs)
live_all [] live t is = is
live_all (x ∷ xs) live t is =
    ap (λ (u : History). u.live) (history_append (changes_of t.live x) (events_from (history_from t (changes_of t.live x)) xs) t)
    ∙ live_all xs (live_step live x) (history_from t (changes_of t.live x)) (live_same t live x is)

pub live_of_ranges : LiveOfRanges
unfolding told_events history all_changes
live_of_ranges xs = live_all xs [] (record { live = []; pending = None }) refl

-- ---- what is left out

change_none : (f b : ℕ) (acc : List Event) (x : Logged) → last_after f b acc ≡ None → is_image f b x ≡ false → last_after f b (changes_of acc x) ≡ None
change_none f b acc (event (change g k before after)) none off = ap (λ t. cond t (Some after) None) off
change_none f b acc (event (quiet n)) none off = refl
change_none f b acc (event (control n next counts described)) none off = refl
change_none f b acc (event (begin n how)) none off = refl
change_none f b acc (range g k place bytes) none off = go (last_after g k acc) refl
  where
    go : (o : Option BlockBytes) → last_after g k acc ≡ o → last_after f b (range_change g k place bytes o) ≡ None
    go None is = refl
    go (Some old) is = elim (place_cases f b g k) [
      | inl at ↦ absurd (some_not_none old (sym is ∙ (λ i. last_after (at.0 i) (at.1 i) acc) ∙ none))
      | inr apart ↦ ap (λ t. cond t (Some (patch_bytes place bytes old)) None) apart.1
    ]

image_none : (f b : ℕ) (acc : List Event) (x : Logged) → last_after f b (changes_of acc x) ≡ None → is_image f b x ≡ false
image_none f b acc (event (change g k before after)) none = if_none (is_at f b g k) after none
image_none f b acc (event (quiet n)) none = refl
image_none f b acc (event (control n next counts described)) none = refl
image_none f b acc (event (begin n how)) none = refl
image_none f b acc (range g k place bytes) none = refl

out_left : (f b : ℕ) (xs : List Logged) (acc : List Event) → last_after f b acc ≡ None → has (is_image f b) xs ≡ false → last_after f b (changes_from acc xs) ≡ None
out_left f b [] acc none off = none
out_left f b (x ∷ xs) acc none off =
    let both = or_no (is_image f b x) (has (is_image f b) xs) off in
    out_left f b xs (acc ++ changes_of acc x) (last_append acc (changes_of acc x) f b ∙ (λ i. or_else (change_none f b acc x none both.0 i) (none i))) both.1

pub out_right : (f b : ℕ) (xs : List Logged) (acc : List Event) → last_after f b (changes_from acc xs) ≡ None → (last_after f b acc ≡ None) × (has (is_image f b) xs ≡ false)
out_right f b [] acc none = (none, refl)
out_right f b (x ∷ xs) acc none =
    let more = out_right f b xs (acc ++ changes_of acc x) none in
    let both = or_none (last_after f b (changes_of acc x)) (last_after f b acc) (sym (last_append acc (changes_of acc x) f b) ∙ more.0) in
    (both.1, or_false (is_image f b x) (has (is_image f b) xs) (image_none f b acc x both.0) more.1)

pub left_out : LeftOut
unfolding all_changes
left_out xs f b = (λ off. out_left f b xs [] refl off, λ none. (out_right f b xs [] none).1)
