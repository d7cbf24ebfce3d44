-- What entries with Ranges tell of one block, by its last Image and the Ranges behind it, and entries behind the last Control.
use Rattle.std.specs.Prelude.{◌||◌, option_map, if◌then◌else◌}
use Rattle.std.proofs.Common.{ℕ, ◌≡◌, inl, inr, Bool, true, false, cond, List, [], ◌∷◌, ◌++◌, Option, Some, None, refl, sym, ◌∙◌, ap, subst}
use Rattle.std.proofs.lemmas.Bool.{cases_Bool, true≢false}
use Rattle.dms_history.specs.Events.{BlockBytes, Counts, Event, change, quiet, control, begin}
use Rattle.dms_history.specs.Images.{is_at, or_else, last_after}
use Rattle.dms_history.specs.Lists.{has, until_first, after_first, after_last}
use Rattle.dms_history.specs.Places.{is_control}
use Rattle.dms_history.specs.Pick.{reached_count}
use Rattle.dms_history.specs.Ranges.{Logged, event, range, patch_bytes, range_change, changes_of, changes_from, all_changes, is_control_logged, is_image}
use Rattle.dms_history.specs.LawsOfRanges.{HasImages}
use Rattle.dms_history.proofs.Picks.{place_cases, last_append}
use Rattle.dms_history.proofs.AtPoints.{or_no}
use Rattle.dms_history.proofs.Base.{has_append}
use Rattle.dms_history.proofs.Counts.{reached_append}
use Rattle.dms_history.proofs.Splits.{ranges_split}
use Rattle.dms_restore.specs.LiveEntries.{own_events}

-- block b of file f after some entries, where it was this before them: an Image has it whole, a Range lays its bytes over it
abbrev pub patched_by : ℕ → ℕ → Option BlockBytes → Logged → Option BlockBytes
patched_by f b o (event (change g k before after)) = if is_at f b g k then Some after else o
patched_by f b o (event (quiet n)) = o
patched_by f b o (event (control n next counts described)) = o
patched_by f b o (event (begin n how)) = o
patched_by f b o (range g k place bytes) = if is_at f b g k then option_map (patch_bytes place bytes) o else o

abbrev pub patched : ℕ → ℕ → Option BlockBytes → List Logged → Option BlockBytes
patched f b o [] = o
patched f b o (x ∷ xs) = patched f b (patched_by f b o x) xs

-- ---- the last block

either : (t : Bool) (x : BlockBytes) (o : Option BlockBytes) → or_else (or_else None (cond t (Some x) None)) o ≡ cond t (Some x) o
either true x o = refl
either false x o = refl

range_last : (f b g k place : ℕ) (bytes : List ℕ) (live : List Event) → last_after f b (live ++ range_change g k place bytes (last_after g k live)) ≡ patched_by f b (last_after f b live) (range g k place bytes)
range_last f b g k place bytes live = elim (place_cases f b g k) [
  | inl at ↦ (λ i. last_after f b (live ++ range_change g k place bytes (last_after (at.0 i) (at.1 i) live))) ∙ here (last_after f b live) refl at.2
  | inr apart ↦ there (last_after g k live) apart.1 ∙ sym (ap (λ t. cond t (option_map (patch_bytes place bytes) (last_after f b live)) (last_after f b live)) apart.1)
]
  where
    there : (o : Option BlockBytes) → is_at f b g k ≡ false → last_after f b (live ++ range_change g k place bytes o) ≡ last_after f b live
    there None off = last_append live [] f b
    there (Some old) off =
        last_append live (range_change g k place bytes (Some old)) f b
        ∙ either (is_at f b g k) (patch_bytes place bytes old) (last_after f b live) ∙ ap (λ t. cond t (Some (patch_bytes place bytes old)) (last_after f b live)) off

    here : (o : Option BlockBytes) → last_after f b live ≡ o → is_at f b g k ≡ true → last_after f b (live ++ range_change g k place bytes o) ≡ cond (is_at f b g k) (option_map (patch_bytes place bytes) o) o
    here None none on = last_append live [] f b ∙ none ∙ sym (ap (λ t. cond t None None) on)
    here (Some old) some on =
        last_append live (range_change g k place bytes (Some old)) f b ∙ either (is_at f b g k) (patch_bytes place bytes old) (last_after f b live)
        ∙ (λ i. cond (on i) (Some (patch_bytes place bytes old)) (last_after f b live)) ∙ sym (ap (λ t. cond t (Some (patch_bytes place bytes old)) (Some old)) on)

pub one_last : (f b : ℕ) (live : List Event) (x : Logged) → last_after f b (live ++ changes_of live x) ≡ patched_by f b (last_after f b live) x
one_last f b live (event (change g k before after)) = last_append live (change g k before after ∷ []) f b ∙ either (is_at f b g k) after (last_after f b live)
one_last f b live (event (quiet n)) = last_append live (quiet n ∷ []) f b
one_last f b live (event (control n next counts described)) = last_append live (control n next counts described ∷ []) f b
one_last f b live (event (begin n how)) = last_append live (begin n how ∷ []) f b
one_last f b live (range g k place bytes) = range_last f b g k place bytes live

last_from : (f b : ℕ) (xs : List Logged) (live : List Event) → last_after f b (changes_from live xs) ≡ patched f b (last_after f b live) xs
last_from f b [] live = refl
last_from f b (x ∷ xs) live = last_from f b xs (live ++ changes_of live x) ∙ ap (λ o. patched f b o xs) (one_last f b live x)

-- The last block that entries tell: its last Image with the Ranges behind it.
pub last_is_patched : (xs : List Logged) (f b : ℕ) → last_after f b (all_changes xs) ≡ patched f b None xs
unfolding all_changes
last_is_patched xs f b = last_from f b xs []

-- ---- one entry more

pub has_more : (p : Logged → Bool) (xs : List Logged) (x : Logged) → has p (xs ++ x ∷ []) ≡ (has p xs || p x)
has_more p [] x = ap (λ k. k) (or_false (p x))
  where
    or_false : (b : Bool) → b || false ≡ b
    or_false true = refl
    or_false false = refl
has_more p (y ∷ xs) x = ap (λ k. p y || k) (has_more p xs x) ∙ or_assoc (p y) (has p xs) (p x)
  where
    or_assoc : (a b c : Bool) → (a || (b || c)) ≡ ((a || b) || c)
    or_assoc true b c = refl
    or_assoc false b c = refl

-- behind the last Control there is one entry more
pub behind_more : (xs : List Logged) (x : Logged) → is_control_logged x ≡ false → after_last is_control_logged (xs ++ x ∷ []) ≡ after_last is_control_logged xs ++ x ∷ []
behind_more [] x off = ap (λ k. cond (k || false) [] (x ∷ [])) off
behind_more (y ∷ xs) x off =
    let same : has is_control_logged (xs ++ x ∷ []) ≡ has is_control_logged xs = has_more is_control_logged xs x ∙ ap (λ k. has is_control_logged xs || k) off ∙ or_false (has is_control_logged xs) in
    (λ i. cond (is_control_logged y || same i) (behind_more xs x off i) (y ∷ (xs ++ x ∷ []))) ∙ sym (pushed (is_control_logged y || has is_control_logged xs) (after_last is_control_logged xs) (y ∷ xs))
  where
    or_false : (b : Bool) → b || false ≡ b
    or_false true = refl
    or_false false = refl

    pushed : (t : Bool) (us vs : List Logged) → cond t us vs ++ x ∷ [] ≡ cond t (us ++ x ∷ []) (vs ++ x ∷ [])
    pushed true us vs = refl
    pushed false us vs = refl

-- no Image itself of the block stands behind the last Control
abbrev pub NoImage : ℕ → ℕ → List Logged → Type 0
NoImage f b xs = has (is_image f b) (after_last is_control_logged xs) ≡ false

pub no_behind : (f b : ℕ) (xs : List Logged) (x : Logged) → is_control_logged x ≡ true → NoImage f b (xs ++ x ∷ [])
no_behind f b xs x on = ap (λ (l : List Logged). has (is_image f b) l) (nothing xs)
  where
    nothing : (l : List Logged) → after_last is_control_logged (l ++ x ∷ []) ≡ []
    nothing [] = ap (λ k. cond (k || false) [] (x ∷ [])) on
    nothing (y ∷ l) =
        let found : has is_control_logged (l ++ x ∷ []) ≡ true = has_more is_control_logged l x ∙ ap (λ k. has is_control_logged l || k) on ∙ or_true (has is_control_logged l) in
        (λ i. cond (is_control_logged y || found i) (nothing l i) (y ∷ (l ++ x ∷ []))) ∙ ap (λ k. cond k [] (y ∷ (l ++ x ∷ []))) (or_true (is_control_logged y))
      where
        or_true : (b : Bool) → b || true ≡ true
        or_true true = refl
        or_true false = refl

-- ---- behind the last Control

or_no_right : (a : Bool) → a || false ≡ a
or_no_right true = refl
or_no_right false = refl

logged_head : (x : Logged) → is_control_logged x ≡ true → (n : ℕ) × (next : ℕ) × (counts : Counts) × (described : Bool) × (x ≡ event (control n next counts described))
logged_head (event (change f b before after)) on = absurd (true≢false (sym on))
logged_head (event (quiet n)) on = absurd (true≢false (sym on))
logged_head (event (control n next counts described)) on = (n, next, counts, described, refl)
logged_head (event (begin n how)) on = absurd (true≢false (sym on))
logged_head (range f b place bytes) on = absurd (true≢false (sym on))

pub last_none : {A : Type 0} (p : A → Bool) (xs : List A) → has p xs ≡ false → after_last p xs ≡ xs
last_none p [] off = refl
last_none p (x ∷ xs) off = ap (λ k. cond k (after_last p xs) (x ∷ xs)) off

-- a list at its last Control
pub record AtControl (ls late : List Logged) : Type 0 where
  pub front : List Logged
  pub number : ℕ
  pub next : ℕ
  pub counts : Counts
  pub described : Bool
  pub are : ls ≡ front ++ event (control number next counts described) ∷ late
  pub none : has is_control_logged late ≡ false

pub at_control : (ls : List Logged) → has is_control_logged ls ≡ true → AtControl ls (after_last is_control_logged ls)
at_control [] found = absurd (true≢false (sym found))
at_control (x ∷ ls) found = elim (cases_Bool (has is_control_logged ls)) [
  | inl more ↦
      let r = at_control ls more in
      let same : after_last is_control_logged (x ∷ ls) ≡ after_last is_control_logged ls = ap (λ k. cond k (after_last is_control_logged ls) (x ∷ ls)) found in
      subst (λ (l : List Logged). AtControl (x ∷ ls) l) (sym same)
      (record { front = x ∷ r.front; number = r.number; next = r.next; counts = r.counts; described = r.described; are = ap (λ (l : List Logged). x ∷ l) r.are; none = r.none })
  | inr off ↦
      let head = logged_head x (sym (or_no_right (is_control_logged x)) ∙ ap (λ k. is_control_logged x || k) (sym off) ∙ found) in
      let same : after_last is_control_logged (x ∷ ls) ≡ ls = ap (λ k. cond k (after_last is_control_logged ls) (x ∷ ls)) found ∙ last_none is_control_logged ls off in
      subst (λ (l : List Logged). AtControl (x ∷ ls) l) (sym same)
      (record { front = []; number = head.0; next = head.1; counts = head.2; described = head.3; are = ap (λ (y : Logged). y ∷ ls) head.4; none = off })
]

pub no_control : (xs : List Logged) (live : List Event) → has is_control live ≡ false → has is_control_logged xs ≡ false → has is_control (changes_from live xs) ≡ false
no_control [] live none off = none
no_control (x ∷ xs) live none off =
    let both = or_no (is_control_logged x) (has is_control_logged xs) off in
    no_control xs (live ++ changes_of live x) (has_append is_control live (changes_of live x) ∙ (λ i. none i || one x both.0 i)) both.1
  where
    changed : (f b place : ℕ) (bytes : List ℕ) (o : Option BlockBytes) → has is_control (range_change f b place bytes o) ≡ false
    changed f b place bytes None = refl
    changed f b place bytes (Some old) = refl

    one : (y : Logged) → is_control_logged y ≡ false → has is_control (changes_of live y) ≡ false
    one (event e) is = ap (λ k. k || false) is
    one (range f b place bytes) is = changed f b place bytes (last_after f b live)

-- a Control is no change
pub control_from : (n next : ℕ) (counts : Counts) (described : Bool) (xs : List Logged) (live : List Event) → changes_from (control n next counts described ∷ live) xs ≡ control n next counts described ∷ changes_from live xs
control_from n next counts described [] live = refl
control_from n next counts described (event e ∷ xs) live = control_from n next counts described xs (live ++ e ∷ [])
control_from n next counts described (range f b place bytes ∷ xs) live = control_from n next counts described xs (live ++ range_change f b place bytes (last_after f b live))

pub behind_control : (front late : List Event) (n next : ℕ) (counts : Counts) (described : Bool) → has is_control late ≡ false → after_last is_control (front ++ control n next counts described ∷ late) ≡ late
behind_control [] late n next counts described none = last_none is_control late none
behind_control (e ∷ front) late n next counts described none =
    let found : has is_control (front ++ control n next counts described ∷ late) ≡ true = some front in
    (λ i. cond (is_control e || found i) (behind_control front late n next counts described none i) (e ∷ (front ++ control n next counts described ∷ late)))
    ∙ ap (λ k. cond k late (e ∷ (front ++ control n next counts described ∷ late))) (or_true (is_control e))
  where
    or_true : (b : Bool) → b || true ≡ true
    or_true true = refl
    or_true false = refl

    some : (l : List Event) → has is_control (l ++ control n next counts described ∷ late) ≡ true
    some [] = refl
    some (x ∷ l) = ap (λ k. is_control x || k) (some l) ∙ or_true (is_control x)

-- Behind the last Control there are the changes of what stands behind it.
pub late_changes : (ls : List Logged) → HasImages ls → after_last is_control (all_changes ls) ≡ all_changes (after_last is_control_logged ls)
unfolding all_changes
late_changes ls images = elim (cases_Bool (has is_control_logged ls)) [
  | inl on ↦
      let late = after_last is_control_logged ls in
      let r = at_control ls on in
      let c = control r.number r.next r.counts r.described in
      let split : changes_from [] ls ≡ changes_from [] r.front ++ changes_from [] (event c ∷ late) =
      ap (changes_from []) r.are ∙ ranges_split r.front late r.number r.next r.counts r.described (subst HasImages r.are images) in
      ap (λ (l : List Event). after_last is_control l) (split ∙ ap (λ (l : List Event). changes_from [] r.front ++ l) (control_from r.number r.next r.counts r.described late []))
      ∙ behind_control (changes_from [] r.front) (changes_from [] late) r.number r.next r.counts r.described (no_control late [] refl r.none)
  | inr off ↦ last_none is_control (changes_from [] ls) (no_control ls [] refl off) ∙ ap (changes_from []) (sym (last_none is_control_logged ls off))
]

-- ---- a list that is cut

pub cut_in_two : (p : Logged → Bool) (xs : List Logged) → has p xs ≡ true → until_first p xs ++ after_first p xs ≡ xs
cut_in_two p [] found = absurd (true≢false (sym found))
cut_in_two p (x ∷ xs) found = elim (cases_Bool (p x)) [
  | inl on ↦ λ i. cond (on i) (x ∷ []) (cond (has p xs) (x ∷ until_first p xs) []) ++ cond (on i) xs (after_first p xs)
  | inr off ↦
      let more : has p xs ≡ true = ap (λ k. k || has p xs) (sym off) ∙ found in
      (λ i. cond (off i) (x ∷ []) (cond (more i) (x ∷ until_first p xs) []) ++ cond (off i) xs (after_first p xs)) ∙ ap (λ (l : List Logged). x ∷ l) (cut_in_two p xs more)
]

-- ---- counts

reached_range : (f k g b place : ℕ) (bytes : List ℕ) (o : Option BlockBytes) → reached_count f k (range_change g b place bytes o) ≡ k
reached_range f k g b place bytes None = refl
reached_range f k g b place bytes (Some old) = refl

reached_from : (f : ℕ) (xs : List Logged) (live : List Event) → reached_count f 0 (changes_from live xs) ≡ reached_count f (reached_count f 0 live) (own_events xs)
reached_from f [] live = refl
reached_from f (event e ∷ xs) live =
    reached_from f xs (live ++ e ∷ []) ∙ ap (λ k. reached_count f k (own_events xs)) (reached_append live (e ∷ []) f 0) ∙ sym (reached_append (e ∷ []) (own_events xs) f (reached_count f 0 live))
reached_from f (range g b place bytes ∷ xs) live =
    let c = range_change g b place bytes (last_after g b live) in
    reached_from f xs (live ++ c) ∙ ap (λ k. reached_count f k (own_events xs)) (reached_append live c f 0 ∙ reached_range f (reached_count f 0 live) g b place bytes (last_after g b live))

-- No Range changes a count.
pub reached_own : (f : ℕ) (xs : List Logged) → reached_count f 0 (all_changes xs) ≡ reached_count f 0 (own_events xs)
unfolding all_changes
reached_own f xs = reached_from f xs []
