-- What is noted of a block behind live entries is what the audit tells of it.
use Rattle.std.specs.Prelude.{◌||◌}
use Rattle.std.proofs.Common.{ℕ, ◌≤◌, ◌≡◌, inl, inr, Bool, true, false, cond, List, [], ◌∷◌, ◌++◌, length, take, drop, Option, Some, None, refl, sym, ◌∙◌, ap, arith, append_assoc}
use Rattle.std.proofs.lemmas.Bool.{cases_Bool}
use Rattle.std.proofs.lemmas.List.{append_cancel_right, take-append-drop, map-append, length-map, length-take}
use Rattle.dms_site.specs.Files.{Files}
use Rattle.dms_history.specs.Events.{BlockBytes, Event, control}
use Rattle.dms_history.specs.Entries.{named_by}
use Rattle.dms_history.specs.declared.event.Row.{Row}
use Rattle.dms_history.specs.Lists.{has, until_first, after_first, after_last}
use Rattle.dms_history.specs.Places.{is_control, is_point}
use Rattle.dms_history.specs.Images.{or_else, last_after, first_before}
use Rattle.dms_history.specs.Pick.{between}
use Rattle.dms_history.specs.Ranges.{Logged, event, range, range_change, changes_of, all_changes, is_point_logged, is_control_logged}
use Rattle.dms_history.specs.Told.{undone_to, told_block}
use Rattle.dms_history.proofs.AtPoints.{or_no}
use Rattle.dms_history.proofs.Base.{has_append}
use Rattle.dms_history.proofs.Cuts.{after_none}
use Rattle.dms_history.proofs.Turns.{changes_push, changes_until}
use Rattle.dms_restore.specs.declared.live.LiveEntry.{LiveEntry}
use Rattle.dms_restore.specs.declared.told.Told.{Told}
use Rattle.dms_restore.specs.LiveEntries.{logged_at, logged_live, AllStandWhole}
use Rattle.dms_restore.specs.Named.{Noted, nothing_noted, noted_from, noted_front, noted_all, undone, named_of, told_noted, IsTableOf, TellsByRows, TellsBetween}
use Rattle.dms_restore.specs.Table.{IsAmong, AreWhole, last_of}
use Rattle.dms_restore.proofs.Changes.{changes_on, all_append, after_point}
use Rattle.dms_restore.proofs.Noted.{some_named, or_nothing, stands_from, front_part, named_behind, undone_is}
use Rattle.dms_restore.proofs.Patched.{at_control, last_none, no_control, behind_control, cut_in_two, last_is_patched}

-- ---- changes of two parts

-- Ranges are no Controls
none_on : (live : List Event) (xs : List Logged) → has is_control_logged xs ≡ false → has is_control (changes_on live xs) ≡ false
none_on live [] off = refl
none_on live (x ∷ xs) off =
    let both = or_no (is_control_logged x) (has is_control_logged xs) off in
    has_append is_control (changes_of live x) (changes_on (live ++ changes_of live x) xs) ∙ (λ i. one x both.0 i || none_on (live ++ changes_of live x) xs both.1 i)
  where
    changed : (f b place : ℕ) (bytes : List ℕ) (o : Option BlockBytes) → has is_control (range_change f b place bytes o) ≡ false
    changed f b place bytes None = refl
    changed f b place bytes (Some old) = refl

    one : (y : Logged) → is_control_logged y ≡ false → has is_control (changes_of live y) ≡ false
    one (event e) is = ap (λ k. k || false) is
    one (range f b place bytes) is = changed f b place bytes (last_after f b live)

-- behind the last Control
late_on : (xs ys : List Logged) → after_last is_control_logged (xs ++ ys) ≡ ys → after_last is_control (all_changes (xs ++ ys)) ≡ changes_on (all_changes xs) ys
unfolding all_changes
late_on xs ys is = elim (cases_Bool (has is_control_logged (xs ++ ys))) [
  | inl on ↦
      let r = at_control (xs ++ ys) on in
      let c = control r.number r.next r.counts r.described in
      let later = changes_on (all_changes xs) ys in
      let front : xs ≡ r.front ++ event c ∷ [] =
      append_cancel_right xs (r.front ++ event c ∷ []) ys (r.are ∙ ap (λ (l : List Logged). r.front ++ event c ∷ l) is ∙ sym (append_assoc r.front (event c ∷ []) ys)) in
      let none : has is_control later ≡ false = none_on (all_changes xs) ys (ap (λ (l : List Logged). has is_control_logged l) (sym is) ∙ r.none) in
      ap (λ (l : List Event). after_last is_control l)
      (all_append xs ys ∙ ap (λ (l : List Event). l ++ later) (ap all_changes front ∙ changes_push r.front (event c)) ∙ append_assoc (all_changes r.front) (c ∷ []) later)
      ∙ behind_control (all_changes r.front) later r.number r.next r.counts r.described none
  | inr off ↦
      let empty : xs ≡ [] = append_cancel_right xs [] ys (sym (last_none is_control_logged (xs ++ ys) off) ∙ is) in
      last_none is_control (all_changes (xs ++ ys)) (no_control (xs ++ ys) [] refl off)
      ∙ all_append xs ys ∙ ap (λ (l : List Logged). all_changes l ++ changes_on (all_changes xs) ys) empty
]

-- behind a point
behind_on : (n : ℕ) (xs ys : List Logged) → after_first (is_point_logged n) (xs ++ ys) ≡ ys → after_first (is_point n) (all_changes (xs ++ ys)) ≡ changes_on (all_changes xs) ys
behind_on n xs ys is = after_point n (xs ++ ys) ∙ elim (cases_Bool (has (is_point_logged n) (xs ++ ys))) [
  | inl on ↦
      let front : until_first (is_point_logged n) (xs ++ ys) ≡ xs =
      append_cancel_right (until_first (is_point_logged n) (xs ++ ys)) xs ys (ap (λ (l : List Logged). until_first (is_point_logged n) (xs ++ ys) ++ l) (sym is) ∙ cut_in_two (is_point_logged n) (xs ++ ys) on) in
      λ i. changes_on (all_changes (front i)) (is i)
  | inr off ↦
      let none = after_none (is_point_logged n) (xs ++ ys) off in
      ap (λ (l : List Logged). changes_on (all_changes (until_first (is_point_logged n) (xs ++ ys))) l) none
      ∙ sym (ap (λ (l : List Logged). changes_on (all_changes xs) l) (sym is ∙ none))
]

-- ---- live entries in two parts

module _ (files : Files) (front : List LiveEntry) (k : ℕ) (le : k ≤ length front) where
  abbrev xs : List Logged
  xs = logged_live files (take k front)

  abbrev ys : List Logged
  ys = logged_live files (drop k front)

  parts : logged_live files front ≡ xs ++ ys
  parts = sym (ap (logged_live files) (take-append-drop k front)) ∙ map-append (logged_at files) (take k front) (drop k front)

  first_size : length xs ≡ k
  first_size = omega (arith, le, length-map (take k front) (logged_at files), length-take k front)

  -- what is noted behind them
  front_named : (f b : ℕ) → named_of (noted_front files k front f b) ≡ some_named (last_after f b (changes_on (all_changes xs) ys))
  front_named f b =
      let r = front_part f b k 0 nothing_noted xs ys refl (omega (arith, first_size)) in
      ap (λ (l : List Logged). named_of (noted_from f b k 0 nothing_noted l)) parts
      ∙ ap named_of r.1
      ∙ named_behind f b k k (all_changes xs) r.0 ys (omega arith) (r.3 ∙ sym (last_is_patched xs f b))
      ∙ ap (λ t. or_else (some_named (last_after f b (changes_on (all_changes xs) ys))) (cond t (Some r.0.stands) None)) r.2
      ∙ sym (or_nothing (some_named (last_after f b (changes_on (all_changes xs) ys))))

  front_stands : (f b : ℕ) → (noted_front files k front f b).stands ≡ last_after f b (all_changes (logged_live files front))
  front_stands f b = stands_from f b k 0 nothing_noted (logged_live files front) ∙ sym (last_is_patched (logged_live files front) f b)

some_undone : (o : Option BlockBytes) → undone_to (some_named o) ≡ o
some_undone None = refl
some_undone (Some x) = refl

told_cases : (o : Option BlockBytes) (first : Option (Option BlockBytes)) → undone_to (or_else (some_named o) first) ≡ or_else o (undone_to first)
told_cases None first = refl
told_cases (Some x) first = refl

module _ (files : Files) (front : List LiveEntry) (live : List Logged) (m : ℕ) (until : until_first (is_point_logged m) live ≡ logged_live files front) where
  upto : until_first (is_point m) (all_changes live) ≡ all_changes (logged_live files front)
  upto = sym (changes_until m live) ∙ ap all_changes until

  -- what the audit tells at the point
  pub told_is : (behind : List LiveEntry) → after_first (is_point_logged m) live ≡ logged_live files behind → (k : ℕ) → k ≤ length front → after_last is_control_logged (logged_live files front) ≡ logged_live files (drop k front)
      → (f b : ℕ) → told_noted (undone f b (noted_front files k front f b) (logged_live files behind)) ≡ told_block (all_changes live) m f b
  unfolding told_block
  told_is behind after k le late f b =
      let one = xs files front k le in
      let two = ys files front k le in
      let cut = parts files front k le in
      let is_late : after_last is_control (until_first (is_point m) (all_changes live)) ≡ changes_on (all_changes one) two =
      ap (λ (l : List Event). after_last is_control l) (upto ∙ ap all_changes cut) ∙ late_on one two (ap (λ (l : List Logged). after_last is_control_logged l) (sym cut) ∙ late) in
      let is_after : after_first (is_point m) (all_changes live) ≡ changes_on (all_changes (logged_live files front)) (logged_live files behind) = after_point m live ∙ (λ i. changes_on (all_changes (until i)) (after i)) in
      ap undone_to
      (undone_is f b (all_changes (logged_live files front)) (noted_front files k front f b) (logged_live files behind) (front_stands files front k le f b)
      ∙ ap (λ w. or_else w (first_before f b (changes_on (all_changes (logged_live files front)) (logged_live files behind)))) (front_named files front k le f b))
      ∙ told_cases (last_after f b (changes_on (all_changes one) two)) (first_before f b (changes_on (all_changes (logged_live files front)) (logged_live files behind)))
      ∙ (λ i. or_else (last_after f b (sym is_late i)) (undone_to (first_before f b (sym is_after i))))

  -- the last change between an earlier point and this one
  pub between_is : (n k : ℕ) → k ≤ length front → after_first (is_point_logged n) (logged_live files front) ≡ logged_live files (drop k front)
      → (f b : ℕ) → told_noted (noted_front files k front f b) ≡ last_after f b (between n m (all_changes live))
  between_is n k le after f b =
      let one = xs files front k le in
      let two = ys files front k le in
      let cut = parts files front k le in
      let is : between n m (all_changes live) ≡ changes_on (all_changes one) two =
      ap (λ (l : List Event). after_first (is_point n) l) (upto ∙ ap all_changes cut) ∙ behind_on n one two (ap (λ (l : List Logged). after_first (is_point_logged n) l) (sym cut) ∙ after) in
      ap undone_to (front_named files front k le f b) ∙ some_undone (last_after f b (changes_on (all_changes one) two)) ∙ ap (λ (l : List Event). last_after f b l) (sym is)

-- ---- tables of what is noted

-- it tells what is noted of each block
abbrev Tells : List LiveEntry → List LiveEntry → List Row → ℕ → ℕ → List Told → Type 0
Tells front behind rows of_rows of_others ts = (files : Files) → AreWhole files ts → (f b : ℕ) → last_of files f b ts ≡ told_noted (noted_all files rows of_rows of_others front behind f b)

abbrev Whole : List LiveEntry → List LiveEntry → List Told → Type 0
Whole front behind ts = (files : Files) → AllStandWhole files front → AllStandWhole files behind → AreWhole files ts

-- the place behind the last Control
abbrev IsLate : List LiveEntry → ℕ → Type 0
IsLate front k = (files : Files) → after_last is_control_logged (logged_live files front) ≡ logged_live files (drop k front)

pub table_is : (front behind : List LiveEntry) (ts : List Told) (k : ℕ) → k ≤ length front → IsLate front k → Whole front behind ts → Tells front behind [] 0 k ts → ((files : Files) (f b : ℕ) → IsAmong f b ts → last_of files f b ts ≡ None → ⊥) → IsTableOf front behind ts
table_is front behind ts k le late whole tells some files live m until after front_whole behind_whole =
    let stand = whole files front_whole behind_whole in
    record {
      whole = stand;
      tells = λ f b. sym (tells files stand f b ∙ told_is files front live m until behind after k le (late files) f b);
      among = some files;
    }

pub rows_tell : (front : List LiveEntry) (from : ℕ) (behind : List LiveEntry) (rows : List Row) (ts : List Told) (k : ℕ) → from ≤ length front → k ≤ length front → IsLate front k → Whole front behind ts → Tells front behind rows from k ts → TellsByRows front from behind rows ts
rows_tell front from behind rows ts k within le late whole tells files live m n until after front_whole behind_whole dumped f b = tells files (whole files front_whole behind_whole) f b ∙ go (named_by rows f b)
  where
    noted : Bool → Noted
    noted t = noted_front files (cond t from k) front f b

    go : (t : Bool) → told_noted (cond t (noted t) (undone f b (noted t) (logged_live files behind))) ≡ cond t (last_after f b (between n m (all_changes live))) (told_block (all_changes live) m f b)
    go true = between_is files front live m until n from within dumped f b
    go false = told_is files front live m until behind after k le (late files) f b

pub between_tells : (front : List LiveEntry) (from : ℕ) (ts : List Told) → from ≤ length front → Whole front [] ts → Tells front [] [] from from ts → TellsBetween front from ts
between_tells front from ts within whole tells files live m n until front_whole dumped f b = tells files (whole files front_whole tt) f b ∙ between_is files front live m until n from within dumped f b
