-- What follows a Control is turned by itself.
use Rattle.std.proofs.Common.{ℕ, ◌≡◌, ◌⊎◌, inl, inr, Bool, true, false, cond, List, [], ◌∷◌, ◌++◌, None, refl, sym, ◌∙◌, ap, append_assoc}
use Rattle.std.proofs.lemmas.Bool.{cases_Bool, true≢false}
use Rattle.dms_history.specs.Events.{Event, control}
use Rattle.dms_history.specs.Images.{or_else, last_after}
use Rattle.dms_history.specs.Ranges.{Logged, event, range, range_change, changes_of, changes_from, all_changes, is_image, is_control_logged, is_point_logged}
use Rattle.dms_history.specs.Lists.{has, after_last, until_first}
use Rattle.dms_history.specs.LawsOfRanges.{is_range, RangesSplit, ImagesGoOn}
use Rattle.dms_history.proofs.Picks.{option_cases, last_append}
use Rattle.dms_history.proofs.AtPoints.{or_true_right}
use Rattle.dms_history.proofs.Order.{split_push, not_empty}
use Rattle.dms_history.proofs.Turns.{out_right}

change_behind : (P Q : List Event) (x : Logged) → ((f b place : ℕ) (bytes : List ℕ) → x ≡ range f b place bytes → last_after f b Q ≡ None → ⊥) → changes_of (P ++ Q) x ≡ changes_of Q x
change_behind P Q (event e) some = refl
change_behind P Q (range f b place bytes) some =
    ap (λ o. range_change f b place bytes o) (last_append P Q f b ∙ elim (option_cases (last_after f b Q)) [
      | inl none ↦ absurd (some f b place bytes refl none)
      | inr (y, is) ↦ ap (λ o. or_else o (last_after f b P)) is ∙ sym is
    ])

changes_behind : (ys : List Logged) (P Q : List Event)
    → ((us vs : List Logged) (f b place : ℕ) (bytes : List ℕ) → ys ≡ us ++ range f b place bytes ∷ vs → last_after f b (changes_from Q us) ≡ None → ⊥)
    → changes_from (P ++ Q) ys ≡ P ++ changes_from Q ys
changes_behind [] P Q some = refl
changes_behind (x ∷ ys) P Q some =
    ap (λ (l : List Event). changes_from ((P ++ Q) ++ l) ys) (change_behind P Q x (λ f b place bytes is none. some [] ys f b place bytes (ap (λ y. y ∷ ys) is) none))
    ∙ ap (λ (l : List Event). changes_from l ys) (append_assoc P Q (changes_of Q x))
    ∙ changes_behind ys P (Q ++ changes_of Q x) (λ us vs f b place bytes is none. some (x ∷ us) vs f b place bytes (ap (λ (l : List Logged). x ∷ l) is) none)

changes_two : (xs ys : List Logged) (acc : List Event) → changes_from acc (xs ++ ys) ≡ changes_from (changes_from acc xs) ys
changes_two [] ys acc = refl
changes_two (x ∷ xs) ys acc = changes_two xs ys (acc ++ changes_of acc x)

pub some_append : (p : Logged → Bool) (xs ys : List Logged) → has p ys ≡ true → has p (xs ++ ys) ≡ true
some_append p [] ys found = found
some_append p (x ∷ xs) ys found = or_true_right (p x) (has p (xs ++ ys)) (some_append p xs ys found)

pub behind_append : (xs ys : List Logged) → has is_control_logged ys ≡ true → after_last is_control_logged (xs ++ ys) ≡ after_last is_control_logged ys
behind_append [] ys found = refl
behind_append (x ∷ xs) ys found =
    ap (λ k. cond k (after_last is_control_logged (xs ++ ys)) (x ∷ (xs ++ ys))) (or_true_right (is_control_logged x) (has is_control_logged (xs ++ ys)) (some_append is_control_logged xs ys found)) ∙ behind_append xs ys found

some_behind : (p : Logged → Bool) (us : List Logged) → has p (after_last is_control_logged us) ≡ true → has p us ≡ true
some_behind p [] found = found
some_behind p (x ∷ us) found = elim (cases_Bool (has is_control_logged (x ∷ us))) [
  | inl on ↦ or_true_right (p x) (has p us) (some_behind p us (ap (λ k. has p (cond k (after_last is_control_logged us) (x ∷ us))) (sym on) ∙ found))
  | inr off ↦ ap (λ k. has p (cond k (after_last is_control_logged us) (x ∷ us))) (sym off) ∙ found
]

pub ranges_split : RangesSplit
unfolding all_changes
ranges_split xs ys n next counts described ranged =
    let c = event (control n next counts described) in
    let e = control n next counts described in
    changes_two xs (c ∷ ys) [] ∙ changes_behind ys (changes_from [] xs) (e ∷ []) (λ us vs f b place bytes is none.
    let all : xs ++ c ∷ ys ≡ (xs ++ c ∷ us) ++ range f b place bytes ∷ vs = ap (λ (l : List Logged). xs ++ c ∷ l) is ∙ sym (append_assoc xs (c ∷ us) (range f b place bytes ∷ vs)) in
    let image = ranged.images (xs ++ c ∷ us) vs f b place bytes all (inr (some_append is_control_logged xs (c ∷ us) refl)) in
    let late : after_last is_control_logged (xs ++ c ∷ us) ≡ after_last is_control_logged us = behind_append xs (c ∷ us) refl in
    let found : has (is_image f b) us ≡ true = some_behind (is_image f b) us (ap (λ (l : List Logged). has (is_image f b) l) (sym late) ∙ image) in
    true≢false (sym found ∙ (out_right f b us (e ∷ []) none).1))

not_range : (x : Logged) (f b place : ℕ) (bytes : List ℕ) → is_range x ≡ false → range f b place bytes ≡ x → ⊥
not_range x f b place bytes off is = true≢false (ap is_range is ∙ off)

split_entry : (p : Logged → Bool) (xs : List Logged) → (rest : List Logged) × ((until_first p xs ≡ []) ⊎ (until_first p xs ++ rest ≡ xs))
split_entry p [] = ([], inl refl)
split_entry p (x ∷ xs) = go (p x) (has p xs) (split_entry p xs)
  where
    go : (b c : Bool) → (rest : List Logged) × ((until_first p xs ≡ []) ⊎ (until_first p xs ++ rest ≡ xs))
        → (rest : List Logged) × ((cond b (x ∷ []) (cond c (x ∷ until_first p xs) []) ≡ []) ⊎ (cond b (x ∷ []) (cond c (x ∷ until_first p xs) []) ++ rest ≡ x ∷ xs))
    go true c r = (xs, inr refl)
    go false false r = ([], inl refl)
    go false true r = elim r.1 [
      | inl none ↦ (xs, inr (ap (λ (l : List Logged). x ∷ (l ++ xs)) none))
      | inr is ↦ (r.0, inr (ap (λ (l : List Logged). x ∷ l) is))
    ]

pub images_go_on : ImagesGoOn
images_go_on live ranged = record {
  others = λ x off. record {
    images = λ xs ys f b place bytes is some. elim (split_push xs (range f b place bytes) ys live x (sym is)) [
      | inl end ↦ absurd (not_range x f b place bytes off end.1)
      | inr more ↦ ranged.images xs more.0 f b place bytes (sym more.2) some
    ];
  };
  ranges = λ g k at text image. record {
    images = λ xs ys f b place bytes is some. elim (split_push xs (range f b place bytes) ys live (range g k at text) (sym is)) [
      | inl end ↦
          let one : f ≡ g = cc in
          let two : b ≡ k = cc in
          (λ i. has (is_image (one i) (two i)) (after_last is_control_logged (end.2 i))) ∙ image
      | inr more ↦ ranged.images xs more.0 f b place bytes (sym more.2) some
    ];
  };
  cuts = λ n. let r = split_entry (is_point_logged n) live in record {
    images = λ xs ys f b place bytes is some. elim r.1 [
      | inl none ↦ absurd (not_empty xs ys (range f b place bytes) (sym is ∙ none))
      | inr whole_is ↦ ranged.images xs (ys ++ r.0) f b place bytes (sym whole_is ∙ ap (λ (l : List Logged). l ++ r.0) is ∙ append_assoc xs (range f b place bytes ∷ ys) r.0) some
    ];
  };
}
