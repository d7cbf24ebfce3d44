-- A block with an Image itself since the last Control has a change from the first Control on.
use Rattle.std.proofs.Common.{ℕ, ◌≡◌, ◌||◌, inl, inr, Bool, true, false, cond, List, [], ◌∷◌, ◌++◌, Option, Some, None, refl, sym, ◌∙◌, ap, subst}
use Rattle.std.proofs.lemmas.Bool.{cases_Bool, true≢false}
use Rattle.dms_history.specs.Events.{BlockBytes, Counts, Event, change, quiet, control, begin}
use Rattle.dms_history.specs.Lists.{has, after_last}
use Rattle.dms_history.specs.Places.{is_control}
use Rattle.dms_history.specs.Images.{or_else, last_after}
use Rattle.dms_history.specs.Base.{from_control}
use Rattle.dms_history.specs.Ranges.{Logged, event, range, range_change, changes_of, changes_from, all_changes, is_control_logged, is_image}
use Rattle.dms_history.specs.LawsOfRanges.{HasImages}
use Rattle.dms_history.proofs.Picks.{option_cases, last_append}
use Rattle.dms_history.proofs.AtPoints.{or_no}
use Rattle.dms_history.proofs.Base.{has_append}
use Rattle.dms_history.proofs.Converse.{opening_append, opening_front}
use Rattle.dms_history.proofs.Splits.{ranges_split}
use Rattle.dms_history.proofs.Turns.{left_out, changes_tail}

none_behind : (p : Logged → Bool) (xs : List Logged) → has p xs ≡ false → after_last p xs ≡ xs
none_behind p [] off = refl
none_behind p (x ∷ xs) off = ap (λ k. cond k (after_last p xs) (x ∷ xs)) off

-- a logged Control
control_head : (x : Logged) → is_control_logged x ≡ true → (n : ℕ) × (next : ℕ) × (counts : Counts) × (described : Bool) × (x ≡ event (control n next counts described))
control_head (event (change f b before after)) on = absurd (true≢false (sym on))
control_head (event (quiet n)) on = absurd (true≢false (sym on))
control_head (event (control n next counts described)) on = (n, next, counts, described, refl)
control_head (event (begin n how)) on = absurd (true≢false (sym on))
control_head (range f b place bytes) on = absurd (true≢false (sym on))

-- the list at its last Control
last_control : (ls : List Logged) → has is_control_logged ls ≡ true
    → (xs : List Logged) × (n : ℕ) × (next : ℕ) × (counts : Counts) × (described : Bool) × (ls ≡ xs ++ event (control n next counts described) ∷ after_last is_control_logged ls)
last_control [] found = absurd (true≢false (sym found))
last_control (x ∷ ls) found = elim (cases_Bool (has is_control_logged ls)) [
  | inl more ↦
      let r = last_control ls more in
      (x ∷ r.0, r.1, r.2, r.3, r.4, ap (λ (l : List Logged). x ∷ l) r.5 ∙ ap (λ (l : List Logged). x ∷ (r.0 ++ event (control r.1 r.2 r.3 r.4) ∷ l)) (sym (ap (λ k. cond k (after_last is_control_logged ls) (x ∷ ls)) found)))
  | inr none ↦
      let head = control_head x (sym (or_nothing (is_control_logged x)) ∙ ap (λ k. is_control_logged x || k) (sym none) ∙ found) in
      ([], head.0, head.1, head.2, head.3, (λ i. head.4 i ∷ sym (none_behind is_control_logged ls none) i) ∙ ap (λ (l : List Logged). event (control head.0 head.1 head.2 head.3) ∷ l) (sym (ap (λ k. cond k (after_last is_control_logged ls) (x ∷ ls)) found)))
]
  where
    or_nothing : (b : Bool) → b || false ≡ b
    or_nothing true = refl
    or_nothing false = refl

-- without a logged Control there is none among the changes
no_control : (xs : List Logged) (acc : List Event) → has is_control acc ≡ false → has is_control_logged xs ≡ false → has is_control (changes_from acc xs) ≡ false
no_control [] acc none off = none
no_control (x ∷ xs) acc none off =
    let both = or_no (is_control_logged x) (has is_control_logged xs) off in
    no_control xs (acc ++ changes_of acc x) (has_append is_control acc (changes_of acc x) ∙ (λ i. none i || one x both.0 i)) both.1
  where
    changed : (f b place : ℕ) (bytes : List ℕ) (o : Option BlockBytes) → has is_control (range_change f b place bytes o) ≡ false
    changed f b place bytes None = refl
    changed f b place bytes (Some old) = refl

    one : (x : Logged) → is_control_logged x ≡ false → has is_control (changes_of acc x) ≡ false
    one (event e) off = ap (λ k. k || false) off
    one (range f b place bytes) off = changed f b place bytes (last_after f b acc)

-- a change in the last part of a list, which begins with a Control
part_told : (P zs : List Event) (n next : ℕ) (counts : Counts) (described : Bool) (f b : ℕ) (old : BlockBytes) → last_after f b (control n next counts described ∷ zs) ≡ Some old
    → last_after f b (from_control (P ++ control n next counts described ∷ zs)) ≡ Some old
part_told P zs n next counts described f b old last =
    let c = control n next counts described in
    elim (cases_Bool (has is_control P)) [
      | inl on ↦
          ap (λ (l : List Event). last_after f b l) (opening_append P (c ∷ zs) on).1 ∙ last_append (from_control P) (c ∷ zs) f b ∙ ap (λ o. or_else o (last_after f b (from_control P))) last
      | inr off ↦ ap (λ (l : List Event). last_after f b l) (opening_front P n next counts described zs off).1 ∙ last
    ]

pub image_told : (ls : List Logged) (f b : ℕ) → HasImages ls → has is_control (all_changes ls) ≡ true → has (is_image f b) (after_last is_control_logged ls) ≡ true
    → (old : BlockBytes) × (last_after f b (from_control (all_changes ls)) ≡ Some old)
unfolding all_changes
image_told ls f b images found image = elim (cases_Bool (has is_control_logged ls)) [
  | inr off ↦ absurd (true≢false (sym found ∙ no_control ls [] refl off))
  | inl on ↦
      let r = last_control ls on in
      let c = control r.1 r.2 r.3 r.4 in
      let ys = after_last is_control_logged ls in
      let split : all_changes ls ≡ all_changes r.0 ++ all_changes (event c ∷ ys) = ap all_changes r.5 ∙ ranges_split r.0 ys r.1 r.2 r.3 r.4 (subst HasImages r.5 images) in
      let tail = changes_tail ys (c ∷ []) in
      elim (option_cases (last_after f b (all_changes (event c ∷ ys)))) [
        | inl none ↦ absurd (true≢false (sym image ∙ (left_out (event c ∷ ys) f b).1 none))
        | inr some ↦ (some.0, ap (λ (l : List Event). last_after f b (from_control l)) (split ∙ ap (λ (l : List Event). all_changes r.0 ++ l) tail.1) ∙ part_told (all_changes r.0) tail.0 r.1 r.2 r.3 r.4 f b some.0 (ap (λ (l : List Event). last_after f b l) (sym tail.1) ∙ some.1))
      ]
]
