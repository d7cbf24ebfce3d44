-- The table of a point of which each block is so at the last Control: what stands behind that Control tells what may not stand in the files.
use Rattle.std.proofs.Common.{ℕ, ◌≡◌, inl, inr, Bool, cond, List, [], ◌∷◌, ◌++◌, Option, Some, None, refl, sym, ◌∙◌, ap, append_assoc}
use Rattle.std.proofs.lemmas.Bool.{cases_Bool}
use Rattle.dms_site.specs.Files.{Files}
use Rattle.dms_history.specs.Agrees.{ListAgrees}
use Rattle.dms_history.specs.Events.{BlockBytes, Stored, Event, quiet, change}
use Rattle.dms_history.specs.Images.{or_else, last_after, first_before}
use Rattle.dms_history.specs.Lists.{has, until_first, after_last}
use Rattle.dms_history.specs.Places.{is_control, is_point}
use Rattle.dms_history.specs.Ranges.{Logged, event, range, range_change, all_changes, changes_from}
use Rattle.dms_history.specs.Told.{undone_to, told_block}
use Rattle.dms_history.proofs.AtPoints.{split_first}
use Rattle.dms_history.proofs.Converse.{first_at}
use Rattle.dms_history.proofs.Picks.{option_cases, last_append, first_none, or_none, some_is}
use Rattle.dms_running.proofs.OneMore.{first_append}
use Rattle.dms_restore.specs.declared.told.Told.{Told}
use Rattle.dms_restore.specs.Table.{IsAmong, last_of, IsTable, IsTableOver}
use Rattle.dms_restore.specs.TailTables.{IsAtControl, Undoes}

-- ---- changes behind a quiet point

quiet_from : (n : ℕ) (xs : List Logged) (live : List Event) → changes_from (quiet n ∷ live) xs ≡ quiet n ∷ changes_from live xs
quiet_from n [] live = refl
quiet_from n (event e ∷ xs) live = quiet_from n xs (live ++ e ∷ [])
quiet_from n (range f b place bytes ∷ xs) live = quiet_from n xs (live ++ range_change f b place bytes (last_after f b live))

pub quiet_first : (n : ℕ) (xs : List Logged) → all_changes (event (quiet n) ∷ xs) ≡ quiet n ∷ all_changes xs
unfolding all_changes
quiet_first n xs = quiet_from n xs []

-- the table of a point at which nothing was changed undoes what stands behind it
pub undoes_quiet : (since : List Event) (files : Files) (table : List Told) → IsTable (quiet 0 ∷ since) 0 files table → Undoes since files table
unfolding told_block
undoes_quiet since files table t = record { whole = t.whole; tells = t.tells; among = t.among }

-- ---- the table over the blocks that stand

-- behind the last of a kind, in the whole list
last_late : (p : Event → Bool) (es : List Event) (f b : ℕ) (x : BlockBytes) → last_after f b (after_last p es) ≡ Some x → last_after f b es ≡ Some x
last_late p [] f b x is = is
last_late p (e ∷ es) f b x is = elim (cases_Bool (has p (e ∷ es))) [
  | inl on ↦
      let rest = last_late p es f b x (ap (λ k. last_after f b (cond k (after_last p es) (e ∷ es))) (sym on) ∙ is) in
      last_append (e ∷ []) es f b ∙ ap (λ o. or_else o (last_after f b (e ∷ []))) rest
  | inr off ↦ ap (λ k. last_after f b (cond k (after_last p es) (e ∷ es))) (sym off) ∙ is
]

module _ (live : List Event) (m : ℕ) (at : IsAtControl live m) where
  abbrev front : List Event
  front = until_first (is_point m) live

  abbrev since : List Event
  since = after_last is_control live

  parts_are : live ≡ front ++ (at.still ++ since)
  parts_are = sym (split_first (is_point m) live at.lives) ∙ ap (λ (l : List Event). front ++ l) at.are

  -- the first change behind the point stands behind the last Control
  first_is : (f b : ℕ) → first_before f b (at.still ++ since) ≡ first_before f b since
  first_is f b = first_append f b at.still since ∙ ap (λ o. or_else o (first_before f b since)) (at.none f b)

  abbrev redone : ℕ → ℕ → Option BlockBytes
  redone f b = last_after f b (after_last is_control front)

  told_is : (f b : ℕ) → told_block live m f b ≡ or_else (redone f b) (undone_to (first_before f b since))
  unfolding told_block
  told_is f b = ap (λ o. or_else (redone f b) (undone_to o)) (ap (λ (l : List Event). first_before f b l) at.are ∙ first_is f b)

  module _ (first : Bool) (next : ℕ) (stored : Stored) (agrees : ListAgrees first live next stored) (files : Files) (table : List Told) (undoes : Undoes (after_last is_control live) files table) where
    last_is : (f b : ℕ) → last_of files f b table ≡ undone_to (first_before f b since)
    last_is f b = sym (undoes.tells f b)

    -- a block that is redone up to the point
    front_has : (f b : ℕ) (x : BlockBytes) → redone f b ≡ Some x → (xs : List Event) → last_after f b xs ≡ None → last_after f b (front ++ xs) ≡ Some x
    front_has f b x is xs none = last_append front xs f b ∙ (λ i. or_else (none i) (last_late is_control front f b x is i))

    stands_there : (f b : ℕ) (x : BlockBytes) → redone f b ≡ Some x → first_before f b since ≡ None → (IsAmong f b table → ⊥) × (stored f b ≡ x)
    stands_there f b x is none = (
      λ among. undoes.among f b among (last_is f b ∙ ap (λ o. undone_to o) none),
      agrees.stands f b x (ap (λ (l : List Event). last_after f b l) parts_are ∙ front_has f b x is (at.still ++ since) (first_none (at.still ++ since) f b (first_is f b ∙ none)))
          (first_none since f b none),
    )

    -- what stood before the first change behind the Control is what is redone
    before_is : (f b : ℕ) (x : BlockBytes) (o : Option BlockBytes) → redone f b ≡ Some x → first_before f b since ≡ Some o → o ≡ Some x
    before_is f b x o is first =
        let r = first_at since f b o first in
        let e = change f b o r.2 in
        let none : last_after f b (at.still ++ r.0) ≡ None = last_append at.still r.0 f b ∙ (λ i. or_else (r.4 i) (first_none at.still f b (at.none f b) i)) in
        let are : live ≡ (front ++ (at.still ++ r.0)) ++ e ∷ r.1 =
        parts_are ∙ ap (λ (l : List Event). front ++ (at.still ++ l)) r.3
        ∙ ap (λ (l : List Event). front ++ l) (sym (append_assoc at.still r.0 (e ∷ r.1))) ∙ sym (append_assoc front (at.still ++ r.0) (e ∷ r.1)) in
        agrees.linked (front ++ (at.still ++ r.0)) r.1 f b o r.2 x are (front_has f b x is (at.still ++ r.0) none)

    pub table_over : IsTableOver live m stored files table
    table_over = record {
      whole = undoes.whole;
      tells = λ f b x told.
          let both : or_else (redone f b) (undone_to (first_before f b since)) ≡ Some x = sym (told_is f b) ∙ told in
          elim (option_cases (redone f b)) [
            | inl none ↦ inl (last_is f b ∙ ap (λ o. or_else o (undone_to (first_before f b since))) (sym none) ∙ both)
            | inr (y, is) ↦
                let same : y ≡ x = some_is y x (ap (λ o. or_else o (undone_to (first_before f b since))) (sym is) ∙ both) in
                let own : redone f b ≡ Some x = is ∙ ap (λ z. Some z) same in
                elim (option_cases (first_before f b since)) [
                  | inl none ↦ inr (stands_there f b x own none)
                  | inr (o, first) ↦ inl (last_is f b ∙ ap (λ p. undone_to p) first ∙ before_is f b x o own first)
                ]
          ];
      among = λ f b among none. undoes.among f b among (last_is f b ∙ (or_none (redone f b) (undone_to (first_before f b since)) (sym (told_is f b) ∙ none)).1);
    }

-- the table of the point itself
pub table_as : (live : List Event) (m : ℕ) (stored : Stored) (files : Files) (table : List Told) → IsTable live m files table → IsTableOver live m stored files table
table_as live m stored files table t = record {
  whole = t.whole;
  tells = λ f b x told. inl (sym (t.tells f b) ∙ told);
  among = λ f b among none. t.among f b among (sym (t.tells f b) ∙ none);
}
