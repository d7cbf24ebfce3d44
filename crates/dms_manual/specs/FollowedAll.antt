-- A record that is stored anew, in one manual subset of its data set after another.
use Rattle.std.proofs.Common.{◌≡◌, ◌∙◌, ◌+◌, ◌≤◌, ◌<◌, ℕ, zero, suc, List, [], ◌∷◌, Bool, true, false, cond, Some, None, refl, sym, ap, subst, length, slice_get, take, arith, inl, inr}
use Rattle.std.specs.Prelude.{◌&&◌, ◌==◌, not, nat_lt}
use Rattle.std.specs.List.{list_any}
use Rattle.std.specs.declared.option.Option.{Option}
use Rattle.std.specs.FinMap.{entries}
use Rattle.std.proofs.lemmas.Bool.{cases_lt}
use Rattle.std.proofs.lemmas.Bool.Decides.{nat_tests}
use Rattle.std.proofs.lemmas.Option.{slice_get_within, same_Some}
use Rattle.dms_desc.specs.Shape.{Shape, Described}
use Rattle.dms_desc.specs.declared.record.Record.{Record}
use Rattle.dms_model.specs.Db.{Db}
use Rattle.dms_model.specs.Stores.{has_equal}
use Rattle.dms_model.specs.Uses.{clashes_in, is_strict, owners_in, owners_named}
use Rattle.dms_lists.specs.Forms.{form_of}
use Rattle.dms_sets.specs.Changes.{ListsOf, OtherListsStay, list_of_set}
use Rattle.dms_sets.specs.Padded.{entry_width}
use Rattle.dms_sets.specs.Sets.{kinds_over}
use Rattle.dms_sets.specs.Told.{db_with}
use Rattle.dms_manual.specs.Entered.{entered, manual_of}
use Rattle.dms_manual.specs.EnteringLaws.{manual_takes}
use Rattle.dms_manual.specs.Following.{AllMovesStand, MovedUpto, MovesAll, MovesOne, most_changes_among, most_changes, first_refusing, for_owner, refuses_moved}
use Rattle.dms_manual.specs.Naming.{AreManual, has_manual, is_manual_over, number_manual}
use Rattle.dms_manual.specs.Seen.{list_over}

-- ---- the answer of one subset

module _ (s : Shape) (db : Db) (set number : ℕ) (new : Record) (manual : is_manual_over s set ≡ true) where
  kind_is : s.kind ≡ 5
  kind_is = grind (arith, nat_tests, manual)

  set_is : s.set ≡ set
  set_is = grind (arith, nat_tests, manual)

  strict_is : is_strict s set new.values ≡ not s.duplicates
  strict_is =
      let two : nat_lt 2 s.kind ≡ true = ap (nat_lt 2) kind_is in
      let six : nat_lt s.kind 6 ≡ true = ap (λ k. nat_lt k 6) kind_is in
      let of : (s.set == set) ≡ true = grind (arith, nat_tests, manual) in
      (λ i. two i && six i && of i && not s.duplicates && manual_takes s new kind_is i) ∙ by (not s.duplicates)
    where
      by : (d : Bool) → (true && true && true && d && true) ≡ d
      by true = refl
      by false = refl

  owners_are : owners_in s db.entries (Some number) new.owner ≡ owners_named s.number number db.entries
  owners_are =
      let five : (s.kind == 5) ≡ true = grind (arith, nat_tests, manual) in
      ap (λ (b : Bool). cond b (owners_named s.number number db.entries) (new.owner ∷ [])) five

  pub clashes_is : clashes_in s db set (Some number) new ≡ refuses_moved s db number new
  clashes_is = λ i. strict_is i && list_any (λ owner. has_equal s db.entries (Some number) (for_owner owner new) (entries db.records)) (owners_are i)

-- ---- the first that refuses

module _ (db : Db) (set number : ℕ) (new : Record) where
  abbrev refuses : Shape → Bool
  refuses s = is_manual_over s set && clashes_in s db set (Some number) new

  first_none : (ss : List Shape) → ((j : ℕ) (s : Shape) → j < length ss → slice_get ss j ≡ Some s → refuses s ≡ false) → first_refusing ss db set number new ≡ None
  first_none [] none = refl
  first_none (s ∷ ss) none =
      ap (λ b. cond b (Some s.number) (first_refusing ss db set number new)) (none 0 s (omega arith) refl)
      ∙ first_none ss (λ j t lt at. none (suc j) t (omega (arith, lt)) at)

  some_shape : (x y : Shape) → ◌≡◌ {A = Option Shape} (Some x) (Some y) → x ≡ y
  some_shape x y h = cc

  first_here : (k : ℕ) (ss : List Shape) (s : Shape) → slice_get ss k ≡ Some s → refuses s ≡ true → ((j : ℕ) (t : Shape) → j < k → slice_get ss j ≡ Some t → refuses t ≡ false) → first_refusing ss db set number new ≡ Some s.number
  first_here k [] s at h none = absurd (cc at)
  first_here zero (t ∷ ss) s at h none =
      let same : t ≡ s = some_shape t s at in
      ap (λ b. cond b (Some t.number) (first_refusing ss db set number new)) (ap refuses same ∙ h) ∙ ap (λ (x : Shape). Some x.number) same
  first_here (suc k) (t ∷ ss) s at h none =
      ap (λ b. cond b (Some t.number) (first_refusing ss db set number new)) (none 0 t (omega arith) refl)
      ∙ first_here k ss s at h (λ j u lt is. none (suc j) u (omega (arith, lt)) is)

-- ---- one structure after another

module _ (desc : Described) (db : Db) (set number : ℕ) (old new : Record) (stand : AllMovesStand desc db set number old new) where
  same_at : (j k : ℕ) (t s : Shape) → j ≡ k → slice_get desc.structures j ≡ Some t → slice_get desc.structures k ≡ Some s → s ≡ t
  same_at j k t s e p q = same_Some s t (sym q ∙ ap (slice_get desc.structures) (sym e) ∙ p)

  number_off : (j k : ℕ) (t s : Shape) → (j ≡ k → ⊥) → slice_get desc.structures j ≡ Some t → slice_get desc.structures k ≡ Some s → (t.number == s.number) ≡ false
  number_off j k t s off p q = number_by (t.number == s.number) refl
    where
      number_by : (b : Bool) → (t.number == s.number) ≡ b → b ≡ false
      number_by true e = let same : t.number ≡ s.number = grind (arith, nat_tests, e) in absurd (off (stand.apart j k t s p q same))
      number_by false e = refl

  -- a structure that is no manual subset of the data set is left
  pub moved_skip : (k : ℕ) (s : Shape) (a : ListsOf) → slice_get desc.structures k ≡ Some s → is_manual_over s set ≡ false → MovedUpto desc db set number new k a → MovedUpto desc db set number new (k + 1) a
  moved_skip k s a at off u =
      record {
        done = λ j t lt is manual. elim (cases_lt j k) [
          | inl low ↦ u.done j t low is manual
          | inr high ↦ absurd (cc (manual, ap (λ x. is_manual_over x set) (sym (same_at j k t s (omega (arith, lt, high)) is at)) ∙ off))
        ];
        left = λ j t le is manual. u.left j t (omega (arith, le)) is manual;
        none = λ j t lt is. elim (cases_lt j k) [
          | inl low ↦ u.none j t low is
          | inr high ↦ ap (λ b. b && clashes_in t db set (Some number) new) (ap (λ x. is_manual_over x set) (sym (same_at j k t s (omega (arith, lt, high)) is at)) ∙ off)
        ];
      }

  -- one subset is done
  pub moved_step : (k : ℕ) (s : Shape) (a b : ListsOf) → slice_get desc.structures k ≡ Some s → is_manual_over s set ≡ true
      → MovesOne (kinds_over desc s) s db number new (list_of_set b (kinds_over desc s) s) false
      → OtherListsStay s a b → MovedUpto desc db set number new k a → MovedUpto desc db set number new (k + 1) b
  moved_step k s a b at manual one others u =
      let here : list_of_set b (kinds_over desc s) s ≡ Some (manual_of desc (db_with db set number (Some new)) s) =
      one.done refl ∙ ap (λ n. Some (list_over (kinds_over desc s) s (entered s (db_with db n number (Some new))))) (set_is s db set number new manual) in
      let passed : (is_manual_over s set && clashes_in s db set (Some number) new) ≡ false =
      ap (λ t. t && clashes_in s db set (Some number) new) manual ∙ clashes_is s db set number new manual ∙ sym one.answer in
      record {
        done = λ j t lt is kept. elim (cases_lt j k) [
          | inl low ↦ others t.number (form_of t) (entry_width (kinds_over desc t) t.parts) (number_off j k t s (λ e. omega (arith, low, e)) is at) ∙ u.done j t low is kept
          | inr high ↦ subst (λ (x : Shape). list_of_set b (kinds_over desc x) x ≡ Some (manual_of desc (db_with db set number (Some new)) x)) (same_at j k t s (omega (arith, lt, high)) is at) here
        ];
        left = λ j t le is kept. others t.number (form_of t) (entry_width (kinds_over desc t) t.parts) (number_off j k t s (λ e. omega (arith, le, e)) is at) ∙ u.left j t (omega (arith, le)) is kept;
        none = λ j t lt is. elim (cases_lt j k) [
          | inl low ↦ u.none j t low is
          | inr high ↦ subst (λ (x : Shape). (is_manual_over x set && clashes_in x db set (Some number) new) ≡ false) (same_at j k t s (omega (arith, lt, high)) is at) passed
        ];
      }

  -- all are done
  pub moved_end : (now : ListsOf) → MovedUpto desc db set number new (length desc.structures) now → MovesAll desc db set number new now None
  moved_end now u =
      record {
        answer_is = sym (first_none db set number new desc.structures u.none);
        lists = λ h j s at manual. u.done j s (slice_get_within desc.structures j s at) at manual;
      }

  -- one refuses
  pub moved_refused : (k : ℕ) (s : Shape) (a b : ListsOf) → slice_get desc.structures k ≡ Some s → is_manual_over s set ≡ true
      → MovesOne (kinds_over desc s) s db number new (list_of_set b (kinds_over desc s) s) true → MovedUpto desc db set number new k a → MovesAll desc db set number new b (Some s.number)
  moved_refused k s a b at manual one u =
      let here : (is_manual_over s set && clashes_in s db set (Some number) new) ≡ true =
      ap (λ t. t && clashes_in s db set (Some number) new) manual ∙ clashes_is s db set number new manual ∙ sym one.answer in
      record {
        answer_is = sym (first_here db set number new k desc.structures s at here u.none);
        lists = λ h. absurd (cc h);
      }

-- ---- how many changes

module _ (desc : Described) (db : Db) (set number : ℕ) where
  -- those of the first k structures, and of one more
  pub most_next : (ss : List Shape) (k : ℕ) (s : Shape) → slice_get ss k ≡ Some s
      → most_changes_among desc db set number (take (k + 1) ss) ≡ most_changes_among desc db set number (take k ss) + cond (is_manual_over s set) (most_changes number (manual_of desc db s)) 0
  most_next [] k s at = absurd (cc at)
  most_next (t ∷ ss) zero s at =
      let same : t ≡ s = some_shape db set number (record { owner = 0; values = [] }) t s at in
      let one = ap (λ (x : Shape). cond (is_manual_over x set) (most_changes number (manual_of desc db x)) 0) same in
      omega (arith, one)
  most_next (t ∷ ss) (suc k) s at =
      let e : suc k + 1 ≡ suc (k + 1) = omega arith in
      let one : ℕ = cond (is_manual_over t set) (most_changes number (manual_of desc db t)) 0 in
      let first : ℕ = most_changes_among desc db set number (take k ss) in
      let here : ℕ = cond (is_manual_over s set) (most_changes number (manual_of desc db s)) 0 in
      let turned : one + (first + here) ≡ (one + first) + here = omega arith in
      ap (λ n. most_changes_among desc db set number (take n (t ∷ ss))) e ∙ ap (λ n. one + n) (most_next ss k s at) ∙ turned

  pub most_low : (ss : List Shape) (k : ℕ) → most_changes_among desc db set number (take k ss) ≤ most_changes_among desc db set number ss
  most_low [] zero = omega arith
  most_low [] (suc k) = omega arith
  most_low (t ∷ ss) zero = omega arith
  most_low (t ∷ ss) (suc k) = omega (arith, most_low ss k)

  pub most_step : (k : ℕ) (s : Shape) (a b : ℕ) → slice_get desc.structures k ≡ Some s → is_manual_over s set ≡ true → a ≤ most_changes_among desc db set number (take k desc.structures) → b ≤ most_changes number (manual_of desc db s)
      → a + b ≤ most_changes_among desc db set number (take (k + 1) desc.structures)
  most_step k s a b at manual first second =
      let here : cond (is_manual_over s set) (most_changes number (manual_of desc db s)) 0 ≡ most_changes number (manual_of desc db s) = ap (λ t. cond t (most_changes number (manual_of desc db s)) 0) manual in
      omega (arith, most_next desc.structures k s at, here, first, second)

  pub most_skip : (k a : ℕ) (s : Shape) → slice_get desc.structures k ≡ Some s → a ≤ most_changes_among desc db set number (take k desc.structures) → a ≤ most_changes_among desc db set number (take (k + 1) desc.structures)
  most_skip k a s at first = omega (arith, most_next desc.structures k s at, first)

  pub most_end : (k a : ℕ) → a ≤ most_changes_among desc db set number (take k desc.structures) → a ≤ most_changes_among desc db set number desc.structures
  most_end k a first = omega (arith, most_low desc.structures k, first)

-- before any
pub moved_start : (desc : Described) (db : Db) (set number : ℕ) (new : Record) (now : ListsOf) → AreManual desc db set now → MovedUpto desc db set number new 0 now
moved_start desc db set number new now are = record {
  done = λ j s low at manual. absurd (omega (arith, low));
  left = λ j s le at manual. are j s at manual;
  none = λ j s low at. absurd (omega (arith, low));
}

-- the number of a list that is moved is that of a manual subset
pub off_number : (ss : List Shape) (k : ℕ) (s : Shape) (set m : ℕ) → slice_get ss k ≡ Some s → is_manual_over s set ≡ true → has_manual ss set m ≡ false → (m == s.number) ≡ false
off_number ss k s set m at manual off = by (m == s.number) refl
  where
    by : (b : Bool) → (m == s.number) ≡ b → b ≡ false
    by true is = absurd (cc (number_manual ss k s set m at manual is, off))
    by false is = refl
