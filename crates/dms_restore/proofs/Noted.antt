-- What is noted of a block behind live entries is what their changes tell of it.
use Rattle.std.specs.Prelude.{◌||◌, ◌&&◌, nat_le, is_some, option_map}
use Rattle.std.proofs.Common.{ℕ, ◌+◌, ◌≤◌, ◌<◌, ◌≡◌, inl, inr, Bool, true, false, cond, List, [], ◌∷◌, ◌++◌, length, Option, Some, None, refl, sym, ◌∙◌, ap, arith}
use Rattle.std.proofs.lemmas.Bool.{cases_Bool, true≢false}
use Rattle.std.proofs.lemmas.Bool.Decides.{nat_tests}
use Rattle.dms_history.specs.Events.{BlockBytes, Event, change, quiet, control, begin}
use Rattle.dms_history.specs.Images.{is_at, or_else, last_after, first_before}
use Rattle.dms_history.specs.Ranges.{Logged, event, range, patch_bytes, range_change, changes_of}
use Rattle.dms_history.proofs.Picks.{place_cases, last_append}
use Rattle.dms_restore.proofs.Changes.{changes_on}
use Rattle.dms_restore.proofs.Patched.{patched_by, patched, one_last}
use Rattle.dms_restore.specs.Named.{Noted, laid_over, noted_by, noted_from, undone_by, undone, named_of}

abbrev Named : Type 0
Named = Option (Option BlockBytes)

or_true : (a : Bool) → a || true ≡ true
or_true true = refl
or_true false = refl

or_false : (a : Bool) → a || false ≡ a
or_false true = refl
or_false false = refl

and_false : (a : Bool) → a && false ≡ false
and_false true = refl
and_false false = refl

abbrev pub some_named : Option BlockBytes → Named
some_named o = option_map (λ x. Some x) o

or_some : (a b : Option BlockBytes) (c : Named) → or_else (some_named (or_else a b)) c ≡ or_else (some_named a) (or_else (some_named b) c)
or_some None b c = refl
or_some (Some x) b c = refl

pub or_nothing : (w : Named) → w ≡ or_else w None
or_nothing None = refl
or_nothing (Some x) = refl

-- ---- as it stands

either_stands : (t : Bool) (one two : Noted) → (cond t one two).stands ≡ cond t one.stands two.stands
either_stands true one two = refl
either_stands false one two = refl

stands_by : (f b : ℕ) (names : Bool) (n : Noted) (x : Logged) → (noted_by f b names n x).stands ≡ patched_by f b n.stands x
stands_by f b names n (event (change g k before after)) = either_stands (is_at f b g k) (record { stands = Some after; named = n.named || names }) n
stands_by f b names n (event (quiet m)) = refl
stands_by f b names n (event (control m next counts described)) = refl
stands_by f b names n (event (begin m how)) = refl
stands_by f b names n (range g k place bytes) = either_stands (is_at f b g k) (laid_over names place bytes n) n

pub stands_from : (f b k i : ℕ) (n : Noted) (xs : List Logged) → (noted_from f b k i n xs).stands ≡ patched f b n.stands xs
stands_from f b k i n [] = refl
stands_from f b k i n (x ∷ xs) = stands_from f b k (i + 1) (noted_by f b (nat_le k i) n x) xs ∙ ap (λ o. patched f b o xs) (stands_by f b (nat_le k i) n x)

-- ---- before the place from which on changes name it

either_named : (t : Bool) (one two : Noted) (u : Bool) → one.named ≡ u → two.named ≡ u → (cond t one two).named ≡ u
either_named true one two u first second = first
either_named false one two u first second = second

pub unnamed_by : (f b : ℕ) (n : Noted) (x : Logged) → n.named ≡ false → (noted_by f b false n x).named ≡ false
unnamed_by f b n (event (change g k before after)) off = either_named (is_at f b g k) (record { stands = Some after; named = n.named || false }) n false (or_false n.named ∙ off) off
unnamed_by f b n (event (quiet m)) off = off
unnamed_by f b n (event (control m next counts described)) off = off
unnamed_by f b n (event (begin m how)) off = off
unnamed_by f b n (range g k place bytes) off =
    either_named (is_at f b g k) (laid_over false place bytes n) n false (ap (λ t. n.named || t) (and_false (is_some n.stands)) ∙ or_false n.named ∙ off) off

pub not_yet : (k i : ℕ) → i < k → nat_le k i ≡ false
not_yet k i low = grind (arith, nat_tests, low)

pub from_now : (k i : ℕ) → k ≤ i → nat_le k i ≡ true
from_now k i le = grind (arith, nat_tests, le)

-- The first k entries name nothing.
pub front_part : (f b k i : ℕ) (n : Noted) (xs ys : List Logged) → n.named ≡ false → i + length xs ≡ k → (m : Noted) × (noted_from f b k i n (xs ++ ys) ≡ noted_from f b k k m ys) × (m.named ≡ false) × (m.stands ≡ patched f b n.stands xs)
front_part f b k i n [] ys off at =
    let here : i ≡ k = omega (arith, at) in
    (n, ap (λ j. noted_from f b k j n ys) here, off, refl)
front_part f b k i n (x ∷ xs) ys off at =
    let low : i < k = omega (arith, at) in
    let none = not_yet k i low in
    let r = front_part f b k (i + 1) (noted_by f b (nat_le k i) n x) xs ys (ap (λ t. (noted_by f b t n x).named) none ∙ unnamed_by f b n x off) (omega (arith, at)) in
    (r.0, r.1, r.2, r.3 ∙ ap (λ o. patched f b o xs) (stands_by f b (nat_le k i) n x))

-- ---- from there on

module _ (f b : ℕ) where
  -- one change more names it
  named_step : (live : List Event) (n : Noted) (x : Logged) → n.stands ≡ last_after f b live → named_of (noted_by f b true n x) ≡ or_else (some_named (last_after f b (changes_of live x))) (named_of n)
  named_step live n (event (change g k before after)) is = chosen (is_at f b g k)
    where
      chosen : (t : Bool) → named_of (cond t (record { stands = Some after; named = n.named || true }) n) ≡ or_else (some_named (or_else None (cond t (Some after) None))) (named_of n)
      chosen true = ap (λ t. cond t (Some (Some after)) None) (or_true n.named)
      chosen false = refl
  named_step live n (event (quiet m)) is = refl
  named_step live n (event (control m next counts described)) is = refl
  named_step live n (event (begin m how)) is = refl
  named_step live n (range g k place bytes) is = elim (place_cases f b g k) [
    | inl at ↦
        ap (λ t. named_of (cond t (laid_over true place bytes n) n)) at.2
        ∙ here n.stands n.named at.2
        ∙ ap (λ o. or_else (some_named (last_after f b (range_change g k place bytes o))) (named_of n)) (is ∙ (λ i. last_after (sym at.0 i) (sym at.1 i) live))
    | inr apart ↦ ap (λ t. named_of (cond t (laid_over true place bytes n) n)) apart.1 ∙ there (last_after g k live) apart.1
  ]
    where
      at_it : (t : Bool) (x : BlockBytes) (w : Named) → t ≡ true → Some (Some x) ≡ or_else (some_named (or_else None (cond t (Some x) None))) w
      at_it true x w on = refl
      at_it false x w on = absurd (true≢false (sym on))

      off_it : (t : Bool) (x : BlockBytes) (w : Named) → t ≡ false → w ≡ or_else (some_named (or_else None (cond t (Some x) None))) w
      off_it false x w off = refl
      off_it true x w off = absurd (true≢false off)

      there : (o : Option BlockBytes) → is_at f b g k ≡ false → named_of n ≡ or_else (some_named (last_after f b (range_change g k place bytes o))) (named_of n)
      there None off = refl
      there (Some old) off = off_it (is_at f b g k) (patch_bytes place bytes old) (named_of n) off

      here : (o : Option BlockBytes) (t : Bool) → is_at f b g k ≡ true → cond (t || (is_some o && true)) (Some (option_map (patch_bytes place bytes) o)) None ≡ or_else (some_named (last_after f b (range_change g k place bytes o))) (cond t (Some o) None)
      here None true on = refl
      here None false on = refl
      here (Some old) t on =
          ap (λ u. cond u (Some (Some (patch_bytes place bytes old))) None) (or_true t)
          ∙ at_it (is_at f b g k) (patch_bytes place bytes old) (cond t (Some (Some old)) None) on

  -- the changes behind others name it last
  pub named_behind : (k i : ℕ) (live : List Event) (n : Noted) (ys : List Logged) → k ≤ i → n.stands ≡ last_after f b live → named_of (noted_from f b k i n ys) ≡ or_else (some_named (last_after f b (changes_on live ys))) (named_of n)
  named_behind k i live n [] le is = refl
  named_behind k i live n (x ∷ ys) le is =
      let now = from_now k i le in
      let c = changes_of live x in
      let next = noted_by f b (nat_le k i) n x in
      let stands : next.stands ≡ last_after f b (live ++ c) = stands_by f b (nat_le k i) n x ∙ ap (λ o. patched_by f b o x) is ∙ sym (one_last f b live x) in
      named_behind k (i + 1) (live ++ c) next ys (omega (arith, le)) stands
      ∙ ap (λ w. or_else (some_named (last_after f b (changes_on (live ++ c) ys))) w) (ap (λ t. named_of (noted_by f b t n x)) now ∙ named_step live n x is)
      ∙ sym (or_some (last_after f b (changes_on (live ++ c) ys)) (last_after f b c) (named_of n))
      ∙ ap (λ o. or_else (some_named o) (named_of n)) (sym (last_append c (changes_on (live ++ c) ys) f b))

  -- ---- what was there before

  keeps_by : (n : Noted) (x : Logged) → n.named ≡ true → ((undone_by f b n x).named ≡ true) × ((undone_by f b n x).stands ≡ n.stands)
  keeps_by n (event (change g k before after)) on = chosen (is_at f b g k) n.named on
    where
      first : Noted
      first = record { stands = before; named = true }

      chosen : (t u : Bool) → u ≡ true → ((cond t (cond u n first) n).named ≡ true) × ((cond t (cond u n first) n).stands ≡ n.stands)
      chosen true true is = (on, refl)
      chosen true false is = absurd (true≢false (sym is))
      chosen false u is = (on, refl)
  keeps_by n (event (quiet m)) on = (on, refl)
  keeps_by n (event (control m next counts described)) on = (on, refl)
  keeps_by n (event (begin m how)) on = (on, refl)
  keeps_by n (range g k place bytes) on = chosen (is_at f b g k)
    where
      more : Noted
      more = record { stands = n.stands; named = n.named || is_some n.stands }

      chosen : (t : Bool) → ((cond t more n).named ≡ true) × ((cond t more n).stands ≡ n.stands)
      chosen true = (ap (λ u. u || is_some n.stands) on, refl)
      chosen false = (on, refl)

  -- what is named stays as it is
  named_stays : (n : Noted) (ys : List Logged) → n.named ≡ true → named_of (undone f b n ys) ≡ Some n.stands
  named_stays n [] on = ap (λ t. cond t (Some n.stands) None) on
  named_stays n (x ∷ ys) on =
      let k = keeps_by n x on in
      named_stays (undone_by f b n x) ys k.0 ∙ ap (λ (o : Option BlockBytes). Some o) k.1

  or_named : (t : Bool) (o : Option BlockBytes) (w : Named) → t ≡ true → Some o ≡ or_else (cond t (Some o) None) w
  or_named true o w on = refl
  or_named false o w on = absurd (true≢false (sym on))

  -- it is named already, or the first change behind names it
  pub undone_is : (live : List Event) (n : Noted) (ys : List Logged) → n.stands ≡ last_after f b live → named_of (undone f b n ys) ≡ or_else (named_of n) (first_before f b (changes_on live ys))
  undone_is live n [] is = or_nothing (named_of n)
  undone_is live n (event (change g k before after) ∷ ys) is = elim (cases_Bool (is_at f b g k)) [
    | inl on ↦
        ap (λ t. named_of (undone f b (cond t (cond n.named n first) n) ys)) on
        ∙ here n.named refl
        ∙ sym (ap (λ t. or_else (named_of n) (cond t (Some before) rest)) on)
    | inr off ↦
        let stands : n.stands ≡ last_after f b (live ++ change g k before after ∷ []) =
        is ∙ sym (one_last f b live (event (change g k before after)) ∙ ap (λ t. cond t (Some after) (last_after f b live)) off) in
        ap (λ t. named_of (undone f b (cond t (cond n.named n first) n) ys)) off
        ∙ undone_is (live ++ change g k before after ∷ []) n ys stands
        ∙ sym (ap (λ t. or_else (named_of n) (cond t (Some before) rest)) off)
  ]
    where
      first : Noted
      first = record { stands = before; named = true }

      rest : Named
      rest = first_before f b (changes_on (live ++ change g k before after ∷ []) ys)

      here : (t : Bool) → n.named ≡ t → named_of (undone f b (cond t n first) ys) ≡ or_else (cond t (Some n.stands) None) (Some before)
      here true on = named_stays n ys on
      here false off = named_stays first ys refl
  undone_is live n (event (quiet m) ∷ ys) is = undone_is (live ++ quiet m ∷ []) n ys (is ∙ sym (one_last f b live (event (quiet m))))
  undone_is live n (event (control m next counts described) ∷ ys) is =
      undone_is (live ++ control m next counts described ∷ []) n ys (is ∙ sym (one_last f b live (event (control m next counts described))))
  undone_is live n (event (begin m how) ∷ ys) is = undone_is (live ++ begin m how ∷ []) n ys (is ∙ sym (one_last f b live (event (begin m how))))
  undone_is live n (range g k place bytes ∷ ys) is = elim (place_cases f b g k) [
    | inr apart ↦
        let stands : n.stands ≡ last_after f b (live ++ c) =
        is ∙ sym (one_last f b live x ∙ ap (λ t. cond t (option_map (patch_bytes place bytes) (last_after f b live)) (last_after f b live)) apart.1) in
        ap (λ t. named_of (undone f b (cond t more n) ys)) apart.1 ∙ undone_is (live ++ c) n ys stands ∙ ap (or_else (named_of n)) (sym (elsewhere (last_after g k live) apart.1))
    | inl at ↦
        ap (λ t. named_of (undone f b (cond t more n) ys)) at.2
        ∙ here (λ stands. undone_is (live ++ c) more ys stands) n.stands refl at.2 ((λ i. last_after (at.0 i) (at.1 i) live) ∙ sym is)
  ]
    where
      x : Logged
      x = range g k place bytes

      c : List Event
      c = changes_of live x

      rest : List Event
      rest = changes_on (live ++ c) ys

      more : Noted
      more = record { stands = n.stands; named = n.named || is_some n.stands }

      elsewhere : (o : Option BlockBytes) → is_at f b g k ≡ false → first_before f b (range_change g k place bytes o ++ rest) ≡ first_before f b rest
      elsewhere None off = refl
      elsewhere (Some old) off = ap (λ t. cond t (Some (Some old)) (first_before f b rest)) off

      first_at : (o : Option BlockBytes) (old : BlockBytes) → is_at f b g k ≡ true → o ≡ Some old → first_before f b (range_change g k place bytes o ++ rest) ≡ Some (Some old)
      first_at o old on some = ap (λ p. first_before f b (range_change g k place bytes p ++ rest)) some ∙ ap (λ t. cond t (Some (Some old)) (first_before f b rest)) on

      with_first : (t : Bool) (old : BlockBytes) → Some (Some old) ≡ or_else (cond t (Some (Some old)) None) (Some (Some old))
      with_first true old = refl
      with_first false old = refl

      here : (n.stands ≡ last_after f b (live ++ c) → named_of (undone f b more ys) ≡ or_else (named_of more) (first_before f b rest)) → (o : Option BlockBytes) → n.stands ≡ o → is_at f b g k ≡ true → last_after g k live ≡ n.stands
          → named_of (undone f b more ys) ≡ or_else (named_of n) (first_before f b (c ++ rest))
      here later (Some old) some on same =
          named_stays more ys (ap (λ p. n.named || is_some p) some ∙ or_true n.named)
          ∙ ap (λ (p : Option BlockBytes). Some p) some
          ∙ with_first n.named old
          ∙ (λ i. or_else (cond n.named (Some (sym some i)) None) (sym (first_at (last_after g k live) old on (same ∙ some)) i))
      here later None none on same =
          let nothing : c ≡ [] = ap (range_change g k place bytes) (same ∙ none) in
          let gone : last_after f b (live ++ c) ≡ None =
          one_last f b live x ∙ ap (λ t. cond t (option_map (patch_bytes place bytes) (last_after f b live)) (last_after f b live)) on ∙ ap (option_map (patch_bytes place bytes)) (sym is ∙ none) in
          later (none ∙ sym gone)
          ∙ ap (λ w. or_else w (first_before f b rest)) (ap (λ p. cond (n.named || is_some p) (Some n.stands) None) none ∙ ap (λ t. cond t (Some n.stands) None) (or_false n.named))
          ∙ ap (λ (l : List Event). or_else (named_of n) (first_before f b (l ++ rest))) (sym nothing)
