-- The first line of each program.
use Rattle.std.proofs.Common.{◌≡◌, ◌∙◌, ◌≤◌, ◌<◌, ◌+◌, ◌||◌, ℕ, zero, suc, List, [], ◌∷◌, ◌++◌, Bool, true, false, cond, nat_lt, Some, None, length, drop, get_or, refl, sym, ap, subst, arith}
use Rattle.std.specs.Prelude.{slice_get}
use Rattle.std.specs.List.{list_any}
use Rattle.std.specs.Str.{bytes_eq}
use Rattle.std.specs.declared.option.Option.{Option}
use Rattle.std.proofs.lemmas.Bool.Decides.{nat_tests}
use Rattle.std.proofs.lemmas.List.{drop_more, drop_all}
use Rattle.std.proofs.lemmas.Option.{get_or_from_slice_get}
use Rattle.std.proofs.lemmas.Slice.Eq.{bytes_eq-Decides}
use Rattle.dms_runner.specs.declared.waiting.WaitingLine.{WaitingLine}
use Rattle.dms_runner.specs.declared.waiting.WaitingLines.{WaitingLines}
use Rattle.dms_runner.specs.Firsts.{AreFirst, first_slots, is_at, is_line_of, lines_of, next_slot, none_seen, put_in, put_some, seen_too, standing}
use Rattle.dms_runner.specs.Waiting.{has_line}

-- ---- names

alike : (a b : List ℕ) → bytes_eq a b ≡ true → a ≡ b
alike a b h = (bytes_eq-Decides a b).0 h

itself : (a : List ℕ) → bytes_eq a a ≡ true
itself a = (bytes_eq-Decides a a).1 refl

unlike : (a b : List ℕ) → bytes_eq a b ≡ false → bytes_eq b a ≡ false
unlike a b h = by (bytes_eq b a) refl
  where
    by : (t : Bool) → bytes_eq b a ≡ t → t ≡ false
    by true e = let same = alike b a e in let is : bytes_eq a b ≡ true = subst (λ (x : List ℕ). bytes_eq a x ≡ true) (sym same) (itself a) in absurd (let no : true ≡ false = sym is ∙ h in cc)
    by false e = refl

-- ---- tests

pub or_none : (a : Bool) → (a || false) ≡ a
or_none true = refl
or_none false = refl

or_assoc : (a b c : Bool) → ((a || b) || c) ≡ (a || (b || c))
or_assoc true b c = refl
or_assoc false b c = refl

or_swapped : (a b c : Bool) → ((a || b) || c) ≡ ((a || c) || b)
or_swapped true b c = refl
or_swapped false true true = refl
or_swapped false true false = refl
or_swapped false false c = sym (or_none c)

-- a program that was seen is seen as well as before
pub seen_again : (seen : List ℕ → Bool) (a : List ℕ) → seen a ≡ true → (b : List ℕ) → seen_too seen a b ≡ seen b
seen_again seen a is b = by (bytes_eq a b) refl
  where
    by : (t : Bool) → bytes_eq a b ≡ t → (seen b || t) ≡ seen b
    by true e = let s : seen b ≡ true = subst (λ (x : List ℕ). seen x ≡ true) (alike a b e) is in rw s refl
    by false e = or_none (seen b)

-- ---- lists

pub standing_on : (xs ys : List (Option WaitingLine)) → standing (xs ++ ys) ≡ standing xs ++ standing ys
standing_on [] ys = refl
standing_on (None ∷ xs) ys = standing_on xs ys
standing_on (Some h ∷ xs) ys = ap (λ (l : List WaitingLine). h ∷ l) (standing_on xs ys)

standing_short : (xs : List (Option WaitingLine)) → length (standing xs) ≤ length xs
standing_short [] = omega arith
standing_short (None ∷ xs) = omega (arith, standing_short xs)
standing_short (Some h ∷ xs) = omega (arith, standing_short xs)

pub line_on : (xs ys : List WaitingLine) (name : List ℕ) → has_line (xs ++ ys) name ≡ (has_line xs name || has_line ys name)
line_on [] ys name = refl
line_on (x ∷ xs) ys name = ap (λ (b : Bool). bytes_eq x.program name || b) (line_on xs ys name) ∙ sym (or_assoc (bytes_eq x.program name) (has_line xs name) (has_line ys name))

-- ---- the same programs were seen

firsts_as : (n : ℕ) (s t : List ℕ → Bool) (xs : List (Option WaitingLine)) → ((b : List ℕ) → s b ≡ t b) → first_slots n s xs ≡ first_slots n t xs
firsts_as n s t xs e = λ i. first_slots n (λ b. e b i) xs

-- ---- a line more

pushed_if : (t : Bool) (n m : ℕ) (rest : List ℕ) → n ≡ m → rest ++ cond t [] (n ∷ []) ≡ rest ++ cond t [] (m ∷ [])
pushed_if t n m rest is = ap (λ (k : ℕ). rest ++ cond t [] (k ∷ [])) is

pushed : (n : ℕ) (seen : List ℕ → Bool) (xs : List (Option WaitingLine)) (h : WaitingLine)
    → first_slots n seen (xs ++ Some h ∷ []) ≡ first_slots n seen xs ++ cond (seen h.program || has_line (standing xs) h.program) [] ((n + length xs) ∷ [])
pushed n seen [] h = by (seen h.program)
  where
    by : (t : Bool) → cond t [] (n ∷ []) ≡ cond (t || false) [] ((n + 0) ∷ [])
    by true = refl
    by false = let e : n ≡ n + 0 = omega arith in ap (λ (k : ℕ). k ∷ []) e
pushed n seen (None ∷ xs) h =
    let e : n + 1 + length xs ≡ n + suc (length xs) = omega arith in
    pushed (n + 1) seen xs h ∙ pushed_if (seen h.program || has_line (standing xs) h.program) (n + 1 + length xs) (n + suc (length xs)) (first_slots (n + 1) seen xs) e
pushed n seen (Some g ∷ xs) h = by (seen g.program) refl (pushed (n + 1) seen xs h) (pushed (n + 1) (seen_too seen g.program) xs h)
  where
    at : n + 1 + length xs ≡ n + suc (length xs)
    at = omega arith

    by : (t : Bool) → seen g.program ≡ t
        → first_slots (n + 1) seen (xs ++ Some h ∷ []) ≡ first_slots (n + 1) seen xs ++ cond (seen h.program || has_line (standing xs) h.program) [] ((n + 1 + length xs) ∷ [])
        → first_slots (n + 1) (seen_too seen g.program) (xs ++ Some h ∷ []) ≡ first_slots (n + 1) (seen_too seen g.program) xs ++ cond (seen_too seen g.program h.program || has_line (standing xs) h.program) [] ((n + 1 + length xs) ∷ [])
        → cond t (first_slots (n + 1) seen (xs ++ Some h ∷ [])) (n ∷ first_slots (n + 1) (seen_too seen g.program) (xs ++ Some h ∷ []))
        ≡ cond t (first_slots (n + 1) seen xs) (n ∷ first_slots (n + 1) (seen_too seen g.program) xs) ++ cond (seen h.program || (bytes_eq g.program h.program || has_line (standing xs) h.program)) [] ((n + suc (length xs)) ∷ [])
    by true e one two =
        let f : (seen h.program || has_line (standing xs) h.program) ≡ (seen h.program || (bytes_eq g.program h.program || has_line (standing xs) h.program)) =
        ap (λ (b : Bool). b || has_line (standing xs) h.program) (sym (seen_again seen g.program e h.program)) ∙ or_assoc (seen h.program) (bytes_eq g.program h.program) (has_line (standing xs) h.program) in
        one ∙ ap (λ (b : Bool). first_slots (n + 1) seen xs ++ cond b [] ((n + 1 + length xs) ∷ [])) f ∙ pushed_if _ (n + 1 + length xs) (n + suc (length xs)) (first_slots (n + 1) seen xs) at
    by false e one two =
        let f = or_assoc (seen h.program) (bytes_eq g.program h.program) (has_line (standing xs) h.program) in
        ap (λ (l : List ℕ). n ∷ l) (two ∙ ap (λ (b : Bool). first_slots (n + 1) (seen_too seen g.program) xs ++ cond b [] ((n + 1 + length xs) ∷ [])) f ∙ pushed_if _ (n + 1 + length xs) (n + suc (length xs)) (first_slots (n + 1) (seen_too seen g.program) xs) at)

-- ---- whether a line of a program stands

bools : (q l m s : Bool) → (l || (s || q)) ≡ (m || (s || q)) → ((q || l) || s) ≡ ((q || m) || s)
bools true l m s h = refl
bools false true true s h = refl
bools false true false true h = refl
bools false true false false h = h
bools false false true true h = refl
bools false false true false h = h
bools false false false s h = refl

any_first : (slots : List (Option WaitingLine)) (name : List ℕ) (n : ℕ) (seen : List ℕ → Bool) (xs : List (Option WaitingLine)) → ((k : ℕ) → slice_get slots (n + k) ≡ slice_get xs k)
    → (list_any (is_at slots name) (first_slots n seen xs) || seen name) ≡ (has_line (standing xs) name || seen name)
any_first slots name n seen [] at = refl
any_first slots name n seen (None ∷ xs) at = any_first slots name (n + 1) seen xs (λ k. let e : n + 1 + k ≡ n + suc k = omega arith in ap (slice_get slots) e ∙ at (suc k))
any_first slots name n seen (Some g ∷ xs) at =
    let on = λ (k : ℕ). (let e : n + 1 + k ≡ n + suc k = omega arith in ap (slice_get slots) e ∙ at (suc k)) in
    by (seen g.program) refl (any_first slots name (n + 1) seen xs on) (any_first slots name (n + 1) (seen_too seen g.program) xs on)
  where
    here : is_at slots name n ≡ bytes_eq g.program name
    here = let e : n ≡ n + 0 = omega arith in ap (λ (o : Option (Option WaitingLine)). is_line_of name o) (ap (slice_get slots) e ∙ at 0)

    by : (t : Bool) → seen g.program ≡ t
        → (list_any (is_at slots name) (first_slots (n + 1) seen xs) || seen name) ≡ (has_line (standing xs) name || seen name)
        → (list_any (is_at slots name) (first_slots (n + 1) (seen_too seen g.program) xs) || seen_too seen g.program name) ≡ (has_line (standing xs) name || seen_too seen g.program name)
        → (list_any (is_at slots name) (cond t (first_slots (n + 1) seen xs) (n ∷ first_slots (n + 1) (seen_too seen g.program) xs)) || seen name) ≡ ((bytes_eq g.program name || has_line (standing xs) name) || seen name)
    by true e one two =
        one ∙ ap (λ (b : Bool). has_line (standing xs) name || b) (sym (seen_again seen g.program e name)) ∙ turn (has_line (standing xs) name) (seen name) (bytes_eq g.program name)
      where
        turn : (m s q : Bool) → (m || (s || q)) ≡ ((q || m) || s)
        turn true true true = refl
        turn true true false = refl
        turn true false true = refl
        turn true false false = refl
        turn false true true = refl
        turn false true false = refl
        turn false false true = refl
        turn false false false = refl
    by false e one two = ap (λ (b : Bool). (b || list_any (is_at slots name) (first_slots (n + 1) (seen_too seen g.program) xs)) || seen name) here ∙ bools (bytes_eq g.program name) _ _ (seen name) two

pub any_found : (w : WaitingLines) (name : List ℕ) → AreFirst w → list_any (is_at w.slots.items name) w.firsts.items ≡ has_line (lines_of w) name
any_found w name are =
    ap (list_any (is_at w.slots.items name)) are.firsts ∙ sym (or_none _) ∙ any_first w.slots.items name 0 none_seen w.slots.items (λ k. let e : 0 + k ≡ k = omega arith in ap (slice_get w.slots.items) e) ∙ or_none _

-- ---- a slot at its place

put_low : (n m : ℕ) (seen : List ℕ → Bool) (xs : List (Option WaitingLine)) → n < m → put_in n (first_slots m seen xs) ≡ n ∷ first_slots m seen xs
put_low n m seen [] low = refl
put_low n m seen (None ∷ xs) low = put_low n (m + 1) seen xs (omega (arith, low))
put_low n m seen (Some h ∷ xs) low = by (seen h.program) (put_low n (m + 1) seen xs (omega (arith, low)))
  where
    below : nat_lt n m ≡ true
    below = grind (arith, nat_tests, low)

    by : (t : Bool) → put_in n (first_slots (m + 1) seen xs) ≡ n ∷ first_slots (m + 1) seen xs
        → put_in n (cond t (first_slots (m + 1) seen xs) (m ∷ first_slots (m + 1) (seen_too seen h.program) xs)) ≡ n ∷ cond t (first_slots (m + 1) seen xs) (m ∷ first_slots (m + 1) (seen_too seen h.program) xs)
    by true on = on
    by false on = ap (λ (b : Bool). cond b (n ∷ m ∷ first_slots (m + 1) (seen_too seen h.program) xs) (m ∷ put_in n (first_slots (m + 1) (seen_too seen h.program) xs))) below

abbrev IsHigh : ℕ → Option ℕ → Type 0
IsHigh n None = Unit {0}
IsHigh n (Some r) = n ≤ r

higher : (n : ℕ) (o : Option ℕ) → IsHigh (n + 1) o → IsHigh n o
higher n None h = tt
higher n (Some r) h = omega (arith, h)

next_high : (n : ℕ) (name : List ℕ) (xs : List (Option WaitingLine)) → IsHigh n (next_slot n name xs)
next_high n name [] = tt
next_high n name (None ∷ xs) = higher n (next_slot (n + 1) name xs) (next_high (n + 1) name xs)
next_high n name (Some h ∷ xs) = by (bytes_eq h.program name) (higher n (next_slot (n + 1) name xs) (next_high (n + 1) name xs))
  where
    by : (t : Bool) → IsHigh n (next_slot (n + 1) name xs) → IsHigh n (cond t (Some n) (next_slot (n + 1) name xs))
    by true on = omega arith
    by false on = on

put_behind : (n : ℕ) (o : Option ℕ) (l : List ℕ) → IsHigh (n + 1) o → put_some o (n ∷ l) ≡ n ∷ put_some o l
put_behind n None l high = refl
put_behind n (Some r) l high = let e : nat_lt r n ≡ false = grind (arith, nat_tests, high) in ap (λ (b : Bool). cond b (r ∷ n ∷ l) (n ∷ put_in r l)) e

-- where lines of a program were seen no longer, its next one is the first
pub unseen : (n : ℕ) (s t : List ℕ → Bool) (a : List ℕ) (xs : List (Option WaitingLine)) → s a ≡ false → ((b : List ℕ) → t b ≡ (s b || bytes_eq a b))
    → first_slots n s xs ≡ put_some (next_slot n a xs) (first_slots n t xs)
unseen n s t a [] off on = refl
unseen n s t a (None ∷ xs) off on = unseen (n + 1) s t a xs off on
unseen n s t a (Some h ∷ xs) off on =
    by (unseen (n + 1) s t a xs off on) (λ off_. unseen (n + 1) (seen_too s h.program) (seen_too t h.program) a xs off_ more) (bytes_eq h.program a) refl (s h.program) refl
  where
    more : (b : List ℕ) → seen_too t h.program b ≡ (seen_too s h.program b || bytes_eq a b)
    more b = ap (λ (x : Bool). x || bytes_eq h.program b) (on b) ∙ or_swapped (s b) (bytes_eq a b) (bytes_eq h.program b)

    by : first_slots (n + 1) s xs ≡ put_some (next_slot (n + 1) a xs) (first_slots (n + 1) t xs)
        → (seen_too s h.program a ≡ false → first_slots (n + 1) (seen_too s h.program) xs ≡ put_some (next_slot (n + 1) a xs) (first_slots (n + 1) (seen_too t h.program) xs))
        → (u : Bool) → bytes_eq h.program a ≡ u → (v : Bool) → s h.program ≡ v
        → cond v (first_slots (n + 1) s xs) (n ∷ first_slots (n + 1) (seen_too s h.program) xs) ≡ put_some (cond u (Some n) (next_slot (n + 1) a xs)) (cond (t h.program) (first_slots (n + 1) t xs) (n ∷ first_slots (n + 1) (seen_too t h.program) xs))
    by one two true e v f =
        let same = alike h.program a e in
        let unseen_ : v ≡ false = sym f ∙ ap s same ∙ off in
        let seen : t h.program ≡ true = on h.program ∙ or_right (s h.program) (bytes_eq a h.program) (subst (λ (x : List ℕ). bytes_eq x h.program ≡ true) same (itself h.program)) in
        let as_ : first_slots (n + 1) (seen_too s h.program) xs ≡ first_slots (n + 1) t xs = firsts_as (n + 1) (seen_too s h.program) t xs (λ b. ap (λ (x : List ℕ). s b || bytes_eq x b) same ∙ sym (on b)) in
        ap (λ (x : Bool). cond x (first_slots (n + 1) s xs) (n ∷ first_slots (n + 1) (seen_too s h.program) xs)) unseen_
        ∙ ap (λ (l : List ℕ). n ∷ l) as_ ∙ sym (put_low n (n + 1) t xs (omega arith))
        ∙ ap (λ (x : Bool). put_in n (cond x (first_slots (n + 1) t xs) (n ∷ first_slots (n + 1) (seen_too t h.program) xs))) (sym seen)
      where
        or_right : (x y : Bool) → y ≡ true → (x || y) ≡ true
        or_right true y k = refl
        or_right false y k = k
    by one two false e true f =
        let same : t h.program ≡ true = on h.program ∙ ap (λ (x : Bool). x || bytes_eq a h.program) f in
        one ∙ ap (λ (x : Bool). put_some (next_slot (n + 1) a xs) (cond x (first_slots (n + 1) t xs) (n ∷ first_slots (n + 1) (seen_too t h.program) xs))) (sym same)
    by one two false e false f =
        let same : t h.program ≡ false = on h.program ∙ ap (λ (x : Bool). x || bytes_eq a h.program) f ∙ unlike h.program a e in
        let off_ : seen_too s h.program a ≡ false = ap (λ (x : Bool). x || bytes_eq h.program a) off ∙ e in
        ap (λ (l : List ℕ). n ∷ l) (two off_)
        ∙ sym (put_behind n (next_slot (n + 1) a xs) (first_slots (n + 1) (seen_too t h.program) xs) (next_high (n + 1) a xs))
        ∙ ap (λ (x : Bool). put_some (next_slot (n + 1) a xs) (cond x (first_slots (n + 1) t xs) (n ∷ first_slots (n + 1) (seen_too t h.program) xs))) (sym same)

-- ---- reading the firsts

pub any_at : (t : ℕ → Bool) (l : List ℕ) (j x : ℕ) → j < length l → x ≡ get_or l j x → t x ≡ true → list_any t l ≡ true
any_at t [] j x low at is = absurd (omega (arith, low))
any_at t (y ∷ l) zero x low at is = ap (λ (b : Bool). b || list_any t l) (ap t (sym at) ∙ is)
any_at t (y ∷ l) (suc j) x low at is = or_right (t y) (list_any t l) (any_at t l j x (omega (arith, low)) at is)
  where
    or_right : (x y : Bool) → y ≡ true → (x || y) ≡ true
    or_right true y k = refl
    or_right false y k = k

-- ---- looking for the next slot

slot_if : (n : ℕ) (name : List ℕ) (o : Option WaitingLine) (xs : List (Option WaitingLine)) (t : Bool) → is_line_of name (Some o) ≡ t → next_slot n name (o ∷ xs) ≡ cond t (Some n) (next_slot (n + 1) name xs)
slot_if n name None xs true is = absurd (cc)
slot_if n name None xs false is = refl
slot_if n name (Some h) xs t is = ap (λ (b : Bool). cond b (Some n) (next_slot (n + 1) name xs)) is

pub slot_at : (slots : List (Option WaitingLine)) (n : ℕ) (name : List ℕ) (t : Bool) → n < length slots → is_at slots name n ≡ t → next_slot n name (drop n slots) ≡ cond t (Some n) (next_slot (n + 1) name (drop (n + 1) slots))
slot_at slots n name t low is = by (slice_get slots n) refl
  where
    by : (o : Option (Option WaitingLine)) → slice_get slots n ≡ o → next_slot n name (drop n slots) ≡ cond t (Some n) (next_slot (n + 1) name (drop (n + 1) slots))
    by None at = absurd (no_slot slots n low at)
      where
        no_slot : (xs : List (Option WaitingLine)) (k : ℕ) → k < length xs → slice_get xs k ≡ None → ⊥
        no_slot [] k low at = omega (arith, low)
        no_slot (x ∷ xs) zero low at = cc
        no_slot (x ∷ xs) (suc k) low at = no_slot xs k (omega (arith, low)) at
    by (Some o) at =
        ap (next_slot n name) (drop_more slots n o low ∙ ap (λ (x : Option WaitingLine). x ∷ drop (n + 1) slots) (get_or_from_slice_get slots n o o at))
        ∙ slot_if n name o (drop (n + 1) slots) t (ap (is_line_of name) (sym at) ∙ is)

pub slot_out : (slots : List (Option WaitingLine)) (n : ℕ) (name : List ℕ) → length slots ≤ n → next_slot n name (drop n slots) ≡ None
slot_out slots n name over = ap (next_slot n name) (drop_all n slots over)

-- ---- one line more

pub held_lines : (slots : List (Option WaitingLine)) (h : WaitingLine) → standing (slots ++ Some h ∷ []) ≡ standing slots ++ h ∷ []
held_lines slots h = standing_on slots (Some h ∷ [])

pub held_firsts : (slots : List (Option WaitingLine)) (h : WaitingLine) (t : Bool) → has_line (standing slots) h.program ≡ t → first_slots 0 none_seen (slots ++ Some h ∷ []) ≡ first_slots 0 none_seen slots ++ cond t [] (length slots ∷ [])
held_firsts slots h t is =
    let e : 0 + length slots ≡ length slots = omega arith in
    pushed 0 none_seen slots h ∙ ap (λ (b : Bool). first_slots 0 none_seen slots ++ cond b [] ((0 + length slots) ∷ [])) is ∙ ap (λ (k : ℕ). first_slots 0 none_seen slots ++ cond t [] (k ∷ [])) e

pub held_short : (slots : List (Option WaitingLine)) → length (standing slots) ≤ length slots
held_short slots = standing_short slots
