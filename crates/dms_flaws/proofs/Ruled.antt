-- The rules as tests, and as what live entries agree by.
use Rattle.std.proofs.Common.{◌≡◌, ℕ, zero, suc, ◌+◌, ◌<◌, ◌≤◌, max, ◌⊎◌, inl, inr, Bool, true, false, cond, eqb, ltb, leb, List, [], ◌∷◌, ◌++◌, Option, Some, None, refl, sym, ap, subst, ◌∙◌, append_assoc, arith}
use Rattle.std.specs.Prelude.{◌&&◌, ◌||◌, not}
use Rattle.std.specs.List.{list_all}
use Rattle.std.specs.Str.{bytes_eq}
use Rattle.std.proofs.lemmas.Slice.Eq.{bytes_eq-Decides}
use Rattle.std.proofs.lemmas.Bool.{and_parts, and_from, true≢false}
use Rattle.std.proofs.lemmas.Bool.Decides.{nat_tests}
use Rattle.dms_history.specs.Events.{BlockBytes, Stored, Counts, How, Event, change, quiet, control, begin}
use Rattle.dms_history.specs.Lists.{has, after_last}
use Rattle.dms_history.specs.Places.{is_control, point_numbers}
use Rattle.dms_history.specs.Images.{last_after}
use Rattle.dms_history.specs.Pick.{reached_count}
use Rattle.dms_history.specs.Base.{first_counts}
use Rattle.dms_history.specs.Agrees.{FitsCount, ListAgrees}
use Rattle.dms_flaws.specs.Firsts.{all_pass}
use Rattle.dms_flaws.specs.Rules.{AreOfStructures, CountsAsLeft, IsOfStructures, RulesAgree, RulesAgreeOf, are_same_counts, are_same_from, fits_count, is_in_turn, keeps_rules, says_old}
use Rattle.dms_flaws.proofs.Passing.{pass_at, pass_by}

-- ---- numbers

eq_of : (a b : ℕ) → eqb a b ≡ true → a ≡ b
eq_of a b h = grind (arith, nat_tests)

of_eq : (a b : ℕ) → a ≡ b → eqb a b ≡ true
of_eq a b h = grind (arith, nat_tests)

lt_of : (a b : ℕ) → ltb a b ≡ true → a < b
lt_of a b h = grind (arith, nat_tests)

of_lt : (a b : ℕ) → a < b → ltb a b ≡ true
of_lt a b h = grind (arith, nat_tests)

le_of : (a b : ℕ) → leb a b ≡ true → a ≤ b
le_of a b h = grind (arith, nat_tests)

of_le : (a b : ℕ) → a ≤ b → leb a b ≡ true
of_le a b h = grind (arith, nat_tests)

-- a test of each member, as of each split
all_at : (p : ℕ → Bool) (xs ys : List ℕ) (n : ℕ) → list_all p (xs ++ n ∷ ys) ≡ true → p n ≡ true
all_at p [] ys n all = (and_parts (p n) (list_all p ys) all).0
all_at p (x ∷ xs) ys n all = all_at p xs ys n (and_parts (p x) (list_all p (xs ++ n ∷ ys)) all).1

all_by : (p : ℕ → Bool) (xs : List ℕ) → ((us vs : List ℕ) (n : ℕ) → xs ≡ us ++ n ∷ vs → p n ≡ true) → list_all p xs ≡ true
all_by p [] each = refl
all_by p (x ∷ xs) each = and_from (p x) (list_all p xs) (each [] xs x refl) (all_by p xs (λ us vs n is. each (x ∷ us) vs n (ap (λ (l : List ℕ). x ∷ l) is)))

-- ---- the numbers of points

numbers_append : (xs ys : List Event) → point_numbers (xs ++ ys) ≡ point_numbers xs ++ point_numbers ys
numbers_append [] ys = refl
numbers_append (change f b before after ∷ xs) ys = numbers_append xs ys
numbers_append (quiet n ∷ xs) ys = ap (λ (l : List ℕ). n ∷ l) (numbers_append xs ys)
numbers_append (control n later counts described ∷ xs) ys = ap (λ (l : List ℕ). n ∷ l) (numbers_append xs ys)
numbers_append (begin n how ∷ xs) ys = numbers_append xs ys

-- where a number stands an entry has it
record AtNumber (live : List Event) (xs : List ℕ) (m : ℕ) : Type 0 where
  before : List Event
  at : Event
  behind : List Event
  is : live ≡ before ++ at ∷ behind
  numbers : point_numbers before ≡ xs
  own : point_numbers (at ∷ []) ≡ m ∷ []

head_of : (n m : ℕ) (xs ys : List ℕ) → n ∷ xs ≡ m ∷ ys → (n ≡ m) × (xs ≡ ys)
head_of n m xs ys h = (cc h, cc h)

further : (e : Event) (live : List Event) (front xs : List ℕ) (m : ℕ) → point_numbers (e ∷ []) ≡ front → AtNumber live xs m → ((l : List Event) → point_numbers (e ∷ l) ≡ front ++ point_numbers l) → AtNumber (e ∷ live) (front ++ xs) m
further e live front xs m own at split = record {
  before = e ∷ at.before;
  at = at.at;
  behind = at.behind;
  is = ap (λ (l : List Event). e ∷ l) at.is;
  numbers = split at.before ∙ ap (λ (l : List ℕ). front ++ l) at.numbers;
  own = at.own;
}

first_number : (e : Event) (live : List Event) (m : ℕ) → point_numbers (e ∷ []) ≡ m ∷ [] → AtNumber (e ∷ live) [] m
first_number e live m own = record { before = []; at = e; behind = live; is = refl; numbers = refl; own = own }

numbered : (e : Event) (n : ℕ) (live : List Event) (xs ys : List ℕ) (m : ℕ) → point_numbers (e ∷ []) ≡ n ∷ [] → ((l : List Event) → point_numbers (e ∷ l) ≡ n ∷ point_numbers l) → n ∷ point_numbers live ≡ xs ++ m ∷ ys
    → ((xs : List ℕ) → point_numbers live ≡ xs ++ m ∷ ys → AtNumber live xs m) → AtNumber (e ∷ live) xs m
numbered e n live [] ys m own split is rest = let e0 = head_of n m (point_numbers live) ys is in first_number e live m (own ∙ ap (λ k. k ∷ []) e0.0)
numbered e n live (x ∷ xs) ys m own split is rest =
    let e0 = head_of n x (point_numbers live) (xs ++ m ∷ ys) is in
    subst (λ k. AtNumber (e ∷ live) (k ∷ xs) m) e0.0 (further e live (n ∷ []) xs m own (rest xs e0.1) split)

at_number : (live : List Event) (xs ys : List ℕ) (m : ℕ) → point_numbers live ≡ xs ++ m ∷ ys → AtNumber live xs m
at_number [] [] ys m is = absurd (cc is)
at_number [] (x ∷ xs) ys m is = absurd (cc is)
at_number (change f b before after ∷ live) xs ys m is = further (change f b before after) live [] xs m refl (at_number live xs ys m is) (λ l. refl)
at_number (begin n how ∷ live) xs ys m is = further (begin n how) live [] xs m refl (at_number live xs ys m is) (λ l. refl)
at_number (quiet n ∷ live) xs ys m is = numbered (quiet n) n live xs ys m refl (λ l. refl) is (λ us. at_number live us ys m)
at_number (control n later counts described ∷ live) xs ys m is = numbered (control n later counts described) n live xs ys m refl (λ l. refl) is (λ us. at_number live us ys m)

-- ---- changes

old_of : (o before : Option BlockBytes) (old : BlockBytes) → o ≡ Some old → says_old o before ≡ true → before ≡ Some old
old_of None before old is h = absurd (cc is)
old_of (Some x) None old is h = absurd (true≢false (sym h))
old_of (Some x) (Some block) old is h = let e : x ≡ old = cc is in ap (λ (b : BlockBytes). Some b) ((bytes_eq-Decides block x).0 h ∙ e)

of_old : (o before : Option BlockBytes) → ((old : BlockBytes) → o ≡ Some old → before ≡ Some old) → says_old o before ≡ true
of_old None before linked = refl
of_old (Some x) None linked = absurd (cc (linked x refl))
of_old (Some x) (Some block) linked = let e : block ≡ x = cc (linked x refl) in (bytes_eq-Decides block x).1 e

fits_of : (before : Option BlockBytes) (b count : ℕ) → fits_count before b count ≡ true → FitsCount before b count
fits_of None b count h = eq_of b count h
fits_of (Some old) b count h = lt_of b count h

of_fits : (before : Option BlockBytes) (b count : ℕ) → FitsCount before b count → fits_count before b count ≡ true
of_fits None b count h = of_eq b count h
of_fits (Some old) b count h = of_lt b count h

-- ---- counts

above_one : (f g : ℕ) → f ≤ g → (f ≡ g → ⊥) → f + 1 ≤ g
above_one f g low off = grind arith

same_here : (f : ℕ) (one other : Counts) (g : ℕ) (t : Bool) → eqb f g ≡ t → eqb (one f) (other f) ≡ true → ((f ≡ g → ⊥) → one g ≡ other g) → one g ≡ other g
same_here f one other g true is now more = subst (λ j. one j ≡ other j) (eq_of f g is) (eq_of (one f) (other f) now)
same_here f one other g false is now more = more (λ e. true≢false (sym (of_eq f g e) ∙ is))

same_at : (k f : ℕ) (one other : Counts) (g : ℕ) → are_same_from k f one other ≡ true → f ≤ g → g < f + k → one g ≡ other g
same_at zero f one other g h low high = absurd (omega (arith, low, high))
same_at (suc k) f one other g h low high =
    let both = and_parts (eqb (one f) (other f)) (are_same_from k (f + 1) one other) h in
    same_here f one other g (eqb f g) refl both.0 (λ off. same_at k (f + 1) one other g both.1 (above_one f g low off) (omega (arith, high)))

same_by : (k f : ℕ) (one other : Counts) → ((g : ℕ) → one g ≡ other g) → are_same_from k f one other ≡ true
same_by zero f one other same = refl
same_by (suc k) f one other same = and_from (eqb (one f) (other f)) (are_same_from k (f + 1) one other) (of_eq (one f) (other f) (same f)) (same_by k (f + 1) one other same)

counts_by : (one other : Counts) → ((g : ℕ) → one g ≡ other g) → are_same_counts one other ≡ true
unfolding are_same_counts
counts_by one other same = same_by 200 30001 one other same

counts_in : (one other : Counts) (g : ℕ) → are_same_counts one other ≡ true → 30001 ≤ g → g < 30201 → one g ≡ other g
unfolding are_same_counts
counts_in one other g h low high = same_at 200 30001 one other g h low (omega (arith, high))

-- ---- lists of entries

or_assoc : (a b c : Bool) → (a || (b || c)) ≡ ((a || b) || c)
or_assoc true b c = refl
or_assoc false b c = refl

has_append : (p : Event → Bool) (xs ys : List Event) → has p (xs ++ ys) ≡ (has p xs || has p ys)
has_append p [] ys = refl
has_append p (e ∷ xs) ys = ap (λ b. p e || b) (has_append p xs ys) ∙ or_assoc (p e) (has p xs) (has p ys)

no_first : (a b : Bool) → (a || b) ≡ false → a ≡ false
no_first true b h = h
no_first false b h = refl

last_has : (a b c : Bool) → a ≡ false → b ≡ false → (a || (b || c)) ≡ true → c ≡ true
last_has true b c off none h = absurd (true≢false off)
last_has false true c off none h = absurd (true≢false none)
last_has false false c off none h = h

first_is : (us vs : List Event) (n later : ℕ) (counts : Counts) (described : Bool) → has is_control us ≡ false → first_counts (us ++ control n later counts described ∷ vs) ≡ counts
first_is [] vs n later counts described off = refl
first_is (change f b before after ∷ us) vs n later counts described off = first_is us vs n later counts described off
first_is (quiet m ∷ us) vs n later counts described off = first_is us vs n later counts described off
first_is (control m l c d ∷ us) vs n later counts described off = absurd (true≢false off)
first_is (begin m how ∷ us) vs n later counts described off = first_is us vs n later counts described off

record FirstControl (es : List Event) : Type 0 where
  before : List Event
  n : ℕ
  later : ℕ
  counts : Counts
  described : Bool
  behind : List Event
  is : es ≡ before ++ control n later counts described ∷ behind
  none : has is_control before ≡ false

behind_one : (e : Event) (es : List Event) → is_control e ≡ false → FirstControl es → FirstControl (e ∷ es)
behind_one e es off c = record {
  before = e ∷ c.before;
  n = c.n;
  later = c.later;
  counts = c.counts;
  described = c.described;
  behind = c.behind;
  is = ap (λ (l : List Event). e ∷ l) c.is;
  none = ap (λ t. t || has is_control c.before) off ∙ c.none;
}

first_control : (es : List Event) → has is_control es ≡ true → FirstControl es
first_control [] found = absurd (true≢false (sym found))
first_control (change f b before after ∷ es) found = behind_one (change f b before after) es refl (first_control es found)
first_control (quiet n ∷ es) found = behind_one (quiet n) es refl (first_control es found)
first_control (control n later counts described ∷ es) found = record { before = []; n = n; later = later; counts = counts; described = described; behind = es; is = refl; none = refl }
first_control (begin n how ∷ es) found = behind_one (begin n how) es refl (first_control es found)

structure_at : (us vs : List Event) (e : Event) → AreOfStructures (us ++ e ∷ vs) → IsOfStructures e
structure_at [] vs e all = all.0
structure_at (u ∷ us) vs e all = structure_at us vs e all.1

structures_before : (us vs : List Event) → AreOfStructures (us ++ vs) → AreOfStructures us
structures_before [] vs all = tt
structures_before (u ∷ us) vs all = (all.0, structures_before us vs all.1)

-- a file that is none of a structure
abbrev IsOther : ℕ → Type 0
IsOther f = (f < 30001) ⊎ (30201 ≤ f)

not_file : (f g : ℕ) → IsOther f → (30001 ≤ g) × (g < 30201) → eqb g f ≡ false
not_file f g (inl low) is = grind (arith, nat_tests, is.0, low)
not_file f g (inr high) is = grind (arith, nat_tests, is.1, high)

none_of : (f : ℕ) (counts : Counts) → IsOther f → ((f : ℕ) → (f < 30001 → counts f ≡ 0) × (30201 ≤ f → counts f ≡ 0)) → counts f ≡ 0
none_of f counts (inl low) each = (each f).0 low
none_of f counts (inr high) each = (each f).1 high

none_reached : (f k : ℕ) (us : List Event) → IsOther f → AreOfStructures us → k ≡ 0 → reached_count f k us ≡ 0
none_reached f k [] other all none = none
none_reached f k (change g b None after ∷ us) other all none = none_reached f _ us other all.1 (ap (λ t. cond t (max k (b + 1)) k) (not_file f g other all.0) ∙ none)
none_reached f k (change g b (Some old) after ∷ us) other all none = none_reached f k us other all.1 none
none_reached f k (quiet n ∷ us) other all none = none_reached f k us other all.1 none
none_reached f k (control n later counts described ∷ us) other all none = none_reached f (counts f) us other all.1 (none_of f counts other all.0)
none_reached f k (begin n how ∷ us) other all none = none_reached f k us other all.1 none

file_cases : (f : ℕ) → ((30001 ≤ f) × (f < 30201)) ⊎ IsOther f
file_cases f = by (ltb f 30001) refl (ltb f 30201) refl
  where
    by : (s : Bool) → ltb f 30001 ≡ s → (t : Bool) → ltb f 30201 ≡ t → ((30001 ≤ f) × (f < 30201)) ⊎ IsOther f
    by true one t two = inr (inl (lt_of f 30001 one))
    by false one true two = inl (grind (arith, nat_tests), lt_of f 30201 two)
    by false one false two = inr (inr (grind (arith, nat_tests)))

-- counts that are the same on structure files, and none elsewhere, are the same
all_same : (one other : Counts) → are_same_counts one other ≡ true → ((f : ℕ) → IsOther f → one f ≡ 0) → ((f : ℕ) → IsOther f → other f ≡ 0) → (f : ℕ) → one f ≡ other f
all_same one other same off none f = elim (file_cases f) [
  | inl within ↦ counts_in one other f same within.0 within.1
  | inr outside ↦ off f outside ∙ sym (none f outside)
]

-- ---- the law

turn_of : (first : Bool) (next : ℕ) (opening : Counts) (before : List Event) (e : Event) (m : ℕ) → point_numbers (e ∷ []) ≡ m ∷ [] → keeps_rules first next opening before e ≡ true → is_in_turn next before m ≡ true
turn_of first next opening before (change f b old after) m own h = absurd (cc own)
turn_of first next opening before (quiet n) m own h = subst (λ k. is_in_turn next before k ≡ true) (cc own) h
turn_of first next opening before (control n later counts described) m own h = subst (λ k. is_in_turn next before k ≡ true) (cc own) (and_parts (is_in_turn next before n) _ h).0
turn_of first next opening before (begin n how) m own h = absurd (cc own)

module _ (first : Bool) (live : List Event) (next : ℕ) (structures : AreOfStructures live) (found : has is_control live ≡ true) where
  abbrev ok : List Event → Event → Bool
  ok = keeps_rules first next (first_counts live)

  -- the counts of the first Control
  opening_is : (us vs : List Event) (n later : ℕ) (counts : Counts) (described : Bool) → live ≡ us ++ control n later counts described ∷ vs → has is_control us ≡ false → first_counts live ≡ counts
  opening_is us vs n later counts described is off = ap first_counts is ∙ first_is us vs n later counts described off

  structure_of : (us vs : List Event) (e : Event) → live ≡ us ++ e ∷ vs → IsOfStructures e
  structure_of us vs e is = structure_at us vs e (subst AreOfStructures is structures)

  none_before : (us vs : List Event) (e : Event) (f : ℕ) → live ≡ us ++ e ∷ vs → IsOther f → reached_count f 0 us ≡ 0
  none_before us vs e f is other = none_reached f 0 us other (structures_before us (e ∷ vs) (subst AreOfStructures is structures)) refl

  module _ (all : all_pass ok [] live ≡ true) where
    each : (us vs : List Event) (e : Event) → live ≡ us ++ e ∷ vs → ok us e ≡ true
    each us vs e is = pass_at ok [] us vs e (subst (λ (l : List Event). all_pass ok [] l ≡ true) is all)

    turn : (xs ys : List ℕ) (m : ℕ) → point_numbers live ≡ xs ++ m ∷ ys → (list_all (λ k. leb k m) xs ≡ true) × (m < next)
    turn xs ys m is =
        let at = at_number live xs ys m is in
        let both = and_parts (list_all (λ k. leb k m) (point_numbers at.before)) (ltb m next) (turn_of first next (first_counts live) at.before at.at m at.own (each at.before at.behind at.at at.is)) in
        (subst (λ (l : List ℕ). list_all (λ k. leb k m) l ≡ true) at.numbers both.0, lt_of m next both.1)

    never_fall : (xs ys zs : List ℕ) (n m : ℕ) → point_numbers live ≡ xs ++ n ∷ (ys ++ m ∷ zs) → n ≤ m
    never_fall xs ys zs n m is = le_of n m (all_at (λ k. leb k m) xs ys n (turn (xs ++ n ∷ ys) zs m (is ∙ sym (append_assoc xs (n ∷ ys) (m ∷ zs)))).0)

    change_parts : (us vs : List Event) (f b : ℕ) (before : Option BlockBytes) (after : BlockBytes) → live ≡ us ++ change f b before after ∷ vs
        → (says_old (last_after f b us) before ≡ true) × (cond (has is_control us) (fits_count before b (reached_count f 0 us)) (ltb b (first_counts live f)) ≡ true)
    change_parts us vs f b before after is = and_parts (says_old (last_after f b us) before) _ (each us vs (change f b before after) is)

    control_part : (us vs : List Event) (n later : ℕ) (counts : Counts) (described : Bool) → live ≡ us ++ control n later counts described ∷ vs
        → cond (has is_control us) (are_same_counts counts (λ f. reached_count f 0 us)) (not first || are_same_counts counts (λ f. 0)) ≡ true
    control_part us vs n later counts described is = (and_parts (is_in_turn next us n) _ (each us vs (control n later counts described) is)).1

    since_first : (a b : Bool) → a ≡ true → (not a || b) ≡ true → b ≡ true
    since_first true b h k = k
    since_first false b h k = absurd (true≢false (sym h))

    lists : (counted : Stored) → CountsAsLeft live counted → ListAgrees first live next counted
    lists counted stands = record {
      never_fall = never_fall;
      below_next = λ xs ys n is. (turn xs ys n is).1;
      counted_first = λ xs ys zs f b before after n later counts described is off.
          let none : has is_control xs ≡ false = no_first (has is_control xs) (has is_control ys) (sym (has_append is_control xs ys) ∙ off) in
          let low : ltb b (first_counts live f) ≡ true = ap (λ t. cond t (fits_count before b (reached_count f 0 xs)) (ltb b (first_counts live f))) (sym none) ∙ (change_parts xs (ys ++ control n later counts described ∷ zs) f b before after is).1 in
          let whole : live ≡ (xs ++ change f b before after ∷ ys) ++ control n later counts described ∷ zs = is ∙ sym (append_assoc xs (change f b before after ∷ ys) (control n later counts described ∷ zs)) in
          let front : has is_control (xs ++ change f b before after ∷ ys) ≡ false = has_append is_control xs (change f b before after ∷ ys) ∙ sym (has_append is_control xs ys) ∙ off in
          lt_of b (counts f) (ap (λ (c : Counts). ltb b (c f)) (sym (opening_is (xs ++ change f b before after ∷ ys) zs n later counts described whole front)) ∙ low);
      linked = λ xs ys f b before after old is last. old_of (last_after f b xs) before old last (change_parts xs ys f b before after is).0;
      stands = stands;
      empty = λ xs ys n later counts described is_first is off.
          all_same counts (λ f. 0)
          (since_first first _ is_first (ap (λ t. cond t (are_same_counts counts (λ f. reached_count f 0 xs)) (not first || are_same_counts counts (λ f. 0))) (sym off) ∙ control_part xs ys n later counts described is))
          (λ f other. none_of f counts other (structure_of xs ys (control n later counts described) is)) (λ f other. refl);
      grows = λ xs ys f b before after is on.
          fits_of before b (reached_count f 0 xs) (ap (λ t. cond t (fits_count before b (reached_count f 0 xs)) (ltb b (first_counts live f))) (sym on) ∙ (change_parts xs ys f b before after is).1);
      recounts = λ xs ys n later counts described is on.
          all_same counts (λ f. reached_count f 0 xs)
          (ap (λ t. cond t (are_same_counts counts (λ f. reached_count f 0 xs)) (not first || are_same_counts counts (λ f. 0))) (sym on) ∙ control_part xs ys n later counts described is)
          (λ f other. none_of f counts other (structure_of xs ys (control n later counts described) is)) (λ f other. none_before xs ys (control n later counts described) f is other);
    }

  module _ (counted : Stored) (a : ListAgrees first live next counted) where
    in_turn : (us vs : List Event) (e : Event) (n : ℕ) → live ≡ us ++ e ∷ vs → ((l : List Event) → point_numbers (e ∷ l) ≡ n ∷ point_numbers l) → is_in_turn next us n ≡ true
    in_turn us vs e n is own =
        let whole : point_numbers live ≡ point_numbers us ++ n ∷ point_numbers vs = ap point_numbers is ∙ numbers_append us (e ∷ vs) ∙ ap (λ (l : List ℕ). point_numbers us ++ l) (own vs) in
        and_from (list_all (λ m. leb m n) (point_numbers us)) (ltb n next)
        (all_by (λ m. leb m n) (point_numbers us) (λ xs ys m at. of_le m n (a.never_fall xs ys (point_numbers vs) m n (whole ∙ ap (λ (l : List ℕ). l ++ n ∷ point_numbers vs) at ∙ append_assoc xs (m ∷ ys) (n ∷ point_numbers vs)))))
        (of_lt n next (a.below_next (point_numbers us) (point_numbers vs) n whole))

    -- a Control stands behind what has none before it
    behind_has : (us vs : List Event) (e : Event) → live ≡ us ++ e ∷ vs → has is_control us ≡ false → is_control e ≡ false → has is_control vs ≡ true
    behind_has us vs e is off none = last_has (has is_control us) (is_control e) (has is_control vs) off none (sym (has_append is_control us (e ∷ vs)) ∙ ap (has is_control) (sym is) ∙ found)

    low_first : (us vs : List Event) (f b : ℕ) (before : Option BlockBytes) (after : BlockBytes) → live ≡ us ++ change f b before after ∷ vs → has is_control us ≡ false → b < first_counts live f
    low_first us vs f b before after is off =
        let c = first_control vs (behind_has us vs (change f b before after) is off refl) in
        let e = change f b before after in
        let whole : live ≡ us ++ e ∷ (c.before ++ control c.n c.later c.counts c.described ∷ c.behind) = is ∙ ap (λ (l : List Event). us ++ e ∷ l) c.is in
        let apart : live ≡ (us ++ e ∷ c.before) ++ control c.n c.later c.counts c.described ∷ c.behind = whole ∙ sym (append_assoc us (e ∷ c.before) (control c.n c.later c.counts c.described ∷ c.behind)) in
        let none : has is_control (us ++ c.before) ≡ false = has_append is_control us c.before ∙ (λ i. off i || c.none i) in
        let front : has is_control (us ++ e ∷ c.before) ≡ false = has_append is_control us (e ∷ c.before) ∙ (λ i. off i || c.none i) in
        subst (λ (k : Counts). b < k f) (sym (opening_is (us ++ e ∷ c.before) c.behind c.n c.later c.counts c.described apart front))
        (a.counted_first us c.before c.behind f b before after c.n c.later c.counts c.described whole none)

    count_test : (us vs : List Event) (f b : ℕ) (before : Option BlockBytes) (after : BlockBytes) → live ≡ us ++ change f b before after ∷ vs → (t : Bool) → has is_control us ≡ t
        → cond t (fits_count before b (reached_count f 0 us)) (ltb b (first_counts live f)) ≡ true
    count_test us vs f b before after is true on = of_fits before b (reached_count f 0 us) (a.grows us vs f b before after is on)
    count_test us vs f b before after is false off = of_lt b (first_counts live f) (low_first us vs f b before after is off)

    counts_test : (us vs : List Event) (n later : ℕ) (counts : Counts) (described : Bool) → live ≡ us ++ control n later counts described ∷ vs → (t : Bool) → has is_control us ≡ t → (s : Bool) → first ≡ s
        → cond t (are_same_counts counts (λ f. reached_count f 0 us)) (not s || are_same_counts counts (λ f. 0)) ≡ true
    counts_test us vs n later counts described is true on s e = counts_by counts (λ f. reached_count f 0 us) (a.recounts us vs n later counts described is on)
    counts_test us vs n later counts described is false off true e = counts_by counts (λ f. 0) (a.empty us vs n later counts described e is off)
    counts_test us vs n later counts described is false off false e = refl

    passes : (us vs : List Event) (e : Event) → live ≡ us ++ e ∷ vs → ok us e ≡ true
    passes us vs (change f b before after) is =
        and_from (says_old (last_after f b us) before) _ (of_old (last_after f b us) before (λ old last. a.linked us vs f b before after old is last)) (count_test us vs f b before after is (has is_control us) refl)
    passes us vs (quiet n) is = in_turn us vs (quiet n) n is (λ l. refl)
    passes us vs (control n later counts described) is =
        and_from (is_in_turn next us n) _ (in_turn us vs (control n later counts described) n is (λ l. refl)) (counts_test us vs n later counts described is (has is_control us) refl first refl)
    passes us vs (begin n how) is = refl

pub rules_agree : RulesAgree
rules_agree first live next structures found = record {
  agrees = λ all counted stands. lists first live next structures found all counted stands;
  passes = λ counted a. pass_by (ok first live next structures found) [] live (λ us vs e is. passes first live next structures found counted a us vs e is);
}
