-- The names that a listing has given.
use Rattle.std.proofs.Common.{ℕ, zero, suc, ◌+◌, ◌<◌, ◌≡◌, ◌≢◌, inl, inr, List, [], ◌∷◌, ◌++◌, length, take, Some, refl, sym, ◌∙◌, ap, subst, true, arith, add-one}
use Rattle.std.specs.Prelude.{slice_get}
use Rattle.std.proofs.lemmas.List.{append-nil, take_at}
use Rattle.std.proofs.lemmas.Option.{none-some}
use Rattle.std.proofs.lemmas.Bool.{cases_lt, false≢true}
use Rattle.dms_site.specs.Files.{Files}
use Rattle.dms_calls.specs.World.{IsGiven}
use Rattle.dms_memcalls.specs.Names.{is_name, leads}
use Rattle.dms_memcalls.specs.NameLaws.{name_is, leads_is}

-- a name; none of a file that has none
abbrev pub one_of : List ℕ → List (List ℕ)
one_of [] = []
one_of (b ∷ bs) = (b ∷ bs) ∷ []

-- the names of the files below n
unfoldable pub given_to : ℕ → Files → List (List ℕ)
given_to zero names = []
given_to (suc n) names = given_to n names ++ one_of (names n)

pub given_none : (names : Files) → given_to 0 names ≡ []
unfolding given_to
given_none names = refl

pub given_next : (n : ℕ) (names : Files) → given_to (n + 1) names ≡ given_to n names ++ one_of (names n)
unfolding given_to
given_next n names = ap (λ (k : ℕ). given_to k names) (add-one n)

-- a file without a name is passed
pub given_past : (n : ℕ) (names : Files) → names n ≡ [] → given_to (n + 1) names ≡ given_to n names
given_past n names none = given_next n names ∙ ap (λ (l : List ℕ). given_to n names ++ one_of l) none ∙ append-nil (given_to n names)

one_some : (name : List ℕ) → name ≢ [] → one_of name ≡ name ∷ []
one_some [] some = absurd (some refl)
one_some (b ∷ bs) some = refl

-- a name is given
pub given_one : (n : ℕ) (names : Files) → names n ≢ [] → given_to (n + 1) names ≡ given_to n names ++ names n ∷ []
given_one n names some = given_next n names ∙ ap (λ (l : List (List ℕ)). given_to n names ++ l) (one_some (names n) some)

get_front : {X : Type 0} (xs ys : List X) (k : ℕ) (x : X) → slice_get xs k ≡ Some x → slice_get (xs ++ ys) k ≡ Some x
get_front [] ys k x is = absurd (none-some x is)
get_front (y ∷ xs) ys zero x is = is
get_front (y ∷ xs) ys (suc k) x is = get_front xs ys k x is

get_last : {X : Type 0} (xs : List X) (x : X) → slice_get (xs ++ x ∷ []) (length xs) ≡ Some x
get_last [] x = refl
get_last (y ∷ xs) x = get_last xs x

is_some_name : (a m : List ℕ) → is_name a m ≡ true → a ≢ []
is_some_name [] m is none = false≢true is
is_some_name (b ∷ bs) m is none = absurd (cc)

-- each name of a file below n is given
given_each : (n : ℕ) (names : Files) (i : ℕ) → i < n → names i ≢ [] → IsGiven (given_to n names) (names i)
unfolding given_to
given_each zero names i low some = absurd (omega (arith, low))
given_each (suc n) names i low some = elim (cases_lt i n) [
  | inl before ↦ let rest = given_each n names i before some in (rest.0, get_front (given_to n names) (one_of (names n)) rest.0 (names i) rest.1)
  | inr last ↦
      let e : i ≡ n = omega (arith, low, last) in
      let one : one_of (names n) ≡ names i ∷ [] = one_some (names n) (λ none. some (ap names e ∙ none)) ∙ ap (λ (k : ℕ). names k ∷ []) (sym e) in
      (length (given_to n names), ap (λ (l : List (List ℕ)). slice_get (given_to n names ++ l) (length (given_to n names))) one ∙ get_last (given_to n names) (names i))
]

pub given_all : (n : ℕ) (names : Files) (m : List ℕ) (i : ℕ) → leads n names m ≡ Some i → IsGiven (given_to n names) m
given_all n names m i is =
    let found = leads_is n names m i is in
    subst (λ (l : List ℕ). IsGiven (given_to n names) l) (name_is (names i) m found.1) (given_each n names i found.0 (is_some_name (names i) m found.1))

-- one more name is given, as it was copied
pub given_step : (names : Files) (p place : ℕ) (name copy rest : List ℕ) → names p ≢ [] → given_to p names ≡ given_to place names → name ≡ names p → copy ≡ name
    → given_to (p + 1) names ≡ given_to place names ++ take (length name) (copy ++ rest) ∷ []
given_step names p place name copy rest some same is copied =
    let front : take (length name) (copy ++ rest) ≡ names p = take_at copy rest (length name) (ap length copied) ∙ copied ∙ is in
    given_one p names some ∙ ap (λ (l : List (List ℕ)). l ++ names p ∷ []) same ∙ ap (λ (n : List ℕ). given_to place names ++ n ∷ []) (sym front)

pub empty_of : (xs : List ℕ) → length xs ≡ 0 → xs ≡ []
empty_of [] none = refl
empty_of (x ∷ xs) none = absurd (omega (arith, none))
