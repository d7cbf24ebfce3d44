-- The numbers of quiet points rise, so none that is told is above the last one.
use Rattle.std.proofs.Common.{ℕ, zero, suc, ◌≡◌, ◌≤◌, ◌<◌, ◌+◌, ◌==◌, ◌∙◌, inl, inr, true, List, [], ◌∷◌, ◌++◌, map, take, length, sym, subst, ap, arith}
use Rattle.std.specs.List.{range_with_len}
use Rattle.std.proofs.lemmas.Bool.{true≢false, or_right, or_left}
use Rattle.dms_model.specs.Points.{Quiet}
use Rattle.dms_runner.specs.Events.{RunEvent, text_of, quiets_of, durable_after}
use Rattle.dms_runner.proofs.Happening.{quiets_on}
use Rattle.dms_scriptlaws.specs.Told.{told}
use Rattle.dms_scriptlaws.specs.Truths.{is_quiet_in, IsTruthful, RiseFrom}
use Rattle.dms_scriptlaws.proofs.Scripts.{tells_true, stay_valid}
use Rattle.dms_run.specs.Stops.{last_quiet_number, IsOneOf}
use Rattle.dms_run.specs.Told.{TellsNoLater, ScriptsTellNoLater}
use Rattle.dms_run.proofs.Lives.{or_cases, same_number}

-- ---- numbers that rise by one

abbrev pub RisesBy : ℕ → List Quiet → Type 0
RisesBy first [] = Unit {0}
RisesBy first (q ∷ qs) = (q.0 ≡ first) × RisesBy (first + 1) qs

pub rises_by : (first : ℕ) (qs : List Quiet) → RiseFrom first qs → RisesBy first qs
rises_by first [] rises = tt
rises_by first (q ∷ qs) rises =
    let head : q.0 ≡ first = cc in
    let tail : map (λ (p : Quiet). p.0) qs ≡ range_with_len (first + 1) (length qs) = cc in
    (head, rises_by (first + 1) qs tail)

-- the last number isn't below one before them
last_low : (n first : ℕ) (made rest : List Quiet) → n ≤ first → RisesBy first (made ++ rest) → n ≤ last_quiet_number n made
last_low n first [] rest low rises = omega arith
last_low n first (q ∷ made) rest low rises = omega (arith, last_low q.0 (first + 1) made rest (omega (arith, rises.0)) rises.1, rises.0, low)

-- nor below one among them
number_low : (n first m d : ℕ) (made rest : List Quiet) → RisesBy first (made ++ rest) → d ≤ length made → is_quiet_in (take d (made ++ rest)) m ≡ true → m ≤ last_quiet_number n made
number_low n first m zero made rest rises few on = absurd (true≢false (sym on))
number_low n first m (suc d) [] rest rises few on = absurd (omega (arith, few))
number_low n first m (suc d) (q ∷ made) rest rises few on = or_cases (q.0 == m) (is_quiet_in (take d (made ++ rest)) m)
    (λ here. omega (arith, same_number q.0 m here, last_low q.0 (first + 1) made rest (omega (arith, rises.0)) rises.1))
    (λ more. number_low q.0 (first + 1) m d made rest rises.1 (omega (arith, few)) more) on

-- each of them is at or above the first number
first_low : (first : ℕ) (qs : List Quiet) (q : Quiet) → RisesBy first qs → IsOneOf q qs → first ≤ q.0
first_low first [] q rises one = absurd one
first_low first (p ∷ qs) q rises (inl is) = omega (arith, ap (λ (r : Quiet). r.0) is, rises.0)
first_low first (p ∷ qs) q rises (inr more) = omega (arith, first_low (first + 1) qs q rises.1 more)

-- and one behind the first so many is above their last
pub number_high : (n first : ℕ) (made rest : List Quiet) (q : Quiet) → n < first → RisesBy first (made ++ rest) → IsOneOf q rest → last_quiet_number n made < q.0
number_high n first [] rest q low rises one = omega (arith, low, first_low first rest q rises one)
number_high n first (p ∷ made) rest q low rises one = number_high p.0 (first + 1) made rest q (omega (arith, rises.0)) rises.1 one

-- ---- what the text tells

-- one of the first so many of some is one of the first so many of more
any_more : (m d : ℕ) (xs ys : List Quiet) → is_quiet_in (take d xs) m ≡ true → is_quiet_in (take d (xs ++ ys)) m ≡ true
any_more m zero xs ys on = absurd (true≢false (sym on))
any_more m (suc d) [] ys on = absurd (true≢false (sym on))
any_more m (suc d) (x ∷ xs) ys on = or_cases (x.0 == m) (is_quiet_in (take d xs) m)
    (λ here. or_left (x.0 == m) (is_quiet_in (take d (xs ++ ys)) m) here) (λ more. or_right (x.0 == m) (is_quiet_in (take d (xs ++ ys)) m) (any_more m d xs ys more)) on

same_behind : (entry xs ys : List ℕ) → entry ++ xs ≡ entry ++ ys → xs ≡ ys
same_behind [] xs ys e = e
same_behind (b ∷ entry) xs ys e = let tails : entry ++ xs ≡ entry ++ ys = cc in same_behind entry xs ys tails

pub no_later : (events : List RunEvent) (first : ℕ) → IsTruthful events → RisesBy first (quiets_of events) → TellsNoLater events
no_later events first truthful rises n made rest entry printed said front p said_is =
    let text : printed ≡ text_of p.before ++ take p.printed p.at.text = same_behind entry printed (text_of p.before ++ take p.printed p.at.text) (sym said_is ∙ p.said_is) in
    let m = told (text_of p.before ++ take p.printed p.at.text) in
    let d = durable_after 0 0 p.before in
    let split : quiets_of p.before ++ (p.at.quiets ++ quiets_of p.rest) ≡ made ++ rest = sym (quiets_on p.before (p.at ∷ p.rest)) ∙ ap quiets_of p.all ∙ sym front in
    let low : m ≤ last_quiet_number n made = elim (truthful p.before p.at p.rest p.printed p.all) [
      | inl none ↦ omega (arith, none)
      | inr one ↦ number_low n first m d made rest (subst (RisesBy first) (sym front) rises) p.enough
          (subst (λ (l : List Quiet). is_quiet_in (take d l) m ≡ true) split (any_more m d (quiets_of p.before) (p.at.quiets ++ quiets_of p.rest) one))
    ] in
    omega (arith, low, ap told text)

pub tell_no_later : ScriptsTellNoLater
tell_no_later desc runnable db valid first lines = no_later _ first (tells_true desc runnable db valid first lines) (rises_by first _ (stay_valid desc runnable db valid first lines).numbers)
