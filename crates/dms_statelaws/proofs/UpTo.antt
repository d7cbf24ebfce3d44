-- The points of a list up to a number.
use Rattle.std.specs.Prelude.{nat_le}
use Rattle.std.proofs.Common.{ℕ, ◌≤◌, ◌<◌, ◌≡◌, Bool, true, false, cond, List, [], ◌∷◌, ◌++◌, map, Option, refl, ◌∙◌, ap, subst, arith}
use Rattle.std.proofs.lemmas.Bool.Decides.{nat_tests}
use Rattle.dms_history.specs.Events.{AllBlocks}
use Rattle.dms_history.specs.Points.{LivePoint, up_to, numbers_of, AllAbove, Rises}
use Rattle.dms_history.specs.Entries.{Entry}
use Rattle.dms_running.specs.Points.{DescribedPoint, described_in}
use Rattle.dms_run.proofs.SamePoints.{HasPointOf}
use Rattle.dms_recovery.specs.Leaving.{described_to}

abbrev pub numbers : List DescribedPoint → List ℕ
numbers ps = map (λ (p : DescribedPoint). p.number) ps

pub numbers_described : (es : List Entry) (ps : List LivePoint) → numbers (map (described_in es) ps) ≡ numbers_of ps
numbers_described es [] = refl
numbers_described es (p ∷ ps) = ap (λ (l : List ℕ). p.number ∷ l) (numbers_described es ps)

both_cut : (es : List Entry) (p : LivePoint) (xs : List LivePoint) (ys : List DescribedPoint) (b : Bool) → map (described_in es) xs ≡ ys → map (described_in es) (cond b (p ∷ xs) []) ≡ cond b (described_in es p ∷ ys) []
both_cut es p xs ys true same = ap (λ (l : List DescribedPoint). described_in es p ∷ l) same
both_cut es p xs ys false same = refl

-- points without their Schemas are cut at the same place
pub described_up_to : (es : List Entry) (m : ℕ) (ps : List LivePoint) → map (described_in es) (up_to m ps) ≡ described_to m (map (described_in es) ps)
described_up_to es m [] = refl
described_up_to es m (p ∷ ps) = both_cut es p (up_to m ps) (described_to m (map (described_in es) ps)) (nat_le p.number m) (described_up_to es m ps)

le_true : (a b : ℕ) → a ≤ b → nat_le a b ≡ true
le_true a b le = grind (arith, nat_tests, le)

le_false : (a b : ℕ) → b < a → nat_le a b ≡ false
le_false a b less = grind (arith, nat_tests, less)

-- one up to the number is taken
taken : (m : ℕ) (p : DescribedPoint) (ps : List DescribedPoint) → p.number ≤ m → described_to m (p ∷ ps) ≡ p ∷ described_to m ps
taken m p ps le = ap (λ (b : Bool). cond b (p ∷ described_to m ps) []) (le_true p.number m le)

above_front : (k : ℕ) (front : List DescribedPoint) (p : DescribedPoint) (behind : List DescribedPoint) → AllAbove k (numbers (front ++ p ∷ behind)) → k < p.number
above_front k [] p behind above = above.0
above_front k (x ∷ front) p behind above = above_front k front p behind above.1

-- so are all before one up to the number
pub front_taken : (m : ℕ) (front : List DescribedPoint) (p : DescribedPoint) (behind : List DescribedPoint) → Rises (numbers (front ++ p ∷ behind)) → p.number ≤ m
    → described_to m (front ++ p ∷ behind) ≡ front ++ p ∷ described_to m behind
front_taken m [] p behind rises le = taken m p behind le
front_taken m (x ∷ front) p behind rises le =
    taken m x (front ++ p ∷ behind) (omega (arith, le, above_front x.number front p behind rises.0)) ∙ ap (λ (l : List DescribedPoint). x ∷ l) (front_taken m front p behind rises.1 le)

rises_on : (front : List DescribedPoint) (p : DescribedPoint) (behind : List DescribedPoint) → Rises (numbers (front ++ p ∷ behind)) → AllAbove p.number (numbers behind)
rises_on [] p behind rises = rises.0
rises_on (x ∷ front) p behind rises = rises_on front p behind rises.1

none_taken : (m : ℕ) (behind : List DescribedPoint) → AllAbove m (numbers behind) → described_to m behind ≡ []
none_taken m [] above = refl
none_taken m (p ∷ ps) above = ap (λ (b : Bool). cond b (p ∷ described_to m ps) []) (le_false p.number m above.0)

-- and none behind the one of that number
pub cut_there : (m : ℕ) (front : List DescribedPoint) (p : DescribedPoint) (behind : List DescribedPoint) → Rises (numbers (front ++ p ∷ behind)) → p.number ≡ m → described_to m (front ++ p ∷ behind) ≡ front ++ p ∷ []
cut_there m front p behind rises is =
    front_taken m front p behind rises (omega (arith, is))
    ∙ ap (λ (l : List DescribedPoint). front ++ p ∷ l) (none_taken m behind (subst (λ (k : ℕ). AllAbove k (numbers behind)) is (rises_on front p behind rises)))

-- a point up to the number stays
pub has_up_to : (m : ℕ) (ps : List DescribedPoint) (n : ℕ) (schema : Option (List ℕ)) (blocks : AllBlocks) → Rises (numbers ps) → n ≤ m → HasPointOf ps n schema blocks → HasPointOf (described_to m ps) n schema blocks
has_up_to m ps n schema blocks rises le h = record {
  before = h.before;
  point = h.point;
  after = described_to m h.after;
  are = ap (described_to m) h.are ∙ front_taken m h.before h.point h.after (subst (λ (l : List DescribedPoint). Rises (numbers l)) h.are rises) (omega (arith, le, h.number));
  number = h.number;
  schema_is = h.schema_is;
  blocks_are = h.blocks_are;
}
