-- Files that stand for a state hold a database that can be opened.
use Rattle.std.proofs.Common.{ℕ, ◌≡◌, ◌<◌, ◌≤◌, ◌∙◌, List, [], ◌∷◌, ◌++◌, length, IsTrue, Option, Some, None, refl, sym, ap, arith}
use Rattle.std.specs.Prelude.{nat_le}
use Rattle.std.proofs.lemmas.Bool.Decides.{nat_tests}
use Rattle.std.proofs.lemmas.Option.{same_Some}
use Rattle.dms_desc.specs.Shape.{Described}
use Rattle.dms_desc_bytes.specs.Spelling.{spelling}
use Rattle.dms_desc_bytes.specs.WellFormed.{IsWellFormed}
use Rattle.dms_model.specs.Db.{Db}
use Rattle.dms_site.specs.Files.{Files}
use Rattle.dms_opening.specs.Openings.{IsTrailFound}
use Rattle.dms_run.specs.Held.{HoldsLast, StatesAreHeld}
use Rattle.dms_run.specs.States.{LivesEndWith}
use Rattle.dms_running.specs.Points.{DescribedPoint}
use Rattle.dms_wal.specs.Marks.{IsDescription, last_number, number_from}
use Rattle.dms_run.specs.Opens.{StatesHold}

pub le_of : (a b : ℕ) → IsTrue (nat_le a b) → a ≤ b
le_of a b is = grind (arith, nat_tests)

pub some_bytes : (d : Described) → 0 < length (spelling d)
unfolding spelling
some_bytes d = omega arith

-- its bytes fit a Schema
pub bytes_fit : (d : Described) → IsWellFormed d → IsDescription (spelling d)
bytes_fit d w = (some_bytes d, le_of (length (spelling d)) 65535 w.short)

pub trail_of : {files : Files} {n : ℕ} {desc : Described} {db : Db} → (h : HoldsLast files n desc db) → IsTrailFound h.total h.first files
trail_of h = record { places = h.places; found = h.finds; tag = h.tag; file = h.file; count = h.count; writes = h.writes }

pub states_hold : StatesAreHeld → StatesHold
states_hold law files s stands =
    let h : HoldsLast files s.point s.desc s.db = law files s.point s.desc s.db stands in
    let fit = bytes_fit s.desc h.formed in
    record {
      total = h.total;
      first = h.first;
      trail = trail_of h;
      whole = h.whole;
      described = record { point = s.point; last = h.last; lives = h.lives; bytes = spelling s.desc; schema_is = h.described; some = fit.0; few = fit.1 };
      state = h.state;
      formed = h.formed;
    }

-- ---- the last point

number_end : (before : Option ℕ) (ps : List DescribedPoint) (p : DescribedPoint) → number_from before (ps ++ p ∷ []) ≡ Some p.number
number_end before [] p = refl
number_end before (q ∷ qs) p = number_end (Some q.number) qs p

-- the number of the last point
pub last_is : (desc : Described) (ps : List DescribedPoint) (n m : ℕ) (db : Db) → LivesEndWith desc ps n db → last_number ps ≡ Some m → m ≡ n
last_is desc ps n m db state is =
    same_Some m n (sym is ∙ ap last_number state.are ∙ number_end None state.before state.point ∙ ap (λ (k : ℕ). Some k) state.number)
