-- The next number at the end of a script.
use Rattle.std.proofs.Common.{ℕ, ◌≡◌, ◌≤◌, ◌+◌, List, [], ◌∷◌, Bool, true, false, cond, length, refl, arith, suc}
use Rattle.dms_desc.specs.Shape.{Described}
use Rattle.dms_model.specs.Session.{Session, someone_works}
use Rattle.dms_runner.specs.Answers.{RunState, LineEffect, line_step, lines_run, lines_before, first_state, script_run}
use Rattle.dms_runner.specs.EventLaws.{NextLaw}
use Rattle.dms_runner.proofs.Lining.{line_low}

low_at : (g : RunState) (l rest : LineEffect) (n : ℕ) (b : Bool) → l.going.session.next + length l.going.waiting ≤ g.session.next + length g.waiting + 1
    → rest.going.session.next + length rest.going.waiting ≤ l.going.session.next + length l.going.waiting + n
    → (cond b l (lines_before l rest)).going.session.next + length (cond b l (lines_before l rest)).going.waiting ≤ g.session.next + length g.waiting + suc n
low_at g l rest n true p q = omega (arith, p)
low_at g l rest n false p q = omega (arith, p, q)

lines_low : (desc : Described) (g : RunState) (ls : List (List ℕ)) → (lines_run desc g ls).going.session.next + length (lines_run desc g ls).going.waiting ≤ g.session.next + length g.waiting + length ls
unfolding lines_run
lines_low desc g [] = omega arith
lines_low desc g (l ∷ ls) = low_at g (line_step desc g l) (lines_run desc (line_step desc g l).going ls) (length ls) (line_step desc g l).full (line_low desc g l).0 (lines_low desc (line_step desc g l).going ls)

pub ended_at : (s : Session) (b : Bool) → (cond b (record s { db = s.mark }) s).next ≡ s.next
ended_at s true = refl
ended_at s false = refl

pub next_law : NextLaw
next_law desc db first lines = omega (arith, ended_at (script_run desc db first lines).going.session (someone_works (script_run desc db first lines).going.session.programs), lines_low desc (first_state db first) lines)
