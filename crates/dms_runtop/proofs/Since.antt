-- A run since the opening, and before it what the opening leaves.
use Rattle.std.proofs.Common.{ℕ, ◌≡◌, ◌≤◌, ◌+◌, ◌∙◌, List, [], ◌∷◌, ◌++◌, length, Option, Some, None, refl, sym, ap, subst, arith}
use Rattle.std.proofs.lemmas.List.{append-nil}
use Rattle.std.proofs.lemmas.Option.{same_Some}
use Rattle.dms_desc.specs.Shape.{Described}
use Rattle.dms_model.specs.Db.{Db}
use Rattle.dms_moments.specs.Moments.{Runs}
use Rattle.dms_moments.specs.MomentLaws.{runs_on}
use Rattle.dms_runner.specs.Events.{RunEvent, pause, quiets_of}
use Rattle.dms_running.specs.Telling.{Telling}
use Rattle.dms_running.specs.Points.{DescribedPoint, points_of, next_in}
use Rattle.dms_site.specs.Files.{Files, Left}
use Rattle.dms_opening.specs.Openings.{Reopens}
use Rattle.dms_wal.specs.Marks.{last_number, number_from}
use Rattle.dms_run.specs.Files.{RunLeavesFiles}
use Rattle.dms_run.specs.States.{LivesEndWith}
use Rattle.dms_status.specs.declared.status.Status.{Status}
use Rattle.dms_runtop.specs.Over.{ScriptRuns, SiteSeen}
use Rattle.dms_runtop.proofs.Bounds.{bounds_since}

-- ---- there is a first event

record First (events : List RunEvent) : Type 0 where
  one : RunEvent
  rest : List RunEvent
  are : one ∷ rest ≡ events

first_of : (xs : List RunEvent) (y : RunEvent) → First (xs ++ y ∷ [])
first_of [] y = record { one = y; rest = []; are = refl }
first_of (x ∷ xs) y = record { one = x; rest = xs ++ y ∷ []; are = refl }

-- ---- the opening

module _ (t : Telling) (files : Files) (said : Option (List ℕ)) (desc : Described) (n : ℕ) (db : Db) (state : LivesEndWith desc (points_of t files) n db) (next : ℕ) (next_is : next_in t files ≡ next) (events : List RunEvent) where
  -- a stop within the opening left the database of entry, and no text
  pub reopens_leaves : (x : Left) → Reopens t files said x → RunLeavesFiles t desc said (points_of t files) n db next (events ++ pause ∷ []) x
  reopens_leaves x r =
      let f = first_of events pause in
      record {
        made = [];
        rest = quiets_of (events ++ pause ∷ []);
        front_of = refl;
        state = subst (λ (ps : List DescribedPoint). LivesEndWith desc ps n db) (sym r.points_same) state;
        more = [];
        kept = r.points_same ∙ sym (append-nil (points_of t files));
        are = refl;
        each = tt;
        next_is = omega (arith, next_is, r.not_fallen);
        not_risen = omega (arith, next_is, r.not_risen);
        text = λ b is. record { before = []; at = f.one; rest = f.rest; all = f.are; printed = 0; said_is = r.text b is ∙ sym (append-nil b); enough = omega arith; few = omega arith };
        whole = r.whole;
      }

-- ---- a run since the opening

module _ (opening opening0 : ℕ) (t : Telling) (d : Described) (ps : List DescribedPoint) (n : ℕ) (db : Db) (next : ℕ) (all : List ℕ) (a0 a b : SiteSeen) (left' : Option (List ℕ)) (status : Status) where
  same_said : a.said ≡ a0.said → ScriptRuns opening t d ps n db next all a b left' status → ScriptRuns opening t d ps n db next all (record { files = a.files; clock = a.clock; said = a0.said }) b left' status
  same_said same ran = subst (λ (s : Option (List ℕ)). ScriptRuns opening t d ps n db next all (record { files = a.files; clock = a.clock; said = s }) b left' status) same ran

  pub runs_since : a.said ≡ a0.said → ((events : List RunEvent) → Runs a0.clock a.clock (RunLeavesFiles t d a0.said ps n db next (events ++ pause ∷ [])))
      → length (t.entries a.files) + opening ≤ length (t.entries a0.files) + opening0 → ScriptRuns opening t d ps n db next all a b left' status → ScriptRuns opening0 t d ps n db next all a0 b left' status
  runs_since same before grew ran =
      let r = same_said same ran in
      let does = r.does in
      record {
        does = record { carried = does.carried; whole = does.whole; answers = does.answers; part = bounds_since grew does.part; limit = does.limit; input_cut = does.input_cut; undamaged = does.undamaged };
        every_moment = runs_on (before does.carried.events) r.every_moment (λ x l. l);
        at_ok = r.at_ok;
      }
