-- What a script does begins with what its first lines do.
use Rattle.std.proofs.Common.{ℕ, zero, suc, ◌≡◌, ◌∙◌, inl, inr, Bool, true, false, List, [], ◌∷◌, ◌++◌, take, refl, sym, ap, append_assoc}
use Rattle.std.proofs.lemmas.List.{append-nil}
use Rattle.dms_desc.specs.Shape.{Described}
use Rattle.dms_model.specs.Db.{Db}
use Rattle.dms_model.specs.Session.{someone_works}
use Rattle.dms_runner.specs.Answers.{LineEffect, RunState, end_events, first_state, line_step, lines_run, script_run, script_events}
use Rattle.dms_runner.specs.Events.{RunEvent}
use Rattle.dms_runner.specs.Running.{AreOfFront, front_events}
use Rattle.dms_runner.proofs.Running.{run_full, run_none, run_step}

-- what lines do begins with what the first of them do
front_of_run : (desc : Described) (g : RunState) (n : ℕ) (lines : List (List ℕ)) → (more : List RunEvent) × ((lines_run desc g lines).events ≡ (lines_run desc g (take n lines)).events ++ more)
front_of_run desc g zero lines = ((lines_run desc g lines).events, sym (ap (λ (e : LineEffect). e.events ++ (lines_run desc g lines).events) (run_none desc g)))
front_of_run desc g (suc n) [] = ([], sym (append-nil (lines_run desc g []).events))
front_of_run desc g (suc n) (l ∷ ls) = at (line_step desc g l).full refl (front_of_run desc (line_step desc g l).going n ls)
  where
    s : LineEffect
    s = line_step desc g l

    at : (b : Bool) → s.full ≡ b → (more : List RunEvent) × ((lines_run desc s.going ls).events ≡ (lines_run desc s.going (take n ls)).events ++ more)
        → (more : List RunEvent) × ((lines_run desc g (l ∷ ls)).events ≡ (lines_run desc g (l ∷ take n ls)).events ++ more)
    at true is rest = ([], ap (λ (e : LineEffect). e.events) (run_full desc g l ls is ∙ sym (run_full desc g l (take n ls) is)) ∙ sym (append-nil (lines_run desc g (l ∷ take n ls)).events))
    at false is rest = (
      rest.0,
      ap (λ (e : LineEffect). e.events) (run_step desc g l ls is) ∙ ap (λ (es : List RunEvent). s.events ++ es) rest.1 ∙ sym (append_assoc s.events (lines_run desc s.going (take n ls)).events rest.0)
          ∙ sym (ap (λ (e : LineEffect). e.events ++ rest.0) (run_step desc g l (take n ls) is)),
    )

-- and so does what a script does
pub front_of_script : (desc : Described) (db : Db) (first : ℕ) (lines : List (List ℕ)) (n : ℕ) → (rest : List RunEvent) × (script_events desc db first lines ≡ front_events desc db first lines n ++ rest)
unfolding script_events
front_of_script desc db first lines n =
    let run = script_run desc db first lines in
    let end = end_events (someone_works run.going.session.programs) run.going.waiting in
    let f = front_of_run desc (first_state db first) n lines in
    (f.0 ++ end, ap (λ (es : List RunEvent). es ++ end) f.1 ∙ append_assoc (front_events desc db first lines n) f.0 end)

-- so it begins with whatever of it was carried out
pub front_law : (desc : Described) (db : Db) (first : ℕ) (lines : List (List ℕ)) (n : ℕ) (events : List RunEvent) → AreOfFront desc db first lines n events → (rest : List RunEvent) × (script_events desc db first lines ≡ events ++ rest)
front_law desc db first lines n events (inl are) = let f = front_of_script desc db first lines n in (f.0, f.1 ∙ ap (λ (es : List RunEvent). es ++ f.0) (sym are))
front_law desc db first lines n events (inr are) = ([], sym are.2 ∙ sym (append-nil events))
