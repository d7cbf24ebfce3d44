-- A stop behind the last event of a run lies within it.
use Rattle.std.proofs.Common.{ℕ, ◌≡◌, ◌≤◌, ◌+◌, ◌∙◌, Bool, List, [], ◌∷◌, ◌++◌, length, refl, sym, ap, subst, arith}
use Rattle.std.proofs.lemmas.List.{append_assoc, append-nil}
use Rattle.dms_desc.specs.Shape.{Described, as_described}
use Rattle.dms_model.specs.Db.{Db}
use Rattle.dms_model.specs.declared.store.Store.{Ghosts}
use Rattle.dms_model.specs.Points.{Quiet, Stop, LeavesPrefix, StopTextIs}
use Rattle.dms_model.specs.Seen.{Seen}
use Rattle.dms_model.specs.Session.{someone_works}
use Rattle.dms_runner.specs.Answers.{script_run, script_events, unanswered_events}
use Rattle.dms_runner.specs.Events.{RunEvent, goes_back, text_of, quiets_of, durable_after, CrashesWithin, Performs}
use Rattle.dms_runner.proofs.Happening.{text_on, quiets_on, durable_on}
use Rattle.dms_storeverbs.specs.declared.engine.Engine.{Engine}
use Rattle.dms_storeverbs.specs.View.{PointsGrow, engine_view}
use Rattle.dms_run.specs.Ending.{ScriptCloses}
use Rattle.dms_run.proofs.Leaving.{stop_leaves}

-- a script's last event: the database goes back where a program is in transaction state
abbrev before_last : Described → Db → ℕ → List (List ℕ) → List RunEvent
before_last desc db first lines = (script_run desc db first lines).events ++ unanswered_events (script_run desc db first lines).going.waiting

-- a program is in transaction state where the lines end
abbrev works_at_end : Described → Db → ℕ → List (List ℕ) → Bool
works_at_end desc db first lines = someone_works (script_run desc db first lines).going.session.programs

last_event : (desc : Described) (db : Db) (first : ℕ) (lines : List (List ℕ)) → before_last desc db first lines ++ goes_back (works_at_end desc db first lines) ∷ [] ≡ script_events desc db first lines
unfolding script_events
last_event desc db first lines = append_assoc (script_run desc db first lines).events (unanswered_events (script_run desc db first lines).going.waiting) (goes_back (works_at_end desc db first lines) ∷ [])

module _ (b a : Seen) (es : List RunEvent) (works : Bool) (stop : Stop) where
  no_more : quiets_of (es ++ goes_back works ∷ []) ≡ quiets_of es
  no_more = quiets_on es (goes_back works ∷ []) ∙ append-nil (quiets_of es)

  no_text : text_of (es ++ goes_back works ∷ []) ≡ text_of es
  no_text = text_on es (goes_back works ∷ []) ∙ append-nil (text_of es)

  closes : b.tells → Performs b a (es ++ goes_back works ∷ []) → LeavesPrefix a.whole a.durable a.points a.next stop → StopTextIs a.said stop
      → CrashesWithin b.whole b.said b.points b.durable b.next (es ++ goes_back works ∷ []) stop
  closes tells did left text =
      let grew : PointsGrow b.points (quiets_of es) a.points = subst (λ (q : List Quiet). PointsGrow b.points q a.points) no_more (did.grew tells) in
      let durable : durable_after (length b.points) b.durable (es ++ goes_back works ∷ []) ≡ durable_after (length b.points) b.durable es =
      durable_on (length b.points) b.durable es (goes_back works ∷ []) in
      let low : durable_after (length b.points) b.durable es ≤ a.durable = subst (λ (n : ℕ). n ≤ a.durable) durable (did.durable tells) in
      let next : b.next + length (quiets_of es) ≤ a.next = subst (λ (q : List Quiet). b.next + length q ≤ a.next) no_more did.next in
      let next_high : a.next ≤ b.next + length (quiets_of es) = subst (λ (q : List Quiet). a.next ≤ b.next + length q) no_more did.next_high in
      record {
        before = es;
        at = goes_back works;
        rest = [];
        all = refl;
        left = record {
          made = quiets_of es;
          rest = [];
          all = a.points;
          front_of = refl;
          grew = grew;
          front = record { count = left.count; enough = omega (arith, low, left.enough); within = left.within; is = left.is; not_fallen = omega (arith, next, left.not_fallen); not_risen = omega (arith, next_high, left.not_risen); files = did.whole stop.files left.files };
        };
        text = λ t is. (
          0,
          text (t ++ text_of (es ++ goes_back works ∷ [])) (did.text t is)
              ∙ ap (λ (s : List ℕ). t ++ s) no_text ∙ sym (append-nil (t ++ text_of es)),
        );
      }

-- so it is of a run that ended well
pub script_closes : {St : Type 0} {g : Ghosts St} (old new : Engine St g) → ScriptCloses old new
script_closes old new n db first begins lines did stop front text =
    let d = as_described old.desc in
    let b = engine_view old in
    let es = before_last d db first lines in
    let works = works_at_end d db first lines in
    let whole : Performs b (engine_view new) (es ++ goes_back works ∷ []) = subst (λ (x : List RunEvent). Performs b (engine_view new) x) (sym (last_event d db first lines)) did in
    let within : CrashesWithin b.whole b.said b.points b.durable b.next (script_events d db first lines) stop =
    subst (λ (x : List RunEvent). CrashesWithin b.whole b.said b.points b.durable b.next x stop) (last_event d db first lines) (closes b (engine_view new) es works stop begins.tells whole front text) in
    stop_leaves b.whole b.said b.points n db first (script_events d db first lines) stop begins.state
    (subst (λ (k : ℕ). CrashesWithin b.whole b.said b.points (length b.points) k (script_events d db first lines) stop) begins.stands.next
    (subst (λ (k : ℕ). CrashesWithin b.whole b.said b.points k b.next (script_events d db first lines) stop) begins.durable within))
