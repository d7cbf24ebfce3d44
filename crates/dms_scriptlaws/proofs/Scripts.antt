-- The laws of scripts, from those of one step.
use Rattle.std.proofs.Common.{ℕ, ◌≡◌, ◌+◌, ◌-◌, ◌∙◌, List, [], ◌∷◌, length, sym, subst, Some, None}
use Rattle.std.specs.List.{AllByRecursion}
use Rattle.dms_base.specs.Name.{IsName}
use Rattle.dms_desc.specs.Shape.{Described}
use Rattle.dms_model.specs.declared.verb.Verb.{Verb}
use Rattle.dms_model.specs.Db.{Db}
use Rattle.dms_model.specs.Points.{Quiet}
use Rattle.dms_model.specs.Session.{Session, step, fresh_session, someone_works}
use Rattle.dms_laws.specs.Sound.{IsSound}
use Rattle.dms_laws.proofs.Points.{step_points}
use Rattle.dms_laws.proofs.Sound.{stays_sound}
use Rattle.dms_script.specs.declared.line.Line.{Line}
use Rattle.dms_script.specs.declared.line.Line.TheVariants.{Verb as Spoken}
use Rattle.dms_script.specs.Lines.{line_of}
use Rattle.dms_script.specs.Spoken.{SpeaksWell}
use Rattle.dms_script.proofs.Spoken.{lines_speak_well}
use Rattle.dms_runner.specs.Answers.{script_events, script_run, answers_quiets, last_quiet}
use Rattle.dms_model.specs.Valid.{IsValid}
use Rattle.dms_model.specs.Verbs.{IsVerbOf}
use Rattle.dms_scriptlaws.specs.Truths.{IsRunnable, TellsTrue, StopsTold, StayValid}
use Rattle.dms_scriptlaws.proofs.Feeds.{name_feed, reply_none, bad_none, unanswered_none}
use Rattle.dms_scriptlaws.proofs.Prefixes.{truthful, leaves_told, numbered_rise}
use Rattle.dms_scriptlaws.proofs.Named.{AreNamed, step_named}
use Rattle.dms_scriptlaws.proofs.Speaking.{LinesSpeak, IsTrueRun, true_run, run_next}
use Rattle.dms_runner.proofs.Rooms.{ended_at}

last_valid : (desc : Described) (db : Db) (qs : List Quiet) → IsValid desc db → AllByRecursion (λ (q : Quiet). IsValid desc q.1) qs → IsValid desc (last_quiet db qs)
last_valid desc db [] h all = h
last_valid desc db (q ∷ qs) h all = last_valid desc q.1 qs all.0 all.1

-- quiet points that have this database
valid_points : (desc : Described) (db : Db) → IsValid desc db → (qs : List Quiet) → AllByRecursion (λ (q : Quiet). q.1 ≡ db) qs → AllByRecursion (λ (q : Quiet). IsValid desc q.1) qs
valid_points desc db start [] same = tt
valid_points desc db start (q ∷ qs) same = (subst (IsValid desc) (sym same.0) start, valid_points desc db start qs same.1)

module _ (desc : Described) (run : IsRunnable desc) where
  -- a session of a running script
  record Runs (s : Session) : Type 0 where
    sound : IsSound desc s
    named : AreNamed s.programs

  -- what a line can say
  record MaySay (name : List ℕ) (verb : Verb) : Type 0 where
    named : IsName name
    of : IsVerbOf desc verb

  name_so : (l : Line) (name : List ℕ) (verb : Verb) → SpeaksWell desc l → l ≡ Spoken name verb → IsName name
  name_so l name verb h e = let h' : SpeaksWell desc (Spoken name verb) = subst (SpeaksWell desc) e h in h'.0

  abbrev ValidQuiet : Quiet → Type 0
  ValidQuiet q = IsValid desc q.1

  speaks : LinesSpeak desc Runs MaySay ValidQuiet
  speaks = record {
    keeps = λ s name verb v k. record {
      sound = (stays_sound desc run.made).keeps s name verb v.of k.sound;
      named = (step_named desc run.names s name verb v.named k.named k.sound.areas k.sound.db).names;
    };
    points = λ s name verb v k.
        let after = (stays_sound desc run.made).keeps s name verb v.of k.sound in
        valid_points desc (step desc s name verb).session.db after.db (step desc s name verb).quiets (step_points desc s name verb);
    reply = λ line s name verb v k. reply_none line name (step desc s name verb).reply (name_feed name v.named) (step_named desc run.names s name verb v.named k.named k.sound.areas k.sound.db).reply;
    bad = bad_none;
    waiting = λ line name verb v. unanswered_none line name (name_feed name v.named);
    spoken = λ raw name verb is. record { named = name_so (line_of desc raw) name verb (lines_speak_well desc run.order raw) is; of = run.lines raw name verb is };
  }

  begins : (db : Db) → IsValid desc db → (first : ℕ) → Runs (fresh_session db first)
  begins db start first = record { sound = (stays_sound desc run.made).first db first start; named = tt }

  run_true : (db : Db) → IsValid desc db → (first : ℕ) (lines : List (List ℕ)) → IsTrueRun first ValidQuiet (script_events desc db first lines)
  run_true db start first lines = true_run desc Runs MaySay ValidQuiet speaks db first lines (begins db start first)

  next_after : (db : Db) → IsValid desc db → (first : ℕ) (lines : List (List ℕ)) → (script_run desc db first lines).going.session.next ≡ first + length (answers_quiets desc db first lines)
  next_after db start first lines = run_next desc Runs MaySay ValidQuiet speaks db first lines (begins db start first)

pub tells_true : (desc : Described) → IsRunnable desc → (db : Db) → IsValid desc db → (first : ℕ) (lines : List (List ℕ)) → TellsTrue desc db first lines
tells_true desc run db start first lines = truthful first (ValidQuiet desc run) (script_events desc db first lines) (run_true desc run db start first lines)

pub stops_told : (desc : Described) → IsRunnable desc → (db : Db) → IsValid desc db → (first : ℕ) (lines : List (List ℕ)) → StopsTold desc db first lines
stops_told desc run db start first lines = leaves_told first (ValidQuiet desc run) (script_events desc db first lines) (run_true desc run db start first lines)

pub stay_valid : (desc : Described) → IsRunnable desc → (db : Db) → IsValid desc db → (first : ℕ) (lines : List (List ℕ)) → StayValid desc db first lines
stay_valid desc run db start first lines =
    let r = run_true desc run db start first lines in
    record {
      valid = r.points;
      left = last_valid desc db (answers_quiets desc db first lines) start r.points;
      numbers = numbered_rise first (answers_quiets desc db first lines) r.numbered;
      next = ended_at (script_run desc db first lines).going.session (someone_works (script_run desc db first lines).going.session.programs) ∙ next_after desc run db start first lines;
    }
