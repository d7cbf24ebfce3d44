-- What a run over a store on a running database is of the files below.
use Rattle.std.proofs.Common.{inl, inr, ◌⊎◌, ℕ, ◌≡◌, ◌<◌, ◌+◌, ◌^◌, ◌∙◌, Bool, true, false, IsTrue, List, [], ◌∷◌, ◌++◌, map, length, Option, Some, refl, sym, ap, subst, arith}
use Rattle.std.proofs.lemmas.List.{length-map, append-nil}
use Rattle.std.specs.declared.result.Result.{Result}
use Rattle.std.specs.declared.result.Result.TheVariants as result
use Rattle.dms_block.specs.Held.{Held}
use Rattle.dms_block.specs.Texts.{Prints}
use Rattle.dms_desc.specs.Shape.{Described, as_described}
use Rattle.dms_model.specs.Db.{Db}
use Rattle.dms_model.specs.Points.{Point, Stop, LeavesPrefix, StopTextIs}
use Rattle.dms_moments.specs.Moments.{Runs}
use Rattle.dms_moments.specs.MomentLaws.{runs_weaken}
use Rattle.dms_block.specs.declared.block_fault.BlockFault.TheVariants as block
use Rattle.dms_feed.specs.Lines.{raw_lines}
use Rattle.dms_runner.specs.Answers.{LineEffect, answers_text, first_state, script_events}
use Rattle.dms_runner.specs.Blaming.{IsFullRun}
use Rattle.dms_runner.specs.Events.{IsFullAtEvent, RunEvent, pause}
use Rattle.dms_runner.specs.Running.{AreOfFront, KeepsFront}
use Rattle.dms_runner.specs.Starting.{CarriesOut}
use Rattle.dms_runner.proofs.Running.{run_none}
use Rattle.dms_model.specs.declared.store.Store as store
use Rattle.dms_storeverbs.specs.declared.engine.Engine.{Engine}
use Rattle.dms_storeverbs.specs.View.{engine_view}
use Rattle.dms_runner.specs.declared.run.RunFault.{RunFault}
use Rattle.dms_runner.specs.declared.run.RunFault.TheVariants as run
use Rattle.dms_runner.specs.declared.run.RunFault.TheVariants.{Block}
use Rattle.dms_running.specs.Telling.{Telling}
use Rattle.dms_running.specs.Standing.{IsWhole}
use Rattle.dms_running.specs.Points.{DescribedPoint}
use Rattle.dms_site.specs.declared.site.Site.{Ghosts}
use Rattle.dms_site.specs.Files.{Files}
use Rattle.dms_restore.specs.Logging.{Trail, trail_of, telling_of, telling}
use Rattle.dms_restore.specs.Views.{view_of}
use Rattle.dms_store.specs.Lifted.{db_of, point_of, lift_stops, stop_of as store_stop}
use Rattle.dms_store.specs.LiftedLaws as stores
use Rattle.dms_store.specs.Spelled.{database_in}
use Rattle.dms_wal.specs.declared.running.Running.{Running}
use Rattle.dms_wal.specs.Closing.{LeavesUntil}
use Rattle.dms_wal.specs.Database.{running_held, said_of}
use Rattle.dms_wal.specs.Lifting as wal
use Rattle.dms_wal.proofs.Lifts as walks
use Rattle.dms_run.specs.States.{EndsWith, LivesEndWith}
use Rattle.dms_run.specs.Ending.{KeepsLimits}
use Rattle.dms_run.specs.Stops.{RunLeaves}
use Rattle.dms_status.specs.declared.status.LimitKind.{LimitKind}
use Rattle.dms_status.specs.declared.status.LimitKind.TheVariants as limits
use Rattle.dms_status.specs.declared.status.LimitKind.TheVariants.{AuditFile, Lines, Bytes}
use Rattle.dms_status.specs.declared.status.Status.{Status}
use Rattle.dms_status.specs.declared.status.Status.TheVariants.{Ok, Limit}
use Rattle.dms_runtop.specs.Bound.{AnswersPart}
use Rattle.dms_runtop.specs.Faults.{run_status}
use Rattle.dms_runtop.specs.Over.{CarriedOut, CutsScript, IsAtEnds, ReachesFiles, PassesScript, ScriptRuns, SiteSeen}
use Rattle.dms_runtop.proofs.Counted.{an_error}
use Rattle.dms_runtop.proofs.Fronts.{leaves_wide, wider}
use Rattle.dms_runtop.specs.Statuses.{IsOfAuditLimit, IsOfClosing}
use Rattle.dms_runtop.proofs.Endings.{run_not_ok, run_input, run_damaged, run_lines_is, run_bytes_is, run_held_is, run_full_is, ok_not_limit, closing_input, closing_damaged, IsUndone, undone_ok, undone_limit, undone_input, undone_damaged}
use Rattle.dms_run.specs.Files.{points_seen, stop_seen, RunLeavesFiles}
use Rattle.dms_run.proofs.Lowering.{files_left, leaves_files}
use Rattle.dms_run.proofs.Words.{blocks_seen, blocks_are, lives_seen, lives_are}
use Rattle.dms_wal.specs.Lifting.{block_point}

-- ---- the database

pub db_told : (desc : Described) (b : Bool) (c : _) (db : Db) → IsTrue b → database_in desc c ≡ Some db → db_of desc b c ≡ Some db
db_told desc true c db told is = is
db_told desc false c db told is = absurd (cc)

pub all_durable : (desc : Described) (h : Held) → h.durable ≡ length h.points → h.durable ≡ length (map (point_of desc) h.points)
all_durable desc h is = is ∙ sym (length-map h.points (point_of desc))

-- ---- the same description

pub db_under : (d e : Described) (b : Bool) (c : _) (db : Db) → e ≡ d → IsTrue b → database_in d c ≡ Some db → db_of e b c ≡ Some db
db_under d e b c db same told is = db_told e b c db told (ap (λ (x : Described). database_in x c) same ∙ is)

pub state_under : (d e : Described) (h : Held) (ps : List DescribedPoint) (n : ℕ) (db : Db) → e ≡ d → map (point_of d) h.points ≡ points_seen d ps → LivesEndWith d ps n db → EndsWith (map (point_of e) h.points) n db
state_under d e h ps n db same are state =
    subst (λ (x : Described). EndsWith (map (point_of x) h.points) n db) (sym same)
    (subst (λ (p : List Point). EndsWith p n db) (sym are) (blocks_seen d (map block_point ps) n db (lives_seen d ps n db state)))

pub moments_under : (d e e' : Described) (a b : Held) (whole : Files → Type 0) (entry : Option (List ℕ)) (n : ℕ) (db : Db) (next : ℕ) (events : List RunEvent) → e ≡ d → e' ≡ d
    → Runs (lift_stops e a.clock) (lift_stops e' b.clock) (RunLeaves whole entry (map (point_of e) a.points) n db next events)
    → Runs (lift_stops d a.clock) (lift_stops d b.clock) (RunLeaves whole entry (map (point_of d) a.points) n db next events)
moments_under d e e' a b whole entry n db next events same same' run =
    subst (λ (x : Described). Runs (lift_stops x a.clock) (lift_stops d b.clock) (RunLeaves whole entry (map (point_of x) a.points) n db next events)) same
    (subst (λ (x : Described). Runs (lift_stops e a.clock) (lift_stops x b.clock) (RunLeaves whole entry (map (point_of e) a.points) n db next events)) same' run)

pub ends_under : (d e e' : Described) (a b : Held) (whole : Files → Type 0) (entry : Option (List ℕ)) (n : ℕ) (db : Db) (next : ℕ) (events : List RunEvent) → e ≡ d → e' ≡ d
    → ((stop : Stop) → LeavesPrefix b.whole b.durable (map (point_of e') b.points) b.next stop → StopTextIs b.said stop → RunLeaves whole entry (map (point_of e) a.points) n db next events stop)
    → (stop : Stop) → LeavesPrefix b.whole b.durable (map (point_of d) b.points) b.next stop → StopTextIs b.said stop → RunLeaves whole entry (map (point_of d) a.points) n db next events stop
ends_under d e e' a b whole entry n db next events same same' ends stop front text =
    subst (λ (x : Described). RunLeaves whole entry (map (point_of x) a.points) n db next events stop) same
    (ends stop (subst (λ (x : Described). LeavesPrefix b.whole b.durable (map (point_of x) b.points) b.next stop) (sym same') front) text)

pub closed_under : (d e : Described) (ps : List DescribedPoint) (n : ℕ) (db : Db) → e ≡ d → EndsWith (map (point_of e) (map block_point ps)) n db → LivesEndWith d ps n db
closed_under d e ps n db same ends = lives_are d ps n db (blocks_are d (map block_point ps) n db (subst (λ (x : Described). EndsWith (map (point_of x) (map block_point ps)) n db) same ends))

-- ---- what stops leave

module _ {S : Type 0} (g : Ghosts S) (d : Described) (trail : Trail) (r r' : Running S) (is : trail_of (view_of g r.log) ≡ trail) (same : trail_of (view_of g r'.log) ≡ trail_of (view_of g r.log)) (ps : List DescribedPoint) (points_are : map (point_of d) (running_held g r).points ≡ points_seen d ps)
    (n : ℕ) (db : Db) (next : ℕ) (events : List RunEvent) where
  abbrev t : Telling
  t = telling_of trail.total trail.first

  abbrev entry : Option (List ℕ)
  entry = said_of g r.log

  -- a stop within the script
  pub moments_below : Runs (lift_stops d (running_held g r).clock) (lift_stops d (running_held g r').clock) (RunLeaves (running_held g r).whole entry (map (point_of d) (running_held g r).points) n db next events)
      → Runs (g.clock r.log.site) (g.clock r'.log.site) (RunLeavesFiles t d entry ps n db next events)
  moments_below run =
      subst (λ (k : Telling). Runs (g.clock r.log.site) (g.clock r'.log.site) (RunLeavesFiles k d entry ps n db next events)) (walks.told_same is)
      (files_left g d r r' same entry ps n db next events
      (subst (λ (p : List Point). Runs (lift_stops d (running_held g r).clock) (lift_stops d (running_held g r').clock) (RunLeaves (running_held g r).whole entry p n db next events)) points_are run))

  -- a stop within the closing control point
  pub closing_below : (site : S) → ((stop : Stop) → LeavesPrefix (running_held g r').whole (running_held g r').durable (map (point_of d) (running_held g r').points) (running_held g r').next stop → StopTextIs (running_held g r').said stop
      → RunLeaves (running_held g r).whole entry (map (point_of d) (running_held g r).points) n db next events stop)
      → IsTrue g.tells → r'.next + 1 < 2 ^ 64 → LeavesUntil (running_held g r') (wal.lift_clock (telling (view_of g r'.log)) (g.clock site))
      → Runs (g.clock r'.log.site) (g.clock site) (RunLeavesFiles t d entry ps n db next events)
  closing_below site ends tells room leaves =
      let k = telling (view_of g r'.log) in
      let a = running_held g r' in
      let b : Held = record a { clock = wal.lift_clock k (g.clock site) } in
      let known : List Point = map (point_of d) (running_held g r).points in
      let up = stores.leaves_lifted d a b a.points a.next (leaves tells room) in
      let ran : Runs (lift_stops d a.clock) (lift_stops d b.clock) (RunLeaves (running_held g r).whole entry known n db next events) = runs_weaken up (λ stop p. ends stop p.0 p.1) in
      let blocks = stores.lower_runs d a b ran in
      let below = walks.lower_runs k (g.clock r'.log.site) (g.clock site) blocks in
      runs_weaken below (λ x l. leaves_files t d entry ps n db next events x
      (subst (λ (w : Telling). RunLeaves (IsWhole w) entry (points_seen d ps) n db next events (stop_seen t d x)) (walks.told_same is)
      (subst (λ (p : List Point). RunLeaves (running_held g r).whole entry p n db next events (stop_seen t d x)) points_are
      (subst (λ (w : Telling). RunLeaves (running_held g r).whole entry known n db next events (store_stop d (wal.stop_of w x))) (walks.told_same (same ∙ is)) l))))

-- ---- what is printed

still_prints : (said : Option (List ℕ)) → Prints said said []
still_prints said = λ t is. is ∙ ap (λ (s : List ℕ). Some s) (sym (append-nil t))

-- ---- what was carried out

-- So much of a script was carried out where the run stopped with this fault, told by the text before it and behind it. What is changed may go on up to
-- this audit file.
pub record Carried (last : ℕ) (d : Described) (db : Db) (next : ℕ) (all : List ℕ) (left' : Option (List ℕ)) (said said' : Option (List ℕ)) (fault : RunFault) : Type 0 where
  pub carried : CarriedOut d db next (raw_lines all)
  pub due : (f : ℕ) → fault ≡ Block (block.Full f) → IsFullAtEvent last f said said' carried.events
  pub many_lines : fault ≡ run.Lines → PassesScript Lines d db next (raw_lines all) carried.lines carried.events said said'
  pub many_bytes : fault ≡ run.Bytes → PassesScript Bytes d db next (raw_lines all) carried.lines carried.events said said'
  pub many_held : fault ≡ run.Held → PassesScript limits.Held d db next (raw_lines all) carried.lines carried.events said said'
  pub cut : fault ≡ run.Input → CutsScript d db next all left' carried.lines carried.events said said'

-- All of it was.
pub record CarriedAll (d : Described) (db : Db) (next : ℕ) (all : List ℕ) : Type 0 where
  pub lines : ℕ
  pub front : KeepsFront (raw_lines all) lines
  pub are : AreOfFront d db next (raw_lines all) lines (script_events d db next (raw_lines all))

abbrev pub fault_of : RunFault → Result (Unit {0}) RunFault
fault_of fault = result.Err fault

abbrev pub ok_of : Unit {0} → Result (Unit {0}) RunFault
ok_of x = result.Ok x

pub full_run : (fault : RunFault) (f : ℕ) → fault ≡ Block (block.Full f) → IsFullRun (fault_of fault) f
full_run fault f is = subst (λ (x : RunFault). IsFullRun (fault_of x) f) (sym is) refl

module _ {St : Type 0} {g : store.Ghosts St} (left' : Option (List ℕ)) (old new : Engine St g) (db : Db) (first : ℕ) (all : List ℕ) where
  abbrev pub carried_of : (fault : RunFault) → CarriesOut (fault_of fault) left' old new db first all → Carried (engine_view old).pace.last (as_described old.desc) db first all left' (engine_view old).said (engine_view new).said fault
  carried_of fault k = record {
    carried = record { lines = k.n; front = k.front; events = k.events; are = k.are };
    due = λ f is. k.part.due f (full_run fault f is);
    many_lines = λ is. let x = k.lines (an_error fault run.Lines is) in (x.0, x.1.are);
    many_bytes = λ is. let x = k.bytes (an_error fault run.Bytes is) in (x.0, x.1.are);
    many_held = λ is. let x = k.full_list (an_error fault run.Held is) in (x.0, x.1.are);
    cut = λ is. let x = k.failed (an_error fault run.Input is) in (x.0, x.1.are);
  }

  pub carried_all : (x : Unit {0}) → CarriesOut (ok_of x) left' old new db first all → CarriedAll (as_described old.desc) db first all
  carried_all x k = record { lines = k.n; front = k.front; are = subst (λ (es : List RunEvent). AreOfFront (as_described old.desc) db first (raw_lines all) k.n es) k.whole k.are }

-- ---- a run, by how it ended

module _ (most : ℕ) (t : Telling) (d : Described) (ps : List DescribedPoint) (n : ℕ) (db : Db) (next : ℕ) (all : List ℕ) (a b : SiteSeen) (left' : Option (List ℕ)) where
  abbrev Part : List RunEvent → Status → Type 0
  Part events status = AnswersPart most t d events a.files b.files a.said b.said status

  abbrev script : List RunEvent
  script = script_events d db next (raw_lines all)

  abbrev Leaves : List RunEvent → Type 0
  Leaves events = Runs a.clock b.clock (RunLeavesFiles t d a.said ps n db next events)

  -- so it is behind them
  paused : (events : List RunEvent) → Leaves events → Leaves (events ++ pause ∷ [])
  paused events moments = runs_weaken moments (leaves_wide (wider events (pause ∷ [])))

  pub of_audit : (lines : ℕ) (events : List RunEvent) (k : LimitKind) → IsOfAuditLimit k → IsAtEnds d db next (raw_lines all) events a.said b.said → PassesScript k d db next (raw_lines all) lines events a.said b.said
  of_audit lines events (AuditFile f) is ends = inr (is, ends)
  of_audit lines events Lines is ends = absurd is
  of_audit lines events Bytes is ends = absurd is
  of_audit lines events limits.Held is ends = absurd is

  no_lines : KeepsFront (raw_lines all) 0
  no_lines = record { within = omega arith; few = omega arith; short = omega arith }

  -- nothing was done: the status is none of a script
  pub ran_nothing : (status : Status) → IsUndone status → Leaves (pause ∷ []) → b.said ≡ a.said → Part [] status → ScriptRuns most t d ps n db next all a b left' status
  ran_nothing status undone moments same part = record {
    does = record {
      carried = record { lines = 0; front = no_lines; events = []; are = inl (sym (ap (λ (e : LineEffect). e.events) (run_none d (first_state db next)))) };
      whole = λ is. absurd (undone_ok status undone is);
      answers = λ is. absurd (undone_ok status undone is);
      part = part;
      limit = λ k is. of_audit 0 [] k (undone_limit status undone k is) (inl (refl, subst (λ (s : Option (List ℕ)). Prints a.said s []) (sym same) (still_prints a.said)));
      input_cut = λ is. absurd (undone_input status undone is);
      undamaged = λ f k is high. undone_damaged status undone f k is high;
    };
    every_moment = moments;
    at_ok = λ is. absurd (undone_ok status undone is);
  }

  -- the script stopped before its end
  pub ran_failed : (fault : RunFault) (c : Carried d.files d db next all left' a.said b.said fault) → Leaves c.carried.events → ((f k : ℕ) → fault ≡ Block (block.Damaged f k) → ⊥) → Part c.carried.events (run_status fault)
      → ScriptRuns most t d ps n db next all a b left' (run_status fault)
  ran_failed fault c moments damaged part = record {
    does = record {
      carried = c.carried;
      whole = λ is. absurd (run_not_ok fault is);
      answers = λ is. absurd (run_not_ok fault is);
      part = part;
      limit = λ k is. passes k is;
      input_cut = λ is. c.cut (run_input fault is);
      undamaged = λ f k is high. damaged f k (run_damaged fault f k is);
    };
    every_moment = paused c.carried.events moments;
    at_ok = λ is. absurd (run_not_ok fault is);
  }
    where
      passes : (k : LimitKind) → run_status fault ≡ Limit k → PassesScript k d db next (raw_lines all) c.carried.lines c.carried.events a.said b.said
      passes (AuditFile f) is = inl (c.due f (run_full_is fault f is))
      passes Lines is = c.many_lines (run_lines_is fault is)
      passes Bytes is = c.many_bytes (run_bytes_is fault is)
      passes limits.Held is = c.many_held (run_held_is fault is)

  -- the script was carried out, and the database closed, or not closed
  pub ran_closed : (status : Status) → (status ≡ Ok) ⊎ IsOfClosing status → (c : CarriedAll d db next all) → Leaves script → (status ≡ Ok → ReachesFiles t d n db next (raw_lines all) b) → Prints a.said b.said (answers_text d db next (raw_lines all))
      → KeepsLimits d db next (raw_lines all) → Part script status → ScriptRuns most t d ps n db next all a b left' status
  ran_closed status of c moments ends prints keeps part = record {
    does = record {
      carried = record { lines = c.lines; front = c.front; events = script; are = c.are };
      whole = λ is. refl;
      answers = λ is. record { few = keeps.few; short = keeps.short; room = keeps.room; text = prints };
      part = part;
      limit = λ k is. closing_limit status of k is;
      input_cut = λ is. absurd (closing_input status of is);
      undamaged = λ f k is high. closing_damaged status of f k is;
    };
    every_moment = paused script moments;
    at_ok = ends;
  }
    where
      closing_limit : (s : Status) → (s ≡ Ok) ⊎ IsOfClosing s → (k : LimitKind) → s ≡ Limit k → PassesScript k d db next (raw_lines all) c.lines script a.said b.said
      closing_limit s (inl ok) k is = absurd (ok_not_limit k (sym ok ∙ is))
      closing_limit s (inr of) k is = of_audit c.lines script k (subst IsOfClosing is of) (inr (refl, prints))
