-- A run of an engine over a running database, as a run of a script over its files.
use Rattle.std.proofs.Common.{◌⊎◌, inl, inr, ℕ, ◌≡◌, ◌<◌, ◌+◌, ◌^◌, ◌∙◌, Bool, true, false, cond, IsTrue, List, [], ◌∷◌, map, Option, Some, None, refl, sym, ap, subst, arith}
use Rattle.dms_base.specs.Causes.{Rose}
use Rattle.dms_block.specs.Counts.{Faults}
use Rattle.dms_block.specs.declared.block_fault.BlockFault.{BlockFault}
use Rattle.dms_block.specs.declared.block_fault.BlockFault.TheVariants as block
use Rattle.dms_block.specs.Texts.{Prints}
use Rattle.dms_desc.specs.Shape.{Described}
use Rattle.dms_feed.specs.Lines.{raw_lines}
use Rattle.dms_model.specs.Db.{Db}
use Rattle.dms_model.specs.Points.{Stop, LeavesPrefix, StopTextIs}
use Rattle.dms_model.specs.Seen.{Seen}
use Rattle.dms_model.specs.Session.{end_session, fresh_session}
use Rattle.dms_moments.specs.Moments.{Runs}
use Rattle.dms_moments.specs.MomentLaws.{runs_none, runs_on}
use Rattle.dms_runner.specs.Answers.{answers_text, last_quiet, script_events, script_run}
use Rattle.dms_runner.specs.Blaming.{HasBlame}
use Rattle.dms_runner.specs.Events.{IsFullAtEvent, RunEvent, pause, quiets_of}
use Rattle.dms_runner.specs.declared.run.RunFault.{RunFault}
use Rattle.dms_runner.specs.declared.run.RunFault.TheVariants as run
use Rattle.dms_runner.specs.declared.run.RunFault.TheVariants.{Block}
use Rattle.dms_runner.proofs.Rooms.{next_law}
use Rattle.dms_running.specs.Telling.{Telling}
use Rattle.dms_running.specs.Standing.{IsWhole}
use Rattle.dms_running.specs.Points.{DescribedPoint, points_of, next_in}
use Rattle.dms_site.specs.declared.site.Site.{Ghosts}
use Rattle.dms_restore.specs.Logging.{Trail, trail_of, telling_of, telling, points}
use Rattle.dms_restore.specs.Views.{view_of}
use Rattle.dms_store.specs.Lifted.{point_of, lift_stops}
use Rattle.dms_storeverbs.specs.View.{StandsFor, View}
use Rattle.dms_wal.specs.Controls.{KeepsPace}
use Rattle.dms_wal.specs.declared.running.Running.{Running}
use Rattle.dms_wal.specs.Database.{running_held, said_of}
use Rattle.dms_wal.proofs.Lifts.{told_same}
use Rattle.dms_run.specs.Ending.{KeepsLimits}
use Rattle.dms_run.specs.Files.{RunLeavesFiles}
use Rattle.dms_run.specs.States.{EndsWith, LivesEndWith}
use Rattle.dms_run.specs.Stops.{RunLeaves, last_quiet_number}
use Rattle.dms_status.specs.declared.status.Status.{Status}
use Rattle.dms_status.specs.declared.status.Status.TheVariants.{Ok, Memory, DiskFault, SayFault}
use Rattle.dms_runtop.specs.Bound.{AnswersPart}
use Rattle.dms_runtop.specs.Faults.{IsWithin, run_status}
use Rattle.dms_runtop.proofs.Bounds.{bounds_none}
use Rattle.dms_runtop.specs.Over.{BeginsAt, ClosesOver, FilesEndWith, RunsOver, ScriptRuns, seen_site}
use Rattle.dms_runtop.specs.Statuses.{IsOfClosing}
use Rattle.dms_runtop.proofs.Ran.{Carried, CarriedAll, moments_under, ends_under, closed_under, moments_below, closing_below, ran_nothing, ran_failed, ran_closed}

-- ---- a damaged block

none_rose : Rose 0 0 → ⊥
none_rose rose = omega (arith, rose)

-- where no block was found damaged, that is no fault
pub no_damage : (fault : RunFault) (a b : Faults) → a.damaged ≡ 0 → b.damaged ≡ a.damaged → HasBlame fault a b → (f k : ℕ) → fault ≡ Block (block.Damaged f k) → ⊥
no_damage fault a b zero same blame f k is =
    let h : HasBlame (Block (block.Damaged f k)) a b = subst (λ (x : RunFault). HasBlame x a b) is blame in
    let low : Rose 0 b.damaged = subst (λ (x : ℕ). Rose x b.damaged) zero h.0.rose in
    none_rose (subst (λ (x : ℕ). Rose 0 x) (same ∙ zero) low)

-- ---- the text

pub told_text : (b : Bool) (x y : List ℕ) → (IsTrue b → x ≡ y) → ◌≡◌ {A = Option (List ℕ)} (cond b (Some x) None) (cond b (Some y) None)
told_text true x y same = ap (λ (l : List ℕ). Some l) (same refl)
told_text false x y same = refl

-- ---- the next number

-- there is room for one more number at the end of a script
pub room_after : (d : Described) (db : Db) (next now : ℕ) (lines : List (List ℕ)) → next + 1000003 < 2 ^ 64 → KeepsLimits d db next lines → now ≡ (end_session (script_run d db next lines).going.session).next → now + 1 < 2 ^ 64
room_after d db next now lines room keeps is = omega (arith, room, keeps.few, is, next_law d db next lines)

-- ---- a fault that isn't another

memory_not_block : (fault : BlockFault) → run.Memory ≡ Block fault → ⊥
memory_not_block fault is = absurd cc

memory_not_lines : run.Memory ≡ run.Lines → ⊥
memory_not_lines is = absurd cc

memory_not_bytes : run.Memory ≡ run.Bytes → ⊥
memory_not_bytes is = absurd cc

memory_not_held : run.Memory ≡ run.Held → ⊥
memory_not_held is = absurd cc

pub memory_not_disk : Memory ≡ DiskFault → ⊥
memory_not_disk is = absurd cc

pub memory_not_say : Memory ≡ SayFault → ⊥
memory_not_say is = absurd cc

memory_not_ok : Memory ≡ Ok → ⊥
memory_not_ok is = absurd cc

memory_not_input : run.Memory ≡ run.Input → ⊥
memory_not_input is = absurd cc

-- ---- a run

module _ {S : Type 0} (g : Ghosts S) (d e e' : Described) (r r' : Running S) (same : e ≡ d) (same' : e' ≡ d) (pace : KeepsPace r r') (total first : ℕ) (ps : List DescribedPoint) (n : ℕ) (db : Db) (all : List ℕ) (b : BeginsAt g r total first ps d n db) where
  abbrev t : Telling
  t = telling_of total first

  abbrev trail : Trail
  trail = record { total = total; first = first }

  abbrev script : List RunEvent
  script = script_events d db r.next (raw_lines all)

  abbrev entry : Option (List ℕ)
  entry = said_of g r.log

  begins_trail : trail_of (view_of g r.log) ≡ trail
  begins_trail = λ i. record { total = b.total_is i; first = b.first_is i }

  keeps_trail : trail_of (view_of g r'.log) ≡ trail_of (view_of g r.log)
  keeps_trail = λ i. record { total = pace.total i; first = pace.first i }

  moments_of : (events : List RunEvent) → Runs (lift_stops e (running_held g r).clock) (lift_stops e' (running_held g r').clock) (RunLeaves (running_held g r).whole entry (map (point_of e) (running_held g r).points) n db r.next events)
      → Runs (g.clock r.log.site) (g.clock r'.log.site) (RunLeavesFiles t d entry ps n db r.next events)
  moments_of events leaves =
      moments_below g d trail r r' begins_trail keeps_trail ps b.points_are n db r.next events
      (moments_under d e e' (running_held g r) (running_held g r') (running_held g r).whole entry n db r.next events same same' leaves)

  closing_of : (site : S) (status : Status) → ClosesOver g r' status site
      → ((stop : Stop) → LeavesPrefix (running_held g r').whole (running_held g r').durable (map (point_of e') (running_held g r').points) (running_held g r').next stop → StopTextIs (running_held g r').said stop
      → RunLeaves (running_held g r).whole entry (map (point_of e) (running_held g r).points) n db r.next script stop)
      → r'.next + 1 < 2 ^ 64 → Runs (g.clock r'.log.site) (g.clock site) (RunLeavesFiles t d entry ps n db r.next script)
  closing_of site status closes ends room =
      closing_below g d trail r r' begins_trail keeps_trail ps b.points_are n db r.next script site
      (ends_under d e e' (running_held g r) (running_held g r') (running_held g r).whole entry n db r.next script same same' ends) b.tells room closes.leaves

  files_end : (site : S) (status : Status) → ClosesOver g r' status site → (m : ℕ) (x : Db) → EndsWith (map (point_of e') (running_held g r').points) m x → (k : ℕ) → r'.next ≡ k → status ≡ Ok → FilesEndWith t d m x k (seen_site g site)
  files_end site status closes m x ends k next_is ok =
      let told : telling (view_of g r'.log) ≡ t = told_same (keeps_trail ∙ begins_trail) in
      let are : points_of t (g.files site) ≡ points (view_of g r'.log) = ap (λ (k : Telling). points_of k (g.files site)) (sym told) ∙ closes.points_are ok b.tells in
      record {
        whole = subst (λ (w : Telling). IsWhole w (g.files site)) told (closes.whole ok b.tells);
        next_is = ap (λ (w : Telling). next_in w (g.files site)) (sym told) ∙ closes.next_is ok b.tells ∙ next_is;
        state = subst (λ (l : List DescribedPoint). LivesEndWith d l m x) (sym are) (closed_under d e' (points (view_of g r'.log)) m x same' ends);
        only = closes.only ok b.tells;
      }

  -- what is changed goes on up to file FILES of the description
  abbrev at_files : (left' : Option (List ℕ)) (fault : RunFault) → Carried r.log.end.limit d db r.next all left' entry (said_of g r'.log) fault → Carried d.files d db r.next all left' entry (said_of g r'.log) fault
  at_files left' fault c = record {
    carried = c.carried;
    due = λ f is. subst (λ (last : ℕ). IsFullAtEvent last f entry (said_of g r'.log) c.carried.events) b.limit_is (c.due f is);
    many_lines = c.many_lines;
    many_bytes = c.many_bytes;
    many_held = c.many_held;
    cut = c.cut;
  }

  -- the script stopped before its end, and the site was given back
  pub failed_over : (left' : Option (List ℕ)) (fault : RunFault) (status : Status) (site : S) → status ≡ run_status fault → site ≡ r'.log.site → (c : Carried r.log.end.limit d db r.next all left' entry (said_of g r'.log) fault)
      → Runs (lift_stops e (running_held g r).clock) (lift_stops e' (running_held g r').clock) (RunLeaves (running_held g r).whole entry (map (point_of e) (running_held g r).points) n db r.next c.carried.events)
      → ((f k : ℕ) → fault ≡ Block (block.Damaged f k) → ⊥) → AnswersPart 18 t d c.carried.events (g.files r.log.site) (g.files r'.log.site) entry (said_of g r'.log) (run_status fault)
      → ScriptRuns 18 t d ps n db r.next all (seen_site g r.log.site) (seen_site g site) left' status
  failed_over left' fault status site status_is site_is c leaves damaged bound =
      subst (λ (x : Status). ScriptRuns 18 t d ps n db r.next all (seen_site g r.log.site) (seen_site g site) left' x) (sym status_is)
      (subst (λ (x : S). ScriptRuns 18 t d ps n db r.next all (seen_site g r.log.site) (seen_site g x) left' (run_status fault)) (sym site_is)
      (ran_failed 18 t d ps n db r.next all (seen_site g r.log.site) (seen_site g r'.log.site) left' fault (at_files left' fault c) (moments_of c.carried.events leaves) damaged bound))

  -- the bound of one fault is that of the same one
  bound_at : (events : List RunEvent) (then fault : RunFault) → then ≡ fault → AnswersPart 18 t d events (g.files r.log.site) (g.files r'.log.site) entry (said_of g r'.log) (run_status then)
      → AnswersPart 18 t d events (g.files r.log.site) (g.files r'.log.site) entry (said_of g r'.log) (run_status fault)
  bound_at events then fault same bound =
      subst (λ (x : RunFault). AnswersPart 18 t d events (g.files r.log.site) (g.files r'.log.site) entry (said_of g r'.log) (run_status x)) same bound

  -- what was carried out at one fault, told of want of memory
  abbrev carried_short : (left' : Option (List ℕ)) (fault : RunFault) → Carried r.log.end.limit d db r.next all left' entry (said_of g r'.log) fault → Carried r.log.end.limit d db r.next all left' entry (said_of g r'.log) run.Memory
  carried_short left' fault c = record {
    carried = c.carried;
    due = λ f is. absurd (memory_not_block (block.Full f) is);
    many_lines = λ is. absurd (memory_not_lines is);
    many_bytes = λ is. absurd (memory_not_bytes is);
    many_held = λ is. absurd (memory_not_held is);
    cut = λ is. absurd (memory_not_input is);
  }

  -- the same, where a full audit at another file counted as want of memory
  pub within_over : (left' : Option (List ℕ)) (last : ℕ) (fault then : RunFault) (status : Status) (site : S) → IsWithin last fault then → last ≡ r'.log.end.limit → status ≡ run_status then → site ≡ r'.log.site
      → (c : Carried r.log.end.limit d db r.next all left' entry (said_of g r'.log) fault)
      → Runs (lift_stops e (running_held g r).clock) (lift_stops e' (running_held g r').clock) (RunLeaves (running_held g r).whole entry (map (point_of e) (running_held g r).points) n db r.next c.carried.events)
      → ((f k : ℕ) → fault ≡ Block (block.Damaged f k) → ⊥) → AnswersPart 18 t d c.carried.events (g.files r.log.site) (g.files r'.log.site) entry (said_of g r'.log) (run_status then)
      → ScriptRuns 18 t d ps n db r.next all (seen_site g r.log.site) (seen_site g site) left' status
  within_over left' last fault then status site (inl within) last_is status_is site_is c leaves damaged bound =
      failed_over left' fault status site (status_is ∙ ap run_status within.0) site_is c leaves damaged (bound_at c.carried.events then fault within.0 bound)
  within_over left' last fault then status site (inr memory) last_is status_is site_is c leaves damaged bound =
      failed_over left' run.Memory status site (status_is ∙ ap run_status memory.0) site_is (carried_short left' fault c) leaves
      (λ f k is. memory_not_block (block.Damaged f k) is) (bound_at c.carried.events then run.Memory memory.0 bound)

  -- the script was carried out, and then the database closed
  pub closed_over : (left' : Option (List ℕ)) (status : Status) (site : S) → (status ≡ Ok) ⊎ IsOfClosing status → ClosesOver g r' status site → (IsTrue g.tells_said → g.said site ≡ g.said r'.log.site)
      → CarriedAll d db r.next all
      → Runs (lift_stops e (running_held g r).clock) (lift_stops e' (running_held g r').clock) (RunLeaves (running_held g r).whole entry (map (point_of e) (running_held g r).points) n db r.next script)
      → ((stop : Stop) → LeavesPrefix (running_held g r').whole (running_held g r').durable (map (point_of e') (running_held g r').points) (running_held g r').next stop → StopTextIs (running_held g r').said stop
      → RunLeaves (running_held g r).whole entry (map (point_of e) (running_held g r).points) n db r.next script stop)
      → EndsWith (map (point_of e') (running_held g r').points) (last_quiet_number n (quiets_of script)) (last_quiet db (quiets_of script))
      → Prints entry (said_of g r'.log) (answers_text d db r.next (raw_lines all))
      → KeepsLimits d db r.next (raw_lines all) → r'.next ≡ (end_session (script_run d db r.next (raw_lines all)).going.session).next
      → AnswersPart 18 t d script (g.files r.log.site) (g.files site) entry (said_of g r'.log) status
      → ScriptRuns 18 t d ps n db r.next all (seen_site g r.log.site) (seen_site g site) left' status
  closed_over left' status site of closes said carried leaves behind ends prints limits next_is bound =
      let text : (seen_site g site).said ≡ said_of g r'.log = told_text g.tells_said (g.said site) (g.said r'.log.site) said in
      let room : r'.next + 1 < 2 ^ 64 = room_after d db r.next r'.next (raw_lines all) b.room limits next_is in
      ran_closed 18 t d ps n db r.next all (seen_site g r.log.site) (seen_site g site) left' status of
      carried
      (runs_on (moments_of script leaves) (closing_of site status closes behind room) (λ x l. l))
      (files_end site status closes (last_quiet_number n (quiets_of script)) (last_quiet db (quiets_of script)) ends (end_session (script_run d db r.next (raw_lines all)).going.session).next next_is)
      (subst (λ (s : Option (List ℕ)). Prints entry s (answers_text d db r.next (raw_lines all))) (sym text) prints)
      limits
      (subst (λ (s : Option (List ℕ)). AnswersPart 18 t d script (g.files r.log.site) (g.files site) entry s status) (sym text) bound)

-- ---- before the script

-- an engine over this store begins as one over that
pub fresh_over : {St : Type 0} (seen : St → Seen) (v : View) (a b : St) → a ≡ b → ((x : Db) → (seen b).db ≡ Some x → StandsFor v (fresh_session x (seen b).next)) → (x : Db) → (seen a).db ≡ Some x → StandsFor v (fresh_session x (seen a).next)
fresh_over {St} seen v a b same stands x is = subst (λ (s : St). StandsFor v (fresh_session x (seen s).next)) (sym same) (stands x (subst (λ (s : St). (seen s).db ≡ Some x) same is))

-- memory was refused before the first line, and the site was given back
pub refused_over : {S : Type 0} (g : Ghosts S) (d : Described) (r : Running S) (site : S) (left left' : Option (List ℕ)) → site ≡ r.log.site → RunsOver g r d left left' Memory site
refused_over {S} g d r site left left' same total first ps n db all b is =
    subst (λ (x : S). ScriptRuns 18 (telling_of total first) d ps n db r.next all (seen_site g r.log.site) (seen_site g x) left' Memory) (sym same)
    (ran_nothing 18 (telling_of total first) d ps n db r.next all (seen_site g r.log.site) (seen_site g r.log.site) left' Memory tt
    (runs_none (g.clock r.log.site) (RunLeavesFiles (telling_of total first) d (said_of g r.log) ps n db r.next (pause ∷ []))) refl (bounds_none Memory memory_not_ok refl refl))

-- the same of a running database that is this one, under a description that is this one
pub ran_same : {S : Type 0} (g : Ghosts S) (d d' : Described) (r r' : Running S) (left left' : Option (List ℕ)) (status : Status) (site : S) → d' ≡ d → r' ≡ r → RunsOver g r' d' left left' status site → RunsOver g r d left left' status site
ran_same {S} g d d' r r' left left' status site same is ran =
    subst (λ (x : Described). RunsOver g r x left left' status site) same (subst (λ (x : Running S). RunsOver g x d' left left' status site) is ran)
