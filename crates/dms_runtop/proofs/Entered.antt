-- A run of the files that stand for a state, from the opening on.
use Rattle.std.proofs.Common.{ℕ, ◌+◌, ◌≤◌, ◌≡◌, ◌∙◌, inl, inr, IsTrue, List, [], ◌∷◌, ◌++◌, map, Option, Some, None, cond, length, refl, sym, ap, subst, arith}
use Rattle.std.specs.Prelude.{is_some}
use Rattle.dms_desc.specs.Shape.{Described}
use Rattle.dms_desc_bytes.specs.Spelling.{spelling}
use Rattle.dms_feed.specs.Lines.{raw_lines}
use Rattle.dms_runner.specs.Answers.{script_events}
use Rattle.dms_runner.specs.Events.{RunEvent}
use Rattle.dms_model.specs.Db.{Db}
use Rattle.dms_model.specs.Valid.{IsValid}
use Rattle.dms_moments.specs.Moments.{Runs}
use Rattle.dms_moments.specs.MomentLaws.{runs_weaken}
use Rattle.dms_history.specs.EntryEvents.{live_of, history_of}
use Rattle.dms_history.specs.Here.{here}
use Rattle.dms_history.specs.Points.{live_points}
use Rattle.dms_history.specs.SchemaAt.{schema_at}
use Rattle.dms_audfile.specs.TrailEntries.{trail_entries}
use Rattle.dms_running.specs.Telling.{Telling}
use Rattle.dms_running.specs.Standing.{IsWhole}
use Rattle.dms_running.specs.Points.{DescribedPoint, described_in, points_of, next_in, schema_bytes}
use Rattle.dms_site.specs.declared.site.Site.{Ghosts}
use Rattle.dms_site.specs.Files.{Files, stored_of}
use Rattle.dms_opening.specs.declared.choosing.OpenFault.{OpenFault}
use Rattle.dms_restore.specs.Logging.{telling_of, telling}
use Rattle.dms_restore.specs.Views.{view_of}
use Rattle.dms_wal.specs.Marks.{last_number}
use Rattle.dms_opening.specs.declared.opened.Opened.{Opened}
use Rattle.dms_opening.specs.Openings.{IsNoRefusal, IsOpenable, OpeningGrows, OpensAt, ReopensSince, RunsFrom}
use Rattle.dms_opening.proofs.Callers.{trail_is_one}
use Rattle.dms_run.specs.Files.{RunLeavesFiles}
use Rattle.dms_run.specs.State.{HasNext}
use Rattle.dms_run.specs.States.{LivesEndWith}
use Rattle.dms_run.specs.Held.{HoldsLast, NextIsOne, StatesAreHeld}
use Rattle.dms_run.specs.RunStands.{EndsStand, StopsStand}
use Rattle.dms_status.specs.declared.status.Status.{Status}
use Rattle.dms_runtop.proofs.Bounds.{bounds_opening}
use Rattle.dms_guard.proofs.Refused.{open_ok}
use Rattle.dms_run.specs.Opens.{DatabaseState, HoldsState, HoldsTold, StatesHold}
use Rattle.dms_runtop.specs.Command.{GrowsOpened, NeverRefuses, NeverRefusesState, RunKeepsTrail, RunsAlong, RunsCommand, RunsOpened, EndsInState, StandsOpened, StandsThroughout}
use Rattle.dms_guard.specs.Faults.{open_status}
use Rattle.dms_runtop.specs.Over.{ReachesFiles, ScriptRuns, seen_site}
use Rattle.dms_runtop.proofs.Endings.{IsUndone}
use Rattle.dms_runtop.proofs.Fronts.{leaves_wide, script_widens}
use Rattle.dms_runtop.proofs.Grows.{keeps_entered, keeps_opening}
use Rattle.dms_run.proofs.Holding.{trail_of}
use Rattle.dms_runtop.proofs.Ran.{ran_nothing}
use Rattle.dms_run.proofs.Holding.{last_is}
use Rattle.dms_runtop.proofs.Since.{reopens_leaves, runs_since}

-- ---- the description of the last point

record Comes {A B : Type 0} (f : A → B) (y : B) : Type 0 where
  from : A
  is : y ≡ f from

one_comes : {A B : Type 0} (f : A → B) (xs : List A) (before : List B) (y : B) → map f xs ≡ before ++ y ∷ [] → Comes f y
one_comes f [] [] y is = absurd cc
one_comes f [] (b ∷ before) y is = absurd cc
one_comes {B = B} f (x ∷ xs) [] y is = record { from = x; is = head_same _ _ _ _ is }
  where
    head_same : (a b : B) (xs ys : List B) → a ∷ xs ≡ b ∷ ys → b ≡ a
    head_same a b xs ys e = cc
one_comes {B = B} f (x ∷ xs) (b ∷ before) y is = one_comes f xs before y (tail_same _ _ _ _ is)
  where
    tail_same : (a b : B) (xs ys : List B) → a ∷ xs ≡ b ∷ ys → xs ≡ ys
    tail_same a b xs ys e = cc

-- the Schema at the last point is that of its description
described_at : (total first : ℕ) (files : Files) (desc : Described) (n : ℕ) (db : Db) (bytes : List ℕ) → LivesEndWith desc (points_of (telling_of total first) files) n db → schema_at (trail_entries total first files) n ≡ Some bytes → spelling desc ≡ bytes
described_at total first files desc n db bytes state is =
    let t = telling_of total first in
    let e = trail_entries total first files in
    let p = one_comes (described_in e) (live_points (live_of e) (here (t.dumps files) (history_of e) (stored_of files))) state.before state.point state.are in
    let told : state.point.schema ≡ schema_bytes (schema_at e state.point.number) = ap (λ (q : DescribedPoint). q.schema) p.is ∙ ap (λ (q : DescribedPoint). schema_bytes (schema_at e q.number)) (sym p.is) in
    sym state.schema ∙ told ∙ ap (λ (m : ℕ). schema_bytes (schema_at e m)) state.number ∙ ap schema_bytes is

-- ---- it was opened

module _ {S : Type 0} (g : Ghosts S) (old : S) (s : DatabaseState) where
  -- files that stand for a state, opened
  abbrev stands_opened : (o : Opened S) → OpensAt o.log.end.total o.log.first (g.files old) o.point o.next o.schema.items o.counts.items
      → RunsFrom (g.files old) o.point o.next o.schema.items o.counts.items (view_of g o.log) → (h : HoldsState (g.files old) s) → LivesEndWith s.desc (points_of (telling (view_of g o.log)) (g.files old)) s.point s.db → StandsOpened g o
  stands_opened o opens runs h state =
      let number : o.point ≡ s.point = last_is s.desc (points_of (telling (view_of g o.log)) (g.files old)) s.point o.point s.db state (subst (λ (ps : List DescribedPoint). last_number ps ≡ Some o.point) runs.points_same runs.last.number) in
      record {
        files = g.files old;
        runs = runs;
        desc = s.desc;
        formed = h.formed;
        spelled = described_at o.log.end.total o.log.first (g.files old) s.desc s.point s.db o.schema.items state
            (subst (λ m. schema_at (trail_entries o.log.end.total o.log.first (g.files old)) m ≡ Some o.schema.items) number opens.schema_is);
      }

  -- the trail of the opening is that of the state
  module _ (P : ℕ → ℕ → Type 0) (o : Opened S) (opens : OpensAt o.log.end.total o.log.first (g.files old) o.point o.next o.schema.items o.counts.items) (h : HoldsState (g.files old) s) where
    here_now : P h.total h.first → P o.log.end.total o.log.first
    here_now p =
        let one = trail_is_one h.total h.first o.log.end.total o.log.first (g.files old) h.trail opens.trail in
        subst (λ k. P o.log.end.total k) one.1 (subst (λ k. P k h.first) one.0 p)

  state_here : (o : Opened S) → OpensAt o.log.end.total o.log.first (g.files old) o.point o.next o.schema.items o.counts.items → HoldsState (g.files old) s → LivesEndWith s.desc (points_of (telling (view_of g o.log)) (g.files old)) s.point s.db
  state_here o opens h = here_now (λ a b. LivesEndWith s.desc (points_of (telling_of a b) (g.files old)) s.point s.db) o opens h h.state

  whole_here : (o : Opened S) → OpensAt o.log.end.total o.log.first (g.files old) o.point o.next o.schema.items o.counts.items → HoldsState (g.files old) s → IsWhole (telling_of o.log.end.total o.log.first) (g.files old)
  whole_here o opens h = here_now (λ a b. IsWhole (telling_of a b) (g.files old)) o opens h h.whole

  -- what `run_opened` needs
  pub opened_stands : (o : Opened S) → OpensAt o.log.end.total o.log.first (g.files old) o.point o.next o.schema.items o.counts.items
      → (IsWhole (telling_of o.log.end.total o.log.first) (g.files old) → RunsFrom (g.files old) o.point o.next o.schema.items o.counts.items (view_of g o.log)) → HoldsState (g.files old) s → StandsOpened g o
  opened_stands o opens runs h = stands_opened o opens (runs (whole_here o opens h)) h (state_here o opens h)

  -- the run, from the opening on
  pub runs_entered : NextIsOne → (o : Opened S) → OpensAt o.log.end.total o.log.first (g.files old) o.point o.next o.schema.items o.counts.items
      → (IsWhole (telling_of o.log.end.total o.log.first) (g.files old) → RunsFrom (g.files old) o.point o.next o.schema.items o.counts.items (view_of g o.log)) → ReopensSince g old o.log.site → OpeningGrows g old o.log.site → g.said o.log.site ≡ g.said old
      → (left left' : Option (List ℕ)) (status : Status) (new : S) → RunsOpened g o left left' status new → IsTrue g.tells
      → HoldsState (g.files old) s → IsValid s.desc s.db → (next : ℕ) → HasNext (g.files old) next → (all : List ℕ) → left ≡ Some all → RunsAlong g s next all old new left' status
  runs_entered one_next o opens runs since grows said left left' status new ran told h valid next has_next all is =
      let files : Files = g.files old in
      let t : Telling = telling_of o.log.end.total o.log.first in
      let ps : List DescribedPoint = points_of t files in
      let whole = whole_here o opens h in
      let state = state_here o opens h in
      let st = stands_opened o opens (runs whole) h state in
      let next_is : next_in t files ≡ next = one_next o.log.end.total o.log.first next files whole has_next in
      let script : ScriptRuns 18 t s.desc ps s.point s.db next all (seen_site g o.log.site) (seen_site g new) left' status =
      subst (λ m. ScriptRuns 18 t s.desc ps s.point s.db m all (seen_site g o.log.site) (seen_site g new) left' status) (sym opens.next_is ∙ next_is)
      (ran told st s.point s.db all state valid is) in
      let few : length (t.entries (g.files o.log.site)) ≤ length (t.entries files) + 19 = grows.few o.log.end.total o.log.first opens.trail whole in
      let before = λ (events : List RunEvent). runs_weaken (since o.log.end.total o.log.first opens.trail whole) (reopens_leaves t files (seen_site g old).said s.desc s.point s.db state next next_is events) in
      record {
        total = o.log.end.total;
        first = o.log.first;
        trail = opens.trail;
        runs = runs_since 18 37 t s.desc ps s.point s.db next all (seen_site g old) (seen_site g o.log.site) (seen_site g new) left' status
            (ap (λ (l : List ℕ). cond g.tells_said (Some l) None) said) before (omega (arith, few)) script;
      }

  -- ---- it wasn't opened

  pub openable : (h : HoldsState (g.files old) s) → IsOpenable h.total h.first (g.files old)
  openable h = record { trail = h.trail; whole = h.whole; described = h.described }

  undone_open : (fault : OpenFault) → IsNoRefusal fault → IsUndone (open_status fault)
  undone_open fault (inl (inl is)) = subst (λ (f : OpenFault). IsUndone (open_status f)) (sym is) tt
  undone_open fault (inl (inr is)) = subst (λ (f : OpenFault). IsUndone (open_status f)) (sym is) tt
  undone_open fault (inr is) = subst (λ (f : OpenFault). IsUndone (open_status f)) (sym is) refl

  pub runs_unopened : NextIsOne → (fault : OpenFault) (new : S) → ((total first : ℕ) → IsOpenable total first (g.files old) → IsNoRefusal fault) → OpeningGrows g old new → ReopensSince g old new → g.said new ≡ g.said old → (left' : Option (List ℕ))
      → HoldsState (g.files old) s → (next : ℕ) → HasNext (g.files old) next → (all : List ℕ) → RunsAlong g s next all old new left' (open_status fault)
  runs_unopened one_next fault new none grows since said left' h next has_next all =
      let files : Files = g.files old in
      let t : Telling = telling_of h.total h.first in
      let few : length (t.entries (g.files new)) ≤ length (t.entries files) + 19 = grows.few h.total h.first h.trail h.whole in
      record {
        total = h.total;
        first = h.first;
        trail = h.trail;
        runs = ran_nothing 37 t s.desc (points_of t files) s.point s.db next all (seen_site g old) (seen_site g new) left' (open_status fault)
            (undone_open fault (none h.total h.first (openable h)))
            (runs_weaken (since h.total h.first h.trail h.whole)
            (reopens_leaves t files (seen_site g old).said s.desc s.point s.db h.state next (one_next h.total h.first next files h.whole has_next) []))
            (ap (λ (l : List ℕ). cond g.tells_said (Some l) None) said)
            (bounds_opening (open_status fault) (open_ok fault) (omega (arith, few)) (ap (λ (l : List ℕ). cond g.tells_said (Some l) None) said));
      }

-- what stands for a state isn't refused
pub refuses_no_state : {S : Type 0} (g : Ghosts S) (old : S) → StatesHold → (status : Status) → NeverRefuses g old status → NeverRefusesState g old status
refuses_no_state g old hold status never tells s stands refusal =
    let h : HoldsState (g.files old) s = hold (g.files old) s stands in
    never tells h.total h.first (openable g old s h) refusal

-- ---- the command, where a state is told

some_told : (state : Option DatabaseState) (s : DatabaseState) → state ≡ Some s → IsTrue (is_some state)
some_told state s is = subst (λ (o : Option DatabaseState). IsTrue (is_some o)) (sym is) refl

module _ {S : Type 0} (g : Ghosts S) (old : S) (state : Option DatabaseState) where
  -- what is told is known
  pub opened_known : StatesHold → (o : Opened S) → OpensAt o.log.end.total o.log.first (g.files old) o.point o.next o.schema.items o.counts.items
      → (IsWhole (telling_of o.log.end.total o.log.first) (g.files old) → RunsFrom (g.files old) o.point o.next o.schema.items o.counts.items (view_of g o.log)) → IsTrue (is_some state) → HoldsTold state (g.files old) → StandsOpened g o
  opened_known hold o opens runs = by_state state
    where
      by_state : (told : Option DatabaseState) → IsTrue (is_some told) → HoldsTold told (g.files old) → StandsOpened g o
      by_state None knows holds = absurd (cc)
      by_state (Some s) knows holds = opened_stands g old s o opens runs (hold (g.files old) s (holds s refl))

  pub runs_found : StatesHold → NextIsOne → (IsTrue g.tells → HoldsTold state (g.files old)) → (o : Opened S) → (IsTrue g.tells → OpensAt o.log.end.total o.log.first (g.files old) o.point o.next o.schema.items o.counts.items)
      → (IsTrue g.tells → IsWhole (telling_of o.log.end.total o.log.first) (g.files old) → RunsFrom (g.files old) o.point o.next o.schema.items o.counts.items (view_of g o.log)) → (IsTrue g.tells → ReopensSince g old o.log.site) → (IsTrue g.tells → OpeningGrows g old o.log.site)
      → g.said o.log.site ≡ g.said old → (left left' : Option (List ℕ)) (status : Status) (new : S) → (IsTrue (is_some state) → RunsOpened g o left left' status new) → RunsCommand g state old new left left' status
  runs_found hold one_next told o opens runs since grows said left left' status new ran tells s is next has_next all held =
      runs_entered g old s one_next o (opens tells) (runs tells) (since tells) (grows tells) said left left' status new (ran (some_told state s is)) tells (hold (g.files old) s (told tells s is)) (told tells s is).at_point.valid
      next has_next all held

  pub runs_refused : StatesHold → NextIsOne → (IsTrue g.tells → HoldsTold state (g.files old)) → (fault : OpenFault) (new : S) → (IsTrue g.tells → (total first : ℕ) → IsOpenable total first (g.files old) → IsNoRefusal fault) → (IsTrue g.tells → OpeningGrows g old new)
      → (IsTrue g.tells → ReopensSince g old new) → g.said new ≡ g.said old → (left left' : Option (List ℕ)) (status : Status) → status ≡ open_status fault → RunsCommand g state old new left left' status
  runs_refused hold one_next told fault new none grows since said left left' status status_is tells s is next has_next all held =
      subst (λ (x : Status). RunsAlong g s next all old new left' x) (sym status_is)
      (runs_unopened g old s one_next fault new (none tells) (grows tells) (since tells) said left' (hold (g.files old) s (told tells s is)) next has_next all)

  -- and its trail stays
  pub keeps_found : (o : Opened S) (new : S) → (IsTrue g.tells → OpensAt o.log.end.total o.log.first (g.files old) o.point o.next o.schema.items o.counts.items) → (IsTrue g.tells → OpeningGrows g old o.log.site) → (IsTrue (is_some state) → GrowsOpened g o new)
      → RunKeepsTrail g state old new
  keeps_found o new opens grows grown tells s is = keeps_entered g old new o (opens tells).trail (grows tells) (grown (some_told state s is)) tells

  pub keeps_refused : (new : S) → (IsTrue g.tells → OpeningGrows g old new) → RunKeepsTrail g state old new
  keeps_refused new grows tells s is = keeps_opening g old new (grows tells)

  -- each stop leaves a state
  pub stands_throughout : StatesAreHeld → StopsStand → (IsTrue g.tells → HoldsTold state (g.files old)) → (left left' : Option (List ℕ)) (status : Status) (new : S) → RunsCommand g state old new left left' status
      → StandsThroughout g state old new left
  stands_throughout held law told left left' status new ran tells s is next has_next all left_is =
      let files : Files = g.files old in
      let h : HoldsLast files s.point s.desc s.db = held files s.point s.desc s.db (told tells s is) in
      let along : RunsAlong g s next all old new left' status = ran tells s is next has_next all left_is in
      let one = trail_is_one along.total along.first h.total h.first files along.trail (trail_of h) in
      let each : Runs (g.clock old) (g.clock new) (RunLeavesFiles (telling_of along.total along.first) s.desc (seen_site g old).said (points_of (telling_of along.total along.first) files) s.point s.db next (script_events s.desc s.db next (raw_lines all))) =
      runs_weaken along.runs.every_moment (leaves_wide (script_widens s.desc s.db next (raw_lines all) along.runs.does.carried.lines along.runs.does.carried.events along.runs.does.carried.are)) in
      let here : Runs (g.clock old) (g.clock new) (RunLeavesFiles (telling_of h.total h.first) s.desc (seen_site g old).said (points_of (telling_of h.total h.first) files) s.point s.db next (script_events s.desc s.db next (raw_lines all))) =
      subst (λ k. Runs (g.clock old) (g.clock new) (RunLeavesFiles (telling_of k h.first) s.desc (seen_site g old).said (points_of (telling_of k h.first) files) s.point s.db next (script_events s.desc s.db next (raw_lines all)))) one.0
      (subst (λ k. Runs (g.clock old) (g.clock new) (RunLeavesFiles (telling_of along.total k) s.desc (seen_site g old).said (points_of (telling_of along.total k) files) s.point s.db next (script_events s.desc s.db next (raw_lines all)))) one.1
      each) in
      runs_weaken here (λ x l. law files s.point s.desc s.db h next has_next (seen_site g old).said (raw_lines all) x l)

  -- and so does the end
  pub stands_at_end : EndsStand → (IsTrue g.tells → HoldsTold state (g.files old)) → (left left' : Option (List ℕ)) (status : Status) (new : S) → RunsCommand g state old new left left' status → EndsInState g state old new left status
  stands_at_end law told left left' status new ran tells s is next has_next all here ok =
      let along : RunsAlong g s next all old new left' status = ran tells s is next has_next all here in
      let ends : ReachesFiles (telling_of along.total along.first) s.desc s.point s.db next (raw_lines all) (seen_site g new) = along.runs.at_ok ok in
      (law along.total along.first (g.files new) s.desc (told tells s is).at_point.well_formed s.point s.db (told tells s is).at_point.valid next (raw_lines all) ends.whole ends.state ends.next_is, ends.only)
