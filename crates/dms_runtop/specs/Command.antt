-- The command `run`: the state that its files stand for at entry, and why it is refused.
use Rattle.std.specs.Prelude.{ℕ, ◌≡◌, ◌⊎◌, ◌<◌, List, Some, IsTrue}
use Rattle.std.specs.declared.option.Option.{Option}
use Rattle.dms_moments.specs.Moments.{Runs, Steps}
use Rattle.dms_feed.specs.Lines.{raw_lines}
use Rattle.dms_runner.specs.Answers.{answers_quiets, script_events}
use Rattle.dms_run.specs.Opens.{DatabaseState}
use Rattle.dms_run.specs.RunStands.{LastStands, RunStands}
use Rattle.dms_model.specs.Valid.{IsValid}
use Rattle.dms_desc.specs.Shape.{Described}
use Rattle.dms_desc_bytes.specs.Spelling.{spelling}
use Rattle.dms_desc_bytes.specs.WellFormed.{IsWellFormed}
use Rattle.dms_model.specs.Db.{Db}
use Rattle.dms_site.specs.declared.site.Site.{Ghosts}
use Rattle.dms_site.specs.Files.{Files, Only, Same}
use Rattle.dms_audfile.specs.TrailEntries.{trail_entries}
use Rattle.dms_running.specs.Standing.{IsWhole}
use Rattle.dms_running.specs.Points.{points_of}
use Rattle.dms_opening.specs.declared.whole.OpenRefusal.{OpenRefusal}
use Rattle.dms_restore.specs.Logging.{LeavesTrail, LogStays, TrailKept, telling_of, telling}
use Rattle.dms_restore.specs.Views.{view_of}
use Rattle.dms_wal.specs.Growing.{over_site}
use Rattle.dms_run.specs.State.{StateOf, HasNext}
use Rattle.dms_run.specs.States.{LivesEndWith}
use Rattle.dms_opening.specs.declared.opened.Opened.{Opened}
use Rattle.dms_opening.specs.Laws.{LastIsDescribed}
use Rattle.dms_opening.specs.Openings.{IsTrailFound, IsOpenable, RunsFrom}
use Rattle.dms_opening.specs.Whole.{NoShortOf, RefusesWhole, StaysUnopenedWhole}
use Rattle.dms_status.specs.declared.status.Status.{Status}
use Rattle.dms_status.specs.declared.status.Status.TheVariants.{Ok, Damaged}
use Rattle.dms_guard.specs.Faults.{refusal_status}
use Rattle.dms_runtop.specs.Over.{ScriptRuns, seen_site}
use Rattle.dms_guard.specs.Statuses.{IsRefusal}

module _ {S : Type 0} (g : Ghosts S) where
  -- The database that was opened stands, under the description whose bytes were found.
  pub record StandsOpened (o : Opened S) : Type 0 where
    pub files : Files
    pub runs : RunsFrom files o.point o.next o.schema.items o.counts.items (view_of g o.log)
    pub desc : Described
    pub formed : IsWellFormed desc
    pub spelled : spelling desc ≡ o.schema.items

  -- a run of the script over a valid database that was opened
  abbrev pub RunsOpened : Opened S → Option (List ℕ) → Option (List ℕ) → Status → S → Type 0
  RunsOpened o left left' status site =
      IsTrue g.tells → (st : StandsOpened o) (n : ℕ) (db : Db) (all : List ℕ) → LivesEndWith st.desc (points_of (telling (view_of g o.log)) st.files) n db → IsValid st.desc db → left ≡ Some all
      → ScriptRuns 18 (telling (view_of g o.log)) st.desc (points_of (telling (view_of g o.log)) st.files) n db o.next all (seen_site g o.log.site) (seen_site g site) left' status

  -- the trail is the one of the opening and blocks behind it, each of which is in its grammar and holds an entry, now and at each stop
  abbrev pub GrowsOpened : Opened S → S → Type 0
  GrowsOpened o site = IsTrue g.tells → LogStays (view_of g o.log) (over_site g (view_of g o.log) site)

  -- The one premise of what is said of a script: the files of a site, which are told, stand for a state; this is their next number; and
  -- this is the input.
  abbrev pub OverDatabase : Option DatabaseState → S → Option (List ℕ) → (DatabaseState → ℕ → List ℕ → Type 0) → Type 0
  OverDatabase state old left Holds =
      IsTrue g.tells → (s : DatabaseState) → state ≡ Some s → (next : ℕ) → HasNext (g.files old) next → (all : List ℕ) → left ≡ Some all → Holds s next all

  -- A run of the script over the database that the files of a site stand for, whose next number is this one, along their trail.
  pub record RunsAlong (s : DatabaseState) (next : ℕ) (all : List ℕ) (old new : S) (left' : Option (List ℕ)) (status : Status) : Type 0 where
    pub total : ℕ
    pub first : ℕ
    pub trail : IsTrailFound total first (g.files old)
    pub runs : ScriptRuns 37 (telling_of total first) s.desc (points_of (telling_of total first) (g.files old)) s.point s.db next all (seen_site g old) (seen_site g new) left' status

  -- so it is of the state that is told, whatever the status is
  abbrev pub RunsCommand : Option DatabaseState → S → S → Option (List ℕ) → Option (List ℕ) → Status → Type 0
  RunsCommand state old new left left' status = OverDatabase state old left (λ s next all. RunsAlong s next all old new left' status)

  -- The trail of the files of entry stays: now and at each stop it is the old one, with the same tag, and blocks behind it, each of which is in its
  -- grammar and holds an entry. A stop leaves the audit files before it as they were.
  pub record KeepsTrail (old new : S) : Type 0 where
    pub kept : (total first : ℕ) → IsTrailFound total first (g.files old) → TrailKept total first (g.files old) (g.files new)
    pub left : (total first : ℕ) → IsTrailFound total first (g.files old) → Steps (LeavesTrail total first) (g.clock old) (g.clock new)

  -- so it is where a state is told, whatever is known of the input and of the numbers, and whatever the status is
  abbrev pub RunKeepsTrail : Option DatabaseState → S → S → Type 0
  RunKeepsTrail state old new = IsTrue g.tells → (s : DatabaseState) → state ≡ Some s → KeepsTrail old new

  -- At every moment a stop leaves files that stand for that database or for that of one quiet point, no earlier than the printed text tells, and each
  -- point up to it has its own state.
  abbrev pub StandsThroughout : Option DatabaseState → S → S → Option (List ℕ) → Type 0
  StandsThroughout state old new left =
      OverDatabase state old left (λ s next all. Runs (g.clock old) (g.clock new) (RunStands (g.files old) s.desc (seen_site g old).said s.point s.db next (script_events s.desc s.db next (raw_lines all))))

  -- And at status 0 the files stand for the database of the last quiet point, or for that of entry. A stop leaves no other files.
  abbrev pub EndsInState : Option DatabaseState → S → S → Option (List ℕ) → Status → Type 0
  EndsInState state old new left status =
      OverDatabase state old left (λ s next all. status ≡ Ok → LastStands (g.files new) s.desc s.point s.db next (answers_quiets s.desc s.db next (raw_lines all)) × Only (g.files new) (g.clock new))

  -- files that hold a database, whose last point is live and described, are refused by nothing
  abbrev pub NeverRefuses : S → Status → Type 0
  NeverRefuses old status = IsTrue g.tells → (total first : ℕ) → IsOpenable total first (g.files old) → IsRefusal status → ⊥

  -- so files that stand for a state are refused by nothing
  abbrev pub NeverRefusesState : S → Status → Type 0
  NeverRefusesState old status = IsTrue g.tells → (s : DatabaseState) → StateOf (g.files old) s.point s.desc s.db → IsRefusal status → ⊥

  -- The opening was refused: so, which is the first refusal of the files, or where nothing else is refused the first block of a structure file that isn't
  -- there whole and that the opening doesn't write. No file has changed, and a stop leaves what it could leave before.
  pub record IsRefused (old new : S) (status : Status) : Type 0 where
    pub refusal : OpenRefusal
    pub is : status ≡ refusal_status refusal
    pub why : RefusesWhole (g.files old) refusal
    pub files : g.files new ≡ g.files old
    pub moments : Steps Same (g.clock old) (g.clock new)

  -- Nothing was done, since the opening was refused: so, or by a failure of the disk or want of memory, and not by a full audit. The files are the same, and a
  -- stop leaves what it could leave before.
  pub record IsUnopened (old new : S) (status : Status) : Type 0 where
    pub refusal : OpenRefusal
    pub is : status ≡ refusal_status refusal
    pub why : RefusesWhole (g.files old) refusal
    pub stays : StaysUnopenedWhole g old new refusal

  -- Status 9 of a structure file: no block was short of the opening, or the opening was refused for the first one that was.
  abbrev pub BlamesShort : S → S → Status → Type 0
  BlamesShort old new status = (f b : ℕ) → status ≡ Damaged f b → 30000 < f → IsTrue g.tells → NoShortOf (g.files old) ⊎ IsRefused old new status

  abbrev pub RefusesRun : S → S → Status → Type 0
  RefusesRun old new status = IsTrue g.tells → IsRefused old new status
