-- What the command `run` does: a field for each promise.
use Rattle.std.specs.Prelude.{ℕ, ◌≡◌, ◌⊎◌, IsTrue, List}
use Rattle.std.specs.declared.option.Option.{Option}
use Rattle.dms_opening.specs.Openings.{IsTrailFound}
use Rattle.dms_opening.specs.Whole.{CanOpenWhole}
use Rattle.dms_restore.specs.Logging.{telling_of}
use Rattle.dms_runtop.specs.Command.{BlamesShort, EndsInState, IsRefused, IsUnopened, NeverRefuses, NeverRefusesState, OverDatabase, RunKeepsTrail, StandsThroughout}
use Rattle.dms_run.specs.Opens.{DatabaseState}
use Rattle.dms_runtop.specs.Full.{HasNoRoom}
use Rattle.dms_guard.specs.Guard.{StaysBeside}
use Rattle.dms_runtop.specs.Inputs.{BlamesInput}
use Rattle.dms_runtop.specs.Over.{ScriptDoes, seen_site}
use Rattle.dms_runtop.specs.Statuses.{IsOfRun}
use Rattle.dms_guard.specs.Statuses.{IsRefusal}
use Rattle.dms_site.specs.declared.site.Site.{Ghosts}
use Rattle.dms_site.specs.declared.source.Source as source
use Rattle.dms_status.specs.declared.status.Status.{Status}

module _ {S I : Type 0} (g : Ghosts S) (i : source.Ghosts I) where
  -- Whether a run opens the database that its files hold.
  pub record Opens (old new : S) (from to : I) (status : Status) : Type 0 where
    -- neither the trail of the files nor a point of it is refused, and each block that the opening takes from a structure file is there, or nothing was
    -- done: the files are the same, and the status is that of the first refusal, 9 of the first block that isn't there, or 5 or 7
    pub opens : IsTrue g.tells → CanOpenWhole (g.files old) ⊎ IsUnopened g old new status
    -- the statuses 3, 4, and 9 of a file that is no structure file, are the first refusal of the files: no file has changed, and a stop leaves what it
    -- could leave before
    pub refused : IsRefusal status → IsTrue g.tells → IsRefused g old new status
    -- at these nothing of the input was taken
    pub untaken : IsRefusal status → to ≡ from
    -- 9 of a structure file comes from a script alone, or of the first block that isn't there: nothing was done then
    pub short : BlamesShort g old new status
    -- they don't come where the files hold a database whose last point is live and described
    pub complete : NeverRefuses g old status
    -- nor where the files stand for a state
    pub complete_state : NeverRefusesState g old status

  -- A run of the script over a database that the files hold, along the trail that was found in them.
  pub record RunsScript (s : DatabaseState) (next : ℕ) (all : List ℕ) (old new : S) (left' : Option (List ℕ)) (status : Status) : Type 0 where
    pub total : ℕ
    pub first : ℕ
    pub trail : IsTrailFound total first (g.files old)
    -- an opening takes at most 19 entries, and a close 18
    pub does : ScriptDoes 37 (telling_of total first) s.desc s.db next all (g.files old) (g.files new) (seen_site g old).said (seen_site g new).said left' status

  -- What `run` does, of a state that a caller tells or of none.
  pub record RunDoes (state : Option DatabaseState) (old new : S) (from to : I) (status : Status) : Type 0 where
    -- only the statuses 0, 3, 4 of an opening, 5, 6, 7, 8, 9 of a file up to 30,200, and 10 come
    pub statuses : IsOfRun status
    -- the database is opened, or refused and nothing done
    pub opens : Opens old new from to status
    -- where the files hold a database, at every moment a stop leaves files that stand for it or for that of one quiet point of the script, no earlier
    -- than the last SYNCPOINT that was printed: so another run may begin with it
    pub stands : StandsThroughout g state old new (i.left from)
    -- where they do, at status 0 they stand for that of the last quiet point, or of entry, and a stop leaves no other files
    pub ends : EndsInState g state old new (i.left from) status
    -- where they do, what was carried out, what was printed, how the audit grew, and why the script stopped
    pub script : OverDatabase g state old (i.left from) (λ s next all. RunsScript s next all old new (i.left to) status)
    -- where they stand for a state, at every moment a stop leaves their trail, with the same tag, and blocks after it that hold an entry; the audit
    -- files before it stay
    pub trail : RunKeepsTrail g state old new
    -- at status 0 the input has no more lines and bytes than a script may have; status 8 of either comes only where it has more; and 6 where taking
    -- from it failed
    pub by_input : BlamesInput (i.left from) (i.left to) status
    -- status 8 of an audit file comes only where the trail goes on after that file: it begins after it, or all gates of that file are open
    pub full : HasNoRoom g old new status
    -- no file changes, at any moment, but audit files and the files of structures: where the files are told, of no more than the opening needs, so of those
    -- that the description at the last point names
    pub beside : StaysBeside g old new
