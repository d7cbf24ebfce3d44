-- What `run` does, from what a run over a site by value does.
use Rattle.std.proofs.Common.{◌≡◌, ◌⊎◌, IsTrue, Option}
use Rattle.dms_opening.specs.Whole.{CanOpenWhole}
use Rattle.dms_run.specs.Held.{StatesAreHeld}
use Rattle.dms_run.specs.RunStands.{EndsStand, StopsStand}
use Rattle.dms_site.specs.declared.site.Site.{Ghosts}
use Rattle.dms_site.specs.declared.source.Source as source
use Rattle.dms_status.specs.declared.status.Status.{Status}
use Rattle.dms_runtop.specs.Command.{BlamesShort, IsUnopened, NeverRefuses, RefusesRun, RunKeepsTrail, RunsCommand}
use Rattle.dms_run.specs.Opens.{DatabaseState, HoldsTold, StatesHold}
use Rattle.dms_runtop.specs.Full.{HasNoRoom}
use Rattle.dms_guard.specs.Guard.{StaysBeside}
use Rattle.dms_runtop.specs.Inputs.{BlamesInput}
use Rattle.dms_runtop.specs.RunDoes.{Opens, RunDoes}
use Rattle.dms_runtop.specs.Statuses.{IsOfRun}
use Rattle.dms_guard.specs.Statuses.{IsRefusal}
use Rattle.dms_runtop.proofs.Entered.{refuses_no_state, stands_at_end, stands_throughout}

module _ {S I : Type 0} (g : Ghosts S) (i : source.Ghosts I) (old new : S) (from to : I) (status : Status) where
  pub opens_of : StatesHold → (IsTrue g.tells → CanOpenWhole (g.files old) ⊎ IsUnopened g old new status) → (IsRefusal status → RefusesRun g old new status) → (IsRefusal status → to ≡ from) → BlamesShort g old new status → NeverRefuses g old status → Opens g i old new from to status
  opens_of hold opens refused untaken short complete = record { opens = opens; refused = refused; untaken = untaken; short = short; complete = complete; complete_state = refuses_no_state g old hold status complete }

  pub does_of : (state : Option DatabaseState) → StatesAreHeld → StopsStand → EndsStand → (IsTrue g.tells → HoldsTold state (g.files old)) → IsOfRun status → Opens g i old new from to status → RunsCommand g state old new (i.left from) (i.left to) status
      → RunKeepsTrail g state old new → BlamesInput (i.left from) (i.left to) status → HasNoRoom g old new status → StaysBeside g old new → RunDoes g i state old new from to status
  does_of state held stops ends told statuses opens ran trail by_input full beside = record {
    statuses = statuses;
    opens = opens;
    stands = stands_throughout g old state held stops told (i.left from) (i.left to) status new ran;
    ends = stands_at_end g old state ends told (i.left from) (i.left to) status new ran;
    script = λ tells s is next has_next all left_is.
        let r = ran tells s is next has_next all left_is in
        record { total = r.total; first = r.first; trail = r.trail; does = r.runs.does };
    trail = trail;
    by_input = by_input;
    full = full;
    beside = beside;
  }
