-- The Begin of a restore of any kind over a log.
use Rattle.std.proofs.Common.{ℕ, ◌<◌, ◌≡◌, List, [], ◌∷◌, sym, ◌∙◌, ap, subst}
use Rattle.dms_moments.specs.Moments.{Clock, Steps}
use Rattle.dms_site.specs.Files.{Left}
use Rattle.dms_history.specs.Events.{Stored}
use Rattle.dms_history.specs.Entries.{Kind, Entry, begin_restore}
use Rattle.dms_audfile.specs.Ends as ends
use Rattle.dms_audfile.specs.Ends.{EndsAt, Appends}
use Rattle.dms_running.specs.Telling.{Telling, IsTelling}
use Rattle.dms_running.specs.Points.{points_of, next_in}
use Rattle.dms_running.specs.Sealing.{SealsSome, AreSealed, Settled}
use Rattle.dms_running.specs.Begun.{IsBegun, outcome_now}
use Rattle.dms_running.proofs.AnyBegin.{any_begin_goes, any_begin_points, any_begin_next, any_begin_outcome, any_begun}
use Rattle.dms_restore.specs.Logging.{telling_of, waits, LogView, telling, state, Ends}
use Rattle.dms_restore.specs.Begins.{BeginsAny, AnyBegunAt, AnyLeaves, any_to}
use Rattle.dms_restore.proofs.Trails.{is_telling, first_low, waits_is, ends_waiting, seals_as, sealed_as, settled_as}
use Rattle.dms_restore.proofs.Beginnings.{begin_sealed, begin_ends}

module _ (a : LogView) (right : Stored) (m : ℕ) (kind : Kind) (r : BeginsAny a right m kind) where
  abbrev the_begin : List Entry
  the_begin = begin_restore m kind ∷ []

  tells_it : IsTelling (telling a)
  tells_it = is_telling a.end.total a.first (first_low a.end a.first [] a.files a.clock r.starts.ends)

  seals : (later : Clock Left) → Steps (ends.Seals a.end.total a.end.tag a.first the_begin) a.clock later → Steps (SealsSome (telling a) the_begin) a.clock later
  seals later steps = seals_as a.end a.first [] a.files a.clock r.starts.ends the_begin later steps

  -- at every moment nothing was done, or the Begin is sealed
  pub any_leave : (b : LogView) → Steps (ends.Seals a.end.total a.end.tag a.first the_begin) a.clock b.clock → AnyLeaves a right m b
  any_leave b steps = any_begin_goes (telling a) tells_it (state a) right m kind r.from b.clock (seals b.clock steps)

  module _ (b : LogView) (same : b.end.total ≡ a.end.total) (start : b.first ≡ a.first) (steps : Steps (ends.Seals a.end.total a.end.tag a.first the_begin) a.clock b.clock)
      (appends : Appends b.end a.first the_begin a.files b.files b.clock) (behind : (g : ℕ) → b.end.file < g → b.files g ≡ a.files g) where
    same_tells : telling a ≡ telling b
    same_tells = λ i. telling_of (sym same i) (sym start i)

    ends_now : EndsAt b.end a.first [] b.files b.clock
    ends_now = begin_ends b.end a.first m kind a.files b.files b.clock appends

    nothing : waits b.end ≡ []
    nothing = waits_is b.end a.first [] b.files b.clock ends_now

    sealed : AreSealed (telling a) the_begin a.files b.files
    sealed = sealed_as a.end.total b.end a.first the_begin a.files b.files behind (begin_sealed a.end.total a.first m kind a.files b.files b.clock b.end same appends)

    settles : Settled (telling a) b.files b.clock
    settles = subst (λ (t : Telling). Settled t b.files b.clock) (λ i. telling_of (same i) a.first) (settled_as b.end a.first [] b.files b.clock ends_now)

    ends_there : Ends b
    ends_there = subst (λ n. EndsAt b.end n (waits b.end) b.files b.clock) (sym start) (ends_waiting b.end a.first [] b.files b.clock ends_now)

    pub any_begins_at : AnyBegunAt a b right m kind
    any_begins_at = record {
      begun = record {
        ends = ends_there;
        begun = subst (λ (t : Telling). IsBegun t (any_to a m kind) (state b)) same_tells (any_begun (telling a) tells_it (state a) right m kind r.from (state b) sealed nothing (seals b.clock steps) settles);
      };
      points_are = ap (λ (t : Telling). points_of t b.files) (sym same_tells) ∙ any_begin_points (telling a) tells_it (state a) right m kind r.from (state b) sealed;
      next_same = ap (λ (t : Telling). next_in t b.files) (sym same_tells) ∙ any_begin_next (telling a) tells_it (state a) right m kind r.from (state b) sealed;
      leaves = ap (λ (t : Telling). outcome_now t (any_to a m kind) (state b)) (sym same_tells) ∙ any_begin_outcome (telling a) tells_it (state a) right m kind r.from (state b) sealed;
    }
