-- What ROLLBACK and REBUILD do.
use Rattle.std.proofs.Common.{ℕ, ◌≡◌, ◌⊎◌, ◌∙◌, inl, inr, IsTrue, Option, arith, refl, sym, ap, subst}
use Rattle.dms_moments.specs.Moments.{Steps}
use Rattle.dms_moments.specs.MomentLaws.{runs_none, steps_on}
use Rattle.dms_site.specs.declared.site.Site.{Ghosts}
use Rattle.dms_site.specs.Files.{Files, Left}
use Rattle.dms_opening.specs.Openings.{IsTrailFound}
use Rattle.dms_restore.specs.GrowLaws.{kept_none, left_none}
use Rattle.dms_restore.specs.Logging.{LeavesTrail, TrailKept}
use Rattle.dms_recovery.specs.Wanting.{chosen_point}
use Rattle.dms_recovery.specs.declared.wanted.Wanted.{Wanted}
use Rattle.dms_recovery.specs.declared.wanted.Wanted.TheVariants.{Rollback, Rebuild}
use Rattle.dms_recovery.specs.Refusing.{MayBeDone, RecoveryGrows, SealsFewTwice, StaysUndone}
use Rattle.dms_dumping.specs.Filling.{FillsTrail}
use Rattle.dms_statelaws.specs.SiteLaws.{RollsSince, RollsEnd, RebuildsSince, RebuildsEnd, SameFiles}
use Rattle.dms_statelaws.proofs.Statements.{rollback_law, rebuild_law}
use Rattle.dms_status.specs.declared.status.Status.{Status}
use Rattle.dms_goback.specs.RebuildDoes.{RebuildDoes}
use Rattle.dms_goback.specs.Restores.{IsOfRestored, IsOfRestoring, IsRestoreRefused, NeverRefusesRestore, StaysFor, rolled_text, rebuilt_text}
use Rattle.dms_goback.specs.RollbackDoes.{RollbackDoes}
use Rattle.dms_dumping.specs.Preparing.{IsUndone}
use Rattle.dms_status.specs.Saying.{IsSpoken, SaysLine}
use Rattle.dms_goback.proofs.RestoreStatuses.{stopped_of, not_made, says_nothing, restored_of, restored_no_refusal, restored_room, said_back}

-- ---- nothing was done

module _ {S : Type 0} (g : Ghosts S) (site : S) where
  pub trail_none : RecoveryGrows g site site
  trail_none = record { kept = λ total first found. kept_none total first (g.files site); left = λ total first found. left_none total first (g.clock site); few = λ total first found. omega arith }

  pub beside_none : (wanted : Wanted) → StaysFor g wanted site site
  beside_none wanted s has = record { read = λ tells f is. refl; left = record { follows = λ x now. (x, now, λ f is. refl); runs = runs_none (g.clock site) _ } }

  pub same_none : Steps SameFiles (g.clock site) (g.clock site)
  same_none = record { follows = λ x now. (x, now, refl); runs = runs_none (g.clock site) _ }

  pub rolls_none : (m : ℕ) → RollsSince g site site m
  rolls_none m total first trail whole = runs_none (g.clock site) _

  pub rebuilds_none : (d : ℕ) (chosen : Option ℕ) → RebuildsSince g site site d chosen
  rebuilds_none d chosen u total first trail from = runs_none (g.clock site) _

-- ---- a line was printed behind it

trail_goes : (total first : ℕ) (x y z : Left) → LeavesTrail total first x y → SameFiles y z → LeavesTrail total first x z
trail_goes total first x y z l same = record {
  kept = subst (λ (f : Files). TrailKept total first x.files f) (sym same) l.kept;
  below = λ k above upto. ap (λ (f : Files). f k) same ∙ l.below k above upto;
}

module _ {S : Type 0} (g : Ghosts S) (old mid new : S) (steps : Steps SameFiles (g.clock mid) (g.clock new)) where
  pub beside_behind : (wanted : Wanted) → (IsTrue g.tells → g.files new ≡ g.files mid) → StaysFor g wanted old mid → StaysFor g wanted old new
  beside_behind wanted files b s has =
      let these = b s has in
      record {
        read = λ tells f is. ap (λ (k : Files). k f) (files tells) ∙ these.read tells f is;
        left = steps_on these.left steps (λ x y z nx ny one same f is. ap (λ (k : Files). k f) same ∙ one f is) (λ x y nx one. one);
      }

  pub trail_behind : g.files new ≡ g.files mid → RecoveryGrows g old mid → RecoveryGrows g old new
  trail_behind files k = record {
    kept = λ total first found. subst (λ (f : Files). TrailKept total first (g.files old) f) (sym files) (k.kept total first found);
    left = λ total first found. steps_on (k.left total first found) steps (λ x y z nx ny one same. trail_goes total first x y z one same) (λ x y nx one. one);
    few = λ total first found. subst (λ (f : Files). SealsFewTwice total first (g.files old) f) (sym files) (k.few total first found);
  }

-- ---- what can't be done isn't begun

pub undone : {S : Type 0} {g : Ghosts S} {old new : S} {status : Status} {May : Type 0} → (IsSpoken status → ⊥) → May ⊎ StaysUndone g old new → May ⊎ IsUndone g old new status
undone unmade (inl may) = inl may
undone unmade (inr r) = inr (record { unmade = unmade; files = r.files; moments = r.moments })

pub undone_none : {S : Type 0} (g : Ghosts S) (site : S) → StaysUndone g site site
undone_none g site = record { files = refl; moments = record { follows = λ x now. (x, now, refl); runs = runs_none (g.clock site) _ } }

-- ---- ROLLBACK

module _ {S : Type 0} (g : Ghosts S) (n : ℕ) (old : S) where
  pub rollback_stopped : (new : S) (status : Status) → IsOfRestoring status → (IsTrue g.tells → IsRestoreRefused g (Rollback n) old new status) → (IsTrue g.tells → NeverRefusesRestore (Rollback n) (g.files old) status) → (IsTrue g.tells → MayBeDone (g.files old) (Rollback n) ⊎ StaysUndone g old new) → FillsTrail g old new status
      → (IsTrue g.tells → RecoveryGrows g old new) → StaysFor g (Rollback n) old new → g.said new ≡ g.said old → (IsTrue g.tells → RollsSince g old new n) → RollbackDoes g n old new status
  rollback_stopped new status of refused complete may full trail beside said since = record {
    statuses = stopped_of status of;
    refused = refused;
    opens = λ tells. undone (not_made status of) (may tells);
    complete = complete;
    full = full;
    trail = trail;
    beside = beside;
    says = λ tells. says_nothing status (rolled_text n) (g.said old) (g.said new) of said;
    every_moment = λ tells. (rollback_law g old new).stands n (since tells);
    at_ok = λ made. absurd (not_made status of made);
  }

  pub rollback_done : (mid new : S) (status : Status) → IsOfRestored status → (IsTrue g.tells → MayBeDone (g.files old) (Rollback n)) → (IsTrue g.tells → RecoveryGrows g old mid) → StaysFor g (Rollback n) old mid → g.said mid ≡ g.said old → (IsTrue g.tells → RollsSince g old mid n) → (IsTrue g.tells → RollsEnd g old mid n)
      → (IsTrue g.tells_said → SaysLine status (rolled_text n) (g.said mid) (g.said new)) → (IsTrue g.tells → g.files new ≡ g.files mid) → Steps SameFiles (g.clock mid) (g.clock new) → RollbackDoes g n old new status
  rollback_done mid new status of may trail beside said since ends says files steps = record {
    statuses = restored_of status of;
    refused = λ tells is. absurd (restored_no_refusal status of is);
    opens = λ tells. inl (may tells);
    complete = λ tells total first can is. restored_no_refusal status of is;
    full = restored_room g old new status of;
    trail = λ tells. trail_behind g old mid new steps (files tells) (trail tells);
    beside = beside_behind g old mid new steps (Rollback n) files beside;
    says = λ tells. said_back status (rolled_text n) (g.said old) (g.said mid) (g.said new) said (says tells);
    every_moment = λ tells. (rollback_law g old new).stands n (behind tells).0;
    at_ok = λ made tells. (rollback_law g old new).ends n (behind tells).1;
  }
    where
      behind : IsTrue g.tells → RollsSince g old new n × RollsEnd g old new n
      behind tells = (rollback_law g old new).says mid n (since tells) (ends tells) (record { files = files tells; moments = steps })

-- ---- REBUILD

module _ {S : Type 0} (g : Ghosts S) (d : ℕ) (chosen : Option ℕ) (old : S) where
  pub rebuild_stopped : (new : S) (status : Status) → IsOfRestoring status → (IsTrue g.tells → IsRestoreRefused g (Rebuild d chosen) old new status) → (IsTrue g.tells → NeverRefusesRestore (Rebuild d chosen) (g.files old) status) → (IsTrue g.tells → MayBeDone (g.files old) (Rebuild d chosen) ⊎ StaysUndone g old new) → FillsTrail g old new status
      → (IsTrue g.tells → RecoveryGrows g old new) → StaysFor g (Rebuild d chosen) old new → g.said new ≡ g.said old → (IsTrue g.tells → RebuildsSince g old new d chosen) → RebuildDoes g d chosen old new status
  rebuild_stopped new status of refused complete may full trail beside said since = record {
    statuses = stopped_of status of;
    refused = refused;
    opens = λ tells. undone (not_made status of) (may tells);
    complete = complete;
    full = full;
    trail = trail;
    beside = beside;
    says = record {
      point = 0;
      line = λ tells. says_nothing status (rebuilt_text 0) (g.said old) (g.said new) of said;
      is = λ made. absurd (not_made status of made);
    };
    every_moment = λ tells. (rebuild_law g old new).stands d chosen (since tells);
    at_ok = λ made. absurd (not_made status of made);
  }

  pub rebuild_done : (mid new : S) (status : Status) (point : ℕ) → IsOfRestored status → (IsTrue g.tells → MayBeDone (g.files old) (Rebuild d chosen)) → (IsTrue g.tells → RecoveryGrows g old mid) → StaysFor g (Rebuild d chosen) old mid → g.said mid ≡ g.said old → (IsTrue g.tells → RebuildsSince g old mid d chosen) → (IsTrue g.tells → RebuildsEnd g old mid d chosen)
      → (IsTrue g.tells → (total first : ℕ) → IsTrailFound total first (g.files old) → point ≡ chosen_point total first (g.files old) chosen)
      → (IsTrue g.tells_said → SaysLine status (rebuilt_text point) (g.said mid) (g.said new)) → (IsTrue g.tells → g.files new ≡ g.files mid) → Steps SameFiles (g.clock mid) (g.clock new) → RebuildDoes g d chosen old new status
  rebuild_done mid new status point of may trail beside said since ends is says files steps = record {
    statuses = restored_of status of;
    refused = λ tells is. absurd (restored_no_refusal status of is);
    opens = λ tells. inl (may tells);
    complete = λ tells total first can is. restored_no_refusal status of is;
    full = restored_room g old new status of;
    trail = λ tells. trail_behind g old mid new steps (files tells) (trail tells);
    beside = beside_behind g old mid new steps (Rebuild d chosen) files beside;
    says = record {
      point = point;
      line = λ tells. said_back status (rebuilt_text point) (g.said old) (g.said mid) (g.said new) said (says tells);
      is = λ made tells total first trail. is tells total first trail;
    };
    every_moment = λ tells. (rebuild_law g old new).stands d chosen (behind tells).0;
    at_ok = λ made tells. (rebuild_law g old new).ends d chosen (behind tells).1;
  }
    where
      behind : IsTrue g.tells → RebuildsSince g old new d chosen × RebuildsEnd g old new d chosen
      behind tells = (rebuild_law g old new).says mid d chosen (since tells) (ends tells) (record { files = files tells; moments = steps })
