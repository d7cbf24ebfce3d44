-- Two restores, one after the other.
use Rattle.std.proofs.Common.{◌+◌, ◌≡◌, true, subst, arith}
use Rattle.dms_site.specs.Files.{Files}
use Rattle.dms_audfile.specs.Gates.{is_full}
use Rattle.dms_restore.specs.GrowLaws.{log_grows_more}
use Rattle.dms_restore.specs.Logging.{LogView, LogGrows}
use Rattle.dms_restore.specs.Views.{LogStarts}
use Rattle.dms_wal.specs.Closing.{IsFullTrail}
use Rattle.dms_opening.specs.declared.plan.OpeningPlan.{OpeningPlan}
use Rattle.dms_opening.specs.Carrying.{WritesFor}
use Rattle.dms_opening.specs.Plans.{SameDumps}
use Rattle.dms_opening.proofs.Sealings.{grows_sealed}
use Rattle.dms_recovery.specs.Ready.{AreReadyBoth}
use Rattle.dms_recovery.proofs.Rounds.{writes_behind}

module _ (v w : LogView) (before own : OpeningPlan) (ready : AreReadyBoth v before own) (total : w.end.total ≡ v.end.total) (first : w.first ≡ v.first) (start : LogStarts w) (grown : LogGrows 19 v w) (dumps : SameDumps v.files w.files) where
  -- the second one is ready behind the first
  pub second_writes : WritesFor w ready.restore own
  second_writes = writes_behind v w ready.restore own total first start grown.stays.kept.grown dumps ready.own_writes

  -- the trail grew by both
  pub grows_twice : (x : LogView) → LogGrows 19 w x → LogGrows 38 v x
  grows_twice x more = log_grows_more (19 + 19) 38 v x (omega arith) (grows_sealed 19 19 v w x total first start.ends grown more)

  -- so it did where the second one failed
  pub grows_twice_then : (files : Files) (x : LogView) → LogGrows 19 w x → x.files ≡ files → LogGrows 38 v x
  grows_twice_then files x more same = grows_twice x more

  -- a trail that is full
  pub full_back : (files : Files) → IsFullTrail w files → IsFullTrail v files
  full_back files full g from upto = subst (λ n. is_full n (files g) ≡ true) total (full g (omega (arith, first, from)) upto)
