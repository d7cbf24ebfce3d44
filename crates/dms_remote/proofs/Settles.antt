-- The blocks of a copy are settled.
use Rattle.std.proofs.Common.{ℕ, ◌∙◌, sym, subst, List, arith}
use Rattle.dms_moments.specs.Moments.{Clock, Steps}
use Rattle.dms_moments.specs.MomentLaws.{runs_none, steps_on}
use Rattle.dms_site.specs.Files.{Files, Left, stored_of, Only, Same}
use Rattle.dms_audfile.specs.TrailEntries.{entries_in}
use Rattle.dms_audfile.specs.declared.audit_end.AuditEnd.{AuditEnd}
use Rattle.dms_audfile.proofs.Copies.{trail_is_same}
use Rattle.dms_running.specs.ByHow.{IsKeptBy}
use Rattle.dms_running.specs.Restoring.{Rewritten, Rewrites}
use Rattle.dms_restore.specs.Dumped.{dumps_of}
use Rattle.dms_restore.specs.Over.{RewritesBy, WritesOver}
use Rattle.dms_restore.specs.declared.tracing.TrailHistory.{TrailHistory}
use Rattle.dms_follow.specs.Laws.{settler}
use Rattle.dms_follow.proofs.Going.{settles_all}
use Rattle.dms_follow.proofs.Settling.{restoring_leaves, restoring_settles}
use Rattle.dms_remote.specs.Copy.{IsCopyOf}
use Rattle.dms_remote.specs.Settling.{no_point, HoldsCopy, StaysCopy, IsSettled}
use Rattle.dms_remote.proofs.Copying.{steps_as}
use Rattle.dms_remote.proofs.Settled.{copy_stays, copy_settles}

module _ (end : AuditEnd) (h : TrailHistory) (head : List ℕ) (blocks : List (List ℕ)) (old : Files) (hold : HoldsCopy end h head blocks old) where
  holds_copy : IsCopyOf end.total end.tag head blocks old
  holds_copy = record { trail = record { file = end.file; count = end.count; is = hold.trail }; head_is = hold.head_is; follows = hold.follows }

  -- at each moment of the writes
  pub settling_moments : (a b : Clock Left) → Only old a → RewritesBy (settler (entries_in blocks) no_point) a b → Steps (StaysCopy end.total end.tag head blocks) a b
  settling_moments a b only steps =
      let p = settler (entries_in blocks) no_point in
      steps_as (Rewrites (IsKeptBy p.how p.entries p.point)) (StaysCopy end.total end.tag head blocks) a b
      (λ x y now r. copy_stays end.total end.tag no_point head blocks old y.files holds_copy hold.may hold.whole
      (subst (λ (fs : Files). Rewritten (IsKeptBy p.how p.entries p.point) fs y.files) (only x now) r.files))
      steps

  -- nothing was written
  pub settling_none : (a : Clock Left) → Only old a → Steps (StaysCopy end.total end.tag head blocks) a a
  settling_none a only = record {
    follows = λ x now. (x, now, subst (λ (fs : Files). IsCopyOf end.total end.tag head blocks fs) (sym (only x now)) holds_copy);
    runs = runs_none a _;
  }

  -- the blocks stand at the end
  pub settling_done : (new : Files) → WritesOver (settler (entries_in blocks) no_point) old new → IsSettled end head blocks new
  settling_done new over = record {
    trail = trail_is_same end.total end.tag 10001 end.file end.count blocks old new hold.trail (λ g low high. over.written.others g high);
    head_is = over.written.others 1 (omega arith) ∙ hold.head_is;
    stands = copy_settles end.total end.tag no_point head blocks (dumps_of old) old new holds_copy hold.may hold.whole over.written over.told;
    all = settles_all (entries_in blocks) (stored_of old) (stored_of new) hold.follows hold.whole (restoring_leaves (entries_in blocks) no_point old new hold.may over.written)
        (restoring_settles (entries_in blocks) no_point (dumps_of old) new hold.may over.told);
  }

-- a sync behind them
pub settling_on : {a b c : Clock Left} (total tag : ℕ) (head : List ℕ) (blocks : List (List ℕ)) → Steps (StaysCopy total tag head blocks) a b → Steps Same b c → Steps (StaysCopy total tag head blocks) a c
settling_on total tag head blocks first next =
    steps_on first next (λ x y z here there p q. subst (λ (l : Left). IsCopyOf total tag head blocks l.files) (sym q) p) (λ x y here p. p)
