-- A block was looked at: the log tells the same.
use Rattle.std.proofs.Common.{ℕ, ◌≡◌, ap}
use Rattle.dms_moments.specs.Moments.{Clock, Steps}
use Rattle.dms_moments.specs.MomentLaws.{runs_none}
use Rattle.dms_site.specs.Files.{Files, Left, Same}
use Rattle.dms_audfile.specs.declared.audit_end.AuditEnd.{AuditEnd}
use Rattle.dms_restore.specs.Logging as logs
use Rattle.dms_restore.specs.Logging.{content, entries, points, view}
use Rattle.dms_wal.specs.Controls.{TellsSame}
use Rattle.std.proofs.Common.{refl}

pub looked_tells : (end : AuditEnd) (first : ℕ) (files later : Files) (clock then_ : Clock Left) → later ≡ files → TellsSame (view end first files clock) (view end first later then_)
looked_tells end first files later clock then_ same = record {
  entries_same = ap (λ (f : Files). entries (view end first f clock)) same;
  points_same = ap (λ (f : Files). points (view end first f clock)) same;
  next_same = ap (λ (f : Files). logs.next (view end first f clock)) same;
  content_same = ap (λ (f : Files). content (view end first f clock)) same;
}

pub same_none : (c : Clock Left) → Steps Same c c
same_none c = record { follows = λ x now. (x, now, refl); runs = runs_none c _ }
