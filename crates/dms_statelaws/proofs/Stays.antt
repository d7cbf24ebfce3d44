-- Files that differ in nothing that counts.
use Rattle.std.specs.Prelude.{◌≢◌}
use Rattle.std.proofs.Common.{ℕ, ◌+◌, ◌≤◌, ◌≡◌, None, sym, ◌∙◌, arith}
use Rattle.dms_site.specs.Files.{Files, Left}
use Rattle.dms_site.specs.StoredLaws.{stored_same}
use Rattle.dms_history.specs.EntryEvents.{history_of}
use Rattle.dms_audfile.specs.TrailEntries.{trail_entries}
use Rattle.dms_audfile.proofs.Ended.{entries_settled}
use Rattle.dms_running.specs.AnyBegun.{IsUntouched}
use Rattle.dms_running.specs.Standing.{IsWhole}
use Rattle.dms_running.proofs.NewDumps.{new_dump_holds}
use Rattle.dms_restore.specs.Finding.{IsFoundFrom}
use Rattle.dms_restore.specs.Logging.{telling_of}
use Rattle.dms_opening.specs.Openings.{IsTrailFound}
use Rattle.dms_statelaws.specs.Standing.{HoldsStill}
use Rattle.dms_statelaws.proofs.Trails.{scanned_same, writes_within}
use Rattle.dms_running.specs.AnyLaws.{HoldsSame}

-- ---- nothing was done

pub untouched_still : (total first : ℕ) (files : Files) (x : Left) → IsFoundFrom total first files → IsUntouched (telling_of total first) files x → IsFoundFrom total first x.files → HoldsStill files x.files
untouched_still total first files x then u found = record {
  entries = trail_entries total first files;
  found_then = then.finds;
  found = record { placed = found.finds.placed; trail = found.finds.trail; are = found.finds.are ∙ u.entries_same };
  above = u.above;
}

-- ---- another dump

-- files above those of the audit don't count in scanning
pub found_same : (total first : ℕ) (y x : Files) → IsTrailFound total first y → ((g : ℕ) → g ≤ 20000 → x g ≡ y g) → IsFoundFrom total first y → IsFoundFrom total first x
unfolding scanned_same
found_same total first y x r same f =
    let w = writes_within total first y r in
    record {
      finds = record {
        placed = f.finds.placed;
        trail = scanned_same x y f.finds.placed same f.finds.trail;
        are = f.finds.are ∙ sym (entries_settled total w.tag first w.file w.count y x w.low w.high w.writes (λ g from upto. same g (omega (arith, upto, w.high))));
      };
      first_is = f.first_is;
    }

-- a dump changes nothing of a database over which no restore is pending
pub dump_holds : (total first d : ℕ) (old new : Files) → IsTrailFound total first old → IsWhole (telling_of total first) old → (history_of (trail_entries total first old)).pending ≡ None → 1 ≤ d → d ≤ 9999
    → ((g : ℕ) → g ≢ 20000 + d → new g ≡ old g) → HoldsSame (telling_of total first) old new
dump_holds total first d old new r w none some few others =
    let same : (g : ℕ) → g ≤ 20000 → new g ≡ old g = λ g upto. others g (λ is. omega (arith, is, upto, some)) in
    let k = writes_within total first old r in
    new_dump_holds (telling_of total first) old new none w (entries_settled total k.tag first k.file k.count old new k.low k.high k.writes (λ g from upto. same g (omega (arith, upto, k.high))))
    (stored_same new old (λ g up. others g (λ is. omega (arith, is, up, few)))) (found_same total first old new r same)
