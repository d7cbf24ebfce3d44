-- A dump is written beside a trail: scanning finds the same.
use Rattle.std.specs.Prelude.{◌≢◌}
use Rattle.std.proofs.Common.{ℕ, ◌+◌, ◌-◌, ◌≤◌, ◌<◌, ◌≡◌, List, length, sym, ◌∙◌, ap, subst, arith}
use Rattle.dms_site.specs.Files.{Files}
use Rattle.dms_site.specs.StoredLaws.{stored_same}
use Rattle.dms_audfile.specs.AuditTrail.{IsScanned}
use Rattle.dms_audfile.specs.Database.{HasDatabase}
use Rattle.dms_audfile.specs.Header.{tag_said}
use Rattle.dms_audfile.specs.Scanning.{Placed, found}
use Rattle.dms_audfile.specs.Sealing.{IsWrittenUpTo}
use Rattle.dms_audfile.specs.Trail.{trail_from}
use Rattle.dms_audfile.specs.TrailEntries.{trail_entries}
use Rattle.dms_audfile.specs.TrailLaws.{read_trail, all_of}
use Rattle.dms_audfile.proofs.Ended.{entries_settled}
use Rattle.dms_audfile.proofs.Followed.{scans_trail}
use Rattle.dms_audfile.proofs.Gates.{stands_full}
use Rattle.dms_audfile.proofs.Growing.{writes_same}
use Rattle.dms_audfile.proofs.Kept.{found_is_kept}
use Rattle.dms_audfile.proofs.Several.{trail_same}
use Rattle.dms_restore.proofs.Trails.{trail_low}
use Rattle.dms_restore.specs.Finding.{IsFoundFrom}
use Rattle.dms_restore.specs.Logging.{telling_of, TrailKept}
use Rattle.std.proofs.Common.{[], append-nil}
use Rattle.dms_running.specs.Beside.{StaysDatabase}

-- scanning looks at file 1 and at the files of the audit alone
unfoldable pub scanned_same : (x y : Files) (ps : List Placed) → ((g : ℕ) → g ≤ 20000 → x g ≡ y g) → IsScanned y (found ps) → IsScanned x (found ps)
scanned_same x y ps same t =
    let k = found_is_kept t.first t.last y ps t.span.order t.is in
    let below : (g : ℕ) → t.first ≤ g → g ≤ k.file → x g ≡ y g = λ g from upto. same g (omega (arith, upto, k.low, t.span.high)) in
    let m = k.file + 1 - t.first in
    let one = scans_trail k.total k.tag t.first k.file k.count t.last m x (writes_same k.total k.tag t.first k.file k.count y x k.writes below) k.low k.high (omega (arith, k.writes.order)) in
    let two = scans_trail k.total k.tag t.first k.file k.count t.last m y k.writes k.low k.high (omega (arith, k.writes.order)) in
    let trail : trail_from m k.total t.first x ≡ trail_from m k.total t.first y = trail_low m k.total t.first x y (λ g from upto. below g from (omega (arith, upto, k.writes.order))) in
    record {
      database = subst (λ (l : List ℕ). HasDatabase l) (sym (same 1 (omega arith))) t.database;
      first = t.first;
      last = t.last;
      span = record {
        low = t.span.low;
        order = t.span.order;
        high = t.span.high;
        absent = λ g above upto. same g (omega (arith, upto)) ∙ t.span.absent g above upto;
        present = λ g from upto. subst (λ (l : List ℕ). 0 < length l) (sym (same g (omega (arith, upto, t.span.high)))) (t.span.present g from upto);
        before = λ g low next. same g (omega (arith, next, t.span.order, t.span.high)) ∙ t.span.before g low next;
      };
      is = one ∙ ap (λ (l : List (List ℕ)). all_of t.first (read_trail k.total t.first 1 l)) trail ∙ sym two ∙ t.is;
    }

module _ (total tag first file count dump : ℕ) (old new : Files) (low : 10001 ≤ first) (high : file ≤ 20000) (writes : IsWrittenUpTo total tag first file count old) (above : 20000 < dump) (below : dump ≤ 30000)
    (others : (g : ℕ) → g ≢ dump → new g ≡ old g) where
  audit_same : (g : ℕ) → g ≤ 20000 → new g ≡ old g
  audit_same g upto = others g (λ is. omega (arith, is, upto, above))

  entries_same : trail_entries total first new ≡ trail_entries total first old
  entries_same = entries_settled total tag first file count old new low high writes (λ g from upto. audit_same g (omega (arith, upto, high)))

  found_then : IsFoundFrom total first old → IsFoundFrom total first new
  unfolding scanned_same
  found_then f = record {
    finds = record {
      placed = f.finds.placed;
      trail = scanned_same new old f.finds.placed audit_same f.finds.trail;
      are = f.finds.are ∙ sym entries_same;
    };
    first_is = f.first_is;
  }

  -- entries, what scanning finds, and blocks stay
  pub dump_stays : StaysDatabase (telling_of total first) old new
  dump_stays = record {
    entries_same = entries_same;
    found = found_then;
    blocks_same = stored_same new old (λ g up. others g (λ is. omega (arith, is, up, below)));
  }

  -- and so does the trail, with its tag
  pub trail_stays : TrailKept total first old new
  trail_stays =
      let same : (i : ℕ) → first ≤ i → i ≤ file → new i ≡ old i = λ i from upto. audit_same i (omega (arith, upto, high)) in
      let trail = trail_same (file - first) 10000 total first file old new (omega (arith, writes.order)) (omega (arith, writes.order, low, high)) writes.full (stands_full total count (old file) writes.stands writes.not_full) same in
      record { grown = record { made = []; trail = trail ∙ sym (append-nil (trail_from 10000 total first old)); filled = tt }; tag = ap tag_said (same first (omega arith) writes.order) }
