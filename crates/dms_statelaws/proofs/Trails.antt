-- The trail of files whose audit is the same.
use Rattle.std.proofs.Common.{ℕ, ◌+◌, ◌-◌, ◌≤◌, ◌<◌, ◌≡◌, List, length, sym, ◌∙◌, ap, subst, arith}
use Rattle.dms_site.specs.Files.{Files}
use Rattle.dms_audfile.specs.AuditTrail.{IsScanned}
use Rattle.dms_audfile.specs.Database.{HasDatabase}
use Rattle.dms_audfile.specs.Header.{blocks_said}
use Rattle.dms_audfile.specs.Scanning.{Placed, found}
use Rattle.dms_audfile.specs.Sealing.{IsWrittenUpTo}
use Rattle.dms_audfile.specs.Trail.{trail_from}
use Rattle.dms_audfile.specs.TrailLaws.{read_trail, all_of}
use Rattle.dms_audfile.proofs.Followed.{fits_says, scans_trail}
use Rattle.dms_audfile.proofs.Growing.{writes_same}
use Rattle.dms_audfile.proofs.Kept.{found_is_kept}
use Rattle.dms_restore.proofs.Trails.{trail_low}
use Rattle.dms_opening.specs.Openings.{IsTrailFound}

-- scanning looks at file 1 and at the files of the audit alone
unfoldable pub scanned_same : (x y : Files) (ps : List Placed) → ((g : ℕ) → g ≤ 20000 → x g ≡ y g) → IsScanned y (found ps) → IsScanned x (found ps)
scanned_same x y ps same t =
    let k = found_is_kept t.first t.last y ps t.span.order t.is in
    let below : (g : ℕ) → t.first ≤ g → g ≤ k.file → x g ≡ y g = λ g from upto. same g (omega (arith, upto, k.low, t.span.high)) in
    let m = k.file + 1 - t.first in
    let one = scans_trail k.total k.tag t.first k.file k.count t.last m x (writes_same k.total k.tag t.first k.file k.count y x k.writes below) k.low k.high (omega (arith, k.writes.order)) in
    let two = scans_trail k.total k.tag t.first k.file k.count t.last m y k.writes k.low k.high (omega (arith, k.writes.order)) in
    let trail : trail_from m k.total t.first x ≡ trail_from m k.total t.first y = trail_low m k.total t.first x y (λ g from upto. below g from (omega (arith, upto, k.writes.order))) in
    record {
      database = subst (λ (l : List ℕ). HasDatabase l) (sym (same 1 (omega arith))) t.database;
      first = t.first;
      last = t.last;
      span = record {
        low = t.span.low;
        order = t.span.order;
        high = t.span.high;
        absent = λ g above upto. same g (omega (arith, upto)) ∙ t.span.absent g above upto;
        present = λ g from upto. subst (λ (l : List ℕ). 0 < length l) (sym (same g (omega (arith, upto, t.span.high)))) (t.span.present g from upto);
        before = λ g low next. same g (omega (arith, next, t.span.order, t.span.high)) ∙ t.span.before g low next;
      };
      is = one ∙ ap (λ (l : List (List ℕ)). all_of t.first (read_trail k.total t.first 1 l)) trail ∙ sym two ∙ t.is;
    }

-- a trail that is found is one that a writer keeps, up to a file of the audit
pub record WritesWithin (total first : ℕ) (files : Files) : Type 0 where
  pub tag : ℕ
  pub file : ℕ
  pub count : ℕ
  pub writes : IsWrittenUpTo total tag first file count files
  pub low : 10001 ≤ first
  pub high : file ≤ 20000

pub writes_within : (total first : ℕ) (files : Files) → IsTrailFound total first files → WritesWithin total first files
writes_within total first files r =
    let t = r.found.trail in
    let k = found_is_kept t.first t.last files r.found.entries t.span.order t.is in
    let one = fits_says (t.first - 10000) k.total (files t.first) (k.writes.fits t.first (omega arith) k.writes.order) in
    let two = fits_says (first - 10000) total (files first) (r.writes.fits first (omega arith) r.writes.order) in
    let same : k.total ≡ total = one.1 ∙ ap (λ (j : ℕ). blocks_said (files j)) r.found.first_is ∙ sym two.1 in
    record {
      tag = k.tag;
      file = k.file;
      count = k.count;
      writes = subst (λ (j : ℕ). IsWrittenUpTo total k.tag j k.file k.count files) r.found.first_is (subst (λ (j : ℕ). IsWrittenUpTo j k.tag t.first k.file k.count files) same k.writes);
      low = omega (arith, r.found.first_is, t.span.low);
      high = omega (arith, k.low, t.span.high);
    }

-- files whose audit is the same have the same trail
pub trail_same_files : (total first : ℕ) (y x : Files) → IsTrailFound total first y → ((g : ℕ) → g ≤ 20000 → x g ≡ y g) → IsTrailFound total first x
unfolding scanned_same
trail_same_files total first y x r same =
    let w = writes_within total first y r in
    record {
      places = r.places;
      found = record { entries = r.found.entries; places_are = r.found.places_are; trail = scanned_same x y r.found.entries same r.found.trail; first_is = r.found.first_is };
      tag = w.tag;
      file = w.file;
      count = w.count;
      writes = writes_same total w.tag first w.file w.count y x w.writes (λ g from upto. same g (omega (arith, upto, w.high)));
    }
