-- Files have one trail at most, and what a call leaves of it that changes nothing.
use Rattle.std.proofs.Common.{ℕ, ◌-◌, ◌≤◌, ◌≡◌, inl, inr, List, [], sym, ◌∙◌, ap, subst, arith}
use Rattle.dms_moments.specs.Moments.{Clock, Now, Runs, Steps}
use Rattle.dms_site.specs.Files.{Files, Left, Same, Only}
use Rattle.dms_audfile.specs.Header.{blocks_said}
use Rattle.dms_audfile.specs.AuditTrail.{IsFound}
use Rattle.dms_audfile.specs.Sealing.{IsWrittenUpTo}
use Rattle.dms_audfile.specs.EndLaws.{starts_at}
use Rattle.dms_audfile.specs.Ends.{EndsAt}
use Rattle.dms_audfile.specs.declared.audit_end.AuditEnd.{AuditEnd}
use Rattle.dms_audfile.specs.declared.place.EntryPlace.{EntryPlace}
use Rattle.dms_audfile.proofs.Followed.{fits_says}
use Rattle.dms_restore.specs.Laying.{IsAtStart}
use Rattle.dms_opening.specs.Openings.{IsTrailFound}
use Rattle.dms_audfile.proofs.There.{span_first}

found_first : (files : Files) (f g : ℕ) (ps qs : List EntryPlace) → IsFound files f ps → IsFound files g qs → f ≡ g
found_first files f g ps qs one two =
    let s = one.trail in
    let t = two.trail in
    omega (arith, one.first_is, two.first_is, span_first files s.first s.last t.first t.last s.span t.span, span_first files t.first t.last s.first s.last t.span s.span)

-- its first file and the number of blocks a file
pub one_first : (t f u g : ℕ) (files : Files) → IsTrailFound t f files → IsTrailFound u g files → f ≡ g
one_first t f u g files one two = found_first files f g one.places two.places one.found two.found

pub one_total : (t f u g : ℕ) (files : Files) → IsTrailFound t f files → IsTrailFound u g files → t ≡ u
one_total t f u g files one two =
    let same = one_first t f u g files one two in
    let a = fits_says (f - 10000) t (files f) (one.writes.fits f (omega arith) one.writes.order) in
    let b = fits_says (g - 10000) u (files g) (two.writes.fits g (omega arith) two.writes.order) in
    a.1 ∙ ap (λ n. blocks_said (files n)) same ∙ sym b.1

-- ---- a call that changes nothing

-- what a stop leaves is what it could leave
pub unchanged : (a b : Clock Left) (P : Left → Type 0) → ((t : ℕ) (x : Left) → t ≤ a.now → Now a x → a.left t x) → Steps Same a b → Runs a b P
unchanged a b P counts steps = record {
  later = steps.runs.later;
  only = λ t x le left. elim (steps.runs.only t x le left) [
    | inl was ↦ inl was
    | inr after ↦ inl (subst (λ (y : Left). a.left t y) (sym after.2) (counts t after.0 le after.1))
  ];
  keeps = steps.runs.keeps;
}

-- a trail that was scanned is at its start still
pub start_on : (end : AuditEnd) (first : ℕ) (old new : Files) (a b : Clock Left) → new ≡ old → Steps Same a b → IsAtStart end first old a → IsAtStart end first new b
start_on end first old new a b same steps s =
    let ends : EndsAt end first [] old b = record {
      low = s.ends.low;
      writes = s.ends.writes;
      settled = λ g from upto x now. let y = steps.follows x now in ap (λ (z : Left). z.files g) y.2 ∙ s.ends.settled g from upto y.0 y.1;
      waits = s.ends.waits;
      kind = s.ends.kind;
    } in
    let only : Only old b = λ x now. let y = steps.follows x now in ap (λ (z : Left). z.files) y.2 ∙ s.only y.0 y.1 in
    subst (λ (f : Files). IsAtStart end first f b) (sym same) (record { ends = ends; only = only })

-- so is one whose end was made of what scanning found
pub start_found : (end : AuditEnd) (total tag first file count : ℕ) (files later : Files) (a b : Clock Left) → end.total ≡ total → end.tag ≡ tag → end.file ≡ file → end.count ≡ count → end.used ≡ 0 → 10001 ≤ first
    → IsWrittenUpTo total tag first file count files → Only files a → later ≡ files → Steps Same a b → IsAtStart end first later b
start_found end total tag first file count files later a b same_total same_tag same_file same_count none low writes only same steps =
    let there : IsWrittenUpTo end.total end.tag first end.file end.count files =
    subst (λ n. IsWrittenUpTo n end.tag first end.file end.count files) (sym same_total) (subst (λ n. IsWrittenUpTo total n first end.file end.count files) (sym same_tag)
    (subst (λ n. IsWrittenUpTo total tag first n end.count files) (sym same_file) (subst (λ n. IsWrittenUpTo total tag first file n files) (sym same_count) writes))) in
    start_on end first files later a b same steps (record { ends = starts_at end first files a low there (λ g from upto x now. ap (λ (l : Files). l g) (only x now)) none; only = only })

pub trail_of : (end : AuditEnd) (first : ℕ) (files now : Files) (clock : Clock Left) (ps : List EntryPlace) → now ≡ files → IsFound files first ps → IsAtStart end first now clock → IsTrailFound end.total first files
trail_of end first files now clock ps same found s =
    let e = subst (λ (f : Files). EndsAt end first [] f clock) same s.ends in
    record { places = ps; found = found; tag = end.tag; file = end.file; count = end.count; writes = e.writes }
