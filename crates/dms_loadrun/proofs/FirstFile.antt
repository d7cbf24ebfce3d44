-- The last audit file of a trail that begins with audit file 1.
use Rattle.std.proofs.Common.{ℕ, ◌-◌, ◌≡◌, ◌∙◌, inl, inr, true, sym, ap, subst, arith}
use Rattle.dms_audfile.specs.Gates.{is_full}
use Rattle.dms_audfile.specs.Header.{blocks_said}
use Rattle.dms_audfile.specs.Trail.{Span}
use Rattle.dms_audfile.proofs.Followed.{fits_says}
use Rattle.dms_audfile.proofs.Kept.{long_head}
use Rattle.dms_audfile.proofs.There.{span_first}
use Rattle.dms_creation.specs.Creation.{IsFirstTrail}
use Rattle.dms_creation.specs.FirstEntries.{first_entries}
use Rattle.dms_desc.specs.Shape.{Described}
use Rattle.dms_runtop.specs.Full.{IsFullAt}
use Rattle.dms_site.specs.Files.{Files}

module _ (tag : ℕ) (d : Described) (made : Files) (t : IsFirstTrail tag d.blocks (first_entries d) made) where
  abbrev total : ℕ
  total = d.blocks

  first_span : Span made 10001 t.file
  first_span = record {
    low = omega arith;
    order = t.writes.order;
    high = t.high;
    absent = t.behind;
    present = λ g from upto. omega (arith, long_head (g - 10000) total (made g) (t.writes.fits g from upto));
    before = λ g low next. absurd (omega (arith, low, next));
  }

  module _ (now : Files) (at : IsFullAt 9999 made now) where
    first_is : at.first ≡ 10001
    first_is =
        let s = at.trail.found.trail in
        omega (arith, at.trail.found.first_is, span_first made s.first s.last 10001 t.file s.span first_span, span_first made 10001 t.file s.first s.last first_span s.span)

    total_is : at.total ≡ total
    total_is =
        let w = at.trail.writes in
        let one = fits_says (at.first - 10000) at.total (made at.first) (w.fits at.first (omega arith) w.order) in
        let two = fits_says (10001 - 10000) total (made 10001) (t.writes.fits 10001 (omega arith) t.writes.order) in
        one.1 ∙ ap (λ (n : ℕ). blocks_said (made n)) first_is ∙ sym two.1

    -- where the trail goes on behind it all its gates are open
    pub last_full : is_full total (now 19999) ≡ true
    last_full = elim at.passes [
      | inl behind ↦ absurd (omega (arith, behind, first_is))
      | inr full ↦ subst (λ (n : ℕ). is_full n (now 19999) ≡ true) total_is full
    ]
