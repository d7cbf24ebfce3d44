use Rattle.std.proofs.Common.{◌≡◌, false, sym, subst, ap, ◌∙◌}
use Rattle.std.specs.Prelude.{insert}
use Rattle.dms_desc.specs.Sorted.{place_in}
use Rattle.dms_model.specs.Uses.{entry_before, entry_of}
use Rattle.dms_model.specs.Valid.{AreRising}
use Rattle.dms_plain.specs.Moves.{stands}
use Rattle.dms_plain.proofs.Rising.{rising_with}
use Rattle.dms_plain.proofs.manual.insert.Goals as goal

pub returns-in_ok-insert-in-Err-clause-rising : goal.returns-in_ok-insert-in-Err-clause-rising
returns-in_ok-insert-in-Err-clause-rising c =
    let es = c.args.kept.now.items in
    let k = entry_of c.args.subset c.args.owner c.args.number in
    let off : stands c.args.subset c.args.owner c.args.number es ≡ false = rw c.as_slice.ensures.value at c.in-Err.ensures.1 in
    let placed : place_in entry_before k es ≡ insert es c.in-Err.i k = rw c.as_slice.ensures.value at c.in-Err.ensures.2 in
    subst AreRising (placed ∙ ap (insert es c.in-Err.i) (sym c.new.ensures) ∙ sym c.in_ok-insert-in-Err.ensures.items)
    (rising_with c.args.subset c.args.owner c.args.number es c.requires off)
