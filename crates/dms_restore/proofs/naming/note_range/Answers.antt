use Rattle.std.proofs.Common.{inl, inr, Some, sym, ◌∙◌, ap}
use Rattle.std.specs.Prelude.{◌≡◌}
use Rattle.dms_restore.specs.LiveEntries.{patch_in}
use Rattle.dms_restore.specs.Named.{spot_of, noted_of, laid_over}
use Rattle.dms_restore.proofs.Marked.{marked_same}
use Rattle.dms_restore.proofs.Noting.{noted_at_set}
use Rattle.dms_restore.proofs.Spots.{put_again}
use Rattle.dms_restore.proofs.SpotParts.{held_set, held_old, piece_place}
use Rattle.dms_restore.proofs.naming.note_range.Goals as goal

pub returns-in_ok-insert-in-Some-clause-notes : goal.returns-in_ok-insert-in-Some-clause-notes
returns-in_ok-insert-in-Some-clause-notes c files =
    let r = c.args.range.now in
    let found : spot_of c.args.spots.now r.file r.block ≡ Some c.in-Some.was = sym c.in-Some.ensures.value in
    noted_at_set files c.args.spots.now c.insert.new.self r.file r.block _ (laid_over c.args.names r.patch.place (patch_in files r.patch))
    (λ f b. put_again f b r.file r.block (spot_of c.args.spots.now f b) (spot_of c.remove.new.self f b) (spot_of c.insert.new.self f b) _ (c.in-Some.ensures.updates.0 (f, b)) (c.in_ok-insert-in-Some.ensures.updates.0 (f, b)))
    (c.in_ok-noted-in-Some.ensures.lays files ∙ ap (λ o. laid_over c.args.names r.patch.place (patch_in files r.patch) (noted_of files o)) (sym found))

pub returns-in_ok-insert-in-Some-clause-from : goal.returns-in_ok-insert-in-Some-clause-from
returns-in_ok-insert-in-Some-clause-from c t held =
    let r = c.args.range.now in
    let found : spot_of c.args.spots.now r.file r.block ≡ Some c.in-Some.was = sym c.in-Some.ensures.value in
    elim (held_set c.args.spots.now c.insert.new.self r.file r.block c.in_ok-noted-in-Some.noted
    (λ f b. put_again f b r.file r.block (spot_of c.args.spots.now f b) (spot_of c.remove.new.self f b) (spot_of c.insert.new.self f b) _ (c.in-Some.ensures.updates.0 (f, b)) (c.in_ok-insert-in-Some.ensures.updates.0 (f, b))) t held) [
      | inl old ↦ inl old
      | inr one ↦ elim (c.in_ok-noted-in-Some.ensures.from r.file r.block t one) [
        | inl before ↦
            let at = piece_place r.file r.block t c.in-Some.was.spot before in
            inl (held_old c.args.spots.now r.file r.block c.in-Some.was t found at.0 at.1 before)
        | inr this ↦ inr this
      ]
    ]

pub returns-in_ok-insert-in-Some-clause-marks : goal.returns-in_ok-insert-in-Some-clause-marks
returns-in_ok-insert-in-Some-clause-marks c =
    let r = c.args.range.now in
    let found : spot_of c.args.spots.now r.file r.block ≡ Some c.in-Some.was = sym c.in-Some.ensures.value in
    marked_same c.args.spots.now c.insert.new.self r.file r.block _
    (λ f b. put_again f b r.file r.block (spot_of c.args.spots.now f b) (spot_of c.remove.new.self f b) (spot_of c.insert.new.self f b) _ (c.in-Some.ensures.updates.0 (f, b)) (c.in_ok-insert-in-Some.ensures.updates.0 (f, b))) c.in-Some.was found
