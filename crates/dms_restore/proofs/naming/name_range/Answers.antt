use Rattle.std.proofs.Common.{inl, inr, Some, sym, ◌∙◌, ap}
use Rattle.std.specs.Prelude.{◌≡◌, ◌||◌, is_some}
use Rattle.dms_restore.specs.Named.{Noted, spot_of, noted_of, stands_at}
use Rattle.dms_restore.proofs.Noting.{noted_at_set, named_some}
use Rattle.dms_restore.proofs.Spots.{put_again}
use Rattle.dms_restore.proofs.SpotParts.{held_set, held_old, piece_place}
use Rattle.dms_restore.proofs.naming.name_range.Goals as goal
use Rattle.dms_restore.proofs.naming.name_range.Goals.{then-named, else-named}

abbrev more : Noted → Noted
more n = record { stands = n.stands; named = n.named || is_some n.stands }

pub returns-in_ok-insert-in-Some-clause-notes : goal.returns-in_ok-insert-in-Some-clause-notes
returns-in_ok-insert-in-Some-clause-notes c files =
    let r = c.args.range.now in
    let was = c.in-Some.was in
    let found : spot_of c.args.spots.now r.file r.block ≡ Some was = sym c.in-Some.ensures.value in
    let named : c.if-named.names ≡ was.named || is_some was.spot = elim c.if-named.branch [
      | then-named w ↦ w.names-is ∙ w.if-named.true ∙ sym (ap (λ t. t || is_some was.spot) w.if-named.true)
      | else-named w ↦ w.names-is ∙ w.is_some-names.ensures ∙ sym (ap (λ t. t || is_some was.spot) w.if-named.false)
    ] in
    noted_at_set files c.args.spots.now c.insert.new.self r.file r.block _ more
    (λ f b. put_again f b r.file r.block (spot_of c.args.spots.now f b) (spot_of c.remove.new.self f b) (spot_of c.insert.new.self f b) _ (c.in-Some.ensures.updates.0 (f, b)) (c.in_ok-insert-in-Some.ensures.updates.0 (f, b)))
    ((λ j. record { stands = stands_at files was.spot; named = (named ∙ named_some files was.named was.spot) j }) ∙ ap (λ o. more (noted_of files o)) (sym found))

pub returns-in_ok-insert-in-Some-clause-from : goal.returns-in_ok-insert-in-Some-clause-from
returns-in_ok-insert-in-Some-clause-from c t held =
    let r = c.args.range.now in
    let found : spot_of c.args.spots.now r.file r.block ≡ Some c.in-Some.was = sym c.in-Some.ensures.value in
    elim (held_set c.args.spots.now c.insert.new.self r.file r.block _
    (λ f b. put_again f b r.file r.block (spot_of c.args.spots.now f b) (spot_of c.remove.new.self f b) (spot_of c.insert.new.self f b) _ (c.in-Some.ensures.updates.0 (f, b)) (c.in_ok-insert-in-Some.ensures.updates.0 (f, b))) t held) [
      | inl old ↦ old
      | inr one ↦ let at = piece_place r.file r.block t c.in-Some.was.spot one in held_old c.args.spots.now r.file r.block c.in-Some.was t found at.0 at.1 one
    ]
