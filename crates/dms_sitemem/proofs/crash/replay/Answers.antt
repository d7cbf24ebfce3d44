use Rattle.std.proofs.Common.{◌∙◌, ap, sym, ℕ, List, ◌≡◌, length, arith, refl, Some, slice_get}
use Rattle.std.proofs.lemmas.Option.{slice_get_read}
use Rattle.dms_site.specs.Files.{Files}
use Rattle.dms_sitemem.specs.Events.{files_after, said_after}
use Rattle.dms_sitemem.specs.Replay.{Replayed, state_of}
use Rattle.dms_sitemem.proofs.Crashes.{state_take}
use Rattle.dms_sitemem.proofs.crash.replay.Goals as goal

pub loop-place-init : goal.loop-place-init
unfolding state_of
loop-place-init c = record { files = c.new-image.ensures.files; said = c.new-image.ensures.said }

pub loop-place-preserved : goal.loop-place-preserved
loop-place-preserved c =
    let event = c.index-events-place.result in
    let read : slice_get c.args.events.now c.loop-place.place ≡ Some event =
    slice_get_read c.args.events.now (length c.args.events.now) c.loop-place.place event refl (omega (arith, c.loop-place-test.true)) c.index-events-place.is in
    let was = c.loop-place.invariant in
    let step = state_take c.args.events.now c.loop-place.place event read in
    record {
      files = c.in_ok-apply.ensures.files ∙ ap (λ (l : Files). files_after event l) was.files ∙ ap (λ (s : Replayed). s.files) (sym step);
      said = c.in_ok-apply.ensures.said ∙ ap (λ (l : List ℕ). said_after event l) was.said ∙ ap (λ (s : Replayed). s.said) (sym step);
    }
