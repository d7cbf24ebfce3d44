use Rattle.std.proofs.Common.{◌≡◌, length, arith, refl, Some}
use Rattle.std.specs.Prelude.{slice_get}
use Rattle.std.proofs.lemmas.Option.{slice_get_read}
use Rattle.dms_memcalls.proofs.Struck.{shown_next, left_next}
use Rattle.dms_memcalls.proofs.crash.left_after.Goals as goal

pub loop-place-preserved : goal.loop-place-preserved
loop-place-preserved c =
    let event = c.index-events-place.result in
    let events = c.args.events.now in
    let p = c.loop-place.place in
    let read : slice_get events p ≡ Some event = slice_get_read events (length events) p event refl (omega (arith, c.loop-place-test.true, c.requires)) c.index-events-place.is in
    let was = c.loop-place.invariant in
    record {
      shown = shown_next events p event _ _ read was.shown c.in_ok-pass.ensures.shown;
      left = left_next events p event _ _ _ read was.shown was.left c.in_ok-pass.ensures.struck;
    }
