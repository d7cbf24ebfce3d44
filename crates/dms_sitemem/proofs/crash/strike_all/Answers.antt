use Rattle.std.proofs.Common.{ℕ, ◌≡◌, ◌∙◌, ap, sym, arith, List, take, length, refl, Some, slice_get}
use Rattle.std.proofs.lemmas.Option.{slice_get_read}
use Rattle.dms_sitemem.specs.Events.{said_after}
use Rattle.dms_sitemem.specs.Replay.{Replayed, state_of}
use Rattle.dms_sitemem.specs.Picks.{Struck}
use Rattle.dms_sitemem.proofs.Crashes.{state_take, picked_start, struck_next}
use Rattle.dms_sitemem.proofs.crash.strike_all.Goals as goal

pub loop-place-init : goal.loop-place-init
loop-place-init c =
    let r = c.requires in
    let start = picked_start c.args.pick (state_of (take c.args.from c.args.events.now)) r.none_pending r.stable in
    record {
      from = omega arith;
      files = r.files ∙ ap (λ (s : Struck). s.files) (sym start);
      seed = ap (λ (s : Struck). s.seed) (sym start);
      said = r.said;
    }

pub loop-place-preserved : goal.loop-place-preserved
loop-place-preserved c =
    let event = c.index-events-place.result in
    let read : slice_get c.args.events.now c.loop-place.place ≡ Some event =
    slice_get_read c.args.events.now (length c.args.events.now) c.loop-place.place event refl (omega (arith, c.loop-place-test.true)) c.index-events-place.is in
    let was = c.loop-place.invariant in
    let events = c.args.events.now in
    let p = c.loop-place.place in
    let next = struck_next c.args.pick p events event c.fill_of-fill.result _ _ read (c.requires.none_behind p event was.from read) c.fill_of-fill.ensures was.files was.seed in
    record {
      from = omega (arith, was.from);
      files = c.in_ok-strike.ensures.files ∙ ap (λ (s : Struck). s.files) next;
      seed = c.in_ok-strike.ensures.seed ∙ ap (λ (s : Struck). s.seed) next;
      said = c.in_ok-strike.ensures.said ∙ ap (λ (l : List ℕ). said_after event l) was.said ∙ ap (λ (s : Replayed). s.said) (sym (state_take events p event read));
    }
