use Rattle.std.proofs.Common.{ℕ, ◌+◌, ◌-◌, ◌≡◌, ◌∙◌, ◌++◌, ap, sym, take, drop, length, arith, refl, Some, slice_get}
use Rattle.std.proofs.lemmas.Option.{slice_get_read}
use Rattle.dms_sitemem.specs.Events.{through}
use Rattle.dms_sitemem.proofs.Crashes.{through_end, through_step, through_all}
use Rattle.dms_sitemem.proofs.crash.end_of.Goals as goal

pub returns-then-left-eq0-clause-through : goal.returns-then-left-eq0-clause-through
returns-then-left-eq0-clause-through c = through_end c.loop-place.left c.loop-place.place c.args.events.now _ c.loop-place.invariant (omega (arith, c.if-left-eq0.true))

pub loop-place-preserved : goal.loop-place-preserved
loop-place-preserved c =
    let event = c.index-events-place.result in
    let read : slice_get c.args.events.now c.loop-place.place ≡ Some event =
    slice_get_read c.args.events.now (length c.args.events.now) c.loop-place.place event refl (omega (arith, c.loop-place-test.true)) c.index-events-place.is in
    let events = c.args.events.now in
    let p = c.loop-place.place in
    c.loop-place.invariant
    ∙ through_step c.loop-place.left p events event read (λ none. omega (arith, none, c.if-left-eq0.false))
    ∙ ap (λ (n : ℕ). take (p + 1) events ++ through n (drop (p + 1) events)) (sym (c.saturating_sub-left.ensures ∙ ap (λ (n : ℕ). c.loop-place.left - n) c.calls.ensures))

pub returns-clause-through : goal.returns-clause-through
returns-clause-through c =
    let events = c.args.events.now in
    let end : length events ≡ c.loop-place.place = omega (arith, c.loop-place-test.false, c.loop-place.auto.place-end) in
    ap (λ (n : ℕ). take n events) end ∙ through_all c.loop-place.left c.loop-place.place events _ c.loop-place.invariant (omega (arith, end))
