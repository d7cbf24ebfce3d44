use Rattle.std.proofs.Common.{ℕ, ◌+◌, ◌≡◌, ◌∙◌, subst, sym, length, arith, refl, Some, slice_get}
use Rattle.std.proofs.lemmas.Option.{slice_get_read}
use Rattle.dms_sitemem.proofs.Crashes.{SyncedTo, synced_start, synced_here, synced_on, synced_all}
use Rattle.dms_sitemem.proofs.crash.last_sync.Goals as goal
use Rattle.dms_sitemem.proofs.crash.last_sync.Goals.{then-is_sync, else-is_sync}

pub loop-place-init : goal.loop-place-init
loop-place-init c = synced_start c.args.events.now

pub loop-place-preserved : goal.loop-place-preserved
loop-place-preserved c =
    let event = c.index-events-place.result in
    let read : slice_get c.args.events.now c.loop-place.place ≡ Some event =
    slice_get_read c.args.events.now (length c.args.events.now) c.loop-place.place event refl (omega (arith, c.loop-place-test.true)) c.index-events-place.is in
    let events = c.args.events.now in
    let p = c.loop-place.place in
    elim c.if-is_sync.branch [
      | then-is_sync w ↦ subst (λ (n : ℕ). SyncedTo events (p + 1) n) (sym w.synced-is) (synced_here events p event read (sym c.is_sync.ensures ∙ w.if-is_sync.true))
      | else-is_sync w ↦ subst (λ (n : ℕ). SyncedTo events (p + 1) n) (sym w.synced-is) (synced_on events p c.loop-place.synced event c.loop-place.invariant read (sym c.is_sync.ensures ∙ w.if-is_sync.false))
    ]

pub returns-clause-none_behind : goal.returns-clause-none_behind
returns-clause-none_behind c = synced_all c.args.events.now c.loop-place.place c.loop-place.synced c.loop-place.invariant (omega (arith, c.loop-place-test.false))
