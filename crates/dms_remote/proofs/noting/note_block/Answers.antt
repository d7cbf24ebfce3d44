use Rattle.std.proofs.Common.{ℕ, subst, refl, get_or, arith}
use Rattle.dms_audfile.specs.declared.place.EntryPlace.{EntryPlace}
use Rattle.dms_remote.specs.Noting.{TracesSaid}
use Rattle.dms_remote.proofs.Noted.{notes_none, notes_more, notes_all}
use Rattle.dms_remote.proofs.noting.note_block.Goals as goal

pub loop-place-init : goal.loop-place-init
loop-place-init c = record { before = omega arith; notes = notes_none c.args.block.now c.args.places.now c.args.at c.args.trace.now }

pub loop-place-preserved : goal.loop-place-preserved
loop-place-preserved c =
    let i = c.loop-place.place-index in
    let none_there : EntryPlace = record { file = 0; block = 0; offset = 0 } in
    let place = get_or c.args.places.now i none_there in
    record {
      before = omega (arith, c.loop-place.invariant.before);
      notes = notes_more c.args.block.now c.args.places.now c.args.at i c.args.trace.now c.loop-place.trace c.note_one.new.trace place none_there c.loop-place-test.true refl
          (subst (λ (n : ℕ). TracesSaid c.args.block.now place n c.loop-place.trace c.note_one.new.trace) c.loop-place.invariant.before c.in-Ok.ensures.added) c.loop-place.invariant.notes;
    }

pub returns-clause-added : goal.returns-clause-added
returns-clause-added c = notes_all c.args.block.now c.args.places.now c.args.at c.loop-place.place-index c.args.trace.now c.loop-place.trace c.loop-place-test.false c.loop-place.invariant.notes
