use Rattle.std.proofs.Common.{List, [], ◌∷◌, take, get_or, refl, sym, ◌∙◌, ap, arith}
use Rattle.dms_history.specs.Events.{Event}
use Rattle.dms_history.specs.History.{last_number}
use Rattle.dms_restore.specs.LiveEntries.{events_at}
use Rattle.dms_restore.proofs.Spots.{no_entry, events_more, events_all}
use Rattle.dms_opening.proofs.Numbered.{last_more}
use Rattle.dms_opening.proofs.numbers.last_number.Goals as goal

pub loop-entry-init : goal.loop-entry-init
loop-entry-init c files = refl

pub loop-entry-preserved : goal.loop-entry-preserved
loop-entry-preserved c files =
    let live = c.args.live.now in
    let i = c.loop-entry.entry-index in
    let e = events_at files (get_or live i no_entry ∷ []) in
    c.number_after-last.ensures files ∙ ap (λ k. last_number k e) (c.loop-entry.invariant files) ∙ sym (last_more c.args.first (events_at files (take i live)) e)
    ∙ ap (λ (l : List Event). last_number c.args.first l) (sym (events_more files live i no_entry c.loop-entry-test.true))

pub returns : goal.returns
returns c files = c.loop-entry.invariant files ∙ ap (λ (l : List Event). last_number c.args.first l) (events_all files c.args.live.now c.loop-entry.entry-index (omega (arith, c.loop-entry-test.false)))
