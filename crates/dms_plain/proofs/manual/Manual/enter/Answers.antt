use Rattle.std.proofs.Common.{◌≡◌, false, cond, ap, ◌∙◌}
use Rattle.dms_desc.specs.Sorted.{place_in}
use Rattle.dms_model.specs.Uses.{entry_before, entry_of}
use Rattle.dms_plain.specs.Entered.{Entered}
use Rattle.dms_plain.specs.Moves.{before_moves, stands}
use Rattle.dms_plain.proofs.Rising.{mark_made}
use Rattle.dms_plain.proofs.manual.Manual.enter.Goals as goal

pub returns-in-Ok-clause-mark : goal.returns-in-Ok-clause-mark
returns-in-Ok-clause-mark c =
    let s = c.args.subset in
    let o = c.args.owner in
    let n = c.args.number in
    let es = c.self.inside.kept.items in
    let off : stands s o n es ≡ false = ap (λ (v : Entered). stands s o n v.entries) c.self.view_is ∙ c.requires in
    let made = c.in-Ok.ensures.ok ∙ ap (λ b. cond b es (place_in entry_before (entry_of s o n) es)) off in
    (λ i. before_moves (c.in_ok-push.ensures.items i) (made i)) ∙ mark_made c.self.inside.moves.items s o n es off ∙ ap (λ (v : Entered). v.mark) c.self.view_is
