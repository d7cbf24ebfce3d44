use Rattle.std.proofs.Common.{◌≡◌, true, sym, ap, ◌∙◌}
use Rattle.dms_model.specs.Members.{names}
use Rattle.dms_plain.specs.Entered.{Entered}
use Rattle.dms_plain.specs.Moves.{before_moves, stands}
use Rattle.dms_plain.proofs.Rising.{kept_all, mark_taken}
use Rattle.dms_plain.proofs.manual.Manual.leave.Goals as goal

pub returns-then-not-has-clause-ok : goal.returns-then-not-has-clause-ok
returns-then-not-has-clause-ok c = sym (kept_all (names c.args.subset c.args.owner c.args.number) c.args.self.now.entries (sym c.has.ensures ∙ c.if-not-has.true))

pub returns-clause-mark : goal.returns-clause-mark
returns-clause-mark c =
    let s = c.args.subset in
    let o = c.args.owner in
    let n = c.args.number in
    let es = c.self.inside.kept.items in
    let on : stands s o n es ≡ true = ap (λ (v : Entered). stands s o n v.entries) c.self.view_is ∙ sym c.has.ensures ∙ c.if-not-has.false in
    (λ i. before_moves (c.in_ok-push.ensures.items i) (c.remove.ensures.left i)) ∙ mark_taken c.self.inside.moves.items s o n es c.self.invariant on ∙ ap (λ (v : Entered). v.mark) c.self.view_is
