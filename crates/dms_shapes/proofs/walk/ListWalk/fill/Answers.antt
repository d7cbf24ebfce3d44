use Rattle.std.proofs.Common.{◌≤◌, ◌∙◌, refl, ap, length, arith}
use Rattle.dms_chain.specs.Spelled.{leaf_opt}
use Rattle.dms_shapes.proofs.Fronts.{must_be, must_lie, now_filled, still_filled}
use Rattle.dms_shapes.proofs.walk.ListWalk.fill.Goals as goal

pub returns-then-self-len-clause-filled : goal.returns-then-self-len-clause-filled
returns-then-self-len-clause-filled g c told left l =
    still_filled (g.V.View.content c.args.view.now) c.args.self.now left (λ past. absurd (omega (arith, past, c.if-self-len.true, c.len.ensures))) l

pub returns-then-self-eq0-clause-filled : goal.returns-then-self-eq0-clause-filled
returns-then-self-eq0-clause-filled g c told left l = still_filled (g.V.View.content c.args.view.now) c.args.self.now left (λ past. c.if-self-eq0.true) l

pub returns-in-Some-clause-filled : goal.returns-in-Some-clause-filled
returns-in-Some-clause-filled g c told left l =
    let content = g.V.View.content c.args.view.now in
    let w = c.args.self.now in
    let past : length w.entries.items ≤ w.place = omega (arith, c.if-self-len.false, c.len.ensures) in
    let said = c.in_ok-leaf.ensures.leaf told (must_lie content w left c.if-self-eq0.false l) ∙ ap leaf_opt c.in-Some.is in
    now_filled content w _ left c.in-Some.leaf.next c.in-Some.leaf.entries.items past c.if-self-eq0.false l said refl refl refl refl refl

pub returns-in-None-clause-filled : goal.returns-in-None-clause-filled
returns-in-None-clause-filled g c told left l =
    let content = g.V.View.content c.args.view.now in
    let w = c.args.self.now in
    absurd (must_be content w left c.if-self-eq0.false l (c.in_ok-leaf.ensures.leaf told (must_lie content w left c.if-self-eq0.false l) ∙ ap leaf_opt c.in-None.is))
