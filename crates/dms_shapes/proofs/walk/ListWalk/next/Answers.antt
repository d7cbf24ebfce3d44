use Rattle.dms_shapes.proofs.walk.ListWalk.next.Goals as goal

pub returns-clause-taken : goal.returns-clause-taken
returns-clause-taken g c told left l = c.in_ok-take.ensures.taken (g.V.View.content c.args.view.now) left (c.in_ok-fill.ensures.filled told left l)
