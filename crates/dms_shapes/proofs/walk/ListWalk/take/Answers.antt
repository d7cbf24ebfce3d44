use Rattle.std.proofs.Common.{◌∙◌, ℕ, List, refl, ap, slice_get, arith}
use Rattle.dms_shapes.proofs.Fronts.{now_taken}
use Rattle.dms_shapes.proofs.walk.ListWalk.take.Goals as goal

pub returns-then-self-len-clause-taken : goal.returns-then-self-len-clause-taken
returns-then-self-len-clause-taken c content left f =
    now_taken content c.args.self.now _ left _ f (omega (arith, c.if-self-len.true, c.len.ensures))
    (c.in_ok-taken.ensures ∙ ap (λ (l : List (List ℕ)). slice_get l c.args.self.now.place) c.deref.ensures.value) refl refl refl refl refl

pub returns-clause-taken : goal.returns-clause-taken
returns-clause-taken c content left f = f.none (omega (arith, c.if-self-len.false, c.len.ensures))
