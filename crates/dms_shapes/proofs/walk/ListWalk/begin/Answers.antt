use Rattle.std.proofs.Common.{List, ℕ, ◌++◌, ap}
use Rattle.dms_shapes.proofs.walk.ListWalk.begin.Goals as goal

pub returns-clause-begins : goal.returns-clause-begins
returns-clause-begins g c told xs is = record { behind = xs; ahead = c.in_ok-at.ensures.first told xs is; is = ap (λ (l : List (List ℕ)). l ++ xs) c.new.ensures.items }
