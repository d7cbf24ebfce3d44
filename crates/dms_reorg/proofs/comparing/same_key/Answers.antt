use Rattle.std.proofs.lemmas.Slice.Eq.{slice_eq-Decides}
use Rattle.dms_reorg.proofs.Same.{parts-Decides}
use Rattle.dms_reorg.proofs.comparing.same_key.Goals as goal

pub returns : goal.returns
returns c = slice_eq-Decides (λ a b. parts-Decides a b) c.args.a.now c.args.b.now c.eq.result c.eq.ensures
