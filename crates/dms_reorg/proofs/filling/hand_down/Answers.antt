use Rattle.std.proofs.Common.{inr, sym}
use Rattle.dms_reorg.proofs.Handing.{hands_finish}
use Rattle.dms_reorg.proofs.OneFile.{content_below, on_ok_is}
use Rattle.dms_reorg.proofs.filling.hand_down.Goals as goal

pub returns-clause-below : goal.returns-clause-below
returns-clause-below g c = on_ok_is c.finish.result (λ told. inr (sym (content_below c.finish.new.self c.finish.ensures.written)))

pub returns-clause-hands : goal.returns-clause-hands
returns-clause-hands g c =
    hands_finish {T = Unit {0}} c.finish.result c.args.over.now c.finish.new.self c.finish.ensures.written c.finish.ensures.counts c.finish.ensures.content c.finish.ensures.alters c.finish.ensures.same
