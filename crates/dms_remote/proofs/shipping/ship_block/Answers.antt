use Rattle.std.proofs.Common.{ℕ, List, subst}
use Rattle.dms_remote.specs.Shipping.{PrintsFirst}
use Rattle.dms_remote.proofs.Printing.{first_taken}
use Rattle.dms_remote.proofs.shipping.ship_block.Goals as goal

pub returns-in-Err-say-clause-part : goal.returns-in-Err-say-clause-part
returns-in-Err-say-clause-part g c = λ tells told whole.
    subst (λ (l : List ℕ). PrintsFirst l (g.S.Site.said c.args.site.now) (g.S.Site.said c.say.new.self)) (c.in-Ok.ensures.loaded tells whole)
    (subst (λ (l : List ℕ). PrintsFirst c.load_record.new.buffer l (g.S.Site.said c.say.new.self)) c.in-Ok.ensures.reads.text_stays (first_taken c.load_record.new.buffer _ _ (c.in-Err-say.ensures.some_said told)))
