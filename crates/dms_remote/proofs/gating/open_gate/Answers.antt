use Rattle.std.proofs.Common.{Bool, subst, sym}
use Rattle.std.proofs.lemmas.Result.{on_ok_weaker}
use Rattle.dms_moments.specs.Moments.{Steps}
use Rattle.dms_remote.specs.Gate.{gated, GatesCopy}
use Rattle.dms_remote.specs.Next.{IsCopyAt}
use Rattle.dms_remote.proofs.Gates.{gate_opened, gate_moments, gate_none}
use Rattle.dms_remote.proofs.gating.open_gate.Goals as goal

pub returns-then-opens-clause-opened : goal.returns-then-opens-clause-opened
returns-then-opens-clause-opened g c = on_ok_weaker c.write_synced.result
    (λ written end head blocks tells at. subst (λ (t : Bool). IsCopyAt end (gated t head) blocks (g.S.Site.files c.write_synced.new.site)) (sym c.if-opens.true)
    (gate_opened end head blocks (g.S.Site.files c.args.site.now) (g.S.Site.files c.write_synced.new.site) (written tells) at))
    c.write_synced.ensures.written

pub returns-then-opens-clause-moments : goal.returns-then-opens-clause-moments
returns-then-opens-clause-moments g c end head blocks tells at only =
    subst (λ (t : Bool). Steps (GatesCopy end.total end.tag t head blocks) (g.S.Site.clock c.args.site.now) (g.S.Site.clock c.write_synced.new.site)) (sym c.if-opens.true)
    (gate_moments end head blocks (g.S.Site.files c.args.site.now) _ _ at only c.write_synced.ensures.moments)

pub returns-then-opens-clause-durable : goal.returns-then-opens-clause-durable
returns-then-opens-clause-durable g c = on_ok_weaker c.write_synced.result (λ durable tells only. durable tells) c.write_synced.ensures.durable

pub returns-else-opens-clause-opened : goal.returns-else-opens-clause-opened
returns-else-opens-clause-opened g c end head blocks tells at = subst (λ (t : Bool). IsCopyAt end (gated t head) blocks (g.S.Site.files c.args.site.now)) (sym c.if-opens.false) at

pub returns-else-opens-clause-moments : goal.returns-else-opens-clause-moments
returns-else-opens-clause-moments g c end head blocks tells at only =
    subst (λ (t : Bool). Steps (GatesCopy end.total end.tag t head blocks) (g.S.Site.clock c.args.site.now) (g.S.Site.clock c.args.site.now)) (sym c.if-opens.false)
    (gate_none end head blocks (g.S.Site.files c.args.site.now) _ at only)
