use Rattle.std.proofs.Common.{Bool, subst}
use Rattle.dms_remote.specs.Copy.{EndsCopy}
use Rattle.dms_remote.specs.Gate.{gated}
use Rattle.dms_remote.proofs.Gates.{turns_on, turns_settled, turn_by}
use Rattle.dms_remote.proofs.next_block.seal_next.Goals as goal

pub returns-in-Ok-seal_gated-clause-sealed : goal.returns-in-Ok-seal_gated-clause-sealed
returns-in-Ok-seal_gated-clause-sealed g c head blocks tells takes are =
    let block = c.args.block.now in
    subst (λ (t : Bool). EndsCopy c.in-Ok-seal_gated.log.end (gated t head) blocks block (g.S.Site.files c.in-Ok-seal_gated.log.site)) c.opens_gate.ensures
    (c.in-Ok-seal_gated.ensures.sealed head blocks tells (c.in-Ok.ensures.ready head blocks block tells takes are))

pub returns-in-Ok-seal_gated-clause-moments : goal.returns-in-Ok-seal_gated-clause-moments
returns-in-Ok-seal_gated-clause-moments g c head blocks tells takes are only =
    let block = c.args.block.now in
    let end = c.args.log.end in
    let then = c.in-Ok.log.end in
    turns_on end.total end.tag _ head blocks block (c.in-Ok.ensures.moments head blocks block tells takes only)
    (turn_by end then _ c.opens_gate.result head blocks block c.in-Ok.ensures.kind.0 c.opens_gate.ensures
    (c.in-Ok-seal_gated.ensures.moments head blocks tells (c.in-Ok.ensures.ready head blocks block tells takes are) (c.in-Ok.ensures.durable tells only)))

pub returns-in-Err-seal_gated-clause-stopped : goal.returns-in-Err-seal_gated-clause-stopped
returns-in-Err-seal_gated-clause-stopped g c head blocks tells takes are only =
    let block = c.args.block.now in
    let end = c.args.log.end in
    let then = c.in-Ok.log.end in
    turns_on end.total end.tag _ head blocks block (c.in-Ok.ensures.moments head blocks block tells takes only)
    (turn_by end then _ c.opens_gate.result head blocks block c.in-Ok.ensures.kind.0 c.opens_gate.ensures
    (c.in-Err-seal_gated.ensures.stopped head blocks tells (c.in-Ok.ensures.ready head blocks block tells takes are) (c.in-Ok.ensures.durable tells only)))

pub returns-in-Err-clause-stopped : goal.returns-in-Err-clause-stopped
returns-in-Err-clause-stopped g c head blocks tells takes are only =
    turns_settled c.args.log.end.total c.args.log.end.tag _ head blocks c.args.block.now (c.in-Err.ensures.stopped head blocks c.args.block.now tells takes only)

pub returns-in-Ok-seal_gated-clause-same : goal.returns-in-Ok-seal_gated-clause-same
returns-in-Ok-seal_gated-clause-same g c = g.met.S.Site.same_then _ _ _ c.in-Ok.ensures.same c.in-Ok-seal_gated.ensures.same

pub returns-in-Err-seal_gated-clause-same_then : goal.returns-in-Err-seal_gated-clause-same_then
returns-in-Err-seal_gated-clause-same_then g c = g.met.S.Site.same_then _ _ _ c.in-Ok.ensures.same c.in-Err-seal_gated.ensures.same_then
