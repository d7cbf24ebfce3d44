use Rattle.std.proofs.Common.{◌∷◌, [], ◌++◌}
use Rattle.dms_remote.proofs.Gates.{ends_at, copy_ends, turns_sealed, turns_gated_at, counted_cause, cause_none, counted_on}
use Rattle.dms_remote.proofs.next_block.seal_gated.Goals as goal

pub returns-in-Ok-open_gate-clause-sealed : goal.returns-in-Ok-open_gate-clause-sealed
returns-in-Ok-open_gate-clause-sealed g c head blocks tells may =
    let block = c.args.block.now in
    let at = ends_at c.seal_copy.new.end head blocks block (g.S.Site.files c.seal_copy.new.site) (c.in-Ok.ensures.sealed head blocks tells may) in
    copy_ends c.seal_copy.new.end _ blocks block _ (c.in-Ok-open_gate.ensures.opened c.seal_copy.new.end head (blocks ++ block ∷ []) tells at)

pub returns-in-Ok-open_gate-clause-moments : goal.returns-in-Ok-open_gate-clause-moments
returns-in-Ok-open_gate-clause-moments g c head blocks tells may only =
    let block = c.args.block.now in
    let end = c.seal_copy.new.end in
    let at = ends_at end head blocks block (g.S.Site.files c.seal_copy.new.site) (c.in-Ok.ensures.sealed head blocks tells may) in
    turns_gated_at end c.args.log.end.total c.args.log.end.tag c.args.opens head blocks block c.seal_copy.ensures.kind.0 c.seal_copy.ensures.kind.1 (c.in-Ok.ensures.moments head blocks tells may only)
    (c.in-Ok-open_gate.ensures.moments end head (blocks ++ block ∷ []) tells at (c.in-Ok.ensures.durable tells))

pub returns-in-Err-open_gate-clause-stopped : goal.returns-in-Err-open_gate-clause-stopped
returns-in-Err-open_gate-clause-stopped g c head blocks tells may only =
    let block = c.args.block.now in
    let end = c.seal_copy.new.end in
    let at = ends_at end head blocks block (g.S.Site.files c.seal_copy.new.site) (c.in-Ok.ensures.sealed head blocks tells may) in
    turns_gated_at end c.args.log.end.total c.args.log.end.tag c.args.opens head blocks block c.seal_copy.ensures.kind.0 c.seal_copy.ensures.kind.1 (c.in-Ok.ensures.moments head blocks tells may only)
    (c.in-Err-open_gate.ensures.moments end head (blocks ++ block ∷ []) tells at (c.in-Ok.ensures.durable tells))

pub returns-in-Err-clause-stopped : goal.returns-in-Err-clause-stopped
returns-in-Err-clause-stopped g c head blocks tells may only =
    turns_sealed c.args.log.end.total c.args.log.end.tag c.args.opens head blocks c.args.block.now (c.in-Err.ensures.moments head blocks tells may only)

pub returns-in-Ok-open_gate-clause-durable : goal.returns-in-Ok-open_gate-clause-durable
returns-in-Ok-open_gate-clause-durable g c tells = c.in-Ok-open_gate.ensures.durable tells (c.in-Ok.ensures.durable tells)

pub returns-in-Ok-open_gate-clause-same : goal.returns-in-Ok-open_gate-clause-same
returns-in-Ok-open_gate-clause-same g c = g.met.S.Site.same_then _ _ _ c.seal_copy.ensures.same_site c.open_gate.ensures.same_site

pub returns-in-Err-open_gate-clause-same_then : goal.returns-in-Err-open_gate-clause-same_then
returns-in-Err-open_gate-clause-same_then g c = g.met.S.Site.same_then _ _ _ c.seal_copy.ensures.same_site c.open_gate.ensures.same_site

pub returns-in-Err-clause-disk : goal.returns-in-Err-clause-disk
returns-in-Err-clause-disk g c = counted_cause c.seal_copy.result _ _ _ c.in-Err.is c.seal_copy.ensures.faults

pub returns-in-Err-open_gate-clause-disk : goal.returns-in-Err-open_gate-clause-disk
returns-in-Err-open_gate-clause-disk g c =
    counted_on _ _ _ _ (cause_none c.seal_copy.result _ _ _ c.in-Ok.is c.seal_copy.ensures.faults) (counted_cause c.open_gate.result _ _ _ c.in-Err-open_gate.is c.open_gate.ensures.faults)
