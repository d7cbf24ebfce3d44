use Rattle.std.proofs.Common.{ℕ, ◌++◌, ◌∙◌, ap, List, arith}
use Rattle.dms_audfile.specs.Trail.{trail_from}
use Rattle.dms_remote.proofs.Copying.{one_block, leaves_copies, ends_copy}
use Rattle.dms_remote.proofs.sealing.seal_copy.Goals as goal

pub returns-in-Ok-clause-moments : goal.returns-in-Ok-clause-moments
returns-in-Ok-clause-moments g c head blocks tells may only =
    leaves_copies c.args.end.now head blocks c.args.block.now (g.S.Site.files c.args.site.now) _ _ c.requires.allowed c.requires.size may only
    (c.in-Ok.ensures.moments 10001 tells may.trail.writes (λ h from upto x now. ap (λ fs. fs h) (only x now)))

pub returns-in-Err-clause-moments : goal.returns-in-Err-clause-moments
returns-in-Err-clause-moments g c head blocks tells may only =
    leaves_copies c.args.end.now head blocks c.args.block.now (g.S.Site.files c.args.site.now) _ _ c.requires.allowed c.requires.size may only
    (c.in-Err.ensures.moments 10001 tells may.trail.writes (λ h from upto x now. ap (λ fs. fs h) (only x now)))

pub returns-in-Ok-clause-sealed : goal.returns-in-Ok-clause-sealed
returns-in-Ok-clause-sealed g c head blocks tells may =
    let end = c.args.end.now in
    let old = g.S.Site.files c.args.site.now in
    let e = c.in-Ok.ensures in
    ends_copy end c.put_blocks.new.self head blocks c.args.block.now old (g.S.Site.files c.put_blocks.new.site) c.requires.allowed may e.kind.0 e.place (e.writes 10001 tells may.trail.writes)
    (e.sealed 10001 10000 tells may.trail.writes (omega (arith, c.requires.allowed)) ∙ ap (λ (bs : List (List ℕ)). trail_from 10000 end.total 10001 old ++ bs) (one_block c.args.block.now c.requires.size))
    (e.before tells) (e.behind tells)
