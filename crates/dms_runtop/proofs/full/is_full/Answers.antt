use Rattle.dms_runtop.proofs.Gated.{full_by, read_gate}
use Rattle.dms_runtop.proofs.full.is_full.Goals as goal

pub returns-then-total-count-clause-full : goal.returns-then-total-count-clause-full
returns-then-total-count-clause-full g c = λ all tells.
    let file = g.S.Site.files c.args.site.now c.args.file in
    let read = c.in_ok-count.ensures.bytes tells in
    full_by c.args.total file (λ i low. read_gate c.args.total c.in_ok-count.count i file _ _ low c.if-total-count.true read.0 read.1 (c.are_open.ensures all i))
