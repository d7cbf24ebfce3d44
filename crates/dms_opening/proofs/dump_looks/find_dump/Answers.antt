use Rattle.std.proofs.Common.{IsTrue, sym, subst, arith}
use Rattle.dms_restore.proofs.Results.{one_if_ok}
use Rattle.dms_dump.specs.Judged.{DumpRead}
use Rattle.dms_opening.specs.DumpLooks.{IsFoundAs}
use Rattle.dms_opening.proofs.DumpLooks.{counted_dump, found_says, fit_read, at_read}
use Rattle.dms_opening.proofs.dump_looks.find_dump.Goals as goal

pub returns-clause-found : goal.returns-clause-found
returns-clause-found g c =
    let at = at_read (g.S.Site.files c.args.site.now) c.args.dump (omega arith) (omega arith) in
    one_if_ok c.found_as.result (found_says (IsTrue g.S.Site.tells) c.args.tag c.args.dump _ c.read_dump-read.result c.found_as.result c.read_dump-read.ensures.found c.read_dump-read.ensures.refused c.found_as.ensures.found)
    (λ f found tells. subst (λ (r : DumpRead). IsFoundAs c.args.tag r f) (sym at) (found tells))

pub returns-clause-fit : goal.returns-clause-fit
returns-clause-fit g c = fit_read c.read_dump-read.result c.found_as.result c.read_dump-read.ensures.fit c.found_as.ensures.fit

pub returns-clause-disk : goal.returns-clause-disk
returns-clause-disk g c = counted_dump _ _ _ _ c.found_as.ensures.disk.0 c.found_as.ensures.disk.1 c.read_dump-read.ensures.disk
