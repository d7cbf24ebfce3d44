use Rattle.std.proofs.Common.{sym, subst}
use Rattle.dms_dump.specs.Judged.{DumpRead}
use Rattle.dms_restore.proofs.Results.{one_if_ok}
use Rattle.dms_history.specs.EntryEvents.{history_of}
use Rattle.dms_opening.specs.DumpLooks.{IsFoundAs}
use Rattle.dms_opening.proofs.DumpLooks.{none_begun, some_begun}
use Rattle.dms_opening.proofs.dump_looks.find_begun.Goals as goal

pub returns-in-None-clause-found : goal.returns-in-None-clause-found
returns-in-None-clause-found g c tells files entries t = none_begun (g.S.Site.files c.args.site.now) (history_of entries).pending c.pending_dump.result c.in-None.is (c.pending_dump.ensures files entries t)

pub returns-in-Some-clause-found : goal.returns-in-Some-clause-found
returns-in-Some-clause-found g c = one_if_ok c.find_dump.result c.find_dump.ensures.found (λ f found tells files entries t.
    subst (λ (r : DumpRead). IsFoundAs c.args.tag r f) (sym (some_begun (g.S.Site.files c.args.site.now) (history_of entries).pending c.pending_dump.result c.in-Some.dump c.in-Some.is (c.pending_dump.ensures files entries t))) (found tells))
