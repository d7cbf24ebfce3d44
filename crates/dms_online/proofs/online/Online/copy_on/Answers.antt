use Rattle.std.specs.Prelude.{IfSome}
use Rattle.std.proofs.Common.{IsTrue, Option, subst}
use Rattle.std.proofs.lemmas.Result.{on_ok_weaker}
use Rattle.dms_block.specs.Held.{HasNextNumber}
use Rattle.dms_online.specs.declared.plan.Copying.{Copying}
use Rattle.dms_online.specs.Going.{IsQuiet}
use Rattle.dms_wal.specs.Database.{running_held}
use Rattle.dms_online.specs.OnlineLaws.{dump_again}
use Rattle.dms_online.specs.contracts.dump_site.DumpSiteSite as contracts
use Rattle.dms_online.proofs.Besides.{beside_none}
use Rattle.dms_online.proofs.online.Online.copy_on.Goals as goal

pub returns-in-None-clause-beside : goal.returns-in-None-clause-beside
returns-in-None-clause-beside g c = beside_none (contracts.TheImpl.ghosts g.row.S g.S.Site g.S.Site-dict) tt c.args.self.now.running c.requires.sound

pub returns-in-None-clause-dump : goal.returns-in-None-clause-dump
returns-in-None-clause-dump g c = dump_again g.S.Site g.met.S.Site.same_again c.args.self.now.running.log.site

pub returns-in-Some-clause-copied : goal.returns-in-Some-clause-copied
returns-in-Some-clause-copied g c =
    let d = contracts.TheImpl.ghosts g.row.S g.S.Site g.S.Site-dict in
    let a = c.args.self.now.running in
    on_ok_weaker c.copy_until.result (λ copied quiet. copied
    (subst (λ (o : Option Copying). IfSome o (λ (k : Copying). IsTrue g.S.Site.tells → HasNextNumber (running_held d a) → IsQuiet (running_held d a) k.point)) c.in-Some.is quiet)) c.copy_until.ensures.copied
