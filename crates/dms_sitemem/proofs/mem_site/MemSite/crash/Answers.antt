use Rattle.std.proofs.Common.{inr, sym, subst}
use Rattle.dms_site.specs.Files.{Files}
use Rattle.dms_sitemem.specs.Events.{through}
use Rattle.dms_sitemem.specs.Replay.{Reaches, state_of}
use Rattle.dms_sitemem.specs.Honest.{picks_reach}
use Rattle.dms_sitemem.proofs.mem_site.MemSite.crash.Goals as goal

pub returns-clause-may_leave : goal.returns-clause-may_leave
returns-clause-may_leave c =
    let s = state_of (through c.args.call c.args.self.now.journal.events.items) in
    let left = c.in_ok-journal.ensures in (
      inr (subst (λ (l : Files). Reaches s.stable s.pending l) (sym left.files) (picks_reach c.args.pick s.stable s.pending)),
      left.said,
    )
