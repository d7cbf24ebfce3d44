use Rattle.std.proofs.Common.{arith}
use Rattle.dms_sitemem.proofs.Kept.{calls_few}
use Rattle.dms_sitemem.proofs.journal.Journal.succeeds.Goals as goal

pub overflow_add-self : goal.overflow_add-self
overflow_add-self c =
    let events = c.args.self.now.events in
    omega (arith, c.args.self.now.made_same, calls_few events.items, events.ok.0, events.small)
