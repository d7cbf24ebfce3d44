use Rattle.dms_plain.specs.Rows.{records_in}
use Rattle.dms_plain.proofs.Calls.{leaves}
use Rattle.dms_plain.proofs.store.PlainStoreStore.leave.Goals as goal

pub returns-clause-left : goal.returns-clause-left
returns-clause-left g c = λ may. (
  c.in_ok-leave.ensures.stood,
  leaves (records_in c.args.self.now.rows.items) c.args.self.now.manual.entries c.leave.new.self.entries c.args.subset c.args.owner c.args.number c.in_ok-leave.ensures.ok,
)
