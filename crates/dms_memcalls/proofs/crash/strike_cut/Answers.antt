use Rattle.std.proofs.Common.{inl, refl}
use Rattle.dms_memcalls.specs.Views.{view}
use Rattle.dms_memcalls.proofs.Struck.{changed_not}
use Rattle.dms_memcalls.proofs.crash.strike_cut.Goals as goal

pub returns-else-odd : goal.returns-else-odd
returns-else-odd c = changed_not (view c.args.left.now) c.args.file _ (λ l. inl refl)
