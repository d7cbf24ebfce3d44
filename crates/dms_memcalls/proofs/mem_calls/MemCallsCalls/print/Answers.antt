use Rattle.std.proofs.Common.{rules}
use Rattle.dms_memcalls.proofs.Grown.{spoke, spoke_moments, spoke_done}
use Rattle.dms_memcalls.proofs.mem_calls.MemCallsCalls.print.Goals as goal

pub returns-in_err-keep-clause-some : goal.returns-in_err-keep-clause-some
returns-in_err-keep-clause-some c = spoke _ _ c.in-Ok.copy c.succeeds-done.result c.args.bytes.now (search rules) c.in_err-keep.ensures.grew

pub returns-in_err-keep-clause-moments : goal.returns-in_err-keep-clause-moments
returns-in_err-keep-clause-moments c = spoke_moments _ _ c.in-Ok.copy c.succeeds-done.result c.args.bytes.now (search rules) c.in_err-keep.ensures.grew

pub returns-clause-said : goal.returns-clause-said
returns-clause-said c = λ t. spoke_done _ _ c.in-Ok.copy c.succeeds-done.result c.args.bytes.now (search rules) c.in_ok-keep.ensures.kept.1 c.in_ok-keep.ensures.kept.0

pub returns-clause-some : goal.returns-clause-some
returns-clause-some c = spoke _ _ c.in-Ok.copy c.succeeds-done.result c.args.bytes.now (search rules) c.in_ok-keep.ensures.grew

pub returns-clause-moments : goal.returns-clause-moments
returns-clause-moments c = spoke_moments _ _ c.in-Ok.copy c.succeeds-done.result c.args.bytes.now (search rules) c.in_ok-keep.ensures.grew
