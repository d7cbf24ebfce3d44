use Rattle.std.proofs.Common.{rules}
use Rattle.dms_memcalls.proofs.Grown.{wrote_torn, wrote_moments, wrote_done}
use Rattle.dms_memcalls.proofs.mem_calls.MemCallsCalls.pwrite.Goals as goal

pub returns-in_err-keep_disk-clause-torn : goal.returns-in_err-keep_disk-clause-torn
returns-in_err-keep_disk-clause-torn c = wrote_torn _ _ c.args.handle.now.file c.args.at c.in-Ok.copy c.succeeds-done.result c.args.bytes.now (search rules) c.in_err-keep_disk.ensures.grew

pub returns-in_err-keep_disk-clause-moments : goal.returns-in_err-keep_disk-clause-moments
returns-in_err-keep_disk-clause-moments c = wrote_moments _ _ c.args.handle.now.file c.args.at c.in-Ok.copy c.succeeds-done.result c.args.bytes.now (search rules) c.in_err-keep_disk.ensures.grew

pub returns-clause-written : goal.returns-clause-written
returns-clause-written c = λ t some. wrote_done _ _ c.args.handle.now.file c.args.at c.in-Ok.copy c.succeeds-done.result c.args.bytes.now (search rules) c.in_ok-keep_disk.ensures.kept.1 c.in_ok-keep_disk.ensures.kept.0

pub returns-clause-torn : goal.returns-clause-torn
returns-clause-torn c = wrote_torn _ _ c.args.handle.now.file c.args.at c.in-Ok.copy c.succeeds-done.result c.args.bytes.now (search rules) c.in_ok-keep_disk.ensures.grew

pub returns-clause-moments : goal.returns-clause-moments
returns-clause-moments c = wrote_moments _ _ c.args.handle.now.file c.args.at c.in-Ok.copy c.succeeds-done.result c.args.bytes.now (search rules) c.in_ok-keep_disk.ensures.grew
