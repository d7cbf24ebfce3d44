use Rattle.dms_memcalls.specs.NameLaws.{leads_none, leads_here, leads_on}
use Rattle.std.proofs.Common.{sym}
use Rattle.dms_memcalls.proofs.disk.MemDisk.find.Goals as goal

pub loop-file-init : goal.loop-file-init
loop-file-init c = leads_none _ _

pub returns-then-has_name : goal.returns-then-has_name
returns-then-has_name c = sym (leads_here _ _ _ _ _ c.loop-file.invariant c.has_name.ensures c.if-has_name.true c.loop-file-test.true)

pub loop-file-preserved : goal.loop-file-preserved
loop-file-preserved c = leads_on _ _ _ _ c.loop-file.invariant c.has_name.ensures c.if-has_name.false
