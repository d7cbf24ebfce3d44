use Rattle.dms_sitemem.specs.Keeping.{IsWrite}
use Rattle.dms_sitemem.proofs.Keeps.{kept_call}
use Rattle.dms_sitemem.proofs.mem_site.MemSiteSite.write_at.Goals as goal

pub returns-clause-kept : goal.returns-clause-kept
returns-clause-kept c = kept_call (IsWrite c.args.file c.args.at c.args.bytes.now) _ _ c.write-kept.result c.of_disk.result c.write-kept.ensures.kept c.of_disk.ensures.done c.of_disk.ensures.failed
