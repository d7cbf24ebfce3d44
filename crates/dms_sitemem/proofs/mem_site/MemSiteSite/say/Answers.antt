use Rattle.dms_sitemem.specs.Keeping.{IsSaying}
use Rattle.dms_sitemem.proofs.Keeps.{kept_call}
use Rattle.dms_sitemem.proofs.mem_site.MemSiteSite.say.Goals as goal

pub returns-clause-kept : goal.returns-clause-kept
returns-clause-kept c = kept_call (IsSaying c.args.bytes.now) _ _ c.say-kept.result c.of_say.result c.say-kept.ensures.kept c.of_say.ensures.done c.of_say.ensures.failed
