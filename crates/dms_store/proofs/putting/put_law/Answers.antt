use Rattle.dms_store.specs.PuttingLaws.{record_step}
use Rattle.dms_store.specs.PuttingOwners.{spell}
use Rattle.dms_store.proofs.putting.put_law.Goals as goal

pub returns-clause-stands : goal.returns-clause-stands
returns-clause-stands c desc db p x e d may puts = record_step desc may.served db x e d p.set p.number p.shape p.old p.rec may.spelt may.may may.was may.held puts.lists puts.change

pub returns-clause-spells : goal.returns-clause-spells
returns-clause-spells c desc db p x d may files = spell desc may.served db x p.set p.number p.shape p.old p.rec may.spelt may.may may.was d files
