use Rattle.dms_manual.specs.Members.{first_at, last_at}
use Rattle.dms_manual.proofs.laws.members_by_entries.Goals as goal

pub returns-clause-first : goal.returns-clause-first
returns-clause-first c desc db path s o b is kind next small named records fits few = first_at desc db s o b kind next small named records fits few path is

pub returns-clause-last : goal.returns-clause-last
returns-clause-last c desc db path s o b is kind next small named records fits = last_at desc db s o b kind next small named records fits path is
