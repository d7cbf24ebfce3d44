use Rattle.std.proofs.Common.{ap, rules}
use Rattle.dms_utility.proofs.Asked.{long_bad}
use Rattle.dms_utility.proofs.asking.statement_in.Goals as goal

pub returns-in-Err-Long-clause-bad : goal.returns-in-Err-Long-clause-bad
returns-in-Err-Long-clause-bad g c = λ p is all left. long_bad all p is (search rules)
