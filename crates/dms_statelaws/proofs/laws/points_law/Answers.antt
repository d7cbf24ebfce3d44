use Rattle.dms_statelaws.proofs.Stands.{states_are_whole, points_stand, untouched_stays, states_are_rebuilt}
use Rattle.dms_statelaws.proofs.laws.points_law.Goals as goal

pub returns-clause-whole : goal.returns-clause-whole
returns-clause-whole c = states_are_whole

pub returns-clause-stand : goal.returns-clause-stand
returns-clause-stand c = points_stand

pub returns-clause-untouched : goal.returns-clause-untouched
returns-clause-untouched c = untouched_stays

pub returns-clause-rebuilt : goal.returns-clause-rebuilt
returns-clause-rebuilt c = states_are_rebuilt
