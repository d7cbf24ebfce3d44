use Rattle.dms_spelling.specs.Few.{has_room}
use Rattle.dms_spelling.proofs.laws.room_law.Goals as goal

pub returns : goal.returns
returns c desc db own before set number served files = has_room desc served db own before files set number
