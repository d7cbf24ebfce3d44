use Rattle.std.proofs.Common.{ap, sym, ◌∙◌}
use Rattle.dms_audrec.specs.Reading.{entry_at}
use Rattle.dms_audrec.specs.EntryLaws.{entry_again, some_same}
use Rattle.dms_audrec.proofs.laws.spellings_are_apart.Goals as goal

pub returns : goal.returns
returns c e f more rest e-is f-is same = some_same (e, more) (f, rest) (sym (entry_again e more e-is) ∙ ap entry_at same ∙ entry_again f rest f-is)
