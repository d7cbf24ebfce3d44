use Rattle.dms_layout.specs.ReadLaws.{used_fits, free_is, free_again, bad_is}
use Rattle.dms_layout.proofs.laws.reading_law.Goals as goal

pub returns-clause-used : goal.returns-clause-used
returns-clause-used c = used_fits

pub returns-clause-free : goal.returns-clause-free
returns-clause-free c = free_is

pub returns-clause-free_again : goal.returns-clause-free_again
returns-clause-free_again c = free_again

pub returns-clause-bad : goal.returns-clause-bad
returns-clause-bad c = bad_is
