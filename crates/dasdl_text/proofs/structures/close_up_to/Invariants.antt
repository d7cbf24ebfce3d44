use Rattle.std.proofs.Common.{vec_len}
use Rattle.dasdl_text.proofs.structures.close_up_to.Given as goal

abbrev pub decreases-loop-innermost : goal.decreases-loop-innermost
decreases-loop-innermost l = vec_len l.open
