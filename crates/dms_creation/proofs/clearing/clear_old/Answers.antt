use Rattle.std.proofs.Common.{inl, inr, arith}
use Rattle.dms_creation.proofs.Cleared.{keeps_then, keeps_out}
use Rattle.dms_creation.proofs.clearing.clear_old.Goals as goal

pub returns-in_err-clear_range-clause-moments : goal.returns-in_err-clear_range-clause-moments
returns-in_err-clear_range-clause-moments g c = keeps_out 10001 20000 (omega arith) (omega arith) (inl (omega arith)) c.clear_range.ensures.moments

pub returns-in_err-clear_range-2-clause-moments : goal.returns-in_err-clear_range-2-clause-moments
returns-in_err-clear_range-2-clause-moments g c =
    keeps_then (keeps_out 10001 20000 (omega arith) (omega arith) (inl (omega arith)) c.clear_range.ensures.moments)
    (keeps_out 20001 29999 (omega arith) (omega arith) (inl (omega arith)) c.clear_range-2.ensures.moments)

pub returns-clause-moments : goal.returns-clause-moments
returns-clause-moments g c =
    keeps_then (keeps_then (keeps_out 10001 20000 (omega arith) (omega arith) (inl (omega arith)) c.clear_range.ensures.moments)
    (keeps_out 20001 29999 (omega arith) (omega arith) (inl (omega arith)) c.clear_range-2.ensures.moments))
    (keeps_out 30001 30200 (omega arith) (omega arith) (inr (omega arith)) c.clear_range-3.ensures.moments)
