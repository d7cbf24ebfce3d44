use Rattle.dms_top.proofs.compile_run.create.Goals as goal

pub returns-clause-unsealed : goal.returns-clause-unsealed
returns-clause-unsealed g c = λ spoken tells. (rw c.in-Ok-None.field-0-is at c.in-Ok-None.ensures.found) tells

pub returns-clause-kept : goal.returns-clause-kept
returns-clause-kept g c = λ tells d sealed. absurd ((rw c.in-Ok-None.field-0-is at c.in-Ok-None.ensures.found) tells d sealed)
