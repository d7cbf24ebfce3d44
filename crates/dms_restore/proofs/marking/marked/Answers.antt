use Rattle.dms_restore.proofs.marking.marked.Goals as goal

pub returns-clause-names : goal.returns-clause-names
returns-clause-names c files f b off = c.in_ok-mark_redo.ensures.names files f b (c.in_ok-mark_undo.ensures.stays f b off)
