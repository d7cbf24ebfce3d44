use Rattle.dms_desc_bytes.proofs.parts.+read_cond.Given as goal

abbrev pub decreases-read_cond : goal.decreases-read_cond
decreases-read_cond l = l.levels
