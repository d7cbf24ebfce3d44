use Rattle.std.proofs.Common.{sym, subst}
use Rattle.dms_opening.specs.Openings.{OpeningGrows}
use Rattle.dms_guard.specs.Guard.{StaysBeside}
use Rattle.dms_dumping.proofs.preparing.prepare_dump.Goals as goal

pub returns-in-Ok-clause-grows : goal.returns-in-Ok-clause-grows
returns-in-Ok-clause-grows g c = λ tells. subst (λ x. OpeningGrows g.S.Site c.args.site x) (sym c.bared.ensures.site) (c.in-Ok.ensures.grows tells)

pub returns-in-Ok-clause-beside : goal.returns-in-Ok-clause-beside
returns-in-Ok-clause-beside g c = subst (λ x. StaysBeside g.S.Site c.args.site x) (sym c.bared.ensures.site) c.in-Ok.ensures.beside
