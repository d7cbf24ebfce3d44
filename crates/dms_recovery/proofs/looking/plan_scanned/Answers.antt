use Rattle.std.proofs.Common.{List, sym, subst}
use Rattle.dms_audfile.specs.declared.place.EntryPlace.{EntryPlace}
use Rattle.dms_opening.specs.Plans.{IsTaggedRead}
use Rattle.dms_recovery.proofs.Looked.{asked_is_for, plans_as_wanted, refused_as_wanted}
use Rattle.dms_recovery.proofs.looking.plan_scanned.Goals as goal

pub returns-in-Ok-clause-plans : goal.returns-in-Ok-clause-plans
returns-in-Ok-clause-plans g c tells read =
    let s = c.args.scanned in
    let files = g.S.Site.files s.log.site in
    let lent = subst (λ (l : List EntryPlace). IsTaggedRead s.log.end.total s.log.end.tag s.log.first files l s.trace) (sym c.deref.ensures.value) read in
    plans_as_wanted s.log.end.total s.log.first files c.asked_of-asked.result c.args.wanted c.args.rows.now _ _ (asked_is_for s.log.end.total s.log.first files s.places.items s.trace c.asked_of-asked.result c.args.wanted c.asked_of-asked.ensures read.read) (c.in-Ok.ensures.plans tells _ lent)

pub returns-clause-refused : goal.returns-clause-refused
returns-clause-refused g c tells read =
    let s = c.args.scanned in
    let files = g.S.Site.files s.log.site in
    let lent = subst (λ (l : List EntryPlace). IsTaggedRead s.log.end.total s.log.end.tag s.log.first files l s.trace) (sym c.deref.ensures.value) read in
    refused_as_wanted s.log.end.total s.log.first files c.asked_of-asked.result c.args.wanted _ (asked_is_for s.log.end.total s.log.first files s.places.items s.trace c.asked_of-asked.result c.args.wanted c.asked_of-asked.ensures read.read) (c.in-Err.ensures.refused tells _ lent)
