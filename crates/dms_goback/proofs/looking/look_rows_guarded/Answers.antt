use Rattle.std.proofs.Common.{◌∙◌}
use Rattle.dms_recovery.specs.Looked.{rows_in}
use Rattle.dms_recovery.specs.declared.wanted.Wanted.TheVariants.{Reconstruct}
use Rattle.dms_recovery.proofs.Named.{nothing_missed}
use Rattle.dms_goback.proofs.Mending.{complete_rows, counts_rows, full_rows, of_mending, refused_rows}
use Rattle.dms_goback.proofs.looking.look_rows_guarded.Goals as goal

pub returns-clause-looked : goal.returns-clause-looked
returns-clause-looked g c =
    let l = c.in-Ok.ensures.looked in
    record { looked = c.guarded-planned.ensures.looked (Reconstruct c.args.dump) (rows_in c.in-Ok.looked.list) c.args.site l.looked; names = l.names }

pub returns-clause-stays : goal.returns-clause-stays
returns-clause-stays g c = c.guarded-planned.ensures.stays c.args.site c.in-Ok.ensures.looked.looked.stays

pub returns-clause-clean : goal.returns-clause-clean
returns-clause-clean g c = (c.guarded-planned.ensures.clean ∙ c.in-Ok.ensures.looked.looked.clean, c.guarded-planned.ensures.fresh)

pub returns-clause-within : goal.returns-clause-within
returns-clause-within g c = λ tells s within.
    let p = c.in-Ok.looked.planned in
    let l = c.in-Ok.ensures.looked.looked in
    c.guarded-planned.ensures.within s (within p.log.end.total p.log.first (rows_in c.in-Ok.looked.list) p.before p.own (l.trail tells) (l.plans tells) c.in-Ok.ensures.named)

pub returns-in-Err-clause-refused : goal.returns-in-Err-clause-refused
returns-in-Err-clause-refused g c =
    refused_rows g.S.Site c.args.dump c.args.rows.now c.args.site c.in-Err.site c.in-Err.fault c.status_of_rows.result c.status_of_rows.ensures c.in-Err.ensures.refused (λ tells none. c.in-Err.ensures.stays_then.files tells) (λ tells none. c.in-Err.ensures.stays_then.moments)

pub returns-in-Err-clause-complete : goal.returns-in-Err-clause-complete
returns-in-Err-clause-complete g c =
    complete_rows g.S.Site c.args.dump c.args.rows.now c.args.site c.in-Err.site c.in-Err.fault c.status_of_rows.result c.status_of_rows.ensures
    (λ tells total first can. nothing_missed total first (g.S.Site.files c.args.site) c.args.dump c.args.rows.now c.in-Err.fault can (c.in-Err.ensures.refused tells))

pub returns-in-Err-clause-full : goal.returns-in-Err-clause-full
returns-in-Err-clause-full g c =
    full_rows g.S.Site c.args.dump c.args.rows.now c.args.site c.in-Err.site c.in-Err.fault c.status_of_rows.result c.status_of_rows.ensures c.in-Err.ensures.refused (λ tells full. absurd (c.in-Err.ensures.room tells full))

pub returns-in-Err-clause-statuses : goal.returns-in-Err-clause-statuses
returns-in-Err-clause-statuses g c = of_mending c.status_of_rows.result c.in-Err.fault c.status_of_rows.ensures

pub returns-in-Err-clause-disk : goal.returns-in-Err-clause-disk
returns-in-Err-clause-disk g c = counts_rows c.status_of_rows.result c.in-Err.fault _ _ c.status_of_rows.ensures c.in-Err.ensures.disk
