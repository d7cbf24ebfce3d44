use Rattle.std.proofs.Common.{refl, sym, subst}
use Rattle.dms_moments.specs.Moments.{Steps}
use Rattle.dms_site.specs.Files.{Same}
use Rattle.dms_audfile.specs.declared.fault.AudFault.TheVariants as aud
use Rattle.dms_opening.specs.declared.choosing.OpenFault.TheVariants.{Audit}
use Rattle.dms_recovery.specs.declared.naming.ReconstructFault.TheVariants.{Open}
use Rattle.dms_recovery.specs.declared.rows.RowFault.TheVariants.{Memory}
use Rattle.dms_recovery.proofs.Named.{counted_open, fit_own, may_mend, memory_refuses, names_planned, row_counted, row_refused, row_room}
use Rattle.dms_recovery.proofs.naming.look_for_rows.Goals as goal

pub rows_described-requires-clause-few : goal.rows_described-requires-clause-few
rows_described-requires-clause-few g c = fit_own c.in-Ok.planned.before c.in-Ok.planned.own c.in-Ok.ensures.fit _ c.deref-2.ensures.value

pub returns-in-Err-clause-disk : goal.returns-in-Err-clause-disk
returns-in-Err-clause-disk g c = counted_open c.in-Err.fault _ _ _ refl c.in-Err.ensures.disk

pub returns-in-Err-rows_described-clause-refused : goal.returns-in-Err-rows_described-clause-refused
returns-in-Err-rows_described-clause-refused g c = λ tells.
    let p = c.in-Ok.planned in
    row_refused p.log.end.total p.log.first (g.S.Site.files c.args.found.site) c.args.dump c.args.named.now p.before p.own _ _ (c.in-Ok.ensures.trail tells) (c.in-Ok.ensures.plans tells) c.deref.ensures.value c.deref-2.ensures.value
    c.in-Err-rows_described.fault c.fault_of_row.result c.fault_of_row.ensures c.in-Err-rows_described.ensures.lacks

pub returns-in-Err-rows_described-clause-room : goal.returns-in-Err-rows_described-clause-room
returns-in-Err-rows_described-clause-room g c = λ tells. row_room c.in-Err-rows_described.fault c.fault_of_row.result c.fault_of_row.ensures

pub returns-in-Err-rows_described-clause-disk : goal.returns-in-Err-rows_described-clause-disk
returns-in-Err-rows_described-clause-disk g c =
    row_counted g.S.Site.disk_faults c.in-Err-rows_described.fault c.fault_of_row.result c.fault_of_row.ensures c.args.found.site c.in-Ok.planned.log.site c.site_of-site.result c.site_of-site.ensures c.in-Ok.ensures.clean

pub returns-in-Err-rows_described-clause-moments_then : goal.returns-in-Err-rows_described-clause-moments_then
returns-in-Err-rows_described-clause-moments_then g c = subst (λ s. Steps Same (g.S.Site.clock c.args.found.site) (g.S.Site.clock s)) (sym c.site_of-site.ensures) c.in-Ok.ensures.moments

pub returns-in-Err-rows_described-clause-same_then : goal.returns-in-Err-rows_described-clause-same_then
returns-in-Err-rows_described-clause-same_then g c = subst (λ s. g.S.Site.same_site c.args.found.site s) (sym c.site_of-site.ensures) c.in-Ok.ensures.same

pub returns-clause-refused : goal.returns-clause-refused
returns-clause-refused g c = λ tells. memory_refuses (g.S.Site.files c.args.found.site) c.args.dump

pub returns-clause-room : goal.returns-clause-room
returns-clause-room g c = λ tells. row_room Memory (Open (Audit aud.Memory)) refl

pub returns-clause-disk : goal.returns-clause-disk
returns-clause-disk g c = row_counted g.S.Site.disk_faults Memory (Open (Audit aud.Memory)) refl c.args.found.site c.in-Ok.planned.log.site c.site_of-site.result c.site_of-site.ensures c.in-Ok.ensures.clean

pub returns-clause-moments_then : goal.returns-clause-moments_then
returns-clause-moments_then g c = subst (λ s. Steps Same (g.S.Site.clock c.args.found.site) (g.S.Site.clock s)) (sym c.site_of-site.ensures) c.in-Ok.ensures.moments

pub returns-clause-same_then : goal.returns-clause-same_then
returns-clause-same_then g c = subst (λ s. g.S.Site.same_site c.args.found.site s) (sym c.site_of-site.ensures) c.in-Ok.ensures.same

pub returns-in-Ok-row_bytes-clause-rows : goal.returns-in-Ok-row_bytes-clause-rows
returns-in-Ok-row_bytes-clause-rows g c = c.in-Ok-rows_described.ensures.finds.rows_are.are

pub returns-in-Ok-row_bytes-clause-few : goal.returns-in-Ok-row_bytes-clause-few
returns-in-Ok-row_bytes-clause-few g c = c.in-Ok-rows_described.ensures.finds.rows_are.hundred

pub returns-in-Ok-row_bytes-clause-names : goal.returns-in-Ok-row_bytes-clause-names
returns-in-Ok-row_bytes-clause-names g c = λ tells.
    let p = c.in-Ok.planned in
    names_planned p.log.end.total p.log.first (g.S.Site.files c.args.found.site) c.args.dump c.args.named.now _ p.before p.own _ (c.in-Ok.ensures.trail tells) (c.in-Ok.ensures.plans tells) c.deref.ensures.value c.in-Ok-rows_described.ensures.finds

pub returns-in-Ok-row_bytes-clause-moments : goal.returns-in-Ok-row_bytes-clause-moments
returns-in-Ok-row_bytes-clause-moments g c = subst (λ s. Steps Same (g.S.Site.clock c.args.found.site) (g.S.Site.clock s)) (sym c.site_of-site.ensures) c.in-Ok.ensures.moments

pub returns-in-Ok-row_bytes-clause-same : goal.returns-in-Ok-row_bytes-clause-same
returns-in-Ok-row_bytes-clause-same g c = subst (λ s. g.S.Site.same_site c.args.found.site s) (sym c.site_of-site.ensures) c.in-Ok.ensures.same

pub returns-in-Ok-row_bytes-clause-may : goal.returns-in-Ok-row_bytes-clause-may
returns-in-Ok-row_bytes-clause-may g c = λ tells.
    let p = c.in-Ok.planned in
    may_mend p.log.end.total p.log.first (g.S.Site.files c.args.found.site) c.args.dump c.args.named.now p.before p.own _ _ (c.in-Ok.ensures.trail tells) (c.in-Ok.ensures.plans tells) c.deref.ensures.value c.deref-2.ensures.value c.in-Ok-rows_described.ensures.there
