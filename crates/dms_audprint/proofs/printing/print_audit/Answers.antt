use Rattle.std.proofs.Common.{List, subst, sym}
use Rattle.dms_audfile.specs.AuditTrail.{IsFound}
use Rattle.dms_audfile.specs.declared.place.EntryPlace.{EntryPlace}
use Rattle.dms_audprint.proofs.Printed.{audit_printed, audit_found, audit_part, audit_refused, audit_silent, prints_same, prints_on}
use Rattle.dms_audprint.proofs.printing.print_audit.Goals as goal

pub returns-clause-printed : goal.returns-clause-printed
returns-clause-printed g c =
    audit_printed g.S.Site.tells g.S.Site.tells_said (g.S.Site.files c.args.site.now) (g.S.Site.files c.scan.new.site) c.in-Ok.scan.first c.as_slice.result.now (g.S.Site.said c.args.site.now) (g.S.Site.said c.scan.new.site) (g.S.Site.said c.print_places.new.site) c.print_places.result
    c.entries_stand_at_their_places.ensures (λ t. subst (λ (l : List EntryPlace). IsFound (g.S.Site.files c.args.site.now) c.in-Ok.scan.first l) (sym c.as_slice.ensures.value) (c.in-Ok.ensures.found t)) c.in-Ok.ensures.reads.files_stay c.in-Ok.ensures.reads.text_stays
    c.print_places.ensures.printed

pub returns-clause-found : goal.returns-clause-found
returns-clause-found g c =
    audit_found g.S.Site.tells g.S.Site.tells_said (g.S.Site.files c.args.site.now) (g.S.Site.files c.scan.new.site) c.in-Ok.scan.first c.as_slice.result.now (g.S.Site.said c.args.site.now) (g.S.Site.said c.scan.new.site) (g.S.Site.said c.print_places.new.site) c.print_places.result
    c.entries_stand_at_their_places.ensures (λ t. subst (λ (l : List EntryPlace). IsFound (g.S.Site.files c.args.site.now) c.in-Ok.scan.first l) (sym c.as_slice.ensures.value) (c.in-Ok.ensures.found t)) c.in-Ok.ensures.reads.files_stay c.in-Ok.ensures.reads.text_stays

pub returns-clause-part : goal.returns-clause-part
returns-clause-part g c =
    audit_part g.S.Site.tells g.S.Site.tells_said (g.S.Site.files c.args.site.now) (g.S.Site.files c.scan.new.site) c.in-Ok.scan.first c.as_slice.result.now (g.S.Site.said c.args.site.now) (g.S.Site.said c.scan.new.site) (g.S.Site.said c.print_places.new.site) c.print_places.result
    c.entries_stand_at_their_places.ensures (λ t. subst (λ (l : List EntryPlace). IsFound (g.S.Site.files c.args.site.now) c.in-Ok.scan.first l) (sym c.as_slice.ensures.value) (c.in-Ok.ensures.found t)) c.in-Ok.ensures.reads.files_stay c.in-Ok.ensures.reads.text_stays
    c.print_places.ensures.part

pub returns-clause-refused : goal.returns-clause-refused
returns-clause-refused g c =
    audit_refused g.S.Site.tells g.S.Site.tells_said (g.S.Site.files c.args.site.now) (g.S.Site.files c.scan.new.site) c.in-Ok.scan.first c.as_slice.result.now (g.S.Site.said c.args.site.now) (g.S.Site.said c.scan.new.site) (g.S.Site.said c.print_places.new.site) c.print_places.result
    c.entries_stand_at_their_places.ensures (λ t. subst (λ (l : List EntryPlace). IsFound (g.S.Site.files c.args.site.now) c.in-Ok.scan.first l) (sym c.as_slice.ensures.value) (c.in-Ok.ensures.found t)) c.in-Ok.ensures.reads.files_stay c.in-Ok.ensures.reads.text_stays
    c.print_places.ensures.there

pub returns-clause-silent : goal.returns-clause-silent
returns-clause-silent g c =
    audit_silent g.S.Site.tells g.S.Site.tells_said (g.S.Site.files c.args.site.now) (g.S.Site.files c.scan.new.site) c.in-Ok.scan.first c.as_slice.result.now (g.S.Site.said c.args.site.now) (g.S.Site.said c.scan.new.site) (g.S.Site.said c.print_places.new.site) c.print_places.result
    c.entries_stand_at_their_places.ensures (λ t. subst (λ (l : List EntryPlace). IsFound (g.S.Site.files c.args.site.now) c.in-Ok.scan.first l) (sym c.as_slice.ensures.value) (c.in-Ok.ensures.found t)) c.in-Ok.ensures.reads.files_stay c.in-Ok.ensures.reads.text_stays
    c.print_places.ensures.there

pub returns-clause-moments : goal.returns-clause-moments
returns-clause-moments g c = prints_on (prints_same _ _ c.in-Ok.ensures.reads.moments) c.print_places.ensures.moments

pub returns-in-Err-clause-moments : goal.returns-in-Err-clause-moments
returns-in-Err-clause-moments g c = prints_same _ _ c.in-Err.ensures.reads.moments
