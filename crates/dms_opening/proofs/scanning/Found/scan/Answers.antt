use Rattle.std.proofs.Common.{sym, subst}
use Rattle.dms_site.specs.Files.{Files, Only}
use Rattle.dms_restore.proofs.Scans.{scan_places, traced_as, stays_as}
use Rattle.dms_opening.proofs.OneTrail.{start_found}
use Rattle.dms_opening.proofs.scanning.Found.scan.Goals as goal

pub returns-in-Ok-new-clause-places : goal.returns-in-Ok-new-clause-places
returns-in-Ok-new-clause-places g c tells =
    scan_places c.entries_stand_at_their_places.ensures c.what_is_found_are_the_entries.ensures _ _ _ _ _ _ _ _ _ (c.sync.ensures.files tells) c.in-Ok-new.ensures.kind.0 (c.in-Ok-scan_trail.ensures.found tells) (c.in-Ok-scan_trail.ensures.writes tells)

pub returns-in-Ok-new-clause-traced : goal.returns-in-Ok-new-clause-traced
returns-in-Ok-new-clause-traced g c tells = traced_as _ _ _ _ _ _ (c.sync.ensures.files tells) c.in-Ok-new.ensures.kind.0 (c.in-Ok-scan_trail.ensures.traced tells)

pub returns-in-Ok-new-clause-stays : goal.returns-in-Ok-new-clause-stays
returns-in-Ok-new-clause-stays g c tells = stays_as _ _ _ _ _ _ (c.sync.ensures.files tells) c.in-Ok-new.ensures.kind.0 (c.in-Ok-scan_trail.ensures.stays tells)

pub returns-in-Ok-new-clause-starts : goal.returns-in-Ok-new-clause-starts
returns-in-Ok-new-clause-starts g c tells =
    let scan = c.in-Ok-scan_trail.ensures in
    let new = c.in-Ok-new.ensures in
    start_found _ _ _ _ _ _ (g.S.Site.files c.sync.new.self) _ (g.S.Site.clock c.sync.new.self) _ new.kind.0 new.kind.1 new.place.0 new.place.1 new.place.2 scan.bounds.0 (scan.writes tells)
    (subst (λ (f : Files). Only f (g.S.Site.clock c.sync.new.self)) (sym (c.sync.ensures.files tells)) (c.in-Ok.ensures.durable tells)) (scan.reads.files_stay tells) scan.reads.moments
