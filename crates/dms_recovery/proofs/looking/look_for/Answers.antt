use Rattle.std.proofs.Common.{inl, refl}
use Rattle.dms_restore.proofs.Results.{one_if_ok, two_if_ok, three_if_ok, one_if_err}
use Rattle.dms_opening.proofs.Looks.{same_on, tag_at, read_at, trail_as, start_as}
use Rattle.dms_opening.proofs.OneTrail.{start_on, trail_of}
use Rattle.dms_opening.proofs.Rooms.{scan_has_room}
use Rattle.dms_recovery.proofs.Looked.{all_as, all_refused, all_room}
use Rattle.dms_recovery.proofs.looking.look_for.Goals as goal

pub returns-in-Ok-clause-starts : goal.returns-in-Ok-clause-starts
returns-in-Ok-clause-starts g c = three_if_ok c.plan_scanned.result c.plan_scanned.ensures.kind c.plan_scanned.ensures.files c.plan_scanned.ensures.moments (λ p kind files moments tells.
    start_as _ _ _ _ _ _ kind.0 kind.1 (start_on _ _ _ _ _ _ (files tells) moments (c.in-Ok.ensures.starts tells)))

pub returns-in-Ok-clause-trail : goal.returns-in-Ok-clause-trail
returns-in-Ok-clause-trail g c = one_if_ok c.plan_scanned.result c.plan_scanned.ensures.kind (λ p kind tells.
    trail_as _ _ _ _ _ kind.0 kind.1 (trail_of _ _ _ _ _ _ (c.in-Ok.ensures.files tells) (c.in-Ok.ensures.found tells) (c.in-Ok.ensures.starts tells)))

pub returns-in-Ok-clause-plans : goal.returns-in-Ok-clause-plans
returns-in-Ok-clause-plans g c = two_if_ok c.plan_scanned.result c.plan_scanned.ensures.kind c.plan_scanned.ensures.plans (λ p kind plans tells.
    let s = c.in-Ok.ensures in
    all_as _ _ _ _ _ _ c.args.wanted c.args.rows.now _ _ kind.0 kind.1 (s.files tells) (plans tells (read_at _ _ _ _ _ _ _ (s.files tells) (s.found tells) (s.places tells) (s.stays tells) (tag_at _ _ _ _ (s.starts tells)))))

pub returns-in-Ok-clause-refused : goal.returns-in-Ok-clause-refused
returns-in-Ok-clause-refused g c = one_if_err c.plan_scanned.result c.plan_scanned.ensures.refused (λ e why tells.
    let s = c.in-Ok.ensures in
    all_refused _ _ _ _ c.args.wanted _ (s.files tells) (trail_of _ _ _ _ _ _ (s.files tells) (s.found tells) (s.starts tells)) (why tells (read_at _ _ _ _ _ _ _ (s.files tells) (s.found tells) (s.places tells) (s.stays tells) (tag_at _ _ _ _ (s.starts tells)))))

pub returns-in-Ok-clause-moments : goal.returns-in-Ok-clause-moments
returns-in-Ok-clause-moments g c = one_if_ok c.plan_scanned.result c.plan_scanned.ensures.moments (λ p steps. same_on _ _ _ c.in-Ok.ensures.moments steps)

pub returns-in-Ok-clause-moments_then : goal.returns-in-Ok-clause-moments_then
returns-in-Ok-clause-moments_then g c = one_if_err c.plan_scanned.result c.plan_scanned.ensures.moments_then (λ e steps. same_on _ _ _ c.in-Ok.ensures.moments steps)

pub returns-in-Err-clause-refused : goal.returns-in-Err-clause-refused
returns-in-Err-clause-refused g c tells = inl (_, refl, c.in-Err.ensures.refused tells)

pub returns-in-Ok-clause-room : goal.returns-in-Ok-clause-room
returns-in-Ok-clause-room g c = one_if_err c.plan_scanned.result c.plan_scanned.ensures.refused (λ e why tells full.
    let s = c.in-Ok.ensures in
    all_room _ _ _ _ _ (why tells (read_at _ _ _ _ _ _ _ (s.files tells) (s.found tells) (s.places tells) (s.stays tells) (tag_at _ _ _ _ (s.starts tells)))) full)

pub returns-in-Err-clause-room : goal.returns-in-Err-clause-room
returns-in-Err-clause-room g c tells full = scan_has_room (g.S.Site.files c.args.found.site) _ 9999 (c.in-Err.ensures.refused tells) full

pub returns-in-Ok-clause-same : goal.returns-in-Ok-clause-same
returns-in-Ok-clause-same g c = one_if_ok c.plan_scanned.result c.plan_scanned.ensures.same (λ p same. g.met.S.Site.same_then _ _ _ c.in-Ok.ensures.same same)
