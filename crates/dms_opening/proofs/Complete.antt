-- Files that hold a database are refused by nothing.
use Rattle.std.proofs.Common.{ℕ, ◌≡◌, inl, inr, List, refl, sym, subst}
use Rattle.dms_site.specs.Files.{Files}
use Rattle.dms_audfile.specs.Scanning as scan
use Rattle.dms_audfile.specs.AuditTrail.{TrailIs}
use Rattle.dms_audfile.specs.Reads.{Refuses}
use Rattle.dms_audfile.specs.declared.fault.AudFault.{AudFault}
use Rattle.dms_audfile.specs.declared.fault.AudFault.TheVariants as aud
use Rattle.dms_audfile.proofs.There.{is_one_trail}
use Rattle.dms_opening.specs.declared.choosing.OpenFault.{OpenFault}
use Rattle.dms_opening.specs.declared.choosing.OpenFault.TheVariants.{Audit}
use Rattle.dms_opening.specs.Openings.{RefusesFiles, IsOpenable, IsNoRefusal}
use Rattle.dms_opening.specs.Plans.{RefusesPlan}
use Rattle.dms_opening.proofs.Completed.{whole_is_opened}
use Rattle.dms_opening.proofs.OneTrail.{one_first, one_total}

-- a trail that was found isn't refused
pub scans : (files : Files) (ps : List scan.Placed) (e : AudFault) → TrailIs files (scan.found ps) → Refuses files e → IsNoRefusal (Audit e)
scans files ps aud.NoDatabase t r = absurd (apart (is_one_trail files _ _ r t))
  where
    apart : scan.no_database ≡ scan.found ps → ⊥
    apart e = absurd cc
scans files ps aud.Disk t r = inl (inl refl)
scans files ps (aud.Full k) t r = absurd r
scans files ps (aud.Missing k) t r = absurd (apart (is_one_trail files _ _ r t))
  where
    apart : scan.missing k ≡ scan.found ps → ⊥
    apart e = absurd cc
scans files ps (aud.Unsealed k) t r = absurd (apart (is_one_trail files _ _ r t))
  where
    apart : scan.unsealed k ≡ scan.found ps → ⊥
    apart e = absurd cc
scans files ps (aud.Damaged f b) t r = absurd (apart (is_one_trail files _ _ r t))
  where
    apart : scan.damaged f b ≡ scan.found ps → ⊥
    apart e = absurd cc
scans files ps (aud.Foreign k) t r = absurd (apart (is_one_trail files _ _ r t))
  where
    apart : scan.foreign k ≡ scan.found ps → ⊥
    apart e = absurd cc
scans files ps aud.Memory t r = inl (inr refl)

pub refuses_none : (total first : ℕ) (files : Files) (fault : OpenFault) → IsOpenable total first files → RefusesFiles files fault → IsNoRefusal fault
refuses_none total first files fault o (inl (e, is, r)) = subst IsNoRefusal (sym is) (scans files o.trail.found.entries e o.trail.found.trail r)
refuses_none total first files fault o (inr (inl r)) =
    inl (whole_is_opened total first files fault o.whole o.described
    (subst (λ n. RefusesPlan n first files fault) (one_total r.total r.first total first files r.trail o.trail) (subst (λ n. RefusesPlan r.total n files fault) (one_first r.total r.first total first files r.trail o.trail) r.why)))
refuses_none total first files fault o (inr (inr full)) = inr full
