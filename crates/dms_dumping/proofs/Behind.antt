-- An opening behind a look.
use Rattle.std.proofs.Common.{ℕ, ◌≡◌, inl, inr, IsTrue, sym, ap, subst}
use Rattle.dms_site.specs.declared.site.Site.{Ghosts}
use Rattle.dms_site.specs.Files.{Files}
use Rattle.dms_audfile.specs.Counting.{CountedAt}
use Rattle.dms_audfile.specs.declared.fault.AudFault.TheVariants as aud
use Rattle.dms_opening.specs.declared.choosing.OpenFault.{OpenFault}
use Rattle.dms_opening.specs.declared.choosing.OpenFault.TheVariants.{Audit}
use Rattle.dms_opening.specs.Openings.{IsNoRefusal, MayHaveWritten}
use Rattle.dms_opening.proofs.Complete.{refuses_none}
use Rattle.dms_opening.proofs.NoneShort.{whole_has_no_short}
use Rattle.dms_guard.specs.Faults.{open_status}
use Rattle.dms_dumping.specs.Filling.{FillsTrail}
use Rattle.dms_dumping.proofs.Fills.{fills_opening}
use Rattle.dms_status.specs.declared.status.Status.{Status}
use Rattle.dms_status.specs.declared.status.Status.TheVariants.{DiskFault}
use Rattle.dms_dumping.specs.declared.looking.DumpRefusal.{DumpRefusal}
use Rattle.dms_dumping.specs.declared.looking.DumpRefusal.TheVariants.{Open, Exists, Short}
use Rattle.dms_dumping.specs.Preparing.{NeverRefusesDump}
use Rattle.dms_dumping.specs.Refusing.{RefusesDump, refusal_status}
use Rattle.dms_dumping.specs.Statuses.{IsDumpRefusal}

module _ {S : Type 0} (g : Ghosts S) where
  pub full_refused : (old new : S) (refusal : DumpRefusal) (status : Status) (d : ℕ) → status ≡ refusal_status refusal → (IsTrue g.tells → RefusesDump d (g.files old) refusal) → (IsTrue g.tells → refusal ≡ Open (Audit (aud.Full 9999)) → ⊥) → FillsTrail g old new status
  full_refused old new (Open fault) status d is refused room = fills_opening g old new fault status is refused (λ tells full. absurd (room tells (ap Open full)))
  full_refused old new Exists status d is refused room = λ k at tells. absurd (cc)
  full_refused old new (Short f b) status d is refused room = λ k at tells. absurd (cc)

no_refusal : (fault : OpenFault) → IsNoRefusal fault → IsDumpRefusal (open_status fault) → ⊥
no_refusal fault (inl (inl disk)) is = subst (λ (f : OpenFault). IsDumpRefusal (open_status f)) disk is
no_refusal fault (inl (inr memory)) is = subst (λ (f : OpenFault). IsDumpRefusal (open_status f)) memory is
no_refusal fault (inr full) is = subst (λ (f : OpenFault). IsDumpRefusal (open_status f)) full is

-- nor is what may have written
pub written_unrefused : (fault : OpenFault) → MayHaveWritten fault → IsDumpRefusal (open_status fault) → ⊥
written_unrefused fault (inl disk) is = subst (λ (f : OpenFault). IsDumpRefusal (open_status f)) disk is
written_unrefused fault (inr full) is = subst (λ (f : OpenFault). IsDumpRefusal (open_status f)) full is

never : (d : ℕ) (files : Files) (refusal : DumpRefusal) → RefusesDump d files refusal → NeverRefusesDump d files (refusal_status refusal)
never d files (Open fault) r total first o shut is = no_refusal fault (refuses_none total first files fault o r) is
never d files Exists r total first o shut is = shut r.1
never d files (Short f b) r total first o shut is = whole_has_no_short total first files o.trail o.whole r.1.0 f b r.1.1.is

pub never_refused : (d : ℕ) (files : Files) (refusal : DumpRefusal) (status : Status) → status ≡ refusal_status refusal → RefusesDump d files refusal → NeverRefusesDump d files status
never_refused d files refusal status is r total first o shut at = never d files refusal r total first o shut (subst IsDumpRefusal is at)

pub counted_back : (s t : Status) (a b c : ℕ) → s ≡ t → b ≡ a → CountedAt (t ≡ DiskFault) b c → CountedAt (s ≡ DiskFault) a c
counted_back s t a b c is same counted = subst (λ (x : Status). CountedAt (x ≡ DiskFault) a c) (sym is) (subst (λ n. CountedAt (t ≡ DiskFault) n c) same counted)
