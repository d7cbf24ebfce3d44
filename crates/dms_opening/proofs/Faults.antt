-- Faults of an opening.
use Rattle.std.proofs.Common.{ℕ, ◌≡◌, ◌⊎◌, inl, inr}
use Rattle.dms_audfile.specs.declared.fault.AudFault.{AudFault}
use Rattle.dms_audfile.specs.declared.fault.AudFault.TheVariants.{Disk, Full, Memory}
use Rattle.dms_opening.specs.declared.choosing.OpenFault.TheVariants.{Audit}
use Rattle.dms_opening.specs.Plans.{IsPlainFault}

pub plain_audit : (fault : AudFault) → (fault ≡ Disk) ⊎ (fault ≡ Memory) → IsPlainFault (Audit fault)
plain_audit fault is = elim is [ inl disk ↦ inl (λ i. Audit (disk i)) | inr memory ↦ inr (λ i. Audit (memory i)) ]

pub disk_no_full : {k : ℕ} {e : AudFault} → e ≡ Disk → e ≡ Full k → ⊥
disk_no_full one two = absurd cc
