-- An opening that finds no room in its audit.
use Rattle.std.proofs.Common.{ℕ, ◌+◌, ◌-◌, ◌<◌, ◌≡◌, inl, inr, sym, ◌∙◌, ap, subst, arith}
use Rattle.dms_site.specs.Files.{Files}
use Rattle.dms_audfile.specs.Reads.{Refuses}
use Rattle.dms_audfile.specs.declared.fault.AudFault.{AudFault}
use Rattle.dms_audfile.specs.declared.fault.AudFault.TheVariants as aud
use Rattle.dms_opening.specs.declared.choosing.OpenFault.{OpenFault}
use Rattle.dms_opening.specs.declared.choosing.OpenFault.TheVariants.{Audit}
use Rattle.dms_restore.specs.Logging.{LogView, Ends}
use Rattle.dms_wal.specs.Closing.{IsFullTrail}
use Rattle.dms_wal.proofs.Closed.{full_trail}
use Rattle.dms_history.specs.Judge.{no_such_point, audit_missing, voided}
use Rattle.dms_opening.specs.Asked.{Refused, at_point, dump_missing, dump_unsealed, dump_damaged, dump_foreign, audit_before, dump_later}
use Rattle.dms_opening.specs.Choices.{fault_of}
use Rattle.dms_opening.specs.Plans.{RefusesPlan}

audit_is : (e f : AudFault) → Audit e ≡ Audit f → e ≡ f
audit_is e f is = cc

-- scanning is never refused so
pub scan_has_room : (files : Files) (e : AudFault) (n : ℕ) → Refuses files e → Audit e ≡ Audit (aud.Full n) → ⊥
scan_has_room files e n refuses full = subst (λ (f : AudFault). Refuses files f) (audit_is e (aud.Full n) full) refuses

pub judged_has_room : (first n : ℕ) (r : Refused) → fault_of first r ≡ Audit (aud.Full n) → ⊥
judged_has_room first n (at_point m no_such_point) e = absurd cc
judged_has_room first n (at_point m audit_missing) e = absurd cc
judged_has_room first n (at_point m voided) e = absurd cc
judged_has_room first n (dump_missing d) e = absurd cc
judged_has_room first n (dump_unsealed d) e = absurd cc
judged_has_room first n (dump_damaged d) e = absurd cc
judged_has_room first n (dump_foreign d) e = absurd cc
judged_has_room first n audit_before e = absurd cc
judged_has_room first n (dump_later d p) e = absurd cc

-- nor is a plan
pub plan_has_room : (total first n : ℕ) (files : Files) (fault : OpenFault) → RefusesPlan total first files fault → fault ≡ Audit (aud.Full n) → ⊥
plan_has_room total first n files fault refuses full = elim refuses [
  | inl disk ↦ no_disk (sym disk ∙ full)
  | inr rest ↦ elim rest [
    | inl judged ↦ elim judged [
      | inl memory ↦ no_memory (sym memory ∙ full)
      | inr refused ↦ judged_has_room first n refused.refusal (sym refused.answered ∙ full)
    ]
    | inr none ↦ no_damage (sym none.0 ∙ full)
  ]
]
  where
    no_disk : Audit aud.Disk ≡ Audit (aud.Full n) → ⊥
    no_disk e = absurd cc

    no_memory : Audit aud.Memory ≡ Audit (aud.Full n) → ⊥
    no_memory e = absurd cc

    no_damage : Audit (aud.Damaged first 0) ≡ Audit (aud.Full n) → ⊥
    no_damage e = absurd cc

-- ---- where it finds none

pub as_limit : (limit : ℕ) (e : AudFault) → limit ≡ 9999 → Audit e ≡ Audit (aud.Full 9999) → e ≡ aud.Full limit
as_limit limit e is full = audit_is e (aud.Full 9999) full ∙ ap (λ n. aud.Full n) (sym is)

-- the trail ends behind the last file that may be written
pub full_by : (a b : LogView) (limit : ℕ) → limit ≡ 9999 → b.end.total ≡ a.end.total → b.first ≡ a.first → 10000 + limit < b.end.file → Ends b → IsFullTrail a b.files
full_by a b limit is total first beyond ends = full_trail a b total first (omega (arith, beyond, is)) ends
