-- What a restore leaves, in the words of its statement.
use Rattle.std.proofs.Common.{ℕ, ◌≡◌, ◌∙◌, inl, inr, IsTrue, Option, refl, sym, ap, subst}
use Rattle.dms_moments.specs.Moments.{Runs, Steps}
use Rattle.dms_moments.specs.MomentLaws.{runs_weaken}
use Rattle.dms_site.specs.declared.site.Site.{Ghosts}
use Rattle.dms_site.specs.Files.{Files, Left, Only, Same}
use Rattle.dms_audfile.specs.declared.fault.AudFault.TheVariants as aud
use Rattle.dms_running.specs.Standing.{IsWhole}
use Rattle.dms_running.specs.Telling.{Telling}
use Rattle.dms_restore.specs.Logging.{telling_of}
use Rattle.dms_opening.specs.declared.choosing.OpenFault.{OpenFault}
use Rattle.dms_opening.specs.declared.choosing.OpenFault.TheVariants.{Audit}
use Rattle.dms_opening.specs.Openings.{IsTrailFound, IsFullFault, HasFullTrail, MayHaveWritten, IsNoRefusal}
use Rattle.dms_opening.specs.Plans.{IsPlainFault, RefusesFor}
use Rattle.dms_opening.specs.declared.asked.Asked.{Asked}
use Rattle.dms_opening.proofs.Rooms.{scan_has_room, judged_has_room}
use Rattle.dms_recovery.specs.Leaving as left
use Rattle.dms_recovery.specs.Planned.{RefusesAll}
use Rattle.dms_recovery.specs.Refusing.{CanBeDone, RefusesWanted}
use Rattle.dms_recovery.specs.Wanting as wanting
use Rattle.dms_recovery.specs.declared.wanted.Wanted.{Wanted}
use Rattle.dms_guard.specs.Faults.{open_status}
use Rattle.dms_dumping.specs.Filling.{FillsTrail}
use Rattle.dms_dumping.proofs.Fills.{open_full, same_limit}
use Rattle.dms_guard.specs.Statuses.{IsRefusal}
use Rattle.dms_guard.proofs.Refused.{not_written, no_refusal}
use Rattle.dms_statelaws.specs.Stopping as law
use Rattle.dms_statelaws.specs.SiteLaws.{RollsSince, RollsEnd, RebuildsSince, RebuildsEnd}
use Rattle.dms_status.specs.declared.status.LimitKind.TheVariants.{AuditFile}
use Rattle.dms_status.specs.declared.status.Status.{Status}
use Rattle.dms_status.specs.declared.status.Status.TheVariants.{Limit}
use Rattle.dms_goback.specs.Restores.{IsRestoreRefused, NeverRefusesRestore}

-- ---- the points that are left

pub restores_to : (t : Telling) (files u : Files) (m : ℕ) (x : Left) → left.RestoresTo t files u m x → law.RestoresTo t files u m x
restores_to t files u m x (inl same) = inl (same, same.found)
restores_to t files u m x (inr h) = inr h

module _ {S : Type 0} (g : Ghosts S) (old new : S) where
  pub rolls_since : (m : ℕ) → ((total first : ℕ) → IsTrue g.tells → IsTrailFound total first (g.files old) → IsWhole (telling_of total first) (g.files old) → Runs (g.clock old) (g.clock new) (left.RollsTo (telling_of total first) (g.files old) m))
      → IsTrue g.tells → RollsSince g old new m
  rolls_since m run tells total first trail whole = run total first tells trail whole

  pub rolls_end : (m : ℕ) → ((total first : ℕ) → IsTrue g.tells → IsTrailFound total first (g.files old) → IsWhole (telling_of total first) (g.files old) → left.HoldsUpTo (telling_of total first) (g.files old) m (g.files new) × Only (g.files new) (g.clock new))
      → IsTrue g.tells → RollsEnd g old new m
  rolls_end m ends tells total first trail whole = ends total first tells trail whole

  pub rebuilds_since : (d : ℕ) (chosen : Option ℕ) → ((u : Files) (total first : ℕ) → IsTrue g.tells → IsTrailFound total first (g.files old) → left.IsRebuiltFrom total first (g.files old) u d
      → Runs (g.clock old) (g.clock new) (left.RestoresTo (telling_of total first) (g.files old) u (wanting.chosen_point total first (g.files old) chosen)))
      → IsTrue g.tells → RebuildsSince g old new d chosen
  rebuilds_since d chosen run tells u total first trail from =
      runs_weaken (run u total first tells trail from) (λ x p. restores_to (telling_of total first) (g.files old) u (wanting.chosen_point total first (g.files old) chosen) x p)

  pub rebuilds_end : (d : ℕ) (chosen : Option ℕ) → ((u : Files) (total first : ℕ) → IsTrue g.tells → IsTrailFound total first (g.files old) → left.IsRebuiltFrom total first (g.files old) u d
      → left.HoldsUpTo (telling_of total first) u (wanting.chosen_point total first (g.files old) chosen) (g.files new) × Only (g.files new) (g.clock new))
      → IsTrue g.tells → RebuildsEnd g old new d chosen
  rebuilds_end d chosen ends tells u total first trail from = ends u total first tells trail from

-- ---- why it is refused

no_disk : (n : ℕ) → Audit aud.Disk ≡ Audit (aud.Full n) → ⊥
no_disk n e = absurd cc

no_memory : (n : ℕ) → Audit aud.Memory ≡ Audit (aud.Full n) → ⊥
no_memory n e = absurd cc

no_damage : (first n : ℕ) → Audit (aud.Damaged first 0) ≡ Audit (aud.Full n) → ⊥
no_damage first n e = absurd cc

plain_room : (n : ℕ) (e : OpenFault) → IsPlainFault e → e ≡ Audit (aud.Full n) → ⊥
plain_room n e plain full = elim plain [ inl disk ↦ no_disk n (sym disk ∙ full) | inr memory ↦ no_memory n (sym memory ∙ full) ]

for_room : (total first n : ℕ) (files : Files) (asked : Asked) (e : OpenFault) → RefusesFor total first files asked e → e ≡ Audit (aud.Full n) → ⊥
for_room total first n files asked e why full = elim why [
  | inl disk ↦ no_disk n (sym disk ∙ full)
  | inr rest ↦ elim rest [
    | inl judged ↦ elim judged [
      | inl memory ↦ no_memory n (sym memory ∙ full)
      | inr refused ↦ judged_has_room first n refused.refusal (sym refused.answered ∙ full)
    ]
    | inr none ↦ no_damage first n (sym none.0 ∙ full)
  ]
]

all_room : (total first n : ℕ) (files : Files) (asked : Asked) (e : OpenFault) → RefusesAll total first files asked e → e ≡ Audit (aud.Full n) → ⊥
all_room total first n files asked e why full = elim why [
  | inl own ↦ for_room total first n files asked e own full
  | inr behind ↦ elim behind.1 [ inl plain ↦ plain_room n e plain full | inr none ↦ no_damage first n (sym none.0 ∙ full) ]
]

-- no refusal of files is a full audit, but that of file 9,999
is_last : (files : Files) (wanted : Wanted) (fault : OpenFault) (k : ℕ) → RefusesWanted files wanted fault → fault ≡ Audit (aud.Full k) → IsFullFault fault
is_last files wanted fault k (inl found) is = absurd (scan_has_room files found.0 k found.2 (sym found.1 ∙ is))
is_last files wanted fault k (inr (inl trail)) is = absurd (all_room trail.total trail.first k files (wanting.asked_for trail.total trail.first files wanted) fault trail.why is)
is_last files wanted fault k (inr (inr last)) is = last

module _ {S : Type 0} (g : Ghosts S) (wanted : Wanted) (old new : S) (fault : OpenFault) (status : Status) (is : status ≡ open_status fault) where
  pub full_restore : (IsTrue g.tells → RefusesWanted (g.files old) wanted fault) → (IsTrue g.tells → IsFullFault fault → HasFullTrail (g.files old) (g.files new)) → FillsTrail g old new status
  full_restore refused full k at tells =
      let named : fault ≡ Audit (aud.Full k) = open_full fault k (sym is ∙ at) in
      let last : fault ≡ Audit (aud.Full 9999) = is_last (g.files old) wanted fault k (refused tells) named in
      (same_limit k 9999 (sym named ∙ last), full tells last)

  pub refused_restore : (IsTrue g.tells → RefusesWanted (g.files old) wanted fault) → (IsTrue g.tells → (MayHaveWritten fault → ⊥) → g.files new ≡ g.files old) → (IsTrue g.tells → (MayHaveWritten fault → ⊥) → Steps Same (g.clock old) (g.clock new))
      → IsTrue g.tells → IsRestoreRefused g wanted old new status
  refused_restore why files moments tells refusal =
      let none : MayHaveWritten fault → ⊥ = not_written fault (subst IsRefusal is refusal) in
      record { fault = fault; is = is; why = why tells; files = files tells none; moments = moments tells none }

  pub complete_restore : (IsTrue g.tells → (total first : ℕ) → CanBeDone total first (g.files old) wanted → IsNoRefusal fault) → IsTrue g.tells → NeverRefusesRestore wanted (g.files old) status
  complete_restore complete tells total first can refusal = no_refusal fault (complete tells total first can) (subst IsRefusal is refusal)
