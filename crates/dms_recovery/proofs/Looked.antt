-- A trail that was scanned, and what is planned of it.
use Rattle.std.proofs.Common.{ℕ, ◌≡◌, inl, inr, List, Option, sym, ◌∙◌, subst}
use Rattle.dms_site.specs.Files.{Files}
use Rattle.dms_history.specs.History.{last_point}
use Rattle.dms_history.specs.Entries.{Entry}
use Rattle.dms_history.specs.EntryEvents.{history_of}
use Rattle.dms_history.specs.declared.event.Row.{Row}
use Rattle.dms_audfile.specs.TrailEntries.{trail_entries}
use Rattle.dms_audfile.specs.declared.audit_end.AuditEnd.{AuditEnd}
use Rattle.dms_audfile.specs.declared.fault.AudFault.TheVariants as aud
use Rattle.dms_audfile.specs.declared.place.EntryPlace.{EntryPlace}
use Rattle.dms_restore.specs.declared.trace.TrailTrace.{TrailTrace}
use Rattle.dms_restore.specs.Tracing.{IsTraced}
use Rattle.dms_opening.specs.declared.asked.Asked.{Asked}
use Rattle.dms_opening.specs.declared.choosing.OpenFault.{OpenFault}
use Rattle.dms_opening.specs.declared.choosing.OpenFault.TheVariants.{Audit}
use Rattle.dms_opening.specs.declared.plan.OpeningPlan.{OpeningPlan}
use Rattle.dms_opening.specs.Openings.{IsTrailFound, IsFullFault}
use Rattle.dms_opening.specs.Plans.{IsPlainFault, IsTrailRead, RefusesFor}
use Rattle.dms_opening.proofs.OpeningPlans.{read_now}
use Rattle.dms_opening.proofs.Rooms.{judged_has_room}
use Rattle.dms_recovery.specs.declared.wanted.Wanted.{Wanted}
use Rattle.dms_recovery.specs.Planned.{PlansAll, RefusesAll}
use Rattle.dms_recovery.specs.Refusing.{RefusesWanted}
use Rattle.dms_recovery.specs.Wanting.{asked_for, asked_with}

-- what is asked is that of the files
pub asked_is_for : (total first : ℕ) (files : Files) (places : List EntryPlace) (t : TrailTrace) (asked : Asked) (wanted : Wanted) → ((older : Files) (es : List Entry) → IsTraced older es t.history → asked ≡ asked_with (last_point (history_of es)) wanted)
    → IsTrailRead total first files places t → asked ≡ asked_for total first files wanted
asked_is_for total first files places t asked wanted is r = is files (trail_entries total first files) (read_now total first files places t r).history

pub plans_as_wanted : (total first : ℕ) (files : Files) (asked : Asked) (wanted : Wanted) (rows : List Row) (before : Option OpeningPlan) (own : OpeningPlan) → asked ≡ asked_for total first files wanted → PlansAll total first files asked rows before own
    → PlansAll total first files (asked_for total first files wanted) rows before own
plans_as_wanted total first files asked wanted rows before own is plans = subst (λ (a : Asked). PlansAll total first files a rows before own) is plans

pub refused_as_wanted : (total first : ℕ) (files : Files) (asked : Asked) (wanted : Wanted) (e : OpenFault) → asked ≡ asked_for total first files wanted → RefusesAll total first files asked e → RefusesAll total first files (asked_for total first files wanted) e
refused_as_wanted total first files asked wanted e is why = subst (λ (a : Asked). RefusesAll total first files a e) is why

-- by another name of the end of the trail
pub all_as : (end last : AuditEnd) (first then : ℕ) (a b : Files) (wanted : Wanted) (rows : List Row) (before : Option OpeningPlan) (own : OpeningPlan) → last ≡ end → then ≡ first → a ≡ b → PlansAll end.total first a (asked_for end.total first a wanted) rows before own
    → PlansAll last.total then b (asked_for last.total then b wanted) rows before own
all_as end last first then a b wanted rows before own one two three plans =
    subst (λ (e : AuditEnd). PlansAll e.total then b (asked_for e.total then b wanted) rows before own) (sym one)
    (subst (λ n. PlansAll end.total n b (asked_for end.total n b wanted) rows before own) (sym two)
    (subst (λ (f : Files). PlansAll end.total first f (asked_for end.total first f wanted) rows before own) three plans))

-- a trail was found, and what is wanted of it is refused
pub all_refused : (total first : ℕ) (files now : Files) (wanted : Wanted) (e : OpenFault) → now ≡ files → IsTrailFound total first files → RefusesAll total first now (asked_for total first now wanted) e → RefusesWanted files wanted e
all_refused total first files now wanted e same trail why =
    inr (inl (record { total = total; first = first; trail = trail; why = subst (λ (f : Files). RefusesAll total first f (asked_for total first f wanted) e) same why }))

no_disk : (n : ℕ) → Audit aud.Disk ≡ Audit (aud.Full n) → ⊥
no_disk n e = absurd cc

no_memory : (n : ℕ) → Audit aud.Memory ≡ Audit (aud.Full n) → ⊥
no_memory n e = absurd cc

no_damage : (first n : ℕ) → Audit (aud.Damaged first 0) ≡ Audit (aud.Full n) → ⊥
no_damage first n e = absurd cc

plain_room : (n : ℕ) (e : OpenFault) → IsPlainFault e → e ≡ Audit (aud.Full n) → ⊥
plain_room n e plain full = elim plain [ inl disk ↦ no_disk n (sym disk ∙ full) | inr memory ↦ no_memory n (sym memory ∙ full) ]

for_room : (total first n : ℕ) (files : Files) (asked : Asked) (e : OpenFault) → RefusesFor total first files asked e → e ≡ Audit (aud.Full n) → ⊥
for_room total first n files asked e why full = elim why [
  | inl disk ↦ no_disk n (sym disk ∙ full)
  | inr rest ↦ elim rest [
    | inl judged ↦ elim judged [
      | inl memory ↦ no_memory n (sym memory ∙ full)
      | inr refused ↦ judged_has_room first n refused.refusal (sym refused.answered ∙ full)
    ]
    | inr none ↦ no_damage first n (sym none.0 ∙ full)
  ]
]

-- a refusal is none of an audit without room
pub all_room : (total first : ℕ) (files : Files) (asked : Asked) (e : OpenFault) → RefusesAll total first files asked e → IsFullFault e → ⊥
all_room total first files asked e why full = elim why [
  | inl own ↦ for_room total first 9999 files asked e own full
  | inr behind ↦ elim behind.1 [ inl plain ↦ plain_room 9999 e plain full | inr none ↦ no_damage first 9999 (sym none.0 ∙ full) ]
]
