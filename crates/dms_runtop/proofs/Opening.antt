-- A run opens what its files hold, or does nothing.
use Rattle.std.proofs.Common.{◌≡◌, ◌∙◌, inl, inr, ◌⊎◌, refl, sym, subst}
use Rattle.dms_audfile.specs.declared.fault.AudFault.TheVariants as aud
use Rattle.dms_opening.specs.declared.choosing.OpenFault.TheVariants.{Audit}
use Rattle.dms_opening.specs.declared.whole.OpenRefusal.{OpenRefusal}
use Rattle.dms_opening.specs.declared.whole.OpenRefusal.TheVariants.{Fault}
use Rattle.dms_opening.specs.declared.opened.Opened.{Opened}
use Rattle.dms_opening.specs.Openings.{CanOpen, OpensAt}
use Rattle.dms_opening.specs.Whole.{CanOpenWhole, NoShortOf, RefusesWhole, StaysUnopenedWhole}
use Rattle.dms_site.specs.declared.site.Site.{Ghosts}
use Rattle.dms_moments.specs.Moments.{Steps}
use Rattle.dms_site.specs.Files.{Files, Same}
use Rattle.dms_status.specs.declared.status.Status.{Status}
use Rattle.dms_status.specs.declared.status.Status.TheVariants.{Memory}
use Rattle.dms_wal.specs.Marks.{IsDescription}
use Rattle.dms_runtop.specs.Command.{IsRefused, IsUnopened}
use Rattle.dms_guard.specs.Faults.{refusal_status}

pub opened_files : {S : Type 0} {files : Files} (o : Opened S) → OpensAt o.log.end.total o.log.first files o.point o.next o.schema.items o.counts.items → IsDescription o.schema.items → CanOpen files
opened_files o opens described = record { total = o.log.end.total; first = o.log.first; point = o.point; next = o.next; schema = o.schema.items; counts = o.counts.items; opens = opens; described = described }

module _ {S : Type 0} (g : Ghosts S) (old new : S) where
  -- an opening that was refused
  pub unopened : (refusal : OpenRefusal) (status : Status) → status ≡ refusal_status refusal → RefusesWhole (g.files old) refusal → CanOpenWhole (g.files old) ⊎ StaysUnopenedWhole g old new refusal → CanOpenWhole (g.files old) ⊎ IsUnopened g old new status
  unopened refusal status is why (inl can) = inl can
  unopened refusal status is why (inr stays) = inr (record { refusal = refusal; is = is; why = why; stays = stays })

  -- it ends with want of memory instead
  pub unopened_memory : (status : Status) → CanOpenWhole (g.files old) ⊎ IsUnopened g old new status → CanOpenWhole (g.files old) ⊎ IsUnopened g old new Memory
  unopened_memory status (inl can) = inl can
  unopened_memory status (inr u) = inr (record {
    refusal = Fault (Audit aud.Memory);
    is = refl;
    why = inl (aud.Memory, refl, tt);
    stays = record { files = u.stays.files; moments = u.stays.moments; room = λ is. absurd cc };
  })

-- a site that hands down its calls
pub opens_below : {S T : Type 0} {g : Ghosts S} (h : Ghosts T) {a b : S} (c d : T) → h.files c ≡ g.files a → h.files d ≡ g.files b → (Steps Same (g.clock a) (g.clock b) → Steps Same (h.clock c) (h.clock d)) → (status : Status)
    → CanOpenWhole (g.files a) ⊎ IsUnopened g a b status → CanOpenWhole (h.files c) ⊎ IsUnopened h c d status
opens_below h c d old new steps status (inl can) = inl (subst CanOpenWhole (sym old) can)
opens_below {g = g} h c d old new steps status (inr u) = inr (record {
  refusal = u.refusal;
  is = u.is;
  why = subst (λ (x : Files). RefusesWhole x u.refusal) (sym old) u.why;
  stays = record { files = new ∙ u.stays.files ∙ sym old; moments = steps u.stays.moments; room = u.stays.room };
})

pub short_below : {S T : Type 0} {g : Ghosts S} (h : Ghosts T) {a b : S} (c d : T) → h.files c ≡ g.files a → h.files d ≡ g.files b → (Steps Same (g.clock a) (g.clock b) → Steps Same (h.clock c) (h.clock d)) → (status : Status)
    → NoShortOf (g.files a) ⊎ IsRefused g a b status → NoShortOf (h.files c) ⊎ IsRefused h c d status
short_below h c d old new steps status (inl none) = inl (subst NoShortOf (sym old) none)
short_below {g = g} h c d old new steps status (inr r) = inr (record {
  refusal = r.refusal;
  is = r.is;
  why = subst (λ (x : Files). RefusesWhole x r.refusal) (sym old) r.why;
  files = new ∙ r.files ∙ sym old;
  moments = steps r.moments;
})
