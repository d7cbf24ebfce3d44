-- What a run takes of its input, where its status isn't of the input.
use Rattle.std.proofs.Common.{◌≡◌, ◌∙◌, ℕ, inl, inr, refl, sym}
use Rattle.dms_audfile.specs.Counting.{not_counted}
use Rattle.dms_opening.specs.declared.choosing.OpenFault.{OpenFault}
use Rattle.dms_site.specs.declared.source.Source as source
use Rattle.dms_status.specs.declared.status.LimitKind.TheVariants.{AuditFile}
use Rattle.dms_status.specs.declared.status.Status.{Status}
use Rattle.dms_status.specs.declared.status.Status.TheVariants.{DiskFault, InputFault, Limit, Memory, Ok}
use Rattle.dms_guard.specs.Faults.{damaged_status, open_status}
use Rattle.dms_runtop.specs.Full.{IsOfFull}
use Rattle.dms_runtop.specs.Inputs.{TakesInput}
use Rattle.dms_runtop.proofs.Endings.{IsUndone, undone_input, undone_ok}
use Rattle.dms_runtop.proofs.Inputs.{blames_full, blames_opening, blames_short, blames_undone}
use Rattle.dms_guard.proofs.Refused.{open_input, open_ok, short_not}

full_not_ok : (k : ℕ) (s : Status) → IsOfFull k s → s ≡ Ok → ⊥
full_not_ok k s (inl full) is = limit_not_ok (sym full ∙ is)
  where
    limit_not_ok : Limit (AuditFile k) ≡ Ok → ⊥
    limit_not_ok e = absurd cc
full_not_ok k s (inr (inl disk)) is = disk_not_ok (sym disk ∙ is)
  where
    disk_not_ok : DiskFault ≡ Ok → ⊥
    disk_not_ok e = absurd cc
full_not_ok k s (inr (inr memory)) is = memory_not_ok (sym memory ∙ is)
  where
    memory_not_ok : Memory ≡ Ok → ⊥
    memory_not_ok e = absurd cc

full_not_input : (k : ℕ) (s : Status) → IsOfFull k s → s ≡ InputFault → ⊥
full_not_input k s (inl full) is = limit_not_input (sym full ∙ is)
  where
    limit_not_input : Limit (AuditFile k) ≡ InputFault → ⊥
    limit_not_input e = absurd cc
full_not_input k s (inr (inl disk)) is = disk_not_input (sym disk ∙ is)
  where
    disk_not_input : DiskFault ≡ InputFault → ⊥
    disk_not_input e = absurd cc
full_not_input k s (inr (inr memory)) is = memory_not_input (sym memory ∙ is)
  where
    memory_not_input : Memory ≡ InputFault → ⊥
    memory_not_input e = absurd cc

module _ {I : Type 0} (i : source.Ghosts I) where
  -- nothing was taken
  pub takes_none : ((x : I) → i.same_source x x) → (from : I) (status : Status) → IsUndone status → TakesInput i from from status
  takes_none again from status undone = record {
    end = λ ok. absurd (undone_ok status undone ok);
    blames = blames_undone status undone;
    faults = not_counted _ _ _ (undone_input status undone) refl;
    same = again from;
  }

  -- the database wasn't opened
  pub takes_unopened : ((x : I) → i.same_source x x) → (from : I) (fault : OpenFault) (status : Status) → status ≡ open_status fault → TakesInput i from from status
  takes_unopened again from fault status is = record {
    end = λ ok. absurd (open_ok fault (sym is ∙ ok));
    blames = blames_opening fault status is;
    faults = not_counted _ _ _ (λ input. open_input fault (sym is ∙ input)) refl;
    same = again from;
  }

  -- a block isn't there
  pub takes_short : ((x : I) → i.same_source x x) → (from : I) (f b : ℕ) (status : Status) → status ≡ damaged_status f b → TakesInput i from from status
  takes_short again from f b status is = record {
    end = λ ok. absurd (short_not f b Ok (λ e. absurd cc) (λ e. absurd cc) (sym is ∙ ok));
    blames = blames_short f b status is;
    faults = not_counted _ _ _ (λ input. short_not f b InputFault (λ e. absurd cc) (λ e. absurd cc) (sym is ∙ input)) refl;
    same = again from;
  }

  -- the run ended with another status, and no call took anything since
  pub takes_full : (from to : I) (k : ℕ) (status then : Status) → status ≡ Limit (AuditFile k) → IsOfFull k then → TakesInput i from to status → TakesInput i from to then
  takes_full from to k status then is of takes = record {
    end = λ ok. absurd (full_not_ok k then of ok);
    blames = blames_full k then of;
    faults = not_counted _ _ _ (full_not_input k then of) (takes.faults.clean (λ input. limit_not_input (sym is ∙ input)));
    same = takes.same;
  }
    where
      limit_not_input : Limit (AuditFile k) ≡ InputFault → ⊥
      limit_not_input e = absurd cc

  pub takes_refused : (from to : I) (status : Status) → status ≡ DiskFault → TakesInput i from to status → TakesInput i from to Memory
  takes_refused from to status is takes = record {
    end = λ ok. absurd cc;
    blames = blames_undone Memory tt;
    faults = not_counted _ _ _ memory_not_input (takes.faults.clean (λ input. disk_not_input (sym is ∙ input)));
    same = takes.same;
  }
    where
      disk_not_input : DiskFault ≡ InputFault → ⊥
      disk_not_input e = absurd cc

      memory_not_input : Memory ≡ InputFault → ⊥
      memory_not_input e = absurd cc
