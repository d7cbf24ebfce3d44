-- What a reconstruction of rows leaves, in the words of its statement.
use Rattle.std.proofs.Common.{ℕ, ◌≡◌, ◌⊎◌, ◌∙◌, inl, inr, Bool, IsTrue, List, Some, refl, sym, ap, subst}
use Rattle.dms_moments.specs.Moments.{Runs, Steps}
use Rattle.dms_moments.specs.MomentLaws.{runs_weaken}
use Rattle.dms_site.specs.declared.site.Site.{Ghosts}
use Rattle.dms_site.specs.Files.{Files, Left, Only, Same}
use Rattle.dms_desc.specs.Shape.{Described}
use Rattle.dms_audfile.specs.Counting.{CountedAt, not_counted}
use Rattle.dms_audfile.specs.declared.fault.AudFault.TheVariants as aud
use Rattle.dms_opening.specs.declared.choosing.OpenFault.{OpenFault}
use Rattle.dms_opening.specs.declared.choosing.OpenFault.TheVariants.{Audit}
use Rattle.dms_opening.specs.Openings.{HasFullTrail, IsFullFault, IsNoRefusal, IsTrailFound, MayHaveWritten}
use Rattle.dms_running.specs.Telling.{Telling}
use Rattle.dms_restore.specs.Logging.{telling_of}
use Rattle.dms_statements.specs.declared.statement.NamedRow.{NamedRow}
use Rattle.dms_recovery.specs.Leaving as left
use Rattle.dms_recovery.specs.Reconstructing.{CanReconstruct, IsOpenFault, MayMend, MayReconstruct, RefusesReconstruct}
use Rattle.dms_recovery.specs.Rows.{named_blocks}
use Rattle.dms_recovery.specs.Wanting.{last_of}
use Rattle.dms_recovery.specs.declared.naming.ReconstructFault.{ReconstructFault}
use Rattle.dms_recovery.specs.declared.naming.ReconstructFault.TheVariants.{Open, NoSuchRow}
use Rattle.dms_recovery.specs.declared.wanted.Wanted.TheVariants.{Reconstruct}
use Rattle.dms_recovery.specs.Refusing.{RecoveryGrows, StaysUndone}
use Rattle.dms_guard.specs.Faults.{open_status}
use Rattle.dms_dumping.specs.Filling.{FillsTrail}
use Rattle.dms_guard.specs.Statuses.{IsRefusal}
use Rattle.dms_guard.proofs.Refused.{counts_open, no_refusal, not_written}
use Rattle.dms_statelaws.specs.Stopping as law
use Rattle.dms_statelaws.specs.SiteLaws.{MendsFrom, MendsSince, MendsEnd, SameFiles}
use Rattle.dms_statelaws.proofs.Statements.{reconstruct_law}
use Rattle.dms_status.specs.declared.status.LimitKind.{LimitKind}
use Rattle.dms_status.specs.declared.status.NeedFault.{NeedFault}
use Rattle.dms_status.specs.declared.status.Status.{Status}
use Rattle.dms_status.specs.declared.status.Status.TheVariants.{DiskFault, Limit, Needed, SayFault}
use Rattle.dms_dumping.specs.Statuses.{IsOfReading}
use Rattle.dms_status.specs.Saying.{IsSpoken, SaysLine}
use Rattle.dms_goback.specs.ReconstructDoes.{AreRowsRefused, IsNoRow, IsOfMending, IsOfReconstruct, NeverRefusesRows, ReconstructDoes, reconstruct_status, reconstructed_text}
use Rattle.dms_goback.specs.Restores.{IsOfRestored, StaysFor}
use Rattle.dms_goback.proofs.Backs.{beside_behind, trail_behind, undone}
use Rattle.dms_goback.proofs.Restored.{full_restore, restores_to}
use Rattle.dms_goback.proofs.RestoreStatuses.{counted_stopped, not_made, of_restoring, restore_unread, restored_no_refusal, restored_of, restored_room, said_back, says_nothing, stopped_of}

-- ---- the points that are left

may_reconstruct : (files u : Files) (d : ℕ) (rows : List NamedRow) (total first n : ℕ) (desc : Described) → MendsFrom files u d rows total first n desc → MayReconstruct total first files u d rows n desc
may_reconstruct files u d rows total first n desc m = record { trail = m.trail; last = m.last; described = m.described; mended = m.mended }

mends_to : (t : Telling) (files u : Files) (named : ℕ → ℕ → Bool) (m : ℕ) (x : Left) → left.MendsTo t files u named m x → law.MendsTo t files u named m x
mends_to t files u named m x (inl r) = inl (restores_to t files u m x r)
mends_to t files u named m x (inr h) = inr h

module _ {S : Type 0} (g : Ghosts S) (old new : S) (d : ℕ) (rows : List NamedRow) where
  pub mends_since : ((u : Files) (total first n : ℕ) (desc : Described) → IsTrue g.tells → MayReconstruct total first (g.files old) u d rows n desc
      → Runs (g.clock old) (g.clock new) (left.MendsTo (telling_of total first) (g.files old) u (named_blocks desc.structures rows) n))
      → IsTrue g.tells → MendsSince g old new d rows
  mends_since run tells u total first n desc from =
      runs_weaken (run u total first n desc tells (may_reconstruct (g.files old) u d rows total first n desc from))
      (λ x p. mends_to (telling_of total first) (g.files old) u (named_blocks desc.structures rows) n x p)

  pub mends_end : ((u : Files) (total first n : ℕ) (desc : Described) → IsTrue g.tells → MayReconstruct total first (g.files old) u d rows n desc
      → left.HoldsUpTo (telling_of total first) u n (g.files new) × Only (g.files new) (g.clock new))
      → IsTrue g.tells → MendsEnd g old new d rows
  mends_end ends tells u total first n desc from = ends u total first n desc tells (may_reconstruct (g.files old) u d rows total first n desc from)

-- ---- of a fault

no_limit : (need : NeedFault) (kind : LimitKind) → Needed need ≡ Limit kind → ⊥
no_limit need kind e = absurd cc

no_disk : (need : NeedFault) → Needed need ≡ DiskFault → ⊥
no_disk need e = absurd cc

no_say : (need : NeedFault) → Needed need ≡ SayFault → ⊥
no_say need e = absurd cc

no_open : (r : NamedRow) (e : OpenFault) → NoSuchRow r ≡ Open e → ⊥
no_open r e is = absurd cc

same_open : (e f : OpenFault) → Open e ≡ Open f → e ≡ f
same_open e f is = cc

of_fault : (fault : ReconstructFault) → IsOfMending (reconstruct_status fault)
of_fault (Open e) = inl (of_restoring (open_status e) e refl)
of_fault (NoSuchRow r) = inr (record { name = r.name; row = r.row; is = refl })

pub of_mending : (status : Status) (fault : ReconstructFault) → status ≡ reconstruct_status fault → IsOfMending status
of_mending status fault is = subst IsOfMending (sym is) (of_fault fault)

counts_fault : (fault : ReconstructFault) (a b : ℕ) → CountedAt (fault ≡ Open (Audit aud.Disk)) a b → CountedAt (reconstruct_status fault ≡ DiskFault) a b
counts_fault (Open e) a b c = counts_open e a b (record { later = c.later; failed = λ is. c.failed (ap Open is); once = c.once; clean = λ none. c.clean (λ is. none (same_open e (Audit aud.Disk) is)) })
counts_fault (NoSuchRow r) a b c = not_counted _ a b (no_disk _) (c.clean (no_open r (Audit aud.Disk)))

pub counts_rows : (status : Status) (fault : ReconstructFault) (a b : ℕ) → status ≡ reconstruct_status fault → CountedAt (fault ≡ Open (Audit aud.Disk)) a b → CountedAt (status ≡ DiskFault) a b
counts_rows status fault a b is c = subst (λ (s : Status). CountedAt (s ≡ DiskFault) a b) (sym is) (counts_fault fault a b c)

none_written : (fault : ReconstructFault) → IsRefusal (reconstruct_status fault) → IsOpenFault fault MayHaveWritten → ⊥
none_written (Open e) refusal = not_written e refusal
none_written (NoSuchRow r) refusal = λ none. none

none_refuses : (fault : ReconstructFault) → IsOpenFault fault IsNoRefusal → IsRefusal (reconstruct_status fault) → ⊥
none_refuses (Open e) none = no_refusal e none
none_refuses (NoSuchRow r) none = absurd none

module _ {S : Type 0} (g : Ghosts S) (d : ℕ) (rows : List NamedRow) (old new : S) where
  pub full_rows : (fault : ReconstructFault) (status : Status) → status ≡ reconstruct_status fault → (IsTrue g.tells → RefusesReconstruct (g.files old) d rows fault)
      → (IsTrue g.tells → IsOpenFault fault IsFullFault → HasFullTrail (g.files old) (g.files new)) → FillsTrail g old new status
  full_rows (Open e) status is refused full = full_restore g (Reconstruct d) old new e status is refused full
  full_rows (NoSuchRow r) status is refused full = λ k at tells. absurd (no_limit _ _ (sym is ∙ at))

  pub refused_rows : (fault : ReconstructFault) (status : Status) → status ≡ reconstruct_status fault → (IsTrue g.tells → RefusesReconstruct (g.files old) d rows fault)
      → (IsTrue g.tells → (IsOpenFault fault MayHaveWritten → ⊥) → g.files new ≡ g.files old) → (IsTrue g.tells → (IsOpenFault fault MayHaveWritten → ⊥) → Steps Same (g.clock old) (g.clock new))
      → IsTrue g.tells → AreRowsRefused g d rows old new status
  refused_rows fault status is why files moments tells refusal =
      let none = none_written fault (subst IsRefusal is refusal) in
      record { fault = fault; is = is; why = why tells; files = files tells none; moments = moments tells none }

  pub complete_rows : (fault : ReconstructFault) (status : Status) → status ≡ reconstruct_status fault → (IsTrue g.tells → (total first : ℕ) → CanReconstruct total first (g.files old) d rows → IsOpenFault fault IsNoRefusal)
      → IsTrue g.tells → NeverRefusesRows d rows (g.files old) status
  complete_rows fault status is complete tells total first can refusal = none_refuses fault (complete tells total first can) (subst IsRefusal is refusal)

-- ---- of a status

stopped_rows : (s : Status) → IsOfMending s → IsOfReconstruct s
stopped_rows s (inl of) = inl (stopped_of s of)
stopped_rows s (inr none) = inr none

unmade_rows : (s : Status) → IsOfMending s → IsSpoken s → ⊥
unmade_rows s (inl of) made = not_made s of made
unmade_rows s (inr none) made = subst IsSpoken none.is made

silent_rows : (s : Status) (line old new : List ℕ) → IsOfMending s → new ≡ old → SaysLine s line old new
silent_rows s line old new (inl of) same = says_nothing s line old new of same
silent_rows s line old new (inr none) same = subst (λ (x : Status). SaysLine x line old new) (sym none.is) same

pub unsaid_rows : (s : Status) (a b : ℕ) → IsOfMending s → b ≡ a → CountedAt (s ≡ SayFault) a b
unsaid_rows s a b (inl of) same = counted_stopped s a b of same
unsaid_rows s a b (inr none) same = not_counted (s ≡ SayFault) a b (λ is. no_say _ (sym none.is ∙ is)) same

pub unread_rows : (s : Status) → IsOfMending s → IsOfReading s → ⊥
unread_rows s (inl of) read = restore_unread s (inl of) read
unread_rows s (inr none) read = subst IsOfReading none.is read

-- ---- RECONSTRUCT

module _ {S : Type 0} (g : Ghosts S) (d : ℕ) (rows : List NamedRow) (old : S) where
  pub reconstruct_stopped : (new : S) (status : Status) → IsOfMending status → (IsTrue g.tells → AreRowsRefused g d rows old new status) → (IsTrue g.tells → NeverRefusesRows d rows (g.files old) status) → (IsTrue g.tells → MayMend (g.files old) d rows ⊎ StaysUndone g old new) → FillsTrail g old new status
      → (IsTrue g.tells → RecoveryGrows g old new) → StaysFor g (Reconstruct d) old new → g.said new ≡ g.said old → (IsTrue g.tells → MendsSince g old new d rows) → ReconstructDoes g d rows old new status
  reconstruct_stopped new status of refused complete may full trail beside said since = record {
    statuses = stopped_rows status of;
    refused = refused;
    opens = λ tells. undone (unmade_rows status of) (may tells);
    complete = complete;
    full = full;
    trail = trail;
    beside = beside;
    says = record {
      point = 0;
      line = λ tells. silent_rows status (reconstructed_text 0) (g.said old) (g.said new) of said;
      is = λ made. absurd (unmade_rows status of made);
    };
    every_moment = λ tells. (reconstruct_law g old new).stands d rows (since tells);
    at_ok = λ made. absurd (unmade_rows status of made);
  }

  pub reconstruct_done : (mid new : S) (status : Status) (point : ℕ) → IsOfRestored status → (IsTrue g.tells → MayMend (g.files old) d rows) → (IsTrue g.tells → RecoveryGrows g old mid) → StaysFor g (Reconstruct d) old mid → g.said mid ≡ g.said old → (IsTrue g.tells → MendsSince g old mid d rows) → (IsTrue g.tells → MendsEnd g old mid d rows)
      → (IsTrue g.tells → (total first n : ℕ) → IsTrailFound total first (g.files old) → last_of total first (g.files old) ≡ Some n → point ≡ n)
      → (IsTrue g.tells_said → SaysLine status (reconstructed_text point) (g.said mid) (g.said new)) → (IsTrue g.tells → g.files new ≡ g.files mid) → Steps SameFiles (g.clock mid) (g.clock new) → ReconstructDoes g d rows old new status
  reconstruct_done mid new status point of may trail beside said since ends is says files steps = record {
    statuses = inl (restored_of status of);
    refused = λ tells is. absurd (restored_no_refusal status of is);
    opens = λ tells. inl (may tells);
    complete = λ tells total first can is. restored_no_refusal status of is;
    full = restored_room g old new status of;
    trail = λ tells. trail_behind g old mid new steps (files tells) (trail tells);
    beside = beside_behind g old mid new steps (Reconstruct d) files beside;
    says = record {
      point = point;
      line = λ tells. said_back status (reconstructed_text point) (g.said old) (g.said mid) (g.said new) said (says tells);
      is = λ made tells total first n trail last. is tells total first n trail last;
    };
    every_moment = λ tells. (reconstruct_law g old new).stands d rows (behind tells).0;
    at_ok = λ made tells. (reconstruct_law g old new).ends d rows (behind tells).1;
  }
    where
      behind : IsTrue g.tells → MendsSince g old new d rows × MendsEnd g old new d rows
      behind tells = (reconstruct_law g old new).says mid d rows (since tells) (ends tells) (record { files = files tells; moments = steps })
