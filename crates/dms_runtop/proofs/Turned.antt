-- What a run leaves whose opening was refused.
use Rattle.std.proofs.Common.{ℕ, ◌≡◌, ◌⊎◌, ◌∙◌, inl, inr, IsTrue, List, Option, refl, sym, ap, subst}
use Rattle.dms_audfile.specs.Counting.{CountedAt, not_counted}
use Rattle.dms_audfile.specs.declared.fault.AudFault.TheVariants as aud
use Rattle.dms_moments.specs.Moments.{Steps}
use Rattle.dms_site.specs.declared.site.Site.{Ghosts}
use Rattle.dms_site.specs.declared.source.Source as source
use Rattle.dms_site.specs.Files.{Same}
use Rattle.dms_opening.specs.declared.choosing.OpenFault.{OpenFault}
use Rattle.dms_opening.specs.declared.choosing.OpenFault.TheVariants.{Audit}
use Rattle.dms_opening.specs.declared.whole.OpenRefusal.{OpenRefusal}
use Rattle.dms_opening.specs.declared.whole.OpenRefusal.TheVariants.{Fault, Short}
use Rattle.dms_opening.specs.Openings.{HasFullTrail, IsFullFault, IsNoRefusal, IsOpenable, MayHaveWritten, OpeningGrows, ReopensSince}
use Rattle.dms_opening.specs.Whole.{CanOpenWhole, OnFault, RefusesWhole}
use Rattle.dms_run.specs.Held.{NextIsOne}
use Rattle.dms_status.specs.declared.status.LimitKind.TheVariants.{AuditFile}
use Rattle.dms_status.specs.declared.status.Status.{Status}
use Rattle.dms_status.specs.declared.status.Status.TheVariants.{DiskFault, Limit, SayFault}
use Rattle.dms_run.specs.Opens.{DatabaseState, HoldsTold, StatesHold}
use Rattle.dms_runtop.specs.Command.{IsUnopened, RunsCommand}
use Rattle.dms_guard.specs.Faults.{refusal_status}
use Rattle.dms_runtop.specs.Full.{HasNoRoom}
use Rattle.dms_runtop.specs.Inputs.{TakesInput}
use Rattle.dms_runtop.specs.RunDoes.{Opens}
use Rattle.dms_runtop.specs.Statuses.{IsOfRun}
use Rattle.dms_guard.specs.Statuses.{IsRefusal}
use Rattle.dms_runtop.proofs.Does.{opens_of}
use Rattle.dms_runtop.proofs.Entered.{openable, runs_refused}
use Rattle.dms_runtop.proofs.Fulls.{full_opening}
use Rattle.dms_guard.proofs.Refused.{counts_open, fault_low, no_refusal, not_written, open_say, short_clean, short_no_refusal, short_not}
use Rattle.dms_runtop.proofs.Refused.{open_of_run, short_of_run}
use Rattle.dms_runtop.proofs.Taking.{takes_short, takes_unopened}

pub turned_status : (r : OpenRefusal) → IsOfRun (refusal_status r)
turned_status (Fault fault) = open_of_run fault
turned_status (Short f b) = short_of_run f b

same_fault : (a b : OpenFault) → Fault a ≡ Fault b → a ≡ b
same_fault a b is = cc

counted_fault : (fault : OpenFault) (a b : ℕ) → CountedAt (Fault fault ≡ Fault (Audit aud.Disk)) a b → CountedAt (fault ≡ Audit aud.Disk) a b
counted_fault fault a b c = record { later = c.later; failed = λ is. c.failed (ap Fault is); once = c.once; clean = λ none. c.clean (λ is. none (same_fault fault (Audit aud.Disk) is)) }

pub turned_counts : (r : OpenRefusal) (a b : ℕ) → CountedAt (r ≡ Fault (Audit aud.Disk)) a b → CountedAt (refusal_status r ≡ DiskFault) a b
turned_counts (Fault fault) a b c = counts_open fault a b (counted_fault fault a b c)
turned_counts (Short f k) a b c = not_counted _ a b (short_not f k DiskFault (λ e. absurd cc) (λ e. absurd cc)) (short_clean f k a b c)

pub turned_unsaid : (r : OpenRefusal) → refusal_status r ≡ SayFault → ⊥
turned_unsaid (Fault fault) = open_say fault
turned_unsaid (Short f b) = short_not f b SayFault (λ e. absurd cc) (λ e. absurd cc)

pub turned_takes : {I : Type 0} (i : source.Ghosts I) → ((x : I) → i.same_source x x) → (from : I) (r : OpenRefusal) (status : Status) → status ≡ refusal_status r → TakesInput i from from status
turned_takes i again from (Fault fault) status is = takes_unopened i again from fault status is
turned_takes i again from (Short f b) status is = takes_short i again from f b status is

module _ {S : Type 0} (g : Ghosts S) (old new : S) where
  pub turned_ran : (state : Option DatabaseState) → StatesHold → NextIsOne → (IsTrue g.tells → HoldsTold state (g.files old)) → (r : OpenRefusal) → (IsTrue g.tells → (total first : ℕ) → IsOpenable total first (g.files old) → OnFault r IsNoRefusal)
      → (IsTrue g.tells → OpeningGrows g old new) → (IsTrue g.tells → ReopensSince g old new) → g.said new ≡ g.said old → (left left' : Option (List ℕ)) (status : Status) → status ≡ refusal_status r → RunsCommand g state old new left left' status
  turned_ran state hold next told (Fault fault) complete grows since said left left' status is = runs_refused g old state hold next told fault new complete grows since said left left' status is
  turned_ran state hold next told (Short f b) complete grows since said left left' status is = λ tells s at n has all held.
      let h = hold (g.files old) s (told tells s at) in
      absurd (complete tells h.total h.first (openable g old s h))

  pub turned_full : (r : OpenRefusal) (status : Status) → status ≡ refusal_status r → (IsTrue g.tells → RefusesWhole (g.files old) r) → (IsTrue g.tells → OnFault r IsFullFault → HasFullTrail (g.files old) (g.files new)) → HasNoRoom g old new status
  turned_full (Fault fault) status is refused full = full_opening g old new fault status is refused full
  turned_full (Short f b) status is refused full = λ k at. absurd (short_not f b (Limit (AuditFile k)) (λ e. absurd cc) (λ e. absurd cc) (sym is ∙ at))

  pub turned_opens : {I : Type 0} (i : source.Ghosts I) (from : I) → StatesHold → (r : OpenRefusal) (status : Status) → status ≡ refusal_status r → (IsTrue g.tells → CanOpenWhole (g.files old) ⊎ IsUnopened g old new status) → (IsTrue g.tells → RefusesWhole (g.files old) r)
      → (IsTrue g.tells → (OnFault r MayHaveWritten → ⊥) → g.files new ≡ g.files old) → (IsTrue g.tells → (OnFault r MayHaveWritten → ⊥) → Steps Same (g.clock old) (g.clock new))
      → (IsTrue g.tells → (total first : ℕ) → IsOpenable total first (g.files old) → OnFault r IsNoRefusal) → Opens g i old new from from status
  turned_opens i from hold (Fault fault) status is unopened refused files moments complete =
      opens_of g i old new from from status hold unopened
      (λ refusal tells.
      let of : IsRefusal (refusal_status (Fault fault)) = subst IsRefusal is refusal in
      record { refusal = Fault fault; is = is; why = refused tells; files = files tells (not_written fault of); moments = moments tells (not_written fault of) })
      (λ refusal. refl) (λ f b at high. absurd (fault_low fault f b (sym is ∙ at) high)) (λ tells total first openable refusal. no_refusal fault (complete tells total first openable) (subst IsRefusal is refusal))
  turned_opens i from hold (Short f b) status is unopened refused files moments complete =
      let none : IsRefusal status → ⊥ = λ refusal. short_no_refusal f b (subst IsRefusal is refusal) in
      opens_of g i old new from from status hold unopened (λ refusal. absurd (none refusal)) (λ refusal. absurd (none refusal))
      (λ file block at high tells. inr (record { refusal = Short f b; is = is; why = refused tells; files = files tells (λ w. w); moments = moments tells (λ w. w) }))
      (λ tells total first openable refusal. none refusal)
