-- The status behind printing the audit.
use Rattle.std.proofs.Common.{◌≡◌, ℕ, refl, ap, take, OnOk, IfErr}
use Rattle.std.specs.Prelude.{IsErrOf}
use Rattle.std.specs.declared.result.Result.{Result}
use Rattle.std.specs.declared.result.Result.TheVariants as result
use Rattle.dms_moments.specs.Moments.{Clock, Steps}
use Rattle.dms_moments.specs.MomentLaws.{steps_weaken}
use Rattle.dms_site.specs.Files.{Files, Left}
use Rattle.dms_plain.specs.Speaking.{OnlySpeaks}
use Rattle.dms_audfile.specs.Counting as counting
use Rattle.dms_audfile.specs.declared.fault.AudFault.TheVariants as fault
use Rattle.dms_audprint.specs.AuditText.{HasTrail}
use Rattle.dms_audprint.specs.Printing.{PrintsSome, IsLate, RefusesAudit}
use Rattle.dms_audprint.specs.declared.fault.PrintFault.{PrintFault}
use Rattle.dms_audprint.specs.declared.fault.PrintFault.TheVariants.{Audit, Say}
use Rattle.dms_status.specs.declared.status.Status.{Status}
use Rattle.dms_status.specs.declared.status.Status.TheVariants.{Ok, BadWords, SchemaRefused, NoDatabase, Needed, InputFault, Memory, Limit, Damaged, SayFault, DiskFault, Exists, BadStatement, Reorganization, BadStream, Diverged, Flaw}
use Rattle.dms_top.specs.Auditing.{IsOfPrinting, JudgesTrail, audit_status}
use Rattle.dms_audfile.specs.Counting.{CountedAt}
use Rattle.dms_top.specs.Words.{ComesUnsaid, IsUntouched}

module _ {T : Type 0} where
  pub of_printing : (r : Result T PrintFault) → IsOfPrinting (audit_status r)
  of_printing (result.Ok x) = tt
  of_printing (result.Err (Audit fault.NoDatabase)) = tt
  of_printing (result.Err (Audit fault.Disk)) = tt
  of_printing (result.Err (Audit (fault.Full k))) = tt
  of_printing (result.Err (Audit (fault.Missing k))) = tt
  of_printing (result.Err (Audit (fault.Unsealed k))) = tt
  of_printing (result.Err (Audit (fault.Damaged f b))) = tt
  of_printing (result.Err (Audit (fault.Foreign k))) = tt
  of_printing (result.Err (Audit fault.Memory)) = tt
  of_printing (result.Err Say) = tt

  pub printed : (r : Result T PrintFault) {P : Type 0} → OnOk r P → audit_status r ≡ Ok → P
  printed (result.Ok x) was is = was
  printed (result.Err (Audit fault.NoDatabase)) was is = absurd cc
  printed (result.Err (Audit fault.Disk)) was is = absurd cc
  printed (result.Err (Audit (fault.Full k))) was is = absurd cc
  printed (result.Err (Audit (fault.Missing k))) was is = absurd cc
  printed (result.Err (Audit (fault.Unsealed k))) was is = absurd cc
  printed (result.Err (Audit (fault.Damaged f b))) was is = absurd cc
  printed (result.Err (Audit (fault.Foreign k))) was is = absurd cc
  printed (result.Err (Audit fault.Memory)) was is = absurd cc
  printed (result.Err Say) was is = absurd cc

  pub silent : (r : Result T PrintFault) {A B : Type 0} → IfErr r (λ e. A → (IsLate e → ⊥) → B) → A → ComesUnsaid (audit_status r) → B
  silent (result.Ok x) was a quiet = absurd quiet
  silent (result.Err (Audit fault.NoDatabase)) was a quiet = was a (λ late. absurd late)
  silent (result.Err (Audit fault.Disk)) was a quiet = absurd quiet
  silent (result.Err (Audit (fault.Full k))) was a quiet = absurd quiet
  silent (result.Err (Audit (fault.Missing k))) was a quiet = was a (λ late. absurd late)
  silent (result.Err (Audit (fault.Unsealed k))) was a quiet = was a (λ late. absurd late)
  silent (result.Err (Audit (fault.Damaged f b))) was a quiet = was a (λ late. absurd late)
  silent (result.Err (Audit (fault.Foreign k))) was a quiet = was a (λ late. absurd late)
  silent (result.Err (Audit fault.Memory)) was a quiet = absurd quiet
  silent (result.Err Say) was a quiet = absurd quiet

  pub refused : (r : Result T PrintFault) (files : Files) {A : Type 0} → IfErr r (λ e. A → RefusesAudit files e) → OnOk r (A → HasTrail files) → A → JudgesTrail files (audit_status r)
  refused (result.Ok x) files was found a = found a
  refused (result.Err (Audit fault.NoDatabase)) files was found a = was a
  refused (result.Err (Audit fault.Disk)) files was found a = tt
  refused (result.Err (Audit (fault.Full k))) files was found a = tt
  refused (result.Err (Audit (fault.Missing k))) files was found a = was a
  refused (result.Err (Audit (fault.Unsealed k))) files was found a = was a
  refused (result.Err (Audit (fault.Damaged f b))) files was found a = was a
  refused (result.Err (Audit (fault.Foreign k))) files was found a = was a
  refused (result.Err (Audit fault.Memory)) files was found a = tt
  refused (result.Err Say) files was found a = tt

  -- a status comes of one fault
  pub is_disk : (r : Result T PrintFault) → audit_status r ≡ DiskFault → IsErrOf r (Audit fault.Disk)
  is_disk (result.Ok x) is = absurd cc
  is_disk (result.Err (Audit fault.NoDatabase)) is = absurd cc
  is_disk (result.Err (Audit fault.Disk)) is = refl
  is_disk (result.Err (Audit (fault.Full k))) is = absurd cc
  is_disk (result.Err (Audit (fault.Missing k))) is = absurd cc
  is_disk (result.Err (Audit (fault.Unsealed k))) is = absurd cc
  is_disk (result.Err (Audit (fault.Damaged f b))) is = absurd cc
  is_disk (result.Err (Audit (fault.Foreign k))) is = absurd cc
  is_disk (result.Err (Audit fault.Memory)) is = absurd cc
  is_disk (result.Err Say) is = absurd cc

  pub of_disk : (r : Result T PrintFault) → IsErrOf r (Audit fault.Disk) → audit_status r ≡ DiskFault
  of_disk r is = ap (λ (q : Result T PrintFault). audit_status q) is

  pub is_say : (r : Result T PrintFault) → audit_status r ≡ SayFault → IsErrOf r Say
  is_say (result.Ok x) is = absurd cc
  is_say (result.Err (Audit fault.NoDatabase)) is = absurd cc
  is_say (result.Err (Audit fault.Disk)) is = absurd cc
  is_say (result.Err (Audit (fault.Full k))) is = absurd cc
  is_say (result.Err (Audit (fault.Missing k))) is = absurd cc
  is_say (result.Err (Audit (fault.Unsealed k))) is = absurd cc
  is_say (result.Err (Audit (fault.Damaged f b))) is = absurd cc
  is_say (result.Err (Audit (fault.Foreign k))) is = absurd cc
  is_say (result.Err (Audit fault.Memory)) is = absurd cc
  is_say (result.Err Say) is = refl

  pub of_say : (r : Result T PrintFault) → IsErrOf r Say → audit_status r ≡ SayFault
  of_say r is = ap (λ (q : Result T PrintFault). audit_status q) is

-- none of its statuses comes before a call on the site
pub print_untouched : (s : Status) → IsOfPrinting s → IsUntouched s → ⊥
print_untouched Ok of is = is
print_untouched BadWords of is = of
print_untouched (SchemaRefused f) of is = of
print_untouched NoDatabase of is = is
print_untouched (Needed n) of is = is
print_untouched InputFault of is = is
print_untouched Memory of is = is
print_untouched (Limit l) of is = is
print_untouched (Damaged f b) of is = is
print_untouched SayFault of is = is
print_untouched DiskFault of is = is
print_untouched Exists of is = is
print_untouched (BadStatement p) of is = of
print_untouched (Reorganization why) of is = of
print_untouched (BadStream place) of is = of
print_untouched (Diverged file block) of is = of
print_untouched (Flaw flaw) of is = of

-- a count of a call below, by the status that it is told as
pub counted_as : (P Q : Type 0) (a b : ℕ) → (Q → P) → (P → Q) → counting.CountedAt P a b → CountedAt Q a b
counted_as P Q a b to of c = record { later = c.later; failed = λ is. c.failed (to is); once = c.once; clean = λ none. c.clean (λ was. none (of was)) }

pub only_some : (a b : Clock Left) → Steps PrintsSome a b → OnlySpeaks a b
only_some a b steps = steps_weaken steps (λ x y here p. record { files = p.1.files; more = take p.1.some p.0; said = p.1.said })
