-- The statuses of the run of a load's script.
use Rattle.std.proofs.Common.{◌≡◌, ◌≤◌, ◌<◌, ◌⊎◌, ℕ, inl, inr, refl, arith}
use Rattle.std.proofs.lemmas.Bool.{cases_lt}
use Rattle.dms_audfile.specs.Counting.{CountedAt}
use Rattle.dms_status.specs.declared.status.LimitKind.{LimitKind}
use Rattle.dms_status.specs.declared.status.LimitKind.TheVariants.{AuditFile, Lines, Bytes, Held}
use Rattle.dms_status.specs.declared.status.Status.{Status}
use Rattle.dms_status.specs.declared.status.Status.TheVariants.{Ok, BadWords, SchemaRefused, NoDatabase, Needed, InputFault, Memory, Limit, Damaged, SayFault, DiskFault, Exists, BadStatement, Reorganization, BadStream, Diverged, Flaw}
use Rattle.dms_loadrun.specs.Statuses.{IsOfAudit, IsOfFilling, IsUnfound, filled_limit, filled_status}
use Rattle.dms_runtop.specs.Statuses.{IsOfRun}
use Rattle.dms_guard.specs.Statuses.{IsRefusal}

limit_filled : (k : LimitKind) → IsOfFilling (filled_limit k)
limit_filled (AuditFile f) = tt
limit_filled Lines = tt
limit_filled Bytes = tt
limit_filled Held = tt

pub of_filling : (s : Status) → IsOfRun s → IsOfFilling (filled_status s)
of_filling Ok of = tt
of_filling BadWords of = tt
of_filling (SchemaRefused f) of = tt
of_filling NoDatabase of = tt
of_filling (Needed n) of = tt
of_filling InputFault of = tt
of_filling Memory of = tt
of_filling (Limit k) of = limit_filled k
of_filling (Damaged f b) of = of
of_filling SayFault of = tt
of_filling DiskFault of = tt
of_filling Exists of = tt
of_filling (BadStatement p) of = tt
of_filling (Reorganization why) of = tt
of_filling (BadStream place) of = tt
of_filling (Diverged file block) of = tt
of_filling (Flaw flaw) of = tt

limit_ok : (k : LimitKind) → filled_limit k ≡ Ok → ⊥
limit_ok (AuditFile f) is = absurd cc
limit_ok Lines is = absurd cc
limit_ok Bytes is = absurd cc
limit_ok Held is = absurd cc

pub ok_filled : (s : Status) → filled_status s ≡ Ok → s ≡ Ok
ok_filled Ok is = refl
ok_filled BadWords is = absurd cc
ok_filled (SchemaRefused f) is = absurd cc
ok_filled NoDatabase is = absurd cc
ok_filled (Needed n) is = absurd cc
ok_filled InputFault is = absurd cc
ok_filled Memory is = absurd cc
ok_filled (Limit k) is = absurd (limit_ok k is)
ok_filled (Damaged f b) is = absurd cc
ok_filled SayFault is = absurd cc
ok_filled DiskFault is = absurd cc
ok_filled Exists is = absurd cc
ok_filled (BadStatement p) is = absurd cc
ok_filled (Reorganization why) is = absurd cc
ok_filled (BadStream place) is = absurd cc
ok_filled (Diverged file block) is = absurd cc
ok_filled (Flaw flaw) is = absurd cc

limit_disk : (k : LimitKind) → filled_limit k ≡ DiskFault → ⊥
limit_disk (AuditFile f) is = absurd cc
limit_disk Lines is = absurd cc
limit_disk Bytes is = absurd cc
limit_disk Held is = absurd cc

pub disk_filled : (s : Status) → filled_status s ≡ DiskFault → s ≡ DiskFault
disk_filled Ok is = absurd cc
disk_filled BadWords is = absurd cc
disk_filled (SchemaRefused f) is = absurd cc
disk_filled NoDatabase is = absurd cc
disk_filled (Needed n) is = absurd cc
disk_filled InputFault is = absurd cc
disk_filled Memory is = absurd cc
disk_filled (Limit k) is = absurd (limit_disk k is)
disk_filled (Damaged f b) is = absurd cc
disk_filled SayFault is = absurd cc
disk_filled DiskFault is = refl
disk_filled Exists is = absurd cc
disk_filled (BadStatement p) is = absurd cc
disk_filled (Reorganization why) is = absurd cc
disk_filled (BadStream place) is = absurd cc
disk_filled (Diverged file block) is = absurd cc
disk_filled (Flaw flaw) is = absurd cc

pub disk_fills : (s : Status) → s ≡ DiskFault → filled_status s ≡ DiskFault
disk_fills s is = λ i. filled_status (is i)

limit_audit : (k : LimitKind) (f : ℕ) → filled_limit k ≡ Limit (AuditFile f) → Limit k ≡ Limit (AuditFile f)
limit_audit (AuditFile k) f is = is
limit_audit Lines f is = absurd cc
limit_audit Bytes f is = absurd cc
limit_audit Held f is = absurd cc

pub audit_filled : (s : Status) (f : ℕ) → filled_status s ≡ Limit (AuditFile f) → s ≡ Limit (AuditFile f)
audit_filled Ok f is = absurd cc
audit_filled BadWords f is = absurd cc
audit_filled (SchemaRefused e) f is = absurd cc
audit_filled NoDatabase f is = absurd cc
audit_filled (Needed n) f is = absurd cc
audit_filled InputFault f is = absurd cc
audit_filled Memory f is = absurd cc
audit_filled (Limit k) f is = limit_audit k f is
audit_filled (Damaged g b) f is = absurd cc
audit_filled SayFault f is = absurd cc
audit_filled DiskFault f is = absurd cc
audit_filled Exists f is = absurd cc
audit_filled (BadStatement p) f is = absurd cc
audit_filled (Reorganization why) f is = absurd cc
audit_filled (BadStream place) f is = absurd cc
audit_filled (Diverged file block) f is = absurd cc
audit_filled (Flaw flaw) f is = absurd cc

limit_found : (k : LimitKind) → IsUnfound (filled_limit k) → ⊥
limit_found (AuditFile f) un = un
limit_found Lines un = un
limit_found Bytes un = un
limit_found Held un = un

-- where nothing is refused, and no structure file is damaged, the database is found
pub found_filled : (s : Status) → (IsRefusal s → ⊥) → ((f k : ℕ) → s ≡ Damaged f k → 30000 < f → ⊥) → IsUnfound (filled_status s) → ⊥
found_filled Ok refused damaged un = un
found_filled BadWords refused damaged un = un
found_filled (SchemaRefused f) refused damaged un = un
found_filled NoDatabase refused damaged un = refused tt
found_filled (Needed n) refused damaged un = refused tt
found_filled InputFault refused damaged un = un
found_filled Memory refused damaged un = un
found_filled (Limit k) refused damaged un = limit_found k un
found_filled (Damaged f b) refused damaged un = elim (cases_lt 30000 f) [ inl over ↦ damaged f b refl over | inr low ↦ refused low ]
found_filled SayFault refused damaged un = un
found_filled DiskFault refused damaged un = un
found_filled Exists refused damaged un = un
found_filled (BadStatement p) refused damaged un = un
found_filled (Reorganization why) refused damaged un = un
found_filled (BadStream place) refused damaged un = un
found_filled (Diverged file block) refused damaged un = un
found_filled (Flaw flaw) refused damaged un = un

-- a count of what is said in other words
pub counted_as : (P Q : Type 0) (a b : ℕ) → (P → Q) → (Q → P) → CountedAt P a b → CountedAt Q a b
counted_as P Q a b to of c = record { later = c.later; failed = λ q. c.failed (of q); once = c.once; clean = λ none. c.clean (λ p. none (to p)) }
