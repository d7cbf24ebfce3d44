-- What an input has to do with the end of a run, by where the status comes from.
use Rattle.std.proofs.Common.{ℕ, ◌+◌, ◌≡◌, ◌⊎◌, ◌∙◌, inl, inr, List, Option, Some, sym, subst}
use Rattle.std.specs.Prelude.{nat_le}
use Rattle.dms_audfile.specs.declared.fault.AudFault.TheVariants as aud
use Rattle.dms_opening.specs.declared.choosing.OpenFault.{OpenFault}
use Rattle.dms_opening.specs.declared.choosing.OpenFault.TheVariants.{Audit, NoSuchPoint, Voided, DumpMissing, DumpUnsealed, DumpDamaged, DumpForeign, DumpLater}
use Rattle.dms_runner.specs.Running.{FitsScript, HasTooManyBytes, HasTooManyLines, InputBreaks}
use Rattle.dms_runner.specs.declared.run.RunFault.{RunFault}
use Rattle.dms_runner.specs.declared.run.RunFault.TheVariants as run
use Rattle.dms_status.specs.declared.status.LimitKind.{LimitKind}
use Rattle.dms_status.specs.declared.status.LimitKind.TheVariants as limit
use Rattle.dms_status.specs.declared.status.Status.{Status}
use Rattle.dms_status.specs.declared.status.Status.TheVariants.{Ok, InputFault, Limit}
use Rattle.dms_runtop.specs.Faults.{IsWithin, run_status}
use Rattle.dms_guard.specs.Faults.{damaged_status, open_status}
use Rattle.dms_runtop.specs.Full.{IsOfFull}
use Rattle.dms_runtop.specs.Inputs.{BlamesInput}
use Rattle.dms_runtop.specs.Statuses.{IsOfClosing}
use Rattle.dms_runtop.proofs.Counted.{within_input}
use Rattle.dms_runtop.proofs.Endings.{IsUndone, closing_input, ok_not_limit, run_bytes_is, run_input, run_lines_is, run_not_ok, undone_input, undone_limit, undone_ok}
use Rattle.dms_guard.proofs.Refused.{damage_is}
use Rattle.dms_guard.proofs.Refused.{open_input, open_ok, short_not}

-- ---- a status that isn't of the input

pub blames_none : {left left' : Option (List ℕ)} {s : Status} → (s ≡ Ok → ⊥) → (s ≡ Limit limit.Lines → ⊥) → (s ≡ Limit limit.Bytes → ⊥) → (s ≡ InputFault → ⊥) → BlamesInput left left' s
blames_none not_ok lines bytes breaks = record { ok = λ is. absurd (not_ok is); lines = λ is. absurd (lines is); bytes = λ is. absurd (bytes is); breaks = λ is. absurd (breaks is) }

-- that of what comes before the script's first line
pub blames_undone : {left left' : Option (List ℕ)} (s : Status) → IsUndone s → BlamesInput left left' s
blames_undone s undone = blames_none (undone_ok s undone) (undone_limit s undone limit.Lines) (undone_limit s undone limit.Bytes) (undone_input s undone)

-- that of a closing
limit_of_closing : (s : Status) (k : LimitKind) → (s ≡ Ok) ⊎ IsOfClosing s → s ≡ Limit k → IsOfClosing (Limit k)
limit_of_closing s k (inl ok) is = absurd (ok_not_limit k (sym ok ∙ is))
limit_of_closing s k (inr of) is = subst IsOfClosing is of

pub blames_closing : {left left' : Option (List ℕ)} (s : Status) → (s ≡ Ok) ⊎ IsOfClosing s → ((all : List ℕ) → left ≡ Some all → FitsScript all) → BlamesInput left left' s
blames_closing s of fits = record { ok = λ is. fits; lines = λ is. absurd (limit_of_closing s limit.Lines of is); bytes = λ is. absurd (limit_of_closing s limit.Bytes of is); breaks = λ is. absurd (closing_input s of is) }

-- that of a full audit
pub blames_full : {left left' : Option (List ℕ)} (k : ℕ) (s : Status) → IsOfFull k s → BlamesInput left left' s
blames_full {left} {left'} k s (inl full) = subst (BlamesInput left left') (sym full) (blames_none (λ is. absurd cc) (λ is. absurd cc) (λ is. absurd cc) (λ is. absurd cc))
blames_full {left} {left'} k s (inr (inl disk)) = subst (BlamesInput left left') (sym disk) (blames_none (λ is. absurd cc) (λ is. absurd cc) (λ is. absurd cc) (λ is. absurd cc))
blames_full {left} {left'} k s (inr (inr memory)) = subst (BlamesInput left left') (sym memory) (blames_none (λ is. absurd cc) (λ is. absurd cc) (λ is. absurd cc) (λ is. absurd cc))

-- that of an opening
abbrev IsAuditKind : LimitKind → Type 0
IsAuditKind (limit.AuditFile f) = Unit {0}
IsAuditKind limit.Lines = ⊥
IsAuditKind limit.Bytes = ⊥
IsAuditKind limit.Held = ⊥

open_limit : (fault : OpenFault) (k : LimitKind) → open_status fault ≡ Limit k → IsAuditKind k
open_limit (Audit aud.NoDatabase) k e = absurd cc
open_limit (Audit aud.Disk) k e = absurd cc
open_limit (Audit (aud.Full n)) k e = let same : limit.AuditFile n ≡ k = cc in subst IsAuditKind same tt
open_limit (Audit (aud.Missing n)) k e = absurd cc
open_limit (Audit (aud.Unsealed n)) k e = absurd cc
open_limit (Audit (aud.Foreign n)) k e = absurd cc
open_limit (Audit (aud.Damaged f b)) k e = absurd (damage_is (nat_le f 30000) f b (λ x. x ≡ Limit k → ⊥) (λ e. absurd cc) (λ e. absurd cc) e)
open_limit (Audit aud.Memory) k e = absurd cc
open_limit (NoSuchPoint n) k e = absurd cc
open_limit (Voided n) k e = absurd cc
open_limit (DumpMissing d) k e = absurd cc
open_limit (DumpUnsealed d) k e = absurd cc
open_limit (DumpDamaged d) k e = absurd (damage_is (nat_le (20000 + d) 30000) (20000 + d) 0 (λ x. x ≡ Limit k → ⊥) (λ e. absurd cc) (λ e. absurd cc) e)
open_limit (DumpForeign d) k e = absurd cc
open_limit (DumpLater d n) k e = absurd cc

pub blames_opening : {left left' : Option (List ℕ)} (fault : OpenFault) (s : Status) → s ≡ open_status fault → BlamesInput left left' s
blames_opening {left} {left'} fault s is = subst (BlamesInput left left') (sym is) (blames_none (open_ok fault) (open_limit fault limit.Lines) (open_limit fault limit.Bytes) (open_input fault))

-- that of a block that isn't there
pub blames_short : {left left' : Option (List ℕ)} (f b : ℕ) (s : Status) → s ≡ damaged_status f b → BlamesInput left left' s
blames_short {left} {left'} f b s is =
    subst (BlamesInput left left') (sym is)
    (blames_none (short_not f b Ok (λ e. absurd cc) (λ e. absurd cc)) (short_not f b (Limit limit.Lines) (λ e. absurd cc) (λ e. absurd cc)) (short_not f b (Limit limit.Bytes) (λ e. absurd cc) (λ e. absurd cc)) (short_not f b InputFault (λ e. absurd cc) (λ e. absurd cc)))

-- ---- that of a script

-- the fault behind one that isn't of memory
behind : (last : ℕ) (fault then other : RunFault) → IsWithin last fault then → (run.Memory ≡ other → ⊥) → then ≡ other → fault ≡ other
behind last fault then other (inl within) no_memory is = sym within.0 ∙ is
behind last fault then other (inr memory) no_memory is = absurd (no_memory (sym memory.0 ∙ is))

pub blames_script : {left left' : Option (List ℕ)} (last : ℕ) (fault then : RunFault) (s : Status) → IsWithin last fault then → s ≡ run_status then → (fault ≡ run.Lines → (all : List ℕ) → left ≡ Some all → HasTooManyLines all)
    → (fault ≡ run.Bytes → (all : List ℕ) → left ≡ Some all → HasTooManyBytes all) → (fault ≡ run.Input → (all : List ℕ) → left ≡ Some all → InputBreaks left' all) → BlamesInput left left' s
blames_script last fault then s within status lines bytes breaks = record {
  ok = λ is. absurd (run_not_ok then (sym status ∙ is));
  lines = λ is. lines (behind last fault then run.Lines within (λ e. absurd cc) (run_lines_is then (sym status ∙ is)));
  bytes = λ is. bytes (behind last fault then run.Bytes within (λ e. absurd cc) (run_bytes_is then (sym status ∙ is)));
  breaks = λ is. breaks (within_input last fault then within (run_input then (sym status ∙ is)));
}
