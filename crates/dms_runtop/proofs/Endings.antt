-- What a status tells of the fault behind it.
use Rattle.std.proofs.Common.{ℕ, ◌≡◌, ◌<◌, ◌≤◌, ◌⊎◌, ◌∙◌, inl, inr, Bool, true, false, cond, sym, ap, subst, refl, arith}
use Rattle.std.specs.Prelude.{nat_le, nat_lt}
use Rattle.std.proofs.lemmas.Bool.Decides.{nat_tests}
use Rattle.dms_block.specs.declared.block_fault.BlockFault.TheVariants as block
use Rattle.dms_runner.specs.declared.run.RunFault.{RunFault}
use Rattle.dms_runner.specs.declared.run.RunFault.TheVariants as run
use Rattle.dms_status.specs.declared.status.LimitKind.{LimitKind}
use Rattle.dms_status.specs.declared.status.LimitKind.TheVariants as limit
use Rattle.dms_status.specs.declared.status.Status.{Status}
use Rattle.dms_status.specs.declared.status.Status.TheVariants.{Ok, BadWords, SchemaRefused, NoDatabase, Needed, InputFault, Memory, Limit, Damaged, SayFault, DiskFault, Exists, BadStatement, Reorganization, BadStream, Diverged, Flaw}
use Rattle.dms_guard.specs.Both.{first_of, second_of}
use Rattle.dms_guard.specs.Faults.{is_structure_file, damaged_status}
use Rattle.dms_guard.proofs.Refused.{damage_is}
use Rattle.dms_runtop.specs.Faults.{run_status}
use Rattle.dms_runtop.specs.Statuses.{IsOfAuditLimit, IsOfClosing, IsOfScript}

-- ---- a damaged block

damaged_not_ok : (f k : ℕ) → damaged_status f k ≡ Ok → ⊥
damaged_not_ok f k = damage_is (is_structure_file f) f k (λ x. x ≡ Ok → ⊥) (λ e. absurd cc) (λ e. absurd cc)

damaged_not_input : (f k : ℕ) → damaged_status f k ≡ InputFault → ⊥
damaged_not_input f k = damage_is (is_structure_file f) f k (λ x. x ≡ InputFault → ⊥) (λ e. absurd cc) (λ e. absurd cc)

damaged_not_limit : (f k : ℕ) (l : LimitKind) → damaged_status f k ≡ Limit l → ⊥
damaged_not_limit f k l = damage_is (is_structure_file f) f k (λ x. x ≡ Limit l → ⊥) (λ e. absurd cc) (λ e. absurd cc)

damaged_same : (f k g l : ℕ) → damaged_status f k ≡ Damaged g l → (f ≡ g) × (k ≡ l)
damaged_same f k g l = damage_is (is_structure_file f) f k (λ x. x ≡ Damaged g l → (f ≡ g) × (k ≡ l)) (λ e. (same_file e, same_block e)) (λ e. absurd cc)
  where
    same_file : Damaged f k ≡ Damaged g l → f ≡ g
    same_file e = cc

    same_block : Damaged f k ≡ Damaged g l → k ≡ l
    same_block e = cc

-- ---- a fault of a run

pub run_not_ok : (fault : RunFault) → run_status fault ≡ Ok → ⊥
run_not_ok (run.Block block.Disk) e = absurd cc
run_not_ok (run.Block block.Memory) e = absurd cc
run_not_ok (run.Block (block.Full f)) e = absurd cc
run_not_ok (run.Block (block.Damaged f k)) e = damaged_not_ok f k e
run_not_ok (run.Block block.Say) e = absurd cc
run_not_ok run.Input e = absurd cc
run_not_ok run.Lines e = absurd cc
run_not_ok run.Bytes e = absurd cc
run_not_ok run.Held e = absurd cc
run_not_ok run.Memory e = absurd cc

pub run_input : (fault : RunFault) → run_status fault ≡ InputFault → fault ≡ run.Input
run_input (run.Block block.Disk) e = absurd cc
run_input (run.Block block.Memory) e = absurd cc
run_input (run.Block (block.Full f)) e = absurd cc
run_input (run.Block (block.Damaged f k)) e = absurd (damaged_not_input f k e)
run_input (run.Block block.Say) e = absurd cc
run_input run.Input e = refl
run_input run.Lines e = absurd cc
run_input run.Bytes e = absurd cc
run_input run.Held e = absurd cc
run_input run.Memory e = absurd cc

pub run_damaged : (fault : RunFault) (g l : ℕ) → run_status fault ≡ Damaged g l → fault ≡ run.Block (block.Damaged g l)
run_damaged (run.Block block.Disk) g l e = absurd cc
run_damaged (run.Block block.Memory) g l e = absurd cc
run_damaged (run.Block (block.Full f)) g l e = absurd cc
run_damaged (run.Block (block.Damaged f k)) g l e = let s = damaged_same f k g l e in λ i. run.Block (block.Damaged (s.0 i) (s.1 i))
run_damaged (run.Block block.Say) g l e = absurd cc
run_damaged run.Input g l e = absurd cc
run_damaged run.Lines g l e = absurd cc
run_damaged run.Bytes g l e = absurd cc
run_damaged run.Held g l e = absurd cc
run_damaged run.Memory g l e = absurd cc

pub run_lines_is : (fault : RunFault) → run_status fault ≡ Limit limit.Lines → fault ≡ run.Lines
run_lines_is (run.Block block.Disk) e = absurd cc
run_lines_is (run.Block block.Memory) e = absurd cc
run_lines_is (run.Block (block.Full f)) e = absurd cc
run_lines_is (run.Block (block.Damaged f k)) e = absurd (damaged_not_limit f k limit.Lines e)
run_lines_is (run.Block block.Say) e = absurd cc
run_lines_is run.Input e = absurd cc
run_lines_is run.Lines e = refl
run_lines_is run.Bytes e = absurd cc
run_lines_is run.Held e = absurd cc
run_lines_is run.Memory e = absurd cc

pub run_bytes_is : (fault : RunFault) → run_status fault ≡ Limit limit.Bytes → fault ≡ run.Bytes
run_bytes_is (run.Block block.Disk) e = absurd cc
run_bytes_is (run.Block block.Memory) e = absurd cc
run_bytes_is (run.Block (block.Full f)) e = absurd cc
run_bytes_is (run.Block (block.Damaged f k)) e = absurd (damaged_not_limit f k limit.Bytes e)
run_bytes_is (run.Block block.Say) e = absurd cc
run_bytes_is run.Input e = absurd cc
run_bytes_is run.Lines e = absurd cc
run_bytes_is run.Bytes e = refl
run_bytes_is run.Held e = absurd cc
run_bytes_is run.Memory e = absurd cc

pub run_held_is : (fault : RunFault) → run_status fault ≡ Limit limit.Held → fault ≡ run.Held
run_held_is (run.Block block.Disk) e = absurd cc
run_held_is (run.Block block.Memory) e = absurd cc
run_held_is (run.Block (block.Full f)) e = absurd cc
run_held_is (run.Block (block.Damaged f k)) e = absurd (damaged_not_limit f k limit.Held e)
run_held_is (run.Block block.Say) e = absurd cc
run_held_is run.Input e = absurd cc
run_held_is run.Lines e = absurd cc
run_held_is run.Bytes e = absurd cc
run_held_is run.Held e = refl
run_held_is run.Memory e = absurd cc

pub run_full_is : (fault : RunFault) (n : ℕ) → run_status fault ≡ Limit (limit.AuditFile n) → fault ≡ run.Block (block.Full n)
run_full_is (run.Block block.Disk) n e = absurd cc
run_full_is (run.Block block.Memory) n e = absurd cc
run_full_is (run.Block (block.Full f)) n e = let same : f ≡ n = cc in ap (λ (k : ℕ). run.Block (block.Full k)) same
run_full_is (run.Block (block.Damaged f k)) n e = absurd (damaged_not_limit f k (limit.AuditFile n) e)
run_full_is (run.Block block.Say) n e = absurd cc
run_full_is run.Input n e = absurd cc
run_full_is run.Lines n e = absurd cc
run_full_is run.Bytes n e = absurd cc
run_full_is run.Held n e = absurd cc
run_full_is run.Memory n e = absurd cc

pub run_of_script : (fault : RunFault) → IsOfScript (run_status fault)
run_of_script (run.Block block.Disk) = tt
run_of_script (run.Block block.Memory) = tt
run_of_script (run.Block (block.Full f)) = tt
run_of_script (run.Block (block.Damaged f k)) = by_test (is_structure_file f) refl
  where
    by_test : (b : Bool) → is_structure_file f ≡ b → IsOfScript (cond b (Damaged f k) Memory)
    by_test true is =
        let low = first_of (nat_lt 30000 f) (nat_le f 30200) is in
        let high = second_of (nat_lt 30000 f) (nat_le f 30200) is in
        (grind (arith, nat_tests, low), grind (arith, nat_tests, high))
    by_test false is = tt
run_of_script (run.Block block.Say) = tt
run_of_script run.Input = tt
run_of_script run.Lines = tt
run_of_script run.Bytes = tt
run_of_script run.Held = tt
run_of_script run.Memory = tt

-- ---- an end of a closing

pub ok_not_limit : (k : LimitKind) → Ok ≡ Limit k → ⊥
ok_not_limit k e = absurd cc

ok_not_input : Ok ≡ InputFault → ⊥
ok_not_input e = absurd cc

ok_not_damaged : (f k : ℕ) → Ok ≡ Damaged f k → ⊥
ok_not_damaged f k e = absurd cc

pub closing_input : (s : Status) → (s ≡ Ok) ⊎ IsOfClosing s → s ≡ InputFault → ⊥
closing_input s (inl ok) is = ok_not_input (sym ok ∙ is)
closing_input s (inr of) is = subst IsOfClosing is of

pub closing_damaged : (s : Status) → (s ≡ Ok) ⊎ IsOfClosing s → (f k : ℕ) → s ≡ Damaged f k → ⊥
closing_damaged s (inl ok) f k is = ok_not_damaged f k (sym ok ∙ is)
closing_damaged s (inr of) f k is = subst IsOfClosing is of

-- ---- nothing was done

-- what a command ends with that comes before the script's first line
abbrev pub IsUndone : Status → Type 0
IsUndone Ok = ⊥
IsUndone BadWords = ⊥
IsUndone (SchemaRefused f) = ⊥
IsUndone NoDatabase = Unit {0}
IsUndone (Needed n) = Unit {0}
IsUndone InputFault = ⊥
IsUndone Memory = Unit {0}
IsUndone (Limit k) = IsOfAuditLimit k
IsUndone (Damaged f b) = f ≤ 30000
IsUndone SayFault = ⊥
IsUndone DiskFault = Unit {0}
IsUndone Exists = ⊥
IsUndone (BadStatement p) = ⊥
IsUndone (Reorganization why) = ⊥
IsUndone (BadStream place) = ⊥
IsUndone (Diverged file block) = ⊥
IsUndone (Flaw flaw) = ⊥

pub undone_ok : (s : Status) → IsUndone s → s ≡ Ok → ⊥
undone_ok s undone is = subst IsUndone is undone

pub undone_input : (s : Status) → IsUndone s → s ≡ InputFault → ⊥
undone_input s undone is = subst IsUndone is undone

pub undone_limit : (s : Status) → IsUndone s → (k : LimitKind) → s ≡ Limit k → IsOfAuditLimit k
undone_limit s undone k is = subst IsUndone is undone

pub undone_damaged : (s : Status) → IsUndone s → (f k : ℕ) → s ≡ Damaged f k → 30000 < f → ⊥
undone_damaged s undone f k is high = let low : f ≤ 30000 = subst IsUndone is undone in absurd (omega (arith, low, high))

ok_not_say : Ok ≡ SayFault → ⊥
ok_not_say e = absurd cc

pub closing_say : (s : Status) → (s ≡ Ok) ⊎ IsOfClosing s → s ≡ SayFault → ⊥
closing_say s (inl ok) is = ok_not_say (sym ok ∙ is)
closing_say s (inr of) is = subst IsOfClosing is of
