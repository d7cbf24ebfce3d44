-- The same of what needs more to be usable.
use Rattle.std.specs.Prelude.{OnOk, IsErrOf}
use Rattle.std.specs.declared.result.Result.{Result}
use Rattle.std.specs.declared.result.Result.TheVariants.{Ok, Err}
use Rattle.std.proofs.Common.{ℕ, refl}
use Rattle.dms_block.specs.declared.block_fault.BlockFault.{BlockFault}
use Rattle.dms_block.specs.declared.block_fault.BlockFault.TheVariants.{Disk, Memory, Full, Damaged, Say}
use Rattle.dms_block.specs.Faults.{Unbroken}
use Rattle.dms_block.specs.Held.{Alters, HasCauses, Held, Lasts, Looks, MadeDurable, MakesNoPoint, SameBlocks, Stays}
use Rattle.dms_online.specs.Onlines.{held_with}

pub both_unbroken : {T : Type 0} {P Q R : Type 0} (r : Result T BlockFault) → Unbroken r P → Unbroken r Q → (P → Q → R) → Unbroken r R
both_unbroken (Ok x) p q f = f p q
both_unbroken (Err Memory) p q f = f p q
both_unbroken (Err Disk) p q f = tt
both_unbroken (Err (Full n)) p q f = tt
both_unbroken (Err (Damaged n b)) p q f = tt
both_unbroken (Err Say) p q f = tt

-- a change that went well, or for which memory was refused
pub altered_sound : {T : Type 0} {P Q R S : Type 0} (r : Result T BlockFault) → OnOk r P → (IsErrOf r Memory → Q) → Unbroken r R → (P → R → S) → (Q → R → S) → Unbroken r S
altered_sound (Ok x) p q r f g = f p r
altered_sound (Err Memory) p q r f g = g (q refl) r
altered_sound (Err Disk) p q r f g = tt
altered_sound (Err (Full n)) p q r f g = tt
altered_sound (Err (Damaged n b)) p q r f g = tt
altered_sound (Err Say) p q r f g = tt

module _ (X Y : Type 0) (a b : Held) where
  pub lasts_with : Lasts a b → Lasts (held_with a X) (held_with b Y)
  lasts_with p = record { told = p.told; tells = p.tells; owns = p.owns; schema = p.schema; whole = p.whole; whole_on = p.whole_on }

  pub passes_with : MakesNoPoint a b → MakesNoPoint (held_with a X) (held_with b Y)
  passes_with p = record { lasts = lasts_with p.lasts; next = p.next; said = p.said; leaves = p.leaves }

  pub same_with : SameBlocks a b → SameBlocks (held_with a X) (held_with b Y)
  same_with s = record { counts = s.counts; content = s.content }

  pub stays_with : Y → Stays a b → Stays (held_with a X) (held_with b Y)
  stays_with y s = record { sound = y; mark = s.mark; points = s.points }

  pub durable_with : Y → MadeDurable a b → MadeDurable (held_with a X) (held_with b Y)
  durable_with y m = record { sound = y; same = same_with m.same; mark = m.mark; points = m.points; durable = m.durable }

  pub looks_with : {T : Type 0} (n : ℕ) (r : Result T BlockFault) → Unbroken r Y → Looks n r a b → Looks n r (held_with a X) (held_with b Y)
  looks_with n r y l = record {
    not_full = l.not_full;
    passes = passes_with l.passes;
    stays = both_unbroken r y l.stays stays_with;
    same = unbroken_one r l.same;
    counts = l.counts;
    uses = l.uses;
  }
    where
      unbroken_one : {T : Type 0} (r : Result T BlockFault) → Unbroken r (SameBlocks a b) → Unbroken r (SameBlocks (held_with a X) (held_with b Y))
      unbroken_one (Ok x) p = same_with p
      unbroken_one (Err Memory) p = same_with p
      unbroken_one (Err Disk) p = tt
      unbroken_one (Err (Full k)) p = tt
      unbroken_one (Err (Damaged k c)) p = tt
      unbroken_one (Err Say) p = tt

  pub alters_with : {T : Type 0} (n m : ℕ) (r : Result T BlockFault) → Unbroken r Y → Alters n m r a b → Alters n m r (held_with a X) (held_with b Y)
  alters_with n m r y l = record {
    passes = passes_with l.passes;
    stays = both_unbroken r y l.stays stays_with;
    memory = λ e. same_with (l.memory e);
    uses = l.uses;
  }

  pub causes_with : {T : Type 0} (r : Result T BlockFault) → HasCauses r a b → HasCauses r (held_with a X) (held_with b Y)
  causes_with (Ok x) c = c
  causes_with (Err Disk) c = c
  causes_with (Err Memory) c = c
  causes_with (Err (Full n)) c = c
  causes_with (Err (Damaged n k)) c = c
  causes_with (Err Say) c = c
