-- How the counts of failures stand behind a run.
use Rattle.std.proofs.Common.{◌≡◌, ap, refl, sym, subst, arith, ℕ}
use Rattle.std.specs.Prelude.{IsErrOf}
use Rattle.std.specs.declared.result.Result.{Result}
use Rattle.std.specs.declared.result.Result.TheVariants.{Ok, Err}
use Rattle.dms_block.specs.Counts.{Faults}
use Rattle.dms_block.specs.declared.block_fault.BlockFault.TheVariants.{Disk, Memory as NoMemory, Full, Damaged, Say}
use Rattle.dms_runner.specs.declared.run.RunFault.{RunFault}
use Rattle.dms_runner.specs.declared.run.RunFault.TheVariants.{Block, Input, Lines, Bytes, Held, Memory}
use Rattle.dms_runner.specs.Blaming.{IsBlamedOn}
use Rattle.dms_audfile.specs.Counting.{CountedAt}

unsaid : (P : Type 0) (a b : Faults) → b.say ≡ a.say → (P → ⊥) → CountedAt P a.say b.say
unsaid P a b same other = record { later = omega (arith, same); failed = λ is. absurd (other is); once = omega (arith, same); clean = λ not_so. same }

-- a run that printed in vain counted that once, and any other run counted no such failure
pub say_counted : {T : Type 0} (P : Type 0) (r : Result T RunFault) (a b : Faults) → (P → IsErrOf r (Block Say)) → (IsErrOf r (Block Say) → P) → IsBlamedOn r a b → CountedAt P a.say b.say
say_counted P (Ok x) a b of to caused = unsaid P a b (ap (λ (f : Faults). f.say) caused) (λ is. cc (of is))
say_counted P (Err (Block Disk)) a b of to caused = unsaid P a b (ap (λ (f : Faults). f.say) caused.1) (λ is. cc (of is))
say_counted P (Err (Block NoMemory)) a b of to caused = unsaid P a b (ap (λ (f : Faults). f.say) caused) (λ is. cc (of is))
say_counted P (Err (Block (Full f))) a b of to caused = unsaid P a b (ap (λ (f : Faults). f.say) caused.1) (λ is. cc (of is))
say_counted P (Err (Block (Damaged f n))) a b of to caused = unsaid P a b (ap (λ (f : Faults). f.say) caused.1) (λ is. cc (of is))
say_counted P (Err (Block Say)) a b of to caused = record { later = caused.0.later; failed = λ is. caused.0.rose; once = caused.0.once; clean = λ not_so. absurd (not_so (to refl)) }
say_counted P (Err Input) a b of to caused = unsaid P a b (ap (λ (f : Faults). f.say) caused) (λ is. cc (of is))
say_counted P (Err Lines) a b of to caused = unsaid P a b (ap (λ (f : Faults). f.say) caused) (λ is. cc (of is))
say_counted P (Err Bytes) a b of to caused = unsaid P a b (ap (λ (f : Faults). f.say) caused) (λ is. cc (of is))
say_counted P (Err Held) a b of to caused = unsaid P a b (ap (λ (f : Faults). f.say) caused) (λ is. cc (of is))
say_counted P (Err Memory) a b of to caused = unsaid P a b (ap (λ (f : Faults). f.say) caused) (λ is. cc (of is))

-- a count that is known by what stands at both ends
pub counted_moved : (P : Type 0) (a b a' b' : ℕ) → a ≡ a' → b ≡ b' → CountedAt P a' b' → CountedAt P a b
counted_moved P a b a' b' ea eb c = subst (λ x. CountedAt P x b) (sym ea) (subst (λ x. CountedAt P a' x) (sym eb) c)
