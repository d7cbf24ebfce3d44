-- The failures of a site that was guarded.
use Rattle.std.proofs.Common.{ℕ, ◌≡◌, ◌+◌, ◌<◌, ◌≤◌, ◌⊎◌, inl, inr, refl, arith}
use Rattle.dms_audfile.specs.Counting.{CountedAt}
use Rattle.dms_status.specs.declared.status.Status.{Status}
use Rattle.dms_status.specs.declared.status.Status.TheVariants.{Ok, BadWords, SchemaRefused, NoDatabase, Needed, InputFault, Memory, Limit, Damaged, SayFault, DiskFault, Exists, BadStatement, Reorganization, BadStream, Diverged, Flaw}

pub is_disk : (s : Status) → (s ≡ DiskFault) ⊎ (s ≡ DiskFault → ⊥)
is_disk Ok = inr (λ is. absurd cc)
is_disk BadWords = inr (λ is. absurd cc)
is_disk (SchemaRefused f) = inr (λ is. absurd cc)
is_disk NoDatabase = inr (λ is. absurd cc)
is_disk (Needed n) = inr (λ is. absurd cc)
is_disk InputFault = inr (λ is. absurd cc)
is_disk Memory = inr (λ is. absurd cc)
is_disk (Limit k) = inr (λ is. absurd cc)
is_disk (Damaged f b) = inr (λ is. absurd cc)
is_disk SayFault = inr (λ is. absurd cc)
is_disk DiskFault = inl refl
is_disk Exists = inr (λ is. absurd cc)
is_disk (BadStatement p) = inr (λ is. absurd cc)
is_disk (Reorganization why) = inr (λ is. absurd cc)
is_disk (BadStream place) = inr (λ is. absurd cc)
is_disk (Diverged file block) = inr (λ is. absurd cc)
is_disk (Flaw flaw) = inr (λ is. absurd cc)

-- A call was refused, and none before the run: so the status is 5, and no other call failed
pub refused_counts : (s : Status) (a b refused : ℕ) → a ≤ b → 0 < refused → CountedAt (s ≡ DiskFault) a (b + refused) → (s ≡ DiskFault) × (b ≡ a)
refused_counts s a b refused later some c = by (is_disk s)
  where
    by : (s ≡ DiskFault) ⊎ (s ≡ DiskFault → ⊥) → (s ≡ DiskFault) × (b ≡ a)
    by (inl is) = (is, omega (arith, later, some, c.once))
    by (inr not) = absurd (omega (arith, later, some, c.clean not))
