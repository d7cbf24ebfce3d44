-- What is read of slots, up to a last one.
use Rattle.std.proofs.Common.{◌≡◌, ◌<◌, ◌≤◌, ℕ, true, false, ap, arith}
use Rattle.std.proofs.lemmas.Bool.Decides.{nat_tests}
use Rattle.std.specs.Prelude.{nat_le, if◌then◌else◌}
use Rattle.dms_layout.specs.declared.slot.SlotRead.{SlotRead}
use Rattle.dms_layout.specs.declared.slot.SlotRead.TheVariants.{Free}
use Rattle.dms_reorg.specs.Widened.{up_to}

pub up_within : (last : ℕ) (old : ℕ → SlotRead) (n : ℕ) → n ≤ last → up_to last old n ≡ old n
up_within last old n le = let e : nat_le n last ≡ true = grind (arith, nat_tests, le) in ap (λ b. if b then old n else Free) e

pub up_past : (last : ℕ) (old : ℕ → SlotRead) (n : ℕ) → last < n → up_to last old n ≡ Free
up_past last old n lt = let e : nat_le n last ≡ false = grind (arith, nat_tests, lt) in ap (λ b. if b then old n else Free) e
