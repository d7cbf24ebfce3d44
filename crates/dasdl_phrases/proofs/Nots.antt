-- One NOT more.
use Rattle.std.proofs.Common.{◌+◌, ◌≡◌, ℕ, suc, refl, arith}
use Rattle.dasdl_phrases.specs.TreeCodes.{WrittenTree}
use Rattle.dasdl_phrases.specs.TreeCodes.WrittenTree.{Turned}
use Rattle.dasdl_phrases.specs.Branches.{under_nots}

pub negated-one : (n : ℕ) (t : WrittenTree) → under_nots (n + 1) t ≡ Turned (under_nots n t)
negated-one n t = let k : n + 1 ≡ suc n = omega arith in rw k refl
