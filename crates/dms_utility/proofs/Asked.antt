-- A text that is too long.
use Rattle.std.specs.Prelude.{nat_lt}
use Rattle.std.proofs.Common.{ℕ, ◌<◌, ◌≡◌, true, List, length, refl, subst, arith}
use Rattle.std.proofs.lemmas.Bool.Decides.{nat_tests}
use Rattle.std.specs.declared.result.Result.TheVariants.{Err}
use Rattle.dms_status.specs.declared.status.Status.TheVariants.{BadStatement}
use Rattle.dms_statements.specs.Statements.{statement_of}

same_place : (p q : ℕ) → BadStatement p ≡ BadStatement q → p ≡ q
same_place p q is = cc

long_text : (text : List ℕ) → 10000 < length text → statement_of text ≡ Err 10001
unfolding statement_of
long_text text long = let e : nat_lt 10000 (length text) ≡ true = grind (arith, nat_tests) in rw e refl

pub long_bad : (text : List ℕ) (p : ℕ) → BadStatement 10001 ≡ BadStatement p → 10000 < length text → statement_of text ≡ Err p
long_bad text p is long = subst (λ (q : ℕ). statement_of text ≡ Err q) (same_place 10001 p is) (long_text text long)
