use Rattle.std.proofs.Common.{ℕ, ◌≡◌, ◌++◌, List, [], ap, sym, arith, length}
use Rattle.std.proofs.lemmas.Grind.{common_steps}
use Rattle.dms_site.specs.Files.{range}
use Rattle.dms_calls.proofs.empty_folder.EmptyFolderCalls.pread.Goals as goal

nothing : (at n : ℕ) → range at n [] ≡ []
unfolding range
nothing at n = grind (arith, common_steps)

pub returns-clause-some : goal.returns-clause-some
returns-clause-some c = λ t none. nothing c.args._at (length c.args._into.now)

pub returns-clause-bytes : goal.returns-clause-bytes
returns-clause-bytes c = λ t. ap (λ (l : List ℕ). l ++ c.args._into.now) (sym (nothing c.args._at 0))
