use Rattle.std.proofs.Common.{◌≡◌, ◌++◌, subst, rules, length, ℕ, List}
use Rattle.std.specs.Int.{w32, to_be_bytes}
use Rattle.dms_descfile.proofs.Created.{file_is}
use Rattle.dms_descfile.proofs.writing.behind_gates.Goals as goal

pub returns-clause-file : goal.returns-clause-file
returns-clause-file c =
    let rest : c.extend.new.self ≡ to_be_bytes w32 (length c.in_ok-bytes.bytes) ++ c.in_ok-bytes.bytes = search rules in
    file_is _ _ (subst (λ (l : List ℕ). c.extend.new.self ≡ to_be_bytes w32 (length l) ++ l) c.in_ok-bytes.ensures rest)
