-- What was laid into a block is taken out of it again.
use Rattle.std.proofs.Common.{ℕ, ◌+◌, ◌≤◌, ◌≡◌, ◌∙◌, ap, List, ◌++◌, length, take, drop, length-take-le}
use Rattle.std.proofs.lemmas.List.{take_at, drop_at}
use Rattle.dms_fields.specs.Fields.{lay_bytes}

pub laid_back : (bytes block old : List ℕ) (n : ℕ) → old ≡ lay_bytes 2 bytes block → 2 ≤ length block → length bytes ≡ n → take n (drop 2 old) ≡ bytes
unfolding lay_bytes
laid_back bytes block old n is long size =
    let rest = drop (2 + length bytes) block in
    ap (λ (l : List ℕ). take n (drop 2 l)) is ∙ ap (λ (l : List ℕ). take n l) (drop_at (take 2 block) (bytes ++ rest) 2 (length-take-le 2 block long)) ∙ take_at bytes rest n size
