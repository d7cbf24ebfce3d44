-- Reading conditions.
use Rattle.std.proofs.Common.{ℕ, zero, suc, ◌-◌, ◌≡◌, List, refl, ap, sym, ◌∙◌, arith}
use Rattle.dms_desc_bytes.specs.Reading.{ReadBytes, byte_at, test_at, tree_at, tree_in}

tree_step : (levels : ℕ) (bytes : List ℕ) → (levels ≡ 0 → ⊥) → tree_at levels bytes ≡ tree_in (tree_at (levels - 1)) (byte_at bytes).0 (byte_at bytes).1
unfolding tree_at
tree_step zero bytes more = absurd (more refl)
tree_step (suc levels) bytes more = let same : suc levels - 1 ≡ levels = omega arith in rw same refl

-- a comparison stands behind the byte 1
pub test_read : (levels n : ℕ) (rest bytes : List ℕ) → (levels ≡ 0 → ⊥) → ◌≡◌ {A = ReadBytes ℕ} (n, rest) (byte_at bytes) → n ≡ 1 → test_at rest ≡ tree_at levels bytes
test_read levels n rest bytes more read one =
    sym (tree_step levels bytes more
    ∙ ap (λ (p : ReadBytes ℕ). tree_in (tree_at (levels - 1)) p.0 p.1) (sym read)
    ∙ ap (λ (k : ℕ). tree_in (tree_at (levels - 1)) k rest) one)
