-- Rows that are read from the bytes of a Begin.
use Rattle.std.proofs.Common.{ℕ, zero, suc, ◌-◌, ◌<◌, ◌≡◌, List, [], ◌∷◌, ◌++◌, take, drop, arith, append_assoc, append-nil, ◌∙◌}
use Rattle.std.specs.Int.{w32, from_be_bytes}
use Rattle.dms_history.specs.declared.event.Row.{Row}
use Rattle.dms_audrec.specs.Reading.{rows_at}

-- one row more is read
pub rows_cons : (k : ℕ) (bytes : List ℕ) (x : Row) (items : List Row) → 0 < k → x.file ≡ from_be_bytes w32 (take 4 bytes) → x.row ≡ from_be_bytes w32 (take 4 (drop 4 bytes))
    → (items ++ x ∷ []) ++ rows_at (k - 1) (drop 8 bytes) ≡ items ++ rows_at k bytes
unfolding rows_at
rows_cons zero bytes x items some file row = absurd (omega (arith, some))
rows_cons (suc k) bytes x items some file row =
    let e : suc k - 1 ≡ k = omega arith in
    append_assoc items (x ∷ []) (rows_at (suc k - 1) (drop 8 bytes)) ∙ (λ i. items ++ (record { file = file i; row = row i }) ∷ rows_at (e i) (drop 8 bytes))

pub rows_none : (k : ℕ) (bytes : List ℕ) (items : List Row) → k ≡ 0 → items ++ rows_at k bytes ≡ items
unfolding rows_at
rows_none zero bytes items none = append-nil items
rows_none (suc k) bytes items none = absurd (omega (arith, none))
