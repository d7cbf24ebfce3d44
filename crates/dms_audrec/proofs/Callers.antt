-- What crates above use of this crate's lemmas.
use Rattle.std.proofs.Common.{◌≡◌, ℕ, zero, suc, List, length, drop, refl, ap}
use Rattle.dms_audrec.specs.Reading.{rows_at}

-- so many rows are read of bytes
pub rows_many : (k : ℕ) (bytes : List ℕ) → length (rows_at k bytes) ≡ k
unfolding rows_at
rows_many zero bytes = refl
rows_many (suc k) bytes = ap suc (rows_many k (drop 8 bytes))
