-- One more pair of a list whose numbers rise.
use Rattle.std.proofs.Common.{◌≡◌, ℕ, zero, suc, ◌+◌, ◌-◌, ◌*◌, ◌^◌, ◌<◌, ◌≤◌, ◌⊎◌, true, false, List, take, drop, refl, arith}
use Rattle.std.proofs.lemmas.Bool.Decides.{nat_tests}
use Rattle.std.specs.Int.{w32, from_be_bytes}
use Rattle.dms_audrec.specs.Reading.{counts_at, rows_at}
use Rattle.dms_audrec.specs.Spelling.{counts_rise, rows_rise}

module _ (bytes : List ℕ) (file number : ℕ) (one : file ≡ from_be_bytes w32 (take 4 bytes)) (two : number ≡ from_be_bytes w32 (take 4 (drop 4 bytes))) where
  pub counts_step : (k low : ℕ) → 0 < k → low ≤ file → file ≤ 30200 → number ≤ 2097152 → counts_rise (file + 1) (counts_at (k - 1) (drop 8 bytes)) ≡ counts_rise low (counts_at k bytes)
  unfolding counts_at
  counts_step zero low some a b c = absurd (omega arith)
  counts_step (suc k) low some a b c = grind (arith, nat_tests, one, two)

  pub counts_stop : (k low : ℕ) → 0 < k → (file < low) ⊎ ((30200 < file) ⊎ (2097152 < number)) → false ≡ counts_rise low (counts_at k bytes)
  unfolding counts_at
  counts_stop zero low some bad = absurd (omega arith)
  counts_stop (suc k) low some bad = grind (arith, nat_tests, one, two)

  pub rows_step : (k low : ℕ) → 0 < k → 30001 ≤ file → file ≤ 30200 → low ≤ file * 2 ^ 32 + number → rows_rise (file * 2 ^ 32 + number + 1) (rows_at (k - 1) (drop 8 bytes)) ≡ rows_rise low (rows_at k bytes)
  unfolding rows_at
  rows_step zero low some a b c = absurd (omega arith)
  rows_step (suc k) low some a b c = grind (arith, nat_tests, one, two)

  pub rows_stop : (k low : ℕ) → 0 < k → (file < 30001) ⊎ ((30200 < file) ⊎ (file * 2 ^ 32 + number < low)) → false ≡ rows_rise low (rows_at k bytes)
  unfolding rows_at
  rows_stop zero low some bad = absurd (omega arith)
  rows_stop (suc k) low some bad = grind (arith, nat_tests, one, two)

pub counts_end : (k low : ℕ) (bytes : List ℕ) → k ≡ 0 → true ≡ counts_rise low (counts_at k bytes)
unfolding counts_at
counts_end zero low bytes e = refl
counts_end (suc k) low bytes e = absurd (omega arith)

pub rows_end : (k low : ℕ) (bytes : List ℕ) → k ≡ 0 → true ≡ rows_rise low (rows_at k bytes)
unfolding rows_at
rows_end zero low bytes e = refl
rows_end (suc k) low bytes e = absurd (omega arith)
