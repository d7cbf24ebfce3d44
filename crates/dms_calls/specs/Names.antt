-- The names of the database's files: `F`, the number in at least five digits, `.DMS`.
use Rattle.std.specs.Prelude.{ℕ, ◌-◌, ◌^◌, ◌<◌, ◌≡◌, List, ◌++◌, codes, decimal, length, replicate}

-- a number in decimal digits, filled up with zeros to five
unfoldable pub digits_of : ℕ → List ℕ
digits_of n = replicate (5 - length (decimal n)) 48 ++ decimal n

unfoldable pub name_of : ℕ → List ℕ
name_of n = codes "F" ++ digits_of n ++ codes ".DMS"

-- the name of a database file: that of a number of 32 bits
pub record IsFileName (name : List ℕ) : Type 0 where
  pub number : ℕ
  pub low : number < 2 ^ 32
  pub is : name ≡ name_of number
