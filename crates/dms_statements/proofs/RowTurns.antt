-- Reading one row more.
use Rattle.std.proofs.Common.{ℕ, suc, ◌+◌, ◌≡◌, true, false, List, drop, refl, arith}
use Rattle.std.specs.declared.result.Result.{Result}
use Rattle.std.specs.declared.result.Result.TheVariants.{Ok, Err}
use Rattle.dms_tokens.specs.declared.token.Lexeme.{Lexeme}
use Rattle.dms_tokens.specs.Cursors.{place_at, is_the_sign, starts}
use Rattle.dms_statements.specs.declared.fault.StatementFault.{StatementFault}
use Rattle.dms_statements.specs.declared.fault.StatementFault.TheVariants.{Bad, Memory}
use Rattle.dms_statements.specs.declared.statement.NamedRow.{NamedRow}
use Rattle.dms_statements.specs.Statements.{Fails, row_at, rows_at}

one_last : (n : ℕ) (rows more : List NamedRow) (ts rest : List Lexeme) → row_at rows ts ≡ Ok (more, rest) → starts (is_the_sign 44) rest ≡ false → rows_at (suc n) rows ts ≡ Ok (more, rest)
unfolding rows_at
one_last n rows more ts rest e h = rw (e, h) refl

one_next : (n : ℕ) (rows more : List NamedRow) (ts rest : List Lexeme) → row_at rows ts ≡ Ok (more, rest) → starts (is_the_sign 44) rest ≡ true → rows_at (suc n) rows ts ≡ rows_at n more (drop 1 rest)
unfolding rows_at
one_next n rows more ts rest e h = rw (e, h) refl

one_bad : (n : ℕ) (rows : List NamedRow) (ts : List Lexeme) (p : ℕ) → row_at rows ts ≡ Err p → rows_at (suc n) rows ts ≡ Err p
unfolding rows_at
one_bad n rows ts p e = rw e refl

none_more : (rows : List NamedRow) (ts : List Lexeme) → rows_at 0 rows ts ≡ Err (place_at ts)
unfolding rows_at
none_more rows ts = refl

-- no comma follows
pub rows_last : (n m : ℕ) (rows more : List NamedRow) (ts rest : List Lexeme) → m ≡ n + 1 → row_at rows ts ≡ Ok (more, rest) → starts (is_the_sign 44) rest ≡ false → rows_at m rows ts ≡ Ok (more, rest)
rows_last n m rows more ts rest is e h = let k : m ≡ suc n = omega arith in rw k (one_last n rows more ts rest e h)

-- a comma follows
pub rows_next : (n m : ℕ) (rows more : List NamedRow) (ts rest : List Lexeme) → m ≡ n + 1 → row_at rows ts ≡ Ok (more, rest) → starts (is_the_sign 44) rest ≡ true → rows_at m rows ts ≡ rows_at n more (drop 1 rest)
rows_next n m rows more ts rest is e h = let k : m ≡ suc n = omega arith in rw k (one_next n rows more ts rest e h)

-- it isn't read
pub rows_bad : (n m : ℕ) (rows : List NamedRow) (ts : List Lexeme) (p : ℕ) → m ≡ n + 1 → row_at rows ts ≡ Err p → rows_at m rows ts ≡ Err p
rows_bad n m rows ts p is e = let k : m ≡ suc n = omega arith in rw k (one_bad n rows ts p e)

-- none may follow
pub rows_full : (m : ℕ) (rows : List NamedRow) (ts : List Lexeme) → m ≡ 0 → rows_at m rows ts ≡ Err (place_at ts)
rows_full m rows ts is = rw is (none_more rows ts)

-- the same of any fault but want of memory
pub fails_from : {Y Z : Type 0} (e : StatementFault) (r : Result Y ℕ) (s : Result Z ℕ) → ((p : ℕ) → r ≡ Err p → s ≡ Err p) → Fails e r → Fails e s
fails_from Memory r s along h = tt
fails_from (Bad p) r s along h = along p h
