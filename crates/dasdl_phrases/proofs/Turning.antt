-- What one turn more does.
use Rattle.std.proofs.Common.{◌+◌, ◌≡◌, ℕ, zero, suc, List, [], ◌∷◌, Bool, true, false, refl, arith}
use Rattle.std.specs.declared.result.Result.{Result}
use Rattle.std.specs.declared.result.Result.TheVariants.{Ok, Err}
use Rattle.dasdl_phrases.specs.declared.fault.ParseFault.{ParseFault}
use Rattle.dasdl_phrases.specs.declared.fault.ParseFault.TheVariants.{BadCharacter, Expected, NumberRange, TooMany, Memory}
use Rattle.dms_tokens.specs.declared.token.Token.{Token}
use Rattle.dms_tokens.specs.declared.token.Token.TheVariants.{Word, Number, Decimal, Long, Quoted, Sign, Compare, Bad, End}
use Rattle.dms_tokens.specs.declared.token.Lexeme.{Lexeme}
use Rattle.dasdl_phrases.specs.Reads.{Read, Fails}
use Rattle.dasdl_phrases.specs.Cursors.{turns, fault_at, fault_of}

module _ {S : Type 0} (done : S → List Lexeme → Bool) (one : S → List Lexeme → Read S) where
  -- they are done
  pub turns-done : (n : ℕ) (s : S) (ts : List Lexeme) → done s ts ≡ true → turns done one n s ts ≡ Ok (s, ts)
  unfolding turns
  turns-done zero s ts h = rw h refl
  turns-done (suc n) s ts h = rw h refl

  one_more : (n : ℕ) (s t : S) (ts rest : List Lexeme) → done s ts ≡ false → one s ts ≡ Ok (t, rest) → turns done one (suc n) s ts ≡ turns done one n t rest
  unfolding turns
  one_more n s t ts rest h e = rw (h, e) refl

  -- one more is read
  pub turns-one : (n m : ℕ) (s t : S) (ts rest : List Lexeme) → m ≡ n + 1 → done s ts ≡ false → one s ts ≡ Ok (t, rest) → turns done one m s ts ≡ turns done one n t rest
  turns-one n m s t ts rest is h e = let k : m ≡ suc n = omega arith in rw k (one_more n s t ts rest h e)

  one_fault : (n : ℕ) (s : S) (ts : List Lexeme) (e : ParseFault) → done s ts ≡ false → one s ts ≡ Err e → turns done one (suc n) s ts ≡ Err e
  unfolding turns
  one_fault n s ts e h f = rw (h, f) refl

  -- one more isn't read
  pub turns-fault : (n m : ℕ) (s : S) (ts : List Lexeme) (e : ParseFault) → m ≡ n + 1 → done s ts ≡ false → one s ts ≡ Err e → turns done one m s ts ≡ Err e
  turns-fault n m s ts e is h f = let k : m ≡ suc n = omega arith in rw k (one_fault n s ts e h f)

  at_zero : (s : S) (ts : List Lexeme) → done s ts ≡ false → turns done one 0 s ts ≡ Err (fault_at ts)
  unfolding turns
  at_zero s ts h = rw h refl

  -- one too many
  pub turns-full : (m : ℕ) (s : S) (ts : List Lexeme) → m ≡ 0 → done s ts ≡ false → turns done one m s ts ≡ Err (fault_at ts)
  turns-full m s ts is h = rw is (at_zero s ts h)

-- the same of any fault but want of memory
pub Fails-from : {Y Z : Type 0} (e : ParseFault) (r : Result Y ParseFault) (s : Result Z ParseFault) → ((f : ParseFault) → r ≡ Err f → s ≡ Err f) → Fails e r → Fails e s
Fails-from Memory r s along h = tt
Fails-from (BadCharacter p) r s along h = along _ h
Fails-from (Expected p) r s along h = along _ h
Fails-from (NumberRange p) r s along h = along _ h
Fails-from (TooMany n) r s along h = along _ h

fails_of : {Y : Type 0} (token : Token) (place : ℕ) (r : Result Y ParseFault) → r ≡ Err (fault_of token place) → Fails (fault_of token place) r
fails_of (Word b) place r h = h
fails_of (Number n) place r h = h
fails_of (Decimal m n d) place r h = h
fails_of Long place r h = h
fails_of (Quoted b) place r h = h
fails_of (Sign b) place r h = h
fails_of (Compare o) place r h = h
fails_of Bad place r h = h
fails_of End place r h = h

-- the fault at a place is what is answered there
pub Fails-at : {Y : Type 0} (ts : List Lexeme) (r : Result Y ParseFault) → r ≡ Err (fault_at ts) → Fails (fault_at ts) r
Fails-at [] r h = h
Fails-at (l ∷ ls) r h = fails_of l.token l.place r h
