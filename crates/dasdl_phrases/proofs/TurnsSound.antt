-- What holds of what was read so far is kept by turns.
use Rattle.std.proofs.Common.{◌≡◌, ℕ, zero, suc, List, [], ◌++◌, map, Bool, true, false, cond, refl, sym, ap, ◌∙◌, subst, append_assoc}
use Rattle.std.proofs.lemmas.List.{append-nil, map-append}
use Rattle.std.specs.declared.result.Result.TheVariants.{Ok, Err}
use Rattle.dms_tokens.specs.declared.token.Token.{Token}
use Rattle.dms_tokens.specs.declared.token.Lexeme.{Lexeme}
use Rattle.dasdl_phrases.specs.Reads.{◌>>=◌, Read}
use Rattle.dasdl_phrases.specs.Cursors.{turns, turns_at, fault_at}
use Rattle.dasdl_phrases.specs.CondSpelling.{token_of}
use Rattle.dasdl_phrases.proofs.Inverting.{bind_ok, ok_same}

-- these tokens more are read, and it holds of all
pub record GoesTurn {S : Type 0} (holds : S → List Token → Type 0) (t : S) (toks : List Token) (ts rest : List Lexeme) : Type 0 where
  pub used : List Lexeme
  pub is : holds t (toks ++ map token_of used)
  pub all : ts ≡ used ++ rest

module _ {S : Type 0} (holds : S → List Token → Type 0) (done : S → List Lexeme → Bool) (one : S → List Lexeme → Read S) (keeps : (s t : S) (toks : List Token) (ts rest : List Lexeme) → holds s toks → one s ts ≡ Ok (t, rest) → GoesTurn holds t toks ts rest) where
  -- nothing more is read
  stays : (s t : S) (toks : List Token) (ts rest : List Lexeme) → holds s toks → ◌≡◌ {A = S × List Lexeme} (s, ts) (t, rest) → GoesTurn holds t toks ts rest
  stays s t toks ts rest h e = record {
    used = [];
    is = rw (append-nil) (subst (λ (x : S × List Lexeme). holds x.0 toks) e h);
    all = ap (λ (x : S × List Lexeme). x.1) e;
  }

  then_goes : (s t : S) (toks : List Token) (ts mid rest : List Lexeme) (g : GoesTurn holds s toks ts mid) → GoesTurn holds t (toks ++ map token_of g.used) mid rest → GoesTurn holds t toks ts rest
  then_goes s t toks ts mid rest g k = record {
    used = g.used ++ k.used;
    is = rw (map-append token_of g.used k.used, ← append_assoc toks (map token_of g.used) (map token_of k.used)) k.is;
    all = g.all ∙ ap (λ (xs : List Lexeme). g.used ++ xs) k.all ∙ sym (append_assoc g.used k.used rest);
  }

  by_zero : (b : Bool) (s t : S) (toks : List Token) (ts rest : List Lexeme) → holds s toks → cond {A = Read S} b (Ok (s, ts)) (Err (fault_at ts)) ≡ Ok (t, rest) → GoesTurn holds t toks ts rest
  by_zero true s t toks ts rest h e = stays s t toks ts rest h (ok_same _ _ e)
  by_zero false s t toks ts rest h e = absurd (cc)

  by_one : (b : Bool) (more : Read S) (s t : S) (toks : List Token) (ts rest : List Lexeme) → holds s toks → (more ≡ Ok (t, rest) → GoesTurn holds t toks ts rest) → cond {A = Read S} b (Ok (s, ts)) more ≡ Ok (t, rest) → GoesTurn holds t toks ts rest
  by_one true more s t toks ts rest h go e = stays s t toks ts rest h (ok_same _ _ e)
  by_one false more s t toks ts rest h go e = go e

  turns-goes : (n : ℕ) (s t : S) (toks : List Token) (ts rest : List Lexeme) → holds s toks → turns done one n s ts ≡ Ok (t, rest) → GoesTurn holds t toks ts rest
  unfolding turns
  turns-goes zero s t toks ts rest h e = by_zero (done s ts) s t toks ts rest h e
  turns-goes (suc n) s t toks ts rest h e =
      by_one (done s ts) (one s ts >>= λ r. turns done one n r.0 r.1) s t toks ts rest h (λ more.
      let b = bind_ok (one s ts) (λ (r : S × List Lexeme). turns done one n r.0 r.1) (t, rest) more in
      let g = keeps s b.0.0 toks ts b.0.1 h b.1 in
      then_goes b.0.0 t toks ts b.0.1 rest g (turns-goes n b.0.0 t (toks ++ map token_of g.used) b.0.1 rest g.is b.2)) e

  pub turns_at-goes : (s t : S) (toks : List Token) (ts rest : List Lexeme) → holds s toks → turns_at done one s ts ≡ Ok (t, rest) → GoesTurn holds t toks ts rest
  unfolding turns_at
  turns_at-goes s t toks ts rest h e = turns-goes _ s t toks ts rest h e

module _ {S : Type 0} (done : S → List Lexeme → Bool) (one : S → List Lexeme → Read S) where
  ends_by_zero : (b : Bool) (s t : S) (ts rest : List Lexeme) → done s ts ≡ b → cond {A = Read S} b (Ok (s, ts)) (Err (fault_at ts)) ≡ Ok (t, rest) → done t rest ≡ true
  ends_by_zero true s t ts rest is e = sym (ap (λ (x : S × List Lexeme). done x.0 x.1) (ok_same (s, ts) (t, rest) e)) ∙ is
  ends_by_zero false s t ts rest is e = absurd (cc)

  ends_by_one : (b : Bool) (more : Read S) (s t : S) (ts rest : List Lexeme) → done s ts ≡ b → (more ≡ Ok (t, rest) → done t rest ≡ true) → cond {A = Read S} b (Ok (s, ts)) more ≡ Ok (t, rest) → done t rest ≡ true
  ends_by_one true more s t ts rest is go e = sym (ap (λ (x : S × List Lexeme). done x.0 x.1) (ok_same (s, ts) (t, rest) e)) ∙ is
  ends_by_one false more s t ts rest is go e = go e

  turns-ends : (n : ℕ) (s t : S) (ts rest : List Lexeme) → turns done one n s ts ≡ Ok (t, rest) → done t rest ≡ true
  unfolding turns
  turns-ends zero s t ts rest e = ends_by_zero (done s ts) s t ts rest refl e
  turns-ends (suc n) s t ts rest e =
      ends_by_one (done s ts) (one s ts >>= λ r. turns done one n r.0 r.1) s t ts rest refl (λ more.
      let b = bind_ok (one s ts) (λ (r : S × List Lexeme). turns done one n r.0 r.1) (t, rest) more in
      turns-ends n b.0.0 t b.0.1 rest b.2) e

  -- turns end where they are done
  pub turns_at-ends : (s t : S) (ts rest : List Lexeme) → turns_at done one s ts ≡ Ok (t, rest) → done t rest ≡ true
  unfolding turns_at
  turns_at-ends s t ts rest e = turns-ends _ s t ts rest e
