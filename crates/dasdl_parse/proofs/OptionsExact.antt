-- Options are read exactly where they are some, and for what they say together.
use Rattle.std.proofs.Common.{◌≡◌, ◌<◌, ℕ, List, [], ◌∷◌, ◌++◌, map, length, length-append, Bool, true, false, cond, ◌⊎◌, inl, inr, refl, sym, ap, ◌∙◌, subst, arith, append_assoc}
use Rattle.std.specs.declared.result.Result.TheVariants.{Ok}
use Rattle.dms_tokens.specs.declared.token.Token.{Token}
use Rattle.dms_tokens.specs.declared.token.Token.TheVariants.{Word, Sign}
use Rattle.dms_tokens.specs.declared.token.Lexeme.{Lexeme}
use Rattle.dasdl_phrases.specs.Reads.{◌>>=◌, Read, Pass}
use Rattle.dms_tokens.specs.Cursors.{starts, is_the_sign}
use Rattle.dasdl_phrases.specs.Cursors.{turns_at, comma_at, until_semicolon}
use Rattle.dasdl_phrases.specs.CondSpelling.{token_of, Reads}
use Rattle.dasdl_parse.specs.OptionSpelling.{Options}
use Rattle.dasdl_parse.specs.OptionSpelling.Options.{none_said, one_more, behind_comma}
use Rattle.dasdl_phrases.proofs.Inverting.{bind_ok, ok_same}
use Rattle.dasdl_phrases.proofs.SpelledTokens.{is_sign_is}
use Rattle.dasdl_phrases.proofs.TurnsSound.{GoesTurn, turns_at-goes}
use Rattle.dasdl_phrases.proofs.CondComplete.{RunsBranches, joins, turns_at-runs, splits, heads, none_left}
use Rattle.dasdl_phrases.proofs.CondComplete.RunsBranches.{here, step}

-- a comma was left behind, or there was none
pub comma_cases : (b : Bool) (l : Lexeme) (ls rest : List Lexeme) → ◌≡◌ {A = Pass} (Ok (cond b ls (l ∷ ls))) (Ok rest) → ((b ≡ true) × (ls ≡ rest)) ⊎ (l ∷ ls ≡ rest)
comma_cases true l ls rest h = inl (refl, ok_same ls rest h)
comma_cases false l ls rest h = inr (ok_same (l ∷ ls) rest h)

pub comma_none : (l : Lexeme) (ls : List Lexeme) (w : List ℕ) → l.token ≡ Word w → comma_at (l ∷ ls) ≡ Ok (l ∷ ls)
unfolding comma_at
comma_none l ls w e = rw e refl

pub comma_one : (l : Lexeme) (ls : List Lexeme) → l.token ≡ Sign 44 → comma_at (l ∷ ls) ≡ Ok ls
unfolding comma_at
comma_one l ls e = rw e refl

-- no option is empty or begins with a sign
pub record BeginsOption (xs : List Token) : Type 0 where
  pub word : List ℕ
  pub others : List Token
  pub all : xs ≡ Word word ∷ others

module _ {S : Type 0} (nothing : S) (option : S → S → List Token → Type 0) (one : S → List Lexeme → Read S) (next : S → List Lexeme → Read S) (is_next : (s : S) (ts : List Lexeme) → next s ts ≡ (comma_at ts >>= λ ts1. one s ts1)) (is_sound : (s t : S) (ts rest : List Lexeme) → one s ts ≡ Ok (t, rest) → Reads (option s) ts t rest) (is_complete : (s t : S) (us rest : List Lexeme) → option s t (map token_of us) → one s (us ++ rest) ≡ Ok (t, rest)) (begins : (s t : S) (xs : List Token) → option s t xs → BeginsOption xs) where
  more : (s t : S) (toks : List Token) (ts rest : List Lexeme) → Options nothing option s toks → one s ts ≡ Ok (t, rest) → GoesTurn (Options nothing option) t toks ts rest
  more s t toks ts rest h e =
      let r = is_sound s t ts rest e in
      record { used = r.used; is = one_more s t toks (map token_of r.used) h r.is; all = r.all }

  more_behind : (s t : S) (toks : List Token) (l : Lexeme) (ts rest : List Lexeme) → l.token ≡ Sign 44 → Options nothing option s toks → one s ts ≡ Ok (t, rest) → GoesTurn (Options nothing option) t toks (l ∷ ts) rest
  more_behind s t toks l ts rest c h e =
      let r = is_sound s t ts rest e in
      record { used = l ∷ r.used; is = rw c (behind_comma s t toks (map token_of r.used) h r.is); all = ap (λ (xs : List Lexeme). l ∷ xs) r.all }

  after_comma : (s t : S) (toks : List Token) (ts mid rest : List Lexeme) → comma_at ts ≡ Ok mid → Options nothing option s toks → one s mid ≡ Ok (t, rest) → GoesTurn (Options nothing option) t toks ts rest
  unfolding comma_at
  after_comma s t toks [] mid rest c h e = more s t toks [] rest h (rw (ok_same [] mid c) e)
  after_comma s t toks (l ∷ ls) mid rest c h e =
      elim (comma_cases (is_the_sign 44 l.token) l ls mid c) [
        | inl p ↦ more_behind s t toks l ls rest (is_sign_is 44 l.token p.0) h (rw p.1 e)
        | inr p ↦ more s t toks (l ∷ ls) rest h (rw p e)
      ]

  keeps : (s t : S) (toks : List Token) (ts rest : List Lexeme) → Options nothing option s toks → next s ts ≡ Ok (t, rest) → GoesTurn (Options nothing option) t toks ts rest
  keeps s t toks ts rest h e =
      let b = bind_ok (comma_at ts) (λ (ts1 : List Lexeme). one s ts1) (t, rest) (sym (is_next s ts) ∙ e) in
      after_comma s t toks ts b.0 rest b.1 h b.2

  pub options_sound : (ts : List Lexeme) (t : S) (rest : List Lexeme) → turns_at until_semicolon next nothing ts ≡ Ok (t, rest) → Reads (Options nothing option) ts t rest
  options_sound ts t rest h =
      let g = turns_at-goes (Options nothing option) until_semicolon next keeps nothing t [] ts rest none_said h in
      record { used = g.used; is = g.is; all = g.all }

  -- one more option is one more turn
  plain_step : (s t : S) (us rest : List Lexeme) → option s t (map token_of us) → RunsBranches until_semicolon next s (us ++ rest) t rest
  plain_step s t us rest o =
      let b = begins s t (map token_of us) o in
      let k = heads us (Word b.word) b.others b.all in
      let go : until_semicolon s (us ++ rest) ≡ false = rw (k.all, k.token) refl in
      let c : comma_at (us ++ rest) ≡ Ok (us ++ rest) = rw k.all (comma_none k.l (k.b ++ rest) b.word k.token) in
      let n : next s (us ++ rest) ≡ Ok (t, rest) = is_next s (us ++ rest) ∙ rw c (is_complete s t us rest o) in
      let shorter : length rest < length (us ++ rest) = rw k.all (omega (arith, length-append k.b rest)) in
      step s t t (us ++ rest) rest rest go n shorter (here t rest)

  comma_step : (s t : S) (l : Lexeme) (us rest : List Lexeme) → l.token ≡ Sign 44 → option s t (map token_of us) → RunsBranches until_semicolon next s (l ∷ (us ++ rest)) t rest
  comma_step s t l us rest e o =
      let go : until_semicolon s (l ∷ (us ++ rest)) ≡ false = rw e refl in
      let n : next s (l ∷ (us ++ rest)) ≡ Ok (t, rest) = is_next s (l ∷ (us ++ rest)) ∙ rw (comma_one l (us ++ rest) e) (is_complete s t us rest o) in
      step s t t (l ∷ (us ++ rest)) rest rest go n (omega (arith, length-append us rest)) (here t rest)

  reaches : (t : S) (toks : List Token) → Options nothing option t toks → (us rest : List Lexeme) → map token_of us ≡ toks → RunsBranches until_semicolon next nothing (us ++ rest) t rest
  reaches _ _ none_said us rest e = rw (none_left us e) (here nothing rest)
  reaches _ _ (one_more s t xs ys d o) us rest e =
      let k = splits us xs ys e in
      let before = reaches s xs d k.a (k.b ++ rest) k.front in
      let last = plain_step s t k.b rest (subst (λ (zs : List Token). option s t zs) (sym k.back) o) in
      let same : us ++ rest ≡ k.a ++ (k.b ++ rest) = ap (λ (vs : List Lexeme). vs ++ rest) k.all ∙ append_assoc k.a k.b rest in
      rw same (joins until_semicolon next nothing s t (k.a ++ (k.b ++ rest)) (k.b ++ rest) rest before last)
  reaches _ _ (behind_comma s t xs ys d o) us rest e =
      let k = splits us xs (Sign 44 ∷ ys) e in
      let m = heads k.b (Sign 44) ys k.back in
      let before = reaches s xs d k.a (m.l ∷ (m.b ++ rest)) k.front in
      let last = comma_step s t m.l m.b rest m.token (subst (λ (zs : List Token). option s t zs) (sym m.back) o) in
      let same : us ++ rest ≡ k.a ++ (m.l ∷ (m.b ++ rest)) = ap (λ (vs : List Lexeme). vs ++ rest) k.all ∙ append_assoc k.a k.b rest ∙ ap (λ (vs : List Lexeme). k.a ++ (vs ++ rest)) m.all in
      rw same (joins until_semicolon next nothing s t (k.a ++ (m.l ∷ (m.b ++ rest))) (m.l ∷ (m.b ++ rest)) rest before last)

  pub options_complete : (us rest : List Lexeme) (t : S) → Options nothing option t (map token_of us) → starts (is_the_sign 59) rest ≡ true → turns_at until_semicolon next nothing (us ++ rest) ≡ Ok (t, rest)
  options_complete us rest t d e = turns_at-runs until_semicolon next nothing t (us ++ rest) rest (reaches t (map token_of us) d us rest refl) e
