-- Options with places are read exactly where they are some, and for what they say together.
use Rattle.std.proofs.Common.{◌≡◌, ◌<◌, ℕ, zero, suc, List, [], ◌∷◌, ◌++◌, length, length-append, Bool, true, false, inl, inr, refl, sym, ap, ◌∙◌, subst, arith, append_assoc}
use Rattle.std.proofs.lemmas.List.{append-nil}
use Rattle.std.specs.Prelude.{codes}
use Rattle.std.specs.declared.result.Result.TheVariants.{Ok, Err}
use Rattle.dms_tokens.specs.declared.token.Token.TheVariants.{Word, Sign}
use Rattle.dms_tokens.specs.declared.token.Lexeme.{Lexeme}
use Rattle.dasdl_phrases.specs.Reads.{◌>>=◌, Read}
use Rattle.dms_tokens.specs.Cursors.{starts, is_word, is_the_sign}
use Rattle.dasdl_phrases.specs.Cursors.{turns, turns_at, fault_at, comma_at, until_semicolon}
use Rattle.dasdl_grammar.specs.SaidSpelling.{Said}
use Rattle.dasdl_grammar.specs.SaidSpelling.Said.{nothing_said, said_more, said_behind_comma}
use Rattle.dasdl_phrases.proofs.Inverting.{bind_ok, ok_same}
use Rattle.dasdl_phrases.proofs.SpelledTokens.{is_sign_is}
use Rattle.dasdl_phrases.proofs.CondSound.{pick}
use Rattle.dasdl_phrases.proofs.CondComplete.{RunsBranches, joins, turns_at-runs}
use Rattle.dasdl_phrases.proofs.CondComplete.RunsBranches.{here, step}
use Rattle.dasdl_parse.proofs.OptionsExact.{comma_cases, comma_none, comma_one}

-- these lexemes more are read, and it holds of all
pub record Went {S : Type 0} (holds : S → List Lexeme → Type 0) (t : S) (us : List Lexeme) (ts rest : List Lexeme) : Type 0 where
  pub used : List Lexeme
  pub is : holds t (us ++ used)
  pub all : ts ≡ used ++ rest

module _ {S : Type 0} (holds : S → List Lexeme → Type 0) (done : S → List Lexeme → Bool) (one : S → List Lexeme → Read S) (keeps : (s t : S) (us ts rest : List Lexeme) → holds s us → one s ts ≡ Ok (t, rest) → Went holds t us ts rest) where
  stays : (s t : S) (us ts rest : List Lexeme) → holds s us → ◌≡◌ {A = S × List Lexeme} (s, ts) (t, rest) → Went holds t us ts rest
  stays s t us ts rest h e = record {
    used = [];
    is = rw (append-nil) (subst (λ (x : S × List Lexeme). holds x.0 us) e h);
    all = ap (λ (x : S × List Lexeme). x.1) e;
  }

  then_went : (s t : S) (us ts mid rest : List Lexeme) (g : Went holds s us ts mid) → Went holds t (us ++ g.used) mid rest → Went holds t us ts rest
  then_went s t us ts mid rest g k = record {
    used = g.used ++ k.used;
    is = rw (← append_assoc us g.used k.used) k.is;
    all = g.all ∙ ap (λ (xs : List Lexeme). g.used ++ xs) k.all ∙ sym (append_assoc g.used k.used rest);
  }

  turns-went : (n : ℕ) (s t : S) (us ts rest : List Lexeme) → holds s us → turns done one n s ts ≡ Ok (t, rest) → Went holds t us ts rest
  unfolding turns
  turns-went zero s t us ts rest h e =
      pick {A = S × List Lexeme} (done s ts) (Ok (s, ts)) (Err (fault_at ts)) (t, rest) (λ f. stays s t us ts rest h (ok_same (s, ts) (t, rest) f)) (λ f. absurd (cc)) e
  turns-went (suc n) s t us ts rest h e =
      pick {A = S × List Lexeme} (done s ts) (Ok (s, ts)) (one s ts >>= λ r. turns done one n r.0 r.1) (t, rest) (λ f. stays s t us ts rest h (ok_same (s, ts) (t, rest) f))
      (λ f.
      let b = bind_ok (one s ts) (λ (r : S × List Lexeme). turns done one n r.0 r.1) (t, rest) f in
      let g = keeps s b.0.0 us ts b.0.1 h b.1 in
      then_went b.0.0 t us ts b.0.1 rest g (turns-went n b.0.0 t (us ++ g.used) b.0.1 rest g.is b.2)) e

  pub turns_at-went : (s t : S) (us ts rest : List Lexeme) → holds s us → turns_at done one s ts ≡ Ok (t, rest) → Went holds t us ts rest
  unfolding turns_at
  turns_at-went s t us ts rest h e = turns-went _ s t us ts rest h e

-- what may stand behind a condition or a part of a key: none of the words that go on with it
pub record FollowsSaid (rest : List Lexeme) : Type 0 where
  pub no_and : starts (is_word (codes "AND")) rest ≡ false
  pub no_or : starts (is_word (codes "OR")) rest ≡ false
  pub no_up : starts (is_word (codes "ASCENDING")) rest ≡ false
  pub no_down : starts (is_word (codes "DESCENDING")) rest ≡ false

pub follows_sign : (s : ℕ) (l : Lexeme) (ls : List Lexeme) → l.token ≡ Sign s → FollowsSaid (l ∷ ls)
follows_sign s l ls e = record { no_and = rw e refl; no_or = rw e refl; no_up = rw e refl; no_down = rw e refl }

-- how an option begins: by a word of its own
pub record Opens (us : List Lexeme) : Type 0 where
  pub word : List ℕ
  pub first : Lexeme
  pub others : List Lexeme
  pub all : us ≡ first ∷ others
  pub token : first.token ≡ Word word
  pub follows : (rest : List Lexeme) → FollowsSaid (us ++ rest)

module _ {S : Type 0} (nothing : S) (option : S → S → List Lexeme → Type 0) (one : S → List Lexeme → Read S) (next : S → List Lexeme → Read S) (is_next : (s : S) (ts : List Lexeme) → next s ts ≡ (comma_at ts >>= λ ts1. one s ts1)) (is_sound : (s t : S) (ts rest : List Lexeme) → one s ts ≡ Ok (t, rest) → (used : List Lexeme) × option s t used × (ts ≡ used ++ rest)) (is_complete : (s t : S) (us rest : List Lexeme) → option s t us → FollowsSaid rest → one s (us ++ rest) ≡ Ok (t, rest)) (opens : (s t : S) (us : List Lexeme) → option s t us → Opens us) where
  more : (s t : S) (us ts rest : List Lexeme) → Said nothing option s us → one s ts ≡ Ok (t, rest) → Went (Said nothing option) t us ts rest
  more s t us ts rest h e =
      let r = is_sound s t ts rest e in
      record { used = r.0; is = said_more s t us r.0 h r.1; all = r.2 }

  more_behind : (s t : S) (us : List Lexeme) (l : Lexeme) (ts rest : List Lexeme) → l.token ≡ Sign 44 → Said nothing option s us → one s ts ≡ Ok (t, rest) → Went (Said nothing option) t us (l ∷ ts) rest
  more_behind s t us l ts rest c h e =
      let r = is_sound s t ts rest e in
      record { used = l ∷ r.0; is = said_behind_comma s t us l r.0 h c r.1; all = ap (λ (xs : List Lexeme). l ∷ xs) r.2 }

  after_comma : (s t : S) (us ts mid rest : List Lexeme) → comma_at ts ≡ Ok mid → Said nothing option s us → one s mid ≡ Ok (t, rest) → Went (Said nothing option) t us ts rest
  unfolding comma_at
  after_comma s t us [] mid rest c h e = more s t us [] rest h (rw (ok_same [] mid c) e)
  after_comma s t us (l ∷ ls) mid rest c h e =
      elim (comma_cases (is_the_sign 44 l.token) l ls mid c) [
        | inl p ↦ more_behind s t us l ls rest (is_sign_is 44 l.token p.0) h (rw p.1 e)
        | inr p ↦ more s t us (l ∷ ls) rest h (rw p e)
      ]

  keeps : (s t : S) (us ts rest : List Lexeme) → Said nothing option s us → next s ts ≡ Ok (t, rest) → Went (Said nothing option) t us ts rest
  keeps s t us ts rest h e =
      let b = bind_ok (comma_at ts) (λ (ts1 : List Lexeme). one s ts1) (t, rest) (sym (is_next s ts) ∙ e) in
      after_comma s t us ts b.0 rest b.1 h b.2

  pub said_sound : (ts : List Lexeme) (t : S) (rest : List Lexeme) → turns_at until_semicolon next nothing ts ≡ Ok (t, rest) → (used : List Lexeme) × Said nothing option t used × (ts ≡ used ++ rest)
  said_sound ts t rest h =
      let g = turns_at-went (Said nothing option) until_semicolon next keeps nothing t [] ts rest nothing_said h in
      (g.used, g.is, g.all)

  plain_step : (s t : S) (us rest : List Lexeme) → option s t us → FollowsSaid rest → RunsBranches until_semicolon next s (us ++ rest) t rest
  plain_step s t us rest o f =
      let k = opens s t us o in
      let go : until_semicolon s (us ++ rest) ≡ false = rw (k.all, k.token) refl in
      let c : comma_at (us ++ rest) ≡ Ok (us ++ rest) = rw k.all (comma_none k.first (k.others ++ rest) k.word k.token) in
      let n : next s (us ++ rest) ≡ Ok (t, rest) = is_next s (us ++ rest) ∙ rw c (is_complete s t us rest o f) in
      let shorter : length rest < length (us ++ rest) = rw k.all (omega (arith, length-append k.others rest)) in
      step s t t (us ++ rest) rest rest go n shorter (here t rest)

  comma_step : (s t : S) (l : Lexeme) (us rest : List Lexeme) → l.token ≡ Sign 44 → option s t us → FollowsSaid rest → RunsBranches until_semicolon next s (l ∷ (us ++ rest)) t rest
  comma_step s t l us rest e o f =
      let go : until_semicolon s (l ∷ (us ++ rest)) ≡ false = rw e refl in
      let n : next s (l ∷ (us ++ rest)) ≡ Ok (t, rest) = is_next s (l ∷ (us ++ rest)) ∙ rw (comma_one l (us ++ rest) e) (is_complete s t us rest o f) in
      step s t t (l ∷ (us ++ rest)) rest rest go n (omega (arith, length-append us rest)) (here t rest)

  reaches : (t : S) (us : List Lexeme) → Said nothing option t us → (rest : List Lexeme) → FollowsSaid rest → RunsBranches until_semicolon next nothing (us ++ rest) t rest
  reaches _ _ nothing_said rest f = here nothing rest
  reaches _ _ (said_more s t us vs d o) rest f =
      let before = reaches s us d (vs ++ rest) ((opens s t vs o).follows rest) in
      rw (append_assoc us vs rest) (joins until_semicolon next nothing s t (us ++ (vs ++ rest)) (vs ++ rest) rest before (plain_step s t vs rest o f))
  reaches _ _ (said_behind_comma s t us l vs d c o) rest f =
      let before = reaches s us d (l ∷ (vs ++ rest)) (follows_sign 44 l (vs ++ rest) c) in
      rw (append_assoc us (l ∷ vs) rest) (joins until_semicolon next nothing s t (us ++ (l ∷ (vs ++ rest))) (l ∷ (vs ++ rest)) rest before (comma_step s t l vs rest c o f))

  pub said_complete : (us rest : List Lexeme) (t : S) (z : Lexeme) → Said nothing option t us → z.token ≡ Sign 59 → turns_at until_semicolon next nothing (us ++ (z ∷ rest)) ≡ Ok (t, z ∷ rest)
  said_complete us rest t z d e =
      let ends : until_semicolon t (z ∷ rest) ≡ true = rw e refl in
      turns_at-runs until_semicolon next nothing t (us ++ (z ∷ rest)) (z ∷ rest) (reaches t us d (z ∷ rest) (follows_sign 59 z rest e)) ends
