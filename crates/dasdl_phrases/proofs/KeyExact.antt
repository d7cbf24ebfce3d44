-- A key is read exactly where it is one of at most 16 parts.
use Rattle.std.proofs.Common.{◌≡◌, ◌≤◌, ◌<◌, List, [], ◌∷◌, ◌++◌, map, length, length-append, Bool, true, false, not, refl, sym, ap, ◌∙◌, subst, arith, append_assoc}
use Rattle.std.proofs.lemmas.List.{map-append}
use Rattle.std.proofs.lemmas.Bool.Decides.{nat_tests}
use Rattle.std.specs.Prelude.{codes, nat_le}
use Rattle.std.specs.declared.result.Result.TheVariants.{Ok}
use Rattle.dms_tokens.specs.declared.token.Token.{Token}
use Rattle.dms_tokens.specs.declared.token.Token.TheVariants.{Sign}
use Rattle.dms_tokens.specs.declared.token.Lexeme.{Lexeme}
use Rattle.dasdl_phrases.specs.declared.key_parts.PartDecl.{PartDecl}
use Rattle.dms_tokens.specs.Cursors.{starts, is_word, is_the_sign}
use Rattle.dasdl_phrases.specs.Cursors.{is_free, word_at, sign_at, name_at, turns_at, until_close}
use Rattle.dasdl_phrases.specs.Keys.{direction_at, part_at, next_part_at, parts_at}
use Rattle.dasdl_phrases.specs.CondSpelling.{token_of, Reads}
use Rattle.dasdl_phrases.specs.KeySpelling.{IsDirection, IsPart, AreParts, IsKey}
use Rattle.dasdl_phrases.specs.KeySpelling.IsDirection.{not_said, ascending, descending}
use Rattle.dasdl_phrases.specs.KeySpelling.IsPart.{a_part}
use Rattle.dasdl_phrases.specs.KeySpelling.AreParts.{first_part, next_part}
use Rattle.dasdl_phrases.specs.KeySpelling.IsKey.{lone_part, in_brackets}
use Rattle.dasdl_phrases.proofs.Inverting.{bind_ok, skip_ok, ok_same}
use Rattle.dasdl_phrases.proofs.SpelledTokens.{word_spelled, sign_spelled, name_spelled}
use Rattle.dasdl_phrases.proofs.TurnsSound.{GoesTurn, turns_at-goes}
use Rattle.dasdl_phrases.proofs.CondSound.{pick}

direction_sound : (ts : List Lexeme) (d : Bool) (rest : List Lexeme) → direction_at ts ≡ Ok (d, rest) → Reads IsDirection ts d rest
unfolding direction_at
direction_sound ts d rest h =
    pick {A = Bool × List Lexeme} (starts (is_word (codes "ASCENDING")) ts) _ _ (d, rest)
    (λ e.
    let b = bind_ok (word_at (codes "ASCENDING") ts) _ _ e in
    let k = word_spelled (codes "ASCENDING") ts b.0 b.1 in
    subst (λ (x : Bool × List Lexeme). Reads IsDirection ts x.0 x.1) (ok_same (false, b.0) (d, rest) b.2) (record { used = k.first ∷ []; is = rw k.token ascending; all = k.all }))
    (pick {A = Bool × List Lexeme} (starts (is_word (codes "DESCENDING")) ts) _ _ (d, rest)
    (λ e.
    let b = bind_ok (word_at (codes "DESCENDING") ts) _ _ e in
    let k = word_spelled (codes "DESCENDING") ts b.0 b.1 in
    subst (λ (x : Bool × List Lexeme). Reads IsDirection ts x.0 x.1) (ok_same (true, b.0) (d, rest) b.2) (record { used = k.first ∷ []; is = rw k.token descending; all = k.all }))
    (λ e. subst (λ (x : Bool × List Lexeme). Reads IsDirection ts x.0 x.1) (ok_same (false, ts) (d, rest) e) (record { used = []; is = not_said; all = refl }))) h

-- one more part was read
record OneMorePart (parts all : List PartDecl) (ts rest : List Lexeme) : Type 0 where
  part : PartDecl
  used : List Lexeme
  is : IsPart part (map token_of used)
  tokens : ts ≡ used ++ rest
  together : all ≡ parts ++ part ∷ []
  few : length parts < 16

part_sound : (parts all : List PartDecl) (ts rest : List Lexeme) → part_at parts ts ≡ Ok (all, rest) → OneMorePart parts all ts rest
unfolding part_at
part_sound parts all ts rest h =
    let a = skip_ok (not (starts is_free ts)) _ _ _ h in
    let b = skip_ok (nat_le 16 (length parts)) _ _ _ a.1 in
    let c = bind_ok (name_at ts) _ _ b.1 in
    let e = bind_ok (direction_at c.0.1) _ _ c.2 in
    let n = name_spelled ts c.0.0 c.0.1 c.1 in
    let d = direction_sound c.0.1 e.0.0 e.0.1 e.1 in
    let g = ok_same (parts ++ record { name = c.0.0; descending = e.0.0 } ∷ [], e.0.1) (all, rest) e.2 in
    let below : nat_le 16 (length parts) ≡ false = b.0 in
    subst (λ (x : List PartDecl × List Lexeme). OneMorePart parts x.0 ts x.1) g (record {
      part = record { name = c.0.0; descending = e.0.0 };
      used = n.1.first ∷ d.used;
      is = rw n.1.token (a_part c.0.0 e.0.0 (map token_of d.used) n.0 d.is);
      tokens = n.1.all ∙ ap (λ (xs : List Lexeme). n.1.first ∷ xs) d.all;
      together = refl;
      few = grind (arith, nat_tests);
    })

-- parts, and at most 16
record Some16 (parts : List PartDecl) (ts : List Token) : Type 0 where
  are : AreParts parts ts
  few : length parts ≤ 16

next_sound : (parts all : List PartDecl) (toks : List Token) (ts rest : List Lexeme) → Some16 parts toks → next_part_at parts ts ≡ Ok (all, rest) → GoesTurn Some16 all toks ts rest
unfolding next_part_at
next_sound parts all toks ts rest s h =
    let b = bind_ok (sign_at 44 ts) _ _ h in
    let k = sign_spelled 44 ts b.0 b.1 in
    let m = part_sound parts all b.0 rest b.2 in
    let more : AreParts (parts ++ m.part ∷ []) (toks ++ (Sign 44 ∷ map token_of m.used)) = next_part parts m.part toks (map token_of m.used) s.are m.is in
    record {
      used = k.first ∷ m.used;
      is = subst (λ (x : List PartDecl). Some16 x (toks ++ (k.first.token ∷ map token_of m.used))) (sym m.together) (rw k.token (record { are = more; few = omega (arith, m.few, length-append parts (m.part ∷ [])) }));
      all = k.all ∙ ap (λ (xs : List Lexeme). k.first ∷ xs) m.tokens;
    }

pub key_sound : (ts : List Lexeme) (parts : List PartDecl) (rest : List Lexeme) → parts_at ts ≡ Ok (parts, rest) → Reads IsKey ts parts rest × (length parts ≤ 16)
unfolding parts_at
key_sound ts parts rest h =
    pick {A = List PartDecl × List Lexeme} (not (starts (is_the_sign 40) ts)) _ _ (parts, rest)
    (λ e.
    let m = part_sound [] parts ts rest e in
    let is : IsKey (m.part ∷ []) (map token_of m.used) = lone_part m.part (map token_of m.used) m.is in
    (record { used = m.used; is = subst (λ (x : List PartDecl). IsKey x (map token_of m.used)) (sym m.together) is; all = m.tokens }, subst (λ (x : List PartDecl). length x ≤ 16) (sym m.together) (omega arith)))
    (λ e.
    let a = bind_ok (sign_at 40 ts) _ _ e in
    let b = bind_ok (part_at [] a.0) _ _ a.2 in
    let c = bind_ok (turns_at until_close next_part_at b.0.0 b.0.1) _ _ b.2 in
    let d = bind_ok (sign_at 41 c.0.1) _ _ c.2 in
    let k = sign_spelled 40 ts a.0 a.1 in
    let m = part_sound [] b.0.0 a.0 b.0.1 b.1 in
    let start : Some16 b.0.0 (map token_of m.used) = subst (λ (x : List PartDecl). Some16 x (map token_of m.used)) (sym m.together) (record { are = first_part m.part (map token_of m.used) m.is; few = omega arith }) in
    let g = turns_at-goes Some16 until_close next_part_at next_sound b.0.0 c.0.0 (map token_of m.used) b.0.1 c.0.1 start c.1 in
    let n = sign_spelled 41 c.0.1 d.0 d.1 in
    let toks : map token_of (k.first ∷ ((m.used ++ g.used) ++ (n.first ∷ []))) ≡ Sign 40 ∷ ((map token_of m.used ++ map token_of g.used) ++ (Sign 41 ∷ [])) = rw (k.token, map-append token_of (m.used ++ g.used) (n.first ∷ []), map-append token_of m.used g.used, n.token) refl in
    let is : IsKey c.0.0 (Sign 40 ∷ ((map token_of m.used ++ map token_of g.used) ++ (Sign 41 ∷ []))) = in_brackets c.0.0 (map token_of m.used ++ map token_of g.used) g.is.are in
    let all : ts ≡ (k.first ∷ ((m.used ++ g.used) ++ (n.first ∷ []))) ++ d.0 = k.all ∙ ap (λ (xs : List Lexeme). k.first ∷ xs) (m.tokens ∙ ap (λ (xs : List Lexeme). m.used ++ xs) (g.all ∙ ap (λ (xs : List Lexeme). g.used ++ xs) n.all) ∙ simp append_assoc) in
    subst (λ (x : List PartDecl × List Lexeme). Reads IsKey ts x.0 x.1 × (length x.0 ≤ 16)) (ok_same (c.0.0, d.0) (parts, rest) d.2)
    (record { used = k.first ∷ ((m.used ++ g.used) ++ (n.first ∷ [])); is = rw toks is; all = all }, g.is.few)) h
