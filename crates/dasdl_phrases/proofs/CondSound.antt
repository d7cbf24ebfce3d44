-- A condition that was read is one of the grammar, with the tree that it spells.
use Rattle.std.proofs.Common.{◌+◌, ◌≡◌, ℕ, zero, suc, List, [], ◌∷◌, ◌++◌, map, replicate, Bool, true, false, cond, not, ◌&&◌, ◌||◌, refl, sym, ap, ◌∙◌, subst, arith, append_assoc}
use Rattle.std.proofs.lemmas.Bool.{and_parts}
use Rattle.std.proofs.lemmas.List.{append-nil}
use Rattle.std.specs.Prelude.{codes, nat_le, Some, None, is_some}
use Rattle.std.specs.declared.option.Option.{Option}
use Rattle.std.specs.declared.result.Result.{Result}
use Rattle.std.specs.declared.result.Result.TheVariants.{Ok}
use Rattle.dasdl_phrases.specs.declared.fault.ParseFault.{ParseFault}
use Rattle.dms_tokens.specs.declared.token.Token.{Token}
use Rattle.dms_tokens.specs.declared.token.Token.TheVariants.{Word, Sign}
use Rattle.dms_tokens.specs.declared.token.Lexeme.{Lexeme}
use Rattle.dasdl_phrases.specs.declared.levels.Level.{Level}
use Rattle.dasdl_phrases.specs.declared.cond.CondRead.{CondRead}
use Rattle.dasdl_phrases.specs.TreeCodes.{WrittenTree}
use Rattle.dasdl_phrases.specs.TreeCodes.WrittenTree.{Test}
use Rattle.dasdl_phrases.specs.Branches.{under_nots, with_and, with_or, is_nil}
use Rattle.dms_tokens.specs.Cursors.{starts, is_word, is_the_sign}
use Rattle.dasdl_phrases.specs.Cursors.{is_free, word_at, sign_at, name_at, turns_at}
use Rattle.dasdl_phrases.specs.Kinds.{literal_at}
use Rattle.dasdl_phrases.specs.Conditions.{close_factor, no_level, no_cond, op_at, compare_at, compare_turn_at, not_turn_at, open_turn_at, factor_turn_at, and_turn_at, or_turn_at, close_turn_at, join_turn_at, cond_turn_by, cond_turn_at, cond_done, cond_at, end_condition}
use Rattle.dasdl_phrases.specs.CondSpelling.{token_of, IsCond, Reads}
use Rattle.dasdl_phrases.specs.CondSpelling.CondPart.{Whole, Term, Factor}
use Rattle.dasdl_phrases.specs.CondSpelling.IsCond.{a_term, an_or, a_factor, an_and, a_not, brackets, a_test}
use Rattle.dasdl_phrases.proofs.Inverting.{bind_ok, skip_ok, ok_same}
use Rattle.dasdl_phrases.proofs.SpelledTokens.{word_spelled, sign_spelled, name_spelled, op_spelled, literal_spelled}
use Rattle.dasdl_phrases.proofs.TurnsSound.{GoesTurn, turns_at-goes, turns_at-ends}

-- what stands before OR
abbrev IsEither : Option WrittenTree → List Token → Type 0
IsEither None ts = ts ≡ []
IsEither (Some a) ts = (xs : List Token) × IsCond Whole a xs × (ts ≡ xs ++ (Word (codes "OR") ∷ []))

-- what stands before AND
abbrev IsBoth : Option WrittenTree → List Token → Type 0
IsBoth None ts = ts ≡ []
IsBoth (Some a) ts = (xs : List Token) × IsCond Term a xs × (ts ≡ xs ++ (Word (codes "AND") ∷ []))

abbrev nots_of : ℕ → List Token
nots_of n = replicate n (Word (codes "NOT"))

-- what stands within a pair of brackets, before a factor
record IsLevel (level : Level) (ts : List Token) : Type 0 where
  either : List Token
  both : List Token
  before_or : IsEither level.either either
  before_and : IsBoth level.both both
  all : ts ≡ either ++ (both ++ nots_of level.nots)

-- what stands outside the innermost brackets
abbrev AreOuterLevels : List Level → List Token → Type 0
AreOuterLevels [] ts = ts ≡ []
AreOuterLevels (l ∷ ls) ts = (front : List Token) × (own : List Token) × AreOuterLevels ls front × IsLevel l own × (ts ≡ front ++ (own ++ (Sign 40 ∷ [])))

-- what has been read where a factor is wanted
record IsWanting (outer : List Level) (level : Level) (ts : List Token) : Type 0 where
  front : List Token
  own : List Token
  outside : AreOuterLevels outer front
  inside : IsLevel level own
  all : ts ≡ front ++ own

-- what has been read where a factor has been read
record IsDone (outer : List Level) (level : Level) (t : WrittenTree) (ts : List Token) : Type 0 where
  front : List Token
  either : List Token
  term : List Token
  outside : AreOuterLevels outer front
  before_or : IsEither level.either either
  is : IsCond Term t term
  all : ts ≡ front ++ (either ++ term)

abbrev StandsBy : Option WrittenTree → List Level → Level → List Token → Type 0
StandsBy None outer level ts = IsWanting outer level ts
StandsBy (Some t) outer level ts = IsDone outer level t ts

abbrev StandsRead : CondRead → List Token → Type 0
StandsRead s ts = StandsBy s.done s.outer s.level ts

with_either : (e : Option WrittenTree) (ts zs : List Token) (t : WrittenTree) → IsEither e ts → IsCond Term t zs → IsCond Whole (with_or e t) (ts ++ zs)
with_either None ts zs t is h = rw is (a_term t zs h)
with_either (Some a) ts zs t is h = rw (is.2, append_assoc) (an_or a t is.0 zs is.1 h)

with_both : (e : Option WrittenTree) (ts zs : List Token) (t : WrittenTree) → IsBoth e ts → IsCond Factor t zs → IsCond Term (with_and e t) (ts ++ zs)
with_both None ts zs t is h = rw is (a_factor t zs h)
with_both (Some a) ts zs t is h = rw (is.2, append_assoc) (an_and a t is.0 zs is.1 h)

turned : (n : ℕ) (t : WrittenTree) (zs : List Token) → IsCond Factor t zs → IsCond Factor (under_nots n t) (nots_of n ++ zs)
turned zero t zs h = h
turned (suc n) t zs h = a_not (under_nots n t) (nots_of n ++ zs) (turned n t zs h)

nots_more : (n : ℕ) → nots_of (n + 1) ≡ nots_of n ++ (Word (codes "NOT") ∷ [])
nots_more zero = refl
nots_more (suc n) = let k : suc n + 1 ≡ suc (n + 1) = omega arith in rw k (ap (λ (xs : List Token). Word (codes "NOT") ∷ xs) (nots_more n))

completes : (outer : List Level) (level : Level) (nodes : ℕ) (t : WrittenTree) (front own zs : List Token) → AreOuterLevels outer front → IsLevel level own → IsCond Factor t zs → StandsRead (close_factor outer level nodes t) ((front ++ own) ++ zs)
unfolding close_factor
completes outer level nodes t front own zs o l f = record {
  front = front;
  either = l.either;
  term = l.both ++ (nots_of level.nots ++ zs);
  outside = o;
  before_or = l.before_or;
  is = with_both level.both l.both (nots_of level.nots ++ zs) (under_nots level.nots t) l.before_and (turned level.nots t zs f);
  all = ap (λ (xs : List Token). (front ++ xs) ++ zs) l.all ∙ simp append_assoc;
}

compare_spelled : (ts : List Lexeme) (t : WrittenTree) (rest : List Lexeme) → compare_at ts ≡ Ok (t, rest) → Reads (IsCond Factor) ts t rest
unfolding compare_at
compare_spelled ts t rest h =
    let a = bind_ok (name_at ts) _ _ h in
    let b = bind_ok (op_at a.0.1) _ _ a.2 in
    let c = bind_ok (literal_at b.0.1) _ _ b.2 in
    let n = name_spelled ts a.0.0 a.0.1 a.1 in
    let o = op_spelled a.0.1 b.0.0 b.0.1 b.1 in
    let l = literal_spelled b.0.1 c.0.0 c.0.1 c.1 in
    let g = ok_same (Test a.0.0 b.0.0 c.0.0, c.0.1) (t, rest) c.2 in
    subst (λ (x : WrittenTree × List Lexeme). Reads (IsCond Factor) ts x.0 x.1) g (record {
      used = n.1.first ∷ (o.first ∷ (l.first ∷ []));
      is = rw (n.1.token, o.token) (a_test a.0.0 b.0.0 c.0.0 l.first.token n.0 l.is);
      all = n.1.all ∙ ap (λ (xs : List Lexeme). n.1.first ∷ xs) (o.all ∙ ap (λ (xs : List Lexeme). o.first ∷ xs) l.all);
    })

compare_goes : (s t : CondRead) (toks : List Token) (ts rest : List Lexeme) → IsWanting s.outer s.level toks → compare_turn_at s ts ≡ Ok (t, rest) → GoesTurn StandsRead t toks ts rest
unfolding compare_turn_at
compare_goes s t toks ts rest w h =
    let a = skip_ok (not (starts is_free ts)) _ _ _ h in
    let b = skip_ok (nat_le 100 s.nodes) _ _ _ a.1 in
    let c = bind_ok (compare_at ts) _ _ b.1 in
    let r = compare_spelled ts c.0.0 c.0.1 c.1 in
    let g = ok_same (close_factor s.outer s.level (s.nodes + 1) c.0.0, c.0.1) (t, rest) c.2 in
    subst (λ (x : CondRead × List Lexeme). GoesTurn StandsRead x.0 toks ts x.1) g (record {
      used = r.used;
      is = rw w.all (completes s.outer s.level (s.nodes + 1) c.0.0 w.front w.own (map token_of r.used) w.outside w.inside r.is);
      all = r.all;
    })

not_goes : (s t : CondRead) (toks : List Token) (ts rest : List Lexeme) → IsWanting s.outer s.level toks → not_turn_at s ts ≡ Ok (t, rest) → GoesTurn StandsRead t toks ts rest
unfolding not_turn_at
not_goes s t toks ts rest w h =
    let a = skip_ok (nat_le 100 s.nodes || nat_le 100 s.level.nots) _ _ _ h in
    let b = bind_ok (word_at (codes "NOT") ts) _ _ a.1 in
    let k = word_spelled (codes "NOT") ts b.0 b.1 in
    let g = ok_same (record { outer = s.outer; level = record { either = s.level.either; both = s.level.both; nots = s.level.nots + 1 }; done = None; nodes = s.nodes + 1 }, b.0) (t, rest) b.2 in
    subst (λ (x : CondRead × List Lexeme). GoesTurn StandsRead x.0 toks ts x.1) g (record {
      used = k.first ∷ [];
      is = rw k.token (record {
        front = w.front;
        own = w.own ++ (Word (codes "NOT") ∷ []);
        outside = w.outside;
        inside = record {
          either = w.inside.either;
          both = w.inside.both;
          before_or = w.inside.before_or;
          before_and = w.inside.before_and;
          all = rw (w.inside.all, nots_more) (simp append_assoc);
        };
        all = ap (λ (xs : List Token). xs ++ (Word (codes "NOT") ∷ [])) w.all ∙ append_assoc w.front w.own (Word (codes "NOT") ∷ []);
      });
      all = k.all;
    })

open_goes : (s t : CondRead) (toks : List Token) (ts rest : List Lexeme) → IsWanting s.outer s.level toks → open_turn_at s ts ≡ Ok (t, rest) → GoesTurn StandsRead t toks ts rest
unfolding open_turn_at
open_goes s t toks ts rest w h =
    let b = bind_ok (sign_at 40 ts) _ _ h in
    let k = sign_spelled 40 ts b.0 b.1 in
    let g = ok_same (record { outer = s.level ∷ s.outer; level = no_level; done = None; nodes = s.nodes }, b.0) (t, rest) b.2 in
    subst (λ (x : CondRead × List Lexeme). GoesTurn StandsRead x.0 toks ts x.1) g (record {
      used = k.first ∷ [];
      is = rw k.token (record {
        front = w.front ++ (w.own ++ (Sign 40 ∷ []));
        own = [];
        outside = (w.front, w.own, w.outside, w.inside, refl);
        inside = record { either = []; both = []; before_or = refl; before_and = refl; all = refl };
        all = rw (w.all, append-nil) (append_assoc w.front w.own (Sign 40 ∷ []));
      });
      all = k.all;
    })

pub pick : {A : Type 0} {P : Type 0} (b : Bool) (x y : Result A ParseFault) (z : A) → (x ≡ Ok z → P) → (y ≡ Ok z → P) → cond b x y ≡ Ok z → P
pick true x y z f g h = f h
pick false x y z f g h = g h

factor_goes : (s t : CondRead) (toks : List Token) (ts rest : List Lexeme) → IsWanting s.outer s.level toks → factor_turn_at s ts ≡ Ok (t, rest) → GoesTurn StandsRead t toks ts rest
unfolding factor_turn_at
factor_goes s t toks ts rest w h =
    pick (starts (is_word (codes "NOT")) ts) (not_turn_at s ts) (cond (starts (is_the_sign 40) ts) (open_turn_at s ts) (compare_turn_at s ts)) (t, rest)
    (not_goes s t toks ts rest w)
    (pick (starts (is_the_sign 40) ts) (open_turn_at s ts) (compare_turn_at s ts) (t, rest) (open_goes s t toks ts rest w) (compare_goes s t toks ts rest w)) h

and_goes : (outer : List Level) (level : Level) (nodes : ℕ) (left : WrittenTree) (t : CondRead) (toks : List Token) (ts rest : List Lexeme) → IsDone outer level left toks → and_turn_at outer level nodes left ts ≡ Ok (t, rest) → GoesTurn StandsRead t toks ts rest
unfolding and_turn_at
and_goes outer level nodes left t toks ts rest d h =
    let a = skip_ok (nat_le 100 nodes) _ _ _ h in
    let b = bind_ok (word_at (codes "AND") ts) _ _ a.1 in
    let k = word_spelled (codes "AND") ts b.0 b.1 in
    let g = ok_same (record { outer = outer; level = record { either = level.either; both = Some left; nots = 0 }; done = None; nodes = nodes + 1 }, b.0) (t, rest) b.2 in
    subst (λ (x : CondRead × List Lexeme). GoesTurn StandsRead x.0 toks ts x.1) g (record {
      used = k.first ∷ [];
      is = rw k.token (record {
        front = d.front;
        own = d.either ++ ((d.term ++ (Word (codes "AND") ∷ [])) ++ []);
        outside = d.outside;
        inside = record {
          either = d.either;
          both = d.term ++ (Word (codes "AND") ∷ []);
          before_or = d.before_or;
          before_and = (d.term, d.is, refl);
          all = refl;
        };
        all = rw (d.all, append-nil) (simp append_assoc);
      });
      all = k.all;
    })

or_goes : (outer : List Level) (level : Level) (nodes : ℕ) (left : WrittenTree) (t : CondRead) (toks : List Token) (ts rest : List Lexeme) → IsDone outer level left toks → or_turn_at outer level nodes left ts ≡ Ok (t, rest) → GoesTurn StandsRead t toks ts rest
unfolding or_turn_at
or_goes outer level nodes left t toks ts rest d h =
    let a = skip_ok (nat_le 100 nodes) _ _ _ h in
    let b = bind_ok (word_at (codes "OR") ts) _ _ a.1 in
    let k = word_spelled (codes "OR") ts b.0 b.1 in
    let g = ok_same (record { outer = outer; level = record { either = Some (with_or level.either left); both = None; nots = 0 }; done = None; nodes = nodes + 1 }, b.0) (t, rest) b.2 in
    subst (λ (x : CondRead × List Lexeme). GoesTurn StandsRead x.0 toks ts x.1) g (record {
      used = k.first ∷ [];
      is = rw k.token (record {
        front = d.front;
        own = ((d.either ++ d.term) ++ (Word (codes "OR") ∷ [])) ++ [];
        outside = d.outside;
        inside = record {
          either = (d.either ++ d.term) ++ (Word (codes "OR") ∷ []);
          both = [];
          before_or = (d.either ++ d.term, with_either level.either d.either d.term left d.before_or d.is, refl);
          before_and = refl;
          all = refl;
        };
        all = rw (d.all, append-nil) (simp append_assoc);
      });
      all = k.all;
    })

close_goes : (outer : List Level) (level : Level) (nodes : ℕ) (left : WrittenTree) (t : CondRead) (toks : List Token) (ts rest : List Lexeme) → IsDone outer level left toks → close_turn_at outer level nodes left ts ≡ Ok (t, rest) → GoesTurn StandsRead t toks ts rest
unfolding close_turn_at
close_goes [] level nodes left t toks ts rest d h = absurd (cc)
close_goes (up ∷ outer) level nodes left t toks ts rest d h =
    let b = bind_ok (sign_at 41 ts) _ _ h in
    let m = sign_spelled 41 ts b.0 b.1 in
    let o = d.outside in
    let f = brackets (with_or level.either left) (d.either ++ d.term) (with_either level.either d.either d.term left d.before_or d.is) in
    let g = ok_same (close_factor outer up nodes (with_or level.either left), b.0) (t, rest) b.2 in
    let k = completes outer up nodes (with_or level.either left) o.0 o.1 (Sign 40 ∷ ((d.either ++ d.term) ++ (Sign 41 ∷ []))) o.2 o.3 f in
    let same : toks ++ (Sign 41 ∷ []) ≡ (o.0 ++ o.1) ++ (Sign 40 ∷ ((d.either ++ d.term) ++ (Sign 41 ∷ []))) = rw (d.all, o.4) (simp append_assoc) in
    subst (λ (x : CondRead × List Lexeme). GoesTurn StandsRead x.0 toks ts x.1) g (record {
      used = m.first ∷ [];
      is = rw m.token (subst (λ (xs : List Token). StandsRead (close_factor outer up nodes (with_or level.either left)) xs) (sym same) k);
      all = m.all;
    })

join_goes : (outer : List Level) (level : Level) (nodes : ℕ) (left : WrittenTree) (t : CondRead) (toks : List Token) (ts rest : List Lexeme) → IsDone outer level left toks → join_turn_at outer level nodes left ts ≡ Ok (t, rest) → GoesTurn StandsRead t toks ts rest
unfolding join_turn_at
join_goes outer level nodes left t toks ts rest d h =
    pick (starts (is_word (codes "AND")) ts) (and_turn_at outer level nodes left ts) (cond (starts (is_word (codes "OR")) ts) (or_turn_at outer level nodes left ts) (close_turn_at outer level nodes left ts)) (t, rest)
    (and_goes outer level nodes left t toks ts rest d)
    (pick (starts (is_word (codes "OR")) ts) (or_turn_at outer level nodes left ts) (close_turn_at outer level nodes left ts) (t, rest) (or_goes outer level nodes left t toks ts rest d) (close_goes outer level nodes left t toks ts rest d)) h

goes_by : (done : Option WrittenTree) (s t : CondRead) (toks : List Token) (ts rest : List Lexeme) → StandsBy done s.outer s.level toks → cond_turn_by done s ts ≡ Ok (t, rest) → GoesTurn StandsRead t toks ts rest
goes_by None s t toks ts rest w h = factor_goes s t toks ts rest w h
goes_by (Some left) s t toks ts rest d h = join_goes s.outer s.level s.nodes left t toks ts rest d h

goes : (s t : CondRead) (toks : List Token) (ts rest : List Lexeme) → StandsRead s toks → cond_turn_at s ts ≡ Ok (t, rest) → GoesTurn StandsRead t toks ts rest
unfolding cond_turn_at
goes s t toks ts rest w h = goes_by s.done s t toks ts rest w h

outside_none : (outer : List Level) (front : List Token) → is_nil outer ≡ true → AreOuterLevels outer front → front ≡ []
outside_none [] front h o = o
outside_none (l ∷ ls) front h o = absurd (cc)

finishes : (done : Option WrittenTree) (outer : List Level) (level : Level) (used : List Token) (t : WrittenTree) (ts rest : List Lexeme) → is_nil outer ≡ true → StandsBy done outer level used → end_condition done level.either ts ≡ Ok (t, rest) → IsCond Whole t used × (ts ≡ rest)
finishes None outer level used t ts rest n w h = absurd (cc)
finishes (Some left) outer level used t ts rest n d h =
    let g = ok_same (with_or level.either left, ts) (t, rest) h in
    let k : used ≡ d.either ++ d.term = d.all ∙ ap (λ (xs : List Token). xs ++ (d.either ++ d.term)) (outside_none outer d.front n d.outside) in
    (subst (λ (x : WrittenTree × List Lexeme). IsCond Whole x.0 used) g (rw k (with_either level.either d.either d.term left d.before_or d.is)), ap (λ (x : WrittenTree × List Lexeme). x.1) g)

pub cond_sound : (ts : List Lexeme) (t : WrittenTree) (rest : List Lexeme) → cond_at ts ≡ Ok (t, rest) → Reads (IsCond Whole) ts t rest
unfolding cond_at
cond_sound ts t rest h =
    let b = bind_ok (turns_at cond_done cond_turn_at no_cond ts) _ _ h in
    let start : StandsRead no_cond [] = record { front = []; own = []; outside = refl; inside = record { either = []; both = []; before_or = refl; before_and = refl; all = refl }; all = refl } in
    let g = turns_at-goes StandsRead cond_done cond_turn_at goes no_cond b.0.0 [] ts b.0.1 start b.1 in
    let e = turns_at-ends cond_done cond_turn_at no_cond b.0.0 ts b.0.1 b.1 in
    let n = (and_parts (is_some b.0.0.done) (is_nil b.0.0.outer) (and_parts (is_some b.0.0.done && is_nil b.0.0.outer) (not (starts (is_word (codes "AND")) b.0.1 || starts (is_word (codes "OR")) b.0.1)) e).0).1 in
    let f = finishes b.0.0.done b.0.0.outer b.0.0.level (map token_of g.used) t b.0.1 rest n g.is b.2 in
    record { used = g.used; is = f.0; all = g.all ∙ ap (λ (xs : List Lexeme). g.used ++ xs) f.1 }
