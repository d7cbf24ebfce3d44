-- Each condition of the grammar is read, where it has at most 100 nodes.
use Rattle.std.proofs.Common.{◌+◌, ◌≡◌, ◌≤◌, ◌<◌, ℕ, zero, suc, List, [], ◌∷◌, ◌++◌, map, length, Bool, true, false, not, refl, sym, ap, ◌∙◌, subst, arith, append_assoc}
use Rattle.std.proofs.lemmas.Bool.{not-true, false_from_ne_true, and_parts}
use Rattle.std.proofs.lemmas.Bool.Decides.{nat_tests}
use Rattle.std.proofs.lemmas.Slice.Eq.{bytes_eq-Decides}
use Rattle.std.specs.Str.{bytes_eq}
use Rattle.std.specs.Prelude.{codes, nat_le, nat_lt, Some, None}
use Rattle.std.specs.declared.option.Option.{Option}
use Rattle.std.specs.declared.result.Result.TheVariants.{Ok}
use Rattle.dms_base.specs.declared.op.Op.{Op}
use Rattle.dms_base.specs.declared.kind.Literal.{Literal}
use Rattle.dms_base.specs.Name.{is_name}
use Rattle.dms_base.specs.Reserved.{is_reserved}
use Rattle.dms_tokens.specs.declared.token.Token.{Token}
use Rattle.dms_tokens.specs.declared.token.Token.TheVariants.{Word, Sign, Compare}
use Rattle.dms_tokens.specs.declared.token.Lexeme.{Lexeme}
use Rattle.dasdl_phrases.specs.declared.levels.Level.{Level}
use Rattle.dasdl_phrases.specs.declared.cond.CondRead.{CondRead}
use Rattle.dasdl_phrases.specs.TreeCodes.{WrittenTree}
use Rattle.dasdl_phrases.specs.TreeCodes.WrittenTree.{Test, Both, Either, Turned}
use Rattle.dasdl_phrases.specs.Branches.{under_nots, with_or}
use Rattle.dasdl_phrases.specs.Reads.{Read}
use Rattle.dms_tokens.specs.Cursors.{starts, is_word, is_the_sign}
use Rattle.dasdl_phrases.specs.Cursors.{turns, turns_at, is_free, word_at, sign_at, name_at}
use Rattle.dasdl_phrases.specs.Kinds.{literal_at, literal_of}
use Rattle.dasdl_phrases.specs.Conditions.{close_factor, no_level, no_cond, op_at, compare_at, compare_turn_at, not_turn_at, open_turn_at, factor_turn_at, and_turn_at, or_turn_at, close_turn_at, join_turn_at, cond_turn_at, cond_done, cond_at}
use Rattle.dasdl_phrases.specs.CondSpelling.{token_of, SpellsLiteral, CondPart, IsCond, nodes}
use Rattle.dasdl_phrases.specs.CondSpelling.SpellsLiteral.{a_text, a_number, a_decimal, a_true, a_false, a_null}
use Rattle.dasdl_phrases.specs.CondSpelling.CondPart.{Whole, Term, Factor}
use Rattle.dasdl_phrases.specs.CondSpelling.IsCond.{a_term, an_or, a_factor, an_and, a_not, brackets, a_test}
use Rattle.dasdl_phrases.proofs.Turning.{turns-done, turns-one}

-- turns lead from one state to another, each with a token at least
pub data RunsBranches {S : Type 0} (done : S → List Lexeme → Bool) (one : S → List Lexeme → Read S) : S → List Lexeme → S → List Lexeme → Type 0 where
  here : (s : S) (ts : List Lexeme) → RunsBranches done one s ts s ts
  step : (s t u : S) (ts mid rest : List Lexeme) → done s ts ≡ false → one s ts ≡ Ok (t, mid) → length mid < length ts → RunsBranches done one t mid u rest → RunsBranches done one s ts u rest

module _ {S : Type 0} (done : S → List Lexeme → Bool) (one : S → List Lexeme → Read S) where
  pub joins : (s t u : S) (ts mid rest : List Lexeme) → RunsBranches done one s ts t mid → RunsBranches done one t mid u rest → RunsBranches done one s ts u rest
  joins s t u ts mid rest (here _ _) r = r
  joins s t u ts mid rest (step _ v _ _ front _ d o l q) r = step s v u ts front rest d o l (joins v t u front mid rest q r)

  runs : (n : ℕ) (s t : S) (ts rest : List Lexeme) → RunsBranches done one s ts t rest → done t rest ≡ true → length ts ≤ n → turns done one n s ts ≡ Ok (t, rest)
  runs n s t ts rest (here _ _) e h = turns-done done one n s ts e
  runs zero s t ts rest (step _ v _ _ front _ d o l q) e h = absurd (omega arith)
  runs (suc n) s t ts rest (step _ v _ _ front _ d o l q) e h =
      turns-one done one n (suc n) s v ts front (omega arith) d o ∙ runs n v t front rest q e (omega arith)

  pub turns_at-runs : (s t : S) (ts rest : List Lexeme) → RunsBranches done one s ts t rest → done t rest ≡ true → turns_at done one s ts ≡ Ok (t, rest)
  unfolding turns_at
  turns_at-runs s t ts rest r e = runs (length ts) s t ts rest r e (omega arith)

-- lexemes whose tokens are two lists, one behind the other
pub record Splits (us : List Lexeme) (xs ys : List Token) : Type 0 where
  pub a : List Lexeme
  pub b : List Lexeme
  pub all : us ≡ a ++ b
  pub front : map token_of a ≡ xs
  pub back : map token_of b ≡ ys

pub splits : (us : List Lexeme) (xs ys : List Token) → map token_of us ≡ xs ++ ys → Splits us xs ys
splits us [] ys h = record { a = []; b = us; all = refl; front = refl; back = h }
splits [] (x ∷ xs) ys h = absurd (cc)
splits (u ∷ us) (x ∷ xs) ys h =
    let e : map token_of us ≡ xs ++ ys = cc in
    let f : token_of u ≡ x = cc in
    let s = splits us xs ys e in
    record { a = u ∷ s.a; b = s.b; all = ap (λ (vs : List Lexeme). u ∷ vs) s.all; front = ap (λ (t : Token). t ∷ map token_of s.a) f ∙ ap (λ (ts : List Token). x ∷ ts) s.front; back = s.back }

-- a lexeme before others
pub record Heads (us : List Lexeme) (x : Token) (ys : List Token) : Type 0 where
  pub l : Lexeme
  pub b : List Lexeme
  pub all : us ≡ l ∷ b
  pub token : l.token ≡ x
  pub back : map token_of b ≡ ys

pub heads : (us : List Lexeme) (x : Token) (ys : List Token) → map token_of us ≡ x ∷ ys → Heads us x ys
heads [] x ys h = absurd (cc)
heads (u ∷ us) x ys h = record { l = u; b = us; all = refl; token = cc; back = cc }

pub none_left : (us : List Lexeme) → map token_of us ≡ [] → us ≡ []
none_left [] h = refl
none_left (u ∷ us) h = absurd (cc)

abbrev wanting : List Level → Level → ℕ → CondRead
wanting outer level n = record { outer = outer; level = level; done = None; nodes = n }

abbrev holding : List Level → Option WrittenTree → WrittenTree → ℕ → CondRead
holding outer either t n = record { outer = outer; level = record { either = either; both = None; nots = 0 }; done = Some t; nodes = n }

abbrev CondRuns : CondRead → List Lexeme → CondRead → List Lexeme → Type 0
CondRuns s ts t rest = RunsBranches cond_done cond_turn_at s ts t rest

pub word_reads : (w : List ℕ) (l : Lexeme) (ls : List Lexeme) → is_word w (Word w) ≡ true → l.token ≡ Word w → word_at w (l ∷ ls) ≡ Ok ls
unfolding word_at
word_reads w l ls t e = rw (e, t) refl

pub sign_reads : (s : ℕ) (l : Lexeme) (ls : List Lexeme) → is_the_sign s (Sign s) ≡ true → l.token ≡ Sign s → sign_at s (l ∷ ls) ≡ Ok ls
unfolding sign_at
sign_reads s l ls t e = rw (e, t) refl

few : (n : ℕ) → n < 100 → nat_le 100 n ≡ false
few n h = grind (arith, nat_tests)

not_step : (outer : List Level) (level : Level) (n : ℕ) (l : Lexeme) (ls : List Lexeme) → l.token ≡ Word (codes "NOT") → n < 100 → level.nots < 100 → cond_turn_at (wanting outer level n) (l ∷ ls) ≡ Ok (wanting outer (record { either = level.either; both = level.both; nots = level.nots + 1 }) (n + 1), ls)
unfolding cond_turn_at factor_turn_at not_turn_at word_at
not_step outer level n l ls e h k = rw (e, few n h, few level.nots k) refl

open_step : (outer : List Level) (level : Level) (n : ℕ) (l : Lexeme) (ls : List Lexeme) → l.token ≡ Sign 40 → cond_turn_at (wanting outer level n) (l ∷ ls) ≡ Ok (wanting (level ∷ outer) no_level n, ls)
unfolding cond_turn_at factor_turn_at open_turn_at sign_at
open_step outer level n l ls e = rw e refl

and_step : (outer : List Level) (either : Option WrittenTree) (t : WrittenTree) (n : ℕ) (l : Lexeme) (ls : List Lexeme) → l.token ≡ Word (codes "AND") → n < 100 → cond_turn_at (holding outer either t n) (l ∷ ls) ≡ Ok (wanting outer (record { either = either; both = Some t; nots = 0 }) (n + 1), ls)
unfolding cond_turn_at join_turn_at and_turn_at word_at
and_step outer either t n l ls e h = rw (e, few n h) refl

or_step : (outer : List Level) (either : Option WrittenTree) (t : WrittenTree) (n : ℕ) (l : Lexeme) (ls : List Lexeme) → l.token ≡ Word (codes "OR") → n < 100 → cond_turn_at (holding outer either t n) (l ∷ ls) ≡ Ok (wanting outer (record { either = Some (with_or either t); both = None; nots = 0 }) (n + 1), ls)
unfolding cond_turn_at join_turn_at or_turn_at word_at
or_step outer either t n l ls e h = rw (e, few n h) refl

close_step : (outer : List Level) (level : Level) (either : Option WrittenTree) (t : WrittenTree) (n : ℕ) (l : Lexeme) (ls : List Lexeme) → l.token ≡ Sign 41 → cond_turn_at (holding (level ∷ outer) either t n) (l ∷ ls) ≡ Ok (close_factor outer level n (with_or either t), ls)
unfolding cond_turn_at join_turn_at close_turn_at sign_at
close_step outer level either t n l ls e = rw e refl

goes_on : (outer : List Level) (either : Option WrittenTree) (t : WrittenTree) (n : ℕ) (l : Lexeme) (ls : List Lexeme) → (l.token ≡ Word (codes "AND")) → cond_done (holding outer either t n) (l ∷ ls) ≡ false
goes_on [] either t n l ls e = rw e refl
goes_on (x ∷ xs) either t n l ls e = refl

goes_on_or : (outer : List Level) (either : Option WrittenTree) (t : WrittenTree) (n : ℕ) (l : Lexeme) (ls : List Lexeme) → (l.token ≡ Word (codes "OR")) → cond_done (holding outer either t n) (l ∷ ls) ≡ false
goes_on_or [] either t n l ls e = rw e refl
goes_on_or (x ∷ xs) either t n l ls e = refl

name_is : (n : List ℕ) → is_name n ≡ true → (nat_le (length n) 30 ≡ true) × (not (is_reserved n) ≡ true)
unfolding is_name
name_is n h = let p = and_parts _ _ h in ((and_parts _ _ p.0).0, p.1)

pub is_unreserved : (n : List ℕ) → is_name n ≡ true → is_reserved n ≡ false
is_unreserved n h = not-true (is_reserved n) (name_is n h).1

is_short : (n : List ℕ) → is_name n ≡ true → nat_lt 30 (length n) ≡ false
is_short n h = let k : nat_le (length n) 30 ≡ true = (name_is n h).0 in grind (arith, nat_tests)

clash : (b : Bool) → b ≡ true → b ≡ false → ⊥
clash true h k = cc
clash false h k = cc

pub is_no_keyword : (w n : List ℕ) → is_reserved w ≡ true → is_name n ≡ true → bytes_eq n w ≡ false
is_no_keyword w n r h = false_from_ne_true (bytes_eq n w) (λ (e : bytes_eq n w ≡ true).
    clash (is_reserved w) r (ap is_reserved (sym ((bytes_eq-Decides n w).0 e)) ∙ is_unreserved n h))

not_is_reserved : is_reserved (codes "NOT") ≡ true
unfolding is_reserved
not_is_reserved = refl

pub name_reads : (l : Lexeme) (ls : List Lexeme) (n : List ℕ) → l.token ≡ Word n → is_name n ≡ true → name_at (l ∷ ls) ≡ Ok (n, ls)
unfolding name_at
name_reads l ls n e h = rw (e, is_unreserved n h, is_short n h, h) refl

literal_is : (x : Literal) (t : Token) (place : ℕ) (ls : List Lexeme) → SpellsLiteral x t → literal_of t place ls ≡ Ok (x, ls)
literal_is _ _ place ls (a_text bytes text e) = rw e refl
literal_is _ _ place ls (a_number n) = refl
literal_is _ _ place ls (a_decimal m d p) = refl
literal_is _ _ place ls a_true = refl
literal_is _ _ place ls a_false = refl
literal_is _ _ place ls a_null = refl

pub literal_reads : (l : Lexeme) (ls : List Lexeme) (x : Literal) (t : Token) → l.token ≡ t → SpellsLiteral x t → literal_at (l ∷ ls) ≡ Ok (x, ls)
unfolding literal_at
literal_reads l ls x t e h = rw e (literal_is x t l.place ls h)

op_reads : (l : Lexeme) (ls : List Lexeme) (o : Op) → l.token ≡ Compare o → op_at (l ∷ ls) ≡ Ok (o, ls)
unfolding op_at
op_reads l ls o e = rw e refl

compare_reads : (k l m : Lexeme) (ls : List Lexeme) (n : List ℕ) (o : Op) (x : Literal) (t : Token) → k.token ≡ Word n → is_name n ≡ true → l.token ≡ Compare o → m.token ≡ t → SpellsLiteral x t → compare_at (k ∷ l ∷ m ∷ ls) ≡ Ok (Test n o x, ls)
unfolding compare_at
compare_reads k l m ls n o x t e h f g i = rw (name_reads k (l ∷ m ∷ ls) n e h, op_reads l (m ∷ ls) o f, literal_reads m ls x t g i) refl

compare_step : (outer : List Level) (level : Level) (c : ℕ) (k l m : Lexeme) (ls : List Lexeme) (n : List ℕ) (o : Op) (x : Literal) (t : Token) → c < 100 → k.token ≡ Word n → is_name n ≡ true → l.token ≡ Compare o → m.token ≡ t → SpellsLiteral x t → compare_turn_at (wanting outer level c) (k ∷ l ∷ m ∷ ls) ≡ Ok (close_factor outer level (c + 1) (Test n o x), ls)
unfolding compare_turn_at
compare_step outer level c k l m ls n o x t b e h f g i =
    let free : starts is_free (k ∷ l ∷ m ∷ ls) ≡ true = rw (e, is_unreserved n h) refl in
    rw (free, few c b, compare_reads k l m ls n o x t e h f g i) refl

test_step : (outer : List Level) (level : Level) (c : ℕ) (k l m : Lexeme) (ls : List Lexeme) (n : List ℕ) (o : Op) (x : Literal) (t : Token) → c < 100 → k.token ≡ Word n → is_name n ≡ true → l.token ≡ Compare o → m.token ≡ t → SpellsLiteral x t → cond_turn_at (wanting outer level c) (k ∷ l ∷ m ∷ ls) ≡ Ok (close_factor outer level (c + 1) (Test n o x), ls)
unfolding cond_turn_at factor_turn_at
test_step outer level c k l m ls n o x t b e h f g i =
    let no_not : starts (is_word (codes "NOT")) (k ∷ l ∷ m ∷ ls) ≡ false = rw e (is_no_keyword (codes "NOT") n not_is_reserved h) in
    let no_open : starts (is_the_sign 40) (k ∷ l ∷ m ∷ ls) ≡ false = rw e refl in
    rw (no_not, no_open) (compare_step outer level c k l m ls n o x t b e h f g i)

negated_in : (n : ℕ) (t : WrittenTree) → under_nots (n + 1) t ≡ under_nots n (Turned t)
negated_in zero t = refl
negated_in (suc n) t = let k : suc n + 1 ≡ suc (n + 1) = omega arith in rw k (ap (λ (u : WrittenTree). Turned u) (negated_in n t))

completed_not : (outer : List Level) (level : Level) (n m : ℕ) (t : WrittenTree) → n ≡ m → close_factor outer (record { either = level.either; both = level.both; nots = level.nots + 1 }) n t ≡ close_factor outer level m (Turned t)
unfolding close_factor
completed_not outer level n m t e = rw (e, negated_in level.nots t) refl

completed_alone : (outer : List Level) (either : Option WrittenTree) (n : ℕ) (t : WrittenTree) → close_factor outer (record { either = either; both = None; nots = 0 }) n t ≡ holding outer either t n
unfolding close_factor
completed_alone outer either n t = refl

completed_both : (outer : List Level) (either : Option WrittenTree) (a t : WrittenTree) (n m : ℕ) → n ≡ m → close_factor outer (record { either = either; both = Some a; nots = 0 }) n t ≡ holding outer either (Both a t) m
unfolding close_factor
completed_both outer either a t n m e = rw e refl

-- what a whole condition leads to
record WholeRuns (outer : List Level) (n : ℕ) (t : WrittenTree) (us rest : List Lexeme) : Type 0 where
  either : Option WrittenTree
  last : WrittenTree
  same : with_or either last ≡ t
  run : CondRuns (wanting outer no_level n) (us ++ rest) (holding outer either last (n + nodes t)) rest

abbrev ReadsNode : CondPart → WrittenTree → List Token → Type 0
ReadsNode Whole t toks = (us rest : List Lexeme) (outer : List Level) (n : ℕ) → map token_of us ≡ toks → n + nodes t ≤ 100 → WholeRuns outer n t us rest
ReadsNode Term t toks = (us rest : List Lexeme) (outer : List Level) (either : Option WrittenTree) (n : ℕ) → map token_of us ≡ toks → n + nodes t ≤ 100 → CondRuns (wanting outer (record { either = either; both = None; nots = 0 }) n) (us ++ rest) (holding outer either t (n + nodes t)) rest
ReadsNode Factor t toks = (us rest : List Lexeme) (outer : List Level) (level : Level) (n : ℕ) → map token_of us ≡ toks → n + nodes t ≤ 100 → level.nots ≤ n → CondRuns (wanting outer level n) (us ++ rest) (close_factor outer level (n + nodes t) t) rest

-- a joined condition, cut at what joins it
cut : (us rest a b c : List Lexeme) (l : Lexeme) → us ≡ a ++ b → b ≡ l ∷ c → us ++ rest ≡ a ++ (l ∷ (c ++ rest))
cut us rest a b c l e f = ap (λ (vs : List Lexeme). vs ++ rest) e ∙ append_assoc a b rest ∙ ap (λ (vs : List Lexeme). a ++ (vs ++ rest)) f

some_node : (t : WrittenTree) → 1 ≤ nodes t
some_node (Test n o x) = omega arith
some_node (Both a b) = omega arith
some_node (Either a b) = omega arith
some_node (Turned a) = omega arith

either_runs : (a b : WrittenTree) (xs ys : List Token) → ReadsNode Whole a xs → ReadsNode Term b ys → ReadsNode Whole (Either a b) (xs ++ (Word (codes "OR") ∷ ys))
either_runs a b xs ys f g us rest outer n e h =
    let s = splits us xs (Word (codes "OR") ∷ ys) e in
    let k = heads s.b (Word (codes "OR")) ys s.back in
    let first = f s.a (k.l ∷ (k.b ++ rest)) outer n s.front (omega arith) in
    let second = g k.b rest outer (Some (with_or first.either first.last)) (n + nodes a + 1) k.back (omega arith) in
    let few_so_far : n + nodes a < 100 = omega arith in
    let all : CondRuns (wanting outer no_level n) (s.a ++ (k.l ∷ (k.b ++ rest))) (holding outer (Some (with_or first.either first.last)) b (n + nodes a + 1 + nodes b)) rest =
    joins cond_done cond_turn_at _ _ _ _ _ _ first.run (step _ _ _ _ (k.b ++ rest) _ (goes_on_or outer first.either first.last (n + nodes a) k.l (k.b ++ rest) k.token) (or_step outer first.either first.last (n + nodes a) k.l (k.b ++ rest) k.token few_so_far) (omega arith) second) in
    let count : n + nodes a + 1 + nodes b ≡ n + (nodes a + nodes b + 1) = omega arith in
    record {
      either = Some (with_or first.either first.last);
      last = b;
      same = ap (λ (x : WrittenTree). Either x b) first.same;
      run = rw (cut us rest s.a s.b k.b k.l s.all k.all, ← count) all;
    }

both_runs : (a b : WrittenTree) (xs ys : List Token) → ReadsNode Term a xs → ReadsNode Factor b ys → ReadsNode Term (Both a b) (xs ++ (Word (codes "AND") ∷ ys))
both_runs a b xs ys f g us rest outer either n e h =
    let s = splits us xs (Word (codes "AND") ∷ ys) e in
    let k = heads s.b (Word (codes "AND")) ys s.back in
    let few_so_far : n + nodes a < 100 = omega arith in
    let first = f s.a (k.l ∷ (k.b ++ rest)) outer either n s.front (omega arith) in
    let second = g k.b rest outer (record { either = either; both = Some a; nots = 0 }) (n + nodes a + 1) k.back (omega arith) (omega arith) in
    let count : n + nodes a + 1 + nodes b ≡ n + (nodes a + nodes b + 1) = omega arith in
    let third = subst (λ (x : CondRead). CondRuns (wanting outer (record { either = either; both = Some a; nots = 0 }) (n + nodes a + 1)) (k.b ++ rest) x rest) (completed_both outer either a b _ _ count) second in
    rw (cut us rest s.a s.b k.b k.l s.all k.all)
    (joins cond_done cond_turn_at _ _ _ _ _ _ first (step _ _ _ _ (k.b ++ rest) _ (goes_on outer either a (n + nodes a) k.l (k.b ++ rest) k.token) (and_step outer either a (n + nodes a) k.l (k.b ++ rest) k.token few_so_far) (omega arith) third))

not_runs : (t : WrittenTree) (ts : List Token) → ReadsNode Factor t ts → ReadsNode Factor (Turned t) (Word (codes "NOT") ∷ ts)
not_runs t ts f us rest outer level n e h b =
    let k = heads us (Word (codes "NOT")) ts e in
    let few_so_far : n < 100 = omega (arith, some_node t) in
    let more = f k.b rest outer (record { either = level.either; both = level.both; nots = level.nots + 1 }) (n + 1) k.back (omega arith) (omega arith) in
    let count : n + 1 + nodes t ≡ n + (nodes t + 1) = omega arith in
    let last = subst (λ (x : CondRead). CondRuns (wanting outer (record { either = level.either; both = level.both; nots = level.nots + 1 }) (n + 1)) (k.b ++ rest) x rest) (completed_not outer level _ _ t count) more in
    rw k.all (step _ _ _ _ (k.b ++ rest) _ refl (not_step outer level n k.l (k.b ++ rest) k.token few_so_far (omega arith)) (omega arith) last)

brackets_run : (t : WrittenTree) (ts : List Token) → ReadsNode Whole t ts → ReadsNode Factor t (Sign 40 ∷ (ts ++ (Sign 41 ∷ [])))
brackets_run t ts f us rest outer level n e h b =
    let k = heads us (Sign 40) (ts ++ (Sign 41 ∷ [])) e in
    let s = splits k.b ts (Sign 41 ∷ []) k.back in
    let m = heads s.b (Sign 41) [] s.back in
    let inner = f s.a (m.l ∷ (m.b ++ rest)) (level ∷ outer) n s.front h in
    let closed = close_step outer level inner.either inner.last (n + nodes t) m.l (m.b ++ rest) m.token in
    let ended : CondRuns (holding (level ∷ outer) inner.either inner.last (n + nodes t)) (m.l ∷ (m.b ++ rest)) (close_factor outer level (n + nodes t) (with_or inner.either inner.last)) (m.b ++ rest) =
    step _ _ _ _ (m.b ++ rest) _ refl closed (omega arith) (here _ _) in
    let whole = joins cond_done cond_turn_at _ _ _ _ _ _ inner.run ended in
    let no_more : m.b ++ rest ≡ rest = ap (λ (vs : List Lexeme). vs ++ rest) (none_left m.b m.back) in
    let whole_2 = subst (λ (x : WrittenTree). CondRuns (wanting (level ∷ outer) no_level n) (s.a ++ (m.l ∷ (m.b ++ rest))) (close_factor outer level (n + nodes t) x) (m.b ++ rest)) inner.same whole in
    let whole_3 = subst (λ (vs : List Lexeme). CondRuns (wanting (level ∷ outer) no_level n) (s.a ++ (m.l ∷ (m.b ++ rest))) (close_factor outer level (n + nodes t) t) vs) no_more whole_2 in
    let whole_4 = subst (λ (vs : List Lexeme). CondRuns (wanting (level ∷ outer) no_level n) vs (close_factor outer level (n + nodes t) t) rest) (sym (cut k.b rest s.a s.b m.b m.l s.all m.all)) whole_3 in
    rw k.all (step _ _ _ _ (k.b ++ rest) _ refl (open_step outer level n k.l (k.b ++ rest) k.token) (omega arith) whole_4)

test_runs : (n : List ℕ) (o : Op) (x : Literal) (t : Token) → is_name n ≡ true → SpellsLiteral x t → ReadsNode Factor (Test n o x) (Word n ∷ (Compare o ∷ (t ∷ [])))
test_runs n o x t named lit us rest outer level c e h b =
    let k = heads us (Word n) (Compare o ∷ (t ∷ [])) e in
    let l = heads k.b (Compare o) (t ∷ []) k.back in
    let m = heads l.b t [] l.back in
    let same : us ≡ k.l ∷ l.l ∷ m.l ∷ [] = k.all ∙ ap (λ (vs : List Lexeme). k.l ∷ vs) (l.all ∙ ap (λ (vs : List Lexeme). l.l ∷ vs) (m.all ∙ ap (λ (vs : List Lexeme). m.l ∷ vs) (none_left m.b m.back))) in
    rw same (step _ _ _ _ rest _ refl (test_step outer level c k.l l.l m.l rest n o x t (omega arith) k.token named l.token m.token lit) (omega arith) (here _ _))

complete : (p : CondPart) (t : WrittenTree) (toks : List Token) → IsCond p t toks → ReadsNode p t toks
complete _ _ _ (a_term t ts d) = λ us rest outer n e h. record { either = None; last = t; same = refl; run = complete Term t ts d us rest outer None n e h }
complete _ _ _ (an_or a b xs ys d f) = either_runs a b xs ys (complete Whole a xs d) (complete Term b ys f)
complete _ _ _ (a_factor t ts d) = λ us rest outer either n e h. subst (λ (x : CondRead). CondRuns (wanting outer (record { either = either; both = None; nots = 0 }) n) (us ++ rest) x rest) (completed_alone outer either (n + nodes t) t) (complete Factor t ts d us rest outer (record { either = either; both = None; nots = 0 }) n e h (omega arith))
complete _ _ _ (an_and a b xs ys d f) = both_runs a b xs ys (complete Term a xs d) (complete Factor b ys f)
complete _ _ _ (a_not t ts d) = not_runs t ts (complete Factor t ts d)
complete _ _ _ (brackets t ts d) = brackets_run t ts (complete Whole t ts d)
complete _ _ _ (a_test n o x t named lit) = test_runs n o x t named lit

pub cond_complete : (us rest : List Lexeme) (t : WrittenTree) → IsCond Whole t (map token_of us) → nodes t ≤ 100 → starts (is_word (codes "AND")) rest ≡ false → starts (is_word (codes "OR")) rest ≡ false → cond_at (us ++ rest) ≡ Ok (t, rest)
unfolding cond_at
cond_complete us rest t d h na nor =
    let r = complete Whole t (map token_of us) d us rest [] 0 refl (omega arith) in
    let ended : cond_done (holding [] r.either r.last (0 + nodes t)) rest ≡ true = rw (na, nor) refl in
    let all = turns_at-runs cond_done cond_turn_at no_cond (holding [] r.either r.last (0 + nodes t)) (us ++ rest) rest r.run ended in
    rw (all, r.same) refl
