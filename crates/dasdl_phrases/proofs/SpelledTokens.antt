-- Which tokens were read.
use Rattle.std.proofs.Common.{◌≡◌, ℕ, List, [], ◌∷◌, Bool, true, false, cond, refl, sym, ap, ◌∙◌, subst, length, IsTrue}
use Rattle.std.specs.Prelude.{codes, nat_lt, Some, None}
use Rattle.std.specs.declared.option.Option.{Option}
use Rattle.std.specs.Str.{bytes_eq}
use Rattle.std.specs.declared.result.Result.TheVariants.{Ok, Err}
use Rattle.std.proofs.lemmas.Slice.Eq.{bytes_eq-Decides}
use Rattle.std.proofs.lemmas.Bool.Decides.{Decides-eqb}
use Rattle.dms_base.specs.declared.op.Op.{Op}
use Rattle.dms_base.specs.declared.op.Op.TheVariants.{Equal, NotEqual, Less, LessEqual, Greater, GreaterEqual}
use Rattle.dms_base.specs.declared.kind.Literal.{Literal}
use Rattle.dms_base.specs.declared.kind.Literal.TheVariants.{Null, Text, Number as Amount, Bool as Boolean}
use Rattle.dms_base.specs.Name.{is_name}
use Rattle.dms_base.specs.Reserved.{is_reserved}
use Rattle.dms_base.specs.Text.{text_of}
use Rattle.dasdl_phrases.specs.declared.fault.ParseFault.TheVariants.{Expected, TooMany}
use Rattle.dms_tokens.specs.declared.token.Token.{Token}
use Rattle.dms_tokens.specs.declared.token.Token.TheVariants.{Word, Number, Decimal, Long, Quoted, Sign, Compare, Bad, End}
use Rattle.dms_tokens.specs.declared.token.Lexeme.{Lexeme}
use Rattle.dms_tokens.specs.Cursors.{is_word, is_the_sign, is_equal, one_at}
use Rattle.dasdl_phrases.specs.Cursors.{word_at, sign_at, equal_at, name_at, name_of, fault_of, fault_at}
use Rattle.dms_tokens.specs.Cursors.{constant}
use Rattle.dasdl_phrases.specs.Kinds.{literal_at, literal_of, quoted_of, constant_of}
use Rattle.dasdl_phrases.specs.Conditions.{op_at, op_of}
use Rattle.dasdl_phrases.specs.CondSpelling.{SpellsLiteral}
use Rattle.dasdl_phrases.specs.CondSpelling.SpellsLiteral.{a_text, a_number, a_decimal, a_true, a_false, a_null}
use Rattle.dasdl_phrases.proofs.Inverting.{guard_ok, skip_ok, ok_same}

pub is_word_is : (w : List ℕ) (t : Token) → is_word w t ≡ true → t ≡ Word w
is_word_is w (Word b) h = ap (λ (x : List ℕ). Word x) ((bytes_eq-Decides b w).0 h)
is_word_is w (Number n) h = absurd (cc)
is_word_is w (Decimal m n p) h = absurd (cc)
is_word_is w Long h = absurd (cc)
is_word_is w (Quoted b) h = absurd (cc)
is_word_is w (Sign b) h = absurd (cc)
is_word_is w (Compare o) h = absurd (cc)
is_word_is w Bad h = absurd (cc)
is_word_is w End h = absurd (cc)

pub is_sign_is : (s : ℕ) (t : Token) → is_the_sign s t ≡ true → t ≡ Sign s
is_sign_is s (Sign b) h = ap (λ (x : ℕ). Sign x) ((Decides-eqb b s).0 h)
is_sign_is s (Word b) h = absurd (cc)
is_sign_is s (Number n) h = absurd (cc)
is_sign_is s (Decimal m n p) h = absurd (cc)
is_sign_is s Long h = absurd (cc)
is_sign_is s (Quoted b) h = absurd (cc)
is_sign_is s (Compare o) h = absurd (cc)
is_sign_is s Bad h = absurd (cc)
is_sign_is s End h = absurd (cc)

-- this token is the first
pub record StartsToken (t : Token) (ts rest : List Lexeme) : Type 0 where
  pub first : Lexeme
  pub token : first.token ≡ t
  pub all : ts ≡ first ∷ rest

-- a token that passed a test was the first
one_ok : (test : Token → Bool) (ts rest : List Lexeme) (t : Token) → ((u : Token) → test u ≡ true → u ≡ t) → one_at fault_at test ts ≡ Ok rest → StartsToken t ts rest
one_ok test [] rest t is h = absurd (cc)
one_ok test (l ∷ ls) rest t is h =
    let g = guard_ok (test l.token) ls rest (fault_of l.token l.place) h in
    record { first = l; token = is l.token g.0; all = ap (λ (xs : List Lexeme). l ∷ xs) g.1 }

pub word_spelled : (w : List ℕ) (ts rest : List Lexeme) → word_at w ts ≡ Ok rest → StartsToken (Word w) ts rest
unfolding word_at
word_spelled w ts rest h = one_ok (is_word w) ts rest (Word w) (is_word_is w) h

pub sign_spelled : (s : ℕ) (ts rest : List Lexeme) → sign_at s ts ≡ Ok rest → StartsToken (Sign s) ts rest
unfolding sign_at
sign_spelled s ts rest h = one_ok (is_the_sign s) ts rest (Sign s) (is_sign_is s) h

is_equal_is : (t : Token) → is_equal t ≡ true → t ≡ Compare Equal
is_equal_is (Compare Equal) h = refl
is_equal_is (Compare NotEqual) h = absurd (cc)
is_equal_is (Compare Less) h = absurd (cc)
is_equal_is (Compare LessEqual) h = absurd (cc)
is_equal_is (Compare Greater) h = absurd (cc)
is_equal_is (Compare GreaterEqual) h = absurd (cc)
is_equal_is (Word b) h = absurd (cc)
is_equal_is (Number n) h = absurd (cc)
is_equal_is (Decimal m n p) h = absurd (cc)
is_equal_is Long h = absurd (cc)
is_equal_is (Quoted b) h = absurd (cc)
is_equal_is (Sign b) h = absurd (cc)
is_equal_is Bad h = absurd (cc)
is_equal_is End h = absurd (cc)

pub equal_spelled : (ts rest : List Lexeme) → equal_at ts ≡ Ok rest → StartsToken (Compare Equal) ts rest
unfolding equal_at
equal_spelled ts rest h = one_ok is_equal ts rest (Compare Equal) is_equal_is h

name_of_ok : (b n : List ℕ) (place : ℕ) (ls rest : List Lexeme) → name_of (Word b) place ls ≡ Ok (n, rest) → IsTrue (is_name n) × (Word b ≡ Word n) × (ls ≡ rest)
name_of_ok b n place ls rest h =
    let s = skip_ok (is_reserved b) (Expected place) (cond (nat_lt 30 (length b)) (Err (TooMany 30)) (cond (is_name b) (Ok (b, ls)) (Err (Expected place)))) (n, rest) h in
    let u = skip_ok (nat_lt 30 (length b)) (TooMany 30) (cond (is_name b) (Ok (b, ls)) (Err (Expected place))) (n, rest) s.1 in
    let g = guard_ok (is_name b) (b, ls) (n, rest) (Expected place) u.1 in
    let e : b ≡ n = ap (λ (p : List ℕ × List Lexeme). p.0) g.1 in
    let r : ls ≡ rest = ap (λ (p : List ℕ × List Lexeme). p.1) g.1 in
    let named : is_name n ≡ true = ap is_name (sym e) ∙ g.0 in
    (named, ap (λ (w : List ℕ). Word w) e, r)

named : (t : Token) (place : ℕ) (n : List ℕ) (ls rest : List Lexeme) → name_of t place ls ≡ Ok (n, rest) → IsTrue (is_name n) × (t ≡ Word n) × (ls ≡ rest)
named (Word b) place n ls rest h = name_of_ok b n place ls rest h
named (Number k) place n ls rest h = absurd (cc)
named (Decimal m k p) place n ls rest h = absurd (cc)
named Long place n ls rest h = absurd (cc)
named (Quoted b) place n ls rest h = absurd (cc)
named (Sign b) place n ls rest h = absurd (cc)
named (Compare o) place n ls rest h = absurd (cc)
named Bad place n ls rest h = absurd (cc)
named End place n ls rest h = absurd (cc)

pub name_spelled : (ts : List Lexeme) (n : List ℕ) (rest : List Lexeme) → name_at ts ≡ Ok (n, rest) → IsTrue (is_name n) × StartsToken (Word n) ts rest
unfolding name_at
name_spelled [] n rest h = absurd (cc)
name_spelled (l ∷ ls) n rest h =
    let g = named l.token l.place n ls rest h in
    (g.0, record { first = l; token = g.1; all = ap (λ (xs : List Lexeme). l ∷ xs) g.2 })

op_of_ok : (t : Token) (place : ℕ) (o : Op) (ls rest : List Lexeme) → op_of t place ls ≡ Ok (o, rest) → (t ≡ Compare o) × (ls ≡ rest)
op_of_ok (Compare p) place o ls rest h =
    let g = ok_same (p, ls) (o, rest) h in
    (ap (λ (x : Op × List Lexeme). Compare x.0) g, ap (λ (x : Op × List Lexeme). x.1) g)
op_of_ok (Word b) place o ls rest h = absurd (cc)
op_of_ok (Number k) place o ls rest h = absurd (cc)
op_of_ok (Decimal m k p) place o ls rest h = absurd (cc)
op_of_ok Long place o ls rest h = absurd (cc)
op_of_ok (Quoted b) place o ls rest h = absurd (cc)
op_of_ok (Sign b) place o ls rest h = absurd (cc)
op_of_ok Bad place o ls rest h = absurd (cc)
op_of_ok End place o ls rest h = absurd (cc)

pub op_spelled : (ts : List Lexeme) (o : Op) (rest : List Lexeme) → op_at ts ≡ Ok (o, rest) → StartsToken (Compare o) ts rest
unfolding op_at
op_spelled [] o rest h = absurd (cc)
op_spelled (l ∷ ls) o rest h =
    let g = op_of_ok l.token l.place o ls rest h in
    record { first = l; token = g.0; all = ap (λ (xs : List Lexeme). l ∷ xs) g.1 }

constant_by : (p q r : Bool) (b : List ℕ) (l : Literal) → (p ≡ true → b ≡ codes "TRUE") → (q ≡ true → b ≡ codes "FALSE") → (r ≡ true → b ≡ codes "NULL") → cond p (Some (Boolean true)) (cond q (Some (Boolean false)) (cond r (Some Null) None)) ≡ Some l → SpellsLiteral l (Word b)
constant_by true q r b l t f n h =
    let e : Boolean true ≡ l = cc in
    subst (λ (x : Literal). SpellsLiteral x (Word b)) e (subst (λ (w : List ℕ). SpellsLiteral (Boolean true) (Word w)) (sym (t refl)) a_true)
constant_by false true r b l t f n h =
    let e : Boolean false ≡ l = cc in
    subst (λ (x : Literal). SpellsLiteral x (Word b)) e (subst (λ (w : List ℕ). SpellsLiteral (Boolean false) (Word w)) (sym (f refl)) a_false)
constant_by false false true b l t f n h =
    let e : Null ≡ l = cc in
    subst (λ (x : Literal). SpellsLiteral x (Word b)) e (subst (λ (w : List ℕ). SpellsLiteral Null (Word w)) (sym (n refl)) a_null)
constant_by false false false b l t f n h = absurd (cc)

constant_is : (b : List ℕ) (l : Literal) → constant b ≡ Some l → SpellsLiteral l (Word b)
constant_is b l h =
    constant_by (bytes_eq b (codes "TRUE")) (bytes_eq b (codes "FALSE")) (bytes_eq b (codes "NULL")) b l (bytes_eq-Decides b (codes "TRUE")).0 (bytes_eq-Decides b (codes "FALSE")).0 (bytes_eq-Decides b (codes "NULL")).0 h

-- a literal, and the token that spells it
pub record IsReadLiteral (l : Literal) (ts rest : List Lexeme) : Type 0 where
  pub first : Lexeme
  pub is : SpellsLiteral l first.token
  pub all : ts ≡ first ∷ rest

constant_of_ok : (o : Option Literal) (b : List ℕ) (place : ℕ) (l : Literal) (ls rest : List Lexeme) → constant b ≡ o → constant_of o place ls ≡ Ok (l, rest) → SpellsLiteral l (Word b) × (ls ≡ rest)
constant_of_ok (Some k) b place l ls rest e h =
    let g = ok_same (k, ls) (l, rest) h in
    (constant_is b l (e ∙ ap (λ (x : Literal × List Lexeme). Some x.0) g), ap (λ (x : Literal × List Lexeme). x.1) g)
constant_of_ok None b place l ls rest e h = absurd (cc)

quoted_of_ok : (o : Option (List ℕ)) (b : List ℕ) (place : ℕ) (l : Literal) (ls rest : List Lexeme) → text_of b ≡ o → quoted_of o place ls ≡ Ok (l, rest) → SpellsLiteral l (Quoted b) × (ls ≡ rest)
quoted_of_ok (Some k) b place l ls rest e h =
    let g = ok_same (Text k, ls) (l, rest) h in
    (subst (λ (x : Literal). SpellsLiteral x (Quoted b)) (ap (λ (x : Literal × List Lexeme). x.0) g) (a_text b k e), ap (λ (x : Literal × List Lexeme). x.1) g)
quoted_of_ok None b place l ls rest e h = absurd (cc)

literal_of_ok : (t : Token) (place : ℕ) (l : Literal) (ls rest : List Lexeme) → literal_of t place ls ≡ Ok (l, rest) → SpellsLiteral l t × (ls ≡ rest)
literal_of_ok (Quoted b) place l ls rest h = quoted_of_ok (text_of b) b place l ls rest refl h
literal_of_ok (Number n) place l ls rest h =
    let g = ok_same (Amount false n 0, ls) (l, rest) h in
    (subst (λ (x : Literal). SpellsLiteral x (Number n)) (ap (λ (x : Literal × List Lexeme). x.0) g) (a_number n), ap (λ (x : Literal × List Lexeme). x.1) g)
literal_of_ok (Decimal m d p) place l ls rest h =
    let g = ok_same (Amount m d p, ls) (l, rest) h in
    (subst (λ (x : Literal). SpellsLiteral x (Decimal m d p)) (ap (λ (x : Literal × List Lexeme). x.0) g) (a_decimal m d p), ap (λ (x : Literal × List Lexeme). x.1) g)
literal_of_ok (Word b) place l ls rest h = constant_of_ok (constant b) b place l ls rest refl h
literal_of_ok Long place l ls rest h = absurd (cc)
literal_of_ok (Sign b) place l ls rest h = absurd (cc)
literal_of_ok (Compare o) place l ls rest h = absurd (cc)
literal_of_ok Bad place l ls rest h = absurd (cc)
literal_of_ok End place l ls rest h = absurd (cc)

pub literal_spelled : (ts : List Lexeme) (l : Literal) (rest : List Lexeme) → literal_at ts ≡ Ok (l, rest) → IsReadLiteral l ts rest
unfolding literal_at
literal_spelled [] l rest h = absurd (cc)
literal_spelled (t ∷ ls) l rest h =
    let g = literal_of_ok t.token t.place l ls rest h in
    record { first = t; is = g.0; all = ap (λ (xs : List Lexeme). t ∷ xs) g.1 }
