-- How far a string goes.
use Rattle.std.proofs.Common.{◌≡◌, ◌+◌, ◌≤◌, ◌<◌, ℕ, suc, List, [], ◌∷◌, ◌++◌, length, length-append, true, false, ◌==◌, ◌⊎◌, inl, inr, refl, sym, ap, ◌∙◌, arith, append_assoc}
use Rattle.std.proofs.lemmas.Bool.{and_parts, cases_Bool}
use Rattle.std.specs.Prelude.{nat_lt}
use Rattle.std.proofs.lemmas.List.{append-nil}
use Rattle.std.proofs.lemmas.Bool.Decides.{nat_tests}
use Rattle.std.specs.List.{list_all}
use Rattle.dms_tokens.specs.declared.token.Token.TheVariants.{Quoted, Bad}
use Rattle.dms_tokens.specs.declared.reading.Reading.TheVariants.{Between, Quoted as InQuotes}
use Rattle.dms_tokens.specs.Tokens.{lexeme, tokens_from, byte_turn, quoted_byte, quote_byte, character, end_turn}
use Rattle.dms_tokens.proofs.WordScan.{stopped, never, is_byte}
use Rattle.dms_base.specs.Texts.{double_quotes}
use Rattle.dms_base.specs.Text.{is_printable}

pub doubled_plain : (b : ℕ) (bs : List ℕ) → b == 34 ≡ false → double_quotes (b ∷ bs) ≡ b ∷ double_quotes bs
doubled_plain b bs f = rw f refl

pub doubled_quote : (b : ℕ) (bs : List ℕ) → b == 34 ≡ true → double_quotes (b ∷ bs) ≡ 34 ∷ 34 ∷ double_quotes bs
doubled_quote b bs f = rw f refl

-- a text begins with these characters, a quote that ends them and nothing that goes on with them; so many were read before
pub record Body (n : ℕ) (text more rest : List ℕ) : Type 0 where
  pub cut : text ≡ double_quotes more ++ (34 ∷ rest)
  pub printable : list_all is_printable more ≡ true
  pub few : n + length more ≤ 200
  pub closed : (bs : List ℕ) → rest ≡ 34 ∷ bs → ⊥

pub record ClosesString (n : ℕ) (text : List ℕ) : Type 0 where
  pub more : List ℕ
  pub rest : List ℕ
  pub body : Body n text more rest
  pub reads : (start place : ℕ) (kept : List ℕ) → length kept ≡ n → tokens_from (InQuotes start kept) place text ≡ lexeme (Quoted (kept ++ more)) start ∷ tokens_from Between (place + length (double_quotes more ++ 34 ∷ [])) rest

-- the string isn't one
pub record Breaks (n : ℕ) (text : List ℕ) : Type 0 where
  pub none : (more rest : List ℕ) → Body n text more rest → ⊥
  pub reads : (start place : ℕ) (kept : List ℕ) → length kept ≡ n → tokens_from (InQuotes start kept) place text ≡ lexeme Bad start ∷ []

pub no_quote : (b : ℕ) (bs xs : List ℕ) → b == 34 ≡ false → b ∷ bs ≡ 34 ∷ xs → ⊥
no_quote b bs xs f e = let k : b ≡ 34 = cc in never (34 == 34) refl (ap (λ (x : ℕ). x == 34) (sym k) ∙ f)

-- a character that is no quote
plain_up : (b : ℕ) (bs : List ℕ) (n : ℕ) (more rest : List ℕ) → b == 34 ≡ false → is_printable b ≡ true → Body (n + 1) bs more rest → Body n (b ∷ bs) (b ∷ more) rest
plain_up b bs n more rest f p k = record {
  cut = rw (doubled_plain b more f) (ap (λ (xs : List ℕ). b ∷ xs) k.cut);
  printable = rw p k.printable;
  few = let l = k.few in omega arith;
  closed = k.closed;
}

plain_tail : (b : ℕ) (bs : List ℕ) (n m : ℕ) (ms rest : List ℕ) → m == 34 ≡ false → Body n (b ∷ bs) (m ∷ ms) rest → (is_printable b ≡ true) × Body (n + 1) bs ms rest
plain_tail b bs n m ms rest g k =
    let e : b ∷ bs ≡ m ∷ (double_quotes ms ++ (34 ∷ rest)) = k.cut ∙ ap (λ (xs : List ℕ). xs ++ (34 ∷ rest)) (doubled_plain m ms g) in
    let same : m ≡ b = cc in
    let others : bs ≡ double_quotes ms ++ (34 ∷ rest) = cc in
    (rw (← same) (and_parts (is_printable m) _ k.printable).0, record { cut = others; printable = (and_parts (is_printable m) _ k.printable).1; few = let l = k.few in omega arith; closed = k.closed })

plain_down : (b : ℕ) (bs : List ℕ) (n : ℕ) (more rest : List ℕ) → b == 34 ≡ false → Body n (b ∷ bs) more rest → (ms : List ℕ) × (is_printable b ≡ true) × Body (n + 1) bs ms rest
plain_down b bs n [] rest f k = absurd (no_quote b bs rest f k.cut)
plain_down b bs n (m ∷ ms) rest f k =
    elim (cases_Bool (m == 34)) [
      | inl q ↦ absurd (no_quote b bs (34 ∷ (double_quotes ms ++ (34 ∷ rest))) f (k.cut ∙ ap (λ (xs : List ℕ). xs ++ (34 ∷ rest)) (doubled_quote m ms q)))
      | inr g ↦ let t = plain_tail b bs n m ms rest g k in (ms, t.0, t.1)
    ]

plain_read : (b : ℕ) (bs : List ℕ) (start place : ℕ) (kept : List ℕ) → b == 34 ≡ false → is_printable b ≡ true → nat_lt (length kept) 200 ≡ true → tokens_from (InQuotes start kept) place (b ∷ bs) ≡ tokens_from (InQuotes start (kept ++ b ∷ [])) (place + 1) bs
unfolding byte_turn quoted_byte character
plain_read b bs start place kept f p l = rw (f, p, l) refl

one_longer : (kept : List ℕ) (b n : ℕ) → length kept ≡ n → length (kept ++ b ∷ []) ≡ n + 1
one_longer kept b n e = omega (arith, length-append kept (b ∷ []))

has_room : (kept : List ℕ) (n : ℕ) → length kept ≡ n → nat_lt n 200 ≡ true → nat_lt (length kept) 200 ≡ true
has_room kept n e l = rw e l

plain_closes : (b : ℕ) (bs : List ℕ) (n : ℕ) → b == 34 ≡ false → is_printable b ≡ true → nat_lt n 200 ≡ true → ClosesString (n + 1) bs → ClosesString n (b ∷ bs)
plain_closes b bs n f p l s = record {
  more = b ∷ s.more;
  rest = s.rest;
  body = plain_up b bs n s.more s.rest f p s.body;
  reads = λ start place kept e. plain_read b bs start place kept f p (has_room kept n e l) ∙ s.reads start (place + 1) (kept ++ b ∷ []) (one_longer kept b n e)
      ∙ (let k : place + 1 + length (double_quotes s.more ++ 34 ∷ []) ≡ place + suc (length (double_quotes s.more ++ 34 ∷ [])) = omega arith in rw (append_assoc kept (b ∷ []) s.more, doubled_plain b s.more f, k) refl);
}

plain_breaks : (b : ℕ) (bs : List ℕ) (n : ℕ) → b == 34 ≡ false → is_printable b ≡ true → nat_lt n 200 ≡ true → Breaks (n + 1) bs → Breaks n (b ∷ bs)
plain_breaks b bs n f p l s = record {
  none = λ more rest k. let d = plain_down b bs n more rest f k in s.none d.0 rest d.2;
  reads = λ start place kept e. plain_read b bs start place kept f p (has_room kept n e l) ∙ s.reads start (place + 1) (kept ++ b ∷ []) (one_longer kept b n e);
}

-- a character that a string can't have
bad_read : (b : ℕ) (bs : List ℕ) (start place : ℕ) (kept : List ℕ) → b == 34 ≡ false → is_printable b ≡ false → tokens_from (InQuotes start kept) place (b ∷ bs) ≡ lexeme Bad start ∷ []
unfolding byte_turn quoted_byte
bad_read b bs start place kept f p = rw (f, p, stopped (place + 1) bs) refl

bad_breaks : (b : ℕ) (bs : List ℕ) (n : ℕ) → b == 34 ≡ false → is_printable b ≡ false → Breaks n (b ∷ bs)
bad_breaks b bs n f p = record {
  none = λ more rest k. let d = plain_down b bs n more rest f k in never (is_printable b) d.1 p;
  reads = λ start place kept e. bad_read b bs start place kept f p;
}

-- a character too many
full_read : (b : ℕ) (bs : List ℕ) (start place : ℕ) (kept : List ℕ) → b == 34 ≡ false → is_printable b ≡ true → nat_lt (length kept) 200 ≡ false → tokens_from (InQuotes start kept) place (b ∷ bs) ≡ lexeme Bad start ∷ []
unfolding byte_turn quoted_byte character
full_read b bs start place kept f p l = rw (f, p, l, stopped (place + 1) bs) refl

too_many : (n : ℕ) (bs ms rest : List ℕ) → nat_lt n 200 ≡ false → Body (n + 1) bs ms rest → ⊥
too_many n bs ms rest l k = let f = k.few in let h : 200 ≤ n = grind (arith, nat_tests) in omega arith

full_breaks : (b : ℕ) (bs : List ℕ) (n : ℕ) → b == 34 ≡ false → is_printable b ≡ true → nat_lt n 200 ≡ false → Breaks n (b ∷ bs)
full_breaks b bs n f p l = record {
  none = λ more rest k. let d = plain_down b bs n more rest f k in too_many n bs d.0 rest l d.2;
  reads = λ start place kept e. full_read b bs start place kept f p (rw e l);
}

-- a quote that stands twice
double_up : (bs : List ℕ) (n : ℕ) (more rest : List ℕ) → Body (n + 1) bs more rest → Body n (34 ∷ 34 ∷ bs) (34 ∷ more) rest
double_up bs n more rest k = record {
  cut = ap (λ (xs : List ℕ). 34 ∷ 34 ∷ xs) k.cut;
  printable = k.printable;
  few = let l = k.few in omega arith;
  closed = k.closed;
}

double_down : (bs : List ℕ) (n : ℕ) (more rest : List ℕ) → Body n (34 ∷ 34 ∷ bs) more rest → (ms : List ℕ) × Body (n + 1) bs ms rest
double_down bs n [] rest k = absurd (k.closed bs (let e : 34 ∷ 34 ∷ bs ≡ 34 ∷ rest = k.cut in cc))
double_down bs n (m ∷ ms) rest k =
    elim (cases_Bool (m == 34)) [
      | inl q ↦
          let e : 34 ∷ 34 ∷ bs ≡ 34 ∷ (34 ∷ (double_quotes ms ++ (34 ∷ rest))) = k.cut ∙ ap (λ (xs : List ℕ). xs ++ (34 ∷ rest)) (doubled_quote m ms q) in
          (ms, record { cut = cc; printable = (and_parts (is_printable m) _ k.printable).1; few = let l = k.few in omega arith; closed = k.closed })
      | inr g ↦ absurd (no_quote m (double_quotes ms ++ (34 ∷ rest)) (34 ∷ bs) g (sym (k.cut ∙ ap (λ (xs : List ℕ). xs ++ (34 ∷ rest)) (doubled_plain m ms g))))
    ]

double_read : (bs : List ℕ) (start place : ℕ) (kept : List ℕ) → nat_lt (length kept) 200 ≡ true → tokens_from (InQuotes start kept) place (34 ∷ 34 ∷ bs) ≡ tokens_from (InQuotes start (kept ++ 34 ∷ [])) (place + 1 + 1) bs
unfolding byte_turn quoted_byte quote_byte character
double_read bs start place kept l = rw l refl

double_closes : (bs : List ℕ) (n : ℕ) → nat_lt n 200 ≡ true → ClosesString (n + 1) bs → ClosesString n (34 ∷ 34 ∷ bs)
double_closes bs n l s = record {
  more = 34 ∷ s.more;
  rest = s.rest;
  body = double_up bs n s.more s.rest s.body;
  reads = λ start place kept e. double_read bs start place kept (has_room kept n e l) ∙ s.reads start (place + 1 + 1) (kept ++ 34 ∷ []) (one_longer kept 34 n e)
      ∙ (let k : place + 1 + 1 + length (double_quotes s.more ++ 34 ∷ []) ≡ place + suc (suc (length (double_quotes s.more ++ 34 ∷ []))) = omega arith in rw (append_assoc kept (34 ∷ []) s.more, k) refl);
}

double_breaks : (bs : List ℕ) (n : ℕ) → nat_lt n 200 ≡ true → Breaks (n + 1) bs → Breaks n (34 ∷ 34 ∷ bs)
double_breaks bs n l s = record {
  none = λ more rest k. let d = double_down bs n more rest k in s.none d.0 rest d.1;
  reads = λ start place kept e. double_read bs start place kept (has_room kept n e l) ∙ s.reads start (place + 1 + 1) (kept ++ 34 ∷ []) (one_longer kept 34 n e);
}

double_full : (bs : List ℕ) (start place : ℕ) (kept : List ℕ) → nat_lt (length kept) 200 ≡ false → tokens_from (InQuotes start kept) place (34 ∷ 34 ∷ bs) ≡ lexeme Bad start ∷ []
unfolding byte_turn quoted_byte quote_byte character
double_full bs start place kept l = rw (l, stopped (place + 1 + 1) bs) refl

double_over : (bs : List ℕ) (n : ℕ) → nat_lt n 200 ≡ false → Breaks n (34 ∷ 34 ∷ bs)
double_over bs n l = record {
  none = λ more rest k. let d = double_down bs n more rest k in too_many n bs d.0 rest l d.1;
  reads = λ start place kept e. double_full bs start place kept (rw e l);
}

-- a quote that ends it
nothing_closed : (bs : List ℕ) → [] ≡ 34 ∷ bs → ⊥
nothing_closed bs e = cc

last_read : (start place : ℕ) (kept : List ℕ) → tokens_from (InQuotes start kept) place (34 ∷ []) ≡ lexeme (Quoted (kept ++ [])) start ∷ tokens_from Between (place + 1) []
unfolding byte_turn quoted_byte end_turn
last_read start place kept = rw append-nil refl

ended_read : (b : ℕ) (bs : List ℕ) (start place : ℕ) (kept : List ℕ) → b == 34 ≡ false → tokens_from (InQuotes start kept) place (34 ∷ b ∷ bs) ≡ lexeme (Quoted (kept ++ [])) start ∷ tokens_from Between (place + 1) (b ∷ bs)
unfolding byte_turn quoted_byte quote_byte
ended_read b bs start place kept f = rw (f, append-nil) refl

last_closes : (n : ℕ) → n ≤ 200 → ClosesString n (34 ∷ [])
last_closes n l = record {
  more = [];
  rest = [];
  body = record { cut = refl; printable = refl; few = omega arith; closed = nothing_closed };
  reads = λ start place kept e. last_read start place kept;
}

ended_closes : (b : ℕ) (bs : List ℕ) (n : ℕ) → n ≤ 200 → b == 34 ≡ false → ClosesString n (34 ∷ b ∷ bs)
ended_closes b bs n l f = record {
  more = [];
  rest = b ∷ bs;
  body = record { cut = refl; printable = refl; few = omega arith; closed = λ xs e. no_quote b bs xs f e };
  reads = λ start place kept e. ended_read b bs start place kept f;
}

-- the text ends within it
open_read : (start place : ℕ) (kept : List ℕ) → tokens_from (InQuotes start kept) place [] ≡ lexeme Bad start ∷ []
unfolding end_turn
open_read start place kept = refl

nil_none : (n : ℕ) (more rest : List ℕ) → Body n [] more rest → ⊥
nil_none n [] rest k = let e : [] ≡ 34 ∷ rest = k.cut in cc
nil_none n (m ∷ ms) rest k =
    elim (cases_Bool (m == 34)) [
      | inl q ↦ let e : [] ≡ 34 ∷ (34 ∷ (double_quotes ms ++ (34 ∷ rest))) = k.cut ∙ ap (λ (xs : List ℕ). xs ++ (34 ∷ rest)) (doubled_quote m ms q) in cc
      | inr g ↦ let e : [] ≡ m ∷ (double_quotes ms ++ (34 ∷ rest)) = k.cut ∙ ap (λ (xs : List ℕ). xs ++ (34 ∷ rest)) (doubled_plain m ms g) in cc
    ]

nil_breaks : (n : ℕ) → Breaks n []
nil_breaks n = record { none = nil_none n; reads = λ start place kept e. open_read start place kept }

abbrev pub StringScan : ℕ → List ℕ → Type 0
StringScan n text = ClosesString n text ⊎ Breaks n text

plain_scan : (b : ℕ) (bs : List ℕ) (n : ℕ) → b == 34 ≡ false → is_printable b ≡ true → nat_lt n 200 ≡ true → StringScan (n + 1) bs → StringScan n (b ∷ bs)
plain_scan b bs n f p l (inl s) = inl (plain_closes b bs n f p l s)
plain_scan b bs n f p l (inr s) = inr (plain_breaks b bs n f p l s)

double_scan : (bs : List ℕ) (n : ℕ) → nat_lt n 200 ≡ true → StringScan (n + 1) bs → StringScan n (34 ∷ 34 ∷ bs)
double_scan bs n l (inl s) = inl (double_closes bs n l s)
double_scan bs n l (inr s) = inr (double_breaks bs n l s)

room : (n : ℕ) → nat_lt n 200 ≡ true → n + 1 ≤ 200
room n l = let h : n < 200 = grind (arith, nat_tests) in omega arith

plain_case : (b : ℕ) (bs : List ℕ) (n : ℕ) → b == 34 ≡ false → ((m : ℕ) → m ≤ 200 → StringScan m bs) → StringScan n (b ∷ bs)
plain_case b bs n f next =
    elim (cases_Bool (is_printable b)) [
      | inr u ↦ inr (bad_breaks b bs n f u)
      | inl p ↦ elim (cases_Bool (nat_lt n 200)) [
        | inl l ↦ plain_scan b bs n f p l (next (n + 1) (room n l))
        | inr o ↦ inr (full_breaks b bs n f p o)
      ]
    ]

double_case : (bs : List ℕ) (n : ℕ) → ((m : ℕ) → m ≤ 200 → StringScan m bs) → StringScan n (34 ∷ 34 ∷ bs)
double_case bs n next =
    elim (cases_Bool (nat_lt n 200)) [
      | inl l ↦ double_scan bs n l (next (n + 1) (room n l))
      | inr o ↦ inr (double_over bs n o)
    ]

quote_case : (c : ℕ) (bs : List ℕ) (n : ℕ) → n ≤ 200 → ((m : ℕ) → m ≤ 200 → StringScan m bs) → StringScan n (34 ∷ c ∷ bs)
quote_case c bs n l next =
    elim (cases_Bool (c == 34)) [
      | inl q ↦ rw (is_byte c 34 q) (double_case bs n next)
      | inr f ↦ inl (ended_closes c bs n l f)
    ]

first_case : (b c : ℕ) (bs : List ℕ) (n : ℕ) → n ≤ 200 → ((m : ℕ) → m ≤ 200 → StringScan m bs) → ((m : ℕ) → m ≤ 200 → StringScan m (c ∷ bs)) → StringScan n (b ∷ c ∷ bs)
first_case b c bs n l next other =
    elim (cases_Bool (b == 34)) [
      | inl q ↦ rw (is_byte b 34 q) (quote_case c bs n l next)
      | inr f ↦ plain_case b (c ∷ bs) n f other
    ]

last_case : (b n : ℕ) → n ≤ 200 → StringScan n (b ∷ [])
last_case b n l =
    elim (cases_Bool (b == 34)) [
      | inl q ↦ rw (is_byte b 34 q) (inl (last_closes n l))
      | inr f ↦ plain_case b [] n f (λ m k. inr (nil_breaks m))
    ]

-- how far any text goes on with a string of which so many characters were read
pub string_scan : (text : List ℕ) (n : ℕ) → n ≤ 200 → StringScan n text
string_scan [] n l = inr (nil_breaks n)
string_scan (b ∷ []) n l = last_case b n l
string_scan (b ∷ c ∷ bs) n l = first_case b c bs n l (λ m k. string_scan bs m k) (λ m k. string_scan (c ∷ bs) m k)
