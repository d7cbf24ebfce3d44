-- A text is cut into tokens in one way, and the reader does it.
use Rattle.std.proofs.Common.{◌≡◌, ◌+◌, ◌≤◌, ℕ, zero, suc, List, [], ◌∷◌, ◌++◌, length, length-append, Bool, true, false, not, ◌||◌, ◌&&◌, ◌==◌, ◌⊎◌, inl, inr, refl, sym, ap, ◌∙◌, subst, arith, add-zero}
use Rattle.std.proofs.lemmas.Bool.{and_parts, or_right, or_cases, cases_Bool, false_from_ne_true, not-true}
use Rattle.std.specs.Prelude.{nat_le}
use Rattle.std.proofs.lemmas.List.{append-nil}
use Rattle.std.proofs.lemmas.Bool.Decides.{Decides-eqb, nat_tests}
use Rattle.std.specs.List.{list_all}
use Rattle.dms_tokens.specs.declared.token.Token.{Token}
use Rattle.dms_tokens.specs.declared.token.Token.TheVariants.{Quoted, Bad, End}
use Rattle.dms_tokens.specs.declared.token.Lexeme.{Lexeme}
use Rattle.dms_tokens.specs.declared.reading.Reading.TheVariants.{Between, Comment}
use Rattle.dms_tokens.specs.Lexing.{is_blank, is_plain, is_letter, is_sign}
use Rattle.dms_tokens.specs.Tokens.{lexeme, tokens_from, fresh_byte, comment_byte, byte_turn, end_turn}
use Rattle.dms_tokens.specs.Spelling.{behind_point, number_of, SpellsToken, IsLongest, is_past_comment, AreTokens}
use Rattle.dms_tokens.specs.Spelling.AreTokens.{the_end, a_blank, a_comment, a_token, unreadable}
use Rattle.dms_tokens.proofs.WordScan.{stopped, never, is_byte}
use Rattle.dms_tokens.proofs.Shapes.{class_of, letter_above, letter_below, sign_class, blank_class, TokenShape, shape_of, nothing_spelled, shape_class, word_is, Tail, number_shape_is, Signs, plus_is, minus_is, string_is, sign_is, equal_is, less_is, greater_is}
use Rattle.dms_tokens.proofs.Shapes.TokenShape.{word_shape, number_shape, plus_shape, minus_shape, string_shape, sign_shape, equal_shape, less_shape, less_equal_shape, not_equal_shape, greater_shape, greater_equal_shape}
use Rattle.dms_tokens.proofs.Longest.{FirstToken, first_token, closed_pair, nil_closed}
use Rattle.dms_base.specs.Words.{is_digit}

-- Bytes have the form of one token

number_pair : (ws xs fs gs : List ℕ) → list_all is_digit ws ≡ true → list_all is_digit xs ≡ true → ws ++ behind_point fs ≡ xs ++ behind_point gs → (ws ≡ xs) × (fs ≡ gs)
number_pair [] [] [] [] h k e = (refl, refl)
number_pair [] [] [] (g ∷ gs) h k e = absurd (cc)
number_pair [] [] (f ∷ fs) [] h k e = absurd (cc)
number_pair [] [] (f ∷ fs) (g ∷ gs) h k e = (refl, cc)
number_pair [] (x ∷ xs) [] gs h k e = absurd (cc)
number_pair [] (x ∷ xs) (f ∷ fs) gs h k e = let same : x ≡ 46 = cc in absurd (never (is_digit 46) (ap is_digit (sym same) ∙ (and_parts (is_digit x) _ k).0) refl)
number_pair (w ∷ ws) [] fs [] h k e = absurd (cc)
number_pair (w ∷ ws) [] fs (g ∷ gs) h k e = let same : w ≡ 46 = cc in absurd (never (is_digit 46) (ap is_digit (sym same) ∙ (and_parts (is_digit w) _ h).0) refl)
number_pair (w ∷ ws) (x ∷ xs) fs gs h k e =
    let p = number_pair ws xs fs gs (and_parts (is_digit w) _ h).1 (and_parts (is_digit x) _ k).1 (cc) in
    let same : w ≡ x = cc in
    let a = p.0 in
    (cc, p.1)

tail_same : (g n : Bool) (b : ℕ) (ws fs : List ℕ) (u : Token) → list_all is_digit ws ≡ true → Tail g n b (ws ++ behind_point fs) u → number_of g n (b ∷ ws) fs ≡ u
tail_same g n b ws fs u h k =
    let p = number_pair ws k.ws fs k.fs h k.digits k.all in
    sym (k.token ∙ rw (← p.0, ← p.1) refl)

signs_same : (g n : Bool) (b : ℕ) (ws fs : List ℕ) (u : Token) → list_all is_digit ws ≡ true → Signs g n (b ∷ (ws ++ behind_point fs)) u → number_of g n (b ∷ ws) fs ≡ u
signs_same g n b ws fs u h k =
    let e : b ∷ (ws ++ behind_point fs) ≡ k.first ∷ k.others = k.all in
    let f : b ≡ k.first = cc in
    let o : ws ++ behind_point fs ≡ k.others = cc in
    tail_same g n b ws fs u h (rw (f, o) k.tail)

shape_same : (b : ℕ) (bs : List ℕ) (t u : Token) → TokenShape b bs t → TokenShape b bs u → t ≡ u
shape_same _ _ _ u (word_shape b bs l g) s = sym (word_is b bs u s l).1
shape_same _ _ _ u (number_shape b ws fs i j k) s = tail_same false false b ws fs u j (number_shape_is b (ws ++ behind_point fs) u s i)
shape_same _ _ _ u (plus_shape b ws fs i j k) s = signs_same true false b ws fs u j (plus_is 43 (b ∷ (ws ++ behind_point fs)) u s refl)
shape_same _ _ _ u (minus_shape b ws fs i j k) s = signs_same true true b ws fs u j (minus_is 45 (b ∷ (ws ++ behind_point fs)) u s refl)
shape_same _ _ _ u (string_shape text p l) s = let k = string_is 34 _ u s refl in sym (k.token ∙ ap (λ (xs : List ℕ). Quoted xs) (closed_pair k.text text [] [] nil_closed nil_closed (sym k.all)).0)
shape_same _ _ _ u (sign_shape b i) s = sym (sign_is b [] u s (sign_class b i)).1
shape_same _ _ _ u equal_shape s = sym (equal_is 61 [] u s refl).1
shape_same _ _ _ u less_shape s = sym (less_is 60 [] u s refl)
shape_same _ _ _ u less_equal_shape s = elim (less_is 60 (61 ∷ []) u s refl) [ inl k ↦ sym k.1 | inr k ↦ let e : ◌≡◌ {A = ℕ} 61 62 = k.0 in absurd (omega arith) ]
shape_same _ _ _ u not_equal_shape s = elim (less_is 60 (62 ∷ []) u s refl) [ inl k ↦ let e : ◌≡◌ {A = ℕ} 62 61 = k.0 in absurd (omega arith) | inr k ↦ sym k.1 ]
shape_same _ _ _ u greater_shape s = sym (greater_is 62 [] u s refl)
shape_same _ _ _ u greater_equal_shape s = sym (greater_is 62 (61 ∷ []) u s refl).1

spelled_same : (xs : List ℕ) (t u : Token) → SpellsToken xs t → SpellsToken xs u → t ≡ u
spelled_same [] t u d f = absurd (nothing_spelled t d)
spelled_same (b ∷ bs) t u d f = shape_same b bs t u (shape_of b bs t d) (shape_of b bs u f)

-- A text begins with one token at most

-- of two prefixes of a text one is a prefix of the other
record Longer (f r g s : List ℕ) : Type 0 where
  more : List ℕ
  front : g ≡ f ++ more
  rest : r ≡ more ++ s

longer : (f r g s : List ℕ) → f ++ r ≡ g ++ s → Longer f r g s ⊎ Longer g s f r
longer [] r g s e = inl (record { more = g; front = refl; rest = e })
longer (x ∷ f) r [] s e = inr (record { more = x ∷ f; front = refl; rest = sym e })
longer (x ∷ f) r (y ∷ g) s e =
    let same : x ≡ y = cc in
    let tails : f ++ r ≡ g ++ s = cc in
    elim (longer f r g s tails) [
      | inl k ↦ inl (record { more = k.more; front = rw same (ap (λ (xs : List ℕ). y ∷ xs) k.front); rest = k.rest })
      | inr k ↦ inr (record { more = k.more; front = rw same (ap (λ (xs : List ℕ). y ∷ xs) k.front); rest = k.rest })
    ]

record SameToken (f r : List ℕ) (t : Token) (g s : List ℕ) (u : Token) : Type 0 where
  front : f ≡ g
  rest : r ≡ s
  token : t ≡ u

same_by : (f r g s : List ℕ) (t u : Token) → IsLongest f r t → IsLongest g s u → Longer f r g s → SameToken f r t g s u
same_by f r g s t u l m k =
    let none : k.more ≡ [] = l.longest k.more s u k.rest (subst (λ (xs : List ℕ). SpellsToken xs u) k.front m.spelled) in
    let front : f ≡ g = sym (k.front ∙ ap (λ (xs : List ℕ). f ++ xs) none ∙ append-nil f) in
    record {
      front = front;
      rest = k.rest ∙ ap (λ (xs : List ℕ). xs ++ s) none;
      token = spelled_same g t u (subst (λ (xs : List ℕ). SpellsToken xs t) front l.spelled) m.spelled;
    }

turned : (f r g s : List ℕ) (t u : Token) → SameToken g s u f r t → SameToken f r t g s u
turned f r g s t u k = record { front = sym k.front; rest = sym k.rest; token = sym k.token }

same_first : (f r g s : List ℕ) (t u : Token) → f ++ r ≡ g ++ s → IsLongest f r t → IsLongest g s u → SameToken f r t g s u
same_first f r g s t u e l m =
    elim (longer f r g s e) [
      | inl k ↦ same_by f r g s t u l m k
      | inr k ↦ turned f r g s t u (same_by g s f r u t m l k)
    ]

-- Blanks and comments

blank_first : (place b : ℕ) (bs : List ℕ) → is_blank b ≡ true → tokens_from Between place (b ∷ bs) ≡ tokens_from Between (place + 1) bs
unfolding byte_turn fresh_byte
blank_first place b bs h = rw h refl

comment_first : (place : ℕ) (bs : List ℕ) → tokens_from Between place (37 ∷ bs) ≡ tokens_from Comment (place + 1) bs
unfolding byte_turn fresh_byte
comment_first place bs = refl

plain_between : (b : ℕ) → 33 ≤ b → b ≤ 126 → is_plain b ≡ true
plain_between b h k =
    let low : nat_le 33 b ≡ true = grind (arith, nat_tests) in
    let high : nat_le b 126 ≡ true = grind (arith, nat_tests) in
    or_right (is_blank b) (nat_le 33 b && nat_le b 126) (rw (low, high) refl)

letter_plain : (b : ℕ) → is_letter b ≡ true → is_plain b ≡ true
letter_plain b h = let l = letter_above b h in let k = letter_below b h in plain_between b (omega arith) (omega arith)

digit_plain : (b : ℕ) → is_digit b ≡ true → is_plain b ≡ true
digit_plain b h =
    let k : nat_le 48 b ≡ true = (and_parts (nat_le 48 b) _ h).0 in
    let m : nat_le b 57 ≡ true = (and_parts (nat_le 48 b) _ h).1 in
    let low : 48 ≤ b = grind (arith, nat_tests) in
    let high : b ≤ 57 = grind (arith, nat_tests) in
    plain_between b (omega arith) (omega arith)

plain_at : (b c : ℕ) → b == c ≡ true → is_plain c ≡ true → is_plain b ≡ true
plain_at b c h k = ap is_plain ((Decides-eqb b c).0 h) ∙ k

sign_plain : (b : ℕ) → is_sign b ≡ true → is_plain b ≡ true
sign_plain b h = elim (or_cases (b == 40 || b == 41 || b == 44) (b == 59) h) [
  | inr d ↦ plain_at b 59 d refl
  | inl k ↦ elim (or_cases (b == 40 || b == 41) (b == 44) k) [
    | inr d ↦ plain_at b 44 d refl
    | inl l ↦ elim (or_cases (b == 40) (b == 41) l) [
      | inr d ↦ plain_at b 41 d refl
      | inl d ↦ plain_at b 40 d refl
    ]
  ]
]

-- no token begins with a byte that a comment can't hold
shape_plain : (b : ℕ) (bs : List ℕ) (t : Token) → TokenShape b bs t → is_plain b ≡ true
shape_plain _ _ _ (word_shape b bs l g) = letter_plain b l
shape_plain _ _ _ (number_shape b ws fs i j k) = digit_plain b i
shape_plain _ _ _ (plus_shape b ws fs i j k) = refl
shape_plain _ _ _ (minus_shape b ws fs i j k) = refl
shape_plain _ _ _ (string_shape text p l) = refl
shape_plain _ _ _ (sign_shape b i) = sign_plain b i
shape_plain _ _ _ equal_shape = refl
shape_plain _ _ _ less_shape = refl
shape_plain _ _ _ less_equal_shape = refl
shape_plain _ _ _ not_equal_shape = refl
shape_plain _ _ _ greater_shape = refl
shape_plain _ _ _ greater_equal_shape = refl

spelled_plain : (b : ℕ) (bs front rest : List ℕ) (t : Token) → b ∷ bs ≡ front ++ rest → SpellsToken front t → is_plain b ≡ true
spelled_plain b bs [] rest t e d = absurd (nothing_spelled t d)
spelled_plain b bs (c ∷ f) rest t e d = let same : b ≡ c = cc in ap is_plain same ∙ shape_plain c f t (shape_of c f t d)

not_blank : (b : ℕ) → is_plain b ≡ false → is_blank b ≡ false
not_blank b h = false_from_ne_true (is_blank b) (λ (t : is_blank b ≡ true). never (is_plain b) (rw t refl) h)

not_comment : (b : ℕ) → is_plain b ≡ false → b == 37 ≡ false
not_comment b h = false_from_ne_true (b == 37) (λ (t : b == 37 ≡ true). never (is_plain b) (plain_at b 37 t refl) h)

unplain_by : (place b : ℕ) (bs : List ℕ) → is_plain b ≡ false → FirstToken place (b ∷ bs) → tokens_from Between place (b ∷ bs) ≡ lexeme Bad place ∷ []
unplain_by place b bs h (inl k) = absurd (never (is_plain b) (spelled_plain b bs k.front k.rest k.token k.cut k.longest.spelled) h)
unplain_by place b bs h (inr k) = k.reads

unplain : (place b : ℕ) (bs : List ℕ) → is_plain b ≡ false → tokens_from Between place (b ∷ bs) ≡ lexeme Bad place ∷ []
unplain place b bs h = unplain_by place b bs h (first_token place b bs (not_blank b h) (not_comment b h))

comment_bad : (place b : ℕ) (bs : List ℕ) → b == 10 ≡ false → is_plain b ≡ false → tokens_from Comment place (b ∷ bs) ≡ lexeme Bad place ∷ []
unfolding byte_turn comment_byte
comment_bad place b bs f h = rw (h, f, stopped (place + 1) bs) refl

comment_line : (place : ℕ) (bs : List ℕ) → tokens_from Comment place (10 ∷ bs) ≡ tokens_from Between (place + 1) bs
unfolding byte_turn comment_byte
comment_line place bs = refl

not_plain : (b : ℕ) → b == 10 ≡ false → b == 10 || not (is_plain b) ≡ true → is_plain b ≡ false
not_plain b f h = elim (or_cases (b == 10) (not (is_plain b)) h) [
  | inl t ↦ absurd (never (b == 10) t f)
  | inr k ↦ not-true (is_plain b) k
]

comment_at_line : (place b : ℕ) (bs : List ℕ) → b == 10 ≡ true → tokens_from Comment place (b ∷ bs) ≡ tokens_from Between place (b ∷ bs)
comment_at_line place b bs h = rw (is_byte b 10 h) (comment_line place bs ∙ sym (blank_first place 10 bs refl))

past_by : (place b : ℕ) (bs : List ℕ) → b == 10 || not (is_plain b) ≡ true → tokens_from Comment place (b ∷ bs) ≡ tokens_from Between place (b ∷ bs)
past_by place b bs h =
    elim (cases_Bool (b == 10)) [
      | inl t ↦ comment_at_line place b bs t
      | inr f ↦ comment_bad place b bs f (not_plain b f h) ∙ sym (unplain place b bs (not_plain b f h))
    ]

nothing_past : (place : ℕ) → tokens_from Comment place [] ≡ tokens_from Between place []
unfolding end_turn
nothing_past place = refl

past : (place : ℕ) (rest : List ℕ) → is_past_comment rest ≡ true → tokens_from Comment place rest ≡ tokens_from Between place rest
past place [] h = nothing_past place
past place (b ∷ bs) h = past_by place b bs h

plain_on : (place b : ℕ) (bs : List ℕ) → b == 10 ≡ false → is_plain b ≡ true → tokens_from Comment place (b ∷ bs) ≡ tokens_from Comment (place + 1) bs
unfolding byte_turn comment_byte
plain_on place b bs f h = rw (h, f) refl

comment_reads : (comment rest : List ℕ) (place : ℕ) → list_all is_plain comment ≡ true → list_all (λ b. not (b == 10)) comment ≡ true → is_past_comment rest ≡ true → tokens_from Comment place (comment ++ rest) ≡ tokens_from Between (place + length comment) rest
comment_reads [] rest place h k p = rw add-zero (past place rest p)
comment_reads (b ∷ bs) rest place h k p =
    plain_on place b (bs ++ rest) (not-true (b == 10) (and_parts (not (b == 10)) _ k).0) (and_parts (is_plain b) _ h).0 ∙ comment_reads bs rest (place + 1) (and_parts (is_plain b) _ h).1 (and_parts (not (b == 10)) _ k).1 p ∙ (let e : place + 1 + length bs ≡ place + suc (length bs) = omega arith in rw e refl)

-- the bytes of a comment
record TokenSpan (text : List ℕ) : Type 0 where
  comment : List ℕ
  rest : List ℕ
  cut : text ≡ comment ++ rest
  plain : list_all is_plain comment ≡ true
  one_line : list_all (λ b. not (b == 10)) comment ≡ true
  past : is_past_comment rest ≡ true

or_false : (a b : Bool) → a || not b ≡ false → (not a ≡ true) × (b ≡ true)
or_false true b h = absurd (cc)
or_false false true h = (refl, refl)
or_false false false h = absurd (cc)

span : (text : List ℕ) → TokenSpan text
span [] = record { comment = []; rest = []; cut = refl; plain = refl; one_line = refl; past = refl }
span (b ∷ bs) =
    elim (cases_Bool (b == 10 || not (is_plain b))) [
      | inl t ↦ record { comment = []; rest = b ∷ bs; cut = refl; plain = refl; one_line = refl; past = t }
      | inr f ↦
          let k = or_false (b == 10) (is_plain b) f in
          let s = span bs in
          record { comment = b ∷ s.comment; rest = s.rest; cut = ap (λ (xs : List ℕ). b ∷ xs) s.cut; plain = rw (k.1) s.plain; one_line = rw (k.0) s.one_line; past = s.past }
    ]

comment_whole : (place : ℕ) (text comment rest : List ℕ) → text ≡ comment ++ rest → list_all is_plain comment ≡ true → list_all (λ b. not (b == 10)) comment ≡ true → is_past_comment rest ≡ true → tokens_from Between place (37 ∷ text) ≡ tokens_from Between (place + 1 + length comment) rest
comment_whole place text comment rest e h k p = comment_first place text ∙ rw e (comment_reads comment rest (place + 1) h k p)

-- What is read are the tokens

end_read : (place : ℕ) → tokens_from Between place [] ≡ lexeme End place ∷ []
unfolding end_turn
end_read place = refl

some_bytes : (front : List ℕ) (t : Token) → SpellsToken front t → 1 ≤ length front
some_bytes [] t d = absurd (nothing_spelled t d)
some_bytes (b ∷ bs) t d = omega arith

first_are : (n place b : ℕ) (bs : List ℕ) → is_blank b ≡ false → b == 37 ≡ false → length bs ≤ n → ((p : ℕ) (text : List ℕ) → length text ≤ n → AreTokens p text (tokens_from Between p text)) → FirstToken place (b ∷ bs) → AreTokens place (b ∷ bs) (tokens_from Between place (b ∷ bs))
first_are n place b bs e f l next (inl k) =
    let some = some_bytes k.front k.token k.longest.spelled in
    let all : length (b ∷ bs) ≡ length k.front + length k.rest = ap length k.cut ∙ length-append k.front k.rest in
    let less : length k.rest ≤ n = omega arith in
    subst (λ (ls : List Lexeme). AreTokens place (b ∷ bs) ls) (sym k.reads) (a_token place (b ∷ bs) k.front k.rest k.token _ k.cut k.longest (next (place + length k.front) k.rest less))
first_are n place b bs e f l next (inr k) = subst (λ (ls : List Lexeme). AreTokens place (b ∷ bs) ls) (sym k.reads) (unreadable place b bs e f k.none)

comment_are : (n place : ℕ) (bs : List ℕ) → length bs ≤ n → ((p : ℕ) (text : List ℕ) → length text ≤ n → AreTokens p text (tokens_from Between p text)) → TokenSpan bs → AreTokens place (37 ∷ bs) (tokens_from Between place (37 ∷ bs))
comment_are n place bs l next s =
    let all : length bs ≡ length s.comment + length s.rest = ap length s.cut ∙ length-append s.comment s.rest in
    let less : length s.rest ≤ n = omega arith in
    subst (λ (ls : List Lexeme). AreTokens place (37 ∷ bs) ls) (sym (comment_whole place bs s.comment s.rest s.cut s.plain s.one_line s.past)) (a_comment place bs s.comment s.rest _ s.cut s.plain s.one_line s.past (next (place + 1 + length s.comment) s.rest less))

byte_are : (n place b : ℕ) (bs : List ℕ) → length bs ≤ n → ((p : ℕ) (text : List ℕ) → length text ≤ n → AreTokens p text (tokens_from Between p text)) → AreTokens place (b ∷ bs) (tokens_from Between place (b ∷ bs))
byte_are n place b bs l next =
    elim (cases_Bool (is_blank b)) [
      | inl h ↦ subst (λ (ls : List Lexeme). AreTokens place (b ∷ bs) ls) (sym (blank_first place b bs h)) (a_blank place b bs _ h (next (place + 1) bs l))
      | inr e ↦ elim (cases_Bool (b == 37)) [
        | inl h ↦ subst (λ (x : ℕ). AreTokens place (x ∷ bs) (tokens_from Between place (x ∷ bs))) (sym (is_byte b 37 h)) (comment_are n place bs l next (span bs))
        | inr f ↦ first_are n place b bs e f l next (first_token place b bs e f)
      ]
    ]

are_up_to : (n place : ℕ) (text : List ℕ) → length text ≤ n → AreTokens place text (tokens_from Between place text)
are_up_to n place [] l = subst (λ (ls : List Lexeme). AreTokens place [] ls) (sym (end_read place)) (the_end place)
are_up_to zero place (b ∷ bs) l = absurd (omega arith)
are_up_to (suc n) place (b ∷ bs) l = byte_are n place b bs (omega arith) (λ p text k. are_up_to n p text k)

-- what is read of a text are its tokens
pub tokens_are : (place : ℕ) (text : List ℕ) → AreTokens place text (tokens_from Between place text)
tokens_are place text = are_up_to (length text) place text (omega arith)

-- Nothing else are

token_read_by : (place : ℕ) (text front rest : List ℕ) (t : Token) → text ≡ front ++ rest → IsLongest front rest t → FirstToken place text → tokens_from Between place text ≡ lexeme t place ∷ tokens_from Between (place + length front) rest
token_read_by place text front rest t e l (inl k) =
    let s = same_first front rest k.front k.rest t k.token (sym e ∙ k.cut) l k.longest in
    k.reads ∙ rw (s.front, s.rest, s.token) refl
token_read_by place text front rest t e l (inr k) = absurd (k.none front rest t e l)

first_is : (b : ℕ) (bs : List ℕ) (t : Token) → SpellsToken (b ∷ bs) t → (is_blank b ≡ false) × (b == 37 ≡ false)
first_is b bs t d =
    let c = shape_class b bs t (shape_of b bs t d) in
    (false_from_ne_true (is_blank b) (λ (h : is_blank b ≡ true). let k = blank_class b h in omega arith), false_from_ne_true (b == 37) (λ (h : b == 37 ≡ true). let k : class_of b ≡ 11 = ap class_of (is_byte b 37 h) in omega arith))

token_read : (place : ℕ) (text front rest : List ℕ) (t : Token) → text ≡ front ++ rest → IsLongest front rest t → tokens_from Between place text ≡ lexeme t place ∷ tokens_from Between (place + length front) rest
token_read place text [] rest t e l = absurd (nothing_spelled t l.spelled)
token_read place text (b ∷ bs) rest t e l =
    let k = first_is b bs t l.spelled in
    token_read_by place text (b ∷ bs) rest t e l (subst (λ (xs : List ℕ). FirstToken place xs) (sym e) (first_token place b (bs ++ rest) k.0 k.1))

unread_by : (place b : ℕ) (bs : List ℕ) → ((front back : List ℕ) (t : Token) → b ∷ bs ≡ front ++ back → IsLongest front back t → ⊥) → FirstToken place (b ∷ bs) → tokens_from Between place (b ∷ bs) ≡ lexeme Bad place ∷ []
unread_by place b bs none (inl k) = absurd (none k.front k.rest k.token k.cut k.longest)
unread_by place b bs none (inr k) = k.reads

-- a text's tokens are what is read of it
pub tokens_alone : (place : ℕ) (text : List ℕ) (ls : List Lexeme) → AreTokens place text ls → ls ≡ tokens_from Between place text
tokens_alone _ _ _ (the_end place) = sym (end_read place)
tokens_alone _ _ _ (a_blank place b rest ls h d) = tokens_alone (place + 1) rest ls d ∙ sym (blank_first place b rest h)
tokens_alone _ _ _ (a_comment place text comment rest ls e h k p d) = tokens_alone (place + 1 + length comment) rest ls d ∙ sym (comment_whole place text comment rest e h k p)
tokens_alone _ _ _ (a_token place text front rest t ls e l d) = ap (λ (xs : List Lexeme). lexeme t place ∷ xs) (tokens_alone (place + length front) rest ls d) ∙ sym (token_read place text front rest t e l)
tokens_alone _ _ _ (unreadable place b rest e f none) = sym (unread_by place b rest none (first_token place b rest e f))
