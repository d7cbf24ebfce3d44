-- How far a word goes.
use Rattle.std.proofs.Common.{◌≡◌, ◌+◌, ℕ, suc, List, [], ◌∷◌, ◌++◌, map, length, Bool, true, false, ◌||◌, ◌==◌, ◌⊎◌, inl, inr, refl, ap, ◌∙◌, arith, append_assoc, add-zero}
use Rattle.std.proofs.lemmas.Bool.{or_right, cases_Bool}
use Rattle.std.proofs.lemmas.Bool.Decides.{Decides-eqb}
use Rattle.std.proofs.lemmas.List.{append-nil}
use Rattle.dms_tokens.specs.declared.token.Token.TheVariants.{Word, Bad}
use Rattle.dms_tokens.specs.declared.reading.Reading.TheVariants.{Between, Word as InWord, Dashes, Stopped}
use Rattle.dms_tokens.specs.Lexing.{upper, is_letter}
use Rattle.dms_tokens.specs.Tokens.{lexeme, tokens_from, fresh_byte, byte_turn, word_byte, dashes_byte, signed_byte, end_turn}
use Rattle.dms_tokens.specs.Spelling.{goes_on}
use Rattle.dms_base.specs.Words.{is_digit}

-- nothing is read behind a byte that can't be
pub stopped : (place : ℕ) (text : List ℕ) → tokens_from Stopped place text ≡ []
unfolding byte_turn end_turn
stopped place [] = refl
stopped place (b ∷ bs) = stopped (place + 1) bs

-- a letter or a digit goes on with a word, and a hyphen where a word goes on behind it; nothing else does
alnum : (h : Bool) (b : ℕ) (bs : List ℕ) → is_letter b || is_digit b ≡ true → goes_on h (b ∷ bs) ≡ goes_on false bs
alnum h b bs e = rw e refl

other : (h : Bool) (b : ℕ) (bs : List ℕ) → is_letter b || is_digit b ≡ false → b == 45 ≡ false → goes_on h (b ∷ bs) ≡ false
other h b bs e f = rw (e, f) refl

-- no prefix of a text goes on with a word
abbrev pub EndsWord : Bool → List ℕ → Type 0
EndsWord h text = (m back : List ℕ) → text ≡ m ++ back → goes_on h m ≡ true → m ≡ []

not_digit : (b : ℕ) (bs : List ℕ) → ((m back : List ℕ) → b ∷ bs ≡ m ++ back → goes_on true m ≡ true → ⊥) → is_digit b ≡ false
not_digit b bs none =
    elim (cases_Bool (is_digit b)) [
      | inl d ↦ absurd (none (b ∷ []) bs refl (alnum true b [] (or_right (is_letter b) (is_digit b) d)))
      | inr n ↦ n
    ]

-- a hyphen that no digit follows begins no token
hyphen : (place : ℕ) (text : List ℕ) → ((m back : List ℕ) → text ≡ m ++ back → goes_on true m ≡ true → ⊥) → tokens_from Between place (45 ∷ text) ≡ lexeme Bad place ∷ []
unfolding byte_turn fresh_byte signed_byte end_turn
hyphen place [] none = refl
hyphen place (b ∷ bs) none = rw (not_digit b bs none, stopped (place + 1 + 1) bs) refl

-- how far the text goes on with a word
pub record WordScan (text : List ℕ) : Type 0 where
  pub more : List ℕ
  pub rest : List ℕ
  pub cut : text ≡ more ++ rest
  pub on : goes_on false more ≡ true
  pub ends : EndsWord false rest
  pub reads : (start place : ℕ) (word : List ℕ) → tokens_from (InWord start word) place text ≡ lexeme (Word (word ++ map upper more)) start ∷ tokens_from Between (place + length more) rest

-- the same behind hyphens
pub record DashScan (text : List ℕ) : Type 0 where
  pub more : List ℕ
  pub rest : List ℕ
  pub cut : text ≡ more ++ rest
  pub on : goes_on true more ≡ true
  pub ends : EndsWord false rest
  pub reads : (start at place : ℕ) (word dashes : List ℕ) → tokens_from (Dashes start word at dashes) place text ≡ lexeme (Word ((word ++ dashes) ++ map upper more)) start ∷ tokens_from Between (place + length more) rest

-- a word ended before the hyphens
pub record NoScan (text : List ℕ) : Type 0 where
  pub none : (m back : List ℕ) → text ≡ m ++ back → goes_on true m ≡ true → ⊥
  pub reads : (start at place : ℕ) (word dashes : List ℕ) → tokens_from (Dashes start word at dashes) place text ≡ lexeme (Word word) start ∷ (lexeme Bad at ∷ [])

tail_same : (b c : ℕ) (bs m back : List ℕ) → ◌≡◌ {A = List ℕ} (b ∷ bs) (c ∷ (m ++ back)) → bs ≡ m ++ back
tail_same b c bs m back e = cc

head_same : (b c : ℕ) (bs m back : List ℕ) → ◌≡◌ {A = List ℕ} (b ∷ bs) (c ∷ (m ++ back)) → c ≡ b
head_same b c bs m back e = cc

pub one_more : (place n : ℕ) → place + 1 + n ≡ place + suc n
one_more place n = omega arith

pub never : (b : Bool) → b ≡ true → b ≡ false → ⊥
never b h k = cc

no_more : (m back : List ℕ) → [] ≡ m ++ back → goes_on false m ≡ true → m ≡ []
no_more [] back e g = refl
no_more (c ∷ m) back e g = absurd (cc)

-- nothing is longer where no byte goes on
pub ends_at : (h : Bool) (b : ℕ) (bs : List ℕ) → ((m back : List ℕ) → bs ≡ m ++ back → goes_on h (b ∷ m) ≡ true → ⊥) → EndsWord h (b ∷ bs)
ends_at h b bs none [] back e g = refl
ends_at h b bs none (c ∷ m) back e g = absurd (none m back (tail_same b c bs m back e) (rw (← head_same b c bs m back e) g))

word_end : (start place : ℕ) (word : List ℕ) → tokens_from (InWord start word) place [] ≡ lexeme (Word (word ++ [])) start ∷ tokens_from Between (place + 0) []
unfolding end_turn
word_end start place word = rw (append-nil, add-zero) refl

pub word_none : WordScan []
word_none = record { more = []; rest = []; cut = refl; on = refl; ends = no_more; reads = word_end }

letter_read : (b : ℕ) (bs : List ℕ) (start place : ℕ) (word : List ℕ) → is_letter b || is_digit b ≡ true → tokens_from (InWord start word) place (b ∷ bs) ≡ tokens_from (InWord start (word ++ upper b ∷ [])) (place + 1) bs
unfolding byte_turn word_byte
letter_read b bs start place word e = rw e refl

word_on : (b : ℕ) (bs : List ℕ) → is_letter b || is_digit b ≡ true → WordScan bs → WordScan (b ∷ bs)
word_on b bs e s = record {
  more = b ∷ s.more;
  rest = s.rest;
  cut = ap (λ (xs : List ℕ). b ∷ xs) s.cut;
  on = alnum false b s.more e ∙ s.on;
  ends = s.ends;
  reads = λ start place word. letter_read b bs start place word e ∙ s.reads start (place + 1) (word ++ upper b ∷ []) ∙ rw (append_assoc word (upper b ∷ []) (map upper s.more), one_more place (length s.more)) refl;
}

stop_read : (b : ℕ) (bs : List ℕ) (start place : ℕ) (word : List ℕ) → is_letter b || is_digit b ≡ false → b == 45 ≡ false → tokens_from (InWord start word) place (b ∷ bs) ≡ lexeme (Word (word ++ [])) start ∷ tokens_from Between (place + 0) (b ∷ bs)
unfolding byte_turn word_byte
stop_read b bs start place word e f = rw (e, f, append-nil, add-zero) refl

word_stop : (b : ℕ) (bs : List ℕ) → is_letter b || is_digit b ≡ false → b == 45 ≡ false → WordScan (b ∷ bs)
word_stop b bs e f = record {
  more = [];
  rest = b ∷ bs;
  cut = refl;
  on = refl;
  ends = ends_at false b bs (λ m back c g. never (goes_on false (b ∷ m)) g (other false b m e f));
  reads = λ start place word. stop_read b bs start place word e f;
}

dash_read : (bs : List ℕ) (start place : ℕ) (word : List ℕ) → tokens_from (InWord start word) place (45 ∷ bs) ≡ tokens_from (Dashes start word place (45 ∷ [])) (place + 1) bs
unfolding byte_turn word_byte
dash_read bs start place word = refl

before_read : (bs : List ℕ) (start place : ℕ) (word : List ℕ) → NoScan bs → tokens_from (InWord start word) place (45 ∷ bs) ≡ lexeme (Word (word ++ [])) start ∷ tokens_from Between (place + 0) (45 ∷ bs)
before_read bs start place word s = dash_read bs start place word ∙ s.reads start place (place + 1) word (45 ∷ []) ∙ rw (append-nil, add-zero, hyphen place bs s.none) refl

word_before : (bs : List ℕ) → NoScan bs → WordScan (45 ∷ bs)
word_before bs s = record {
  more = [];
  rest = 45 ∷ bs;
  cut = refl;
  on = refl;
  ends = ends_at false 45 bs s.none;
  reads = λ start place word. before_read bs start place word s;
}

word_dash : (bs : List ℕ) → DashScan bs → WordScan (45 ∷ bs)
word_dash bs s = record {
  more = 45 ∷ s.more;
  rest = s.rest;
  cut = ap (λ (xs : List ℕ). 45 ∷ xs) s.cut;
  on = s.on;
  ends = s.ends;
  reads = λ start place word. dash_read bs start place word ∙ s.reads start place (place + 1) word (45 ∷ []) ∙ rw (append_assoc word (45 ∷ []) (map upper s.more), one_more place (length s.more)) refl;
}

-- behind hyphens

joined_read : (b : ℕ) (bs : List ℕ) (start at place : ℕ) (word dashes : List ℕ) → is_letter b || is_digit b ≡ true → tokens_from (Dashes start word at dashes) place (b ∷ bs) ≡ tokens_from (InWord start ((word ++ dashes) ++ upper b ∷ [])) (place + 1) bs
unfolding byte_turn dashes_byte
joined_read b bs start at place word dashes e = rw e refl

dash_on : (b : ℕ) (bs : List ℕ) → is_letter b || is_digit b ≡ true → WordScan bs → DashScan (b ∷ bs)
dash_on b bs e s = record {
  more = b ∷ s.more;
  rest = s.rest;
  cut = ap (λ (xs : List ℕ). b ∷ xs) s.cut;
  on = alnum true b s.more e ∙ s.on;
  ends = s.ends;
  reads = λ start at place word dashes. joined_read b bs start at place word dashes e ∙ s.reads start (place + 1) ((word ++ dashes) ++ upper b ∷ []) ∙ rw (append_assoc (word ++ dashes) (upper b ∷ []) (map upper s.more), one_more place (length s.more)) refl;
}

again_read : (bs : List ℕ) (start at place : ℕ) (word dashes : List ℕ) → tokens_from (Dashes start word at dashes) place (45 ∷ bs) ≡ tokens_from (Dashes start word at (dashes ++ 45 ∷ [])) (place + 1) bs
unfolding byte_turn dashes_byte
again_read bs start at place word dashes = refl

dash_dash : (bs : List ℕ) → DashScan bs → DashScan (45 ∷ bs)
dash_dash bs s = record {
  more = 45 ∷ s.more;
  rest = s.rest;
  cut = ap (λ (xs : List ℕ). 45 ∷ xs) s.cut;
  on = s.on;
  ends = s.ends;
  reads = λ start at place word dashes. again_read bs start at place word dashes ∙ s.reads start at (place + 1) word (dashes ++ 45 ∷ []) ∙ rw (← append_assoc word dashes (45 ∷ []), append_assoc (word ++ dashes) (45 ∷ []) (map upper s.more), one_more place (length s.more)) refl;
}

-- nothing goes on behind hyphens where neither nothing nor the first byte does
never_at : (b : ℕ) (bs : List ℕ) → ((m back : List ℕ) → bs ≡ m ++ back → goes_on true (b ∷ m) ≡ true → ⊥) → (m back : List ℕ) → b ∷ bs ≡ m ++ back → goes_on true m ≡ true → ⊥
never_at b bs none [] back e g = cc
never_at b bs none (c ∷ m) back e g = none m back (tail_same b c bs m back e) (rw (← head_same b c bs m back e) g)

never_nil : (m back : List ℕ) → [] ≡ m ++ back → goes_on true m ≡ true → ⊥
never_nil [] back e g = cc
never_nil (c ∷ m) back e g = absurd (cc)

none_dash : (bs : List ℕ) → NoScan bs → NoScan (45 ∷ bs)
none_dash bs s = record {
  none = never_at 45 bs s.none;
  reads = λ start at place word dashes. again_read bs start at place word dashes ∙ s.reads start at (place + 1) word (dashes ++ 45 ∷ []);
}

over_read : (b : ℕ) (bs : List ℕ) (start at place : ℕ) (word dashes : List ℕ) → is_letter b || is_digit b ≡ false → b == 45 ≡ false → tokens_from (Dashes start word at dashes) place (b ∷ bs) ≡ lexeme (Word word) start ∷ (lexeme Bad at ∷ [])
unfolding byte_turn dashes_byte
over_read b bs start at place word dashes e f = rw (e, f, stopped (place + 1) bs) refl

none_stop : (b : ℕ) (bs : List ℕ) → is_letter b || is_digit b ≡ false → b == 45 ≡ false → NoScan (b ∷ bs)
none_stop b bs e f = record {
  none = never_at b bs (λ m back c g. never (goes_on true (b ∷ m)) g (other true b m e f));
  reads = λ start at place word dashes. over_read b bs start at place word dashes e f;
}

nil_read : (start at place : ℕ) (word dashes : List ℕ) → tokens_from (Dashes start word at dashes) place [] ≡ lexeme (Word word) start ∷ (lexeme Bad at ∷ [])
unfolding end_turn
nil_read start at place word dashes = refl

none_nil : NoScan []
none_nil = record { none = never_nil; reads = nil_read }

-- how far any text goes on with a word, and behind hyphens

pub is_byte : (b c : ℕ) → b == c ≡ true → b ≡ c
is_byte b c h = (Decides-eqb b c).0 h

pub record ScansWord (text : List ℕ) : Type 0 where
  pub word : WordScan text
  pub dashes : DashScan text ⊎ NoScan text

hyphen_scans : (bs : List ℕ) → ScansWord bs → ScansWord (45 ∷ bs)
hyphen_scans bs s =
    elim s.dashes [
      | inl d ↦ record { word = word_dash bs d; dashes = inl (dash_dash bs d) }
      | inr n ↦ record { word = word_before bs n; dashes = inr (none_dash bs n) }
    ]

other_scans : (b : ℕ) (bs : List ℕ) → is_letter b || is_digit b ≡ false → ScansWord bs → ScansWord (b ∷ bs)
other_scans b bs e s =
    elim (cases_Bool (b == 45)) [
      | inl h ↦ rw (is_byte b 45 h) (hyphen_scans bs s)
      | inr f ↦ record { word = word_stop b bs e f; dashes = inr (none_stop b bs e f) }
    ]

pub scans : (text : List ℕ) → ScansWord text
scans [] = record { word = word_none; dashes = inr none_nil }
scans (b ∷ bs) =
    elim (cases_Bool (is_letter b || is_digit b)) [
      | inl a ↦ record { word = word_on b bs a (scans bs).word; dashes = inl (dash_on b bs a (scans bs).word) }
      | inr e ↦ other_scans b bs e (scans bs)
    ]
