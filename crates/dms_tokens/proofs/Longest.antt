-- Each token that is read is the longest one, and where none is read there is none.
use Rattle.std.proofs.Common.{◌≡◌, ◌+◌, ℕ, suc, List, [], ◌∷◌, ◌++◌, map, length, length-append, Bool, true, false, ◌||◌, ◌&&◌, ◌==◌, ◌⊎◌, inl, inr, refl, sym, ap, ◌∙◌, subst, arith, append_assoc, if◌then◌else◌}
use Rattle.std.proofs.lemmas.Bool.{and_parts, cases_Bool}
use Rattle.std.proofs.lemmas.List.{append-nil}
use Rattle.std.proofs.lemmas.Bool.Decides.{Decides-eqb}
use Rattle.std.specs.List.{list_all}
use Rattle.dms_base.specs.declared.op.Op.TheVariants.{Equal, NotEqual, Less, LessEqual, Greater, GreaterEqual}
use Rattle.dms_tokens.specs.declared.token.Token.{Token}
use Rattle.dms_tokens.specs.declared.token.Token.TheVariants.{Word, Quoted, Sign, Compare, Bad}
use Rattle.dms_tokens.specs.declared.reading.Reading.TheVariants.{Between, Word as InWord, Whole, Quoted as InQuotes}
use Rattle.dms_tokens.specs.Lexing.{is_blank, upper, is_letter, is_sign}
use Rattle.dms_tokens.specs.Tokens.{lexeme, tokens_from, first_digit, fresh_byte, byte_turn, signed_byte, less_byte, greater_byte, end_turn}
use Rattle.dms_tokens.specs.Spelling.{goes_on, behind_point, number_of, IsSigned, SpellsToken, IsLongest}
use Rattle.dms_tokens.specs.Spelling.IsSigned.{no_sign, with_plus, with_minus}
use Rattle.dms_tokens.specs.Spelling.SpellsToken.{a_word, a_number, a_string, a_sign, a_comparison}
use Rattle.dms_tokens.proofs.WordScan.{stopped, never, scans, is_byte}
use Rattle.dms_tokens.proofs.NumberScan.{NoDigit, NumberScan, number_scan, number_is, nil_digit, no_digit}
use Rattle.dms_tokens.proofs.StringScan.{ClosesString, Breaks, StringScan, string_scan, doubled_plain, doubled_quote, no_quote}
use Rattle.dms_tokens.proofs.Shapes.{class_of, letter_class, digit_class, sign_class, TokenShape, shape_of, nothing_spelled, shape_class, word_is, Tail, number_shape_is, Signs, plus_is, minus_is, string_is, sign_is, equal_is, less_with, less_is, greater_with, greater_is}
use Rattle.dms_base.specs.Texts.{double_quotes}
use Rattle.dms_base.specs.Words.{is_digit}

-- a text's first token
pub record TakenToken (place : ℕ) (text : List ℕ) : Type 0 where
  pub front : List ℕ
  pub rest : List ℕ
  pub token : Token
  pub cut : text ≡ front ++ rest
  pub longest : IsLongest front rest token
  pub reads : tokens_from Between place text ≡ lexeme token place ∷ tokens_from Between (place + length front) rest

-- a text that begins with none
pub record Unread (place : ℕ) (text : List ℕ) : Type 0 where
  pub none : (front back : List ℕ) (token : Token) → text ≡ front ++ back → IsLongest front back token → ⊥
  pub reads : tokens_from Between place text ≡ lexeme Bad place ∷ []

-- Words

on_or : (a : Bool) (b : ℕ) (bs xs : List ℕ) (h : Bool) → is_letter b || is_digit b ≡ a → ((k : Bool) → goes_on k bs ≡ true → goes_on k (bs ++ xs) ≡ goes_on false xs) → goes_on h (b ∷ bs) ≡ true → goes_on h (b ∷ (bs ++ xs)) ≡ goes_on false xs
on_or true b bs xs h e next g = rw e (next false (rw e at g))
on_or false b bs xs h e next g =
    elim (cases_Bool (b == 45)) [
      | inl d ↦ rw (e, d) (next true (rw (e, d) at g))
      | inr f ↦ absurd (never (goes_on h (b ∷ bs)) g (rw (e, f) refl))
    ]

-- what goes on behind a word's end
goes-append : (bs xs : List ℕ) (h : Bool) → goes_on h bs ≡ true → goes_on h (bs ++ xs) ≡ goes_on false xs
goes-append [] xs false g = refl
goes-append [] xs true g = absurd (cc)
goes-append (b ∷ bs) xs h g = on_or (is_letter b || is_digit b) b bs xs h refl (goes-append bs xs) g

word_first : (place b : ℕ) (bs : List ℕ) → is_blank b ≡ false → b == 37 ≡ false → is_letter b ≡ true → tokens_from Between place (b ∷ bs) ≡ tokens_from (InWord place (upper b ∷ [])) (place + 1) bs
unfolding byte_turn fresh_byte
word_first place b bs e f l = rw (e, f, l) refl

word_longest : (b : ℕ) (more rest : List ℕ) → is_letter b ≡ true → goes_on false more ≡ true → ((m back : List ℕ) → rest ≡ m ++ back → goes_on false m ≡ true → m ≡ []) → IsLongest (b ∷ more) rest (Word (map upper (b ∷ more)))
word_longest b more rest l g ends = record {
  spelled = a_word b more l g;
  longest = λ m back t e d. ends m back e (sym (goes-append more m false g) ∙ (word_is b (more ++ m) t (shape_of b (more ++ m) t d) l).0);
  closed = λ text back e f. let same : b ≡ 34 = cc in let k = letter_class b l in let n : class_of b ≡ 5 = rw same refl in omega arith;
}

word_taken : (place b : ℕ) (bs : List ℕ) → is_blank b ≡ false → b == 37 ≡ false → is_letter b ≡ true → TakenToken place (b ∷ bs)
word_taken place b bs e f l =
    let s = (scans bs).word in
    record {
      front = b ∷ s.more;
      rest = s.rest;
      token = Word (map upper (b ∷ s.more));
      cut = ap (λ (xs : List ℕ). b ∷ xs) s.cut;
      longest = word_longest b s.more s.rest l s.on s.ends;
      reads = word_first place b bs e f l ∙ s.reads place (place + 1) (upper b ∷ []) ∙ (let k : place + 1 + length s.more ≡ place + suc (length s.more) = omega arith in rw k refl);
    }

-- Numbers

abbrev fraction_tail : List ℕ → Bool
fraction_tail [] = false
fraction_tail (b ∷ bs) = is_digit b && list_all is_digit bs

abbrev number_tail : List ℕ → Bool
number_tail [] = true
number_tail (b ∷ bs) = if is_digit b then number_tail bs else b == 46 && fraction_tail bs

tail_digits : (ws xs : List ℕ) → list_all is_digit ws ≡ true → number_tail (ws ++ xs) ≡ number_tail xs
tail_digits [] xs h = refl
tail_digits (b ∷ bs) xs h = rw (and_parts (is_digit b) _ h).0 (tail_digits bs xs (and_parts (is_digit b) _ h).1)

tail_point : (fs : List ℕ) → list_all is_digit fs ≡ true → number_tail (behind_point fs) ≡ true
tail_point [] h = refl
tail_point (b ∷ bs) h = h

tail_is : (ws fs : List ℕ) → list_all is_digit ws ≡ true → list_all is_digit fs ≡ true → number_tail (ws ++ behind_point fs) ≡ true
tail_is ws fs h k = tail_digits ws (behind_point fs) h ∙ tail_point fs k

all-behind : (test : ℕ → Bool) (xs ys : List ℕ) → list_all test (xs ++ ys) ≡ true → list_all test ys ≡ true
all-behind test [] ys h = h
all-behind test (x ∷ xs) ys h = all-behind test xs ys (and_parts (test x) _ h).1

no_digits : (rest m back : List ℕ) → NoDigit rest → rest ≡ m ++ back → list_all is_digit m ≡ true → m ≡ []
no_digits rest [] back n e h = refl
no_digits rest (b ∷ bs) back n e h = absurd (never (is_digit b) (and_parts (is_digit b) _ h).0 (n b (bs ++ back) e))

fraction_first : (xs back : List ℕ) → fraction_tail xs ≡ true → NoDigit (xs ++ back) → ⊥
fraction_first [] back h n = cc
fraction_first (b ∷ bs) back h n = never (is_digit b) (and_parts (is_digit b) _ h).0 (n b (bs ++ back) refl)

no_tail : (rest m back : List ℕ) → NoDigit rest → ((bs : List ℕ) → rest ≡ 46 ∷ bs → NoDigit bs) → rest ≡ m ++ back → number_tail m ≡ true → m ≡ []
no_tail rest [] back n p e h = refl
no_tail rest (b ∷ bs) back n p e h =
    let k : b == 46 && fraction_tail bs ≡ true = rw (n b (bs ++ back) e) at h in
    let same : b ≡ 46 = is_byte b 46 (and_parts (b == 46) _ k).0 in
    let f : rest ≡ 46 ∷ (bs ++ back) = e ∙ ap (λ (x : ℕ). x ∷ (bs ++ back)) same in
    absurd (fraction_first bs back (and_parts (b == 46) _ k).1 (p (bs ++ back) f))

-- nothing longer than a number that was read
number_ends : (ws fs rest m back : List ℕ) → list_all is_digit ws ≡ true → NoDigit rest → (fs ≡ [] → (bs : List ℕ) → rest ≡ 46 ∷ bs → NoDigit bs) → rest ≡ m ++ back → number_tail ((ws ++ behind_point fs) ++ m) ≡ true → m ≡ []
number_ends ws [] rest m back d n p e h =
    let k : number_tail m ≡ true = sym (tail_digits ws m d) ∙ (rw append-nil at h) in
    no_tail rest m back n (p refl) e k
number_ends ws (f ∷ fs) rest m back d n p e h =
    let k : number_tail (46 ∷ f ∷ (fs ++ m)) ≡ true = sym (tail_digits ws (46 ∷ f ∷ (fs ++ m)) d) ∙ (rw append_assoc at h) in
    no_digits rest m back n e (all-behind is_digit fs m (and_parts (is_digit f) _ k).1)

tail_true : (g m : Bool) (b : ℕ) (bs : List ℕ) (t : Token) → Tail g m b bs t → number_tail bs ≡ true
tail_true g m b bs t k = rw (k.all) (tail_is k.ws k.fs k.digits k.decimals)

signs_true : (g m : Bool) (b : ℕ) (bs : List ℕ) (t : Token) → Signs g m (b ∷ bs) t → number_tail bs ≡ true
signs_true g m b bs t k =
    let f : k.others ≡ bs = let e : b ∷ bs ≡ k.first ∷ k.others = k.all in cc in
    rw (← f) (tail_true g m k.first k.others t k.tail)

number_more : (s : List ℕ) (g n : Bool) (b : ℕ) (xs : List ℕ) (t : Token) → IsSigned s g n → is_digit b ≡ true → SpellsToken (s ++ (b ∷ xs)) t → number_tail xs ≡ true
number_more _ _ _ b xs t no_sign i d = tail_true false false b xs t (number_shape_is b xs t (shape_of b xs t d) i)
number_more _ _ _ b xs t with_plus i d = signs_true true false b xs t (plus_is 43 (b ∷ xs) t (shape_of 43 (b ∷ xs) t d) refl)
number_more _ _ _ b xs t with_minus i d = signs_true true true b xs t (minus_is 45 (b ∷ xs) t (shape_of 45 (b ∷ xs) t d) refl)

signed_no_quote : (s : List ℕ) (g n : Bool) (b : ℕ) (xs text : List ℕ) → IsSigned s g n → is_digit b ≡ true → s ++ (b ∷ xs) ≡ 34 ∷ text → ⊥
signed_no_quote _ _ _ b xs text no_sign i e = let same : b ≡ 34 = cc in let k = digit_class b i in let n : class_of b ≡ 5 = rw same refl in omega arith
signed_no_quote _ _ _ b xs text with_plus i e = let same : ◌≡◌ {A = ℕ} 43 34 = cc in omega arith
signed_no_quote _ _ _ b xs text with_minus i e = let same : ◌≡◌ {A = ℕ} 45 34 = cc in omega arith

number_longest : (s : List ℕ) (g n : Bool) (b : ℕ) (text : List ℕ) (k : NumberScan text) → IsSigned s g n → is_digit b ≡ true → IsLongest (s ++ (b ∷ (k.whole ++ behind_point k.fraction))) k.rest (number_of g n (b ∷ k.whole) k.fraction)
number_longest s g n b text k d i = record {
  spelled = a_number s g n b k.whole k.fraction d i k.digits k.decimals;
  longest = λ m back t e f. number_ends k.whole k.fraction k.rest m back k.digits k.ends k.no_point e (number_more s g n b ((k.whole ++ behind_point k.fraction) ++ m) t d i (subst (λ (xs : List ℕ). SpellsToken xs t) (append_assoc s (b ∷ (k.whole ++ behind_point k.fraction)) m) f));
  closed = λ xs back e f. signed_no_quote s g n b (k.whole ++ behind_point k.fraction) xs d i e;
}

number_first : (place b : ℕ) (bs : List ℕ) → is_blank b ≡ false → b == 37 ≡ false → is_letter b ≡ false → is_digit b ≡ true → tokens_from Between place (b ∷ bs) ≡ tokens_from (Whole place (first_digit false false b)) (place + 1) bs
unfolding byte_turn fresh_byte
number_first place b bs e f l i = rw (e, f, l, i) refl

number_reads : (g n : Bool) (start place b : ℕ) (text : List ℕ) (k : NumberScan text) → is_digit b ≡ true → tokens_from (Whole start (first_digit g n b)) place text ≡ lexeme (number_of g n (b ∷ k.whole) k.fraction) start ∷ tokens_from Between (place + length (k.whole ++ behind_point k.fraction)) k.rest
number_reads g n start place b text k i = k.reads start place (first_digit g n b) ∙ rw (number_is g n b k.whole k.fraction i k.digits k.decimals, length-append k.whole (behind_point k.fraction)) refl

number_cut : (text : List ℕ) (k : NumberScan text) → text ≡ (k.whole ++ behind_point k.fraction) ++ k.rest
number_cut text k = k.cut ∙ sym (append_assoc k.whole (behind_point k.fraction) k.rest)

number_taken : (place b : ℕ) (bs : List ℕ) → is_blank b ≡ false → b == 37 ≡ false → is_letter b ≡ false → is_digit b ≡ true → TakenToken place (b ∷ bs)
number_taken place b bs e f l i =
    let k = number_scan bs in
    record {
      front = b ∷ (k.whole ++ behind_point k.fraction);
      rest = k.rest;
      token = number_of false false (b ∷ k.whole) k.fraction;
      cut = ap (λ (xs : List ℕ). b ∷ xs) (number_cut bs k);
      longest = number_longest [] false false b bs k no_sign i;
      reads = number_first place b bs e f l i ∙ number_reads false false place (place + 1) b bs k i ∙ (let c : place + 1 + length (k.whole ++ behind_point k.fraction) ≡ place + suc (length (k.whole ++ behind_point k.fraction)) = omega arith in rw c refl);
    }

plus_first : (place b : ℕ) (bs : List ℕ) → is_digit b ≡ true → tokens_from Between place (43 ∷ b ∷ bs) ≡ tokens_from (Whole place (first_digit true false b)) (place + 1 + 1) bs
unfolding byte_turn fresh_byte signed_byte
plus_first place b bs i = rw i refl

minus_first : (place b : ℕ) (bs : List ℕ) → is_digit b ≡ true → tokens_from Between place (45 ∷ b ∷ bs) ≡ tokens_from (Whole place (first_digit true true b)) (place + 1 + 1) bs
unfolding byte_turn fresh_byte signed_byte
minus_first place b bs i = rw i refl

plus_taken : (place b : ℕ) (bs : List ℕ) → is_digit b ≡ true → TakenToken place (43 ∷ b ∷ bs)
plus_taken place b bs i =
    let k = number_scan bs in
    record {
      front = 43 ∷ b ∷ (k.whole ++ behind_point k.fraction);
      rest = k.rest;
      token = number_of true false (b ∷ k.whole) k.fraction;
      cut = ap (λ (xs : List ℕ). 43 ∷ b ∷ xs) (number_cut bs k);
      longest = number_longest (43 ∷ []) true false b bs k with_plus i;
      reads = plus_first place b bs i ∙ number_reads true false place (place + 1 + 1) b bs k i ∙ (let c : place + 1 + 1 + length (k.whole ++ behind_point k.fraction) ≡ place + suc (suc (length (k.whole ++ behind_point k.fraction))) = omega arith in rw c refl);
    }

minus_taken : (place b : ℕ) (bs : List ℕ) → is_digit b ≡ true → TakenToken place (45 ∷ b ∷ bs)
minus_taken place b bs i =
    let k = number_scan bs in
    record {
      front = 45 ∷ b ∷ (k.whole ++ behind_point k.fraction);
      rest = k.rest;
      token = number_of true true (b ∷ k.whole) k.fraction;
      cut = ap (λ (xs : List ℕ). 45 ∷ b ∷ xs) (number_cut bs k);
      longest = number_longest (45 ∷ []) true true b bs k with_minus i;
      reads = minus_first place b bs i ∙ number_reads true true place (place + 1 + 1) b bs k i ∙ (let c : place + 1 + 1 + length (k.whole ++ behind_point k.fraction) ≡ place + suc (suc (length (k.whole ++ behind_point k.fraction))) = omega arith in rw c refl);
    }

-- Where none begins

none_from : (b c : ℕ) (bs f back : List ℕ) (t : Token) → ((g rest : List ℕ) (u : Token) → bs ≡ g ++ rest → TokenShape b g u → IsLongest (b ∷ g) rest u → ⊥) → c ≡ b → bs ≡ f ++ back → IsLongest (c ∷ f) back t → ⊥
none_from b c bs f back t empty k e l =
    let m : IsLongest (b ∷ f) back t = subst (λ (x : ℕ). IsLongest (x ∷ f) back t) k l in
    empty f back t e (shape_of b f t m.spelled) m

pub none_by : (b : ℕ) (bs : List ℕ) → ((g rest : List ℕ) (u : Token) → bs ≡ g ++ rest → TokenShape b g u → IsLongest (b ∷ g) rest u → ⊥) → (front back : List ℕ) (t : Token) → b ∷ bs ≡ front ++ back → IsLongest front back t → ⊥
none_by b bs empty [] back t e l = nothing_spelled t l.spelled
none_by b bs empty (c ∷ f) back t e l = none_from b c bs f back t empty (cc) (cc) l

signs_need : (g n : Bool) (bs f back : List ℕ) (t : Token) → NoDigit bs → bs ≡ f ++ back → Signs g n f t → ⊥
signs_need g n bs f back t empty e k = never (is_digit k.first) k.tail.digit (empty k.first (k.others ++ back) (e ∙ ap (λ (xs : List ℕ). xs ++ back) k.all))

plus_bad : (place : ℕ) (bs : List ℕ) → NoDigit bs → tokens_from Between place (43 ∷ bs) ≡ lexeme Bad place ∷ []
unfolding byte_turn fresh_byte signed_byte end_turn
plus_bad place [] empty = refl
plus_bad place (b ∷ bs) empty = rw (empty b bs refl, stopped (place + 1 + 1) bs) refl

minus_bad : (place : ℕ) (bs : List ℕ) → NoDigit bs → tokens_from Between place (45 ∷ bs) ≡ lexeme Bad place ∷ []
unfolding byte_turn fresh_byte signed_byte end_turn
minus_bad place [] empty = refl
minus_bad place (b ∷ bs) empty = rw (empty b bs refl, stopped (place + 1 + 1) bs) refl

plus_unread : (place : ℕ) (bs : List ℕ) → NoDigit bs → Unread place (43 ∷ bs)
plus_unread place bs empty = record {
  none = none_by 43 bs (λ g rest u e sh l. signs_need true false bs g rest u empty e (plus_is 43 g u sh refl));
  reads = plus_bad place bs empty;
}

minus_unread : (place : ℕ) (bs : List ℕ) → NoDigit bs → Unread place (45 ∷ bs)
minus_unread place bs empty = record {
  none = none_by 45 bs (λ g rest u e sh l. signs_need true true bs g rest u empty e (minus_is 45 g u sh refl));
  reads = minus_bad place bs empty;
}

abbrev pub FirstToken : ℕ → List ℕ → Type 0
FirstToken place text = TakenToken place text ⊎ Unread place text

plus_case : (place : ℕ) (bs : List ℕ) → FirstToken place (43 ∷ bs)
plus_case place [] = inr (plus_unread place [] nil_digit)
plus_case place (b ∷ bs) =
    elim (cases_Bool (is_digit b)) [
      | inl i ↦ inl (plus_taken place b bs i)
      | inr f ↦ inr (plus_unread place (b ∷ bs) (no_digit b bs f))
    ]

minus_case : (place : ℕ) (bs : List ℕ) → FirstToken place (45 ∷ bs)
minus_case place [] = inr (minus_unread place [] nil_digit)
minus_case place (b ∷ bs) =
    elim (cases_Bool (is_digit b)) [
      | inl i ↦ inl (minus_taken place b bs i)
      | inr f ↦ inr (minus_unread place (b ∷ bs) (no_digit b bs f))
    ]

-- Strings

-- nothing goes on with a string
abbrev IsClosedString : List ℕ → Type 0
IsClosedString rest = (bs : List ℕ) → rest ≡ 34 ∷ bs → ⊥

shorter : (y : ℕ) (ys r q : List ℕ) → 34 ∷ r ≡ double_quotes (y ∷ ys) ++ (34 ∷ q) → IsClosedString r → ⊥
shorter y ys r q e c =
    elim (cases_Bool (y == 34)) [
      | inl t ↦ let f : 34 ∷ r ≡ 34 ∷ (34 ∷ (double_quotes ys ++ (34 ∷ q))) = e ∙ ap (λ (xs : List ℕ). xs ++ (34 ∷ q)) (doubled_quote y ys t) in c (double_quotes ys ++ (34 ∷ q)) (cc)
      | inr n ↦ no_quote y (double_quotes ys ++ (34 ∷ q)) r n (sym (e ∙ ap (λ (xs : List ℕ). xs ++ (34 ∷ q)) (doubled_plain y ys n)))
    ]

abbrev TokenPairs : List ℕ → List ℕ → List ℕ → List ℕ → Type 0
TokenPairs xs ys r q = double_quotes xs ++ (34 ∷ r) ≡ double_quotes ys ++ (34 ∷ q) → (xs ≡ ys) × (r ≡ q)

both_quotes : (x y : ℕ) (xs ys r q : List ℕ) → x == 34 ≡ true → y == 34 ≡ true → TokenPairs xs ys r q → TokenPairs (x ∷ xs) (y ∷ ys) r q
both_quotes x y xs ys r q s t next e =
    let f : 34 ∷ 34 ∷ (double_quotes xs ++ (34 ∷ r)) ≡ 34 ∷ 34 ∷ (double_quotes ys ++ (34 ∷ q)) = sym (ap (λ (zs : List ℕ). zs ++ (34 ∷ r)) (doubled_quote x xs s)) ∙ e ∙ ap (λ (zs : List ℕ). zs ++ (34 ∷ q)) (doubled_quote y ys t) in
    let k = next (cc) in
    let h : x ≡ y = (Decides-eqb x 34).0 s ∙ sym ((Decides-eqb y 34).0 t) in
    let a = k.0 in
    (cc, k.1)

both_plain : (x y : ℕ) (xs ys r q : List ℕ) → x == 34 ≡ false → y == 34 ≡ false → TokenPairs xs ys r q → TokenPairs (x ∷ xs) (y ∷ ys) r q
both_plain x y xs ys r q s t next e =
    let f : x ∷ (double_quotes xs ++ (34 ∷ r)) ≡ y ∷ (double_quotes ys ++ (34 ∷ q)) = sym (ap (λ (zs : List ℕ). zs ++ (34 ∷ r)) (doubled_plain x xs s)) ∙ e ∙ ap (λ (zs : List ℕ). zs ++ (34 ∷ q)) (doubled_plain y ys t) in
    let k = next (cc) in
    let h : x ≡ y = cc in
    let a = k.0 in
    (cc, k.1)

one_quote : (x y : ℕ) (xs ys r q : List ℕ) → x == 34 ≡ true → y == 34 ≡ false → double_quotes (x ∷ xs) ++ (34 ∷ r) ≡ double_quotes (y ∷ ys) ++ (34 ∷ q) → ⊥
one_quote x y xs ys r q s t e =
    no_quote y (double_quotes ys ++ (34 ∷ q)) (34 ∷ (double_quotes xs ++ (34 ∷ r))) t (sym (ap (λ (zs : List ℕ). zs ++ (34 ∷ q)) (doubled_plain y ys t)) ∙ sym e ∙ ap (λ (zs : List ℕ). zs ++ (34 ∷ r)) (doubled_quote x xs s))

pairs_by : (x y : ℕ) (xs ys r q : List ℕ) → TokenPairs xs ys r q → TokenPairs (x ∷ xs) (y ∷ ys) r q
pairs_by x y xs ys r q next e =
    elim (cases_Bool (x == 34)) [
      | inl s ↦ elim (cases_Bool (y == 34)) [
        | inl t ↦ both_quotes x y xs ys r q s t next e
        | inr t ↦ absurd (one_quote x y xs ys r q s t e)
      ]
      | inr s ↦ elim (cases_Bool (y == 34)) [
        | inl t ↦ absurd (one_quote y x ys xs q r t s (sym e))
        | inr t ↦ both_plain x y xs ys r q s t next e
      ]
    ]

-- a string is ended at one place
pub closed_pair : (xs ys r q : List ℕ) → IsClosedString r → IsClosedString q → TokenPairs xs ys r q
closed_pair [] [] r q c d e = (refl, cc)
closed_pair [] (y ∷ ys) r q c d e = absurd (shorter y ys r q e c)
closed_pair (x ∷ xs) [] r q c d e = absurd (shorter x xs q r (sym e) d)
closed_pair (x ∷ xs) (y ∷ ys) r q c d e = pairs_by x y xs ys r q (closed_pair xs ys r q c d) e

quote_first : (place : ℕ) (bs : List ℕ) → tokens_from Between place (34 ∷ bs) ≡ tokens_from (InQuotes place []) (place + 1) bs
unfolding byte_turn fresh_byte
quote_first place bs = refl

pub nil_closed : IsClosedString []
nil_closed bs e = cc

front_closed : (rest m back : List ℕ) → IsClosedString rest → rest ≡ m ++ back → IsClosedString m
front_closed rest m back c e bs f = c (bs ++ back) (e ∙ ap (λ (xs : List ℕ). xs ++ back) f)

string_ends : (text rest m back : List ℕ) (t : Token) → IsClosedString rest → rest ≡ m ++ back → SpellsToken ((34 ∷ (double_quotes text ++ 34 ∷ [])) ++ m) t → m ≡ []
string_ends text rest m back t c e d =
    let k = string_is 34 ((double_quotes text ++ 34 ∷ []) ++ m) t (shape_of 34 ((double_quotes text ++ 34 ∷ []) ++ m) t d) refl in
    let same : double_quotes k.text ++ (34 ∷ []) ≡ double_quotes text ++ (34 ∷ m) = sym k.all ∙ append_assoc (double_quotes text) (34 ∷ []) m in
    sym (closed_pair k.text text [] m nil_closed (front_closed rest m back c e) same).1

string_taken : (place : ℕ) (bs : List ℕ) → ClosesString 0 bs → TakenToken place (34 ∷ bs)
string_taken place bs s = record {
  front = 34 ∷ (double_quotes s.more ++ 34 ∷ []);
  rest = s.rest;
  token = Quoted s.more;
  cut = ap (λ (xs : List ℕ). 34 ∷ xs) (s.body.cut ∙ sym (append_assoc (double_quotes s.more) (34 ∷ []) s.rest));
  longest = record {
    spelled = a_string s.more s.body.printable (let l = s.body.few in omega arith);
    longest = λ m back t e d. string_ends s.more s.rest m back t s.body.closed e d;
    closed = λ text back e f. s.body.closed back f;
  };
  reads = quote_first place bs ∙ s.reads place (place + 1) [] refl ∙ (let c : place + 1 + length (double_quotes s.more ++ 34 ∷ []) ≡ place + suc (length (double_quotes s.more ++ 34 ∷ [])) = omega arith in rw c refl);
}

string_none : (bs : List ℕ) → Breaks 0 bs → (g rest : List ℕ) (u : Token) → bs ≡ g ++ rest → TokenShape 34 g u → IsLongest (34 ∷ g) rest u → ⊥
string_none bs s g rest u e sh l =
    let k = string_is 34 g u sh refl in
    s.none k.text rest (record {
      cut = e ∙ ap (λ (xs : List ℕ). xs ++ rest) k.all ∙ append_assoc (double_quotes k.text) (34 ∷ []) rest;
      printable = k.printable;
      few = let f = k.few in omega arith;
      closed = λ back f. l.closed g back refl f;
    })

string_unread : (place : ℕ) (bs : List ℕ) → Breaks 0 bs → Unread place (34 ∷ bs)
string_unread place bs s = record {
  none = none_by 34 bs (string_none bs s);
  reads = quote_first place bs ∙ s.reads place (place + 1) [] refl;
}

string_by : (place : ℕ) (bs : List ℕ) → StringScan 0 bs → FirstToken place (34 ∷ bs)
string_by place bs (inl s) = inl (string_taken place bs s)
string_by place bs (inr s) = inr (string_unread place bs s)

string_case : (place : ℕ) (bs : List ℕ) → FirstToken place (34 ∷ bs)
string_case place bs = string_by place bs (string_scan bs 0 (omega arith))

-- Signs and comparisons

sign_first : (place b : ℕ) (bs : List ℕ) → is_blank b ≡ false → b == 37 ≡ false → is_letter b ≡ false → is_digit b ≡ false → b == 43 ≡ false → b == 45 ≡ false → b == 34 ≡ false → is_sign b ≡ true → tokens_from Between place (b ∷ bs) ≡ lexeme (Sign b) place ∷ tokens_from Between (place + 1) bs
unfolding byte_turn fresh_byte
sign_first place b bs e f l i p m q h = rw (e, f, l, i, p, m, q, h) refl

sign_taken : (place b : ℕ) (bs : List ℕ) → is_sign b ≡ true → tokens_from Between place (b ∷ bs) ≡ lexeme (Sign b) place ∷ tokens_from Between (place + 1) bs → TakenToken place (b ∷ bs)
sign_taken place b bs h reads = record {
  front = b ∷ [];
  rest = bs;
  token = Sign b;
  cut = refl;
  longest = record {
    spelled = a_sign b h;
    longest = λ m back t e d. (sign_is b m t (shape_of b m t d) (sign_class b h)).0;
    closed = λ text back e f. let same : b ≡ 34 = cc in let k = sign_class b h in let n : class_of b ≡ 5 = rw same refl in omega arith;
  };
  reads = reads;
}

equal_first : (place : ℕ) (bs : List ℕ) → tokens_from Between place (61 ∷ bs) ≡ lexeme (Compare Equal) place ∷ tokens_from Between (place + 1) bs
unfolding byte_turn fresh_byte
equal_first place bs = refl

equal_taken : (place : ℕ) (bs : List ℕ) → TakenToken place (61 ∷ bs)
equal_taken place bs = record {
  front = 61 ∷ [];
  rest = bs;
  token = Compare Equal;
  cut = refl;
  longest = record {
    spelled = a_comparison Equal;
    longest = λ m back t e d. (equal_is 61 m t (shape_of 61 m t d) refl).0;
    closed = λ text back e f. no_quote 61 [] text refl e;
  };
  reads = equal_first place bs;
}

less_first : (place b : ℕ) (bs : List ℕ) → b == 61 ≡ false → b == 62 ≡ false → tokens_from Between place (60 ∷ b ∷ bs) ≡ lexeme (Compare Less) place ∷ tokens_from Between (place + 1) (b ∷ bs)
unfolding byte_turn fresh_byte less_byte
less_first place b bs e f = rw (e, f) refl

less_last : (place : ℕ) → tokens_from Between place (60 ∷ []) ≡ lexeme (Compare Less) place ∷ tokens_from Between (place + 1) []
unfolding byte_turn fresh_byte end_turn
less_last place = refl

less_equal_first : (place : ℕ) (bs : List ℕ) → tokens_from Between place (60 ∷ 61 ∷ bs) ≡ lexeme (Compare LessEqual) place ∷ tokens_from Between (place + 1 + 1) bs
unfolding byte_turn fresh_byte less_byte
less_equal_first place bs = refl

not_equal_first : (place : ℕ) (bs : List ℕ) → tokens_from Between place (60 ∷ 62 ∷ bs) ≡ lexeme (Compare NotEqual) place ∷ tokens_from Between (place + 1 + 1) bs
unfolding byte_turn fresh_byte less_byte
not_equal_first place bs = refl

greater_first : (place b : ℕ) (bs : List ℕ) → b == 61 ≡ false → tokens_from Between place (62 ∷ b ∷ bs) ≡ lexeme (Compare Greater) place ∷ tokens_from Between (place + 1) (b ∷ bs)
unfolding byte_turn fresh_byte greater_byte
greater_first place b bs e = rw e refl

greater_last : (place : ℕ) → tokens_from Between place (62 ∷ []) ≡ lexeme (Compare Greater) place ∷ tokens_from Between (place + 1) []
unfolding byte_turn fresh_byte end_turn
greater_last place = refl

greater_equal_first : (place : ℕ) (bs : List ℕ) → tokens_from Between place (62 ∷ 61 ∷ bs) ≡ lexeme (Compare GreaterEqual) place ∷ tokens_from Between (place + 1 + 1) bs
unfolding byte_turn fresh_byte greater_byte
greater_equal_first place bs = refl

nil_front : (m back : List ℕ) → [] ≡ m ++ back → m ≡ []
nil_front [] back e = refl
nil_front (b ∷ bs) back e = absurd (cc)

less_ends : (b : ℕ) (bs m back : List ℕ) (t : Token) → b == 61 ≡ false → b == 62 ≡ false → b ∷ bs ≡ m ++ back → less_with m t → m ≡ []
less_ends b bs [] back t f g e k = refl
less_ends b bs (c ∷ []) back t f g e (inl k) = let same : b ≡ 61 = let h : b ≡ c = cc in h ∙ k.0 in absurd (never (61 == 61) refl (ap (λ (x : ℕ). x == 61) (sym same) ∙ f))
less_ends b bs (c ∷ []) back t f g e (inr k) = let same : b ≡ 62 = let h : b ≡ c = cc in h ∙ k.0 in absurd (never (62 == 62) refl (ap (λ (x : ℕ). x == 62) (sym same) ∙ g))
less_ends b bs (c ∷ d ∷ m) back t f g e k = absurd k

greater_ends : (b : ℕ) (bs m back : List ℕ) (t : Token) → b == 61 ≡ false → b ∷ bs ≡ m ++ back → greater_with m t → m ≡ []
greater_ends b bs [] back t f e k = refl
greater_ends b bs (c ∷ []) back t f e k = let same : b ≡ 61 = let h : b ≡ c = cc in h ∙ k.0 in absurd (never (61 == 61) refl (ap (λ (x : ℕ). x == 61) (sym same) ∙ f))
greater_ends b bs (c ∷ d ∷ m) back t f e k = absurd k

less_two : (c : ℕ) (m : List ℕ) (t : Token) → less_with (c ∷ m) t → m ≡ []
less_two c [] t k = refl
less_two c (d ∷ m) t k = absurd k

greater_two : (c : ℕ) (m : List ℕ) (t : Token) → greater_with (c ∷ m) t → m ≡ []
greater_two c [] t k = refl
greater_two c (d ∷ m) t k = absurd k

less_with_of : (m : List ℕ) (t : Token) → SpellsToken (60 ∷ m) t → less_with m t
less_with_of m t d = less_is 60 m t (shape_of 60 m t d) refl

greater_with_of : (m : List ℕ) (t : Token) → SpellsToken (62 ∷ m) t → greater_with m t
greater_with_of m t d = greater_is 62 m t (shape_of 62 m t d) refl

less_taken : (place : ℕ) (bs : List ℕ) → ((m back : List ℕ) (t : Token) → bs ≡ m ++ back → less_with m t → m ≡ []) → tokens_from Between place (60 ∷ bs) ≡ lexeme (Compare Less) place ∷ tokens_from Between (place + 1) bs → TakenToken place (60 ∷ bs)
less_taken place bs ends reads = record {
  front = 60 ∷ [];
  rest = bs;
  token = Compare Less;
  cut = refl;
  longest = record {
    spelled = a_comparison Less;
    longest = λ m back t e d. ends m back t e (less_with_of m t d);
    closed = λ text back e f. no_quote 60 [] text refl e;
  };
  reads = reads;
}

greater_taken : (place : ℕ) (bs : List ℕ) → ((m back : List ℕ) (t : Token) → bs ≡ m ++ back → greater_with m t → m ≡ []) → tokens_from Between place (62 ∷ bs) ≡ lexeme (Compare Greater) place ∷ tokens_from Between (place + 1) bs → TakenToken place (62 ∷ bs)
greater_taken place bs ends reads = record {
  front = 62 ∷ [];
  rest = bs;
  token = Compare Greater;
  cut = refl;
  longest = record {
    spelled = a_comparison Greater;
    longest = λ m back t e d. ends m back t e (greater_with_of m t d);
    closed = λ text back e f. no_quote 62 [] text refl e;
  };
  reads = reads;
}

two_places : (place : ℕ) → place + 1 + 1 ≡ place + 2
two_places place = omega arith

less_equal_taken : (place : ℕ) (bs : List ℕ) → TakenToken place (60 ∷ 61 ∷ bs)
less_equal_taken place bs = record {
  front = 60 ∷ 61 ∷ [];
  rest = bs;
  token = Compare LessEqual;
  cut = refl;
  longest = record {
    spelled = a_comparison LessEqual;
    longest = λ m back t e d. less_two 61 m t (less_with_of (61 ∷ m) t d);
    closed = λ text back e f. no_quote 60 (61 ∷ []) text refl e;
  };
  reads = less_equal_first place bs ∙ rw (two_places place) refl;
}

not_equal_taken : (place : ℕ) (bs : List ℕ) → TakenToken place (60 ∷ 62 ∷ bs)
not_equal_taken place bs = record {
  front = 60 ∷ 62 ∷ [];
  rest = bs;
  token = Compare NotEqual;
  cut = refl;
  longest = record {
    spelled = a_comparison NotEqual;
    longest = λ m back t e d. less_two 62 m t (less_with_of (62 ∷ m) t d);
    closed = λ text back e f. no_quote 60 (62 ∷ []) text refl e;
  };
  reads = not_equal_first place bs ∙ rw (two_places place) refl;
}

greater_equal_taken : (place : ℕ) (bs : List ℕ) → TakenToken place (62 ∷ 61 ∷ bs)
greater_equal_taken place bs = record {
  front = 62 ∷ 61 ∷ [];
  rest = bs;
  token = Compare GreaterEqual;
  cut = refl;
  longest = record {
    spelled = a_comparison GreaterEqual;
    longest = λ m back t e d. greater_two 61 m t (greater_with_of (61 ∷ m) t d);
    closed = λ text back e f. no_quote 62 (61 ∷ []) text refl e;
  };
  reads = greater_equal_first place bs ∙ rw (two_places place) refl;
}

less_case : (place : ℕ) (bs : List ℕ) → TakenToken place (60 ∷ bs)
less_case place [] = less_taken place [] (λ m back t e k. nil_front m back e) (less_last place)
less_case place (b ∷ bs) =
    elim (cases_Bool (b == 61)) [
      | inl h ↦ rw (is_byte b 61 h) (less_equal_taken place bs)
      | inr f ↦ elim (cases_Bool (b == 62)) [
        | inl h ↦ rw (is_byte b 62 h) (not_equal_taken place bs)
        | inr g ↦ less_taken place (b ∷ bs) (λ m back t e k. less_ends b bs m back t f g e k) (less_first place b bs f g)
      ]
    ]

greater_case : (place : ℕ) (bs : List ℕ) → TakenToken place (62 ∷ bs)
greater_case place [] = greater_taken place [] (λ m back t e k. nil_front m back e) (greater_last place)
greater_case place (b ∷ bs) =
    elim (cases_Bool (b == 61)) [
      | inl h ↦ rw (is_byte b 61 h) (greater_equal_taken place bs)
      | inr f ↦ greater_taken place (b ∷ bs) (λ m back t e k. greater_ends b bs m back t f e k) (greater_first place b bs f)
    ]

-- Any byte that is no blank's and no comment's

bad_first : (place b : ℕ) (bs : List ℕ) → is_blank b ≡ false → b == 37 ≡ false → is_letter b ≡ false → is_digit b ≡ false → b == 43 ≡ false → b == 45 ≡ false → b == 34 ≡ false → is_sign b ≡ false → b == 61 ≡ false → b == 60 ≡ false → b == 62 ≡ false → tokens_from Between place (b ∷ bs) ≡ lexeme Bad place ∷ []
unfolding byte_turn fresh_byte
bad_first place b bs e f l i p m q h x y z = rw (e, f, l, i, p, m, q, h, x, y, z, stopped (place + 1) bs) refl

bad_class : (b : ℕ) → is_blank b ≡ false → b == 37 ≡ false → is_letter b ≡ false → is_digit b ≡ false → b == 43 ≡ false → b == 45 ≡ false → b == 34 ≡ false → is_sign b ≡ false → b == 61 ≡ false → b == 60 ≡ false → b == 62 ≡ false → class_of b ≡ 0
bad_class b e f l i p m q h x y z = rw (e, f, l, i, p, m, q, h, x, y, z) refl

bad_unread : (place b : ℕ) (bs : List ℕ) → class_of b ≡ 0 → tokens_from Between place (b ∷ bs) ≡ lexeme Bad place ∷ [] → Unread place (b ∷ bs)
bad_unread place b bs c reads = record {
  none = none_by b bs (λ g rest u e sh l. let k = shape_class b g u sh in omega arith);
  reads = reads;
}

by_compare : (place b : ℕ) (bs : List ℕ) → is_blank b ≡ false → b == 37 ≡ false → is_letter b ≡ false → is_digit b ≡ false → b == 43 ≡ false → b == 45 ≡ false → b == 34 ≡ false → is_sign b ≡ false → FirstToken place (b ∷ bs)
by_compare place b bs e f l i p m q h =
    elim (cases_Bool (b == 61)) [
      | inl k ↦ rw (is_byte b 61 k) (inl (equal_taken place bs))
      | inr x ↦ elim (cases_Bool (b == 60)) [
        | inl k ↦ rw (is_byte b 60 k) (inl (less_case place bs))
        | inr y ↦ elim (cases_Bool (b == 62)) [
          | inl k ↦ rw (is_byte b 62 k) (inl (greater_case place bs))
          | inr z ↦ inr (bad_unread place b bs (bad_class b e f l i p m q h x y z) (bad_first place b bs e f l i p m q h x y z))
        ]
      ]
    ]

by_mark : (place b : ℕ) (bs : List ℕ) → is_blank b ≡ false → b == 37 ≡ false → is_letter b ≡ false → is_digit b ≡ false → b == 43 ≡ false → b == 45 ≡ false → FirstToken place (b ∷ bs)
by_mark place b bs e f l i p m =
    elim (cases_Bool (b == 34)) [
      | inl k ↦ rw (is_byte b 34 k) (string_case place bs)
      | inr q ↦ elim (cases_Bool (is_sign b)) [
        | inl h ↦ inl (sign_taken place b bs h (sign_first place b bs e f l i p m q h))
        | inr h ↦ by_compare place b bs e f l i p m q h
      ]
    ]

by_number : (place b : ℕ) (bs : List ℕ) → is_blank b ≡ false → b == 37 ≡ false → is_letter b ≡ false → FirstToken place (b ∷ bs)
by_number place b bs e f l =
    elim (cases_Bool (is_digit b)) [
      | inl i ↦ inl (number_taken place b bs e f l i)
      | inr i ↦ elim (cases_Bool (b == 43)) [
        | inl k ↦ rw (is_byte b 43 k) (plus_case place bs)
        | inr p ↦ elim (cases_Bool (b == 45)) [
          | inl k ↦ rw (is_byte b 45 k) (minus_case place bs)
          | inr m ↦ by_mark place b bs e f l i p m
        ]
      ]
    ]

-- a text that begins with no blank and no comment begins with its longest token, or with none
pub first_token : (place b : ℕ) (bs : List ℕ) → is_blank b ≡ false → b == 37 ≡ false → FirstToken place (b ∷ bs)
first_token place b bs e f =
    elim (cases_Bool (is_letter b)) [
      | inl l ↦ inl (word_taken place b bs e f l)
      | inr l ↦ by_number place b bs e f l
    ]
