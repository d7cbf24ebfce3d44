-- Sets and the ends of data sets are read exactly.
use Rattle.std.proofs.Common.{◌≡◌, ℕ, List, [], ◌∷◌, ◌++◌, map, Bool, true, false, cond, ◌||◌, refl, sym, ap, ◌∙◌, subst, append_assoc}
use Rattle.std.specs.Prelude.{codes, Some, None}
use Rattle.std.specs.declared.option.Option.{Option}
use Rattle.std.specs.declared.result.Result.TheVariants.{Ok}
use Rattle.dms_tokens.specs.declared.token.Token.{Token}
use Rattle.dms_tokens.specs.declared.token.Token.TheVariants.{Word, Sign}
use Rattle.dms_base.specs.declared.kind.SetForm.{SetForm}
use Rattle.dms_base.specs.declared.kind.SetForm.TheVariants.{IndexSequential, OrderedList}
use Rattle.dms_tokens.specs.declared.token.Lexeme.{Lexeme}
use Rattle.dasdl_phrases.specs.declared.key_parts.KeyDecl.{KeyDecl}
use Rattle.dasdl_parse.specs.declared.sets.SetOptions.{SetOptions}
use Rattle.dasdl_parse.specs.declared.data_sets.DataSetOptions.{DataSetOptions}
use Rattle.dasdl_phrases.specs.Trees.{Condition}
use Rattle.dasdl_phrases.specs.Reads.{◌>>=◌}
use Rattle.dms_tokens.specs.Cursors.{starts, is_word}
use Rattle.dasdl_phrases.specs.Cursors.{word_at, sign_at, comma_at, turns_at, until_semicolon}
use Rattle.dasdl_phrases.specs.Conditions.{cond_decl_at}
use Rattle.dasdl_phrases.specs.Keys.{key_at}
use Rattle.dasdl_parse.specs.Sets.{population_at, duplicates_at, form_at, starts_duplicates, starts_form, no_set_options, plain_option_at, set_option_at, next_set_option_at}
use Rattle.dasdl_parse.specs.Grammar.{no_data_set_options, data_set_option_at, next_data_set_option_at}
use Rattle.dasdl_phrases.specs.CondSpelling.{token_of}
use Rattle.dasdl_grammar.specs.SaidSpelling.{SpellsFirst, Said, IsCondDecl, IsKeyDecl, IsPopulation, IsDuplicates, IsForm, SetOption, DataSetOption}
use Rattle.dasdl_grammar.specs.SaidSpelling.IsCondDecl.{a_cond}
use Rattle.dasdl_grammar.specs.SaidSpelling.IsKeyDecl.{a_key}
use Rattle.dasdl_grammar.specs.SaidSpelling.IsPopulation.{a_population}
use Rattle.dasdl_grammar.specs.SaidSpelling.IsDuplicates.{allowed, not_allowed}
use Rattle.dasdl_grammar.specs.SaidSpelling.IsForm.{a_tree, a_list}
use Rattle.dasdl_grammar.specs.SaidSpelling.SetOption.{says_where, says_key, says_duplicates, says_form, says_population}
use Rattle.dasdl_grammar.specs.SaidSpelling.DataSetOption.{says_verify, says_its_population}
use Rattle.dasdl_phrases.proofs.Inverting.{bind_ok, ok_same}
use Rattle.dasdl_phrases.proofs.SpelledTokens.{StartsToken, word_spelled, sign_spelled}
use Rattle.dasdl_phrases.proofs.CondSound.{pick}
use Rattle.dasdl_phrases.proofs.CondComplete.{heads, none_left, word_reads}
use Rattle.dasdl_grammar.proofs.SaidExact.{FollowsSaid, Opens, said_sound, said_complete}
use Rattle.dms_base.specs.Name.{is_name}
use Rattle.dasdl_parse.specs.declared.declarations.SetDecl.{SetDecl}
use Rattle.dasdl_parse.specs.declared.declarations.DataSetEnd.{DataSetEnd}
use Rattle.dasdl_phrases.specs.Cursors.{name_at}
use Rattle.dasdl_parse.specs.Sets.{set_word_at, set_of, set_at, or_else}
use Rattle.dasdl_parse.specs.Grammar.{data_set_end_at}
use Rattle.dasdl_grammar.specs.SetSpelling.{set_word, IsSet, IsEnd}
use Rattle.dasdl_grammar.specs.SetSpelling.IsSet.{a_set}
use Rattle.dasdl_grammar.specs.SetSpelling.IsEnd.{an_end}
use Rattle.dasdl_phrases.proofs.SpelledTokens.{name_spelled}
use Rattle.dasdl_phrases.proofs.CondComplete.{name_reads, sign_reads}
use Rattle.dasdl_grammar.proofs.SetExact.{cond_decl_reads, key_decl_reads, population_reads, set_option_sound, data_set_option_sound}

-- whether a word stands first
flag : (w v : List ℕ) (b : Bool) (us others rest : List Lexeme) (l : Lexeme) → us ≡ l ∷ others → l.token ≡ Word v → is_word w (Word v) ≡ b → starts (is_word w) (us ++ rest) ≡ b
flag w v b us others rest l e t h = rw (e, t) h

opens_by : (w : List ℕ) (us others : List Lexeme) (l : Lexeme) → us ≡ l ∷ others → l.token ≡ Word w → is_word (codes "AND") (Word w) ≡ false → is_word (codes "OR") (Word w) ≡ false → is_word (codes "ASCENDING") (Word w) ≡ false → is_word (codes "DESCENDING") (Word w) ≡ false → Opens us
opens_by w us others l e t a b c d = record {
  word = w;
  first = l;
  others = others;
  all = e;
  token = t;
  follows = λ rest. record { no_and = flag (codes "AND") w false us others rest l e t a; no_or = flag (codes "OR") w false us others rest l e t b; no_up = flag (codes "ASCENDING") w false us others rest l e t c; no_down = flag (codes "DESCENDING") w false us others rest l e t d };
}

-- the first lexeme of what a word opens
record FirstWord (w : List ℕ) (us : List Lexeme) : Type 0 where
  l : Lexeme
  others : List Lexeme
  all : us ≡ l ∷ others
  token : l.token ≡ Word w

first_of_cond : (w : List ℕ) (c : Condition) (us : List Lexeme) → IsCondDecl w c us → FirstWord w us
first_of_cond w _ _ (a_cond l tree vs e d few) = record { l = l; others = vs; all = refl; token = e }

first_of_key : (k : KeyDecl) (us : List Lexeme) → IsKeyDecl k us → FirstWord (codes "KEY") us
first_of_key _ _ (a_key l m parts vs e f d few) = record { l = l; others = m ∷ vs; all = refl; token = e }

first_of : (w : List ℕ) (us : List Lexeme) (xs : List Token) → map token_of us ≡ Word w ∷ xs → FirstWord w us
first_of w us xs e = let k = heads us (Word w) xs e in record { l = k.l; others = k.b; all = k.all; token = k.token }

first_of_population : (n : ℕ) (xs : List Token) → IsPopulation n xs → (us : List Lexeme) → map token_of us ≡ xs → FirstWord (codes "POPULATION") us
first_of_population _ _ (a_population n a b) us e = first_of (codes "POPULATION") us _ e

duplicates_one : (k : Lexeme) (rest : List Lexeme) → k.token ≡ Word (codes "DUPLICATES") → duplicates_at (k ∷ rest) ≡ Ok (true, rest)
unfolding duplicates_at word_at
duplicates_one k rest e = rw e refl

duplicates_two : (k l : Lexeme) (rest : List Lexeme) → k.token ≡ Word (codes "NO") → l.token ≡ Word (codes "DUPLICATES") → duplicates_at (k ∷ l ∷ rest) ≡ Ok (false, rest)
unfolding duplicates_at word_at
duplicates_two k l rest e f = rw (e, f) refl

form_one : (k l : Lexeme) (rest : List Lexeme) → k.token ≡ Word (codes "INDEX") → l.token ≡ Word (codes "SEQUENTIAL") → form_at (k ∷ l ∷ rest) ≡ Ok (IndexSequential, rest)
unfolding form_at word_at
form_one k l rest e f = rw (e, f) refl

form_two : (k l : Lexeme) (rest : List Lexeme) → k.token ≡ Word (codes "ORDERED") → l.token ≡ Word (codes "LIST") → form_at (k ∷ l ∷ rest) ≡ Ok (OrderedList, rest)
unfolding form_at word_at
form_two k l rest e f = rw (e, f) refl

one_lexeme : (us : List Lexeme) (x : Token) → map token_of us ≡ x ∷ [] → (l : Lexeme) × (us ≡ l ∷ []) × (l.token ≡ x)
one_lexeme us x e =
    let k = heads us x [] e in
    (k.l, k.all ∙ ap (λ (vs : List Lexeme). k.l ∷ vs) (none_left k.b k.back), k.token)

two_lexemes : (us : List Lexeme) (x y : Token) → map token_of us ≡ x ∷ (y ∷ []) → (l : Lexeme) × (m : Lexeme) × (us ≡ l ∷ (m ∷ [])) × (l.token ≡ x) × (m.token ≡ y)
two_lexemes us x y e =
    let k = heads us x (y ∷ []) e in
    let l = heads k.b y [] k.back in
    (k.l, l.l, k.all ∙ ap (λ (vs : List Lexeme). k.l ∷ vs) (l.all ∙ ap (λ (vs : List Lexeme). l.l ∷ vs) (none_left l.b l.back)), k.token, l.token)

-- a plain option, after what stands before it in the order of tests
plain_duplicates : (cond : Option Condition) (key : Option KeyDecl) (form : Option SetForm) (population : Option ℕ) (d : Bool) (ts rest : List Lexeme) → starts_duplicates ts ≡ true → duplicates_at ts ≡ Ok (d, rest) → plain_option_at (record { cond = cond; key = key; duplicates = None; form = form; population = population }) ts ≡ Ok (record { cond = cond; key = key; duplicates = Some d; form = form; population = population }, rest)
unfolding plain_option_at
plain_duplicates cond key form population d ts rest p h = rw (p, h) refl

plain_form : (cond : Option Condition) (key : Option KeyDecl) (duplicates : Option Bool) (population : Option ℕ) (f : SetForm) (ts rest : List Lexeme) → starts_duplicates ts ≡ false → starts_form ts ≡ true → form_at ts ≡ Ok (f, rest) → plain_option_at (record { cond = cond; key = key; duplicates = duplicates; form = None; population = population }) ts ≡ Ok (record { cond = cond; key = key; duplicates = duplicates; form = Some f; population = population }, rest)
unfolding plain_option_at
plain_form cond key duplicates population f ts rest p q h = rw (p, q, h) refl

plain_population : (cond : Option Condition) (key : Option KeyDecl) (duplicates : Option Bool) (form : Option SetForm) (n : ℕ) (ts rest : List Lexeme) → starts_duplicates ts ≡ false → starts_form ts ≡ false → starts (is_word (codes "POPULATION")) ts ≡ true → population_at ts ≡ Ok (n, rest) → plain_option_at (record { cond = cond; key = key; duplicates = duplicates; form = form; population = None }) ts ≡ Ok (record { cond = cond; key = key; duplicates = duplicates; form = form; population = Some n }, rest)
unfolding plain_option_at
plain_population cond key duplicates form n ts rest p q r h = rw (p, q, r, h) refl

by_plain : (s t : SetOptions) (ts rest : List Lexeme) → starts (is_word (codes "WHERE")) ts ≡ false → starts (is_word (codes "KEY")) ts ≡ false → plain_option_at s ts ≡ Ok (t, rest) → set_option_at s ts ≡ Ok (t, rest)
unfolding set_option_at
by_plain s t ts rest p q h = rw (p, q) h

by_where : (key : Option KeyDecl) (duplicates : Option Bool) (form : Option SetForm) (population : Option ℕ) (c : Condition) (ts rest : List Lexeme) → starts (is_word (codes "WHERE")) ts ≡ true → cond_decl_at (codes "WHERE") ts ≡ Ok (c, rest) → set_option_at (record { cond = None; key = key; duplicates = duplicates; form = form; population = population }) ts ≡ Ok (record { cond = Some c; key = key; duplicates = duplicates; form = form; population = population }, rest)
unfolding set_option_at
by_where key duplicates form population c ts rest p h = rw (p, h) refl

by_key : (cond : Option Condition) (duplicates : Option Bool) (form : Option SetForm) (population : Option ℕ) (k : KeyDecl) (ts rest : List Lexeme) → starts (is_word (codes "WHERE")) ts ≡ false → starts (is_word (codes "KEY")) ts ≡ true → key_at ts ≡ Ok (k, rest) → set_option_at (record { cond = cond; key = None; duplicates = duplicates; form = form; population = population }) ts ≡ Ok (record { cond = cond; key = Some k; duplicates = duplicates; form = form; population = population }, rest)
unfolding set_option_at
by_key cond duplicates form population k ts rest p q h = rw (p, q, h) refl

-- no other word stands first
not_first : (v : List ℕ) (us rest : List Lexeme) → FirstWord v us → (w : List ℕ) → is_word w (Word v) ≡ false → starts (is_word w) (us ++ rest) ≡ false
not_first v us rest f w h = flag w v false us f.others rest f.l f.all f.token h

is_first : (v : List ℕ) (us rest : List Lexeme) → FirstWord v us → is_word v (Word v) ≡ true → starts (is_word v) (us ++ rest) ≡ true
is_first v us rest f h = flag v v true us f.others rest f.l f.all f.token h

either : (a b c d : Bool) → a ≡ c → b ≡ d → a || b ≡ c || d
either a b c d e f = rw (e, f) refl

duplicates_reads : (d : Bool) (xs : List Token) → IsDuplicates d xs → (us : List Lexeme) → map token_of us ≡ xs → (rest : List Lexeme) → (duplicates_at (us ++ rest) ≡ Ok (d, rest)) × (starts_duplicates (us ++ rest) ≡ true) × (starts (is_word (codes "WHERE")) (us ++ rest) ≡ false) × (starts (is_word (codes "KEY")) (us ++ rest) ≡ false)
duplicates_reads _ _ allowed us e rest =
    let k = one_lexeme us (Word (codes "DUPLICATES")) e in
    let f : FirstWord (codes "DUPLICATES") us = record { l = k.0; others = []; all = k.1; token = k.2 } in
    let r : duplicates_at (us ++ rest) ≡ Ok (true, rest) = rw k.1 (duplicates_one k.0 rest k.2) in
    (r, either _ _ true false (is_first (codes "DUPLICATES") us rest f refl) (not_first (codes "DUPLICATES") us rest f (codes "NO") refl), not_first (codes "DUPLICATES") us rest f (codes "WHERE") refl, not_first (codes "DUPLICATES") us rest f (codes "KEY") refl)
duplicates_reads _ _ not_allowed us e rest =
    let k = two_lexemes us (Word (codes "NO")) (Word (codes "DUPLICATES")) e in
    let f : FirstWord (codes "NO") us = record { l = k.0; others = k.1 ∷ []; all = k.2; token = k.3 } in
    let r : duplicates_at (us ++ rest) ≡ Ok (false, rest) = rw k.2 (duplicates_two k.0 k.1 rest k.3 k.4) in
    (r, either _ _ false true (not_first (codes "NO") us rest f (codes "DUPLICATES") refl) (is_first (codes "NO") us rest f refl), not_first (codes "NO") us rest f (codes "WHERE") refl, not_first (codes "NO") us rest f (codes "KEY") refl)

form_reads : (d : SetForm) (xs : List Token) → IsForm d xs → (us : List Lexeme) → map token_of us ≡ xs → (rest : List Lexeme) → (form_at (us ++ rest) ≡ Ok (d, rest)) × (starts_form (us ++ rest) ≡ true) × (starts_duplicates (us ++ rest) ≡ false) × (starts (is_word (codes "WHERE")) (us ++ rest) ≡ false) × (starts (is_word (codes "KEY")) (us ++ rest) ≡ false)
form_reads _ _ a_tree us e rest =
    let k = two_lexemes us (Word (codes "INDEX")) (Word (codes "SEQUENTIAL")) e in
    let f : FirstWord (codes "INDEX") us = record { l = k.0; others = k.1 ∷ []; all = k.2; token = k.3 } in
    let r : form_at (us ++ rest) ≡ Ok (IndexSequential, rest) = rw k.2 (form_one k.0 k.1 rest k.3 k.4) in
    (r, either _ _ true false (is_first (codes "INDEX") us rest f refl) (not_first (codes "INDEX") us rest f (codes "ORDERED") refl), either _ _ false false (not_first (codes "INDEX") us rest f (codes "DUPLICATES") refl) (not_first (codes "INDEX") us rest f (codes "NO") refl), not_first (codes "INDEX") us rest f (codes "WHERE") refl, not_first (codes "INDEX") us rest f (codes "KEY") refl)
form_reads _ _ a_list us e rest =
    let k = two_lexemes us (Word (codes "ORDERED")) (Word (codes "LIST")) e in
    let f : FirstWord (codes "ORDERED") us = record { l = k.0; others = k.1 ∷ []; all = k.2; token = k.3 } in
    let r : form_at (us ++ rest) ≡ Ok (OrderedList, rest) = rw k.2 (form_two k.0 k.1 rest k.3 k.4) in
    (r, either _ _ false true (not_first (codes "ORDERED") us rest f (codes "INDEX") refl) (is_first (codes "ORDERED") us rest f refl), either _ _ false false (not_first (codes "ORDERED") us rest f (codes "DUPLICATES") refl) (not_first (codes "ORDERED") us rest f (codes "NO") refl), not_first (codes "ORDERED") us rest f (codes "WHERE") refl, not_first (codes "ORDERED") us rest f (codes "KEY") refl)

set_option_complete : (s t : SetOptions) (us rest : List Lexeme) → SetOption s t us → FollowsSaid rest → set_option_at s (us ++ rest) ≡ Ok (t, rest)
set_option_complete _ _ _ rest (says_where key duplicates form population c us d) f =
    let k = first_of_cond (codes "WHERE") c us d in
    by_where key duplicates form population c (us ++ rest) rest (is_first (codes "WHERE") us rest k refl) (cond_decl_reads (codes "WHERE") refl c us d rest f)
set_option_complete _ _ _ rest (says_key cond duplicates form population k us d) f =
    let l = first_of_key k us d in
    by_key cond duplicates form population k (us ++ rest) rest (not_first (codes "KEY") us rest l (codes "WHERE") refl) (is_first (codes "KEY") us rest l refl) (key_decl_reads k us d rest f)
set_option_complete _ _ _ rest (says_duplicates cond key form population d us o) f =
    let r = duplicates_reads d (map token_of us) o us refl rest in
    by_plain _ _ (us ++ rest) rest r.2 r.3 (plain_duplicates cond key form population d (us ++ rest) rest r.1 r.0)
set_option_complete _ _ _ rest (says_form cond key duplicates population d us o) f =
    let r = form_reads d (map token_of us) o us refl rest in
    by_plain _ _ (us ++ rest) rest r.3 r.4 (plain_form cond key duplicates population d (us ++ rest) rest r.2 r.1 r.0)
set_option_complete _ _ _ rest (says_population cond key duplicates form n us o) f =
    let k = first_of_population n (map token_of us) o us refl in
    let no : (w : List ℕ) → is_word w (Word (codes "POPULATION")) ≡ false → starts (is_word w) (us ++ rest) ≡ false = not_first (codes "POPULATION") us rest k in
    by_plain _ _ (us ++ rest) rest (no (codes "WHERE") refl) (no (codes "KEY") refl) (plain_population cond key duplicates form n (us ++ rest) rest (either _ _ false false (no (codes "DUPLICATES") refl) (no (codes "NO") refl)) (either _ _ false false (no (codes "INDEX") refl) (no (codes "ORDERED") refl)) (is_first (codes "POPULATION") us rest k refl) (population_reads n (map token_of us) o us rest refl))

duplicates_open : (d : Bool) (xs : List Token) → IsDuplicates d xs → (us : List Lexeme) → map token_of us ≡ xs → Opens us
duplicates_open _ _ allowed us e = let k = one_lexeme us (Word (codes "DUPLICATES")) e in opens_by (codes "DUPLICATES") us [] k.0 k.1 k.2 refl refl refl refl
duplicates_open _ _ not_allowed us e = let k = two_lexemes us (Word (codes "NO")) (Word (codes "DUPLICATES")) e in opens_by (codes "NO") us (k.1 ∷ []) k.0 k.2 k.3 refl refl refl refl

form_opens : (d : SetForm) (xs : List Token) → IsForm d xs → (us : List Lexeme) → map token_of us ≡ xs → Opens us
form_opens _ _ a_tree us e = let k = two_lexemes us (Word (codes "INDEX")) (Word (codes "SEQUENTIAL")) e in opens_by (codes "INDEX") us (k.1 ∷ []) k.0 k.2 k.3 refl refl refl refl
form_opens _ _ a_list us e = let k = two_lexemes us (Word (codes "ORDERED")) (Word (codes "LIST")) e in opens_by (codes "ORDERED") us (k.1 ∷ []) k.0 k.2 k.3 refl refl refl refl

set_opens : (s t : SetOptions) (us : List Lexeme) → SetOption s t us → Opens us
set_opens _ _ _ (says_where key duplicates form population c us d) = let k = first_of_cond (codes "WHERE") c us d in opens_by (codes "WHERE") us k.others k.l k.all k.token refl refl refl refl
set_opens _ _ _ (says_key cond duplicates form population c us d) = let k = first_of_key c us d in opens_by (codes "KEY") us k.others k.l k.all k.token refl refl refl refl
set_opens _ _ _ (says_duplicates cond key form population d us o) = duplicates_open d (map token_of us) o us refl
set_opens _ _ _ (says_form cond key duplicates population d us o) = form_opens d (map token_of us) o us refl
set_opens _ _ _ (says_population cond key duplicates form n us o) = let k = first_of_population n (map token_of us) o us refl in opens_by (codes "POPULATION") us k.others k.l k.all k.token refl refl refl refl

next_set : (s : SetOptions) (ts : List Lexeme) → next_set_option_at s ts ≡ (comma_at ts >>= λ t1. set_option_at s t1)
unfolding next_set_option_at
next_set s ts = refl

pub set_options_sound : (ts : List Lexeme) (t : SetOptions) (rest : List Lexeme) → turns_at until_semicolon next_set_option_at no_set_options ts ≡ Ok (t, rest) → SpellsFirst (Said no_set_options SetOption) ts t rest
set_options_sound = said_sound no_set_options SetOption set_option_at next_set_option_at next_set set_option_sound set_option_complete set_opens

pub set_options_complete : (us rest : List Lexeme) (t : SetOptions) (z : Lexeme) → Said no_set_options SetOption t us → z.token ≡ Sign 59 → turns_at until_semicolon next_set_option_at no_set_options (us ++ (z ∷ rest)) ≡ Ok (t, z ∷ rest)
set_options_complete = said_complete no_set_options SetOption set_option_at next_set_option_at next_set set_option_sound set_option_complete set_opens

by_verify : (population : Option ℕ) (c : Condition) (ts rest : List Lexeme) → starts (is_word (codes "VERIFY")) ts ≡ true → cond_decl_at (codes "VERIFY") ts ≡ Ok (c, rest) → data_set_option_at (record { verify = None; population = population }) ts ≡ Ok (record { verify = Some c; population = population }, rest)
unfolding data_set_option_at
by_verify population c ts rest p h = rw (p, h) refl

by_population : (verify : Option Condition) (n : ℕ) (ts rest : List Lexeme) → starts (is_word (codes "VERIFY")) ts ≡ false → starts (is_word (codes "POPULATION")) ts ≡ true → population_at ts ≡ Ok (n, rest) → data_set_option_at (record { verify = verify; population = None }) ts ≡ Ok (record { verify = verify; population = Some n }, rest)
unfolding data_set_option_at
by_population verify n ts rest p q h = rw (p, q, h) refl

data_set_option_complete : (s t : DataSetOptions) (us rest : List Lexeme) → DataSetOption s t us → FollowsSaid rest → data_set_option_at s (us ++ rest) ≡ Ok (t, rest)
data_set_option_complete _ _ _ rest (says_verify population c us d) f =
    let k = first_of_cond (codes "VERIFY") c us d in
    by_verify population c (us ++ rest) rest (is_first (codes "VERIFY") us rest k refl) (cond_decl_reads (codes "VERIFY") refl c us d rest f)
data_set_option_complete _ _ _ rest (says_its_population verify n us o) f =
    let k = first_of_population n (map token_of us) o us refl in
    by_population verify n (us ++ rest) rest (not_first (codes "POPULATION") us rest k (codes "VERIFY") refl) (is_first (codes "POPULATION") us rest k refl) (population_reads n (map token_of us) o us rest refl)

data_set_opens : (s t : DataSetOptions) (us : List Lexeme) → DataSetOption s t us → Opens us
data_set_opens _ _ _ (says_verify population c us d) = let k = first_of_cond (codes "VERIFY") c us d in opens_by (codes "VERIFY") us k.others k.l k.all k.token refl refl refl refl
data_set_opens _ _ _ (says_its_population verify n us o) = let k = first_of_population n (map token_of us) o us refl in opens_by (codes "POPULATION") us k.others k.l k.all k.token refl refl refl refl

next_data_set : (s : DataSetOptions) (ts : List Lexeme) → next_data_set_option_at s ts ≡ (comma_at ts >>= λ t1. data_set_option_at s t1)
unfolding next_data_set_option_at
next_data_set s ts = refl

pub data_set_options_sound : (ts : List Lexeme) (t : DataSetOptions) (rest : List Lexeme) → turns_at until_semicolon next_data_set_option_at no_data_set_options ts ≡ Ok (t, rest) → SpellsFirst (Said no_data_set_options DataSetOption) ts t rest
data_set_options_sound = said_sound no_data_set_options DataSetOption data_set_option_at next_data_set_option_at next_data_set data_set_option_sound data_set_option_complete data_set_opens

pub data_set_options_complete : (us rest : List Lexeme) (t : DataSetOptions) (z : Lexeme) → Said no_data_set_options DataSetOption t us → z.token ≡ Sign 59 → turns_at until_semicolon next_data_set_option_at no_data_set_options (us ++ (z ∷ rest)) ≡ Ok (t, z ∷ rest)
data_set_options_complete = said_complete no_data_set_options DataSetOption data_set_option_at next_data_set_option_at next_data_set data_set_option_sound data_set_option_complete data_set_opens

-- SET or SUBSET
word_sound : (ts : List Lexeme) (subset : Bool) (rest : List Lexeme) → set_word_at ts ≡ Ok (subset, rest) → StartsToken (Word (set_word subset)) ts rest
unfolding set_word_at
word_sound ts subset rest h =
    pick {A = Bool × List Lexeme} (starts (is_word (codes "SUBSET")) ts) _ _ (subset, rest)
    (λ e.
    let a = bind_ok (word_at (codes "SUBSET") ts) _ _ e in
    subst (λ (x : Bool × List Lexeme). StartsToken (Word (set_word x.0)) ts x.1) (ok_same (true, a.0) (subset, rest) a.2) (word_spelled (codes "SUBSET") ts a.0 a.1))
    (λ e.
    let a = bind_ok (word_at (codes "SET") ts) _ _ e in
    subst (λ (x : Bool × List Lexeme). StartsToken (Word (set_word x.0)) ts x.1) (ok_same (false, a.0) (subset, rest) a.2) (word_spelled (codes "SET") ts a.0 a.1)) h

word_reads_2 : (k : Lexeme) (rest : List Lexeme) (subset : Bool) → k.token ≡ Word (set_word subset) → set_word_at (k ∷ rest) ≡ Ok (subset, rest)
unfolding set_word_at word_at
word_reads_2 k rest true e = rw e refl
word_reads_2 k rest false e = rw e refl

pub set_sound : (place : ℕ) (name : List ℕ) (ts : List Lexeme) (set : SetDecl) (rest : List Lexeme) → set_at place name ts ≡ Ok (set, rest) → SpellsFirst (IsSet place name) ts set rest
unfolding set_at
set_sound place name ts set rest h =
    let a = bind_ok (set_word_at ts) _ _ h in
    let b = bind_ok (word_at (codes "OF") a.0.1) _ _ a.2 in
    let c = bind_ok (name_at b.0) _ _ b.2 in
    let d = bind_ok (turns_at until_semicolon next_set_option_at no_set_options c.0.1) _ _ c.2 in
    let e = bind_ok (sign_at 59 d.0.1) _ _ d.2 in
    let k = word_sound ts a.0.0 a.0.1 a.1 in
    let o = word_spelled (codes "OF") a.0.1 b.0 b.1 in
    let t = name_spelled b.0 c.0.0 c.0.1 c.1 in
    let s = set_options_sound c.0.1 d.0.0 d.0.1 d.1 in
    let z = sign_spelled 59 d.0.1 e.0 e.1 in
    let all : ts ≡ (k.first ∷ (o.first ∷ (t.1.first ∷ (s.0 ++ (z.first ∷ []))))) ++ e.0 = k.all ∙ ap (λ (xs : List Lexeme). k.first ∷ xs) (o.all ∙ ap (λ (xs : List Lexeme). o.first ∷ xs) (t.1.all ∙ ap (λ (xs : List Lexeme). t.1.first ∷ xs) (s.2 ∙ ap (λ (xs : List Lexeme). s.0 ++ xs) z.all ∙ sym (append_assoc s.0 (z.first ∷ []) e.0)))) in
    subst (λ (x : SetDecl × List Lexeme). SpellsFirst (IsSet place name) ts x.0 x.1) (ok_same (set_of place name a.0.0 c.0.0 d.0.0, e.0) (set, rest) e.2)
    (k.first ∷ (o.first ∷ (t.1.first ∷ (s.0 ++ (z.first ∷ [])))), a_set k.first o.first t.1.first z.first a.0.0 c.0.0 d.0.0 s.0 k.token o.token t.1.token t.0 s.1 z.token, all)

set_step : (place : ℕ) (name : List ℕ) (k o t z : Lexeme) (subset : Bool) (of : List ℕ) (said : SetOptions) (ts rest : List Lexeme) → k.token ≡ Word (set_word subset) → o.token ≡ Word (codes "OF") → t.token ≡ Word of → is_name of ≡ true → turns_at until_semicolon next_set_option_at no_set_options ts ≡ Ok (said, z ∷ rest) → z.token ≡ Sign 59 → set_at place name (k ∷ (o ∷ (t ∷ ts))) ≡ Ok (set_of place name subset of said, rest)
unfolding set_at
set_step place name k o t z subset of said ts rest a b c named d e =
    rw (word_reads_2 k (o ∷ (t ∷ ts)) subset a, word_reads (codes "OF") o (t ∷ ts) refl b, name_reads t ts of c named, d, sign_reads 59 z rest refl e) refl

pub set_complete : (place : ℕ) (name : List ℕ) (us rest : List Lexeme) (set : SetDecl) → IsSet place name set us → set_at place name (us ++ rest) ≡ Ok (set, rest)
set_complete place name _ rest _ (a_set k o t z subset of said us a b c named d e) =
    let same : (us ++ (z ∷ [])) ++ rest ≡ us ++ (z ∷ rest) = append_assoc us (z ∷ []) rest in
    rw same (set_step place name k o t z subset of said (us ++ (z ∷ rest)) rest a b c named (set_options_complete us rest said z d e) e)

pub end_sound : (ts : List Lexeme) (end : DataSetEnd) (rest : List Lexeme) → data_set_end_at ts ≡ Ok (end, rest) → SpellsFirst IsEnd ts end rest
unfolding data_set_end_at
end_sound ts end rest h =
    let a = bind_ok (sign_at 41 ts) _ _ h in
    let d = bind_ok (turns_at until_semicolon next_data_set_option_at no_data_set_options a.0) _ _ a.2 in
    let e = bind_ok (sign_at 59 d.0.1) _ _ d.2 in
    let k = sign_spelled 41 ts a.0 a.1 in
    let s = data_set_options_sound a.0 d.0.0 d.0.1 d.1 in
    let z = sign_spelled 59 d.0.1 e.0 e.1 in
    let all : ts ≡ (k.first ∷ (s.0 ++ (z.first ∷ []))) ++ e.0 = k.all ∙ ap (λ (xs : List Lexeme). k.first ∷ xs) (s.2 ∙ ap (λ (xs : List Lexeme). s.0 ++ xs) z.all ∙ sym (append_assoc s.0 (z.first ∷ []) e.0)) in
    subst (λ (x : DataSetEnd × List Lexeme). SpellsFirst IsEnd ts x.0 x.1) (ok_same (record { verify = d.0.0.verify; population = or_else 1000000 d.0.0.population }, e.0) (end, rest) e.2)
    (k.first ∷ (s.0 ++ (z.first ∷ [])), an_end k.first z.first d.0.0 s.0 k.token s.1 z.token, all)

end_step : (c z : Lexeme) (said : DataSetOptions) (ts rest : List Lexeme) → c.token ≡ Sign 41 → turns_at until_semicolon next_data_set_option_at no_data_set_options ts ≡ Ok (said, z ∷ rest) → z.token ≡ Sign 59 → data_set_end_at (c ∷ ts) ≡ Ok (record { verify = said.verify; population = or_else 1000000 said.population }, rest)
unfolding data_set_end_at
end_step c z said ts rest a d e = rw (sign_reads 41 c ts refl a, d, sign_reads 59 z rest refl e) refl

pub end_complete : (us rest : List Lexeme) (end : DataSetEnd) → IsEnd end us → data_set_end_at (us ++ rest) ≡ Ok (end, rest)
end_complete _ rest _ (an_end c z said us a d e) =
    let same : (us ++ (z ∷ [])) ++ rest ≡ us ++ (z ∷ rest) = append_assoc us (z ∷ []) rest in
    rw same (end_step c z said (us ++ (z ∷ rest)) rest a (data_set_options_complete us rest said z d e) e)
