-- The options of an item are read exactly.
use Rattle.std.proofs.Common.{◌≡◌, List, [], ◌∷◌, ◌++◌, map, Bool, true, false, cond, not, ◌&&◌, refl, ap, ◌∙◌, subst}
use Rattle.std.proofs.lemmas.Bool.{not-true}
use Rattle.std.specs.Prelude.{codes, Some, None, is_none}
use Rattle.std.specs.declared.option.Option.{Option}
use Rattle.std.specs.declared.result.Result.{Result}
use Rattle.std.specs.declared.result.Result.TheVariants.{Ok}
use Rattle.dms_base.specs.declared.op.Op.TheVariants.{Equal}
use Rattle.dms_base.specs.declared.kind.Literal.{Literal}
use Rattle.dms_base.specs.declared.kind.Literal.TheVariants.{Null}
use Rattle.dasdl_phrases.specs.declared.fault.ParseFault.{ParseFault}
use Rattle.dms_tokens.specs.declared.token.Token.{Token}
use Rattle.dms_tokens.specs.declared.token.Token.TheVariants.{Word, Compare}
use Rattle.dms_tokens.specs.declared.token.Lexeme.{Lexeme}
use Rattle.dasdl_parse.specs.declared.items.ItemOptions.{ItemOptions}
use Rattle.dasdl_phrases.specs.Reads.{◌>>=◌, Read}
use Rattle.dms_tokens.specs.Cursors.{starts, is_word, is_the_sign}
use Rattle.dasdl_phrases.specs.Cursors.{word_at, equal_at, comma_at, turns_at, until_semicolon}
use Rattle.dasdl_phrases.specs.Kinds.{literal_at}
use Rattle.dasdl_parse.specs.Items.{no_options, item_option_at, next_item_option_at}
use Rattle.dasdl_phrases.specs.CondSpelling.{token_of, Reads, SpellsLiteral}
use Rattle.dasdl_parse.specs.OptionSpelling.{ItemOption, AreItemOptions}
use Rattle.dasdl_parse.specs.OptionSpelling.ItemOption.{says_required, says_initial, says_null}
use Rattle.dasdl_phrases.proofs.Inverting.{bind_ok, ok_same}
use Rattle.dasdl_phrases.proofs.SpelledTokens.{word_spelled, equal_spelled, literal_spelled}
use Rattle.dasdl_phrases.proofs.CondComplete.{heads, none_left, literal_reads}
use Rattle.dasdl_parse.proofs.OptionsExact.{BeginsOption, options_sound, options_complete}

is_next : (s : ItemOptions) (ts : List Lexeme) → next_item_option_at s ts ≡ (comma_at ts >>= λ t1. item_option_at s t1)
unfolding next_item_option_at
is_next s ts = refl

-- two tests that hold lead to one reading, and else to another
pub both_pick : {A : Type 0} {P : Type 0} (a b : Bool) (x y : Result A ParseFault) (z : A) → (b ≡ true → x ≡ Ok z → P) → (y ≡ Ok z → P) → cond (a && b) x y ≡ Ok z → P
both_pick true true x y z f g h = f refl h
both_pick true false x y z f g h = g h
both_pick false b x y z f g h = g h

pub none_is : {A : Type 0} (o : Option A) → is_none o ≡ true → o ≡ None
none_is None h = refl
none_is (Some x) h = absurd (cc)

abbrev gives : ItemOptions → List Lexeme → Read ItemOptions
gives x ts = Ok (x, ts)

required_read : (s t : ItemOptions) (ts rest : List Lexeme) → s.required ≡ false → (word_at (codes "REQUIRED") ts >>= λ t1. gives (record { required = true; initial = s.initial }) t1) ≡ Ok (t, rest) → Reads (ItemOption s) ts t rest
required_read s t ts rest r h =
    let b = bind_ok (word_at (codes "REQUIRED") ts) _ _ h in
    let k = word_spelled (codes "REQUIRED") ts b.0 b.1 in
    let g = ok_same (record { required = true; initial = s.initial }, b.0) (t, rest) b.2 in
    let is : ItemOption (record { required = s.required; initial = s.initial }) (record { required = true; initial = s.initial }) (Word (codes "REQUIRED") ∷ []) = rw r (says_required s.initial) in
    subst (λ (x : ItemOptions × List Lexeme). Reads (ItemOption s) ts x.0 x.1) g (record { used = k.first ∷ []; is = rw k.token is; all = k.all })

initial_read : (s t : ItemOptions) (ts rest : List Lexeme) → s.initial ≡ None → (word_at (codes "INITIALVALUE") ts >>= λ t1. equal_at t1 >>= λ t2. literal_at t2 >>= λ l. gives (record { required = s.required; initial = Some l.0 }) l.1) ≡ Ok (t, rest) → Reads (ItemOption s) ts t rest
initial_read s t ts rest r h =
    let a = bind_ok (word_at (codes "INITIALVALUE") ts) _ _ h in
    let b = bind_ok (equal_at a.0) _ _ a.2 in
    let c = bind_ok (literal_at b.0) _ _ b.2 in
    let k = word_spelled (codes "INITIALVALUE") ts a.0 a.1 in
    let e = equal_spelled a.0 b.0 b.1 in
    let l = literal_spelled b.0 c.0.0 c.0.1 c.1 in
    let g = ok_same (record { required = s.required; initial = Some c.0.0 }, c.0.1) (t, rest) c.2 in
    let is : ItemOption (record { required = s.required; initial = s.initial }) (record { required = s.required; initial = Some c.0.0 }) (Word (codes "INITIALVALUE") ∷ (Compare Equal ∷ (l.first.token ∷ []))) = rw r (says_initial s.required c.0.0 l.first.token l.is) in
    subst (λ (x : ItemOptions × List Lexeme). Reads (ItemOption s) ts x.0 x.1) g (record {
      used = k.first ∷ (e.first ∷ (l.first ∷ []));
      is = rw (k.token, e.token) is;
      all = k.all ∙ ap (λ (xs : List Lexeme). k.first ∷ xs) (e.all ∙ ap (λ (xs : List Lexeme). e.first ∷ xs) l.all);
    })

null_read : (s t : ItemOptions) (ts rest : List Lexeme) → s.initial ≡ None → (word_at (codes "NULL") ts >>= λ t1. gives (record { required = s.required; initial = Some Null }) t1) ≡ Ok (t, rest) → Reads (ItemOption s) ts t rest
null_read s t ts rest r h =
    let b = bind_ok (word_at (codes "NULL") ts) _ _ h in
    let k = word_spelled (codes "NULL") ts b.0 b.1 in
    let g = ok_same (record { required = s.required; initial = Some Null }, b.0) (t, rest) b.2 in
    let is : ItemOption (record { required = s.required; initial = s.initial }) (record { required = s.required; initial = Some Null }) (Word (codes "NULL") ∷ []) = rw r (says_null s.required) in
    subst (λ (x : ItemOptions × List Lexeme). Reads (ItemOption s) ts x.0 x.1) g (record { used = k.first ∷ []; is = rw k.token is; all = k.all })

is_sound : (s t : ItemOptions) (ts rest : List Lexeme) → item_option_at s ts ≡ Ok (t, rest) → Reads (ItemOption s) ts t rest
unfolding item_option_at
is_sound s t ts rest h =
    both_pick {A = ItemOptions × List Lexeme} (starts (is_word (codes "REQUIRED")) ts) (not s.required) _ _ (t, rest)
    (λ n e. required_read s t ts rest (not-true s.required n) e)
    (both_pick {A = ItemOptions × List Lexeme} (starts (is_word (codes "INITIALVALUE")) ts) (is_none s.initial) _ _ (t, rest)
    (λ n e. initial_read s t ts rest (none_is s.initial n) e)
    (both_pick {A = ItemOptions × List Lexeme} (starts (is_word (codes "NULL")) ts) (is_none s.initial) _ _ (t, rest)
    (λ n e. null_read s t ts rest (none_is s.initial n) e)
    (λ e. absurd (cc)))) h

complete_required : (initial : Option Literal) (k : Lexeme) (rest : List Lexeme) → k.token ≡ Word (codes "REQUIRED") → item_option_at (record { required = false; initial = initial }) (k ∷ rest) ≡ Ok (record { required = true; initial = initial }, rest)
unfolding item_option_at word_at
complete_required initial k rest e = rw e refl

complete_initial : (required : Bool) (k e l : Lexeme) (rest : List Lexeme) (x : Literal) (t : Token) → k.token ≡ Word (codes "INITIALVALUE") → e.token ≡ Compare Equal → l.token ≡ t → SpellsLiteral x t → item_option_at (record { required = required; initial = None }) (k ∷ e ∷ l ∷ rest) ≡ Ok (record { required = required; initial = Some x }, rest)
unfolding item_option_at word_at equal_at
complete_initial required k e l rest x t a b c d = rw (a, b, literal_reads l rest x t c d) refl

complete_null : (required : Bool) (k : Lexeme) (rest : List Lexeme) → k.token ≡ Word (codes "NULL") → item_option_at (record { required = required; initial = None }) (k ∷ rest) ≡ Ok (record { required = required; initial = Some Null }, rest)
unfolding item_option_at word_at
complete_null required k rest e = rw e refl

completes : (s t : ItemOptions) (xs : List Token) → ItemOption s t xs → (us rest : List Lexeme) → map token_of us ≡ xs → item_option_at s (us ++ rest) ≡ Ok (t, rest)
completes _ _ _ (says_required initial) us rest e =
    let k = heads us (Word (codes "REQUIRED")) [] e in
    let same : us ≡ k.l ∷ [] = k.all ∙ ap (λ (vs : List Lexeme). k.l ∷ vs) (none_left k.b k.back) in
    rw same (complete_required initial k.l rest k.token)
completes _ _ _ (says_initial required x t d) us rest e =
    let k = heads us (Word (codes "INITIALVALUE")) (Compare Equal ∷ (t ∷ [])) e in
    let l = heads k.b (Compare Equal) (t ∷ []) k.back in
    let m = heads l.b t [] l.back in
    let same : us ≡ k.l ∷ l.l ∷ m.l ∷ [] = k.all ∙ ap (λ (vs : List Lexeme). k.l ∷ vs) (l.all ∙ ap (λ (vs : List Lexeme). l.l ∷ vs) (m.all ∙ ap (λ (vs : List Lexeme). m.l ∷ vs) (none_left m.b m.back))) in
    rw same (complete_initial required k.l l.l m.l rest x t k.token l.token m.token d)
completes _ _ _ (says_null required) us rest e =
    let k = heads us (Word (codes "NULL")) [] e in
    let same : us ≡ k.l ∷ [] = k.all ∙ ap (λ (vs : List Lexeme). k.l ∷ vs) (none_left k.b k.back) in
    rw same (complete_null required k.l rest k.token)

is_complete : (s t : ItemOptions) (us rest : List Lexeme) → ItemOption s t (map token_of us) → item_option_at s (us ++ rest) ≡ Ok (t, rest)
is_complete s t us rest o = completes s t (map token_of us) o us rest refl

begins : (s t : ItemOptions) (xs : List Token) → ItemOption s t xs → BeginsOption xs
begins _ _ _ (says_required initial) = record { word = codes "REQUIRED"; others = []; all = refl }
begins _ _ _ (says_initial required x t d) = record { word = codes "INITIALVALUE"; others = Compare Equal ∷ (t ∷ []); all = refl }
begins _ _ _ (says_null required) = record { word = codes "NULL"; others = []; all = refl }

pub item_options_sound : (ts : List Lexeme) (t : ItemOptions) (rest : List Lexeme) → turns_at until_semicolon next_item_option_at no_options ts ≡ Ok (t, rest) → Reads AreItemOptions ts t rest
item_options_sound = options_sound no_options ItemOption item_option_at next_item_option_at is_next is_sound is_complete begins

pub item_options_complete : (us rest : List Lexeme) (t : ItemOptions) → AreItemOptions t (map token_of us) → starts (is_the_sign 59) rest ≡ true → turns_at until_semicolon next_item_option_at no_options (us ++ rest) ≡ Ok (t, rest)
item_options_complete = options_complete no_options ItemOption item_option_at next_item_option_at is_next is_sound is_complete begins
