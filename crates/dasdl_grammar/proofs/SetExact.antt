-- The options of sets and data sets are read exactly.
use Rattle.std.proofs.Common.{◌≡◌, ◌≤◌, ℕ, List, [], ◌∷◌, ◌++◌, map, Bool, true, false, refl, sym, ap, ◌∙◌, subst}
use Rattle.std.specs.Prelude.{codes, Some, is_none}
use Rattle.std.specs.declared.option.Option.{Option}
use Rattle.std.specs.declared.result.Result.TheVariants.{Ok}
use Rattle.dms_base.specs.declared.op.Op.TheVariants.{Equal}
use Rattle.dms_tokens.specs.declared.token.Token.{Token}
use Rattle.dms_tokens.specs.declared.token.Token.TheVariants.{Word, Number, Compare}
use Rattle.dms_base.specs.declared.kind.SetForm.{SetForm}
use Rattle.dms_base.specs.declared.kind.SetForm.TheVariants.{IndexSequential, OrderedList}
use Rattle.dms_tokens.specs.declared.token.Lexeme.{Lexeme}
use Rattle.dasdl_phrases.specs.declared.key_parts.PartDecl.{PartDecl}
use Rattle.dasdl_phrases.specs.declared.key_parts.KeyDecl.{KeyDecl}
use Rattle.dasdl_parse.specs.declared.sets.SetOptions.{SetOptions}
use Rattle.dasdl_parse.specs.declared.data_sets.DataSetOptions.{DataSetOptions}
use Rattle.dasdl_phrases.specs.TreeCodes.{WrittenTree}
use Rattle.dasdl_phrases.specs.Trees.{Condition}
use Rattle.dms_tokens.specs.Cursors.{place_at, starts, is_word}
use Rattle.dasdl_phrases.specs.Cursors.{word_at, equal_at}
use Rattle.dasdl_phrases.specs.Conditions.{cond_at, cond_decl_at}
use Rattle.dasdl_phrases.specs.Keys.{parts_at, key_at}
use Rattle.dasdl_parse.specs.Sets.{population_at, duplicates_at, form_at, starts_duplicates, starts_form, plain_option_at, set_option_at}
use Rattle.dasdl_parse.specs.Grammar.{data_set_option_at}
use Rattle.dasdl_phrases.specs.CondSpelling.{token_of, Reads}
use Rattle.dasdl_grammar.specs.SaidSpelling.{SpellsFirst, IsCondDecl, IsKeyDecl, IsPopulation, IsDuplicates, IsForm, SetOption, DataSetOption}
use Rattle.dasdl_grammar.specs.SaidSpelling.IsCondDecl.{a_cond}
use Rattle.dasdl_grammar.specs.SaidSpelling.IsKeyDecl.{a_key}
use Rattle.dasdl_grammar.specs.SaidSpelling.IsPopulation.{a_population}
use Rattle.dasdl_grammar.specs.SaidSpelling.IsDuplicates.{allowed, not_allowed}
use Rattle.dasdl_grammar.specs.SaidSpelling.IsForm.{a_tree, a_list}
use Rattle.dasdl_grammar.specs.SaidSpelling.SetOption.{says_where, says_key, says_duplicates, says_form, says_population}
use Rattle.dasdl_grammar.specs.SaidSpelling.DataSetOption.{says_verify, says_its_population}
use Rattle.dasdl_phrases.proofs.Inverting.{bind_ok, ok_same}
use Rattle.dasdl_phrases.proofs.SpelledTokens.{word_spelled, equal_spelled}
use Rattle.dasdl_phrases.proofs.CondSound.{cond_sound, pick}
use Rattle.dasdl_phrases.proofs.CondNodes.{cond_few}
use Rattle.dasdl_phrases.proofs.CondComplete.{cond_complete, heads, none_left, word_reads}
use Rattle.dasdl_phrases.proofs.KeyExact.{key_sound}
use Rattle.dasdl_phrases.proofs.KeyComplete.{key_complete}
use Rattle.dasdl_phrases.proofs.KindExact.{number_spelled, number_reads}
use Rattle.dasdl_parse.proofs.ItemOptionsExact.{both_pick, none_is}
use Rattle.dasdl_grammar.proofs.SaidExact.{FollowsSaid}

place_is : (ts ls : List Lexeme) (l : Lexeme) → ts ≡ l ∷ ls → place_at ts ≡ l.place
place_is ts ls l e = ap place_at e

cond_decl_sound : (w : List ℕ) (ts : List Lexeme) (c : Condition) (rest : List Lexeme) → cond_decl_at w ts ≡ Ok (c, rest) → SpellsFirst (IsCondDecl w) ts c rest
unfolding cond_decl_at
cond_decl_sound w ts c rest h =
    let a = bind_ok (word_at w ts) _ _ h in
    let b = bind_ok (cond_at a.0) _ _ a.2 in
    let k = word_spelled w ts a.0 a.1 in
    let t = cond_sound a.0 b.0.0 b.0.1 b.1 in
    let few = cond_few a.0 b.0.0 b.0.1 b.1 in
    let is : IsCondDecl w (record { place = place_at ts; tree = b.0.0 }) (k.first ∷ t.used) = subst (λ (p : ℕ). IsCondDecl w (record { place = p; tree = b.0.0 }) (k.first ∷ t.used)) (sym (place_is ts a.0 k.first k.all)) (a_cond k.first b.0.0 t.used k.token t.is few) in
    subst (λ (x : Condition × List Lexeme). SpellsFirst (IsCondDecl w) ts x.0 x.1) (ok_same (record { place = place_at ts; tree = b.0.0 }, b.0.1) (c, rest) b.2)
    (k.first ∷ t.used, is, k.all ∙ ap (λ (xs : List Lexeme). k.first ∷ xs) t.all)

cond_decl_step : (w : List ℕ) (l : Lexeme) (vs rest : List Lexeme) (tree : WrittenTree) → is_word w (Word w) ≡ true → l.token ≡ Word w → cond_at (vs ++ rest) ≡ Ok (tree, rest) → cond_decl_at w (l ∷ (vs ++ rest)) ≡ Ok (record { place = l.place; tree = tree }, rest)
unfolding cond_decl_at
cond_decl_step w l vs rest tree t e f = rw (word_reads w l (vs ++ rest) t e, f) refl

pub cond_decl_reads : (w : List ℕ) → is_word w (Word w) ≡ true → (c : Condition) (us : List Lexeme) → IsCondDecl w c us → (rest : List Lexeme) → FollowsSaid rest → cond_decl_at w (us ++ rest) ≡ Ok (c, rest)
cond_decl_reads w t _ _ (a_cond l tree vs e d few) rest f = cond_decl_step w l vs rest tree t e (cond_complete vs rest tree d few f.no_and f.no_or)

key_decl_sound : (ts : List Lexeme) (k : KeyDecl) (rest : List Lexeme) → key_at ts ≡ Ok (k, rest) → SpellsFirst IsKeyDecl ts k rest
unfolding key_at
key_decl_sound ts k rest h =
    let a = bind_ok (word_at (codes "KEY") ts) _ _ h in
    let b = bind_ok (word_at (codes "IS") a.0) _ _ a.2 in
    let c = bind_ok (parts_at b.0) _ _ b.2 in
    let l = word_spelled (codes "KEY") ts a.0 a.1 in
    let m = word_spelled (codes "IS") a.0 b.0 b.1 in
    let p = key_sound b.0 c.0.0 c.0.1 c.1 in
    let is : IsKeyDecl (record { place = place_at ts; parts = c.0.0 }) (l.first ∷ (m.first ∷ p.0.used)) = subst (λ (q : ℕ). IsKeyDecl (record { place = q; parts = c.0.0 }) (l.first ∷ (m.first ∷ p.0.used))) (sym (place_is ts a.0 l.first l.all)) (a_key l.first m.first c.0.0 p.0.used l.token m.token p.0.is p.1) in
    subst (λ (x : KeyDecl × List Lexeme). SpellsFirst IsKeyDecl ts x.0 x.1) (ok_same (record { place = place_at ts; parts = c.0.0 }, c.0.1) (k, rest) c.2)
    (l.first ∷ (m.first ∷ p.0.used), is, l.all ∙ ap (λ (xs : List Lexeme). l.first ∷ xs) (m.all ∙ ap (λ (xs : List Lexeme). m.first ∷ xs) p.0.all))

key_decl_step : (l m : Lexeme) (vs rest : List Lexeme) (parts : List PartDecl) → l.token ≡ Word (codes "KEY") → m.token ≡ Word (codes "IS") → parts_at (vs ++ rest) ≡ Ok (parts, rest) → key_at (l ∷ (m ∷ (vs ++ rest))) ≡ Ok (record { place = l.place; parts = parts }, rest)
unfolding key_at
key_decl_step l m vs rest parts e f g = rw (word_reads (codes "KEY") l (m ∷ (vs ++ rest)) refl e, word_reads (codes "IS") m (vs ++ rest) refl f, g) refl

pub key_decl_reads : (k : KeyDecl) (us : List Lexeme) → IsKeyDecl k us → (rest : List Lexeme) → FollowsSaid rest → key_at (us ++ rest) ≡ Ok (k, rest)
key_decl_reads _ _ (a_key l m parts vs e f d few) rest g = key_decl_step l m vs rest parts e f (key_complete vs rest parts d few g.no_up g.no_down)

population_sound : (ts : List Lexeme) (n : ℕ) (rest : List Lexeme) → population_at ts ≡ Ok (n, rest) → Reads IsPopulation ts n rest
unfolding population_at
population_sound ts n rest h =
    let a = bind_ok (word_at (codes "POPULATION") ts) _ _ h in
    let b = bind_ok (equal_at a.0) _ _ a.2 in
    let k = word_spelled (codes "POPULATION") ts a.0 a.1 in
    let e = equal_spelled a.0 b.0 b.1 in
    let m = number_spelled 1 1000000 b.0 n rest b.2 in
    record { used = k.first ∷ e.first ∷ m.is.first ∷ []; is = rw (k.token, e.token, m.is.token) (a_population n m.least m.most); all = k.all ∙ ap (λ (xs : List Lexeme). k.first ∷ xs) (e.all ∙ ap (λ (xs : List Lexeme). e.first ∷ xs) m.is.all) }

population_step : (k e l : Lexeme) (rest : List Lexeme) (n : ℕ) → k.token ≡ Word (codes "POPULATION") → e.token ≡ Compare Equal → l.token ≡ Number n → 1 ≤ n → n ≤ 1000000 → population_at (k ∷ e ∷ l ∷ rest) ≡ Ok (n, rest)
unfolding population_at equal_at
population_step k e l rest n a b c d f = rw (word_reads (codes "POPULATION") k (e ∷ l ∷ rest) refl a, b, number_reads 1 1000000 l rest n c d f) refl

pub population_reads : (n : ℕ) (xs : List Token) → IsPopulation n xs → (us rest : List Lexeme) → map token_of us ≡ xs → population_at (us ++ rest) ≡ Ok (n, rest)
population_reads _ _ (a_population n a b) us rest e =
    let k = heads us (Word (codes "POPULATION")) (Compare Equal ∷ (Number n ∷ [])) e in
    let l = heads k.b (Compare Equal) (Number n ∷ []) k.back in
    let m = heads l.b (Number n) [] l.back in
    let same : us ≡ k.l ∷ l.l ∷ m.l ∷ [] = k.all ∙ ap (λ (vs : List Lexeme). k.l ∷ vs) (l.all ∙ ap (λ (vs : List Lexeme). l.l ∷ vs) (m.all ∙ ap (λ (vs : List Lexeme). m.l ∷ vs) (none_left m.b m.back))) in
    rw same (population_step k.l l.l m.l rest n k.token l.token m.token a b)

duplicates_sound : (ts : List Lexeme) (d : Bool) (rest : List Lexeme) → duplicates_at ts ≡ Ok (d, rest) → Reads IsDuplicates ts d rest
unfolding duplicates_at
duplicates_sound ts d rest h =
    pick {A = Bool × List Lexeme} (starts (is_word (codes "DUPLICATES")) ts) _ _ (d, rest)
    (λ e.
    let a = bind_ok (word_at (codes "DUPLICATES") ts) _ _ e in
    let k = word_spelled (codes "DUPLICATES") ts a.0 a.1 in
    subst (λ (x : Bool × List Lexeme). Reads IsDuplicates ts x.0 x.1) (ok_same (true, a.0) (d, rest) a.2) (record { used = k.first ∷ []; is = rw k.token allowed; all = k.all }))
    (λ e.
    let a = bind_ok (word_at (codes "NO") ts) _ _ e in
    let b = bind_ok (word_at (codes "DUPLICATES") a.0) _ _ a.2 in
    let k = word_spelled (codes "NO") ts a.0 a.1 in
    let l = word_spelled (codes "DUPLICATES") a.0 b.0 b.1 in
    subst (λ (x : Bool × List Lexeme). Reads IsDuplicates ts x.0 x.1) (ok_same (false, b.0) (d, rest) b.2) (record { used = k.first ∷ l.first ∷ []; is = rw (k.token, l.token) not_allowed; all = k.all ∙ ap (λ (xs : List Lexeme). k.first ∷ xs) l.all })) h

form_sound : (ts : List Lexeme) (f : SetForm) (rest : List Lexeme) → form_at ts ≡ Ok (f, rest) → Reads IsForm ts f rest
unfolding form_at
form_sound ts f rest h =
    pick {A = SetForm × List Lexeme} (starts (is_word (codes "INDEX")) ts) _ _ (f, rest)
    (λ e.
    let a = bind_ok (word_at (codes "INDEX") ts) _ _ e in
    let b = bind_ok (word_at (codes "SEQUENTIAL") a.0) _ _ a.2 in
    let k = word_spelled (codes "INDEX") ts a.0 a.1 in
    let l = word_spelled (codes "SEQUENTIAL") a.0 b.0 b.1 in
    subst (λ (x : SetForm × List Lexeme). Reads IsForm ts x.0 x.1) (ok_same (IndexSequential, b.0) (f, rest) b.2) (record { used = k.first ∷ l.first ∷ []; is = rw (k.token, l.token) a_tree; all = k.all ∙ ap (λ (xs : List Lexeme). k.first ∷ xs) l.all }))
    (λ e.
    let a = bind_ok (word_at (codes "ORDERED") ts) _ _ e in
    let b = bind_ok (word_at (codes "LIST") a.0) _ _ a.2 in
    let k = word_spelled (codes "ORDERED") ts a.0 a.1 in
    let l = word_spelled (codes "LIST") a.0 b.0 b.1 in
    subst (λ (x : SetForm × List Lexeme). Reads IsForm ts x.0 x.1) (ok_same (OrderedList, b.0) (f, rest) b.2) (record { used = k.first ∷ l.first ∷ []; is = rw (k.token, l.token) a_list; all = k.all ∙ ap (λ (xs : List Lexeme). k.first ∷ xs) l.all })) h

plain_sound : (s t : SetOptions) (ts rest : List Lexeme) → plain_option_at s ts ≡ Ok (t, rest) → SpellsFirst (SetOption s) ts t rest
unfolding plain_option_at
plain_sound s t ts rest h =
    both_pick {A = SetOptions × List Lexeme} (starts_duplicates ts) (is_none s.duplicates) _ _ (t, rest)
    (λ n e.
    let a = bind_ok (duplicates_at ts) _ _ e in
    let d = duplicates_sound ts a.0.0 a.0.1 a.1 in
    let o : SetOption s (record { cond = s.cond; key = s.key; duplicates = Some a.0.0; form = s.form; population = s.population }) d.used = subst (λ (x : Option Bool). SetOption (record { cond = s.cond; key = s.key; duplicates = x; form = s.form; population = s.population }) (record { cond = s.cond; key = s.key; duplicates = Some a.0.0; form = s.form; population = s.population }) d.used) (sym (none_is s.duplicates n)) (says_duplicates s.cond s.key s.form s.population a.0.0 d.used d.is) in
    subst (λ (x : SetOptions × List Lexeme). SpellsFirst (SetOption s) ts x.0 x.1) (ok_same (record { cond = s.cond; key = s.key; duplicates = Some a.0.0; form = s.form; population = s.population }, a.0.1) (t, rest) a.2) (d.used, o, d.all))
    (both_pick {A = SetOptions × List Lexeme} (starts_form ts) (is_none s.form) _ _ (t, rest)
    (λ n e.
    let a = bind_ok (form_at ts) _ _ e in
    let d = form_sound ts a.0.0 a.0.1 a.1 in
    let o : SetOption s (record { cond = s.cond; key = s.key; duplicates = s.duplicates; form = Some a.0.0; population = s.population }) d.used = subst (λ (x : Option SetForm). SetOption (record { cond = s.cond; key = s.key; duplicates = s.duplicates; form = x; population = s.population }) (record { cond = s.cond; key = s.key; duplicates = s.duplicates; form = Some a.0.0; population = s.population }) d.used) (sym (none_is s.form n)) (says_form s.cond s.key s.duplicates s.population a.0.0 d.used d.is) in
    subst (λ (x : SetOptions × List Lexeme). SpellsFirst (SetOption s) ts x.0 x.1) (ok_same (record { cond = s.cond; key = s.key; duplicates = s.duplicates; form = Some a.0.0; population = s.population }, a.0.1) (t, rest) a.2) (d.used, o, d.all))
    (both_pick {A = SetOptions × List Lexeme} (starts (is_word (codes "POPULATION")) ts) (is_none s.population) _ _ (t, rest)
    (λ n e.
    let a = bind_ok (population_at ts) _ _ e in
    let d = population_sound ts a.0.0 a.0.1 a.1 in
    let o : SetOption s (record { cond = s.cond; key = s.key; duplicates = s.duplicates; form = s.form; population = Some a.0.0 }) d.used = subst (λ (x : Option ℕ). SetOption (record { cond = s.cond; key = s.key; duplicates = s.duplicates; form = s.form; population = x }) (record { cond = s.cond; key = s.key; duplicates = s.duplicates; form = s.form; population = Some a.0.0 }) d.used) (sym (none_is s.population n)) (says_population s.cond s.key s.duplicates s.form a.0.0 d.used d.is) in
    subst (λ (x : SetOptions × List Lexeme). SpellsFirst (SetOption s) ts x.0 x.1) (ok_same (record { cond = s.cond; key = s.key; duplicates = s.duplicates; form = s.form; population = Some a.0.0 }, a.0.1) (t, rest) a.2) (d.used, o, d.all))
    (λ e. absurd (cc)))) h

pub set_option_sound : (s t : SetOptions) (ts rest : List Lexeme) → set_option_at s ts ≡ Ok (t, rest) → SpellsFirst (SetOption s) ts t rest
unfolding set_option_at
set_option_sound s t ts rest h =
    both_pick {A = SetOptions × List Lexeme} (starts (is_word (codes "WHERE")) ts) (is_none s.cond) _ _ (t, rest)
    (λ n e.
    let a = bind_ok (cond_decl_at (codes "WHERE") ts) _ _ e in
    let d = cond_decl_sound (codes "WHERE") ts a.0.0 a.0.1 a.1 in
    let o : SetOption s (record { cond = Some a.0.0; key = s.key; duplicates = s.duplicates; form = s.form; population = s.population }) d.0 = subst (λ (x : Option Condition). SetOption (record { cond = x; key = s.key; duplicates = s.duplicates; form = s.form; population = s.population }) (record { cond = Some a.0.0; key = s.key; duplicates = s.duplicates; form = s.form; population = s.population }) d.0) (sym (none_is s.cond n)) (says_where s.key s.duplicates s.form s.population a.0.0 d.0 d.1) in
    subst (λ (x : SetOptions × List Lexeme). SpellsFirst (SetOption s) ts x.0 x.1) (ok_same (record { cond = Some a.0.0; key = s.key; duplicates = s.duplicates; form = s.form; population = s.population }, a.0.1) (t, rest) a.2) (d.0, o, d.2))
    (both_pick {A = SetOptions × List Lexeme} (starts (is_word (codes "KEY")) ts) (is_none s.key) _ _ (t, rest)
    (λ n e.
    let a = bind_ok (key_at ts) _ _ e in
    let d = key_decl_sound ts a.0.0 a.0.1 a.1 in
    let o : SetOption s (record { cond = s.cond; key = Some a.0.0; duplicates = s.duplicates; form = s.form; population = s.population }) d.0 = subst (λ (x : Option KeyDecl). SetOption (record { cond = s.cond; key = x; duplicates = s.duplicates; form = s.form; population = s.population }) (record { cond = s.cond; key = Some a.0.0; duplicates = s.duplicates; form = s.form; population = s.population }) d.0) (sym (none_is s.key n)) (says_key s.cond s.duplicates s.form s.population a.0.0 d.0 d.1) in
    subst (λ (x : SetOptions × List Lexeme). SpellsFirst (SetOption s) ts x.0 x.1) (ok_same (record { cond = s.cond; key = Some a.0.0; duplicates = s.duplicates; form = s.form; population = s.population }, a.0.1) (t, rest) a.2) (d.0, o, d.2))
    (plain_sound s t ts rest)) h

pub data_set_option_sound : (s t : DataSetOptions) (ts rest : List Lexeme) → data_set_option_at s ts ≡ Ok (t, rest) → SpellsFirst (DataSetOption s) ts t rest
unfolding data_set_option_at
data_set_option_sound s t ts rest h =
    both_pick {A = DataSetOptions × List Lexeme} (starts (is_word (codes "VERIFY")) ts) (is_none s.verify) _ _ (t, rest)
    (λ n e.
    let a = bind_ok (cond_decl_at (codes "VERIFY") ts) _ _ e in
    let d = cond_decl_sound (codes "VERIFY") ts a.0.0 a.0.1 a.1 in
    let o : DataSetOption s (record { verify = Some a.0.0; population = s.population }) d.0 = subst (λ (x : Option Condition). DataSetOption (record { verify = x; population = s.population }) (record { verify = Some a.0.0; population = s.population }) d.0) (sym (none_is s.verify n)) (says_verify s.population a.0.0 d.0 d.1) in
    subst (λ (x : DataSetOptions × List Lexeme). SpellsFirst (DataSetOption s) ts x.0 x.1) (ok_same (record { verify = Some a.0.0; population = s.population }, a.0.1) (t, rest) a.2) (d.0, o, d.2))
    (both_pick {A = DataSetOptions × List Lexeme} (starts (is_word (codes "POPULATION")) ts) (is_none s.population) _ _ (t, rest)
    (λ n e.
    let a = bind_ok (population_at ts) _ _ e in
    let d = population_sound ts a.0.0 a.0.1 a.1 in
    let o : DataSetOption s (record { verify = s.verify; population = Some a.0.0 }) d.used = subst (λ (x : Option ℕ). DataSetOption (record { verify = s.verify; population = x }) (record { verify = s.verify; population = Some a.0.0 }) d.used) (sym (none_is s.population n)) (says_its_population s.verify a.0.0 d.used d.is) in
    subst (λ (x : DataSetOptions × List Lexeme). SpellsFirst (DataSetOption s) ts x.0 x.1) (ok_same (record { verify = s.verify; population = Some a.0.0 }, a.0.1) (t, rest) a.2) (d.used, o, d.all))
    (λ e. absurd (cc))) h
