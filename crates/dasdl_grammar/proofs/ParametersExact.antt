-- PARAMETERS and AUDIT TRAIL are read exactly.
use Rattle.std.proofs.Common.{◌≡◌, ◌≤◌, ℕ, List, [], ◌∷◌, ◌++◌, map, length-append, Bool, true, false, refl, sym, ap, ◌∙◌, subst, arith, append_assoc}
use Rattle.std.proofs.lemmas.List.{map-append}
use Rattle.std.specs.Prelude.{codes, Some, None, is_none}
use Rattle.std.specs.declared.option.Option.{Option}
use Rattle.std.specs.declared.result.Result.TheVariants.{Ok}
use Rattle.dms_base.specs.declared.op.Op.TheVariants.{Equal}
use Rattle.dms_tokens.specs.declared.token.Token.{Token}
use Rattle.dms_tokens.specs.declared.token.Token.TheVariants.{Word, Number, Sign, Compare}
use Rattle.dms_tokens.specs.declared.token.Lexeme.{Lexeme}
use Rattle.dasdl_parse.specs.declared.parameters.ParameterPairs.{ParameterPairs}
use Rattle.dasdl_parse.specs.declared.parameters.AuditPairs.{AuditPairs}
use Rattle.dasdl_phrases.specs.Reads.{◌>>=◌, Read}
use Rattle.dms_tokens.specs.Cursors.{starts, is_word}
use Rattle.dasdl_phrases.specs.Cursors.{word_at, sign_at, equal_at, turns_at, until_close}
use Rattle.dasdl_parse.specs.Parameters.{no_pairs, no_audit_pairs, setting_at, measure_at, pair_at, next_pair_at, parameters_at, audit_pair_at, next_audit_pair_at, audit_at}
use Rattle.dasdl_phrases.specs.CondSpelling.{token_of, Reads}
use Rattle.dasdl_grammar.specs.ParameterSpelling.{ArePairs, measure, setting, IsPair, IsAuditPair, AreParameters, IsTrail}
use Rattle.dasdl_grammar.specs.ParameterSpelling.ArePairs.{first_pair, next_pair}
use Rattle.dasdl_grammar.specs.ParameterSpelling.IsPair.{says_syncpoint, says_controlpoint, says_buffers}
use Rattle.dasdl_grammar.specs.ParameterSpelling.IsAuditPair.{says_blocks, says_files}
use Rattle.dasdl_grammar.specs.ParameterSpelling.AreParameters.{parameters}
use Rattle.dasdl_grammar.specs.ParameterSpelling.IsTrail.{trail}
use Rattle.dasdl_phrases.proofs.Inverting.{bind_ok, ok_same}
use Rattle.dasdl_phrases.proofs.SpelledTokens.{word_spelled, sign_spelled, equal_spelled}
use Rattle.dasdl_phrases.proofs.TurnsSound.{GoesTurn, turns_at-goes}
use Rattle.dasdl_phrases.proofs.CondComplete.{RunsBranches, joins, turns_at-runs, splits, heads, none_left, word_reads, sign_reads}
use Rattle.dasdl_phrases.proofs.CondComplete.RunsBranches.{here, step}
use Rattle.dasdl_phrases.proofs.KindExact.{number_spelled, number_reads}
use Rattle.dasdl_parse.proofs.ItemOptionsExact.{both_pick, none_is}

-- a number in its range behind a word
record SettingSpelled (word : List ℕ) (low high n : ℕ) (xs : List Token) (ts rest : List Lexeme) : Type 0 where
  used : List Lexeme
  is : map token_of used ≡ xs
  all : ts ≡ used ++ rest
  least : low ≤ n
  most : n ≤ high

setting_sound : (word : List ℕ) (low high : ℕ) (ts : List Lexeme) (n : ℕ) (rest : List Lexeme) → setting_at word low high ts ≡ Ok (n, rest) → SettingSpelled word low high n (setting word n) ts rest
unfolding setting_at
setting_sound word low high ts n rest h =
    let a = bind_ok (word_at word ts) _ _ h in
    let b = bind_ok (equal_at a.0) _ _ a.2 in
    let k = word_spelled word ts a.0 a.1 in
    let e = equal_spelled a.0 b.0 b.1 in
    let m = number_spelled low high b.0 n rest b.2 in
    record { used = k.first ∷ (e.first ∷ (m.is.first ∷ [])); is = rw (k.token, e.token, m.is.token) refl; all = k.all ∙ ap (λ (xs : List Lexeme). k.first ∷ xs) (e.all ∙ ap (λ (xs : List Lexeme). e.first ∷ xs) m.is.all); least = m.least; most = m.most }

measure_sound : (word unit : List ℕ) (low high : ℕ) (ts : List Lexeme) (n : ℕ) (rest : List Lexeme) → measure_at word low high unit ts ≡ Ok (n, rest) → SettingSpelled word low high n (measure word n unit) ts rest
unfolding measure_at
measure_sound word unit low high ts n rest h =
    let a = bind_ok (setting_at word low high ts) _ _ h in
    let b = bind_ok (word_at unit a.0.1) _ _ a.2 in
    let s = setting_sound word low high ts a.0.0 a.0.1 a.1 in
    let u = word_spelled unit a.0.1 b.0 b.1 in
    subst (λ (x : ℕ × List Lexeme). SettingSpelled word low high x.0 (measure word x.0 unit) ts x.1) (ok_same (a.0.0, b.0) (n, rest) b.2)
    (record { used = s.used ++ (u.first ∷ []); is = rw (map-append token_of s.used (u.first ∷ []), s.is, u.token) refl; all = s.all ∙ ap (λ (xs : List Lexeme). s.used ++ xs) u.all ∙ sym (append_assoc s.used (u.first ∷ []) b.0); least = s.least; most = s.most })

setting_step : (word : List ℕ) (low high n : ℕ) (k e l : Lexeme) (rest : List Lexeme) → is_word word (Word word) ≡ true → k.token ≡ Word word → e.token ≡ Compare Equal → l.token ≡ Number n → low ≤ n → n ≤ high → setting_at word low high (k ∷ (e ∷ (l ∷ rest))) ≡ Ok (n, rest)
unfolding setting_at equal_at
setting_step word low high n k e l rest t a b c d f = rw (word_reads word k (e ∷ (l ∷ rest)) t a, b, number_reads low high l rest n c d f) refl

measure_step : (word unit : List ℕ) (low high n : ℕ) (k e l u : Lexeme) (rest : List Lexeme) → is_word word (Word word) ≡ true → is_word unit (Word unit) ≡ true → k.token ≡ Word word → e.token ≡ Compare Equal → l.token ≡ Number n → u.token ≡ Word unit → low ≤ n → n ≤ high → measure_at word low high unit (k ∷ (e ∷ (l ∷ (u ∷ rest)))) ≡ Ok (n, rest)
unfolding measure_at
measure_step word unit low high n k e l u rest t v a b c g d f = rw (setting_step word low high n k e l (u ∷ rest) t a b c d f, word_reads unit u rest v g) refl

-- three lexemes, or four
record Three (us : List Lexeme) (x y z : Token) : Type 0 where
  k : Lexeme
  e : Lexeme
  l : Lexeme
  all : us ≡ k ∷ (e ∷ (l ∷ []))
  first : k.token ≡ x
  second : e.token ≡ y
  third : l.token ≡ z

three : (us : List Lexeme) (x y z : Token) → map token_of us ≡ x ∷ (y ∷ (z ∷ [])) → Three us x y z
three us x y z h =
    let a = heads us x (y ∷ (z ∷ [])) h in
    let b = heads a.b y (z ∷ []) a.back in
    let c = heads b.b z [] b.back in
    record { k = a.l; e = b.l; l = c.l; all = a.all ∙ ap (λ (vs : List Lexeme). a.l ∷ vs) (b.all ∙ ap (λ (vs : List Lexeme). b.l ∷ vs) (c.all ∙ ap (λ (vs : List Lexeme). c.l ∷ vs) (none_left c.b c.back))); first = a.token; second = b.token; third = c.token }

record Four (us : List Lexeme) (x y z w : Token) : Type 0 where
  k : Lexeme
  e : Lexeme
  l : Lexeme
  u : Lexeme
  all : us ≡ k ∷ (e ∷ (l ∷ (u ∷ [])))
  first : k.token ≡ x
  second : e.token ≡ y
  third : l.token ≡ z
  fourth : u.token ≡ w

four : (us : List Lexeme) (x y z w : Token) → map token_of us ≡ x ∷ (y ∷ (z ∷ (w ∷ []))) → Four us x y z w
four us x y z w h =
    let a = heads us x (y ∷ (z ∷ (w ∷ []))) h in
    let b = three a.b y z w a.back in
    record { k = a.l; e = b.k; l = b.e; u = b.l; all = a.all ∙ ap (λ (vs : List Lexeme). a.l ∷ vs) b.all; first = a.token; second = b.first; third = b.second; fourth = b.third }

pair_sound : (s t : ParameterPairs) (ts rest : List Lexeme) → pair_at s ts ≡ Ok (t, rest) → Reads (IsPair s) ts t rest
unfolding pair_at
pair_sound s t ts rest h =
    both_pick {A = ParameterPairs × List Lexeme} (starts (is_word (codes "SYNCPOINT")) ts) (is_none s.syncpoint) _ _ (t, rest)
    (λ n e.
    let a = bind_ok (measure_at (codes "SYNCPOINT") 1 10000 (codes "TRANSACTIONS") ts) _ _ e in
    let m = measure_sound (codes "SYNCPOINT") (codes "TRANSACTIONS") 1 10000 ts a.0.0 a.0.1 a.1 in
    let o : IsPair s (record { syncpoint = Some a.0.0; controlpoint = s.controlpoint; buffers = s.buffers }) (measure (codes "SYNCPOINT") a.0.0 (codes "TRANSACTIONS")) = subst (λ (x : Option ℕ). IsPair (record { syncpoint = x; controlpoint = s.controlpoint; buffers = s.buffers }) (record { syncpoint = Some a.0.0; controlpoint = s.controlpoint; buffers = s.buffers }) (measure (codes "SYNCPOINT") a.0.0 (codes "TRANSACTIONS"))) (sym (none_is s.syncpoint n)) (says_syncpoint s.controlpoint s.buffers a.0.0 m.least m.most) in
    subst (λ (x : ParameterPairs × List Lexeme). Reads (IsPair s) ts x.0 x.1) (ok_same (record { syncpoint = Some a.0.0; controlpoint = s.controlpoint; buffers = s.buffers }, a.0.1) (t, rest) a.2) (record { used = m.used; is = rw m.is o; all = m.all }))
    (both_pick {A = ParameterPairs × List Lexeme} (starts (is_word (codes "CONTROLPOINT")) ts) (is_none s.controlpoint) _ _ (t, rest)
    (λ n e.
    let a = bind_ok (measure_at (codes "CONTROLPOINT") 1 10000 (codes "SYNCPOINTS") ts) _ _ e in
    let m = measure_sound (codes "CONTROLPOINT") (codes "SYNCPOINTS") 1 10000 ts a.0.0 a.0.1 a.1 in
    let o : IsPair s (record { syncpoint = s.syncpoint; controlpoint = Some a.0.0; buffers = s.buffers }) (measure (codes "CONTROLPOINT") a.0.0 (codes "SYNCPOINTS")) = subst (λ (x : Option ℕ). IsPair (record { syncpoint = s.syncpoint; controlpoint = x; buffers = s.buffers }) (record { syncpoint = s.syncpoint; controlpoint = Some a.0.0; buffers = s.buffers }) (measure (codes "CONTROLPOINT") a.0.0 (codes "SYNCPOINTS"))) (sym (none_is s.controlpoint n)) (says_controlpoint s.syncpoint s.buffers a.0.0 m.least m.most) in
    subst (λ (x : ParameterPairs × List Lexeme). Reads (IsPair s) ts x.0 x.1) (ok_same (record { syncpoint = s.syncpoint; controlpoint = Some a.0.0; buffers = s.buffers }, a.0.1) (t, rest) a.2) (record { used = m.used; is = rw m.is o; all = m.all }))
    (both_pick {A = ParameterPairs × List Lexeme} (starts (is_word (codes "BUFFERS")) ts) (is_none s.buffers) _ _ (t, rest)
    (λ n e.
    let a = bind_ok (measure_at (codes "BUFFERS") 8 4096 (codes "BLOCKS") ts) _ _ e in
    let m = measure_sound (codes "BUFFERS") (codes "BLOCKS") 8 4096 ts a.0.0 a.0.1 a.1 in
    let o : IsPair s (record { syncpoint = s.syncpoint; controlpoint = s.controlpoint; buffers = Some a.0.0 }) (measure (codes "BUFFERS") a.0.0 (codes "BLOCKS")) = subst (λ (x : Option ℕ). IsPair (record { syncpoint = s.syncpoint; controlpoint = s.controlpoint; buffers = x }) (record { syncpoint = s.syncpoint; controlpoint = s.controlpoint; buffers = Some a.0.0 }) (measure (codes "BUFFERS") a.0.0 (codes "BLOCKS"))) (sym (none_is s.buffers n)) (says_buffers s.syncpoint s.controlpoint a.0.0 m.least m.most) in
    subst (λ (x : ParameterPairs × List Lexeme). Reads (IsPair s) ts x.0 x.1) (ok_same (record { syncpoint = s.syncpoint; controlpoint = s.controlpoint; buffers = Some a.0.0 }, a.0.1) (t, rest) a.2) (record { used = m.used; is = rw m.is o; all = m.all }))
    (λ e. absurd (cc)))) h

sync_step : (c b : Option ℕ) (n : ℕ) (ts rest : List Lexeme) → starts (is_word (codes "SYNCPOINT")) ts ≡ true → measure_at (codes "SYNCPOINT") 1 10000 (codes "TRANSACTIONS") ts ≡ Ok (n, rest) → pair_at (record { syncpoint = None; controlpoint = c; buffers = b }) ts ≡ Ok (record { syncpoint = Some n; controlpoint = c; buffers = b }, rest)
unfolding pair_at
sync_step c b n ts rest p h = rw (p, h) refl

control_step : (s b : Option ℕ) (n : ℕ) (ts rest : List Lexeme) → starts (is_word (codes "SYNCPOINT")) ts ≡ false → starts (is_word (codes "CONTROLPOINT")) ts ≡ true → measure_at (codes "CONTROLPOINT") 1 10000 (codes "SYNCPOINTS") ts ≡ Ok (n, rest) → pair_at (record { syncpoint = s; controlpoint = None; buffers = b }) ts ≡ Ok (record { syncpoint = s; controlpoint = Some n; buffers = b }, rest)
unfolding pair_at
control_step s b n ts rest p q h = rw (p, q, h) refl

buffers_step : (s c : Option ℕ) (n : ℕ) (ts rest : List Lexeme) → starts (is_word (codes "SYNCPOINT")) ts ≡ false → starts (is_word (codes "CONTROLPOINT")) ts ≡ false → starts (is_word (codes "BUFFERS")) ts ≡ true → measure_at (codes "BUFFERS") 8 4096 (codes "BLOCKS") ts ≡ Ok (n, rest) → pair_at (record { syncpoint = s; controlpoint = c; buffers = None }) ts ≡ Ok (record { syncpoint = s; controlpoint = c; buffers = Some n }, rest)
unfolding pair_at
buffers_step s c n ts rest p q r h = rw (p, q, r, h) refl

begins : (w v : List ℕ) (b : Bool) (k : Lexeme) (ts : List Lexeme) → k.token ≡ Word v → is_word w (Word v) ≡ b → starts (is_word w) (k ∷ ts) ≡ b
begins w v b k ts e h = rw e h

pair_complete : (s t : ParameterPairs) (xs : List Token) → IsPair s t xs → (us rest : List Lexeme) → map token_of us ≡ xs → pair_at s (us ++ rest) ≡ Ok (t, rest)
pair_complete _ _ _ (says_syncpoint c b n low high) us rest e =
    let f = four us _ _ _ _ e in
    rw f.all (sync_step c b n (f.k ∷ (f.e ∷ (f.l ∷ (f.u ∷ rest)))) rest (begins (codes "SYNCPOINT") (codes "SYNCPOINT") true f.k (f.e ∷ (f.l ∷ (f.u ∷ rest))) f.first refl) (measure_step (codes "SYNCPOINT") (codes "TRANSACTIONS") 1 10000 n f.k f.e f.l f.u rest refl refl f.first f.second f.third f.fourth low high))
pair_complete _ _ _ (says_controlpoint s b n low high) us rest e =
    let f = four us _ _ _ _ e in
    rw f.all (control_step s b n (f.k ∷ (f.e ∷ (f.l ∷ (f.u ∷ rest)))) rest (begins (codes "SYNCPOINT") (codes "CONTROLPOINT") false f.k (f.e ∷ (f.l ∷ (f.u ∷ rest))) f.first refl) (begins (codes "CONTROLPOINT") (codes "CONTROLPOINT") true f.k (f.e ∷ (f.l ∷ (f.u ∷ rest))) f.first refl) (measure_step (codes "CONTROLPOINT") (codes "SYNCPOINTS") 1 10000 n f.k f.e f.l f.u rest refl refl f.first f.second f.third f.fourth low high))
pair_complete _ _ _ (says_buffers s c n low high) us rest e =
    let f = four us _ _ _ _ e in
    rw f.all (buffers_step s c n (f.k ∷ (f.e ∷ (f.l ∷ (f.u ∷ rest)))) rest (begins (codes "SYNCPOINT") (codes "BUFFERS") false f.k (f.e ∷ (f.l ∷ (f.u ∷ rest))) f.first refl) (begins (codes "CONTROLPOINT") (codes "BUFFERS") false f.k (f.e ∷ (f.l ∷ (f.u ∷ rest))) f.first refl) (begins (codes "BUFFERS") (codes "BUFFERS") true f.k (f.e ∷ (f.l ∷ (f.u ∷ rest))) f.first refl) (measure_step (codes "BUFFERS") (codes "BLOCKS") 8 4096 n f.k f.e f.l f.u rest refl refl f.first f.second f.third f.fourth low high))

audit_pair_sound : (s t : AuditPairs) (ts rest : List Lexeme) → audit_pair_at s ts ≡ Ok (t, rest) → Reads (IsAuditPair s) ts t rest
unfolding audit_pair_at
audit_pair_sound s t ts rest h =
    both_pick {A = AuditPairs × List Lexeme} (starts (is_word (codes "BLOCKS")) ts) (is_none s.blocks) _ _ (t, rest)
    (λ n e.
    let a = bind_ok (setting_at (codes "BLOCKS") 8 512 ts) _ _ e in
    let m = setting_sound (codes "BLOCKS") 8 512 ts a.0.0 a.0.1 a.1 in
    let o : IsAuditPair s (record { blocks = Some a.0.0; files = s.files }) (setting (codes "BLOCKS") a.0.0) = subst (λ (x : Option ℕ). IsAuditPair (record { blocks = x; files = s.files }) (record { blocks = Some a.0.0; files = s.files }) (setting (codes "BLOCKS") a.0.0)) (sym (none_is s.blocks n)) (says_blocks s.files a.0.0 m.least m.most) in
    subst (λ (x : AuditPairs × List Lexeme). Reads (IsAuditPair s) ts x.0 x.1) (ok_same (record { blocks = Some a.0.0; files = s.files }, a.0.1) (t, rest) a.2) (record { used = m.used; is = rw m.is o; all = m.all }))
    (both_pick {A = AuditPairs × List Lexeme} (starts (is_word (codes "FILES")) ts) (is_none s.files) _ _ (t, rest)
    (λ n e.
    let a = bind_ok (setting_at (codes "FILES") 2 9999 ts) _ _ e in
    let m = setting_sound (codes "FILES") 2 9999 ts a.0.0 a.0.1 a.1 in
    let o : IsAuditPair s (record { blocks = s.blocks; files = Some a.0.0 }) (setting (codes "FILES") a.0.0) = subst (λ (x : Option ℕ). IsAuditPair (record { blocks = s.blocks; files = x }) (record { blocks = s.blocks; files = Some a.0.0 }) (setting (codes "FILES") a.0.0)) (sym (none_is s.files n)) (says_files s.blocks a.0.0 m.least m.most) in
    subst (λ (x : AuditPairs × List Lexeme). Reads (IsAuditPair s) ts x.0 x.1) (ok_same (record { blocks = s.blocks; files = Some a.0.0 }, a.0.1) (t, rest) a.2) (record { used = m.used; is = rw m.is o; all = m.all }))
    (λ e. absurd (cc))) h

blocks_step : (f : Option ℕ) (n : ℕ) (ts rest : List Lexeme) → starts (is_word (codes "BLOCKS")) ts ≡ true → setting_at (codes "BLOCKS") 8 512 ts ≡ Ok (n, rest) → audit_pair_at (record { blocks = None; files = f }) ts ≡ Ok (record { blocks = Some n; files = f }, rest)
unfolding audit_pair_at
blocks_step f n ts rest p h = rw (p, h) refl

files_step : (b : Option ℕ) (n : ℕ) (ts rest : List Lexeme) → starts (is_word (codes "BLOCKS")) ts ≡ false → starts (is_word (codes "FILES")) ts ≡ true → setting_at (codes "FILES") 2 9999 ts ≡ Ok (n, rest) → audit_pair_at (record { blocks = b; files = None }) ts ≡ Ok (record { blocks = b; files = Some n }, rest)
unfolding audit_pair_at
files_step b n ts rest p q h = rw (p, q, h) refl

audit_pair_complete : (s t : AuditPairs) (xs : List Token) → IsAuditPair s t xs → (us rest : List Lexeme) → map token_of us ≡ xs → audit_pair_at s (us ++ rest) ≡ Ok (t, rest)
audit_pair_complete _ _ _ (says_blocks o n low high) us rest e =
    let f = three us _ _ _ e in
    rw f.all (blocks_step o n (f.k ∷ (f.e ∷ (f.l ∷ rest))) rest (begins (codes "BLOCKS") (codes "BLOCKS") true f.k (f.e ∷ (f.l ∷ rest)) f.first refl) (setting_step (codes "BLOCKS") 8 512 n f.k f.e f.l rest refl f.first f.second f.third low high))
audit_pair_complete _ _ _ (says_files o n low high) us rest e =
    let f = three us _ _ _ e in
    rw f.all (files_step o n (f.k ∷ (f.e ∷ (f.l ∷ rest))) rest (begins (codes "BLOCKS") (codes "FILES") false f.k (f.e ∷ (f.l ∷ rest)) f.first refl) (begins (codes "FILES") (codes "FILES") true f.k (f.e ∷ (f.l ∷ rest)) f.first refl) (setting_step (codes "FILES") 2 9999 n f.k f.e f.l rest refl f.first f.second f.third low high))

-- pairs with commas between them
module _ {S : Type 0} (nothing : S) (pair : S → S → List Token → Type 0) (one next : S → List Lexeme → Read S) (is_next : (s : S) (ts : List Lexeme) → next s ts ≡ (sign_at 44 ts >>= λ ts1. one s ts1)) (is_sound : (s t : S) (ts rest : List Lexeme) → one s ts ≡ Ok (t, rest) → Reads (pair s) ts t rest) (is_complete : (s t : S) (xs : List Token) → pair s t xs → (us rest : List Lexeme) → map token_of us ≡ xs → one s (us ++ rest) ≡ Ok (t, rest)) where
  keeps : (s t : S) (toks : List Token) (ts rest : List Lexeme) → ArePairs nothing pair s toks → next s ts ≡ Ok (t, rest) → GoesTurn (ArePairs nothing pair) t toks ts rest
  keeps s t toks ts rest d h =
      let b = bind_ok (sign_at 44 ts) (λ (ts1 : List Lexeme). one s ts1) (t, rest) (sym (is_next s ts) ∙ h) in
      let k = sign_spelled 44 ts b.0 b.1 in
      let r = is_sound s t b.0 rest b.2 in
      record { used = k.first ∷ r.used; is = rw k.token (next_pair s t toks (map token_of r.used) d r.is); all = k.all ∙ ap (λ (xs : List Lexeme). k.first ∷ xs) r.all }

  list_sound : (ts : List Lexeme) (start t : S) (mid rest : List Lexeme) → one nothing ts ≡ Ok (start, mid) → turns_at until_close next start mid ≡ Ok (t, rest) → Reads (ArePairs nothing pair) ts t rest
  list_sound ts start t mid rest f h =
      let r = is_sound nothing start ts mid f in
      let g = turns_at-goes (ArePairs nothing pair) until_close next keeps start t (map token_of r.used) mid rest (first_pair start (map token_of r.used) r.is) h in
      record { used = r.used ++ g.used; is = rw (map-append token_of r.used g.used) g.is; all = r.all ∙ ap (λ (xs : List Lexeme). r.used ++ xs) g.all ∙ sym (append_assoc r.used g.used rest) }

  record ReadsList (t : S) (us rest : List Lexeme) : Type 0 where
    start : S
    mid : List Lexeme
    first : one nothing (us ++ rest) ≡ Ok (start, mid)
    others : RunsBranches until_close next start mid t rest

  list_runs : (t : S) (xs : List Token) → ArePairs nothing pair t xs → (us rest : List Lexeme) → map token_of us ≡ xs → ReadsList t us rest
  list_runs _ _ (first_pair t xs o) us rest e = record { start = t; mid = rest; first = is_complete nothing t xs o us rest e; others = here t rest }
  list_runs _ _ (next_pair s t xs ys d o) us rest e =
      let k = splits us xs (Sign 44 ∷ ys) e in
      let m = heads k.b (Sign 44) ys k.back in
      let before = list_runs s xs d k.a (m.l ∷ (m.b ++ rest)) k.front in
      let go : until_close s (m.l ∷ (m.b ++ rest)) ≡ false = rw m.token refl in
      let comma : sign_at 44 (m.l ∷ (m.b ++ rest)) ≡ Ok (m.b ++ rest) = sign_reads 44 m.l (m.b ++ rest) refl m.token in
      let n : next s (m.l ∷ (m.b ++ rest)) ≡ Ok (t, rest) = is_next s (m.l ∷ (m.b ++ rest)) ∙ rw comma (is_complete s t ys o m.b rest m.back) in
      let last = step s t t (m.l ∷ (m.b ++ rest)) rest rest go n (omega (arith, length-append m.b rest)) (here t rest) in
      let same : us ++ rest ≡ k.a ++ (m.l ∷ (m.b ++ rest)) = ap (λ (vs : List Lexeme). vs ++ rest) k.all ∙ append_assoc k.a k.b rest ∙ ap (λ (vs : List Lexeme). k.a ++ (vs ++ rest)) m.all in
      record { start = before.start; mid = before.mid; first = rw same before.first; others = joins until_close next before.start s t before.mid (m.l ∷ (m.b ++ rest)) rest before.others last }

next_is : (s : ParameterPairs) (ts : List Lexeme) → next_pair_at s ts ≡ (sign_at 44 ts >>= λ t1. pair_at s t1)
unfolding next_pair_at
next_is s ts = refl

next_audit_is : (s : AuditPairs) (ts : List Lexeme) → next_audit_pair_at s ts ≡ (sign_at 44 ts >>= λ t1. audit_pair_at s t1)
unfolding next_audit_pair_at
next_audit_is s ts = refl

closing : (r : List Lexeme) (y z : Lexeme) (rest : List Lexeme) → r ++ (y ∷ (z ∷ rest)) ≡ (r ++ (y ∷ (z ∷ []))) ++ rest
closing r y z rest = sym (append_assoc r (y ∷ (z ∷ [])) rest)

pub parameters_sound : (ts : List Lexeme) (said : ParameterPairs) (rest : List Lexeme) → parameters_at ts ≡ Ok (said, rest) → Reads AreParameters ts said rest
unfolding parameters_at
parameters_sound ts said rest h =
    let a = bind_ok (word_at (codes "PARAMETERS") ts) _ _ h in
    let b = bind_ok (sign_at 40 a.0) _ _ a.2 in
    let c = bind_ok (pair_at no_pairs b.0) _ _ b.2 in
    let d = bind_ok (turns_at until_close next_pair_at c.0.0 c.0.1) _ _ c.2 in
    let e = bind_ok (sign_at 41 d.0.1) _ _ d.2 in
    let f = bind_ok (sign_at 59 e.0) _ _ e.2 in
    let k = word_spelled (codes "PARAMETERS") ts a.0 a.1 in
    let o = sign_spelled 40 a.0 b.0 b.1 in
    let r = list_sound no_pairs IsPair pair_at next_pair_at next_is pair_sound pair_complete b.0 c.0.0 d.0.0 c.0.1 d.0.1 c.1 d.1 in
    let y = sign_spelled 41 d.0.1 e.0 e.1 in
    let z = sign_spelled 59 e.0 f.0 f.1 in
    let toks : map token_of (k.first ∷ (o.first ∷ (r.used ++ (y.first ∷ (z.first ∷ []))))) ≡ Word (codes "PARAMETERS") ∷ (Sign 40 ∷ (map token_of r.used ++ (Sign 41 ∷ (Sign 59 ∷ [])))) = rw (k.token, o.token, map-append token_of r.used (y.first ∷ (z.first ∷ [])), y.token, z.token) refl in
    let all : ts ≡ (k.first ∷ (o.first ∷ (r.used ++ (y.first ∷ (z.first ∷ []))))) ++ f.0 = k.all ∙ ap (λ (xs : List Lexeme). k.first ∷ xs) (o.all ∙ ap (λ (xs : List Lexeme). o.first ∷ xs) (r.all ∙ ap (λ (xs : List Lexeme). r.used ++ xs) (y.all ∙ ap (λ (xs : List Lexeme). y.first ∷ xs) z.all) ∙ closing r.used y.first z.first f.0)) in
    subst (λ (x : ParameterPairs × List Lexeme). Reads AreParameters ts x.0 x.1) (ok_same (d.0.0, f.0) (said, rest) f.2)
    (record { used = k.first ∷ (o.first ∷ (r.used ++ (y.first ∷ (z.first ∷ [])))); is = rw toks (parameters d.0.0 (map token_of r.used) r.is); all = all })

parameters_step : (k o y z : Lexeme) (ts mid rest : List Lexeme) (start said : ParameterPairs) → k.token ≡ Word (codes "PARAMETERS") → o.token ≡ Sign 40 → pair_at no_pairs ts ≡ Ok (start, mid) → turns_at until_close next_pair_at start mid ≡ Ok (said, y ∷ (z ∷ rest)) → y.token ≡ Sign 41 → z.token ≡ Sign 59 → parameters_at (k ∷ (o ∷ ts)) ≡ Ok (said, rest)
unfolding parameters_at
parameters_step k o y z ts mid rest start said a b f h c d = rw (word_reads (codes "PARAMETERS") k (o ∷ ts) refl a, sign_reads 40 o ts refl b, f, h, sign_reads 41 y (z ∷ rest) refl c, sign_reads 59 z rest refl d) refl

parameters_read : (said : ParameterPairs) (ws : List Token) → AreParameters said ws → (us rest : List Lexeme) → map token_of us ≡ ws → parameters_at (us ++ rest) ≡ Ok (said, rest)
parameters_read _ _ (parameters said xs d) us rest e =
    let k = heads us (Word (codes "PARAMETERS")) (Sign 40 ∷ (xs ++ (Sign 41 ∷ (Sign 59 ∷ [])))) e in
    let o = heads k.b (Sign 40) (xs ++ (Sign 41 ∷ (Sign 59 ∷ []))) k.back in
    let s = splits o.b xs (Sign 41 ∷ (Sign 59 ∷ [])) o.back in
    let y = heads s.b (Sign 41) (Sign 59 ∷ []) s.back in
    let z = heads y.b (Sign 59) [] y.back in
    let r = list_runs no_pairs IsPair pair_at next_pair_at next_is pair_sound pair_complete said xs d s.a (y.l ∷ (z.l ∷ rest)) s.front in
    let ended : until_close {S = ParameterPairs} said (y.l ∷ (z.l ∷ rest)) ≡ true = rw y.token refl in
    let all = turns_at-runs until_close next_pair_at r.start said r.mid (y.l ∷ (z.l ∷ rest)) r.others ended in
    let tail : s.b ≡ y.l ∷ (z.l ∷ []) = y.all ∙ ap (λ (vs : List Lexeme). y.l ∷ vs) (z.all ∙ ap (λ (vs : List Lexeme). z.l ∷ vs) (none_left z.b z.back)) in
    let same : us ++ rest ≡ k.l ∷ (o.l ∷ (s.a ++ (y.l ∷ (z.l ∷ rest)))) = ap (λ (vs : List Lexeme). vs ++ rest) (k.all ∙ ap (λ (vs : List Lexeme). k.l ∷ vs) (o.all ∙ ap (λ (vs : List Lexeme). o.l ∷ vs) (s.all ∙ ap (λ (vs : List Lexeme). s.a ++ vs) tail))) ∙ ap (λ (vs : List Lexeme). k.l ∷ (o.l ∷ vs)) (sym (closing s.a y.l z.l rest)) in
    rw same (parameters_step k.l o.l y.l z.l (s.a ++ (y.l ∷ (z.l ∷ rest))) r.mid rest r.start said k.token o.token r.first all y.token z.token)

pub parameters_complete : (us rest : List Lexeme) (said : ParameterPairs) → AreParameters said (map token_of us) → parameters_at (us ++ rest) ≡ Ok (said, rest)
parameters_complete us rest said d = parameters_read said (map token_of us) d us rest refl

trail_tokens : (k m o y z : Lexeme) (r : List Lexeme) → k.token ≡ Word (codes "AUDIT") → m.token ≡ Word (codes "TRAIL") → o.token ≡ Sign 40 → y.token ≡ Sign 41 → z.token ≡ Sign 59 → map token_of (k ∷ (m ∷ (o ∷ (r ++ (y ∷ (z ∷ [])))))) ≡ Word (codes "AUDIT") ∷ (Word (codes "TRAIL") ∷ (Sign 40 ∷ (map token_of r ++ (Sign 41 ∷ (Sign 59 ∷ [])))))
trail_tokens k m o y z r a b c d e = rw (a, b, c, map-append token_of r (y ∷ (z ∷ [])), d, e) refl

pub audit_sound : (ts : List Lexeme) (said : AuditPairs) (rest : List Lexeme) → audit_at ts ≡ Ok (said, rest) → Reads IsTrail ts said rest
unfolding audit_at
audit_sound ts said rest h =
    let a = bind_ok (word_at (codes "AUDIT") ts) _ _ h in
    let t = bind_ok (word_at (codes "TRAIL") a.0) _ _ a.2 in
    let b = bind_ok (sign_at 40 t.0) _ _ t.2 in
    let c = bind_ok (audit_pair_at no_audit_pairs b.0) _ _ b.2 in
    let d = bind_ok (turns_at until_close next_audit_pair_at c.0.0 c.0.1) _ _ c.2 in
    let e = bind_ok (sign_at 41 d.0.1) _ _ d.2 in
    let f = bind_ok (sign_at 59 e.0) _ _ e.2 in
    let k = word_spelled (codes "AUDIT") ts a.0 a.1 in
    let m = word_spelled (codes "TRAIL") a.0 t.0 t.1 in
    let o = sign_spelled 40 t.0 b.0 b.1 in
    let r = list_sound no_audit_pairs IsAuditPair audit_pair_at next_audit_pair_at next_audit_is audit_pair_sound audit_pair_complete b.0 c.0.0 d.0.0 c.0.1 d.0.1 c.1 d.1 in
    let y = sign_spelled 41 d.0.1 e.0 e.1 in
    let z = sign_spelled 59 e.0 f.0 f.1 in
    let toks = trail_tokens k.first m.first o.first y.first z.first r.used k.token m.token o.token y.token z.token in
    let all : ts ≡ (k.first ∷ (m.first ∷ (o.first ∷ (r.used ++ (y.first ∷ (z.first ∷ [])))))) ++ f.0 = k.all ∙ ap (λ (xs : List Lexeme). k.first ∷ xs) (m.all ∙ ap (λ (xs : List Lexeme). m.first ∷ xs) (o.all ∙ ap (λ (xs : List Lexeme). o.first ∷ xs) (r.all ∙ ap (λ (xs : List Lexeme). r.used ++ xs) (y.all ∙ ap (λ (xs : List Lexeme). y.first ∷ xs) z.all) ∙ closing r.used y.first z.first f.0))) in
    subst (λ (x : AuditPairs × List Lexeme). Reads IsTrail ts x.0 x.1) (ok_same (d.0.0, f.0) (said, rest) f.2)
    (record { used = k.first ∷ (m.first ∷ (o.first ∷ (r.used ++ (y.first ∷ (z.first ∷ []))))); is = rw toks (trail d.0.0 (map token_of r.used) r.is); all = all })

audit_step : (k m o y z : Lexeme) (ts mid rest : List Lexeme) (start said : AuditPairs) → k.token ≡ Word (codes "AUDIT") → m.token ≡ Word (codes "TRAIL") → o.token ≡ Sign 40 → audit_pair_at no_audit_pairs ts ≡ Ok (start, mid) → turns_at until_close next_audit_pair_at start mid ≡ Ok (said, y ∷ (z ∷ rest)) → y.token ≡ Sign 41 → z.token ≡ Sign 59 → audit_at (k ∷ (m ∷ (o ∷ ts))) ≡ Ok (said, rest)
unfolding audit_at
audit_step k m o y z ts mid rest start said a t b f h c d = rw (word_reads (codes "AUDIT") k (m ∷ (o ∷ ts)) refl a, word_reads (codes "TRAIL") m (o ∷ ts) refl t, sign_reads 40 o ts refl b, f, h, sign_reads 41 y (z ∷ rest) refl c, sign_reads 59 z rest refl d) refl

audit_read : (said : AuditPairs) (ws : List Token) → IsTrail said ws → (us rest : List Lexeme) → map token_of us ≡ ws → audit_at (us ++ rest) ≡ Ok (said, rest)
audit_read _ _ (trail said xs d) us rest e =
    let k = heads us (Word (codes "AUDIT")) (Word (codes "TRAIL") ∷ (Sign 40 ∷ (xs ++ (Sign 41 ∷ (Sign 59 ∷ []))))) e in
    let m = heads k.b (Word (codes "TRAIL")) (Sign 40 ∷ (xs ++ (Sign 41 ∷ (Sign 59 ∷ [])))) k.back in
    let o = heads m.b (Sign 40) (xs ++ (Sign 41 ∷ (Sign 59 ∷ []))) m.back in
    let s = splits o.b xs (Sign 41 ∷ (Sign 59 ∷ [])) o.back in
    let y = heads s.b (Sign 41) (Sign 59 ∷ []) s.back in
    let z = heads y.b (Sign 59) [] y.back in
    let r = list_runs no_audit_pairs IsAuditPair audit_pair_at next_audit_pair_at next_audit_is audit_pair_sound audit_pair_complete said xs d s.a (y.l ∷ (z.l ∷ rest)) s.front in
    let ended : until_close {S = AuditPairs} said (y.l ∷ (z.l ∷ rest)) ≡ true = rw y.token refl in
    let all = turns_at-runs until_close next_audit_pair_at r.start said r.mid (y.l ∷ (z.l ∷ rest)) r.others ended in
    let tail : s.b ≡ y.l ∷ (z.l ∷ []) = y.all ∙ ap (λ (vs : List Lexeme). y.l ∷ vs) (z.all ∙ ap (λ (vs : List Lexeme). z.l ∷ vs) (none_left z.b z.back)) in
    let same : us ++ rest ≡ k.l ∷ (m.l ∷ (o.l ∷ (s.a ++ (y.l ∷ (z.l ∷ rest))))) = ap (λ (vs : List Lexeme). vs ++ rest) (k.all ∙ ap (λ (vs : List Lexeme). k.l ∷ vs) (m.all ∙ ap (λ (vs : List Lexeme). m.l ∷ vs) (o.all ∙ ap (λ (vs : List Lexeme). o.l ∷ vs) (s.all ∙ ap (λ (vs : List Lexeme). s.a ++ vs) tail)))) ∙ ap (λ (vs : List Lexeme). k.l ∷ (m.l ∷ (o.l ∷ vs))) (sym (closing s.a y.l z.l rest)) in
    rw same (audit_step k.l m.l o.l y.l z.l (s.a ++ (y.l ∷ (z.l ∷ rest))) r.mid rest r.start said k.token m.token o.token r.first all y.token z.token)

pub audit_complete : (us rest : List Lexeme) (said : AuditPairs) → IsTrail said (map token_of us) → audit_at (us ++ rest) ≡ Ok (said, rest)
audit_complete us rest said d = audit_read said (map token_of us) d us rest refl
