-- An item and a link are read exactly.
use Rattle.std.proofs.Common.{◌≡◌, ◌<◌, ℕ, List, [], ◌∷◌, ◌++◌, map, Bool, true, false, not, refl, sym, ap, ◌∙◌, subst, arith, append_assoc, IsTrue}
use Rattle.std.proofs.lemmas.List.{map-append}
use Rattle.std.proofs.lemmas.Bool.Decides.{nat_tests}
use Rattle.std.specs.Prelude.{codes, nat_le}
use Rattle.std.specs.declared.result.Result.TheVariants.{Ok}
use Rattle.dms_base.specs.Name.{is_name}
use Rattle.dms_base.specs.declared.kind.ItemKind.{ItemKind}
use Rattle.dms_tokens.specs.declared.token.Token.{Token}
use Rattle.dms_tokens.specs.declared.token.Token.TheVariants.{Word, Sign}
use Rattle.dms_tokens.specs.declared.token.Lexeme.{Lexeme}
use Rattle.dasdl_parse.specs.declared.declarations.ItemDecl.{ItemDecl}
use Rattle.dasdl_parse.specs.declared.declarations.LinkDecl.{LinkDecl}
use Rattle.dasdl_parse.specs.declared.items.ItemOptions.{ItemOptions}
use Rattle.dms_tokens.specs.Cursors.{starts, is_word, is_the_sign}
use Rattle.dasdl_phrases.specs.Cursors.{word_at, sign_at, name_at, turns_at, until_semicolon}
use Rattle.dasdl_phrases.specs.Kinds.{kind_at}
use Rattle.dasdl_parse.specs.Items.{no_options, next_item_option_at, item_at, counted_at, link_at}
use Rattle.dasdl_phrases.specs.CondSpelling.{token_of, Reads}
use Rattle.dasdl_phrases.specs.KindSpelling.{SpellsKind}
use Rattle.dasdl_parse.specs.OptionSpelling.{AreItemOptions}
use Rattle.dasdl_parse.specs.ItemSpelling.{IsItem, IsLink}
use Rattle.dasdl_parse.specs.ItemSpelling.IsItem.{an_item}
use Rattle.dasdl_parse.specs.ItemSpelling.IsLink.{a_link, a_counted_link}
use Rattle.dasdl_phrases.proofs.Inverting.{bind_ok, skip_ok, ok_same}
use Rattle.dasdl_phrases.proofs.SpelledTokens.{StartsToken, word_spelled, sign_spelled, name_spelled}
use Rattle.dasdl_phrases.proofs.CondSound.{pick}
use Rattle.dasdl_phrases.proofs.CondComplete.{splits, heads, none_left, word_reads, sign_reads, name_reads}
use Rattle.dasdl_phrases.proofs.KindExact.{kind_sound, kind_complete}
use Rattle.dasdl_parse.proofs.ItemOptionsExact.{item_options_sound, item_options_complete}

pub item_sound : (place : ℕ) (name : List ℕ) (ts : List Lexeme) (item : ItemDecl) (rest : List Lexeme) → item_at place name ts ≡ Ok (item, rest) → Reads (IsItem place name) ts item rest
unfolding item_at
item_sound place name ts item rest h =
    let a = bind_ok (kind_at ts) _ _ h in
    let b = bind_ok (turns_at until_semicolon next_item_option_at no_options a.0.1) _ _ a.2 in
    let c = bind_ok (sign_at 59 b.0.1) _ _ b.2 in
    let k = kind_sound ts a.0.0 a.0.1 a.1 in
    let o = item_options_sound a.0.1 b.0.0 b.0.1 b.1 in
    let z = sign_spelled 59 b.0.1 c.0 c.1 in
    let toks : map token_of (k.used ++ (o.used ++ (z.first ∷ []))) ≡ map token_of k.used ++ (map token_of o.used ++ (Sign 59 ∷ [])) = rw (map-append token_of k.used (o.used ++ (z.first ∷ [])), map-append token_of o.used (z.first ∷ []), z.token) refl in
    let all : ts ≡ (k.used ++ (o.used ++ (z.first ∷ []))) ++ c.0 = k.all ∙ ap (λ (xs : List Lexeme). k.used ++ xs) (o.all ∙ ap (λ (xs : List Lexeme). o.used ++ xs) z.all) ∙ simp append_assoc in
    subst (λ (x : ItemDecl × List Lexeme). Reads (IsItem place name) ts x.0 x.1) (ok_same (record { place = place; name = name; kind = a.0.0; required = b.0.0.required; initial = b.0.0.initial }, c.0) (item, rest) c.2)
    (record { used = k.used ++ (o.used ++ (z.first ∷ [])); is = rw toks (an_item place name a.0.0 b.0.0 (map token_of k.used) (map token_of o.used) k.is o.is); all = all })

item_step : (place : ℕ) (name : List ℕ) (kind : ItemKind) (said : ItemOptions) (ts mid rest : List Lexeme) (z : Lexeme) → kind_at ts ≡ Ok (kind, mid) → turns_at until_semicolon next_item_option_at no_options mid ≡ Ok (said, z ∷ rest) → z.token ≡ Sign 59 → item_at place name ts ≡ Ok (record { place = place; name = name; kind = kind; required = said.required; initial = said.initial }, rest)
unfolding item_at
item_step place name kind said ts mid rest z a b c = rw (a, b, sign_reads 59 z rest refl c) refl

item_reads : (place : ℕ) (name : List ℕ) (item : ItemDecl) (ws : List Token) → IsItem place name item ws → (us rest : List Lexeme) → map token_of us ≡ ws → item_at place name (us ++ rest) ≡ Ok (item, rest)
item_reads _ _ _ _ (an_item place name kind said xs ys d o) us rest e =
    let a = splits us xs (ys ++ (Sign 59 ∷ [])) e in
    let b = splits a.b ys (Sign 59 ∷ []) a.back in
    let z = heads b.b (Sign 59) [] b.back in
    let same : us ++ rest ≡ a.a ++ (b.a ++ (z.l ∷ rest)) = ap (λ (vs : List Lexeme). vs ++ rest) (a.all ∙ ap (λ (vs : List Lexeme). a.a ++ vs) (b.all ∙ ap (λ (vs : List Lexeme). b.a ++ vs) (z.all ∙ ap (λ (vs : List Lexeme). z.l ∷ vs) (none_left z.b z.back)))) ∙ simp append_assoc in
    let ends : starts (is_the_sign 59) (z.l ∷ rest) ≡ true = rw z.token refl in
    let first = kind_complete a.a (b.a ++ (z.l ∷ rest)) kind (subst (λ (vs : List Token). SpellsKind kind vs) (sym a.front) d) in
    let second = item_options_complete b.a (z.l ∷ rest) said (subst (λ (vs : List Token). AreItemOptions said vs) (sym b.front) o) ends in
    rw same (item_step place name kind said (a.a ++ (b.a ++ (z.l ∷ rest))) (b.a ++ (z.l ∷ rest)) rest z.l first second z.token)

pub item_complete : (place : ℕ) (name : List ℕ) (us rest : List Lexeme) (item : ItemDecl) → IsItem place name item (map token_of us) → item_at place name (us ++ rest) ≡ Ok (item, rest)
item_complete place name us rest item d = item_reads place name item (map token_of us) d us rest refl

-- whether COUNTED was said, and then fewer than 4,000 were
abbrev CountedRead : ℕ → List Lexeme → Bool → List Lexeme → Type 0
CountedRead n ts false rest = ts ≡ rest
CountedRead n ts true rest = StartsToken (Word (codes "COUNTED")) ts rest × (n < 4000)

counted_sound : (n : ℕ) (ts : List Lexeme) (c : Bool) (rest : List Lexeme) → counted_at n ts ≡ Ok (c, rest) → CountedRead n ts c rest
unfolding counted_at
counted_sound n ts c rest h =
    pick {A = Bool × List Lexeme} (not (starts (is_word (codes "COUNTED")) ts)) _ _ (c, rest)
    (λ e. subst (λ (x : Bool × List Lexeme). CountedRead n ts x.0 x.1) (ok_same (false, ts) (c, rest) e) refl)
    (λ e.
    let a = skip_ok (nat_le 4000 n) _ _ _ e in
    let b = bind_ok (word_at (codes "COUNTED") ts) _ _ a.1 in
    let below : nat_le 4000 n ≡ false = a.0 in
    subst (λ (x : Bool × List Lexeme). CountedRead n ts x.0 x.1) (ok_same (true, b.0) (c, rest) b.2) (word_spelled (codes "COUNTED") ts b.0 b.1, grind (arith, nat_tests))) h

-- a link, and where it is counted, fewer than 4,000 were before it
record LinkRead (n place : ℕ) (name : List ℕ) (ts : List Lexeme) (link : LinkDecl) (rest : List Lexeme) : Type 0 where
  reads : Reads (IsLink place name) ts link rest
  few : link.counted ≡ true → n < 4000

by_counted : (n place : ℕ) (name target : List ℕ) (c : Bool) (ts mid late last : List Lexeme) (k l t : Lexeme) → k.token ≡ Word (codes "LINK") → l.token ≡ Word (codes "TO") → t.token ≡ Word target → IsTrue (is_name target) → ts ≡ k ∷ l ∷ t ∷ mid → CountedRead n mid c late → StartsToken (Sign 59) late last → LinkRead n place name ts (record { place = place; name = name; target = target; counted = c }) last
by_counted n place name target false ts mid late last k l t a b d named e c z = record {
  reads = record {
    used = k ∷ l ∷ t ∷ z.first ∷ [];
    is = rw (a, b, d, z.token) (a_link place name target named);
    all = e ∙ ap (λ (xs : List Lexeme). k ∷ l ∷ t ∷ xs) (c ∙ z.all);
  };
  few = λ h. absurd (cc);
}
by_counted n place name target true ts mid late last k l t a b d named e c z = record {
  reads = record {
    used = k ∷ l ∷ t ∷ c.0.first ∷ z.first ∷ [];
    is = rw (a, b, d, c.0.token, z.token) (a_counted_link place name target named);
    all = e ∙ ap (λ (xs : List Lexeme). k ∷ l ∷ t ∷ xs) (c.0.all ∙ ap (λ (xs : List Lexeme). c.0.first ∷ xs) z.all);
  };
  few = λ h. c.1;
}

link_read : (n place : ℕ) (name : List ℕ) (ts : List Lexeme) (link : LinkDecl) (rest : List Lexeme) → link_at n place name ts ≡ Ok (link, rest) → LinkRead n place name ts link rest
unfolding link_at
link_read n place name ts link rest h =
    let a = bind_ok (word_at (codes "LINK") ts) _ _ h in
    let b = bind_ok (word_at (codes "TO") a.0) _ _ a.2 in
    let t = bind_ok (name_at b.0) _ _ b.2 in
    let c = bind_ok (counted_at n t.0.1) _ _ t.2 in
    let d = bind_ok (sign_at 59 c.0.1) _ _ c.2 in
    let k = word_spelled (codes "LINK") ts a.0 a.1 in
    let l = word_spelled (codes "TO") a.0 b.0 b.1 in
    let m = name_spelled b.0 t.0.0 t.0.1 t.1 in
    let z = sign_spelled 59 c.0.1 d.0 d.1 in
    let all : ts ≡ k.first ∷ l.first ∷ m.1.first ∷ t.0.1 = k.all ∙ ap (λ (xs : List Lexeme). k.first ∷ xs) (l.all ∙ ap (λ (xs : List Lexeme). l.first ∷ xs) m.1.all) in
    subst (λ (x : LinkDecl × List Lexeme). LinkRead n place name ts x.0 x.1) (ok_same (record { place = place; name = name; target = t.0.0; counted = c.0.0 }, d.0) (link, rest) d.2)
    (by_counted n place name t.0.0 c.0.0 ts t.0.1 c.0.1 d.0 k.first l.first m.1.first k.token l.token m.1.token m.0 all (counted_sound n t.0.1 c.0.0 c.0.1 c.1) z)

pub link_sound : (n place : ℕ) (name : List ℕ) (ts : List Lexeme) (link : LinkDecl) (rest : List Lexeme) → link_at n place name ts ≡ Ok (link, rest) → Reads (IsLink place name) ts link rest × (link.counted ≡ true → n < 4000)
link_sound n place name ts link rest h = let r = link_read n place name ts link rest h in (r.reads, r.few)

uncounted_step : (n : ℕ) (z : Lexeme) (rest : List Lexeme) → z.token ≡ Sign 59 → counted_at n (z ∷ rest) ≡ Ok (false, z ∷ rest)
unfolding counted_at
uncounted_step n z rest e =
    let none : starts (is_word (codes "COUNTED")) (z ∷ rest) ≡ false = rw e refl in
    rw none refl

counted_step : (n : ℕ) (c : Lexeme) (rest : List Lexeme) → c.token ≡ Word (codes "COUNTED") → n < 4000 → counted_at n (c ∷ rest) ≡ Ok (true, rest)
unfolding counted_at
counted_step n c rest e f =
    let said : starts (is_word (codes "COUNTED")) (c ∷ rest) ≡ true = rw e refl in
    let few : nat_le 4000 n ≡ false = grind (arith, nat_tests) in
    rw (said, few, word_reads (codes "COUNTED") c rest refl e) refl

link_step : (n place : ℕ) (name target : List ℕ) (k l t z : Lexeme) (counted : Bool) (mid rest : List Lexeme) → k.token ≡ Word (codes "LINK") → l.token ≡ Word (codes "TO") → t.token ≡ Word target → is_name target ≡ true → counted_at n mid ≡ Ok (counted, z ∷ rest) → z.token ≡ Sign 59 → link_at n place name (k ∷ l ∷ t ∷ mid) ≡ Ok (record { place = place; name = name; target = target; counted = counted }, rest)
unfolding link_at
link_step n place name target k l t z counted mid rest a b c named d e =
    rw (word_reads (codes "LINK") k (l ∷ t ∷ mid) refl a, word_reads (codes "TO") l (t ∷ mid) refl b, name_reads t mid target c named, d, sign_reads 59 z rest refl e) refl

link_reads : (n place : ℕ) (name : List ℕ) (link : LinkDecl) (ws : List Token) → IsLink place name link ws → (us rest : List Lexeme) → map token_of us ≡ ws → (link.counted ≡ true → n < 4000) → link_at n place name (us ++ rest) ≡ Ok (link, rest)
link_reads n _ _ _ _ (a_link place name target named) us rest e f =
    let k = heads us (Word (codes "LINK")) (Word (codes "TO") ∷ (Word target ∷ (Sign 59 ∷ []))) e in
    let l = heads k.b (Word (codes "TO")) (Word target ∷ (Sign 59 ∷ [])) k.back in
    let t = heads l.b (Word target) (Sign 59 ∷ []) l.back in
    let z = heads t.b (Sign 59) [] t.back in
    let same : us ≡ k.l ∷ l.l ∷ t.l ∷ z.l ∷ [] = k.all ∙ ap (λ (vs : List Lexeme). k.l ∷ vs) (l.all ∙ ap (λ (vs : List Lexeme). l.l ∷ vs) (t.all ∙ ap (λ (vs : List Lexeme). t.l ∷ vs) (z.all ∙ ap (λ (vs : List Lexeme). z.l ∷ vs) (none_left z.b z.back)))) in
    rw same (link_step n place name target k.l l.l t.l z.l false (z.l ∷ rest) rest k.token l.token t.token named (uncounted_step n z.l rest z.token) z.token)
link_reads n _ _ _ _ (a_counted_link place name target named) us rest e f =
    let k = heads us (Word (codes "LINK")) (Word (codes "TO") ∷ (Word target ∷ (Word (codes "COUNTED") ∷ (Sign 59 ∷ [])))) e in
    let l = heads k.b (Word (codes "TO")) (Word target ∷ (Word (codes "COUNTED") ∷ (Sign 59 ∷ []))) k.back in
    let t = heads l.b (Word target) (Word (codes "COUNTED") ∷ (Sign 59 ∷ [])) l.back in
    let c = heads t.b (Word (codes "COUNTED")) (Sign 59 ∷ []) t.back in
    let z = heads c.b (Sign 59) [] c.back in
    let same : us ≡ k.l ∷ l.l ∷ t.l ∷ c.l ∷ z.l ∷ [] = k.all ∙ ap (λ (vs : List Lexeme). k.l ∷ vs) (l.all ∙ ap (λ (vs : List Lexeme). l.l ∷ vs) (t.all ∙ ap (λ (vs : List Lexeme). t.l ∷ vs) (c.all ∙ ap (λ (vs : List Lexeme). c.l ∷ vs) (z.all ∙ ap (λ (vs : List Lexeme). z.l ∷ vs) (none_left z.b z.back))))) in
    rw same (link_step n place name target k.l l.l t.l z.l true (c.l ∷ z.l ∷ rest) rest k.token l.token t.token named (counted_step n c.l (z.l ∷ rest) c.token (f refl)) z.token)

pub link_complete : (n place : ℕ) (name : List ℕ) (us rest : List Lexeme) (link : LinkDecl) → IsLink place name link (map token_of us) → (link.counted ≡ true → n < 4000) → link_at n place name (us ++ rest) ≡ Ok (link, rest)
link_complete n place name us rest link d f = link_reads n place name link (map token_of us) d us rest refl f
