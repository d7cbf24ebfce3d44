-- An item's type is read exactly.
use Rattle.std.proofs.Common.{◌≡◌, ◌≤◌, ℕ, List, [], ◌∷◌, ◌++◌, map, Bool, true, false, cond, ◌&&◌, refl, sym, ap, ◌∙◌, subst, arith, append_assoc}
use Rattle.std.proofs.lemmas.List.{map-append}
use Rattle.std.proofs.lemmas.Bool.Decides.{nat_tests}
use Rattle.std.proofs.lemmas.Slice.Eq.{bytes_eq-Decides}
use Rattle.std.proofs.lemmas.Bool.{false_from_ne_true}
use Rattle.std.specs.Str.{bytes_eq}
use Rattle.std.specs.Prelude.{codes, nat_le, Some, None}
use Rattle.std.specs.declared.option.Option.{Option}
use Rattle.std.specs.declared.result.Result.TheVariants.{Ok, Err}
use Rattle.dms_base.specs.declared.kind.ItemKind.{ItemKind}
use Rattle.dms_base.specs.declared.kind.ItemKind.TheVariants.{Alpha, Number as Digits, Bool as Truth, Field}
use Rattle.dasdl_phrases.specs.declared.fault.ParseFault.TheVariants.{NumberRange}
use Rattle.dms_tokens.specs.declared.token.Token.{Token}
use Rattle.dms_tokens.specs.declared.token.Token.TheVariants.{Word, Number, Decimal, Long, Quoted, Sign, Compare, Bad, End}
use Rattle.dms_tokens.specs.declared.token.Lexeme.{Lexeme}
use Rattle.dasdl_phrases.specs.Reads.{Read}
use Rattle.dms_tokens.specs.Cursors.{starts, is_word, is_the_sign}
use Rattle.dasdl_phrases.specs.Cursors.{word_at, sign_at, number_at, number_of}
use Rattle.dasdl_phrases.specs.Kinds.{joined_number, joined_of, behind, with_minus, without_minus, is_any_word, signed_width_of, signed_width_at, width_at, size_at, places_at, alpha_at, field_at, decimal_at, truth_at, kind_at}
use Rattle.dasdl_phrases.specs.CondSpelling.{token_of, Reads}
use Rattle.dasdl_phrases.specs.KindSpelling.{IsWidth, ArePlaces, SpellsKind}
use Rattle.dasdl_phrases.specs.KindSpelling.IsWidth.{without_sign, with_sign, joined_sign}
use Rattle.dasdl_phrases.specs.KindSpelling.ArePlaces.{no_places, some_places}
use Rattle.dasdl_phrases.specs.KindSpelling.SpellsKind.{an_alpha, a_number, a_truth, a_field}
use Rattle.dasdl_phrases.proofs.Inverting.{bind_ok, guard_ok, ok_same}
use Rattle.dasdl_phrases.proofs.SpelledTokens.{StartsToken, word_spelled, sign_spelled}
use Rattle.dasdl_phrases.proofs.CondSound.{pick}
use Rattle.dasdl_phrases.proofs.CondComplete.{splits, heads, none_left, word_reads, sign_reads}

-- a number in its range
pub record InRange (low high n : ℕ) (ts rest : List Lexeme) : Type 0 where
  pub least : low ≤ n
  pub most : n ≤ high
  pub is : StartsToken (Number n) ts rest

ranges : (low high n : ℕ) → nat_le low n && nat_le n high ≡ true → (low ≤ n) × (n ≤ high)
ranges low high n h = (grind (arith, nat_tests), grind (arith, nat_tests))

within : (low high n : ℕ) → low ≤ n → n ≤ high → nat_le low n && nat_le n high ≡ true
within low high n a b =
    let f : nat_le low n ≡ true = grind (arith, nat_tests) in
    let g : nat_le n high ≡ true = grind (arith, nat_tests) in
    rw (f, g) refl

number_of_ok : (t : Token) (low high place n : ℕ) (ls rest : List Lexeme) → number_of t low high place ls ≡ Ok (n, rest) → (t ≡ Number n) × (low ≤ n) × (n ≤ high) × (ls ≡ rest)
number_of_ok (Number m) low high place n ls rest h =
    let g = guard_ok (nat_le low m && nat_le m high) (m, ls) (n, rest) (NumberRange place) h in
    let e : m ≡ n = ap (λ (x : ℕ × List Lexeme). x.0) g.1 in
    let r = ranges low high m g.0 in
    (ap (λ (k : ℕ). Number k) e, subst (λ (k : ℕ). low ≤ k) e r.0, subst (λ (k : ℕ). k ≤ high) e r.1, ap (λ (x : ℕ × List Lexeme). x.1) g.1)
number_of_ok Long low high place n ls rest h = absurd (cc)
number_of_ok (Word b) low high place n ls rest h = absurd (cc)
number_of_ok (Decimal m k p) low high place n ls rest h = absurd (cc)
number_of_ok (Quoted b) low high place n ls rest h = absurd (cc)
number_of_ok (Sign b) low high place n ls rest h = absurd (cc)
number_of_ok (Compare o) low high place n ls rest h = absurd (cc)
number_of_ok Bad low high place n ls rest h = absurd (cc)
number_of_ok End low high place n ls rest h = absurd (cc)

pub number_spelled : (low high : ℕ) (ts : List Lexeme) (n : ℕ) (rest : List Lexeme) → number_at low high ts ≡ Ok (n, rest) → InRange low high n ts rest
unfolding number_at
number_spelled low high [] n rest h = absurd (cc)
number_spelled low high (l ∷ ls) n rest h =
    let g = number_of_ok l.token low high l.place n ls rest h in
    record { least = g.1; most = g.2; is = record { first = l; token = g.0; all = ap (λ (xs : List Lexeme). l ∷ xs) g.3 } }

pub number_reads : (low high : ℕ) (l : Lexeme) (ls : List Lexeme) (n : ℕ) → l.token ≡ Number n → low ≤ n → n ≤ high → number_at low high (l ∷ ls) ≡ Ok (n, ls)
unfolding number_at
number_reads low high l ls n e a b = rw (e, within low high n a b) refl

-- ( number )
size_sound : (high : ℕ) (ts : List Lexeme) (n : ℕ) (rest : List Lexeme) → size_at high ts ≡ Ok (n, rest) → (used : List Lexeme) × (map token_of used ≡ Sign 40 ∷ (Number n ∷ (Sign 41 ∷ []))) × (ts ≡ used ++ rest) × (1 ≤ n) × (n ≤ high)
unfolding size_at
size_sound high ts n rest h =
    let a = bind_ok (sign_at 40 ts) _ _ h in
    let b = bind_ok (number_at 1 high a.0) _ _ a.2 in
    let c = bind_ok (sign_at 41 b.0.1) _ _ b.2 in
    let k = sign_spelled 40 ts a.0 a.1 in
    let m = number_spelled 1 high a.0 b.0.0 b.0.1 b.1 in
    let z = sign_spelled 41 b.0.1 c.0 c.1 in
    let all : ts ≡ (k.first ∷ (m.is.first ∷ (z.first ∷ []))) ++ c.0 = k.all ∙ ap (λ (xs : List Lexeme). k.first ∷ xs) (m.is.all ∙ ap (λ (xs : List Lexeme). m.is.first ∷ xs) z.all) in
    let toks : map token_of (k.first ∷ (m.is.first ∷ (z.first ∷ []))) ≡ Sign 40 ∷ (Number b.0.0 ∷ (Sign 41 ∷ [])) = rw (k.token, m.is.token, z.token) refl in
    subst (λ (x : ℕ × List Lexeme). (used : List Lexeme) × (map token_of used ≡ Sign 40 ∷ (Number x.0 ∷ (Sign 41 ∷ []))) × (ts ≡ used ++ x.1) × (1 ≤ x.0) × (x.0 ≤ high)) (ok_same (b.0.0, c.0) (n, rest) c.2)
    (k.first ∷ (m.is.first ∷ (z.first ∷ [])), toks, all, m.least, m.most)

size_reads : (high : ℕ) (k l m : Lexeme) (rest : List Lexeme) (n : ℕ) → k.token ≡ Sign 40 → l.token ≡ Number n → m.token ≡ Sign 41 → 1 ≤ n → n ≤ high → size_at high (k ∷ l ∷ m ∷ rest) ≡ Ok (n, rest)
unfolding size_at
size_reads high k l m rest n a b c d e = rw (sign_reads 40 k (l ∷ m ∷ rest) refl a, number_reads 1 high l (m ∷ rest) n b d e, sign_reads 41 m rest refl c) refl

alpha_sound : (ts : List Lexeme) (kind : ItemKind) (rest : List Lexeme) → alpha_at ts ≡ Ok (kind, rest) → Reads SpellsKind ts kind rest
unfolding alpha_at
alpha_sound ts kind rest h =
    let a = bind_ok (word_at (codes "ALPHA") ts) _ _ h in
    let b = bind_ok (size_at 200 a.0) _ _ a.2 in
    let k = word_spelled (codes "ALPHA") ts a.0 a.1 in
    let s = size_sound 200 a.0 b.0.0 b.0.1 b.1 in
    subst (λ (x : ItemKind × List Lexeme). Reads SpellsKind ts x.0 x.1) (ok_same (Alpha b.0.0, b.0.1) (kind, rest) b.2)
    (record { used = k.first ∷ s.0; is = rw (k.token, s.1) (an_alpha b.0.0 s.3 s.4); all = k.all ∙ ap (λ (xs : List Lexeme). k.first ∷ xs) s.2 })

field_sound : (ts : List Lexeme) (kind : ItemKind) (rest : List Lexeme) → field_at ts ≡ Ok (kind, rest) → Reads SpellsKind ts kind rest
unfolding field_at
field_sound ts kind rest h =
    let a = bind_ok (word_at (codes "FIELD") ts) _ _ h in
    let b = bind_ok (size_at 48 a.0) _ _ a.2 in
    let k = word_spelled (codes "FIELD") ts a.0 a.1 in
    let s = size_sound 48 a.0 b.0.0 b.0.1 b.1 in
    subst (λ (x : ItemKind × List Lexeme). Reads SpellsKind ts x.0 x.1) (ok_same (Field b.0.0, b.0.1) (kind, rest) b.2)
    (record { used = k.first ∷ s.0; is = rw (k.token, s.1) (a_field b.0.0 s.3 s.4); all = k.all ∙ ap (λ (xs : List Lexeme). k.first ∷ xs) s.2 })

truth_sound : (ts : List Lexeme) (kind : ItemKind) (rest : List Lexeme) → truth_at ts ≡ Ok (kind, rest) → Reads SpellsKind ts kind rest
unfolding truth_at
truth_sound ts kind rest h =
    let a = bind_ok (word_at (codes "BOOLEAN") ts) _ _ h in
    let k = word_spelled (codes "BOOLEAN") ts a.0 a.1 in
    subst (λ (x : ItemKind × List Lexeme). Reads SpellsKind ts x.0 x.1) (ok_same (Truth, a.0) (kind, rest) a.2)
    (record { used = k.first ∷ []; is = rw k.token a_truth; all = k.all })

abbrev WidthRead : List Lexeme → Bool × ℕ → List Lexeme → Type 0
WidthRead ts x rest = (used : List Lexeme) × IsWidth x.0 x.1 (map token_of used) × (ts ≡ used ++ rest)

signed_ok : (r : Read ℕ) (x : Bool × ℕ) (rest : List Lexeme) → with_minus r ≡ Ok (x, rest) → (n : ℕ) × (r ≡ Ok (n, rest)) × ((true, n) ≡ x)
signed_ok (Ok n) x rest h =
    let g = ok_same ((true, n.0), n.1) (x, rest) h in
    (n.0, ap (λ (y : (Bool × ℕ) × List Lexeme). Ok (n.0, y.1)) g, ap (λ (y : (Bool × ℕ) × List Lexeme). y.0) g)
signed_ok (Err e) x rest h = absurd (cc)

unsigned_ok : (r : Read ℕ) (x : Bool × ℕ) (rest : List Lexeme) → without_minus r ≡ Ok (x, rest) → (n : ℕ) × (r ≡ Ok (n, rest)) × ((false, n) ≡ x)
unsigned_ok (Ok n) x rest h =
    let g = ok_same ((false, n.0), n.1) (x, rest) h in
    (n.0, ap (λ (y : (Bool × ℕ) × List Lexeme). Ok (n.0, y.1)) g, ap (λ (y : (Bool × ℕ) × List Lexeme). y.0) g)
unsigned_ok (Err e) x rest h = absurd (cc)

joined_ok : (o : Option ℕ) (b : List ℕ) (place : ℕ) (l : Lexeme) (x : Bool × ℕ) (ls rest : List Lexeme) → joined_number b ≡ o → l.token ≡ Word b → joined_of o place ls ≡ Ok (x, rest) → WidthRead (l ∷ ls) x rest
joined_ok None b place l x ls rest e t h = absurd (cc)
joined_ok (Some n) b place l x ls rest e t h =
    let g = guard_ok (nat_le 1 n && nat_le n 18) ((true, n), ls) (x, rest) (NumberRange (behind place)) h in
    let r = ranges 1 18 n g.0 in
    subst (λ (y : (Bool × ℕ) × List Lexeme). WidthRead (l ∷ ls) y.0 y.1) g.1 (l ∷ [], rw t (joined_sign b n e r.0 r.1), refl)

sign_ok : (b : List ℕ) (place : ℕ) (l : Lexeme) (x : Bool × ℕ) (ls rest : List Lexeme) → l.token ≡ Word b → signed_width_of (Word b) place ls ≡ Ok (x, rest) → WidthRead (l ∷ ls) x rest
sign_ok b place l x ls rest t h =
    let P : Bool → Type 0 = λ (v : Bool). bytes_eq b (codes "S") ≡ v → cond v (with_minus (number_at 1 18 ls)) (joined_of (joined_number b) place ls) ≡ Ok (x, rest) → WidthRead (l ∷ ls) x rest in
    let by : (v : Bool) → P v = λ v. elim v as P [
      | true ↦ (λ q e.
          let s = signed_ok (number_at 1 18 ls) x rest e in
          let m = number_spelled 1 18 ls s.0 rest s.1 in
          let named : l.token ≡ Word (codes "S") = t ∙ ap (λ (w : List ℕ). Word w) ((bytes_eq-Decides b (codes "S")).0 q) in
          subst (λ (y : Bool × ℕ). WidthRead (l ∷ ls) y rest) s.2 (l ∷ (m.is.first ∷ []), rw (named, m.is.token) (with_sign s.0 m.least m.most), ap (λ (xs : List Lexeme). l ∷ xs) m.is.all))
      | false ↦ (λ q e. joined_ok (joined_number b) b place l x ls rest refl t e)
    ] in
    by (bytes_eq b (codes "S")) refl h

signed_width_ok : (t : Token) (l : Lexeme) (x : Bool × ℕ) (ls rest : List Lexeme) → l.token ≡ t → signed_width_of t l.place ls ≡ Ok (x, rest) → WidthRead (l ∷ ls) x rest
signed_width_ok (Word b) l x ls rest t h = sign_ok b l.place l x ls rest t h
signed_width_ok (Number n) l x ls rest t h = absurd (cc)
signed_width_ok (Decimal m n p) l x ls rest t h = absurd (cc)
signed_width_ok Long l x ls rest t h = absurd (cc)
signed_width_ok (Quoted b) l x ls rest t h = absurd (cc)
signed_width_ok (Sign b) l x ls rest t h = absurd (cc)
signed_width_ok (Compare o) l x ls rest t h = absurd (cc)
signed_width_ok Bad l x ls rest t h = absurd (cc)
signed_width_ok End l x ls rest t h = absurd (cc)

signed_width_sound : (ts : List Lexeme) (x : Bool × ℕ) (rest : List Lexeme) → signed_width_at ts ≡ Ok (x, rest) → WidthRead ts x rest
unfolding signed_width_at
signed_width_sound [] x rest h = absurd (cc)
signed_width_sound (l ∷ ls) x rest h = signed_width_ok l.token l x ls rest refl h

width_sound : (ts : List Lexeme) (x : Bool × ℕ) (rest : List Lexeme) → width_at ts ≡ Ok (x, rest) → WidthRead ts x rest
unfolding width_at
width_sound ts x rest h =
    pick {A = (Bool × ℕ) × List Lexeme} (starts is_any_word ts) (signed_width_at ts) (without_minus (number_at 1 18 ts)) (x, rest)
    (signed_width_sound ts x rest)
    (λ e.
    let s = unsigned_ok (number_at 1 18 ts) x rest e in
    let m = number_spelled 1 18 ts s.0 rest s.1 in
    subst (λ (y : Bool × ℕ). WidthRead ts y rest) s.2 (m.is.first ∷ [], rw m.is.token (without_sign s.0 m.least m.most), m.is.all)) h

places_sound : (high : ℕ) (ts : List Lexeme) (m : ℕ) (rest : List Lexeme) → places_at high ts ≡ Ok (m, rest) → Reads (ArePlaces high) ts m rest
unfolding places_at
places_sound high ts m rest h =
    pick {A = ℕ × List Lexeme} (starts (is_the_sign 44) ts) _ _ (m, rest)
    (λ e.
    let a = bind_ok (sign_at 44 ts) _ _ e in
    let k = sign_spelled 44 ts a.0 a.1 in
    let n = number_spelled 0 high a.0 m rest a.2 in
    record { used = k.first ∷ (n.is.first ∷ []); is = rw (k.token, n.is.token) (some_places high m n.most); all = k.all ∙ ap (λ (xs : List Lexeme). k.first ∷ xs) n.is.all })
    (λ e. subst (λ (x : ℕ × List Lexeme). Reads (ArePlaces high) ts x.0 x.1) (ok_same (0, ts) (m, rest) e) (record { used = []; is = no_places high; all = refl })) h

decimal_sound : (ts : List Lexeme) (kind : ItemKind) (rest : List Lexeme) → decimal_at ts ≡ Ok (kind, rest) → Reads SpellsKind ts kind rest
unfolding decimal_at
decimal_sound ts kind rest h =
    let a = bind_ok (word_at (codes "NUMBER") ts) _ _ h in
    let b = bind_ok (sign_at 40 a.0) _ _ a.2 in
    let c = bind_ok (width_at b.0) _ _ b.2 in
    let d = bind_ok (places_at c.0.0.1 c.0.1) _ _ c.2 in
    let e = bind_ok (sign_at 41 d.0.1) _ _ d.2 in
    let k = word_spelled (codes "NUMBER") ts a.0 a.1 in
    let l = sign_spelled 40 a.0 b.0 b.1 in
    let w = width_sound b.0 c.0.0 c.0.1 c.1 in
    let p = places_sound c.0.0.1 c.0.1 d.0.0 d.0.1 d.1 in
    let z = sign_spelled 41 d.0.1 e.0 e.1 in
    let toks : map token_of (k.first ∷ (l.first ∷ (w.0 ++ (p.used ++ (z.first ∷ []))))) ≡ Word (codes "NUMBER") ∷ (Sign 40 ∷ (map token_of w.0 ++ (map token_of p.used ++ (Sign 41 ∷ [])))) = rw (k.token, l.token, map-append token_of w.0 (p.used ++ (z.first ∷ [])), map-append token_of p.used (z.first ∷ []), z.token) refl in
    let all : ts ≡ (k.first ∷ (l.first ∷ (w.0 ++ (p.used ++ (z.first ∷ []))))) ++ e.0 = k.all ∙ ap (λ (xs : List Lexeme). k.first ∷ xs) (l.all ∙ ap (λ (xs : List Lexeme). l.first ∷ xs) (w.2 ∙ ap (λ (xs : List Lexeme). w.0 ++ xs) (p.all ∙ ap (λ (xs : List Lexeme). p.used ++ xs) z.all) ∙ simp append_assoc)) in
    subst (λ (x : ItemKind × List Lexeme). Reads SpellsKind ts x.0 x.1) (ok_same (Digits c.0.0.1 d.0.0 c.0.0.0, e.0) (kind, rest) e.2)
    (record { used = k.first ∷ (l.first ∷ (w.0 ++ (p.used ++ (z.first ∷ [])))); is = rw toks (a_number c.0.0.1 d.0.0 c.0.0.0 (map token_of w.0) (map token_of p.used) w.1 p.is); all = all })

pub kind_sound : (ts : List Lexeme) (kind : ItemKind) (rest : List Lexeme) → kind_at ts ≡ Ok (kind, rest) → Reads SpellsKind ts kind rest
unfolding kind_at
kind_sound ts kind rest h =
    pick (starts (is_word (codes "ALPHA")) ts) (alpha_at ts) _ (kind, rest) (alpha_sound ts kind rest)
    (pick (starts (is_word (codes "NUMBER")) ts) (decimal_at ts) _ (kind, rest) (decimal_sound ts kind rest)
    (pick (starts (is_word (codes "BOOLEAN")) ts) (truth_at ts) (field_at ts) (kind, rest) (truth_sound ts kind rest) (field_sound ts kind rest))) h

places_reads : (n m : ℕ) (ys : List Token) → ArePlaces n m ys → (us : List Lexeme) (z : Lexeme) (rest : List Lexeme) → map token_of us ≡ ys → z.token ≡ Sign 41 → places_at n (us ++ (z ∷ rest)) ≡ Ok (m, z ∷ rest)
unfolding places_at
places_reads _ _ _ (no_places n) us z rest e t =
    let none : starts (is_the_sign 44) (z ∷ rest) ≡ false = rw t refl in
    rw (none_left us e, none) refl
places_reads _ _ _ (some_places n m b) us z rest e t =
    let k = heads us (Sign 44) (Number m ∷ []) e in
    let l = heads k.b (Number m) [] k.back in
    let same : us ≡ k.l ∷ l.l ∷ [] = k.all ∙ ap (λ (vs : List Lexeme). k.l ∷ vs) (l.all ∙ ap (λ (vs : List Lexeme). l.l ∷ vs) (none_left l.b l.back)) in
    let some : starts (is_the_sign 44) (k.l ∷ l.l ∷ z ∷ rest) ≡ true = rw k.token refl in
    rw (same, some, sign_reads 44 k.l (l.l ∷ z ∷ rest) refl k.token, number_reads 0 n l.l (z ∷ rest) m l.token (omega arith) b) refl

none_joined : (w : List ℕ) (n : ℕ) → joined_number w ≡ Some n → bytes_eq w (codes "S") ≡ false
unfolding joined_number
none_joined w n h = false_from_ne_true (bytes_eq w (codes "S")) (λ (e : bytes_eq w (codes "S") ≡ true).
    let f : joined_number (codes "S") ≡ Some n = ap joined_number (sym ((bytes_eq-Decides w (codes "S")).0 e)) ∙ h in
    let g : joined_number (codes "S") ≡ None = refl in
    cc)

any_word : (l : Lexeme) (ls : List Lexeme) (w : List ℕ) → l.token ≡ Word w → starts is_any_word (l ∷ ls) ≡ true
any_word l ls w e = rw e refl

signed_reads : (l m : Lexeme) (rest : List Lexeme) (n : ℕ) → l.token ≡ Word (codes "S") → m.token ≡ Number n → 1 ≤ n → n ≤ 18 → signed_width_at (l ∷ m ∷ rest) ≡ Ok ((true, n), rest)
unfolding signed_width_at
signed_reads l m rest n e f a b = rw (e, number_reads 1 18 m rest n f a b) refl

joined_reads : (l : Lexeme) (rest : List Lexeme) (w : List ℕ) (n : ℕ) → l.token ≡ Word w → joined_number w ≡ Some n → 1 ≤ n → n ≤ 18 → signed_width_at (l ∷ rest) ≡ Ok ((true, n), rest)
unfolding signed_width_at
joined_reads l rest w n e f a b = rw (e, none_joined w n f, f, within 1 18 n a b) refl

width_reads : (s : Bool) (n : ℕ) (xs : List Token) → IsWidth s n xs → (us rest : List Lexeme) → map token_of us ≡ xs → width_at (us ++ rest) ≡ Ok ((s, n), rest)
unfolding width_at
width_reads _ _ _ (without_sign n a b) us rest e =
    let k = heads us (Number n) [] e in
    let same : us ≡ k.l ∷ [] = k.all ∙ ap (λ (vs : List Lexeme). k.l ∷ vs) (none_left k.b k.back) in
    let none : starts is_any_word (k.l ∷ rest) ≡ false = rw k.token refl in
    rw (same, none, number_reads 1 18 k.l rest n k.token a b) refl
width_reads _ _ _ (with_sign n a b) us rest e =
    let k = heads us (Word (codes "S")) (Number n ∷ []) e in
    let l = heads k.b (Number n) [] k.back in
    let same : us ≡ k.l ∷ l.l ∷ [] = k.all ∙ ap (λ (vs : List Lexeme). k.l ∷ vs) (l.all ∙ ap (λ (vs : List Lexeme). l.l ∷ vs) (none_left l.b l.back)) in
    rw (same, any_word k.l (l.l ∷ rest) (codes "S") k.token) (signed_reads k.l l.l rest n k.token l.token a b)
width_reads _ _ _ (joined_sign w n f a b) us rest e =
    let k = heads us (Word w) [] e in
    let same : us ≡ k.l ∷ [] = k.all ∙ ap (λ (vs : List Lexeme). k.l ∷ vs) (none_left k.b k.back) in
    rw (same, any_word k.l rest w k.token) (joined_reads k.l rest w n k.token f a b)

alpha_reads : (k l m z : Lexeme) (rest : List Lexeme) (n : ℕ) → k.token ≡ Word (codes "ALPHA") → l.token ≡ Sign 40 → m.token ≡ Number n → z.token ≡ Sign 41 → 1 ≤ n → n ≤ 200 → kind_at (k ∷ l ∷ m ∷ z ∷ rest) ≡ Ok (Alpha n, rest)
unfolding kind_at alpha_at
alpha_reads k l m z rest n a b c d e f =
    let picked : starts (is_word (codes "ALPHA")) (k ∷ l ∷ m ∷ z ∷ rest) ≡ true = rw a refl in
    rw (picked, word_reads (codes "ALPHA") k (l ∷ m ∷ z ∷ rest) refl a, size_reads 200 l m z rest n b c d e f) refl

field_reads : (k l m z : Lexeme) (rest : List Lexeme) (n : ℕ) → k.token ≡ Word (codes "FIELD") → l.token ≡ Sign 40 → m.token ≡ Number n → z.token ≡ Sign 41 → 1 ≤ n → n ≤ 48 → kind_at (k ∷ l ∷ m ∷ z ∷ rest) ≡ Ok (Field n, rest)
unfolding kind_at field_at
field_reads k l m z rest n a b c d e f =
    let p : starts (is_word (codes "ALPHA")) (k ∷ l ∷ m ∷ z ∷ rest) ≡ false = rw a refl in
    let q : starts (is_word (codes "NUMBER")) (k ∷ l ∷ m ∷ z ∷ rest) ≡ false = rw a refl in
    let r : starts (is_word (codes "BOOLEAN")) (k ∷ l ∷ m ∷ z ∷ rest) ≡ false = rw a refl in
    rw (p, q, r, word_reads (codes "FIELD") k (l ∷ m ∷ z ∷ rest) refl a, size_reads 48 l m z rest n b c d e f) refl

truth_reads : (k : Lexeme) (rest : List Lexeme) → k.token ≡ Word (codes "BOOLEAN") → kind_at (k ∷ rest) ≡ Ok (Truth, rest)
unfolding kind_at truth_at
truth_reads k rest a =
    let p : starts (is_word (codes "ALPHA")) (k ∷ rest) ≡ false = rw a refl in
    let q : starts (is_word (codes "NUMBER")) (k ∷ rest) ≡ false = rw a refl in
    let r : starts (is_word (codes "BOOLEAN")) (k ∷ rest) ≡ true = rw a refl in
    rw (p, q, r, word_reads (codes "BOOLEAN") k rest refl a) refl

decimal_reads : (k l z : Lexeme) (ws ps rest : List Lexeme) (n m : ℕ) (s : Bool) → k.token ≡ Word (codes "NUMBER") → l.token ≡ Sign 40 → z.token ≡ Sign 41 → width_at (ws ++ (ps ++ (z ∷ rest))) ≡ Ok ((s, n), ps ++ (z ∷ rest)) → places_at n (ps ++ (z ∷ rest)) ≡ Ok (m, z ∷ rest) → kind_at (k ∷ l ∷ (ws ++ (ps ++ (z ∷ rest)))) ≡ Ok (Digits n m s, rest)
unfolding kind_at decimal_at
decimal_reads k l z ws ps rest n m s a b c w p =
    let not_alpha : starts (is_word (codes "ALPHA")) (k ∷ l ∷ (ws ++ (ps ++ (z ∷ rest)))) ≡ false = rw a refl in
    let picked : starts (is_word (codes "NUMBER")) (k ∷ l ∷ (ws ++ (ps ++ (z ∷ rest)))) ≡ true = rw a refl in
    rw (not_alpha, picked, word_reads (codes "NUMBER") k (l ∷ (ws ++ (ps ++ (z ∷ rest)))) refl a, sign_reads 40 l (ws ++ (ps ++ (z ∷ rest))) refl b, w, p, sign_reads 41 z rest refl c) refl

reads : (kind : ItemKind) (xs : List Token) → SpellsKind kind xs → (us rest : List Lexeme) → map token_of us ≡ xs → kind_at (us ++ rest) ≡ Ok (kind, rest)
reads _ _ (an_alpha n a b) us rest e =
    let k = heads us (Word (codes "ALPHA")) (Sign 40 ∷ (Number n ∷ (Sign 41 ∷ []))) e in
    let l = heads k.b (Sign 40) (Number n ∷ (Sign 41 ∷ [])) k.back in
    let m = heads l.b (Number n) (Sign 41 ∷ []) l.back in
    let z = heads m.b (Sign 41) [] m.back in
    let same : us ≡ k.l ∷ l.l ∷ m.l ∷ z.l ∷ [] = k.all ∙ ap (λ (vs : List Lexeme). k.l ∷ vs) (l.all ∙ ap (λ (vs : List Lexeme). l.l ∷ vs) (m.all ∙ ap (λ (vs : List Lexeme). m.l ∷ vs) (z.all ∙ ap (λ (vs : List Lexeme). z.l ∷ vs) (none_left z.b z.back)))) in
    rw same (alpha_reads k.l l.l m.l z.l rest n k.token l.token m.token z.token a b)
reads _ _ (a_field n a b) us rest e =
    let k = heads us (Word (codes "FIELD")) (Sign 40 ∷ (Number n ∷ (Sign 41 ∷ []))) e in
    let l = heads k.b (Sign 40) (Number n ∷ (Sign 41 ∷ [])) k.back in
    let m = heads l.b (Number n) (Sign 41 ∷ []) l.back in
    let z = heads m.b (Sign 41) [] m.back in
    let same : us ≡ k.l ∷ l.l ∷ m.l ∷ z.l ∷ [] = k.all ∙ ap (λ (vs : List Lexeme). k.l ∷ vs) (l.all ∙ ap (λ (vs : List Lexeme). l.l ∷ vs) (m.all ∙ ap (λ (vs : List Lexeme). m.l ∷ vs) (z.all ∙ ap (λ (vs : List Lexeme). z.l ∷ vs) (none_left z.b z.back)))) in
    rw same (field_reads k.l l.l m.l z.l rest n k.token l.token m.token z.token a b)
reads _ _ a_truth us rest e =
    let k = heads us (Word (codes "BOOLEAN")) [] e in
    let same : us ≡ k.l ∷ [] = k.all ∙ ap (λ (vs : List Lexeme). k.l ∷ vs) (none_left k.b k.back) in
    rw same (truth_reads k.l rest k.token)
reads _ _ (a_number n m s xs ys w p) us rest e =
    let k = heads us (Word (codes "NUMBER")) (Sign 40 ∷ (xs ++ (ys ++ (Sign 41 ∷ [])))) e in
    let l = heads k.b (Sign 40) (xs ++ (ys ++ (Sign 41 ∷ []))) k.back in
    let a = splits l.b xs (ys ++ (Sign 41 ∷ [])) l.back in
    let b = splits a.b ys (Sign 41 ∷ []) a.back in
    let z = heads b.b (Sign 41) [] b.back in
    let tail : l.b ≡ a.a ++ (b.a ++ (z.l ∷ [])) = a.all ∙ ap (λ (vs : List Lexeme). a.a ++ vs) (b.all ∙ ap (λ (vs : List Lexeme). b.a ++ vs) (z.all ∙ ap (λ (vs : List Lexeme). z.l ∷ vs) (none_left z.b z.back))) in
    let same : us ++ rest ≡ k.l ∷ l.l ∷ (a.a ++ (b.a ++ (z.l ∷ rest))) = ap (λ (vs : List Lexeme). vs ++ rest) (k.all ∙ ap (λ (vs : List Lexeme). k.l ∷ vs) (l.all ∙ ap (λ (vs : List Lexeme). l.l ∷ vs) tail)) ∙ ap (λ (vs : List Lexeme). k.l ∷ l.l ∷ vs) (simp append_assoc) in
    rw same (decimal_reads k.l l.l z.l a.a b.a rest n m s k.token l.token z.token (width_reads s n xs w a.a (b.a ++ (z.l ∷ rest)) a.front) (places_reads n m ys p b.a z.l rest b.front z.token))

pub kind_complete : (us rest : List Lexeme) (kind : ItemKind) → SpellsKind kind (map token_of us) → kind_at (us ++ rest) ≡ Ok (kind, rest)
kind_complete us rest kind d = reads kind (map token_of us) d us rest refl
