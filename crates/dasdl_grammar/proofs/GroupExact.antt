-- A group is read exactly.
use Rattle.std.proofs.Common.{◌+◌, ◌≡◌, ◌≤◌, ◌<◌, ℕ, List, [], ◌∷◌, ◌++◌, map, length, length-append, Bool, true, false, cond, not, refl, sym, ap, ◌∙◌, subst, arith, append_assoc}
use Rattle.std.proofs.lemmas.List.{map-append}
use Rattle.std.proofs.lemmas.Bool.Decides.{nat_tests}
use Rattle.std.specs.Prelude.{codes, nat_le}
use Rattle.std.specs.declared.result.Result.TheVariants.{Ok}
use Rattle.dms_base.specs.Name.{is_name}
use Rattle.dms_base.specs.declared.kind.ItemKind.{ItemKind}
use Rattle.dms_tokens.specs.declared.token.Token.{Token}
use Rattle.dms_tokens.specs.declared.token.Token.TheVariants.{Word, Sign}
use Rattle.dms_tokens.specs.declared.token.Lexeme.{Lexeme}
use Rattle.dasdl_parse.specs.declared.declarations.ItemDecl.{ItemDecl}
use Rattle.dasdl_parse.specs.declared.declarations.DataSetDecl.{DataSetDecl}
use Rattle.dasdl_parse.specs.declared.items.GroupItems.{GroupItems}
use Rattle.dasdl_phrases.specs.Reads.{◌>>=◌}
use Rattle.dms_tokens.specs.Cursors.{place_at, starts, is_word}
use Rattle.dasdl_phrases.specs.Cursors.{word_at, sign_at, name_at, turns_at, until_close}
use Rattle.dasdl_phrases.specs.Kinds.{starts_kind}
use Rattle.dasdl_parse.specs.Items.{item_at, group_item_at, next_group_item_at, group_at}
use Rattle.dasdl_parse.specs.Grammar.{restart_at, data_set_at}
use Rattle.dasdl_phrases.specs.CondSpelling.{token_of, Reads}
use Rattle.dasdl_phrases.specs.KindSpelling.{SpellsKind}
use Rattle.dasdl_phrases.specs.KindSpelling.SpellsKind.{an_alpha, a_number, a_truth, a_field}
use Rattle.dasdl_parse.specs.ItemSpelling.{IsItem}
use Rattle.dasdl_parse.specs.ItemSpelling.IsItem.{an_item}
use Rattle.dasdl_grammar.specs.GroupSpelling.{IsNamedItem, AreItems, IsGroup}
use Rattle.dasdl_grammar.specs.GroupSpelling.IsNamedItem.{a_named_item}
use Rattle.dasdl_grammar.specs.GroupSpelling.AreItems.{first_item, next_item}
use Rattle.dasdl_grammar.specs.GroupSpelling.IsGroup.{a_group}
use Rattle.dasdl_grammar.specs.SetSpelling.{IsHead}
use Rattle.dasdl_grammar.specs.SetSpelling.IsHead.{a_head, a_restart_head}
use Rattle.dasdl_phrases.proofs.Inverting.{bind_ok, skip_ok, ok_same}
use Rattle.dasdl_phrases.proofs.SpelledTokens.{word_spelled, sign_spelled, name_spelled}
use Rattle.dasdl_phrases.proofs.CondSound.{pick}
use Rattle.dasdl_phrases.proofs.CondComplete.{RunsBranches, joins, turns_at-runs, heads, none_left, word_reads, sign_reads, name_reads}
use Rattle.dasdl_phrases.proofs.CondComplete.RunsBranches.{here, step}
use Rattle.dasdl_parse.proofs.ItemExact.{item_sound, item_complete}
use Rattle.dasdl_grammar.proofs.SaidExact.{Went, turns_at-went}
use Rattle.dasdl_grammar.specs.SaidSpelling.{SpellsFirst}

-- one more item was read
record ItemRead (s t : GroupItems) (ts rest : List Lexeme) : Type 0 where
  item : ItemDecl
  used : List Lexeme
  is : IsNamedItem item used
  all : ts ≡ used ++ rest
  items : t.items ≡ s.items ++ item ∷ []
  count : t.count ≡ s.count + 1
  few : s.count < 60

one_sound : (s t : GroupItems) (ts rest : List Lexeme) → next_group_item_at s ts ≡ Ok (t, rest) → ItemRead s t ts rest
unfolding next_group_item_at group_item_at
one_sound s t ts rest h =
    let a = bind_ok (name_at ts) _ _ h in
    let b = skip_ok (not (starts_kind a.0.1)) _ _ _ a.2 in
    let c = skip_ok (nat_le 60 s.count) _ _ _ b.1 in
    let d = bind_ok (item_at (place_at ts) a.0.0 a.0.1) _ _ c.1 in
    let n = name_spelled ts a.0.0 a.0.1 a.1 in
    let i = item_sound (place_at ts) a.0.0 a.0.1 d.0.0 d.0.1 d.1 in
    let below : nat_le 60 s.count ≡ false = c.0 in
    let placed : IsItem n.1.first.place a.0.0 d.0.0 (map token_of i.used) = subst (λ (p : ℕ). IsItem p a.0.0 d.0.0 (map token_of i.used)) (ap place_at n.1.all) i.is in
    subst (λ (x : GroupItems × List Lexeme). ItemRead s x.0 ts x.1) (ok_same (record { items = s.items ++ d.0.0 ∷ []; count = s.count + 1 }, d.0.1) (t, rest) d.2) (record {
      item = d.0.0;
      used = n.1.first ∷ i.used;
      is = a_named_item n.1.first a.0.0 d.0.0 i.used n.1.token n.0 placed;
      all = n.1.all ∙ ap (λ (xs : List Lexeme). n.1.first ∷ xs) i.all;
      items = refl;
      count = refl;
      few = grind (arith, nat_tests);
    })

-- the items so far, which are counted, and no more than 60
record Gathers (count : ℕ) (s : GroupItems) (us : List Lexeme) : Type 0 where
  are : AreItems s.items us
  total : s.count ≡ count + length s.items
  few : s.count ≤ 60

more_items : (count : ℕ) (s t : GroupItems) (us ts rest : List Lexeme) → Gathers count s us → next_group_item_at s ts ≡ Ok (t, rest) → Went (Gathers count) t us ts rest
more_items count s t us ts rest g h =
    let r = one_sound s t ts rest h in
    let are : AreItems t.items (us ++ r.used) = subst (λ (x : List ItemDecl). AreItems x (us ++ r.used)) (sym r.items) (next_item s.items r.item us r.used g.are r.is) in
    let long : length t.items ≡ length s.items + 1 = ap (λ (x : List ItemDecl). length x) r.items ∙ omega (arith, length-append s.items (r.item ∷ [])) in
    record { used = r.used; is = record { are = are; total = omega (arith, long, g.total, r.count); few = omega (arith, r.few, r.count) }; all = r.all }

regroup : (m g : List Lexeme) (y z : Lexeme) (r : List Lexeme) → m ++ (g ++ (y ∷ (z ∷ r))) ≡ ((m ++ g) ++ (y ∷ (z ∷ []))) ++ r
regroup m g y z r = sym (append_assoc (m ++ g) (y ∷ (z ∷ [])) r ∙ append_assoc m g (y ∷ (z ∷ r)))

pub group_sound : (count : ℕ) (ts : List Lexeme) (s : GroupItems) (rest : List Lexeme) → group_at count ts ≡ Ok (s, rest) → SpellsFirst IsGroup ts s.items rest × (s.count ≡ count + length s.items) × (s.count ≤ 60)
unfolding group_at
group_sound count ts s rest h =
    let a = bind_ok (word_at (codes "GROUP") ts) _ _ h in
    let b = bind_ok (sign_at 40 a.0) _ _ a.2 in
    let c = bind_ok (next_group_item_at (record { items = []; count = count }) b.0) _ _ b.2 in
    let d = bind_ok (turns_at until_close next_group_item_at c.0.0 c.0.1) _ _ c.2 in
    let e = bind_ok (sign_at 41 d.0.1) _ _ d.2 in
    let f = bind_ok (sign_at 59 e.0) _ _ e.2 in
    let k = word_spelled (codes "GROUP") ts a.0 a.1 in
    let o = sign_spelled 40 a.0 b.0 b.1 in
    let m = one_sound (record { items = []; count = count }) c.0.0 b.0 c.0.1 c.1 in
    let are : AreItems c.0.0.items m.used = subst (λ (x : List ItemDecl). AreItems x m.used) (sym m.items) (first_item m.item m.used m.is) in
    let long : length c.0.0.items ≡ 1 = ap (λ (x : List ItemDecl). length x) m.items in
    let start : Gathers count c.0.0 m.used = record { are = are; total = omega (arith, long, m.count); few = omega (arith, m.few, m.count) } in
    let g = turns_at-went (Gathers count) until_close next_group_item_at (more_items count) c.0.0 d.0.0 m.used c.0.1 d.0.1 start d.1 in
    let y = sign_spelled 41 d.0.1 e.0 e.1 in
    let z = sign_spelled 59 e.0 f.0 f.1 in
    let all : ts ≡ (k.first ∷ (o.first ∷ ((m.used ++ g.used) ++ (y.first ∷ (z.first ∷ []))))) ++ f.0 = k.all ∙ ap (λ (xs : List Lexeme). k.first ∷ xs) (o.all ∙ ap (λ (xs : List Lexeme). o.first ∷ xs) (m.all ∙ ap (λ (xs : List Lexeme). m.used ++ xs) (g.all ∙ ap (λ (xs : List Lexeme). g.used ++ xs) (y.all ∙ ap (λ (xs : List Lexeme). y.first ∷ xs) z.all)) ∙ regroup m.used g.used y.first z.first f.0)) in
    subst (λ (x : GroupItems × List Lexeme). SpellsFirst IsGroup ts x.0.items x.1 × (x.0.count ≡ count + length x.0.items) × (x.0.count ≤ 60)) (ok_same (d.0.0, f.0) (s, rest) f.2)
    ((k.first ∷ (o.first ∷ ((m.used ++ g.used) ++ (y.first ∷ (z.first ∷ [])))), a_group k.first o.first y.first z.first d.0.0.items (m.used ++ g.used) k.token o.token g.is.are y.token z.token, all), g.is.total, g.is.few)

-- a type's first word
kind_first : (kind : ItemKind) (xs : List Token) → SpellsKind kind xs → (us rest : List Lexeme) (ys : List Token) → map token_of us ≡ xs ++ ys → starts_kind (us ++ rest) ≡ true
kind_first _ _ (an_alpha n a b) us rest ys e = let k = heads us (Word (codes "ALPHA")) _ e in rw (k.all, k.token) refl
kind_first _ _ (a_number n m s xs zs w p) us rest ys e = let k = heads us (Word (codes "NUMBER")) _ e in rw (k.all, k.token) refl
kind_first _ _ a_truth us rest ys e = let k = heads us (Word (codes "BOOLEAN")) _ e in rw (k.all, k.token) refl
kind_first _ _ (a_field n a b) us rest ys e = let k = heads us (Word (codes "FIELD")) _ e in rw (k.all, k.token) refl

pub item_first : (place : ℕ) (name : List ℕ) (item : ItemDecl) (ws : List Token) → IsItem place name item ws → (us rest : List Lexeme) → map token_of us ≡ ws → starts_kind (us ++ rest) ≡ true
item_first _ _ _ _ (an_item place name kind said xs ys d o) us rest e = kind_first kind xs d us rest (ys ++ (Sign 59 ∷ [])) e

item_step : (s : GroupItems) (l : Lexeme) (name : List ℕ) (item : ItemDecl) (vs rest : List Lexeme) → l.token ≡ Word name → is_name name ≡ true → IsItem l.place name item (map token_of vs) → s.count < 60 → next_group_item_at s (l ∷ (vs ++ rest)) ≡ Ok (record { items = s.items ++ item ∷ []; count = s.count + 1 }, rest)
unfolding next_group_item_at group_item_at
item_step s l name item vs rest e n i few =
    let below : nat_le 60 s.count ≡ false = grind (arith, nat_tests) in
    rw (name_reads l (vs ++ rest) name e n, item_first l.place name item (map token_of vs) i vs rest refl, below, item_complete l.place name vs rest item i) refl

named_step : (s : GroupItems) (item : ItemDecl) (us : List Lexeme) → IsNamedItem item us → (rest : List Lexeme) → s.count < 60 → next_group_item_at s (us ++ rest) ≡ Ok (record { items = s.items ++ item ∷ []; count = s.count + 1 }, rest)
named_step s _ _ (a_named_item l name item vs e n i) rest few = item_step s l name item vs rest e n i few

-- the first item is read, and turns read the others
record ReadsItems (count : ℕ) (items : List ItemDecl) (us rest : List Lexeme) : Type 0 where
  start : GroupItems
  mid : List Lexeme
  first : next_group_item_at (record { items = []; count = count }) (us ++ rest) ≡ Ok (start, mid)
  others : RunsBranches until_close next_group_item_at start mid (record { items = items; count = count + length items }) rest

not_closed : (item : ItemDecl) (us : List Lexeme) → IsNamedItem item us → (s : GroupItems) (rest : List Lexeme) → until_close s (us ++ rest) ≡ false
not_closed _ _ (a_named_item l name item vs e n i) s rest = rw e refl

shorter : (item : ItemDecl) (us : List Lexeme) → IsNamedItem item us → (rest : List Lexeme) → length rest < length (us ++ rest)
shorter _ _ (a_named_item l name item vs e n i) rest = omega (arith, length-append vs rest)

items_read : (count : ℕ) (items : List ItemDecl) (us : List Lexeme) → AreItems items us → (rest : List Lexeme) → count + length items ≤ 60 → ReadsItems count items us rest
items_read count _ _ (first_item item us d) rest few = record {
  start = record { items = item ∷ []; count = count + 1 };
  mid = rest;
  first = named_step (record { items = []; count = count }) item us d rest (omega arith);
  others = here (record { items = item ∷ []; count = count + 1 }) rest;
}
items_read count _ _ (next_item items item us vs d f) rest few =
    let long = length-append items (item ∷ []) in
    let before = items_read count items us d (vs ++ rest) (omega (arith, few, long)) in
    let fewer : count + length items < 60 = omega (arith, few, long) in
    let now : GroupItems = record { items = items; count = count + length items } in
    let total : count + length items + 1 ≡ count + length (items ++ item ∷ []) = omega (arith, long) in
    let one = subst (λ (n : ℕ). next_group_item_at now (vs ++ rest) ≡ Ok (record { items = items ++ item ∷ []; count = n }, rest)) total (named_step now item vs f rest fewer) in
    let last = step now (record { items = items ++ item ∷ []; count = count + length (items ++ item ∷ []) }) (record { items = items ++ item ∷ []; count = count + length (items ++ item ∷ []) }) (vs ++ rest) rest rest (not_closed item vs f now rest) one (shorter item vs f rest) (here _ rest) in
    record {
      start = before.start;
      mid = before.mid;
      first = rw (append_assoc us vs rest) before.first;
      others = joins until_close next_group_item_at before.start now (record { items = items ++ item ∷ []; count = count + length (items ++ item ∷ []) }) before.mid (vs ++ rest) rest before.others last;
    }

group_step : (count : ℕ) (g o c z : Lexeme) (ts mid rest : List Lexeme) (start s : GroupItems) → g.token ≡ Word (codes "GROUP") → o.token ≡ Sign 40 → next_group_item_at (record { items = []; count = count }) ts ≡ Ok (start, mid) → turns_at until_close next_group_item_at start mid ≡ Ok (s, c ∷ (z ∷ rest)) → c.token ≡ Sign 41 → z.token ≡ Sign 59 → group_at count (g ∷ (o ∷ ts)) ≡ Ok (s, rest)
unfolding group_at
group_step count g o c z ts mid rest start s a b first others d e =
    rw (word_reads (codes "GROUP") g (o ∷ ts) refl a, sign_reads 40 o ts refl b, first, others, sign_reads 41 c (z ∷ rest) refl d, sign_reads 59 z rest refl e) refl

pub group_complete : (count : ℕ) (us rest : List Lexeme) (items : List ItemDecl) → IsGroup items us → count + length items ≤ 60 → group_at count (us ++ rest) ≡ Ok (record { items = items; count = count + length items }, rest)
group_complete count _ rest _ (a_group g o c z items us a b d y e) few =
    let r = items_read count items us d (c ∷ (z ∷ rest)) few in
    let ended : until_close {S = GroupItems} (record { items = items; count = count + length items }) (c ∷ (z ∷ rest)) ≡ true = rw y refl in
    let all = turns_at-runs until_close next_group_item_at r.start (record { items = items; count = count + length items }) r.mid (c ∷ (z ∷ rest)) r.others ended in
    rw (append_assoc us (c ∷ (z ∷ [])) rest) (group_step count g o c z (us ++ (c ∷ (z ∷ rest))) r.mid rest r.start (record { items = items; count = count + length items }) a b r.first all y e)

-- [ RESTART ] DATA SET (
restart_sound : (ts : List Lexeme) (r : Bool) (rest : List Lexeme) → restart_at ts ≡ Ok (r, rest) → (used : List Lexeme) × (ts ≡ used ++ rest) × (map token_of used ≡ cond r (Word (codes "RESTART") ∷ []) [])
unfolding restart_at
restart_sound ts r rest h =
    pick {A = Bool × List Lexeme} (starts (is_word (codes "RESTART")) ts) _ _ (r, rest)
    (λ e.
    let a = bind_ok (word_at (codes "RESTART") ts) _ _ e in
    let k = word_spelled (codes "RESTART") ts a.0 a.1 in
    subst (λ (x : Bool × List Lexeme). (used : List Lexeme) × (ts ≡ used ++ x.1) × (map token_of used ≡ cond x.0 (Word (codes "RESTART") ∷ []) [])) (ok_same (true, a.0) (r, rest) a.2) (k.first ∷ [], k.all, ap (λ (t : Token). t ∷ []) k.token))
    (λ e. subst (λ (x : Bool × List Lexeme). (used : List Lexeme) × (ts ≡ used ++ x.1) × (map token_of used ≡ cond x.0 (Word (codes "RESTART") ∷ []) [])) (ok_same (false, ts) (r, rest) e) ([], refl, refl)) h

head_by : (place : ℕ) (name : List ℕ) (r : Bool) → IsHead place name (record { place = place; name = name; restart = r }) (cond r (Word (codes "RESTART") ∷ []) [] ++ (Word (codes "DATA") ∷ (Word (codes "SET") ∷ (Sign 40 ∷ []))))
head_by place name true = a_restart_head
head_by place name false = a_head

pub head_sound : (place : ℕ) (name : List ℕ) (ts : List Lexeme) (head : DataSetDecl) (rest : List Lexeme) → data_set_at place name ts ≡ Ok (head, rest) → Reads (IsHead place name) ts head rest
unfolding data_set_at
head_sound place name ts head rest h =
    let a = bind_ok (restart_at ts) _ _ h in
    let b = bind_ok (word_at (codes "DATA") a.0.1) _ _ a.2 in
    let c = bind_ok (word_at (codes "SET") b.0) _ _ b.2 in
    let d = bind_ok (sign_at 40 c.0) _ _ c.2 in
    let r = restart_sound ts a.0.0 a.0.1 a.1 in
    let k = word_spelled (codes "DATA") a.0.1 b.0 b.1 in
    let l = word_spelled (codes "SET") b.0 c.0 c.1 in
    let m = sign_spelled 40 c.0 d.0 d.1 in
    let toks : map token_of (r.0 ++ (k.first ∷ (l.first ∷ (m.first ∷ [])))) ≡ cond a.0.0 (Word (codes "RESTART") ∷ []) [] ++ (Word (codes "DATA") ∷ (Word (codes "SET") ∷ (Sign 40 ∷ []))) = rw (map-append token_of r.0 (k.first ∷ (l.first ∷ (m.first ∷ []))), r.2, k.token, l.token, m.token) refl in
    let all : ts ≡ (r.0 ++ (k.first ∷ (l.first ∷ (m.first ∷ [])))) ++ d.0 = r.1 ∙ ap (λ (xs : List Lexeme). r.0 ++ xs) (k.all ∙ ap (λ (xs : List Lexeme). k.first ∷ xs) (l.all ∙ ap (λ (xs : List Lexeme). l.first ∷ xs) m.all)) ∙ sym (append_assoc r.0 (k.first ∷ (l.first ∷ (m.first ∷ []))) d.0) in
    subst (λ (x : DataSetDecl × List Lexeme). Reads (IsHead place name) ts x.0 x.1) (ok_same (record { place = place; name = name; restart = a.0.0 }, d.0) (head, rest) d.2)
    (record { used = r.0 ++ (k.first ∷ (l.first ∷ (m.first ∷ []))); is = rw toks (head_by place name a.0.0); all = all })

plain_head : (place : ℕ) (name : List ℕ) (k l m : Lexeme) (rest : List Lexeme) → k.token ≡ Word (codes "DATA") → l.token ≡ Word (codes "SET") → m.token ≡ Sign 40 → data_set_at place name (k ∷ (l ∷ (m ∷ rest))) ≡ Ok (record { place = place; name = name; restart = false }, rest)
unfolding data_set_at restart_at word_at sign_at
plain_head place name k l m rest a b c = rw (a, b, c) refl

restart_head : (place : ℕ) (name : List ℕ) (r k l m : Lexeme) (rest : List Lexeme) → r.token ≡ Word (codes "RESTART") → k.token ≡ Word (codes "DATA") → l.token ≡ Word (codes "SET") → m.token ≡ Sign 40 → data_set_at place name (r ∷ (k ∷ (l ∷ (m ∷ rest)))) ≡ Ok (record { place = place; name = name; restart = true }, rest)
unfolding data_set_at restart_at word_at sign_at
restart_head place name r k l m rest d a b c = rw (d, a, b, c) refl

head_reads : (place : ℕ) (name : List ℕ) (head : DataSetDecl) (xs : List Token) → IsHead place name head xs → (us rest : List Lexeme) → map token_of us ≡ xs → data_set_at place name (us ++ rest) ≡ Ok (head, rest)
head_reads place name _ _ a_head us rest e =
    let k = heads us (Word (codes "DATA")) (Word (codes "SET") ∷ (Sign 40 ∷ [])) e in
    let l = heads k.b (Word (codes "SET")) (Sign 40 ∷ []) k.back in
    let m = heads l.b (Sign 40) [] l.back in
    let same : us ≡ k.l ∷ (l.l ∷ (m.l ∷ [])) = k.all ∙ ap (λ (vs : List Lexeme). k.l ∷ vs) (l.all ∙ ap (λ (vs : List Lexeme). l.l ∷ vs) (m.all ∙ ap (λ (vs : List Lexeme). m.l ∷ vs) (none_left m.b m.back))) in
    rw same (plain_head place name k.l l.l m.l rest k.token l.token m.token)
head_reads place name _ _ a_restart_head us rest e =
    let r = heads us (Word (codes "RESTART")) (Word (codes "DATA") ∷ (Word (codes "SET") ∷ (Sign 40 ∷ []))) e in
    let k = heads r.b (Word (codes "DATA")) (Word (codes "SET") ∷ (Sign 40 ∷ [])) r.back in
    let l = heads k.b (Word (codes "SET")) (Sign 40 ∷ []) k.back in
    let m = heads l.b (Sign 40) [] l.back in
    let same : us ≡ r.l ∷ (k.l ∷ (l.l ∷ (m.l ∷ []))) = r.all ∙ ap (λ (vs : List Lexeme). r.l ∷ vs) (k.all ∙ ap (λ (vs : List Lexeme). k.l ∷ vs) (l.all ∙ ap (λ (vs : List Lexeme). l.l ∷ vs) (m.all ∙ ap (λ (vs : List Lexeme). m.l ∷ vs) (none_left m.b m.back)))) in
    rw same (restart_head place name r.l k.l l.l m.l rest r.token k.token l.token m.token)

pub head_complete : (place : ℕ) (name : List ℕ) (us rest : List Lexeme) (head : DataSetDecl) → IsHead place name head (map token_of us) → data_set_at place name (us ++ rest) ≡ Ok (head, rest)
head_complete place name us rest head d = head_reads place name head (map token_of us) d us rest refl
