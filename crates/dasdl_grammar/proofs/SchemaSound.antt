-- A schema that was read is one of the grammar within the limits.
use Rattle.std.proofs.Common.{◌+◌, ◌≡◌, ◌≤◌, ◌<◌, ℕ, suc, List, [], ◌∷◌, ◌++◌, map, length, Bool, true, false, cond, not, ◌&&◌, ◌||◌, refl, sym, ap, ◌∙◌, subst, arith, append_assoc, IsTrue}
use Rattle.std.proofs.lemmas.Bool.{and_parts, not-true, not-false}
use Rattle.std.proofs.lemmas.Bool.Decides.{nat_tests}
use Rattle.std.specs.Prelude.{codes, nat_le}
use Rattle.std.specs.declared.result.Result.{Result}
use Rattle.std.specs.declared.result.Result.TheVariants.{Ok}
use Rattle.dms_base.specs.Name.{is_name}
use Rattle.dasdl_phrases.specs.declared.fault.ParseFault.{ParseFault}
use Rattle.dms_tokens.specs.declared.token.Token.TheVariants.{Word}
use Rattle.dms_tokens.specs.declared.token.Lexeme.{Lexeme}
use Rattle.dasdl_parse.specs.declared.schema.Parameters.{Parameters}
use Rattle.dasdl_parse.specs.declared.schema.Schema.{Schema}
use Rattle.dasdl_parse.specs.declared.declarations.Declaration.{Declaration}
use Rattle.dasdl_parse.specs.declared.declarations.Declaration.TheVariants.{DataSet, Item, Group, Link, SetOf, End as EndOf}
use Rattle.dasdl_parse.specs.declared.declarations.DataSetDecl.{DataSetDecl}
use Rattle.dasdl_parse.specs.declared.declarations.DataSetEnd.{DataSetEnd}
use Rattle.dasdl_parse.specs.declared.within.Open.{Open}
use Rattle.dasdl_parse.specs.declared.within.Open.TheVariants.{Outside, One, Two, Three}
use Rattle.dasdl_parse.specs.declared.grammar.Progress.{Progress}
use Rattle.dasdl_phrases.specs.Reads.{◌>>=◌}
use Rattle.dms_tokens.specs.Cursors.{place_at, starts, is_word, is_the_sign, is_end}
use Rattle.dasdl_phrases.specs.Cursors.{name_at, turns_at}
use Rattle.dasdl_phrases.specs.Kinds.{starts_kind}
use Rattle.dasdl_parse.specs.Grammar.{items_of, with_items, open_data_set, close_data_set, is_inside, is_deepest, add_declaration, with_pairs, with_audit_pairs, parameters_turn_at, audit_turn_at, item_turn_at, group_turn_at, counted_with, link_turn_at, starts_set, starts_data_set, structure_turn_at, declared_turn_at, end_turn_at, named_turn_at, schema_turn_at, schema_done, no_progress, schema_at}
use Rattle.dasdl_parse.specs.Sets.{set_at}
use Rattle.dasdl_parse.specs.Items.{item_at, group_at, link_at}
use Rattle.dasdl_parse.specs.Grammar.{data_set_at, data_set_end_at}
use Rattle.dasdl_phrases.specs.CondSpelling.{token_of}
use Rattle.dasdl_grammar.specs.SetSpelling.{IsHead, IsEnd}
use Rattle.dasdl_grammar.specs.SchemaSpelling.{IsSchema, structures_in, counted_in, Many, Members, Declares}
use Rattle.dasdl_grammar.specs.SchemaSpelling.Many.{Single, Several}
use Rattle.dasdl_grammar.specs.SchemaSpelling.Declares.{no_declaration, then_parameters, then_audit, then_structure}
use Rattle.dasdl_grammar.specs.ParameterSpelling.AreParameters.{parameters}
use Rattle.dasdl_parse.specs.Parameters.{parameters_at, audit_at}
use Rattle.dasdl_grammar.specs.SchemaSpelling.Members.{a_set, a_data_set, an_item, a_link, a_group, a_first, a_further}
use Rattle.dasdl_phrases.proofs.Inverting.{bind_ok, skip_ok, ok_same}
use Rattle.dasdl_phrases.proofs.SpelledTokens.{name_spelled}
use Rattle.dasdl_phrases.proofs.CondSound.{pick}
use Rattle.dasdl_parse.proofs.ItemExact.{item_sound, link_sound}
use Rattle.dasdl_grammar.proofs.GroupExact.{group_sound, head_sound}
use Rattle.dasdl_grammar.proofs.SetComplete.{set_sound, end_sound}
use Rattle.dasdl_grammar.proofs.ParametersExact.{parameters_sound, audit_sound}
use Rattle.dasdl_grammar.proofs.SaidExact.{Went, turns_at-went}
use Rattle.dasdl_phrases.proofs.TurnsSound.{turns_at-ends}
use Rattle.dasdl_parse.specs.Grammar.{schema_of}
use Rattle.dms_tokens.specs.Tokens.{tokens_of}
use Rattle.std.specs.Prelude.{nat_lt}
use Rattle.dasdl_grammar.proofs.SchemaComplete.{schema_complete, depth_of, structures-append, counted-append, depth_with, items_with, with_again, depth_opened, none_opened, closed_again, no_more_items, counted_is}

-- what has been read, where so many data sets are open
data StandsOpen (p : Parameters) (b a : Bool) : Open → Bool → List Declaration → List Lexeme → Type 0 where
  outside : (ds : List Declaration) (us : List Lexeme) → Declares p b a ds us → StandsOpen p b a Outside false ds us
  begun : (o : Open) (f : Bool) (ds : List Declaration) (us : List Lexeme) (l : Lexeme) (name : List ℕ) (head : DataSetDecl) (hs : List Lexeme) → StandsOpen p b a o f ds us → depth_of o < 3 → l.token ≡ Word name → IsTrue (is_name name) → IsHead l.place name head (map token_of hs) → StandsOpen p b a (open_data_set o) true (ds ++ (DataSet head ∷ [])) (us ++ (l ∷ hs))
  inside : (o : Open) (f : Bool) (ds : List Declaration) (us : List Lexeme) (l : Lexeme) (name : List ℕ) (head : DataSetDecl) (hs : List Lexeme) (n : ℕ) (es : List Declaration) (vs : List Lexeme) → StandsOpen p b a o f ds us → depth_of o < 3 → l.token ≡ Word name → IsTrue (is_name name) → IsHead l.place name head (map token_of hs) → Members Several (suc (depth_of o)) n es vs → n ≤ 60 → StandsOpen p b a (with_items (open_data_set o) n) false ((ds ++ (DataSet head ∷ [])) ++ es) ((us ++ (l ∷ hs)) ++ vs)

no_items : (depth : ℕ) (m : ℕ) (es : List Declaration) (vs : List Lexeme) (k : Many) → Members k depth m es vs → k ≡ Single → depth ≡ 0 → m ≡ 0
no_items _ _ _ _ _ (a_set depth l name set vs shallow e n d) i j = refl
no_items _ _ _ _ _ (a_data_set depth l name head hs n ds us end es shallow e nm h d few z) i j = refl
no_items _ _ _ _ _ (an_item depth l name item vs e n d) i j = absurd (cc)
no_items _ _ _ _ _ (a_link depth l name link vs e n d) i j = absurd (cc)
no_items _ _ _ _ _ (a_group depth l name items vs e n d) i j = absurd (cc)
no_items _ _ _ _ _ (a_first depth n ds us d) i j = absurd (cc)
no_items _ _ _ _ _ (a_further depth n m ds es us vs d f) i j = absurd (cc)

top : (p : Parameters) (b a : Bool) (ds : List Declaration) (us : List Lexeme) (es : List Declaration) (vs : List Lexeme) (m : ℕ) → Declares p b a ds us → Members Single 0 m es vs → Declares p b a (ds ++ es) (us ++ vs)
top p b a ds us es vs m d k = then_structure p b a ds us es vs d (subst (λ (x : ℕ). Members Single 0 x es vs) (no_items 0 m es vs Single k refl refl) k)

-- one more member stands
adds : (p : Parameters) (b a : Bool) (w : Open) (f : Bool) (ds : List Declaration) (us : List Lexeme) → StandsOpen p b a w f ds us → (m : ℕ) (es : List Declaration) (vs : List Lexeme) → Members Single (depth_of w) m es vs → items_of w + m ≤ 60 → StandsOpen p b a (with_items w (items_of w + m)) false (ds ++ es) (us ++ vs)
adds p b a _ _ _ _ (outside ds us d) m es vs k few = outside (ds ++ es) (us ++ vs) (top p b a ds us es vs m d k)
adds p b a _ _ _ _ (begun o f ds us l name head hs s deep e n h) m es vs k few =
    let first : Members Several (suc (depth_of o)) m es vs = subst (λ (x : ℕ). Members Several x m es vs) (depth_opened o deep) (a_first (depth_of (open_data_set o)) m es vs k) in
    let none : items_of (open_data_set o) + m ≡ m = omega (arith, none_opened o deep) in
    subst (λ (x : ℕ). StandsOpen p b a (with_items (open_data_set o) x) false ((ds ++ (DataSet head ∷ [])) ++ es) ((us ++ (l ∷ hs)) ++ vs)) (sym none) (inside o f ds us l name head hs m es vs s deep e n h first (omega (arith, few, none)))
adds p b a _ _ _ _ (inside o f ds us l name head hs n es0 vs0 s deep e nm h members room) m es vs k few =
    let at : depth_of (open_data_set o) ≡ suc (depth_of o) = depth_opened o deep in
    let depth : depth_of (with_items (open_data_set o) n) ≡ suc (depth_of o) = depth_with (open_data_set o) n ∙ at in
    let one : Members Single (suc (depth_of o)) m es vs = subst (λ (x : ℕ). Members Single x m es vs) depth k in
    let more : Members Several (suc (depth_of o)) (n + m) (es0 ++ es) (vs0 ++ vs) = a_further (suc (depth_of o)) n m es0 es vs0 vs members one in
    let count : items_of (with_items (open_data_set o) n) ≡ n = items_with (open_data_set o) n (depth_of o) at in
    let w : with_items (with_items (open_data_set o) n) (items_of (with_items (open_data_set o) n) + m) ≡ with_items (open_data_set o) (n + m) = with_again (open_data_set o) n (items_of (with_items (open_data_set o) n) + m) ∙ ap (λ (x : ℕ). with_items (open_data_set o) (x + m)) count in
    let next = inside o f ds us l name head hs (n + m) (es0 ++ es) (vs0 ++ vs) s deep e nm h more (omega (arith, few, count)) in
    rw (w, append_assoc (ds ++ (DataSet head ∷ [])) es0 es, append_assoc (us ++ (l ∷ hs)) vs0 vs) next

items_few : (p : Parameters) (b a : Bool) (w : Open) (f : Bool) (ds : List Declaration) (us : List Lexeme) → StandsOpen p b a w f ds us → items_of w ≤ 60
items_few p b a _ _ _ _ (outside ds us d) = omega arith
items_few p b a _ _ _ _ (begun o f ds us l name head hs s deep e n h) = omega (arith, none_opened o deep)
items_few p b a _ _ _ _ (inside o f ds us l name head hs n es vs s deep e nm h members room) = omega (arith, items_with (open_data_set o) n (depth_of o) (depth_opened o deep), room)

-- the innermost data set ends
record ClosesDataSet (p : Parameters) (b a : Bool) (w : Open) (ds : List Declaration) (us : List Lexeme) (end : DataSetEnd) (es : List Lexeme) : Type 0 where
  is : StandsOpen p b a (close_data_set w) false (ds ++ (EndOf end ∷ [])) (us ++ es)

narrow : (o : Open) → items_of o ≤ 60 → items_of o + 0 ≤ 60
narrow o h = omega arith

closes : (p : Parameters) (b a : Bool) (w : Open) (f : Bool) (ds : List Declaration) (us : List Lexeme) → StandsOpen p b a w f ds us → (end : DataSetEnd) (zs : List Lexeme) → IsEnd end zs → f ≡ false → is_inside w ≡ true → ClosesDataSet p b a w ds us end zs
closes p b a _ _ _ _ (outside ds us d) end zs z i j = absurd (cc)
closes p b a _ _ _ _ (begun o f ds us l name head hs s deep e n h) end zs z i j = absurd (cc)
closes p b a _ _ _ _ (inside o f ds us l name head hs n es vs s deep e nm h members room) end zs z i j =
    let whole = a_data_set (depth_of o) l name head hs n es vs end zs deep e nm h members room z in
    let placed = adds p b a o f ds us s 0 (DataSet head ∷ (es ++ (EndOf end ∷ []))) (l ∷ (hs ++ (vs ++ zs))) whole (narrow o (items_few p b a o f ds us s)) in
    let same : with_items o (items_of o + 0) ≡ close_data_set (with_items (open_data_set o) n) = no_more_items o ∙ sym (closed_again o n deep) in
    let dss : ds ++ (DataSet head ∷ (es ++ (EndOf end ∷ []))) ≡ ((ds ++ (DataSet head ∷ [])) ++ es) ++ (EndOf end ∷ []) = sym (append_assoc (ds ++ (DataSet head ∷ [])) es (EndOf end ∷ []) ∙ append_assoc ds (DataSet head ∷ []) (es ++ (EndOf end ∷ []))) in
    let uss : us ++ (l ∷ (hs ++ (vs ++ zs))) ≡ ((us ++ (l ∷ hs)) ++ vs) ++ zs = sym (append_assoc (us ++ (l ∷ hs)) vs zs ∙ append_assoc us (l ∷ hs) (vs ++ zs)) in
    record { is = subst (λ (x : Open). StandsOpen p b a x false (((ds ++ (DataSet head ∷ [])) ++ es) ++ (EndOf end ∷ [])) (((us ++ (l ∷ hs)) ++ vs) ++ zs)) same (subst (λ (x : List Declaration). StandsOpen p b a (with_items o (items_of o + 0)) false x (((us ++ (l ∷ hs)) ++ vs) ++ zs)) dss (subst (λ (x : List Lexeme). StandsOpen p b a (with_items o (items_of o + 0)) false (ds ++ (DataSet head ∷ (es ++ (EndOf end ∷ [])))) x) uss placed)) }

-- what holds of a schema so far
record HoldsProgress (s : Progress) (us : List Lexeme) : Type 0 where
  stands : StandsOpen s.parameters s.has_parameters s.has_audit s.within s.fresh s.declarations us
  structures : s.structures ≡ structures_in s.declarations
  few : s.structures ≤ 200
  counted : s.counted ≡ counted_in s.declarations
  fewer : s.counted ≤ 4000

-- a turn that declares one member
member : (s : Progress) (us : List Lexeme) (m st c : ℕ) (d : Declaration) (vs : List Lexeme) → HoldsProgress s us → Members Single (depth_of s.within) m (d ∷ []) vs → items_of s.within + m ≤ 60 → st ≡ s.structures + structures_in (d ∷ []) → st ≤ 200 → c ≡ s.counted + counted_in (d ∷ []) → c ≤ 4000 → HoldsProgress (add_declaration s (with_items s.within (items_of s.within + m)) st c false d) (us ++ vs)
member s us m st c d vs h k room e f g i = record {
  stands = adds s.parameters s.has_parameters s.has_audit s.within s.fresh s.declarations us h.stands m (d ∷ []) vs k room;
  structures = omega (arith, e, h.structures, structures-append s.declarations (d ∷ []));
  few = f;
  counted = omega (arith, g, h.counted, counted-append s.declarations (d ∷ []));
  fewer = i;
}

-- a test and what it leads to
pick_if : {A : Type 0} {P : Type 0} (b : Bool) (x y : Result A ParseFault) (z : A) → (b ≡ true → x ≡ Ok z → P) → (b ≡ false → y ≡ Ok z → P) → cond b x y ≡ Ok z → P
pick_if true x y z f g h = f refl h
pick_if false x y z f g h = g refl h

shallow : (o : Open) → is_deepest o ≡ false → depth_of o < 3
shallow Outside h = omega arith
shallow (One a) h = omega arith
shallow (Two a b) h = omega arith
shallow (Three a b c) h = absurd (cc)

deep_by : (o : Open) → is_inside o ≡ true → (d : ℕ) × (depth_of o ≡ suc d)
deep_by Outside h = absurd (cc)
deep_by (One a) h = (0, refl)
deep_by (Two a b) h = (1, refl)
deep_by (Three a b c) h = (2, refl)

below_200 : (n : ℕ) → nat_le 200 n ≡ false → n + 1 ≤ 200
below_200 n h = grind (arith, nat_tests)

below_60 : (n : ℕ) → nat_le 60 n ≡ false → n + 1 ≤ 60
below_60 n h = grind (arith, nat_tests)

structure_went : (s t : Progress) (us : List Lexeme) (l : Lexeme) (name : List ℕ) (ts rest : List Lexeme) → HoldsProgress s us → l.token ≡ Word name → is_name name ≡ true → structure_turn_at s l.place name ts ≡ Ok (t, rest) → Went HoldsProgress t us (l ∷ ts) rest
unfolding structure_turn_at
structure_went s t us l name ts rest h e n r =
    let a = skip_ok (nat_le 200 s.structures) _ _ _ r in
    let b = skip_ok (is_deepest s.within) _ _ _ a.1 in
    let deep = shallow s.within b.0 in
    let room = narrow s.within (items_few s.parameters s.has_parameters s.has_audit s.within s.fresh s.declarations us h.stands) in
    pick {A = Progress × List Lexeme} (starts_set ts) _ _ (t, rest)
    (λ f.
    let c = bind_ok (set_at l.place name ts) _ _ f in
    let k = set_sound l.place name ts c.0.0 c.0.1 c.1 in
    let m = member s us 0 (s.structures + 1) s.counted (SetOf c.0.0) (l ∷ k.0) h (a_set (depth_of s.within) l name c.0.0 k.0 deep e n k.1) room (omega arith) (below_200 s.structures a.0) (omega arith) h.fewer in
    let placed = subst (λ (x : Open). HoldsProgress (add_declaration s x (s.structures + 1) s.counted false (SetOf c.0.0)) (us ++ (l ∷ k.0))) (no_more_items s.within) m in
    subst (λ (x : Progress × List Lexeme). Went HoldsProgress x.0 us (l ∷ ts) x.1) (ok_same (add_declaration s s.within (s.structures + 1) s.counted false (SetOf c.0.0), c.0.1) (t, rest) c.2) (record { used = l ∷ k.0; is = placed; all = ap (λ (xs : List Lexeme). l ∷ xs) k.2 }))
    (λ f.
    let c = bind_ok (data_set_at l.place name ts) _ _ f in
    let k = head_sound l.place name ts c.0.0 c.0.1 c.1 in
    let m : HoldsProgress (add_declaration s (open_data_set s.within) (s.structures + 1) s.counted true (DataSet c.0.0)) (us ++ (l ∷ k.used)) = record {
      stands = begun s.within s.fresh s.declarations us l name c.0.0 k.used h.stands deep e n k.is;
      structures = omega (arith, h.structures, structures-append s.declarations (DataSet c.0.0 ∷ []));
      few = below_200 s.structures a.0;
      counted = omega (arith, h.counted, counted-append s.declarations (DataSet c.0.0 ∷ []));
      fewer = h.fewer;
    } in
    subst (λ (x : Progress × List Lexeme). Went HoldsProgress x.0 us (l ∷ ts) x.1) (ok_same (add_declaration s (open_data_set s.within) (s.structures + 1) s.counted true (DataSet c.0.0), c.0.1) (t, rest) c.2) (record { used = l ∷ k.used; is = m; all = ap (λ (xs : List Lexeme). l ∷ xs) k.all })) b.1

item_went : (s t : Progress) (us : List Lexeme) (l : Lexeme) (name : List ℕ) (ts rest : List Lexeme) → HoldsProgress s us → l.token ≡ Word name → is_name name ≡ true → is_inside s.within ≡ true → item_turn_at s l.place name ts ≡ Ok (t, rest) → Went HoldsProgress t us (l ∷ ts) rest
unfolding item_turn_at
item_went s t us l name ts rest h e n i r =
    let a = skip_ok (nat_le 60 (items_of s.within)) _ _ _ r in
    let c = bind_ok (item_at l.place name ts) _ _ a.1 in
    let k = item_sound l.place name ts c.0.0 c.0.1 c.1 in
    let d = deep_by s.within i in
    let one = subst (λ (x : ℕ). Members Single x 1 (Item c.0.0 ∷ []) (l ∷ k.used)) (sym d.1) (an_item d.0 l name c.0.0 k.used e n k.is) in
    let m = member s us 1 s.structures s.counted (Item c.0.0) (l ∷ k.used) h one (below_60 (items_of s.within) a.0) (omega arith) h.few (omega arith) h.fewer in
    subst (λ (x : Progress × List Lexeme). Went HoldsProgress x.0 us (l ∷ ts) x.1) (ok_same (add_declaration s (with_items s.within (items_of s.within + 1)) s.structures s.counted false (Item c.0.0), c.0.1) (t, rest) c.2) (record { used = l ∷ k.used; is = m; all = ap (λ (xs : List Lexeme). l ∷ xs) k.all })

group_went : (s t : Progress) (us : List Lexeme) (l : Lexeme) (name : List ℕ) (ts rest : List Lexeme) → HoldsProgress s us → l.token ≡ Word name → is_name name ≡ true → is_inside s.within ≡ true → group_turn_at s l.place name ts ≡ Ok (t, rest) → Went HoldsProgress t us (l ∷ ts) rest
unfolding group_turn_at
group_went s t us l name ts rest h e n i r =
    let c = bind_ok (group_at (items_of s.within) ts) _ _ r in
    let k = group_sound (items_of s.within) ts c.0.0 c.0.1 c.1 in
    let d = deep_by s.within i in
    let one = subst (λ (x : ℕ). Members Single x (length c.0.0.items) (Group (record { place = l.place; name = name; items = c.0.0.items }) ∷ []) (l ∷ k.0.0)) (sym d.1) (a_group d.0 l name c.0.0.items k.0.0 e n k.0.1) in
    let m = member s us (length c.0.0.items) s.structures s.counted (Group (record { place = l.place; name = name; items = c.0.0.items })) (l ∷ k.0.0) h one (omega (arith, k.1, k.2)) (omega arith) h.few (omega arith) h.fewer in
    let placed = subst (λ (x : ℕ). HoldsProgress (add_declaration s (with_items s.within x) s.structures s.counted false (Group (record { place = l.place; name = name; items = c.0.0.items }))) (us ++ (l ∷ k.0.0))) (sym k.1) m in
    subst (λ (x : Progress × List Lexeme). Went HoldsProgress x.0 us (l ∷ ts) x.1) (ok_same (add_declaration s (with_items s.within c.0.0.count) s.structures s.counted false (Group (record { place = l.place; name = name; items = c.0.0.items })), c.0.1) (t, rest) c.2) (record { used = l ∷ k.0.0; is = placed; all = ap (λ (xs : List Lexeme). l ∷ xs) k.0.2 })

room_for : (n : ℕ) (b : Bool) → n ≤ 4000 → (b ≡ true → n < 4000) → counted_with n b ≤ 4000
room_for n true h f = let k = f refl in omega arith
room_for n false h f = h

link_went : (s t : Progress) (us : List Lexeme) (l : Lexeme) (name : List ℕ) (ts rest : List Lexeme) → HoldsProgress s us → l.token ≡ Word name → is_name name ≡ true → is_inside s.within ≡ true → link_turn_at s l.place name ts ≡ Ok (t, rest) → Went HoldsProgress t us (l ∷ ts) rest
unfolding link_turn_at
link_went s t us l name ts rest h e n i r =
    let b = skip_ok (not (starts (is_word (codes "LINK")) ts)) _ _ _ r in
    let a = skip_ok (nat_le 60 (items_of s.within)) _ _ _ b.1 in
    let c = bind_ok (link_at s.counted l.place name ts) _ _ a.1 in
    let k = link_sound s.counted l.place name ts c.0.0 c.0.1 c.1 in
    let d = deep_by s.within i in
    let one = subst (λ (x : ℕ). Members Single x 1 (Link c.0.0 ∷ []) (l ∷ k.0.used)) (sym d.1) (a_link d.0 l name c.0.0 k.0.used e n k.0.is) in
    let m = member s us 1 s.structures (counted_with s.counted c.0.0.counted) (Link c.0.0) (l ∷ k.0.used) h one (below_60 (items_of s.within) a.0) (omega arith) h.few (counted_is s.counted c.0.0.counted) (room_for s.counted c.0.0.counted h.fewer k.1) in
    subst (λ (x : Progress × List Lexeme). Went HoldsProgress x.0 us (l ∷ ts) x.1) (ok_same (add_declaration s (with_items s.within (items_of s.within + 1)) s.structures (counted_with s.counted c.0.0.counted) false (Link c.0.0), c.0.1) (t, rest) c.2) (record { used = l ∷ k.0.used; is = m; all = ap (λ (xs : List Lexeme). l ∷ xs) k.0.all })

declared_went : (s t : Progress) (us : List Lexeme) (l : Lexeme) (name : List ℕ) (ts rest : List Lexeme) → HoldsProgress s us → l.token ≡ Word name → is_name name ≡ true → declared_turn_at s l.place name ts ≡ Ok (t, rest) → Went HoldsProgress t us (l ∷ ts) rest
unfolding declared_turn_at
declared_went s t us l name ts rest h e n r =
    pick {A = Progress × List Lexeme} (starts_set ts || starts_data_set ts) _ _ (t, rest) (structure_went s t us l name ts rest h e n)
    (λ f.
    let a = skip_ok (not (is_inside s.within)) _ _ _ f in
    let i = not-false (is_inside s.within) a.0 in
    pick {A = Progress × List Lexeme} (starts_kind ts) _ _ (t, rest) (item_went s t us l name ts rest h e n i)
    (pick {A = Progress × List Lexeme} (starts (is_word (codes "GROUP")) ts) _ _ (t, rest) (group_went s t us l name ts rest h e n i) (link_went s t us l name ts rest h e n i)) a.1) r

named_went : (s t : Progress) (us ts rest : List Lexeme) → HoldsProgress s us → named_turn_at s ts ≡ Ok (t, rest) → Went HoldsProgress t us ts rest
unfolding named_turn_at
named_went s t us ts rest h r =
    let a = bind_ok (name_at ts) _ _ r in
    let k = name_spelled ts a.0.0 a.0.1 a.1 in
    let place : place_at ts ≡ k.1.first.place = ap place_at k.1.all in
    let m : declared_turn_at s k.1.first.place a.0.0 a.0.1 ≡ Ok (t, rest) = subst (λ (x : ℕ). declared_turn_at s x a.0.0 a.0.1 ≡ Ok (t, rest)) place a.2 in
    let g = declared_went s t us k.1.first a.0.0 a.0.1 rest h k.1.token k.0 m in
    record { used = g.used; is = g.is; all = k.1.all ∙ g.all }

end_went : (s t : Progress) (us ts rest : List Lexeme) → HoldsProgress s us → is_inside s.within ≡ true → s.fresh ≡ false → end_turn_at s ts ≡ Ok (t, rest) → Went HoldsProgress t us ts rest
unfolding end_turn_at
end_went s t us ts rest h i f r =
    let a = bind_ok (data_set_end_at ts) _ _ r in
    let k = end_sound ts a.0.0 a.0.1 a.1 in
    let z = closes s.parameters s.has_parameters s.has_audit s.within s.fresh s.declarations us h.stands a.0.0 k.0 k.1 f i in
    let m : HoldsProgress (add_declaration s (close_data_set s.within) s.structures s.counted false (EndOf a.0.0)) (us ++ k.0) = record {
      stands = z.is;
      structures = omega (arith, h.structures, structures-append s.declarations (EndOf a.0.0 ∷ []));
      few = h.few;
      counted = omega (arith, h.counted, counted-append s.declarations (EndOf a.0.0 ∷ []));
      fewer = h.fewer;
    } in
    subst (λ (x : Progress × List Lexeme). Went HoldsProgress x.0 us ts x.1) (ok_same (add_declaration s (close_data_set s.within) s.structures s.counted false (EndOf a.0.0), a.0.1) (t, rest) a.2) (record { used = k.0; is = m; all = k.2 })

opened_inside : (o : Open) → is_inside (open_data_set o) ≡ true
opened_inside Outside = refl
opened_inside (One a) = refl
opened_inside (Two a b) = refl
opened_inside (Three a b c) = refl

with_inside : (o : Open) (n : ℕ) → is_inside (with_items o n) ≡ is_inside o
with_inside Outside n = refl
with_inside (One a) n = refl
with_inside (Two a b) n = refl
with_inside (Three a b c) n = refl

-- what stands outside every data set
record AtTop (p : Parameters) (b a : Bool) (w : Open) (f : Bool) (ds : List Declaration) (us : List Lexeme) : Type 0 where
  declares : Declares p b a ds us
  within : Outside ≡ w
  fresh : false ≡ f

at_top : (p : Parameters) (b a : Bool) (w : Open) (f : Bool) (ds : List Declaration) (us : List Lexeme) → StandsOpen p b a w f ds us → is_inside w ≡ false → AtTop p b a w f ds us
at_top p b a _ _ _ _ (outside ds us d) i = record { declares = d; within = refl; fresh = refl }
at_top p b a _ _ _ _ (begun o f ds us l name head hs s deep e n h) i = let k = opened_inside o in absurd (cc)
at_top p b a _ _ _ _ (inside o f ds us l name head hs n es vs s deep e nm h members room) i = let k = with_inside (open_data_set o) n ∙ opened_inside o in absurd (cc)

stands_at : (p : Parameters) (b a : Bool) (w : Open) (f : Bool) (ds : List Declaration) (us : List Lexeme) → Outside ≡ w → false ≡ f → Declares p b a ds us → StandsOpen p b a w f ds us
stands_at p b a w f ds us e g d = subst (λ (x : Open). StandsOpen p b a x f ds us) e (subst (λ (x : Bool). StandsOpen p b a Outside x ds us) g (outside ds us d))

parameters_went : (s t : Progress) (us ts rest : List Lexeme) → HoldsProgress s us → is_inside s.within ≡ false → parameters_turn_at s ts ≡ Ok (t, rest) → Went HoldsProgress t us ts rest
unfolding parameters_turn_at
parameters_went s t us ts rest h i r =
    let a = skip_ok s.has_parameters _ _ _ r in
    let c = bind_ok (parameters_at ts) _ _ a.1 in
    let k = parameters_sound ts c.0.0 c.0.1 c.1 in
    let u = at_top s.parameters s.has_parameters s.has_audit s.within s.fresh s.declarations us h.stands i in
    let d : Declares s.parameters false s.has_audit s.declarations us = subst (λ (x : Bool). Declares s.parameters x s.has_audit s.declarations us) a.0 u.declares in
    let m : HoldsProgress (record { parameters = with_pairs s.parameters c.0.0; has_parameters = true; has_audit = s.has_audit; structures = s.structures; counted = s.counted; within = s.within; fresh = s.fresh; declarations = s.declarations }) (us ++ k.used) = record {
      stands = stands_at (with_pairs s.parameters c.0.0) true s.has_audit s.within s.fresh s.declarations (us ++ k.used) u.within u.fresh (then_parameters s.parameters s.has_audit s.declarations us c.0.0 k.used d k.is);
      structures = h.structures;
      few = h.few;
      counted = h.counted;
      fewer = h.fewer;
    } in
    subst (λ (x : Progress × List Lexeme). Went HoldsProgress x.0 us ts x.1) (ok_same (record { parameters = with_pairs s.parameters c.0.0; has_parameters = true; has_audit = s.has_audit; structures = s.structures; counted = s.counted; within = s.within; fresh = s.fresh; declarations = s.declarations }, c.0.1) (t, rest) c.2) (record { used = k.used; is = m; all = k.all })

audit_went : (s t : Progress) (us ts rest : List Lexeme) → HoldsProgress s us → is_inside s.within ≡ false → audit_turn_at s ts ≡ Ok (t, rest) → Went HoldsProgress t us ts rest
unfolding audit_turn_at
audit_went s t us ts rest h i r =
    let a = skip_ok s.has_audit _ _ _ r in
    let c = bind_ok (audit_at ts) _ _ a.1 in
    let k = audit_sound ts c.0.0 c.0.1 c.1 in
    let u = at_top s.parameters s.has_parameters s.has_audit s.within s.fresh s.declarations us h.stands i in
    let d : Declares s.parameters s.has_parameters false s.declarations us = subst (λ (x : Bool). Declares s.parameters s.has_parameters x s.declarations us) a.0 u.declares in
    let m : HoldsProgress (record { parameters = with_audit_pairs s.parameters c.0.0; has_parameters = s.has_parameters; has_audit = true; structures = s.structures; counted = s.counted; within = s.within; fresh = s.fresh; declarations = s.declarations }) (us ++ k.used) = record {
      stands = stands_at (with_audit_pairs s.parameters c.0.0) s.has_parameters true s.within s.fresh s.declarations (us ++ k.used) u.within u.fresh (then_audit s.parameters s.has_parameters s.declarations us c.0.0 k.used d k.is);
      structures = h.structures;
      few = h.few;
      counted = h.counted;
      fewer = h.fewer;
    } in
    subst (λ (x : Progress × List Lexeme). Went HoldsProgress x.0 us ts x.1) (ok_same (record { parameters = with_audit_pairs s.parameters c.0.0; has_parameters = s.has_parameters; has_audit = true; structures = s.structures; counted = s.counted; within = s.within; fresh = s.fresh; declarations = s.declarations }, c.0.1) (t, rest) c.2) (record { used = k.used; is = m; all = k.all })

turn_went : (s t : Progress) (us ts rest : List Lexeme) → HoldsProgress s us → schema_turn_at s ts ≡ Ok (t, rest) → Went HoldsProgress t us ts rest
unfolding schema_turn_at
turn_went s t us ts rest h r =
    pick_if {A = Progress × List Lexeme} (starts (is_word (codes "PARAMETERS")) ts && not (is_inside s.within)) _ _ (t, rest)
    (λ b f. parameters_went s t us ts rest h (not-true (is_inside s.within) (and_parts (starts (is_word (codes "PARAMETERS")) ts) (not (is_inside s.within)) b).1) f)
    (λ b0 g0. pick_if {A = Progress × List Lexeme} (starts (is_word (codes "AUDIT")) ts && not (is_inside s.within)) _ _ (t, rest)
    (λ b f. audit_went s t us ts rest h (not-true (is_inside s.within) (and_parts (starts (is_word (codes "AUDIT")) ts) (not (is_inside s.within)) b).1) f)
    (λ b1 g1. pick_if {A = Progress × List Lexeme} (starts (is_the_sign 41) ts && (is_inside s.within && not s.fresh)) _ _ (t, rest)
    (λ b f.
    let c = and_parts (starts (is_the_sign 41) ts) (is_inside s.within && not s.fresh) b in
    let d = and_parts (is_inside s.within) (not s.fresh) c.1 in
    end_went s t us ts rest h d.0 (not-true s.fresh d.1) f)
    (λ b2 g2. named_went s t us ts rest h g2) g1) g0) r

pub schema_sound : (ts : List Lexeme) (schema : Schema) → schema_at ts ≡ Ok schema → IsSchema schema ts
unfolding schema_at
schema_sound ts schema h =
    let a = bind_ok (turns_at schema_done schema_turn_at no_progress ts) _ _ h in
    let start : HoldsProgress no_progress [] = record { stands = outside [] [] no_declaration; structures = refl; few = omega arith; counted = refl; fewer = omega arith } in
    let g = turns_at-went HoldsProgress schema_done schema_turn_at turn_went no_progress a.0.0 [] ts a.0.1 start a.1 in
    let e = turns_at-ends schema_done schema_turn_at no_progress a.0.0 ts a.0.1 a.1 in
    let k = and_parts (starts is_end a.0.1) (not (is_inside a.0.0.within)) e in
    let u = at_top a.0.0.parameters a.0.0.has_parameters a.0.0.has_audit a.0.0.within a.0.0.fresh a.0.0.declarations g.used g.is.stands (not-true (is_inside a.0.0.within) k.1) in
    subst (λ (x : Schema). IsSchema x ts) (ok_same (record { parameters = a.0.0.parameters; declarations = a.0.0.declarations }) schema a.2) (record {
      has_parameters = a.0.0.has_parameters;
      has_audit = a.0.0.has_audit;
      used = g.used;
      rest = a.0.1;
      all = g.all;
      ends = k.0;
      declares = u.declares;
      few = omega (arith, g.is.few, g.is.structures);
      fewer = omega (arith, g.is.fewer, g.is.counted);
    })

at_most : (n : ℕ) → nat_lt 1000000 n ≡ false → n ≤ 1000000
at_most n h = grind (arith, nat_tests)

not_more : (n : ℕ) → n ≤ 1000000 → nat_lt 1000000 n ≡ false
not_more n h = grind (arith, nat_tests)

pub text_sound : (text : List ℕ) (schema : Schema) → schema_of text ≡ Ok schema → IsSchema schema (tokens_of text) × (length text ≤ 1000000)
unfolding schema_of
text_sound text schema h =
    let a = skip_ok (nat_lt 1000000 (length text)) _ _ _ h in
    (schema_sound (tokens_of text) schema a.1, at_most (length text) a.0)

pub text_complete : (text : List ℕ) (schema : Schema) → IsSchema schema (tokens_of text) → length text ≤ 1000000 → schema_of text ≡ Ok schema
unfolding schema_of
text_complete text schema d few = rw (not_more (length text) few) (schema_complete (tokens_of text) schema d)
