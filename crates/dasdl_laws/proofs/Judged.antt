-- A condition that was judged compares items well, and has as many nodes as were written.
use Rattle.std.proofs.Common.{◌≡◌, ◌≤◌, ◌+◌, ◌-◌, ℕ, List, [], ◌∷◌, ◌++◌, length, Bool, true, false, cond, refl, ap, subst, ◌∙◌, arith, length-append, append_assoc}
use Rattle.std.proofs.lemmas.Bool.{and_parts, le-leb, and_from}
use Rattle.std.proofs.lemmas.Bool.Decides.{nat_tests}
use Rattle.std.specs.Prelude.{◌&&◌, ◌==◌, slice_get, Some, None}
use Rattle.std.specs.Str.{bytes_eq}
use Rattle.std.specs.declared.option.Option.{Option}
use Rattle.std.specs.declared.result.Result.TheVariants.{Ok}
use Rattle.dms_base.specs.declared.op.Op.{Op}
use Rattle.dms_base.specs.declared.value.Value.{Value}
use Rattle.dms_base.specs.declared.kind.Literal.{Literal}
use Rattle.dms_desc.specs.declared.structure.Item.{Item}
use Rattle.dms_desc.specs.Shape.{Tree}
use Rattle.dms_desc.specs.Shape.Tree.{Test, Both, Either, Contrary}
use Rattle.dms_desc_bytes.specs.Conditions.{nodes, is_comparable, compares_well, is_condition}
use Rattle.dms_desc_bytes.specs.Finding.{item_at}
use Rattle.dasdl_phrases.specs.CondSpelling.{nodes as nodes_of}
use Rattle.dasdl_phrases.specs.TreeCodes.{WrittenTree as Written}
use Rattle.dasdl_phrases.specs.TreeCodes.WrittenTree.{Test as Compared, Both as And', Either as Or', Turned}
use Rattle.dms_desc.specs.declared.lookups.NamedItem.{NamedItem}
use Rattle.dasdl_compile.specs.Conditions.{value_in, or_fault, literal_of, compared_with, comparison, condition}
use Rattle.dms_desc.specs.Lookups.{item_named, after_item}
use Rattle.dasdl_laws.proofs.Judging.{bind_ok, ok_same}
use Rattle.dasdl_laws.proofs.Literals.{is_plain_literal, is_value, judged_fits}

-- ---- items by their names

-- what was found is the item with its number
pub record FoundItem (items : List Item) (f : NamedItem) : Type 0 where
  pub item : Item
  pub at : item_at items f.number ≡ Some item
  pub kind : item.kind ≡ f.kind
  pub from : 1 ≤ f.number
  pub upto : f.number ≤ length items

behind : (pre : List Item) (i : Item) (is : List Item) → slice_get (pre ++ i ∷ is) (length pre) ≡ Some i
behind [] i is = refl
behind (x ∷ xs) i is = behind xs i is

pub place_of : (pre : List Item) (i : Item) (is : List Item) (n : ℕ) → n ≡ length pre + 1 → item_at (pre ++ i ∷ is) n ≡ Some i
place_of pre i is n e =
    let some : (n == 0) ≡ false = grind (arith, nat_tests) in
    let at : n - 1 ≡ length pre = omega (arith, e) in
    ap (λ (b : Bool). cond b None (slice_get (pre ++ i ∷ is) (n - 1))) some ∙ ap (λ (k : ℕ). slice_get (pre ++ i ∷ is) k) at ∙ behind pre i is

pick_found : (b : Bool) (pre : List Item) (i : Item) (is : List Item) (n : ℕ) (r : Option NamedItem) (f : NamedItem) → n ≡ length pre + 1 → cond b (Some (record { number = n; kind = i.kind })) r ≡ Some f → (r ≡ Some f → FoundItem (pre ++ i ∷ is) f) → FoundItem (pre ++ i ∷ is) f
pick_found true pre i is n r f e h g =
    let same : ◌≡◌ {A = NamedItem} (record { number = n; kind = i.kind }) f = cc in
    subst (FoundItem (pre ++ i ∷ is)) same (record { item = i; at = place_of pre i is n e; kind = refl; from = omega (arith, e); upto = omega (arith, e, length-append pre (i ∷ is)) })
pick_found false pre i is n r f e h g = g h

found_from : (name : List ℕ) (n : ℕ) (pre is : List Item) (f : NamedItem) → length (pre ++ is) ≤ 254 → n ≡ length pre + 1 → item_named name n is ≡ Some f → FoundItem (pre ++ is) f
found_from name n pre [] f few e h = absurd (cc)
found_from name n pre (i ∷ is) f few e h =
    let more : (pre ++ i ∷ []) ++ is ≡ pre ++ i ∷ is = append_assoc pre (i ∷ []) is in
    pick_found (bytes_eq i.name name) pre i is n (item_named name (after_item n) is) f e h
    (λ g. subst (λ (l : List Item). FoundItem l f) more (found_from name (after_item n) (pre ++ i ∷ []) is f (rw more few) (omega (arith, e, few, length-append pre (i ∷ is), length-append pre (i ∷ []))) g))

pub item_found : (name : List ℕ) (items : List Item) (f : NamedItem) → length items ≤ 254 → item_named name 1 items ≡ Some f → FoundItem items f
item_found name items f few h = found_from name 1 [] items f few refl h

-- ---- conditions

-- each literal of a condition is one of a text
abbrev pub are_plain : Written → Bool
are_plain (Compared name op literal) = is_plain_literal literal
are_plain (And' a b) = are_plain a && are_plain b
are_plain (Or' a b) = are_plain a && are_plain b
are_plain (Turned a) = are_plain a

-- what holds of a condition that was judged
pub record Judges (items : List Item) (written : Written) (t : Tree) : Type 0 where
  pub well : compares_well items t ≡ true
  pub nodes : nodes t ≡ nodes_of written

pub literal_in : (name : List ℕ) (o : Option Value) (v : Value) → or_fault name o ≡ Ok v → o ≡ Some v
literal_in name None v h = absurd (cc)
literal_in name (Some x) v h = let e = ok_same x v h in cc

comparable : (items : List Item) (f : NamedItem) (v : Value) → FoundItem items f → is_value f.kind v ≡ true → is_comparable (item_at items f.number) v ≡ true
comparable items f v g e = rw (g.at, g.kind) e

test_judged : (items : List Item) (name : List ℕ) (op : Op) (l : Literal) (t : Tree) (o : Option NamedItem) → length items ≤ 254 → is_plain_literal l ≡ true → item_named name 1 items ≡ o → compared_with name op l o ≡ Ok t → Judges items (Compared name op l) t
unfolding literal_of
test_judged items name op l t None few plain e h = absurd (cc)
test_judged items name op l t (Some f) few plain e h =
    let a = bind_ok {A = Value} {B = Tree} (or_fault name (value_in f.kind l)) _ t h in
    let v = judged_fits f.kind l a.0 plain (literal_in name (value_in f.kind l) a.0 a.1) in
    let g = item_found name items f few e in
    subst (Judges items (Compared name op l)) (ok_same (Test f.number op a.0) t a.2)
    (record { well = comparable items f a.0 g v; nodes = refl })

joined : (items : List Item) (a b : Written) (x y : Tree) → Judges items a x → Judges items b y → Judges items (And' a b) (Both x y) × Judges items (Or' a b) (Either x y)
joined items a b x y f g = (record { well = and_from _ _ f.well g.well; nodes = omega (arith, f.nodes, g.nodes) }, record { well = and_from _ _ f.well g.well; nodes = omega (arith, f.nodes, g.nodes) })

pub judged : (items : List Item) (written : Written) (t : Tree) → length items ≤ 254 → are_plain written ≡ true → condition items written ≡ Ok t → Judges items written t
unfolding condition comparison
judged items (Compared name op l) t few plain h = test_judged items name op l t (item_named name 1 items) few plain refl h
judged items (And' a b) t few plain h =
    let p = and_parts (are_plain a) (are_plain b) plain in
    let x = bind_ok {A = Tree} {B = Tree} (condition items a) _ t h in
    let y = bind_ok {A = Tree} {B = Tree} (condition items b) _ t x.2 in
    subst (Judges items (And' a b)) (ok_same (Both x.0 y.0) t y.2) (joined items a b x.0 y.0 (judged items a x.0 few p.0 x.1) (judged items b y.0 few p.1 y.1)).0
judged items (Or' a b) t few plain h =
    let p = and_parts (are_plain a) (are_plain b) plain in
    let x = bind_ok {A = Tree} {B = Tree} (condition items a) _ t h in
    let y = bind_ok {A = Tree} {B = Tree} (condition items b) _ t x.2 in
    subst (Judges items (Or' a b)) (ok_same (Either x.0 y.0) t y.2) (joined items a b x.0 y.0 (judged items a x.0 few p.0 x.1) (judged items b y.0 few p.1 y.1)).1
judged items (Turned a) t few plain h =
    let x = bind_ok {A = Tree} {B = Tree} (condition items a) _ t h in
    let j = judged items a x.0 few plain x.1 in
    subst (Judges items (Turned a)) (ok_same (Contrary x.0) t x.2) (record { well = j.well; nodes = omega (arith, j.nodes) })

-- a condition of at most 100 nodes stays one
pub condition_sound : (items : List Item) (written : Written) (t : Tree) → length items ≤ 254 → are_plain written ≡ true → nodes_of written ≤ 100 → condition items written ≡ Ok t → is_condition items t ≡ true
unfolding is_condition
condition_sound items written t few plain low h =
    let j = judged items written t few plain h in
    and_from _ _ (le-leb (nodes t) 100 (omega (arith, j.nodes, low))) j.well
