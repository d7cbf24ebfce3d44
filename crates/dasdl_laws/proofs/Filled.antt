-- A key that was judged has parts.
use Rattle.std.proofs.Common.{◌≡◌, ◌≤◌, ◌+◌, ℕ, List, [], ◌∷◌, length, Bool, true, false, cond, refl, sym, ap, subst, ◌∙◌, arith, length-append}
use Rattle.std.specs.Prelude.{◌-◌, min, drop}
use Rattle.std.proofs.lemmas.List.{length-drop, length-take}
use Rattle.std.specs.Prelude.{◌||◌, nat_le, nat_lt, Some, None}
use Rattle.std.specs.List.{AllByRecursion}
use Rattle.std.specs.Str.{bytes_eq}
use Rattle.std.specs.declared.option.Option.{Option}
use Rattle.std.specs.declared.result.Result.TheVariants.{Ok}
use Rattle.dms_desc.specs.declared.structure.Item.{Item}
use Rattle.dms_desc.specs.declared.structure.Group.{Group}
use Rattle.dms_desc.specs.declared.structure.KeyPart.{KeyPart}
use Rattle.dasdl_phrases.specs.declared.key_parts.PartDecl.{PartDecl}
use Rattle.dasdl_compile.specs.declared.draft.Draft.{Draft}
use Rattle.dms_desc.specs.declared.lookups.NamedItem.{NamedItem}
use Rattle.dasdl_compile.specs.declared.keys.Run.{Run}
use Rattle.dasdl_compile.specs.declared.keys.KeySoFar.{KeySoFar}
use Rattle.dasdl_compile.specs.Answers.{Judged, steps}
use Rattle.dms_desc.specs.Kinds.{is_link}
use Rattle.dms_desc.specs.Lookups.{item_named, group_named}
use Rattle.dasdl_compile.specs.Keys.{is_part, key_item_at, run_items, run_in, run_of, part_at, item_run, group_run, short_key, key_at}
use Rattle.dasdl_laws.proofs.Judging.{bind_ok, skip_ok, ok_same, steps_keep}
use Rattle.dasdl_laws.proofs.Judged.{FoundItem, item_found}
use Rattle.dasdl_laws.proofs.Parts.{GroupWithin}

-- each item gives a part
item_turn : (r : Run) (k : KeySoFar) (i : Item) (t : KeySoFar) → key_item_at r k i ≡ Ok t → length t.parts ≡ length k.parts + 1
unfolding key_item_at
item_turn r k i t h =
    let a = skip_ok (is_link i.kind || is_part k.next k.parts) _ _ _ h in
    ap (λ (x : KeySoFar). length x.parts) (sym (ok_same _ t a.1)) ∙ length-append k.parts (record { item = k.next; descending = r.descending } ∷ [])

more_parts : (r : Run) (is : List Item) (k t : KeySoFar) → steps key_item_at r k is ≡ Ok t → length k.parts + length is ≤ length t.parts
unfolding steps
more_parts r [] k t h = let e = ap (λ (x : KeySoFar). length x.parts) (ok_same k t h) in omega (arith, e)
more_parts r (i ∷ is) k t h =
    let a = bind_ok {A = KeySoFar} {B = KeySoFar} (key_item_at r k i) _ t h in
    let x = item_turn r k i a.0 a.1 in
    let y = more_parts r is a.0 t a.2 in
    omega (arith, x, y)

-- ---- what a part names

pub record BeginsRun (r : Run) (n : ℕ) : Type 0 where
  pub from : 1 ≤ r.first
  pub upto : r.first ≤ n
  pub some : 1 ≤ r.count

some_item : (r : Run) (items : List Item) → BeginsRun r (length items) → 1 ≤ length (run_items r items)
some_item r items b =
    let rest : length (drop (r.first - 1) items) ≡ length items - (r.first - 1) = length-drop (r.first - 1) items in
    let all : length (run_items r items) ≡ min r.count (length (drop (r.first - 1) items)) = length-take r.count (drop (r.first - 1) items) in
    let from = b.from in
    let upto = b.upto in
    let some = b.some in
    omega (arith, rest, all, from, upto, some)

group_case : (b : Bool) (n : ℕ) (name : List ℕ) (x : Group) (xs : List Group) (g : Group) → AllByRecursion (GroupWithin n) (x ∷ xs) → cond b (Some x) (group_named name xs) ≡ Some g → (group_named name xs ≡ Some g → GroupWithin n g) → GroupWithin n g
group_case true n name x xs g h e f = let one : x ≡ g = cc in subst (GroupWithin n) one h.0
group_case false n name x xs g h e f = f e

group_in : (n : ℕ) (name : List ℕ) (gs : List Group) (g : Group) → AllByRecursion (GroupWithin n) gs → group_named name gs ≡ Some g → GroupWithin n g
group_in n name [] g h e = absurd (cc)
group_in n name (x ∷ xs) g h e = group_case (bytes_eq x.name name) n name x xs g h e (group_in n name xs g h.1)

group_begins : (n : ℕ) (d : Bool) (g : Group) → GroupWithin n g → BeginsRun (group_run d g) n
group_begins n d g w =
    let a = w.1 in
    let b = w.2 in
    let c = w.3 in
    record { from = a; upto = omega (arith, b, c); some = b }

item_begins : (items : List Item) (d : Bool) (f : NamedItem) → FoundItem items f → BeginsRun (item_run d f) (length items)
item_begins items d f h = record { from = h.from; upto = h.upto; some = omega arith }

either_run : (b : Bool) (x y r : Run) (n : ℕ) → BeginsRun x n → BeginsRun y n → ◌≡◌ {A = Judged Run} (cond b (Ok x) (Ok y)) (Ok r) → BeginsRun r n
either_run true x y r n h k e = subst (λ (z : Run). BeginsRun z n) (ok_same x r e) h
either_run false x y r n h k e = subst (λ (z : Run). BeginsRun z n) (ok_same y r e) k

pub run_begins : (d : Draft) (p : PartDecl) (f : Option NamedItem) (g : Option Group) (r : Run) → length d.items ≤ 254 → AllByRecursion (GroupWithin (length d.items)) d.groups → item_named p.name 1 d.items ≡ f → group_named p.name d.groups ≡ g → run_in p f g ≡ Ok r → BeginsRun r (length d.items)
run_begins d p None None r few w e h k = absurd (cc)
run_begins d p (Some f) None r few w e h k = subst (λ (x : Run). BeginsRun x (length d.items)) (ok_same _ r k) (item_begins d.items p.descending f (item_found p.name d.items f few e))
run_begins d p None (Some g) r few w e h k = subst (λ (x : Run). BeginsRun x (length d.items)) (ok_same _ r k) (group_begins (length d.items) p.descending g (group_in (length d.items) p.name d.groups g w h))
run_begins d p (Some f) (Some g) r few w e h k =
    either_run (nat_le g.first f.number) (group_run p.descending g) (item_run p.descending f) r (length d.items) (group_begins (length d.items) p.descending g (group_in (length d.items) p.name d.groups g w h)) (item_begins d.items p.descending f (item_found p.name d.items f few e)) k

part_fills : (d : Draft) (k t : KeySoFar) (p : PartDecl) → length d.items ≤ 254 → AllByRecursion (GroupWithin (length d.items)) d.groups → part_at d k p ≡ Ok t → 1 ≤ length t.parts
unfolding part_at run_of
part_fills d k t p few w h =
    let a = bind_ok {A = Run} {B = KeySoFar} (run_in p (item_named p.name 1 d.items) (group_named p.name d.groups)) _ t h in
    let b = run_begins d p (item_named p.name 1 d.items) (group_named p.name d.groups) a.0 few w refl refl a.1 in
    omega (arith, some_item a.0 d.items b, more_parts a.0 (run_items a.0 d.items) (record { next = a.0.first; bytes = k.bytes; parts = k.parts }) t a.2)

parts_fill : (d : Draft) (ps : List PartDecl) (k t : KeySoFar) → length d.items ≤ 254 → AllByRecursion (GroupWithin (length d.items)) d.groups → 1 ≤ length k.parts → steps part_at d k ps ≡ Ok t → 1 ≤ length t.parts
parts_fill d ps k t few w some h = steps_keep (λ (x : KeySoFar). 1 ≤ length x.parts) part_at d (λ s u p g e. part_fills d s u p few w e) k ps t some h

all_fill : (d : Draft) (ps : List PartDecl) (k t : KeySoFar) → length d.items ≤ 254 → AllByRecursion (GroupWithin (length d.items)) d.groups → 1 ≤ length ps → steps part_at d k ps ≡ Ok t → 1 ≤ length t.parts
unfolding steps
all_fill d [] k t few w some h = absurd (omega (arith, some))
all_fill d (p ∷ ps) k t few w some h =
    let a = bind_ok {A = KeySoFar} {B = KeySoFar} (part_at d k p) _ t h in
    parts_fill d ps a.0 t few w (part_fills d k a.0 p few w a.1) a.2

pub key_filled : (name : List ℕ) (d : Draft) (ps : List PartDecl) (ks : List KeyPart) → length d.items ≤ 254 → AllByRecursion (GroupWithin (length d.items)) d.groups → 1 ≤ length ps → key_at name d ps ≡ Ok ks → 1 ≤ length ks
unfolding key_at short_key
key_filled name d ps ks few w some h =
    let a = bind_ok {A = KeySoFar} {B = List KeyPart} (steps part_at d (record { next = 1; bytes = 0; parts = [] }) ps) _ ks h in
    let k = all_fill d ps (record { next = 1; bytes = 0; parts = [] }) a.0 few w some a.1 in
    let b = skip_ok (nat_lt 16 (length a.0.parts)) _ _ _ a.2 in
    let c = skip_ok (nat_lt 96 a.0.bytes) _ _ _ b.1 in
    subst (λ (x : List KeyPart). 1 ≤ length x) (ok_same a.0.parts ks c.1) k
