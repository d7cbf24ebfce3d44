-- A key that was judged has parts of its items, none of them twice, and is short.
use Rattle.std.proofs.Common.{◌≡◌, ◌∙◌, ◌≤◌, ◌+◌, ℕ, List, [], ◌∷◌, ◌++◌, length, Bool, true, false, refl, sym, ap, subst, arith, length-append, append_assoc}
use Rattle.std.proofs.lemmas.Bool.{le-leb, ltb-false, or_parts, and_from}
use Rattle.std.specs.Prelude.{◌||◌, ◌==◌, not, nat_lt, Some}
use Rattle.std.specs.List.{list_all, AllByRecursion}
use Rattle.std.specs.Prelude.{◌-◌, take, drop}
use Rattle.std.proofs.lemmas.List.{take-append-drop, length-take-le}
use Rattle.std.specs.declared.result.Result.TheVariants.{Ok}
use Rattle.dms_desc.specs.declared.structure.Item.{Item}
use Rattle.dms_desc.specs.declared.structure.KeyPart.{KeyPart}
use Rattle.dms_desc.specs.Kinds.{is_link}
use Rattle.dms_desc_bytes.specs.Finding.{item_at}
use Rattle.dms_desc_bytes.specs.Lists.{apart, total}
use Rattle.dms_desc.specs.Widths.{item_width}
use Rattle.dms_desc_bytes.specs.WellFormed.{is_part_sound, parts_differ, part_width, is_key_sound}
use Rattle.dasdl_phrases.specs.declared.key_parts.PartDecl.{PartDecl}
use Rattle.dasdl_compile.specs.declared.draft.Draft.{Draft}
use Rattle.dasdl_compile.specs.declared.keys.Run.{Run}
use Rattle.dasdl_compile.specs.declared.keys.KeySoFar.{KeySoFar}
use Rattle.dasdl_compile.specs.Answers.{steps}
use Rattle.dasdl_compile.specs.Keys.{is_part, key_item_at, run_items, run_in, run_of, part_at, short_key, key_at}
use Rattle.dasdl_compile.specs.Widths.{plus}
use Rattle.dms_desc.specs.Lookups.{after_item, item_named, group_named}
use Rattle.dasdl_laws.proofs.Judging.{bind_ok, skip_ok, ok_same, steps_keep}
use Rattle.dasdl_laws.proofs.Judged.{place_of}
use Rattle.dasdl_laws.proofs.Filled.{BeginsRun, run_begins}
use Rattle.dasdl_laws.proofs.Parts.{GroupWithin}
use Rattle.dasdl_laws.proofs.Ordered.{all_push, apart_push, or_none}

pub total_push : {A : Type 0} (size : A → ℕ) (xs : List A) (y : A) → total size (xs ++ y ∷ []) ≡ total size xs + size y
total_push size [] y = omega arith
total_push size (x ∷ xs) y = omega (arith, total_push size xs y)

-- the parts of a key so far
record Keyed (items : List Item) (bytes : ℕ) (ps : List KeyPart) : Type 0 where
  sound : list_all (is_part_sound items) ps ≡ true
  differ : apart parts_differ ps ≡ true
  short : bytes ≤ 96 → total (part_width items) ps ≤ bytes

none_twice : (n : ℕ) (ps : List KeyPart) (d : Bool) → is_part n ps ≡ false → list_all (λ (p : KeyPart). parts_differ p (record { item = n; descending = d })) ps ≡ true
unfolding is_part
none_twice n [] d h = refl
none_twice n (p ∷ ps) d h =
    let a = or_none (p.item == n) (is_part n ps) h in
    and_from _ _ (ap not a.0) (none_twice n ps d a.1)

one_more : (items : List Item) (bytes : ℕ) (ps : List KeyPart) (n : ℕ) (d : Bool) (i : Item) → Keyed items bytes ps → item_at items n ≡ Some i → is_link i.kind ≡ false → is_part n ps ≡ false → Keyed items (plus bytes (item_width i.kind)) (ps ++ record { item = n; descending = d } ∷ [])
one_more items bytes ps n d i k at plain new =
    let sound : is_part_sound items (record { item = n; descending = d }) ≡ true = rw at (ap not plain) in
    let width : part_width items (record { item = n; descending = d }) ≡ item_width i.kind = rw at refl in
    record {
      sound = all_push (is_part_sound items) ps (record { item = n; descending = d }) k.sound sound;
      differ = apart_push parts_differ ps (record { item = n; descending = d }) k.differ (none_twice n ps d new);
      short = λ low. let before : total (part_width items) ps ≤ bytes = k.short (omega (arith, low)) in omega (arith, low, before, width, total_push (part_width items) ps (record { item = n; descending = d }));
    }

-- where an item is passed, and what the key is then
record Passed (items : List Item) (n : ℕ) (t : KeySoFar) : Type 0 where
  next : t.next ≡ after_item n
  keyed : Keyed items t.bytes t.parts

item_passed : (items : List Item) (r : Run) (k : KeySoFar) (i : Item) (t : KeySoFar) → Keyed items k.bytes k.parts → item_at items k.next ≡ Some i → key_item_at r k i ≡ Ok t → Passed items k.next t
unfolding key_item_at
item_passed items r k i t h at e =
    let a = skip_ok (is_link i.kind || is_part k.next k.parts) _ _ _ e in
    let n = or_parts (is_link i.kind) (is_part k.next k.parts) a.0 in
    subst (Passed items k.next) (ok_same _ t a.1) (record { next = refl; keyed = one_more items k.bytes k.parts k.next r.descending i h at n.0 n.1 })

items_passed : (r : Run) (pre is post : List Item) (k t : KeySoFar) → length (pre ++ (is ++ post)) ≤ 254 → k.next ≡ length pre + 1 → Keyed (pre ++ (is ++ post)) k.bytes k.parts → steps key_item_at r k is ≡ Ok t → Keyed (pre ++ (is ++ post)) t.bytes t.parts
unfolding steps
items_passed r pre [] post k t few n h e = subst (λ (x : KeySoFar). Keyed (pre ++ post) x.bytes x.parts) (ok_same k t e) h
items_passed r pre (i ∷ is) post k t few n h e =
    let a = bind_ok {A = KeySoFar} {B = KeySoFar} (key_item_at r k i) _ t e in
    let p = item_passed (pre ++ i ∷ (is ++ post)) r k i a.0 h (place_of pre i (is ++ post) k.next n) a.1 in
    let more : (pre ++ i ∷ []) ++ (is ++ post) ≡ pre ++ i ∷ (is ++ post) = append_assoc pre (i ∷ []) (is ++ post) in
    let next : a.0.next ≡ length (pre ++ i ∷ []) + 1 = omega (arith, p.next, n, few, length-append pre (i ∷ (is ++ post)), length-append pre (i ∷ [])) in
    subst (λ (l : List Item). Keyed l t.bytes t.parts) more
    (items_passed r (pre ++ i ∷ []) is post a.0 t (rw more few) next (subst (λ (l : List Item). Keyed l a.0.bytes a.0.parts) (sym more) p.keyed) a.2)

run_passed : (r : Run) (items : List Item) (k t : KeySoFar) → length items ≤ 254 → BeginsRun r (length items) → Keyed items k.bytes k.parts → steps key_item_at r (record { next = r.first; bytes = k.bytes; parts = k.parts }) (run_items r items) ≡ Ok t → Keyed items t.bytes t.parts
run_passed r items k t few b h e =
    let upto = b.upto in
    let from = b.from in
    let all : take (r.first - 1) items ++ (run_items r items ++ drop r.count (drop (r.first - 1) items)) ≡ items =
    ap (λ (l : List Item). take (r.first - 1) items ++ l) (take-append-drop r.count (drop (r.first - 1) items)) ∙ take-append-drop (r.first - 1) items in
    let next : r.first ≡ length (take (r.first - 1) items) + 1 = omega (arith, from, upto, length-take-le (r.first - 1) items (omega (arith, upto))) in
    subst (λ (l : List Item). Keyed l t.bytes t.parts) all
    (items_passed r (take (r.first - 1) items) (run_items r items) (drop r.count (drop (r.first - 1) items)) (record { next = r.first; bytes = k.bytes; parts = k.parts }) t (rw all few) next (subst (λ (l : List Item). Keyed l k.bytes k.parts) (sym all) h) e)

part_passed : (d : Draft) (k t : KeySoFar) (p : PartDecl) → length d.items ≤ 254 → AllByRecursion (GroupWithin (length d.items)) d.groups → Keyed d.items k.bytes k.parts → part_at d k p ≡ Ok t → Keyed d.items t.bytes t.parts
unfolding part_at run_of
part_passed d k t p few w h e =
    let a = bind_ok {A = Run} {B = KeySoFar} (run_in p (item_named p.name 1 d.items) (group_named p.name d.groups)) _ t e in
    let b = run_begins d p (item_named p.name 1 d.items) (group_named p.name d.groups) a.0 few w refl refl a.1 in
    run_passed a.0 d.items k t few b h a.2

pub key_sound : (name : List ℕ) (d : Draft) (ps : List PartDecl) (ks : List KeyPart) → length d.items ≤ 254 → AllByRecursion (GroupWithin (length d.items)) d.groups → key_at name d ps ≡ Ok ks → is_key_sound d.items ks ≡ true
unfolding key_at short_key is_key_sound
key_sound name d ps ks few w h =
    let a = bind_ok {A = KeySoFar} {B = List KeyPart} (steps part_at d (record { next = 1; bytes = 0; parts = [] }) ps) _ ks h in
    let k = steps_keep (λ (x : KeySoFar). Keyed d.items x.bytes x.parts) part_at d (λ s t p g e. part_passed d s t p few w g e) (record { next = 1; bytes = 0; parts = [] }) ps a.0 (record { sound = refl; differ = refl; short = λ low. omega arith }) a.1 in
    let b = skip_ok (nat_lt 16 (length a.0.parts)) _ _ _ a.2 in
    let c = skip_ok (nat_lt 96 a.0.bytes) _ _ _ b.1 in
    let low : a.0.bytes ≤ 96 = ltb-false 96 a.0.bytes c.0 in
    subst (λ (x : List KeyPart). is_key_sound d.items x ≡ true) (ok_same a.0.parts ks c.1)
    (and_from _ _ (and_from _ _ (and_from _ _ (le-leb _ _ (ltb-false 16 (length a.0.parts) b.0)) k.sound) k.differ) (le-leb _ _ (omega (arith, low, k.short low))))
