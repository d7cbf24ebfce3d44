-- The width of entries.
use Rattle.std.proofs.Common.{◌≡◌, ℕ, ◌+◌, ◌-◌, List, [], ◌∷◌, ◌++◌, Bool, true, false, cond, Some, None, refl, sym, ap, ◌∙◌, length, length-append, replicate, subst, arith}
use Rattle.std.specs.Prelude.{is_some}
use Rattle.std.specs.declared.option.Option.{Option}
use Rattle.std.specs.Int.{w32, to_be_bytes}
use Rattle.std.proofs.lemmas.Option.{same_Some}
use Rattle.dms_base.specs.declared.value.Value.{Value}
use Rattle.dms_base.specs.declared.kind.ItemKind.{ItemKind}
use Rattle.dms_desc.specs.declared.structure.KeyPart.{KeyPart}
use Rattle.dms_desc.specs.declared.record.Record.{Record}
use Rattle.dms_desc.specs.Shape.{Shape}
use Rattle.dms_desc.specs.Conds.{item_of}
use Rattle.dms_key.specs.KeyBytes.{kind_of, key_bytes, key_width, part_bytes, part_width, field_bytes}
use Rattle.dms_key.specs.KeyOrder.{fits_length, turned_length}
use Rattle.dms_desc.specs.Keys.{key_of}
use Rattle.dms_desc.specs.Kinds.{takes}
use Rattle.dms_lists.specs.declared.form.ListForm.{ListForm}
use Rattle.dms_sets.specs.Entries.{entry_bytes}
use Rattle.dms_sets.specs.Padded.{entry_width}
use Rattle.dms_chain.specs.Lists.{with_entry, without, with_in, without_in, pad_bound, first_from}
use Rattle.dms_sets.specs.Prefixes.{starts}
use Rattle.dms_desc.specs.Sorted.{that_passes}
use Rattle.dms_sets.specs.Changes.{IfListed, ListsOf, IsEntryWidth, OnlyList, OnlyRoomy, PartFits, PartsFit, HasEntry, entry_in, front_in, is_seen}

part_long : (o : Option ItemKind) (d : Bool) (v : Value) → PartFits o v → length (part_bytes o d v) ≡ part_width o
part_long None d v f = absurd f
part_long (Some k) d v f = turned_length d (field_bytes k v) ∙ fits_length k v f

key_long : (kinds : List ItemKind) (ps : List KeyPart) (values : List Value) → PartsFit kinds ps values → length (key_bytes kinds ps (key_of ps values)) ≡ key_width kinds ps
key_long kinds [] values f = refl
key_long kinds (p ∷ ps) values f =
    length-append (part_bytes (kind_of kinds p) p.descending (item_of values p.item)) (key_bytes kinds ps (key_of ps values))
    ∙ (λ j. part_long (kind_of kinds p) p.descending (item_of values p.item) f.0 j + key_long kinds ps values f.1 j)

-- the bytes of an owner and a key that fits
pub front_long : (kinds : List ItemKind) (s : Shape) (rec : Record) → HasEntry kinds s rec.values → length (front_in kinds s rec) + 4 ≡ entry_width kinds s.parts
front_long kinds s rec f =
    let whole = length-append (to_be_bytes w32 rec.owner) (key_bytes kinds s.parts (key_of s.parts rec.values)) in
    let key = key_long kinds s.parts rec.values f.parts in
    omega (arith, whole, key)

taken_long : (b : Bool) (kinds : List ItemKind) (s : Shape) (number : ℕ) (rec : Record) (q : List ℕ) → HasEntry kinds s rec.values
    → cond b (Some (entry_bytes kinds s.parts rec.owner (key_of s.parts rec.values) number)) None ≡ Some q → length q ≡ entry_width kinds s.parts
taken_long true kinds s number rec q f h =
    let key = key_bytes kinds s.parts (key_of s.parts rec.values) in
    let whole = length-append (to_be_bytes w32 rec.owner) (key ++ to_be_bytes w32 number) in
    let rest = length-append key (to_be_bytes w32 number) in
    let long = key_long kinds s.parts rec.values f.parts in
    ap length (sym (same_Some _ q h)) ∙ omega (arith, whole, rest, long)
taken_long false kinds s number rec q f h = absurd (cc)

-- and those of an entry
pub entry_long : (kinds : List ItemKind) (s : Shape) (number : ℕ) (rec : Record) (q : List ℕ) → HasEntry kinds s rec.values → entry_in kinds s number rec ≡ Some q → length q ≡ entry_width kinds s.parts
entry_long kinds s number rec q f h = taken_long (takes s rec.values) kinds s number rec q f h

-- ---- as calls on a list have them

pub entry_whole : (kinds : List ItemKind) (s : Shape) (number : ℕ) (rec : Record) (q : List ℕ) → HasEntry kinds s rec.values → entry_in kinds s number rec ≡ Some q → IsEntryWidth (length q)
entry_whole kinds s number rec q f h =
    let long = entry_long kinds s number rec q f h in
    (omega (arith, long), omega (arith, long, f.width))

pub front_whole : (kinds : List ItemKind) (s : Shape) (rec : Record) → HasEntry kinds s rec.values → IsEntryWidth (length (front_in kinds s rec ++ 0 ∷ 0 ∷ 0 ∷ 0 ∷ []))
front_whole kinds s rec f =
    let long = front_long kinds s rec f in
    let more = length-append (front_in kinds s rec) (0 ∷ 0 ∷ 0 ∷ 0 ∷ []) in
    (omega (arith, long, more), omega (arith, long, more, f.width))

pub bound_long : (kinds : List ItemKind) (s : Shape) (rec : Record) → HasEntry kinds s rec.values → length (front_in kinds s rec ++ 0 ∷ 0 ∷ 0 ∷ 0 ∷ []) ≡ entry_width kinds s.parts
bound_long kinds s rec f = length-append (front_in kinds s rec) (0 ∷ 0 ∷ 0 ∷ 0 ∷ []) ∙ front_long kinds s rec f

bound_is : (kinds : List ItemKind) (s : Shape) (rec : Record) → HasEntry kinds s rec.values → front_in kinds s rec ++ 0 ∷ 0 ∷ 0 ∷ 0 ∷ [] ≡ pad_bound (entry_width kinds s.parts) (front_in kinds s rec)
bound_is kinds s rec f =
    let long = front_long kinds s rec f in
    let four : 4 ≡ entry_width kinds s.parts - length (front_in kinds s rec) = omega (arith, long) in
    ap (λ n. front_in kinds s rec ++ replicate n 0) four

pub put_only : (o : Option (List ℕ)) (q : List ℕ) (n : ℕ) (form k : ListForm) (w : ℕ) (a b : ListsOf) → o ≡ Some q → form ≡ k → length q ≡ w → OnlyRoomy (with_entry q) n form (length q) a b → OnlyRoomy (with_in o) n k w a b
put_only o q n form k w a b is same long h =
    subst (λ (p : Option (List ℕ)). OnlyRoomy (with_in p) n k w a b) (sym is) (subst (λ v. OnlyRoomy (with_entry q) n k v a b) long (subst (λ (f : ListForm). OnlyRoomy (with_entry q) n f (length q) a b) same h))

pub taken_only : (o : Option (List ℕ)) (q : List ℕ) (n : ℕ) (form k : ListForm) (w : ℕ) (a b : ListsOf) → o ≡ Some q → form ≡ k → length q ≡ w → OnlyList (without q) n form (length q) a b → OnlyList (without_in o) n k w a b
taken_only o q n form k w a b is same long h =
    subst (λ (p : Option (List ℕ)). OnlyList (without_in p) n k w a b) (sym is) (subst (λ v. OnlyList (without q) n k v a b) long (subst (λ (f : ListForm). OnlyList (without q) n f (length q) a b) same h))

-- what holds of a list in its form, where its entries have this width
pub listed_as : (ls : ListsOf) (n : ℕ) (form k : ListForm) (v w : ℕ) (P : List (List ℕ) → Type 0) → form ≡ k → v ≡ w → IfListed (ls n form v) P → IfListed (ls n k w) P
listed_as ls n form k v w P same long h = subst (λ (f : ListForm). IfListed (ls n f w) P) same (subst (λ u. IfListed (ls n form u) P) long h)

-- what the first entry not below the bound says
pub seen_none : (kinds : List ItemKind) (s : Shape) (rec : Record) (xs : List (List ℕ)) → HasEntry kinds s rec.values → first_from (Some (front_in kinds s rec ++ 0 ∷ 0 ∷ 0 ∷ 0 ∷ [])) xs ≡ None → false ≡ is_seen kinds s rec xs
seen_none kinds s rec xs f h =
    sym (ap (λ (b : List ℕ). is_some (that_passes (starts (front_in kinds s rec)) (first_from (Some b) xs))) (sym (bound_is kinds s rec f)) ∙ ap (λ o. is_some (that_passes (starts (front_in kinds s rec)) o)) h)

some_passes : (b : Bool) (q : List ℕ) → is_some (cond b (Some q) None) ≡ b
some_passes true q = refl
some_passes false q = refl

pub seen_some : (kinds : List ItemKind) (s : Shape) (rec : Record) (xs : List (List ℕ)) (q : List ℕ) → HasEntry kinds s rec.values → first_from (Some (front_in kinds s rec ++ 0 ∷ 0 ∷ 0 ∷ 0 ∷ [])) xs ≡ Some q
    → starts (front_in kinds s rec) q ≡ is_seen kinds s rec xs
seen_some kinds s rec xs q f h =
    sym (ap (λ (b : List ℕ). is_some (that_passes (starts (front_in kinds s rec)) (first_from (Some b) xs))) (sym (bound_is kinds s rec f))
    ∙ ap (λ o. is_some (that_passes (starts (front_in kinds s rec)) o)) h ∙ some_passes (starts (front_in kinds s rec) q) q)
