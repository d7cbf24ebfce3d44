-- A record is in use where its slot counts something, or an entry names it.
use Rattle.std.proofs.Common.{◌≡◌, ◌∙◌, ◌+◌, ℕ, zero, suc, List, [], ◌∷◌, Bool, true, false, cond, refl, sym, ap, slice_get, arith}
use Rattle.std.specs.Prelude.{◌&&◌, ◌==◌, ◌||◌, count_by, nat_lt, sum_by}
use Rattle.std.specs.List.{list_any}
use Rattle.std.specs.FinMap.{entries}
use Rattle.std.proofs.lemmas.Bool.Decides.{nat_tests}
use Rattle.std.proofs.lemmas.List.Sums.{sum_by-cons}
use Rattle.dms_base.specs.declared.kind.ItemKind.{ItemKind}
use Rattle.dms_base.specs.declared.kind.ItemKind.TheVariants.{Alpha, Number as Decimal, Bool as OneBit, Field, Link}
use Rattle.dms_base.specs.declared.value.Value.{Value}
use Rattle.dms_base.specs.declared.value.Value.TheVariants.{Null, Text, Number, Bool as Truth, Bits, Link as Reference}
use Rattle.dms_desc.specs.Conds.{or_null}
use Rattle.dms_desc.specs.Lookups.{items_of, structure_of}
use Rattle.dms_desc.specs.Shape.{Described}
use Rattle.dms_desc.specs.declared.structure.Item.{Item}
use Rattle.dms_model.specs.Db.{Db, Place}
use Rattle.dms_desc.specs.declared.record.Record.{Record}
use Rattle.dms_tally.specs.Counts.{counted_in, is_counted_to, is_number, links_of, links_to, owned_in}
use Rattle.dms_tally.specs.Tally.{count_more}
use Rattle.dms_model.specs.Uses.{in_use, is_entered, is_link_into, links_to as has_link, owns_entry, owns_record, refers_to, some_link}

-- ---- one link

same_number : (n : ℕ) (v : Value) → is_number n v ≡ refers_to n v
same_number n Null = refl
same_number n (Text a) = refl
same_number n (Number a) = refl
same_number n (Truth a) = refl
same_number n (Bits a) = refl
same_number n (Reference m) = refl

one_link : (set n : ℕ) (k : ItemKind) (v : Value) → is_counted_to set n k v ≡ (is_link_into true set k && refers_to n v)
one_link set n (Alpha a) v = refl
one_link set n (Decimal a d s) v = refl
one_link set n OneBit v = refl
one_link set n (Field a) v = refl
one_link set n (Link to counted) v = by counted (to == set) ∙ ap (λ x. ((to == set) && counted) && x) (same_number n v)
  where
    by : (a b : Bool) → ((a && b) && is_number n v) ≡ ((b && a) && is_number n v)
    by true true = refl
    by true false = refl
    by false true = refl
    by false false = refl

-- ---- a sum above 0

more_than : (a b : ℕ) → nat_lt 0 (a + b) ≡ (nat_lt 0 a || nat_lt 0 b)
more_than zero b = ap (nat_lt 0) (let e : 0 + b ≡ b = omega arith in e)
more_than (suc a) b = grind (arith, nat_tests)

one_more : (b : Bool) (r : ℕ) → nat_lt 0 (cond b 1 0 + r) ≡ (b || nat_lt 0 r)
one_more true r = grind (arith, nat_tests)
one_more false r = ap (nat_lt 0) (let e : 0 + r ≡ r = omega arith in e)

no_link : (b : Bool) → (b && false) ≡ false
no_link true = refl
no_link false = refl

-- a record's counted links
none_left : (set n k : ℕ) (is : List Item) (values : List Value) → ((j : ℕ) → or_null (slice_get values (k + j)) ≡ Null) → some_link true set n k is values ≡ false
none_left set n k [] values none = refl
none_left set n k (i ∷ is) values none =
    let e : k ≡ k + 0 = omega arith in
    let here : (is_link_into true set i.kind && refers_to n (or_null (slice_get values k))) ≡ false = ap (λ v. is_link_into true set i.kind && refers_to n v) (ap (λ m. or_null (slice_get values m)) e ∙ none 0) ∙ no_link (is_link_into true set i.kind) in
    let rest = none_left set n (k + 1) is values (λ j. let m : (k + 1) + j ≡ k + suc j = omega arith in ap (λ x. or_null (slice_get values x)) m ∙ none (suc j)) in
    λ x. here x || rest x

links_some : (set n k : ℕ) (is : List Item) (values vs : List Value) → ((j : ℕ) → or_null (slice_get values (k + j)) ≡ or_null (slice_get vs j)) → nat_lt 0 (links_to set n is vs) ≡ some_link true set n k is values
links_some set n k [] values vs behind = refl
links_some set n k (i ∷ is) values [] behind = sym (none_left set n k (i ∷ is) values (λ j. behind j))
links_some set n k (i ∷ is) values (v ∷ vs) behind =
    let e : k ≡ k + 0 = omega arith in
    let value : v ≡ or_null (slice_get values k) = sym (ap (λ m. or_null (slice_get values m)) e ∙ behind 0) in
    one_more (is_counted_to set n i.kind v) (links_to set n is vs)
    ∙ (λ x. (one_link set n i.kind v ∙ ap (λ y. is_link_into true set i.kind && refers_to n y) value) x
    || links_some set n (k + 1) is values vs (λ j. let m : (k + 1) + j ≡ k + suc j = omega arith in ap (λ y. or_null (slice_get values y)) m ∙ behind (suc j)) x)

-- ---- all records

counted_list : (desc : Described) (set n : ℕ) (es : List (Place × Record)) → nat_lt 0 (sum_by (links_of desc set n) es) ≡ list_any (has_link true desc set n) es
counted_list desc set n [] = refl
counted_list desc set n (e ∷ es) =
    ap (nat_lt 0) (sum_by-cons (links_of desc set n) e es) ∙ more_than (links_of desc set n e) (sum_by (links_of desc set n) es)
    ∙ (λ x. links_some set n 0 (items_of (structure_of desc e.0.0)) e.1.values e.1.values (λ j. let m : 0 + j ≡ j = omega arith in ap (λ y. or_null (slice_get e.1.values y)) m) x || counted_list desc set n es x)

-- A counted link refers to a record where its slot counts one,
pub counted_used : (desc : Described) (db : Db) (set n : ℕ) → nat_lt 0 (counted_in desc db set n) ≡ list_any (has_link true desc set n) (entries db.records)
unfolding counted_in
counted_used desc db set n = counted_list desc set n (entries db.records)

count_some : {A : Type 0} (p : A → Bool) (es : List A) → nat_lt 0 (count_by p es) ≡ list_any p es
count_some p [] = refl
count_some p (e ∷ es) = ap (nat_lt 0) (count_more p e es) ∙ one_more (p e) (count_by p es) ∙ ap (λ b. p e || b) (count_some p es)

-- and it owns something where it counts that.
pub owned_used : (desc : Described) (db : Db) (set n : ℕ) → nat_lt 0 (owned_in desc db set n) ≡ (list_any (owns_record desc set n) (entries db.records) || list_any (owns_entry desc set n) db.entries)
unfolding owned_in
owned_used desc db set n =
    more_than (count_by (owns_record desc set n) (entries db.records)) (count_by (owns_entry desc set n) db.entries)
    ∙ (λ i. count_some (owns_record desc set n) (entries db.records) i || count_some (owns_entry desc set n) db.entries i)

pub in_use_is : (desc : Described) (db : Db) (set n : ℕ) → in_use desc db set n ≡ ((nat_lt 0 (counted_in desc db set n) || list_any (is_entered desc set n) db.entries) || nat_lt 0 (owned_in desc db set n))
unfolding in_use
in_use_is desc db set n = sym (λ i. (counted_used desc db set n i || list_any (is_entered desc set n) db.entries) || owned_used desc db set n i)
