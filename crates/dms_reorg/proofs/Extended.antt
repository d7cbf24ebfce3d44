-- The database under a description that extends its own.
use Rattle.std.proofs.Common.{◌≡◌, ◌∙◌, ◌+◌, ℕ, List, [], ◌∷◌, ◌++◌, Bool, true, false, cond, Some, refl, sym, ap, subst, length, take, drop, map, option_map, arith}
use Rattle.std.specs.Prelude.{T, sum_by, count_by, ◌==◌, ◌&&◌, ◌||◌, not}
use Rattle.std.specs.List.{AllByRecursion, list_all}
use Rattle.std.specs.FinMap.{entries, entries-from_sorted, entries_sorted, find, get-entries, get-from_sorted, is_sorted}
use Rattle.std.specs.FinMap.Entries.{below_all}
use Rattle.std.specs.Ordering.{eq_by_cmp, is_lt}
use Rattle.std.proofs.lemmas.Bool.{and_parts}
use Rattle.std.proofs.lemmas.List.{take-append-drop}
use Rattle.std.proofs.lemmas.List.Sums.{sum_by-cons}
use Rattle.dms_base.specs.declared.kind.ItemKind.{ItemKind}
use Rattle.dms_base.specs.declared.kind.ItemKind.TheVariants.{Alpha, Number as Decimal, Bool as OneBit, Field, Link}
use Rattle.dms_base.specs.declared.value.Value.{Value}
use Rattle.dms_base.specs.declared.value.Value.TheVariants.{Null, Text, Number, Bool as Truth, Bits, Link as Reference}
use Rattle.dms_desc.specs.declared.record.Record.{Record}
use Rattle.dms_desc.specs.declared.structure.Item.{Item}
use Rattle.dms_desc.specs.Conds.{is_null}
use Rattle.dms_desc.specs.Kinds.{is_link}
use Rattle.dms_desc.specs.Lookups.{structure_of, items_of}
use Rattle.dms_desc.specs.Shape.{Shape, Described}
use Rattle.dms_desc_bytes.specs.Finding.{owner_in}
use Rattle.dms_model.specs.Db.{Db, Place, SubsetEntry, place_cmp}
use Rattle.dms_model.specs.Places.{place_is}
use Rattle.dms_model.specs.Uses.{owns_entry, owns_record}
use Rattle.dms_tally.specs.Counts.{counted_in, is_counted_to, links_of, links_to, owned_in}
use Rattle.dms_tally.specs.Tally.{count_more}
use Rattle.dms_reorg.specs.Extended.{extended, extended_record, extended_row, first_values, further}
use Rattle.dms_reorg.specs.Laws.{ExtendsGives, is_unlinked, RowStands, StandsIn, StaysCounted}

-- ---- rows

module _ (old new : Described) where
  found_at : (q : Place) (e : Place × Record) (b : Bool) (rest : _) → eq_by_cmp place_cmp q e.0 ≡ b
      → cond b (Some (extended_record old new e.0.0 e.1)) (option_map (extended_record old new q.0) rest) ≡ option_map (extended_record old new q.0) (cond b (Some e.1) rest)
  found_at q e true rest is = ap (λ (p : Place). Some (extended_record old new p.0 e.1)) (sym (place_is q e.0 is))
  found_at q e false rest is = refl

  find_row : (q : Place) (es : List (Place × Record)) → find place_cmp q (map (extended_row old new) es) ≡ option_map (extended_record old new q.0) (find place_cmp q es)
  find_row q [] = refl
  find_row q (e ∷ es) = ap (cond (eq_by_cmp place_cmp q e.0) (Some (extended_record old new e.0.0 e.1))) (find_row q es) ∙ found_at q e (eq_by_cmp place_cmp q e.0) (find place_cmp q es) refl

  below_row : (x : Place) (es : List (Place × Record)) → below_all place_cmp x (map (extended_row old new) es) ≡ below_all place_cmp x es
  below_row x [] = refl
  below_row x (e ∷ es) = ap (λ b. is_lt (place_cmp x e.0) && b) (below_row x es)

  sorted_row : (es : List (Place × Record)) → is_sorted place_cmp (map (extended_row old new) es) ≡ is_sorted place_cmp es
  sorted_row [] = refl
  sorted_row (e ∷ es) = λ i. below_row e.0 es i && sorted_row es i

  in_order : (db : Db) → T (is_sorted place_cmp (map (extended_row old new) (entries db.records)))
  in_order db = subst T (sym (sorted_row (entries db.records))) (entries_sorted db.records)

  -- its records are the extended ones, in their order
  pub rows_extended : (db : Db) → entries (extended old new db).records ≡ map (extended_row old new) (entries db.records)
  unfolding extended
  rows_extended db = entries-from_sorted place_cmp (map (extended_row old new) (entries db.records)) (in_order db)

pub extends_gives : ExtendsGives
unfolding extended
extends_gives old new db place =
    get-from_sorted place_cmp (map (extended_row old new) (entries db.records)) place (in_order old new db) ∙ find_row old new place (entries db.records)
    ∙ ap (option_map (extended_record old new place.0)) (sym (get-entries db.records place))

-- ---- what a record counts

module _ (set n : ℕ) where
  and_none : (a b : Bool) → (a && b) && false ≡ false
  and_none true true = refl
  and_none true false = refl
  and_none false b = refl

  not_counted : (k : ItemKind) (v : Value) → (not (is_link k) || is_null v) ≡ true → is_counted_to set n k v ≡ false
  not_counted (Alpha m) v h = refl
  not_counted (Decimal a b c) v h = refl
  not_counted OneBit v h = refl
  not_counted (Field m) v h = refl
  not_counted (Link to counted) Null h = and_none counted _
  not_counted (Link to counted) (Text a) h = absurd (cc h)
  not_counted (Link to counted) (Number a) h = absurd (cc h)
  not_counted (Link to counted) (Truth a) h = absurd (cc h)
  not_counted (Link to counted) (Bits a) h = absurd (cc h)
  not_counted (Link to counted) (Reference a) h = absurd (cc h)

  links_both : (items more : List Item) (vs ws : List Value) → length vs ≡ length items → links_to set n (items ++ more) (vs ++ ws) ≡ links_to set n items vs + links_to set n more ws
  links_both [] more [] ws long = omega arith
  links_both [] more (v ∷ vs) ws long = absurd (omega (arith, long))
  links_both (i ∷ items) more [] ws long = absurd (omega (arith, long))
  links_both (i ∷ items) more (v ∷ vs) ws long = let e = links_both items more vs ws (omega (arith, long)) in omega (arith, e)

  links_first : (more : List Item) → list_all is_unlinked more ≡ true → links_to set n more (first_values more) ≡ 0
  links_first [] h = refl
  links_first (i ∷ more) h =
      let both = and_parts (is_unlinked i) (list_all is_unlinked more) h in
      let none = ap {B = ℕ} (λ b. cond b 1 0) (not_counted i.kind i.initial both.0) in
      let rest = links_first more both.1 in
      omega (arith, none, rest)

module _ (old new : Described) where
  -- a structure that stands in the new one has its items, and then the further ones
  pub items_are : (m : ℕ) → StandsIn old new m → items_of (structure_of new m) ≡ items_of (structure_of old m) ++ further old new m
  items_are m h =
      let was = ap items_of h.was in
      let now = ap items_of h.now in
      let front : take (length h.s.items) h.t.items ≡ h.s.items = ap (λ (s : Shape). s.items) h.keeps.same in
      now ∙ sym (take-append-drop (length h.s.items) h.t.items) ∙ ap (λ (l : List Item). l ++ drop (length h.s.items) h.t.items) front
      ∙ sym (λ i. was i ++ drop (length (was i)) (now i))

  pub further_are : (m : ℕ) (h : StandsIn old new m) → further old new m ≡ drop (length h.s.items) h.t.items
  further_are m h = λ i. drop (length (ap items_of h.was i)) (ap items_of h.now i)

  pub owner_is : (m : ℕ) → StandsIn old new m → owner_in (structure_of new m) ≡ owner_in (structure_of old m)
  owner_is m h = ap owner_in h.now ∙ ap (λ (s : Shape). s.owner) h.keeps.same ∙ sym (ap owner_in h.was)

  module _ (set n : ℕ) where
    links_same : (e : Place × Record) → RowStands old new e → links_of new set n (extended_row old new e) ≡ links_of old set n e
    links_same e h =
        let m = e.0.0 in
        let more = further old new m in
        let none = links_first set n more (ap (list_all is_unlinked) (further_are m h.0) ∙ h.0.unlinked) in
        let both = links_both set n (items_of (structure_of old m)) more e.1.values (first_values more) h.1 in
        ap (λ (l : List Item). links_to set n l (e.1.values ++ first_values more)) (items_are m h.0) ∙ omega (arith, both, none)

    sum_same : (es : List (Place × Record)) → AllByRecursion (RowStands old new) es → sum_by (links_of new set n) (map (extended_row old new) es) ≡ sum_by (links_of old set n) es
    sum_same [] all = refl
    sum_same (e ∷ es) all =
        let one = links_same e all.0 in
        let rest = sum_same es all.1 in
        omega (arith, one, rest, sum_by-cons (links_of new set n) (extended_row old new e) (map (extended_row old new) es), sum_by-cons (links_of old set n) e es)

    owns_same : (e : Place × Record) → RowStands old new e → owns_record new set n (extended_row old new e) ≡ owns_record old set n e
    owns_same e h = ap (λ k. (k == set) && (e.1.owner == n)) (owner_is e.0.0 h.0)

    owned_same : (es : List (Place × Record)) → AllByRecursion (RowStands old new) es → count_by (owns_record new set n) (map (extended_row old new) es) ≡ count_by (owns_record old set n) es
    owned_same [] all = refl
    owned_same (e ∷ es) all =
        let one = ap {B = ℕ} (λ b. cond b 1 0) (owns_same e all.0) in
        let rest = owned_same es all.1 in
        omega (arith, one, rest, count_more (owns_record new set n) (extended_row old new e) (map (extended_row old new) es), count_more (owns_record old set n) e es)

    entered_same : (es : List SubsetEntry) → AllByRecursion (λ (e : SubsetEntry). StandsIn old new e.subset) es → count_by (owns_entry new set n) es ≡ count_by (owns_entry old set n) es
    entered_same [] all = refl
    entered_same (e ∷ es) all =
        let one = ap {B = ℕ} (λ k. cond ((k == set) && (e.owner == n)) 1 0) (owner_is e.subset all.0) in
        let rest = entered_same es all.1 in
        omega (arith, one, rest, count_more (owns_entry new set n) e es, count_more (owns_entry old set n) e es)

pub entries_stay : (old new : Described) (db : Db) → (extended old new db).entries ≡ db.entries
unfolding extended
entries_stay old new db = refl

pub stays_counted : StaysCounted
unfolding counted_in owned_in
stays_counted old new db all set n = (
  ap (sum_by (links_of new set n)) (rows_extended old new db) ∙ sum_same old new set n (entries db.records) all.rows,
  (λ i. count_by (owns_record new set n) (rows_extended old new db i) + count_by (owns_entry new set n) (entries_stay old new db i))
      ∙ (λ i. owned_same old new set n (entries db.records) all.rows i + entered_same old new set n db.entries all.subsets i),
)
