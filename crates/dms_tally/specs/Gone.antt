-- What stands without a record that is not in use and to which no self-correcting link refers.
use Rattle.std.proofs.Common.{◌≡◌, ◌∙◌, ◌+◌, ℕ, suc, List, [], ◌∷◌, Bool, true, false, cond, Some, None, refl, sym, ap, slice_get, arith}
use Rattle.std.specs.Prelude.{◌&&◌, ◌==◌, ◌||◌, is_some}
use Rattle.std.specs.List.{list_any}
use Rattle.std.specs.declared.option.Option.{Option}
use Rattle.std.specs.FinMap.{entries, find, get, get-entries, get-remove, remove}
use Rattle.std.specs.Ordering.{eq_by_cmp}
use Rattle.std.proofs.lemmas.Bool.{and_parts}
use Rattle.std.proofs.lemmas.Bool.Decides.{nat_tests}
use Rattle.dms_base.specs.declared.kind.ItemKind.{ItemKind}
use Rattle.dms_base.specs.declared.kind.ItemKind.TheVariants.{Alpha, Number as Decimal, Bool as OneBit, Field, Link}
use Rattle.dms_base.specs.declared.value.Value.{Value}
use Rattle.dms_base.specs.declared.value.Value.TheVariants.{Null, Text, Number, Bool as Truth, Bits, Link as Reference}
use Rattle.dms_desc.specs.Conds.{or_null}
use Rattle.dms_desc.specs.Lookups.{items_of, structure_of}
use Rattle.dms_desc.specs.Shape.{Described}
use Rattle.dms_desc.specs.declared.record.Record.{Record}
use Rattle.dms_desc.specs.declared.structure.Item.{Item}
use Rattle.dms_desc_bytes.specs.Finding.{owner_in as owner_of}
use Rattle.dms_model.specs.Db.{Db, Place, Records, place_cmp}
use Rattle.dms_model.specs.Places.{place_is, places_total}
use Rattle.dms_model.specs.Valid.{link_stands, owner_stands, refers}
use Rattle.dms_tally.specs.Counts.{links_stand}
use Rattle.dms_model.specs.Uses.{in_use, is_entered, is_link_into, links_to, owns_entry, owns_record, refers_to, some_link}

-- ---- none of a map's records

find_any : (P : Place × Record → Bool) (k : Place) (r : Record) (es : List (Place × Record)) → find place_cmp k es ≡ Some r → list_any P es ≡ false → P (k, r) ≡ false
find_any P k r [] at off = absurd (cc)
find_any P k r (e ∷ es) at off = by (eq_by_cmp place_cmp k e.0) refl at (or_parts (P e) (list_any P es) off) (λ a o. find_any P k r es a o)
  where
    or_parts : (a b : Bool) → (a || b) ≡ false → (a ≡ false) × (b ≡ false)
    or_parts true b h = absurd (cc)
    or_parts false b h = (refl, h)

    by : (b : Bool) → eq_by_cmp place_cmp k e.0 ≡ b → cond b (Some e.1) (find place_cmp k es) ≡ Some r → (P e ≡ false) × (list_any P es ≡ false) → (find place_cmp k es ≡ Some r → list_any P es ≡ false → P (k, r) ≡ false) → P (k, r) ≡ false
    by true is a none rest = (λ i. P (place_is k e.0 is i, (the_same e.1 r a) i)) ∙ none.0
      where
        the_same : (x y : Record) → ◌≡◌ {A = Option Record} (Some x) (Some y) → y ≡ x
        the_same x y h = cc
    by false is a none rest = rest a none.1

pub none_at : (P : Place × Record → Bool) (m : Records) (k : Place) (r : Record) → get m k ≡ Some r → list_any P (entries m) ≡ false → P (k, r) ≡ false
none_at P m k r at off = find_any P k r (entries m) (sym (get-entries m k) ∙ at) off

-- ---- one record gone

module _ (set number : ℕ) (m : Records) where
  abbrev left : Records
  left = remove m (set, number)

  tie_off : (t k : ℕ) → ((t == set) && (k == number)) ≡ false → eq_by_cmp place_cmp (t, k) (set, number) ≡ false
  tie_off t k off = by (t == set) (k == number) refl refl off
    where
      by : (a b : Bool) → (t == set) ≡ a → (k == number) ≡ b → (a && b) ≡ false → eq_by_cmp place_cmp (t, k) (set, number) ≡ false
      by true true x y h = absurd (cc)
      by true false x y h = grind (arith, nat_tests, x, y)
      by false b x y h = grind (arith, nat_tests, x)

  -- every other one is as it was
  pub other_left : (t k : ℕ) → ((t == set) && (k == number)) ≡ false → get left (t, k) ≡ get m (t, k)
  other_left t k off = get-remove places_total m (set, number) (t, k) ∙ ap (λ b. cond b None (get m (t, k))) (tie_off t k off)

  refers_left : (to : ℕ) (v : Value) → refers m to v ≡ true → ((to == set) && refers_to number v) ≡ false → refers left to v ≡ true
  refers_left to Null h off = h
  refers_left to (Text a) h off = h
  refers_left to (Number a) h off = h
  refers_left to (Truth a) h off = h
  refers_left to (Bits a) h off = h
  refers_left to (Reference k) h off = ap is_some (other_left to k off) ∙ h

  link_left : (k : ItemKind) (v : Value) → link_stands m k v ≡ true → (is_link_into true set k && refers_to number v) ≡ false → (is_link_into false set k && refers_to number v) ≡ false → link_stands left k v ≡ true
  link_left (Alpha a) v h on off = h
  link_left (Decimal a d s) v h on off = h
  link_left OneBit v h on off = h
  link_left (Field a) v h on off = h
  link_left (Link to true) v h on off = refers_left to v h (sym (ap (λ b. b && refers_to number v) (with_true (to == set))) ∙ on)
    where
      with_true : (b : Bool) → (b && true) ≡ b
      with_true true = refl
      with_true false = refl
  link_left (Link to false) v h on off = refers_left to v h (sym (ap (λ b. b && refers_to number v) (with_true (to == set))) ∙ off)
    where
      with_true : (b : Bool) → (b && true) ≡ b
      with_true true = refl
      with_true false = refl

  or_left : (a b : Bool) → (a || b) ≡ false → (a ≡ false) × (b ≡ false)
  or_left true b h = absurd (cc)
  or_left false b h = (refl, h)

  links_left : (k : ℕ) (is : List Item) (values vs : List Value) → ((j : ℕ) → or_null (slice_get values (k + j)) ≡ or_null (slice_get vs j)) → links_stand m is vs ≡ true → some_link true set number k is values ≡ false → some_link false set number k is values ≡ false
      → links_stand left is vs ≡ true
  links_left k [] values vs behind h on off = refl
  links_left k (i ∷ is) values [] behind h on off = refl
  links_left k (i ∷ is) values (v ∷ vs) behind h on off =
      let e : k ≡ k + 0 = omega arith in
      let value : or_null (slice_get values k) ≡ v = ap (λ n. or_null (slice_get values n)) e ∙ behind 0 in
      let both = and_parts (link_stands m i.kind v) (links_stand m is vs) h in
      let yes = or_left (is_link_into true set i.kind && refers_to number (or_null (slice_get values k))) (some_link true set number (k + 1) is values) on in
      let not_it = or_left (is_link_into false set i.kind && refers_to number (or_null (slice_get values k))) (some_link false set number (k + 1) is values) off in
      let here = link_left i.kind v both.0 (ap (λ x. is_link_into true set i.kind && refers_to number x) (sym value) ∙ yes.0) (ap (λ x. is_link_into false set i.kind && refers_to number x) (sym value) ∙ not_it.0) in
      let rest = links_left (k + 1) is values vs (λ j. let n : (k + 1) + j ≡ k + suc j = omega arith in ap (λ x. or_null (slice_get values x)) n ∙ behind (suc j)) both.1 yes.1 not_it.1 in
      λ j. here j && rest j

  pub owner_left : (to owner : ℕ) → owner_stands m to owner ≡ true → ((to == set) && (owner == number)) ≡ false → owner_stands left to owner ≡ true
  owner_left to owner h off = by (to == 0) h
    where
      by : (b : Bool) → cond b (owner == 0) (is_some (get m (to, owner))) ≡ true → cond b (owner == 0) (is_some (get left (to, owner))) ≡ true
      by true is = is
      by false is = ap is_some (other_left to owner off) ∙ is

-- ---- a record that may be removed

-- what its links refer to stands among these records
abbrev pub LinksStand : Described → Records → Place → Record → Type 0
LinksStand desc m p r = links_stand m (items_of (structure_of desc p.0)) r.values ≡ true

-- and so does its owner
abbrev pub OwnerStands : Described → Records → Place → Record → Type 0
OwnerStands desc m p r = owner_stands m (owner_of (structure_of desc p.0)) r.owner ≡ true

-- it isn't in use, and no self-correcting link refers to it
pub record MayGo (desc : Described) (db : Db) (set number : ℕ) : Type 0 where
  pub free : in_use desc db set number ≡ false
  pub none : list_any (links_to false desc set number) (entries db.records) ≡ false

pub record Unused (desc : Described) (db : Db) (set number : ℕ) : Type 0 where
  pub counted : list_any (links_to true desc set number) (entries db.records) ≡ false
  pub entered : list_any (is_entered desc set number) db.entries ≡ false
  pub records : list_any (owns_record desc set number) (entries db.records) ≡ false
  pub entries : list_any (owns_entry desc set number) db.entries ≡ false

four_parts : (a b c d : Bool) → (a || b || (c || d)) ≡ false → (a ≡ false) × (b ≡ false) × (c ≡ false) × (d ≡ false)
four_parts true b c d h = absurd (cc)
four_parts false true c d h = absurd (cc)
four_parts false false true d h = absurd (cc)
four_parts false false false true h = absurd (cc)
four_parts false false false false h = (refl, refl, refl, refl)

pub unused : (desc : Described) (db : Db) (set number : ℕ) → in_use desc db set number ≡ false → Unused desc db set number
unfolding in_use
unused desc db set number h =
    let parts = four_parts (list_any (links_to true desc set number) (entries db.records)) (list_any (is_entered desc set number) db.entries) (list_any (owns_record desc set number) (entries db.records)) (list_any (owns_entry desc set number) db.entries) h in
    record { counted = parts.0; entered = parts.1; records = parts.2; entries = parts.3 }

module _ (desc : Described) (db : Db) (set number : ℕ) (may : MayGo desc db set number) where
  -- The links of each record stand without it,
  pub links_without : (p : Place) (r : Record) → get db.records p ≡ Some r → LinksStand desc db.records p r → LinksStand desc (remove db.records (set, number)) p r
  links_without p r at h =
      links_left set number db.records 0 (items_of (structure_of desc p.0)) r.values r.values (λ j. let e : 0 + j ≡ j = omega arith in ap (λ n. or_null (slice_get r.values n)) e) h
      (none_at (links_to true desc set number) db.records p r at (unused desc db set number may.free).counted)
      (none_at (links_to false desc set number) db.records p r at may.none)

  -- and so does its owner.
  pub owner_without : (p : Place) (r : Record) → get db.records p ≡ Some r → OwnerStands desc db.records p r → OwnerStands desc (remove db.records (set, number)) p r
  owner_without p r at h = owner_left set number db.records (owner_of (structure_of desc p.0)) r.owner h (none_at (owns_record desc set number) db.records p r at (unused desc db set number may.free).records)
