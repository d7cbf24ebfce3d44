-- A valid database is valid after a link of a record was set, to null or to a record that stands.
use Rattle.std.proofs.Common.{◌≡◌, ◌≤◌, ◌<◌, ◌^◌, ◌-◌, ◌∙◌, ℕ, zero, suc, List, [], ◌∷◌, Bool, true, false, cond, eqb, Some, None, refl, sym, ap, subst, length, arith}
use Rattle.std.specs.Prelude.{◌==◌, IsTrue, is_some, nat_lt, slice_get, slice_set}
use Rattle.std.specs.List.{AllByRecursion}
use Rattle.std.specs.declared.option.Option.{Option}
use Rattle.std.specs.FinMap.{get, get-insert, insert}
use Rattle.std.specs.Ordering.{eq_by_cmp}
use Rattle.std.proofs.lemmas.Bool.Decides.{nat_tests}
use Rattle.std.proofs.lemmas.List.{length-set}
use Rattle.dms_base.specs.declared.kind.ItemKind.{ItemKind}
use Rattle.dms_base.specs.declared.kind.ItemKind.TheVariants.{Alpha, Number as Decimal, Bool as OneBit, Field, Link}
use Rattle.dms_base.specs.declared.value.Value.{Value}
use Rattle.dms_base.specs.Fits.{fits}
use Rattle.dms_desc.specs.declared.structure.Item.{Item}
use Rattle.dms_desc.specs.declared.record.Record.{Record}
use Rattle.dms_desc.specs.Conds.{or_null}
use Rattle.dms_desc.specs.Kinds.{is_link}
use Rattle.dms_desc.specs.Lookups.{items_of, structure_of}
use Rattle.dms_desc.specs.Plain.{ArePlain, IsPlain}
use Rattle.dms_desc.specs.Shape.{Shape, Described}
use Rattle.dms_model.specs.Db.{Db, Place, Records, SubsetEntry, place_cmp}
use Rattle.dms_model.specs.Fitting.{HasRecord}
use Rattle.dms_model.specs.FitLaws.{get_set_here, get_set_other}
use Rattle.dms_model.specs.Places.{place_is, places_total, stands_still}
use Rattle.dms_model.specs.Stores.{is_link_item}
use Rattle.dms_model.specs.Uses.{after_link, link_value, linked_record}
use Rattle.dms_model.specs.Valid.{EntryStands, IsValid, OfItems, link_stands, owner_stands, value_at}
use Rattle.dms_laws.specs.Made.{IsWellMade}
use Rattle.dms_laws.proofs.Counts.{count_replace}
use Rattle.dms_laws.proofs.Revised.{IsRevised, revised_valid, shape_at}
use Rattle.dms_laws.proofs.Values.{AgreeOff, link_still}

-- ---- one value of a list set

set_agree : (items : List Item) (vs : List Value) (j : ℕ) (v : Value) → is_link_item (slice_get items j) ≡ true → AgreeOff items (slice_set vs j v) vs
set_agree items vs j v link k off = by (eqb j k) refl
  where
    by : (b : Bool) → eqb j k ≡ b → value_at (slice_set vs j v) k ≡ value_at vs k
    by true e = absurd (let is : j ≡ k = grind (arith, nat_tests, e) in let no = sym (ap (λ n. is_link_item (slice_get items n)) is) ∙ link in cc)
    by false e = ap or_null (get_set_other vs j k v (λ is. grind (arith, nat_tests, e, is)))

past : {A : Type 0} (xs : List A) (j : ℕ) → length xs ≤ j → slice_get xs j ≡ None
past [] j h = refl
past (x ∷ xs) zero h = absurd (omega (arith, h))
past (x ∷ xs) (suc j) h = past xs j (omega (arith, h))

-- a value of it is the new one, or as it was
set_items : (P : Item → Value → Type 0) (items : List Item) (vs : List Value) (j : ℕ) (v : Value) → length vs ≡ length items → ((item : Item) → slice_get items j ≡ Some item → P item v) → OfItems items vs P → OfItems items (slice_set vs j v) P
set_items P items vs j v long new all k item at = by (eqb j k) refl
  where
    by : (b : Bool) → eqb j k ≡ b → P item (value_at (slice_set vs j v) k)
    by true e =
        let is : j ≡ k = grind (arith, nat_tests, e) in
        within (nat_lt j (length vs)) refl is
      where
        within : (c : Bool) → nat_lt j (length vs) ≡ c → j ≡ k → P item (value_at (slice_set vs j v) k)
        within true low is =
            let lt : j < length vs = grind (arith, nat_tests, low) in
            subst (P item) (sym (ap (λ n. value_at (slice_set vs j v) n) (sym is) ∙ ap or_null (get_set_here vs j v lt))) (new item (ap (slice_get items) is ∙ at))
        within false low is =
            let none = past items j (grind (arith, nat_tests, low, long)) in
            absurd (let some = ap (slice_get items) is ∙ at in cc)
    by false e = subst (P item) (sym (ap or_null (get_set_other vs j k v (λ is. grind (arith, nat_tests, e, is))))) (all k item at)

plain_set : (vs : List Value) (j : ℕ) (v : Value) → IsPlain v → ArePlain vs → ArePlain (slice_set vs j v)
plain_set [] j v h all = tt
plain_set (x ∷ vs) zero v h all = (h, all.1)
plain_set (x ∷ vs) (suc j) v h all = (all.0, plain_set vs j v h all.1)

plain_link : (to : Option ℕ) → IsPlain (link_value to)
plain_link None = tt
plain_link (Some n) = tt

module _ (desc : Described) (made : IsWellMade desc) (db : Db) (valid : IsValid desc db) where
  -- a link that refers to a record that stands fits
  link_fits : (k : ItemKind) (to : Option ℕ) → is_link k ≡ true → link_stands db.records k (link_value to) ≡ true → fits k (link_value to) ≡ true
  link_fits (Alpha n) to link stands = absurd (cc)
  link_fits (Decimal n m s) to link stands = absurd (cc)
  link_fits OneBit to link stands = absurd (cc)
  link_fits (Field n) to link stands = absurd (cc)
  link_fits (Link t c) None link stands = refl
  link_fits (Link t c) (Some n) link stands = by (get db.records (t, n)) refl stands
    where
      by : (o : Option Record) → get db.records (t, n) ≡ o → is_some o ≡ true → nat_lt n (2 ^ 32) ≡ true
      by None at some = absurd (cc)
      by (Some r) at some =
          shape_at desc db valid (t, n) r at (nat_lt n (2 ^ 32) ≡ true) (λ shape has.
          let within = (valid.numbers (t, n) r shape at has).1 in
          let low = made.populations t shape has in
          let lt : n < 2 ^ 32 = omega (arith, within, low) in
          grind (arith, nat_tests, lt))

  module _ (set number item : ℕ) (to : Option ℕ) (w : Record) (at : get db.records (set, number) ≡ Some w) (shape : Shape) (has : structure_of desc set ≡ Some shape)
      (link : is_link_item (slice_get shape.items (item - 1)) ≡ true) (target : (x : Item) → slice_get shape.items (item - 1) ≡ Some x → link_stands db.records x.kind (link_value to) ≡ true) where
    abbrev linked : Record
    linked = record w { values = slice_set w.values (item - 1) (link_value to) }

    abbrev left : Records
    left = insert db.records (set, number) linked

    link_kind : (x : Item) → slice_get shape.items (item - 1) ≡ Some x → is_link x.kind ≡ true
    link_kind x here = sym (ap is_link_item here) ∙ link

    of_left : (P : Place → Record → Shape → Type 0) → ((s : Shape) → s ≡ shape → P (set, number) linked s)
        → ((q : Place) (r : Record) (s : Shape) → get db.records q ≡ Some r → structure_of desc q.0 ≡ Some s → P q r s)
        → (q : Place) (r : Record) (s : Shape) → get left q ≡ Some r → structure_of desc q.0 ≡ Some s → P q r s
    of_left P new old q r s is here = by (eq_by_cmp place_cmp q (set, number)) refl (sym (get-insert places_total db.records (set, number) linked q) ∙ is)
      where
        by : (b : Bool) → eq_by_cmp place_cmp q (set, number) ≡ b → cond b (Some linked) (get db.records q) ≡ Some r → P q r s
        by true e h =
            let same : linked ≡ r = cc in
            let place = place_is q (set, number) e in
            let shapes : Some s ≡ Some shape = sym here ∙ ap (λ (x : Place). structure_of desc x.0) place ∙ has in
            subst (λ (x : Place). P x r s) (sym place) (subst (λ (x : Record). P (set, number) x s) same (new s (let e : s ≡ shape = cc in e)))
        by false e h = old q r s h here

    itself : (q : Place) (r : Record) (s : Shape) → get db.records q ≡ Some r → structure_of desc q.0 ≡ Some s → IsRevised desc db q r s
    itself q r s is here = record {
      was = r;
      stood = is;
      owner = refl;
      long = refl;
      same = λ j off. refl;
      fit = valid.fit q r s is here;
      plain = valid.plain q r s is here;
    }

    changed : (s : Shape) → s ≡ shape → IsRevised desc db (set, number) linked s
    changed s e = subst (IsRevised desc db (set, number) linked) (sym e) (record {
      was = w;
      stood = at;
      owner = refl;
      long = length-set w.values (item - 1) (link_value to);
      same = set_agree shape.items w.values (item - 1) (link_value to) link;
      fit = set_items (λ x v. fits x.kind v ≡ true) shape.items w.values (item - 1) (link_value to) (valid.lengths (set, number) w shape at has) (λ x here. link_fits x.kind to (link_kind x here) (target x here)) (valid.fit (set, number) w shape at has);
      plain = plain_set w.values (item - 1) (link_value to) (plain_link to) (valid.plain (set, number) w shape at has);
    })

    abbrev Linked : Place → Record → Shape → Type 0
    Linked q r s = OfItems s.items r.values (λ x v. link_stands left x.kind v ≡ true)

    changed_links : (s : Shape) → s ≡ shape → Linked (set, number) linked s
    changed_links s e = subst (Linked (set, number) linked) (sym e)
        (set_items (λ x v. link_stands left x.kind v ≡ true) shape.items w.values (item - 1) (link_value to) (valid.lengths (set, number) w shape at has)
        (λ x here. link_still db.records (set, number) linked x.kind (link_value to) (target x here))
        (λ k x here. link_still db.records (set, number) linked x.kind (value_at w.values k) (valid.links (set, number) w shape at has k x here)))

    owner_still : (of owner : ℕ) → owner_stands db.records of owner ≡ true → owner_stands left of owner ≡ true
    owner_still of owner h = by (of == 0) h
      where
        by : (b : Bool) → cond b (owner == 0) (is_some (get db.records (of, owner))) ≡ true → cond b (owner == 0) (is_some (get left (of, owner))) ≡ true
        by true h = h
        by false h = stands_still db.records (set, number) (of, owner) linked h

    abbrev Owned : Place → Record → Shape → Type 0
    Owned q r s = owner_stands left s.owner r.owner ≡ true

    entries_still : (es : List SubsetEntry) → AllByRecursion (EntryStands desc db) es → AllByRecursion (EntryStands desc (record db { records = left })) es
    entries_still [] all = tt
    entries_still (e ∷ es) all = (record { manual = all.0.manual; member = stands_still db.records (set, number) _ linked all.0.member; owner = owner_still _ e.owner all.0.owner }, entries_still es all.1)

    back_still : (q : Place) (r : Record) → get left q ≡ Some r → is_some (get db.records q) ≡ true
    back_still q r is = by (eq_by_cmp place_cmp q (set, number)) refl (sym (get-insert places_total db.records (set, number) linked q) ∙ is)
      where
        by : (b : Bool) → eq_by_cmp place_cmp q (set, number) ≡ b → cond b (Some linked) (get db.records q) ≡ Some r → is_some (get db.records q) ≡ true
        by true e h = ap is_some (ap (get db.records) (place_is q (set, number) e) ∙ at)
        by false e h = ap is_some h

    linked_valid : IsValid desc (record db { records = left })
    linked_valid = revised_valid desc made db (record db { records = left }) valid (record {
      back = back_still;
      revised = λ q r s is here. of_left (IsRevised desc db) changed itself q r s is here;
      links = λ q r s is here. of_left Linked changed_links (λ p x t was there k y on. link_still db.records (set, number) linked y.kind (value_at x.values k) (valid.links p x t was there k y on)) q r s is here;
      owners = λ q r s is here. of_left Owned (λ t e. subst (Owned (set, number) linked) (sym e) (owner_still shape.owner w.owner (valid.owners (set, number) w shape at has))) (λ p x t was there. owner_still t.owner x.owner (valid.owners p x t was there)) q r s is here;
      counts = λ n. omega (arith, count_replace db.records n (set, number) linked (ap is_some at));
      entries = entries_still db.entries valid.entries;
      rising = valid.rising;
      entry_counts = λ n. omega arith;
      fewer = λ a o n h. h;
    })

-- with a link of it set, where what the link is to refer to stands
pub link_valid : (desc : Described) → IsWellMade desc → (db : Db) (set number item : ℕ) (to : Option ℕ) → IsValid desc db → HasRecord db set number → IsTrue (is_link_item (slice_get (items_of (structure_of desc set)) (item - 1)))
    → ((x : Item) → slice_get (items_of (structure_of desc set)) (item - 1) ≡ Some x → IsTrue (link_stands db.records x.kind (link_value to))) → IsValid desc (after_link db set number item to)
unfolding after_link
link_valid desc made db set number item to valid stands link target = by (get db.records (set, number)) refl stands
  where
    by : (o : Option Record) → get db.records (set, number) ≡ o → is_some o ≡ true → IsValid desc (record db { records = insert db.records (set, number) (linked_record o item to) })
    by None at some = absurd (cc)
    by (Some w) at some =
        shape_at desc db valid (set, number) w at (IsValid desc (record db { records = insert db.records (set, number) (linked_record (Some w) item to) })) (λ shape has.
        let items : items_of (structure_of desc set) ≡ shape.items = ap items_of has in
        linked_valid desc made db valid set number item to w at shape has (sym (ap (λ (is : List Item). is_link_item (slice_get is (item - 1))) items) ∙ link)
        (λ x here. target x (ap (λ (is : List Item). slice_get is (item - 1)) items ∙ here)))

-- and every record stands that stood
pub link_stands_still : (db : Db) (set number item : ℕ) (to : Option ℕ) (q : Place) → is_some (get db.records q) ≡ true → is_some (get (after_link db set number item to).records q) ≡ true
unfolding after_link
link_stands_still db set number item to q h = stands_still db.records (set, number) q (linked_record (get db.records (set, number)) item to) h
