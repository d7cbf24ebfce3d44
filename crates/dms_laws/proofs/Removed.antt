-- A valid database is valid without a record that isn't in use.
use Rattle.std.proofs.Common.{◌≡◌, ◌≤◌, ◌+◌, ◌∙◌, ℕ, zero, suc, List, [], ◌∷◌, Bool, true, false, cond, Some, None, refl, sym, ap, subst, map, filter, length, slice_get, arith}
use Rattle.std.specs.Prelude.{◌&&◌, ◌||◌, ◌==◌, T, is_some, sum_by}
use Rattle.std.specs.List.{list_any, AllByRecursion}
use Rattle.std.specs.declared.option.Option.{Option}
use Rattle.std.specs.FinMap.{entries, entries-from_sorted, entries_sorted, find, from_sorted, get, get-entries, get-from_sorted, get-remove, is_sorted, remove}
use Rattle.std.specs.FinMap.Entries.{below_all}
use Rattle.std.specs.Ordering.{eq_by_cmp}
use Rattle.std.proofs.lemmas.List.Sums.{sum_by-cons}
use Rattle.dms_base.specs.declared.kind.ItemKind.{ItemKind}
use Rattle.dms_base.specs.declared.kind.ItemKind.TheVariants.{Alpha, Number as Decimal, Bool as OneBit, Field, Link}
use Rattle.dms_base.specs.declared.value.Value.{Value}
use Rattle.dms_base.specs.declared.value.Value.TheVariants.{Null, Text, Number, Bool as Truth, Bits, Link as Reference}
use Rattle.dms_base.specs.Fits.{fits}
use Rattle.dms_desc.specs.declared.structure.Item.{Item}
use Rattle.dms_desc.specs.declared.record.Record.{Record}
use Rattle.dms_desc.specs.Kinds.{is_link}
use Rattle.dms_desc.specs.Lookups.{items_of, over_of, structure_of}
use Rattle.dms_desc.specs.Plain.{ArePlain, IsPlain}
use Rattle.dms_desc.specs.Shape.{Shape, Described}
use Rattle.dms_desc_bytes.specs.Finding.{owner_in as owner_of}
use Rattle.dms_locks.specs.Locks.{Locks, has_lock}
use Rattle.dms_model.specs.Db.{Db, Place, Records, SubsetEntry, place_cmp, records_of, rows_of}
use Rattle.dms_model.specs.FitLaws.{null_fits}
use Rattle.dms_model.specs.Places.{place_is, places_total}
use Rattle.dms_model.specs.Stores.{is_link_item}
use Rattle.dms_model.specs.Uses.{after_remove, corrected, corrected_entry, corrected_value, in_use, is_entered, is_link_into, linkers, links_to, owns_entry, place_in_entry, refers_to, some_link}
use Rattle.dms_model.specs.Valid.{EntryStands, IsValid, OfItems, link_stands, owner_stands, refers, value_at}
use Rattle.dms_tally.specs.Gone.{none_at, other_left, owner_left, unused}
use Rattle.dms_tally.specs.Sums.{remove_sum}
use Rattle.dms_laws.specs.Made.{IsWellMade}
use Rattle.dms_laws.proofs.Counts.{one_if, row_length}
use Rattle.dms_laws.proofs.Revised.{IsRevised, revised_valid}
use Rattle.dms_laws.proofs.Values.{AgreeOff}

-- ---- the values of a record whose links to another one are null

module _ (to number : ℕ) where
  corrected_null : (o : Option Item) → corrected_value o to number Null ≡ Null
  corrected_null None = refl
  corrected_null (Some i) = by (is_link_into false to i.kind)
    where
      by : (b : Bool) → cond (b && false) Null Null ≡ Null
      by true = refl
      by false = refl

  corrected_at : (k : ℕ) (items : List Item) (vs : List Value) (j m : ℕ) → m ≡ k + j → value_at (corrected to number k items vs) j ≡ corrected_value (slice_get items m) to number (value_at vs j)
  corrected_at k items [] j m is = sym (corrected_null (slice_get items m))
  corrected_at k items (v ∷ vs) zero m is = let e : k ≡ m = omega (arith, is) in ap (λ n. corrected_value (slice_get items n) to number v) e
  corrected_at k items (v ∷ vs) (suc j) m is = corrected_at (k + 1) items vs j m (omega (arith, is))

  corrected_long : (k : ℕ) (items : List Item) (vs : List Value) → length (corrected to number k items vs) ≡ length vs
  corrected_long k items [] = refl
  corrected_long k items (v ∷ vs) = ap suc (corrected_long (k + 1) items vs)

  corrected_plain : (k : ℕ) (items : List Item) (vs : List Value) → ArePlain vs → ArePlain (corrected to number k items vs)
  corrected_plain k items [] h = tt
  corrected_plain k items (v ∷ vs) h = (one (slice_get items k), corrected_plain (k + 1) items vs h.1)
    where
      one : (o : Option Item) → IsPlain (corrected_value o to number v)
      one None = h.0
      one (Some i) = by (is_link_into false to i.kind && refers_to number v)
        where
          by : (b : Bool) → IsPlain (cond b Null v)
          by true = tt
          by false = h.0

  no_link_value : (o : Option Item) (v : Value) → is_link_item o ≡ false → corrected_value o to number v ≡ v
  no_link_value None v off = refl
  no_link_value (Some i) v off = by i.kind off
    where
      by : (k : ItemKind) → is_link k ≡ false → cond (is_link_into false to k && refers_to number v) Null v ≡ v
      by (Alpha n) h = refl
      by (Decimal n m s) h = refl
      by OneBit h = refl
      by (Field n) h = refl
      by (Link t c) h = absurd (cc)

  -- of the items, the values are as they were, but of links
  corrected_agree : (items : List Item) (vs : List Value) → AgreeOff items (corrected to number 0 items vs) vs
  corrected_agree items vs j off = corrected_at 0 items vs j j (omega arith) ∙ no_link_value (slice_get items j) (value_at vs j) off

  -- what holds of null, and of each value, holds of the values then
  corrected_items : (P : Item → Value → Type 0) (items : List Item) (vs : List Value) → ((item : Item) → P item Null) → OfItems items vs P → OfItems items (corrected to number 0 items vs) P
  corrected_items P items vs none all k item at = subst (P item) (sym (corrected_at 0 items vs k k (omega arith) ∙ ap (λ o. corrected_value o to number (value_at vs k)) at)) (by (is_link_into false to item.kind && refers_to number (value_at vs k)))
    where
      by : (b : Bool) → P item (cond b Null (value_at vs k))
      by true = none item
      by false = all k item at

  or_left : (a b : Bool) → (a || b) ≡ false → (a ≡ false) × (b ≡ false)
  or_left true b h = absurd (cc)
  or_left false b h = (refl, h)

  none_linked : (counted : Bool) (k : ℕ) (items : List Item) (values : List Value) → some_link counted to number k items values ≡ false → (j m : ℕ) (item : Item) → m ≡ k + j → slice_get items j ≡ Some item
      → (is_link_into counted to item.kind && refers_to number (value_at values m)) ≡ false
  none_linked counted k [] values off j m item is at = absurd (cc)
  none_linked counted k (i ∷ is) values off zero m item e at =
      let here : i ≡ item = cc in
      let same : m ≡ k = omega (arith, e) in
      (λ x. is_link_into counted to (sym here x).kind && refers_to number (value_at values (same x)))
      ∙ (or_left (is_link_into counted to i.kind && refers_to number (value_at values k)) (some_link counted to number (k + 1) is values) off).0
  none_linked counted k (i ∷ is) values off (suc j) m item e at =
      none_linked counted (k + 1) is values (or_left (is_link_into counted to i.kind && refers_to number (value_at values k)) (some_link counted to number (k + 1) is values) off).1 j m item (omega (arith, e)) at

-- ---- the records then

abbrev pub corrected_opt : Described → ℕ → ℕ → Place → Option Record → Option Record
corrected_opt desc set number q None = None
corrected_opt desc set number q (Some r) = Some (record r { values = corrected set number 0 (items_of (structure_of desc q.0)) r.values })

module _ (desc : Described) (set number : ℕ) where
  find_corrected : (q : Place) (es : List (Place × Record)) → find place_cmp q (map (corrected_entry desc set number) es) ≡ corrected_opt desc set number q (find place_cmp q es)
  find_corrected q [] = refl
  find_corrected q (e ∷ es) = by (eq_by_cmp place_cmp q e.0) refl (find_corrected q es)
    where
      by : (a : Bool) → eq_by_cmp place_cmp q e.0 ≡ a → find place_cmp q (map (corrected_entry desc set number) es) ≡ corrected_opt desc set number q (find place_cmp q es)
          → cond a (Some (corrected_entry desc set number e).1) (find place_cmp q (map (corrected_entry desc set number) es)) ≡ corrected_opt desc set number q (cond a (Some e.1) (find place_cmp q es))
      by true is rest = ap (λ (p : Place). Some (record e.1 { values = corrected set number 0 (items_of (structure_of desc p.0)) e.1.values })) (sym (place_is q e.0 is))
      by false is rest = rest

  true_both : (a b : Bool) → T a → T b → T (a && b)
  true_both true b t u = u
  true_both false b t u = absurd t

  first_of_two : (a b : Bool) → T (a && b) → T a
  first_of_two true b t = tt
  first_of_two false b t = absurd t

  second_of_two : (a b : Bool) → T (a && b) → T b
  second_of_two true b t = t
  second_of_two false b t = absurd t

  below_still : (p : Place) (es : List (Place × Record)) → T (below_all place_cmp p es) → T (below_all place_cmp p (map (corrected_entry desc set number) es))
  below_still p [] h = tt
  below_still p (e ∷ es) h = true_both _ _ (first_of_two _ _ h) (below_still p es (second_of_two _ _ h))

  sorted_still : (es : List (Place × Record)) → T (is_sorted place_cmp es) → T (is_sorted place_cmp (map (corrected_entry desc set number) es))
  sorted_still [] h = tt
  sorted_still (e ∷ es) h = true_both _ _ (below_still e.0 es (first_of_two _ _ h)) (sorted_still es (second_of_two _ _ h))

  -- all records with their links to this one null
  abbrev all_corrected : Records → Records
  all_corrected m = from_sorted {R = place_cmp} (map (corrected_entry desc set number) (entries m))

  get_corrected : (m : Records) (q : Place) → get (all_corrected m) q ≡ corrected_opt desc set number q (get m q)
  get_corrected m q =
      get-from_sorted place_cmp (map (corrected_entry desc set number) (entries m)) q (sorted_still (entries m) (entries_sorted m))
      ∙ find_corrected q (entries m) ∙ ap (corrected_opt desc set number q) (sym (get-entries m q))

  some_corrected : (q : Place) (o : Option Record) → is_some (corrected_opt desc set number q o) ≡ is_some o
  some_corrected q None = refl
  some_corrected q (Some r) = refl

  stands_corrected : (m : Records) (q : Place) → is_some (get (all_corrected m) q) ≡ is_some (get m q)
  stands_corrected m q = ap is_some (get_corrected m q) ∙ some_corrected q (get m q)

  owner_corrected : (m : Records) (to owner : ℕ) → owner_stands (all_corrected m) to owner ≡ owner_stands m to owner
  owner_corrected m to owner = by (to == 0)
    where
      by : (b : Bool) → cond b (owner == 0) (is_some (get (all_corrected m) (to, owner))) ≡ cond b (owner == 0) (is_some (get m (to, owner)))
      by true = refl
      by false = stands_corrected m (to, owner)

  -- how many there are

  rows_corrected : (n : ℕ) (es : List (Place × Record)) → length (rows_of n (map (corrected_entry desc set number) es)) ≡ length (rows_of n es)
  rows_corrected n [] = refl
  rows_corrected n (e ∷ es) = by (n == e.0.0) (rows_corrected n es)
    where
      by : (b : Bool) → length (rows_of n (map (corrected_entry desc set number) es)) ≡ length (rows_of n es)
          → length (cond b ((e.0.1, (corrected_entry desc set number e).1) ∷ rows_of n (map (corrected_entry desc set number) es)) (rows_of n (map (corrected_entry desc set number) es))) ≡ length (cond b ((e.0.1, e.1) ∷ rows_of n es) (rows_of n es))
      by true rest = ap suc rest
      by false rest = rest

  count_corrected : (m : Records) (n : ℕ) → length (records_of (all_corrected m) n) ≡ length (records_of m n)
  count_corrected m n =
      ap (λ (es : List (Place × Record)). length (rows_of n es)) (entries-from_sorted place_cmp (map (corrected_entry desc set number) (entries m)) (sorted_still (entries m) (entries_sorted m)))
      ∙ rows_corrected n (entries m)

row_sum : (n : ℕ) (es : List (Place × Record)) → length (rows_of n es) ≡ sum_by (λ (e : Place × Record). one_if (n == e.0.0)) es
row_sum n [] = refl
row_sum n (e ∷ es) = row_length n e es ∙ ap (λ (c : ℕ). one_if (n == e.0.0) + c) (row_sum n es) ∙ sym (sum_by-cons (λ (x : Place × Record). one_if (n == x.0.0)) e es)

-- no data set has more records without one
count_removed : (m : Records) (k : Place) (n : ℕ) → length (records_of (remove m k) n) ≤ length (records_of m n)
count_removed m k n = omega (arith, row_sum n (entries (remove m k)), row_sum n (entries m), remove_sum (λ (e : Place × Record). one_if (n == e.0.0)) k m)

-- ---- the database then

module _ (desc : Described) (made : IsWellMade desc) (db : Db) (valid : IsValid desc db) (set number : ℕ) (free : in_use desc db set number ≡ false) where
  abbrev every : Records
  every = all_corrected desc set number db.records

  abbrev left : Records
  left = remove every (set, number)

  -- it is a record that stood, with its links to the one that went null
  record Left (q : Place) (r : Record) : Type 0 where
    was : Record
    stood : get db.records q ≡ Some was
    is : r ≡ record was { values = corrected set number 0 (items_of (structure_of desc q.0)) was.values }

  was_left : (q : Place) (r : Record) → get left q ≡ Some r → Left q r
  was_left q r at = by (eq_by_cmp place_cmp q (set, number)) (get db.records q) refl (sym (get-remove places_total every (set, number) q ∙ ap (λ o. cond (eq_by_cmp place_cmp q (set, number)) None o) (get_corrected desc set number db.records q)) ∙ at)
    where
      by : (b : Bool) (o : Option Record) → get db.records q ≡ o → cond b None (corrected_opt desc set number q o) ≡ Some r → Left q r
      by true o here h = absurd (cc)
      by false None here h = absurd (cc)
      by false (Some w) here h = record { was = w; stood = here; is = (let e : record w { values = corrected set number 0 (items_of (structure_of desc q.0)) w.values } ≡ r = cc in sym e) }

  items_at : (q : Place) (shape : Shape) → structure_of desc q.0 ≡ Some shape → items_of (structure_of desc q.0) ≡ shape.items
  items_at q shape has = ap items_of has

  revised : (q : Place) (r : Record) (shape : Shape) → get left q ≡ Some r → structure_of desc q.0 ≡ Some shape → IsRevised desc db q r shape
  revised q r shape at has =
      let w = was_left q r at in
      let vs : r.values ≡ corrected set number 0 shape.items w.was.values = ap (λ (x : Record). x.values) w.is ∙ ap (λ is. corrected set number 0 is w.was.values) (items_at q shape has) in
      record {
        was = w.was;
        stood = w.stood;
        owner = ap (λ (x : Record). x.owner) w.is;
        long = ap length vs ∙ corrected_long set number 0 shape.items w.was.values;
        same = subst (λ xs. AgreeOff shape.items xs w.was.values) (sym vs) (corrected_agree set number shape.items w.was.values);
        fit = subst (λ xs. OfItems shape.items xs (λ item v. fits item.kind v ≡ true)) (sym vs) (corrected_items set number (λ item v. fits item.kind v ≡ true) shape.items w.was.values (λ item. null_fits item.kind) (valid.fit q w.was shape w.stood has));
        plain = subst ArePlain (sym vs) (corrected_plain set number 0 shape.items w.was.values (valid.plain q w.was shape w.stood has));
      }

  refers_left : (to : ℕ) (v : Value) → refers db.records to v ≡ true → ((to == set) && refers_to number v) ≡ false → refers left to v ≡ true
  refers_left to Null h off = h
  refers_left to (Text a) h off = h
  refers_left to (Number a) h off = h
  refers_left to (Truth a) h off = h
  refers_left to (Bits a) h off = h
  refers_left to (Reference k) h off = ap is_some (other_left set number every to k off) ∙ stands_corrected desc set number db.records (to, k) ∙ h

  -- a value behind it: null where a self-correcting link referred to the record, and no counted one did
  link_left : (k : ItemKind) (v : Value) → link_stands db.records k v ≡ true → (is_link_into true set k && refers_to number v) ≡ false → link_stands left k (cond (is_link_into false set k && refers_to number v) Null v) ≡ true
  link_left (Alpha a) v h on = refl
  link_left (Decimal a d s) v h on = refl
  link_left OneBit v h on = refl
  link_left (Field a) v h on = refl
  link_left (Link to true) v h on = by (to == set) refl on
    where
      by : (b : Bool) → (to == set) ≡ b → ((b && true) && refers_to number v) ≡ false → refers left to (cond ((b && false) && refers_to number v) Null v) ≡ true
      by true e off = refers_left to v h (ap (λ b. b && refers_to number v) e ∙ off)
      by false e off = refers_left to v h (ap (λ b. b && refers_to number v) e)
  link_left (Link to false) v h on = by (to == set) (refers_to number v) refl refl
    where
      by : (b c : Bool) → (to == set) ≡ b → refers_to number v ≡ c → refers left to (cond ((b && true) && c) Null v) ≡ true
      by true true e f = refl
      by true false e f = refers_left to v h (λ i. e i && f i)
      by false c e f = refers_left to v h (λ i. e i && f i)

  links_left : (q : Place) (r : Record) (shape : Shape) → get left q ≡ Some r → structure_of desc q.0 ≡ Some shape → OfItems shape.items r.values (λ item v. link_stands left item.kind v ≡ true)
  links_left q r shape at has k item here =
      let w = was_left q r at in
      let items = items_at q shape has in
      let value : value_at r.values k ≡ corrected_value (Some item) set number (value_at w.was.values k) =
      ap (λ (x : Record). value_at x.values k) w.is ∙ corrected_at set number 0 (items_of (structure_of desc q.0)) w.was.values k k (omega arith)
      ∙ ap (λ o. corrected_value o set number (value_at w.was.values k)) (ap (λ is. slice_get is k) items ∙ here) in
      let none : some_link true set number 0 shape.items w.was.values ≡ false = ap (λ is. some_link true set number 0 is w.was.values) (sym items) ∙ none_at (links_to true desc set number) db.records q w.was w.stood (unused desc db set number free).counted in
      ap (link_stands left item.kind) value
      ∙ link_left item.kind (value_at w.was.values k) (valid.links q w.was shape w.stood has k item here) (none_linked set number true 0 shape.items w.was.values none k k item (omega arith) here)

  owner_is : (q : Place) (shape : Shape) → structure_of desc q.0 ≡ Some shape → owner_of (structure_of desc q.0) ≡ shape.owner
  owner_is q shape has = ap owner_of has

  owners_left : (q : Place) (r : Record) (shape : Shape) → get left q ≡ Some r → structure_of desc q.0 ≡ Some shape → owner_stands left shape.owner r.owner ≡ true
  owners_left q r shape at has =
      let w = was_left q r at in
      let owner : r.owner ≡ w.was.owner = ap (λ (x : Record). x.owner) w.is in
      let off : ((shape.owner == set) && (w.was.owner == number)) ≡ false = (λ i. (sym (owner_is q shape has) i == set) && (w.was.owner == number)) ∙ none_at (λ e. (owner_of (structure_of desc e.0.0) == set) && (e.1.owner == number)) db.records q w.was w.stood (unused desc db set number free).records in
      ap (owner_stands left shape.owner) owner
      ∙ owner_left set number every shape.owner w.was.owner (owner_corrected desc set number db.records shape.owner w.was.owner ∙ valid.owners q w.was shape w.stood has) off

  entry_left : (e : SubsetEntry) → is_entered desc set number e ≡ false → owns_entry desc set number e ≡ false → EntryStands desc db e → EntryStands desc (record db { records = left }) e
  entry_left e off own h = record {
    manual = h.manual;
    member = ap is_some (other_left set number every (over_of (structure_of desc e.subset)) e.number off) ∙ stands_corrected desc set number db.records (over_of (structure_of desc e.subset), e.number) ∙ h.member;
    owner = owner_left set number every (owner_of (structure_of desc e.subset)) e.owner (owner_corrected desc set number db.records (owner_of (structure_of desc e.subset)) e.owner ∙ h.owner) own;
  }

  entries_left : (es : List SubsetEntry) → list_any (is_entered desc set number) es ≡ false → list_any (owns_entry desc set number) es ≡ false → AllByRecursion (EntryStands desc db) es → AllByRecursion (EntryStands desc (record db { records = left })) es
  entries_left [] off own each = tt
  entries_left (e ∷ es) off own each =
      let a = or_left set number (is_entered desc set number e) (list_any (is_entered desc set number) es) off in
      let b = or_left set number (owns_entry desc set number e) (list_any (owns_entry desc set number) es) own in
      (entry_left e a.0 b.0 each.0, entries_left es a.1 b.1 each.1)

  back_left : (q : Place) (r : Record) → get left q ≡ Some r → is_some (get db.records q) ≡ true
  back_left q r at = ap is_some (was_left q r at).stood

  removed_valid : IsValid desc (record db { records = left })
  removed_valid =
      let no = unused desc db set number free in
      revised_valid desc made db (record db { records = left }) valid (record {
        back = back_left;
        revised = revised;
        links = links_left;
        owners = owners_left;
        counts = λ n. omega (arith, count_removed every (set, number) n, count_corrected desc set number db.records n);
        entries = entries_left db.entries no.entered no.entries valid.entries;
        rising = valid.rising;
        entry_counts = λ n. omega arith;
        fewer = λ a o n h. h;
      })

-- without a record that isn't in use
pub remove_valid : (desc : Described) → IsWellMade desc → (db : Db) (set number : ℕ) → IsValid desc db → in_use desc db set number ≡ false → IsValid desc (after_remove desc db set number)
unfolding after_remove
remove_valid desc made db set number valid free = removed_valid desc made db valid set number free

-- a record at another place stands then, and has the owner that it had
pub remove_stands : (desc : Described) (db : Db) (set number : ℕ) (q : Place) → eq_by_cmp place_cmp q (set, number) ≡ false → is_some (get (after_remove desc db set number).records q) ≡ is_some (get db.records q)
unfolding after_remove
remove_stands desc db set number q apart =
    ap is_some (get-remove places_total (all_corrected desc set number db.records) (set, number) q)
    ∙ ap (λ b. is_some (cond b None (get (all_corrected desc set number db.records) q))) apart
    ∙ stands_corrected desc set number db.records q

-- a record that has no self-correcting link to it is the same
module _ (to number : ℕ) where
  corrected_still : (k : ℕ) (items : List Item) (vs : List Value) → ((j m : ℕ) (item : Item) → m ≡ k + j → slice_get items m ≡ Some item → (is_link_into false to item.kind && refers_to number (value_at vs j)) ≡ false) → corrected to number k items vs ≡ vs
  corrected_still k items [] none = refl
  corrected_still k items (v ∷ vs) none = let rest = corrected_still (k + 1) items vs (λ j m item is at. none (suc j) m item (omega (arith, is)) at) in λ i. here (slice_get items k) refl i ∷ rest i
    where
      here : (o : Option Item) → slice_get items k ≡ o → corrected_value o to number v ≡ v
      here None at = refl
      here (Some i) at = let e : k ≡ k + 0 = omega arith in ap (λ b. cond b Null v) (none 0 k i e at)

-- what is locked by none of these locks isn't
module _ (desc : Described) (db : Db) (set number : ℕ) (locks : Locks) (free : list_any (has_lock locks) (linkers desc db set number) ≡ false) where
  unlinked : (es : List (Place × Record)) → list_any (has_lock locks) (map place_in_entry (filter (links_to false desc set number) es)) ≡ false → list_any (λ (e : Place × Record). links_to false desc set number e && has_lock locks e.0) es ≡ false
  unlinked [] h = refl
  unlinked (e ∷ es) h = by (links_to false desc set number e) h (unlinked es)
    where
      by : (b : Bool) → list_any (has_lock locks) (map place_in_entry (cond b (e ∷ filter (links_to false desc set number) es) (filter (links_to false desc set number) es))) ≡ false
          → (list_any (has_lock locks) (map place_in_entry (filter (links_to false desc set number) es)) ≡ false → list_any (λ (x : Place × Record). links_to false desc set number x && has_lock locks x.0) es ≡ false)
          → ((b && has_lock locks e.0) || list_any (λ (x : Place × Record). links_to false desc set number x && has_lock locks x.0) es) ≡ false
      by true h rest = let two = or_left set number (has_lock locks e.0) (list_any (has_lock locks) (map place_in_entry (filter (links_to false desc set number) es))) h in λ i. two.0 i || rest two.1 i
      by false h rest = rest h

  no_linker : (q : Place) (r : Record) → get db.records q ≡ Some r → has_lock locks q ≡ true → links_to false desc set number (q, r) ≡ false
  unfolding linkers
  no_linker q r at l = by (links_to false desc set number (q, r)) (none_at (λ (e : Place × Record). links_to false desc set number e && has_lock locks e.0) db.records q r at (unlinked (entries db.records) free))
    where
      by : (b : Bool) → (b && has_lock locks q) ≡ false → b ≡ false
      by true h = absurd (cc)
      by false h = refl

  -- a record that is locked stays the same
  pub remove_same : (q : Place) → has_lock locks q ≡ true → eq_by_cmp place_cmp q (set, number) ≡ false → get (after_remove desc db set number).records q ≡ get db.records q
  unfolding after_remove
  remove_same q l apart =
      get-remove places_total (all_corrected desc set number db.records) (set, number) q
      ∙ ap (λ b. cond b None (get (all_corrected desc set number db.records) q)) apart
      ∙ get_corrected desc set number db.records q ∙ by (get db.records q) refl
    where
      by : (o : Option Record) → get db.records q ≡ o → corrected_opt desc set number q o ≡ o
      by None at = refl
      by (Some r) at =
          ap (λ vs. Some (record r { values = vs })) (corrected_still set number 0 (items_of (structure_of desc q.0)) r.values (λ j m item is here.
          let same : m ≡ j = omega (arith, is) in
          ap (λ n. is_link_into false set item.kind && refers_to number (value_at r.values n)) (sym same)
          ∙ none_linked set number false 0 (items_of (structure_of desc q.0)) r.values (no_linker q r at l) m m item (omega arith) here))
