-- The database after one record is stored: what its slots count, what refers to what.
use Rattle.std.proofs.Common.{◌≡◌, ◌∙◌, ◌+◌, ◌≤◌, ℕ, List, [], ◌∷◌, Bool, true, false, cond, Some, None, refl, sym, ap, length, arith}
use Rattle.std.specs.Prelude.{◌&&◌, ◌==◌, ◌||◌, count_by, is_some, sum_by}
use Rattle.std.specs.declared.option.Option.{Option}
use Rattle.std.specs.FinMap.{entries, entries_sorted, get, get-entries, get-insert, insert}
use Rattle.std.specs.Ordering.{eq_by_cmp}
use Rattle.std.proofs.lemmas.Bool.Decides.{nat_tests}
use Rattle.std.proofs.lemmas.Bool.{and_parts}
use Rattle.dms_base.specs.declared.kind.ItemKind.{ItemKind}
use Rattle.dms_base.specs.declared.kind.ItemKind.TheVariants.{Alpha, Number as Decimal, Bool as OneBit, Field, Link}
use Rattle.dms_base.specs.declared.value.Value.{Value}
use Rattle.dms_base.specs.declared.value.Value.TheVariants.{Null, Text, Number, Bool as Truth, Bits, Link as Reference}
use Rattle.dms_desc.specs.Lookups.{items_of, structure_of}
use Rattle.dms_desc.specs.Shape.{Shape, Described}
use Rattle.dms_desc.specs.declared.record.Record.{Record}
use Rattle.dms_desc.specs.declared.structure.Item.{Item}
use Rattle.dms_layout.specs.declared.slot.Slot.{Slot}
use Rattle.dms_model.specs.Db.{Db, Place, Records, SubsetEntry, place_cmp}
use Rattle.dms_model.specs.Stores.{with_links_of, linked_from, values_of}
use Rattle.dms_model.specs.Valid.{link_stands, owner_stands, refers}
use Rattle.dms_slots.specs.SlotBlocks.{slot_opt}
use Rattle.dms_tally.specs.Sums.{insert_sum, of_opt}
use Rattle.dms_store.specs.PuttingCounts.{links_linked, links_none, sum_none}
use Rattle.dms_store.specs.PuttingMoved.{owns_one}
use Rattle.dms_links.specs.Rows.{rec_opt}
use Rattle.dms_tally.specs.Counts.{counted_in, is_counted_to, is_number, links_stand, links_to, owned_in}
use Rattle.dms_desc.specs.Lookups.{over_of}
use Rattle.dms_manual.specs.Entered.{manual_of}
use Rattle.dms_manual.specs.Listed.{manual_still}
use Rattle.dms_manual.specs.Named.{names_record}
use Rattle.dms_model.specs.Members.{names}
use Rattle.dms_model.specs.Places.{place_is, places_total}
use Rattle.dms_model.specs.Uses.{has_entry}
use Rattle.dms_model.specs.Valid.{EntryStands, is_manual}
use Rattle.dms_spelling.specs.Stands.{EntriesStand}
use Rattle.dms_tally.specs.Tally.{count_more}
use Rattle.std.specs.List.{AllByRecursion, list_any}
use Rattle.dms_desc_bytes.specs.Finding.{owner_in as owner_of}

-- the database with this record under the number
abbrev pub with_record : Db → ℕ → ℕ → Record → Db
with_record db set number rec = record db { records = insert db.records (set, number) rec }

-- these values, but the links of those, and this owner
abbrev pub linked_over : List Item → ℕ → List Value → Record → Record
linked_over items owner olds rec = record { owner = owner; values = linked_from 0 items olds rec.values }

-- The slot of what is stored for a record: it keeps the counts of the record that it replaces, and a new one has none.
abbrev pub slot_after : List Item → Option Slot → Record → Slot
slot_after items None rec = record { rec = with_links_of items None rec; counted = 0; owned = 0 }
slot_after items (Some old) rec = record { rec = with_links_of items (Some old.rec) rec; counted = old.counted; owned = old.owned }

pub slot_links : (items : List Item) (o : Option Slot) (rec : Record) → (slot_after items o rec).rec ≡ with_links_of items (rec_opt (slot_opt o)) rec
slot_links items None rec = refl
slot_links items (Some old) rec = refl

module _ (db : Db) (set number : ℕ) (rec : Record) where
  pub after_get : (p : Place) → get (with_record db set number rec).records p ≡ cond (eq_by_cmp place_cmp p (set, number)) (Some rec) (get db.records p)
  after_get p = get-insert places_total db.records (set, number) rec p

  -- what stood stands
  pub more : (p : Place) → is_some (get db.records p) ≡ true → is_some (get (with_record db set number rec).records p) ≡ true
  more p h =
      ap is_some (after_get p)
      ∙ elim (eq_by_cmp place_cmp p (set, number)) as (λ b. is_some (cond b (Some rec) (get db.records p)) ≡ true) [ true ↦ refl | false ↦ h ]

  pub owner_more : (to owner : ℕ) → owner_stands db.records to owner ≡ true → owner_stands (with_record db set number rec).records to owner ≡ true
  owner_more to owner h = by (to == 0) h
    where
      by : (b : Bool) → cond b (owner == 0) (is_some (get db.records (to, owner))) ≡ true → cond b (owner == 0) (is_some (get (with_record db set number rec).records (to, owner))) ≡ true
      by true e = e
      by false e = more (to, owner) e

-- what a link refers to exists also where there are more records
still_refers : (old new : Records) (to : ℕ) (v : Value) → ((p : Place) → is_some (get old p) ≡ true → is_some (get new p) ≡ true) → refers old to v ≡ true → refers new to v ≡ true
still_refers old new to Null more h = h
still_refers old new to (Text a) more h = h
still_refers old new to (Number a) more h = h
still_refers old new to (Truth a) more h = h
still_refers old new to (Bits a) more h = h
still_refers old new to (Reference n) more h = more (to, n) h

still_stands : (old new : Records) (k : ItemKind) (v : Value) → ((p : Place) → is_some (get old p) ≡ true → is_some (get new p) ≡ true) → link_stands old k v ≡ true → link_stands new k v ≡ true
still_stands old new (Alpha n) v more h = h
still_stands old new (Decimal n m k) v more h = h
still_stands old new OneBit v more h = h
still_stands old new (Field n) v more h = h
still_stands old new (Link to counted) v more h = still_refers old new to v more h

pub links_still : (old new : Records) (is : List Item) (vs : List Value) → ((p : Place) → is_some (get old p) ≡ true → is_some (get new p) ≡ true) → links_stand old is vs ≡ true → links_stand new is vs ≡ true
links_still old new [] vs more h = refl
links_still old new (i ∷ is) [] more h = refl
links_still old new (i ∷ is) (v ∷ vs) more h =
    let both = and_parts (link_stands old i.kind v) (links_stand old is vs) h in
    (λ j. still_stands old new i.kind v more both.0 j && links_still old new is vs more both.1 j)

-- ---- counts

of_old : (t m : ℕ) (items : List Item) (o : Option Record) → of_opt (λ r. links_to t m items r.values) o ≡ links_to t m items (values_of o)
of_old t m items None = sym (links_none t m items)
of_old t m items (Some r) = refl

-- as many counted links refer to each record
pub counted_still : (desc : Described) (db : Db) (set number : ℕ) (old : Option Record) (rec : Record) → get db.records (set, number) ≡ old → length rec.values ≡ length (items_of (structure_of desc set))
    → (t m : ℕ) → counted_in desc (with_record db set number (with_links_of (items_of (structure_of desc set)) old rec)) t m ≡ counted_in desc db t m
unfolding counted_in
counted_still desc db set number old rec is long t m =
    let items = items_of (structure_of desc set) in
    let f : Place × Record → ℕ = λ e. links_to t m (items_of (structure_of desc e.0.0)) e.1.values in
    let sum = insert_sum f (set, number) (with_links_of items old rec) db.records in
    let new : links_to t m items (linked_from 0 items (values_of old) rec.values) ≡ links_to t m items (values_of old) = links_linked t m items (values_of old) rec.values long in
    let was : of_opt (λ r. links_to t m items r.values) (get db.records (set, number)) ≡ links_to t m items (values_of old) = ap (of_opt (λ r. links_to t m items r.values)) is ∙ of_old t m items old in
    omega (arith, sum, new, was)

one_of : (b : Bool) → b ≡ false → ◌≡◌ {A = ℕ} (cond b 1 0) 0
one_of true h = absurd (cc h)
one_of false h = refl

shift : (a b c d n : ℕ) → a + b ≡ c + d → (a + n) + b ≡ (c + n) + d
shift a b c d n h = omega (arith, h)

-- Each record owns what it owned, without the record that is replaced and with the one that is stored.
pub owned_moved : (desc : Described) (db : Db) (set number : ℕ) (made : Record) (t m : ℕ)
    → owned_in desc (with_record db set number made) t m + of_opt (λ r. owns_one (owner_of (structure_of desc set)) r.owner t m) (get db.records (set, number)) ≡ owned_in desc db t m + owns_one (owner_of (structure_of desc set)) made.owner t m
unfolding owned_in
owned_moved desc db set number made t m =
    let f : Place × Record → ℕ = λ e. cond ((owner_of (structure_of desc e.0.0) == t) && (e.1.owner == m)) 1 0 in
    shift (sum_by f (entries (insert db.records (set, number) made))) (of_opt (λ r. f ((set, number), r)) (get db.records (set, number))) (sum_by f (entries db.records)) (f ((set, number), made))
    (count_by (λ (e : SubsetEntry). (owner_of (structure_of desc e.subset) == t) && (e.owner == m)) db.entries) (insert_sum f (set, number) made db.records)

-- ---- a record that isn't there

absent : (m : Records) (p : Place) → get m p ≡ None → is_some (get m p) ≡ true → ⊥
absent m p none h = apart (sym (ap is_some none) ∙ h)
  where
    apart : false ≡ true → ⊥
    apart e = absurd (cc)

off_refers : (m : Records) (t n : ℕ) (v : Value) → get m (t, n) ≡ None → refers m t v ≡ true → is_number n v ≡ false
off_refers m t n Null none h = refl
off_refers m t n (Text a) none h = refl
off_refers m t n (Number a) none h = refl
off_refers m t n (Truth a) none h = refl
off_refers m t n (Bits a) none h = refl
off_refers m t n (Reference k) none h = by (k == n) refl
  where
    by : (b : Bool) → (k == n) ≡ b → b ≡ false
    by true e = let same : k ≡ n = grind (arith, nat_tests, e) in absurd (absent m (t, n) none (ap (λ j. is_some (get m (t, j))) (sym same) ∙ h))
    by false e = refl

off_counted : (m : Records) (t n : ℕ) (k : ItemKind) (v : Value) → get m (t, n) ≡ None → link_stands m k v ≡ true → is_counted_to t n k v ≡ false
off_counted m t n (Alpha a) v none h = refl
off_counted m t n (Decimal a d s) v none h = refl
off_counted m t n OneBit v none h = refl
off_counted m t n (Field a) v none h = refl
off_counted m t n (Link to counted) v none h = by (to == t) refl
  where
    and_off : (b : Bool) → (b && false) ≡ false
    and_off true = refl
    and_off false = refl

    by : (b : Bool) → (to == t) ≡ b → (counted && b && is_number n v) ≡ false
    by true e =
        let same : to ≡ t = grind (arith, nat_tests, e) in
        ap (λ x. counted && true && x) (off_refers m t n v none (ap (λ j. refers m j v) (sym same) ∙ h)) ∙ and_off (counted && true)
    by false e = ap (λ x. x && is_number n v) (and_off counted)

off_links : (m : Records) (t n : ℕ) (is : List Item) (vs : List Value) → get m (t, n) ≡ None → links_stand m is vs ≡ true → links_to t n is vs ≡ 0
off_links m t n [] vs none h = refl
off_links m t n (i ∷ is) [] none h = refl
off_links m t n (i ∷ is) (v ∷ vs) none h =
    let both = and_parts (link_stands m i.kind v) (links_stand m is vs) h in
    let here = off_counted m t n i.kind v none both.0 in
    let rest = off_links m t n is vs none both.1 in
    λ j. cond (here j) 1 0 + rest j

-- nothing refers to it
pub counted_none : (desc : Described) (db : Db) (t n : ℕ) → get db.records (t, n) ≡ None
    → ((p : Place) (r : Record) → get db.records p ≡ Some r → links_stand db.records (items_of (structure_of desc p.0)) r.values ≡ true) → counted_in desc db t n ≡ 0
unfolding counted_in
counted_none desc db t n none stand =
    sum_none (λ (e : Place × Record). links_to t n (items_of (structure_of desc e.0.0)) e.1.values) (entries db.records)
    (λ p r at. off_links db.records t n (items_of (structure_of desc p.0)) r.values none (stand p r (get-entries db.records p ∙ at))) (entries_sorted db.records)

off_owner : (m : Records) (t n to owner : ℕ) → 1 ≤ t → get m (t, n) ≡ None → owner_stands m to owner ≡ true → ((to == t) && (owner == n)) ≡ false
off_owner m t n to owner low none h = by (to == t) (owner == n) refl refl
  where
    by : (a b : Bool) → (to == t) ≡ a → (owner == n) ≡ b → (a && b) ≡ false
    by true true e f =
        let same : to ≡ t = grind (arith, nat_tests, e) in
        let number : owner ≡ n = grind (arith, nat_tests, f) in
        let high : (to == 0) ≡ false = grind (arith, nat_tests, same, low) in
        let stands : is_some (get m (to, owner)) ≡ true = sym (ap (λ x. cond x (owner == 0) (is_some (get m (to, owner)))) high) ∙ h in
        absurd (absent m (t, n) none ((λ i. is_some (get m (sym same i, sym number i))) ∙ stands))
    by true false e f = refl
    by false b e f = refl

none_entered : (desc : Described) (m : Records) (t n : ℕ) (db : Db) → 1 ≤ t → get db.records (t, n) ≡ None → (es : List SubsetEntry) → AllByRecursion (EntryStands desc db) es
    → count_by (λ (e : SubsetEntry). (owner_of (structure_of desc e.subset) == t) && (e.owner == n)) es ≡ 0
none_entered desc m t n db low none [] all = refl
none_entered desc m t n db low none (e ∷ es) all =
    let here = one_of ((owner_of (structure_of desc e.subset) == t) && (e.owner == n)) (off_owner db.records t n (owner_of (structure_of desc e.subset)) e.owner low none all.0.owner) in
    let rest = none_entered desc m t n db low none es all.1 in
    omega (arith, count_more (λ (x : SubsetEntry). (owner_of (structure_of desc x.subset) == t) && (x.owner == n)) e es, here, rest)

-- and it owns nothing
pub owned_none : (desc : Described) (db : Db) (t n : ℕ) → 1 ≤ t → get db.records (t, n) ≡ None → AllByRecursion (EntryStands desc db) db.entries
    → ((p : Place) (r : Record) → get db.records p ≡ Some r → owner_stands db.records (owner_of (structure_of desc p.0)) r.owner ≡ true) → owned_in desc db t n ≡ 0
unfolding owned_in
owned_none desc db t n low none entries_stand stand =
    let records = sum_none (λ (e : Place × Record). cond ((owner_of (structure_of desc e.0.0) == t) && (e.1.owner == n)) 1 0) (entries db.records)
    (λ p r at. one_of ((owner_of (structure_of desc p.0) == t) && (r.owner == n)) (off_owner db.records t n (owner_of (structure_of desc p.0)) r.owner low none (stand p r (get-entries db.records p ∙ at)))) (entries_sorted db.records) in
    let rest = none_entered desc db.records t n db low none db.entries entries_stand in
    λ i. records i + rest i

-- ---- entries of manual subsets

module _ (desc : Described) (db : Db) (set number : ℕ) (rec : Record) where
  entry_more : (e : SubsetEntry) → EntryStands desc db e → EntryStands desc (with_record db set number rec) e
  entry_more e stands = record {
    manual = stands.manual;
    member = more db set number rec (over_of (structure_of desc e.subset), e.number) stands.member;
    owner = owner_more db set number rec (owner_of (structure_of desc e.subset)) e.owner stands.owner;
  }

  each_more : (es : List SubsetEntry) → AllByRecursion (EntryStands desc db) es → AllByRecursion (EntryStands desc (with_record db set number rec)) es
  each_more [] all = tt
  each_more (e ∷ es) all = (entry_more e all.0, each_more es all.1)

  -- those that stood stand
  pub entries_more : EntriesStand desc db → EntriesStand desc (with_record db set number rec)
  entries_more stand = record { each = each_more db.entries stand.each; rising = stand.rising; few = stand.few }

-- no entry names a record that isn't there
unnamed : (desc : Described) (db : Db) (n : ℕ) (s : Shape) → structure_of desc s.number ≡ Some s → is_manual (Some s) ≡ true → get db.records (s.set, n) ≡ None → (es : List SubsetEntry) → AllByRecursion (EntryStands desc db) es
    → list_any (names_record s.number n) es ≡ false
unnamed desc db n s at manual none [] all = refl
unnamed desc db n s at manual none (e ∷ es) all = by (names_record s.number n e) refl (unnamed desc db n s at manual none es all.1)
  where
    by : (b : Bool) → names_record s.number n e ≡ b → list_any (names_record s.number n) es ≡ false → (b || list_any (names_record s.number n) es) ≡ false
    by false is rest = rest
    by true is rest =
        let two = and_parts (e.subset == s.number) (e.number == n) is in
        let subset : e.subset ≡ s.number = grind (arith, nat_tests, two.0) in
        let number : e.number ≡ n = grind (arith, nat_tests, two.1) in
        let of : over_of (structure_of desc e.subset) ≡ s.set = ap (λ k. over_of (structure_of desc k)) subset ∙ ap over_of at ∙ own_set s manual in
        absurd (absent db.records (s.set, n) none ((λ i. is_some (get db.records (sym of i, sym number i))) ∙ all.0.member))
      where
        own_set : (u : Shape) → is_manual (Some u) ≡ true → over_of (Some u) ≡ u.set
        own_set u h = grind (arith, nat_tests, h)

pub none_named : (desc : Described) (db : Db) (n : ℕ) (s : Shape) → structure_of desc s.number ≡ Some s → is_manual (Some s) ≡ true → get db.records (s.set, n) ≡ None → EntriesStand desc db → list_any (names_record s.number n) db.entries ≡ false
none_named desc db n s at manual none stand = unnamed desc db n s at manual none db.entries stand.each

-- an entry with an owner is one of any owner
named_any : (subset o n : ℕ) (es : List SubsetEntry) → list_any (names subset o n) es ≡ true → list_any (names_record subset n) es ≡ true
named_any subset o n [] h = absurd (cc h)
named_any subset o n (e ∷ es) h = by (λ k. named_any subset o n es k) (names subset o n e) refl h
  where
    or_on : (b : Bool) → (b || true) ≡ true
    or_on true = refl
    or_on false = refl

    same : (a b c : Bool) → ((a && b) && c) ≡ true → (a && c) ≡ true
    same true true c h = h
    same true false c h = absurd (cc h)
    same false b c h = absurd (cc h)

    by : (list_any (names subset o n) es ≡ true → list_any (names_record subset n) es ≡ true) → (b : Bool) → names subset o n e ≡ b → (b || list_any (names subset o n) es) ≡ true → (names_record subset n e || list_any (names_record subset n) es) ≡ true
    by rest true is k = ap (λ b. b || list_any (names_record subset n) es) (same (e.subset == subset) (e.owner == o) (e.number == n) is)
    by rest false is k = ap (λ b. names_record subset n e || b) (rest k) ∙ or_on (names_record subset n e)

-- The list of a manual subset stays where the record is one of another data set, or no entry of the subset names it.
pub list_stays : (desc : Described) (db : Db) (set number : ℕ) (rec : Record) (s : Shape) → (s.set ≡ set → list_any (names_record s.number number) db.entries ≡ false) → manual_of desc (with_record db set number rec) s ≡ manual_of desc db s
list_stays desc db set number rec s off = manual_still desc s db (with_record db set number rec) (record { entered = λ o n. refl; records = λ o n has. after_get db set number rec (s.set, n) ∙ by n (eq_by_cmp place_cmp (s.set, n) (set, number)) refl o has })
  where
    apart : true ≡ false → ⊥
    apart h = absurd (cc h)

    by : (n : ℕ) (b : Bool) → eq_by_cmp place_cmp (s.set, n) (set, number) ≡ b → (o : ℕ) → has_entry db s.number o n ≡ true → cond b (Some rec) (get db.records (s.set, n)) ≡ get db.records (s.set, n)
    by n false is o has = refl
    by n true is o has =
        let p = place_is (s.set, n) (set, number) is in
        let here : n ≡ number = ap (λ (q : Place). q.1) p in
        let none = off (ap (λ (q : Place). q.0) p) in
        absurd (apart (sym (named_any s.number o number db.entries (ap (λ k. has_entry db s.number o k) (sym here) ∙ has)) ∙ none))
