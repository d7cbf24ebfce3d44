-- A valid database is valid after an entry of a manual subset was made, or taken out.
use Rattle.std.proofs.Common.{◌≡◌, ◌≤◌, ◌<◌, ◌+◌, ◌∙◌, ℕ, List, [], ◌∷◌, Bool, true, false, cond, eqb, Some, refl, sym, ap, length, filter, not, arith}
use Rattle.std.specs.Prelude.{◌&&◌, ◌||◌, ◌==◌, is_some, nat_le}
use Rattle.std.specs.List.{list_any, AllByRecursion}
use Rattle.std.specs.FinMap.{entries, get, get-entries}
use Rattle.std.specs.Cmp.{IsTotalOrder, nat_cmp_total}
use Rattle.std.specs.Ordering.{is_eq, is_lt, nat_cmp, ordering_reverse, ordering_then}
use Rattle.std.specs.declared.cmp.Ordering.{Ordering}
use Rattle.std.specs.declared.cmp.Ordering.TheVariants.{Less, Equal, Greater}
use Rattle.std.proofs.lemmas.Bool.{and_parts}
use Rattle.std.proofs.lemmas.Bool.Decides.{nat_tests}
use Rattle.std.proofs.lemmas.Cmp.{on_total, then_total}
use Rattle.dms_desc.specs.declared.record.Record.{Record}
use Rattle.dms_desc.specs.Keys.{key_cmp, key_of}
use Rattle.dms_desc.specs.Kinds.{over, takes}
use Rattle.dms_desc.specs.Lookups.{structure_of}
use Rattle.dms_desc.specs.Shape.{Shape, Described}
use Rattle.dms_desc.specs.Sorted.{place_in}
use Rattle.dms_model.specs.Db.{Db, Place, SubsetEntry}
use Rattle.dms_model.specs.Changing.{MayEnter}
use Rattle.dms_model.specs.declared.put.Put.TheVariants.{Stored, Duplicate, Full}
use Rattle.dms_model.specs.Members.{belongs, names}
use Rattle.dms_model.specs.Stores.{is_full, values_of}
use Rattle.dms_model.specs.Uses.{after_enter, after_leave, clashes_for, enter_answer, entry_before, entry_of, has_entry, is_in_subset, is_not_entry, record_at}
use Rattle.dms_model.specs.Valid.{AreRising, EntryStands, IsValid, entry_cmp, equal_keys, is_manual, is_set, share_owner}
use Rattle.dms_laws.specs.Made.{IsWellMade}
use Rattle.dms_laws.proofs.Revised.{revised_valid}
use Rattle.dms_laws.proofs.Shapes.{over_is}
use Rattle.dms_laws.proofs.Stored.{is_rival, rival_found, swap_keys}

-- ---- the order of entries

entries_total : IsTotalOrder entry_cmp
entries_total = then_total (on_total (λ (e : SubsetEntry). e.subset) nat_cmp_total) (then_total (on_total (λ (e : SubsetEntry). e.owner) nat_cmp_total) (on_total (λ (e : SubsetEntry). e.number) nat_cmp_total))

nat_equal : (a b : ℕ) → nat_cmp a b ≡ Equal → a ≡ b
nat_equal a b h = grind (arith, nat_tests, h)

both_equal : (o r : Ordering) → ordering_then o r ≡ Equal → (o ≡ Equal) × (r ≡ Equal)
both_equal Less r h = absurd (cc)
both_equal Equal r h = (refl, h)
both_equal Greater r h = absurd (cc)

-- entries that tie are one
tie_names : (a o n : ℕ) (e : SubsetEntry) → entry_cmp (entry_of a o n) e ≡ Equal → names a o n e ≡ true
tie_names a o n e h =
    let one = both_equal (nat_cmp a e.subset) _ h in
    let two = both_equal (nat_cmp o e.owner) _ one.1 in
    let x = nat_equal a e.subset one.0 in
    let y = nat_equal o e.owner two.0 in
    let z = nat_equal n e.number two.1 in
    grind (arith, nat_tests, x, y, z)

-- ---- one entry more among rising ones

module _ (a o n : ℕ) where
  abbrev x : SubsetEntry
  x = entry_of a o n

  or_left : (b c : Bool) → (b || c) ≡ false → (b ≡ false) × (c ≡ false)
  or_left true c h = absurd (cc)
  or_left false c h = (refl, h)

  all_placed : (P : SubsetEntry → Type 0) (es : List SubsetEntry) → P x → AllByRecursion P es → AllByRecursion P (place_in entry_before x es)
  all_placed P [] h all = (h, tt)
  all_placed P (e ∷ es) h all = by (entry_before x e) (all_placed P es h all.1)
    where
      by : (b : Bool) → AllByRecursion P (place_in entry_before x es) → AllByRecursion P (cond b (x ∷ e ∷ es) (e ∷ place_in entry_before x es))
      by true rest = (h, all)
      by false rest = (all.0, rest)

  less_all : (e : SubsetEntry) (es : List SubsetEntry) → entry_cmp x e ≡ Less → AllByRecursion (λ y. entry_cmp e y ≡ Less) es → AllByRecursion (λ y. entry_cmp x y ≡ Less) es
  less_all e [] h all = tt
  less_all e (y ∷ es) h all = (entries_total.trans x e y h all.0, less_all e es h all.1)

  rising_placed : (es : List SubsetEntry) → AreRising es → list_any (names a o n) es ≡ false → AreRising (place_in entry_before x es)
  rising_placed [] rising none = (tt, tt)
  rising_placed (e ∷ es) rising none = by (entry_cmp x e) refl (rising_placed es rising.1 (or_left (names a o n e) (list_any (names a o n) es) none).1)
    where
      by : (r : Ordering) → entry_cmp x e ≡ r → AreRising (place_in entry_before x es) → AreRising (cond (is_lt r) (x ∷ e ∷ es) (e ∷ place_in entry_before x es))
      by Less is rest = ((is, less_all e es is rising.0), rising)
      by Equal is rest = absurd (let yes = tie_names a o n e is in let no = (or_left (names a o n e) (list_any (names a o n) es) none).0 in cc)
      by Greater is rest =
          let less : entry_cmp e x ≡ Less = entries_total.antisymm e x ∙ ap ordering_reverse is in
          (all_placed (λ y. entry_cmp e y ≡ Less) es less rising.0, rest)

  any_placed : (t : SubsetEntry → Bool) (es : List SubsetEntry) → list_any t (place_in entry_before x es) ≡ (t x || list_any t es)
  any_placed t [] = refl
  any_placed t (e ∷ es) = by (entry_before x e) (any_placed t es)
    where
      turned : (b c d : Bool) → (b || (c || d)) ≡ (c || (b || d))
      turned true true d = refl
      turned true false d = refl
      turned false c d = refl

      by : (b : Bool) → list_any t (place_in entry_before x es) ≡ (t x || list_any t es) → list_any t (cond b (x ∷ e ∷ es) (e ∷ place_in entry_before x es)) ≡ (t x || (t e || list_any t es))
      by true rest = refl
      by false rest = ap (λ c. t e || c) rest ∙ turned (t e) (t x) (list_any t es)

  filter_one : (t : SubsetEntry → Bool) (e : SubsetEntry) (es : List SubsetEntry) → length (filter t (e ∷ es)) ≡ cond (t e) 1 0 + length (filter t es)
  filter_one t e es = by (t e)
    where
      by : (b : Bool) → length (cond b (e ∷ filter t es) (filter t es)) ≡ cond b 1 0 + length (filter t es)
      by true = omega arith
      by false = omega arith

  count_placed : (t : SubsetEntry → Bool) (es : List SubsetEntry) → length (filter t (place_in entry_before x es)) ≡ cond (t x) 1 0 + length (filter t es)
  count_placed t [] = filter_one t x []
  count_placed t (e ∷ es) = by (entry_before x e) (count_placed t es)
    where
      by : (b : Bool) → length (filter t (place_in entry_before x es)) ≡ cond (t x) 1 0 + length (filter t es) → length (filter t (cond b (x ∷ e ∷ es) (e ∷ place_in entry_before x es))) ≡ cond (t x) 1 0 + length (filter t (e ∷ es))
      by true rest = filter_one t x (e ∷ es)
      by false rest = omega (arith, filter_one t e (place_in entry_before x es), filter_one t e es, rest)

-- ---- an entry made

module _ (desc : Described) (made : IsWellMade desc) (db : Db) (valid : IsValid desc db) (subset owner number : ℕ) (manual : is_manual (structure_of desc subset) ≡ true) (may : MayEnter desc db subset owner number)
    (new : has_entry db subset owner number ≡ false) (clear : clashes_for (structure_of desc subset) db owner number ≡ false) (room : is_full (structure_of desc subset) (length (filter (is_in_subset subset) db.entries)) ≡ false) where
  abbrev entry : SubsetEntry
  entry = entry_of subset owner number

  abbrev more : Db
  more = record db { entries = place_in entry_before entry db.entries }

  still_stands : (es : List SubsetEntry) → AllByRecursion (EntryStands desc db) es → AllByRecursion (EntryStands desc more) es
  still_stands [] all = tt
  still_stands (e ∷ es) all = (record { manual = all.0.manual; member = all.0.member; owner = all.0.owner }, still_stands es all.1)

  stands : EntryStands desc more entry
  stands = record { manual = manual; member = may.member; owner = may.owned }

  count_more : (s : Shape) (n : ℕ) → structure_of desc n ≡ Some s → is_manual (Some s) ≡ true → length (filter (λ e. e.subset == n) (place_in entry_before entry db.entries)) ≤ s.population
  count_more s n has kind = by (subset == n) refl (count_placed subset owner number (λ e. e.subset == n) db.entries)
    where
      by : (b : Bool) → eqb subset n ≡ b → length (filter (λ e. e.subset == n) (place_in entry_before entry db.entries)) ≡ cond b 1 0 + length (filter (λ e. e.subset == n) db.entries) → length (filter (λ e. e.subset == n) (place_in entry_before entry db.entries)) ≤ s.population
      by true is h =
          let same : subset ≡ n = grind (arith, nat_tests, is) in
          let few : nat_le s.population (length (filter (λ e. e.subset == n) db.entries)) ≡ false = (λ i. is_full (sym (ap (structure_of desc) same ∙ has) i) (length (filter (λ e. e.subset == sym same i) db.entries))) ∙ room in
          let lt : length (filter (λ e. e.subset == n) db.entries) < s.population = grind (arith, nat_tests, few) in
          omega (arith, h, lt)
      by false is h = omega (arith, h, valid.entry_counts n s has kind)

  -- keys

  module _ (n : ℕ) (s : Shape) (here : structure_of desc n ≡ Some s) (set : is_set s ≡ true) (nodup : s.duplicates ≡ false) (o : ℕ) where
    -- it belongs to the subset by the new entry, or as it did
    belongs_or : (p : Place) (a : Record) (C : Type 0) → belongs s more.entries o (p, a) ≡ true → (names s.number o p.1 entry ≡ true → C) → (belongs s db.entries o (p, a) ≡ true → C) → C
    belongs_or p a C mine by_new as_was =
        let parts = and_parts (over s == p.0) (cond (s.kind == 5) (list_any (names s.number o p.1) more.entries) ((o == a.owner) && takes s a.values)) mine in
        by (s.kind == 5) (names s.number o p.1 entry) refl refl parts.0 parts.1
      where
        by : (b t : Bool) → (s.kind == 5) ≡ b → names s.number o p.1 entry ≡ t → (over s == p.0) ≡ true → cond b (list_any (names s.number o p.1) more.entries) ((o == a.owner) && takes s a.values) ≡ true → C
        by false t kind is at h = as_was ((λ i. at i && (cond (kind i) (list_any (names s.number o p.1) db.entries) ((o == a.owner) && takes s a.values))) ∙ h)
        by true true kind is at h = by_new is
        by true false kind is at h =
            let old : list_any (names s.number o p.1) db.entries ≡ true = sym (any_placed subset owner number (names s.number o p.1) db.entries ∙ ap (λ c. c || list_any (names s.number o p.1) db.entries) is) ∙ h in
            as_was ((λ i. at i && (cond (kind i) (list_any (names s.number o p.1) db.entries) ((o == a.owner) && takes s a.values))) ∙ old)

    over_of_set : (p : Place) (a : Record) (es : List SubsetEntry) → belongs s es o (p, a) ≡ true → s.set ≡ p.0
    over_of_set p a es mine =
        let parts = and_parts (over s == p.0) (cond (s.kind == 5) (list_any (names s.number o p.1) es) ((o == a.owner) && takes s a.values)) mine in
        sym (over_is s set) ∙ (grind (arith, nat_tests, parts.0))

    -- the record of the new entry, and another member with an equal key: they are one
    new_old : (p q : Place) (a b : Record) → get db.records p ≡ Some a → get db.records q ≡ Some b → s.set ≡ p.0 → names s.number o p.1 entry ≡ true → belongs s db.entries o (q, b) ≡ true → equal_keys s b a ≡ true → p ≡ q
    new_old p q a b atp atq own is theirs equal = by (eqb number q.1) refl
      where
        sub : subset ≡ s.number
        sub = grind (arith, nat_tests, is)

        same_owner : owner ≡ o
        same_owner = grind (arith, nat_tests, is)

        same_number : number ≡ p.1
        same_number = grind (arith, nat_tests, is)

        that : structure_of desc subset ≡ Some s
        that = ap (structure_of desc) (sub ∙ made.numbers n s here) ∙ here

        values : record_at db s.set number ≡ a.values
        values = (λ i. record_at db (own i) (same_number i)) ∙ ap values_of atp

        by : (t : Bool) → eqb number q.1 ≡ t → p ≡ q
        by true e =
            let second : p.1 ≡ q.1 = grind (arith, nat_tests, e, same_number) in
            let first : p.0 ≡ q.0 = sym own ∙ over_of_set q b db.entries theirs in
            λ i. (first i, second i)
        by false e =
            let rec : Record = record { owner = owner; values = record_at db s.set number } in
            let rival : is_rival s db.entries (Some number) rec (q, b) ≡ true = rival_is rec e in
            let equals = rival_found s db.entries (Some number) rec q b (entries db.records) (sym (get-entries db.records q) ∙ atq) rival in
            absurd (let no = sym (λ i. not (nodup i) && equals i) ∙ sym (ap (λ x. clashes_for x db owner number) that) ∙ clear in cc)
          where
            rival_is : (rec : Record) → eqb number q.1 ≡ false → is_rival s db.entries (Some number) (record { owner = owner; values = record_at db s.set number }) (q, b) ≡ true
            rival_is rec e = λ i. (ap (λ w. belongs s db.entries w (q, b)) same_owner ∙ theirs) i && not (e i) && (ap (λ vs. is_eq (key_cmp s.parts (key_of s.parts b.values) (key_of s.parts vs))) values ∙ equal) i

    number_named : (m : ℕ) → names s.number o m entry ≡ true → number ≡ m
    number_named m is = grind (arith, nat_tests, is)

    keys_more : (p q : Place) (a b : Record) → get db.records p ≡ Some a → get db.records q ≡ Some b → share_owner s more.entries o (p, a) (q, b) ≡ true → equal_keys s a b ≡ true → p ≡ q
    keys_more p q a b atp atq share equal =
        let both = and_parts (belongs s more.entries o (p, a)) (belongs s more.entries o (q, b)) share in
        let own = over_of_set p a more.entries both.0 in
        let theirs = over_of_set q b more.entries both.1 in
        belongs_or p a (p ≡ q) both.0
        (λ mine. belongs_or q b (p ≡ q) both.1
        (λ yours. let second : p.1 ≡ q.1 = sym (number_named p.1 mine) ∙ number_named q.1 yours in λ i. ((sym own ∙ theirs) i, second i))
        (λ was. new_old p q a b atp atq own mine was (swap_keys s a b equal)))
        (λ was. belongs_or q b (p ≡ q) both.1
        (λ yours. sym (new_old q p b a atq atp theirs yours was equal))
        (λ was'. valid.keys n s here set nodup o p q a b atp atq (λ i. was i && was' i) equal))

  entered : IsValid desc more
  entered = record {
    sets = valid.sets;
    lengths = valid.lengths;
    fit = valid.fit;
    plain = valid.plain;
    links = valid.links;
    required = valid.required;
    verified = valid.verified;
    owners = valid.owners;
    numbers = valid.numbers;
    populations = valid.populations;
    keys = λ n s here set nodup o p q a b atp atq share equal. keys_more n s here set nodup o p q a b atp atq share equal;
    entries = all_placed subset owner number (EntryStands desc more) db.entries stands (still_stands db.entries valid.entries);
    rising = rising_placed subset owner number db.entries valid.rising new;
    entry_counts = λ n s has kind. count_more s n has kind;
  }

-- after an entry was made, or refused
pub enter_valid : (desc : Described) → IsWellMade desc → (db : Db) (subset owner number : ℕ) → IsValid desc db → is_manual (structure_of desc subset) ≡ true → MayEnter desc db subset owner number
    → IsValid desc (after_enter (enter_answer desc db subset owner number) db subset owner)
unfolding enter_answer
enter_valid desc made db subset owner number valid manual may =
    by (has_entry db subset owner number) (clashes_for (structure_of desc subset) db owner number) (is_full (structure_of desc subset) (length (filter (is_in_subset subset) db.entries))) refl refl refl
  where
    by : (a b c : Bool) → has_entry db subset owner number ≡ a → clashes_for (structure_of desc subset) db owner number ≡ b → is_full (structure_of desc subset) (length (filter (is_in_subset subset) db.entries)) ≡ c
        → IsValid desc (after_enter (cond (a || b) (Duplicate subset) (cond c Full (Stored number))) db subset owner)
    by true b c x y z = valid
    by false true c x y z = valid
    by false false true x y z = valid
    by false false false x y z = entered desc made db valid subset owner number manual may x y z

-- ---- an entry taken out

module _ (desc : Described) (made : IsWellMade desc) (db : Db) (valid : IsValid desc db) (t : SubsetEntry → Bool) where
  abbrev fewer : Db
  fewer = record db { entries = filter t db.entries }

  all_left : (P Q : SubsetEntry → Type 0) → ((e : SubsetEntry) → P e → Q e) → (es : List SubsetEntry) → AllByRecursion P es → AllByRecursion Q (filter t es)
  all_left P Q f [] all = tt
  all_left P Q f (e ∷ es) all = by (t e) (all_left P Q f es all.1)
    where
      by : (b : Bool) → AllByRecursion Q (filter t es) → AllByRecursion Q (cond b (e ∷ filter t es) (filter t es))
      by true rest = (f e all.0, rest)
      by false rest = rest

  rising_left : (es : List SubsetEntry) → AreRising es → AreRising (filter t es)
  rising_left [] rising = tt
  rising_left (e ∷ es) rising = by (t e) (rising_left es rising.1)
    where
      by : (b : Bool) → AreRising (filter t es) → AreRising (cond b (e ∷ filter t es) (filter t es))
      by true rest = (all_left (λ y. entry_cmp e y ≡ Less) (λ y. entry_cmp e y ≡ Less) (λ y h. h) es rising.0, rest)
      by false rest = rest

  any_left : (u : SubsetEntry → Bool) (es : List SubsetEntry) → list_any u (filter t es) ≡ true → list_any u es ≡ true
  any_left u [] h = h
  any_left u (e ∷ es) h = by (t e) (u e) refl h (any_left u es)
    where
      by : (b c : Bool) → u e ≡ c → list_any u (cond b (e ∷ filter t es) (filter t es)) ≡ true → (list_any u (filter t es) ≡ true → list_any u es ≡ true) → (c || list_any u es) ≡ true
      by b true is k rest = refl
      by true false is k rest = rest (sym (ap (λ d. d || list_any u (filter t es)) is) ∙ k)
      by false false is k rest = rest k

  count_left : (u : SubsetEntry → Bool) (es : List SubsetEntry) → length (filter u (filter t es)) ≤ length (filter u es)
  count_left u [] = omega arith
  count_left u (e ∷ es) = by (t e) (count_left u es)
    where
      by : (b : Bool) → length (filter u (filter t es)) ≤ length (filter u es) → length (filter u (cond b (e ∷ filter t es) (filter t es))) ≤ length (filter u (e ∷ es))
      by true rest = omega (arith, filter_one 0 0 0 u e (filter t es), filter_one 0 0 0 u e es, rest)
      by false rest = omega (arith, filter_one 0 0 0 u e es, rest)

  left_valid : IsValid desc fewer
  left_valid = revised_valid desc made db fewer valid (record {
    back = λ q r at. ap is_some at;
    revised = λ q r s at has. record { was = r; stood = at; owner = refl; long = refl; same = λ j off. refl; fit = valid.fit q r s at has; plain = valid.plain q r s at has };
    links = valid.links;
    owners = valid.owners;
    counts = λ n. omega arith;
    entries = all_left (EntryStands desc db) (EntryStands desc fewer) (λ e h. record { manual = h.manual; member = h.member; owner = h.owner }) db.entries valid.entries;
    rising = rising_left db.entries valid.rising;
    entry_counts = λ n. count_left (λ e. e.subset == n) db.entries;
    fewer = λ a o n h. any_left (names a o n) db.entries h;
  })

-- without an entry
pub leave_valid : (desc : Described) → IsWellMade desc → (db : Db) (subset owner number : ℕ) → IsValid desc db → IsValid desc (after_leave db subset owner number)
unfolding after_leave
leave_valid desc made db subset owner number valid = left_valid desc made db valid (is_not_entry subset owner number)
