-- The files of a content that spells a database, part by part: what its slots hold and count, what its lists hold, which entries stand.
use Rattle.std.proofs.Common.{◌≡◌, ◌≢◌, ◌∙◌, ◌+◌, ◌-◌, ◌<◌, ◌≤◌, ℕ, zero, suc, List, [], ◌∷◌, ◌++◌, Bool, true, false, cond, Some, None, refl, sym, ap, subst, length, slice_get, arith}
use Rattle.std.specs.Prelude.{◌&&◌, ◌||◌, ◌==◌, is_some, nat_le}
use Rattle.std.specs.List.{list_all}
use Rattle.std.specs.declared.option.Option.{Option}
use Rattle.std.specs.FinMap.{find, get, get-from_entries, same_map}
use Rattle.std.specs.Ordering.{eq_by_cmp}
use Rattle.std.proofs.lemmas.Bool.Decides.{nat_tests}
use Rattle.std.proofs.lemmas.Slice.Eq.{bytes_eq-Decides}
use Rattle.std.proofs.lemmas.Bool.{and_parts}
use Rattle.dms_block.specs.Content.{Content}
use Rattle.dms_desc.specs.Lookups.{structure_of}
use Rattle.dms_desc.specs.Shape.{Shape, Described}
use Rattle.dms_desc.specs.declared.record.Record.{Record}
use Rattle.dms_layout.specs.Slots.{slot_width}
use Rattle.dms_layout.specs.declared.slot.Slot.{Slot}
use Rattle.dms_layout.specs.declared.slot.SlotRead.{SlotRead}
use Rattle.dms_layout.specs.declared.slot.SlotRead.TheVariants.{Free, Used, Bad}
use Rattle.dms_model.specs.Db.{Db, Place, SubsetEntry, place_cmp}
use Rattle.dms_model.specs.Members.{names}
use Rattle.dms_model.specs.Valid.{is_data_set, owner_stands}
use Rattle.dms_lists.specs.Forms.{form_of, kept_in}
use Rattle.dms_sets.specs.Padded.{entry_width}
use Rattle.dms_sets.specs.Sets.{entries_of, kinds_over}
use Rattle.dms_slots.specs.FileWritten.{all_good, some_slot}
use Rattle.dms_desc.specs.Files.{file_of}
use Rattle.dms_slots.specs.SlotBlocks.{is_block, or_free, per_block, slot_at, slots_of}
use Rattle.dms_links.specs.Linking.{number_at, structure_here}
use Rattle.dms_spelling.specs.ServingLaws.{served_at}
use Rattle.dms_links.specs.Rows.{file_in, rec_in, rec_opt, rows_get, rows_in, rows_none}
use Rattle.dms_spelling.specs.Serving.{IsServed}
use Rattle.dms_links.specs.Stands.{Counts, FileStands, RecordsStand, SlotStands, Tally}
use Rattle.dms_tally.specs.Counts.{counted_in, links_stand, owned_in}
use Rattle.dms_tally.specs.Tally.{named_is}
use Rattle.dms_spelling.specs.Spelled.{as_set, database_in, db_in, entries_all, entry_stands, file_spells, files_fit, files_spell, has_none, is_list_of, is_spelled, is_whole, list_at, lists_eq, manual_spells, slot_stands, slots_stand, some_if}
use Rattle.dms_spelling.specs.Again.{AreOfSubsets, ListTells, entries_again}
use Rattle.dms_manual.specs.Entered.{manual_of}
use Rattle.dms_manual.specs.Moves.{SmallIn}
use Rattle.dms_model.specs.Valid.{AreRising, EntryStands, is_manual}
use Rattle.dms_model.specs.Uses.{entry_of, has_entry, is_in_subset}
use Rattle.dms_desc.specs.Lookups.{over_of}
use Rattle.dms_desc_bytes.specs.Finding.{owner_in as owner_of}
use Rattle.std.specs.List.{AllByRecursion, list_any}
use Rattle.std.specs.Prelude.{filter}
use Rattle.std.specs.FinMap.{keys}
use Rattle.dms_desc.specs.Kinds.{is_set_or_automatic}
use Rattle.dms_model.specs.Places.{places_same, places_total}

-- ---- definitions

-- the files of all other structures have its entries
pub record ListsSpell (desc : Described) (db : Db) (c : Content) : Type 0 where
  pub kept : (n : ℕ) (s : Shape) → structure_of desc n ≡ Some s → is_data_set (Some s) ≡ false → is_set_or_automatic s ≡ true → kept_in (form_of s) (entry_width (kinds_over desc s) s.parts) (file_in c s) ≡ Some (entries_of desc db s)
  pub manual : (n : ℕ) (s : Shape) → structure_of desc n ≡ Some s → is_manual (Some s) ≡ true → list_at desc c s ≡ Some (manual_of desc db s)

-- the entries of a database: each stands, they rise, and no subset has more than its POPULATION
pub record EntriesStand (desc : Described) (db : Db) : Type 0 where
  pub each : AllByRecursion (EntryStands desc db) db.entries
  pub rising : AreRising db.entries
  pub few : (n : ℕ) (s : Shape) → structure_of desc n ≡ Some s → is_manual (Some s) ≡ true → length (filter (is_in_subset s.number) db.entries) ≤ s.population

-- whole blocks, not too many of them, and none where there is no structure
pub record OneFits (desc : Described) (c : Content) (n : ℕ) : Type 0 where
  pub few : length (c (file_of n)) ≤ 1048576
  pub whole : list_all is_whole (c (file_of n)) ≡ true
  pub none : structure_of desc n ≡ None → has_none (c (file_of n)) ≡ true

abbrev pub SlotsFit : Described → Content → Type 0
SlotsFit desc c = (n : ℕ) → 1 ≤ n → n ≤ 200 → OneFits desc c n

-- The files of a content have the records of a database, where these are the counts of what each record owns.
pub record StandsFiles (desc : Described) (db : Db) (own : Tally) (c : Content) : Type 0 where
  pub slots : RecordsStand desc db own c
  pub lists : ListsSpell desc db c
  pub fit : SlotsFit desc c
  pub entries : EntriesStand desc db

-- ---- slots of a list

pub some_slots : (desc : Described) (n : ℕ) (s : Shape) → IsServed desc → structure_of desc n ≡ Some s → 0 < per_block s.items
some_slots desc n s served at = some_slot (slot_width s.items) (served_at desc n s served at).fits (omega arith)

module _ (desc : Described) (db : Db) (s : Shape) where
  stands_one : (own : Tally) (n : ℕ) (slot : Slot) → SlotStands desc db own s n slot → 1 ≤ s.number → Counts desc db own → slot_stands desc db s n (Used slot) ≡ true
  stands_one own n slot h low is =
      let most : nat_le n s.population ≡ true = grind (arith, nat_tests, h.most) in
      let counted : (slot.counted == counted_in desc db s.number n) ≡ true = (let same : slot.counted ≡ counted_in desc db s.number n = h.counted ∙ is.counted s.number n low in grind (arith, nat_tests, same)) in
      let same : slot.owned ≡ owned_in desc db s.number n = h.owned ∙ is.owned s.number n low in
      let owned : (slot.owned == owned_in desc db s.number n) ≡ true = grind (arith, nat_tests, same) in
      λ i. (most i && (h.owner i && h.links i)) && (counted i && owned i)

  read_stands : (own : Tally) (n : ℕ) (r : SlotRead) → r ≢ Bad → ((slot : Slot) → r ≡ Used slot → SlotStands desc db own s n slot) → 1 ≤ s.number → Counts desc db own → slot_stands desc db s n r ≡ true
  read_stands own n Free fine h low is = refl
  read_stands own n (Used slot) fine h low is = stands_one own n slot (h slot refl) low is
  read_stands own n Bad fine h low is = absurd (fine refl)

  all_at : (n : ℕ) (rs : List SlotRead) → ((i : ℕ) → slot_stands desc db s (n + i) (or_free (slice_get rs i)) ≡ true) → slots_stand desc db s n rs ≡ true
  all_at n [] h = refl
  all_at n (r ∷ rs) h =
      let here : slot_stands desc db s n r ≡ true = ap (λ k. slot_stands desc db s k r) (let e : n ≡ n + 0 = omega arith in e) ∙ h 0 in
      let rest = all_at (n + 1) rs (λ i. ap (λ k. slot_stands desc db s k (or_free (slice_get rs i))) (let e : (n + 1) + i ≡ n + suc i = omega arith in e) ∙ h (suc i)) in
      λ j. here j && rest j

-- ---- what stands under a number

pub get_whole : (desc : Described) (c : Content) → IsServed desc → (set n : ℕ) → 1 ≤ n → get (db_in desc c).records (set, n) ≡ rec_in c (structure_of desc set) n
unfolding db_in
get_whole desc c served set n low = get-from_entries places_total (rows_in c desc.structures) (set, n) ∙ rows_get desc c served.numbered set n low

pub none_whole : (desc : Described) (c : Content) (t : ℕ) → get (db_in desc c).records (t, 0) ≡ None
unfolding db_in
none_whole desc c t = get-from_entries places_total (rows_in c desc.structures) (t, 0) ∙ rows_none c t desc.structures

-- ---- entries

-- what holds of all entries holds of one that stands
pub from_entry : (P : SubsetEntry → Type 0) (a o n : ℕ) (es : List SubsetEntry) → AllByRecursion P es → list_any (names a o n) es ≡ true → P (entry_of a o n)
from_entry P a o n [] all h = absurd (cc)
from_entry P a o n (e ∷ es) all h = by (names a o n e) refl h (λ k. from_entry P a o n es all.1 k)
  where
    by : (b : Bool) → names a o n e ≡ b → (b || list_any (names a o n) es) ≡ true → (list_any (names a o n) es ≡ true → P (entry_of a o n)) → P (entry_of a o n)
    by true is k rest = subst P (named_is a o n e is) all.0
    by false is k rest = rest k

set_of_manual : (s : Shape) → is_manual (Some s) ≡ true → over_of (Some s) ≡ s.set
set_of_manual s manual = by (is_data_set (Some s)) refl
  where
    by : (b : Bool) → is_data_set (Some s) ≡ b → over_of (Some s) ≡ s.set
    by b is = grind (arith, nat_tests, manual)

-- ---- and back

lists_itself : (xs : List (List ℕ)) → lists_eq xs xs ≡ true
lists_itself [] = refl
lists_itself (x ∷ xs) = let here = (bytes_eq-Decides x x).1 refl in let rest = lists_itself xs in λ i. here i && rest i

files_all : (desc : Described) (db : Db) (c : Content) (ss : List Shape) → ((i : ℕ) (s : Shape) → slice_get ss i ≡ Some s → file_spells desc db s (file_in c s) ≡ true) → files_spell desc db c ss ≡ true
files_all desc db c [] h = refl
files_all desc db c (s ∷ ss) h =
    let here = h 0 s refl in
    let rest = files_all desc db c ss (λ i t at. h (suc i) t at) in
    λ j. here j && rest j

module _ (desc : Described) (db : Db) (own : Tally) (c : Content) (served : IsServed desc) where
  slots_again : (n : ℕ) (s : Shape) → structure_of desc n ≡ Some s → FileStands desc db own s (file_in c s) → Counts desc db own → slots_stand desc db s 1 (slots_of s (file_in c s)) ≡ true
  slots_again n s at file owned =
      all_at desc db s 1 (slots_of s (file_in c s)) (λ i.
      let e : i ≡ (1 + i) - 1 = omega arith in
      let same : or_free (slice_get (slots_of s (file_in c s)) i) ≡ slot_at s (file_in c s) (1 + i) = ap (λ m. or_free (slice_get (slots_of s (file_in c s)) m)) e in
      ap (slot_stands desc db s (1 + i)) same
      ∙ read_stands desc db s own (1 + i) (slot_at s (file_in c s) (1 + i)) (all_good s (file_in c s) (1 + i) (some_slots desc n s served at) file.blocks)
      (λ slot is. file.slots (1 + i) slot (omega arith) is) (omega (arith, number_at desc served.numbered n s at, low_of n at)) owned)
    where
      low_of : (m : ℕ) → structure_of desc m ≡ Some s → 1 ≤ m
      low_of zero e = absurd (cc)
      low_of (suc m) e = omega arith

  pub number_small : RecordsStand desc db own c → (t m : ℕ) → is_some (get db.records (t, m)) ≡ true → m ≤ 1000000
  number_small slots t zero h = omega arith
  number_small slots t (suc m) h = shape_at (structure_of desc t) refl (sym (ap is_some (slots.records t (suc m) (omega arith))) ∙ h)
    where
      slot_small : (u : Shape) (r : SlotRead) → structure_of desc t ≡ Some u → is_data_set (Some u) ≡ true → slot_at u (file_in c u) (suc m) ≡ r → is_some (rec_opt r) ≡ true → suc m ≤ 1000000
      slot_small u Free at is_set was is = absurd (cc)
      slot_small u Bad at is_set was is = absurd (cc)
      slot_small u (Used slot) at is_set was is =
          let here = (slots.each t u at is_set).slots (suc m) slot (omega arith) was in
          omega (arith, here.most, (served_at desc t u served at).population)

      set_at : (u : Shape) (b : Bool) → structure_of desc t ≡ Some u → is_data_set (Some u) ≡ b → is_some (cond b (rec_opt (slot_at u (file_in c u) (suc m))) None) ≡ true → suc m ≤ 1000000
      set_at u true at is_set is = slot_small u (slot_at u (file_in c u) (suc m)) at is_set refl is
      set_at u false at is_set is = absurd (cc)

      shape_at : (o : Option Shape) → structure_of desc t ≡ o → is_some (rec_in c o (suc m)) ≡ true → suc m ≤ 1000000
      shape_at None at is = absurd (cc)
      shape_at (Some u) at is = set_at u (is_data_set (Some u)) at refl is

  pub owner_small : RecordsStand desc db own c → (t m : ℕ) → owner_stands db.records t m ≡ true → m ≤ 1000000
  owner_small slots t m h = by (t == 0) h
    where
      by : (b : Bool) → cond b (m == 0) (is_some (get db.records (t, m))) ≡ true → m ≤ 1000000
      by true is = let zero_is : m ≡ 0 = grind (arith, nat_tests, is) in omega (arith, zero_is)
      by false is = number_small slots t m is

  -- what the lists of manual subsets tell
  pub told_one : (n : ℕ) (s : Shape) → structure_of desc n ≡ Some s → is_manual (Some s) ≡ true → RecordsStand desc db own c → ListsSpell desc db c → EntriesStand desc db → ListTells desc db c s
  told_one n s at manual slots lists entries = record {
    list = lists.manual n s at manual;
    small = record { each = λ o k has. (let e = stands_at o k has in (let le = owner_small slots (owner_of (structure_of desc s.number)) o e.1 in omega (arith, le), let le = number_small slots (over_of (structure_of desc s.number)) k e.0 in omega (arith, le))) };
    member = λ o k has. ap (λ t. is_some (get db.records (t, k))) (sym over_is) ∙ (stands_at o k has).0;
  }
    where
      number : s.number ≡ n
      number = number_at desc served.numbered n s at

      over_is : over_of (structure_of desc s.number) ≡ s.set
      over_is = ap over_of (ap (structure_of desc) number ∙ at) ∙ set_of_manual s manual

      stands_at : (o k : ℕ) → has_entry db s.number o k ≡ true → (is_some (get db.records (over_of (structure_of desc s.number), k)) ≡ true) × (owner_stands db.records (owner_of (structure_of desc s.number)) o ≡ true)
      stands_at o k has =
          let e = from_entry (EntryStands desc db) s.number o k db.entries entries.each has in
          (e.member, e.owner)

  told_from : (ss : List Shape) → ((i : ℕ) (s : Shape) → slice_get ss i ≡ Some s → (n : ℕ) × (structure_of desc n ≡ Some s)) → RecordsStand desc db own c → ListsSpell desc db c → EntriesStand desc db → AllByRecursion (λ s. (s.kind == 5) ≡ true → ListTells desc db c s) ss
  told_from [] h slots lists entries = tt
  told_from (s ∷ ss) h slots lists entries = ((λ manual. let at = h 0 s refl in told_one at.0 s at.1 manual slots lists entries), told_from ss (λ i t at. h (suc i) t at) slots lists entries)

  kept_again : (s : Shape) → (es : List SubsetEntry) → AllByRecursion (EntryStands desc db) es → list_all (entry_stands desc db) (filter (is_in_subset s.number) es) ≡ true
  kept_again s [] all = refl
  kept_again s (e ∷ es) all = by (is_in_subset s.number e) (kept_again s es all.1)
    where
      here : entry_stands desc db e ≡ true
      here = let e = all.0 in λ i. e.member i && e.owner i

      by : (b : Bool) → list_all (entry_stands desc db) (filter (is_in_subset s.number) es) ≡ true → list_all (entry_stands desc db) (cond b (e ∷ filter (is_in_subset s.number) es) (filter (is_in_subset s.number) es)) ≡ true
      by true rest = λ i. here i && rest i
      by false rest = rest

  manual_again : (n : ℕ) (s : Shape) → structure_of desc n ≡ Some s → is_manual (Some s) ≡ true → ListsSpell desc db c → EntriesStand desc db → manual_spells desc db s (file_in c s) ≡ true
  manual_again n s at manual lists entries =
      let list : is_list_of (list_at desc c s) (manual_of desc db s) ≡ true = ap (λ o. is_list_of o (manual_of desc db s)) (lists.manual n s at manual) ∙ lists_itself (manual_of desc db s) in
      let all = kept_again s db.entries entries.each in
      let few : nat_le (length (filter (is_in_subset s.number) db.entries)) s.population ≡ true = (let le = entries.few n s at manual in grind (arith, nat_tests, le)) in
      λ i. list i && (all i && few i)

  file_again : (b k j : Bool) (n : ℕ) (s : Shape) → is_data_set (Some s) ≡ b → is_set_or_automatic s ≡ k → is_manual (Some s) ≡ j → structure_of desc n ≡ Some s → RecordsStand desc db own c → ListsSpell desc db c → EntriesStand desc db → Counts desc db own → file_spells desc db s (file_in c s) ≡ true
  file_again true k j n s is_set kept manual at slots lists entries owned =
      let bs = file_in c s in
      let rest = cond (is_set_or_automatic s) (is_list_of (kept_in (form_of s) (entry_width (kinds_over desc s) s.parts) bs) (entries_of desc db s)) (cond (is_manual (Some s)) (manual_spells desc db s bs) (has_none bs)) in
      let file = slots.each n s at is_set in
      let all = slots_again n s at file owned in
      ap (λ b. cond b (list_all (is_block s) bs && slots_stand desc db s 1 (slots_of s bs)) rest) is_set ∙ (λ i. file.blocks i && all i)
  file_again false true j n s no_set kept manual at slots lists entries owned =
      let bs = file_in c s in
      let last = cond (is_manual (Some s)) (manual_spells desc db s bs) (has_none bs) in
      let list = is_list_of (kept_in (form_of s) (entry_width (kinds_over desc s) s.parts) bs) (entries_of desc db s) in
      ap (λ b. cond b (list_all (is_block s) bs && slots_stand desc db s 1 (slots_of s bs)) (cond (is_set_or_automatic s) list last)) no_set ∙ ap (λ b. cond b list last) kept
      ∙ ap (λ o. is_list_of o (entries_of desc db s)) (lists.kept n s at no_set kept) ∙ lists_itself (entries_of desc db s)
  file_again false false true n s no_set no_list manual at slots lists entries owned =
      let bs = file_in c s in
      let last = cond (is_manual (Some s)) (manual_spells desc db s bs) (has_none bs) in
      let list = is_list_of (kept_in (form_of s) (entry_width (kinds_over desc s) s.parts) bs) (entries_of desc db s) in
      ap (λ b. cond b (list_all (is_block s) bs && slots_stand desc db s 1 (slots_of s bs)) (cond (is_set_or_automatic s) list last)) no_set ∙ ap (λ b. cond b list last) no_list
      ∙ ap (λ b. cond b (manual_spells desc db s bs) (has_none bs)) manual ∙ manual_again n s at manual lists entries
  file_again false false false n s no_set no_list no_manual at slots lists entries owned = absurd (no_kind s n at no_set no_list no_manual)
    where
      no_kind : (u : Shape) (m : ℕ) → structure_of desc m ≡ Some u → is_data_set (Some u) ≡ false → is_set_or_automatic u ≡ false → is_manual (Some u) ≡ false → ⊥
      no_kind u m there x y z = let k = served_at desc m u served there in grind (arith, nat_tests, k.low, k.most, x, y, z)

  records_again : RecordsStand desc db own c → (db_in desc c).records ≡ db.records
  records_again slots = same_map places_total places_same _ _ (λ q. at q.0 q.1)
    where
      at : (set n : ℕ) → get (db_in desc c).records (set, n) ≡ get db.records (set, n)
      at set zero = none_whole desc c set ∙ sym (slots.none set)
      at set (suc n) = get_whole desc c served set (suc n) (omega arith) ∙ sym (slots.records set (suc n) (omega arith))

  entries_are : RecordsStand desc db own c → ListsSpell desc db c → EntriesStand desc db → (db_in desc c).entries ≡ db.entries
  unfolding db_in
  entries_are slots lists entries =
      entries_again desc db c (λ n s at. number_at desc served.numbered n s at)
      (told_from desc.structures (λ i s at. (suc i, structure_here desc.structures i s at)) slots lists entries)
      (λ a o n has. (from_entry (EntryStands desc db) a o n db.entries entries.each has).manual) entries.rising

  db_again : RecordsStand desc db own c → ListsSpell desc db c → EntriesStand desc db → db_in desc c ≡ db
  db_again slots lists entries =
      let r = records_again slots in
      let e = entries_are slots lists entries in
      λ i. record { records = r i; entries = e i }

  fits_again : (k n : ℕ) → 1 ≤ n → n + k ≤ 201 → SlotsFit desc c → files_fit desc c k n ≡ true
  fits_again zero n low most fit = refl
  fits_again (suc k) n low most fit =
      let one = fit n low (omega (arith, most)) in
      let few : nat_le (length (c (file_of n))) 1048576 ≡ true = grind (arith, nat_tests, one.few) in
      let none : (is_some (structure_of desc n) || has_none (c (file_of n))) ≡ true = there (structure_of desc n) refl one.none in
      let rest = fits_again k (n + 1) (omega (arith, low)) (omega (arith, most)) fit in
      λ i. ((few i && one.whole i) && none i) && rest i
    where
      there : (o : Option Shape) → structure_of desc n ≡ o → (structure_of desc n ≡ None → has_none (c (file_of n)) ≡ true) → (is_some (structure_of desc n) || has_none (c (file_of n))) ≡ true
      there None is none = (λ i. is_some (is i) || none is i)
      there (Some s) is none = ap (λ x. is_some x || has_none (c (file_of n))) is

-- Files that stand so, and count what the database has, spell it.
pub spell_by : (desc : Described) (db : Db) (own : Tally) (c : Content) → IsServed desc → StandsFiles desc db own c → Counts desc db own → database_in desc c ≡ Some db
unfolding is_spelled
spell_by desc db own c served files owned =
    let is = db_again desc db own c served files.slots files.lists files.entries in
    let all = files_all desc db c desc.structures (λ i s at.
    let there = structure_here desc.structures i s at in
    file_again desc db own c served (is_data_set (Some s)) (is_set_or_automatic s) (is_manual (Some s)) (suc i) s refl refl refl there files.slots files.lists files.entries owned) in
    let fits = fits_again desc db own c served 200 1 (omega arith) (omega arith) files.fit in
    let test : is_spelled desc c ≡ true = ap (λ d. files_spell desc d c desc.structures && files_fit desc c 200 1) is ∙ (λ i. all i && fits i) in
    λ i. some_if (test i) (is i)
