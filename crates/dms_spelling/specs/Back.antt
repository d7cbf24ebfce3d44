-- What the files of a content that spells a database are: the relation, from the test.
use Rattle.std.proofs.Common.{◌≡◌, ◌≢◌, ◌∙◌, ◌+◌, ◌-◌, ◌<◌, ◌≤◌, ℕ, zero, suc, List, [], ◌∷◌, ◌++◌, Bool, true, false, cond, Some, None, refl, sym, ap, subst, length, slice_get, map, filter, arith}
use Rattle.std.specs.Prelude.{T, ◌&&◌, ◌||◌, ◌==◌, is_some, nat_le, nat_lt}
use Rattle.std.specs.List.{AllByRecursion, list_all, list_any}
use Rattle.std.specs.declared.option.Option.{Option}
use Rattle.std.specs.declared.cmp.Ordering.{Ordering}
use Rattle.std.specs.declared.cmp.Ordering.TheVariants.{Less, Equal, Greater}
use Rattle.std.specs.FinMap.{entries, entries_sorted, find, get, get-entries, is_sorted, keys}
use Rattle.std.specs.FinMap.Entries.{below_all}
use Rattle.std.specs.Ordering.{eq_by_cmp, is_lt}
use Rattle.std.proofs.lemmas.Bool.Decides.{nat_tests}
use Rattle.std.proofs.lemmas.Slice.Eq.{bytes_eq-Decides}
use Rattle.std.proofs.lemmas.Bool.{and_parts}
use Rattle.std.proofs.lemmas.Cmp.{eq_by_cmp_equiv}
use Rattle.std.proofs.lemmas.Option.{same_Some}
use Rattle.std.specs.Str.{bytes_eq}
use Rattle.dms_block.specs.Content.{Content}
use Rattle.dms_desc.specs.Kinds.{is_set_or_automatic}
use Rattle.dms_desc.specs.Lookups.{over_of, structure_of}
use Rattle.dms_desc.specs.Shape.{Shape, Described}
use Rattle.dms_desc_bytes.specs.Finding.{owner_in as owner_of}
use Rattle.dms_layout.specs.declared.slot.Slot.{Slot}
use Rattle.dms_layout.specs.declared.slot.SlotRead.{SlotRead}
use Rattle.dms_layout.specs.declared.slot.SlotRead.TheVariants.{Free, Used, Bad}
use Rattle.dms_manual.specs.Entered.{manual_of}
use Rattle.dms_model.specs.Db.{Db, SubsetEntry}
use Rattle.dms_model.specs.MemberLaws.{equal_of}
use Rattle.dms_model.specs.Valid.{AreRising, EntryStands, entry_cmp, is_data_set, is_manual, owner_stands}
use Rattle.dms_lists.specs.Forms.{form_of, kept_in}
use Rattle.dms_sets.specs.Padded.{entry_width}
use Rattle.dms_sets.specs.Sets.{entries_of, kinds_over}
use Rattle.dms_desc.specs.Files.{file_of}
use Rattle.dms_slots.specs.SlotBlocks.{is_block, or_free, slot_at, slots_of}
use Rattle.dms_links.specs.Linking.{number_at, structure_here}
use Rattle.dms_spelling.specs.ServingLaws.{structure_there}
use Rattle.dms_spelling.specs.Serving.{IsServed}
use Rattle.dms_links.specs.Rows.{file_in}
use Rattle.dms_links.specs.Stands.{Counts, FileStands, RecordsStand, SlotStands, tally_of}
use Rattle.dms_tally.specs.Counts.{counted_in, links_stand, owned_in}
use Rattle.dms_model.specs.Uses.{is_in_subset}
use Rattle.dms_spelling.specs.Again.{any_more, entries_same, entries_total, is_one_of, set_get}
use Rattle.dms_spelling.specs.Stands.{EntriesStand, ListsSpell, OneFits, SlotsFit, StandsFiles, get_whole, none_whole}
use Rattle.dms_spelling.specs.Spelled.{EntrySet, as_set, database_in, db_in, entries_all, entry_stands, entry_told, file_spells, files_fit, files_spell, has_none, is_list_of, is_spelled, is_whole, list_at, list_or, lists_eq, manual_spells, slot_stands, slots_stand, some_if}

-- ---- the entries that are read rise

lt_is : (o : Ordering) → T (is_lt o) → o ≡ Less
lt_is Less h = refl
lt_is Equal h = absurd h
lt_is Greater h = absurd h

left_of : (a b : Bool) → T (a && b) → T a
left_of true b t = tt
left_of false b t = absurd t

right_of : (a b : Bool) → T (a && b) → T b
right_of true b t = t
right_of false b t = absurd t

abbrev pairs : Type 0
pairs = List (SubsetEntry × Unit {0})

abbrev firsts : pairs → List SubsetEntry
firsts es = map (λ (e : SubsetEntry × Unit {0}). e.0) es

above_of : (x : SubsetEntry) (es : pairs) → T (below_all entry_cmp x es) → AllByRecursion (λ y. entry_cmp x y ≡ Less) (firsts es)
above_of x [] h = tt
above_of x (e ∷ es) h = (lt_is (entry_cmp x e.0) (left_of _ _ h), above_of x es (right_of _ _ h))

rises_of : (es : pairs) → T (is_sorted entry_cmp es) → AreRising (firsts es)
rises_of [] h = tt
rises_of (e ∷ es) h = (above_of e.0 es (left_of _ _ h), rises_of es (right_of _ _ h))

pub keys_rise : (m : EntrySet) → AreRising (keys m)
keys_rise m = rises_of (entries m) (entries_sorted m)

-- ---- which entries they are

one_found : (x : SubsetEntry) (es : pairs) → is_one_of x (firsts es) ≡ is_some (find entry_cmp x es)
one_found x [] = refl
one_found x (e ∷ es) = by (eq_by_cmp entry_cmp x e.0) (one_found x es)
  where
    by : (b : Bool) → is_one_of x (firsts es) ≡ is_some (find entry_cmp x es) → (b || is_one_of x (firsts es)) ≡ is_some (cond b (Some e.1) (find entry_cmp x es))
    by true rest = refl
    by false rest = rest

some_if_one : (b : Bool) → is_some (cond {A = Option (Unit {0})} b (Some tt) None) ≡ b
some_if_one true = refl
some_if_one false = refl

read_one : (x : SubsetEntry) (es : List SubsetEntry) → is_one_of x (keys (as_set es)) ≡ is_one_of x es
read_one x es = one_found x (entries (as_set es)) ∙ ap is_some (sym (get-entries (as_set es) x) ∙ set_get x es) ∙ some_if_one (is_one_of x es)

tie_is : (x e : SubsetEntry) → eq_by_cmp entry_cmp x e ≡ true → x ≡ e
tie_is x e h = entries_same x e (equal_of (entry_cmp x e) h)

-- what holds of each that is one of them holds of all
all_from : (P : SubsetEntry → Type 0) (es : List SubsetEntry) → ((x : SubsetEntry) → is_one_of x es ≡ true → P x) → AllByRecursion P es
all_from P [] h = tt
all_from P (e ∷ es) h = (h e (ap (λ b. b || is_one_of e es) ((eq_by_cmp_equiv entries_total).refl e)), all_from P es (λ x k. h x (ap (λ b. eq_by_cmp entry_cmp x e || b) k ∙ on (eq_by_cmp entry_cmp x e))))
  where
    on : (b : Bool) → (b || true) ≡ true
    on true = refl
    on false = refl

in_filter : (p q : SubsetEntry → Bool) (x : SubsetEntry) (es : List SubsetEntry) → list_all p (filter q es) ≡ true → is_one_of x es ≡ true → q x ≡ true → p x ≡ true
in_filter p q x [] all one h = absurd (cc)
in_filter p q x (e ∷ es) all one h = by (eq_by_cmp entry_cmp x e) (q e) refl refl all one (λ a o. in_filter p q x es a o h)
  where
    by : (a b : Bool) → eq_by_cmp entry_cmp x e ≡ a → q e ≡ b → list_all p (cond b (e ∷ filter q es) (filter q es)) ≡ true → (a || is_one_of x es) ≡ true → (list_all p (filter q es) ≡ true → is_one_of x es ≡ true → p x ≡ true) → p x ≡ true
    by true true tie is every found rest = ap p (tie_is x e tie) ∙ (and_parts (p e) (list_all p (filter q es)) every).0
    by true false tie is every found rest = absurd (apart (sym (ap q (tie_is x e tie) ∙ is) ∙ h))
      where
        apart : false ≡ true → ⊥
        apart k = absurd (cc)
    by false true tie is every found rest = rest (and_parts (p e) (list_all p (filter q es)) every).1 found
    by false false tie is every found rest = rest every found

-- an entry that is read is one of a manual subset's list
told_subset : (x : SubsetEntry) (a : ℕ) (qs : List (List ℕ)) → is_one_of x (map (entry_told a) qs) ≡ true → x.subset ≡ a
told_subset x a [] h = absurd (cc)
told_subset x a (q ∷ qs) h = by (eq_by_cmp entry_cmp x (entry_told a q)) refl h (λ k. told_subset x a qs k)
  where
    by : (b : Bool) → eq_by_cmp entry_cmp x (entry_told a q) ≡ b → (b || is_one_of x (map (entry_told a) qs)) ≡ true → (is_one_of x (map (entry_told a) qs) ≡ true → x.subset ≡ a) → x.subset ≡ a
    by true is k rest = ap (λ (e : SubsetEntry). e.subset) (tie_is x (entry_told a q) is)
    by false is k rest = rest k

pub record FromSubset (ss : List Shape) (x : SubsetEntry) : Type 0 where
  pub index : ℕ
  pub shape : Shape
  pub at : slice_get ss index ≡ Some shape
  pub manual : (shape.kind == 5) ≡ true
  pub number : x.subset ≡ shape.number

later : (s : Shape) (ss : List Shape) (x : SubsetEntry) → FromSubset ss x → FromSubset (s ∷ ss) x
later s ss x f = record { index = suc f.index; shape = f.shape; at = f.at; manual = f.manual; number = f.number }

from_subset : (desc : Described) (c : Content) (x : SubsetEntry) (ss : List Shape) → is_one_of x (entries_all desc c ss) ≡ true → FromSubset ss x
from_subset desc c x [] h = absurd (cc)
from_subset desc c x (s ∷ ss) h = by (s.kind == 5) refl h (λ k. from_subset desc c x ss k)
  where
    qs : List SubsetEntry
    qs = map (entry_told s.number) (list_or (list_at desc c s))

    part : (b : Bool) → is_one_of x qs ≡ b → (s.kind == 5) ≡ true → (b || is_one_of x (entries_all desc c ss)) ≡ true → (is_one_of x (entries_all desc c ss) ≡ true → FromSubset ss x) → FromSubset (s ∷ ss) x
    part true one manual k rest = record { index = 0; shape = s; at = refl; manual = manual; number = told_subset x s.number (list_or (list_at desc c s)) one }
    part false one manual k rest = later s ss x (rest k)

    by : (b : Bool) → (s.kind == 5) ≡ b → is_one_of x (cond b (qs ++ entries_all desc c ss) (entries_all desc c ss)) ≡ true → (is_one_of x (entries_all desc c ss) ≡ true → FromSubset ss x) → FromSubset (s ∷ ss) x
    by true manual k rest = part (is_one_of x qs) refl manual (sym (any_more (λ e. eq_by_cmp entry_cmp x e) qs (entries_all desc c ss)) ∙ k) rest
    by false manual k rest = later s ss x (rest k)

-- ---- kinds

five : (k : ℕ) → (k == 5) ≡ true → k ≡ 5
five k h = grind (arith, nat_tests, h)

no_data : (u : Shape) → is_manual (Some u) ≡ true → is_data_set (Some u) ≡ false
no_data u h = ap (λ k. nat_lt 0 k && nat_lt k 3) (five u.kind h)

no_auto : (u : Shape) → is_manual (Some u) ≡ true → is_set_or_automatic u ≡ false
no_auto u h = ap (λ k. nat_lt 2 k && nat_lt k 5) (five u.kind h)

most_of : (a b : ℕ) → nat_le a b ≡ true → a ≤ b
most_of a b h = grind (arith, nat_tests, h)

same_of : (a b : ℕ) → a ≡ b → (a == b) ≡ true
same_of a b h = grind (arith, nat_tests, h)

-- ---- the test, file by file

pub record Tested (desc : Described) (c : Content) : Type 0 where
  pub files : files_spell desc (db_in desc c) c desc.structures ≡ true
  pub fit : files_fit desc c 200 1 ≡ true

tested : (desc : Described) (c : Content) → is_spelled desc c ≡ true → Tested desc c
unfolding is_spelled
tested desc c h = let both = and_parts (files_spell desc (db_in desc c) c desc.structures) (files_fit desc c 200 1) h in record { files = both.0; fit = both.1 }

file_spelled : (desc : Described) (db : Db) (c : Content) (ss : List Shape) (i : ℕ) (s : Shape) → files_spell desc db c ss ≡ true → slice_get ss i ≡ Some s → file_spells desc db s (file_in c s) ≡ true
file_spelled desc db c [] i s h at = absurd (cc)
file_spelled desc db c (t ∷ ss) zero s h at = ap (λ u. file_spells desc db u (file_in c u)) (same_Some s t (sym at)) ∙ (and_parts (file_spells desc db t (file_in c t)) (files_spell desc db c ss) h).0
file_spelled desc db c (t ∷ ss) (suc i) s h at = file_spelled desc db c ss i s (and_parts (file_spells desc db t (file_in c t)) (files_spell desc db c ss) h).1 at

lists_same : (xs ys : List (List ℕ)) → lists_eq xs ys ≡ true → xs ≡ ys
lists_same [] [] h = refl
lists_same [] (y ∷ ys) h = absurd (cc)
lists_same (x ∷ xs) [] h = absurd (cc)
lists_same (x ∷ xs) (y ∷ ys) h =
    let both = and_parts (bytes_eq x y) (lists_eq xs ys) h in
    λ i. (bytes_eq-Decides x y).0 both.0 i ∷ lists_same xs ys both.1 i

list_same : (o : Option (List (List ℕ))) (ys : List (List ℕ)) → is_list_of o ys ≡ true → o ≡ Some ys
list_same None ys h = absurd (cc)
list_same (Some xs) ys h = ap (λ (zs : List (List ℕ)). Some zs) (lists_same xs ys h)

module _ (desc : Described) (c : Content) (served : IsServed desc) (test : Tested desc c) where
  abbrev the_db : Db
  the_db = db_in desc c

  file_at : (n : ℕ) (s : Shape) → structure_of desc n ≡ Some s → file_spells desc the_db s (file_in c s) ≡ true
  file_at n s at = file_spelled desc the_db c desc.structures (n - 1) s test.files (structure_there desc.structures n s at)

  abbrev tests : Shape → Bool
  tests s = list_all (is_block s) (file_in c s) && slots_stand desc the_db s 1 (slots_of s (file_in c s))

  abbrev list_test : Shape → Bool
  list_test s = is_list_of (kept_in (form_of s) (entry_width (kinds_over desc s) s.parts) (file_in c s)) (entries_of desc the_db s)

  abbrev last_test : Shape → Bool
  last_test s = cond (is_manual (Some s)) (manual_spells desc the_db s (file_in c s)) (has_none (file_in c s))

  slots_at : (n : ℕ) (s : Shape) → structure_of desc n ≡ Some s → is_data_set (Some s) ≡ true → (list_all (is_block s) (file_in c s) ≡ true) × (slots_stand desc the_db s 1 (slots_of s (file_in c s)) ≡ true)
  slots_at n s at is_set = and_parts (list_all (is_block s) (file_in c s)) (slots_stand desc the_db s 1 (slots_of s (file_in c s))) (sym (ap (λ b. cond b (tests s) (cond (is_set_or_automatic s) (list_test s) (last_test s))) is_set) ∙ file_at n s at)

  kept_at : (n : ℕ) (s : Shape) → structure_of desc n ≡ Some s → is_data_set (Some s) ≡ false → is_set_or_automatic s ≡ true → kept_in (form_of s) (entry_width (kinds_over desc s) s.parts) (file_in c s) ≡ Some (entries_of desc the_db s)
  kept_at n s at no_set kept =
      list_same (kept_in (form_of s) (entry_width (kinds_over desc s) s.parts) (file_in c s)) (entries_of desc the_db s)
      (sym (ap (λ b. cond b (tests s) (cond (is_set_or_automatic s) (list_test s) (last_test s))) no_set ∙ ap (λ b. cond b (list_test s) (last_test s)) kept) ∙ file_at n s at)

  manual_at : (n : ℕ) (s : Shape) → structure_of desc n ≡ Some s → is_manual (Some s) ≡ true → manual_spells desc the_db s (file_in c s) ≡ true
  manual_at n s at manual =
      sym (ap (λ b. cond b (tests s) (cond (is_set_or_automatic s) (list_test s) (last_test s))) (no_data s manual) ∙ ap (λ b. cond b (list_test s) (last_test s)) (no_auto s manual) ∙ ap (λ b. cond b (manual_spells desc the_db s (file_in c s)) (has_none (file_in c s))) manual) ∙ file_at n s at

  manual_parts : (n : ℕ) (s : Shape) → structure_of desc n ≡ Some s → is_manual (Some s) ≡ true
      → (is_list_of (list_at desc c s) (manual_of desc the_db s) ≡ true) × ((list_all (entry_stands desc the_db) (filter (is_in_subset s.number) the_db.entries) ≡ true) × (nat_le (length (filter (is_in_subset s.number) the_db.entries)) s.population ≡ true))
  manual_parts n s at manual =
      let all = list_all (entry_stands desc the_db) (filter (is_in_subset s.number) the_db.entries) in
      let few = nat_le (length (filter (is_in_subset s.number) the_db.entries)) s.population in
      let two = and_parts (is_list_of (list_at desc c s) (manual_of desc the_db s)) (all && few) (manual_at n s at manual) in
      (two.0, and_parts all few two.1)

  entry_read : (x : SubsetEntry) → is_one_of x the_db.entries ≡ true → is_one_of x (entries_all desc c desc.structures) ≡ true
  unfolding db_in
  entry_read x h = sym (read_one x (entries_all desc c desc.structures)) ∙ h

  the_rising : AreRising the_db.entries
  unfolding db_in
  the_rising = keys_rise (as_set (entries_all desc c desc.structures))

  -- the entries stand
  entries_stand : EntriesStand desc the_db
  entries_stand = record {
    each = all_from (EntryStands desc the_db) the_db.entries (λ x one. stands_one x one (from_subset desc c x desc.structures (entry_read x one)));
    rising = the_rising;
    few = λ n s at manual. most_of _ _ (manual_parts n s at manual).1.1;
  }
    where
      stands_one : (x : SubsetEntry) → is_one_of x the_db.entries ≡ true → FromSubset desc.structures x → EntryStands desc the_db x
      stands_one x one f =
          let at : structure_of desc (suc f.index) ≡ Some f.shape = structure_here desc.structures f.index f.shape f.at in
          let here : is_in_subset f.shape.number x ≡ true = same_of _ _ f.number in
          let stands = in_filter (entry_stands desc the_db) (is_in_subset f.shape.number) x the_db.entries (manual_parts (suc f.index) f.shape at f.manual).1.0 one here in
          let both = and_parts (is_some (get the_db.records (over_of (structure_of desc x.subset), x.number))) (owner_stands the_db.records (owner_of (structure_of desc x.subset)) x.owner) stands in
          record { manual = ap is_manual (shape_of_entry x f) ∙ f.manual; member = both.0; owner = both.1 }
        where
          shape_of_entry : (y : SubsetEntry) (g : FromSubset desc.structures y) → structure_of desc y.subset ≡ Some g.shape
          shape_of_entry y g = ap (structure_of desc) (g.number ∙ number_at desc served.numbered (suc g.index) g.shape (structure_here desc.structures g.index g.shape g.at)) ∙ structure_here desc.structures g.index g.shape g.at

  lists_spell : ListsSpell desc the_db c
  lists_spell = record {
    kept = kept_at;
    manual = λ n s at manual. list_same (list_at desc c s) (manual_of desc the_db s) (manual_parts n s at manual).0;
  }

-- ---- slots

module _ (desc : Described) (db : Db) (s : Shape) where
  one_stands : (n : ℕ) (slot : Slot) → slot_stands desc db s n (Used slot) ≡ true → SlotStands desc db (tally_of desc db) s n slot
  one_stands n slot h =
      let stands = owner_stands db.records s.owner slot.rec.owner && links_stand db.records s.items slot.rec.values in
      let two = and_parts (nat_le n s.population && stands) ((slot.counted == counted_in desc db s.number n) && (slot.owned == owned_in desc db s.number n)) h in
      let place = and_parts (nat_le n s.population) stands two.0 in
      let refers = and_parts (owner_stands db.records s.owner slot.rec.owner) (links_stand db.records s.items slot.rec.values) place.1 in
      let counts = and_parts (slot.counted == counted_in desc db s.number n) (slot.owned == owned_in desc db s.number n) two.1 in
      record { most = grind (arith, nat_tests, place.0); owner = refers.0; links = refers.1; counted = grind (arith, nat_tests, counts.0); owned = grind (arith, nat_tests, counts.1) }

  at_stands : (n i : ℕ) (rs : List SlotRead) → slots_stand desc db s n rs ≡ true → slot_stands desc db s (n + i) (or_free (slice_get rs i)) ≡ true
  at_stands n i [] h = refl
  at_stands n zero (r ∷ rs) h = ap (λ k. slot_stands desc db s k r) (let e : n + 0 ≡ n = omega arith in e) ∙ (and_parts (slot_stands desc db s n r) (slots_stand desc db s (n + 1) rs) h).0
  at_stands n (suc i) (r ∷ rs) h =
      ap (λ k. slot_stands desc db s k (or_free (slice_get rs i))) (let e : n + suc i ≡ (n + 1) + i = omega arith in e)
      ∙ at_stands (n + 1) i rs (and_parts (slot_stands desc db s n r) (slots_stand desc db s (n + 1) rs) h).1

one_fits : (desc : Described) (c : Content) (n : ℕ) → ((nat_le (length (c (file_of n))) 1048576 && list_all is_whole (c (file_of n))) && (is_some (structure_of desc n) || has_none (c (file_of n)))) ≡ true → OneFits desc c n
one_fits desc c n h =
    let bs = c (file_of n) in
    let two = and_parts (nat_le (length bs) 1048576 && list_all is_whole bs) (is_some (structure_of desc n) || has_none bs) h in
    let three = and_parts (nat_le (length bs) 1048576) (list_all is_whole bs) two.0 in
    record { few = grind (arith, nat_tests, three.0); whole = three.1; none = λ gone. sym (ap (λ o. is_some o || has_none bs) gone) ∙ two.1 }

fits_in : (desc : Described) (c : Content) (k n i : ℕ) → files_fit desc c k n ≡ true → i < k → OneFits desc c (n + i)
fits_in desc c zero n i h low = absurd (omega (arith, low))
fits_in desc c (suc k) n zero h low =
    let both = and_parts ((nat_le (length (c (file_of n))) 1048576 && list_all is_whole (c (file_of n))) && (is_some (structure_of desc n) || has_none (c (file_of n)))) (files_fit desc c k (n + 1)) h in
    subst (OneFits desc c) (let e : n ≡ n + 0 = omega arith in e) (one_fits desc c n both.0)
fits_in desc c (suc k) n (suc i) h low =
    let both = and_parts ((nat_le (length (c (file_of n))) 1048576 && list_all is_whole (c (file_of n))) && (is_some (structure_of desc n) || has_none (c (file_of n)))) (files_fit desc c k (n + 1)) h in
    subst (OneFits desc c) (let e : (n + 1) + i ≡ n + suc i = omega arith in e) (fits_in desc c k (n + 1) i both.1 (omega (arith, low)))

-- Blocks that spell a database are whole, and not too many.
pub spelled_fit : (desc : Described) (c : Content) → is_spelled desc c ≡ true → SlotsFit desc c
spelled_fit desc c h n low most = subst (OneFits desc c) (let e : 1 + (n - 1) ≡ n = omega (arith, low) in e) (fits_in desc c 200 1 (n - 1) (tested desc c h).fit (omega (arith, low, most)))

module _ (desc : Described) (c : Content) (served : IsServed desc) (test : Tested desc c) (spelt : is_spelled desc c ≡ true) where
  file_stands : (n : ℕ) (s : Shape) → structure_of desc n ≡ Some s → is_data_set (Some s) ≡ true → FileStands desc (db_in desc c) (tally_of desc (db_in desc c)) s (file_in c s)
  file_stands n s at is_set =
      let both = slots_at desc c served test n s at is_set in
      record {
        blocks = both.0;
        slots = λ m slot low is.
            let e : 1 + (m - 1) ≡ m = omega (arith, low) in
            let here = at_stands desc (db_in desc c) s 1 (m - 1) (slots_of s (file_in c s)) both.1 in
            one_stands desc (db_in desc c) s m slot (sym (λ j. slot_stands desc (db_in desc c) s (e j) (is j)) ∙ here);
      }

  records_stand : RecordsStand desc (db_in desc c) (tally_of desc (db_in desc c)) c
  records_stand = record {
    each = file_stands;
    records = λ set n low. get_whole desc c served set n low;
    none = λ set. none_whole desc c set;
  }

  files_stand : StandsFiles desc (db_in desc c) (tally_of desc (db_in desc c)) c
  files_stand = record { slots = records_stand; lists = lists_spell desc c served test; fit = spelled_fit desc c spelt; entries = entries_stand desc c served test }

-- The slots of a data set stand.
pub slots_spelled : (desc : Described) (c : Content) → IsServed desc → is_spelled desc c ≡ true → (n : ℕ) (s : Shape) → structure_of desc n ≡ Some s → is_data_set (Some s) ≡ true → slots_stand desc (db_in desc c) s 1 (slots_of s (file_in c s)) ≡ true
slots_spelled desc c served spelt n s at is_set = (slots_at desc c served (tested desc c spelt) n s at is_set).1

pub spells_it : (b : Bool) (d db : Db) → some_if b d ≡ Some db → (b ≡ true) × (d ≡ db)
spells_it true d db h = (refl, same_Some d db h)
spells_it false d db h = absurd (cc)

-- The files of a content that spells a database stand so, and count what it has.
pub spelled_files : (desc : Described) (c : Content) (db : Db) → IsServed desc → database_in desc c ≡ Some db → StandsFiles desc db (tally_of desc db) c
spelled_files desc c db served h =
    let s = spells_it (is_spelled desc c) (db_in desc c) db h in
    subst (λ (d : Db). StandsFiles desc d (tally_of desc d) c) s.1 (files_stand desc c served (tested desc c s.0) s.0)

pub its_counts : (desc : Described) (db : Db) → Counts desc db (tally_of desc db)
its_counts desc db = record { counted = λ set n low. refl; owned = λ set n low. refl }
