-- The records that have a self-correcting link to a record: by the slots of the data sets that have such an item, and by the database.
use Rattle.std.proofs.Common.{◌≡◌, ◌∙◌, ◌+◌, ◌-◌, ◌*◌, ◌<◌, ◌≤◌, ℕ, zero, suc, min, List, [], ◌∷◌, ◌++◌, Bool, true, false, cond, Some, None, refl, sym, ap, map, filter, take, drop, length, length-append, append_assoc, slice_get, arith}
use Rattle.std.specs.Prelude.{◌&&◌, ◌||◌, ◌==◌}
use Rattle.std.specs.List.{list_any}
use Rattle.std.specs.declared.option.Option.{Option}
use Rattle.std.specs.FinMap.{entries, get}
use Rattle.std.proofs.lemmas.Bool.Decides.{nat_tests}
use Rattle.std.proofs.lemmas.Option.{same_Some}
use Rattle.std.proofs.Math.Nat as nat
use Rattle.dms_base.specs.declared.value.Value.{Value}
use Rattle.dms_block.specs.Content.{Content}
use Rattle.dms_desc.specs.Conds.{or_null}
use Rattle.dms_desc.specs.Lookups.{items_of, structure_of}
use Rattle.dms_desc.specs.Shape.{Shape, Described}
use Rattle.dms_desc.specs.declared.record.Record.{Record}
use Rattle.dms_desc.specs.declared.structure.Item.{Item}
use Rattle.dms_layout.specs.declared.slot.Slot.{Slot}
use Rattle.dms_layout.specs.declared.slot.SlotRead.{SlotRead}
use Rattle.dms_layout.specs.declared.slot.SlotRead.TheVariants.{Free, Used, Bad}
use Rattle.dms_model.specs.Db.{Db, Place, place_cmp}
use Rattle.dms_model.specs.Uses.{is_link_into, linkers, links_to, place_in_entry, refers_to, some_link}
use Rattle.dms_model.specs.Valid.{is_data_set}
use Rattle.dms_slots.specs.SlotBlockLaws.{slots_length}
use Rattle.dms_slots.specs.SlotBlocks.{or_free, per_block, slot_at, slots_in, slots_of}
use Rattle.dms_links.specs.Rows.{AreNumbered, entries_are, file_in, row_of, rows_from, rows_in}
use Rattle.dms_links.specs.Stands.{RecordsStand, Tally}

-- ---- definitions

-- the record of a slot has a self-correcting link to the record with this number of a data set
abbrev pub slot_links : List Item → ℕ → ℕ → SlotRead → Bool
slot_links items to number Free = false
slot_links items to number (Used slot) = some_link false to number 0 items slot.rec.values
slot_links items to number Bad = false

-- the place of such a slot, and none of another
abbrev pub linking_at : ℕ → List Item → ℕ → ℕ → ℕ → SlotRead → List Place
linking_at set items to number n r = cond (slot_links items to number r) ((set, n) ∷ []) []

-- the places of those slots that do, the first of which has number n
abbrev pub linking_from : ℕ → List Item → ℕ → ℕ → ℕ → List SlotRead → List Place
linking_from set items to number n [] = []
linking_from set items to number n (r ∷ rs) = cond (slot_links items to number r) ((set, n) ∷ linking_from set items to number (n + 1) rs) (linking_from set items to number (n + 1) rs)

-- a data set that has an item for self-correcting links into this one
abbrev pub has_link_into : ℕ → List Item → Bool
has_link_into to items = list_any (λ (i : Item). is_link_into false to i.kind) items

abbrev pub is_walked : ℕ → Shape → Bool
is_walked to s = is_data_set (Some s) && has_link_into to s.items

-- its slots, up to POPULATION
abbrev pub walked_slots : Shape → Content → List SlotRead
walked_slots s c = take s.population (slots_of s (file_in c s))

-- the place of one slot, where it does, and those of all
abbrev pub linking_slot : ℕ → ℕ → Content → Shape → ℕ → List Place
linking_slot to number c s at = linking_at s.number s.items to number at (slot_at s (file_in c s) at)

abbrev pub linking_slots : ℕ → ℕ → Content → Shape → List Place
linking_slots to number c s = linking_from s.number s.items to number 1 (walked_slots s c)

-- the places of its slots, where it is walked
abbrev pub linking_of : ℕ → ℕ → Content → Shape → List Place
linking_of to number c s = cond (is_walked to s) (linking_slots to number c s) []

-- and of those of all structures
abbrev pub linking_in : ℕ → ℕ → Content → List Shape → List Place
linking_in to number c [] = []
linking_in to number c (s ∷ ss) = linking_of to number c s ++ linking_in to number c ss

-- they tell the linkers of a database
abbrev pub TellLinkers : Described → Db → Content → ℕ → ℕ → Type 0
TellLinkers desc db c set number = linkers desc db set number ≡ linking_in set number c desc.structures

-- how many slots it has at most
abbrev pub walked_of : ℕ → Shape → ℕ
walked_of to s = cond (is_walked to s) s.population 0

abbrev pub walked_most : ℕ → List Shape → ℕ
walked_most to [] = 0
walked_most to (s ∷ ss) = walked_of to s + walked_most to ss

-- ---- one slot after another

-- the first slot, and those behind it
pub linking_next : (set : ℕ) (items : List Item) (to number n : ℕ) (r : SlotRead) (rs : List SlotRead) → linking_at set items to number n r ++ linking_from set items to number (n + 1) rs ≡ linking_from set items to number n (r ∷ rs)
linking_next set items to number n r rs = by (slot_links items to number r)
  where
    by : (b : Bool) → cond b ((set, n) ∷ []) [] ++ linking_from set items to number (n + 1) rs ≡ cond b ((set, n) ∷ linking_from set items to number (n + 1) rs) (linking_from set items to number (n + 1) rs)
    by true = refl
    by false = refl

pub slots_long : (s : Shape) (bs : List (List ℕ)) → length (slots_of s bs) ≡ length bs * per_block s.items
slots_long s [] = omega arith
slots_long s (b ∷ bs) =
    length-append (slots_in s b) (slots_of s bs) ∙ (λ i. slots_length s b i + slots_long s bs i) ∙ omega (arith, nat.suc-mul (length bs) (per_block s.items))

take_more : (i p : ℕ) (rs : List SlotRead) → i < p → i < length rs → drop i (take p rs) ≡ or_free (slice_get rs i) ∷ drop (i + 1) (take p rs)
take_more i zero rs low there = absurd (omega (arith, low))
take_more i (suc p) [] low there = absurd (omega (arith, there))
take_more zero (suc p) (r ∷ rs) low there = refl
take_more (suc i) (suc p) (r ∷ rs) low there =
    let e : suc (i + 1) ≡ suc i + 1 = omega arith in
    take_more i p rs (omega (arith, low)) (omega (arith, there)) ∙ ap (λ n. or_free (slice_get rs i) ∷ drop n (take (suc p) (r ∷ rs))) e

take_past : (i p : ℕ) (rs : List SlotRead) → min (length rs) p ≤ i → drop i (take p rs) ≡ []
take_past zero zero rs past = refl
take_past zero (suc p) [] past = refl
take_past zero (suc p) (r ∷ rs) past = absurd (omega (arith, past))
take_past (suc i) zero rs past = refl
take_past (suc i) (suc p) [] past = refl
take_past (suc i) (suc p) (r ∷ rs) past = take_past i p rs (omega (arith, past))

module _ (s : Shape) (c : Content) where
  -- the next slot
  pub next_slot : (i : ℕ) → i < min (length (file_in c s) * per_block s.items) s.population → drop i (walked_slots s c) ≡ slot_at s (file_in c s) (i + 1) ∷ drop (i + 1) (walked_slots s c)
  next_slot i low =
      let e : i ≡ (i + 1) - 1 = omega arith in
      take_more i s.population (slots_of s (file_in c s)) (omega (arith, low)) (omega (arith, low, slots_long s (file_in c s)))
      ∙ ap (λ n. or_free (slice_get (slots_of s (file_in c s)) n) ∷ drop (i + 1) (walked_slots s c)) e

  -- none is left
  pub no_slot : (i : ℕ) → min (length (file_in c s) * per_block s.items) s.population ≤ i → drop i (walked_slots s c) ≡ []
  no_slot i past = take_past i s.population (slots_of s (file_in c s)) (omega (arith, past, slots_long s (file_in c s)))

-- ---- the slots of a database

filter_append : {A : Type 0} (p : A → Bool) (xs ys : List A) → filter p (xs ++ ys) ≡ filter p xs ++ filter p ys
filter_append p [] ys = refl
filter_append {A = A} p (x ∷ xs) ys = by (p x) (filter_append p xs ys)
  where
    by : (b : Bool) → filter p (xs ++ ys) ≡ filter p xs ++ filter p ys → cond b (x ∷ filter p (xs ++ ys)) (filter p (xs ++ ys)) ≡ cond b (x ∷ filter p xs) (filter p xs) ++ filter p ys
    by true rest = ap (λ (zs : List A). x ∷ zs) rest
    by false rest = rest

places_append : (xs ys : List (Place × Record)) → map place_in_entry (xs ++ ys) ≡ map place_in_entry xs ++ map place_in_entry ys
places_append [] ys = refl
places_append (x ∷ xs) ys = ap (λ (zs : List Place). place_in_entry x ∷ zs) (places_append xs ys)

module _ (desc : Described) (to number : ℕ) where
  abbrev linking : Place × Record → Bool
  linking = links_to false desc to number

  -- of one file
  rows_linking : (s : Shape) → items_of (structure_of desc s.number) ≡ s.items → (n : ℕ) (rs : List SlotRead) → map place_in_entry (filter linking (rows_from s.number n rs)) ≡ linking_from s.number s.items to number n rs
  rows_linking s items n [] = refl
  rows_linking s items n (Free ∷ rs) = rows_linking s items (n + 1) rs
  rows_linking s items n (Used slot ∷ rs) =
      ap (λ is. map place_in_entry (cond (some_link false to number 0 is slot.rec.values) (((s.number, n), slot.rec) ∷ filter linking (rows_from s.number (n + 1) rs)) (filter linking (rows_from s.number (n + 1) rs)))) items
      ∙ by (some_link false to number 0 s.items slot.rec.values) (rows_linking s items (n + 1) rs)
    where
      by : (b : Bool) → map place_in_entry (filter linking (rows_from s.number (n + 1) rs)) ≡ linking_from s.number s.items to number (n + 1) rs
          → map place_in_entry (cond b (((s.number, n), slot.rec) ∷ filter linking (rows_from s.number (n + 1) rs)) (filter linking (rows_from s.number (n + 1) rs)))
          ≡ cond b ((s.number, n) ∷ linking_from s.number s.items to number (n + 1) rs) (linking_from s.number s.items to number (n + 1) rs)
      by true rest = ap (λ (zs : List Place). (s.number, n) ∷ zs) rest
      by false rest = rest
  rows_linking s items n (Bad ∷ rs) = rows_linking s items (n + 1) rs

  -- no item is such a link
  none_links : (k : ℕ) (items : List Item) (vs : List Value) → has_link_into to items ≡ false → some_link false to number k items vs ≡ false
  none_links k [] vs none = refl
  none_links k (i ∷ is) vs none = by (is_link_into false to i.kind) none (none_links (k + 1) is vs)
    where
      by : (b : Bool) → (b || has_link_into to is) ≡ false → (has_link_into to is ≡ false → some_link false to number (k + 1) is vs ≡ false) → ((b && refers_to number (or_null (slice_get vs k))) || some_link false to number (k + 1) is vs) ≡ false
      by true h rest = absurd (cc h)
      by false h rest = rest h

  none_from : (set n : ℕ) (items : List Item) (rs : List SlotRead) → has_link_into to items ≡ false → linking_from set items to number n rs ≡ []
  none_from set n items [] none = refl
  none_from set n items (Free ∷ rs) none = none_from set (n + 1) items rs none
  none_from set n items (Used slot ∷ rs) none =
      ap (λ b. cond b ((set, n) ∷ linking_from set items to number (n + 1) rs) (linking_from set items to number (n + 1) rs)) (none_links 0 items slot.rec.values none) ∙ none_from set (n + 1) items rs none
  none_from set n items (Bad ∷ rs) none = none_from set (n + 1) items rs none

-- slots behind POPULATION hold no record
no_links : (set : ℕ) (items : List Item) (to number n : ℕ) (rs : List SlotRead) → ((i : ℕ) (x : Slot) → or_free (slice_get rs i) ≡ Used x → ⊥) → linking_from set items to number n rs ≡ []
no_links set items to number n [] none = refl
no_links set items to number n (Free ∷ rs) none = no_links set items to number (n + 1) rs (λ i x h. none (suc i) x h)
no_links set items to number n (Used slot ∷ rs) none = absurd (none 0 slot refl)
no_links set items to number n (Bad ∷ rs) none = no_links set items to number (n + 1) rs (λ i x h. none (suc i) x h)

links_taken : (set : ℕ) (items : List Item) (to number n p : ℕ) (rs : List SlotRead) → ((i : ℕ) (x : Slot) → or_free (slice_get rs i) ≡ Used x → i < p) → linking_from set items to number n (take p rs) ≡ linking_from set items to number n rs
links_taken set items to number n zero rs low = sym (no_links set items to number n rs (λ i x h. absurd (omega (arith, low i x h))))
links_taken set items to number n (suc p) [] low = refl
links_taken set items to number n (suc p) (r ∷ rs) low =
    ap (λ (zs : List Place). cond (slot_links items to number r) ((set, n) ∷ zs) zs) (links_taken set items to number (n + 1) p rs (λ i x h. omega (arith, low (suc i) x h)))

-- a structure of the description
pub structure_here : (ss : List Shape) (i : ℕ) (s : Shape) → slice_get ss i ≡ Some s → cond (suc i == 0) None (slice_get ss (suc i - 1)) ≡ Some s
structure_here ss i s at =
    let t : (suc i == 0) ≡ false = grind (arith, nat_tests) in
    let e : suc i - 1 ≡ i = omega arith in
    ap (λ b. cond b None (slice_get ss (suc i - 1))) t ∙ ap (slice_get ss) e ∙ at

numbered_at : (k : ℕ) (ss : List Shape) (i : ℕ) (s : Shape) → AreNumbered k ss → slice_get ss i ≡ Some s → s.number ≡ k + i
numbered_at k [] i s numbered at = absurd (cc at)
numbered_at k (t ∷ ss) zero s numbered at = (let same : s ≡ t = of_same at in ap (λ (x : Shape). x.number) same ∙ numbered.0) ∙ omega arith
  where
    of_same : ◌≡◌ {A = Option Shape} (Some t) (Some s) → s ≡ t
    of_same h = cc
numbered_at k (t ∷ ss) (suc i) s numbered at = numbered_at (k + 1) ss i s numbered.1 at ∙ omega arith

-- a structure stands under its number
pub number_here : (desc : Described) → AreNumbered 1 desc.structures → (i : ℕ) (s : Shape) → slice_get desc.structures i ≡ Some s → structure_of desc s.number ≡ Some s
number_here desc numbered i s at =
    let e : s.number ≡ suc i = numbered_at 1 desc.structures i s numbered at ∙ omega arith in
    ap (structure_of desc) e ∙ structure_here desc.structures i s at

pub number_at : (desc : Described) → AreNumbered 1 desc.structures → (n : ℕ) (s : Shape) → structure_of desc n ≡ Some s → s.number ≡ n
number_at desc numbered zero s at = absurd (cc at)
number_at desc numbered (suc n) s at = by (suc n == 0) refl at
  where
    by : (b : Bool) → (suc n == 0) ≡ b → cond b None (slice_get desc.structures (suc n - 1)) ≡ Some s → s.number ≡ suc n
    by true h k = absurd (cc k)
    by false h k = numbered_at 1 desc.structures (suc n - 1) s numbered k ∙ omega arith

module _ (desc : Described) (numbered : AreNumbered 1 desc.structures) (db : Db) (own : Tally) (c : Content) (files : RecordsStand desc db own c) (to number : ℕ) where
  file_linking : (s : Shape) → structure_of desc s.number ≡ Some s → is_data_set (Some s) ≡ true
      → linking_from s.number s.items to number 1 (walked_slots s c) ≡ linking_from s.number s.items to number 1 (slots_of s (file_in c s))
  file_linking s at is_set =
      links_taken s.number s.items to number 1 s.population (slots_of s (file_in c s)) (λ i x h.
      let e : i ≡ (i + 1) - 1 = omega arith in
      let here = (files.each s.number s at is_set).slots (i + 1) x (omega arith) (ap (λ n. or_free (slice_get (slots_of s (file_in c s)) n)) (sym e) ∙ h) in
      omega (arith, here.most))

  all_linking : (ss : List Shape) → ((i : ℕ) (s : Shape) → slice_get ss i ≡ Some s → structure_of desc s.number ≡ Some s) → map place_in_entry (filter (links_to false desc to number) (rows_in c ss)) ≡ linking_in to number c ss
  all_linking [] there = refl
  all_linking (s ∷ ss) there = by (is_data_set (Some s)) refl (all_linking ss (λ i t at. there (suc i) t at))
    where
      mine : List Place
      mine = linking_from s.number s.items to number 1 (walked_slots s c)

      walked : (b : Bool) → has_link_into to s.items ≡ b → mine ++ linking_in to number c ss ≡ cond b mine [] ++ linking_in to number c ss
      walked true h = refl
      walked false h = ap (λ (zs : List Place). zs ++ linking_in to number c ss) (none_from desc to number s.number 1 s.items (walked_slots s c) h)

      by : (b : Bool) → is_data_set (Some s) ≡ b → map place_in_entry (filter (links_to false desc to number) (rows_in c ss)) ≡ linking_in to number c ss
          → map place_in_entry (filter (links_to false desc to number) (cond b (rows_from s.number 1 (slots_of s (file_in c s)) ++ rows_in c ss) (rows_in c ss)))
          ≡ cond (b && has_link_into to s.items) mine [] ++ linking_in to number c ss
      by true is rest =
          let at = there 0 s refl in
          ap (map place_in_entry) (filter_append (links_to false desc to number) (rows_from s.number 1 (slots_of s (file_in c s))) (rows_in c ss))
          ∙ places_append (filter (links_to false desc to number) (rows_from s.number 1 (slots_of s (file_in c s)))) (filter (links_to false desc to number) (rows_in c ss))
          ∙ (λ i. (rows_linking desc to number s (ap items_of at) 1 (slots_of s (file_in c s)) ∙ sym (file_linking s at is)) i ++ rest i)
          ∙ walked (has_link_into to s.items) refl
      by false is rest = rest

  -- The slots of the data sets that have such an item tell who links to a record.
  pub linkers_are : linkers desc db to number ≡ linking_in to number c desc.structures
  unfolding linkers
  linkers_are =
      ap (λ (es : List (Place × Record)). map place_in_entry (filter (links_to false desc to number) es)) (entries_are desc c db.records numbered files.records files.none)
      ∙ all_linking desc.structures (λ i s at. number_here desc numbered i s at)
