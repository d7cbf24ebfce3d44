-- What a slot counts after one link is set, a record is gone, or an entry of a manual subset comes or goes.
use Rattle.std.proofs.Common.{◌≡◌, ◌∙◌, ◌+◌, ◌-◌, ◌<◌, ℕ, zero, suc, List, [], ◌∷◌, Bool, true, false, cond, Some, None, refl, sym, ap, slice_get, slice_set, length, filter, arith}
use Rattle.std.specs.Prelude.{◌&&◌, ◌==◌, ◌||◌, not, count_by, sum_by}
use Rattle.std.specs.List.{list_any}
use Rattle.std.specs.declared.option.Option.{Option}
use Rattle.std.specs.FinMap.{entries, get, insert, remove}
use Rattle.std.proofs.lemmas.List.Sums.{sum_by-cons}
use Rattle.dms_base.specs.declared.kind.ItemKind.{ItemKind}
use Rattle.dms_base.specs.declared.kind.ItemKind.TheVariants.{Alpha, Number as Decimal, Bool as OneBit, Field, Link}
use Rattle.dms_base.specs.declared.value.Value.{Value}
use Rattle.dms_base.specs.declared.value.Value.TheVariants.{Null}
use Rattle.dms_desc.specs.Conds.{or_null}
use Rattle.dms_desc.specs.Lookups.{items_of, structure_of}
use Rattle.dms_desc.specs.Shape.{Described}
use Rattle.dms_desc.specs.Sorted.{place_in}
use Rattle.dms_desc.specs.declared.record.Record.{Record}
use Rattle.dms_desc.specs.declared.structure.Item.{Item}
use Rattle.dms_desc_bytes.specs.Finding.{owner_in as owner_of}
use Rattle.dms_model.specs.Db.{Db, Place, SubsetEntry}
use Rattle.dms_tally.specs.Sums.{insert_sum, of_opt, remove_sum}
use Rattle.dms_tally.specs.Counts.{counted_in, entries_at, is_counted_to, links_of, links_to, owned_in, owners_of}
use Rattle.dms_model.specs.Members.{names}
use Rattle.dms_model.specs.Valid.{AreRising, entry_cmp}
use Rattle.std.specs.List.{AllByRecursion}
use Rattle.std.specs.declared.cmp.Ordering.TheVariants.{Less}
use Rattle.std.proofs.lemmas.Bool.Decides.{nat_tests}
use Rattle.dms_model.specs.Uses.{after_enter, after_leave, after_link, corrected, corrected_value, entry_before, entry_of, has_entry, is_link_into, is_not_entry, link_value, linked_record, refers_to}
use Rattle.dms_model.specs.declared.put.Put.TheVariants.{Stored}

-- ---- definitions

-- 1 where a value of an item of this kind is a counted link to that record
abbrev pub link_one : ℕ → ℕ → Option Item → Value → ℕ
link_one set n None v = 0
link_one set n (Some i) v = cond (is_counted_to set n i.kind v) 1 0

-- the same of an item of a data set, which counts from 1
abbrev pub link_in : Described → ℕ → ℕ → ℕ → ℕ → Value → ℕ
link_in desc set item t m v = link_one t m (slice_get (items_of (structure_of desc set)) (item - 1)) v

-- a record that has a value for each item of its data set, and for this one
pub record HasValue (desc : Described) (db : Db) (set number item : ℕ) (r : Record) : Type 0 where
  pub found : get db.records (set, number) ≡ Some r
  pub low : item - 1 < length r.values
  pub long : length r.values ≡ length (items_of (structure_of desc set))

-- its value for the item
abbrev pub value_in : Record → ℕ → Value
value_in r item = or_null (slice_get r.values (item - 1))

-- After a link of a record was set, a record is counted one time less where the old value referred to it, and one time more where the new one does.
abbrev pub CountsNewLink : Described → Db → ℕ → ℕ → ℕ → Option ℕ → Record → ℕ → ℕ → Type 0
CountsNewLink desc db set number item to r t m = counted_in desc (after_link db set number item to) t m + link_in desc set item t m (value_in r item) ≡ counted_in desc db t m + link_in desc set item t m (link_value to)

-- ---- one link changed

-- the counted links of a record whose i-th value was set
pub links_set : (t m : ℕ) (items : List Item) (vs : List Value) (i : ℕ) (v : Value) → i < length vs → length vs ≡ length items
    → links_to t m items (slice_set vs i v) + link_one t m (slice_get items i) (or_null (slice_get vs i)) ≡ links_to t m items vs + link_one t m (slice_get items i) v
links_set t m [] [] i v low long = absurd (omega (arith, low))
links_set t m [] (x ∷ vs) i v low long = absurd (omega (arith, long))
links_set t m (k ∷ is) [] i v low long = absurd (omega (arith, long))
links_set t m (k ∷ is) (x ∷ vs) zero v low long = omega arith
links_set t m (k ∷ is) (x ∷ vs) (suc i) v low long =
    let rest = links_set t m is vs i v (omega (arith, low)) (omega (arith, long)) in
    omega (arith, rest)

-- a database in which a link of a record was set
pub counted_linked : (desc : Described) (db : Db) (set number item : ℕ) (to : Option ℕ) (r : Record) (t m : ℕ) → get db.records (set, number) ≡ Some r → item - 1 < length r.values → length r.values ≡ length (items_of (structure_of desc set))
    → counted_in desc (after_link db set number item to) t m + link_one t m (slice_get (items_of (structure_of desc set)) (item - 1)) (or_null (slice_get r.values (item - 1)))
    ≡ counted_in desc db t m + link_one t m (slice_get (items_of (structure_of desc set)) (item - 1)) (link_value to)
unfolding counted_in after_link
counted_linked desc db set number item to r t m at low long =
    let items = items_of (structure_of desc set) in
    let f : Place × Record → ℕ = links_of desc t m in
    let made = linked_record (get db.records (set, number)) item to in
    let sum = insert_sum f (set, number) made db.records in
    let was : of_opt (λ x. f ((set, number), x)) (get db.records (set, number)) ≡ links_to t m items r.values = ap (of_opt (λ x. f ((set, number), x))) at in
    let now : f ((set, number), made) ≡ links_to t m items (slice_set r.values (item - 1) (link_value to)) = ap (λ o. f ((set, number), linked_record o item to)) at in
    let one = links_set t m items r.values (item - 1) (link_value to) low long in
    omega (arith, sum, was, now, one)

-- each record owns as much as before
pub owned_linked : (desc : Described) (db : Db) (set number item : ℕ) (to : Option ℕ) (r : Record) (t m : ℕ) → get db.records (set, number) ≡ Some r → owned_in desc (after_link db set number item to) t m ≡ owned_in desc db t m
unfolding owned_in after_link
owned_linked desc db set number item to r t m at =
    let f : Place × Record → ℕ = owners_of desc t m in
    let made = linked_record (get db.records (set, number)) item to in
    let sum = insert_sum f (set, number) made db.records in
    let was : of_opt (λ x. f ((set, number), x)) (get db.records (set, number)) ≡ f ((set, number), r) = ap (of_opt (λ x. f ((set, number), x))) at in
    let now : f ((set, number), made) ≡ f ((set, number), r) = ap (λ o. f ((set, number), linked_record o item to)) at in
    let same : sum_by f (entries (insert db.records (set, number) made)) ≡ sum_by f (entries db.records) = omega (arith, sum, was, now) in
    ap (λ n. n + count_by (λ (e : SubsetEntry). (owner_of (structure_of desc e.subset) == t) && (e.owner == m)) db.entries) same

-- ---- one record less

abbrev pub without_record : Db → ℕ → ℕ → Db
without_record db set number = record db { records = remove db.records (set, number) }

-- A record that goes takes what its own links added to a record's count,
abbrev pub TakesItsLinks : Described → Db → ℕ → ℕ → Record → ℕ → ℕ → Type 0
TakesItsLinks desc db set number r t m = counted_in desc (without_record db set number) t m + links_of desc t m ((set, number), r) ≡ counted_in desc db t m

-- and what its own owner added to what a record owns.
abbrev pub TakesItsOwner : Described → Db → ℕ → ℕ → Record → ℕ → ℕ → Type 0
TakesItsOwner desc db set number r t m = owned_in desc (without_record db set number) t m + owners_of desc t m ((set, number), r) ≡ owned_in desc db t m

pub counted_removed : (desc : Described) (db : Db) (set number : ℕ) (r : Record) (t m : ℕ) → get db.records (set, number) ≡ Some r → counted_in desc (without_record db set number) t m + links_to t m (items_of (structure_of desc set)) r.values ≡ counted_in desc db t m
unfolding counted_in
counted_removed desc db set number r t m at =
    let f : Place × Record → ℕ = links_of desc t m in
    let was : of_opt (λ x. f ((set, number), x)) (get db.records (set, number)) ≡ links_to t m (items_of (structure_of desc set)) r.values = ap (of_opt (λ x. f ((set, number), x))) at in
    omega (arith, remove_sum f (set, number) db.records, was)

shifted : (a b c n : ℕ) → a + b ≡ c → (a + n) + b ≡ c + n
shifted a b c n h = omega (arith, h)

pub owned_removed : (desc : Described) (db : Db) (set number : ℕ) (r : Record) (t m : ℕ) → get db.records (set, number) ≡ Some r → owned_in desc (without_record db set number) t m + owners_of desc t m ((set, number), r) ≡ owned_in desc db t m
unfolding owned_in
owned_removed desc db set number r t m at =
    let f : Place × Record → ℕ = owners_of desc t m in
    let was : of_opt (λ x. f ((set, number), x)) (get db.records (set, number)) ≡ f ((set, number), r) = ap (of_opt (λ x. f ((set, number), x))) at in
    let sum : sum_by f (entries (remove db.records (set, number))) + f ((set, number), r) ≡ sum_by f (entries db.records) = omega (arith, remove_sum f (set, number) db.records, was) in
    shifted (sum_by f (entries (remove db.records (set, number)))) (f ((set, number), r)) (sum_by f (entries db.records)) (count_by (λ (e : SubsetEntry). (owner_of (structure_of desc e.subset) == t) && (e.owner == m)) db.entries) sum

-- ---- self-correcting links made null

-- a counted link isn't self-correcting, so its value stays
corrected_counted : (to number t m : ℕ) (k : ItemKind) (v : Value) → is_counted_to t m k (cond (is_link_into false to k && refers_to number v) Null v) ≡ is_counted_to t m k v
corrected_counted to number t m (Alpha n) v = refl
corrected_counted to number t m (Decimal n d s) v = refl
corrected_counted to number t m OneBit v = refl
corrected_counted to number t m (Field n) v = refl
corrected_counted to number t m (Link x true) v = by (x == to)
  where
    by : (b : Bool) → is_counted_to t m (Link x true) (cond ((b && false) && refers_to number v) Null v) ≡ is_counted_to t m (Link x true) v
    by true = refl
    by false = refl
corrected_counted to number t m (Link x false) v = refl

-- what is left of the counted links of a record is all of them
pub corrected_links : (to number t m k : ℕ) (all items : List Item) (vs : List Value) → ((j : ℕ) → slice_get all (k + j) ≡ slice_get items j) → links_to t m items (corrected to number k all vs) ≡ links_to t m items vs
corrected_links to number t m k all [] vs behind = refl
corrected_links to number t m k all (i ∷ is) [] behind = refl
corrected_links to number t m k all (i ∷ is) (v ∷ vs) behind =
    let e : k ≡ k + 0 = omega arith in
    let item : slice_get all k ≡ Some i = ap (slice_get all) e ∙ behind 0 in
    let here : is_counted_to t m i.kind (corrected_value (slice_get all k) to number v) ≡ is_counted_to t m i.kind v = ap (λ o. is_counted_to t m i.kind (corrected_value o to number v)) item ∙ corrected_counted to number t m i.kind v in
    let rest = corrected_links to number t m (k + 1) all is vs (λ j. let n : (k + 1) + j ≡ k + suc j = omega arith in ap (slice_get all) n ∙ behind (suc j)) in
    λ j. cond (here j) 1 0 + rest j

-- ---- entries of manual subsets

module _ {A : Type 0} (p : A → Bool) where
  -- one at the head
  pub count_more : (x : A) (ys : List A) → count_by p (x ∷ ys) ≡ cond (p x) 1 0 + count_by p ys
  count_more x ys = sum_by-cons (λ z. cond (p z) 1 0) x ys

  -- one more
  pub count_placed : (less : A → A → Bool) (x : A) (ys : List A) → count_by p (place_in less x ys) ≡ cond (p x) 1 0 + count_by p ys
  count_placed less x [] = count_more x []
  count_placed less x (y ∷ ys) = by (less x y) (count_placed less x ys)
    where
      by : (b : Bool) → count_by p (place_in less x ys) ≡ cond (p x) 1 0 + count_by p ys → count_by p (cond b (x ∷ y ∷ ys) (y ∷ place_in less x ys)) ≡ cond (p x) 1 0 + count_by p (y ∷ ys)
      by true rest = count_more x (y ∷ ys)
      by false rest = omega (arith, count_more y (place_in less x ys), count_more y ys, rest)

  -- those that pass a test, and the others
  pub count_parted : (q : A → Bool) (ys : List A) → count_by p (filter q ys) + count_by p (filter (λ y. not (q y)) ys) ≡ count_by p ys
  count_parted q [] = refl
  count_parted q (y ∷ ys) = by (q y) (count_parted q ys)
    where
      by : (b : Bool) → count_by p (filter q ys) + count_by p (filter (λ z. not (q z)) ys) ≡ count_by p ys
          → count_by p (cond b (y ∷ filter q ys) (filter q ys)) + count_by p (cond (not b) (y ∷ filter (λ z. not (q z)) ys) (filter (λ z. not (q z)) ys)) ≡ count_by p (y ∷ ys)
      by true rest = omega (arith, count_more y (filter q ys), count_more y ys, rest)
      by false rest = omega (arith, count_more y (filter (λ z. not (q z)) ys), count_more y ys, rest)

-- An entry of rising ones is there once.
module _ (a o n : ℕ) where
  -- an entry that is named so is this one
  pub named_is : (e : SubsetEntry) → names a o n e ≡ true → e ≡ entry_of a o n
  named_is e h =
      let s : e.subset ≡ a = grind (arith, nat_tests, h) in
      let w : e.owner ≡ o = grind (arith, nat_tests, h) in
      let m : e.number ≡ n = grind (arith, nat_tests, h) in
      λ i. record { subset = s i; owner = w i; number = m i }

  not_less : (e x : SubsetEntry) → names a o n e ≡ true → names a o n x ≡ true → entry_cmp e x ≡ Less → ⊥
  not_less e x h k less = apart (sym (λ i. entry_cmp (named_is e h i) (named_is x k i)) ∙ less)
    where
      apart : entry_cmp (entry_of a o n) (entry_of a o n) ≡ Less → ⊥
      apart is = grind (arith, nat_tests, is)

  none_named : (e : SubsetEntry) (es : List SubsetEntry) → names a o n e ≡ true → AllByRecursion (λ x. entry_cmp e x ≡ Less) es → filter (names a o n) es ≡ []
  none_named e [] h all = refl
  none_named e (x ∷ es) h all = by (names a o n x) refl (none_named e es h all.1)
    where
      by : (b : Bool) → names a o n x ≡ b → filter (names a o n) es ≡ [] → cond b (x ∷ filter (names a o n) es) (filter (names a o n) es) ≡ []
      by true k rest = absurd (not_less e x h k all.0)
      by false k rest = rest

  pub only_entry : (es : List SubsetEntry) → AreRising es → filter (names a o n) es ≡ cond (list_any (names a o n) es) (entry_of a o n ∷ []) []
  only_entry [] rising = refl
  only_entry (e ∷ es) rising = by (names a o n e) refl (only_entry es rising.1)
    where
      by : (b : Bool) → names a o n e ≡ b → filter (names a o n) es ≡ cond (list_any (names a o n) es) (entry_of a o n ∷ []) []
          → cond b (e ∷ filter (names a o n) es) (filter (names a o n) es) ≡ cond (b || list_any (names a o n) es) (entry_of a o n ∷ []) []
      by true h rest = let none = none_named e es h rising.0 in let is = named_is e h in λ i. is i ∷ none i
      by false h rest = rest

-- what an entry adds to a record's count, where it stands
abbrev pub left_at : Described → Db → ℕ → ℕ → ℕ → ℕ → ℕ → ℕ
left_at desc db subset owner number t m = cond (has_entry db subset owner number) (entries_at desc t m (entry_of subset owner number)) 0

-- an entry more, and one less
pub owned_entered : (desc : Described) (db : Db) (subset owner number t m : ℕ) → owned_in desc (after_enter (Stored number) db subset owner) t m ≡ owned_in desc db t m + entries_at desc t m (entry_of subset owner number)
unfolding owned_in
owned_entered desc db subset owner number t m =
    let p : SubsetEntry → Bool = λ e. (owner_of (structure_of desc e.subset) == t) && (e.owner == m) in
    omega (arith, count_placed p entry_before (entry_of subset owner number) db.entries)

pub owned_left : (desc : Described) (db : Db) (subset owner number t m : ℕ) → AreRising db.entries
    → owned_in desc (after_leave db subset owner number) t m + left_at desc db subset owner number t m ≡ owned_in desc db t m
unfolding owned_in after_leave
owned_left desc db subset owner number t m rising =
    let p : SubsetEntry → Bool = λ e. (owner_of (structure_of desc e.subset) == t) && (e.owner == m) in
    let parts = count_parted p (names subset owner number) db.entries in
    let one = ap (count_by p) (only_entry subset owner number db.entries rising) in
    by (has_entry db subset owner number) parts one
  where
    q : SubsetEntry → Bool
    q e = (owner_of (structure_of desc e.subset) == t) && (e.owner == m)

    by : (b : Bool) → count_by q (filter (names subset owner number) db.entries) + count_by q (filter (is_not_entry subset owner number) db.entries) ≡ count_by q db.entries
        → count_by q (filter (names subset owner number) db.entries) ≡ count_by q (cond b (entry_of subset owner number ∷ []) [])
        → (sum_by (owners_of desc t m) (entries db.records) + count_by q (filter (is_not_entry subset owner number) db.entries)) + cond b (entries_at desc t m (entry_of subset owner number)) 0 ≡ sum_by (owners_of desc t m) (entries db.records) + count_by q db.entries
    by true parts one = omega (arith, parts, one, count_more q (entry_of subset owner number) [])
    by false parts one = omega (arith, parts, one)
