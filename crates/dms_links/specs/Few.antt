-- How much slots count at most: what each record adds, for as many records as each data set has.
use Rattle.std.proofs.Common.{◌≡◌, ◌∙◌, ◌+◌, ◌-◌, ◌*◌, ◌<◌, ◌≤◌, ℕ, zero, suc, List, [], ◌∷◌, ◌++◌, Bool, true, false, cond, Some, None, refl, sym, ap, subst, length, slice_get, arith}
use Rattle.std.specs.Prelude.{◌&&◌, ◌==◌, count_by, sum_by}
use Rattle.std.specs.FinMap.{entries}
use Rattle.std.proofs.Math.Nat as nat
use Rattle.std.proofs.lemmas.Bool.Decides.{nat_tests}
use Rattle.std.proofs.lemmas.List.Sums.{count_by-le-length, sum_by-append, sum_by-cons}
use Rattle.dms_base.specs.declared.kind.ItemKind.{ItemKind}
use Rattle.dms_base.specs.declared.kind.ItemKind.TheVariants.{Alpha, Number as Decimal, Bool as OneBit, Field, Link}
use Rattle.dms_base.specs.declared.value.Value.{Value}
use Rattle.dms_block.specs.Content.{Content}
use Rattle.dms_desc.specs.Lookups.{items_of, structure_of}
use Rattle.dms_desc.specs.Shape.{Shape, Described}
use Rattle.dms_desc.specs.declared.record.Record.{Record}
use Rattle.dms_desc.specs.declared.structure.Item.{Item}
use Rattle.dms_desc_bytes.specs.Finding.{owner_in as owner_of}
use Rattle.dms_desc_bytes.specs.Lists.{total}
use Rattle.dms_desc_bytes.specs.Members.{counted_one}
use Rattle.dms_desc_bytes.specs.WellFormed.{counted_in as counted_links}
use Rattle.dms_layout.specs.declared.slot.Slot.{Slot}
use Rattle.dms_layout.specs.declared.slot.SlotRead.{SlotRead}
use Rattle.dms_layout.specs.declared.slot.SlotRead.TheVariants.{Free, Used, Bad}
use Rattle.dms_model.specs.Db.{Db, Place, SubsetEntry}
use Rattle.dms_model.specs.Valid.{is_data_set}
use Rattle.dms_slots.specs.SlotBlocks.{or_free, slots_of}
use Rattle.dms_tally.specs.Counts.{counted_in, is_counted_to, is_number, links_of, links_to, owned_in, owners_of}
use Rattle.dms_links.specs.Linking.{number_here}
use Rattle.dms_links.specs.Rows.{AreNumbered, entries_are, file_in, rows_from, rows_in}
use Rattle.dms_links.specs.Stands.{RecordsStand, Tally}

-- No structure has more than 1,000,000 records.
abbrev pub HaveFewRecords : Described → Type 0
HaveFewRecords desc = (set : ℕ) (s : Shape) → structure_of desc set ≡ Some s → s.population ≤ 1000000

-- what is asked of one data set: what a record adds, and which of its slots are used
record IsWeighed (f : Place × Record → ℕ) (c : Content) (weight : Shape → ℕ) (s : Shape) : Type 0 where
  most : (m : ℕ) (r : Record) → f ((s.number, m), r) ≤ weight s
  used : (i : ℕ) (x : Slot) → or_free (slice_get (slots_of s (file_in c s)) i) ≡ Used x → i < 1000000

-- ---- one data set after another

module _ (f : Place × Record → ℕ) where
  rows_few : (set n w k : ℕ) (rs : List SlotRead) → ((m : ℕ) (r : Record) → f ((set, m), r) ≤ w) → ((i : ℕ) (x : Slot) → or_free (slice_get rs i) ≡ Used x → i < k) → sum_by f (rows_from set n rs) ≤ k * w
  rows_few set n w k [] most low = omega arith
  rows_few set n w zero (Free ∷ rs) most low = rows_few set (n + 1) w zero rs most (λ i x h. absurd (omega (arith, low (suc i) x h)))
  rows_few set n w zero (Bad ∷ rs) most low = rows_few set (n + 1) w zero rs most (λ i x h. absurd (omega (arith, low (suc i) x h)))
  rows_few set n w zero (Used x ∷ rs) most low = absurd (omega (arith, low 0 x refl))
  rows_few set n w (suc k) (Free ∷ rs) most low = omega (arith, rows_few set (n + 1) w k rs most (λ i x h. omega (arith, low (suc i) x h)), nat.suc-mul k w)
  rows_few set n w (suc k) (Bad ∷ rs) most low = omega (arith, rows_few set (n + 1) w k rs most (λ i x h. omega (arith, low (suc i) x h)), nat.suc-mul k w)
  rows_few set n w (suc k) (Used x ∷ rs) most low =
      let rest = rows_few set (n + 1) w k rs most (λ i y h. omega (arith, low (suc i) y h)) in
      omega (arith, rest, most n x.rec, sum_by-cons f ((set, n), x.rec) (rows_from set (n + 1) rs), nat.suc-mul k w)

  module _ (c : Content) (weight : Shape → ℕ) where
    all_few : (ss : List Shape) → ((i : ℕ) (s : Shape) → slice_get ss i ≡ Some s → is_data_set (Some s) ≡ true → IsWeighed f c weight s) → sum_by f (rows_in c ss) ≤ 1000000 * total weight ss
    all_few [] each = omega arith
    all_few (s ∷ ss) each = by (is_data_set (Some s)) refl (all_few ss (λ i t at. each (suc i) t at))
      where
        by : (b : Bool) → is_data_set (Some s) ≡ b → sum_by f (rows_in c ss) ≤ 1000000 * total weight ss
            → sum_by f (cond b (rows_from s.number 1 (slots_of s (file_in c s)) ++ rows_in c ss) (rows_in c ss)) ≤ 1000000 * (weight s + total weight ss)
        by true is rest =
            let one = each 0 s refl is in
            let here = rows_few s.number 1 (weight s) 1000000 (slots_of s (file_in c s)) one.most one.used in
            omega (arith, here, rest, sum_by-append f (rows_from s.number 1 (slots_of s (file_in c s))) (rows_in c ss))
        by false is rest = omega (arith, rest)

-- ---- counted links

one_most : (t m : ℕ) (k : ItemKind) (v : Value) → cond (is_counted_to t m k v) 1 0 ≤ counted_one k
one_most t m (Alpha n) v = omega arith
one_most t m (Decimal n d s) v = omega arith
one_most t m OneBit v = omega arith
one_most t m (Field n) v = omega arith
one_most t m (Link x false) v = omega arith
one_most t m (Link x true) v = by ((x == t) && is_number m v)
  where
    by : (b : Bool) → cond b 1 0 ≤ 1
    by true = omega arith
    by false = omega arith

links_most : (t m : ℕ) (items : List Item) (vs : List Value) → links_to t m items vs ≤ total (λ (i : Item). counted_one i.kind) items
links_most t m [] vs = omega arith
links_most t m (i ∷ is) [] = omega arith
links_most t m (i ∷ is) (v ∷ vs) = omega (arith, one_most t m i.kind v, links_most t m is vs)

one_if : (b : Bool) → cond b 1 0 ≤ 1
one_if true = omega arith
one_if false = omega arith

ones : (ss : List Shape) → total (λ s. 1) ss ≡ length ss
ones [] = refl
ones (s ∷ ss) = omega (arith, ones ss)

module _ (desc : Described) (numbered : AreNumbered 1 desc.structures) (few : HaveFewRecords desc) (db : Db) (own : Tally) (c : Content) (files : RecordsStand desc db own c) where
  used_low : (i : ℕ) (s : Shape) → slice_get desc.structures i ≡ Some s → is_data_set (Some s) ≡ true → (j : ℕ) (x : Slot) → or_free (slice_get (slots_of s (file_in c s)) j) ≡ Used x → j < 1000000
  used_low i s at is j x h =
      let here = number_here desc numbered i s at in
      let e : j ≡ (j + 1) - 1 = omega arith in
      let stands = (files.each s.number s here is).slots (j + 1) x (omega arith) (ap (λ n. or_free (slice_get (slots_of s (file_in c s)) n)) (sym e) ∙ h) in
      omega (arith, stands.most, few s.number s here)

  sum_few : (f : Place × Record → ℕ) (weight : Shape → ℕ) → ((i : ℕ) (s : Shape) → slice_get desc.structures i ≡ Some s → (m : ℕ) (r : Record) → f ((s.number, m), r) ≤ weight s) → sum_by f (entries db.records) ≤ 1000000 * total weight desc.structures
  sum_few f weight most =
      subst (λ (es : List (Place × Record)). sum_by f es ≤ 1000000 * total weight desc.structures) (sym (entries_are desc c db.records numbered files.records files.none))
      (all_few f c weight desc.structures (λ i s at is. record { most = most i s at; used = used_low i s at is }))

  -- A record counts at most as many links as 1,000,000 records of each data set have.
  pub counted_few : (t m : ℕ) → counted_in desc db t m ≤ 1000000 * total counted_links desc.structures
  unfolding counted_in
  counted_few t m =
      sum_few (links_of desc t m) counted_links (λ i s at n r.
      subst (λ (items : List Item). links_to t m items r.values ≤ counted_links s) (sym (ap items_of (number_here desc numbered i s at))) (links_most t m s.items r.values))

  -- And it owns at most as many records and entries as there are.
  pub owned_few : (t m : ℕ) → owned_in desc db t m ≤ 1000000 * length desc.structures + length db.entries
  unfolding owned_in
  owned_few t m =
      let records = sum_few (owners_of desc t m) (λ s. 1) (λ i s at n r. one_if ((owner_of (structure_of desc s.number) == t) && (r.owner == m))) in
      let entered : SubsetEntry → Bool = λ e. (owner_of (structure_of desc e.subset) == t) && (e.owner == m) in
      omega (arith, records, ones desc.structures, count_by-le-length entered db.entries)
