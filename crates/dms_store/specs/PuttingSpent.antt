-- How many blocks storing a record takes at most: 64 of each structure, for the record and for each of its entries.
use Rattle.std.proofs.Common.{◌≡◌, ◌∙◌, ◌+◌, ◌*◌, ◌^◌, ◌<◌, ◌≤◌, ℕ, zero, suc, List, [], ◌∷◌, Bool, true, false, cond, Some, None, refl, sym, ap, length, filter, slice_get, arith}
use Rattle.std.specs.Prelude.{◌&&◌, ◌==◌, nat_le}
use Rattle.std.specs.declared.option.Option.{Option}
use Rattle.std.proofs.Math.Nat as nat
use Rattle.std.proofs.lemmas.Bool.{and_parts}
use Rattle.std.proofs.lemmas.List.{length-map}
use Rattle.std.proofs.lemmas.Bool.Decides.{nat_tests}
use Rattle.dms_block.specs.Content.{Content}
use Rattle.dms_desc.specs.Kinds.{over}
use Rattle.dms_desc.specs.Lookups.{set_of, structure_of}
use Rattle.dms_desc.specs.Shape.{Shape, Described, shape_of}
use Rattle.dms_desc.specs.declared.record.Record.{Record}
use Rattle.dms_links.specs.Linking.{structure_here}
use Rattle.dms_links.specs.Rows.{AreNumbered}
use Rattle.dms_links.specs.Stands.{tally_of}
use Rattle.dms_manual.specs.CountedFor.{counted_for}
use Rattle.dms_manual.specs.Entered.{manual_of}
use Rattle.dms_manual.specs.Following.{most_changes, most_changes_among}
use Rattle.dms_manual.specs.Named.{names_record, tells}
use Rattle.dms_manual.specs.Naming.{is_manual_over}
use Rattle.dms_model.specs.Changing.{is_entry_of, storing_count}
use Rattle.dms_model.specs.Db.{Db, SubsetEntry}
use Rattle.dms_spelling.specs.Back.{spelled_files}
use Rattle.dms_spelling.specs.Holds.{entries_rise, manual_kind, small_in}
use Rattle.dms_spelling.specs.Serving.{IsServed}
use Rattle.dms_spelling.specs.Spelled.{database_in}
use Rattle.dms_spelling.specs.Stands.{StandsFiles}
use Rattle.dms_store.specs.Addressed.{desc_at, list_blocks}
use Rattle.dms_store.specs.PuttingLists.{moves_of}
use Rattle.dms_store.specs.declared.address.Address.{Address}

-- ---- entries that pass tests

module _ (a b c : SubsetEntry → Bool) where
  -- two tests that no entry passes both, and a wider one
  two_in_one : ((e : SubsetEntry) → a e ≡ true → (c e ≡ true) × (b e ≡ false)) → ((e : SubsetEntry) → b e ≡ true → c e ≡ true) → (es : List SubsetEntry) → length (filter a es) + length (filter b es) ≤ length (filter c es)
  two_in_one first second [] = omega arith
  two_in_one first second (e ∷ es) = by (a e) (b e) (c e) refl refl refl (two_in_one first second es)
    where
      apart : true ≡ false → ⊥
      apart h = absurd (cc h)

      by : (x y z : Bool) → a e ≡ x → b e ≡ y → c e ≡ z → length (filter a es) + length (filter b es) ≤ length (filter c es)
          → length (cond x (e ∷ filter a es) (filter a es)) + length (cond y (e ∷ filter b es) (filter b es)) ≤ length (cond z (e ∷ filter c es) (filter c es))
      by true true z p q r rest = absurd (apart (sym q ∙ (first e p).1))
      by true false true p q r rest = omega (arith, rest)
      by true false false p q r rest = absurd (apart (sym (first e p).0 ∙ r))
      by false true true p q r rest = omega (arith, rest)
      by false true false p q r rest = absurd (apart (sym (second e q) ∙ r))
      by false false true p q r rest = omega (arith, rest)
      by false false false p q r rest = rest

  wider : ((e : SubsetEntry) → b e ≡ true → c e ≡ true) → (es : List SubsetEntry) → length (filter b es) ≤ length (filter c es)
  wider second [] = omega arith
  wider second (e ∷ es) = by (b e) (c e) refl refl (wider second es)
    where
      apart : true ≡ false → ⊥
      apart h = absurd (cc h)

      by : (y z : Bool) → b e ≡ y → c e ≡ z → length (filter b es) ≤ length (filter c es) → length (cond y (e ∷ filter b es) (filter b es)) ≤ length (cond z (e ∷ filter c es) (filter c es))
      by true true q r rest = omega (arith, rest)
      by true false q r rest = absurd (apart (sym (second e q) ∙ r))
      by false true q r rest = omega (arith, rest)
      by false false q r rest = rest

-- ---- the entries of a record

module _ (desc : Described) (set n : ℕ) where
  -- an entry of it, of a subset from this number on
  abbrev from : ℕ → SubsetEntry → Bool
  from k e = is_entry_of desc set n e && nat_le k e.subset

  next_wider : (k : ℕ) (e : SubsetEntry) → from (k + 1) e ≡ true → from k e ≡ true
  next_wider k e h =
      let both = and_parts (is_entry_of desc set n e) (nat_le (k + 1) e.subset) h in
      let low : nat_le k e.subset ≡ true = grind (arith, nat_tests, both.1) in
      λ i. both.0 i && low i

  named_in : (k : ℕ) (s : Shape) → structure_of desc k ≡ Some s → s.number ≡ k → is_manual_over s set ≡ true → (e : SubsetEntry) → names_record s.number n e ≡ true → (from k e ≡ true) × (from (k + 1) e ≡ false)
  named_in k s at number own e h =
      let both = and_parts (e.subset == s.number) (e.number == n) h in
      let subset : e.subset ≡ k = grind (arith, nat_tests, both.0, number) in
      let of : set_of desc e.subset ≡ set = ap (set_of desc) subset ∙ ap over_in at ∙ own_set s own in
      let here : (set_of desc e.subset == set) ≡ true = same_test _ _ of in
      let low : nat_le k e.subset ≡ true = grind (arith, nat_tests, subset) in
      let high : nat_le (k + 1) e.subset ≡ false = grind (arith, nat_tests, subset) in
      ((λ i. (here i && both.1 i) && low i), ap (λ b. is_entry_of desc set n e && b) high ∙ and_off (is_entry_of desc set n e))
    where
      over_in : Option Shape → ℕ
      over_in None = 0
      over_in (Some t) = over t

      own_set : (t : Shape) → is_manual_over t set ≡ true → over t ≡ set
      own_set t i = grind (arith, nat_tests, i)

      same_test : (x y : ℕ) → x ≡ y → (x == y) ≡ true
      same_test x y i = grind (arith, nat_tests, i)

      and_off : (b : Bool) → (b && false) ≡ false
      and_off true = refl
      and_off false = refl

  module _ (db : Db) (tell : (k : ℕ) (s : Shape) → structure_of desc k ≡ Some s → is_manual_over s set ≡ true → length (filter (tells n) (manual_of desc db s)) ≡ length (filter (names_record s.number n) db.entries)) where
    changes_from : (k : ℕ) (ss : List Shape) → AreNumbered k ss → ((i : ℕ) (s : Shape) → slice_get ss i ≡ Some s → structure_of desc (k + i) ≡ Some s) → most_changes_among desc db set n ss ≤ 2 * length (filter (from k) db.entries)
    changes_from k [] numbered there = omega arith
    changes_from k (s ∷ ss) numbered there = by (is_manual_over s set) refl (changes_from (k + 1) ss numbered.1 (λ i t at. ap (structure_of desc) (let e : (k + 1) + i ≡ k + suc i = omega arith in e) ∙ there (suc i) t at))
      where
        here : structure_of desc k ≡ Some s
        here = ap (structure_of desc) (let e : k ≡ k + 0 = omega arith in e) ∙ there 0 s refl

        by : (b : Bool) → is_manual_over s set ≡ b → most_changes_among desc db set n ss ≤ 2 * length (filter (from (k + 1)) db.entries)
            → cond b (most_changes n (manual_of desc db s)) 0 + most_changes_among desc db set n ss ≤ 2 * length (filter (from k) db.entries)
        by true own rest = omega (arith, rest, tell k s here own, two_in_one (names_record s.number n) (from (k + 1)) (from k) (named_in k s here numbered.0 own) (next_wider k) db.entries)
        by false own rest = omega (arith, rest, wider (from (k + 1)) (from (k + 1)) (from k) (next_wider k) db.entries)

module _ (desc : Described) (served : IsServed desc) (c : Content) (db : Db) (spelt : database_in desc c ≡ Some db) (set n : ℕ) (small : n < 2 ^ 32) where
  files : StandsFiles desc db (tally_of desc db) c
  files = spelled_files desc c db served spelt

  tells_all : (k : ℕ) (s : Shape) → structure_of desc k ≡ Some s → is_manual_over s set ≡ true → length (filter (tells n) (manual_of desc db s)) ≡ length (filter (names_record s.number n) db.entries)
  tells_all k s at own =
      let manual = manual_kind s set own in
      counted_for desc s db n (small_in desc served db (tally_of desc db) c files.slots files.lists files.entries k s at manual) small (entries_rise desc served db (tally_of desc db) c files.slots files.lists files.entries k s at manual)

  -- Two changes of lists for each entry of the record move them all.
  pub moves_few : (old : Option Record) → moves_of desc set n old db ≤ 2 * length (filter (is_entry_of desc set n) db.entries)
  moves_few None = omega arith
  moves_few (Some old) =
      let all = changes_from desc set n db tells_all 1 desc.structures served.numbered (λ i s at. ap (structure_of desc) (let e : 1 + i ≡ suc i = omega arith in e) ∙ structure_here desc.structures i s at) in
      omega (arith, all, wider (is_entry_of desc set n) (from desc set n 1) (is_entry_of desc set n) (λ e h. (and_parts (is_entry_of desc set n e) (nat_le 1 e.subset) h).0) db.entries)

-- ---- as many as are allowed

least_product : (s e : ℕ) → 1 ≤ s → s + e ≤ s * (1 + e)
least_product zero e low = absurd (omega (arith, low))
least_product (suc k) e low = omega (arith, more k, nat.suc-mul k (1 + e))
  where
    more : (m : ℕ) → m ≤ m * (1 + e)
    more zero = omega arith
    more (suc m) = omega (arith, more m, nat.suc-mul m (1 + e))

-- for a record and so many entries
pub blocks_few : (s e m n : ℕ) → 1 ≤ s → m ≤ 2 * e → n ≤ 44 * s + 22 * m + 2 → n ≤ 64 * s * (1 + e)
blocks_few s e m n low moves few =
    let same : 64 * s * (1 + e) ≡ 64 * (s * (1 + e)) = nat.mul_assoc 64 s (1 + e) in
    omega (arith, least_product s e low, moves, few, same)

pub blocks_new : (s n : ℕ) → 1 ≤ s → n ≤ 44 * s + 22 * 0 + 2 → n ≤ 64 * s * 1
blocks_new s n low few = omega (arith, low, few)

-- where a record is to stand
module _ (at : Address) (n : ℕ) (some : 1 ≤ length (desc_at at).structures) where
  long : length (desc_at at).structures ≡ length at.desc.now.structures
  long = length-map at.desc.now.structures shape_of

  pub stored_new : (db : Db) → n ≤ list_blocks at None db + 2 → n ≤ 64 * length (desc_at at).structures * storing_count (desc_at at) at.set.now.number None db
  stored_new db few = let most : n ≤ 44 * length at.desc.now.structures + 22 * 0 + 2 = few in blocks_new (length (desc_at at).structures) n some (omega (arith, most, long))

  pub stored_old : (old : Option Record) (db : Db) → moves_of (desc_at at) at.set.now.number at.number old db ≤ 2 * length (filter (is_entry_of (desc_at at) at.set.now.number at.number) db.entries) → n ≤ list_blocks at old db + 2
      → n ≤ 64 * length (desc_at at).structures * storing_count (desc_at at) at.set.now.number (Some at.number) db
  stored_old old db moves few =
      let m = moves_of (desc_at at) at.set.now.number at.number old db in
      let most : n ≤ 44 * length at.desc.now.structures + 22 * m + 2 = few in
      blocks_few (length (desc_at at).structures) (length (filter (is_entry_of (desc_at at) at.set.now.number at.number) db.entries)) m n some moves (omega (arith, most, long))
