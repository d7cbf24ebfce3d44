-- What an entry that is taken out of the list of its subset, and counted by its owner no more, makes of the database that the blocks spell.
use Rattle.std.proofs.Common.{◌≡◌, ◌∙◌, ◌+◌, ◌≤◌, ℕ, List, [], ◌∷◌, Bool, true, false, cond, IsTrue, Some, refl, sym, ap, arith}
use Rattle.std.specs.Prelude.{◌&&◌, ◌==◌, ◌||◌, not}
use Rattle.std.specs.List.{list_any}
use Rattle.std.specs.declared.option.Option.{Option}
use Rattle.std.proofs.lemmas.Bool.Decides.{nat_tests}
use Rattle.dms_block.specs.Content.{Content}
use Rattle.dms_block.specs.View.{overlay_content, under}
use Rattle.dms_block.specs.declared.blocks.Blocks.{Ghosts}
use Rattle.dms_block.specs.declared.overlay.Overlay.{Overlay}
use Rattle.dms_chain.specs.Lists as list
use Rattle.dms_chain.specs.Lists.{without}
use Rattle.dms_desc.specs.Lookups.{structure_of}
use Rattle.dms_desc.specs.Shape.{Shape, Described}
use Rattle.dms_desc.specs.declared.record.Record.{Record}
use Rattle.dms_desc_bytes.specs.Finding.{owner_in as owner_of}
use Rattle.dms_links.specs.Stands.{Counts, Tally, tally_of}
use Rattle.dms_links.specs.Stepping.{AltersSteps}
use Rattle.dms_links.specs.declared.altering.SlotChange.TheVariants.{Disowned}
use Rattle.dms_manual.specs.Answered.{has_manual}
use Rattle.dms_manual.specs.Entered.{manual_of}
use Rattle.dms_manual.specs.Entering.{Takes}
use Rattle.dms_manual.specs.Listed.{bytes_for, manual_left}
use Rattle.dms_manual.specs.Moves.{SmallIn, any_as, any_where}
use Rattle.dms_model.specs.Db.{Db, SubsetEntry}
use Rattle.dms_model.specs.Members.{names}
use Rattle.dms_model.specs.Uses.{after_leave, entry_of, has_entry, is_not_entry}
use Rattle.dms_sets.specs.Changes.{OtherListsStay, list_of_set}
use Rattle.dms_sets.specs.Keeping.{Calm, seen_list}
use Rattle.dms_sets.specs.Sets.{kinds_over}
use Rattle.dms_spelling.specs.After.{slots_steps, stands_after}
use Rattle.dms_spelling.specs.Holds.{have_slots}
use Rattle.dms_spelling.specs.Serving.{IsServed}
use Rattle.dms_spelling.specs.Spelled.{database_in}
use Rattle.dms_spelling.specs.Stands.{StandsFiles, spell_by}
use Rattle.dms_tally.specs.Counts.{counted_in, entries_at, owned_in}
use Rattle.dms_tally.specs.Tally.{left_at, owned_left}
use Rattle.dms_entries.specs.Entered.{OfRecord, files, of_record, pair_small, small}
use Rattle.dms_entries.specs.OneList.{list_seen, lists_after, records_after, slots_after, stands_as}
use Rattle.dms_entries.specs.Owners.{less_at, less_counted, owned_less, owner_less, owner_steps}
use Rattle.dms_entries.specs.Promises.{IsMember}
use Rattle.dms_entries.specs.Rising.{entries_less}

-- ---- entries that are left

module _ (db : Db) (subset owner number : ℕ) where
  pub left_has : (t o m : ℕ) → has_entry (after_leave db subset owner number) t o m ≡ list_any (λ e. is_not_entry subset owner number e && names t o m e) db.entries
  unfolding after_leave
  left_has t o m = any_where (names t o m) (is_not_entry subset owner number) db.entries

  -- those of other subsets are the same
  pub left_still : (t : ℕ) → (t == subset) ≡ false → (o m : ℕ) → has_entry (after_leave db subset owner number) t o m ≡ has_entry db t o m
  left_still t off o m = left_has t o m ∙ any_as (λ e. is_not_entry subset owner number e && names t o m e) (names t o m) db.entries same
    where
      by : (e : SubsetEntry) (x y : Bool) → names subset owner number e ≡ x → names t o m e ≡ y → (not x && y) ≡ y
      by e true true p q = absurd (clash p q)
        where
          clash : names subset owner number e ≡ true → names t o m e ≡ true → ⊥
          clash x y = grind (arith, nat_tests, off, x, y)
      by e true false p q = refl
      by e false y p q = refl

      same : (e : SubsetEntry) → (is_not_entry subset owner number e && names t o m e) ≡ names t o m e
      same e = by e (names subset owner number e) (names t o m e) refl refl

  any_less : (p q : SubsetEntry → Bool) (es : List SubsetEntry) → list_any (λ e. q e && p e) es ≡ true → list_any p es ≡ true
  any_less p q [] h = h
  any_less p q (e ∷ es) h = by (q e) (p e) h (any_less p q es)
    where
      by : (x y : Bool) → ((x && y) || list_any (λ e. q e && p e) es) ≡ true → (list_any (λ e. q e && p e) es ≡ true → list_any p es ≡ true) → (y || list_any p es) ≡ true
      by x true k rest = refl
      by true false k rest = rest k
      by false false k rest = rest k

  -- and none has come
  pub left_was : (t o m : ℕ) → has_entry (after_leave db subset owner number) t o m ≡ true → has_entry db t o m ≡ true
  left_was t o m h = any_less (names t o m) (is_not_entry subset owner number) db.entries (sym (left_has t o m) ∙ h)

  counted_left : (desc : Described) (t m : ℕ) → counted_in desc db t m ≡ counted_in desc (after_leave db subset owner number) t m
  unfolding counted_in after_leave
  counted_left desc t m = refl

  records_left : (after_leave db subset owner number).records ≡ db.records
  unfolding after_leave
  records_left = refl

-- ---- an entry

module _ {B : Type 0} {g : Ghosts B} (desc : Described) (served : IsServed desc) (s : Shape) (at : structure_of desc s.number ≡ Some s) (kind : s.kind ≡ 5) (db : Db) (a : Overlay B g) (told : IsTrue (under a).told) (spelt : database_in desc (overlay_content a) ≡ Some db)
    (number : ℕ) (rec : Record) (member : IsMember db s number rec) where
  abbrev own : Tally
  own = tally_of desc db

  abbrev owner : ℕ
  owner = rec.owner

  abbrev is : OfRecord db s number rec
  is = of_record db s number rec member

  abbrev stand : StandsFiles desc db (tally_of desc db) (overlay_content a)
  stand = files desc served s at kind db a told spelt number rec member

  abbrev after : Db
  after = after_leave db s.number owner number

  abbrev are_small : SmallIn s db
  are_small = small desc served s at kind db a told spelt number rec member

  small_left : SmallIn s after
  small_left = record { each = λ o m has. are_small.each o m (left_was db s.number owner number s.number o m has) }

  -- whether the list has the entry
  pub was_is : list.has_entry (bytes_for (kinds_over desc s) s rec.owner number rec) (manual_of desc db s) ≡ has_entry db s.number rec.owner number
  was_is =
      ap (λ (r : Record). list.has_entry (bytes_for (kinds_over desc s) s owner number r) (manual_of desc db s)) (sym is.same)
      ∙ has_manual desc s db owner number is.record_is is.there are_small (pair_small desc served s at kind db a told spelt number rec member)

  module _ (has : has_entry db s.number rec.owner number ≡ true) where
    owner_is : (t m : ℕ) → left_at desc db s.number owner number t m ≡ cond ((s.owner == t) && (owner == m)) 1 0
    owner_is t m = ap (λ b. cond b (entries_at desc t m (entry_of s.number owner number)) 0) has ∙ ap (λ (o : Option Shape). cond ((owner_of o == t) && (owner == m)) 1 0) at

    left_less : (t m : ℕ) → owned_in desc after t m + cond ((s.owner == t) && (owner == m)) 1 0 ≡ owned_in desc db t m
    left_less t m = ap (λ k. owned_in desc after t m + k) (sym (owner_is t m)) ∙ owned_left desc db s.number owner number t m stand.entries.rising

    some_owned : 1 ≤ own.owned s.owner owner
    some_owned =
        let one : ◌≡◌ {A = ℕ} (cond ((s.owner == s.owner) && (owner == owner)) 1 0) 1 = ap (λ b. cond b 1 0) itself in
        omega (arith, left_less s.owner owner, one)
      where
        itself : ((s.owner == s.owner) && (owner == owner)) ≡ true
        itself = grind (arith, nat_tests)

    counts_after : Counts desc after (owned_less own s.owner owner)
    counts_after = record {
      counted = λ t m low. ap (λ (f : ℕ → ℕ → ℕ). f t m) (less_counted own s.owner owner) ∙ counted_left db s.number owner number desc t m;
      owned = λ t m low. omega (arith, less_at own s.owner owner t m low (λ some. some_owned), left_less t m);
    }

    module _ (b : Overlay B g) (n : ℕ) (calm : Calm (λ m. m == s.number) n a b) (others : OtherListsStay s (seen_list a) (seen_list b)) where
      -- the list of the subset without the entry, and the slot of the owner, which counts it no more
      pub taken_is : (z : Content) (done : Bool) → list_of_set (seen_list b) (kinds_over desc s) s ≡ Some (manual_of desc (after_leave db s.number rec.owner number) s)
          → AltersSteps desc (owner_steps s.owner rec.owner Disowned) done (overlay_content b) z → (done ≡ true) × (database_in desc z ≡ Some (after_leave db s.number rec.owner number))
      taken_is z done list steps =
          let same = records_left db s.number owner number in
          let have = have_slots desc served in
          let still = left_still db s.number owner number in
          let before = records_after desc served s at kind db own a told stand b n calm in
          let counted = owner_less desc db own (overlay_content b) z have before s.owner owner member.owner done (λ some. some_owned) steps in
          let moved = stands_as desc db after (owned_less own s.owner owner) z same counted.1 in
          let lists = lists_after desc served s at kind db own a told stand after b n calm others same still list in
          let only = slots_steps desc served (owner_steps s.owner owner Disowned) done (overlay_content b) z (slots_after desc served s at kind db own a told stand b n calm) steps in
          let stands = stands_after desc served after (owned_less own s.owner owner) (overlay_content a) (overlay_content b) z stand.fit lists only moved (entries_less desc db s.number owner number stand.entries) in
          (counted.0, spell_by desc after (owned_less own s.owner owner) z served stands counts_after)

  -- What `leave` answers and leaves of the list.
  module _ (b : Overlay B g) (was : Bool) (h : Takes (kinds_over desc s) s number rec (seen_list a) (seen_list b) was) where
    pub left_says : was ≡ has_entry db s.number rec.owner number
    left_says = (h (manual_of desc db s) (list_seen desc served s at kind db own a told stand)).answer ∙ was_is

    pub left_list : has_entry db s.number rec.owner number ≡ true → list_of_set (seen_list b) (kinds_over desc s) s ≡ Some (manual_of desc (after_leave db s.number rec.owner number) s)
    left_list has =
        let one = h (manual_of desc db s) (list_seen desc served s at kind db own a told stand) in
        let bytes = ap (λ (r : Record). without (bytes_for (kinds_over desc s) s owner number r) (manual_of desc db s)) (sym is.same) in
        one.done
        ∙ ap (λ (xs : List (List ℕ)). Some xs) (bytes ∙ sym (manual_left desc s db owner number is.record_is is.there are_small (pair_small desc served s at kind db a told spelt number rec member) has small_left))
