-- What an entry that is made in the list of its subset, and counted by its owner, makes of the database that the blocks spell.
use Rattle.std.proofs.Common.{◌≡◌, ◌≢◌, ◌∙◌, ◌+◌, ◌^◌, ◌<◌, ℕ, List, Bool, true, false, cond, IsTrue, Some, None, refl, sym, ap, length, filter, arith}
use Rattle.std.specs.Prelude.{◌&&◌, ◌==◌, ◌||◌, is_some, nat_le}
use Rattle.std.specs.declared.option.Option.{Option}
use Rattle.std.specs.FinMap.{get}
use Rattle.std.proofs.lemmas.Bool.Decides.{nat_tests}
use Rattle.std.proofs.lemmas.Option.{same_Some}
use Rattle.dms_block.specs.Content.{Content}
use Rattle.dms_block.specs.View.{overlay_content, under}
use Rattle.dms_block.specs.declared.blocks.Blocks.{Ghosts}
use Rattle.dms_block.specs.declared.overlay.Overlay.{Overlay}
use Rattle.dms_chain.specs.Lists.{with_entry}
use Rattle.dms_desc.specs.Lookups.{over_of, structure_of}
use Rattle.dms_desc.specs.Shape.{Shape, Described}
use Rattle.dms_desc.specs.declared.record.Record.{Record}
use Rattle.dms_desc_bytes.specs.Finding.{owner_in as owner_of}
use Rattle.dms_links.specs.Linking.{number_at}
use Rattle.dms_links.specs.Stands.{Counts, Tally, tally_of}
use Rattle.dms_links.specs.Stepping.{AltersSteps}
use Rattle.dms_links.specs.declared.altering.SlotChange.TheVariants.{Owned}
use Rattle.dms_manual.specs.Answered.{put_is}
use Rattle.dms_manual.specs.Entered.{IsSmallPair, as_member, manual_of}
use Rattle.dms_manual.specs.Entering.{Enters, entry_put}
use Rattle.dms_manual.specs.Listed.{bytes_for, manual_entered}
use Rattle.dms_manual.specs.Moves.{SmallIn, any_placed, with_entry_of}
use Rattle.dms_model.specs.Db.{Db}
use Rattle.dms_model.specs.Members.{names}
use Rattle.dms_model.specs.Stores.{is_full}
use Rattle.dms_model.specs.Uses.{clashes_for, enter_answer, entry_before, entry_of, has_entry, is_in_subset}
use Rattle.dms_model.specs.Valid.{EntryStands, is_manual, owner_stands}
use Rattle.dms_model.specs.declared.put.Put.{Put}
use Rattle.dms_model.specs.declared.put.Put.TheVariants.{Stored, Duplicate, Full}
use Rattle.dms_sets.specs.Changes.{OtherListsStay, list_of_set}
use Rattle.dms_sets.specs.Keeping.{Calm, seen_list}
use Rattle.dms_sets.specs.Sets.{kinds_over}
use Rattle.dms_spelling.specs.After.{slots_steps, stands_after}
use Rattle.dms_spelling.specs.Back.{spelled_files}
use Rattle.dms_spelling.specs.Few.{has_room}
use Rattle.dms_spelling.specs.Holds.{have_slots, is_told, number_low, small_in}
use Rattle.dms_spelling.specs.Serving.{IsServed}
use Rattle.dms_spelling.specs.Spelled.{database_in}
use Rattle.dms_spelling.specs.Stands.{StandsFiles, owner_small, spell_by}
use Rattle.dms_tally.specs.Counts.{counted_in, owned_in}
use Rattle.dms_tally.specs.Tally.{owned_entered}
use Rattle.dms_entries.specs.OneList.{is_of_manual, list_room, list_seen, lists_after, over_manual, records_after, slots_after, stands_as}
use Rattle.dms_entries.specs.Owners.{more_at, more_counted, owned_more, owner_more, owner_steps}
use Rattle.dms_entries.specs.Promises.{IsMember}
use Rattle.dms_entries.specs.Rising.{entries_more}

-- ---- a member

-- the record of a member
pub record OfRecord (db : Db) (s : Shape) (number : ℕ) (rec : Record) : Type 0 where
  pub record_is : Record
  pub there : get db.records (s.set, number) ≡ Some record_is
  pub same : record record_is { owner = rec.owner } ≡ rec

pub of_record : (db : Db) (s : Shape) (number : ℕ) (rec : Record) → IsMember db s number rec → OfRecord db s number rec
of_record db s number rec member = by (get db.records (s.set, number)) refl member.stands
  where
    by : (o : Option Record) → get db.records (s.set, number) ≡ o → as_member rec.owner o ≡ Some rec → OfRecord db s number rec
    by None is h = absurd (cc h)
    by (Some r) is h = record { record_is = r; there = is; same = same_Some (record r { owner = rec.owner }) rec h }

-- ---- an answer that the entry is made

pub stored_says : (desc : Described) (db : Db) (subset owner number n : ℕ) → enter_answer desc db subset owner number ≡ Stored n
    → (has_entry db subset owner number ≡ false) × (is_full (structure_of desc subset) (length (filter (is_in_subset subset) db.entries)) ≡ false)
unfolding enter_answer
stored_says desc db subset owner number n h = by (has_entry db subset owner number) (clashes_for (structure_of desc subset) db owner number) (is_full (structure_of desc subset) (length (filter (is_in_subset subset) db.entries))) h
  where
    by : (a b c : Bool) → cond (a || b) (Duplicate subset) (cond c Full (Stored number)) ≡ Stored n → (a ≡ false) × (c ≡ false)
    by true b c h = absurd (cc h)
    by false true c h = absurd (cc h)
    by false false true h = absurd (cc h)
    by false false false h = (refl, refl)

pub stored_number : (desc : Described) (db : Db) (subset owner number n : ℕ) → enter_answer desc db subset owner number ≡ Stored n → n ≡ number
unfolding enter_answer
stored_number desc db subset owner number n h =
    by (has_entry db subset owner number || clashes_for (structure_of desc subset) db owner number) (is_full (structure_of desc subset) (length (filter (is_in_subset subset) db.entries))) h
  where
    by : (a c : Bool) → cond a (Duplicate subset) (cond c Full (Stored number)) ≡ Stored n → n ≡ number
    by true c h = absurd (cc h)
    by false true h = absurd (cc h)
    by false false h = cc h

-- ---- an entry

module _ {B : Type 0} {g : Ghosts B} (desc : Described) (served : IsServed desc) (s : Shape) (at : structure_of desc s.number ≡ Some s) (kind : s.kind ≡ 5) (db : Db) (a : Overlay B g) (told : IsTrue (under a).told) (spelt : database_in desc (overlay_content a) ≡ Some db)
    (number : ℕ) (rec : Record) (member : IsMember db s number rec) where
  abbrev own : Tally
  own = tally_of desc db

  abbrev owner : ℕ
  owner = rec.owner

  pub files : StandsFiles desc db (tally_of desc db) (overlay_content a)
  files = spelled_files desc (overlay_content a) db served spelt

  manual : is_manual (Some s) ≡ true
  manual = is_of_manual s kind

  pub small : SmallIn s db
  small = small_in desc served db own (overlay_content a) files.slots files.lists files.entries s.number s at manual

  abbrev is : OfRecord db s number rec
  is = of_record db s number rec member

  pub pair_small : IsSmallPair (rec.owner, number)
  pair_small =
      let n = number_low desc served db own (overlay_content a) files.slots s.set number is.record_is is.there in
      let o = owner_small desc db own (overlay_content a) served files.slots s.owner owner member.owner in
      (omega (arith, o), omega (arith, n.1))

  -- what the list answers is what the database answers
  pub answer_is : entry_put (kinds_over desc s) s number rec (manual_of desc db s) ≡ enter_answer desc db s.number rec.owner number
  answer_is =
      let t = is_told desc served db own (overlay_content a) files.slots files.lists files.entries s.number s at manual in
      ap (λ (r : Record). entry_put (kinds_over desc s) s number r (manual_of desc db s)) (sym is.same)
      ∙ put_is desc s db owner number is.record_is at kind small pair_small is.there t.fit t.rising t.stand

  entry_may : EntryStands desc db (entry_of s.number owner number)
  entry_may = record {
    manual = ap is_manual at ∙ manual;
    member = ap (λ t. is_some (get db.records (t, number))) (ap over_of at ∙ over_manual s kind) ∙ ap is_some is.there;
    owner = ap (λ t. owner_stands db.records t owner) (ap owner_of at) ∙ member.owner;
  }

  abbrev after : Db
  after = with_entry_of db s.number owner number

  still : (t : ℕ) → (t == s.number) ≡ false → (o m : ℕ) → has_entry after t o m ≡ has_entry db t o m
  still t off o m = any_placed (names t o m) entry_before (entry_of s.number owner number) db.entries ∙ ap (λ b. b || has_entry db t o m) named
    where
      named : names t o m (entry_of s.number owner number) ≡ false
      named = grind (arith, nat_tests, off)

  counted_same : (t m : ℕ) → counted_in desc db t m ≡ counted_in desc after t m
  unfolding counted_in
  counted_same t m = refl

  owner_is : (t m : ℕ) → ◌≡◌ {A = ℕ} (cond ((owner_of (structure_of desc s.number) == t) && (owner == m)) 1 0) (cond ((s.owner == t) && (owner == m)) 1 0)
  owner_is t m = ap (λ (o : Option Shape). cond ((owner_of o == t) && (owner == m)) 1 0) at

  counts_after : Counts desc after (owned_more own s.owner owner)
  counts_after = record {
    counted = λ t m low. ap (λ (f : ℕ → ℕ → ℕ). f t m) (more_counted own s.owner owner) ∙ counted_same t m;
    owned = λ t m low. more_at own s.owner owner t m low ∙ ap (λ k. owned_in desc db t m + k) (sym (owner_is t m)) ∙ sym (owned_entered desc db s.number owner number t m);
  }

  module _ (b : Overlay B g) (n : ℕ) (calm : Calm (λ m. m == s.number) n a b) (others : OtherListsStay s (seen_list a) (seen_list b)) where
    -- the list of the subset with the entry, and the slot of the owner, which counts it
    pub made_is : (z : Content) (done : Bool) (x : ℕ) → enter_answer desc db s.number rec.owner number ≡ Stored x → list_of_set (seen_list b) (kinds_over desc s) s ≡ Some (manual_of desc (with_entry_of db s.number rec.owner number) s)
        → AltersSteps desc (owner_steps s.owner rec.owner Owned) done (overlay_content b) z → (done ≡ true) × (database_in desc z ≡ Some (with_entry_of db s.number rec.owner number))
    made_is z done x stored list steps =
        let says = stored_says desc db s.number owner number x stored in
        let room : (t : Shape) → structure_of desc t.number ≡ Some t → t.number ≡ s.number → length (filter (is_in_subset s.number) db.entries) < t.population =
        λ t there same. has_place t there same says.1 in
        let entries = entries_more desc db s.number owner number files.entries entry_may says.0 room (λ k t there. number_at desc served.numbered k t there) in
        let have = have_slots desc served in
        let before = stands_as desc db after own (overlay_content b) refl (records_after desc served s at kind db own a told files b n calm) in
        let small_owned : s.owner ≢ 0 → own.owned s.owner owner + 1 < 2 ^ 32 = λ some. (has_room desc served db own (overlay_content a) files s.owner owner).owned in
        let counted = owner_more desc after own (overlay_content b) z have before s.owner owner member.owner done small_owned steps in
        let lists = lists_after desc served s at kind db own a told files after b n calm others refl still list in
        let only = slots_steps desc served (owner_steps s.owner owner Owned) done (overlay_content b) z (slots_after desc served s at kind db own a told files b n calm) steps in
        let stands = stands_after desc served after (owned_more own s.owner owner) (overlay_content a) (overlay_content b) z files.fit lists only counted.1 entries in
        (counted.0, spell_by desc after (owned_more own s.owner owner) z served stands counts_after)
      where
        has_place : (t : Shape) → structure_of desc t.number ≡ Some t → t.number ≡ s.number → is_full (structure_of desc s.number) (length (filter (is_in_subset s.number) db.entries)) ≡ false → length (filter (is_in_subset s.number) db.entries) < t.population
        has_place t there same off =
            let one : structure_of desc s.number ≡ Some t = ap (structure_of desc) (sym same) ∙ there in
            let test : nat_le t.population (length (filter (is_in_subset s.number) db.entries)) ≡ false = sym (ap (λ (o : Option Shape). is_full o (length (filter (is_in_subset s.number) db.entries))) one) ∙ off in
            grind (arith, nat_tests, test)

    -- What `enter_in` answers and leaves of the lists, then.
    pub list_says : (p : Put) → Enters (kinds_over desc s) s number rec (seen_list a) (seen_list b) p → p ≡ enter_answer desc db s.number rec.owner number
    list_says p h =
        let one = h (manual_of desc db s) (list_seen desc served s at kind db own a told files) (list_room desc served s at kind db own a told files) in
        one.answer_is ∙ answer_is

    pub list_made : (x : ℕ) → Enters (kinds_over desc s) s number rec (seen_list a) (seen_list b) (Stored x) → (x ≡ number) × (list_of_set (seen_list b) (kinds_over desc s) s ≡ Some (manual_of desc (with_entry_of db s.number rec.owner number) s))
    list_made x h =
        let one = h (manual_of desc db s) (list_seen desc served s at kind db own a told files) (list_room desc served s at kind db own a told files) in
        let stored = list_says (Stored x) h in
        let says = stored_says desc db s.number owner number x (sym stored) in
        let number_is = stored_number desc db s.number owner number x (sym stored) in
        let bytes = ap (λ (r : Record). with_entry (bytes_for (kinds_over desc s) s owner number r) (manual_of desc db s)) (sym is.same) in
        (number_is, one.done (ap Stored number_is) ∙ ap (λ (xs : List (List ℕ)). Some xs) (bytes ∙ sym (manual_entered desc s db owner number is.record_is is.there small pair_small says.0)))
