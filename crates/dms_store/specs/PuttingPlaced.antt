-- The same, in the words of the calls that store a record.
use Rattle.std.proofs.Common.{◌≡◌, ◌≢◌, ◌∙◌, ◌+◌, ◌^◌, ◌<◌, ◌≤◌, ℕ, [], refl, Bool, true, IfSome, IsTrue, Some, None, sym, ap, subst, length, arith}
use Rattle.std.specs.FinMap.{get}
use Rattle.std.specs.List.{list_all}
use Rattle.std.specs.Prelude.{◌&&◌, nat_le}
use Rattle.std.specs.declared.result.Result.TheVariants.{Ok}
use Rattle.std.proofs.lemmas.Bool.Decides.{nat_tests}
use Rattle.std.specs.declared.option.Option.{Option}
use Rattle.std.proofs.lemmas.Bool.{and_parts}
use Rattle.dms_block.specs.declared.blocks.Blocks.{Ghosts}
use Rattle.dms_block.specs.declared.overlay.Overlay.{Overlay}
use Rattle.dms_block.specs.Content.{Content}
use Rattle.dms_block.specs.Held.{BlocksAgree}
use Rattle.dms_block.specs.View.{ReadsOverlay, overlay_content, seen_counts, under}
use Rattle.dms_block.specs.ViewLaws.{seen_still}
use Rattle.dms_desc.specs.Lookups.{items_of, structure_of}
use Rattle.dms_desc.specs.Shape.{Shape, Described}
use Rattle.dms_desc.specs.declared.record.Record.{Record}
use Rattle.dms_layout.specs.Slots.{SlotFits, slot_bytes}
use Rattle.dms_desc.specs.Fitting.{values_fit}
use Rattle.dms_layout.specs.declared.slot.Slot.{Slot}
use Rattle.dms_model.specs.declared.put.Put.{Put}
use Rattle.dms_model.specs.declared.put.Put.TheVariants.{Stored, Duplicate as Refused, Full}
use Rattle.dms_model.specs.Db.{Db}
use Rattle.dms_model.specs.Fitting.{AreFitting, IsNumber, RecordFits, is_number}
use Rattle.dms_model.specs.FitLaws.{linked_fits, null_fits}
use Rattle.dms_model.specs.Stores.{with_links_of, kept_owner}
use Rattle.dms_model.specs.Valid.{is_data_set}
use Rattle.dms_desc.specs.Files.{file_of}
use Rattle.dms_slots.specs.SlotBlocks.{block_of, is_block, slot_at, slot_opt, slot_put}
use Rattle.dms_slots.specs.Seen.{BadAt, BadIn}
use Rattle.dms_store.specs.Files.{all_of}
use Rattle.dms_store.specs.Finding.{record_fits_opt, seen_below}
use Rattle.dms_spelling.specs.ServingLaws.{served_at}
use Rattle.dms_store.specs.Lifted.{IsUsable, db_of}
use Rattle.dms_store.specs.PuttingAfter.{slot_after, slot_links, with_record}
use Rattle.dms_links.specs.Stands.{tally_of}
use Rattle.dms_links.specs.Stepping.{AreSlotFiles}
use Rattle.dms_sets.specs.Keeping.{FileStays}
use Rattle.dms_spelling.specs.Grown.{IsNoList, set_no_list}
use Rattle.dms_spelling.specs.Holds.{fit_all}
use Rattle.dms_store.specs.PuttingAnswers.{refusal}
use Rattle.dms_store.specs.PuttingEnters.{FindsSlot, IsEntered, IsJudged, IsPlaced, IsUncounted, OwnerStands, blocks_good, leaves_uncounted, record_was, slots_after}
use Rattle.dms_store.specs.PuttingLaws.{MayStand}
use Rattle.dms_store.specs.PuttingLists.{ListsLeft}
use Rattle.dms_store.specs.PuttingOwners.{MayCount, may_count, owner_opt, spell, tally_after}
use Rattle.dms_store.specs.PuttingNumbers.{none_above}
use Rattle.dms_spelling.specs.Stands.{StandsFiles}
use Rattle.dms_links.specs.Rows.{rec_opt}
use Rattle.dms_spelling.specs.Serving.{IsServed}
use Rattle.dms_spelling.specs.Spelled.{database_in}
use Rattle.dms_store.specs.Undamaged.{no_bad_slot}

-- what is stored for a record that fits, links as they stood, fits
pub made_fits : (desc : Described) (set : ℕ) (s : Shape) (o : Option Slot) (rec : Record) → structure_of desc set ≡ Some s → IfSome o (SlotFits s) → RecordFits desc set rec → RecordFits desc set (with_links_of s.items (rec_opt (slot_opt o)) rec)
made_fits desc set s o rec at old fits = record {
  owner = low o old;
  values = subst (λ (q : Option Shape). AreFitting (items_of q) (with_links_of s.items (rec_opt (slot_opt o)) rec).values) (sym at) (by o old (subst (λ (q : Option Shape). AreFitting (items_of q) rec.values) at fits.values));
}
  where
    low : (x : Option Slot) → IfSome x (SlotFits s) → kept_owner (rec_opt (slot_opt x)) rec.owner < 2 ^ 32
    low None f = fits.owner
    low (Some slot) f = f.owner

    olds : (x : Record) → RecordFits desc set x → AreFitting s.items x.values
    olds x f = subst (λ (q : Option Shape). AreFitting (items_of q) x.values) at f.values

    by : (x : Option Slot) → IfSome x (SlotFits s) → AreFitting s.items rec.values → AreFitting s.items (with_links_of s.items (rec_opt (slot_opt x)) rec).values
    by None f g = linked_fits s.items [] rec.values g (λ k item there. null_fits item.kind) tt
    by (Some slot) f g = let h = olds slot.rec (record_fits_opt desc set s (Some slot) at f) in linked_fits s.items slot.rec.values rec.values g h.fit h.plain

-- as the codec of slots asks it
pub values_all : (desc : Described) (set : ℕ) (s : Shape) (rec : Record) → structure_of desc set ≡ Some s → RecordFits desc set rec → IsTrue (values_fit s.items rec.values)
values_all desc set s rec at fits = let f : AreFitting s.items rec.values = subst (λ (q : Option Shape). AreFitting (items_of q) rec.values) at fits.values in fit_all s.items rec.values f.lengths f.fit

pub few_numbers : (desc : Described) (set number : ℕ) (s : Shape) → IsServed desc → structure_of desc set ≡ Some s → number ≤ s.population → number ≤ 1000000
few_numbers desc set number s served at most = omega (arith, most, (served_at desc set s served at).population)

module _ {B : Type 0} {g : Ghosts B} (desc : Described) (a : Overlay B g) (usable : IsUsable desc a) (agrees : BlocksAgree (under a)) (s : Shape) (number : ℕ) (at : structure_of desc s.number ≡ Some s) (is_set : is_data_set (Some s) ≡ true) (low : 1 ≤ number) (most : number ≤ s.population)
    (slot : Slot) (fits : RecordFits desc s.number slot.rec) (old : Option Record) (db : Db) (o : Option Slot) (rec : Record) (p : IsPlaced desc db s number o rec old slot a) where
  may : MayStand desc s.number number s rec
  may = record { at = at; is_set = is_set; low = low; most = most; long = p.long }

  pub made_is : slot.rec ≡ with_links_of s.items (rec_opt (slot_opt o)) rec
  made_is = ap (λ (x : Slot). x.rec) p.slot_is ∙ slot_links s.items o rec

  made_fit : RecordFits desc s.number (with_links_of s.items (rec_opt (slot_opt o)) rec)
  made_fit = subst (RecordFits desc s.number) made_is fits

  -- what stands under the number
  pub old_at : get db.records (s.number, number) ≡ old
  old_at = record_was desc usable.serves.served s s.number number o rec db a p.told agrees usable.none p.spelt may p.was made_fit ∙ p.old_is

  -- the files after the lists were changed
  module _ (b : Overlay B g) (stays : (k : ℕ) → IsNoList desc k → FileStays k a b) where
    -- the blocks of the data set's file are blocks of slots
    pub not_bad : (told : IsTrue (under b).told) (k f i : ℕ) → BadAt s k b f i → ⊥
    not_bad told k f i bad =
        let same : overlay_content b (file_of s.number) ≡ overlay_content a (file_of s.number) = (stays s.number (set_no_list desc s.number s at is_set)).1 p.told in
        let here = bad.0.0.1 told in
        let good = ap (list_all (is_block s)) same ∙ blocks_good desc usable.serves.served s s.number number o rec db a p.told agrees usable.none p.spelt may p.was made_fit in
        absurd (cc (all_of (is_block s) (overlay_content b (file_of s.number)) i good here.0, here.1))

    left_made : (answer : Option ℕ) → ListsLeft desc db s.number number slot.rec (overlay_content a) (overlay_content b) answer → ListsLeft desc db s.number number (with_links_of s.items (rec_opt (slot_opt o)) rec) (overlay_content a) (overlay_content b) answer
    left_made answer left = subst (λ (r : Record). ListsLeft desc db s.number number r (overlay_content a) (overlay_content b) answer) made_is left

    -- the files with the record, before its owner counts it
    module _ (z : Overlay B g) (next : block_of s.items number ≤ seen_counts a (file_of s.number)) (is : overlay_content z ≡ slot_put s number (slot_bytes s.items slot) (overlay_content b)) (answer : Option ℕ) (left : ListsLeft desc db s.number number slot.rec (overlay_content a) (overlay_content b) answer) (done : answer ≡ None) where
      put_is : overlay_content z ≡ slot_put s number (slot_bytes s.items (slot_after s.items o rec)) (overlay_content b)
      put_is = is ∙ ap (λ (x : Slot). slot_put s number (slot_bytes s.items x) (overlay_content b)) p.slot_is

      pub slots_at : s.owner ≢ 0 → AreSlotFiles desc (overlay_content z)
      slots_at apart =
          slots_after desc usable.serves.served s s.number number o rec db a p.told agrees usable.none p.spelt may p.was made_fit b z stays p.slots next apart ((left_made answer left).lists done) put_is

      pub uncounted_at : OwnerStands db s o rec → IsUncounted desc db s.number number slot.rec (overlay_content z) (Stored number)
      uncounted_at owner =
          subst (λ (r : Record). IsUncounted desc db s.number number r (overlay_content z) (Stored number)) (sym made_is)
          (leaves_uncounted desc usable.serves.served s s.number number o rec db a p.told agrees usable.none p.spelt may p.was made_fit b z stays p.slots next owner answer (left_made answer left) done put_is)

  pub refused_at : (b : Overlay B g) (answer : Option ℕ) (k : ℕ) → ListsLeft desc db s.number number slot.rec (overlay_content a) (overlay_content b) answer → answer ≡ Some k → IsUncounted desc db s.number number slot.rec (overlay_content b) (Refused k)
  refused_at b answer k left is = sym left.answer_is ∙ is

  -- ---- the owner's count

  spelt_seen : database_in desc (overlay_content a) ≡ Some db
  spelt_seen = ap (database_in desc) (seen_below a usable.none) ∙ p.spelt

  abbrev after : Db
  after = with_record db s.number number slot.rec

  after_is : after ≡ with_record db s.number number (with_links_of s.items (rec_opt (slot_opt o)) rec)
  after_is = ap (with_record db s.number number) made_is

  -- what is counted so spells the database with the record
  pub spelled_at : (d : Content) → StandsFiles desc after (tally_after (tally_of desc db) s.owner (owner_opt o) rec.owner) d → database_in desc d ≡ Some after
  spelled_at d files =
      spell desc usable.serves.served db (overlay_content a) s.number number s o rec spelt_seen may p.was d
      (subst (λ (x : Db). StandsFiles desc x (tally_after (tally_of desc db) s.owner (owner_opt o) rec.owner) d) after_is files)
      ∙ ap (λ (x : Db). Some x) (sym after_is)

  -- where a record is replaced nothing is to be counted
  pub entered_old : (x : Slot) → o ≡ Some x → (d : Content) (q : Put) → IsUncounted desc db s.number number slot.rec d q → IsEntered desc db s.number number slot.rec d q
  entered_old x is d (Stored n) h = (h.0, h.1, spelled_at d (subst (λ (y : Option Slot). StandsFiles desc after (tally_after (tally_of desc db) s.owner (owner_opt y) rec.owner) d) (sym is) h.2))
  entered_old x is d (Refused k) h = h
  entered_old x is d Full h = h

  module _ (new : old ≡ None) (owner : OwnerStands db s o rec) where
    no_slot : o ≡ None
    no_slot = by o (p.old_is ∙ new)
      where
        by : (x : Option Slot) → rec_opt (slot_opt x) ≡ None → x ≡ None
        by None h = refl
        by (Some x) h = absurd (cc h)

    own_owner : slot.rec.owner ≡ rec.owner
    own_owner = ap (λ (r : Record). r.owner) made_is ∙ ap (λ x. kept_owner x rec.owner) (p.old_is ∙ new)

    -- the owner of a new record may count it
    pub may_count_at : MayCount after (tally_of desc db) s.owner slot.rec.owner
    may_count_at =
        subst (λ m. MayCount after (tally_of desc db) s.owner m) (sym own_owner)
        (subst (λ (x : Db). MayCount x (tally_of desc db) s.owner rec.owner) (sym after_is) (may_count desc usable.serves.served db (overlay_content a) s.number number s o rec spelt_seen may p.was (owner.stands no_slot)))

    pub counted_at : (d : Content) → StandsFiles desc after (tally_after (tally_of desc db) s.owner None slot.rec.owner) d → database_in desc d ≡ Some after
    counted_at d files =
        spelled_at d
        (subst (λ m. StandsFiles desc after (tally_after (tally_of desc db) s.owner (owner_opt o) m) d) own_owner
        (subst (λ (x : Option Slot). StandsFiles desc after (tally_after (tally_of desc db) s.owner (owner_opt x) slot.rec.owner) d) (sym no_slot) files))

-- ---- what the calls ask

pub after_fits : (desc : Described) (set : ℕ) (s : Shape) (o : Option Slot) (rec : Record) (x : Slot) → structure_of desc set ≡ Some s → IfSome o (SlotFits s) → RecordFits desc set rec → x ≡ slot_after s.items o rec → RecordFits desc set x.rec
after_fits desc set s o rec x at old fits is = subst (RecordFits desc set) (sym (ap (λ (y : Slot). y.rec) is ∙ slot_links s.items o rec)) (made_fits desc set s o rec at old fits)

pub long_of : (desc : Described) (set : ℕ) (s : Shape) (rec : Record) → structure_of desc set ≡ Some s → RecordFits desc set rec → length rec.values ≡ length s.items
long_of desc set s rec at fits = fits.values.lengths ∙ ap (λ (o : Option Shape). length (items_of o)) at

pub number_fits : (desc : Described) (set number : ℕ) (s : Shape) → structure_of desc set ≡ Some s → 1 ≤ number → number ≤ s.population → IsNumber desc set number
number_fits desc set number s at low most = ap (λ o. is_number o number) at ∙ in_range number s.population low most
  where
    in_range : (n p : ℕ) → 1 ≤ n → n ≤ p → (nat_le 1 n && nat_le n p) ≡ true
    in_range n p low most = grind (arith, nat_tests)

pub places_slot : {B : Type 0} {g : Ghosts B} (desc : Described) (db : Db) (s : Shape) (number : ℕ) (o : Option Slot) (rec : Record) (old : Option Record) (slot : Slot) (a : Overlay B g) → FindsSlot desc db s number o a → structure_of desc s.number ≡ Some s → IfSome o (SlotFits s) → RecordFits desc s.number rec
    → rec_opt (slot_opt o) ≡ old → slot ≡ slot_after s.items o rec → IsPlaced desc db s number o rec old slot a
places_slot desc db s number o rec old slot a found at slots fits old_is slot_is = record { told = found.told; spelt = found.spelt; was = found.was; slots = slots; long = long_of desc s.number s rec at fits; old_is = old_is; slot_is = slot_is }

-- ---- where no number is free

module _ {B : Type 0} {g : Ghosts B} (desc : Described) (a : Overlay B g) (usable : IsUsable desc a) (s : Shape) (number : ℕ) (at : structure_of desc s.number ≡ Some s) (is_set : is_data_set (Some s) ≡ true) (above : number ≡ s.population + 1) (slot : Slot) (rec : Record)
    (slot_is : slot ≡ slot_after s.items None rec) (fits : RecordFits desc s.number rec) (db : Db) (told : IsTrue (under a).told) (spelt : database_in desc (under a).content ≡ Some db) where
  rec_is : slot.rec ≡ with_links_of s.items None rec
  rec_is = ap (λ (x : Slot). x.rec) slot_is

  -- no record stands behind POPULATION
  pub none_there : get db.records (s.number, number) ≡ None
  none_there = ap (λ n. get db.records (s.number, n)) above ∙ none_above desc usable.serves.served db (under a).content s.number s spelt at is_set

  refusal_is : refusal desc db s.number (Some (s.population + 1)) (with_links_of s.items None rec) ≡ refusal desc db s.number (Some number) slot.rec
  refusal_is = λ i. refusal desc db s.number (Some (sym above i)) (sym rec_is i)

  pub refused_none : (c d : Content) (answer : Option ℕ) (k : ℕ) → ListsLeft desc db s.number number slot.rec c d answer → answer ≡ Some k → IsJudged desc db s.number (s.population + 1) (with_links_of s.items None rec) (Refused k)
  refused_none c d answer k left is = refusal_is ∙ sym left.answer_is ∙ is

  pub full_none : (c d : Content) (answer : Option ℕ) → ListsLeft desc db s.number number slot.rec c d answer → answer ≡ None → IsJudged desc db s.number (s.population + 1) (with_links_of s.items None rec) Full
  full_none c d answer left is = refusal_is ∙ sym left.answer_is ∙ is

-- ---- no block of slots is bad

pub db_told : (desc : Described) (told : Bool) (c : Content) (db : Db) → IsTrue told → database_in desc c ≡ Some db → db_of desc told c ≡ Some db
db_told desc told c db is spelt = ap (λ b. db_of desc b c) is ∙ spelt

pub none_bad : {B : Type 0} {g : Ghosts B} (desc : Described) (a : Overlay B g) (s : Shape) (db : Db) → IsUsable desc a → structure_of desc s.number ≡ Some s → is_data_set (Some s) ≡ true → IsTrue (under a).told → database_in desc (under a).content ≡ Some db → (f k : ℕ) → BadIn s a f k → ⊥
none_bad desc a s db usable at is_set told spelt f k bad = no_bad_slot desc a usable db (db_told desc (under a).told (under a).content db told spelt) s.number f k (ap is_data_set at ∙ is_set) (s, at, bad)

-- ---- after a read

module _ {B : Type 0} {g : Ghosts B} (desc : Described) (a b : Overlay B g) (usable : IsUsable desc a) (db : Db) (told : IsTrue (under a).told) (spelt : database_in desc (under a).content ≡ Some db) {T : Type 0} {n : ℕ} {x : T} (reads : ReadsOverlay n (Ok x) a b) where
  pub told_on : IsTrue (under b).told
  told_on = reads.looks.passes.lasts.told ∙ told

  pub spelt_on : database_in desc (under b).content ≡ Some db
  spelt_on = ap (database_in desc) (reads.looks.same.content told) ∙ spelt

  pub found_on : (s : Shape) (number : ℕ) (o : Option Slot) → slot_at s ((under a).content (file_of s.number)) number ≡ slot_opt o → FindsSlot desc db s number o b
  found_on s number o was = record {
    told = told_on;
    spelt = spelt_on;
    was = ap (λ (c : Content). slot_at s (c (file_of s.number)) number) (seen_still reads told ∙ seen_below a usable.none) ∙ was;
  }

-- numbers that are named are those of the data set
pub numbers_of : (desc : Described) (set : ℕ) (s : Shape) (o : Option ℕ) → structure_of desc set ≡ Some s → IfSome o (IsNumber desc set) → IfSome o (λ n. (1 ≤ n) × (n ≤ s.population))
numbers_of desc set s None at h = tt
numbers_of desc set s (Some n) at h = in_range n s.population (sym (ap (λ o. is_number o n) at) ∙ h)
  where
    in_range : (n p : ℕ) → (nat_le 1 n && nat_le n p) ≡ true → (1 ≤ n) × (n ≤ p)
    in_range n p h = let both = and_parts (nat_le 1 n) (nat_le n p) h in (grind (arith, nat_tests, both.0), grind (arith, nat_tests, both.1))
