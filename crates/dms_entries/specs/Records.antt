-- The record with a number, by its slot.
use Rattle.std.proofs.Common.{◌≡◌, ◌∙◌, ◌≤◌, ℕ, zero, suc, true, false, cond, IsTrue, Some, None, refl, sym, ap, subst, arith}
use Rattle.std.specs.Prelude.{◌&&◌, nat_le}
use Rattle.std.specs.FinMap.{get}
use Rattle.std.specs.declared.option.Option.{Option}
use Rattle.std.specs.declared.result.Result.TheVariants.{Ok, Err}
use Rattle.std.proofs.lemmas.Bool.{and_parts}
use Rattle.std.proofs.lemmas.Bool.Decides.{nat_tests}
use Rattle.dms_block.specs.Content.{Content}
use Rattle.dms_block.specs.Held.{HasCausesOr}
use Rattle.dms_block.specs.HeldLaws.{looks_err}
use Rattle.dms_block.specs.View.{ReadsOverlay, overlay_content, under}
use Rattle.dms_block.specs.ViewLaws.{reads_as, reads_none}
use Rattle.dms_block.specs.declared.block_fault.BlockFault.{BlockFault}
use Rattle.dms_block.specs.declared.blocks.Blocks.{Ghosts}
use Rattle.dms_block.specs.declared.overlay.Overlay.{Overlay}
use Rattle.dms_chain.specs.SeenLaws.{causes_err}
use Rattle.dms_desc.specs.Lookups.{items_of, structure_of}
use Rattle.dms_desc.specs.Shape.{Shape, Described}
use Rattle.dms_desc.specs.declared.record.Record.{Record}
use Rattle.dms_layout.specs.Slots.{SlotFits}
use Rattle.dms_layout.specs.declared.slot.Slot.{Slot}
use Rattle.dms_layout.specs.declared.slot.SlotRead.{SlotRead}
use Rattle.dms_layout.specs.declared.slot.SlotRead.TheVariants.{Free, Used, Bad}
use Rattle.dms_links.specs.AlteringIn.{BadOf}
use Rattle.dms_links.specs.Rows.{file_in, rec_in, rec_opt}
use Rattle.dms_links.specs.Stands.{RecordsStand, tally_of}
use Rattle.dms_model.specs.Db.{Db}
use Rattle.dms_model.specs.FitLaws.{are_fitting}
use Rattle.dms_model.specs.Fitting.{AreFitting, RecordFits, is_number}
use Rattle.dms_model.specs.Valid.{is_data_set}
use Rattle.dms_slots.specs.Seen.{BadAt, blocks_of}
use Rattle.dms_slots.specs.SlotBlocks.{block_of, slot_at, slot_opt}
use Rattle.dms_spelling.specs.Back.{spelled_files}
use Rattle.dms_spelling.specs.Ready.{IsReady}
use Rattle.dms_spelling.specs.Spelled.{database_in}
use Rattle.dms_entries.specs.Promises.{ReadsRecord}

-- ---- a record and its slot

pub rec_fits : (desc : Described) (set : ℕ) (s : Shape) (slot : Slot) → structure_of desc set ≡ Some s → SlotFits s slot → RecordFits desc set slot.rec
rec_fits desc set s slot at f = record {
  owner = f.owner;
  values = subst (λ (o : Option Shape). AreFitting (items_of o) slot.rec.values) (sym at) (are_fitting s.items slot.rec.values f.plain f.values);
}

module _ (desc : Described) (db : Db) (c : Content) (files : RecordsStand desc db (tally_of desc db) c) (set number : ℕ) (s : Shape) (at : structure_of desc set ≡ Some s) (is_set : is_data_set (Some s) ≡ true) where
  rec_here : (n : ℕ) → rec_in c (structure_of desc set) n ≡ rec_opt (slot_at s (file_in c s) n)
  rec_here n = ap (λ (o : Option Shape). rec_in c o n) at ∙ ap (λ b. cond b (rec_opt (slot_at s (file_in c s) n)) None) is_set

  -- a number that a record may have
  pub got_slot : 1 ≤ number → (o : Option Slot) → slot_at s (file_in c s) number ≡ slot_opt o → get db.records (set, number) ≡ rec_opt (slot_opt o)
  got_slot low o was = files.records set number low ∙ rec_here number ∙ ap rec_opt was

  -- and one that none may have
  pub got_none : is_number (Some s) number ≡ false → get db.records (set, number) ≡ None
  got_none off = by number refl
    where
      too_high : (n : ℕ) → number ≡ n → 1 ≤ n → (r : SlotRead) → slot_at s (file_in c s) n ≡ r → rec_opt r ≡ None
      too_high n same low Free was = refl
      too_high n same low Bad was = refl
      too_high n same low (Used x) was =
          let most = ((files.each set s at is_set).slots n x low was).most in
          absurd (clash n same low most)
        where
          clash : (m : ℕ) → number ≡ m → 1 ≤ m → m ≤ s.population → ⊥
          clash m e one high = let on : (nat_le 1 number && nat_le number s.population) ≡ true = grind (arith, nat_tests, e, one, high) in absurd (cc (off, on))

      by : (n : ℕ) → number ≡ n → get db.records (set, number) ≡ None
      by zero same = ap (λ k. get db.records (set, k)) same ∙ files.none set
      by (suc n) same =
          let one : 1 ≤ suc n = omega arith in
          ap (λ k. get db.records (set, k)) same ∙ files.records set (suc n) one ∙ rec_here (suc n) ∙ too_high (suc n) same one (slot_at s (file_in c s) (suc n)) refl

number_low : (s : Shape) (number : ℕ) → is_number (Some s) number ≡ true → 1 ≤ number
number_low s number h = let test = (and_parts (nat_le 1 number) (nat_le number s.population) h).0 in grind (arith, nat_tests, test)

-- ---- what a call answers

module _ {B : Type 0} {g : Ghosts B} (desc : Described) (set number : ℕ) (s : Shape) (at : structure_of desc set ≡ Some s) (is_set : is_data_set (Some s) ≡ true) (a : Overlay B g) (ready : IsReady desc a) where
  slots : (db : Db) → IsTrue (under a).told → database_in desc (overlay_content a) ≡ Some db → RecordsStand desc db (tally_of desc db) (overlay_content a)
  slots db told spelt = (spelled_files desc (overlay_content a) db ready.served spelt).slots

  -- none may have the number
  pub reads_off : ((x : B) → g.same_blocks x x) → is_number (Some s) number ≡ false → ReadsRecord desc set number (Ok None) a a
  reads_off again off = record {
    found = λ told db spelt. sym (got_none desc db (overlay_content a) (slots db told spelt) set number s at is_set off);
    fits = tt;
    numbered = tt;
    reads = reads_none 1 (Ok None) a again tt ready.sound;
    causes = refl;
  }

  module _ (on : is_number (Some s) number ≡ true) where
    pub low : 1 ≤ number
    low = number_low s number on

    -- its slot couldn't be read,
    pub reads_failed : (b : Overlay B g) (e : BlockFault) → ReadsOverlay {T = Option Slot} 1 (Err e) a b → HasCausesOr {T = Option Slot} (BadAt s (block_of s.items number) a) (Err e) (under a) (under b) → ReadsRecord desc set number (Err e) a b
    reads_failed b e reads causes = record {
      found = tt;
      fits = tt;
      numbered = tt;
      reads = record { written_still = reads.written_still; looks = looks_err e reads.looks; same = reads.same };
      causes = causes_err (Option Slot) (Option Record) (BadAt s (block_of s.items number) a) (BadOf desc set a) e (under a) (under b) (λ f k bad. (s, at, is_set, bad.0)) causes;
    }

    -- is free,
    pub reads_free : (b : Overlay B g) → ReadsOverlay {T = Option Slot} 1 (Ok None) a b → (under b).faults ≡ (under a).faults → (IsTrue (under a).told → slot_at s (blocks_of s a) number ≡ Free) → ReadsRecord desc set number (Ok None) a b
    reads_free b reads same was = record {
      found = λ told db spelt. sym (got_slot desc db (overlay_content a) (slots db told spelt) set number s at is_set low None (was told));
      fits = tt;
      numbered = tt;
      reads = reads_as (Ok None) tt reads;
      causes = same;
    }

    -- or has the record.
    pub reads_used : (b : Overlay B g) (slot : Slot) → ReadsOverlay 1 (Ok (Some slot)) a b → (under b).faults ≡ (under a).faults → (IsTrue (under a).told → slot_at s (blocks_of s a) number ≡ Used slot) → SlotFits s slot → ReadsRecord desc set number (Ok (Some slot.rec)) a b
    reads_used b slot reads same was fits = record {
      found = λ told db spelt. sym (got_slot desc db (overlay_content a) (slots db told spelt) set number s at is_set low (Some slot) (was told));
      fits = rec_fits desc set s slot at fits;
      numbered = ap (λ (o : Option Shape). is_number o number) at ∙ on;
      reads = reads_as (Ok (Some slot.rec)) tt reads;
      causes = same;
    }
