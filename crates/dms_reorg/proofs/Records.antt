-- The records of a database, and the slots and entries that they have.
use Rattle.std.proofs.Common.{◌≡◌, ◌∙◌, ◌≤◌, ◌++◌, ℕ, suc, List, [], ◌∷◌, Bool, true, cond, None, Some, map, option_map, refl, sym, ap, subst, arith}
use Rattle.std.specs.declared.option.Option.{Option}
use Rattle.std.specs.FinMap.{entries, entries_sorted, get, get-entries}
use Rattle.std.specs.List.{AllByRecursion}
use Rattle.dms_base.specs.declared.value.Value.{Value}
use Rattle.dms_desc.specs.Shape.{Described, Shape}
use Rattle.dms_desc.specs.declared.record.Record.{Record}
use Rattle.dms_block.specs.Content.{Content}
use Rattle.dms_desc.specs.Lookups.{structure_of}
use Rattle.dms_layout.specs.declared.slot.SlotRead.{SlotRead}
use Rattle.dms_layout.specs.declared.slot.SlotRead.TheVariants.{Free, Used, Bad}
use Rattle.dms_links.specs.Rows.{file_in, rec_in, rec_opt}
use Rattle.dms_links.specs.Stands.{FileStands, RecordsStand, Tally}
use Rattle.dms_model.specs.Db.{Db, Place}
use Rattle.dms_model.specs.Valid.{is_data_set}
use Rattle.dms_sets.specs.Listing.{AllPlaces}
use Rattle.dms_sets.specs.Sets.{IsSmall}
use Rattle.dms_sets.specs.Spots.{all_found, StandsAmong}
use Rattle.dms_slots.specs.FileWritten.{all_good}
use Rattle.dms_slots.specs.SlotBlocks.{slot_at}
use Rattle.dms_spelling.specs.Holds.{number_low}
use Rattle.dms_spelling.specs.Serving.{IsServed}
use Rattle.dms_spelling.specs.Stands.{some_slots}
use Rattle.dms_reorg.specs.Extended.{extended_record, extended_row, first_values, further}
use Rattle.dms_reorg.specs.Filled.{AreRecordsOf}
use Rattle.dms_reorg.specs.Records.{HasSmallNumbers, HoldsSet, KeepsNumbers, SpelledHolds, WidensRecords}
use Rattle.dms_reorg.specs.Widened.{HasNoneBehind, widened}
use Rattle.dms_reorg.proofs.Extended.{extends_gives, rows_extended}

-- ---- the files of a database

module _ (desc : Described) (db : Db) (own : Tally) (c : Content) (served : IsServed desc) (slots : RecordsStand desc db own c) where
  small_found : (es : List (Place × Record)) → AllByRecursion (StandsAmong (entries db.records)) es → AllPlaces IsSmall es
  small_found [] found = tt
  small_found (e ∷ es) found =
      let low = number_low desc served db own c slots e.0.0 e.0.1 e.1 (get-entries db.records e.0 ∙ found.0) in
      (omega (arith, low.1), small_found es found.1)

  pub small_numbers : HasSmallNumbers db
  small_numbers = small_found (entries db.records) (all_found (entries db.records) (entries_sorted db.records))

  module _ (set : ℕ) (s : Shape) (at : structure_of desc set ≡ Some s) (is_set : is_data_set (Some s) ≡ true) where
    held : (n : ℕ) → 1 ≤ n → rec_opt (slot_at s (file_in c s) n) ≡ get db.records (set, n)
    held n low = sym (slots.records set n low ∙ ap (λ (o : Option Shape). rec_in c o n) at ∙ ap (λ (b : Bool). cond b (rec_opt (slot_at s (file_in c s) n)) None) is_set)

    none_behind : HasNoneBehind s (file_in c s)
    none_behind n high = by (slot_at s (file_in c s) n) refl
      where
        file : FileStands desc db own s (file_in c s)
        file = slots.each set s at is_set

        by : (r : SlotRead) → slot_at s (file_in c s) n ≡ r → slot_at s (file_in c s) n ≡ Free
        by Free is = is
        by (Used slot) is = (let most = (file.slots n slot (omega (arith, high)) is).most in absurd (omega (arith, most, high)))
        by Bad is = absurd (all_good s (file_in c s) n (some_slots desc set s served at) file.blocks is)

pub spelled_holds : SpelledHolds
spelled_holds desc db own c set s served slots at is_set = (
  record { none = slots.none set; each = held desc db own c served slots set s at is_set; behind = none_behind desc db own c served slots set s at is_set },
  small_numbers desc db own c served slots,
)

-- ---- the extended database

-- a record with values behind its own
abbrev with_more : List Value → Record → Record
with_more more r = record { owner = r.owner; values = r.values ++ more }

widened_rec : (more : List Value) (r : SlotRead) → rec_opt (widened more r) ≡ option_map (with_more more) (rec_opt r)
widened_rec more Free = refl
widened_rec more (Used slot) = refl
widened_rec more Bad = refl

pub widens_records : WidensRecords
widens_records old new db set s t bs cs holds room file = record {
  none = extends_gives old new db (set, 0) ∙ ap (option_map (extended_record old new set)) holds.none;
  each = λ n low.
      ap rec_opt (file.slots n low) ∙ widened_rec (first_values (further old new set)) (slot_at s bs n) ∙ ap (option_map (extended_record old new set)) (holds.each n low)
      ∙ sym (extends_gives old new db (set, n));
  behind = λ n high. file.slots n (omega (arith, high)) ∙ ap (widened (first_values (further old new set))) (holds.behind n (omega (arith, high, room)));
}

small_rows : (old new : Described) (es : List (Place × Record)) → AllPlaces IsSmall es → AllPlaces IsSmall (map (extended_row old new) es)
small_rows old new [] small = tt
small_rows old new (e ∷ es) small = (small.0, small_rows old new es small.1)

pub keeps_numbers : KeepsNumbers
keeps_numbers old new db small = subst (AllPlaces IsSmall) (sym (rows_extended old new db)) (small_rows old new (entries db.records) small)

pub holds_set : HoldsSet
holds_set desc db t s bs own holds records small =
    let are : AreRecordsOf s t bs db.records = record { none = records.none; each = λ n. sym (records.each (suc n) (omega arith)); small = small } in
    holds.kept db.records are
