-- The number under which a record is stored, by the slots of its data set.
use Rattle.std.proofs.Common.{◌≡◌, ◌≢◌, ◌∙◌, ◌+◌, ◌-◌, ◌≤◌, ℕ, Bool, true, false, cond, Some, None, refl, sym, ap, length, slice_get, arith}
use Rattle.std.specs.Prelude.{nat_le, not}
use Rattle.std.specs.declared.option.Option.{Option}
use Rattle.std.specs.FinMap.{get}
use Rattle.std.proofs.lemmas.Option.{same_Some}
use Rattle.dms_block.specs.Content.{Content}
use Rattle.dms_desc.specs.Lookups.{structure_of}
use Rattle.dms_desc.specs.Shape.{Shape, Described}
use Rattle.dms_desc.specs.declared.record.Record.{Record}
use Rattle.dms_layout.specs.declared.slot.SlotRead.TheVariants.{Free, Bad}
use Rattle.dms_model.specs.declared.put.Put.TheVariants.{Stored, Full}
use Rattle.dms_model.specs.Db.{Db, Place, fresh, records_of}
use Rattle.dms_model.specs.Stores.{is_full, put_number}
use Rattle.dms_model.specs.Valid.{is_data_set}
use Rattle.dms_slots.specs.FileWritten.{all_good}
use Rattle.dms_slots.specs.SlotBlocks.{before_free, least_free, or_free, slot_at, slots_of}
use Rattle.dms_spelling.specs.Staying.{free_there}
use Rattle.dms_store.specs.PuttingFresh.{fresh_is, full_is}
use Rattle.dms_spelling.specs.Stands.{StandsFiles, some_slots}
use Rattle.dms_links.specs.Stands.{tally_of}
use Rattle.dms_spelling.specs.Back.{spelled_files}
use Rattle.dms_links.specs.Rows.{rec_in, rec_opt, file_in}
use Rattle.dms_spelling.specs.Serving.{IsServed}
use Rattle.dms_spelling.specs.Spelled.{database_in}
use Rattle.dms_store.specs.SpelledLaws.{spelled_stands}

some_within : (b : Bool) (most k n : ℕ) → nat_le k most ≡ b → ◌≡◌ {A = Option ℕ} (cond b (Some k) None) (Some n) → (k ≡ n) × (nat_le k most ≡ true)
some_within true most k n is h = (cc, is)
some_within false most k n is h = absurd (cc)

none_within : (b : Bool) (most k : ℕ) → nat_le k most ≡ b → ◌≡◌ {A = Option ℕ} (cond b (Some k) None) None → nat_le k most ≡ false
none_within true most k is h = absurd (cc)
none_within false most k is h = is

module _ (desc : Described) (served : IsServed desc) (db : Db) (c : Content) (set : ℕ) (s : Shape) (spelt : database_in desc c ≡ Some db) (at : structure_of desc set ≡ Some s) (is_set : is_data_set (Some s) ≡ true) where
  files : StandsFiles desc db (tally_of desc db) c
  files = spelled_files desc c db served spelt

  -- what stands under a number is the record in its slot
  pub record_is : (n : ℕ) → 1 ≤ n → get db.records (set, n) ≡ rec_opt (slot_at s (file_in c s) n)
  record_is n low = files.slots.records set n low ∙ ap (λ x. rec_in c x n) at ∙ ap (λ b. cond b (rec_opt (slot_at s (file_in c s) n)) None) is_set

  fine : (n : ℕ) → 1 ≤ n → slot_at s (file_in c s) n ≢ Bad
  fine n low = all_good s (file_in c s) n (some_slots desc set s served at) (files.slots.each set s at is_set).blocks

  most_number : (p : Place) (r : Record) → get db.records p ≡ Some r → p.0 ≡ set → p.1 ≤ s.population
  most_number p r there own =
      let x = spelled_stands desc c db served spelt p r there in
      let same : x.shape ≡ s = same_Some x.shape s (sym x.is ∙ ap (structure_of desc) own ∙ at) in
      omega (arith, x.stands.most, ap (λ (t : Shape). t.population) same)

  abbrev least : ℕ
  least = before_free (slots_of s (file_in c s)) + 1

  fresh_least : fresh db.records set ≡ least
  fresh_least = fresh_is db.records set s (file_in c s) record_is fine

  full_by : (b : Bool) → nat_le least s.population ≡ b → is_full (structure_of desc set) (length (records_of db.records set)) ≡ not b
  full_by b is = ap (λ o. is_full o (length (records_of db.records set))) at ∙ full_is db.records set s (files.slots.none set) most_number b (ap (λ n. nat_le n s.population) fresh_least ∙ is)

  -- the least free slot is that of a new record
  pub number_new : (n : ℕ) → Some n ≡ least_free s (file_in c s) → put_number desc db set None ≡ Stored n
  number_new n is =
      let w = some_within (nat_le least s.population) s.population least n refl (sym is) in
      ap (λ b. cond b Full (Stored (fresh db.records set))) (full_by true w.1) ∙ ap (λ k. Stored k) (fresh_least ∙ w.0)

  pub number_none : None ≡ least_free s (file_in c s) → put_number desc db set None ≡ Full
  number_none is = ap (λ b. cond b Full (Stored (fresh db.records set))) (full_by false (none_within (nat_le least s.population) s.population least refl (sym is)))

  pub free_new : (n : ℕ) → Some n ≡ least_free s (file_in c s) → slot_at s (file_in c s) n ≡ Free
  free_new n is =
      let w = some_within (nat_le least s.population) s.population least n refl (sym is) in
      let e : n - 1 ≡ before_free (slots_of s (file_in c s)) = omega (arith, w.0) in
      ap (λ k. or_free (slice_get (slots_of s (file_in c s)) k)) e ∙ free_there (slots_of s (file_in c s))

  -- no record stands behind POPULATION
  pub none_above : get db.records (set, s.population + 1) ≡ None
  none_above = by (get db.records (set, s.population + 1)) refl
    where
      by : (o : Option Record) → get db.records (set, s.population + 1) ≡ o → o ≡ None
      by None is = refl
      by (Some r) is = absurd (omega (arith, most_number (set, s.population + 1) r is refl))
