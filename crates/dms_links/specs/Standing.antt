-- A record that stands has a slot, and a step that alters it is made where its counts allow it.
use Rattle.std.proofs.Common.{◌≡◌, ◌≢◌, ◌∙◌, ◌+◌, ◌-◌, ◌^◌, ◌<◌, ◌≤◌, ℕ, zero, suc, Bool, true, false, cond, Some, None, refl, sym, ap, subst, slice_set, arith}
use Rattle.std.specs.Prelude.{◌&&◌, ◌==◌, is_some, nat_le}
use Rattle.std.specs.declared.option.Option.{Option}
use Rattle.std.specs.FinMap.{get}
use Rattle.std.proofs.lemmas.Bool.Decides.{nat_tests}
use Rattle.std.proofs.lemmas.Option.{same_Some}
use Rattle.dms_block.specs.Content.{Content}
use Rattle.dms_desc.specs.Lookups.{structure_of}
use Rattle.dms_desc.specs.Shape.{Shape, Described}
use Rattle.dms_layout.specs.declared.slot.Slot.{Slot}
use Rattle.dms_layout.specs.declared.slot.SlotRead.{SlotRead}
use Rattle.dms_layout.specs.declared.slot.SlotRead.TheVariants.{Free, Used, Bad}
use Rattle.dms_model.specs.Db.{Db}
use Rattle.dms_model.specs.Uses.{corrected, link_value}
use Rattle.dms_model.specs.Valid.{is_data_set}
use Rattle.dms_slots.specs.SlotBlocks.{slot_at}
use Rattle.dms_links.specs.Altered.{IsAltered, counted_fewer, counted_more, slot_after, with_count, with_values}
use Rattle.dms_links.specs.AlteredLaws.{IsSlotOf, counted_at, slot_counted, slot_uncounted}
use Rattle.dms_links.specs.AlteringIn.{AltersIn, is_slot, slot_low, slot_set}
use Rattle.dms_links.specs.Linking.{number_at}
use Rattle.dms_links.specs.Rows.{file_in, rec_in, rec_opt}
use Rattle.dms_links.specs.Stands.{RecordsStand, SlotStands, Tally}
use Rattle.dms_links.specs.Stepping.{HaveSlotFiles}
use Rattle.dms_links.specs.declared.altering.SlotChange.{SlotChange}
use Rattle.dms_links.specs.declared.altering.SlotChange.TheVariants.{Counted, Uncounted, Corrected, Linked}

-- The slot of a record that stands.
pub record SlotThere (desc : Described) (db : Db) (own : Tally) (c : Content) (set number : ℕ) : Type 0 where
  pub shape : Shape
  pub at : structure_of desc set ≡ Some shape
  pub is_set : is_data_set (Some shape) ≡ true
  pub low : 1 ≤ number
  pub slot : Slot
  pub was : slot_at shape (file_in c shape) number ≡ Used slot
  pub stands : SlotStands desc db own shape number slot
  pub one : is_slot shape number ≡ true

not_both : false ≡ true → ⊥
not_both h = absurd (cc)

module _ (desc : Described) (db : Db) (own : Tally) (c : Content) (files : RecordsStand desc db own c) where
  in_range : (u : Shape) (n : ℕ) → is_data_set (Some u) ≡ true → 1 ≤ n → n ≤ u.population → is_slot u n ≡ true
  in_range u n is_set low most =
      let both : (nat_le 1 n && nat_le n u.population) ≡ true = grind (arith, nat_tests, low, most) in
      λ i. is_set i && both i

  there_by : (t m : ℕ) (u : Shape) (r : SlotRead) → 1 ≤ m → structure_of desc t ≡ Some u → is_data_set (Some u) ≡ true → slot_at u (file_in c u) m ≡ r → is_some (rec_opt r) ≡ true → SlotThere desc db own c t m
  there_by t m u Free low at is_set was h = absurd (not_both h)
  there_by t m u Bad low at is_set was h = absurd (not_both h)
  there_by t m u (Used slot) low at is_set was h =
      let there = (files.each t u at is_set).slots m slot low was in
      record { shape = u; at = at; is_set = is_set; low = low; slot = slot; was = was; stands = there; one = in_range u m is_set low there.most }

  there_in : (t m : ℕ) (o : Option Shape) (b : Bool) → 1 ≤ m → structure_of desc t ≡ o → is_data_set o ≡ b → is_some (rec_in c o m) ≡ true → SlotThere desc db own c t m
  there_in t m None b low at is_set h = absurd (not_both h)
  there_in t m (Some u) true low at is_set h =
      there_by t m u (slot_at u (file_in c u) m) low at is_set refl (sym (ap (λ x. is_some (cond x (rec_opt (slot_at u (file_in c u) m)) None)) is_set) ∙ h)
  there_in t m (Some u) false low at is_set h = absurd (not_both (sym (ap (λ x. is_some (cond x (rec_opt (slot_at u (file_in c u) m)) None)) is_set) ∙ h))

  -- A record that stands has one.
  pub slot_there : (t m : ℕ) → is_some (get db.records (t, m)) ≡ true → SlotThere desc db own c t m
  slot_there t zero h = absurd (not_both (sym (ap is_some (files.none t)) ∙ h))
  slot_there t (suc m) h =
      let one : 1 ≤ suc m = omega arith in
      there_in t (suc m) (structure_of desc t) (is_data_set (structure_of desc t)) one refl refl (sym (ap is_some (files.records t (suc m) one)) ∙ h)

-- ---- a step that can be made is made

module _ (desc : Described) (db : Db) (own : Tally) (c d : Content) (have : HaveSlotFiles desc) (files : RecordsStand desc db own c) (set number : ℕ) (stands : is_some (get db.records (set, number)) ≡ true) where
  abbrev there : SlotThere desc db own c set number
  there = slot_there desc db own c files set number stands

  pub is_of : IsSlotOf desc set number there.shape
  is_of = record {
    of = record { numbered = have.numbered; at = there.at; is_set = there.is_set };
    sized = have.sized set there.shape there.at;
    kinds = have.kinds set there.shape there.at;
    low = there.low;
  }

  pub slot_record : get db.records (set, number) ≡ Some there.slot.rec
  slot_record =
      files.records set number there.low ∙ ap (λ u. rec_in c u number) there.at ∙ ap (λ b. cond b (rec_opt (slot_at there.shape (file_in c there.shape) number)) None) there.is_set ∙ ap rec_opt there.was

  its_number : there.shape.number ≡ set
  its_number = number_at desc have.numbered set there.shape there.at

  -- the slot after the change is one
  pub made : (change : SlotChange) (next : Slot) (done : Bool) → slot_after there.shape.items change there.slot ≡ Some next → AltersIn desc set number change c d done → (done ≡ true) × IsAltered there.shape number change c d
  made change next true is h = (refl, h.here there.shape there.at there.one)
  made change next false is h = absurd ((h.here there.shape there.at there.one).none there.slot next there.was is)

  count_off : there.slot.counted + 1 < 2 ^ 32 → (there.slot.counted == 2 ^ 32 - 1) ≡ false
  count_off small = grind (arith, nat_tests, small)

  count_on : 1 ≤ there.slot.counted → (there.slot.counted == 0) ≡ false
  count_on some = grind (arith, nat_tests, some)

  -- one link more
  pub counts_more : (done : Bool) → own.counted set number + 1 < 2 ^ 32 → AltersIn desc set number Counted c d done → (done ≡ true) × RecordsStand desc db (counted_at own set number (own.counted set number + 1)) d
  counts_more done small h =
      let is : there.slot.counted ≡ own.counted set number = there.stands.counted ∙ ap (λ t. own.counted t number) its_number in
      let off = count_off (omega (arith, small, is)) in
      let next = with_count (there.slot.counted + 1) there.slot in
      let a = made Counted next done (ap (λ b. cond b None (Some next)) off) h in
      (a.0, slot_counted desc db own c d set number there.shape is_of Counted files a.1 a.1.is_next)

  -- one link fewer
  pub counts_fewer : (done : Bool) → 1 ≤ own.counted set number → AltersIn desc set number Uncounted c d done → (done ≡ true) × RecordsStand desc db (counted_at own set number (own.counted set number - 1)) d
  counts_fewer done some h =
      let is : there.slot.counted ≡ own.counted set number = there.stands.counted ∙ ap (λ t. own.counted t number) its_number in
      let off = count_on (omega (arith, some, is)) in
      let next = with_count (there.slot.counted - 1) there.slot in
      let a = made Uncounted next done (ap (λ b. cond b None (Some next)) off) h in
      (a.0, slot_uncounted desc db own c d set number there.shape is_of Uncounted files a.1 a.1.is_next)
