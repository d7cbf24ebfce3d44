-- The files of a content after the slot of a record that may go was freed.
use Rattle.std.proofs.Common.{◌≡◌, ◌∙◌, ◌+◌, ◌≤◌, ℕ, Bool, true, false, cond, Some, None, refl, sym, ap, arith}
use Rattle.std.specs.Prelude.{◌==◌}
use Rattle.std.specs.declared.option.Option.{Option}
use Rattle.std.specs.FinMap.{get, get-remove, remove}
use Rattle.std.specs.Ordering.{eq_by_cmp}
use Rattle.std.proofs.lemmas.Bool.Decides.{nat_tests}
use Rattle.dms_block.specs.Content.{Content}
use Rattle.dms_desc.specs.Lookups.{items_of, structure_of}
use Rattle.dms_desc.specs.Shape.{Shape, Described}
use Rattle.dms_desc_bytes.specs.Finding.{owner_in as owner_of}
use Rattle.dms_layout.specs.declared.slot.Slot.{Slot}
use Rattle.dms_model.specs.Db.{Db, Place}
use Rattle.dms_model.specs.Places.{places_total}
use Rattle.dms_model.specs.Valid.{is_data_set, owner_stands}
use Rattle.dms_tally.specs.Counts.{links_stand}
use Rattle.dms_tally.specs.Gone.{MayGo, links_without, owner_without}
use Rattle.dms_tally.specs.Tally.{without_record}
use Rattle.dms_links.specs.Rows.{AreNumbered}
use Rattle.dms_links.specs.Stands.{RecordsStand, SlotStands, Tally}
use Rattle.dms_links.specs.Steps.{SlotIs, step}

module _ (desc : Described) (numbered : AreNumbered 1 desc.structures) (db : Db) (own : Tally) (c d : Content) (set number : ℕ) (s : Shape) (at : structure_of desc set ≡ Some s) (is_set : is_data_set (Some s) ≡ true) (low : 1 ≤ number)
    (change : SlotIs s number None c d) (may : MayGo desc db set number) where
  stays : (t : Shape) (n : ℕ) (x : Slot) → structure_of desc t.number ≡ Some t → get db.records (t.number, n) ≡ Some x.rec → SlotStands desc db own t n x → SlotStands desc (without_record db set number) own t n x
  stays t n x shape there h =
      let items : items_of (structure_of desc t.number) ≡ t.items = ap items_of shape in
      let owner : owner_of (structure_of desc t.number) ≡ t.owner = ap owner_of shape in
      record {
        most = h.most;
        owner = sym (ap (λ o. owner_stands (remove db.records (set, number)) o x.rec.owner) owner) ∙ owner_without desc db set number may (t.number, n) x.rec there (ap (λ o. owner_stands db.records o x.rec.owner) owner ∙ h.owner);
        links = sym (ap (λ is. links_stand (remove db.records (set, number)) is x.rec.values) items) ∙ links_without desc db set number may (t.number, n) x.rec there (ap (λ is. links_stand db.records is x.rec.values) items ∙ h.links);
        counted = h.counted;
        owned = h.owned;
      }

  none_new : (x : Slot) → ◌≡◌ {A = Option Slot} None (Some x) → SlotStands desc (without_record db set number) own s number x
  none_new x h = absurd (cc)

  -- Its slot is free now, and the files have the records of the database without it. Nothing else has changed, so slots count what they counted.
  pub freed : RecordsStand desc db own c → RecordsStand desc (without_record db set number) own d
  freed files =
      step desc numbered db (without_record db set number) own own c d set number s None at is_set low change
      (λ p. get-remove places_total db.records (set, number) p)
      (λ t n x shape there apart h. stays t n x shape there h) none_new files
