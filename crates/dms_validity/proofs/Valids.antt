-- A spelled database, field by field.
use Rattle.std.proofs.Common.{◌≡◌, ◌+◌, ◌<◌, ◌≤◌, ◌∙◌, ℕ, zero, suc, List, [], ◌∷◌, Bool, true, false, Some, None, refl, sym, ap, subst, length, slice_get, arith}
use Rattle.std.specs.Prelude.{◌&&◌, IsTrue, filter}
use Rattle.std.specs.declared.option.Option.{Option}
use Rattle.std.specs.FinMap.{get}
use Rattle.std.proofs.lemmas.Bool.{and_parts, true≢false}
use Rattle.std.proofs.lemmas.Option.{same_Some}
use Rattle.dms_base.specs.declared.value.Value.{Value}
use Rattle.dms_base.specs.Fits.{fits}
use Rattle.dms_block.specs.Content.{Content}
use Rattle.dms_desc.specs.Fitting.{values_fit}
use Rattle.dms_desc.specs.Lookups.{structure_of}
use Rattle.dms_desc.specs.Plain.{ArePlain}
use Rattle.dms_desc.specs.Shape.{Shape, Described}
use Rattle.dms_desc.specs.declared.record.Record.{Record}
use Rattle.dms_desc.specs.declared.structure.Item.{Item}
use Rattle.dms_layout.specs.Slots.{SlotFits}
use Rattle.dms_links.specs.Linking.{number_at}
use Rattle.dms_links.specs.Stands.{tally_of}
use Rattle.dms_model.specs.Db.{Db, Place, Records}
use Rattle.dms_model.specs.Uses.{is_in_subset}
use Rattle.dms_model.specs.Valid.{IsValid, is_data_set, link_stands, owner_stands, value_at}
use Rattle.dms_spelling.specs.Back.{spelled_files}
use Rattle.dms_spelling.specs.Holds.{RecordStands, record_stands}
use Rattle.dms_spelling.specs.Serving.{IsServed}
use Rattle.dms_spelling.specs.Spelled.{database_in}
use Rattle.dms_spelling.specs.Stands.{StandsFiles}
use Rattle.dms_tally.specs.Counts.{links_stand}
use Rattle.dms_validity.specs.Validity.{KeptBeside, SpelledIsValid}

-- ---- values

as_many : (items : List Item) (values : List Value) → values_fit items values ≡ true → length values ≡ length items
as_many [] [] h = refl
as_many [] (v ∷ vs) h = absurd (true≢false (sym h))
as_many (i ∷ is) [] h = absurd (true≢false (sym h))
as_many (i ∷ is) (v ∷ vs) h = omega (arith, as_many is vs (and_parts (fits i.kind v) (values_fit is vs) h).1)

item_is : (i item : Item) → Some i ≡ Some item → i ≡ item
item_is i item h = same_Some i item h

fits_at : (items : List Item) (values : List Value) (k : ℕ) (item : Item) → values_fit items values ≡ true → slice_get items k ≡ Some item → fits item.kind (value_at values k) ≡ true
fits_at [] values k item h at = absurd (cc (at))
fits_at (i ∷ is) [] k item h at = absurd (true≢false (sym h))
fits_at (i ∷ is) (v ∷ vs) zero item h at = subst (λ (x : Item). fits x.kind v ≡ true) (item_is i item at) (and_parts (fits i.kind v) (values_fit is vs) h).0
fits_at (i ∷ is) (v ∷ vs) (suc k) item h at = fits_at is vs k item (and_parts (fits i.kind v) (values_fit is vs) h).1 at

links_at : (records : Records) (items : List Item) (values : List Value) (k : ℕ) (item : Item) → values_fit items values ≡ true → links_stand records items values ≡ true → slice_get items k ≡ Some item → link_stands records item.kind (value_at values k) ≡ true
links_at records [] values k item h l at = absurd (cc (at))
links_at records (i ∷ is) [] k item h l at = absurd (true≢false (sym h))
links_at records (i ∷ is) (v ∷ vs) zero item h l at = subst (λ (x : Item). link_stands records x.kind v ≡ true) (item_is i item at) (and_parts (link_stands records i.kind v) (links_stand records is vs) l).0
links_at records (i ∷ is) (v ∷ vs) (suc k) item h l at =
    links_at records is vs k item (and_parts (fits i.kind v) (values_fit is vs) h).1 (and_parts (link_stands records i.kind v) (links_stand records is vs) l).1 at

-- ---- the law

module _ (desc : Described) (db : Db) (c : Content) (served : IsServed desc) (is : database_in desc c ≡ Some db) (beside : KeptBeside desc db) where
  files : StandsFiles desc db (tally_of desc db) c
  files = spelled_files desc c db served is

  stands : (place : Place) (rec : Record) → get db.records place ≡ Some rec → RecordStands desc db (tally_of desc db) place rec
  stands place rec at = record_stands desc served db (tally_of desc db) c files.slots place rec at

  -- a record fits its shape and stands
  record Here (place : Place) (rec : Record) (shape : Shape) : Type 0 where
    fit : values_fit shape.items rec.values ≡ true
    plain : ArePlain rec.values
    owner : owner_stands db.records shape.owner rec.owner ≡ true
    links : links_stand db.records shape.items rec.values ≡ true
    low : 1 ≤ place.1
    most : place.1 ≤ shape.population

  here : (place : Place) (rec : Record) (shape : Shape) → get db.records place ≡ Some rec → structure_of desc place.0 ≡ Some shape → Here place rec shape
  here place rec shape at there =
      let r = stands place rec at in
      subst (λ (s : Shape). Here place rec s) (same_Some r.shape shape (sym r.is ∙ there)) (record {
        fit = subst (λ (x : Record). values_fit r.shape.items x.values ≡ true) r.same r.fits.values;
        plain = subst (λ (x : Record). ArePlain x.values) r.same r.fits.plain;
        owner = subst (λ (x : Record). owner_stands db.records r.shape.owner x.owner ≡ true) r.same r.stands.owner;
        links = subst (λ (x : Record). links_stand db.records r.shape.items x.values ≡ true) r.same r.stands.links;
        low = r.low;
        most = r.stands.most;
      })

  valid : IsValid desc db
  valid = record {
    sets = λ place rec at. let r = stands place rec at in ap is_data_set r.is ∙ r.data_set;
    lengths = λ place rec shape at there. as_many shape.items rec.values (here place rec shape at there).fit;
    fit = λ place rec shape at there k item i. fits_at shape.items rec.values k item (here place rec shape at there).fit i;
    plain = λ place rec shape at there. (here place rec shape at there).plain;
    links = λ place rec shape at there k item i. let h = here place rec shape at there in links_at db.records shape.items rec.values k item h.fit h.links i;
    required = beside.required;
    verified = beside.verified;
    owners = λ place rec shape at there. (here place rec shape at there).owner;
    numbers = λ place rec shape at there. let h = here place rec shape at there in (h.low, h.most);
    populations = beside.populations;
    keys = beside.keys;
    entries = files.entries.each;
    rising = files.entries.rising;
    entry_counts = λ subset shape there manual. subst (λ n. length (filter (is_in_subset n) db.entries) ≤ shape.population) (number_at desc served.numbered subset shape there) (files.entries.few subset shape there manual);
  }

pub spelled_is_valid : SpelledIsValid
spelled_is_valid desc db c served is beside = valid desc db c served is beside
