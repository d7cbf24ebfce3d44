-- A valid database is valid after records changed in their links alone, or went.
use Rattle.std.proofs.Common.{◌≡◌, ◌≤◌, ℕ, List, Bool, true, false, cond, Some, None, refl, sym, ap, ◌∙◌, ◌&&◌, length, arith}
use Rattle.std.specs.Prelude.{◌==◌, filter, is_some, slice_get}
use Rattle.std.specs.List.{list_any, AllByRecursion}
use Rattle.std.specs.declared.option.Option.{Option}
use Rattle.std.specs.FinMap.{get}
use Rattle.std.specs.Ordering.{is_eq}
use Rattle.std.proofs.lemmas.Bool.{and_parts}
use Rattle.std.proofs.lemmas.Bool.Decides.{nat_tests}
use Rattle.dms_base.specs.Fits.{fits}
use Rattle.dms_desc.specs.declared.structure.Item.{Item}
use Rattle.dms_desc.specs.declared.record.Record.{Record}
use Rattle.dms_desc.specs.Conds.{is_null, meets}
use Rattle.dms_desc.specs.Keys.{key_cmp, key_of}
use Rattle.dms_desc.specs.Kinds.{is_link, over, takes}
use Rattle.dms_desc.specs.Lookups.{items_of, structure_of}
use Rattle.dms_desc.specs.Plain.{ArePlain}
use Rattle.dms_desc.specs.Shape.{Shape, Described}
use Rattle.dms_model.specs.Db.{Db, Place, records_of}
use Rattle.dms_model.specs.Members.{belongs, names}
use Rattle.dms_model.specs.Stores.{is_link_item}
use Rattle.dms_model.specs.Valid.{AreRising, EntryStands, IsValid, OfItems, OfRecords, equal_keys, is_data_set, is_set, link_stands, owner_stands, share_owner, value_at}
use Rattle.dms_laws.specs.Made.{IsWellMade, compares_no_link, has_no_link, items_under}
use Rattle.dms_laws.proofs.Shapes.{is_no_set, over_is}
use Rattle.dms_laws.proofs.Values.{AgreeOff, keys_agree, meets_agree}

-- a record, and the one that stood in its place: the same but for links
pub record IsRevised (desc : Described) (old : Db) (place : Place) (r : Record) (shape : Shape) : Type 0 where
  pub was : Record
  pub stood : get old.records place ≡ Some was
  pub owner : r.owner ≡ was.owner
  pub long : length r.values ≡ length was.values
  pub same : AgreeOff shape.items r.values was.values
  pub fit : OfItems shape.items r.values (λ item v. fits item.kind v ≡ true)
  pub plain : ArePlain r.values

-- what the entries, links and owners of the new database are
pub record IsRevision (desc : Described) (old new : Db) : Type 0 where
  pub back : (place : Place) (r : Record) → get new.records place ≡ Some r → is_some (get old.records place) ≡ true
  pub revised : OfRecords desc new (IsRevised desc old)
  pub links : OfRecords desc new (λ place r shape. OfItems shape.items r.values (λ item v. link_stands new.records item.kind v ≡ true))
  pub owners : OfRecords desc new (λ place r shape. owner_stands new.records shape.owner r.owner ≡ true)
  pub counts : (set : ℕ) → length (records_of new.records set) ≤ length (records_of old.records set)
  pub entries : AllByRecursion (EntryStands desc new) new.entries
  pub rising : AreRising new.entries
  pub entry_counts : (subset : ℕ) → length (filter (λ e. e.subset == subset) new.entries) ≤ length (filter (λ e. e.subset == subset) old.entries)
  pub fewer : (subset owner number : ℕ) → list_any (names subset owner number) new.entries ≡ true → list_any (names subset owner number) old.entries ≡ true

-- a record of a valid database has its data set
pub shape_at : (desc : Described) (db : Db) → IsValid desc db → (place : Place) (r : Record) → get db.records place ≡ Some r → (C : Type 0) → ((shape : Shape) → structure_of desc place.0 ≡ Some shape → C) → C
shape_at desc db valid place r at C with_shape = by (structure_of desc place.0) refl
  where
    by : (o : Option Shape) → structure_of desc place.0 ≡ o → C
    by None h = absurd (let kind = ap is_data_set (sym h) ∙ valid.sets place r at in cc)
    by (Some shape) h = with_shape shape h

module _ (desc : Described) (made : IsWellMade desc) (old new : Db) (valid : IsValid desc old) (is : IsRevision desc old new) where
  sets_revised : (place : Place) (r : Record) → get new.records place ≡ Some r → is_data_set (structure_of desc place.0) ≡ true
  sets_revised place r at = by (get old.records place) refl (is.back place r at)
    where
      by : (o : Option Record) → get old.records place ≡ o → is_some o ≡ true → is_data_set (structure_of desc place.0) ≡ true
      by None e some = absurd (cc)
      by (Some q) e some = valid.sets place q e

  required_revised : OfRecords desc new (λ place r shape. OfItems shape.items r.values (λ item v. item.required ≡ true → is_null v ≡ false))
  required_revised place r shape at has k item here must = by (is_link item.kind) refl
    where
      w : IsRevised desc old place r shape
      w = is.revised place r shape at has

      by : (b : Bool) → is_link item.kind ≡ b → is_null (value_at r.values k) ≡ false
      by true link = absurd (let never = made.optional place.0 shape has k item here link in cc)
      by false link =
          let off : is_link_item (slice_get shape.items k) ≡ false = ap is_link_item here ∙ link in
          ap is_null (w.same k off) ∙ valid.required place w.was shape w.stood has k item here must

  verified_revised : OfRecords desc new (λ place r shape. meets shape.cond r.values ≡ true)
  verified_revised place r shape at has =
      let w = is.revised place r shape at has in
      let kind = ap is_data_set (sym has) ∙ sets_revised place r at in
      let under : items_under desc shape ≡ shape.items = ap (λ (b : Bool). cond b (items_of (structure_of desc shape.set)) shape.items) (is_no_set shape kind) in
      meets_agree shape.items shape.cond r.values w.was.values w.same (ap (λ (is : List Item). compares_no_link is shape.cond) (sym under) ∙ made.conditions place.0 shape has)
      ∙ valid.verified place w.was shape w.stood has

  -- keys

  module _ (n : ℕ) (s : Shape) (here : structure_of desc n ≡ Some s) (set : is_set s ≡ true) where
    items_over : (place : Place) (shape : Shape) → structure_of desc place.0 ≡ Some shape → s.set ≡ place.0 → items_under desc s ≡ shape.items
    items_over place shape has own = (λ i. cond (set i) (items_of (structure_of desc (own i))) s.items) ∙ ap items_of has

    record WasMember (owner : ℕ) (p : Place) (a : Record) : Type 0 where
      was : Record
      stood : get old.records p ≡ Some was
      belong : belongs s old.entries owner (p, was) ≡ true
      key : key_of s.parts a.values ≡ key_of s.parts was.values

    member_before : (owner : ℕ) (p : Place) (a : Record) → get new.records p ≡ Some a → belongs s new.entries owner (p, a) ≡ true → WasMember owner p a
    member_before owner p a at mine =
        let parts = and_parts (over s == p.0) (cond (s.kind == 5) (list_any (names s.number owner p.1) new.entries) ((owner == a.owner) && takes s a.values)) mine in
        let own : s.set ≡ p.0 = sym (over_is s set) ∙ (grind (arith, nat_tests, parts.0)) in
        shape_at_new p a at (WasMember owner p a) (λ shape has.
        let w = is.revised p a shape at has in
        let items = items_over p shape has own in
        let no_link : compares_no_link shape.items s.cond ≡ true = ap (λ (is : List Item). compares_no_link is s.cond) (sym items) ∙ made.conditions n s here in
        let no_key : has_no_link shape.items s.parts ≡ true = ap (λ (is : List Item). has_no_link is s.parts) (sym items) ∙ made.keys n s here in
        record {
          was = w.was;
          stood = w.stood;
          belong = (λ i. parts.0 i && step w (meets_agree shape.items s.cond a.values w.was.values w.same no_link) (s.kind == 5) (nat_eq4 s.kind) parts.1 i);
          key = keys_agree shape.items s.parts a.values w.was.values w.same no_key;
        })
      where
        nat_eq4 : (k : ℕ) → Bool
        nat_eq4 k = k == 4

        shape_at_new : (place : Place) (r : Record) → get new.records place ≡ Some r → (C : Type 0) → ((shape : Shape) → structure_of desc place.0 ≡ Some shape → C) → C
        shape_at_new place r at C with_shape = by (structure_of desc place.0) refl
          where
            by : (o : Option Shape) → structure_of desc place.0 ≡ o → C
            by None h = absurd (let kind = ap is_data_set (sym h) ∙ sets_revised place r at in cc)
            by (Some shape) h = with_shape shape h

        step : {shape : Shape} (w : IsRevised desc old p a shape) → meets s.cond a.values ≡ meets s.cond w.was.values → (b four : Bool)
            → cond b (list_any (names s.number owner p.1) new.entries) ((owner == a.owner) && cond four (meets s.cond a.values) true) ≡ true
            → cond b (list_any (names s.number owner p.1) old.entries) ((owner == w.was.owner) && cond four (meets s.cond w.was.values) true) ≡ true
        step w same true four h = is.fewer s.number owner p.1 h
        step w same false four h = sym (λ i. (owner == w.owner i) && cond four (same i) true) ∙ h

  keys_revised : (n : ℕ) (s : Shape) → structure_of desc n ≡ Some s → is_set s ≡ true → s.duplicates ≡ false
      → (owner : ℕ) (p q : Place) (a b : Record) → get new.records p ≡ Some a → get new.records q ≡ Some b
      → share_owner s new.entries owner (p, a) (q, b) ≡ true → equal_keys s a b ≡ true → p ≡ q
  keys_revised n s here set nodup owner p q a b atp atq share equal =
      let both = and_parts (belongs s new.entries owner (p, a)) (belongs s new.entries owner (q, b)) share in
      let x = member_before n s here set owner p a atp both.0 in
      let y = member_before n s here set owner q b atq both.1 in
      valid.keys n s here set nodup owner p q x.was y.was x.stood y.stood (λ i. x.belong i && y.belong i)
      (sym (λ i. is_eq (key_cmp s.parts (x.key i) (y.key i))) ∙ equal)

  pub revised_valid : IsValid desc new
  revised_valid = record {
    sets = sets_revised;
    lengths = λ place r shape at has. let w = is.revised place r shape at has in w.long ∙ valid.lengths place w.was shape w.stood has;
    fit = λ place r shape at has. (is.revised place r shape at has).fit;
    plain = λ place r shape at has. (is.revised place r shape at has).plain;
    links = is.links;
    required = required_revised;
    verified = verified_revised;
    owners = is.owners;
    numbers = λ place r shape at has. let w = is.revised place r shape at has in valid.numbers place w.was shape w.stood has;
    populations = λ set shape has kind. omega (arith, is.counts set, valid.populations set shape has kind);
    keys = keys_revised;
    entries = is.entries;
    rising = is.rising;
    entry_counts = λ subset shape has kind. omega (arith, is.entry_counts subset, valid.entry_counts subset shape has kind);
  }
