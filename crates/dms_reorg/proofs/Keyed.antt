-- The records of the extended database fit its items, and which of them have equal keys in a new structure.
use Rattle.std.proofs.Common.{◌≡◌, ◌∙◌, ◌++◌, ◌<◌, ◌≤◌, ◌^◌, ◌==◌, ◌&&◌, ℕ, zero, suc, List, [], ◌∷◌, Bool, true, false, cond, Some, None, inl, inr, refl, sym, ap, subst, option_map, arith}
use Rattle.std.specs.Prelude.{slice_get}
use Rattle.std.specs.FinMap.{get}
use Rattle.std.specs.Int.{w32, to_be_bytes}
use Rattle.std.specs.Ordering.{is_eq}
use Rattle.std.specs.declared.option.Option.{Option}
use Rattle.std.proofs.lemmas.Bool.{and_from, and_parts, cases_lt}
use Rattle.std.proofs.lemmas.Bool.Decides.{nat_tests}
use Rattle.std.proofs.lemmas.Cmp.{eq_by_cmp_equiv}
use Rattle.std.proofs.lemmas.Option.{same_Some}
use Rattle.dms_base.specs.declared.kind.ItemKind.{ItemKind}
use Rattle.dms_base.specs.declared.value.Value.{Value}
use Rattle.dms_base.specs.Fits.{fits}
use Rattle.dms_block.specs.Content.{Content}
use Rattle.dms_chain.specs.Lists.{bytes_cmp, bytes_same}
use Rattle.dms_desc.specs.declared.record.Record.{Record}
use Rattle.dms_desc.specs.declared.structure.Item.{Item}
use Rattle.dms_desc.specs.Conds.{or_null}
use Rattle.dms_desc.specs.Fitting.{values_fit}
use Rattle.dms_desc.specs.Keys.{key_cmp, key_of}
use Rattle.dms_desc.specs.Kinds.{over, takes}
use Rattle.dms_desc.specs.Lookups.{items_of, structure_of}
use Rattle.dms_desc.specs.Plain.{ArePlain, FitsKind}
use Rattle.dms_desc.specs.Shape.{Described, Shape}
use Rattle.dms_key.specs.KeyBytes.{key_bytes}
use Rattle.dms_layout.specs.Slots.{AreKinds}
use Rattle.dms_links.specs.Stands.{tally_of}
use Rattle.dms_model.specs.Db.{Db, Place}
use Rattle.dms_model.specs.MemberLaws.{equal_of, key_total}
use Rattle.dms_sets.specs.Changes.{entry_opt, front_in}
use Rattle.dms_sets.specs.Clashes.{front_is, key_front}
use Rattle.dms_sets.specs.Entries.{IsSetKey, entry_bytes, whole_order}
use Rattle.dms_sets.specs.Owners.{belongs_is}
use Rattle.dms_sets.specs.Prefixes.{starts}
use Rattle.dms_sets.specs.Sets.{items_over, kinds_over}
use Rattle.dms_sets.specs.Spots.{NameItems, RecordHasSpot, RecordsHaveSpots, ValuesFit, key_fits}
use Rattle.dms_spelling.specs.Back.{spelled_files}
use Rattle.dms_spelling.specs.Holds.{record_stands}
use Rattle.dms_spelling.specs.Spelled.{database_in}
use Rattle.dms_spelling.specs.Stands.{StandsFiles}
use Rattle.dms_reorg.specs.EqualKeys.{HasTwo}
use Rattle.dms_reorg.specs.Extended.{HasEqualKeys, extended, extended_record, first_values, further}
use Rattle.dms_reorg.specs.RefusalLaws.{Growth, Grows}
use Rattle.dms_reorg.specs.Rewritten.{MayBecome}
use Rattle.dms_reorg.proofs.Extended.{extends_gives}
use Rattle.dms_reorg.proofs.Growing.{each_grows}
use Rattle.dms_reorg.proofs.Widened.{widened_fits}

plain_both : (a b : List Value) → ArePlain a → ArePlain b → ArePlain (a ++ b)
plain_both [] b p q = q
plain_both (v ∷ a) b p q = (p.0, plain_both a b p.1 q)

value_kind : (items : List Item) (values : List Value) (k : ℕ) (item : Item) → AreKinds items → values_fit items values ≡ true → ArePlain values → slice_get items k ≡ Some item → FitsKind item.kind (or_null (slice_get values k))
value_kind [] values k item kinds fit plain at = absurd (cc at)
value_kind (i ∷ is) [] k item kinds fit plain at = absurd (cc fit)
value_kind (i ∷ is) (v ∷ vs) zero item kinds fit plain at =
    let both = and_parts (fits i.kind v) (values_fit is vs) fit in
    let same : i ≡ item = same_Some i item at in
    subst (λ (j : Item). FitsKind j.kind v) same (record { kind = kinds.0; fits = both.0; plain = plain.0 })
value_kind (i ∷ is) (v ∷ vs) (suc k) item kinds fit plain at = value_kind is vs k item kinds.1 (and_parts (fits i.kind v) (values_fit is vs) fit).1 plain.1 at

module _ (old new : Described) (db : Db) (c : Content) (may : MayBecome old new) (spells : database_in old c ≡ Some db) where
  stands : StandsFiles old db (tally_of old db) c
  stands = spelled_files old c db may.served spells

  growth : Growth old new
  growth = each_grows old new may.well_then may.extends

  spot_of : (place : Place) (r : Record) → get db.records place ≡ Some r → RecordHasSpot new place (extended_record old new place.0 r)
  spot_of place r at =
      let it = record_stands old may.served db (tally_of old db) c stands.slots place r at in
      let g : Grows old new place.0 it.shape = growth.grow place.0 it.shape it.is in
      let more = first_values (further old new place.0) in
      let fit : values_fit g.now.items (it.slot.rec.values ++ more) ≡ true = widened_fits it.shape g.now more it.slot g.widens it.fits.values in
      let plain = plain_both it.slot.rec.values more it.fits.plain g.widens.plain in
      let values : ValuesFit g.now.items (it.slot.rec.values ++ more) = (λ k item there. value_kind g.now.items (it.slot.rec.values ++ more) k item g.widens.kinds fit plain there) in
      record {
        small = omega (arith, it.stands.most, it.population);
        owner = subst (λ (x : Record). x.owner < 2 ^ 32) it.same it.fits.owner;
        values = subst (λ o. ValuesFit (items_of o) (r.values ++ more)) (sym g.is) (subst (λ (x : Record). ValuesFit g.now.items (x.values ++ more)) it.same values);
      }

  -- the records of the extended database fit
  pub spots_made : RecordsHaveSpots new (extended old new db)
  spots_made place rec at = by (get db.records place) refl (sym (extends_gives old new db place) ∙ at)
    where
      by : (o : Option Record) → get db.records place ≡ o → option_map (extended_record old new place.0) o ≡ Some rec → RecordHasSpot new place rec
      by None is e = absurd (cc e)
      by (Some r) is e = subst (RecordHasSpot new place) (same_Some (extended_record old new place.0 r) rec e) (spot_of place r is)

none_behind : (l : List ℕ) → l ++ [] ≡ l
none_behind [] = refl
none_behind (n ∷ l) = ap (λ (r : List ℕ). n ∷ r) (none_behind l)

-- two records of a data set that a set takes
pub record Pair (db : Db) (x : Shape) (set n m : ℕ) (a b : Record) : Type 0 where
  pub one : get db.records (set, n) ≡ Some a
  pub two : get db.records (set, m) ≡ Some b
  pub apart : n ≡ m → ⊥
  pub takes_one : takes x a.values ≡ true
  pub takes_two : takes x b.values ≡ true

-- A set or automatic subset over a data set whose records fit.
module _ (desc : Described) (db : Db) (x : Shape) (set : ℕ) (over_is : over x ≡ set) (auto : (x.kind == 5) ≡ false) (named : NameItems (items_over desc x) x.parts) (spots : RecordsHaveSpots desc db) where
  abbrev kinds : List ItemKind
  kinds = kinds_over desc x

  abbrev key : Record → List Value
  key r = key_of x.parts r.values

  abbrev bytes : Record → List ℕ
  bytes r = entry_bytes kinds x.parts r.owner (key r) 0

  key_fit : (n : ℕ) (r : Record) → get db.records (set, n) ≡ Some r → IsSetKey kinds x.parts (key r)
  key_fit n r at = key_fits (items_over desc x) x.parts r.values (subst (λ m. ValuesFit (items_of (structure_of desc m)) r.values) (sym over_is) (spots (set, n) r at).values) named

  itself : (o : ℕ) → (o == o) ≡ true
  itself o = grind (arith, nat_tests)

  -- of two records with one entry the owner is one, and the keys are equal
  same_key : (n m : ℕ) (a b : Record) → get db.records (set, n) ≡ Some a → get db.records (set, m) ≡ Some b → bytes a ≡ bytes b → ((a.owner == b.owner) && is_eq (key_cmp x.parts (key a) (key b))) ≡ true
  same_key n m a b p q same =
      let f = key_fit n a p in
      let g = key_fit m b q in
      let low = (spots (set, n) a p).owner in
      sym (front_is kinds x.parts a.owner b.owner (key a) (key b) 0 low (spots (set, m) b q).owner f g)
      ∙ ap (starts (key_front kinds x.parts a.owner (key a))) (sym same)
      ∙ front_is kinds x.parts a.owner a.owner (key a) (key a) 0 low low f f
      ∙ and_from (a.owner == a.owner) (is_eq (key_cmp x.parts (key a) (key a))) (itself a.owner) ((eq_by_cmp_equiv (key_total 0 x.parts)).refl (key a))

  -- and back
  same_entry : (n m : ℕ) (a b : Record) → get db.records (set, n) ≡ Some a → get db.records (set, m) ≡ Some b → a.owner ≡ b.owner → is_eq (key_cmp x.parts (key a) (key b)) ≡ true → bytes a ≡ bytes b
  same_entry n m a b p q owner equal =
      let order = whole_order kinds x.parts (key a) (key b) (key_fit n a p) (key_fit m b q) in
      let one : key_bytes kinds x.parts (key a) ≡ key_bytes kinds x.parts (key b) = bytes_same _ _ (equal_of (bytes_cmp (key_bytes kinds x.parts (key a)) (key_bytes kinds x.parts (key b))) (ap is_eq order ∙ equal)) in
      λ i. to_be_bytes w32 (owner i) ++ (one i ++ to_be_bytes w32 0)

  -- what an entry tells of a record
  record Taken (o : Option Record) (q : List ℕ) : Type 0 where
    rec : Record
    is : o ≡ Some rec
    takes_it : takes x rec.values ≡ true
    bytes_are : bytes rec ≡ q

  taken : (o : Option Record) (q : List ℕ) → entry_opt kinds x 0 o ≡ Some q → Taken o q
  taken None q h = absurd (cc h)
  taken (Some r) q h = by (takes x r.values) refl h
    where
      by : (b : Bool) → takes x r.values ≡ b → cond b (Some (bytes r)) None ≡ Some q → Taken (Some r) q
      by true t e = record { rec = r; is = refl; takes_it = t; bytes_are = same_Some (bytes r) q e }
      by false t e = absurd (cc e)

  same_number : (a b : ℕ) → (a == b) ≡ true → a ≡ b
  same_number a b h = grind (arith, nat_tests, h)

  belongs_here : (n : ℕ) (r : Record) (owner : ℕ) → owner ≡ r.owner → takes x r.values ≡ true → ((over x == set) && ((owner == r.owner) && takes x r.values)) ≡ true
  belongs_here n r owner same t =
      let one : (over x == set) ≡ true = grind (arith, nat_tests, over_is) in
      let two : (owner == r.owner) ≡ true = grind (arith, nat_tests, same) in
      and_from _ _ one (and_from _ _ two t)

  -- two records that the set takes, with one owner and equal keys
  pub pair_equal : (n m : ℕ) (a b : Record) → Pair db x set n m a b → ((a.owner == b.owner) && is_eq (key_cmp x.parts (key a) (key b))) ≡ true → HasEqualKeys x db
  pair_equal n m a b pair h =
      let both = and_parts (a.owner == b.owner) (is_eq (key_cmp x.parts (key a) (key b))) h in
      record {
        owner = a.owner;
        one = (set, n);
        two = (set, m);
        a = a;
        b = b;
        here = pair.one;
        there = pair.two;
        apart = λ e. pair.apart (ap (λ (p : Place). p.1) e);
        together = and_from _ _
            (belongs_is x db.entries a.owner ((set, n), a) auto ∙ belongs_here n a a.owner refl pair.takes_one)
            (belongs_is x db.entries a.owner ((set, m), b) auto ∙ belongs_here m b a.owner (same_number a.owner b.owner both.0) pair.takes_two);
        equal = both.1;
      }

  -- an entry begins with the owner and the key of a record where the owner is one, and the keys are equal
  pub front_here : (n m : ℕ) (a b : Record) → get db.records (set, n) ≡ Some a → get db.records (set, m) ≡ Some b
      → starts (front_in kinds x a) (entry_bytes kinds x.parts b.owner (key b) m) ≡ ((a.owner == b.owner) && is_eq (key_cmp x.parts (key a) (key b)))
  front_here n m a b p q =
      let front : front_in kinds x a ≡ key_front kinds x.parts a.owner (key a) = ap (λ (l : List ℕ). to_be_bytes w32 a.owner ++ l) (sym (none_behind (key_bytes kinds x.parts (key a)))) in
      ap (λ (f : List ℕ). starts f (entry_bytes kinds x.parts b.owner (key b) m)) front
      ∙ front_is kinds x.parts a.owner b.owner (key a) (key b) m (spots (set, n) a p).owner (spots (set, m) b q).owner (key_fit n a p) (key_fit m b q)

  -- Two slots have one key where two records have equal keys.
  pub two_equal : (last : ℕ) → HasTwo (λ n. entry_opt kinds x 0 (get db.records (set, n))) last → HasEqualKeys x db
  two_equal last two =
      let a = taken (get db.records (set, two.one)) two.key two.here in
      let b = taken (get db.records (set, two.two)) two.key two.there in
      pair_equal two.one two.two a.rec b.rec (record {
        one = a.is;
        two = b.is;
        apart = λ e. absurd (omega (arith, e, two.apart));
        takes_one = a.takes_it;
        takes_two = b.takes_it;
      }) (same_key two.one two.two a.rec b.rec a.is b.is (a.bytes_are ∙ sym b.bytes_are))

  module _ (last : ℕ) (low : get db.records (set, 0) ≡ None) (high : (n : ℕ) (r : Record) → get db.records (set, n) ≡ Some r → n ≤ last) where
    entry_is : (r : Record) (q : List ℕ) → takes x r.values ≡ true → bytes r ≡ q → (n : ℕ) → get db.records (set, n) ≡ Some r → entry_opt kinds x 0 (get db.records (set, n)) ≡ Some q
    entry_is r q t is n at = ap (λ o. entry_opt kinds x 0 o) at ∙ ap (λ (b : Bool). cond b (Some (bytes r)) None) t ∙ ap (λ (k : List ℕ). Some k) is

    some_low : (n : ℕ) (r : Record) → get db.records (set, n) ≡ Some r → 1 ≤ n
    some_low zero r at = absurd (off (sym low ∙ at))
      where
        off : None ≡ Some r → ⊥
        off e = absurd (cc e)
    some_low (suc n) r at = omega arith

    ordered : (n m : ℕ) (a b : Record) → n < m → get db.records (set, n) ≡ Some a → get db.records (set, m) ≡ Some b → takes x a.values ≡ true → takes x b.values ≡ true → bytes a ≡ bytes b → HasTwo (λ k. entry_opt kinds x 0 (get db.records (set, k))) last
    ordered n m a b lt p q s t same = record { one = n; two = m; key = bytes a; low = some_low n a p; apart = lt; high = high m b q; here = entry_is a (bytes a) s refl n p; there = entry_is b (bytes a) t (sym same) m q }

    -- a record that belongs to it
    record Belongs (place : Place) (r : Record) (owner : ℕ) : Type 0 where
      set_is : place.0 ≡ set
      owner_is : r.owner ≡ owner
      takes_it : takes x r.values ≡ true

    belongs_told : (place : Place) (r : Record) (owner : ℕ) → ((over x == place.0) && ((owner == r.owner) && takes x r.values)) ≡ true → Belongs place r owner
    belongs_told place r owner h =
        let one = and_parts (over x == place.0) ((owner == r.owner) && takes x r.values) h in
        let two = and_parts (owner == r.owner) (takes x r.values) one.1 in
        record { set_is = sym (same_number (over x) place.0 one.0) ∙ over_is; owner_is = sym (same_number owner r.owner two.0); takes_it = two.1 }

    pub equal_two : HasEqualKeys x db → HasTwo (λ n. entry_opt kinds x 0 (get db.records (set, n))) last
    equal_two h =
        let both = and_parts _ _ h.together in
        let a = belongs_told h.one h.a h.owner (sym (belongs_is x db.entries h.owner (h.one, h.a) auto) ∙ both.0) in
        let b = belongs_told h.two h.b h.owner (sym (belongs_is x db.entries h.owner (h.two, h.b) auto) ∙ both.1) in
        let p : get db.records (set, h.one.1) ≡ Some h.a = ap (λ m. get db.records (m, h.one.1)) (sym a.set_is) ∙ h.here in
        let q : get db.records (set, h.two.1) ≡ Some h.b = ap (λ m. get db.records (m, h.two.1)) (sym b.set_is) ∙ h.there in
        let same = same_entry h.one.1 h.two.1 h.a h.b p q (a.owner_is ∙ sym b.owner_is) h.equal in
        elim (cases_lt h.one.1 h.two.1) [
          | inl lt ↦ ordered h.one.1 h.two.1 h.a h.b lt p q a.takes_it b.takes_it same
          | inr ge ↦ ordered h.two.1 h.one.1 h.b h.a (strict ge (λ e. h.apart (λ i. ((a.set_is ∙ sym b.set_is) i, e i)))) q p b.takes_it a.takes_it (sym same)
        ]
      where
        strict : {n m : ℕ} → m ≤ n → (n ≡ m → ⊥) → m < n
        strict {n} {m} le apart = elim (cases_lt m n) [ inl lt ↦ lt | inr ge ↦ absurd (apart (omega (arith, le, ge))) ]
