-- Slots above POPULATION are free where a database is spelled, so a search stops there.
use Rattle.std.proofs.Common.{◌≡◌, ◌∙◌, ◌+◌, ◌≤◌, ◌<◌, ℕ, zero, suc, List, [], ◌∷◌, Bool, true, false, cond, Some, None, IfSome, refl, sym, ap, subst, take, drop, length, min, arith}
use Rattle.std.specs.Prelude.{◌&&◌, ◌==◌, nat_le, nat_lt}
use Rattle.std.specs.declared.option.Option.{Option}
use Rattle.std.proofs.lemmas.Bool.Decides.{nat_tests}
use Rattle.std.proofs.lemmas.Bool.{and_parts}
use Rattle.dms_desc.specs.Lookups.{over_of, parts_of, set_of, structure_of}
use Rattle.dms_desc.specs.Kinds.{over}
use Rattle.dms_desc.specs.Keys.{key_of}
use Rattle.dms_desc.specs.Shape.{Shape, Described}
use Rattle.dms_desc.specs.Sorted.{or_else}
use Rattle.dms_desc.specs.declared.record.Record.{Record}
use Rattle.dms_desc.specs.declared.structure.KeyPart.{KeyPart}
use Rattle.dms_layout.specs.declared.slot.Slot.{Slot}
use Rattle.dms_layout.specs.declared.slot.SlotRead.{SlotRead}
use Rattle.dms_layout.specs.declared.slot.SlotRead.TheVariants.{Free, Used, Bad}
use Rattle.dms_layout.specs.Slots.{SlotFits}
use Rattle.dms_model.specs.declared.spot.Spot.{Spot}
use Rattle.dms_model.specs.Db.{Db}
use Rattle.dms_model.specs.Fitting.{RecordFits, SpotFits, is_number}
use Rattle.dms_model.specs.Valid.{is_data_set, owner_stands}
use Rattle.dms_slots.specs.SlotBlocks.{slot_opt}
use Rattle.dms_store.specs.Finding.{slot_record}
use Rattle.dms_store.specs.Scans.{IsRecordSpot, first_used, last_used, owned_spot, spot}
use Rattle.dms_tally.specs.Counts.{counted_in, links_stand, owned_in}
use Rattle.dms_spelling.specs.Spelled.{slot_stands, slots_stand}

module _ (desc : Described) (db : Db) (s : Shape) where
  low_number : (n : ℕ) (slot : Slot) → slot_stands desc db s n (Used slot) ≡ true → n ≤ s.population
  low_number n slot h =
      let stands = owner_stands db.records s.owner slot.rec.owner && links_stand db.records s.items slot.rec.values in
      let two = and_parts (nat_le n s.population && stands) ((slot.counted == counted_in desc db s.number n) && (slot.owned == owned_in desc db s.number n)) h in
      let one = and_parts (nat_le n s.population) stands two.0 in
      grind (arith, nat_tests, one.0)

  rest_stands : (n : ℕ) (r : SlotRead) (rs : List SlotRead) → slots_stand desc db s n (r ∷ rs) ≡ true → slots_stand desc db s (n + 1) rs ≡ true
  rest_stands n r rs h = (and_parts (slot_stands desc db s n r) (slots_stand desc db s (n + 1) rs) h).1

  drop_stands : (n m : ℕ) (rs : List SlotRead) → slots_stand desc db s n rs ≡ true → slots_stand desc db s (n + m) (drop m rs) ≡ true
  drop_stands n zero rs h = ap (λ k. slots_stand desc db s k rs) (let e : n + 0 ≡ n = omega arith in e) ∙ h
  drop_stands n (suc m) [] h = refl
  drop_stands n (suc m) (r ∷ rs) h = ap (λ k. slots_stand desc db s k (drop m rs)) (let e : n + suc m ≡ (n + 1) + m = omega arith in e) ∙ drop_stands (n + 1) m rs (rest_stands n r rs h)

  module _ (owner : ℕ) where
    none_above : (n : ℕ) (rs : List SlotRead) → s.population < n → slots_stand desc db s n rs ≡ true → first_used owner n rs ≡ None
    none_above n [] high h = refl
    none_above n (Free ∷ rs) high h = none_above (n + 1) rs (omega (arith, high)) (rest_stands n Free rs h)
    none_above n (Used slot ∷ rs) high h = absurd (omega (arith, high, low_number n slot (and_parts (slot_stands desc db s n (Used slot)) (slots_stand desc db s (n + 1) rs) h).0))
    none_above n (Bad ∷ rs) high h = absurd (cc)

    none_last : (n : ℕ) (rs : List SlotRead) → s.population < n → slots_stand desc db s n rs ≡ true → last_used owner n rs ≡ None
    none_last n [] high h = refl
    none_last n (Free ∷ rs) high h = ap (λ o. or_else o None) (none_last (n + 1) rs (omega (arith, high)) (rest_stands n Free rs h))
    none_last n (Used slot ∷ rs) high h = absurd (omega (arith, high, low_number n slot (and_parts (slot_stands desc db s n (Used slot)) (slots_stand desc db s (n + 1) rs) h).0))
    none_last n (Bad ∷ rs) high h = absurd (cc)

    first_within : (n k : ℕ) (rs : List SlotRead) → s.population < n + k → slots_stand desc db s n rs ≡ true → first_used owner n (take k rs) ≡ first_used owner n rs
    first_within n zero rs high h = sym (none_above n rs (omega (arith, high)) h)
    first_within n (suc k) [] high h = refl
    first_within n (suc k) (r ∷ rs) high h = ap (or_else (owned_spot owner n r)) (first_within (n + 1) k rs (omega (arith, high)) (rest_stands n r rs h))

    -- a search from a slot on
    pub first_until : (n m p : ℕ) (rs : List SlotRead) → s.population < n + p → slots_stand desc db s n rs ≡ true → first_used owner (n + m) (drop m (take p rs)) ≡ first_used owner (n + m) (drop m rs)
    first_until n zero p rs high h =
        let e : n + 0 ≡ n = omega arith in
        ap (λ k. first_used owner k (take p rs)) e ∙ first_within n p rs high h ∙ ap (λ k. first_used owner k rs) (sym e)
    first_until n (suc m) zero [] high h = refl
    first_until n (suc m) (suc p) [] high h = refl
    first_until n (suc m) zero (r ∷ rs) high h =
        let e : (n + 1) + m ≡ n + suc m = omega arith in
        sym (ap (λ k. first_used owner k (drop m rs)) (sym e) ∙ none_above ((n + 1) + m) (drop m rs) (omega (arith, high)) (drop_stands (n + 1) m rs (rest_stands n r rs h)))
    first_until n (suc m) (suc p) (r ∷ rs) high h =
        let e : (n + 1) + m ≡ n + suc m = omega arith in
        ap (λ k. first_used owner k (drop m (take p rs))) (sym e) ∙ first_until (n + 1) m p rs (omega (arith, high)) (rest_stands n r rs h) ∙ ap (λ k. first_used owner k (drop m rs)) e

    last_within : (n k : ℕ) (rs : List SlotRead) → s.population < n + k → slots_stand desc db s n rs ≡ true → last_used owner n (take k rs) ≡ last_used owner n rs
    last_within n zero rs high h = sym (none_last n rs (omega (arith, high)) h)
    last_within n (suc k) [] high h = refl
    last_within n (suc k) (r ∷ rs) high h = ap (λ o. or_else o (owned_spot owner n r)) (last_within (n + 1) k rs (omega (arith, high)) (rest_stands n r rs h))

    whole_list : (k : ℕ) (rs : List SlotRead) → length rs ≤ k → take k rs ≡ rs
    whole_list zero [] long = refl
    whole_list zero (r ∷ rs) long = absurd (omega (arith, long))
    whole_list (suc k) [] long = refl
    whole_list (suc k) (r ∷ rs) long = ap (λ (l : List SlotRead). r ∷ l) (whole_list k rs (omega (arith, long)))

    -- a search from the last of so many slots on
    pub last_until : (k j : ℕ) (rs : List SlotRead) → j ≡ min k (min (length rs) s.population) → slots_stand desc db s 1 rs ≡ true → last_used owner 1 (take j rs) ≡ last_used owner 1 (take k rs)
    last_until k j rs is h = split (nat_le k j) (nat_le (length rs) j) refl refl
      where
        split : (a b : Bool) → nat_le k j ≡ a → nat_le (length rs) j ≡ b → last_used owner 1 (take j rs) ≡ last_used owner 1 (take k rs)
        split true b e f = ap (λ m. last_used owner 1 (take m rs)) (let same : j ≡ k = grind (arith, nat_tests, e, is) in same)
        split false true e f =
            let long : length rs ≤ j = grind (arith, nat_tests, f) in
            let more : length rs ≤ k = grind (arith, nat_tests, e, long) in
            ap (last_used owner 1) (whole_list j rs long ∙ sym (whole_list k rs more))
        split false false e f =
            let short : j < length rs = grind (arith, nat_tests, f) in
            let less : j < k = grind (arith, nat_tests, e) in
            let high : s.population < 1 + j = omega (arith, is, short, less) in
            last_within 1 j rs high h ∙ sym (last_within 1 k rs (omega (arith, high, less)) h)

-- ---- what is found fits

owned_if : (b : Bool) (s : Shape) (n : ℕ) (slot : Slot) → SlotFits s slot → 1 ≤ n → n ≤ s.population → IfSome (cond b (Some (spot n slot.rec)) None) (IsRecordSpot s)
owned_if true s n slot fits low most = record { low = low; most = most; keyless = refl; slot = slot; fits = fits; same = refl }
owned_if false s n slot fits low most = tt

pub owned_fits : (s : Shape) (owner n : ℕ) (o : Option Slot) → IfSome o (SlotFits s) → 1 ≤ n → n ≤ s.population → IfSome (owned_spot owner n (slot_opt o)) (IsRecordSpot s)
owned_fits s owner n None fits low most = tt
owned_fits s owner n (Some slot) fits low most = owned_if (owner == slot.rec.owner) s n slot fits low most

-- a member of a data set fits it
pub spot_fits : (desc : Described) (path : ℕ) (s : Shape) (x : Spot) → structure_of desc path ≡ Some s → s.number ≡ path → is_data_set (Some s) ≡ true → s.parts ≡ [] → IsRecordSpot s x → SpotFits desc path x
spot_fits desc path s x at number is_set keyless f =
    let own : over s ≡ path = over_set s is_set ∙ number in
    let set : set_of desc path ≡ path = over_path desc path s at own in
    record {
      number = ap (λ n. is_number (structure_of desc n) x.number) set ∙ ap (λ o. is_number o x.number) at ∙ in_range x.number s.population f.low f.most;
      rec = subst (λ n. RecordFits desc n x.rec) (sym set) (subst (λ (r : Record). RecordFits desc path r) f.same (slot_record desc path s f.slot at f.fits));
      key = f.keyless ∙ ap (λ (ps : List KeyPart). key_of ps x.rec.values) (sym (ap parts_of at ∙ keyless));
    }
  where
    over_set : (s : Shape) → is_data_set (Some s) ≡ true → over s ≡ s.number
    over_set s h = over_by s (let t : nat_lt s.kind 3 ≡ true = grind (arith, nat_tests, h) in t)
      where
        over_by : (s : Shape) → nat_lt s.kind 3 ≡ true → over s ≡ s.number
        over_by s t = ap (λ b. cond b s.number s.set) t

    over_path : (desc : Described) (path : ℕ) (s : Shape) → structure_of desc path ≡ Some s → over s ≡ path → set_of desc path ≡ path
    over_path desc path s at own = ap over_of at ∙ own

    in_range : (n p : ℕ) → 1 ≤ n → n ≤ p → (nat_le 1 n && nat_le n p) ≡ true
    in_range n p low most = grind (arith, nat_tests)
