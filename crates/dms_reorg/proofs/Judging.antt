-- Equal keys in a new structure are told by the slots of its data set, and one in which no records have equal keys refuses none.
use Rattle.std.proofs.Common.{◌≡◌, ◌∙◌, ◌*◌, ◌≤◌, ◌&&◌, ◌==◌, nat_lt, not, ℕ, zero, suc, List, [], ◌∷◌, Bool, true, false, cond, Some, None, inl, inr, refl, sym, ap, subst, length, option_map, arith}
use Rattle.std.specs.Prelude.{is_some}
use Rattle.std.specs.FinMap.{entries, entries_sorted, get, get-entries, keys}
use Rattle.std.specs.List.{AllByRecursion}
use Rattle.std.specs.Ordering.{is_eq}
use Rattle.std.specs.declared.option.Option.{Option}
use Rattle.std.proofs.lemmas.Bool.{and_parts, cases_lt}
use Rattle.std.proofs.lemmas.Bool.Decides.{nat_tests}
use Rattle.std.proofs.lemmas.Option.{none-some}
use Rattle.dms_base.specs.declared.kind.ItemKind.{ItemKind}
use Rattle.dms_base.specs.declared.value.Value.{Value}
use Rattle.dms_block.specs.Content.{Content}
use Rattle.dms_chain.specs.Lists.{empty_keys, not_below, pad_bound, with_in}
use Rattle.dms_desc.specs.declared.record.Record.{Record}
use Rattle.dms_desc.specs.Keys.{key_cmp, key_of}
use Rattle.dms_desc.specs.Kinds.{over, takes}
use Rattle.dms_desc.specs.Lookups.{structure_of}
use Rattle.dms_desc.specs.Shape.{Described, Shape}
use Rattle.dms_desc.specs.Sorted.{first, that_passes}
use Rattle.dms_layout.specs.declared.slot.Slot.{Slot}
use Rattle.dms_layout.specs.declared.slot.SlotRead.{SlotRead}
use Rattle.dms_layout.specs.declared.slot.SlotRead.TheVariants.{Free, Used, Bad}
use Rattle.dms_links.specs.Rows.{file_in, rec_opt}
use Rattle.dms_links.specs.Stands.{tally_of}
use Rattle.dms_model.specs.Db.{Db, Place, Records}
use Rattle.dms_sets.specs.Changes.{entry_opt, front_in, is_seen, refuses}
use Rattle.dms_sets.specs.Entries.{entry_bytes}
use Rattle.dms_sets.specs.Listing.{listing}
use Rattle.dms_sets.specs.Padded.{all_with, entry_width}
use Rattle.dms_sets.specs.Prefixes.{starts}
use Rattle.dms_sets.specs.Sets.{entry_of, keys_with_opt, kinds_over, listed_in}
use Rattle.dms_sets.specs.Spots.{StandsAmong, all_found}
use Rattle.dms_slots.specs.SlotBlocks.{per_block, slot_at}
use Rattle.dms_spelling.specs.Back.{spelled_files}
use Rattle.dms_spelling.specs.Serving.{IsServedSet}
use Rattle.dms_spelling.specs.ServingLaws.{set_at}
use Rattle.dms_spelling.specs.Spelled.{database_in}
use Rattle.dms_spelling.specs.Stands.{StandsFiles, some_slots}
use Rattle.dms_reorg.specs.EqualKeys.{HasTwo, IsOverOld, RefusesNoRecord, ToldByKeys, keys_in}
use Rattle.dms_reorg.specs.Extended.{HasEqualKeys, extended, extended_record, first_values, further}
use Rattle.dms_reorg.specs.Filled.{record_up_to}
use Rattle.dms_reorg.specs.Records.{HoldsRecords}
use Rattle.dms_reorg.specs.Rewritten.{MayBecome}
use Rattle.dms_reorg.specs.Widened.{IsWidenedFile, widened}
use Rattle.dms_reorg.proofs.Capped.{up_past, up_within}
use Rattle.dms_reorg.proofs.Extended.{extends_gives}
use Rattle.dms_reorg.proofs.Keyed.{Pair, equal_two, front_here, pair_equal, spots_made, two_equal}
use Rattle.dms_reorg.proofs.Prefixes.{with_more}
use Rattle.dms_reorg.proofs.Records.{spelled_holds}
use Rattle.dms_reorg.proofs.Widened.{free_past}

widened_rec : (more : List Value) (r : SlotRead) → rec_opt (widened more r) ≡ option_map (with_more more) (rec_opt r)
widened_rec more Free = refl
widened_rec more (Used slot) = refl
widened_rec more Bad = refl

-- the first entry from a bound on has no prefix that none of them has
first_unseen : (p : List ℕ) (b : List ℕ → Bool) (xs : List (List ℕ)) → AllByRecursion (λ q. starts p q ≡ false) xs → is_some (that_passes (starts p) (first b xs)) ≡ false
first_unseen p b [] all = refl
first_unseen p b (x ∷ xs) all =
    let rest = first_unseen p b xs all.1 in
    elim (b x) as (λ t. is_some (that_passes (starts p) (cond t (Some x) (first b xs))) ≡ false) [ true ↦ ap (λ t. is_some (cond t (Some x) None)) all.0 | false ↦ rest ]

unseen : (kinds : List ItemKind) (s : Shape) (rec : Record) (xs : List (List ℕ)) → AllByRecursion (λ q. starts (front_in kinds s rec) q ≡ false) xs → is_seen kinds s rec xs ≡ false
unseen kinds s rec xs all = first_unseen (front_in kinds s rec) (not_below (pad_bound (entry_width kinds s.parts) (front_in kinds s rec))) xs all

-- the record that stands among those of the first slots
record FromUp (i k : ℕ) (read : ℕ → SlotRead) (r : Record) : Type 0 where
  low : 1 ≤ k
  most : k ≤ i
  is : rec_opt (read k) ≡ Some r

from_up : (i k : ℕ) (read : ℕ → SlotRead) (r : Record) → record_up_to i read k ≡ Some r → FromUp i k read r
from_up i zero read r h = absurd (none-some r h)
from_up i (suc k) read r h = elim (cases_lt i (suc k)) [
  | inl lt ↦ absurd (none-some r (sym (ap rec_opt (up_past i read (suc k) lt)) ∙ h))
  | inr ge ↦ record { low = omega arith; most = ge; is = sym (ap rec_opt (up_within i read (suc k) ge)) ∙ h }
]

module _ (old new : Described) (db : Db) (c : Content) (n : ℕ) (s was : Shape) (may : MayBecome old new) (spells : database_in old c ≡ Some db) (set : IsOverOld old new n s was) where
  abbrev made : Db
  made = extended old new db

  abbrev bs : List (List ℕ)
  bs = file_in c was

  abbrev more : List Value
  more = first_values (further old new s.set)

  abbrev kinds : List ItemKind
  kinds = kinds_over new s

  stands : StandsFiles old db (tally_of old db) c
  stands = spelled_files old c db may.served spells

  served : IsServedSet new s
  served = set_at new n s may.served_then set.here set.kept

  kind : (nat_lt 2 s.kind ≡ true) × (nat_lt s.kind 5 ≡ true)
  kind = and_parts (nat_lt 2 s.kind) (nat_lt s.kind 5) set.kept

  over_set : over s ≡ s.set
  over_set = let high = kind.0 in grind (arith, nat_tests, high)

  auto : (s.kind == 5) ≡ false
  auto = let low = kind.1 in grind (arith, nat_tests, low)

  holds : HoldsRecords db s.set was bs
  holds = (spelled_holds old db (tally_of old db) c s.set was may.served stands.slots set.there set.data_set).0

  record_is : (m : ℕ) → 1 ≤ m → rec_opt (widened more (slot_at was bs m)) ≡ get made.records (s.set, m)
  record_is m low = widened_rec more (slot_at was bs m) ∙ ap (option_map (extended_record old new s.set)) (holds.each m low) ∙ sym (extends_gives old new db (s.set, m))

  key_is : (m : ℕ) → 1 ≤ m → keys_in old new c s was m ≡ entry_opt kinds s 0 (get made.records (s.set, m))
  key_is m low = ap (λ (o : Option Record). entry_opt kinds s 0 o) (record_is m low)

  none_low : get made.records (s.set, 0) ≡ None
  none_low = extends_gives old new db (s.set, 0) ∙ ap (option_map (extended_record old new s.set)) holds.none

  within : (m : ℕ) (r : Record) → get made.records (s.set, m) ≡ Some r → m ≤ length bs * per_block was.items
  within zero r at = omega arith
  within (suc m) r at = elim (cases_lt (length bs * per_block was.items) (suc m)) [
    | inl lt ↦ absurd (none-some r (sym (ap (λ (x : SlotRead). rec_opt (widened more x)) (free_past was bs (suc m) (some_slots old s.set was may.served set.there) lt)) ∙ record_is (suc m) (omega arith) ∙ at))
    | inr ge ↦ ge
  ]

  equal_here : (last : ℕ) → HasTwo (keys_in old new c s was) last → HasEqualKeys s made
  equal_here last two =
      two_equal new made s s.set over_set auto served.named.items (spots_made old new db c may spells) last (record {
        one = two.one;
        two = two.two;
        key = two.key;
        low = two.low;
        apart = two.apart;
        high = two.high;
        here = sym (key_is two.one two.low) ∙ two.here;
        there = sym (key_is two.two (omega (arith, two.low, two.apart))) ∙ two.there;
      })

  two_here : HasEqualKeys s made → HasTwo (keys_in old new c s was) (length bs * per_block was.items)
  two_here h =
      let two = equal_two new made s s.set over_set auto served.named.items (spots_made old new db c may spells) (length bs * per_block was.items) none_low within h in
      record {
        one = two.one;
        two = two.two;
        key = two.key;
        low = two.low;
        apart = two.apart;
        high = two.high;
        here = key_is two.one two.low ∙ two.here;
        there = key_is two.two (omega (arith, two.low, two.apart)) ∙ two.there;
      }

  -- ---- a set that is filled from the widened file

  module _ (t : Shape) (cs : List (List ℕ)) (at : structure_of new s.set ≡ Some t) (file : IsWidenedFile was t more bs cs) (own : HasEqualKeys s made → ⊥) where
    slot_is : (m : ℕ) (r : Record) → 1 ≤ m → rec_opt (slot_at t cs m) ≡ Some r → get made.records (s.set, m) ≡ Some r
    slot_is m r low is = sym (record_is m low) ∙ ap rec_opt (sym (file.slots m low)) ∙ is

    module _ (i : ℕ) (slot : Slot) (used : slot_at t cs (suc i) ≡ Used slot) (takes_it : takes s slot.rec.values ≡ true) (m : Records) (each : (k : ℕ) → get m (over s, k) ≡ record_up_to i (slot_at t cs) k) where
      abbrev IsApart : List ℕ → Type 0
      IsApart q = starts (front_in kinds s slot.rec) q ≡ false

      one : get made.records (s.set, suc i) ≡ Some slot.rec
      one = slot_is (suc i) slot.rec (omega arith) (ap rec_opt used)

      apart_from : (k : ℕ) (r : Record) → get m (over s, k) ≡ Some r → takes s r.values ≡ true → IsApart (entry_bytes kinds s.parts r.owner (key_of s.parts r.values) k)
      apart_from k r there takes_that = by (starts (front_in kinds s slot.rec) (entry_bytes kinds s.parts r.owner (key_of s.parts r.values) k)) refl
        where
          up : FromUp i k (slot_at t cs) r
          up = from_up i k (slot_at t cs) r (sym (each k) ∙ there)

          two : get made.records (s.set, k) ≡ Some r
          two = slot_is k r up.low up.is

          front : starts (front_in kinds s slot.rec) (entry_bytes kinds s.parts r.owner (key_of s.parts r.values) k) ≡ ((slot.rec.owner == r.owner) && is_eq (key_cmp s.parts (key_of s.parts slot.rec.values) (key_of s.parts r.values)))
          front = front_here new made s s.set over_set auto served.named.items (spots_made old new db c may spells) (suc i) k slot.rec r one two

          pair : Pair made s s.set (suc i) k slot.rec r
          pair = record { one = one; two = two; apart = λ e. absurd (omega (arith, e, up.most)); takes_one = takes_it; takes_two = takes_that }

          by : (b : Bool) → starts (front_in kinds s slot.rec) (entry_bytes kinds s.parts r.owner (key_of s.parts r.values) k) ≡ b → starts (front_in kinds s slot.rec) (entry_bytes kinds s.parts r.owner (key_of s.parts r.values) k) ≡ false
          by true is = absurd (own (pair_equal new made s s.set over_set auto served.named.items (spots_made old new db c may spells) (suc i) k slot.rec r pair (sym front ∙ is)))
          by false is = is

      apart_at : (a b : Bool) (e : Place × Record) (ys : List (List ℕ)) → (over s == e.0.0) ≡ a → takes s e.1.values ≡ b → get m e.0 ≡ Some e.1 → AllByRecursion IsApart ys
          → AllByRecursion IsApart (with_in (cond (a && b) (Some (entry_bytes kinds s.parts e.1.owner (key_of s.parts e.1.values) e.0.1)) None) ys)
      apart_at true true e ys is t there all =
          let same : over s ≡ e.0.0 = grind (arith, nat_tests, is) in
          all_with IsApart (entry_bytes kinds s.parts e.1.owner (key_of s.parts e.1.values) e.0.1) (apart_from e.0.1 e.1 (ap (λ j. get m (j, e.0.1)) same ∙ there) t) ys all
      apart_at true false e ys is t there all = all
      apart_at false b e ys is t there all = all

      apart_all : (es : List (Place × Record)) → AllByRecursion (StandsAmong (entries m)) es → AllByRecursion IsApart (keys (listing (entry_of kinds s) es))
      apart_all [] found = subst (AllByRecursion IsApart) (sym empty_keys) tt
      apart_all (e ∷ es) found =
          subst (AllByRecursion IsApart) (sym (keys_with_opt (entry_of kinds s e.0 e.1) (listing (entry_of kinds s) es)))
          (apart_at (over s == e.0.0) (takes s e.1.values) e (keys (listing (entry_of kinds s) es)) refl refl (get-entries m e.0 ∙ found.0) (apart_all es found.1))

      not_seen : is_seen kinds s slot.rec (keys (listed_in kinds s m)) ≡ false
      not_seen = unseen kinds s slot.rec (keys (listed_in kinds s m)) (apart_all (entries m) (all_found (entries m) (entries_sorted m)))

-- ---- laws

pub told_by_keys : ToldByKeys
told_by_keys old new db c n s was may spells set = record { equal = equal_here old new db c n s was may spells set; two = two_here old new db c n s was may spells set }

pub refuses_no_record : RefusesNoRecord
refuses_no_record old new db c bs n s was t may spells set at file own i slot xs used lists = by s.duplicates (takes s slot.rec.values) refl refl
  where
    by : (d b : Bool) → s.duplicates ≡ d → takes s slot.rec.values ≡ b → refuses (kinds_over new s) s (Some slot.rec) xs ≡ false
    by true b is t_is = ap (λ d. (not d && takes s slot.rec.values) && is_seen (kinds_over new s) s slot.rec xs) is
    by false false is t_is =
        (λ j. (not (is j) && t_is j) && is_seen (kinds_over new s) s slot.rec xs)
    by false true is t_is =
        (λ j. (not (is j) && t_is j) && is_seen (kinds_over new s) s slot.rec xs)
        ∙ ap (is_seen (kinds_over new s) s slot.rec) lists.list
        ∙ not_seen old new db c n s was may spells set t bs at file (own is) i slot used t_is lists.records lists.each
