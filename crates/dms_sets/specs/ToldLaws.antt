-- One change of a record, one structure after another.
use Rattle.std.proofs.Common.{◌≡◌, ℕ, zero, suc, ◌+◌, ◌^◌, ◌<◌, ◌≤◌, List, [], ◌∷◌, ◌++◌, Bool, true, false, cond, Some, None, refl, sym, ap, ◌∙◌, subst, slice_get, length, length-append, arith, inl, inr}
use Rattle.std.specs.Prelude.{◌&&◌, ◌||◌, not, ◌==◌, nat_lt, is_some}
use Rattle.std.specs.declared.option.Option.{Option}
use Rattle.std.specs.FinMap.{get, entries}
use Rattle.std.specs.Int.{w32, to_be_bytes}
use Rattle.std.proofs.lemmas.Bool.Decides.{nat_tests}
use Rattle.std.proofs.lemmas.Bool.{cases_lt, and_parts}
use Rattle.std.proofs.lemmas.Option.{slice_get_within, same_Some}
use Rattle.dms_base.specs.declared.kind.ItemKind.{ItemKind}
use Rattle.dms_desc.specs.declared.record.Record.{Record}
use Rattle.dms_desc.specs.Shape.{Shape, Described}
use Rattle.dms_key.specs.KeyBytes.{key_bytes, key_width}
use Rattle.dms_model.specs.Db.{Db}
use Rattle.dms_desc.specs.Keys.{key_of}
use Rattle.dms_desc.specs.Kinds.{takes, over, is_set_or_automatic}
use Rattle.dms_desc.specs.Lookups.{structure_of, items_of}
use Rattle.dms_desc.specs.Sorted.{that_passes}
use Rattle.dms_model.specs.Stores.{is_closed}
use Rattle.dms_chain.specs.Lists.{with_in, without_in, pad_bound, first_from}
use Rattle.dms_lists.specs.Forms.{form_of}
use Rattle.dms_sets.specs.declared.answer.SetAnswer.TheVariants.{Done, Duplicate}
use Rattle.dms_sets.specs.Answers.{clash_seen, closed_is, is_blocked, old_entry}
use Rattle.dms_sets.specs.Changes.{ListsOf, OneChanged, has_number, OtherListsStay, is_over, list_of_set, entry_opt, refuses, front_in, is_seen}
use Rattle.dms_sets.specs.Clashes.{key_front, look}
use Rattle.dms_sets.specs.Entries.{entry_bytes, kinds_of, whole_width}
use Rattle.dms_sets.specs.Prefixes.{starts}
use Rattle.dms_sets.specs.Listing.{member_opt, AllPlaces}
use Rattle.dms_sets.specs.Padded.{IsSetEntry, entry_width, entries_shaped, all_without, look_is}
use Rattle.dms_sets.specs.Puts.{all_small}
use Rattle.dms_sets.specs.Sets.{IsSmall, entry_of, entries_of, items_over, kinds_over, entries_changed, entries_left}
use Rattle.dms_sets.specs.Spots.{ValuesFit, all_fit, key_fits}
use Rattle.dms_sets.specs.Told.{ChangeStands, KeepsSets, Upto, answer_of, clash_opt, db_with, is_refused}

-- ---- what is over the data set

over_set : (s : Shape) (set : ℕ) → is_over s set ≡ true → over s ≡ set
over_set s set h = (closed_is s set true true (ap (λ b. (b && true) && true) h)).over

pub over_kept : (s : Shape) (set : ℕ) → is_over s set ≡ true → is_set_or_automatic s ≡ true
over_kept s set h = (and_parts (is_set_or_automatic s) (s.set == set) h).0

over_at : (b : Bool) (s : Shape) → nat_lt s.kind 3 ≡ b → nat_lt 2 s.kind ≡ true → cond b s.number s.set ≡ s.set
over_at true s e h = absurd (grind (arith, nat_tests, e, h))
over_at false s e h = refl

elsewhere : (s : Shape) (set : ℕ) → is_set_or_automatic s ≡ true → is_over s set ≡ false → (over s == set) ≡ false
elsewhere s set kept off =
    let own : over s ≡ s.set = over_at (nat_lt s.kind 3) s refl (and_parts (nat_lt 2 s.kind) (nat_lt s.kind 5) kept).0 in
    ap (λ n. n == set) own ∙ sym (ap (λ b. b && (s.set == set)) kept) ∙ off

member_here : (kinds : List ItemKind) (s : Shape) (set n : ℕ) (o : Option Record) → over s ≡ set → member_opt (entry_of kinds s) (set, n) o ≡ entry_opt kinds s n o
member_here kinds s set n None at = refl
member_here kinds s set n (Some r) at =
    let same : (over s == set) ≡ true = grind (arith, nat_tests, at) in
    ap (λ b. cond (b && takes s r.values) (Some (entry_bytes kinds s.parts r.owner (key_of s.parts r.values) n)) None) same

member_off : (kinds : List ItemKind) (s : Shape) (set n : ℕ) (o : Option Record) → (over s == set) ≡ false → member_opt (entry_of kinds s) (set, n) o ≡ None
member_off kinds s set n None off = refl
member_off kinds s set n (Some r) off = ap (λ b. cond (b && takes s r.values) (Some (entry_bytes kinds s.parts r.owner (key_of s.parts r.values) n)) None) off

-- ---- the entries after the change

entries_with : (desc : Described) (db : Db) (s : Shape) (set n : ℕ) (new : Option Record) → AllPlaces IsSmall (entries db.records) → n < 2 ^ 32
    → entries_of desc (db_with db set n new) s ≡ with_in (member_opt (entry_of (kinds_over desc s) s) (set, n) new) (without_in (member_opt (entry_of (kinds_over desc s) s) (set, n) (get db.records (set, n))) (entries_of desc db s))
entries_with desc db s set n None all small = entries_left (kinds_over desc s) s db.records (set, n) all small
entries_with desc db s set n (Some rec) all small = entries_changed (kinds_over desc s) s db.records (set, n) rec all small

module _ (desc : Described) (db : Db) (set number : ℕ) (old new : Option Record) (judged : ChangeStands desc db set number old new) where
  places : (k : ℕ) (s : Shape) → slice_get desc.structures k ≡ Some s → is_set_or_automatic s ≡ true → AllPlaces IsSmall (entries db.records)
  places k s at kept = all_small (kinds_over desc s) s (entries db.records) (all_fit desc db s (judged.named k s at kept) judged.records)

  entries_here : (k : ℕ) (s : Shape) → slice_get desc.structures k ≡ Some s → is_over s set ≡ true
      → entries_of desc (db_with db set number new) s ≡ with_in (entry_opt (kinds_over desc s) s number new) (without_in (entry_opt (kinds_over desc s) s number old) (entries_of desc db s))
  entries_here k s at h =
      let same = over_set s set h in
      entries_with desc db s set number new (places k s at (over_kept s set h)) judged.small
      ∙ (λ i. with_in (member_here (kinds_over desc s) s set number new same i) (without_in ((ap (member_opt (entry_of (kinds_over desc s) s) (set, number)) judged.old_is ∙ member_here (kinds_over desc s) s set number old same) i) (entries_of desc db s)))

  entries_off : (k : ℕ) (s : Shape) → slice_get desc.structures k ≡ Some s → is_set_or_automatic s ≡ true → is_over s set ≡ false → entries_of desc (db_with db set number new) s ≡ entries_of desc db s
  entries_off k s at kept h =
      let off = elsewhere s set kept h in
      entries_with desc db s set number new (places k s at kept) judged.small
      ∙ (λ i. with_in (member_off (kinds_over desc s) s set number new off i) (without_in (member_off (kinds_over desc s) s set number (get db.records (set, number)) off i) (entries_of desc db s)))

-- ---- what refuses

nothing_behind : (p : List ℕ) → p ++ [] ≡ p
nothing_behind [] = refl
nothing_behind (b ∷ p) = ap (λ (q : List ℕ). b ∷ q) (nothing_behind p)

regroup : (o d t b : Bool) → (o && ((d && t) && b)) ≡ (((o && d) && t) && b)
regroup true d t b = refl
regroup false d t b = refl

module _ (desc : Described) (db : Db) (set number : ℕ) (old : Option Record) (rec : Record) (judged : ChangeStands desc db set number old (Some rec)) where
  seen_is : (k : ℕ) (s : Shape) → slice_get desc.structures k ≡ Some s → is_over s set ≡ true
      → is_seen (kinds_over desc s) s rec (without_in (entry_opt (kinds_over desc s) s number old) (entries_of desc db s)) ≡ is_blocked desc s db set (Some number) rec
  seen_is k s at h =
      let kinds = kinds_over desc s in
      let w = key_width kinds s.parts in
      let named = judged.named k s at (over_kept s set h) in
      let same = over_set s set h in
      let fit = key_fits (items_over desc s) s.parts rec.values (subst (λ m. ValuesFit (items_of (structure_of desc m)) rec.values) (sym same) judged.may.values) named in
      let front = front_in kinds s rec in
      let p = key_front kinds s.parts rec.owner (key_of s.parts rec.values) in
      let is : p ≡ front = ap (λ (q : List ℕ). to_be_bytes w32 rec.owner ++ q) (nothing_behind (key_bytes kinds s.parts (key_of s.parts rec.values))) in
      let xs = without_in (old_entry kinds s db.records set (Some number)) (entries_of desc db s) in
      let gone : entry_opt kinds s number old ≡ old_entry kinds s db.records set (Some number) =
      sym (ap (member_opt (entry_of kinds s) (set, number)) judged.old_is ∙ member_here kinds s set number old same) in
      let shaped = all_without (IsSetEntry w) (old_entry kinds s db.records set (Some number)) (entries_of desc db s) (entries_shaped desc db s (all_fit desc db s named judged.records)) in
      let key = whole_width kinds s.parts (key_of s.parts rec.values) fit in
      let whole = length-append (to_be_bytes w32 rec.owner) (key_bytes kinds s.parts (key_of s.parts rec.values)) in
      let short : length p ≤ 4 + (w + 4) = subst (λ (q : List ℕ). length q ≤ 4 + (w + 4)) (sym is) (omega (arith, key, whole)) in
      let back : front ≡ p = sym is in
      (λ i. is_some (that_passes (starts (back i)) (first_from (Some (pad_bound (entry_width kinds s.parts) (back i))) (without_in (gone i) (entries_of desc db s)))))
      ∙ ap is_some (sym (look_is w p xs short shaped))

  refused_by : (b : Bool) (k : ℕ) (s : Shape) → is_over s set ≡ b → slice_get desc.structures k ≡ Some s
      → (b && refuses (kinds_over desc s) s (Some rec) (without_in (entry_opt (kinds_over desc s) s number old) (entries_of desc db s))) ≡ (((b && not s.duplicates) && takes s rec.values) && is_blocked desc s db set (Some number) rec)
  refused_by true k s h at = ap (λ b. (not s.duplicates && takes s rec.values) && b) (seen_is k s at h)
  refused_by false k s h at = refl

  -- a set refuses the record where its entries block it
  pub refused_is : (k : ℕ) (s : Shape) → slice_get desc.structures k ≡ Some s → is_refused desc db set number old (Some rec) s ≡ (is_closed s set rec.values && is_blocked desc s db set (Some number) rec)
  refused_is k s at = refused_by (is_over s set) k s refl at

-- ---- the first that refuses

module _ (desc : Described) (db : Db) (set : ℕ) (number : Option ℕ) (rec : Record) where
  abbrev blocks : Shape → Bool
  blocks s = is_closed s set rec.values && is_blocked desc s db set number rec

  clash_none : (ss : List Shape) → ((j : ℕ) (s : Shape) → j < length ss → slice_get ss j ≡ Some s → blocks s ≡ false) → clash_seen desc ss db set number rec ≡ None
  clash_none [] none = refl
  clash_none (s ∷ ss) none =
      ap (λ b. cond b (Some s.number) (clash_seen desc ss db set number rec)) (none 0 s (omega arith) refl)
      ∙ clash_none ss (λ j t lt at. none (suc j) t (omega (arith, lt)) at)

  some_shape : (x y : Shape) → ◌≡◌ {A = Option Shape} (Some x) (Some y) → x ≡ y
  some_shape x y h = cc

  clash_first : (k : ℕ) (ss : List Shape) (s : Shape) → slice_get ss k ≡ Some s → blocks s ≡ true → ((j : ℕ) (t : Shape) → j < k → slice_get ss j ≡ Some t → blocks t ≡ false) → clash_seen desc ss db set number rec ≡ Some s.number
  clash_first k [] s at h none = absurd (cc)
  clash_first zero (t ∷ ss) s at h none =
      let same : t ≡ s = some_shape t s at in
      ap (λ b. cond b (Some t.number) (clash_seen desc ss db set number rec)) (ap blocks same ∙ h) ∙ ap (λ (x : Shape). Some x.number) same
  clash_first (suc k) (t ∷ ss) s at h none =
      ap (λ b. cond b (Some t.number) (clash_seen desc ss db set number rec)) (none 0 t (omega arith) refl)
      ∙ clash_first k ss s at h (λ j u lt is. none (suc j) u (omega (arith, lt)) is)

-- ---- one structure after another

module _ (desc : Described) (db : Db) (set number : ℕ) (old new : Option Record) (judged : ChangeStands desc db set number old new) where
  same_at : (j k : ℕ) (t s : Shape) → j ≡ k → slice_get desc.structures j ≡ Some t → slice_get desc.structures k ≡ Some s → s ≡ t
  same_at j k t s e p q = same_Some s t (sym q ∙ ap (slice_get desc.structures) (sym e) ∙ p)

  number_off : (j k : ℕ) (t s : Shape) → (j ≡ k → ⊥) → slice_get desc.structures j ≡ Some t → slice_get desc.structures k ≡ Some s → (t.number == s.number) ≡ false
  number_off j k t s off p q = number_by (t.number == s.number) refl
    where
      number_by : (b : Bool) → (t.number == s.number) ≡ b → b ≡ false
      number_by true e = let same : t.number ≡ s.number = grind (arith, nat_tests, e) in absurd (off (judged.apart j k t s p q same))
      number_by false e = refl

  -- a structure that isn't over the data set is left
  pub upto_skip : (k : ℕ) (s : Shape) (a : ListsOf) → slice_get desc.structures k ≡ Some s → is_over s set ≡ false → Upto desc db set number old new k a → Upto desc db set number old new (k + 1) a
  upto_skip k s a at off u =
      record {
        done = λ j t lt is kept. elim (cases_lt j k) [
          | inl low ↦ u.done j t low is kept
          | inr high ↦ u.left j t high is kept ∙ ap Some (sym (entries_off desc db set number old new judged j t is kept (ap (λ x. is_over x set) (sym (same_at j k t s (omega (arith, lt, high)) is at)) ∙ off)))
        ];
        left = λ j t le is kept. u.left j t (omega (arith, le)) is kept;
        none = λ j t lt is. elim (cases_lt j k) [
          | inl low ↦ u.none j t low is
          | inr high ↦ ap (λ b. b && refuses (kinds_over desc t) t new (without_in (entry_opt (kinds_over desc t) t number old) (entries_of desc db t))) (ap (λ x. is_over x set) (sym (same_at j k t s (omega (arith, lt, high)) is at)) ∙ off)
        ];
      }

  -- one that is over it is changed
  pub upto_step : (k : ℕ) (s : Shape) (a b : ListsOf) → slice_get desc.structures k ≡ Some s → is_over s set ≡ true
      → ((xs : List (List ℕ)) → list_of_set a (kinds_over desc s) s ≡ Some xs → OneChanged (kinds_over desc s) s number old new xs (list_of_set b (kinds_over desc s) s) false)
      → OtherListsStay s a b → Upto desc db set number old new k a → Upto desc db set number old new (k + 1) b
  upto_step k s a b at h changed others u =
      let one = changed (entries_of desc db s) (u.left k s (omega arith) at (over_kept s set h)) in
      let here : list_of_set b (kinds_over desc s) s ≡ Some (entries_of desc (db_with db set number new) s) = one.done refl (judged.room k s at h) ∙ ap Some (sym (entries_here desc db set number old new judged k s at h)) in
      let refused : is_refused desc db set number old new s ≡ false = ap (λ t. t && refuses (kinds_over desc s) s new (without_in (entry_opt (kinds_over desc s) s number old) (entries_of desc db s))) h ∙ sym one.answer in
      record {
        done = λ j t lt is kept. elim (cases_lt j k) [
          | inl low ↦ others t.number (form_of t) (entry_width (kinds_over desc t) t.parts) (number_off j k t s (λ e. omega (arith, low, e)) is at) ∙ u.done j t low is kept
          | inr high ↦ subst (λ (x : Shape). b x.number (form_of x) (entry_width (kinds_over desc x) x.parts) ≡ Some (entries_of desc (db_with db set number new) x)) (same_at j k t s (omega (arith, lt, high)) is at) here
        ];
        left = λ j t le is kept. others t.number (form_of t) (entry_width (kinds_over desc t) t.parts) (number_off j k t s (λ e. omega (arith, le, e)) is at) ∙ u.left j t (omega (arith, le)) is kept;
        none = λ j t lt is. elim (cases_lt j k) [
          | inl low ↦ u.none j t low is
          | inr high ↦ subst (λ (x : Shape). is_refused desc db set number old new x ≡ false) (same_at j k t s (omega (arith, lt, high)) is at) refused
        ];
      }

-- all are changed
no_clash : (desc : Described) (db : Db) (set number : ℕ) (old new : Option Record) → ChangeStands desc db set number old new → (now : ListsOf) → Upto desc db set number old new (length desc.structures) now → clash_opt desc db set number new ≡ None
no_clash desc db set number old None judged now u = refl
no_clash desc db set number old (Some rec) judged now u =
    clash_none desc db set (Some number) rec desc.structures (λ j s lt at. sym (refused_is desc db set number old rec judged j s at) ∙ u.none j s lt at)

pub upto_end : (desc : Described) (db : Db) (set number : ℕ) (old new : Option Record) → ChangeStands desc db set number old new → (now : ListsOf) → Upto desc db set number old new (length desc.structures) now → KeepsSets desc db set number new now Done
upto_end desc db set number old new judged now u =
    record {
      answer_is = ap answer_of (sym (no_clash desc db set number old new judged now u));
      lists = λ h. λ j s at kept. u.done j s (slice_get_within desc.structures j s at) at kept;
    }

-- one refuses
clash_here : (desc : Described) (db : Db) (set number : ℕ) (old new : Option Record) → ChangeStands desc db set number old new → (k : ℕ) (s : Shape) (now : ListsOf) → slice_get desc.structures k ≡ Some s → is_over s set ≡ true
    → true ≡ refuses (kinds_over desc s) s new (without_in (entry_opt (kinds_over desc s) s number old) (entries_of desc db s))
    → Upto desc db set number old new k now → clash_opt desc db set number new ≡ Some s.number
clash_here desc db set number old None judged k s now at h refused u = absurd (cc)
clash_here desc db set number old (Some rec) judged k s now at h refused u =
    clash_first desc db set (Some number) rec k desc.structures s at
    (sym (refused_is desc db set number old rec judged k s at) ∙ ap (λ b. b && refuses (kinds_over desc s) s (Some rec) (without_in (entry_opt (kinds_over desc s) s number old) (entries_of desc db s))) h ∙ sym refused)
    (λ j t lt is. sym (refused_is desc db set number old rec judged j t is) ∙ u.none j t lt is)

pub upto_refused : (desc : Described) (db : Db) (set number : ℕ) (old new : Option Record) → ChangeStands desc db set number old new → (k : ℕ) (s : Shape) (a b : ListsOf) → slice_get desc.structures k ≡ Some s → is_over s set ≡ true
    → ((xs : List (List ℕ)) → list_of_set a (kinds_over desc s) s ≡ Some xs → OneChanged (kinds_over desc s) s number old new xs (list_of_set b (kinds_over desc s) s) true)
    → Upto desc db set number old new k a → KeepsSets desc db set number new b (Duplicate s.number)
upto_refused desc db set number old new judged k s a b at h changed u =
    let one = changed (entries_of desc db s) (u.left k s (omega arith) at (over_kept s set h)) in
    record {
      answer_is = ap answer_of (sym (clash_here desc db set number old new judged k s a at h one.answer u));
      lists = λ h. absurd (cc (h));
    }

-- the kinds of the items are those of the data set
pub kinds_same : (desc : Described) (s : Shape) (set : ℕ) → is_over s set ≡ true → kinds_over desc s ≡ kinds_of (items_of (structure_of desc set))
kinds_same desc s set h = ap (λ n. kinds_of (items_of (structure_of desc n))) (over_set s set h)

-- for a new record the number that no record has makes no difference
pub clash_new : (desc : Described) (db : Db) (set n : ℕ) (rec : Record) → get db.records (set, n) ≡ None → (ss : List Shape) → clash_seen desc ss db set None rec ≡ clash_seen desc ss db set (Some n) rec
clash_new desc db set n rec none [] = refl
clash_new desc db set n rec none (s ∷ ss) =
    let kinds = kinds_over desc s in
    let front = key_front kinds s.parts rec.owner (key_of s.parts rec.values) in
    (λ i. cond (is_closed s set rec.values && is_some (look front (without_in (member_opt (entry_of kinds s) (set, n) (sym none i)) (entries_of desc db s)))) (Some s.number) (clash_new desc db set n rec none ss i))

-- the number of a set over the data set
pub number_over : (ss : List Shape) (k : ℕ) (s : Shape) (set m : ℕ) → slice_get ss k ≡ Some s → is_over s set ≡ true → (m == s.number) ≡ true → has_number ss set m ≡ true
number_over [] k s set m at h same = absurd (cc)
number_over (t ∷ ss) zero s set m at h same =
    let here : t ≡ s = same_Some t s at in
    (λ i. (is_over (here i) set && (m == (here i).number)) || has_number ss set m) ∙ (λ i. (h i && same i) || has_number ss set m)
number_over (t ∷ ss) (suc k) s set m at h same = ap (λ b. (is_over t set && (m == t.number)) || b) (number_over ss k s set m at h same) ∙ or_true (is_over t set && (m == t.number))
  where
    or_true : (b : Bool) → (b || true) ≡ true
    or_true true = refl
    or_true false = refl
