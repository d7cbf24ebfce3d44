-- What is left after a record was stored is what storing it answers and leaves.
use Rattle.std.proofs.Common.{◌≡◌, ◌∙◌, ◌+◌, ◌^◌, ◌<◌, ◌≤◌, ℕ, true, false, Some, None, refl, sym, ap, subst}
use Rattle.std.specs.Prelude.{is_some}
use Rattle.std.specs.declared.option.Option.{Option}
use Rattle.std.specs.FinMap.{get}
use Rattle.dms_block.specs.Content.{Content}
use Rattle.dms_desc.specs.Lookups.{items_of, structure_of}
use Rattle.dms_desc.specs.Shape.{Shape, Described}
use Rattle.dms_desc.specs.declared.record.Record.{Record}
use Rattle.dms_model.specs.declared.put.Put.{Put}
use Rattle.dms_model.specs.declared.put.Put.TheVariants.{Stored, Duplicate as Refused, Full}
use Rattle.dms_layout.specs.Slots.{SlotFits}
use Rattle.dms_layout.specs.declared.slot.Slot.{Slot}
use Rattle.dms_layout.specs.declared.slot.SlotRead.TheVariants.{Free, Used}
use Rattle.dms_model.specs.Db.{Db}
use Rattle.dms_model.specs.Fitting.{RecordFits}
use Rattle.dms_model.specs.Stores.{with_links_of, put_after, put_answer, put_number, put_unless, record_to_store}
use Rattle.dms_model.specs.Valid.{is_data_set, owner_stands}
use Rattle.dms_slots.specs.SlotBlocks.{least_free, slot_at}
use Rattle.dms_sets.specs.ToldLaws.{clash_new}
use Rattle.dms_manual.specs.Clashing.{manual_clash_new}
use Rattle.dms_model.specs.Strict.{lesser}
use Rattle.dms_sets.specs.Answers.{IsFoundNumber}
use Rattle.dms_store.specs.Finding.{number_at}
use Rattle.dms_store.specs.Putting.{IsSeenAfter, MayStore}
use Rattle.dms_store.specs.PuttingAnswers.{answers, refusal}
use Rattle.dms_store.specs.PuttingLists.{none_new}
use Rattle.dms_store.specs.SpelledLaws.{spelled_entries}
use Rattle.dms_store.specs.PuttingAfter.{with_record}
use Rattle.dms_store.specs.PuttingEnters.{IsEntered, IsJudged, OwnerStands}
use Rattle.dms_store.specs.PuttingNumbers.{free_new, none_above, number_new, number_none, record_is}
use Rattle.dms_store.specs.PuttingPlaced.{made_fits}
use Rattle.dms_links.specs.Rows.{rec_opt, file_in}
use Rattle.dms_spelling.specs.Serving.{IsServed}
use Rattle.dms_spelling.specs.Spelled.{database_in}
use Rattle.dms_desc_bytes.specs.Finding.{owner_in as owner_of}

module _ (desc : Described) (served : IsServed desc) (db : Db) (c d : Content) (set : ℕ) (s : Shape) (name : Option ℕ) (number : ℕ) (rec made : Record) (spelt : database_in desc c ≡ Some db) (at : structure_of desc set ≡ Some s) (small : IsFoundNumber name)
    (made_is : record_to_store desc db set name rec ≡ made) (fits : RecordFits desc set made) (clash_same : refusal desc db set name made ≡ refusal desc db set (Some number) made) where
  answer_by : (o : Option ℕ) (p : Put) → refusal desc db set (Some number) made ≡ o → put_number desc db set name ≡ p → put_answer desc db set name rec ≡ put_unless o p
  answer_by o p clash is =
      answers desc c db set s name rec served spelt at small (subst (RecordFits desc set) (sym made_is) fits)
      ∙ (λ i. put_unless ((ap (λ r. refusal desc db set name r) made_is ∙ clash_same ∙ clash) i) (is i))

  -- where there is a number for it
  pub entered_answers : (p : Put) → put_number desc db set name ≡ Stored number → record_to_store desc db set (Some number) rec ≡ made → IsEntered desc db set number made d p → (p ≡ put_answer desc db set name rec) × IsSeenAfter desc db set rec d p
  entered_answers (Stored n) is after h = (
    ap (λ k. Stored k) h.0 ∙ sym (answer_by None (Stored number) h.1 is),
    h.2 ∙ (λ i. Some (with_record db set (sym h.0 i) (sym after i))) ∙ again n h.0,
  )
    where
      again : (n : ℕ) → n ≡ number → ◌≡◌ {A = Option Db} (Some (with_record db set n (record_to_store desc db set (Some number) rec))) (Some (put_after (Stored n) desc db set rec))
      again n e = ap (λ k. Some (with_record db set n (record_to_store desc db set (Some k) rec))) (sym e)
  entered_answers (Refused k) is after h = (sym (answer_by (Some k) (Stored number) h is), tt)
  entered_answers Full is after h = absurd h

  -- and where there is none
  pub full_answers : put_number desc db set name ≡ Full → refusal desc db set (Some number) made ≡ None → Full ≡ put_answer desc db set name rec
  full_answers is none = sym (answer_by None Full none is)

  pub refused_answers : (k : ℕ) (p : Put) → put_number desc db set name ≡ p → refusal desc db set (Some number) made ≡ Some k → Refused k ≡ put_answer desc db set name rec
  refused_answers k p is clash = sym (answer_by (Some k) p clash is)

-- ---- in the words of slots

-- the owner of a new record that may be stored stands
pub owner_new : (desc : Described) (db : Db) (set : ℕ) (s : Shape) (rec : Record) → structure_of desc set ≡ Some s → MayStore desc db set None rec → OwnerStands db s None rec
owner_new desc db set s rec at may = record { stands = λ none. ap (λ (o : Option Shape). owner_stands db.records (owner_of o) rec.owner) (sym at) ∙ may.owner_stands refl }

-- and nothing is asked of that of a record that replaces one
pub owner_old : (db : Db) (s : Shape) (slot : Slot) (rec : Record) → OwnerStands db s (Some slot) rec
owner_old db s slot rec = record { stands = λ none. absurd (cc none) }

module _ (desc : Described) (served : IsServed desc) (db : Db) (c d : Content) (set : ℕ) (s : Shape) (rec : Record) (spelt : database_in desc c ≡ Some db) (at : structure_of desc set ≡ Some s) (is_set : is_data_set (Some s) ≡ true) (fits : RecordFits desc set rec) where
  -- for a new record the number that no record has makes no difference
  refusal_new : (n : ℕ) (made : Record) → get db.records (set, n) ≡ None → refusal desc db set None made ≡ refusal desc db set (Some n) made
  refusal_new n made none =
      let manual = manual_clash_new db set made desc.structures in
      let named = none_new desc set n made (λ k t there. number_at desc k t served there) none (spelled_entries desc c db served spelt) in
      λ i. lesser (clash_new desc db set n made none desc.structures i) ((manual ∙ sym named) i)

  new_made : record_to_store desc db set None rec ≡ with_links_of s.items None rec
  new_made = ap (λ (o : Option Shape). with_links_of (items_of o) None rec) at

  -- a new record
  pub new_answers : (n : ℕ) (p : Put) → 1 ≤ n → Some n ≡ least_free s (file_in c s) → IsEntered desc db set n (with_links_of s.items None rec) d p → (p ≡ put_answer desc db set None rec) × IsSeenAfter desc db set rec d p
  new_answers n p low least h =
      let none : get db.records (set, n) ≡ None = record_is desc served db c set s spelt at is_set n low ∙ ap rec_opt (free_new desc served db c set s spelt at is_set n least) in
      entered_answers desc served db c d set s None n rec (with_links_of s.items None rec) spelt at tt new_made (made_fits desc set s None rec at tt fits) (refusal_new n (with_links_of s.items None rec) none)
      p (number_new desc served db c set s spelt at is_set n least) (λ i. with_links_of (items_of (at i)) (none i) rec) h

  -- where no number is free
  pub none_answers : (p : Put) → None ≡ least_free s (file_in c s) → IsJudged desc db set (s.population + 1) (with_links_of s.items None rec) p → (p ≡ put_answer desc db set None rec) × IsSeenAfter desc db set rec d p
  none_answers p least h =
      let made = with_links_of s.items None rec in
      let fit = made_fits desc set s None rec at tt fits in
      let same = refusal_new (s.population + 1) made (none_above desc served db c set s spelt at is_set) in
      let full = number_none desc served db c set s spelt at is_set least in
      by made fit same full p h new_made
    where
      by : (made : Record) → RecordFits desc set made → refusal desc db set None made ≡ refusal desc db set (Some (s.population + 1)) made → put_number desc db set None ≡ Full → (q : Put) → IsJudged desc db set (s.population + 1) made q
          → (record_to_store desc db set None rec ≡ made) → (q ≡ put_answer desc db set None rec) × IsSeenAfter desc db set rec d q
      by made fit same full (Stored n) h is = absurd h
      by made fit same full (Refused k) h is = (refused_answers desc served db c d set s None (s.population + 1) rec made spelt at tt is fit same k Full full h, tt)
      by made fit same full Full h is = (full_answers desc served db c d set s None (s.population + 1) rec made spelt at tt is fit same full h, tt)

  -- a record that is replaced
  pub old_answers : (n : ℕ) (slot : Slot) (p : Put) → 1 ≤ n → n < 2 ^ 32 → slot_at s (file_in c s) n ≡ Used slot → SlotFits s slot → IsEntered desc db set n (with_links_of s.items (Some slot.rec) rec) d p → (p ≡ put_answer desc db set (Some n) rec) × IsSeenAfter desc db set rec d p
  old_answers n slot p low small was slots h =
      let there : get db.records (set, n) ≡ Some slot.rec = record_is desc served db c set s spelt at is_set n low ∙ ap rec_opt was in
      let made_is : record_to_store desc db set (Some n) rec ≡ with_links_of s.items (Some slot.rec) rec = λ i. with_links_of (items_of (at i)) (there i) rec in
      entered_answers desc served db c d set s (Some n) n rec (with_links_of s.items (Some slot.rec) rec) spelt at small made_is (made_fits desc set s (Some slot) rec at slots fits) refl
      p refl made_is h

  -- and one that isn't there
  pub gone_answers : (n : ℕ) → 1 ≤ n → slot_at s (file_in c s) n ≡ Free → is_some (get db.records (set, n)) ≡ true → ⊥
  gone_answers n low was there = apart (sym (ap is_some (record_is desc served db c set s spelt at is_set n low ∙ ap rec_opt was)) ∙ there)
    where
      apart : false ≡ true → ⊥
      apart e = absurd (cc)
