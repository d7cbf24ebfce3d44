-- The list of a manual subset has as many entries that tell a record as the database has entries of the subset that name it.
use Rattle.std.proofs.Common.{◌≡◌, ◌∙◌, ◌^◌, ◌<◌, ℕ, List, [], ◌∷◌, Bool, true, false, cond, Some, None, refl, sym, ap, length, filter, arith}
use Rattle.std.specs.Prelude.{◌&&◌, ◌==◌}
use Rattle.std.specs.List.{AllByRecursion, list_any}
use Rattle.std.specs.FinMap.{entries, get}
use Rattle.std.proofs.lemmas.Bool.{and_parts}
use Rattle.std.proofs.lemmas.Bool.Decides.{nat_tests}
use Rattle.std.specs.declared.cmp.Ordering.TheVariants.{Less}
use Rattle.dms_base.specs.declared.kind.ItemKind.{ItemKind}
use Rattle.dms_desc.specs.Shape.{Shape, Described}
use Rattle.dms_desc.specs.declared.record.Record.{Record}
use Rattle.dms_model.specs.Db.{Db, Place, SubsetEntry}
use Rattle.dms_model.specs.Members.{names}
use Rattle.dms_model.specs.Uses.{has_entry, is_in_subset}
use Rattle.dms_model.specs.Valid.{AreRising, entry_cmp}
use Rattle.dms_chain.specs.Lists.{is_same, keys_rise}
use Rattle.dms_chain.specs.Lists as list
use Rattle.dms_sets.specs.Determined.{rising_same}
use Rattle.dms_sets.specs.Listing.{listing_of}
use Rattle.dms_sets.specs.Sets.{kinds_over}
use Rattle.dms_manual.specs.Counted.{NamesRecord, counted_manual}
use Rattle.dms_manual.specs.Entered.{as_member, entered, entered_get, manual_of, member_entry}
use Rattle.dms_manual.specs.Followed.{passing_rise}
use Rattle.dms_manual.specs.Listed.{bytes_for}
use Rattle.dms_manual.specs.Moves.{SmallIn, any_as, any_where, none_any}
use Rattle.dms_manual.specs.Named.{names_record, tells, tells_is}
use Rattle.dms_manual.specs.Refused.{any_at, any_entry, any_from, behind, same_bool}

-- how many entries of a subset name a record
abbrev pub entries_naming : Shape → Db → ℕ → ℕ
entries_naming s db n = length (filter (names_record s.number n) db.entries)

-- entries rise, and the record of each of this subset stands
pub record EntriesRise (s : Shape) (db : Db) : Type 0 where
  pub rising : AreRising db.entries
  pub stand : AllByRecursion (NamesRecord s.number s.set db.records) db.entries

-- the list has as many that tell it
abbrev pub TellsAsMany : Described → Shape → Db → ℕ → Type 0
TellsAsMany desc s db n = length (filter (tells n) (manual_of desc db s)) ≡ entries_naming s db n

-- ---- entries that pass a test

module _ (p : SubsetEntry → Bool) where
  all_passing : (P : SubsetEntry → Type 0) (es : List SubsetEntry) → AllByRecursion P es → AllByRecursion P (filter p es)
  all_passing P [] all = tt
  all_passing P (e ∷ es) all = by (p e) (all_passing P es all.1)
    where
      by : (b : Bool) → AllByRecursion P (filter p es) → AllByRecursion P (cond b (e ∷ filter p es) (filter p es))
      by true rest = (all.0, rest)
      by false rest = rest

  rising_passing : (es : List SubsetEntry) → AreRising es → AreRising (filter p es)
  rising_passing [] rising = tt
  rising_passing (e ∷ es) rising = by (p e) (all_passing (λ x. entry_cmp e x ≡ Less) es rising.0) (rising_passing es rising.1)
    where
      by : (b : Bool) → AllByRecursion (λ x. entry_cmp e x ≡ Less) (filter p es) → AreRising (filter p es) → AreRising (cond b (e ∷ filter p es) (filter p es))
      by true above rest = (above, rest)
      by false above rest = rest

  passing_twice : (q : SubsetEntry → Bool) (es : List SubsetEntry) → ((e : SubsetEntry) → p e ≡ true → q e ≡ true) → filter q (filter p es) ≡ filter p es
  passing_twice q [] h = refl
  passing_twice q (e ∷ es) h = by (p e) refl (passing_twice q es h)
    where
      by : (b : Bool) → p e ≡ b → filter q (filter p es) ≡ filter p es → filter q (cond b (e ∷ filter p es) (filter p es)) ≡ cond b (e ∷ filter p es) (filter p es)
      by true is rest = ap (λ c. cond c (e ∷ filter q (filter p es)) (filter q (filter p es))) (h e is) ∙ ap (λ (xs : List SubsetEntry). e ∷ xs) rest
      by false is rest = rest

and_none : (b : Bool) → (b && false) ≡ false
and_none true = refl
and_none false = refl

-- ---- the entries that name the record alone

module _ (desc : Described) (s : Shape) (db : Db) (n : ℕ) (small : SmallIn s db) (low : n < 2 ^ 32) where
  abbrev kinds : List ItemKind
  kinds = kinds_over desc s

  abbrev only : Db
  only = record db { entries = filter (names_record s.number n) db.entries }

  named_too : (p m : ℕ) (e : SubsetEntry) → (m == n) ≡ true → (names_record s.number n e && names s.number p m e) ≡ names s.number p m e
  named_too p m e h = by (names s.number p m e) refl
    where
      by : (b : Bool) → names s.number p m e ≡ b → (names_record s.number n e && b) ≡ b
      by true is = let on : names_record s.number n e ≡ true = grind (arith, nat_tests, is, h) in ap (λ c. c && true) on
      by false is = and_none (names_record s.number n e)

  not_named : (p m : ℕ) (e : SubsetEntry) → (m == n) ≡ false → (names_record s.number n e && names s.number p m e) ≡ false
  not_named p m e h = by (names s.number p m e) refl
    where
      by : (b : Bool) → names s.number p m e ≡ b → (names_record s.number n e && b) ≡ false
      by true is = let off : names_record s.number n e ≡ false = grind (arith, nat_tests, is, h) in ap (λ c. c && true) off
      by false is = and_none (names_record s.number n e)

  only_has : (p m : ℕ) → has_entry only s.number p m ≡ ((m == n) && has_entry db s.number p m)
  only_has p m = any_where (names s.number p m) (names_record s.number n) db.entries ∙ by (m == n) refl
    where
      by : (b : Bool) → (m == n) ≡ b → list_any (λ e. names_record s.number n e && names s.number p m e) db.entries ≡ (b && list_any (names s.number p m) db.entries)
      by true h = any_as (λ e. names_record s.number n e && names s.number p m e) (names s.number p m) db.entries (λ e. named_too p m e h)
      by false h = any_as (λ e. names_record s.number n e && names s.number p m e) (λ e. false) db.entries (λ e. not_named p m e h) ∙ none_any db.entries

  small_only : SmallIn s only
  small_only = record { each = λ p m has. small.each p m (and_parts (m == n) (has_entry db s.number p m) (sym (only_has p m) ∙ has)).1 }

  module _ (q : List ℕ) where
    abbrev is_it : Place × Record → Bool
    is_it e = is_same q (bytes_for kinds s e.0.0 e.0.1 e.1)

    abbrev is_told : Place × Record → Bool
    is_told e = tells n (bytes_for kinds s e.0.0 e.0.1 e.1) && is_same q (bytes_for kinds s e.0.0 e.0.1 e.1)

    to_all : list_any is_it (entries (entered s only)) ≡ true → list_any is_told (entries (entered s db)) ≡ true
    to_all h =
        let f = any_from is_it (entered s only) h in
        let b = behind s only f.place.0 f.place.1 f.rec f.at in
        let both = and_parts (f.place.1 == n) (has_entry db s.number f.place.0 f.place.1) (sym (only_has f.place.0 f.place.1) ∙ b.has) in
        let has = both.1 in
        let there : get (entered s db) f.place ≡ Some f.rec = entered_get s db f.place.0 f.place.1 ∙ (λ i. cond (has i) (as_member f.place.0 (b.stands i)) None) ∙ ap Some b.is in
        let told : tells n (bytes_for kinds s f.place.0 f.place.1 f.rec) ≡ true = tells_is kinds s f.place.0 n f.place.1 f.rec low (small.each f.place.0 f.place.1 has).1 ∙ both.0 in
        any_at is_told (entered s db) f.place f.rec there (λ i. told i && f.holds i)

    to_only : list_any is_told (entries (entered s db)) ≡ true → list_any is_it (entries (entered s only)) ≡ true
    to_only h =
        let f = any_from is_told (entered s db) h in
        let b = behind s db f.place.0 f.place.1 f.rec f.at in
        let both = and_parts (tells n (bytes_for kinds s f.place.0 f.place.1 f.rec)) (is_same q (bytes_for kinds s f.place.0 f.place.1 f.rec)) f.holds in
        let number : (f.place.1 == n) ≡ true = sym (tells_is kinds s f.place.0 n f.place.1 f.rec low (small.each f.place.0 f.place.1 b.has).1) ∙ both.0 in
        let has : has_entry only s.number f.place.0 f.place.1 ≡ true = only_has f.place.0 f.place.1 ∙ (λ i. number i && b.has i) in
        let there : get (entered s only) f.place ≡ Some f.rec = entered_get s only f.place.0 f.place.1 ∙ (λ i. cond (has i) (as_member f.place.0 (b.stands i)) None) ∙ ap Some b.is in
        any_at is_it (entered s only) f.place f.rec there both.1

    same_entry : list.has_entry q (manual_of desc only s) ≡ list.has_entry q (filter (tells n) (manual_of desc db s))
    same_entry =
        any_entry kinds s (is_same q) (entered s only) ∙ same_bool _ _ to_all to_only
        ∙ sym (any_where (is_same q) (tells n) (manual_of desc db s) ∙ any_entry kinds s (λ y. tells n y && is_same q y) (entered s db))

  only_list : manual_of desc only s ≡ filter (tells n) (manual_of desc db s)
  only_list =
      rising_same (manual_of desc only s) (filter (tells n) (manual_of desc db s)) (keys_rise (listing_of (member_entry kinds s) (entered s only)))
      (passing_rise (tells n) (manual_of desc db s) (keys_rise (listing_of (member_entry kinds s) (entered s db)))) same_entry

  in_subset : (e : SubsetEntry) → names_record s.number n e ≡ true → is_in_subset s.number e ≡ true
  in_subset e h = (and_parts (e.subset == s.number) (e.number == n) h).0

  pub counted_for : EntriesRise s db → TellsAsMany desc s db n
  counted_for told =
      let p = names_record s.number n in
      ap (λ (xs : List (List ℕ)). length xs) (sym only_list)
      ∙ counted_manual desc s only small_only (rising_passing p db.entries told.rising) (all_passing p (NamesRecord s.number s.set db.records) db.entries told.stand)
      ∙ ap (λ (xs : List SubsetEntry). length xs) (passing_twice p (is_in_subset s.number) db.entries in_subset)
