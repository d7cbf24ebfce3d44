-- What holds of the database that blocks spell.
use Rattle.std.proofs.Common.{◌≡◌, ℕ, zero, suc, ◌+◌, List, [], ◌∷◌, ◌++◌, Bool, true, false, cond, Some, refl, sym, ap, ◌∙◌, length, arith, map}
use Rattle.std.specs.Prelude.{◌&&◌, ◌||◌, ◌==◌, nat_le, is_some}
use Rattle.std.specs.List.{list_all}
use Rattle.std.specs.FinMap.{get, entries, keys, empty, from_entries, len-empty, len-entries}
use Rattle.std.proofs.lemmas.Bool.Decides.{nat_tests}
use Rattle.dms_base.specs.declared.kind.ItemKind.{ItemKind}
use Rattle.dms_block.specs.Content.{Content}
use Rattle.dms_chain.specs.Lists.{empty_keys}
use Rattle.dms_desc.specs.Files.{file_of}
use Rattle.dms_desc.specs.Kinds.{is_set_or_automatic}
use Rattle.dms_desc.specs.Shape.{Shape, Described}
use Rattle.dms_desc.specs.declared.record.Record.{Record}
use Rattle.dms_links.specs.Rows.{file_in, rows_from, rows_in}
use Rattle.dms_links.specs.Stands.{tally_of}
use Rattle.dms_lists.specs.FormLaws.{nothing_kept}
use Rattle.dms_lists.specs.Forms.{form_of, kept_in}
use Rattle.dms_manual.specs.Entered.{manual_of, member_entry}
use Rattle.dms_model.specs.Db.{Db, Place, SubsetEntry, empty_db, place_cmp}
use Rattle.dms_model.specs.Valid.{is_data_set, is_manual}
use Rattle.dms_desc.specs.Lookups.{structure_of}
use Rattle.dms_sets.specs.Listing.{listing}
use Rattle.dms_sets.specs.Padded.{entry_width}
use Rattle.dms_sets.specs.Sets.{entries_of, kinds_over, entry_of}
use Rattle.dms_sets.specs.Spots.{RecordsHaveSpots}
use Rattle.dms_slots.specs.SlotBlocks.{slots_of}
use Rattle.dms_spelling.specs.Again.{rising_keys}
use Rattle.dms_spelling.specs.Back.{spelled_files, spells_it}
use Rattle.dms_spelling.specs.Holds.{RecordStands, record_stands, records_fit}
use Rattle.dms_spelling.specs.Serving.{IsServed}
use Rattle.dms_spelling.specs.Spelled.{as_set, database_in, db_in, entries_all, entry_told, file_spells, files_fit, files_spell, has_none, is_list_of, is_spelled, is_whole, list_at, list_or, manual_spells, some_if}
use Rattle.dms_spelling.specs.Stands.{EntriesStand}

-- ---- a content without blocks

module _ (c : Content) (none : (f : ℕ) → c f ≡ []) (desc : Described) where
  rows_empty : (ss : List Shape) → rows_in c ss ≡ []
  rows_empty [] = refl
  rows_empty (s ∷ ss) =
      elim (is_data_set (Some s)) as (λ b. cond b (rows_from s.number 1 (slots_of s (file_in c s)) ++ rows_in c ss) (rows_in c ss) ≡ []) [
        | true ↦ ap (λ bs. rows_from s.number 1 (slots_of s bs) ++ rows_in c ss) (none (file_of s.number)) ∙ rows_empty ss
        | false ↦ rows_empty ss
      ]

  list_empty : (s : Shape) → list_at desc c s ≡ Some []
  list_empty s = ap (kept_in (form_of s) (entry_width (kinds_over desc s) s.parts)) (none (file_of s.number)) ∙ nothing_kept (form_of s) (entry_width (kinds_over desc s) s.parts)

  told_empty : (ss : List Shape) → entries_all desc c ss ≡ []
  told_empty [] = refl
  told_empty (s ∷ ss) =
      elim (s.kind == 5) as (λ b. cond b (map (entry_told s.number) (list_or (list_at desc c s)) ++ entries_all desc c ss) (entries_all desc c ss) ≡ []) [
        | true ↦ ap (λ o. map (entry_told s.number) (list_or o) ++ entries_all desc c ss) (list_empty s) ∙ told_empty ss
        | false ↦ told_empty ss
      ]

  db_empty : db_in desc c ≡ empty_db
  unfolding db_in
  db_empty =
      let rows = rows_empty desc.structures in
      let told : keys (as_set (entries_all desc c desc.structures)) ≡ [] = ap (λ (es : List SubsetEntry). keys (as_set es)) (told_empty desc.structures) ∙ rising_keys [] tt in
      λ i. record { records = from_entries (rows i); entries = told i }

nothing_long : (es : List (Place × Record)) → length es ≡ 0 → es ≡ []
nothing_long [] h = refl
nothing_long (e ∷ es) h = absurd (omega (arith, h))

no_rows : entries (empty {X = Record} {R = place_cmp}) ≡ []
no_rows = nothing_long (entries empty) (sym (len-entries empty) ∙ len-empty place_cmp Record)

no_entries : (desc : Described) (s : Shape) → entries_of desc empty_db s ≡ []
no_entries desc s = ap (λ es. keys_in (kinds_over desc s) s es) no_rows ∙ empty_keys
  where
    keys_in : List ItemKind → Shape → List (Place × Record) → List (List ℕ)
    keys_in kinds s es = keys (listing (entry_of kinds s) es)

no_members : (desc : Described) (s : Shape) → manual_of desc empty_db s ≡ []
no_members desc s = ap (λ es. keys_in (kinds_over desc s) s es) no_rows ∙ empty_keys
  where
    keys_in : List ItemKind → Shape → List (Place × Record) → List (List ℕ)
    keys_in kinds s es = keys (listing (member_entry kinds s) es)

manual_empty : (desc : Described) (s : Shape) → manual_spells desc empty_db s [] ≡ true
manual_empty desc s =
    (λ i. is_list_of (nothing_kept (form_of s) (entry_width (kinds_over desc s) s.parts) i) (no_members desc s i) && (true && nat_le 0 s.population)) ∙ least s.population
  where
    least : (n : ℕ) → (true && (true && nat_le 0 n)) ≡ true
    least n = grind (arith, nat_tests)

file_empty : (desc : Described) (s : Shape) → file_spells desc empty_db s [] ≡ true
file_empty desc s = by (is_data_set (Some s)) (is_set_or_automatic s) (is_manual (Some s))
  where
    list : Bool
    list = is_list_of (kept_in (form_of s) (entry_width (kinds_over desc s) s.parts) []) (entries_of desc empty_db s)

    by : (a b m : Bool) → cond a true (cond b list (cond m (manual_spells desc empty_db s []) true)) ≡ true
    by true b m = refl
    by false true m = λ i. is_list_of (nothing_kept (form_of s) (entry_width (kinds_over desc s) s.parts) i) (no_entries desc s i)
    by false false true = manual_empty desc s
    by false false false = refl

or_true : (b : Bool) → (b || true) ≡ true
or_true true = refl
or_true false = refl

module _ (c : Content) (none : (f : ℕ) → c f ≡ []) (desc : Described) where
  files_empty : (ss : List Shape) → files_spell desc empty_db c ss ≡ true
  files_empty [] = refl
  files_empty (s ∷ ss) = (λ i. (ap (file_spells desc empty_db s) (none (file_of s.number)) ∙ file_empty desc s) i && files_empty ss i)

  fit_empty : (k n : ℕ) → files_fit desc c k n ≡ true
  fit_empty zero n = refl
  fit_empty (suc k) n =
      ap (λ bs. ((nat_le (length bs) 1048576 && list_all is_whole bs) && (is_some (structure_of desc n) || has_none bs)) && files_fit desc c k (n + 1)) (none (file_of n))
      ∙ ap (λ b. b && files_fit desc c k (n + 1)) (or_true (is_some (structure_of desc n)))
      ∙ fit_empty k (n + 1)

  is_spelled_empty : is_spelled desc c ≡ true
  unfolding is_spelled
  is_spelled_empty =
      ap (λ db. files_spell desc db c desc.structures && files_fit desc c 200 1) (db_empty c none desc)
      ∙ (λ i. files_empty desc.structures i && fit_empty 200 1 i)

  -- it spells the database of no record
  pub empty_spelled : database_in desc c ≡ Some empty_db
  empty_spelled = (λ i. some_if (is_spelled_empty i) (db_empty c none desc i))

-- ---- the records and entries

-- where a content spells a database under a description that a schema can have
abbrev pub IfSpells : Described → Content → Db → Type 0 → Type 0
IfSpells desc c db P = IsServed desc → database_in desc c ≡ Some db → P

-- Each record of it stands in a slot that counts what the database has.
abbrev pub RecordsSpelled : Described → Db → Type 0
RecordsSpelled desc db = (place : Place) (rec : Record) → get db.records place ≡ Some rec → RecordStands desc db (tally_of desc db) place rec

-- what a content that spells a database is
pub record Spells (desc : Described) (c : Content) (db : Db) : Type 0 where
  pub test : is_spelled desc c ≡ true
  pub is : db_in desc c ≡ db

pub spells : (desc : Described) (c : Content) (db : Db) → database_in desc c ≡ Some db → Spells desc c db
spells desc c db h = let s = spells_it (is_spelled desc c) (db_in desc c) db h in record { test = s.0; is = s.1 }

module _ (desc : Described) (c : Content) (db : Db) (served : IsServed desc) (spelt : database_in desc c ≡ Some db) where
  -- each record of a database that is spelled stands in its data set
  pub spelled_stands : RecordsSpelled desc db
  spelled_stands = record_stands desc served db (tally_of desc db) c (spelled_files desc c db served spelt).slots

  -- its records fit
  pub spelled_fits : RecordsHaveSpots desc db
  spelled_fits = records_fit desc served db (tally_of desc db) c (spelled_files desc c db served spelt).slots

  -- and its entries stand
  pub spelled_entries : EntriesStand desc db
  spelled_entries = (spelled_files desc c db served spelt).entries
