-- Scanning finds the entries of a new database.
use Rattle.std.proofs.Common.{ℕ, zero, suc, ◌≤◌, ◌≡◌, true, false, List, [], ◌∷◌, ◌++◌, length, take, drop, get_or, refl, ◌∙◌, ap, arith}
use Rattle.std.specs.Prelude.{◌&&◌, ◌||◌, slice_index}
use Rattle.std.proofs.lemmas.Bool.{or_right}
use Rattle.dms_site.specs.Files.{overlay_bytes, pad_zeros}
use Rattle.dms_desc.specs.Shape.{Described}
use Rattle.dms_desc_bytes.specs.Spelling.{spelling}
use Rattle.dms_descfile.specs.DescriptionFile.{IsSealed, description_file}
use Rattle.dms_history.specs.Entries.{Entry}
use Rattle.dms_history.specs.Schemas.{Parts, no_parts, after_entry, parts_from, is_whole, schema_entries}
use Rattle.dms_history.proofs.Schemas.{schema_is_whole}
use Rattle.dms_audfile.specs.Database.{HasDatabase}
use Rattle.dms_audfile.specs.WholeSchema.{is_control, closes_schema, holds_schema_from, holds_schema}
use Rattle.dms_audfile.specs.ScanLaws.{IsWritten}
use Rattle.dms_audfile.proofs.Again.{written_is_found}
use Rattle.dms_audrec.specs.Bodies.{bodies_of, part_count, bodies}
use Rattle.dms_creation.specs.FirstEntries.{first_control, first_entries}
use Rattle.dms_creation.specs.Creation.{gate_open}
use Rattle.dms_creation.specs.FoundAgain.{MadeIsFound}

-- ---- a whole Schema with its Control

-- a Control behind a whole Schema
holds_at : (p : Parts) (es : List Entry) (c : Entry) → is_control c ≡ true → is_whole (parts_from p es) ≡ true → holds_schema_from p (es ++ c ∷ []) ≡ true
holds_at p [] c control whole = λ i. (control i && whole i) || false
holds_at p (e ∷ es) c control whole = or_right (closes_schema p e) (holds_schema_from (after_entry p e) (es ++ c ∷ [])) (holds_at (after_entry p e) es c control whole)

begins_so : (bytes : List ℕ) → get_or bytes 0 0 ≡ 68 → 1 ≤ length bytes
begins_so [] is = absurd cc
begins_so (b ∷ bytes) is = omega arith

some_bytes : (d : Described) → 1 ≤ length (spelling d)
unfolding spelling
some_bytes d = begins_so (spelling d) refl

whole_bodies : (count : ℕ) (bytes : List ℕ) → 1 ≤ count → is_whole (parts_from no_parts (schema_entries (bodies_of count bytes))) ≡ true
whole_bodies zero bytes some = absurd (omega arith)
whole_bodies (suc n) bytes some = schema_is_whole [] (take 4000 bytes) (bodies_of n (drop 4000 bytes)) no_parts

first_whole : (d : Described) → holds_schema (first_entries d) ≡ true
unfolding first_entries bodies
first_whole d =
    let bytes = spelling d in
    let some : 1 ≤ part_count (length bytes) = omega (arith, some_bytes d) in
    holds_at no_parts (schema_entries (bodies bytes)) (first_control (length d.structures)) refl (whole_bodies (part_count (length bytes)) bytes some)

-- ---- the description file

opened_file : (database : ℕ) (bytes : List ℕ) → gate_open (description_file 1 database bytes) ≡ description_file 1 1 bytes
unfolding description_file overlay_bytes pad_zeros
opened_file database bytes = refl

open_gate : (bytes : List ℕ) → slice_index (description_file 1 1 bytes) 1 ≡ 1
unfolding description_file
open_gate bytes = refl

database_made : (d : Described) (old new : List ℕ) → IsSealed old d → new ≡ gate_open old → HasDatabase new
database_made d old new s made =
    let is : new ≡ description_file 1 1 (spelling d) = made ∙ ap gate_open s.is ∙ opened_file s.database (spelling d) in
    record {
      description = d;
      sealed = record { database = 1; well_formed = s.well_formed; few = s.few; is = is };
      is_open = ap (λ (l : List ℕ). slice_index l 1) is ∙ open_gate (spelling d);
    }

pub made_is_found : MadeIsFound
made_is_found tag d old files s m =
    let w : IsWritten (first_entries d) files = record {
      database = database_made d (old 1) (files 1) s m.here;
      total = d.blocks;
      tag = tag;
      first = 10001;
      file = m.trail.file;
      count = m.trail.count;
      low = omega arith;
      high = m.trail.high;
      writes = m.trail.writes;
      filled = m.trail.filled;
      exactly = m.trail.exactly;
      schema = first_whole d;
      before = λ g low next. absurd (omega (arith, low, next));
      behind = m.trail.behind;
    } in
    written_is_found (first_entries d) files w
