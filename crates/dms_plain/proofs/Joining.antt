use Rattle.std.proofs.Common.{◌≡◌, ℕ, List, [], ◌∷◌, true, false, cond, Some, refl, sym, ap, ◌∙◌}
use Rattle.std.specs.declared.option.Option.{Option}
use Rattle.std.specs.FinMap.{entries}
use Rattle.dms_desc.specs.Shape.{Shape, Described}
use Rattle.dms_desc.specs.declared.record.Record.{Record}
use Rattle.dms_model.specs.declared.spot.Spot.{Spot}
use Rattle.dms_desc.specs.declared.bound.Bound.{Bound}
use Rattle.dms_model.specs.Db.{Place, SubsetEntry}
use Rattle.dms_desc.specs.Lookups.{structure_of}
use Rattle.dms_model.specs.Members.{spot_of, spots_of, belongs, is_before, is_after_bound, is_before_bound, first_of, last_of, first_member, last_member}
use Rattle.dms_plain.specs.declared.rows.RecordRow.{RecordRow}
use Rattle.dms_plain.specs.Rows.{entries_of, records_in, db_of, IsInOrder}
use Rattle.dms_plain.specs.Scans.{lesser, least, greater, greatest, sooner, later, soonest, latest}
use Rattle.dms_plain.proofs.Maps.{db_entries}
use Rattle.dms_plain.proofs.Leasts.{first-sorted, last-sorted}
use Rattle.dms_model.specs.MemberLaws.{before_through, before_one_way}

soonest_is : (s : Shape) (manual : List SubsetEntry) (owner : ℕ) (from : Bound) (es : List (Place × Record)) → soonest s manual owner from es ≡ least (is_before s.parts) (is_after_bound s.parts from) (spots_of s manual owner es)
unfolding sooner
soonest_is s manual owner from [] = refl
soonest_is s manual owner from (e ∷ es) =
    let x = spot_of s.parts e in
    let less = is_before s.parts in
    elim (belongs s manual owner e) as (λ b. cond b (cond (is_after_bound s.parts from x) (lesser less x (soonest s manual owner from es)) (soonest s manual owner from es)) (soonest s manual owner from es)
    ≡ least less (is_after_bound s.parts from) (cond b (x ∷ spots_of s manual owner es) (spots_of s manual owner es))) [
      | true ↦ ap (λ (o : Option Spot). cond (is_after_bound s.parts from x) (lesser less x o) o) (soonest_is s manual owner from es)
      | false ↦ soonest_is s manual owner from es
    ]

latest_is : (s : Shape) (manual : List SubsetEntry) (owner : ℕ) (upto : Bound) (es : List (Place × Record)) → latest s manual owner upto es ≡ greatest (is_before s.parts) (is_before_bound s.parts upto) (spots_of s manual owner es)
unfolding later
latest_is s manual owner upto [] = refl
latest_is s manual owner upto (e ∷ es) =
    let x = spot_of s.parts e in
    let less = is_before s.parts in
    elim (belongs s manual owner e) as (λ b. cond b (cond (is_before_bound s.parts upto x) (greater less x (latest s manual owner upto es)) (latest s manual owner upto es)) (latest s manual owner upto es)
    ≡ greatest less (is_before_bound s.parts upto) (cond b (x ∷ spots_of s manual owner es) (spots_of s manual owner es))) [
      | true ↦ ap (λ (o : Option Spot). cond (is_before_bound s.parts upto x) (greater less x o) o) (latest_is s manual owner upto es)
      | false ↦ latest_is s manual owner upto es
    ]

-- the soonest row is the first member after the bound
pub soonest_first : (s : Shape) (manual : List SubsetEntry) (owner : ℕ) (from : Bound) (rows : List RecordRow) → IsInOrder rows → soonest s manual owner from (entries_of rows) ≡ first_of (Some s) (db_of (records_in rows) manual) owner from
soonest_first s manual owner from rows order =
    ap (soonest s manual owner from) (sym (db_entries rows order))
    ∙ soonest_is s manual owner from (entries (records_in rows))
    ∙ sym (first-sorted (is_before s.parts) (before_through s.parts) (before_one_way s.parts) (is_after_bound s.parts from) (spots_of s manual owner (entries (records_in rows))))

pub latest_last : (s : Shape) (manual : List SubsetEntry) (owner : ℕ) (upto : Bound) (rows : List RecordRow) → IsInOrder rows → latest s manual owner upto (entries_of rows) ≡ last_of (Some s) (db_of (records_in rows) manual) owner upto
latest_last s manual owner upto rows order =
    ap (latest s manual owner upto) (sym (db_entries rows order))
    ∙ latest_is s manual owner upto (entries (records_in rows))
    ∙ sym (last-sorted (is_before s.parts) (before_through s.parts) (before_one_way s.parts) (is_before_bound s.parts upto) (spots_of s manual owner (entries (records_in rows))))

pub first_at : (desc : Described) (rows : List RecordRow) (manual : List SubsetEntry) (path owner : ℕ) (from : Bound) (o : Option Shape) → structure_of desc path ≡ o → first_of o (db_of (records_in rows) manual) owner from ≡ first_member desc (db_of (records_in rows) manual) path owner from
unfolding first_member
first_at desc rows manual path owner from o is = ap (λ (x : Option Shape). first_of x (db_of (records_in rows) manual) owner from) (sym is)

pub last_at : (desc : Described) (rows : List RecordRow) (manual : List SubsetEntry) (path owner : ℕ) (upto : Bound) (o : Option Shape) → structure_of desc path ≡ o → last_of o (db_of (records_in rows) manual) owner upto ≡ last_member desc (db_of (records_in rows) manual) path owner upto
unfolding last_member
last_at desc rows manual path owner upto o is = ap (λ (x : Option Shape). last_of x (db_of (records_in rows) manual) owner upto) (sym is)
