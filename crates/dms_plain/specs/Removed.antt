-- Records that are removed, or of which a link is set.
use Rattle.std.specs.Prelude.{ℕ, List, Bool, false, ◌&&◌, Some, None, map, slice_get, slice_set, if◌then◌else◌}
use Rattle.std.specs.declared.option.Option.{Option}
use Rattle.std.specs.FinMap.{entries, from_sorted, get, insert, remove}
use Rattle.dms_base.specs.declared.value.Value.{Value}
use Rattle.dms_base.specs.declared.value.Value.TheVariants.{Null}
use Rattle.dms_desc.specs.Conds.{or_null}
use Rattle.dms_desc.specs.Shape.{Described}
use Rattle.dms_desc.specs.declared.record.Record.{Record}
use Rattle.dms_desc.specs.declared.structure.Item.{Item}
use Rattle.dms_model.specs.Db.{Place, Records, place_cmp}
use Rattle.dms_model.specs.Uses.{corrected_entry, is_link_into, linked_record, refers_to}
use Rattle.dms_plain.specs.declared.rows.Undo.{Undo}

-- a record with a link set, where it stands
abbrev pub linked_at : Option Record → Records → Place → ℕ → Option ℕ → Records
linked_at None records place item to = records
linked_at (Some r) records place item to = insert records place (linked_record (Some r) item to)

-- a value is a self-correcting link to the record
abbrev pub is_corrected : Option Item → ℕ → ℕ → Value → Bool
is_corrected None to number v = false
is_corrected (Some i) to number v = is_link_into false to i.kind && refers_to number v

-- values of which the k-th is null where it is such a link
abbrev pub corrected_at : ℕ → ℕ → List Item → ℕ → List Value → List Value
corrected_at to number items k vs = if is_corrected (slice_get items k) to number (or_null (slice_get vs k)) then slice_set vs k Null else vs

-- what stands at a place now
abbrev pub kept_at : Records → Place → Undo
kept_at records p = record { set = p.0; number = p.1; old = get records p }

-- the records without one, and with the self-correcting links to it null
abbrev pub removed_from : Described → ℕ → ℕ → Records → Records
removed_from desc set number records = remove (from_sorted {R = place_cmp} (map (corrected_entry desc set number) (entries records))) (set, number)
