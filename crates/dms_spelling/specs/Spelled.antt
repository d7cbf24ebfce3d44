-- The database that the blocks of structure files spell, with the entries of manual subsets.
use Rattle.std.specs.Prelude.{ℕ, zero, suc, ◌+◌, List, [], ◌∷◌, ◌++◌, Bool, true, false, ◌&&◌, ◌||◌, ◌==◌, nat_le, Some, None, is_some, if◌then◌else◌, length, map, filter}
use Rattle.std.specs.List.{list_all}
use Rattle.std.specs.Str.{bytes_eq}
use Rattle.std.specs.declared.option.Option.{Option}
use Rattle.std.specs.FinMap.{FinMap, from_entries, get, keys}
use Rattle.dms_block.specs.Content.{Content}
use Rattle.dms_desc.specs.Files.{file_of}
use Rattle.dms_desc.specs.Kinds.{is_set_or_automatic}
use Rattle.dms_desc.specs.Lookups.{over_of, structure_of}
use Rattle.dms_desc.specs.Shape.{Shape, Described}
use Rattle.dms_desc_bytes.specs.Finding.{owner_in as owner_of}
use Rattle.dms_layout.specs.declared.slot.SlotRead.{SlotRead}
use Rattle.dms_layout.specs.declared.slot.SlotRead.TheVariants.{Free, Used, Bad}
use Rattle.dms_links.specs.Rows.{file_in, rows_in}
use Rattle.dms_lists.specs.Forms.{form_of, kept_in}
use Rattle.dms_manual.specs.Entered.{manual_of}
use Rattle.dms_model.specs.Db.{Db, SubsetEntry}
use Rattle.dms_model.specs.Uses.{is_in_subset}
use Rattle.dms_model.specs.Valid.{entry_cmp, is_data_set, is_manual, owner_stands}
use Rattle.dms_sets.specs.Padded.{entry_width}
use Rattle.dms_sets.specs.Sets.{entries_of, kinds_over, number_in, owner_in}
use Rattle.dms_slots.specs.SlotBlocks.{is_block, slots_of}
use Rattle.dms_tally.specs.Counts.{counted_in, links_stand, owned_in}

-- ---- the entries

-- what the bytes of an entry tell, whatever its key
abbrev pub entry_told : ℕ → List ℕ → SubsetEntry
entry_told subset q = record { subset = subset; owner = owner_in q; number = number_in q }

-- the elements of a file that is a list
abbrev pub list_or : Option (List (List ℕ)) → List (List ℕ)
list_or None = []
list_or (Some xs) = xs

abbrev pub list_at : Described → Content → Shape → Option (List (List ℕ))
list_at desc c s = kept_in (form_of s) (entry_width (kinds_over desc s) s.parts) (file_in c s)

abbrev pub entries_all : Described → Content → List Shape → List SubsetEntry
entries_all desc c [] = []
entries_all desc c (s ∷ ss) = if s.kind == 5 then map (entry_told s.number) (list_or (list_at desc c s)) ++ entries_all desc c ss else entries_all desc c ss

-- entries in their order, each once
abbrev pub EntrySet : Type 0
EntrySet = FinMap entry_cmp (Unit {0})

abbrev pub mark : SubsetEntry → SubsetEntry × Unit {0}
mark e = (e, tt)

abbrev pub as_set : List SubsetEntry → EntrySet
as_set es = from_entries (map mark es)

-- The database of a content, whatever its blocks are: the record of each used slot, and the entries that the lists of manual subsets tell.
unfoldable pub db_in : Described → Content → Db
db_in desc c = record { records = from_entries (rows_in c desc.structures); entries = keys (as_set (entries_all desc c desc.structures)) }

-- ---- slots, and lists

-- A slot of a data set: free, or that of a record with a number of at most POPULATION, whose owner and the records that its links
-- refer to stand, and whose counts are those of the database.
abbrev pub slot_stands : Described → Db → Shape → ℕ → SlotRead → Bool
slot_stands desc db s n Free = true
slot_stands desc db s n (Used slot) =
    (nat_le n s.population && (owner_stands db.records s.owner slot.rec.owner && links_stand db.records s.items slot.rec.values))
    && ((slot.counted == counted_in desc db s.number n) && (slot.owned == owned_in desc db s.number n))
slot_stands desc db s n Bad = false

abbrev pub slots_stand : Described → Db → Shape → ℕ → List SlotRead → Bool
slots_stand desc db s n [] = true
slots_stand desc db s n (r ∷ rs) = slot_stands desc db s n r && slots_stand desc db s (n + 1) rs

-- two lists of byte strings are one
abbrev pub lists_eq : List (List ℕ) → List (List ℕ) → Bool
lists_eq [] [] = true
lists_eq [] (y ∷ ys) = false
lists_eq (x ∷ xs) [] = false
lists_eq (x ∷ xs) (y ∷ ys) = bytes_eq x y && lists_eq xs ys

abbrev pub is_list_of : Option (List (List ℕ)) → List (List ℕ) → Bool
is_list_of None ys = false
is_list_of (Some xs) ys = lists_eq xs ys

abbrev pub has_none : List (List ℕ) → Bool
has_none [] = true
has_none (b ∷ bs) = false

-- ---- the test

-- the record that an entry names stands, and so does its owner
abbrev pub entry_stands : Described → Db → SubsetEntry → Bool
entry_stands desc db e = is_some (get db.records (over_of (structure_of desc e.subset), e.number)) && owner_stands db.records (owner_of (structure_of desc e.subset)) e.owner

-- The file of a manual subset: the ordered list of its entries, at most as many as POPULATION, each of a record that stands.
abbrev pub manual_spells : Described → Db → Shape → List (List ℕ) → Bool
manual_spells desc db s bs =
    is_list_of (kept_in (form_of s) (entry_width (kinds_over desc s) s.parts) bs) (manual_of desc db s)
    && (list_all (entry_stands desc db) (filter (is_in_subset s.number) db.entries) && nat_le (length (filter (is_in_subset s.number) db.entries)) s.population)

-- The file of a structure: slots that stand, the ordered list of a set or automatic subset, or that of a manual subset.
abbrev pub file_spells : Described → Db → Shape → List (List ℕ) → Bool
file_spells desc db s bs =
    if is_data_set (Some s) then list_all (is_block s) bs && slots_stand desc db s 1 (slots_of s bs)
    else (if is_set_or_automatic s then is_list_of (kept_in (form_of s) (entry_width (kinds_over desc s) s.parts) bs) (entries_of desc db s)
    else (if is_manual (Some s) then manual_spells desc db s bs else has_none bs))

abbrev pub files_spell : Described → Db → Content → List Shape → Bool
files_spell desc db c [] = true
files_spell desc db c (s ∷ ss) = file_spells desc db s (file_in c s) && files_spell desc db c ss

-- a block has 1,024 bytes
abbrev pub is_whole : List ℕ → Bool
is_whole b = length b == 1024

-- the files of so many numbers from n on: whole blocks, at most 1,048,576 of them, and none where there is no structure with the number
abbrev pub files_fit : Described → Content → ℕ → ℕ → Bool
files_fit desc c zero n = true
files_fit desc c (suc k) n =
    ((nat_le (length (c (file_of n))) 1048576 && list_all is_whole (c (file_of n))) && (is_some (structure_of desc n) || has_none (c (file_of n))))
    && files_fit desc c k (n + 1)

-- ---- the whole

-- Structure files are those of the numbers 1 to 200.
unfoldable pub is_spelled : Described → Content → Bool
is_spelled desc c = files_spell desc (db_in desc c) c desc.structures && files_fit desc c 200 1

abbrev pub some_if : Bool → Db → Option Db
some_if true db = Some db
some_if false db = None

-- The database that a content spells, if it spells one. So it spells one at most.
abbrev pub database_in : Described → Content → Option Db
database_in desc c = some_if (is_spelled desc c) (db_in desc c)
