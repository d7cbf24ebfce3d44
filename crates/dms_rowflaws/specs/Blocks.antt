-- The first block of the structure files that may not stand there.
use Rattle.std.specs.Prelude.{ℕ, suc, Bool, List, [], ◌∷◌, Some, None, if◌then◌else◌}
use Rattle.std.specs.declared.option.Option.{Option}
use Rattle.std.specs.Option.{option_map}
use Rattle.dms_block.specs.Content.{Content}
use Rattle.dms_block.specs.declared.block.BlockId.{BlockId}
use Rattle.dms_desc.specs.Files.{file_of}
use Rattle.dms_desc.specs.Lookups.{structure_of}
use Rattle.dms_desc.specs.Shape.{Shape, Described}
use Rattle.dms_lists.specs.Forms.{form_of}
use Rattle.dms_model.specs.Valid.{is_data_set}
use Rattle.dms_rows.specs.Rows.{is_row_block}
use Rattle.dms_sets.specs.Padded.{entry_width}
use Rattle.dms_sets.specs.Sets.{kinds_over}
use Rattle.dms_shapes.specs.Blocks.{is_kept_block}
use Rattle.dms_rowflaws.specs.Numbers.{first_of_structures}

-- how many bytes the entries of a set or subset have
abbrev pub width_of : Described → Shape → ℕ
width_of desc s = entry_width (kinds_over desc s) s.parts

-- A block, by its number, may stand in the file of a structure, whose entries have a width: in a data set's each slot is in the format,
-- whatever the ranges of its values; in another one's it is a block of a list in its form.
abbrev pub is_formed : Shape → ℕ → ℕ → List ℕ → Bool
is_formed s width n block = if is_data_set (Some s) then is_row_block s block else is_kept_block (form_of s) width n block

-- the first block that may not, of those from a number on
abbrev pub first_unformed : Shape → ℕ → ℕ → List (List ℕ) → Option ℕ
first_unformed s width n [] = None
first_unformed s width n (b ∷ bs) = if is_formed s width n b then first_unformed s width (suc n) bs else Some n

-- in a file of no structure none may
abbrev pub first_of_any : List (List ℕ) → Option ℕ
first_of_any [] = None
first_of_any (b ∷ bs) = Some 0

abbrev pub unformed_in : Described → Option Shape → List (List ℕ) → Option ℕ
unformed_in desc None bs = first_of_any bs
unformed_in desc (Some s) bs = first_unformed s (width_of desc s) 0 bs

abbrev pub block_id : ℕ → ℕ → BlockId
block_id f b = record { file = f; block = b }

abbrev pub unformed_at : Described → Content → ℕ → Option BlockId
unformed_at desc c n = option_map (block_id (file_of n)) (unformed_in desc (structure_of desc n) (c (file_of n)))

-- The first block, in order of file and block, that may not stand where it stands.
abbrev pub block_flaw : Described → Content → Option BlockId
block_flaw desc c = first_of_structures (unformed_at desc c)
