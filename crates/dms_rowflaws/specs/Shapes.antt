-- The first structure whose blocks are together none of its form.
use Rattle.std.specs.Prelude.{ℕ, Bool, ◌&&◌, ◌||◌, nat_le, length, Some, None, is_some, if◌then◌else◌}
use Rattle.std.specs.declared.option.Option.{Option}
use Rattle.dms_block.specs.Content.{Content}
use Rattle.dms_desc.specs.Lookups.{structure_of}
use Rattle.dms_desc.specs.Shape.{Shape, Described}
use Rattle.dms_links.specs.Rows.{file_in}
use Rattle.dms_lists.specs.Forms.{form_of, kept_in}
use Rattle.dms_model.specs.Valid.{is_data_set}
use Rattle.dms_rowflaws.specs.Blocks.{width_of}
use Rattle.dms_rowflaws.specs.Numbers.{first_of_structures}

-- A structure has at most 1,048,576 blocks, and those of a set or subset are together a list in its form.
abbrev pub is_shaped : Described → Content → Shape → Bool
is_shaped desc c s = nat_le (length (file_in c s)) 1048576 && (is_data_set (Some s) || is_some (kept_in (form_of s) (width_of desc s) (file_in c s)))

abbrev pub unshaped_by : Bool → ℕ → Option ℕ
unshaped_by shaped n = if shaped then None else Some n

abbrev pub unshaped_at : Described → Content → ℕ → Option Shape → Option ℕ
unshaped_at desc c n None = None
unshaped_at desc c n (Some s) = unshaped_by (is_shaped desc c s) n

-- The number of the first structure that has not.
abbrev pub shape_flaw : Described → Content → Option ℕ
shape_flaw desc c = first_of_structures (λ n. unshaped_at desc c n (structure_of desc n))
