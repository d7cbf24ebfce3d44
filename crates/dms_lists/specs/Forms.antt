-- In which form the list of a structure is kept, and the list that a file's blocks spell in a form.
use Rattle.std.specs.Prelude.{ℕ, ◌+◌, ◌≡◌, ◌<◌, ◌==◌, ◌&&◌, IsTrue, List, Some, None, not, if◌then◌else◌}
use Rattle.std.specs.declared.option.Option.{Option}
use Rattle.dms_block.specs.declared.blocks.Blocks.{Ghosts}
use Rattle.dms_block.specs.declared.overlay.Overlay.{Overlay}
use Rattle.dms_block.specs.View.{overlay_content, seen_counts, under}
use Rattle.dms_chain.specs.ListIn.{list_in}
use Rattle.dms_desc.specs.Kinds.{is_manual}
use Rattle.dms_desc.specs.Shape.{Shape}
use Rattle.dms_lists.specs.declared.form.ListForm.{ListForm}
use Rattle.dms_lists.specs.declared.form.ListForm.TheVariants.{Tree, List as OneChain}
use Rattle.dms_tree.specs.TreeIn.{tree_in}

-- A set or automatic subset that is INDEX SEQUENTIAL is kept in a tree; an ORDERED LIST, and every manual subset, in a list.
abbrev pub form_of : Shape → ListForm
form_of s = if not (is_manual s) && (s.form == 1) then Tree else OneChain

-- the entries of one width that a file's blocks spell in a form, if they spell some
abbrev pub kept_in : ListForm → ℕ → List (List ℕ) → Option (List (List ℕ))
kept_in Tree width bs = tree_in width bs
kept_in OneChain width bs = list_in width bs

-- how many blocks of a file of so many one look reads at most, whatever the blocks say
abbrev pub look_reads : ListForm → ℕ → ℕ
look_reads Tree count = 2 + (count + count)
look_reads OneChain count = 1 + count

module _ {B : Type 0} {g : Ghosts B} where
  -- what holds of the list of a file, where the content is told and the file's blocks are one
  abbrev pub IfKept : ListForm → Overlay B g → ℕ → ℕ → (List (List ℕ) → Type 0) → Type 0
  IfKept form o file width P = IsTrue (under o).told → (xs : List (List ℕ)) → kept_in form width (overlay_content o file) ≡ Some xs → P xs

  -- a block of a file whose blocks are no list in this form
  abbrev pub NoKept : ListForm → Overlay B g → ℕ → ℕ → ℕ → ℕ → Type 0
  NoKept form o file width f b = (f ≡ file) × (b < seen_counts o file) × (IsTrue (under o).told → kept_in form width (overlay_content o file) ≡ None)
