use Rattle.std.proofs.Common.{ℕ, ◌≡◌, ◌≤◌, ◌+◌, ◌∙◌, List, [], ◌∷◌, Some, true, max, not, ap, sym, length, refl, arith}
use Rattle.dms_block.specs.View.{overlay_content}
use Rattle.dms_chain.specs.Changed.{writes_as, writes_err, writes_more}
use Rattle.dms_chain.specs.Lists.{has_entry, with_entry}
use Rattle.dms_tree.specs.TreeLooks.{looked_none, looked_some}
use Rattle.dms_tree.proofs.inserting.insert_in.Goals as goal
