use Rattle.dms_shapes.proofs.TreeForms.{formed_in_tree}
use Rattle.dms_shapes.proofs.laws.tree_formed_law.Goals as goal

pub returns : goal.returns
returns c = formed_in_tree
