use Rattle.std.proofs.Common.{◌≡◌, ◌<◌, ℕ, inr, refl, subst}
use Rattle.dms_block.specs.View.{under}
use Rattle.dms_chain.specs.Seen.{look}
use Rattle.dms_chain.specs.SeenLaws.{causes_err}
use Rattle.dms_tree.specs.declared.node.InnerBlock.{InnerBlock}
use Rattle.dms_tree.specs.declared.node.Node.{Node}
use Rattle.dms_tree.specs.Neighbours.{NoInnerAt, leaf_no_inner}
use Rattle.dms_tree.specs.Nodes.{IsNode, NodeHolds}
use Rattle.dms_tree.specs.Ways.{NoNodeAt}
use Rattle.dms_tree.proofs.neighbours.read_inner.Goals as goal

pub returns-in-Ok-Inner-clause-inner : goal.returns-in-Ok-Inner-clause-inner
returns-in-Ok-Inner-clause-inner g c told = subst (IsNode c.args.width (look c.args.over.now c.args.file c.args.at)) c.in-Ok-Inner.field-0-is (c.in-Ok-Inner.ensures.node told)

pub returns-in-Ok-Inner-clause-holds : goal.returns-in-Ok-Inner-clause-holds
returns-in-Ok-Inner-clause-holds g c = subst (NodeHolds c.args.width) c.in-Ok-Inner.field-0-is c.in-Ok-Inner.ensures.holds

pub returns-in-Ok-Leaf-clause-causes : goal.returns-in-Ok-Leaf-clause-causes
returns-in-Ok-Leaf-clause-causes g c = inr (
  c.in-Ok-Leaf.ensures.causes,
  (
    refl,
    c.in-Ok-Leaf.ensures.there,
    λ told. leaf_no_inner c.args.width (look c.args.over.now c.args.file c.args.at) _ (subst (IsNode c.args.width (look c.args.over.now c.args.file c.args.at)) c.in-Ok-Leaf.field-0-is (c.in-Ok-Leaf.ensures.node told)),
  ),
)

pub returns-in-Err-clause-causes : goal.returns-in-Err-clause-causes
returns-in-Err-clause-causes g c =
    let o = c.args.over.now in
    causes_err Node InnerBlock (NoNodeAt c.args.width o c.args.file c.args.at) (NoInnerAt c.args.width o c.args.file c.args.at) c.in-Err.fault (under o) (under c.read_node.new.over) (λ f k h. (h.0, h.1, λ told. (h.2 told).inner)) c.in-Err.ensures.causes
