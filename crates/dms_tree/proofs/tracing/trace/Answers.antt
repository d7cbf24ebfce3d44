use Rattle.std.proofs.Common.{rules, ◌≡◌, zero, suc, ◌+◌, ◌≤◌, ◌<◌, length-append, ◌∙◌, ◌++◌, ◌∷◌, [], ℕ, List, inl, inr, refl, sym, ap, subst, length, take, slice_get, get_or, arith, true}
use Rattle.std.specs.declared.result.Result.TheVariants.{Ok, Err}
use Rattle.dms_block.specs.HeldLaws.{told_after}
use Rattle.dms_block.specs.View.{ReadsOverlay, seen_counts, under}
use Rattle.dms_block.specs.ViewLaws.{reads_as, reads_more, reads_none, reads_on}
use Rattle.dms_chain.specs.Leads.{lead}
use Rattle.dms_chain.specs.Linked.{said_by}
use Rattle.dms_chain.specs.ListBlocks.{leaf_in}
use Rattle.dms_chain.specs.Seen.{look}
use Rattle.dms_chain.specs.SeenLaws.{causes_err, causes_since, counts_still, file_still}
use Rattle.dms_tree.specs.declared.node.Node.{Node}
use Rattle.dms_tree.specs.declared.raising.PathStep.{PathStep}
use Rattle.dms_tree.specs.declared.tracing.Trail.{Trail}
use Rattle.dms_tree.specs.Errs.{by_memory, handed_on}
use Rattle.dms_tree.specs.Levels.{marked}
use Rattle.dms_tree.specs.Nodes.{IsNoNode, IsNode, NodeHolds}
use Rattle.dms_tree.specs.Order.{key_of}
use Rattle.dms_tree.specs.Trails.{GoingUp, NoTreeNear, up_down, up_first, up_there, up_trail}
use Rattle.dms_tree.specs.TreeBlocks.{inner_in}
use Rattle.dms_tree.specs.TreeIn.{says}
use Rattle.dms_tree.specs.TreeSpells.{IsInner}
use Rattle.dms_tree.specs.Ups.{ArePassed, passed_both}
use Rattle.dms_tree.specs.Ways.{NoNodeAt}
use Rattle.dms_tree.proofs.tracing.trace.Goals as goal

kid_is : (kids : List ℕ) (i j : ℕ) (v : ℕ) → i < length kids → i ≡ j → v ≡ get_or kids i v → v ≡ get_or kids j 0
kid_is kids i j v low same is = is ∙ ap (λ (k : ℕ). get_or kids k v) same ∙ any kids j (omega (arith, low, same))
  where
    any : (kids : List ℕ) (j : ℕ) → j < length kids → get_or kids j v ≡ get_or kids j 0
    any [] j low = absurd (omega (arith, low))
    any (k ∷ kids) zero low = refl
    any (k ∷ kids) (suc j) low = any kids j (omega (arith, low))

pub loop-turn-init : goal.loop-turn-init
loop-turn-init g c =
    let none = c.new-path.ensures.items in
    let w = length c.args.bytes.now in
    record {
      reads = subst (λ (l : List PathStep). ReadsOverlay {T = Unit {0}} (length l) (Ok tt) c.args.over.now c.args.over.now) (sym none)
          (reads_none 0 (Ok tt) c.args.over.now g.met.B.Blocks.same_again tt c.requires.sound);
      faults = refl;
      named = c.requires.there;
      passed = subst (λ (l : List PathStep). ArePassed w (seen_counts c.args.over.now c.args.file) l) (sym none) tt;
      size = ap (λ (l : List PathStep). length l + 1) none;
      way = λ told us ls tree. subst (λ (l : List PathStep). GoingUp w (look c.args.over.now c.args.file) (key_of true c.args.bytes.now) us ls c.args.root l 1 c.args.root) (sym none)
          (up_first w (look c.args.over.now c.args.file) (key_of true c.args.bytes.now) us ls c.args.root tree);
    }

pub returns-in-Ok-Leaf-clause-reads : goal.returns-in-Ok-Leaf-clause-reads
returns-in-Ok-Leaf-clause-reads g c =
    let t : Trail = record { path = c.loop-turn.path; number = c.loop-turn.at; leaf = c.in-Ok-Leaf.leaf } in
    reads_more 10 (omega (arith, c.loop-turn.invariant.size, c.loop-turn-test.true, c.min-turns.ensures)) (reads_as (Ok t) tt (reads_on (Ok c.in-Ok-Leaf.field-0) g.met.B.Blocks.same_then c.loop-turn.invariant.reads c.in-Ok-Leaf.ensures.reads))

pub returns-in-Err-clause-reads : goal.returns-in-Err-clause-reads
returns-in-Err-clause-reads g c =
    let le : length c.loop-turn.path.items + 1 ≤ 10 = omega (arith, c.loop-turn.invariant.size, c.loop-turn-test.true, c.min-turns.ensures) in
    reads_more 10 le (handed_on Node Trail (length c.loop-turn.path.items + 1) c.args.over.now c.read_node.new.over c.in-Err.fault (reads_on {U = Node} (Err c.in-Err.fault) g.met.B.Blocks.same_then c.loop-turn.invariant.reads c.in-Err.ensures.reads))

pub returns-in_err-push-in-Ok-Inner-clause-reads : goal.returns-in_err-push-in-Ok-Inner-clause-reads
returns-in_err-push-in-Ok-Inner-clause-reads g c =
    let le : length c.loop-turn.path.items + 1 ≤ 10 = omega (arith, c.loop-turn.invariant.size, c.loop-turn-test.true, c.min-turns.ensures) in
    reads_more 10 le (reads_as c.from_residual.result (by_memory c.from_residual.result c.from_residual.ensures.1) (reads_on (Ok c.in-Ok-Inner.field-0) g.met.B.Blocks.same_then c.loop-turn.invariant.reads c.in-Ok-Inner.ensures.reads))

pub loop-turn-preserved : goal.loop-turn-preserved
loop-turn-preserved g c =
    let before = c.loop-turn.invariant in
    let w = length c.args.bytes.now in
    let file = c.args.file in
    let count = seen_counts c.args.over.now file in
    let inner = c.in-Ok-Inner.inner in
    let still = ap (λ (k : ℕ → ℕ). k file) (counts_still before.reads) in
    let p : PathStep = record { number = c.loop-turn.at; inner = inner; taken = c.turn-taken.result } in
    let taken : c.turn-taken.result ≡ lead (key_of true c.args.bytes.now) (marked 0 inner.seps.items) = c.turn-taken.ensures.lead ∙ ap (λ l. lead (key_of true c.args.bytes.now) (marked 0 l)) c.deref.ensures.value in
    let holds : IsInner w inner.kids.items inner.seps.items = subst (NodeHolds w) c.in-Ok-Inner.field-0-is c.in-Ok-Inner.ensures.holds in
    let fit : c.turn-taken.result ≤ length inner.seps.items = omega (arith, c.turn-taken.ensures.most, ap (λ (l : List (List ℕ)). length l) c.deref.ensures.value) in
    let low : c.loop-turn.at < count = subst (λ m. c.loop-turn.at < m) still c.in-Ok-Inner.ensures.there in
    let kid : c.index-kid.result.now ≡ get_or inner.kids.items (lead (key_of true c.args.bytes.now) (marked 0 inner.seps.items)) 0 = kid_is inner.kids.items c.turn-taken.result (lead (key_of true c.args.bytes.now) (marked 0 inner.seps.items)) c.index-kid.result.now (omega (arith, fit, holds.more)) taken c.index-kid.ensures in
    let items = c.in_ok-push-in-Ok-Inner.ensures.items in
    let size : length c.loop-turn.path.items + 1 ≤ length c.push.new.self.items = omega (arith, ap (λ (l : List PathStep). length l) items, length-append c.loop-turn.path.items (p ∷ [])) in
    record {
      reads = reads_more (length c.push.new.self.items) size (reads_as (Ok tt) tt (reads_on (Ok c.in-Ok-Inner.field-0) g.met.B.Blocks.same_then before.reads c.in-Ok-Inner.ensures.reads));
      faults = c.in-Ok-Inner.ensures.causes ∙ before.faults;
      named = low;
      passed = subst (λ (l : List PathStep). ArePassed w count l) (sym items) (passed_both w count c.loop-turn.path.items (p ∷ []) before.passed (record { low = low; inner = holds; fit = fit }, tt));
      size = omega (arith, before.size, ap (λ (l : List PathStep). length l) items, length-append c.loop-turn.path.items (p ∷ []));
      way = λ told us ls tree.
          let still' = file_still file before.reads told in
          let said = ap (λ (l : List (List ℕ)). says (inner_in w) (slice_get l c.loop-turn.at)) (sym still') ∙ subst (IsNode w (look c.loop-turn.over file c.loop-turn.at)) c.in-Ok-Inner.field-0-is (c.in-Ok-Inner.ensures.node (told_after before.reads.looks.passes.lasts told)) in
          subst (λ (l : List PathStep). GoingUp w (look c.args.over.now file) (key_of true c.args.bytes.now) us ls c.args.root l (c.loop-turn._turn + 1) c.index-kid.result.now) (sym items)
          (up_down c.args.bytes.now (look c.args.over.now file) us ls c.args.root c.loop-turn.path.items c.loop-turn._turn c.loop-turn.at (before.way told us ls tree) tree.chain p refl taken said c.index-kid.result.now kid);
    }

pub returns-in-Ok-Leaf-clause-trail : goal.returns-in-Ok-Leaf-clause-trail
returns-in-Ok-Leaf-clause-trail g c told us ls tree =
    let a = c.args.over.now in
    let before = c.loop-turn.invariant in
    let w = length c.args.bytes.now in
    let still = file_still c.args.file before.reads told in
    let said = ap (λ (l : List (List ℕ)). said_by (leaf_in w) (slice_get l c.loop-turn.at)) (sym still) ∙ subst (IsNode w (look c.loop-turn.over c.args.file c.loop-turn.at)) c.in-Ok-Leaf.field-0-is (c.in-Ok-Leaf.ensures.node (told_after before.reads.looks.passes.lasts told)) in
    up_trail c.args.bytes.now (look a c.args.file) us ls c.args.root c.loop-turn.path.items c.loop-turn._turn c.loop-turn.at (before.way told us ls tree) tree.chain (record { path = c.loop-turn.path; number = c.loop-turn.at; leaf = c.in-Ok-Leaf.leaf }) refl refl said

pub returns-in-Err-clause-causes : goal.returns-in-Err-clause-causes
returns-in-Err-clause-causes g c =
    let a = c.args.over.now in
    let b = c.loop-turn.over in
    let d = c.read_node.new.over in
    let before = c.loop-turn.invariant in
    let file = c.args.file in
    let at = c.loop-turn.at in
    let w = length c.args.bytes.now in
    causes_since {U = Trail} (NoNodeAt w b file at) (NoTreeNear w a file c.args.root) (Err c.in-Err.fault) a b d
    (λ f n h. (
      h.0,
      subst (λ m. n < m) (ap (λ (k : ℕ → ℕ). k file) (counts_still before.reads)) h.1,
      λ told us ls tree few short.
          let none = subst (λ (l : List (List ℕ)). IsNoNode w (slice_get l at)) (file_still file before.reads told) (h.2 (told_after before.reads.looks.passes.lasts told)) in
          up_there c.args.bytes.now (look a file) us ls c.args.root c.loop-turn.path.items c.loop-turn._turn at (before.way told us ls tree) tree.chain none,
    ))
    before.faults before.reads
    (causes_err Node Trail (NoNodeAt w b file at) (NoNodeAt w b file at) c.in-Err.fault (under b) (under d) (λ f n h. h) c.in-Err.ensures.causes)
