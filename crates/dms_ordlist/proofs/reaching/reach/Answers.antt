use Rattle.std.proofs.Common.{◌≡◌, ◌<◌, ◌∙◌, ℕ, List, inl, inr, sym, ap, subst, length, slice_get, arith}
use Rattle.std.specs.declared.result.Result.TheVariants.{Ok, Err}
use Rattle.dms_block.specs.HeldLaws.{told_after}
use Rattle.dms_block.specs.View.{under}
use Rattle.dms_block.specs.ViewLaws.{reads_as, reads_on}
use Rattle.dms_ordlist.specs.declared.place.ListPlace.{ListPlace}
use Rattle.dms_chain.specs.declared.spelling.LeafBlock.{LeafBlock}
use Rattle.dms_chain.specs.Leads.{lead}
use Rattle.dms_chain.specs.Linked.{said_by}
use Rattle.dms_chain.specs.ListBlocks.{leaf_in}
use Rattle.dms_ordlist.specs.Places.{walked_next, walked_place, walked_there}
use Rattle.dms_chain.specs.Seen.{NoChain, NotAt, look}
use Rattle.dms_chain.specs.SeenLaws.{causes_err, causes_since, counts_still, file_still, not_at_since}
use Rattle.dms_ordlist.proofs.reaching.reach.Goals as goal

pub returns-in-Err-clause-causes : goal.returns-in-Err-clause-causes
returns-in-Err-clause-causes g c =
    let a = c.args.over.now in
    let b = c.loop-turn.over in
    let d = c.read_leaf.new.over in
    let before = c.loop-turn.invariant in
    let file = c.args.file in
    let at = c.loop-turn.at in
    let w = c.args.width in
    causes_since {U = ListPlace} (NotAt (leaf_in w) b file at) (NoChain w a file c.args.first) (Err c.in-Err.fault) a b d
    (λ f n h.
    let was = not_at_since (leaf_in w) a b file at before.reads f n h in (
      was.0,
      was.1,
      λ told ls chain head le.
          walked_there c.args.bytes.now ls w (look a file) chain c.loop-turn.before c.loop-turn._turn at (before.walked told ls chain head) (λ e. absurd (omega (arith, e, before.some))) (was.2 told),
    ))
    before.faults before.reads
    (causes_err LeafBlock ListPlace (NotAt (leaf_in w) b file at) (NotAt (leaf_in w) b file at) c.in-Err.fault (under b) (under d) (λ f n h. h) c.in-Err.ensures.causes)

pub returns-then-leaf-eq0-clause-place : goal.returns-then-leaf-eq0-clause-place
returns-then-leaf-eq0-clause-place g c told ls chain head =
    let a = c.args.over.now in
    let before = c.loop-turn.invariant in
    let w = c.args.width in
    let leaf = c.in-Ok.leaf in
    let still = file_still c.args.file before.reads told in
    let said = ap (λ (l : List (List ℕ)). said_by (leaf_in w) (slice_get l c.loop-turn.at)) (sym still) ∙ c.in-Ok.ensures.leaf (told_after before.reads.looks.passes.lasts told) in
    walked_place c.args.bytes.now ls w (look a c.args.file) chain c.loop-turn.before c.loop-turn._turn c.loop-turn.at leaf (before.walked told ls chain head) (λ e. absurd (omega (arith, e, before.some))) said (inl c.if-leaf-eq0.true)

pub returns-then-lead-len-clause-place : goal.returns-then-lead-len-clause-place
returns-then-lead-len-clause-place g c told ls chain head =
    let a = c.args.over.now in
    let before = c.loop-turn.invariant in
    let w = c.args.width in
    let leaf = c.in-Ok.leaf in
    let still = file_still c.args.file before.reads told in
    let said = ap (λ (l : List (List ℕ)). said_by (leaf_in w) (slice_get l c.loop-turn.at)) (sym still) ∙ c.in-Ok.ensures.leaf (told_after before.reads.looks.passes.lasts told) in
    let low : lead c.args.bytes.now leaf.entries.items < length leaf.entries.items =
    omega (arith, c.if-lead-len.true, c.lead.ensures.lead, c.len.ensures, ap (lead c.args.bytes.now) c.deref.ensures.value) in
    walked_place c.args.bytes.now ls w (look a c.args.file) chain c.loop-turn.before c.loop-turn._turn c.loop-turn.at leaf (before.walked told ls chain head) (λ e. absurd (omega (arith, e, before.some))) said (inr low)

pub loop-turn-preserved : goal.loop-turn-preserved
loop-turn-preserved g c =
    let a = c.args.over.now in
    let before = c.loop-turn.invariant in
    let w = c.args.width in
    let leaf = c.in-Ok.leaf in
    let all : lead c.args.bytes.now leaf.entries.items ≡ length leaf.entries.items =
    omega (arith, c.if-lead-len.false, c.lead.ensures.lead, c.lead.ensures.most, c.len.ensures, ap (lead c.args.bytes.now) c.deref.ensures.value, ap (λ (l : List (List ℕ)). length l) c.deref.ensures.value) in
    record {
      reads = reads_as (Ok tt) tt (reads_on (Ok leaf) g.met.B.Blocks.same_then before.reads c.in-Ok.ensures.reads);
      faults = c.in-Ok.ensures.causes ∙ before.faults;
      some = omega (arith, c.if-leaf-eq0.false);
      before = record { leaf = c.in-Ok.ensures.holds; there = subst (λ m. c.loop-turn.at < m) (ap (λ (k : ℕ → ℕ). k c.args.file) (counts_still before.reads)) c.in-Ok.ensures.there };
      walked = λ told ls chain head.
          let still = file_still c.args.file before.reads told in
          let said = ap (λ (l : List (List ℕ)). said_by (leaf_in w) (slice_get l c.loop-turn.at)) (sym still) ∙ c.in-Ok.ensures.leaf (told_after before.reads.looks.passes.lasts told) in
          walked_next c.args.bytes.now ls w (look a c.args.file) chain c.loop-turn.before c.loop-turn._turn c.loop-turn.at leaf (before.walked told ls chain head) (λ e. absurd (omega (arith, e, before.some))) said all;
    }
