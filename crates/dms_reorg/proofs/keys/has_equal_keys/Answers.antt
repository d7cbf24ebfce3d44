use Rattle.std.proofs.Common.{◌≡◌, ◌∙◌, ◌+◌, ◌*◌, ◌≤◌, ℕ, Bool, Vec, Global, true, Ok, Err, ap, arith}
use Rattle.dms_block.specs.View.{seen_counts}
use Rattle.dms_block.specs.ViewLaws.{reads_as, reads_more, reads_on}
use Rattle.dms_desc.specs.Shape.{shape_of}
use Rattle.dms_slots.specs.Seen.{count_of}
use Rattle.dms_slots.specs.SlotBlocks.{per_block}
use Rattle.dms_reorg.proofs.Collected.{still_next, still_two}
use Rattle.dms_reorg.proofs.Seen.{reads_err}
use Rattle.dms_reorg.proofs.keys.has_equal_keys.Goals as goal

pub returns-in-Err-clause-reads : goal.returns-in-Err-clause-reads
returns-in-Err-clause-reads g c =
    let t = shape_of c.args.t.now in
    let a = c.args.over.now in
    let count_is : c.from.result ≡ count_of t a = c.from.ensures ∙ c.count.ensures ∙ ap (seen_counts a) c.file_of.ensures in
    let last_is : c.from.result * c.per_block.result ≡ count_of t a * per_block t.items = (λ i. count_is i * c.per_block.ensures.count i) in
    let le : c.loop-index.index + 1 ≤ count_of t a * per_block t.items = omega (arith, c.loop-index-test.true, c.loop-index.auto.index-end, last_is) in
    reads_more (count_of t a * per_block t.items) le (reads_err c.in-Err.fault (reads_on {U = ℕ} (Err c.in-Err.fault) g.met.B.Blocks.same_then c.loop-index.invariant.reads (reads_err c.in-Err.fault c.in-Err.ensures.reads)))

pub returns-in-Ok-true-clause-equal : goal.returns-in-Ok-true-clause-equal
returns-in-Ok-true-clause-equal g c =
    let t = shape_of c.args.t.now in
    let a = c.args.over.now in
    let count_is : c.from.result ≡ count_of t a = c.from.ensures ∙ c.count.ensures ∙ ap (seen_counts a) c.file_of.ensures in
    let last_is : c.from.result * c.per_block.result ≡ count_of t a * per_block t.items = (λ i. count_is i * c.per_block.ensures.count i) in
    let le : c.loop-index.index + 1 ≤ count_of t a * per_block t.items = omega (arith, c.loop-index-test.true, c.loop-index.auto.index-end, last_is) in
    still_two {V = Vec ℕ Global} (λ k. k.items) c.args.kinds.now (shape_of c.args.s.now) t c.args.first.now a c.loop-index.over c.loop-index.index c.loop-index.invariant.reads c.loop-index.keys c.slot_has_key.new.keys
    c.loop-index.index (count_of t a * per_block t.items) c.in-Ok-true.field-0 c.in-Ok-true.field-0-test le c.loop-index.invariant.kept c.in-Ok-true.ensures.had

pub returns-in-Ok-true-clause-reads : goal.returns-in-Ok-true-clause-reads
returns-in-Ok-true-clause-reads g c =
    let t = shape_of c.args.t.now in
    let a = c.args.over.now in
    let count_is : c.from.result ≡ count_of t a = c.from.ensures ∙ c.count.ensures ∙ ap (seen_counts a) c.file_of.ensures in
    let last_is : c.from.result * c.per_block.result ≡ count_of t a * per_block t.items = (λ i. count_is i * c.per_block.ensures.count i) in
    let le : c.loop-index.index + 1 ≤ count_of t a * per_block t.items = omega (arith, c.loop-index-test.true, c.loop-index.auto.index-end, last_is) in
    reads_more (count_of t a * per_block t.items) le (reads_on (Ok true) g.met.B.Blocks.same_then c.loop-index.invariant.reads (reads_as {U = Bool} (Ok true) tt c.in-Ok-true.ensures.reads))

pub loop-index-preserved : goal.loop-index-preserved
loop-index-preserved g c =
    let t = shape_of c.args.t.now in
    let before = c.loop-index.invariant in
    record {
      reads = reads_on (Ok 0) g.met.B.Blocks.same_then before.reads (reads_as {U = ℕ} (Ok 0) tt c.in-Ok-false.ensures.reads);
      faults = c.in-Ok-false.ensures.causes ∙ before.faults;
      kept = still_next {V = Vec ℕ Global} (λ k. k.items) c.args.kinds.now (shape_of c.args.s.now) t c.args.first.now c.args.over.now c.loop-index.over c.loop-index.index before.reads c.loop-index.keys c.slot_has_key.new.keys
          c.loop-index.index c.in-Ok-false.field-0 c.in-Ok-false.field-0-test before.kept c.in-Ok-false.ensures.had;
    }
