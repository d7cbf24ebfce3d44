use Rattle.std.proofs.Common.{ℕ, ◌≡◌, ◌+◌, ◌++◌, List, get_or, ap, ◌∙◌, take, arith, rules}
use Rattle.std.specs.Int.{w32, to_be_bytes}
use Rattle.dms_history.specs.declared.event.FileCount.{FileCount}
use Rattle.dms_dump.proofs.Spelled.{counts_on}
use Rattle.dms_dump.proofs.spelling.add_counts.Goals as goal

pub loop-count-preserved : goal.loop-count-preserved
loop-count-preserved c =
    let d : FileCount = record { file = 0; blocks = 0 } in
    let x = get_or c.args.counts.now c.loop-count.count-index d in
    let inv = c.loop-count.invariant in
    let one : take c.add_bytes-next.result c.add_bytes-next.new.into ≡ take c.loop-count.next c.loop-count.into ++ to_be_bytes w32 x.file = search rules in
    let two : take c.add_bytes-next-in-loop-count.result c.add_bytes-next-in-loop-count.new.into ≡ take c.add_bytes-next.result c.add_bytes-next.new.into ++ to_be_bytes w32 x.blocks = search rules in
    let three : c.add_bytes-next.result ≡ c.loop-count.next + 4 = search rules in
    let four : c.add_bytes-next-in-loop-count.result ≡ c.add_bytes-next.result + 4 = search rules in
    record {
      end = omega (arith, three, four, inv.end);
      size = c.add_bytes-next-in-loop-count.ensures.size ∙ c.add_bytes-next.ensures.size ∙ inv.size;
      done = two ∙ ap (λ (l : List ℕ). l ++ to_be_bytes w32 x.blocks) (one ∙ ap (λ (l : List ℕ). l ++ to_be_bytes w32 x.file) inv.done)
          ∙ counts_on c.args.counts.now c.loop-count.count-index d (take c.args.at c.args.into.now) c.loop-count-test.true;
    }
