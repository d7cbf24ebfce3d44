use Rattle.std.proofs.Common.{arith}
use Rattle.dms_block.specs.View.{overlay_content}
use Rattle.dms_block.specs.ViewLaws.{counts_seen}
use Rattle.dms_ordlist.specs.ListWrites.{taken_first, taken_last, taken_spare}
use Rattle.dms_ordlist.proofs.writing.next_free.Goals as goal

pub returns-then-count-eq0-clause-taken : goal.returns-then-count-eq0-clause-taken
returns-then-count-eq0-clause-taken g c told w ls fs list free =
    let o = c.args.over.now in
    let n = counts_seen o (g.met.B.Blocks.agrees o.below c.requires.sound) told c.args.file in
    taken_first w (overlay_content o c.args.file) ls fs list (omega (arith, n, c.count-count.ensures, c.if-count-eq0.true))

pub returns-then-head-eq0-clause-taken : goal.returns-then-head-eq0-clause-taken
returns-then-head-eq0-clause-taken g c told w ls fs list free =
    let o = c.args.over.now in
    let n = counts_seen o (g.met.B.Blocks.agrees o.below c.requires.sound) told c.args.file in
    taken_last w (overlay_content o c.args.file) ls fs c.args.head.free c.count-count.result list (λ e. absurd (omega (arith, e, n, c.count-count.ensures, c.if-count-eq0.false))) free c.if-head-eq0.true (omega (arith, n, c.count-count.ensures))

pub returns-in-Ok-clause-taken : goal.returns-in-Ok-clause-taken
returns-in-Ok-clause-taken g c told w ls fs list free =
    let o = c.args.over.now in
    let n = counts_seen o (g.met.B.Blocks.agrees o.below c.requires.sound) told c.args.file in
    taken_spare w (overlay_content o c.args.file) ls fs c.args.head.free c.in-Ok.next list (λ e. absurd (omega (arith, e, n, c.count-count.ensures, c.if-count-eq0.false))) free c.if-head-eq0.false (c.in-Ok.ensures.next told)
