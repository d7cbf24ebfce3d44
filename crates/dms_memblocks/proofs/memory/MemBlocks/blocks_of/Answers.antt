use Rattle.std.proofs.Common.{◌≡◌, ◌<◌, ◌∙◌, List, ap, sym, length, get_or, [], arith}
use Rattle.std.specs.Global.{Vec}
use Rattle.dms_block.specs.declared.block.Block.{Block}
use Rattle.dms_memblocks.specs.Undoing.{rows}
use Rattle.dms_memblocks.specs.UndoLaws.{small_at}
use Rattle.dms_memblocks.proofs.Rows.{at_rows}
use Rattle.dms_memblocks.proofs.memory.MemBlocks.blocks_of.Goals as goal

pub returns-then-at-len-clause-small : goal.returns-then-at-len-clause-small
returns-then-at-len-clause-small c =
    let low : c.place_of-at.result < length c.args.self.now.files.items = omega (arith, c.if-at-len.true, c.len.ensures) in
    let file : List Block = get_or (rows c.args.self.now.files.items) c.place_of-at.result [] in
    let is : c.as_slice.result.now ≡ file = c.as_slice.ensures.value ∙ ap (λ (v : Vec Block). v.items) c.index.ensures ∙ sym (at_rows c.args.self.now.files.items c.place_of-at.result c.index.result.now low) in
    let small = small_at (rows c.args.self.now.files.items) c.place_of-at.result c.args.self.now.small in
    omega (arith, small, ap (λ (l : List Block). length l) is)
