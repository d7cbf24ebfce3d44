use Rattle.std.proofs.Common.{subst}
use Rattle.dms_audfile.specs.Blocks.{block_entries}
use Rattle.dms_audfile.specs.Gathering.{known_of}
use Rattle.dms_audfile.specs.Reads.{ReadInto}
use Rattle.dms_audfile.specs.Scanning.{places_of}
use Rattle.dms_audfile.proofs.OneBlock.{one_block}
use Rattle.dms_audfile.proofs.given.places_in.Goals as goal

pub returns-then-branch : goal.returns-then-branch
returns-then-branch c =
    let read = places_of c.args.file c.args.number (block_entries c.args.block.now) in
    let old = known_of c.new-known.result in
    let new = known_of c.read_block.new.known in
    one_block old new read c.new-known.ensures (subst (λ b. ReadInto old read new b) c.if-branch.true c.in_ok-read_block.ensures)
