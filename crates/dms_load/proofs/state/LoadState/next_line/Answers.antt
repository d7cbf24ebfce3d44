use Rattle.std.proofs.Common.{◌∙◌, sym}
use Rattle.dms_load.specs.Drawing.{drawing_of}
use Rattle.dms_load.proofs.Lines.{opens_after, opens_text}
use Rattle.dms_load.proofs.state.LoadState.next_line.Goals as goal

pub returns-then-self-lt4-clause-text : goal.returns-then-self-lt4-clause-text
returns-then-self-lt4-clause-text c = c.open_line.ensures.bytes ∙ sym (opens_text (drawing_of c.args.self.now) c.if-self-lt4.true)

pub returns-then-self-lt4-clause-after : goal.returns-then-self-lt4-clause-after
returns-then-self-lt4-clause-after c = sym (opens_after (drawing_of c.args.self.now) c.if-self-lt4.true)
