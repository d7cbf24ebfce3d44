use Rattle.std.proofs.Common.{◌∙◌, inl}
use Rattle.dms_load.specs.Drawing.{drawing_of}
use Rattle.dms_load.proofs.Lines.{refilled}
use Rattle.dms_load.proofs.source.LoadSource.refill.Goals as goal

pub returns-then-self-gt0-clause-left : goal.returns-then-self-gt0-clause-left
returns-then-self-gt0-clause-left c =
    refilled c.args.self.now.line.bytes c.next_line-line.result.bytes c.args.self.now.place c.args.self.now.behind (drawing_of c.args.self.now.state) (drawing_of c.next_line-line.new.self) (c.if-self-len.true ∙ c.len.ensures.value) c.if-self-gt0.true c.next_line-line.ensures.text c.next_line-line.ensures.after

pub returns-then-self-gt0-clause-some : goal.returns-then-self-gt0-clause-some
returns-then-self-gt0-clause-some c = inl c.next_line-line.ensures.some
