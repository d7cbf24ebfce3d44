use Rattle.std.proofs.Common.{◌≡◌, ◌++◌, take, drop}
use Rattle.dms_feed.specs.Lines.{line_text}
use Rattle.dms_feed.proofs.raw.line_text.Given as goal

abbrev pub invariant-loop-place : goal.invariant-loop-place
invariant-loop-place l = line_text l.line ≡ take l.place l.line ++ line_text (drop l.place l.line)
