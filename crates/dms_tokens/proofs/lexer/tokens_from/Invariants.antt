use Rattle.std.proofs.Common.{◌≡◌, ◌++◌, ◌+◌, drop}
use Rattle.dms_tokens.specs.declared.reading.Reading.TheVariants.{Between}
use Rattle.dms_tokens.specs.Tokens.{tokens_from}
use Rattle.dms_tokens.proofs.lexer.tokens_from.Given as goal

-- the tokens so far and those of the rest are those of the text
abbrev pub invariant-loop-b : goal.invariant-loop-b
invariant-loop-b l = record { place : l.place ≡ l.fn.first + l.b-index; same : l.out ++ tokens_from l.reading l.place (drop l.b-index l.text) ≡ tokens_from Between l.fn.first l.text }
