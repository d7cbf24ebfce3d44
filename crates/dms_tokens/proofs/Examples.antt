-- Texts and their tokens.
use Rattle.std.proofs.Common.{◌≡◌, [], ◌∷◌, refl, false}
use Rattle.std.specs.Prelude.{codes}
use Rattle.dms_base.specs.declared.op.Op.TheVariants.{NotEqual}
use Rattle.dms_tokens.specs.declared.token.Token.TheVariants.{Word, Number, Decimal, Quoted, Sign, Compare, Bad, End}
use Rattle.dms_tokens.specs.Tokens.{lexeme, tokens_of, byte_turn, fresh_byte, word_byte, dashes_byte, whole_byte, point_byte, fraction_byte, quoted_byte, quote_byte, character, less_byte, end_turn}

-- a word goes on over hyphens where a letter or a digit follows them
hyphens : tokens_of (codes "a--1;") ≡ lexeme (Word (codes "A--1")) 1 ∷ lexeme (Sign 59) 5 ∷ lexeme End 6 ∷ []
unfolding byte_turn fresh_byte word_byte dashes_byte end_turn
hyphens = refl

-- and else a hyphen can't be read
last_hyphen : tokens_of (codes "A-;") ≡ lexeme (Word (codes "A")) 1 ∷ lexeme Bad 2 ∷ []
unfolding byte_turn fresh_byte word_byte dashes_byte end_turn
last_hyphen = refl

-- a point is a number's where a digit follows
points : tokens_of (codes "4.5 4.") ≡ lexeme (Decimal false 45 1) 1 ∷ lexeme (Number 4) 5 ∷ lexeme Bad 6 ∷ []
unfolding byte_turn fresh_byte whole_byte point_byte fraction_byte end_turn
points = refl

-- a string that isn't ended can't be read from its first quote on
unfinished : tokens_of (34 ∷ codes "a") ≡ lexeme Bad 1 ∷ []
unfolding byte_turn fresh_byte quoted_byte character end_turn
unfinished = refl

-- a quote behind a quote is a character of the string
quotes : tokens_of (34 ∷ 34 ∷ 34 ∷ 34 ∷ codes "<>") ≡ lexeme (Quoted (34 ∷ [])) 1 ∷ lexeme (Compare NotEqual) 5 ∷ lexeme End 7 ∷ []
unfolding byte_turn fresh_byte quoted_byte quote_byte character less_byte end_turn
quotes = refl
