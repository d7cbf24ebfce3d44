-- That each spelling of the grammar is read, of conditions and keys.
use Rattle.std.specs.Prelude.{◌≡◌, ◌≤◌, ◌++◌, List, map, length, false, codes}
use Rattle.std.specs.declared.result.Result.TheVariants.{Ok}
use Rattle.dms_tokens.specs.declared.token.Lexeme.{Lexeme}
use Rattle.dms_tokens.specs.Cursors.{starts, is_word}
use Rattle.dasdl_phrases.specs.TreeCodes.{WrittenTree}
use Rattle.dasdl_phrases.specs.Conditions.{cond_at}
use Rattle.dasdl_phrases.specs.declared.key_parts.PartDecl.{PartDecl}
use Rattle.dasdl_phrases.specs.KeySpelling.{IsKey}
use Rattle.dasdl_phrases.specs.Keys.{parts_at}
use Rattle.dasdl_phrases.specs.CondSpelling.{IsCond, nodes, token_of}
use Rattle.dasdl_phrases.specs.CondSpelling.CondPart.{Whole}

-- a condition of at most 100 nodes, behind which neither AND nor OR stands
abbrev pub ReadsEachCondition : Type 0
ReadsEachCondition = (us rest : List Lexeme) (t : WrittenTree) → IsCond Whole t (map token_of us) → nodes t ≤ 100 → starts (is_word (codes "AND")) rest ≡ false → starts (is_word (codes "OR")) rest ≡ false → cond_at (us ++ rest) ≡ Ok (t, rest)

-- a key of at most 16 parts, behind which no direction stands
abbrev pub ReadsEachKey : Type 0
ReadsEachKey = (us rest : List Lexeme) (parts : List PartDecl) → IsKey parts (map token_of us) → length parts ≤ 16 → starts (is_word (codes "ASCENDING")) rest ≡ false → starts (is_word (codes "DESCENDING")) rest ≡ false → parts_at (us ++ rest) ≡ Ok (parts, rest)
