-- What is read of a group, and that each spelling is.
use Rattle.std.specs.Prelude.{◌≡◌, ◌≤◌, ◌+◌, ◌++◌, ℕ, List, length}
use Rattle.std.specs.declared.result.Result.TheVariants.{Ok}
use Rattle.dms_tokens.specs.declared.token.Lexeme.{Lexeme}
use Rattle.dasdl_parse.specs.Items.{group_at}
use Rattle.dasdl_parse.specs.declared.items.GroupItems.{GroupItems}
use Rattle.dasdl_parse.specs.declared.declarations.ItemDecl.{ItemDecl}
use Rattle.dasdl_grammar.specs.SaidSpelling.{SpellsFirst}
use Rattle.dasdl_grammar.specs.GroupSpelling.{IsGroup}

-- what is read is a group, by which its data set has no more than 60 items
abbrev pub ReadsGroupsAlone : Type 0
ReadsGroupsAlone = (count : ℕ) (ts rest : List Lexeme) (group : GroupItems) → group_at count ts ≡ Ok (group, rest) → SpellsFirst IsGroup ts group.items rest × (group.count ≡ count + length group.items) × (group.count ≤ 60)

abbrev pub ReadsEachGroup : Type 0
ReadsEachGroup = (count : ℕ) (us rest : List Lexeme) (items : List ItemDecl) → IsGroup items us → count + length items ≤ 60 → group_at count (us ++ rest) ≡ Ok (record { items = items; count = count + length items }, rest)
