-- What is read of an item's options and of links, and that each spelling is.
use Rattle.std.specs.Prelude.{◌≡◌, ◌<◌, ◌++◌, ℕ, List, map, true}
use Rattle.std.specs.declared.result.Result.TheVariants.{Ok}
use Rattle.dms_tokens.specs.declared.token.Lexeme.{Lexeme}
use Rattle.dms_tokens.specs.Cursors.{starts, is_the_sign}
use Rattle.dasdl_phrases.specs.Cursors.{turns_at, until_semicolon}
use Rattle.dasdl_phrases.specs.CondSpelling.{Reads, token_of}
use Rattle.dasdl_parse.specs.declared.items.ItemOptions.{ItemOptions}
use Rattle.dasdl_parse.specs.declared.declarations.LinkDecl.{LinkDecl}
use Rattle.dasdl_parse.specs.Items.{next_item_option_at, no_options, link_at}
use Rattle.dasdl_parse.specs.OptionSpelling.{AreItemOptions}
use Rattle.dasdl_parse.specs.ItemSpelling.{IsLink}

-- an item's options before a semicolon
abbrev pub ReadsEachOption : Type 0
ReadsEachOption = (us rest : List Lexeme) (said : ItemOptions) → AreItemOptions said (map token_of us) → starts (is_the_sign 59) rest ≡ true → turns_at until_semicolon next_item_option_at no_options (us ++ rest) ≡ Ok (said, rest)

-- what is read is a link, and a counted one where there were fewer than 4,000
abbrev pub ReadsLinksAlone : Type 0
ReadsLinksAlone = (counted place : ℕ) (name : List ℕ) (ts rest : List Lexeme) (link : LinkDecl) → link_at counted place name ts ≡ Ok (link, rest) → Reads (IsLink place name) ts link rest × (link.counted ≡ true → counted < 4000)

abbrev pub ReadsEachLink : Type 0
ReadsEachLink = (counted place : ℕ) (name : List ℕ) (us rest : List Lexeme) (link : LinkDecl) → IsLink place name link (map token_of us) → (link.counted ≡ true → counted < 4000) → link_at counted place name (us ++ rest) ≡ Ok (link, rest)
