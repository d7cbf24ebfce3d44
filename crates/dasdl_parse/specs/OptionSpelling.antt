-- Options in any order, each with a comma before it or without one.
use Rattle.std.specs.Prelude.{List, [], ◌∷◌, ◌++◌, Bool, true, false, codes, Some, None}
use Rattle.std.specs.declared.option.Option.{Option}
use Rattle.dms_base.specs.declared.op.Op.TheVariants.{Equal}
use Rattle.dms_base.specs.declared.kind.Literal.{Literal}
use Rattle.dms_base.specs.declared.kind.Literal.TheVariants.{Null}
use Rattle.dms_tokens.specs.declared.token.Token.{Token}
use Rattle.dms_tokens.specs.declared.token.Token.TheVariants.{Word, Sign, Compare}
use Rattle.dasdl_parse.specs.declared.items.ItemOptions.{ItemOptions}
use Rattle.dasdl_phrases.specs.CondSpelling.{SpellsLiteral}
use Rattle.dasdl_parse.specs.Items.{no_options}

-- what options say together, where an option is what one more of them makes of what the others have said
pub data Options {S : Type 0} (nothing : S) (option : S → S → List Token → Type 0) : S → List Token → Type 0 where
  none_said : Options nothing option nothing []
  one_more : (s t : S) (xs ys : List Token) → Options nothing option s xs → option s t ys → Options nothing option t (xs ++ ys)
  behind_comma : (s t : S) (xs ys : List Token) → Options nothing option s xs → option s t ys → Options nothing option t (xs ++ (Sign 44 ∷ ys))

-- REQUIRED once, and INITIALVALUE or NULL once
pub data ItemOption : ItemOptions → ItemOptions → List Token → Type 0 where
  says_required : (initial : Option Literal) → ItemOption (record { required = false; initial = initial }) (record { required = true; initial = initial }) (Word (codes "REQUIRED") ∷ [])
  says_initial : (required : Bool) (l : Literal) (t : Token) → SpellsLiteral l t → ItemOption (record { required = required; initial = None }) (record { required = required; initial = Some l }) (Word (codes "INITIALVALUE") ∷ (Compare Equal ∷ (t ∷ [])))
  says_null : (required : Bool) → ItemOption (record { required = required; initial = None }) (record { required = required; initial = Some Null }) (Word (codes "NULL") ∷ [])

-- what the options of an item say
abbrev pub AreItemOptions : ItemOptions → List Token → Type 0
AreItemOptions = Options no_options ItemOption
