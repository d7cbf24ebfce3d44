-- Literals and conditions, as they are judged.
use Rattle.std.specs.Prelude.{ℕ, List, Some, None, if◌then◌else◌}
use Rattle.std.specs.declared.option.Option.{Option}
use Rattle.std.specs.declared.result.Result.TheVariants.{Ok, Err}
use Rattle.dms_base.specs.declared.op.Op.{Op}
use Rattle.dms_base.specs.declared.value.Value.{Value}
use Rattle.dms_base.specs.declared.kind.ItemKind.{ItemKind}
use Rattle.dms_base.specs.declared.kind.Literal.{Literal}
use Rattle.dms_base.specs.Fits.{value_of}
use Rattle.dms_base.specs.Spelling.{is_kind}
use Rattle.dms_desc.specs.declared.structure.Item.{Item}
use Rattle.dms_desc.specs.Shape.{Tree}
use Rattle.dms_desc.specs.Shape.Tree.{Empty, Test, Both, Either, Contrary}
use Rattle.dasdl_phrases.specs.TreeCodes.{WrittenTree as Written}
use Rattle.dasdl_phrases.specs.TreeCodes.WrittenTree.{Test as Compared, Both as And', Either as Or', Turned}
use Rattle.dasdl_phrases.specs.Trees.{Condition}
use Rattle.dasdl_compile.specs.declared.fault.CompileFault.TheVariants.{Unknown, CondKind}
use Rattle.dms_desc.specs.declared.lookups.NamedItem.{NamedItem}
use Rattle.dasdl_compile.specs.Answers.{Judged, ◌>>=◌}
use Rattle.dms_desc.specs.Lookups.{item_named}

-- the value that a literal spells for a kind, none where it doesn't fit; a kind that can't be declared has none
unfoldable pub value_in : ItemKind → Literal → Option Value
value_in kind literal = if is_kind kind then value_of kind literal else None

-- the value of a literal, or the fault at this item
abbrev pub or_fault : List ℕ → Option Value → Judged Value
or_fault name None = Err (CondKind name)
or_fault name (Some v) = Ok v

-- a literal has to be of the item's kind and fit; no literal is a link's
unfoldable pub literal_of : List ℕ → ItemKind → Literal → Judged Value
literal_of name kind literal = or_fault name (value_in kind literal)

abbrev pub compared_with : List ℕ → Op → Literal → Option NamedItem → Judged Tree
compared_with name op literal None = Err (Unknown name)
compared_with name op literal (Some f) = literal_of name f.kind literal >>= λ v. Ok (Test f.number op v)

-- an item of the data set is compared with a literal that fits it
unfoldable pub comparison : List Item → List ℕ → Op → Literal → Judged Tree
comparison items name op literal = compared_with name op literal (item_named name 1 items)

-- comparisons are judged in text order
unfoldable pub condition : List Item → Written → Judged Tree
condition items (Compared name op literal) = comparison items name op literal
condition items (And' a b) = condition items a >>= λ x. condition items b >>= λ y. Ok (Both x y)
condition items (Or' a b) = condition items a >>= λ x. condition items b >>= λ y. Ok (Either x y)
condition items (Turned a) = condition items a >>= λ x. Ok (Contrary x)

-- where no condition is said, each record meets it
unfoldable pub verify_tree : List Item → Option Condition → Judged Tree
verify_tree items None = Ok Empty
verify_tree items (Some c) = condition items c.tree
