-- What the input of `utility` asks for.
use Rattle.std.specs.Prelude.{ℕ, ◌≡◌, List, Option, Some, None, ⊤}
use Rattle.std.specs.declared.result.Result.{Result}
use Rattle.std.specs.declared.result.Result.TheVariants as answer
use Rattle.dms_statements.specs.Statements.{statement_of}
use Rattle.dms_statements.specs.declared.statement.Statement.{Statement}
use Rattle.dms_status.specs.declared.status.Status.{Status}
use Rattle.dms_status.specs.declared.status.Status.TheVariants.{Ok, BadWords, SchemaRefused, NoDatabase, Needed, InputFault, Memory, Limit, Damaged, SayFault, DiskFault, Exists, BadStatement, Reorganization, BadStream, Diverged, Flaw}

abbrev pub bad_place : Result Statement ℕ → Option ℕ
bad_place (answer.Ok s) = None
bad_place (answer.Err p) = Some p

-- the first bad place of a text, or none where it is a statement
abbrev pub place_in : List ℕ → Option ℕ
place_in all = bad_place (statement_of all)

-- it holds of the whole input, where that is told
abbrev pub OfText : Option (List ℕ) → (List ℕ → Type 0) → Type 0
OfText left P = (all : List ℕ) → left ≡ Some all → P all

-- the statuses that come before the text is known to be a statement
abbrev pub IsOfText : Status → Type 0
IsOfText Ok = ⊥
IsOfText BadWords = ⊥
IsOfText (SchemaRefused f) = ⊥
IsOfText NoDatabase = ⊥
IsOfText (Needed n) = ⊥
IsOfText InputFault = ⊤
IsOfText Memory = ⊤
IsOfText (Limit k) = ⊥
IsOfText (Damaged f b) = ⊥
IsOfText SayFault = ⊥
IsOfText DiskFault = ⊥
IsOfText Exists = ⊥
IsOfText (BadStatement p) = ⊤
IsOfText (Reorganization why) = ⊥
IsOfText (BadStream place) = ⊥
IsOfText (Diverged file block) = ⊥
IsOfText (Flaw flaw) = ⊥

-- Status 12 comes only where the text is no statement, with its first bad place; what comes behind reading it, where it is one.
pub record JudgesText (left : Option (List ℕ)) (status : Status) : Type 0 where
  pub bad : (p : ℕ) → status ≡ BadStatement p → OfText left (λ all. place_in all ≡ Some p)
  pub read : (IsOfText status → ⊥) → OfText left (λ all. place_in all ≡ None)
