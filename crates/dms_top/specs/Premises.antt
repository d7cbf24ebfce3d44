-- What the clauses of the commands are said of: the words of the command, the input, and the counts of failures.
use Rattle.std.specs.Prelude.{ℕ, ◌≡◌, ◌⊎◌, List, Some, map}
use Rattle.std.specs.String.{string_bytes}
use Rattle.std.specs.declared.string.String.{String}
use Rattle.std.specs.declared.alloc.Global.{Global}
use Rattle.std.specs.declared.option.Option.{Option}
use Rattle.std.specs.declared.result.Result.TheVariants.{Ok, Err}
use Rattle.dms_desc.specs.Shape.{Described}
use Rattle.dms_descfile.specs.DescriptionFile.{IsSealed}
use Rattle.dms_feed.specs.Feeds.{Remains}
use Rattle.dms_site.specs.Files.{Files}
use Rattle.dms_status.specs.declared.status.SchemaFault.{SchemaFault}
use Rattle.dms_newdb.specs.Judging.{judge_schema}
use Rattle.dms_top.specs.Schema.{schema_text}
use Rattle.dms_top.specs.Words.{IsTry, IsCompile, IsLoad, IsPrintAudit, IsReading, IsRun, IsUtility, initialize_tag, load_numbers, ship_file}

-- it holds where the words are those of `try`
abbrev pub OnTry : List (String Global) → Type 0 → Type 0
OnTry words P = IsTry (map string_bytes words) → P

-- it holds where the words are those of `compile`
abbrev pub OnCompile : List (String Global) → Type 0 → Type 0
OnCompile words P = IsCompile (map string_bytes words) → P

-- it holds where the words are those of `print audit`
abbrev pub OnPrintAudit : List (String Global) → Type 0 → Type 0
OnPrintAudit words P = IsPrintAudit (map string_bytes words) → P

-- it holds where the words are those of `run`
abbrev pub OnRun : List (String Global) → Type 0 → Type 0
OnRun words P = IsRun (map string_bytes words) → P

-- it holds where the words are those of `utility`
abbrev pub OnUtility : List (String Global) → Type 0 → Type 0
OnUtility words P = IsUtility (map string_bytes words) → P

-- the words of a command that may have changed files, whatever its status is: `run`, `utility` or `load`
abbrev pub IsChanging : List (List ℕ) → Type 0
IsChanging words = IsRun words ⊎ (IsUtility words ⊎ IsLoad words)

-- it holds where they are not
abbrev pub OnOthers : List (String Global) → Type 0 → Type 0
OnOthers words P = (IsChanging (map string_bytes words) → ⊥) → P

-- it holds of the tag that the words say, where they are those of `initialize`
abbrev pub OnInitialize : List (String Global) → (ℕ → Type 0) → Type 0
OnInitialize words P = (tag : ℕ) → initialize_tag (map string_bytes words) ≡ Some tag → P tag

-- it holds of the seed and the number of lines that the words say, where they are those of `load`
abbrev pub OnLoad : List (String Global) → (ℕ → ℕ → Type 0) → Type 0
OnLoad words P = (seed n : ℕ) → load_numbers (map string_bytes words) ≡ Some (seed, n) → P seed n

-- it holds of the audit file that the words say, where they are those of `ship`
abbrev pub OnShip : List (String Global) → (ℕ → Type 0) → Type 0
OnShip words P = (k : ℕ) → ship_file (map string_bytes words) ≡ Some k → P k

-- it holds where the words are those of a command that reads its input
abbrev pub OnReading : List (String Global) → Type 0 → Type 0
OnReading words P = IsReading (map string_bytes words) → P

-- it holds where they are not: of `initialize`, of `load`, of `print audit`, of `ship`, and of no command
abbrev pub OnUnread : List (String Global) → Type 0 → Type 0
OnUnread words P = (IsReading (map string_bytes words) → ⊥) → P

-- it holds of all the bytes of the input, where the input tells them
abbrev pub OfInput : Option (List ℕ) → (List ℕ → Type 0) → Type 0
OfInput left P = (all : List ℕ) → left ≡ Some all → P all

-- it holds of the description that the whole input is a schema of
abbrev pub OfSchema : Option (List ℕ) → (Described → Type 0) → Type 0
OfSchema left P = (all : List ℕ) (d : Described) → left ≡ Some all → judge_schema all ≡ Ok d → P d

-- it holds where the whole input is no schema
abbrev pub OfNoSchema : Option (List ℕ) → Type 0 → Type 0
OfNoSchema left P = (all : List ℕ) (e : SchemaFault) → left ≡ Some all → judge_schema all ≡ Err e → P

-- it holds of the input of `try`, and of the description of its schema
abbrev pub OfTriedScript : Option (List ℕ) → (Described → List ℕ → Type 0) → Type 0
OfTriedScript left P = (all : List ℕ) (d : Described) → left ≡ Some all → judge_schema (schema_text all) ≡ Ok d → P d all

-- it holds of an input of `try` whose schema is refused
abbrev pub OfNoScript : Option (List ℕ) → (List ℕ → Type 0) → Type 0
OfNoScript left P = (all : List ℕ) (e : SchemaFault) → left ≡ Some all → judge_schema (schema_text all) ≡ Err e → P all

-- it holds of all that is held of the input and that its source has left
abbrev pub OfRest : List ℕ → Option (List ℕ) → (List ℕ → Type 0) → Type 0
OfRest held left P = (all : List ℕ) → Remains held left all → P all
