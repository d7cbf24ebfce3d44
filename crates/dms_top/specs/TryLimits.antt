-- Why `try` ends: the limits of its script, and where taking from the input failed.
use Rattle.std.specs.Prelude.{◌≡◌, ◌≤◌, ◌<◌, ◌+◌, ℕ, Bool, List, ◌++◌, Some, take, length, true, false, IsTrue}
use Rattle.std.specs.declared.option.Option.{Option}
use Rattle.dms_desc.specs.Shape.{Described}
use Rattle.dms_feed.specs.Lines.{raw_lines}
use Rattle.dms_feed.specs.Raws.{IsUnended}
use Rattle.dms_model.specs.Db.{empty_db}
use Rattle.dms_runner.specs.Answers.{script_run}
use Rattle.dms_runner.specs.Events.{RunEvent, text_of}
use Rattle.dms_runner.specs.Running.{AreEnded, bytes_of, front_events, text_of_lines}
use Rattle.dms_status.specs.declared.status.LimitKind.{LimitKind}
use Rattle.dms_status.specs.declared.status.LimitKind.TheVariants.{AuditFile, Lines, Bytes, Held}
use Rattle.dms_status.specs.declared.status.Status.{Status}
use Rattle.dms_status.specs.declared.status.Status.TheVariants.{Ok, Limit, InputFault}
use Rattle.dms_top.specs.Answering.{Printed, script_of}
use Rattle.dms_top.specs.Premises.{OfTriedScript, OfNoScript}
use Rattle.dms_top.specs.Schema.{script_part}
use Rattle.dms_top.specs.Taking.{CutText}

-- these lines keep the limits of a script: 1,000,000 lines, 2,147,483,648 bytes, and no line that is one too many to hold
pub record WithinLimits (d : Described) (lines : List (List ℕ)) : Type 0 where
  pub few : length lines ≤ 1000000
  pub short : bytes_of lines ≤ 2147483648
  pub room : (script_run d empty_db 1 lines).full ≡ false

-- a text was printed exactly where it is that of these events, where the text is told
abbrev pub SaidIf : Bool → List ℕ → List ℕ → List RunEvent → Type 0
SaidIf tells before after events = IsTrue tells → Printed before after (text_of events)

-- said: what these events answer was printed
module _ (said : List RunEvent → Type 0) where
  -- a line too many, the first limit that the script passes; what the lines before it answer was printed
  abbrev pub TooManyLines : Described → List (List ℕ) → Type 0
  TooManyLines d lines = (1000000 < length lines) × (WithinLimits d (take 1000000 lines) × said (front_events d empty_db 1 lines 1000000))

  -- a byte too many, in a line that isn't one too many, the first limit that the script passes; what the lines before it answer was printed
  pub record TooManyBytes (d : Described) (lines : List (List ℕ)) : Type 0 where
    pub n : ℕ
    pub before : WithinLimits d (take n lines)
    pub text : said (front_events d empty_db 1 lines n)
    pub few : n < 1000000
    pub over : 2147483648 < bytes_of (take (n + 1) lines)

  -- A line too many to hold, which keeps the limits of lines and bytes, the first limit that the script passes; what the lines before it answer was
  -- printed.
  pub record TooManyHeld (d : Described) (lines : List (List ℕ)) : Type 0 where
    pub n : ℕ
    pub before : WithinLimits d (take n lines)
    pub text : said (front_events d empty_db 1 lines n)
    pub few : n < 1000000
    pub short : bytes_of (take (n + 1) lines) ≤ 2147483648
    pub full : (script_run d empty_db 1 (take (n + 1) lines)).full ≡ true

  -- that limit, none of the audit
  abbrev pub PassesBy : LimitKind → Described → List (List ℕ) → Type 0
  PassesBy (AuditFile f) d lines = ⊥
  PassesBy Lines d lines = TooManyLines d lines
  PassesBy Bytes d lines = TooManyBytes d lines
  PassesBy Held d lines = TooManyHeld d lines

  -- the script passes this limit and none before, and what the lines before answer was printed
  pub record PassesLimit (k : LimitKind) (d : Described) (lines : List (List ℕ)) : Type 0 where
    pub by : PassesBy k d lines

  -- Taking from the input failed: so many whole lines of it were taken, each with its line feed, and a part of the next one, without its line feed, and
  -- the rest is left. Those among them that are lines of the script keep its limits, with that part, and what they answer was printed.
  pub record CutTry (d : Described) (input : List ℕ) (left : Option (List ℕ)) : Type 0 where
    pub n : ℕ
    pub within : n ≤ length (raw_lines input)
    pub ended : AreEnded (take n (raw_lines input))
    pub part : List ℕ
    pub rest : List ℕ
    pub whole : input ≡ text_of_lines (take n (raw_lines input)) ++ (part ++ rest)
    pub left_is : left ≡ Some rest
    pub unended : IsUnended part
    pub before : WithinLimits d (script_part (take n (raw_lines input)))
    pub text : said (script_run d empty_db 1 (script_part (take n (raw_lines input)))).events
    pub fits : bytes_of (script_part (take n (raw_lines input))) + length part ≤ 2147483648
    pub last : length (script_part (take n (raw_lines input))) ≡ 1000000 → length part ≡ 0

  -- the same of an input that has lines of a script alone
  pub record CutLines (d : Described) (all : List ℕ) (left : Option (List ℕ)) : Type 0 where
    pub n : ℕ
    pub within : n ≤ length (raw_lines all)
    pub ended : AreEnded (take n (raw_lines all))
    pub part : List ℕ
    pub rest : List ℕ
    pub whole : all ≡ text_of_lines (take n (raw_lines all)) ++ (part ++ rest)
    pub left_is : left ≡ Some rest
    pub unended : IsUnended part
    pub before : WithinLimits d (take n (raw_lines all))
    pub text : said (front_events d empty_db 1 (raw_lines all) n)
    pub fits : bytes_of (take n (raw_lines all)) + length part ≤ 2147483648
    pub last : n ≡ 1000000 → length part ≡ 0

  -- What the input has to do with the end of `try`: what it had, where it is told, and what it has left.
  pub record BlamesTry (left left' : Option (List ℕ)) (status : Status) : Type 0 where
    -- at status 0 the script keeps the limits
    pub ok : status ≡ Ok → OfTriedScript left (λ d all. WithinLimits d (script_of all))
    -- at status 8 it passes that limit and none before, and what the lines before answer was printed
    pub limit : (k : LimitKind) → status ≡ Limit k → OfTriedScript left (λ d all. PassesLimit k d (script_of all))
    -- at status 6 taking failed within the schema's text or the script, and what the lines before answer was printed
    pub breaks : status ≡ InputFault → OfTriedScript left (λ d all. CutTry d all left')
    -- or, where the schema is refused, within its text
    pub breaks_schema : status ≡ InputFault → OfNoScript left (λ all. CutText all left')
