-- The words of the command line, and how far a command came.
use Rattle.std.specs.Prelude.{◌≡◌, ◌⊎◌, ℕ, ◌+◌, ◌-◌, ◌*◌, ◌^◌, Bool, true, ◌&&◌, nat_le, nat_lt, if◌then◌else◌, List, [], ◌∷◌, Option, Some, None, IsSome, codes, ⊤}
use Rattle.std.specs.Str.{bytes_eq}
use Rattle.dms_status.specs.declared.status.LimitKind.{LimitKind}
use Rattle.dms_status.specs.declared.status.LimitKind.TheVariants.{AuditFile, Lines, Bytes, Held}
use Rattle.dms_status.specs.declared.status.Status.{Status}
use Rattle.dms_status.specs.declared.status.Status.TheVariants.{Ok, BadWords, SchemaRefused, NoDatabase, Needed, InputFault, Memory, Limit, Damaged, SayFault, DiskFault, Exists, BadStatement, Reorganization, BadStream, Diverged, Flaw}

-- the word `try`
abbrev pub IsTry : List (List ℕ) → Type 0
IsTry words = words ≡ codes "try" ∷ []

-- the word `compile`
abbrev pub IsCompile : List (List ℕ) → Type 0
IsCompile words = words ≡ codes "compile" ∷ []

-- the words `print audit`
abbrev pub IsPrintAudit : List (List ℕ) → Type 0
IsPrintAudit words = words ≡ codes "print" ∷ codes "audit" ∷ []

-- the word `run`
abbrev pub IsRun : List (List ℕ) → Type 0
IsRun words = words ≡ codes "run" ∷ []

-- the word `utility`
abbrev pub IsUtility : List (List ℕ) → Type 0
IsUtility words = words ≡ codes "utility" ∷ []

-- the words of a command that reads its input
abbrev pub IsReading : List (List ℕ) → Type 0
IsReading words = IsTry words ⊎ (IsCompile words ⊎ (IsRun words ⊎ IsUtility words))

-- plain digits alone
abbrev pub are_digits : List ℕ → Bool
are_digits [] = true
are_digits (b ∷ bs) = (nat_le 48 b && nat_le b 57) && are_digits bs

-- the number that digits spell behind the number n
abbrev pub digits_value : ℕ → List ℕ → ℕ
digits_value n [] = n
digits_value n (b ∷ bs) = digits_value (10 * n + (b - 48)) bs

-- the number that these digits spell behind n, where it is below 2 ^ 64
unfoldable pub number_behind : ℕ → List ℕ → Option ℕ
number_behind n bytes = if are_digits bytes && nat_lt (digits_value n bytes) (2 ^ 64) then Some (digits_value n bytes) else None

-- the number, as a tag, that a word says in plain digits, at least one; leading zeros don't count
abbrev pub tag_of : List ℕ → Option ℕ
tag_of [] = None
tag_of (b ∷ bs) = number_behind 0 (b ∷ bs)

-- the tag that the words of `initialize` say, 0 where they say none; none where they aren't its words
abbrev pub initialize_tag : List (List ℕ) → Option ℕ
initialize_tag [] = None
initialize_tag (word ∷ []) = if bytes_eq word (codes "initialize") then Some 0 else None
initialize_tag (word ∷ tag ∷ []) = if bytes_eq word (codes "initialize") then tag_of tag else None
initialize_tag (word ∷ tag ∷ more ∷ rest) = None

-- the words `initialize` and `initialize TAG`
abbrev pub IsInitialize : List (List ℕ) → Type 0
IsInitialize words = IsSome (initialize_tag words)

-- a number of lines of a script, at most 20,000
abbrev pub lines_said : Option ℕ → Option ℕ
lines_said None = None
lines_said (Some n) = if nat_le n 20000 then Some n else None

-- both of two numbers
abbrev pub both_said : Option ℕ → Option ℕ → Option (ℕ × ℕ)
both_said None n = None
both_said (Some seed) None = None
both_said (Some seed) (Some n) = Some (seed, n)

-- the seed and the number of lines that the words of `load` say, both in plain digits; none where they aren't its words
abbrev pub load_numbers : List (List ℕ) → Option (ℕ × ℕ)
load_numbers [] = None
load_numbers (word ∷ []) = None
load_numbers (word ∷ seed ∷ []) = None
load_numbers (word ∷ seed ∷ n ∷ []) = if bytes_eq word (codes "load") then both_said (tag_of seed) (lines_said (tag_of n)) else None
load_numbers (word ∷ seed ∷ n ∷ more ∷ rest) = None

-- the words `load SEED N`
abbrev pub IsLoad : List (List ℕ) → Type 0
IsLoad words = IsSome (load_numbers words)

-- the number of an audit file, 1 to 9,999
abbrev pub file_said : Option ℕ → Option ℕ
file_said None = None
file_said (Some n) = if nat_le 1 n && nat_le n 9999 then Some n else None

-- the audit file from which the words of `ship` say to begin, 1 where they say none; none where they aren't its words
abbrev pub ship_file : List (List ℕ) → Option ℕ
ship_file [] = None
ship_file (word ∷ []) = if bytes_eq word (codes "ship") then Some 1 else None
ship_file (word ∷ file ∷ []) = if bytes_eq word (codes "ship") then file_said (tag_of file) else None
ship_file (word ∷ file ∷ more ∷ rest) = None

-- the words `ship` and `ship K`
abbrev pub IsShip : List (List ℕ) → Type 0
IsShip words = IsSome (ship_file words)

-- the forms that are built
abbrev pub IsCommand : List (List ℕ) → Type 0
IsCommand words = IsTry words ⊎ (IsCompile words ⊎ (IsPrintAudit words ⊎ (IsRun words ⊎ (IsUtility words ⊎ (IsInitialize words ⊎ (IsLoad words ⊎ IsShip words))))))

-- the statuses that come only where the schema was taken
abbrev pub IsPast : Status → Type 0
IsPast Ok = ⊤
IsPast BadWords = ⊥
IsPast (SchemaRefused f) = ⊥
IsPast NoDatabase = ⊥
IsPast (Needed n) = ⊥
IsPast (Damaged f b) = ⊥
IsPast InputFault = ⊥
IsPast Memory = ⊥
IsPast (Limit l) = ⊤
IsPast SayFault = ⊤
IsPast DiskFault = ⊤
IsPast Exists = ⊤
IsPast (BadStatement p) = ⊥
IsPast (Reorganization why) = ⊥
IsPast (BadStream place) = ⊥
IsPast (Diverged file block) = ⊥
IsPast (Flaw flaw) = ⊥

-- the statuses that come before anything is printed
abbrev pub ComesUnsaid : Status → Type 0
ComesUnsaid Ok = ⊥
ComesUnsaid BadWords = ⊤
ComesUnsaid (SchemaRefused f) = ⊤
ComesUnsaid NoDatabase = ⊤
ComesUnsaid (Needed n) = ⊤
ComesUnsaid (Damaged f b) = ⊤
ComesUnsaid InputFault = ⊥
ComesUnsaid Memory = ⊥
ComesUnsaid (Limit l) = ⊥
ComesUnsaid SayFault = ⊥
ComesUnsaid DiskFault = ⊥
ComesUnsaid Exists = ⊤
ComesUnsaid (BadStatement p) = ⊤
ComesUnsaid (Reorganization why) = ⊤
ComesUnsaid (BadStream place) = ⊤
ComesUnsaid (Diverged file block) = ⊤
ComesUnsaid (Flaw flaw) = ⊤

-- the statuses that come before a call on the site is made
abbrev pub IsUntouched : Status → Type 0
IsUntouched Ok = ⊥
IsUntouched BadWords = ⊤
IsUntouched (SchemaRefused f) = ⊤
IsUntouched NoDatabase = ⊥
IsUntouched (Needed n) = ⊥
IsUntouched (Damaged f b) = ⊥
IsUntouched InputFault = ⊥
IsUntouched Memory = ⊥
IsUntouched (Limit l) = ⊥
IsUntouched SayFault = ⊥
IsUntouched DiskFault = ⊥
IsUntouched Exists = ⊥
IsUntouched (BadStatement p) = ⊤
IsUntouched (Reorganization why) = ⊥
IsUntouched (BadStream place) = ⊥
IsUntouched (Diverged file block) = ⊥
IsUntouched (Flaw flaw) = ⊥

-- a limit of the script
abbrev pub IsOfLines : LimitKind → Type 0
IsOfLines (AuditFile f) = ⊥
IsOfLines Lines = ⊤
IsOfLines Bytes = ⊤
IsOfLines Held = ⊤

-- the statuses of `try`
abbrev pub IsOfTry : Status → Type 0
IsOfTry Ok = ⊤
IsOfTry BadWords = ⊥
IsOfTry (SchemaRefused f) = ⊤
IsOfTry NoDatabase = ⊥
IsOfTry (Needed n) = ⊥
IsOfTry (Damaged f b) = ⊥
IsOfTry InputFault = ⊤
IsOfTry Memory = ⊤
IsOfTry (Limit l) = IsOfLines l
IsOfTry SayFault = ⊤
IsOfTry DiskFault = ⊥
IsOfTry Exists = ⊥
IsOfTry (BadStatement p) = ⊥
IsOfTry (Reorganization why) = ⊥
IsOfTry (BadStream place) = ⊥
IsOfTry (Diverged file block) = ⊥
IsOfTry (Flaw flaw) = ⊥

-- the statuses of `compile`
abbrev pub IsOfCompile : Status → Type 0
IsOfCompile Ok = ⊤
IsOfCompile BadWords = ⊥
IsOfCompile (SchemaRefused f) = ⊤
IsOfCompile NoDatabase = ⊥
IsOfCompile (Needed n) = ⊥
IsOfCompile (Damaged f b) = ⊥
IsOfCompile InputFault = ⊤
IsOfCompile Memory = ⊤
IsOfCompile (Limit l) = ⊥
IsOfCompile SayFault = ⊤
IsOfCompile DiskFault = ⊤
IsOfCompile Exists = ⊤
IsOfCompile (BadStatement p) = ⊥
IsOfCompile (Reorganization why) = ⊥
IsOfCompile (BadStream place) = ⊥
IsOfCompile (Diverged file block) = ⊥
IsOfCompile (Flaw flaw) = ⊥
