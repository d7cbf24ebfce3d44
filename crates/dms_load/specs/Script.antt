-- The script of `load`: a line for each call, by draws from a seed.
use Rattle.std.specs.Prelude.{ℕ, zero, suc, ◌+◌, ◌*◌, ◌/◌, ◌%◌, ◌^◌, ◌==◌, nat_lt, if◌then◌else◌, List, [], ◌∷◌, ◌++◌, codes, decimal, replicate, slice_index_or, slice_set}
use Rattle.dms_load.specs.declared.phase.Phase.{Phase}
use Rattle.dms_load.specs.declared.phase.Phase.TheVariants.{Begin, Choose, Put, Store, End}

-- what a draw makes of the number that the last one left
unfoldable pub next_draw : ℕ → ℕ
next_draw x = (6364136223846793005 * x + 1442695040888963407) % 2 ^ 64

-- the value of the draw that left this number
abbrev pub drawn : ℕ → ℕ
drawn x = x / 2 ^ 33

-- the phase of a program's next line
abbrev pub phase_after : Phase → Phase
phase_after Begin = Choose
phase_after Choose = Put
phase_after Put = Store
phase_after Store = End
phase_after End = Begin

-- so many hundredths, with two decimals
unfoldable pub hundredths : ℕ → List ℕ
hundredths m = decimal (m / 100) ++ codes "." ++ decimal (m / 10 % 10) ++ decimal (m % 10)

-- the verb of a phase, with key k and by the third draw of the line, c
unfoldable pub verb_text : Phase → ℕ → ℕ → List ℕ
verb_text Begin k c = codes "BEGIN-TRANSACTION NO-AUDIT RDS"
verb_text Choose k c = if c % 2 == 0 then codes "CREATE ACCOUNT" else codes "LOCK ACCT-SET AT ANO = " ++ decimal k
verb_text Put k c = codes "PUT ACCOUNT ANO = " ++ decimal k ++ codes ", BAL = " ++ hundredths (c % 20001)
verb_text Store k c = codes "STORE ACCOUNT"
verb_text End k c = codes "END-TRANSACTION NO-AUDIT RDS"

-- a line up to its verb
unfoldable pub head_text : ℕ → List ℕ
head_text program = codes "P" ++ decimal program ++ codes ": "

-- the line in which a program opens the database
unfoldable pub open_text : ℕ → List ℕ
open_text program = head_text program ++ codes "OPEN UPDATE" ++ 10 ∷ []

-- the line of a program in a phase
unfoldable pub phase_text : ℕ → Phase → ℕ → ℕ → List ℕ
phase_text program phase k c = head_text program ++ verb_text phase k c ++ 10 ∷ []

-- The script so far: how many of the four programs opened the database, the number that the last draw left, and the phase of each program's next line,
-- which is the number of its lines behind the first four, modulo 5.
pub record Drawing : Type 0 where
  pub opened : ℕ
  pub x : ℕ
  pub phases : List Phase

-- the draws of the next line: the first says the program, the second the key, the third what is done
abbrev pub first_draw : Drawing → ℕ
first_draw d = next_draw d.x

abbrev pub second_draw : Drawing → ℕ
second_draw d = next_draw (first_draw d)

abbrev pub third_draw : Drawing → ℕ
third_draw d = next_draw (second_draw d)

-- the program of the next line, from 0
abbrev pub program_of : Drawing → ℕ
program_of d = drawn (first_draw d) % 4

-- its phase
abbrev pub phase_of : Drawing → Phase
phase_of d = slice_index_or d.phases (program_of d) Begin

-- the next line, with its line feed
unfoldable pub next_line : Drawing → List ℕ
next_line d =
    if nat_lt d.opened 4 then open_text (d.opened + 1)
    else phase_text (program_of d + 1) (phase_of d) (drawn (second_draw d) % 1000 + 1) (drawn (third_draw d))

-- the script behind it
unfoldable pub after_line : Drawing → Drawing
after_line d =
    if nat_lt d.opened 4 then record d { opened = d.opened + 1 }
    else record d { x = third_draw d; phases = slice_set d.phases (program_of d) (phase_after (phase_of d)) }

-- the next so many lines
unfoldable pub next_lines : ℕ → Drawing → List ℕ
next_lines zero d = []
next_lines (suc n) d = next_line d ++ next_lines n (after_line d)

-- before the first line
abbrev pub at_seed : ℕ → Drawing
at_seed seed = record { opened = 0; x = seed; phases = replicate 4 Begin }

-- so many lines, the first four among them
abbrev pub script_lines : ℕ → ℕ → List ℕ
script_lines seed lines = next_lines lines (at_seed seed)

-- the script of `load SEED N`
abbrev pub load_script : ℕ → ℕ → List ℕ
load_script seed n = script_lines seed (n + 4)
