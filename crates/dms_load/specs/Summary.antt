-- The schema of the script of `load`, and what is told of a load.
use Rattle.std.specs.Prelude.{ℕ, ◌+◌, nat_eq, List, [], ◌∷◌, ◌++◌, if◌then◌else◌, codes, decimal}
use Rattle.std.specs.List.{starts_with}
use Rattle.dms_load.specs.declared.summary.Summary.{Summary}

unfoldable pub load_schema : List ℕ
load_schema =
    codes "RDS RESTART DATA SET (PID ALPHA(10););\n" ++
    codes "ACCOUNT DATA SET (ANO NUMBER(8) REQUIRED; BAL NUMBER(S9,2) INITIALVALUE = 0;);\n" ++
    codes "ACCT-SET SET OF ACCOUNT KEY IS ANO;\n" ++
    codes "RICH SUBSET OF ACCOUNT WHERE (BAL > 100) KEY IS BAL, DUPLICATES;\n"

-- how often a word stands in a text
abbrev pub times : List ℕ → List ℕ → ℕ
times word [] = 0
times word (b ∷ bs) = (if starts_with nat_eq (b ∷ bs) word then 1 else 0) + times word bs

-- a line of the summary
unfoldable pub summary_line : List ℕ → ℕ → List ℕ
summary_line name number = name ++ 32 ∷ decimal number ++ 10 ∷ []

unfoldable pub summary_text : Summary → List ℕ
summary_text s =
    summary_line (codes "LINES") s.lines ++ summary_line (codes "DONE") s.done ++ summary_line (codes "EXCEPTIONS") s.exceptions ++ summary_line (codes "HELD") s.held
    ++ summary_line (codes "UNANSWERED") s.unanswered ++ summary_line (codes "QUIET POINTS") s.quiets ++ summary_line (codes "RECORDS") s.records
