-- Taking the text of a schema line by line.
use Rattle.std.specs.Prelude.{◌≡◌, ◌<◌, ℕ, List, [], ◌∷◌, ◌++◌, Bool, true, false, length, take}
use Rattle.std.specs.declared.option.Option.{Option}
use Rattle.dms_feed.specs.Feeds.{Remains}
use Rattle.dms_feed.specs.Lines.{raw_lines, first_line}
use Rattle.dms_feed.specs.Raws.{CutLine, has_end}
use Rattle.dms_runner.specs.Running.{AreEnded, text_of_lines}
use Rattle.dms_top.specs.declared.schema.TextLine.{TextLine}
use Rattle.dms_top.specs.declared.schema.TextLine.TheVariants.{Text, Script, Last}
use Rattle.dms_top.specs.declared.schema.SchemaText.{SchemaText}
use Rattle.dms_top.specs.Schema.{is_script, schema_text, script_part}

-- these whole lines were taken, and the rest remains
pub record LeavesLines (done : List (List ℕ)) (all rest : List ℕ) : Type 0 where
  pub lines : raw_lines all ≡ done ++ raw_lines rest
  pub whole : all ≡ text_of_lines done ++ rest

-- the text goes on behind a line that was added to it, which has its line feed
pub record TakesTextLine (old new all held : List ℕ) (left : Option (List ℕ)) : Type 0 where
  pub rest : List ℕ
  pub remains : Remains held left rest
  pub text : old ++ schema_text all ≡ new ++ schema_text rest
  pub script : script_part (raw_lines all) ≡ script_part (raw_lines rest)
  pub longer : length old < length new
  pub leaves : LeavesLines (first_line all ∷ []) all rest
  pub other : is_script (first_line all) ≡ false
  pub ended : has_end (first_line all) ≡ true

-- what follows these lines is of the script, whatever number of lines is taken of it
abbrev pub IsBehind : List (List ℕ) → List ℕ → Type 0
IsBehind done rest = (i : ℕ) → script_part (done ++ take i (raw_lines rest)) ≡ take i (raw_lines rest)

-- the text ended: at a line SCRIPT with its line feed, behind which the script's lines stand, or at the input's end, behind which nothing is left
pub record EndsText (follows : Bool) (old new all held : List ℕ) (left : Option (List ℕ)) : Type 0 where
  pub rest : List ℕ
  pub remains : Remains held left rest
  pub text : new ≡ old ++ schema_text all
  pub script : raw_lines rest ≡ script_part (raw_lines all)
  pub done : List (List ℕ)
  pub leaves : LeavesLines done all rest
  pub behind : IsBehind done rest
  pub ended : follows ≡ true → AreEnded done
  pub over : follows ≡ false → rest ≡ []

abbrev pub TakesOrEnds : TextLine → List ℕ → List ℕ → List ℕ → List ℕ → Option (List ℕ) → Type 0
TakesOrEnds Text old new all held left = TakesTextLine old new all held left
TakesOrEnds Script old new all held left = EndsText true old new all held left
TakesOrEnds Last old new all held left = EndsText false old new all held left

-- the text has more bytes than a schema's may have
abbrev pub IsLong : List ℕ → List ℕ → Type 0
IsLong old all = 1000000 < length (old ++ schema_text all)

-- the whole text was taken, and the script's lines remain: behind whole lines, where they follow, or else none
pub record IsWholeText (taken : SchemaText) (all held : List ℕ) (left : Option (List ℕ)) : Type 0 where
  pub is : taken.text ≡ schema_text all
  pub rest : List ℕ
  pub remains : Remains held left rest
  pub script : raw_lines rest ≡ script_part (raw_lines all)
  pub done : List (List ℕ)
  pub leaves : LeavesLines done all rest
  pub behind : IsBehind done rest
  pub ended : taken.script ≡ true → AreEnded done
  pub over : taken.script ≡ false → rest ≡ []

-- taking failed within the text: behind these lines, each with its line feed, none of which is of the script
pub record CutText (all : List ℕ) (left : Option (List ℕ)) : Type 0 where
  pub done : List (List ℕ)
  pub rest : List ℕ
  pub leaves : LeavesLines done all rest
  pub none : script_part done ≡ []
  pub ended : AreEnded done
  pub cut : CutLine 1000008 left rest
