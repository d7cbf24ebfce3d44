-- What is left of the script.
use Rattle.std.specs.Prelude.{ℕ, List, ◌++◌, drop}
use Rattle.dms_load.specs.declared.source.LoadSource.{LoadSource}
use Rattle.dms_load.specs.Drawing.{drawing_of}
use Rattle.dms_load.specs.Script.{next_lines}

-- the rest of the line that is held, and the lines that are not written yet
abbrev pub left_of : LoadSource → List ℕ
left_of s = drop s.place s.line.bytes ++ next_lines s.behind (drawing_of s.state)
