-- What a plain store tells of its text and of its quiet points.
use Rattle.std.specs.Prelude.{ℕ, Bool, true, false, List, [], Some, None}
use Rattle.std.specs.declared.option.Option.{Option}
use Rattle.dms_moments.specs.Moments.{Clock}
use Rattle.dms_desc.specs.Shape.{Described}
use Rattle.dms_desc_bytes.specs.Spelling.{spelling}
use Rattle.dms_model.specs.Db.{Db}
use Rattle.dms_model.specs.Points.{Point, Stop}

-- the text, where the site tells it
abbrev pub text_if : Bool → List ℕ → Option (List ℕ)
text_if true text = Some text
text_if false text = None

-- a point without blocks: nothing stands on a disk
abbrev pub point_of : ℕ → Described → Db → Point
point_of number desc db = record { number = number; blocks = λ file. []; schema = spelling desc; db = Some db }

-- stops are not told
abbrev pub no_clock : Clock Stop
no_clock = record { now = 0; left = λ moment stop. ⊥ }
