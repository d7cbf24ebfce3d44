-- Laws: the list of the live points, and what each step makes of it.
use Rattle.std.specs.Prelude.{ℕ, ◌≤◌, ◌≡◌, Bool, true, List, [], ◌∷◌, ◌++◌, map, Option, Some}
use Rattle.dms_history.specs.Events.{BlockBytes, AllBlocks, Stored, Counts, How, Event, change, quiet, control, begin}
use Rattle.dms_history.specs.Lists.{has}
use Rattle.dms_history.specs.Places.{is_point, is_described}
use Rattle.dms_history.specs.History.{History, after_event, last_point}
use Rattle.dms_history.specs.Pick.{Dumps}
use Rattle.dms_history.specs.Here.{here}
use Rattle.dms_history.specs.Base.{from_control, Sound}
use Rattle.dms_history.specs.Replay.{replay}
use Rattle.dms_history.specs.Agrees.{Numbered}
use Rattle.dms_history.specs.Restores.{Ready}
use Rattle.dms_history.specs.Points.{LivePoint, numbers_from, point_at, live_points, up_to, ListsPoints}

-- The live points are a list of them.
abbrev pub PointsListed : Type 0
PointsListed = (live : List Event) (next : ℕ) (counted : Stored) → Numbered live next → ListsPoints live counted (live_points live counted)

-- There is only one such list.
abbrev pub OneList : Type 0
OneList = (live : List Event) (counted : Stored) (points others : List LivePoint) → ListsPoints live counted points → ListsPoints live counted others → points ≡ others

-- The points of a longer list of events begin with those of the shorter one, whatever was written by then.
abbrev pub PointsPrefix : Type 0
PointsPrefix = (live more : List Event) (base : AllBlocks) (counted later : Stored) → Sound (from_control live) base counted → Sound (from_control (live ++ more)) base later
    → live_points (live ++ more) later ≡ live_points live counted ++ map (point_at (live ++ more) later) (numbers_from live more)

-- Other blocks over the same events: the same points.
abbrev pub PointsStay : Type 0
PointsStay = (live : List Event) (base : AllBlocks) (counted later : Stored) → Sound (from_control live) base counted → Sound (from_control live) base later
    → live_points live later ≡ live_points live counted

-- ---- one law a step

abbrev pub ListsChange : Type 0
ListsChange = (live : List Event) (next : ℕ) (base : AllBlocks) (counted : Stored) (points : List LivePoint) (f b : ℕ) (before : Option BlockBytes) (after : BlockBytes) → Numbered live next
    → Sound (from_control live) base counted → Sound (from_control (live ++ change f b before after ∷ [])) base counted → ListsPoints live counted points
    → ListsPoints (live ++ change f b before after ∷ []) counted points

-- a quiet point with a number that is free: it is added, with the content of now
abbrev pub ListsQuiet : Type 0
ListsQuiet = (live : List Event) (next : ℕ) (base : AllBlocks) (counted : Stored) (points : List LivePoint) (n : ℕ) → Numbered live next → next ≤ n → has is_described live ≡ true
    → Sound (from_control live) base counted → ListsPoints live counted points
    → ListsPoints (live ++ quiet n ∷ []) counted (points ++ record { number = n; blocks = replay (from_control live) base } ∷ [])

-- a Control of a point that has its place, the end of a restore too; by now the blocks may have been written
abbrev pub ListsControl : Type 0
ListsControl = (live : List Event) (next : ℕ) (base : AllBlocks) (counted later : Stored) (points : List LivePoint) (n after : ℕ) (counts : Counts) (described : Bool) → Numbered live next
    → has (is_point n) live ≡ true → Sound (from_control live) base counted → Sound (from_control (live ++ control n after counts described ∷ [])) base later
    → ListsPoints live counted points → ListsPoints (live ++ control n after counts described ∷ []) later points

-- a Control with a number that is free: its point is added, with the content of now; by now the blocks were written
abbrev pub ListsLevel : Type 0
ListsLevel = (live : List Event) (next : ℕ) (base : AllBlocks) (counted later : Stored) (points : List LivePoint) (n after : ℕ) (counts : Counts) (described : Bool) → Numbered live next
    → next ≤ n → has is_described live ≡ true → Sound (from_control live) base counted → Sound (from_control (live ++ control n after counts described ∷ [])) base later
    → ListsPoints live counted points
    → ListsPoints (live ++ control n after counts described ∷ []) later (points ++ record { number = n; blocks = replay (from_control live) base } ∷ [])

-- a Begin: the points up to its own stay
abbrev pub ListsBegin : Type 0
ListsBegin = (how : How) (dumps : Dumps) (h : History) (next : ℕ) (base : AllBlocks) (counted stored : Stored) (points : List LivePoint) (m : ℕ) → Numbered h.live next
    → Ready how dumps h.live base counted stored m → ListsPoints h.live counted points
    → ListsPoints (after_event h (begin m how)).live (here dumps (after_event h (begin m how)) stored) (up_to m points)

-- a Begin to the last point: all points stay
abbrev pub LastKeepsAll : Type 0
LastKeepsAll = (h : History) (next : ℕ) (counted : Stored) (points : List LivePoint) (m : ℕ) → Numbered h.live next → last_point h ≡ Some m → ListsPoints h.live counted points
    → up_to m points ≡ points
