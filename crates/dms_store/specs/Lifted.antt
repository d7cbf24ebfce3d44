-- Blocks as a store sees them: each content as the database that it spells.
use Rattle.std.specs.Prelude.{ℕ, ◌≡◌, ◌≤◌, [], Bool, true, false, IsTrue, IsSome, None, if◌then◌else◌, map}
use Rattle.std.specs.declared.option.Option.{Option}
use Rattle.std.specs.Str.{bytes_eq}
use Rattle.dms_moments.specs.Moments.{Clock, seen_as}
use Rattle.dms_block.specs.Content.{Content}
use Rattle.dms_block.specs.Counts.{Faults}
use Rattle.dms_block.specs.Held.{AuditPace, Held, BlockPoint, BlockStop, Uses}
use Rattle.dms_block.specs.View.{under, overlay_changes}
use Rattle.dms_block.specs.declared.blocks.Blocks.{Ghosts}
use Rattle.dms_block.specs.declared.overlay.Overlay.{Overlay}
use Rattle.dms_desc.specs.Lookups.{structure_of}
use Rattle.dms_desc.specs.Shape.{Described}
use Rattle.dms_desc_bytes.specs.Spelling.{spelling}
use Rattle.dms_model.specs.Db.{Db}
use Rattle.dms_model.specs.Points.{Point, Stop}
use Rattle.dms_model.specs.Seen.{Effort, Seen}
use Rattle.dms_desc.specs.Files.{file_of}
use Rattle.dms_spelling.specs.Serving.{IsServed}
use Rattle.dms_spelling.specs.Spelled.{database_in}

-- the store counts by itself how often it answers that a block is damaged, whoever found it so
abbrev pub faults_with : Faults → ℕ → Faults
faults_with f found = record f { damaged = found }

abbrev pub effort_of : Uses → Effort
effort_of u = record { spent = u.spent; syncs = u.syncs; outs = u.outs }

module _ (desc : Described) where
  -- the database of blocks, where they are told
  abbrev pub db_of : Bool → Content → Option Db
  db_of true c = database_in desc c
  db_of false c = None

  -- A point has the database that its blocks spell, but only where it stands under the bytes of this description.
  abbrev pub point_of : BlockPoint → Point
  point_of p = record { number = p.number; blocks = p.blocks; schema = p.schema; db = db_of (bytes_eq p.schema (spelling desc)) p.blocks }

  -- what a stop leaves
  abbrev pub stop_of : BlockStop → Stop
  stop_of x = record { files = x.files; points = map point_of x.points; next = x.next; said = x.said }

  abbrev pub lift_stops : Clock BlockStop → Clock Stop
  lift_stops clock = seen_as stop_of clock

  -- the point that would be made now: it has the next number and, where they are told, the blocks
  abbrev pub here_of : Held → BlockPoint
  here_of h = record { number = h.next; blocks = if h.told then h.content else h.here.blocks; schema = h.here.schema }

  -- what a store over blocks tells, that so often answered that a block is damaged
  abbrev pub seen_of : Type 0 → ℕ → AuditPace → Held → Seen
  seen_of sound found pace h = record {
    tells = h.tells;
    sound = sound;
    desc = desc;
    db = db_of h.told h.content;
    mark = db_of h.told h.mark;
    next = h.next;
    said = h.said;
    points = map point_of h.points;
    durable = h.durable;
    here = point_of (here_of h);
    clock = lift_stops h.clock;
    whole = h.whole;
    pace = pace;
    faults = faults_with h.faults found;
    reads = h.uses.reads;
    effort = effort_of h.uses;
  }

-- the file of a structure that a description may have
pub record IsStructureFile (file : ℕ) : Type 0 where
  pub low : file_of 1 ≤ file
  pub most : file ≤ file_of 200

-- Blocks that a store of this description is kept in: the description is one that a schema can have, points are made under the bytes of the description, the object owns
-- the file of each structure, and it owns files of structures alone.
pub record Serves (desc : Described) (h : Held) : Type 0 where
  pub served : IsServed desc
  pub schema : h.here.schema ≡ spelling desc
  pub all : (n : ℕ) → IsSome (structure_of desc n) → IsTrue (h.owns (file_of n))
  pub only : (file : ℕ) → IsTrue (h.owns file) → IsStructureFile file

-- a store may be used: its blocks can be, they are those of the description, and nothing is written over them between two calls
pub record IsUsable {B : Type 0} {g : Ghosts B} (desc : Described) (o : Overlay B g) : Type 0 where
  pub sound : (under o).sound
  pub none : overlay_changes o ≡ []
  pub serves : Serves desc (under o)

-- the database of the blocks below, where they are told
abbrev pub db_under : {B : Type 0} {g : Ghosts B} → Described → Overlay B g → Option Db
db_under desc o = db_of desc (under o).told (under o).content

-- what a store tells, over these blocks
abbrev pub store_seen : {B : Type 0} {g : Ghosts B} → Described → ℕ → Overlay B g → Seen
store_seen {g = g} desc found o = seen_of desc (IsUsable desc o) found (g.pace o.below) (under o)
