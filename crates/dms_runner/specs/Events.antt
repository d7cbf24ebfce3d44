-- What a run does, event by event, and what a stop on the way leaves.
use Rattle.std.specs.Prelude.{ℕ, ◌≡◌, ◌≤◌, ◌<◌, ◌+◌, ◌*◌, ◌⊎◌, Bool, true, false, ◌&&◌, is_some, List, [], ◌∷◌, ◌++◌, length, take, slice_get, Some, None, if◌then◌else◌}
use Rattle.std.specs.declared.option.Option.{Option}
use Rattle.std.specs.declared.result.Result.{Result}
use Rattle.std.specs.declared.result.Result.TheVariants.{Ok, Err}
use Rattle.dms_block.specs.declared.block_fault.BlockFault.{BlockFault}
use Rattle.dms_block.specs.declared.block_fault.BlockFault.TheVariants.{Disk, Memory, Full, Damaged, Say}
use Rattle.dms_moments.specs.Moments.{Runs}
use Rattle.dms_model.specs.Points.{StopFiles, Point, Quiet, Stop}
use Rattle.dms_block.specs.Texts.{Prints, PrintsPrefix}
use Rattle.dms_model.specs.Db.{Db}
use Rattle.dms_desc.specs.Shape.{Described}
use Rattle.dms_model.specs.BackOut.{asks_back_out}
use Rattle.dms_model.specs.declared.verb.Verb.{Verb}
use Rattle.dms_model.specs.Seen.{Effort, Seen}
use Rattle.dms_model.specs.Session.{Outcome, is_waits}
use Rattle.dms_storeverbs.specs.Costs.{appends}
use Rattle.dms_storeverbs.specs.View.{PointsGrow, LeavesQuiets}
use Rattle.dms_laws.specs.Exclusive.{is_done}

-- an event: the quiet points that are made in it, the syncpoint that it takes, and the bytes that are said; how many records and entries its call
-- names, refers to, moves or nulls a link in, and whether its line waits, so that it changes none of them; whether the database goes back to the last
-- quiet point, and whether entries of the audit may be made, other than those of a way back
pub record RunEvent : Type 0 where
  pub quiets : List Quiet
  pub sync : Option ℕ
  pub text : List ℕ
  pub count : ℕ
  pub waits : Bool
  pub backs : Bool
  pub appends : Bool

-- a verb is called that has this count; nothing is said yet. Only an ABORT that is done goes back, and other entries may be made only where a verb that
-- is done updates the database or makes a quiet point
abbrev pub calls : ℕ → Verb → Outcome → RunEvent
calls count verb o = record { quiets = o.quiets; sync = o.sync; text = []; count = count; waits = is_waits o.reply; backs = asks_back_out verb && is_done o.reply; appends = appends verb o }

-- bytes are said; no quiet point is made
abbrev pub says : List ℕ → RunEvent
says text = record { quiets = []; sync = None; text = text; count = 0; waits = false; backs = false; appends = false }

-- nothing is done, and nothing said
abbrev pub pause : RunEvent
pause = says []

-- the script ends: where a program is in transaction state, the database goes back to the last quiet point; nothing is said, and no quiet point is
-- made
abbrev pub goes_back : Bool → RunEvent
goes_back works = record { quiets = []; sync = None; text = []; count = 0; waits = false; backs = works; appends = false }

-- all that is said
abbrev pub text_of : List RunEvent → List ℕ
text_of [] = []
text_of (e ∷ es) = e.text ++ text_of es

-- the quiet points that are made
abbrev pub quiets_of : List RunEvent → List Quiet
quiets_of [] = []
quiets_of (e ∷ es) = e.quiets ++ quiets_of es

-- at most 64 blocks of each structure are changed for each of so many records and entries
unfoldable pub blocks_for : Described → ℕ → ℕ
blocks_for desc count = 64 * length desc.structures * count

-- of how many an event may change blocks
abbrev pub changed_in : RunEvent → ℕ
changed_in e = if e.waits then 0 else e.count

-- how many blocks these events may change
abbrev pub blocks_of : Described → List RunEvent → ℕ
blocks_of desc [] = 0
blocks_of desc (e ∷ es) = blocks_for desc (changed_in e) + blocks_of desc es

-- how many blocks the call of an event may change while it is under way
abbrev pub blocks_begun : Described → Option RunEvent → ℕ
blocks_begun desc None = 0
blocks_begun desc (Some e) = blocks_for desc e.count

abbrev pub one_if : Bool → ℕ
one_if true = 1
one_if false = 0

-- how many syncpoints they take, and how often the database goes back
abbrev pub syncs_of : List RunEvent → ℕ
syncs_of [] = 0
syncs_of (e ∷ es) = one_if (is_some e.sync) + syncs_of es

abbrev pub backs_of : List RunEvent → ℕ
backs_of [] = 0
backs_of (e ∷ es) = one_if e.backs + backs_of es

-- No more was done than these events may take.
pub record TakesEvents (desc : Described) (events : List RunEvent) (old new : Effort) : Type 0 where
  pub spent : new.spent ≤ old.spent + blocks_of desc events
  pub syncs : new.syncs ≤ old.syncs + syncs_of events
  pub outs : new.outs ≤ old.outs + backs_of events

-- a syncpoint makes all quiet points durable
abbrev pub durable_by : Option ℕ → ℕ → ℕ → ℕ
durable_by None durable all = durable
durable_by (Some n) durable all = all

-- how many quiet points are durable at least behind these events, where there were so many before them, and so many of those were
-- durable
abbrev pub durable_after : ℕ → ℕ → List RunEvent → ℕ
durable_after count durable [] = durable
durable_after count durable (e ∷ es) = durable_after (count + length e.quiets) (durable_by e.sync durable (count + length e.quiets)) es

-- A stop within these events, where so many quiet points were durable at first. The events before one of them are over. Of the
-- quiet points so far, those of this event too, the stop leaves the first ones, and all that were durable before this event. The
-- text is that of the events before, whole, and a prefix of what this one says.
pub record CrashesWithin (whole : StopFiles → Type 0) (said : Option (List ℕ)) (points : List Point) (durable next : ℕ) (events : List RunEvent) (stop : Stop) : Type 0 where
  pub before : List RunEvent
  pub at : RunEvent
  pub rest : List RunEvent
  pub all : before ++ at ∷ rest ≡ events
  pub left : LeavesQuiets whole (durable_after (length points) durable before) points next (quiets_of before ++ at.quiets) stop
  pub text : (t : List ℕ) → said ≡ Some t → (n : ℕ) × (stop.said ≡ (t ++ text_of before) ++ take n at.text)

abbrev pub CrashesFrom : Seen → List RunEvent → Stop → Type 0
CrashesFrom b events stop = CrashesWithin b.whole b.said b.points b.durable b.next events stop

-- the database is told, and that at the last quiet point
pub record IsTold (s : Seen) : Type 0 where
  pub db : Db
  pub mark : Db
  pub db_is : s.db ≡ Some db
  pub mark_is : s.mark ≡ Some mark

-- these events happened: their text was said, their quiet points were made and have used up their numbers, at least those are
-- durable that a syncpoint among them covers, and a stop on the way lies within them. Where the database is told it still is, and no
-- block was found damaged. No more was done than they may take, and no number but those of the quiet points was used
pub record Performs (b a : Seen) (events : List RunEvent) : Type 0 where
  pub text : Prints b.said a.said (text_of events)
  pub tells : b.tells → a.tells
  pub whole : (files : StopFiles) → a.whole files → b.whole files
  pub told : IsTold b → IsTold a
  pub undamaged : IsTold b → a.faults.damaged ≡ b.faults.damaged
  pub next : b.next + length (quiets_of events) ≤ a.next
  pub next_high : a.next ≤ b.next + length (quiets_of events)
  pub grew : b.tells → PointsGrow b.points (quiets_of events) a.points
  pub durable : b.tells → durable_after (length b.points) b.durable events ≤ a.durable
  pub moments : b.tells → Runs b.clock a.clock (CrashesFrom b events)
  pub desc : a.desc ≡ b.desc
  pub pace : a.pace ≡ b.pace
  pub effort : TakesEvents b.desc events b.effort a.effort

-- the answer is a fault of printing: the last text may have been cut off
abbrev pub IsCutShort : {T : Type 0} → Result T BlockFault → Type 0
IsCutShort (Ok x) = ⊥
IsCutShort (Err f) = f ≡ Say

-- the answer is that the audit had no room behind this file
abbrev pub IsFullOf : {T : Type 0} → Result T BlockFault → ℕ → Type 0
IsFullOf (Ok x) n = ⊥
IsFullOf (Err Disk) n = ⊥
IsFullOf (Err Memory) n = ⊥
IsFullOf (Err (Full f)) n = f ≡ n
IsFullOf (Err (Damaged f b)) n = ⊥
IsFullOf (Err Say) n = ⊥

-- what an answer tells of the way there: that the last text may have been cut off, and that the audit had no room behind this file
pub record Fate : Type 1 where
  pub cut : Type 0
  pub full : ℕ → Type 0

abbrev pub fate_of : {T : Type 0} → Result T BlockFault → Fate
fate_of result = record { cut = IsCutShort result; full = IsFullOf result }

-- told text grew by the whole text of the first so many events
abbrev pub SaidWhole : Option (List ℕ) → Option (List ℕ) → List RunEvent → Type 0
SaidWhole old new events = (k : ℕ) × Prints old new (text_of (take k events))

-- told text grew by these bytes, and maybe by more
abbrev pub SaidAtLeast : Option (List ℕ) → Option (List ℕ) → List ℕ → Type 0
SaidAtLeast old new bytes = (t : List ℕ) → old ≡ Some t → (more : List ℕ) × (new ≡ Some ((t ++ bytes) ++ more))

-- an event takes nothing: no quiet point is made, no syncpoint taken, nothing changed, and nothing gone back from; so it is where bytes are said
pub record TakesNothing (e : RunEvent) : Type 0 where
  pub quiets : e.quiets ≡ []
  pub sync : e.sync ≡ None
  pub count : e.count ≡ 0
  pub backs : e.backs ≡ false

-- the last of these events, if there is one, takes nothing: no call that does waits for its answer
abbrev pub EndsAnswered : List RunEvent → Type 0
EndsAnswered [] = Unit {0}
EndsAnswered (e ∷ []) = TakesNothing e
EndsAnswered (e ∷ f ∷ es) = EndsAnswered (f ∷ es)

-- No more was done than these events may take, and no more numbers were used.
pub record TookAll (b a : Seen) (events : List RunEvent) : Type 0 where
  pub effort : TakesEvents b.desc events b.effort a.effort
  pub next : a.next ≤ b.next + length (quiets_of events)

-- Behind the first k events one call more was under way, that of the next event, where no text was cut off: the blocks of its count, one quiet
-- point, one sync and one way back.
pub record TookOneMore (b a : Seen) (whole k : ℕ) (events : List RunEvent) : Type 0 where
  pub said : whole ≡ k
  pub more : k < length events
  pub answered : EndsAnswered (take k events)
  pub spent : a.effort.spent ≤ b.effort.spent + blocks_of b.desc (take k events) + blocks_begun b.desc (slice_get events k)
  pub next : a.next ≤ b.next + length (quiets_of (take k events)) + 1
  pub syncs : a.effort.syncs ≤ b.effort.syncs + syncs_of (take k events) + 1
  pub outs : a.effort.outs ≤ b.effort.outs + backs_of (take k events) + 1

-- The text of the first k events was said. Where it was cut off, that of all these or of all but the last was said whole, and of the last one's a
-- prefix. No more was done than these may take; or all their text was said, the last of them takes nothing, and one call more was under way.
pub record TookPart (cut : Type 0) (b a : Seen) (events : List RunEvent) : Type 0 where
  pub k : ℕ
  pub within : k ≤ length events
  pub text : (cut → ⊥) → Prints b.said a.said (text_of (take k events))
  pub whole : ℕ
  pub near : (whole ≤ k) × (k ≤ whole + 1)
  pub least : SaidAtLeast b.said a.said (text_of (take whole events))
  pub most : PrintsPrefix b.said a.said (text_of (take k events))
  pub took : TookAll b a (take k events) ⊎ TookOneMore b a whole k events

-- An event in which the audit may have had no room behind file f: entries may be made in it, for which the audit goes on up to the last file; or the
-- database goes back, for which it goes on up to file 9,999.
abbrev pub IsFullIn : ℕ → RunEvent → ℕ → Type 0
IsFullIn last e f = ((e.appends ≡ true) × (f ≡ last)) ⊎ ((e.backs ≡ true) × (f ≡ 9999))

-- Exactly the text of the first k of these events was said, and the next of them is such a one: it updates the database or makes a quiet point, and the
-- file is the last one that the audit goes on to for that; or it goes back, and the file is 9,999.
pub record IsFullAtEvent (last f : ℕ) (before after : Option (List ℕ)) (events : List RunEvent) : Type 0 where
  pub k : ℕ
  pub at : RunEvent
  pub is : slice_get events k ≡ Some at
  pub full : IsFullIn last at f
  pub text : Prints before after (text_of (take k events))

-- so it is over a store
abbrev pub IsFullOver : ℕ → Seen → Seen → List RunEvent → Type 0
IsFullOver f b a events = IsFullAtEvent b.pace.last f b.said a.said events

-- a prefix of the text of these events was said, that of whole events where no text was cut off, and a stop on the way lies
-- within them. No more was done than that prefix may take. Where the audit had no room, an event is told that may make entries. Of what stands afterwards
-- it says nothing else
pub record PerformsPrefix (fate : Fate) (b a : Seen) (events : List RunEvent) : Type 0 where
  pub text : PrintsPrefix b.said a.said (text_of events)
  pub said_whole : (fate.cut → ⊥) → SaidWhole b.said a.said events
  pub due : (f : ℕ) → fate.full f → IsFullOver f b a events
  pub undamaged : IsTold b → a.faults.damaged ≡ b.faults.damaged
  pub moments : b.tells → Runs b.clock a.clock (CrashesFrom b events)
  pub took : TookPart fate.cut b a events
