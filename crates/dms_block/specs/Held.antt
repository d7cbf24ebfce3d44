-- What blocks tell of themselves, and what their calls leave of that.
use Rattle.std.specs.Prelude.{ℕ, ◌+◌, ◌-◌, ◌%◌, ◌≤◌, ◌<◌, ◌==◌, ◌^◌, ◌≡◌, ◌++◌, ◌&&◌, not, Bool, IsTrue, List, [], ◌∷◌, length, take, Some, min, IsErrOf, OnOk, ◌⊎◌}
use Rattle.std.specs.declared.option.Option.{Option}
use Rattle.std.specs.declared.result.Result.{Result}
use Rattle.std.specs.declared.result.Result.TheVariants.{Ok, Err}
use Rattle.dms_moments.specs.Moments.{Clock, Now, Runs}
use Rattle.dms_block.specs.declared.block_fault.BlockFault.{BlockFault}
use Rattle.dms_block.specs.declared.block_fault.BlockFault.TheVariants.{Disk, Memory, Full, Damaged, Say}
use Rattle.dms_block.specs.Counts.{Faults, Raised}
use Rattle.dms_block.specs.Faults.{NotFull, Unbroken}
use Rattle.dms_block.specs.Content.{Content, block_in}

-- a quiet point that stands on a disk: its number, its blocks by file, the bytes of its description
pub record BlockPoint : Type 0 where
  pub number : ℕ
  pub blocks : Content
  pub schema : List ℕ

-- what a stop leaves: the bytes of each file, the quiet points that they hold, the next number, the text
pub record BlockStop : Type 0 where
  pub files : ℕ → List ℕ
  pub points : List BlockPoint
  pub next : ℕ
  pub said : List ℕ

-- What an object was used for: how many blocks were read, how many `apply` changed, how often it synced, how often it backed
-- out. Each count stands still at 2^64 - 1.
pub record Uses : Type 0 where
  pub reads : ℕ
  pub spent : ℕ
  pub syncs : ℕ
  pub outs : ℕ

pub record Held : Type 1 where
  -- whether it tells its content
  pub told : Bool
  -- that it tells its points and what stops leave
  pub tells : Type 0
  -- what it needs to be usable
  pub sound : Type 0
  -- what it promises of the files that a stop leaves
  pub whole : (ℕ → List ℕ) → Type 0
  -- which files are the object's
  pub owns : ℕ → Bool
  -- how many blocks each file has
  pub counts : ℕ → ℕ
  -- the blocks, and those at the last quiet point
  pub content : Content
  pub mark : Content
  -- the number of the next quiet point
  pub next : ℕ
  -- the text so far, where it is told
  pub said : Option (List ℕ)
  -- the quiet points so far, how many of them each stop leaves, and the one that `quiet` would make now
  pub points : List BlockPoint
  pub durable : ℕ
  pub here : BlockPoint
  -- what stops may leave
  pub clock : Clock BlockStop
  pub faults : Faults
  pub uses : Uses

-- there is a number for one more quiet point
abbrev pub HasNextNumber : Held → Type 0
HasNextNumber h = h.next + 1 < 2 ^ 64

-- where the points are told, and there is a number for one more
abbrev pub IfTold : Held → Type 0 → Type 0
IfTold h P = h.tells → HasNextNumber h → P

-- The first so many of the points, not fewer than were made durable, and a next number that has not risen, and fallen by no more than
-- the points that are missing. Where none is missing it is the same. The files are as promised.
pub record Prefix (whole : (ℕ → List ℕ) → Type 0) (durable : ℕ) (points : List BlockPoint) (next : ℕ) (stop : BlockStop) : Type 0 where
  pub count : ℕ
  pub enough : durable ≤ count
  pub within : count ≤ length points
  pub is : stop.points ≡ take count points
  pub not_fallen : next + count ≤ stop.next + length points
  pub not_risen : stop.next ≤ next
  pub whole_files : whole stop.files

-- the text of a stop is this one, where it is told
abbrev pub TextIs : Option (List ℕ) → BlockStop → Type 0
TextIs said stop = (t : List ℕ) → said ≡ Some t → stop.said ≡ t

-- the text of then and the first of these bytes, where it is told
abbrev pub TextGrows : Option (List ℕ) → List ℕ → BlockStop → Type 0
TextGrows said bytes stop = (t : List ℕ) → said ≡ Some t → (n : ℕ) × (stop.said ≡ t ++ take n bytes)

-- at each moment of a call that prints nothing
abbrev pub Leaves : Held → Held → List BlockPoint → ℕ → Type 0
Leaves a b points next = Runs a.clock b.clock (λ stop. Prefix a.whole a.durable points next stop × TextIs a.said stop)

-- at each moment of a call that prints these bytes
abbrev pub LeavesText : Held → Held → List ℕ → Type 0
LeavesText a b bytes = Runs a.clock b.clock (λ stop. Prefix a.whole a.durable a.points a.next stop × TextGrows a.said bytes stop)

-- the file is the object's and has the block, and where the content is told the block isn't 1,024 bytes long
abbrev pub IsShort : Held → ℕ → ℕ → Type 0
IsShort h f b = IsTrue (h.owns f) × (b < h.counts f) × (IsTrue h.told → length (block_in h.content f b) ≡ 1024 → ⊥)

-- one failure of this kind, with its cause
abbrev pub Caused : BlockFault → Held → Held → Type 0
Caused Disk a b = Raised Disk a.faults b.faults
Caused Memory a b = Raised Memory a.faults b.faults
Caused (Full f) a b = Raised (Full f) a.faults b.faults
Caused (Damaged f n) a b = Raised (Damaged f n) a.faults b.faults × IsShort a f n
Caused Say a b = Raised Say a.faults b.faults

-- each fault is counted, and nothing else is
abbrev pub HasCauses : {T : Type 0} → Result T BlockFault → Held → Held → Type 0
HasCauses (Ok x) a b = b.faults ≡ a.faults
HasCauses (Err e) a b = Caused e a b

-- a call that finds a block damaged by itself: the blocks below counted one that is short, or the block is one of these
abbrev pub CausedOr : (ℕ → ℕ → Type 0) → BlockFault → Held → Held → Type 0
CausedOr P Disk a b = Caused Disk a b
CausedOr P Memory a b = Caused Memory a b
CausedOr P (Full f) a b = Caused (Full f) a b
CausedOr P (Damaged f n) a b = Caused (Damaged f n) a b ⊎ ((b.faults ≡ a.faults) × P f n)
CausedOr P Say a b = ⊥

-- of a call over blocks that prints nothing
abbrev pub HasCausesOr : {T : Type 0} → (ℕ → ℕ → Type 0) → Result T BlockFault → Held → Held → Type 0
HasCausesOr P (Ok x) a b = b.faults ≡ a.faults
HasCausesOr P (Err e) a b = CausedOr P e a b

-- whatever a call does, it stays the same kind of object, and a point that it makes stands under the same description
pub record Lasts (a b : Held) : Type 0 where
  pub told : b.told ≡ a.told
  pub tells : a.tells → b.tells
  pub owns : b.owns ≡ a.owns
  pub schema : b.here.schema ≡ a.here.schema
  pub whole : (files : ℕ → List ℕ) → b.whole files → a.whole files
  pub whole_on : (files : ℕ → List ℕ) → a.whole files → b.whole files

-- whatever it answers, a call makes no point and prints nothing
pub record MakesNoPoint (a b : Held) : Type 0 where
  pub lasts : Lasts a b
  pub next : b.next ≡ a.next
  pub said : b.said ≡ a.said
  pub leaves : IfTold a (Leaves a b a.points a.next)

-- the object is usable, goes back to the same blocks, and what is durable stays durable
pub record Stays (a b : Held) : Type 0 where
  pub sound : b.sound
  pub mark : IsTrue a.told → b.mark ≡ a.mark
  pub points : IfTold a ((b.points ≡ a.points) × (a.durable ≤ b.durable))

-- the blocks are as they were
pub record SameBlocks (a b : Held) : Type 0 where
  pub counts : b.counts ≡ a.counts
  pub content : IsTrue a.told → b.content ≡ a.content

-- one more, unless the count stands at its type's end
abbrev pub one_more : ℕ → ℕ
one_more n = min (n + 1) (2 ^ 64 - 1)

-- the audit file that may not be passed where something is changed, and how many syncs go before each control point; 0 where none follows a sync
pub record AuditPace : Type 0 where
  pub last : ℕ
  pub every : ℕ

-- a control point follows the sync that is this one, counted from the opening
abbrev pub is_due_at : ℕ → ℕ → Bool
is_due_at every n = not (every == 0) && (n % every == 0)

-- a control point follows the sync behind so many others
abbrev pub is_due : ℕ → ℕ → Bool
is_due every syncs = is_due_at every (one_more syncs)

-- a count rose by one at most
abbrev pub IsUpToOne : ℕ → ℕ → Type 0
IsUpToOne old new = (old ≤ new) × (new ≤ old + 1)

-- the points were made durable once, or the call failed
pub record Synced {T : Type 0} (result : Result T BlockFault) (a b : Uses) : Type 0 where
  pub reads : b.reads ≡ a.reads
  pub spent : b.spent ≡ a.spent
  pub outs : b.outs ≡ a.outs
  pub done : OnOk result (b.syncs ≡ one_more a.syncs)
  pub few : IsUpToOne a.syncs b.syncs

-- the object went back once, or the call failed
pub record WentBack {T : Type 0} (result : Result T BlockFault) (a b : Uses) : Type 0 where
  pub reads : b.reads ≡ a.reads
  pub spent : b.spent ≡ a.spent
  pub syncs : b.syncs ≡ a.syncs
  pub done : OnOk result (b.outs ≡ one_more a.outs)
  pub few : IsUpToOne a.outs b.outs

-- at most so many reads, and so many blocks changed. Neither count falls
pub record Used (n m : ℕ) (a b : Uses) : Type 0 where
  pub not_fewer : a.reads ≤ b.reads
  pub reads : b.reads ≤ a.reads + n
  pub not_less : a.spent ≤ b.spent
  pub spent : b.spent ≤ a.spent + m
  pub syncs : b.syncs ≡ a.syncs
  pub outs : b.outs ≡ a.outs

-- a call reads blocks alone, at most n of them, and needs no room in the audit
pub record Looks {T : Type 0} (n : ℕ) (result : Result T BlockFault) (a b : Held) : Type 0 where
  pub not_full : NotFull result
  pub passes : MakesNoPoint a b
  pub stays : Unbroken result (Stays a b)
  pub same : Unbroken result (SameBlocks a b)
  pub counts : b.counts ≡ a.counts
  pub uses : Used n 0 a.uses b.uses

-- a call may change blocks, at most m of them, and reads at most n; without memory it changes none
pub record Alters {T : Type 0} (n m : ℕ) (result : Result T BlockFault) (a b : Held) : Type 0 where
  pub passes : MakesNoPoint a b
  pub stays : Unbroken result (Stays a b)
  pub memory : IsErrOf result Memory → SameBlocks a b
  pub uses : Used n m a.uses b.uses

-- a quiet point was made
pub record MadeQuiet (a b : Held) : Type 0 where
  pub sound : b.sound
  pub next : HasNextNumber a → b.next ≡ a.next + 1
  pub same : HasNextNumber a → SameBlocks a b
  pub mark : HasNextNumber a → IsTrue a.told → b.mark ≡ a.content
  pub points : IfTold a ((b.points ≡ a.points ++ a.here ∷ []) × (a.durable ≤ b.durable))

-- all quiet points are durable
pub record MadeDurable (a b : Held) : Type 0 where
  pub sound : b.sound
  pub same : SameBlocks a b
  pub mark : IsTrue a.told → b.mark ≡ a.mark
  pub points : IfTold a (b.points ≡ a.points)
  pub durable : IfTold a (b.durable ≡ length a.points)

-- What is told hangs together. The counts are those of the content. Where stops are told some outcome of a stop now is possible.
-- A stop now leaves the first so many points, at least those that are durable, and the text. A point that was made now has the next
-- number and the content.
pub record BlocksAgree (h : Held) : Type 0 where
  pub counted : IsTrue h.told → (f : ℕ) → h.counts f ≡ length (h.content f)
  pub may_stop : h.tells → (x : BlockStop) × Now h.clock x
  pub stop : IfTold h ((x : BlockStop) → Now h.clock x → Prefix h.whole h.durable h.points h.next x × TextIs h.said x)
  pub here : IfTold h ((h.here.number ≡ h.next) × (IsTrue h.told → h.here.blocks ≡ h.content))
  pub durable : IfTold h (h.durable ≤ length h.points)
