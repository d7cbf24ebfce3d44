-- Files in memory, and how changes of them are taken back.
use Rattle.std.specs.Prelude.{ℕ, zero, suc, ◌+◌, ◌-◌, ◌≤◌, ◌<◌, ◌≡◌, ◌&&◌, Bool, true, if◌then◌else◌, nat_lt, nat_le, List, [], ◌∷◌, ◌++◌, length, map, filter, take, set, slice_index_or, None, Some, ⊤}
use Rattle.std.specs.Global.{Vec}
use Rattle.std.specs.declared.option.Option.{Option}
use Rattle.dms_moments.specs.Moments.{Clock}
use Rattle.dms_block.specs.declared.block.Block.{Block}
use Rattle.dms_block.specs.declared.block.BlockId.{BlockId}
use Rattle.dms_block.specs.declared.change.Change.{Change}
use Rattle.dms_block.specs.Content.{Content, apply_changes, limit}
use Rattle.dms_block.specs.Held.{BlockPoint, BlockStop, Held, Uses}
use Rattle.dms_memblocks.specs.declared.undo.BlockUndo.{BlockUndo}

-- the files 30,001 and on, each as the list of its blocks
abbrev pub BlockLists : Type 0
BlockLists = List (List Block)

abbrev pub bytes : Block → List ℕ
bytes x = x.0

-- where a file stands in the list
abbrev pub place : ℕ → ℕ
place f = f - 30001

abbrev pub content_of : BlockLists → Content
content_of files = λ f. if nat_lt 30000 f then map bytes (slice_index_or files (place f) []) else []

abbrev pub owns_of : BlockLists → ℕ → Bool
owns_of files f = nat_lt 30000 f && nat_le f (30000 + length files)

-- a file without a change: the old block stands again, or the new one is gone
abbrev pub taken_back : ℕ → Option Block → List Block → List Block
taken_back b None blocks = take b blocks
taken_back b (Some x) blocks = set blocks b x

abbrev pub undo : BlockUndo → BlockLists → BlockLists
undo u files = set files (place u.id.file) (taken_back u.id.block u.old (slice_index_or files (place u.id.file) []))

-- the files before these changes, of which the last is taken back first
abbrev pub undo_all : List BlockUndo → BlockLists → BlockLists
undo_all [] files = files
undo_all (u ∷ us) files = undo u (undo_all us files)

-- the changes after a quiet point
abbrev pub after : ℕ → List BlockUndo → List BlockUndo
after n log = filter (λ u. nat_lt n u.point) log

-- the quiet points 1 to n, under these bytes of a description
abbrev pub points_to : List ℕ → BlockLists → List BlockUndo → ℕ → List BlockPoint
points_to schema files log zero = []
points_to schema files log (suc n) = points_to schema files log n ++ (record { number = suc n; blocks = content_of (undo_all (after (suc n) log) files); schema = schema } ∷ [])

-- What a stop since the moment t leaves: the first so many points, not fewer than t, and the next number behind them. The number
-- of a moment is that of the points that were durable then.
pub record LeavesBlocks (points : List BlockPoint) (t : ℕ) (stop : BlockStop) : Type 0 where
  pub count : ℕ
  pub enough : t ≤ count
  pub within : count ≤ length points
  pub is : stop.points ≡ take count points
  pub next : stop.next ≡ count + 1

abbrev pub clock_of : List BlockPoint → ℕ → Clock BlockStop
clock_of points durable = record { now = durable; left = LeavesBlocks points }

-- all that the blocks stand for, where points are made under these bytes of a description
abbrev pub held_of : List ℕ → BlockLists → List BlockUndo → ℕ → ℕ → Uses → Held
held_of schema files log made durable uses = record {
  told = true;
  tells = ⊤;
  sound = ⊤;
  whole = λ stop. ⊤;
  owns = owns_of files;
  counts = λ f. length (content_of files f);
  content = content_of files;
  mark = content_of (undo_all (after made log) files);
  next = made + 1;
  said = None;
  points = points_to schema files log made;
  durable = durable;
  here = record { number = made + 1; blocks = content_of files; schema = schema };
  clock = clock_of (points_to schema files log made) durable;
  faults = record { disk = 0; say = 0; full = 0; damaged = 0 };
  uses = uses;
}

-- all changes are before the point of this number
abbrev pub AreBefore : ℕ → List BlockUndo → Type 0
AreBefore n [] = Unit {0}
AreBefore n (u ∷ us) = (u.point ≤ n) × AreBefore n us

-- all changes are between the points n and n + 1
abbrev pub AreSince : ℕ → List BlockUndo → Type 0
AreSince n [] = Unit {0}
AreSince n (u ∷ us) = (n < u.point) × (u.point ≤ n + 1) × AreSince n us

-- no file has more blocks than there are numbers for
abbrev pub AreSmall : BlockLists → Type 0
AreSmall [] = Unit {0}
AreSmall (blocks ∷ files) = (length blocks ≤ limit) × AreSmall files

-- a block of a file is another one, or a new one at its end
abbrev pub put_in : ℕ → Block → List Block → List Block
put_in b x blocks = if nat_lt b (length blocks) then set blocks b x else blocks ++ x ∷ []

-- what a change of a block takes away
abbrev pub old_in : ℕ → List Block → Option Block
old_in b [] = None
old_in zero (x ∷ blocks) = Some x
old_in (suc b) (x ∷ blocks) = old_in b blocks

-- what a change of a block takes away, as the log of a point keeps it
abbrev pub undo_entry : ℕ → BlockId → BlockLists → BlockUndo
undo_entry point id lists = record { point = point; id = id; old = old_in id.block (slice_index_or lists (place id.file) []) }

-- one block of one file is another one, or a new one
abbrev pub put_at : ℕ → ℕ → Block → BlockLists → BlockLists
put_at k b x files = set files k (put_in b x (slice_index_or files k []))

-- changes were made and logged, and the log takes them back
pub record PutAll (made : ℕ) (changes : List Change) (files : BlockLists) (log : List BlockUndo) (files' : BlockLists) (log' : List BlockUndo) : Type 0 where
  pub more : List BlockUndo
  pub logged : log' ≡ log ++ more
  pub since : AreSince made more
  pub back : undo_all more files' ≡ files
  pub content : content_of files' ≡ apply_changes changes (content_of files)
  pub many : length files' ≡ length files
  pub small : AreSmall files'

-- the files as lists
abbrev pub rows : List (Vec Block) → BlockLists
rows files = map (λ v. v.items) files

-- no file has a block
abbrev pub AreEmpty : BlockLists → Type 0
AreEmpty [] = Unit {0}
AreEmpty (blocks ∷ files) = (blocks ≡ []) × AreEmpty files
