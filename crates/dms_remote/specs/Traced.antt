-- What the entries of a copy tell is kept while it goes on.
use Rattle.std.specs.Prelude.{ℕ, ◌+◌, ◌≤◌, ◌≡◌, ◌==◌, if◌then◌else◌, List, [], ◌∷◌, ◌++◌, length}
use Rattle.dms_site.specs.Files.{Files}
use Rattle.dms_audfile.specs.Blocks.{block_entries}
use Rattle.dms_audfile.specs.Copies.{IsTrailOf}
use Rattle.dms_audfile.specs.Scanning.{Placed, whole, places_of}
use Rattle.dms_audfile.specs.Tails.{ReadsPlaces}
use Rattle.dms_audfile.specs.TrailEntries.{entries_in}
use Rattle.dms_audfile.specs.TrailLaws.{read_trail}
use Rattle.dms_audfile.specs.declared.place.EntryPlace.{EntryPlace}
use Rattle.dms_restore.specs.Traces.{IsTraceOf, TracesAll}
use Rattle.dms_restore.specs.declared.trace.TrailTrace.{TrailTrace}
use Rattle.dms_remote.specs.Noting.{NotesAll}
use Rattle.dms_remote.specs.Settling.{SameHistory}

-- a block of an audit file, by its number as a file and its own number, from 1 on
pub record BlockNumber : Type 0 where
  pub file : ℕ
  pub block : ℕ

-- the block that comes behind these blocks, the first of which is block i of file f, each file having so many
abbrev pub behind_blocks : ℕ → ℕ → ℕ → List (List ℕ) → BlockNumber
behind_blocks total f i [] = record { file = f; block = i }
behind_blocks total f i (block ∷ blocks) = if i == total then behind_blocks total (f + 1) 1 blocks else behind_blocks total f (i + 1) blocks

-- These blocks from audit file 1 on have so many entries, of which this is the trace in whatever files they stand.
pub record TracesBlocks (total : ℕ) (blocks : List (List ℕ)) (at : ℕ) (t : TrailTrace) : Type 0 where
  pub placed : List Placed
  pub read : read_trail total 10001 1 blocks ≡ whole placed
  pub many : length placed ≡ at
  pub traces : TracesAll placed t

-- Law: so it is the trace of the entries where they are a trail's.
abbrev pub TracesTrail : Type 0
TracesTrail = (total tag f n at : ℕ) (blocks : List (List ℕ)) (files : Files) (t : TrailTrace) → IsTrailOf total tag 10001 f n blocks files → TracesBlocks total blocks at t → IsTraceOf files (entries_in blocks) t

-- Law: behind the blocks of a trail comes the block behind the last sealed one.
abbrev pub EndsBehind : Type 0
EndsBehind = (total tag f n : ℕ) (blocks : List (List ℕ)) (files : Files) → IsTrailOf total tag 10001 f n blocks files → behind_blocks total 10001 1 blocks ≡ record { file = f; block = n + 1 }

-- Law: where the entries of the block that comes behind them were noted, it is that of the blocks with this one.
abbrev pub TracesMore : Type 0
TracesMore = (total f n at : ℕ) (blocks : List (List ℕ)) (block : List ℕ) (places : List EntryPlace) (old new : TrailTrace) → behind_blocks total 10001 1 blocks ≡ record { file = f; block = n } → 10001 ≤ f → f ≤ 20000
    → 1 ≤ n → n ≤ 512 → length block ≡ 4096 → ReadsPlaces (places_of f n (block_entries block)) places → NotesAll block places at old new → TracesBlocks total blocks at old
    → TracesBlocks total (blocks ++ block ∷ []) (at + length places) new

-- Law: it is one whatever room its history has.
abbrev pub TracesSame : Type 0
TracesSame = (total at : ℕ) (blocks : List (List ℕ)) (old new : TrailTrace) → SameHistory old.history new.history → new.schemas ≡ old.schemas → TracesBlocks total blocks at old → TracesBlocks total blocks at new
