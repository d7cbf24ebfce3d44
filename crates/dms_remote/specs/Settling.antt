-- The blocks of a copy are settled before a Control, and before a Begin over a pending restore, is sealed.
use Rattle.std.specs.Prelude.{ℕ, ◌-◌, ◌^◌, ◌≡◌, List}
use Rattle.dms_site.specs.Files.{Files, Left, stored_of}
use Rattle.dms_history.specs.EntryEvents.{live_of}
use Rattle.dms_audfile.specs.TrailEntries.{entries_in}
use Rattle.dms_audfile.specs.Copies.{IsTrailOf}
use Rattle.dms_audfile.specs.declared.audit_end.AuditEnd.{AuditEnd}
use Rattle.dms_restore.specs.Tracing.{IsTraced}
use Rattle.dms_restore.specs.declared.tracing.TrailHistory.{TrailHistory}
use Rattle.dms_follow.specs.Following.{Follows, AllStand, AllWhole}
use Rattle.dms_follow.specs.Laws.{MaySettle, StandsAll}
use Rattle.dms_remote.specs.Copy.{IsCopyOf}

-- a number that no quiet point has
abbrev pub no_point : ℕ
no_point = 2 ^ 64 - 1

-- The writer stands at the end of a copy of these blocks, the history tells of their entries, and they may be settled.
pub record HoldsCopy (end : AuditEnd) (h : TrailHistory) (head : List ℕ) (blocks : List (List ℕ)) (files : Files) : Type 0 where
  pub trail : IsTrailOf end.total end.tag 10001 end.file end.count blocks files
  pub head_is : files 1 ≡ head
  pub follows : Follows (entries_in blocks) (stored_of files)
  pub traced : IsTraced files (entries_in blocks) h
  pub may : MaySettle (entries_in blocks) no_point
  pub whole : AllWhole (live_of (entries_in blocks))

-- what a stop leaves meanwhile: the same copy
abbrev pub StaysCopy : ℕ → ℕ → List ℕ → List (List ℕ) → Left → Left → Type 0
StaysCopy total tag head blocks old new = IsCopyOf total tag head blocks new.files

-- Then the writer stands there, and all blocks stand; so a block with a Control, or a Begin, may be sealed.
pub record IsSettled (end : AuditEnd) (head : List ℕ) (blocks : List (List ℕ)) (files : Files) : Type 0 where
  pub trail : IsTrailOf end.total end.tag 10001 end.file end.count blocks files
  pub head_is : files 1 ≡ head
  pub stands : StandsAll (entries_in blocks) (stored_of files)
  pub all : AllStand (live_of (entries_in blocks)) (stored_of files)

-- a history is the same, whatever room it has
pub record SameHistory (old new : TrailHistory) : Type 0 where
  pub live : new.live.items ≡ old.live.items
  pub removed : new.removed ≡ old.removed
  pub pending : new.pending ≡ old.pending
  pub rows : new.rows ≡ old.rows
  pub begun : new.begun ≡ old.begun
  pub read : new.read ≡ old.read
  pub all : new.all ≡ old.all
  pub next : new.next ≡ old.next
