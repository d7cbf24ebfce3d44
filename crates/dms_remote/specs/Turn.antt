-- A follower takes the next block of its source.
use Rattle.std.specs.Prelude.{ℕ, ◌+◌, ◌≡◌, ◌&&◌, Bool, true, false, not, List, [], ◌∷◌, ◌++◌, None}
use Rattle.dms_site.specs.Files.{Files}
use Rattle.dms_history.specs.Lists.{has}
use Rattle.dms_history.specs.Places.{is_control, is_point}
use Rattle.dms_history.specs.Images.{last_after}
use Rattle.dms_history.specs.Entries.{is_begin}
use Rattle.dms_history.specs.EntryEvents.{history_of, live_of}
use Rattle.dms_audfile.specs.Blocks.{block_entries}
use Rattle.dms_audfile.specs.Scanning.{places_of}
use Rattle.dms_audfile.specs.Tails.{ReadsPlaces}
use Rattle.dms_audfile.specs.TrailEntries.{entries_in}
use Rattle.dms_audfile.specs.declared.audit_end.AuditEnd.{AuditEnd}
use Rattle.dms_audfile.specs.declared.place.EntryPlace.{EntryPlace}
use Rattle.dms_follow.specs.Following.{AgreesAlone, AllWhole, ControlsFirst}
use Rattle.dms_restore.specs.declared.trace.TrailTrace.{TrailTrace}
use Rattle.dms_remote.specs.Kinds.{is_first}
use Rattle.dms_remote.specs.Next.{IsCopyAt, BeginsLive}
use Rattle.dms_remote.specs.Settling.{no_point}
use Rattle.dms_remote.specs.Traced.{TracesBlocks}

-- The writer stands at the end of a copy of these blocks, and the trace is that of their entries, of which there are so many.
pub record KeepsUp (end : AuditEnd) (t : TrailTrace) (entries : ℕ) (head : List ℕ) (blocks : List (List ℕ)) (files : Files) : Type 0 where
  pub at : IsCopyAt end head blocks files
  pub traces : TracesBlocks end.total blocks entries t

-- The block is the next one behind these blocks of a source, and `opened` says whether the first Control is among them.
pub record IsNextOf (opened : Bool) (blocks : List (List ℕ)) (block : List ℕ) : Type 0 where
  pub whole : AllWhole (live_of (entries_in blocks))
  pub controlled : opened ≡ true → has is_control (live_of (entries_in blocks)) ≡ true
  pub new : has (is_point no_point) (live_of (entries_in blocks)) ≡ false
  pub bare : opened ≡ false → (f b : ℕ) → last_after f b (live_of (entries_in blocks)) ≡ None
  pub idle : opened ≡ false → (history_of (entries_in blocks)).pending ≡ None
  pub alone : AgreesAlone (entries_in (blocks ++ block ∷ []))
  pub ordered : ControlsFirst (entries_in (block ∷ []))
  pub begins : has is_begin (entries_in (block ∷ [])) ≡ true → BeginsLive blocks block

-- The places are those of the entries of a block that is sealed next.
abbrev pub ReadsNext : AuditEnd → List ℕ → List EntryPlace → Type 0
ReadsNext end block places = ReadsPlaces (places_of end.file (end.count + 1) (block_entries block)) places

-- whether the gate is opened behind it
abbrev pub opens_behind : Bool → List ℕ → Bool
opens_behind opened block = has is_first (entries_in (block ∷ [])) && not opened
