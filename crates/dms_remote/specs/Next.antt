-- Laws: when the next block of its source may be sealed in a copy.
use Rattle.std.specs.Prelude.{ℕ, ◌≡◌, Bool, true, false, List, [], ◌∷◌, ◌++◌, None}
use Rattle.dms_site.specs.Files.{Files, stored_of}
use Rattle.dms_history.specs.Lists.{has}
use Rattle.dms_history.specs.Places.{is_control, is_point, IsLive}
use Rattle.dms_history.specs.Images.{last_after}
use Rattle.dms_history.specs.Entries.{Kind, begin_restore, how_of, is_begin}
use Rattle.dms_history.specs.EntryEvents.{history_of, live_of}
use Rattle.dms_running.specs.Begun.{ByAudit}
use Rattle.dms_audfile.specs.TrailEntries.{entries_in}
use Rattle.dms_audfile.specs.Copies.{IsTrailOf}
use Rattle.dms_audfile.specs.declared.audit_end.AuditEnd.{AuditEnd}
use Rattle.dms_follow.specs.Following.{AgreesAlone, StandsBy, Follows, AllStand, AllWhole, is_control_entry, ControlsFirst}
use Rattle.dms_restore.specs.Tracing.{IsTraced}
use Rattle.dms_restore.specs.declared.tracing.TrailHistory.{TrailHistory}
use Rattle.dms_remote.specs.Copy.{MaySeal}
use Rattle.dms_remote.specs.Settling.{no_point}
use Rattle.dms_remote.specs.declared.kinds.Kinds.{Kinds}

-- The writer stands at the end of a copy of these blocks.
pub record IsCopyAt (end : AuditEnd) (head : List ℕ) (blocks : List (List ℕ)) (files : Files) : Type 0 where
  pub trail : IsTrailOf end.total end.tag 10001 end.file end.count blocks files
  pub head_is : files 1 ≡ head
  pub follows : Follows (entries_in blocks) (stored_of files)

-- A block with neither a Control nor a Begin, with which the entries agree among themselves, may be sealed at once.
abbrev pub PlainIsNext : Type 0
PlainIsNext = (end : AuditEnd) (head : List ℕ) (blocks : List (List ℕ)) (block : List ℕ) (files : Files) → IsCopyAt end head blocks files → AgreesAlone (entries_in (blocks ++ block ∷ []))
    → has is_begin (entries_in (block ∷ [])) ≡ false → has is_control_entry (entries_in (block ∷ [])) ≡ false → MaySeal end head blocks block files

-- One with a Control and no Begin, in which no Control stands behind a change, may be sealed where all blocks stand.
abbrev pub ControlIsNext : Type 0
ControlIsNext = (end : AuditEnd) (head : List ℕ) (blocks : List (List ℕ)) (block : List ℕ) (files : Files) → IsCopyAt end head blocks files → AgreesAlone (entries_in (blocks ++ block ∷ []))
    → AllStand (live_of (entries_in blocks)) (stored_of files) → ControlsFirst (entries_in (block ∷ [])) → has is_begin (entries_in (block ∷ [])) ≡ false → has is_control_entry (entries_in (block ∷ [])) ≡ true
    → MaySeal end head blocks block files

-- So may one with the first Control, before which no block was changed.
abbrev pub FirstIsNext : Type 0
FirstIsNext = (end : AuditEnd) (head : List ℕ) (blocks : List (List ℕ)) (block : List ℕ) (files : Files) → IsCopyAt end head blocks files → AgreesAlone (entries_in (blocks ++ block ∷ []))
    → ((f b : ℕ) → last_after f b (live_of (entries_in blocks)) ≡ None) → ControlsFirst (entries_in (block ∷ [])) → has is_begin (entries_in (block ∷ [])) ≡ false → has is_control_entry (entries_in (block ∷ [])) ≡ true
    → MaySeal end head blocks block files

-- One that begins a restore by the audit to a live point may be sealed where no restore is pending, and where all blocks stand.
abbrev pub BeginIsNext : Type 0
BeginIsNext = (end : AuditEnd) (head : List ℕ) (blocks : List (List ℕ)) (block : List ℕ) (files : Files) (m : ℕ) (kind : Kind) → IsCopyAt end head blocks files → AgreesAlone (entries_in (blocks ++ block ∷ []))
    → StandsBy None (live_of (entries_in blocks)) (stored_of files) → entries_in (block ∷ []) ≡ begin_restore m kind ∷ [] → IsLive (live_of (entries_in blocks)) m → ByAudit (how_of kind)
    → MaySeal end head blocks block files

abbrev pub IdleIsNext : Type 0
IdleIsNext = (end : AuditEnd) (head : List ℕ) (blocks : List (List ℕ)) (block : List ℕ) (files : Files) (m : ℕ) (kind : Kind) → IsCopyAt end head blocks files → AgreesAlone (entries_in (blocks ++ block ∷ []))
    → (history_of (entries_in blocks)).pending ≡ None → entries_in (block ∷ []) ≡ begin_restore m kind ∷ [] → IsLive (live_of (entries_in blocks)) m → ByAudit (how_of kind)
    → MaySeal end head blocks block files

-- ---- one turn

-- a Begin is the whole block, and it begins a restore by the audit to a live point
pub record BeginsLive (blocks : List (List ℕ)) (block : List ℕ) : Type 0 where
  pub point : ℕ
  pub kind : Kind
  pub alone : entries_in (block ∷ []) ≡ begin_restore point kind ∷ []
  pub lives : IsLive (live_of (entries_in blocks)) point
  pub by_audit : ByAudit (how_of kind)

-- The writer stands at the end of a copy, the history tells of its entries, and the block is the next one of its source. `opened` says whether the
-- first Control is sealed; before it no block was changed.
pub record TakesNext (end : AuditEnd) (h : TrailHistory) (opened : Bool) (head : List ℕ) (blocks : List (List ℕ)) (block : List ℕ) (files : Files) : Type 0 where
  pub at : IsCopyAt end head blocks files
  pub traced : IsTraced files (entries_in blocks) h
  pub whole : AllWhole (live_of (entries_in blocks))
  pub controlled : opened ≡ true → has is_control (live_of (entries_in blocks)) ≡ true
  pub new : has (is_point no_point) (live_of (entries_in blocks)) ≡ false
  pub bare : opened ≡ false → (f b : ℕ) → last_after f b (live_of (entries_in blocks)) ≡ None
  pub idle : opened ≡ false → (history_of (entries_in blocks)).pending ≡ None
  pub alone : AgreesAlone (entries_in (blocks ++ block ∷ []))
  pub ordered : ControlsFirst (entries_in (block ∷ []))
  pub begins : has is_begin (entries_in (block ∷ [])) ≡ true → BeginsLive blocks block

-- so it is of the entries of the block
pub record AreKinds (kinds : Kinds) (block : List ℕ) : Type 0 where
  pub control : kinds.control ≡ has is_control_entry (entries_in (block ∷ []))
  pub begin : kinds.begin ≡ has is_begin (entries_in (block ∷ []))
