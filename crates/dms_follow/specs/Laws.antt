-- Laws: what a copy holds that follows the blocks of its source, one after another.
use Rattle.std.specs.Prelude.{ℕ, ◌<◌, ◌≡◌, true, false, List, [], ◌∷◌, ◌++◌, length, Some, None}
use Rattle.dms_history.specs.Events.{BlockBytes, Stored}
use Rattle.dms_history.specs.Lists.{has, until_first}
use Rattle.dms_history.specs.Places.{is_control, is_point, IsLive}
use Rattle.dms_history.specs.Images.{last_after}
use Rattle.dms_history.specs.History.{Pending}
use Rattle.dms_history.specs.Pick.{Dumps, content_of, count_at, blocks_at}
use Rattle.dms_history.specs.Here.{here}
use Rattle.dms_history.specs.Entries.{Kind, Entry, begin_restore, how_of, is_begin}
use Rattle.dms_history.specs.EntryEvents.{history_of, live_of, Agrees}
use Rattle.dms_site.specs.Files.{Files, stored_of}
use Rattle.dms_running.specs.Begun.{ByAudit}
use Rattle.dms_running.specs.ByHow.{IsKeptBy, StandsAsToldBy}
use Rattle.dms_running.specs.Restoring.{Rewritten}
use Rattle.dms_follow.specs.Following.{last_told, AgreesAlone, PendingTells, settling, StandsBy, Follows, AllStand, LeavesSettled, WritesSettled, AllWhole, is_control_entry, ControlsFirst}

-- What follows agrees, with whatever dumps.
abbrev pub FollowsAgrees : Type 0
FollowsAgrees = (es : List Entry) (dumps : Dumps) (stored : Stored) → Follows es stored → Agrees true es dumps stored

-- At each live point what agrees from its first file on has the content that the entries tell by themselves: of each block the last live
-- after-image before the place.
abbrev pub AgreesContent : Type 0
AgreesContent = (es : List Entry) (dumps : Dumps) (stored : Stored) (n : ℕ) → Agrees true es dumps stored → IsLive (live_of es) n
    → blocks_at (live_of es) (here dumps (history_of es) stored) n ≡ content_of (count_at (live_of es) n) (last_told (until_first (is_point n) (live_of es)))

-- What agrees, with whatever dumps and blocks, agrees alone.
abbrev pub AgreesAsAlone : Type 0
AgreesAsAlone = (es : List Entry) (dumps : Dumps) (stored : Stored) → Agrees true es dumps stored → AgreesAlone es

-- A block without a Control and a Begin is sealed.
abbrev pub PlainFollows : Type 0
PlainFollows = (es be : List Entry) (stored : Stored) → Follows es stored → has is_begin be ≡ false → has is_control_entry be ≡ false → AgreesAlone (es ++ be) → Follows (es ++ be) stored

-- All blocks stand, and a block with a Control is sealed.
abbrev pub ControlFollows : Type 0
ControlFollows = (es be : List Entry) (stored : Stored) → AllStand (live_of es) stored → has is_begin be ≡ false → has is_control_entry be ≡ true → ControlsFirst be → AgreesAlone (es ++ be)
    → Follows (es ++ be) stored

-- A Begin is sealed where no restore is pending, or where all blocks stand; so it stands by the live entries without one.
abbrev pub BeginFollows : Type 0
BeginFollows = (es : List Entry) (stored : Stored) (m : ℕ) (kind : Kind) → AgreesAlone es → StandsBy None (live_of es) stored → IsLive (live_of es) m → ByAudit (how_of kind)
    → AgreesAlone (es ++ begin_restore m kind ∷ []) → Follows (es ++ begin_restore m kind ∷ []) stored

-- Where all blocks stand it follows, and a Begin may be sealed.
pub record StandsAll (es : List Entry) (stored : Stored) : Type 0 where
  pub follows : Follows es stored
  pub idle : StandsBy None (live_of es) stored

abbrev pub SettledFollows : Type 0
SettledFollows = (es : List Entry) (old stored : Stored) → Follows es old → AllStand (live_of es) stored → StandsAll es stored

-- While blocks are settled, torn or whole, it follows.
abbrev pub WritesKeepFollowing : Type 0
WritesKeepFollowing = (es : List Entry) (stored written : Stored) → Follows es stored → AllWhole (live_of es) → LeavesSettled (history_of es).pending (live_of es) stored written → Follows es written

-- Once they are settled all stand.
abbrev pub SettlesAll : Type 0
SettlesAll = (es : List Entry) (stored written : Stored) → Follows es stored → AllWhole (live_of es) → LeavesSettled (history_of es).pending (live_of es) stored written
    → WritesSettled (history_of es).pending (live_of es) written → AllStand (live_of es) written

-- Entries that may be settled by a restore, the pending one or one to point n, which has no place among them: where none is pending a Control is live.
pub record MaySettle (es : List Entry) (n : ℕ) : Type 0 where
  pub alone : AgreesAlone es
  pub pending : (p : Pending) → (history_of es).pending ≡ Some p → PendingTells p
  pub controlled : has is_control (live_of es) ≡ true
  pub new : has (is_point n) (live_of es) ≡ false

abbrev pub settler : List Entry → ℕ → Pending
settler es n = settling (history_of es).pending (live_of es) n

-- Each moment of such a restore leaves what settling leaves.
abbrev pub RestoringLeaves : Type 0
RestoringLeaves = (es : List Entry) (n : ℕ) (old new : Files) → MaySettle es n → Rewritten (IsKeptBy (settler es n).how (settler es n).entries (settler es n).point) old new
    → LeavesSettled (history_of es).pending (live_of es) (stored_of old) (stored_of new)

-- Once it has written all, settling is done.
abbrev pub RestoringSettles : Type 0
RestoringSettles = (es : List Entry) (n : ℕ) (dumps : Dumps) (new : Files) → MaySettle es n
    → ((f b : ℕ) → b < count_at (settler es n).entries (settler es n).point f → StandsAsToldBy (settler es n).how dumps (settler es n).entries (settler es n).point new f b)
    → WritesSettled (history_of es).pending (live_of es) (stored_of new)
