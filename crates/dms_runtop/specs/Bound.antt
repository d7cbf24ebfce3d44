-- How much audit a run takes.
use Rattle.std.specs.Prelude.{ℕ, ◌≡◌, ◌⊎◌, ◌+◌, ◌*◌, ◌<◌, ◌≤◌, List, length, slice_get, take}
use Rattle.std.specs.declared.option.Option.{Option}
use Rattle.dms_block.specs.Texts.{Prints, PrintsPrefix}
use Rattle.dms_desc.specs.Shape.{Described}
use Rattle.dms_runner.specs.Events.{RunEvent, EndsAnswered, SaidAtLeast, backs_of, blocks_begun, blocks_of, quiets_of, syncs_of, text_of}
use Rattle.dms_running.specs.Telling.{Telling}
use Rattle.dms_site.specs.Files.{Files}
use Rattle.dms_status.specs.declared.status.Status.{Status}
use Rattle.dms_status.specs.declared.status.Status.TheVariants.{Ok, SayFault}
use Rattle.dms_wal.specs.Growing.{controls_among}

-- How many entries these events may make: one for each block that is changed, 64 of each structure for each record and each entry that a call names, refers
-- to, moves or nulls a link in; one for each quiet point; 18 for each m-th syncpoint; and 19 for each back-out.
abbrev pub audit_of : Described → List RunEvent → ℕ
audit_of desc events = blocks_of desc events + length (quiets_of events) + 18 * controls_among desc.controlpoint (syncs_of events) + 19 * backs_of events

-- And those that the first k events may make and one call more that is under way, that of the next event: the blocks of its records and entries, a quiet
-- point, a syncpoint and a back-out.
abbrev pub audit_begun : Described → List RunEvent → ℕ → ℕ
audit_begun desc events k =
    blocks_of desc (take k events) + blocks_begun desc (slice_get events k) + length (quiets_of (take k events)) + 1
    + 18 * controls_among desc.controlpoint (syncs_of (take k events) + 1) + 19 * (backs_of (take k events) + 1)

-- The audit of the files of now has at most so many entries more than that of then.
abbrev pub AuditGrew : Telling → ℕ → Files → Files → Type 0
AuditGrew t n then now = length (t.entries now) ≤ length (t.entries then) + n

-- Exactly the text of the first k events was printed, so whole answers. Where it was cut off, that of all these or of all but the last was printed
-- whole, and of the last one's a prefix.
pub record PrintsEvents (cut : Type 0) (k : ℕ) (events : List RunEvent) (said said' : Option (List ℕ)) : Type 0 where
  pub within : k ≤ length events
  pub text : (cut → ⊥) → Prints said said' (text_of (take k events))
  pub whole : ℕ
  pub near : (whole ≤ k) × (k ≤ whole + 1)
  pub least : SaidAtLeast said said' (text_of (take whole events))
  pub most : PrintsPrefix said said' (text_of (take k events))

-- After the first k of these events one call more was under way: their text was printed whole, the last of them takes nothing, so no call that does
-- waits for its answer, and there are more of them.
pub record IsUnderWay (whole k : ℕ) (events : List RunEvent) : Type 0 where
  pub said : whole ≡ k
  pub more : k < length events
  pub answered : EndsAnswered (take k events)

-- The audit grew by no more than n entries and those that the first k of these events make; or one call more was under way, and it grew by no more than
-- n, those, and those of that call.
abbrev pub GrewWithin : ℕ → Telling → Described → ℕ → ℕ → List RunEvent → Files → Files → Type 0
GrewWithin n t desc whole k events then now =
    AuditGrew t (n + audit_of desc (take k events)) then now ⊎ (IsUnderWay whole k events × AuditGrew t (n + audit_begun desc events k) then now)

-- What was answered of these events when a run ended, and how much of the audit that took, whatever failed. The call of a verb is an event before the
-- one that says its answer: so the last of those answered may be a call whose answer wasn't printed. Where each call that takes something was answered, one
-- may have been under way after them. So there is one such call at most whose answer wasn't printed.
pub record AnswersPart (most : ℕ) (t : Telling) (desc : Described) (events : List RunEvent) (then now : Files) (said said' : Option (List ℕ)) (status : Status) : Type 0 where
  -- so many of them were answered
  pub k : ℕ
  -- exactly their text was printed; at status 10 the last of it may be cut off
  pub text : PrintsEvents (status ≡ SayFault) k events said said'
  -- at status 0 they are all
  pub whole : status ≡ Ok → k ≡ length events
  -- the audit grew by no more than `most` entries, those that they make, and those of one call more
  pub grew : GrewWithin most t desc text.whole k events then now
