-- Why a point can't be had, as it is answered.
use Rattle.std.specs.Prelude.{ℕ, nat_le, ◌&&◌, Bool, false, List, Option, Some, None}
use Rattle.dms_history.specs.Events.{Event, change, quiet, control, begin}
use Rattle.dms_history.specs.Lists.{has, until_first}
use Rattle.dms_history.specs.Places.{is_described}
use Rattle.dms_history.specs.Ranges.{Logged, event, range, is_point_logged}
use Rattle.dms_history.specs.Judge.{PointRefusal, no_such_point, audit_missing, voided, is_live}
use Rattle.dms_opening.specs.declared.judging.PointFault.{PointFault}
use Rattle.dms_opening.specs.declared.judging.PointFault.TheVariants.{NoSuchPoint, AuditMissing, Voided}

abbrev pub refusal_of : PointFault → PointRefusal
refusal_of NoSuchPoint = no_such_point
refusal_of AuditMissing = audit_missing
refusal_of Voided = voided

abbrev pub refusal_seen : Option PointFault → Option PointRefusal
refusal_seen None = None
refusal_seen (Some fault) = Some (refusal_of fault)

abbrev pub is_described_logged : Logged → Bool
is_described_logged (event e) = is_described e
is_described_logged (range f b place bytes) = false

-- The point has a place among live entries, and a Control directly after a whole Schema is at or before it.
abbrev pub is_live_logged : List Logged → ℕ → Bool
is_live_logged live n = has (is_point_logged n) live && has is_described_logged (until_first (is_point_logged n) live)

-- the entry is a Quiet or a Control of a live point, not above n
abbrev pub is_low_logged : List Logged → ℕ → Logged → Bool
is_low_logged live n (event (change f b before after)) = false
is_low_logged live n (event (quiet m)) = nat_le m n && is_live_logged live m
is_low_logged live n (event (control m next counts described)) = nat_le m n && is_live_logged live m
is_low_logged live n (event (begin m how)) = false
is_low_logged live n (range f b place bytes) = false

-- the event is a Quiet or a Control of a live point, not above n
abbrev pub is_low : List Event → ℕ → Event → Bool
is_low live n (change f b before after) = false
is_low live n (quiet m) = nat_le m n && is_live live m
is_low live n (control m next counts described) = nat_le m n && is_live live m
is_low live n (begin m how) = false
