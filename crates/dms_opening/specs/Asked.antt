-- The first refusal of what is asked of a database, before anything is written.
use Rattle.std.specs.Prelude.{ℕ, ◌+◌, max, nat_lt, if◌then◌else◌, List, Option, Some, None}
use Rattle.dms_history.specs.Events.{Event, How, halt_load, back_out, roll_back, rebuild, reconstruct}
use Rattle.dms_history.specs.History.{Pending, History, last_point}
use Rattle.dms_history.specs.Judge.{PointRefusal, audit_missing, judge_point}
use Rattle.dms_opening.specs.declared.asked.DumpLook.{DumpLook}
use Rattle.dms_opening.specs.declared.asked.DumpLook.TheVariants.{Missing, Unsealed, Damaged, Foreign, Sealed}
use Rattle.dms_opening.specs.declared.asked.Asked.{Asked}
use Rattle.dms_opening.specs.declared.asked.Asked.TheVariants.{HaltLoad, Rollback, Rebuild, Reconstruct}
use Rattle.dms_opening.specs.declared.asked.Refusal.{Refusal}
use Rattle.dms_opening.specs.declared.asked.Refusal.TheVariants as answered
use Rattle.dms_opening.specs.Judged.{refusal_of}

-- point n can't be had; dump d isn't present, isn't sealed, isn't in its grammar, or has another tag than the trail; the audit file of a dump stands
-- before the trail; the end p of dump d, or its point where that is above its end, is above the chosen one
pub data Refused : Type 0 where
  at_point : ℕ → PointRefusal → Refused
  dump_missing : ℕ → Refused
  dump_unsealed : ℕ → Refused
  dump_damaged : ℕ → Refused
  dump_foreign : ℕ → Refused
  audit_before : Refused
  dump_later : ℕ → ℕ → Refused

abbrev pub refused_at : ℕ → Option PointRefusal → Option Refused
refused_at n None = None
refused_at n (Some why) = Some (at_point n why)

-- the first one, else the other
abbrev pub or_next : Option Refused → Option Refused → Option Refused
or_next None other = other
or_next (Some r) other = Some r

-- ---- a dump

-- The refusal of the file of dump d, or none; the trail begins with file `first`.
abbrev pub judge_file : ℕ → ℕ → DumpLook → Option Refused
judge_file first d Missing = Some (dump_missing d)
judge_file first d Unsealed = Some (dump_unsealed d)
judge_file first d Damaged = Some (dump_damaged d)
judge_file first d Foreign = Some (dump_foreign d)
judge_file first d (Sealed point end audit) = if nat_lt (10000 + audit) first then Some audit_before else None

abbrev pub is_later : ℕ → ℕ → ℕ → Option Refused
is_later d point m = if nat_lt m point then Some (dump_later d point) else None

-- That of its point and of its end: one of them can't be had, or is above the chosen point m.
abbrev pub judge_dump_point : List Event → ℕ → ℕ → DumpLook → ℕ → Option Refused
judge_dump_point live next d Missing m = None
judge_dump_point live next d Unsealed m = None
judge_dump_point live next d Damaged m = None
judge_dump_point live next d Foreign m = None
judge_dump_point live next d (Sealed point end audit) m = or_next (refused_at point (judge_point live next point)) (or_next (refused_at end (judge_point live next end)) (is_later d (max point end) m))

abbrev pub judge_dump : ℕ → List Event → ℕ → ℕ → DumpLook → ℕ → Option Refused
judge_dump first live next d look m = or_next (judge_file first d look) (judge_dump_point live next d look m)

-- ---- what is asked

-- The last point, which an opening and a reconstruction go to.
abbrev pub judge_last_point : ℕ → List Event → Option ℕ → Option Refused
judge_last_point next live None = Some (at_point 0 audit_missing)
judge_last_point next live (Some n) = refused_at n (judge_point live next n)

abbrev pub number_or : Option ℕ → ℕ
number_or None = 0
number_or (Some n) = n

-- A rebuild judges its chosen point wholly before its dump; a reconstruction judges its dump by the last point.
abbrev pub judge_own : ℕ → List Event → ℕ → Option ℕ → Asked → DumpLook → Option Refused
judge_own first live next last HaltLoad look = judge_last_point next live last
judge_own first live next last (Rollback n) look = refused_at n (judge_point live next n)
judge_own first live next last (Rebuild d n) look = or_next (refused_at n (judge_point live next n)) (judge_dump first live next d look n)
judge_own first live next last (Reconstruct d) look = or_next (judge_last_point next live last) (judge_dump first live next d look (number_or last))

-- A restore by a dump that is pending: the file of the dump, its point, the point of the dump.
abbrev pub judge_by_dump : ℕ → ℕ → ℕ → DumpLook → List Event → ℕ → Option Refused
judge_by_dump first next d look live m = or_next (judge_file first d look) (or_next (refused_at m (judge_point live next m)) (judge_dump_point live next d look m))

-- A restore that is pending, over the live entries before its Begin.
abbrev pub judge_restore : ℕ → ℕ → How → DumpLook → List Event → ℕ → Option Refused
judge_restore first next halt_load look live m = refused_at m (judge_point live next m)
judge_restore first next back_out look live m = refused_at m (judge_point live next m)
judge_restore first next roll_back look live m = refused_at m (judge_point live next m)
judge_restore first next (rebuild d) look live m = judge_by_dump first next d look live m
judge_restore first next (reconstruct d named) look live m = judge_by_dump first next d look live m

abbrev pub judge_begun : ℕ → ℕ → Option Pending → DumpLook → Option Refused
judge_begun first next None look = None
judge_begun first next (Some p) look = judge_restore first next p.how look p.entries p.point

-- The first refusal, or none: but for a rebuild that of the restore that is pending, then that of what is asked. `begun` is what the dump of the pending
-- restore is found to be, `look` that of the one that is asked for.
abbrev pub judge : ℕ → History → ℕ → Asked → DumpLook → DumpLook → Option Refused
judge first h next HaltLoad begun look = or_next (judge_begun first next h.pending begun) (judge_own first h.live next (last_point h) HaltLoad look)
judge first h next (Rollback n) begun look = or_next (judge_begun first next h.pending begun) (judge_own first h.live next (last_point h) (Rollback n) look)
judge first h next (Rebuild d n) begun look = judge_own first h.live next (last_point h) (Rebuild d n) look
judge first h next (Reconstruct d) begun look = or_next (judge_begun first next h.pending begun) (judge_own first h.live next (last_point h) (Reconstruct d) look)

-- ---- as it is answered

abbrev pub refused_by : Refusal → Refused
refused_by (answered.Point n fault) = at_point n (refusal_of fault)
refused_by (answered.DumpMissing d) = dump_missing d
refused_by (answered.DumpUnsealed d) = dump_unsealed d
refused_by (answered.DumpDamaged d) = dump_damaged d
refused_by (answered.DumpForeign d) = dump_foreign d
refused_by answered.AuditBefore = audit_before
refused_by (answered.DumpLater d p) = dump_later d p

abbrev pub refused_seen : Option Refusal → Option Refused
refused_seen None = None
refused_seen (Some r) = Some (refused_by r)
