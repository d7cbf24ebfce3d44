-- What is done for what is asked, and why it is refused.
use Rattle.std.specs.Prelude.{ℕ, ◌-◌, ◌≡◌, ◌⊎◌, List, Option, Some, None}
use Rattle.dms_site.specs.Files.{Files}
use Rattle.dms_history.specs.History.{Pending, History}
use Rattle.dms_history.specs.Judge.{no_such_point, audit_missing, voided}
use Rattle.dms_history.specs.Entries.{Entry}
use Rattle.dms_history.specs.EntryEvents.{history_of, next_of}
use Rattle.dms_history.specs.declared.event.Row.{Row}
use Rattle.dms_audfile.specs.declared.fault.AudFault.TheVariants as aud
use Rattle.dms_audfile.specs.Header.{tag_said}
use Rattle.dms_audfile.specs.TrailEntries.{trail_entries}
use Rattle.dms_opening.specs.declared.asked.Asked.{Asked}
use Rattle.dms_opening.specs.declared.choosing.OpenFault.{OpenFault}
use Rattle.dms_opening.specs.declared.choosing.OpenFault.TheVariants.{Audit, NoSuchPoint, Voided, DumpMissing, DumpUnsealed, DumpDamaged, DumpForeign, DumpLater}
use Rattle.dms_opening.specs.declared.choosing.Choice.{Choice}
use Rattle.dms_opening.specs.Asked.{Refused, at_point, dump_missing, dump_unsealed, dump_damaged, dump_foreign, audit_before, dump_later, judge}
use Rattle.dms_opening.specs.Doing.{IsDone}
use Rattle.dms_opening.specs.DumpLooks.{look_of, dump_begun, dump_asked}

-- The fault of a refusal. Where a point is below each live one, or the audit file of a dump stands before the trail's first one, the audit file
-- before that is missing.
abbrev pub fault_of : ℕ → Refused → OpenFault
fault_of first (at_point n no_such_point) = NoSuchPoint n
fault_of first (at_point n audit_missing) = Audit (aud.Missing (first - 10001))
fault_of first (at_point n voided) = Voided n
fault_of first (dump_missing d) = DumpMissing d
fault_of first (dump_unsealed d) = DumpUnsealed d
fault_of first (dump_damaged d) = DumpDamaged d
fault_of first (dump_foreign d) = DumpForeign d
fault_of first audit_before = Audit (aud.Missing (first - 10001))
fault_of first (dump_later d p) = DumpLater d p

-- there is a first refusal, and this is its fault
pub record RefusesBy (first : ℕ) (refused : Option Refused) (fault : OpenFault) : Type 0 where
  pub refusal : Refused
  pub is : refused ≡ Some refusal
  pub answered : fault ≡ fault_of first refusal

-- memory was refused, or what is asked is refused
abbrev pub RefusesAsked : ℕ → Option Refused → OpenFault → Type 0
RefusesAsked first refused fault = (fault ≡ Audit aud.Memory) ⊎ RefusesBy first refused fault

-- Nothing is refused, and this is what is done.
pub record Chooses (refused : Option Refused) (h : History) (asked : Asked) (rows : List Row) (c : Choice) : Type 0 where
  pub none : refused ≡ None
  pub restore : Pending
  pub is : IsDone h asked rows c.begins c.point restore

-- ---- of files

-- the first refusal of what is asked of files with these entries, whose trail begins with file `first`
abbrev pub judge_entries : ℕ → List Entry → Files → Asked → Option Refused
judge_entries first entries files asked =
    let tag = tag_said (files first) in
    judge first (history_of entries) (next_of entries) asked (look_of tag (dump_begun files (history_of entries).pending)) (look_of tag (dump_asked files asked))

-- so it is of the files of a trail
abbrev pub judge_files : ℕ → ℕ → Files → Asked → Option Refused
judge_files total first files asked = judge_entries first (trail_entries total first files) files asked
