-- What an opening does, and what it needs, before its first write.
use Rattle.std.specs.Prelude.{ℕ, ◌<◌, ◌≤◌, ◌≡◌, ◌⊎◌, List, [], length, Some}
use Rattle.dms_site.specs.declared.site.Site.{Ghosts}
use Rattle.dms_site.specs.Files.{Files}
use Rattle.dms_history.specs.Pick.{count_at}
use Rattle.dms_history.specs.Entries.{Entry}
use Rattle.dms_history.specs.EntryEvents.{history_of, next_of}
use Rattle.dms_history.specs.SchemaAt.{schema_at}
use Rattle.dms_history.specs.declared.event.Row.{Row}
use Rattle.dms_audfile.specs.AuditTrail.{IsFound}
use Rattle.dms_audfile.specs.Ends.{Grown}
use Rattle.dms_audfile.specs.Header.{tag_said}
use Rattle.dms_audfile.specs.TrailEntries.{trail_entries}
use Rattle.dms_audfile.specs.declared.fault.AudFault.TheVariants as aud
use Rattle.dms_audfile.specs.declared.place.EntryPlace.{EntryPlace}
use Rattle.dms_opening.specs.declared.asked.Asked.{Asked}
use Rattle.dms_opening.specs.declared.asked.Asked.TheVariants.{HaltLoad}
use Rattle.dms_opening.specs.declared.choosing.OpenFault.{OpenFault}
use Rattle.dms_opening.specs.declared.dump_looks.DumpFound.{DumpFound}
use Rattle.dms_opening.specs.DumpLooks.{IsFoundAs, dump_begun, dump_asked}
use Rattle.dms_opening.specs.declared.choosing.OpenFault.TheVariants.{Audit}
use Rattle.dms_opening.specs.declared.choosing.Choice.{Choice}
use Rattle.dms_restore.specs.declared.trace.TrailTrace.{TrailTrace}
use Rattle.dms_opening.specs.Choices.{RefusesAsked, Chooses, judge_files}
use Rattle.dms_restore.specs.Counts.{count_of, AllAtMost}
use Rattle.dms_restore.specs.Scanned.{AreEntryPlaces}
use Rattle.dms_restore.specs.Table.{AreBlocks, AreRuns, IsPlan}
use Rattle.dms_restore.specs.Traces.{StaysTraced}
use Rattle.dms_opening.specs.declared.plan.OpeningPlan.{OpeningPlan}
use Rattle.dms_opening.specs.declared.scanning.Scanned.{Scanned}

-- The trail that begins with file `first` was scanned: these are the places of its entries, and this is what they tell, however it grows.
pub record IsTrailRead (total first : ℕ) (files : Files) (places : List EntryPlace) (t : TrailTrace) : Type 0 where
  pub found : IsFound files first places
  pub placed : AreEntryPlaces total first files places
  pub stays : StaysTraced total first files t

-- So it was, and this is its tag.
pub record IsTaggedRead (total tag first : ℕ) (files : Files) (places : List EntryPlace) (t : TrailTrace) : Type 0 where
  pub read : IsTrailRead total first files places t
  pub tag_is : tag_said (files first) ≡ tag

-- so was a trail that was scanned
abbrev pub IsScanRead : {S : Type 0} → Ghosts S → Scanned S → Type 0
IsScanRead g s = IsTaggedRead s.log.end.total s.log.end.tag s.log.first (g.files s.log.site) s.places.items s.trace

-- So it is, and this is what the dump of the restore that is pending is found to be, and the one that is asked for.
pub record AreFoundFor (total first : ℕ) (files : Files) (places : List EntryPlace) (t : TrailTrace) (asked : Asked) (begun look : DumpFound) : Type 0 where
  pub read : IsTrailRead total first files places t
  pub begun_is : IsFoundAs (tag_said (files first)) (dump_begun files (history_of (trail_entries total first files)).pending) begun
  pub look_is : IsFoundAs (tag_said (files first)) (dump_asked files asked) look

-- the files of dumps are the same
abbrev pub SameDumps : Files → Files → Type 0
SameDumps old new = (g : ℕ) → 20000 < g → g ≤ 30000 → new g ≡ old g

-- Nothing is refused of what is asked, and this is what is done. For the restore that begins or goes on, the table is what it writes, however the trail
-- grows while dumps stay. The counts, the description and the next number are those at its point.
pub record PlansFor (total first : ℕ) (files : Files) (asked : Asked) (rows : List Row) (plan : OpeningPlan) : Type 0 where
  pub chooses : Chooses (judge_files total first files asked) (history_of (trail_entries total first files)) asked rows plan.choice
  pub plan_is : (new : Files) → Grown total first files new → SameDumps files new → IsPlan chooses.restore new plan.table
  pub counts_are : (f : ℕ) → count_of plan.counts.items f ≡ count_at chooses.restore.entries chooses.restore.point f
  pub schema_is : schema_at (trail_entries total first files) plan.choice.point ≡ Some plan.schema.items
  pub next_is : next_of (trail_entries total first files) ≡ plan.next

-- so it is for an opening
abbrev pub Plans : ℕ → ℕ → Files → OpeningPlan → Type 0
Plans total first files plan = PlansFor total first files HaltLoad [] plan

-- What is written are blocks of structure files, the counts are those of 200 files, none with more blocks than may be, and the description has
-- from 1 to 65,535 bytes.
pub record FitsOpening (plan : OpeningPlan) : Type 0 where
  pub runs : AreRuns plan.table.runs.items
  pub blocks : AreBlocks plan.table.told.items
  pub size : length plan.counts.items ≡ 200
  pub small : AllAtMost plan.counts.items
  pub some : 1 ≤ length plan.schema.items
  pub few : length plan.schema.items ≤ 65535

-- no byte, or more than a description can have
abbrev pub CannotDescribe : List ℕ → Type 0
CannotDescribe bytes = (length bytes ≡ 0) ⊎ (65535 < length bytes)

-- so is the Schema at a point
pub record HasNoDescriptionAt (entries : List Entry) (point : ℕ) : Type 0 where
  pub bytes : List ℕ
  pub schema_is : schema_at entries point ≡ Some bytes
  pub none : CannotDescribe bytes

-- Nothing is refused of what is asked, but there is no description at the point of the restore.
pub record HasNoDescription (total first : ℕ) (files : Files) (asked : Asked) : Type 0 where
  pub choice : Choice
  pub chooses : (rows : List Row) → Chooses (judge_files total first files asked) (history_of (trail_entries total first files)) asked rows choice
  pub at : HasNoDescriptionAt (trail_entries total first files) choice.point

-- a call of the site failed, or memory was refused
abbrev pub IsPlainFault : OpenFault → Type 0
IsPlainFault fault = (fault ≡ Audit aud.Disk) ⊎ (fault ≡ Audit aud.Memory)

-- A call of the site failed, memory was refused, what is asked is refused, or there is no description.
abbrev pub RefusesFor : ℕ → ℕ → Files → Asked → OpenFault → Type 0
RefusesFor total first files asked fault =
    (fault ≡ Audit aud.Disk) ⊎ (RefusesAsked first (judge_files total first files asked) fault ⊎ ((fault ≡ Audit (aud.Damaged first 0)) × HasNoDescription total first files asked))

-- so it is for an opening
abbrev pub RefusesPlan : ℕ → ℕ → Files → OpenFault → Type 0
RefusesPlan total first files fault = RefusesFor total first files HaltLoad fault
