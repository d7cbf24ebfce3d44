-- A database that was looked at for a statement.
use Rattle.std.specs.Prelude.{ℕ, ◌≡◌, ◌/◌, List, [], Option, length, IsTrue}
use Rattle.dms_site.specs.declared.site.Site.{Ghosts}
use Rattle.dms_site.specs.Files.{Files}
use Rattle.dms_history.specs.Entries.{Kind}
use Rattle.dms_history.specs.declared.event.Row.{Row}
use Rattle.dms_audrec.specs.Reading.{rows_at}
use Rattle.dms_restore.specs.Views.{view_of, LogStarts}
use Rattle.dms_statements.specs.declared.statement.NamedRow.{NamedRow}
use Rattle.dms_opening.specs.declared.plan.OpeningPlan.{OpeningPlan}
use Rattle.dms_opening.specs.Doing.{kind_asked}
use Rattle.dms_opening.specs.Openings.{IsTrailFound}
use Rattle.dms_opening.specs.Whole.{StaysRead}
use Rattle.dms_recovery.specs.declared.looking.PlannedRestore.{PlannedRestore}
use Rattle.dms_recovery.specs.declared.reconstructing.PlannedRows.{PlannedRows}
use Rattle.dms_recovery.specs.declared.wanted.Wanted.{Wanted}
use Rattle.dms_recovery.specs.declared.wanted.Wanted.TheVariants.{Rollback, Rebuild, Reconstruct}
use Rattle.dms_recovery.specs.Claims.{PlansWanted}
use Rattle.dms_recovery.specs.Planned.{AreNamed, AreWithin}
use Rattle.dms_recovery.specs.Reconstructing.{NamesRows}
use Rattle.dms_recovery.specs.Wanting.{asked_with}

-- ---- how many structure files it needs

-- What is wanted of these files needs the files of no more than s structures: of those that the description names at the point that it goes to, and at that of
-- the restore that goes first, and of one behind them only where its file has a block there.
abbrev pub GoesWithin : ℕ → Wanted → Files → Type 0
GoesWithin s wanted files = (total first : ℕ) (rows : List Row) (before : Option OpeningPlan) (own : OpeningPlan) → IsTrailFound total first files → PlansWanted total first files wanted rows before own → AreNamed before own → AreWithin s before own

-- ---- what was looked at

-- the rows whose bytes these are, as the audit has them
abbrev pub rows_in : List ℕ → List Row
rows_in list = rows_at (length list / 8) list

-- A restore of this kind is what is wanted, with these rows; a rollback has none.
pub record IsMeant (kind : Kind) (wanted : Wanted) (rows : List Row) : Type 0 where
  pub plain : (n : ℕ) → wanted ≡ Rollback n → rows ≡ []
  pub is : (last : Option ℕ) → kind ≡ kind_asked (asked_with last wanted) rows

module _ {S : Type 0} (g : Ghosts S) where
  -- The database of a site was looked at: scanning refuses nothing in its files, nor is what is wanted of them refused, and this is planned of it. Only reads
  -- were made since.
  pub record IsLookedFor (from : S) (wanted : Wanted) (rows : List Row) (p : PlannedRestore S) : Type 0 where
    pub starts : IsTrue g.tells → LogStarts (view_of g p.log)
    pub trail : IsTrue g.tells → IsTrailFound p.log.end.total p.log.first (g.files from)
    pub plans : IsTrue g.tells → PlansWanted p.log.end.total p.log.first (g.files from) wanted rows p.before p.own
    pub stays : StaysRead g from p.log.site
    pub clean : g.disk_faults p.log.site ≡ g.disk_faults from

  -- So it was for a reconstruction, and these are the rows that are named.
  pub record AreLookedFor (from : S) (d : ℕ) (named : List NamedRow) (p : PlannedRows S) : Type 0 where
    pub looked : IsLookedFor from (Reconstruct d) (rows_in p.list) p.planned
    pub names : IsTrue g.tells → NamesRows (g.files from) named (rows_in p.list)

  -- of whatever a database was looked at for, from the site on that it was then
  abbrev pub Since : Kind → PlannedRestore S → (Wanted → List Row → S → Type 0) → Type 0
  Since kind p P = (wanted : Wanted) (rows : List Row) (from : S) → IsMeant kind wanted rows → IsLookedFor from wanted rows p → P wanted rows from

  -- so, whichever way the restore goes
  abbrev pub SinceLook : PlannedRestore S → (Wanted → List Row → S → Type 0) → Type 0
  SinceLook p P = (wanted : Wanted) (rows : List Row) (from : S) → IsLookedFor from wanted rows p → P wanted rows from

  -- of each rollback
  abbrev pub SinceRoll : PlannedRestore S → (ℕ → S → Type 0) → Type 0
  SinceRoll p P = (n : ℕ) (from : S) → IsLookedFor from (Rollback n) [] p → P n from

  -- of each rebuild from dump d
  abbrev pub SinceRebuild : ℕ → PlannedRestore S → (Option ℕ → S → Type 0) → Type 0
  SinceRebuild d p P = (chosen : Option ℕ) (from : S) → IsLookedFor from (Rebuild d chosen) [] p → P chosen from

  -- of each reconstruction from dump d
  abbrev pub SinceRows : ℕ → PlannedRows S → (List NamedRow → S → Type 0) → Type 0
  SinceRows d p P = (named : List NamedRow) (from : S) → AreLookedFor from d named p → P named from
