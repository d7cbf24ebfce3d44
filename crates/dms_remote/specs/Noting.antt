-- The entries of a block are noted, one after another.
use Rattle.std.specs.Prelude.{ℕ, ◌≡◌, List, [], ◌∷◌, ◌++◌, map, length, Some}
use Rattle.dms_site.specs.Files.{Files}
use Rattle.dms_history.specs.Entries.{Entry}
use Rattle.dms_audfile.specs.AuditTrail.{entry_from, AreThere}
use Rattle.dms_audfile.specs.Scanning.{Placed, place_in, entry_in}
use Rattle.dms_audfile.specs.declared.place.EntryPlace.{EntryPlace}
use Rattle.dms_restore.specs.Scanned.{AreInAudit}
use Rattle.dms_restore.specs.Traces.{IsTraceOf, TracesNext}
use Rattle.dms_restore.specs.declared.trace.TrailTrace.{TrailTrace}

-- the entry was added that begins at the place in this block, where one does
abbrev pub TracesSaid : List ℕ → EntryPlace → ℕ → TrailTrace → TrailTrace → Type 0
TracesSaid block place at old new = (e : Entry) → entry_from place.offset block ≡ Some e → TracesNext place at e old new

-- each of these entries begins at its place in this block
abbrev pub AreSaid : List ℕ → List Placed → Type 0
AreSaid block [] = Unit {0}
AreSaid block (p ∷ ps) = (entry_from p.place.offset block ≡ Some p.entry) × AreSaid block ps

-- Whatever entries there are before it, so many, the entries were added that begin at these places in this block.
abbrev pub NotesAll : List ℕ → List EntryPlace → ℕ → TrailTrace → TrailTrace → Type 0
NotesAll block places at old new = (files : Files) (entries : List Entry) (placed : List Placed) → places ≡ map place_in placed → AreSaid block placed → AreThere files placed → AreInAudit places
    → length entries ≡ at → IsTraceOf files entries old → IsTraceOf files (entries ++ map entry_in placed) new
