-- How far the audit trail of a new database is laid.
use Rattle.std.specs.Prelude.{ℕ, zero, suc, ◌+◌, ◌*◌, ◌<◌, ◌≤◌, ◌≡◌, Bool, IsTrue, List, [], ◌∷◌, ◌++◌, take, drop}
use Rattle.dms_moments.specs.Moments.{Clock}
use Rattle.dms_site.specs.Files.{Files, Left}
use Rattle.dms_history.specs.Entries.{Entry, schema_part}
use Rattle.dms_audfile.specs.BlockLaws.{AreNoBegins}
use Rattle.dms_audfile.specs.Trail.{trail_from}
use Rattle.dms_audfile.specs.TrailEntries.{trail_entries}
use Rattle.dms_audfile.specs.Ends.{EndsAt, AllHoldAnEntry}
use Rattle.dms_audfile.specs.declared.audit_end.AuditEnd.{AuditEnd}
use Rattle.dms_creation.specs.Clearing.{Cleared, ApartStay}

-- the first n of so many parts of a description
abbrev pub parts_upto : ℕ → ℕ → List ℕ → List Entry
parts_upto all zero bytes = []
parts_upto all (suc n) bytes = parts_upto all n bytes ++ schema_part (n + 1) all (take 4000 (drop (4000 * n) bytes)) ∷ []

-- These entries of the new trail are sealed or wait, each sealed block is in its grammar and holds one, no audit file is present
-- behind the one that is written, no dump and no structure file is present, and the files that are no audit file, dump or structure
-- file are as in `old`.
pub record Laid (end : AuditEnd) (entries : List Entry) (old files : Files) (clock : Clock Left) : Type 0 where
  pub waiting : List Entry
  pub ends : EndsAt end 10001 waiting files clock
  pub plain : AreNoBegins waiting
  pub all : trail_entries end.total 10001 files ++ waiting ≡ entries
  pub filled : AllHoldAnEntry (trail_from 10000 end.total 10001 files)
  pub behind : (g : ℕ) → end.file < g → g ≤ 20000 → files g ≡ []
  pub dumps : Cleared 20001 29999 files
  pub structures : Cleared 30001 30200 files
  pub apart : ApartStay old files

-- whatever entries are laid so, where the site tells its files
abbrev pub AtLaid : AuditEnd → Bool → Files → Clock Left → (List Entry → Files → Type 0) → Type 0
AtLaid end tells files clock P = IsTrue tells → (entries : List Entry) (old : Files) → Laid end entries old files clock → P entries old
