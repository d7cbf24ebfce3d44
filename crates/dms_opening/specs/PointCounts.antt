-- How many blocks each structure file has at a point, and where that can't be known.
use Rattle.std.specs.Prelude.{ℕ, ◌/◌, ◌<◌, ◌≤◌, ◌≡◌, ◌⊎◌, Bool, false, List, ◌∷◌, ◌++◌, length, IsTrue}
use Rattle.dms_site.specs.Files.{Files, range}
use Rattle.dms_audrec.specs.Reading.{counts_at}
use Rattle.dms_audrec.specs.Spelling.{counts_rise}
use Rattle.dms_audfile.specs.declared.fault.AudFault.{AudFault}
use Rattle.dms_audfile.specs.declared.fault.AudFault.TheVariants.{Damaged}
use Rattle.dms_restore.specs.declared.live.ImageAt.{ImageAt}
use Rattle.dms_restore.specs.declared.live.ControlAt.{ControlAt}
use Rattle.dms_restore.specs.declared.live.LiveEntry.{LiveEntry}
use Rattle.dms_restore.specs.declared.live.LiveEntry.TheVariants.{Changed, Ranged, Quiet, Controlled}

-- The list of a Control is longer than a block of the audit, or stands behind the last one; or it isn't there whole, or its counts aren't
-- those of structure files, rising.
abbrev pub HasNoCounts : Bool → Files → ControlAt → Type 0
HasNoCounts tells files c =
    (4096 < c.size) ⊎ ((549755813888 < c.at) ⊎ (IsTrue tells → (length (range c.at c.size (files c.audit)) < c.size) ⊎ (counts_rise 30001 (counts_at (c.size / 8) (range c.at c.size (files c.audit))) ≡ false)))

-- the block isn't one of a structure file
abbrev pub HasNoCount : ImageAt → Type 0
HasNoCount i = (i.file ≤ 30000) ⊎ ((30200 < i.file) ⊎ (2097152 ≤ i.block))

-- the entry has no count, and the fault names its audit file
abbrev pub IsNoCount : Bool → Files → LiveEntry → AudFault → Type 0
IsNoCount tells files (Changed i) fault = (fault ≡ Damaged i.audit 0) × HasNoCount i
IsNoCount tells files (Ranged r) fault = ⊥
IsNoCount tells files (Quiet n) fault = ⊥
IsNoCount tells files (Controlled c) fault = (fault ≡ Damaged c.audit 0) × HasNoCounts tells files c

-- so it is of one of them
pub record IsNoCountAmong (tells : Bool) (files : Files) (live : List LiveEntry) (fault : AudFault) : Type 0 where
  pub entry : LiveEntry
  pub before : List LiveEntry
  pub after : List LiveEntry
  pub among : live ≡ before ++ entry ∷ after
  pub is : IsNoCount tells files entry fault
