-- What is shipped: the head of a stream, and where the trail ends.
use Rattle.std.specs.Prelude.{ℕ, ◌≡◌, List}
use Rattle.dms_site.specs.Files.{Files}
use Rattle.dms_desc.specs.Shape.{Described}
use Rattle.dms_desc_bytes.specs.Spelling.{spelling}
use Rattle.dms_descfile.specs.DescriptionFile.{IsSealed, IsUnsealed}
use Rattle.dms_audfile.specs.declared.fault.AudFault.{AudFault}
use Rattle.dms_audfile.specs.declared.fault.AudFault.TheVariants.{NoDatabase, Disk, Full, Missing, Unsealed, Damaged, Foreign, Memory}
use Rattle.dms_stream.specs.Stream.{head_bytes}
use Rattle.dms_remote.specs.Shipping.{IsShipped}

-- a file is a sealed description of these bytes
pub record SaysDescription (file bytes : List ℕ) : Type 0 where
  pub desc : Described
  pub described : IsSealed file desc
  pub is : bytes ≡ spelling desc

-- why it gives no bytes: it is none; a failure of the disk or want of memory says nothing
abbrev pub GivesNone : List ℕ → AudFault → Type 0
GivesNone file NoDatabase = IsUnsealed file
GivesNone file Disk = Unit {0}
GivesNone file (Full k) = ⊥
GivesNone file (Missing k) = ⊥
GivesNone file (Unsealed k) = ⊥
GivesNone file (Damaged f b) = ⊥
GivesNone file (Foreign k) = ⊥
GivesNone file Memory = Unit {0}

-- This is the head of the stream from audit file k on, and the trail that is shipped ends behind that block.
pub record HasShipment (k : ℕ) (files : Files) (head : List ℕ) (total last count : ℕ) : Type 0 where
  pub tag : ℕ
  pub description : List ℕ
  pub ships : IsShipped k files (record { tag = tag; total = total; description = description }) last count
  pub is : head ≡ head_bytes (record { tag = tag; total = total; description = description })
