-- The command `initialize`: what it says, and its promises.
use Rattle.std.specs.Prelude.{◌≡◌, ◌≢◌, ℕ, List, [], ◌∷◌, ◌++◌, codes, slice_index, ⊤, IsTrue}
use Rattle.dms_moments.specs.Moments.{Steps}
use Rattle.dms_desc.specs.Shape.{Described}
use Rattle.dms_descfile.specs.DescriptionFile.{IsSealed, IsUnsealed}
use Rattle.dms_creation.specs.Creation.{IsMade, InitializesSite}
use Rattle.dms_site.specs.declared.site.Site.{Ghosts}
use Rattle.dms_site.specs.Files.{Only, Same}
use Rattle.dms_status.specs.declared.status.NeedFault.{NeedFault}
use Rattle.dms_status.specs.declared.status.NeedFault.TheVariants.{NoDescription, AuditMissing, AuditUnsealed, AuditForeign, NoSuchPoint, Voided, DumpMissing, DumpUnsealed, DumpForeign, DumpLater, NoSuchRow}
use Rattle.dms_status.specs.declared.status.Status.{Status}
use Rattle.dms_status.specs.declared.status.Status.TheVariants.{Ok, BadWords, SchemaRefused, NoDatabase, Needed, InputFault, Memory, Limit, Damaged, SayFault, DiskFault, Exists, BadStatement, Reorganization, BadStream, Diverged, Flaw}
use Rattle.dms_top.specs.Compiling.{IsBefore}
use Rattle.dms_status.specs.Saying.{IsSpoken, SaysLine}
use Rattle.dms_newdb.specs.Saying.{OfSealed}
use Rattle.dms_newdb.specs.State.{BecomesNewSite, StandsNew}

-- what `initialize` prints
unfoldable pub initialized_text : List ℕ
initialized_text = codes "INITIALIZED AT POINT 0" ++ 10 ∷ []

abbrev pub IsNoDescription : NeedFault → Type 0
IsNoDescription NoDescription = ⊤
IsNoDescription (AuditMissing k) = ⊥
IsNoDescription (AuditUnsealed k) = ⊥
IsNoDescription (AuditForeign k) = ⊥
IsNoDescription (NoSuchPoint n) = ⊥
IsNoDescription (Voided n) = ⊥
IsNoDescription (DumpMissing d) = ⊥
IsNoDescription (DumpUnsealed d) = ⊥
IsNoDescription (DumpForeign d) = ⊥
IsNoDescription (DumpLater d n) = ⊥
IsNoDescription (NoSuchRow name r) = ⊥

-- the statuses of `initialize`
abbrev pub IsOfCreation : Status → Type 0
IsOfCreation Ok = ⊤
IsOfCreation BadWords = ⊥
IsOfCreation (SchemaRefused f) = ⊥
IsOfCreation NoDatabase = ⊥
IsOfCreation (Needed n) = IsNoDescription n
IsOfCreation InputFault = ⊥
IsOfCreation Memory = ⊤
IsOfCreation (Limit l) = ⊥
IsOfCreation (Damaged f b) = ⊥
IsOfCreation SayFault = ⊤
IsOfCreation DiskFault = ⊤
IsOfCreation Exists = ⊤
IsOfCreation (BadStatement p) = ⊥
IsOfCreation (Reorganization why) = ⊥
IsOfCreation (BadStream place) = ⊥
IsOfCreation (Diverged file block) = ⊥
IsOfCreation (Flaw flaw) = ⊥

-- What `initialize` with this tag promises of a site before and after it, and of the status.
pub record InitializeDoes {S : Type 0} (g : Ghosts S) (tag : ℕ) (old new : S) (status : Status) : Type 0 where
  -- only the statuses 0, 4 with no description, 5, 7, 10 and 11 come
  pub statuses : IsOfCreation status
  -- status 4 comes only where file 1 is no sealed description
  pub no_description : status ≡ Needed NoDescription → IsTrue g.tells → IsUnsealed (g.files old 1)
  -- the statuses 0 and 10 come only where it is one
  pub described : IsSpoken status → IsTrue g.tells → (d : Described) × IsSealed (g.files old 1) d
  -- status 11 comes only where the gate of the database is open
  pub exists : status ≡ Exists → IsTrue g.tells → slice_index (g.files old 1) 1 ≡ 1
  -- and file 1 is a sealed description
  pub exists_described : status ≡ Exists → IsTrue g.tells → (d : Described) × IsSealed (g.files old 1) d
  -- the statuses 0 and 10 come only where that gate isn't open
  pub shut : IsSpoken status → IsTrue g.tells → slice_index (g.files old 1) 1 ≢ 1
  -- of a sealed description a stop leaves what it could leave at entry, or there no database, or exactly the new one
  pub every_moment : IsTrue g.tells → OfSealed (g.files old) (λ d. InitializesSite g tag d old new)
  -- a stop leaves what it could leave at entry, or no database, or files that stand for point 0 and the empty database, with 1 for the next point and that tag
  pub every_moment_stands : IsTrue g.tells → OfSealed (g.files old) (λ d. BecomesNewSite g tag d old new)
  -- at the statuses that come before a file is changed a stop leaves what it could leave before
  pub stays : IsBefore status → Steps Same (g.clock old) (g.clock new)
  -- at the statuses 0 and 10 the database is exactly the new one
  pub at_ok : IsSpoken status → IsTrue g.tells → OfSealed (g.files old) (λ d. IsMade tag d (g.files old) (g.files new))
  -- the files stand for point 0 and the empty database, the next point is 1, and the trail has that tag
  pub at_ok_stands : IsSpoken status → IsTrue g.tells → OfSealed (g.files old) (λ d. StandsNew tag d (g.files new))
  -- and a stop leaves no other
  pub at_ok_stable : IsSpoken status → IsTrue g.tells → Only (g.files new) (g.clock new)
  -- at status 0 exactly the line was printed, at 10 a prefix of it, else nothing
  pub says : IsTrue g.tells_said → SaysLine status initialized_text (g.said old) (g.said new)
