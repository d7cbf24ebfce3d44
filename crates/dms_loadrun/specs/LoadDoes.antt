-- What the command `load` does: a field for each promise.
use Rattle.std.specs.Prelude.{ℕ, ◌≡◌, List, true, IsTrue}
use Rattle.dms_audfile.specs.Gates.{is_full}
use Rattle.dms_creation.specs.Clearing.{AllButDescriptionStay}
use Rattle.dms_desc.specs.Shape.{Described}
use Rattle.dms_descfile.specs.DescriptionFile.{IsSealed, IsUnsealed}
use Rattle.dms_loadcount.specs.Answers.{HoldsTooMany, load_text}
use Rattle.dms_loadrun.specs.Description.{load_description}
use Rattle.dms_loadrun.specs.Loading.{EndsLoaded, Loads}
use Rattle.dms_loadrun.specs.Statuses.{IsBehindExists, IsOfLoad, IsUnfound}
use Rattle.dms_status.specs.Saying.{IsSpoken, SaysLine}
use Rattle.dms_newdb.specs.Saying.{OfSealed, SiteAndTextStay}
use Rattle.dms_site.specs.declared.site.Site.{Ghosts}
use Rattle.dms_site.specs.Files.{Files, Only}
use Rattle.dms_status.specs.declared.status.LimitKind.TheVariants.{AuditFile, Held}
use Rattle.dms_status.specs.declared.status.Status.{Status}
use Rattle.dms_status.specs.declared.status.Status.TheVariants.{Exists, Limit}

-- the audit has no room: the file is the last one, 9,999, and all gates of it are open
abbrev pub FillsAudit : Described → ℕ → Files → Type 0
FillsAudit d k files = (k ≡ 9999) × (is_full d.blocks (files 19999) ≡ true)

-- What a load does where no description is, under this description of its schema, with this text for its summary.
pub record LoadsOver {S : Type 0} (g : Ghosts S) (d : Described) (seed n : ℕ) (text : List ℕ) (old new : S) (status : Status) : Type 0 where
  pub statuses : IsOfLoad status
  pub found : IsTrue g.tells → IsUnfound status → ⊥
  pub exists : status ≡ Exists → IsTrue g.tells → ⊥
  pub every_moment : IsTrue g.tells → Loads d seed n (g.files old) (g.clock old) (g.clock new)
  pub others : IsTrue g.tells → AllButDescriptionStay (g.files old) (g.files new)
  pub at_ok : IsSpoken status → IsTrue g.tells → EndsLoaded d seed n (g.files new)
  pub at_ok_stable : IsSpoken status → IsTrue g.tells → Only (g.files new) (g.clock new)
  pub full : (k : ℕ) → status ≡ Limit (AuditFile k) → IsTrue g.tells → FillsAudit d k (g.files new)
  pub held : status ≡ Limit Held → HoldsTooMany d seed n
  pub says : IsTrue g.tells_said → SaysLine status text (g.said old) (g.said new)

-- What `load SEED N` promises of a site before and after it, and of the status.
pub record LoadDoes {S : Type 0} (g : Ghosts S) (seed n : ℕ) (old new : S) (status : Status) : Type 0 where
  -- only the statuses 0, 3, 4, 5, 7, 8 of an audit file or of held lines, 9, 10 and 11 come
  pub statuses : IsOfLoad status
  -- 3, 4 and 9 don't come where the site tells its files
  pub found : IsTrue g.tells → IsUnfound status → ⊥
  -- 11 comes only where file 1 is a sealed description
  pub exists : status ≡ Exists → IsTrue g.tells → (d : Described) × IsSealed (g.files old 1) d
  -- 0, 8 and 10 come only where it was none
  pub unsealed : IsBehindExists status → IsTrue g.tells → IsUnsealed (g.files old 1)
  -- with a sealed description at entry no file is touched at any moment, and nothing is printed
  pub kept : IsTrue g.tells → OfSealed (g.files old) (λ d. SiteAndTextStay g old new)
  -- a stop leaves what it could leave at entry, or no database, or the new one, or one that the script left at one of its quiet points
  pub every_moment : IsTrue g.tells → Loads load_description seed n (g.files old) (g.clock old) (g.clock new)
  -- no file changes but the description file, audit files, dumps and structure files
  pub others : IsTrue g.tells → AllButDescriptionStay (g.files old) (g.files new)
  -- at 0 and 10 the files stand for the database of the last quiet point of the script
  pub at_ok : IsSpoken status → IsTrue g.tells → EndsLoaded load_description seed n (g.files new)
  -- and a stop leaves no others
  pub at_ok_stable : IsSpoken status → IsTrue g.tells → Only (g.files new) (g.clock new)
  -- 8 of an audit file comes only of the last one, 9,999, where all gates of it are open
  pub full : (k : ℕ) → status ≡ Limit (AuditFile k) → IsTrue g.tells → FillsAudit load_description k (g.files new)
  -- 8 of held lines comes only where the script has a line that is one too many to hold
  pub held : status ≡ Limit Held → HoldsTooMany load_description seed n
  -- at 0 exactly the seven lines were printed, at 10 a prefix of them, else nothing
  pub says : IsTrue g.tells_said → SaysLine status (load_text load_description seed n) (g.said old) (g.said new)
