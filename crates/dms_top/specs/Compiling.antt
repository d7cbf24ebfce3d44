-- The command `compile`: what it says, what a stop leaves, and its promises.
use Rattle.std.specs.Prelude.{◌≡◌, ◌≢◌, ◌⊎◌, ℕ, List, [], ◌∷◌, ◌++◌, codes, decimal, take, length, ⊤, IsOk, IsTrue}
use Rattle.std.specs.declared.result.Result.TheVariants.{Err}
use Rattle.dms_moments.specs.Moments.{Clock, Now, Runs, Steps}
use Rattle.dms_desc.specs.Shape.{Described}
use Rattle.dms_descfile.specs.Becoming.{Creates, IsCreated}
use Rattle.dms_descfile.specs.DescriptionFile.{sealed_file, IsSealed, IsUnsealed}
use Rattle.dms_status.specs.Saying.{IsSpoken, SaysLine}
use Rattle.dms_newdb.specs.Saying.{OfSealed, SiteAndTextStay}
use Rattle.dms_site.specs.declared.site.Site.{Ghosts}
use Rattle.dms_site.specs.declared.source.Source as source
use Rattle.dms_site.specs.Files.{Files, Left, Only, Same}
use Rattle.dms_status.specs.declared.status.SchemaFault.{SchemaFault}
use Rattle.dms_status.specs.declared.status.Status.{Status}
use Rattle.dms_status.specs.declared.status.Status.TheVariants.{Ok, BadWords, SchemaRefused, NoDatabase, Needed, InputFault, Memory, Limit, Damaged, SayFault, DiskFault, Exists, BadStatement, Reorganization, BadStream, Diverged, Flaw}
use Rattle.dms_newdb.specs.Judging.{judge_schema}
use Rattle.dms_top.specs.Premises.{OfInput, OfSchema, OfNoSchema}
use Rattle.dms_top.specs.Words.{IsOfCompile, IsPast}

-- the line that says how many structures a description has
unfoldable pub compiled_text : ℕ → List ℕ
compiled_text count = codes "COMPILED " ++ decimal count ++ codes " STRUCTURES" ++ 10 ∷ []

-- the statuses of `compile` that come before a file is changed
abbrev pub IsBefore : Status → Type 0
IsBefore Ok = ⊥
IsBefore BadWords = ⊤
IsBefore (SchemaRefused f) = ⊤
IsBefore NoDatabase = ⊤
IsBefore (Needed n) = ⊤
IsBefore (Damaged f b) = ⊤
IsBefore InputFault = ⊤
IsBefore Memory = ⊤
IsBefore (Limit l) = ⊤
IsBefore SayFault = ⊥
IsBefore DiskFault = ⊥
IsBefore Exists = ⊤
IsBefore (BadStatement p) = ⊤
IsBefore (Reorganization why) = ⊤
IsBefore (BadStream place) = ⊤
IsBefore (Diverged file block) = ⊤
IsBefore (Flaw flaw) = ⊤

-- the statuses of the work on the description file
abbrev pub IsOfFile : Status → Type 0
IsOfFile Ok = ⊤
IsOfFile BadWords = ⊥
IsOfFile (SchemaRefused f) = ⊥
IsOfFile NoDatabase = ⊥
IsOfFile (Needed n) = ⊥
IsOfFile (Damaged f b) = ⊥
IsOfFile InputFault = ⊥
IsOfFile Memory = ⊤
IsOfFile (Limit l) = ⊥
IsOfFile SayFault = ⊤
IsOfFile DiskFault = ⊤
IsOfFile Exists = ⊤
IsOfFile (BadStatement p) = ⊥
IsOfFile (Reorganization why) = ⊥
IsOfFile (BadStream place) = ⊥
IsOfFile (Diverged file block) = ⊥
IsOfFile (Flaw flaw) = ⊥

-- Each outcome that a stop on the way left is one that it could leave at the old moment, or there the description file is no
-- sealed description, or exactly that of some description, and the other files are these.
abbrev pub CreatesSome : Files → Clock Left → Clock Left → Type 0
CreatesSome files old new = Runs old new (λ x. Now old x ⊎ ((d : Described) × IsCreated (sealed_file d) files x))

-- No text comes before its file: at each moment on the way the text is one that it could be at the old moment, or the description
-- file is exactly the one that is made.
abbrev pub SaysSealed : List ℕ → Clock Left → Clock Left → Type 0
SaysSealed made old new = Runs old new (λ x. ((y : Left) × Now old y × (x.said ≡ y.said)) ⊎ (x.files 1 ≡ made))

-- What `compile` promises of a site before and after it, of the input before it, and of the status.
pub record CompileDoes {S I : Type 0} (g : Ghosts S) (i : source.Ghosts I) (old new : S) (from : I) (status : Status) : Type 0 where
  -- only the statuses 0, 2, 5, 6, 7, 10 and 11 come
  pub statuses : IsOfCompile status
  -- a schema is refused by its first fault
  pub refused : (f : SchemaFault) → status ≡ SchemaRefused f → OfInput (i.left from) (λ all. judge_schema all ≡ Err f)
  -- the statuses after the schema, 0, 5, 10 and 11, come only where it is accepted
  pub accepted : IsPast status → OfInput (i.left from) (λ all. IsOk (judge_schema all))
  -- a refused text leaves the site as it was
  pub refused_text : OfNoSchema (i.left from) (new ≡ old)
  -- a failing input leaves the site as it was
  pub input_fault : status ≡ InputFault → new ≡ old
  -- no file but the description file changes
  pub others : IsTrue g.tells → (f : ℕ) → f ≢ 1 → g.files new f ≡ g.files old f
  -- status 11 comes only where file 1 is a sealed description
  pub exists : status ≡ Exists → IsTrue g.tells → (d : Described) × IsSealed (g.files old 1) d
  -- the statuses 0 and 10 come only where it was none
  pub unsealed : IsSpoken status → IsTrue g.tells → IsUnsealed (g.files old 1)
  -- a sealed description at entry is not touched at any moment
  pub kept : IsTrue g.tells → OfSealed (g.files old) (λ d. SiteAndTextStay g old new)
  -- a stop leaves what it could leave at entry, or there file 1 is no sealed description or exactly the text's
  pub every_moment : IsTrue g.tells → OfSchema (i.left from) (λ d. Creates (sealed_file d) (g.files old) (g.clock old) (g.clock new))
  -- whatever the input tells, the same with some description
  pub every_moment_some : IsTrue g.tells → CreatesSome (g.files old) (g.clock old) (g.clock new)
  -- at the statuses that come before a file is changed a stop leaves what it could leave before
  pub stays : IsBefore status → Steps Same (g.clock old) (g.clock new)
  -- at the statuses 0 and 10 file 1 is exactly the text's description
  pub at_ok : IsSpoken status → IsTrue g.tells → OfSchema (i.left from) (λ d. g.files new 1 ≡ sealed_file d)
  -- and it is sealed and well-formed
  pub at_ok_sealed : IsSpoken status → IsTrue g.tells → OfSchema (i.left from) (λ d. IsSealed (g.files new 1) d)
  -- whatever the input tells, it is some sealed description
  pub at_ok_some : IsSpoken status → IsTrue g.tells → (d : Described) × IsSealed (g.files new 1) d
  -- and a stop leaves no other
  pub at_ok_stable : IsSpoken status → IsTrue g.tells → Only (g.files new) (g.clock new)
  -- at status 0 exactly the line was printed, at 10 a prefix of it, else nothing
  pub says : IsTrue g.tells_said → OfSchema (i.left from) (λ d. SaysLine status (compiled_text (length d.structures)) (g.said old) (g.said new))
  -- at the other statuses nothing was printed, whatever the input
  pub silent : IsTrue g.tells_said → (IsSpoken status → ⊥) → g.said new ≡ g.said old
  -- no text comes before the file is whole
  pub says_sealed : IsTrue g.tells → OfSchema (i.left from) (λ d. SaysSealed (sealed_file d) (g.clock old) (g.clock new))
