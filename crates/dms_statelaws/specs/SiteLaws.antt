-- Laws: what calls on a site leave, as states that its files stand for.
use Rattle.std.specs.Prelude.{ℕ, ◌+◌, ◌≤◌, ◌≡◌, ◌≢◌, List, Option, Some, None}
use Rattle.dms_desc.specs.Shape.{Described}
use Rattle.dms_model.specs.Db.{Db}
use Rattle.dms_moments.specs.Moments.{Runs, Steps}
use Rattle.dms_site.specs.Files.{Files, Left, Only}
use Rattle.dms_site.specs.declared.site.Site.{Ghosts}
use Rattle.dms_history.specs.Entries.{counts_in}
use Rattle.dms_history.specs.declared.event.FileCount.{FileCount}
use Rattle.dms_audfile.specs.TrailEntries.{trail_entries}
use Rattle.dms_dump.specs.Body.{dump_made}
use Rattle.dms_dump.specs.Head.{IsHead}
use Rattle.dms_running.specs.Standing.{IsWhole}
use Rattle.dms_restore.specs.Counts.{count_of}
use Rattle.dms_restore.specs.Logging.{telling_of}
use Rattle.dms_opening.specs.Openings.{IsTrailFound, OpensAt, RunsWhere, ReopensSince}
use Rattle.dms_opening.specs.declared.opened.Opened.{Opened}
use Rattle.dms_statements.specs.declared.statement.NamedRow.{NamedRow}
use Rattle.dms_recovery.specs.Reconstructing.{IsDescribedBy}
use Rattle.dms_recovery.specs.Rows.{named_blocks}
use Rattle.dms_run.specs.State.{StateOf}
use Rattle.dms_statelaws.specs.Dumps.{HasDumpAt}
use Rattle.dms_statelaws.specs.Statements.{DumpStands, RollbackStands, RollbackEnds, RebuildStands, RebuildEnds, ReconstructStands, ReconstructEnds}
use Rattle.dms_recovery.specs.Leaving.{HoldsUpTo, RollsTo, IsRebuiltFrom, IsMendedFrom}
use Rattle.dms_recovery.specs.Wanting.{last_of, chosen_point}
use Rattle.dms_statelaws.specs.Stopping.{RestoresTo, MendsTo}

-- a stop leaves all files but this one as they were
abbrev pub KeepsOthers : ℕ → Left → Left → Type 0
KeepsOthers f old new = (i : ℕ) → i ≢ f → new.files i ≡ old.files i

abbrev pub SameFiles : Left → Left → Type 0
SameFiles old new = new.files ≡ old.files

-- The trail of these files is found, and n is their last point, with this description. That database differs from them in the blocks of the named rows
-- alone, and dump d was copied from it.
pub record MendsFrom (files u : Files) (d : ℕ) (rows : List NamedRow) (total first n : ℕ) (desc : Described) : Type 0 where
  pub trail : IsTrailFound total first files
  pub last : last_of total first files ≡ Some n
  pub described : IsDescribedBy (trail_entries total first files) n desc
  pub mended : IsMendedFrom total first files u d (named_blocks desc.structures rows)

module _ {S : Type 0} (g : Ghosts S) where
  -- Something was printed behind it: the files are the same, now and at each stop.
  pub record SaysBehind (mid new : S) : Type 0 where
    pub files : g.files new ≡ g.files mid
    pub moments : Steps SameFiles (g.clock mid) (g.clock new)

  -- each stop left all points of the files of then, or those up to m
  abbrev pub RollsSince : S → S → ℕ → Type 0
  RollsSince old new m = (total first : ℕ) → IsTrailFound total first (g.files old) → IsWhole (telling_of total first) (g.files old) → Runs (g.clock old) (g.clock new) (RollsTo (telling_of total first) (g.files old) m)

  -- those up to m are left
  abbrev pub RollsEnd : S → S → ℕ → Type 0
  RollsEnd old new m = (total first : ℕ) → IsTrailFound total first (g.files old) → IsWhole (telling_of total first) (g.files old)
      → HoldsUpTo (telling_of total first) (g.files old) m (g.files new) × Only (g.files new) (g.clock new)

  pub record RollbackLaw (old new : S) : Type 0 where
    pub stands : (m : ℕ) → RollsSince old new m → RollbackStands g old new m
    pub ends : (m : ℕ) → RollsEnd old new m → RollbackEnds g old new m
    pub says : (mid : S) (m : ℕ) → RollsSince old mid m → RollsEnd old mid m → SaysBehind mid new → RollsSince old new m × RollsEnd old new m

  -- of each database that may be rebuilt from dump d, each stop left the files of then, or its points up to the chosen one
  abbrev pub RebuildsSince : S → S → ℕ → Option ℕ → Type 0
  RebuildsSince old new d chosen = (u : Files) (total first : ℕ) → IsTrailFound total first (g.files old) → IsRebuiltFrom total first (g.files old) u d
      → Runs (g.clock old) (g.clock new) (RestoresTo (telling_of total first) (g.files old) u (chosen_point total first (g.files old) chosen))

  -- those are left
  abbrev pub RebuildsEnd : S → S → ℕ → Option ℕ → Type 0
  RebuildsEnd old new d chosen = (u : Files) (total first : ℕ) → IsTrailFound total first (g.files old) → IsRebuiltFrom total first (g.files old) u d
      → HoldsUpTo (telling_of total first) u (chosen_point total first (g.files old) chosen) (g.files new) × Only (g.files new) (g.clock new)

  pub record RebuildLaw (old new : S) : Type 0 where
    pub stands : (d : ℕ) (chosen : Option ℕ) → RebuildsSince old new d chosen → RebuildStands g old new d chosen
    pub ends : (d : ℕ) (chosen : Option ℕ) → RebuildsEnd old new d chosen → RebuildEnds g old new d chosen
    pub says : (mid : S) (d : ℕ) (chosen : Option ℕ) → RebuildsSince old mid d chosen → RebuildsEnd old mid d chosen → SaysBehind mid new → RebuildsSince old new d chosen × RebuildsEnd old new d chosen

  -- of each database that may be mended from dump d each stop left the files of then, or its points up to the last one, or all of them but for the named
  -- blocks, while a restore that was pending is ended
  abbrev pub MendsSince : S → S → ℕ → List NamedRow → Type 0
  MendsSince old new d rows = (u : Files) (total first n : ℕ) (desc : Described) → MendsFrom (g.files old) u d rows total first n desc
      → Runs (g.clock old) (g.clock new) (MendsTo (telling_of total first) (g.files old) u (named_blocks desc.structures rows) n)

  -- those are left
  abbrev pub MendsEnd : S → S → ℕ → List NamedRow → Type 0
  MendsEnd old new d rows = (u : Files) (total first n : ℕ) (desc : Described) → MendsFrom (g.files old) u d rows total first n desc → HoldsUpTo (telling_of total first) u n (g.files new) × Only (g.files new) (g.clock new)

  pub record ReconstructLaw (old new : S) : Type 0 where
    pub stands : (d : ℕ) (rows : List NamedRow) → MendsSince old new d rows → ReconstructStands g old new d rows
    pub ends : (d : ℕ) (rows : List NamedRow) → MendsEnd old new d rows → ReconstructEnds g old new d rows
    pub says : (mid : S) (d : ℕ) (rows : List NamedRow) → MendsSince old mid d rows → MendsEnd old mid d rows → SaysBehind mid new → MendsSince old new d rows × MendsEnd old new d rows

  -- A database was opened, and runs from the files of then.
  pub record OpensOver (old : S) (o : Opened S) : Type 0 where
    pub opens : OpensAt o.log.end.total o.log.first (g.files old) o.point o.next o.schema.items o.counts.items
    pub runs : RunsWhere g (g.files old) o
    pub moments : ReopensSince g old o.log.site

  -- No file but 20,000 + d changed since, and a stop left the others as it could leave them then.
  abbrev pub WritesDump : Opened S → S → ℕ → Type 0
  WritesDump o new d = Steps (KeepsOthers (20000 + d)) (g.clock o.log.site) (g.clock new)

  -- These files are those of what was opened, but for the file of dump d: it is its dump, with the tag of its trail and these counts.
  pub record HasDumped (o : Opened S) (files : Files) (d tag audit : ℕ) (counts : List FileCount) : Type 0 where
    pub head : IsHead (record { tag = tag; point = o.point; audit = audit; counts = counts; end = None })
    pub tag_is : tag ≡ o.log.end.tag
    pub counted : (f : ℕ) → counts_in counts f ≡ count_of o.counts.items f
    pub written : files (20000 + d) ≡ dump_made 1 tag o.point audit counts (g.files o.log.site)
    pub others : (f : ℕ) → f ≢ 20000 + d → files f ≡ g.files o.log.site f

  pub record DumpLaw (old : S) (o : Opened S) (new : S) : Type 0 where
    -- where it was opened and the dump's file alone was written, the files stand for the state of entry at every moment
    pub stands : (d : ℕ) → 1 ≤ d → d ≤ 9999 → OpensOver old o → WritesDump o new d → DumpStands g old new
    -- where the opening failed, too
    pub unopened : (now : S) → ReopensSince g old now → DumpStands g old now
    -- and in files in which the dump stands whole it is true
    pub ends : (files : Files) (d tag audit : ℕ) (counts : List FileCount) → 1 ≤ d → d ≤ 9999 → OpensOver old o → HasDumped o files d tag audit counts
        → (n : ℕ) (desc : Described) (db : Db) → StateOf (g.files old) n desc db → HasDumpAt files d n
