-- The files that a command leaves alone.
use Rattle.std.specs.Prelude.{ℕ, ◌≡◌, ◌⊎◌, ◌+◌, ◌<◌, ◌≤◌, Bool, List, length, IsTrue}
use Rattle.dms_moments.specs.Moments.{Steps}
use Rattle.dms_opening.specs.Openings.{OpensAt}
use Rattle.dms_site.specs.declared.site.Site.{Ghosts}
use Rattle.dms_site.specs.Files.{Files, Left}

-- A file that is neither an audit file, 10,001 to 20,000, nor one of the first s structure files, 30,001 and on: so are the description file, 1, and
-- the dump files, 20,001 to 30,000.
abbrev pub IsBeside : ℕ → ℕ → Type 0
IsBeside s f = (f ≤ 10000) ⊎ (((20000 < f) × (f ≤ 30000)) ⊎ (30000 + s < f))

-- those files are the same
abbrev pub KeepsBeside : ℕ → Files → Files → Type 0
KeepsBeside s old new = (f : ℕ) → IsBeside s f → new f ≡ old f

-- a stop leaves them the same
abbrev pub LeavesBeside : ℕ → Left → Left → Type 0
LeavesBeside s old new = KeepsBeside s old.files new.files

-- An opening of these files needs the files of no more than s structures: of those that the description names at the point that is opened, and of one
-- behind them only where its file has a block there.
abbrev pub OpensWithin : ℕ → Files → Type 0
OpensWithin s files = (total first point next : ℕ) (schema counts : List ℕ) → OpensAt total first files point next schema counts → length counts ≤ s

-- A database has no more than s structures: none has more than 200, and where the files are told none more than an opening of them needs.
abbrev pub HasAtMost : ℕ → Bool → Files → Type 0
HasAtMost s tells files = (200 ≤ s) ⊎ (IsTrue tells × OpensWithin s files)

module _ {S : Type 0} (g : Ghosts S) where
  -- All files but audit files and the first s structure files read as they did, and each stop since then left them as a stop could leave them then.
  pub record StaysBut (s : ℕ) (a b : S) : Type 0 where
    pub read : IsTrue g.tells → KeepsBeside s (g.files a) (g.files b)
    pub left : Steps (LeavesBeside s) (g.clock a) (g.clock b)

  -- So it is of all files but audit files and the files of structures: of 200 of these in any case, and of as many as the opening needs, where the files
  -- are told.
  abbrev pub StaysBeside : S → S → Type 0
  StaysBeside a b = (s : ℕ) → HasAtMost s g.tells (g.files a) → StaysBut s a b

  -- A guarded site is the same one, lets through as many structure files as before, and no failure is forgotten. All files but these and audit files stay.
  pub record SameGuarded (n : ℕ) (a : S) (m : ℕ) (b : S) : Type 0 where
    pub same : g.same_site a b
    pub fixed : m ≡ n
    pub beside : StaysBut n a b
    pub counted : g.disk_faults a ≤ g.disk_faults b
