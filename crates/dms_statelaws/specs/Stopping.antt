-- What a stop leaves of a restore to a point, whose files scanning finds.
use Rattle.std.specs.Prelude.{ℕ, ◌⊎◌, Bool}
use Rattle.dms_site.specs.Files.{Files, Left}
use Rattle.dms_running.specs.AnyBegun.{IsUntouched}
use Rattle.dms_running.specs.Telling.{Telling}
use Rattle.dms_recovery.specs.Leaving.{HoldsCounted, HoldsUpTo}

-- A stop leaves the audit, the dumps and the structure files as they were, and scanning finds them; or a database with exactly the points of that
-- one up to point m.
abbrev pub RestoresTo : Telling → Files → Files → ℕ → Left → Type 0
RestoresTo t files u m x = (IsUntouched t files x × t.found x.files) ⊎ HoldsUpTo t u m x.files

-- So it does; or, where a restore was pending in these files, that one is being ended or was ended, and with the named blocks as they count in u it leaves a
-- database with all points of u.
abbrev pub MendsTo : Telling → Files → Files → (ℕ → ℕ → Bool) → ℕ → Left → Type 0
MendsTo t files u named m x = RestoresTo t files u m x ⊎ HoldsCounted t files u named x.files
