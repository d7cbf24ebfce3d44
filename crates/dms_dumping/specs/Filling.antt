-- Where the audit of a statement has no room.
use Rattle.std.specs.Prelude.{ℕ, ◌≡◌, IsTrue}
use Rattle.dms_opening.specs.Openings.{HasFullTrail}
use Rattle.dms_site.specs.declared.site.Site.{Ghosts}
use Rattle.dms_status.specs.declared.status.LimitKind.TheVariants.{AuditFile}
use Rattle.dms_status.specs.declared.status.Status.{Status}
use Rattle.dms_status.specs.declared.status.Status.TheVariants.{Limit}

-- status 8 of an audit file comes only of the last one, 9,999, where each file of the trail up to it is full
abbrev pub FillsTrail : {S : Type 0} → Ghosts S → S → S → Status → Type 0
FillsTrail g old new status = (k : ℕ) → status ≡ Limit (AuditFile k) → IsTrue g.tells → (k ≡ 9999) × HasFullTrail (g.files old) (g.files new)
