-- The statuses that a dump ends with.
use Rattle.std.proofs.Common.{ℕ, ◌≡◌, List, subst}
use Rattle.dms_audfile.specs.Counting.{CountedAt, not_counted}
use Rattle.dms_site.specs.declared.site.Site.{Ghosts}
use Rattle.dms_status.specs.declared.status.LimitKind.TheVariants.{AuditFile}
use Rattle.dms_status.specs.declared.status.Status.{Status}
use Rattle.dms_status.specs.declared.status.Status.TheVariants.{Ok, BadWords, SchemaRefused, NoDatabase, Needed, InputFault, Memory, Limit, Damaged, SayFault, DiskFault, Exists, BadStatement, Reorganization, BadStream, Diverged, Flaw}
use Rattle.dms_dumping.specs.Filling.{FillsTrail}
use Rattle.dms_dumping.specs.Statuses.{IsDumpRefusal, IsOfDump, IsOfPreparing, IsOfReading, IsOfReady}
use Rattle.dms_status.specs.Saying.{IsSpoken, SaysLine}

pub of_ready : (s : Status) → IsOfReady s → IsOfDump s
of_ready Ok p = tt
of_ready BadWords p = p
of_ready (SchemaRefused f) p = p
of_ready NoDatabase p = tt
of_ready (Needed n) p = absurd p
of_ready InputFault p = tt
of_ready Memory p = tt
of_ready (Limit k) p = absurd p
of_ready (Damaged f b) p = tt
of_ready SayFault p = tt
of_ready DiskFault p = tt
of_ready Exists p = tt
of_ready (BadStatement q) p = p
of_ready (Reorganization why) p = p
of_ready (BadStream place) p = p
of_ready (Diverged file block) p = p
of_ready (Flaw flaw) p = p

-- what writes a dump refuses nothing
pub ready_unrefused : (s : Status) → IsOfReady s → IsDumpRefusal s → ⊥
ready_unrefused Ok p r = r
ready_unrefused BadWords p r = r
ready_unrefused (SchemaRefused f) p r = r
ready_unrefused NoDatabase p r = p
ready_unrefused (Needed n) p r = p
ready_unrefused InputFault p r = r
ready_unrefused Memory p r = r
ready_unrefused (Limit k) p r = r
ready_unrefused (Damaged f b) p r = p
ready_unrefused SayFault p r = r
ready_unrefused DiskFault p r = r
ready_unrefused Exists p r = p
ready_unrefused (BadStatement q) p r = r
ready_unrefused (Reorganization why) p r = r
ready_unrefused (BadStream place) p r = r
ready_unrefused (Diverged file block) p r = r
ready_unrefused (Flaw flaw) p r = r

pub ready_room : {S : Type 0} (g : Ghosts S) (old new : S) (s : Status) → IsOfReady s → FillsTrail g old new s
ready_room g old new s p k is tells = absurd (none (subst IsOfReady is p))
  where
    none : IsOfReady (Limit (AuditFile k)) → ⊥
    none q = q

pub of_preparing : (s : Status) → IsOfPreparing s → IsOfDump s
of_preparing Ok p = tt
of_preparing BadWords p = p
of_preparing (SchemaRefused f) p = p
of_preparing NoDatabase p = tt
of_preparing (Needed n) p = p
of_preparing InputFault p = tt
of_preparing Memory p = tt
of_preparing (Limit k) p = p
of_preparing (Damaged f b) p = tt
of_preparing SayFault p = tt
of_preparing DiskFault p = tt
of_preparing Exists p = tt
of_preparing (BadStatement q) p = p
of_preparing (Reorganization why) p = p
of_preparing (BadStream place) p = p
of_preparing (Diverged file block) p = p
of_preparing (Flaw flaw) p = p

pub preparing_unmade : (s : Status) → IsOfPreparing s → IsSpoken s → ⊥
preparing_unmade Ok p m = p
preparing_unmade BadWords p m = m
preparing_unmade (SchemaRefused f) p m = m
preparing_unmade NoDatabase p m = m
preparing_unmade (Needed n) p m = m
preparing_unmade InputFault p m = m
preparing_unmade Memory p m = m
preparing_unmade (Limit k) p m = m
preparing_unmade (Damaged f b) p m = m
preparing_unmade SayFault p m = p
preparing_unmade DiskFault p m = m
preparing_unmade Exists p m = m
preparing_unmade (BadStatement q) p m = m
preparing_unmade (Reorganization why) p m = m
preparing_unmade (BadStream place) p m = m
preparing_unmade (Diverged file block) p m = m
preparing_unmade (Flaw flaw) p m = m

-- a dump that wasn't made says nothing
pub unmade_says : (s : Status) (line old new : List ℕ) → IsOfPreparing s → new ≡ old → SaysLine s line old new
unmade_says Ok line old new p same = absurd p
unmade_says BadWords line old new p same = same
unmade_says (SchemaRefused f) line old new p same = same
unmade_says NoDatabase line old new p same = same
unmade_says (Needed n) line old new p same = same
unmade_says InputFault line old new p same = same
unmade_says Memory line old new p same = same
unmade_says (Limit k) line old new p same = same
unmade_says (Damaged f b) line old new p same = same
unmade_says SayFault line old new p same = absurd p
unmade_says DiskFault line old new p same = same
unmade_says Exists line old new p same = same
unmade_says (BadStatement q) line old new p same = same
unmade_says (Reorganization why) line old new p same = same
unmade_says (BadStream place) line old new p same = same
unmade_says (Diverged file block) line old new p same = same
unmade_says (Flaw flaw) line old new p same = same

pub preparing_no_say : (s : Status) (before now : ℕ) → IsOfPreparing s → now ≡ before → CountedAt (s ≡ SayFault) before now
preparing_no_say s before now p same = not_counted (s ≡ SayFault) before now (λ is. none (subst IsOfPreparing is p)) same
  where
    none : IsOfPreparing SayFault → ⊥
    none q = q

-- the same line is said behind the same text
pub says_as : (s : Status) (line line' old old' new : List ℕ) → line ≡ line' → old ≡ old' → SaysLine s line old new → SaysLine s line' old' new
says_as s line line' old old' new is same says = subst (λ (l : List ℕ). SaysLine s l old' new) is (subst (λ (o : List ℕ). SaysLine s line o new) same says)

pub counted_from : (P : Type 0) (a b c : ℕ) → b ≡ a → CountedAt P b c → CountedAt P a c
counted_from P a b c same counted = subst (λ n. CountedAt P n c) same counted

-- the input was read before
pub ready_unread : (s : Status) → IsOfReady s → IsOfReading s → ⊥
ready_unread Ok p r = r
ready_unread BadWords p r = p
ready_unread (SchemaRefused f) p r = p
ready_unread NoDatabase p r = p
ready_unread (Needed n) p r = p
ready_unread InputFault p r = p
ready_unread Memory p r = r
ready_unread (Limit k) p r = p
ready_unread (Damaged f b) p r = p
ready_unread SayFault p r = r
ready_unread DiskFault p r = r
ready_unread Exists p r = p
ready_unread (BadStatement q) p r = p
ready_unread (Reorganization why) p r = p
ready_unread (BadStream place) p r = p
ready_unread (Diverged file block) p r = p
ready_unread (Flaw flaw) p r = p

pub preparing_unread : (s : Status) → IsOfPreparing s → IsOfReading s → ⊥
preparing_unread Ok p r = p
preparing_unread BadWords p r = p
preparing_unread (SchemaRefused f) p r = p
preparing_unread NoDatabase p r = r
preparing_unread (Needed n) p r = r
preparing_unread InputFault p r = p
preparing_unread Memory p r = r
preparing_unread (Limit k) p r = r
preparing_unread (Damaged f b) p r = r
preparing_unread SayFault p r = p
preparing_unread DiskFault p r = r
preparing_unread Exists p r = r
preparing_unread (BadStatement q) p r = p
preparing_unread (Reorganization why) p r = p
preparing_unread (BadStream place) p r = p
preparing_unread (Diverged file block) p r = p
preparing_unread (Flaw flaw) p r = p
