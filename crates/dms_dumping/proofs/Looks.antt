-- What is judged behind a look at a database.
use Rattle.std.proofs.Common.{ℕ, ◌≡◌}
use Rattle.dms_site.specs.Files.{Files}
use Rattle.dms_audfile.specs.declared.fault.AudFault.TheVariants as aud
use Rattle.dms_opening.specs.declared.choosing.OpenFault.{OpenFault}
use Rattle.dms_opening.specs.declared.choosing.OpenFault.TheVariants.{Audit}
use Rattle.dms_opening.specs.declared.plan.OpeningPlan.{OpeningPlan}
use Rattle.dms_opening.specs.Openings.{IsTrailFound}
use Rattle.dms_opening.specs.Plans.{Plans}
use Rattle.dms_opening.proofs.Reading.{plain_refuses, plain_room}
use Rattle.dms_dumping.specs.declared.looking.DumpRefusal.{DumpRefusal}
use Rattle.dms_dumping.specs.declared.looking.DumpRefusal.TheVariants.{Open, Exists, Short}
use Rattle.dms_dumping.specs.Refusing.{JudgesDump, RefusesDump}

-- what is judged behind a plan is a refusal of the files
pub judged_refuses : (d total first : ℕ) (files : Files) (plan : OpeningPlan) (refusal : DumpRefusal) → IsTrailFound total first files → Plans total first files plan → JudgesDump d files plan refusal → RefusesDump d files refusal
judged_refuses d total first files plan (Open fault) trail plans j = plain_refuses files fault j
judged_refuses d total first files plan Exists trail plans j = (record { total = total; first = first; trail = trail; plan = plan; plans = plans }, j)
judged_refuses d total first files plan (Short f b) trail plans j = (j.0, (record { total = total; first = first; trail = trail; plan = plan; plans = plans }, j.1))

same_open : (f h : OpenFault) → Open f ≡ Open h → f ≡ h
same_open f h is = cc

pub not_full : (fault : OpenFault) → (fault ≡ Audit (aud.Full 9999) → ⊥) → Open fault ≡ Open (Audit (aud.Full 9999)) → ⊥
not_full fault room is = room (same_open fault (Audit (aud.Full 9999)) is)

pub judged_room : (d : ℕ) (files : Files) (plan : OpeningPlan) (refusal : DumpRefusal) → JudgesDump d files plan refusal → refusal ≡ Open (Audit (aud.Full 9999)) → ⊥
judged_room d files plan (Open fault) j is = not_full fault (plain_room fault j) is
judged_room d files plan Exists j is = absurd cc
judged_room d files plan (Short f b) j is = absurd cc
