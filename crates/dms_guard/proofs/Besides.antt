-- What stays of a site that is guarded behind a look.
use Rattle.std.proofs.Common.{ℕ, ◌≡◌, ◌≤◌, ◌∙◌, IsTrue, inl, inr, length, subst, arith}
use Rattle.dms_opening.specs.declared.looking.PlannedOpening.{PlannedOpening}
use Rattle.dms_opening.specs.declared.choosing.OpenFault.{OpenFault}
use Rattle.dms_opening.specs.Openings.{IsNoRefusal, IsTrailFound, MayHaveWritten, NamesStructures}
use Rattle.dms_opening.specs.Plans.{Plans}
use Rattle.dms_opening.specs.Whole.{StaysRead}
use Rattle.dms_opening.proofs.Opens.{planned_opens}
use Rattle.dms_site.specs.declared.site.Site.{Ghosts}
use Rattle.dms_site.specs.Files.{Files}
use Rattle.dms_guard.specs.Guard.{OpensWithin, SameGuarded, StaysBeside, StaysBut}
use Rattle.dms_guard.specs.GuardLaws.{but_fewer, but_looked, but_on}

-- an opening that is planned needs no more structure files than any of these files
pub opening_within : {S : Type 0} (files : Files) (p : PlannedOpening S) → IsTrailFound p.log.end.total p.log.first files → Plans p.log.end.total p.log.first files p.plan → NamesStructures p.plan.schema.items p.plan.counts.items
    → (s : ℕ) → OpensWithin s files → length p.plan.counts.items ≤ s
opening_within files p trail plans named s within = within p.log.end.total p.log.first p.plan.choice.point p.plan.next p.plan.schema.items p.plan.counts.items (planned_opens files p trail plans named)

-- what may have written says nothing of the files
pub may_written : (fault : OpenFault) → MayHaveWritten fault → IsNoRefusal fault
may_written fault (inl disk) = inl (inl disk)
may_written fault (inr full) = inr full

module _ {S : Type 0} (g : Ghosts S) where
  -- so many structure files are let through behind a look
  pub within_guarded : (n m k : ℕ) (a b c : S) → StaysRead g a b → SameGuarded g n b m c → n ≡ k → (m ≡ k) × StaysBut g k a c
  within_guarded n m k a b c st same is = (same.fixed ∙ is, but_on k a b c (but_looked k a b st.files st.moments) (subst (λ (j : ℕ). StaysBut g j b c) is same.beside))

  -- all files stay but those that a command may write
  pub beside_within : (k : ℕ) (a c : S) → k ≤ 200 → (IsTrue g.tells → (s : ℕ) → OpensWithin s (g.files a) → k ≤ s) → StaysBut g k a c → StaysBeside g a c
  beside_within k a c few within stays s (inl most) = but_fewer k s a c (omega (arith, few, most)) stays
  beside_within k a c few within stays s (inr has) = but_fewer k s a c (within has.0 s has.1) stays

  pub beside_read : (a b : S) → StaysRead g a b → StaysBeside g a b
  beside_read a b st s has = but_looked s a b st.files st.moments
