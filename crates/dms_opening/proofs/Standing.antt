-- Entries that stand whole in the audit are counted.
use Rattle.std.proofs.Common.{◌≡◌, ◌⊎◌, inl, inr, Bool, IsTrue, List, [], ◌∷◌, ◌++◌, ◌∙◌, sym, subst, arith}
use Rattle.std.proofs.lemmas.Bool.{true≢false}
use Rattle.dms_site.specs.Files.{Files}
use Rattle.dms_audfile.specs.declared.fault.AudFault.{AudFault}
use Rattle.dms_audfile.specs.declared.fault.AudFault.TheVariants.{Disk, Memory}
use Rattle.dms_restore.specs.declared.live.LiveEntry.{LiveEntry}
use Rattle.dms_restore.specs.declared.live.LiveEntry.TheVariants.{Changed, Ranged, Quiet, Controlled}
use Rattle.dms_restore.specs.LiveEntries.{StandsWhole, AllStandWhole}
use Rattle.dms_opening.specs.PointCounts.{IsNoCount, IsNoCountAmong}

one_at : (files : Files) (before after : List LiveEntry) (e : LiveEntry) → AllStandWhole files (before ++ e ∷ after) → StandsWhole files e
one_at files [] after e all = all.0
one_at files (x ∷ before) after e all = one_at files before after e all.1

one_counted : (tells : Bool) (files : Files) (l : LiveEntry) (e : AudFault) → IsTrue tells → StandsWhole files l → IsNoCount tells files l e → ⊥
one_counted tells files (Changed i) e t w is = elim is.1 [
  | inl low ↦ omega (arith, low, w.2)
  | inr rest ↦ elim rest [ inl high ↦ omega (arith, high, w.3) | inr far ↦ omega (arith, far, w.4) ]
]
one_counted tells files (Ranged r) e t w is = is
one_counted tells files (Quiet n) e t w is = is
one_counted tells files (Controlled c) e t w is = elim is.1 [
  | inl large ↦ omega (arith, large, w.0)
  | inr rest ↦ elim rest [
    | inl far ↦ omega (arith, far, w.1)
    | inr bytes ↦ elim (bytes t) [ inl short ↦ omega (arith, short, w.2) | inr falls ↦ true≢false (sym w.3 ∙ falls) ]
  ]
]

pub all_counted : (tells : Bool) (files : Files) (live : List LiveEntry) (e : AudFault) → IsTrue tells → AllStandWhole files live → (e ≡ Disk) ⊎ ((e ≡ Memory) ⊎ IsNoCountAmong tells files live e) → (e ≡ Disk) ⊎ (e ≡ Memory)
all_counted tells files live e t all is = elim is [
  | inl disk ↦ inl disk
  | inr rest ↦ elim rest [
    | inl memory ↦ inr memory
    | inr none ↦ absurd (one_counted tells files none.entry e t (one_at files none.before none.after none.entry (subst (AllStandWhole files) none.among all)) none.is)
  ]
]
