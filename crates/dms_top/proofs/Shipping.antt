-- The status behind shipping.
use Rattle.std.proofs.Common.{◌≡◌, ℕ, refl, ap, take, OnOk, IfErr}
use Rattle.std.specs.Prelude.{IsErrOf}
use Rattle.std.specs.declared.result.Result.{Result}
use Rattle.std.specs.declared.result.Result.TheVariants as result
use Rattle.dms_moments.specs.Moments.{Clock, Steps}
use Rattle.dms_moments.specs.MomentLaws.{steps_weaken}
use Rattle.dms_site.specs.Files.{Files, Left}
use Rattle.dms_plain.specs.Speaking.{OnlySpeaks}
use Rattle.dms_audfile.specs.declared.fault.AudFault.TheVariants as fault
use Rattle.dms_remote.specs.Shipping.{PrintsSome, IsLate, IsOfShipping, RefusesShip}
use Rattle.dms_remote.specs.declared.fault.RemoteFault.{RemoteFault}
use Rattle.dms_remote.specs.declared.fault.RemoteFault.TheVariants.{Audit, Input, Bytes, Say, BadStream, Diverged}
use Rattle.dms_status.specs.declared.status.Status.TheVariants as status
use Rattle.dms_top.specs.Auditing.{IsOfPrinting}
use Rattle.dms_top.specs.Shipping.{JudgesShip, ship_status}
use Rattle.dms_top.specs.Words.{ComesUnsaid}

module _ {T : Type 0} where
  pub of_shipping : (r : Result T RemoteFault) → IfErr r IsOfShipping → IsOfPrinting (ship_status r)
  of_shipping (result.Ok x) kind = tt
  of_shipping (result.Err (Audit fault.NoDatabase)) kind = tt
  of_shipping (result.Err (Audit fault.Disk)) kind = tt
  of_shipping (result.Err (Audit (fault.Full k))) kind = tt
  of_shipping (result.Err (Audit (fault.Missing k))) kind = tt
  of_shipping (result.Err (Audit (fault.Unsealed k))) kind = tt
  of_shipping (result.Err (Audit (fault.Damaged f b))) kind = tt
  of_shipping (result.Err (Audit (fault.Foreign k))) kind = tt
  of_shipping (result.Err (Audit fault.Memory)) kind = tt
  of_shipping (result.Err Input) kind = absurd kind
  of_shipping (result.Err Bytes) kind = absurd kind
  of_shipping (result.Err Say) kind = tt
  of_shipping (result.Err (BadStream p)) kind = absurd kind
  of_shipping (result.Err (Diverged f b)) kind = absurd kind

  pub shipped : (r : Result T RemoteFault) {P : Type 0} → OnOk r P → ship_status r ≡ status.Ok → P
  shipped (result.Ok x) was is = was
  shipped (result.Err (Audit fault.NoDatabase)) was is = absurd cc
  shipped (result.Err (Audit fault.Disk)) was is = absurd cc
  shipped (result.Err (Audit (fault.Full k))) was is = absurd cc
  shipped (result.Err (Audit (fault.Missing k))) was is = absurd cc
  shipped (result.Err (Audit (fault.Unsealed k))) was is = absurd cc
  shipped (result.Err (Audit (fault.Damaged f b))) was is = absurd cc
  shipped (result.Err (Audit (fault.Foreign k))) was is = absurd cc
  shipped (result.Err (Audit fault.Memory)) was is = absurd cc
  shipped (result.Err Input) was is = absurd cc
  shipped (result.Err Bytes) was is = absurd cc
  shipped (result.Err Say) was is = absurd cc
  shipped (result.Err (BadStream p)) was is = absurd cc
  shipped (result.Err (Diverged f b)) was is = absurd cc

  pub silent : (r : Result T RemoteFault) {A B : Type 0} → IfErr r IsOfShipping → IfErr r (λ e. A → (IsLate e → ⊥) → B) → A → ComesUnsaid (ship_status r) → B
  silent (result.Ok x) kind was a quiet = absurd quiet
  silent (result.Err (Audit fault.NoDatabase)) kind was a quiet = was a (λ late. absurd late)
  silent (result.Err (Audit fault.Disk)) kind was a quiet = absurd quiet
  silent (result.Err (Audit (fault.Full k))) kind was a quiet = absurd quiet
  silent (result.Err (Audit (fault.Missing k))) kind was a quiet = was a (λ late. absurd late)
  silent (result.Err (Audit (fault.Unsealed k))) kind was a quiet = was a (λ late. absurd late)
  silent (result.Err (Audit (fault.Damaged f b))) kind was a quiet = was a (λ late. absurd late)
  silent (result.Err (Audit (fault.Foreign k))) kind was a quiet = was a (λ late. absurd late)
  silent (result.Err (Audit fault.Memory)) kind was a quiet = absurd quiet
  silent (result.Err Input) kind was a quiet = absurd kind
  silent (result.Err Bytes) kind was a quiet = absurd kind
  silent (result.Err Say) kind was a quiet = absurd quiet
  silent (result.Err (BadStream p)) kind was a quiet = absurd kind
  silent (result.Err (Diverged f b)) kind was a quiet = absurd kind

  pub refused : (r : Result T RemoteFault) (from : ℕ) (files : Files) {A : Type 0} → IfErr r (λ e. A → RefusesShip from files e) → A → JudgesShip from files (ship_status r)
  refused (result.Ok x) from files was a = tt
  refused (result.Err (Audit fault.NoDatabase)) from files was a = was a
  refused (result.Err (Audit fault.Disk)) from files was a = tt
  refused (result.Err (Audit (fault.Full k))) from files was a = tt
  refused (result.Err (Audit (fault.Missing k))) from files was a = was a
  refused (result.Err (Audit (fault.Unsealed k))) from files was a = was a
  refused (result.Err (Audit (fault.Damaged f b))) from files was a = was a
  refused (result.Err (Audit (fault.Foreign k))) from files was a = was a
  refused (result.Err (Audit fault.Memory)) from files was a = tt
  refused (result.Err Input) from files was a = tt
  refused (result.Err Bytes) from files was a = tt
  refused (result.Err Say) from files was a = tt
  refused (result.Err (BadStream p)) from files was a = tt
  refused (result.Err (Diverged f b)) from files was a = tt

  -- a status comes of one fault
  pub is_disk : (r : Result T RemoteFault) → ship_status r ≡ status.DiskFault → IsErrOf r (Audit fault.Disk)
  is_disk (result.Ok x) is = absurd cc
  is_disk (result.Err (Audit fault.NoDatabase)) is = absurd cc
  is_disk (result.Err (Audit fault.Disk)) is = refl
  is_disk (result.Err (Audit (fault.Full k))) is = absurd cc
  is_disk (result.Err (Audit (fault.Missing k))) is = absurd cc
  is_disk (result.Err (Audit (fault.Unsealed k))) is = absurd cc
  is_disk (result.Err (Audit (fault.Damaged f b))) is = absurd cc
  is_disk (result.Err (Audit (fault.Foreign k))) is = absurd cc
  is_disk (result.Err (Audit fault.Memory)) is = absurd cc
  is_disk (result.Err Input) is = absurd cc
  is_disk (result.Err Bytes) is = absurd cc
  is_disk (result.Err Say) is = absurd cc
  is_disk (result.Err (BadStream p)) is = absurd cc
  is_disk (result.Err (Diverged f b)) is = absurd cc

  pub of_disk : (r : Result T RemoteFault) → IsErrOf r (Audit fault.Disk) → ship_status r ≡ status.DiskFault
  of_disk r is = ap (λ (q : Result T RemoteFault). ship_status q) is

  pub is_say : (r : Result T RemoteFault) → ship_status r ≡ status.SayFault → IsErrOf r Say
  is_say (result.Ok x) is = absurd cc
  is_say (result.Err (Audit fault.NoDatabase)) is = absurd cc
  is_say (result.Err (Audit fault.Disk)) is = absurd cc
  is_say (result.Err (Audit (fault.Full k))) is = absurd cc
  is_say (result.Err (Audit (fault.Missing k))) is = absurd cc
  is_say (result.Err (Audit (fault.Unsealed k))) is = absurd cc
  is_say (result.Err (Audit (fault.Damaged f b))) is = absurd cc
  is_say (result.Err (Audit (fault.Foreign k))) is = absurd cc
  is_say (result.Err (Audit fault.Memory)) is = absurd cc
  is_say (result.Err Input) is = absurd cc
  is_say (result.Err Bytes) is = absurd cc
  is_say (result.Err Say) is = refl
  is_say (result.Err (BadStream p)) is = absurd cc
  is_say (result.Err (Diverged f b)) is = absurd cc

  pub of_say : (r : Result T RemoteFault) → IsErrOf r Say → ship_status r ≡ status.SayFault
  of_say r is = ap (λ (q : Result T RemoteFault). ship_status q) is

pub only_some : (a b : Clock Left) → Steps PrintsSome a b → OnlySpeaks a b
only_some a b steps = steps_weaken steps (λ x y here p. record { files = p.1.files; more = take p.1.some p.0; said = p.1.said })
