-- Facts of a call by its answer.
use Rattle.std.specs.Prelude.{IfErr}
use Rattle.std.proofs.Common.{◌≡◌, ◌⊎◌, inl, inr, Bool, List, subst}
use Rattle.std.specs.declared.result.Result.{Result}
use Rattle.std.specs.declared.result.Result.TheVariants.{Ok, Err}
use Rattle.dms_site.specs.Files.{Files}
use Rattle.dms_history.specs.declared.event.FileCount.{FileCount}
use Rattle.dms_dump.specs.declared.fault.DumpFault.{DumpFault}
use Rattle.dms_dump.specs.declared.fault.DumpFault.TheVariants.{Disk, Memory, Exists, Missing, Unsealed, Damaged}
use Rattle.dms_dump.specs.Copying.{IsShortIn}

-- the answer is a fault
abbrev pub is_fault : {T E : Type 0} → Result T E → Type 0
is_fault (Ok x) = ⊥
is_fault (Err e) = Unit {0}

pub err_weaker : {T E : Type 0} {P Q : E → Type 0} (r : Result T E) → IfErr r P → ((e : E) → P e → Q e) → IfErr r Q
err_weaker (Ok x) p f = tt
err_weaker (Err e) p f = f e p

-- the answer is that the gate is open
abbrev pub is_exists : {T : Type 0} → Result T DumpFault → Type 0
is_exists (Ok x) = ⊥
is_exists (Err Disk) = ⊥
is_exists (Err Memory) = ⊥
is_exists (Err (Exists d)) = Unit {0}
is_exists (Err (Missing d)) = ⊥
is_exists (Err (Unsealed d)) = ⊥
is_exists (Err (Damaged f b)) = ⊥

abbrev exists_fault : DumpFault → Type 0
exists_fault Disk = ⊥
exists_fault Memory = ⊥
exists_fault (Exists d) = Unit {0}
exists_fault (Missing d) = ⊥
exists_fault (Unsealed d) = ⊥
exists_fault (Damaged f b) = ⊥

pub not_exists : {T : Type 0} (tells : Bool) (files : Files) (counts : List FileCount) (r : Result T DumpFault) → IfErr r (λ e. (e ≡ Disk) ⊎ IsShortIn tells files counts e) → is_exists r → ⊥
not_exists tells files counts (Ok x) only is = is
not_exists tells files counts (Err Disk) only is = is
not_exists tells files counts (Err Memory) only is = is
not_exists tells files counts (Err (Exists d)) (inl e) is = subst exists_fault e tt
not_exists tells files counts (Err (Exists d)) (inr s) is = subst exists_fault s.3 tt
not_exists tells files counts (Err (Missing d)) only is = is
not_exists tells files counts (Err (Unsealed d)) only is = is
not_exists tells files counts (Err (Damaged f b)) only is = is
