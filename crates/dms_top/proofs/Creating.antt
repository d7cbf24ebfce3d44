-- What a stop leaves while some description is written.
use Rattle.std.proofs.Common.{ℕ, ◌≡◌, ◌∙◌, sym, subst, inl, inr, ⊎_elim}
use Rattle.dms_moments.specs.Moments.{Clock}
use Rattle.dms_moments.specs.MomentLaws.{runs_weaken}
use Rattle.dms_desc.specs.Shape.{Described}
use Rattle.dms_descfile.specs.Becoming.{Creates}
use Rattle.dms_descfile.specs.DescriptionFile.{sealed_file}
use Rattle.dms_site.specs.Files.{Files, Left}
use Rattle.dms_creation.specs.Creation.{IsMade, IsCreation}
use Rattle.dms_top.specs.Compiling.{CreatesSome}

pub some_created : (d : Described) (files : Files) (a b : Clock Left) → Creates (sealed_file d) files a b → CreatesSome files a b
some_created d files a b run = runs_weaken run (λ x p. ⊎_elim (λ now. inl now) (λ is. inr (d, is)) p)

-- a new database stays as it is while something is printed
pub made_said : (tag : ℕ) (d : Described) (old files : Files) (y x : Left) → y.files ≡ files → x.files ≡ y.files → IsMade tag d old files → IsCreation tag d old x
made_said tag d old files y x from same made = inr (subst (λ (l : Files). IsMade tag d old l) (sym (same ∙ from)) made)
