use Rattle.std.proofs.Common.{◌≡◌, ◌∷◌, ◌∙◌, ap, subst, ℕ, List}
use Rattle.dms_desc.specs.Shape.{as_described}
use Rattle.dms_moments.specs.Moments.{Steps}
use Rattle.dms_site.specs.Files.{OnDisk}
use Rattle.dms_descfile.specs.Becoming.{Becoming, Creates}
use Rattle.dms_descfile.specs.DescriptionFile.{sealed_file}
use Rattle.dms_descfile.proofs.Created.{creates_nothing}
use Rattle.dms_descfile.proofs.writing.seal_description.Goals as goal

pub returns-in-Err-clause-creates : goal.returns-in-Err-clause-creates
returns-in-Err-clause-creates g c tells = creates_nothing _ _ _

pub returns-in-Ok-write_stable-clause-written : goal.returns-in-Ok-write_stable-clause-written
returns-in-Ok-write_stable-clause-written g c tells =
    let is : 1 ∷ 0 ∷ c.as_slice.result.now ≡ sealed_file (as_described c.args.desc.now) = ap (λ (l : List ℕ). 1 ∷ 0 ∷ l) c.as_slice.ensures ∙ c.in-Ok.ensures.file in
    c.in-Ok-write_stable.ensures.written tells ∙ is

pub returns-in-Ok-write_stable-clause-moments : goal.returns-in-Ok-write_stable-clause-moments
returns-in-Ok-write_stable-clause-moments g c tells =
    let is : 1 ∷ 0 ∷ c.as_slice.result.now ≡ sealed_file (as_described c.args.desc.now) = ap (λ (l : List ℕ). 1 ∷ 0 ∷ l) c.as_slice.ensures ∙ c.in-Ok.ensures.file in
    subst (λ (l : List ℕ). Steps (OnDisk 1 (Becoming l)) (g.S.Site.clock c.args.site.now) (g.S.Site.clock c.write_stable.new.site)) is (c.write_stable.ensures.moments tells)

pub returns-in-Ok-write_stable-clause-creates : goal.returns-in-Ok-write_stable-clause-creates
returns-in-Ok-write_stable-clause-creates g c tells =
    let is : 1 ∷ 0 ∷ c.as_slice.result.now ≡ sealed_file (as_described c.args.desc.now) = ap (λ (l : List ℕ). 1 ∷ 0 ∷ l) c.as_slice.ensures ∙ c.in-Ok.ensures.file in
    subst (λ (l : List ℕ). Creates l (g.S.Site.files c.args.site.now) (g.S.Site.clock c.args.site.now) (g.S.Site.clock c.write_stable.new.site)) is (c.write_stable.ensures.creates tells)

pub returns-clause-moments : goal.returns-clause-moments
returns-clause-moments g c tells =
    let is : 1 ∷ 0 ∷ c.as_slice.result.now ≡ sealed_file (as_described c.args.desc.now) = ap (λ (l : List ℕ). 1 ∷ 0 ∷ l) c.as_slice.ensures ∙ c.in-Ok.ensures.file in
    subst (λ (l : List ℕ). Steps (OnDisk 1 (Becoming l)) (g.S.Site.clock c.args.site.now) (g.S.Site.clock c.write_stable.new.site)) is (c.write_stable.ensures.moments tells)

pub returns-clause-creates : goal.returns-clause-creates
returns-clause-creates g c tells =
    let is : 1 ∷ 0 ∷ c.as_slice.result.now ≡ sealed_file (as_described c.args.desc.now) = ap (λ (l : List ℕ). 1 ∷ 0 ∷ l) c.as_slice.ensures ∙ c.in-Ok.ensures.file in
    subst (λ (l : List ℕ). Creates l (g.S.Site.files c.args.site.now) (g.S.Site.clock c.args.site.now) (g.S.Site.clock c.write_stable.new.site)) is (c.write_stable.ensures.creates tells)
