-- The numbers of kinds and forms, as a description spells them.
use Rattle.std.proofs.Common.{◌≡◌, ◌≤◌, ℕ, true, Option, Some, None, zero, suc, refl, arith}
use Rattle.dms_base.specs.declared.kind.SetForm.{SetForm}
use Rattle.dms_base.specs.declared.kind.SetForm.TheVariants.{IndexSequential, OrderedList}
use Rattle.dms_base.specs.declared.kind.StructureKind.{StructureKind}
use Rattle.dms_base.specs.declared.kind.StructureKind.TheVariants.{DataSet, RestartDataSet, Set, AutomaticSubset, ManualSubset}
use Rattle.std.specs.Option.{is_some, is_none}
use Rattle.std.specs.Prelude.{◌==◌, nat_le}
use Rattle.std.proofs.lemmas.Bool.{and_parts, leb-true}
use Rattle.dms_desc.specs.Shape.{kind_number, form_number}
use Rattle.dms_desc_bytes.specs.Lists.{is_within}
use Rattle.dms_desc_bytes.specs.Reading.{known_kind, known_form}

-- a kind's number is from 1 to 5
pub kind_within : (k : StructureKind) → is_within 1 5 (kind_number k) ≡ true
kind_within DataSet = refl
kind_within RestartDataSet = refl
kind_within Set = refl
kind_within AutomaticSubset = refl
kind_within ManualSubset = refl

-- a form's number is 1 or 2, and 0 where there is none
pub form_within : (f : Option SetForm) → is_within 1 2 (form_number f) ≡ is_some f
form_within None = refl
form_within (Some IndexSequential) = refl
form_within (Some OrderedList) = refl

pub no_form : (f : Option SetForm) → (form_number f == 0) ≡ is_none f
no_form None = refl
no_form (Some IndexSequential) = refl
no_form (Some OrderedList) = refl

pub within_most : (least most n : ℕ) → is_within least most n ≡ true → n ≤ most
within_most least most n good = leb-true n most (and_parts (nat_le least n) (nat_le n most) good).1

-- a number of a kind, and of a form, is known
pub kind_known : (k : ℕ) → is_within 1 5 k ≡ true → known_kind k ≡ k
kind_known zero within = absurd cc
kind_known (suc zero) within = refl
kind_known (suc (suc zero)) within = refl
kind_known (suc (suc (suc zero))) within = refl
kind_known (suc (suc (suc (suc zero)))) within = refl
kind_known (suc (suc (suc (suc (suc zero))))) within = refl
kind_known (suc (suc (suc (suc (suc (suc k)))))) within =
    let most = within_most 1 5 (suc (suc (suc (suc (suc (suc k)))))) within in absurd (omega (arith, most))

pub form_known : (f : ℕ) → is_within 1 2 f ≡ true → known_form f ≡ f
form_known zero within = absurd cc
form_known (suc zero) within = refl
form_known (suc (suc zero)) within = refl
form_known (suc (suc (suc f))) within = let most = within_most 1 2 (suc (suc (suc f))) within in absurd (omega (arith, most))
