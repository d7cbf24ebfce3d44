-- Laws of the list that a file's blocks spell in a form.
use Rattle.std.proofs.Common.{◌≡◌, ℕ, List, [], Bool, true, false, cond, Some, refl, ap, length, arith}
use Rattle.std.specs.Prelude.{◌==◌, ◌&&◌, not}
use Rattle.std.proofs.lemmas.Bool.Decides.{nat_tests}
use Rattle.dms_chain.specs.ListIn.{list_in}
use Rattle.dms_chain.specs.ListInLaws as list
use Rattle.dms_desc.specs.Kinds.{is_manual}
use Rattle.dms_desc.specs.Shape.{Shape}
use Rattle.dms_lists.specs.declared.form.ListForm.{ListForm}
use Rattle.dms_lists.specs.declared.form.ListForm.TheVariants.{Tree, List as OneChain}
use Rattle.dms_lists.specs.Forms.{form_of, kept_in}
use Rattle.dms_tree.specs.TreeIn.{tree_in}
use Rattle.dms_tree.specs.TreeLaws as tree

tree_nothing : (width : ℕ) → tree_in width [] ≡ Some []
unfolding tree_in
tree_nothing width = refl

list_nothing : (width : ℕ) → list_in width [] ≡ Some []
unfolding list_in
list_nothing width = refl

-- a file of no blocks is the empty list in either form
pub nothing_kept : (form : ListForm) (width : ℕ) → kept_in form width [] ≡ Some []
nothing_kept Tree width = tree_nothing width
nothing_kept OneChain width = list_nothing width

pub none_kept : (form : ListForm) (width : ℕ) (bs xs : List (List ℕ)) → length bs ≡ 0 → kept_in form width bs ≡ Some xs → xs ≡ []
none_kept Tree width bs xs none is = tree.none_is width bs xs none is
none_kept OneChain width bs xs none is = list.none_is width bs xs none is

-- a manual subset is kept in a list
pub manual_form : (s : Shape) → s.kind ≡ 5 → form_of s ≡ OneChain
manual_form s is =
    let manual : is_manual s ≡ true = grind (arith, nat_tests, is) in
    ap (λ (b : Bool). cond (not b && (s.form == 1)) Tree OneChain) manual

-- the two forms are apart
pub no_tree : ◌≡◌ {A = ListForm} OneChain Tree → ⊥
no_tree is = absurd (cc is)
