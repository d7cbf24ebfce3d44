-- How the logic stores a condition: as the list of its parts, each operand before what joins it.
use Rattle.std.specs.Prelude.{ℕ, zero, suc, ◌≡◌, ◌⊎◌, refl, List, [], ◌∷◌, ◌++◌}
use Rattle.std.specs.Coded.{Coded, code_by, coded×, coded_ℕ, coded_list, coded⊎}
use Rattle.std.proofs.Common.{ap, ◌∙◌, inl, inr}
use Rattle.dms_base.specs.declared.op.Op.{Op}
use Rattle.dms_base.specs.declared.value.Value.{Value}
use Rattle.dms_base.specs.contracts.op.Op as op_row
use Rattle.dms_base.specs.contracts.value.Value as value_row
use Rattle.dms_desc.specs.Shape.{Tree}
use Rattle.dms_desc.specs.Shape.Tree.{Empty, Test, Both, Either, Contrary}

-- a comparison, or 0 for none, 1 for AND, 2 for OR, 3 for NOT
abbrev pub Part : Type 0
Part = (ℕ × (Op × Value)) ⊎ ℕ

abbrev pub parts : Tree → List Part
parts Empty = inr 0 ∷ []
parts (Test item op value) = inl (item, (op, value)) ∷ []
parts (Both a b) = parts a ++ (parts b ++ inr 1 ∷ [])
parts (Either a b) = parts a ++ (parts b ++ inr 2 ∷ [])
parts (Contrary a) = parts a ++ inr 3 ∷ []

-- a part takes its operands, the last one first
abbrev pub take_operands : Part → List Tree → List Tree
take_operands (inl c) ts = Test c.0 c.1.0 c.1.1 ∷ ts
take_operands (inr zero) ts = Empty ∷ ts
take_operands (inr (suc zero)) (b ∷ a ∷ ts) = Both a b ∷ ts
take_operands (inr (suc (suc zero))) (b ∷ a ∷ ts) = Either a b ∷ ts
take_operands (inr (suc (suc (suc n)))) (a ∷ ts) = Contrary a ∷ ts
take_operands (inr n) ts = ts

abbrev pub build_trees : List Part → List Tree → List Tree
build_trees [] ts = ts
build_trees (p ∷ ps) ts = build_trees ps (take_operands p ts)

abbrev pub first_tree : List Tree → Tree
first_tree [] = Empty
first_tree (t ∷ ts) = t

built-append : (ps qs : List Part) (ts : List Tree) → build_trees (ps ++ qs) ts ≡ build_trees qs (build_trees ps ts)
built-append [] qs ts = refl
built-append (p ∷ ps) qs ts = built-append ps qs (take_operands p ts)

built-parts : (t : Tree) (ts : List Tree) → build_trees (parts t) ts ≡ t ∷ ts
built-parts Empty ts = refl
built-parts (Test item op value) ts = refl
built-parts (Both a b) ts =
    built-append (parts a) (parts b ++ inr 1 ∷ []) ts
    ∙ ap (λ (us : List Tree). build_trees (parts b ++ inr 1 ∷ []) us) (built-parts a ts)
    ∙ built-append (parts b) (inr 1 ∷ []) (a ∷ ts)
    ∙ ap (λ (us : List Tree). build_trees (inr 1 ∷ []) us) (built-parts b (a ∷ ts))
built-parts (Either a b) ts =
    built-append (parts a) (parts b ++ inr 2 ∷ []) ts
    ∙ ap (λ (us : List Tree). build_trees (parts b ++ inr 2 ∷ []) us) (built-parts a ts)
    ∙ built-append (parts b) (inr 2 ∷ []) (a ∷ ts)
    ∙ ap (λ (us : List Tree). build_trees (inr 2 ∷ []) us) (built-parts b (a ∷ ts))
built-parts (Contrary a) ts =
    built-append (parts a) (inr 3 ∷ []) ts
    ∙ ap (λ (us : List Tree). build_trees (inr 3 ∷ []) us) (built-parts a ts)

pub tree_again : (t : Tree) → first_tree (build_trees (parts t) []) ≡ t
tree_again t = ap first_tree (built-parts t [])

abbrev pub tree_code : Coded Tree
tree_code = code_by (List Part) (coded_list (coded⊎ (coded× coded_ℕ (coded× op_row.the_row.coded value_row.the_row.coded)) coded_ℕ)) parts (λ ps. first_tree (build_trees ps [])) tree_again
