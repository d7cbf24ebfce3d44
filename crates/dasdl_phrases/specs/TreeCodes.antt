-- A condition as a tree, and as the list of its parts, each operand before what joins it.
use Rattle.std.specs.Prelude.{ℕ, zero, suc, ◌≡◌, ◌⊎◌, refl, List, [], ◌∷◌, ◌++◌}
use Rattle.std.specs.Coded.{Coded, code_by, coded×, coded_ℕ, coded_list, coded⊎}
use Rattle.std.proofs.Common.{ap, ◌∙◌, inl, inr}
use Rattle.dms_base.specs.declared.op.Op.{Op}
use Rattle.dms_base.specs.declared.op.Op.TheVariants.{Equal}
use Rattle.dms_base.specs.declared.kind.Literal.{Literal}
use Rattle.dms_base.specs.declared.kind.Literal.TheVariants.{Null}
use Rattle.dms_base.specs.contracts.op.Op as op_row
use Rattle.dms_base.specs.contracts.kind.Literal as literal_row

-- what is compared, or two conditions joined, or one turned
pub data WrittenTree : Type 0 where
  Test : List ℕ → Op → Literal → WrittenTree
  Both : WrittenTree → WrittenTree → WrittenTree
  Either : WrittenTree → WrittenTree → WrittenTree
  Turned : WrittenTree → WrittenTree

-- a comparison, or 0 for AND, 1 for OR, 2 for NOT
abbrev pub WrittenPart : Type 0
WrittenPart = (List ℕ × (Op × Literal)) ⊎ ℕ

abbrev pub parts : WrittenTree → List WrittenPart
parts (Test name op literal) = inl (name, (op, literal)) ∷ []
parts (Both a b) = parts a ++ (parts b ++ inr 0 ∷ [])
parts (Either a b) = parts a ++ (parts b ++ inr 1 ∷ [])
parts (Turned a) = parts a ++ inr 2 ∷ []

-- a part takes its operands, the last one first
abbrev pub take_operands : WrittenPart → List WrittenTree → List WrittenTree
take_operands (inl c) ts = Test c.0 c.1.0 c.1.1 ∷ ts
take_operands (inr zero) (b ∷ a ∷ ts) = Both a b ∷ ts
take_operands (inr (suc zero)) (b ∷ a ∷ ts) = Either a b ∷ ts
take_operands (inr (suc (suc n))) (a ∷ ts) = Turned a ∷ ts
take_operands (inr n) ts = ts

abbrev pub build_trees : List WrittenPart → List WrittenTree → List WrittenTree
build_trees [] ts = ts
build_trees (p ∷ ps) ts = build_trees ps (take_operands p ts)

abbrev pub first_tree : List WrittenTree → WrittenTree
first_tree [] = Test [] Equal Null
first_tree (t ∷ ts) = t

built-append : (ps qs : List WrittenPart) (ts : List WrittenTree) → build_trees (ps ++ qs) ts ≡ build_trees qs (build_trees ps ts)
built-append [] qs ts = refl
built-append (p ∷ ps) qs ts = built-append ps qs (take_operands p ts)

built-parts : (t : WrittenTree) (ts : List WrittenTree) → build_trees (parts t) ts ≡ t ∷ ts
built-parts (Test name op literal) ts = refl
built-parts (Both a b) ts =
    built-append (parts a) (parts b ++ inr 0 ∷ []) ts
    ∙ ap (λ (us : List WrittenTree). build_trees (parts b ++ inr 0 ∷ []) us) (built-parts a ts)
    ∙ built-append (parts b) (inr 0 ∷ []) (a ∷ ts)
    ∙ ap (λ (us : List WrittenTree). build_trees (inr 0 ∷ []) us) (built-parts b (a ∷ ts))
built-parts (Either a b) ts =
    built-append (parts a) (parts b ++ inr 1 ∷ []) ts
    ∙ ap (λ (us : List WrittenTree). build_trees (parts b ++ inr 1 ∷ []) us) (built-parts a ts)
    ∙ built-append (parts b) (inr 1 ∷ []) (a ∷ ts)
    ∙ ap (λ (us : List WrittenTree). build_trees (inr 1 ∷ []) us) (built-parts b (a ∷ ts))
built-parts (Turned a) ts =
    built-append (parts a) (inr 2 ∷ []) ts
    ∙ ap (λ (us : List WrittenTree). build_trees (inr 2 ∷ []) us) (built-parts a ts)

pub tree_again : (t : WrittenTree) → first_tree (build_trees (parts t) []) ≡ t
tree_again t = ap first_tree (built-parts t [])

abbrev pub tree_code : Coded WrittenTree
tree_code = code_by (List WrittenPart) (coded_list (coded⊎ (coded× (coded_list coded_ℕ) (coded× op_row.the_row.coded literal_row.the_row.coded)) coded_ℕ)) parts (λ ps. first_tree (build_trees ps [])) tree_again
