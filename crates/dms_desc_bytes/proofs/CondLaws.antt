-- A condition that was written is read again.
use Rattle.std.proofs.Common.{◌≡◌, ℕ, zero, suc, ◌≤◌, true, List, ◌++◌, Option, Some, None, refl, ap, ◌∙◌, append_assoc, arith}
use Rattle.std.specs.Prelude.{not, ◌&&◌}
use Rattle.std.proofs.lemmas.Bool.{and_parts, not-true}
use Rattle.dms_base.specs.Fits.{fits}
use Rattle.dms_base.specs.Spelling.{is_kind}
use Rattle.dms_base.specs.declared.value.Value.{Value}
use Rattle.dms_base.specs.declared.op.Op.{Op}
use Rattle.dms_base.specs.declared.op.Op.TheVariants.{Equal as Same, NotEqual as Other, Less as Below, LessEqual as Most, Greater as Above, GreaterEqual as Least}
use Rattle.dms_desc.specs.declared.structure.Item.{Item}
use Rattle.dms_desc.specs.Shape.{Tree}
use Rattle.dms_desc.specs.Shape.Tree.{Empty, Test, Both, Either, Contrary}
use Rattle.dms_desc_bytes.specs.Conditions.{nodes, is_comparable, compares_well}
use Rattle.dms_desc.specs.Kinds.{is_link}
use Rattle.dms_desc_bytes.specs.Finding.{item_at}
use Rattle.dms_desc_bytes.specs.Members.{is_plain}
use Rattle.dms_desc_bytes.specs.Reading.{ReadBytes, op_of, test_at, tree_at}
use Rattle.dms_desc_bytes.specs.Spelling.{op_number, tree_bytes}
use Rattle.dms_desc_bytes.proofs.Fields.{Again}
use Rattle.dms_desc_bytes.proofs.Values.{SpelledValue, literal_again, value_spelled}

-- each of these items is of a kind that a schema can declare
abbrev pub Kinds : List Item → Type 0
Kinds items = (n : ℕ) (i : Item) → item_at items n ≡ Some i → is_kind i.kind ≡ true

comparable_spelled : (o : Option Item) (v : Value) → ((i : Item) → o ≡ Some i → is_kind i.kind ≡ true) → is_comparable o v ≡ true → SpelledValue v
comparable_spelled None v kinds good = absurd cc
comparable_spelled (Some i) v kinds good =
    let outer = and_parts (not (is_link i.kind) && fits i.kind v) (is_plain v) good in
    let inner = and_parts (not (is_link i.kind)) (fits i.kind v) outer.0 in
    value_spelled i.kind v (kinds i refl) inner.1 outer.1 (not-true (is_link i.kind) inner.0)

op_again : (op : Op) → op_of (op_number op) ≡ op
op_again Same = refl
op_again Other = refl
op_again Below = refl
op_again Most = refl
op_again Above = refl
op_again Least = refl

no_tree : (t : Tree) → 1 ≤ nodes t
no_tree Empty = omega arith
no_tree (Test item op v) = omega arith
no_tree (Both a b) = omega arith
no_tree (Either a b) = omega arith
no_tree (Contrary a) = omega arith

pub nothing_again : Again (tree_at 100) (tree_bytes Empty) Empty
unfolding tree_at
nothing_again rest = refl

abbrev both_on : (List ℕ → ReadBytes Tree) → ReadBytes Tree → ReadBytes Tree
both_on part a = (Both a.0 (part a.1).0, (part a.1).1)

abbrev either_on : (List ℕ → ReadBytes Tree) → ReadBytes Tree → ReadBytes Tree
either_on part a = (Either a.0 (part a.1).0, (part a.1).1)

pub tree_again : (items : List Item) → Kinds items → (levels : ℕ) (t : Tree) → nodes t ≤ levels → compares_well items t ≡ true → Again (tree_at levels) (tree_bytes t) t
unfolding tree_at test_at
tree_again items kinds zero t few good rest = absurd (omega (arith, few, no_tree t))
tree_again items kinds (suc l) Empty few good rest = absurd cc
tree_again items kinds (suc l) (Test item op v) few good rest =
    let spelled = comparable_spelled (item_at items item) v (kinds item) good in
    ap (λ (r : ReadBytes Value). (Test item (op_of (op_number op)) r.0, r.1)) (literal_again v spelled rest)
    ∙ ap (λ (o : Op). (Test item o v, rest)) (op_again op)
tree_again items kinds (suc l) (Both a b) few good rest =
    let parts = and_parts (compares_well items a) (compares_well items b) good in
    let first = tree_again items kinds l a (omega (arith, few)) parts.0 in
    let second = tree_again items kinds l b (omega (arith, few)) parts.1 in
    ap (λ (bytes : List ℕ). both_on (tree_at l) (tree_at l bytes)) (append_assoc (tree_bytes a) (tree_bytes b) rest)
    ∙ ap (both_on (tree_at l)) (first (tree_bytes b ++ rest))
    ∙ ap (λ (r : ReadBytes Tree). (Both a r.0, r.1)) (second rest)
tree_again items kinds (suc l) (Either a b) few good rest =
    let parts = and_parts (compares_well items a) (compares_well items b) good in
    let first = tree_again items kinds l a (omega (arith, few)) parts.0 in
    let second = tree_again items kinds l b (omega (arith, few)) parts.1 in
    ap (λ (bytes : List ℕ). either_on (tree_at l) (tree_at l bytes)) (append_assoc (tree_bytes a) (tree_bytes b) rest)
    ∙ ap (either_on (tree_at l)) (first (tree_bytes b ++ rest))
    ∙ ap (λ (r : ReadBytes Tree). (Either a r.0, r.1)) (second rest)
tree_again items kinds (suc l) (Contrary a) few good rest =
    let first = tree_again items kinds l a (omega (arith, few)) good in
    ap (λ (r : ReadBytes Tree). (Contrary r.0, r.1)) (first rest)
