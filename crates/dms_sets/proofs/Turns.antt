-- One turn of the loop over all structures.
use Rattle.std.proofs.Common.{◌≡◌, ℕ, zero, suc, ◌+◌, ◌-◌, ◌*◌, ◌<◌, ◌≤◌, List, [], ◌∷◌, Bool, Some, sym, ap, ◌∙◌, subst, map, length, get_or, slice_get, arith}
use Rattle.std.proofs.lemmas.List.{length-map}
use Rattle.std.specs.declared.option.Option.{Option}
use Rattle.dms_base.specs.declared.kind.ItemKind.{ItemKind}
use Rattle.dms_desc.specs.declared.record.Record.{Record}
use Rattle.dms_desc.specs.declared.structure.Structure.{Structure}
use Rattle.dms_desc.specs.Shape.{Shape, shape_of}
use Rattle.dms_sets.specs.Changes.{ListsOf, IfListed, OneChanged, list_of_set}

got_at : (ss : List Structure) (k : ℕ) (x : Structure) → k < length ss → x ≡ get_or ss k x → slice_get (map shape_of ss) k ≡ Some (shape_of x)
got_at [] k x low h = absurd (omega (arith, low))
got_at (s ∷ ss) zero x low h = ap (λ (y : Structure). Some (shape_of y)) (sym h)
got_at (s ∷ ss) (suc k) x low h = got_at ss k x (omega (arith, low)) h

-- the structure of a turn is that of the description
pub shape_at : (items ss : List Structure) (k : ℕ) (x : Structure) → items ≡ ss → k < length items → x ≡ get_or items k x → slice_get (map shape_of ss) k ≡ Some (shape_of x)
shape_at items ss k x same low h = got_at ss k x (subst (λ (l : List Structure). k < length l) same low) (h ∙ ap (λ (l : List Structure). get_or l k x) same)

pub low_at : (items ss : List Structure) (k : ℕ) → items ≡ ss → k < length items → k + 1 ≤ length ss
low_at items ss k same low = omega (arith, low, ap (λ (l : List Structure). length l) same)

pub shapes_long : (ss : List Structure) → length (map shape_of ss) ≡ length ss
shapes_long ss = length-map ss shape_of

pub one_as : (s : Shape) (number : ℕ) (old new : Option Record) (a z : ListsOf) (ks kinds : List ItemKind) (b refused : Bool) → ks ≡ kinds → b ≡ refused
    → IfListed (list_of_set a ks s) (λ xs. OneChanged ks s number old new xs (list_of_set z ks s) b) → IfListed (list_of_set a kinds s) (λ xs. OneChanged kinds s number old new xs (list_of_set z kinds s) refused)
one_as s number old new a z ks kinds b refused same is h =
    subst (λ (k : List ItemKind). IfListed (list_of_set a k s) (λ xs. OneChanged k s number old new xs (list_of_set z k s) refused)) same
    (subst (λ (t : Bool). IfListed (list_of_set a ks s) (λ xs. OneChanged ks s number old new xs (list_of_set z ks s) t)) is h)

pub two_more : (k : ℕ) → 2 * k + 2 ≡ 2 * (k + 1)
two_more k = omega arith

pub two_all : (k n : ℕ) → k + 1 ≤ n → (2 * k + 2) + (2 * n - (2 * k + 2)) ≡ 2 * n
two_all k n le = omega (arith, le)
