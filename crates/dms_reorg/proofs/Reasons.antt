-- Structures by their numbers, one after another, and which of them stand in a new description.
use Rattle.std.proofs.Common.{◌≡◌, ◌<◌, ◌≤◌, ◌+◌, ◌-◌, ℕ, zero, suc, List, Some, None, Option, false, eqb, length, map, drop, get_or, refl, sym, ap, ◌∙◌, subst, arith, below_more}
use Rattle.std.specs.Prelude.{slice_get, option_map}
use Rattle.std.proofs.lemmas.Bool.Decides.{nat_tests}
use Rattle.std.proofs.lemmas.Option.{none-some, same_Some, slice_get-map, slice_get_read, slice_get_within}
use Rattle.dms_desc.specs.declared.structure.Structure.{Structure}
use Rattle.dms_desc.specs.declared.structure.Item.{Item}
use Rattle.dms_desc.specs.Lookups.{items_of, structure_at, structure_of}
use Rattle.dms_desc.specs.Shape.{Described, Shape, shape_of}
use Rattle.dms_desc.specs.Sorted.{first}
use Rattle.dms_reorg.specs.Extends.{KeepsStructure}
use Rattle.dms_reorg.specs.Refusals.{Each, EachBelow, IsFirstChanged, IsFirstLacking, Stands, first_lacking, lacks_value}

-- the structure with the number above a place stands there
pub at_place : (ss : List Shape) (k : ℕ) → structure_at ss (k + 1) ≡ slice_get ss k
at_place ss k =
    let e : eqb (k + 1) 0 ≡ false = grind (arith, nat_tests) in
    let f : k + 1 - 1 ≡ k = omega arith in
    rw (e, f)

pub structure_next : (ss : List Structure) (k : ℕ) → structure_at (map shape_of ss) (k + 1) ≡ option_map shape_of (slice_get ss k)
structure_next ss k = at_place (map shape_of ss) k ∙ slice_get-map shape_of ss k

pub structure_read : (items ss : List Structure) (k : ℕ) (s : Structure) → items ≡ ss → k < length items → s ≡ get_or items k s → structure_at (map shape_of ss) (k + 1) ≡ Some (shape_of s)
structure_read items ss k s same low is =
    let there : slice_get items k ≡ Some s = slice_get_read items (length items) k s refl low is in
    structure_next ss k ∙ ap (λ (o : Option Structure). option_map shape_of o) (ap (λ (l : List Structure). slice_get l k) (sym same) ∙ there)

module _ (desc : Described) (P : ℕ → Shape → Type 0) where
  pub none_below : EachBelow 1 desc P
  none_below zero low s is = absurd (none-some s is)
  none_below (suc n) low s is = absurd (omega arith)

  pub one_more : (k : ℕ) (s : Shape) → structure_of desc (k + 1) ≡ Some s → EachBelow (k + 1) desc P → P (k + 1) s → EachBelow (k + 1 + 1) desc P
  one_more k s here below is =
      below_more (λ n. (t : Shape) → structure_of desc n ≡ Some t → P n t) (k + 1) below (λ t at. subst (P (k + 1)) (same_Some s t (sym here ∙ at)) is)

  within : (n : ℕ) (s : Shape) → structure_of desc n ≡ Some s → n < length desc.structures + 1
  within zero s is = omega arith
  within (suc n) s is =
      let e : suc n ≡ n + 1 = omega arith in
      let low = slice_get_within desc.structures n s (sym (at_place desc.structures n) ∙ (rw e at is)) in
      omega (arith, low)

  pub all_there : (k : ℕ) → length desc.structures ≤ k → EachBelow (k + 1) desc P → Each desc P
  all_there k long below n s is = let low = within n s is in below n (omega (arith, low, long)) s is

module _ (new : Described) (n : ℕ) (s : Shape) where
  pub stands_nowhere : structure_of new n ≡ None → Stands new n s → ⊥
  stands_nowhere none h = none-some h.now (sym none ∙ h.is)

  pub stands_there : (t : Shape) → structure_of new n ≡ Some t → KeepsStructure s t → Stands new n s
  stands_there t here keeps = record { now = t; is = here; keeps = keeps }

  pub stood_there : (t : Shape) → structure_of new n ≡ Some t → Stands new n s → KeepsStructure s t
  stood_there t here h = subst (KeepsStructure s) (same_Some h.now t (sym h.is ∙ here)) h.keeps

-- the structure with the number above a place, where all below it stand, or lack no value
module _ (old new : Described) (k : ℕ) (s : Shape) (here : structure_of old (k + 1) ≡ Some s) where
  pub changed_first : EachBelow (k + 1) old (Stands new) → (Stands new (k + 1) s → ⊥) → IsFirstChanged old new s.name
  changed_first below changed = record { number = k + 1; shape = s; was = here; changed = changed; before = below; name_is = refl }

  further_here : first_lacking old new (k + 1) ≡ first lacks_value (drop (length s.items) (items_of (structure_of new (k + 1))))
  further_here = ap (λ (o : Option Shape). first lacks_value (drop (length (items_of o)) (items_of (structure_of new (k + 1))))) here

  -- what the further items of this structure tell
  abbrev pub Tells : Option (List ℕ) → Type 0
  Tells r = r ≡ option_map (λ (i : Item). i.name) (first lacks_value (drop (length s.items) (items_of (structure_of new (k + 1)))))

  pub none_lacks : Tells None → first_lacking old new (k + 1) ≡ None
  none_lacks is = further_here ∙ by _ is
    where
      by : (o : Option Item) → None ≡ option_map (λ (i : Item). i.name) o → o ≡ None
      by None e = refl
      by (Some i) e = absurd (none-some i.name e)

  pub lacking_first : (name : List ℕ) → EachBelow (k + 1) old (λ n t. first_lacking old new n ≡ None) → Tells (Some name) → IsFirstLacking old new name
  lacking_first name below is = by (first lacks_value (drop (length s.items) (items_of (structure_of new (k + 1))))) further_here is
    where
      by : (o : Option Item) → first_lacking old new (k + 1) ≡ o → Some name ≡ option_map (λ (i : Item). i.name) o → IsFirstLacking old new name
      by None e h = absurd (none-some name (sym h))
      by (Some i) e h = record { number = k + 1; shape = s; item = i; was = here; lacks = e; before = below; name_is = same_Some i.name name (sym h) }
