-- Where no item is a link, an area shows its values as they are.
use Rattle.std.proofs.Common.{◌≡◌, ◌∙◌, ◌+◌, ℕ, zero, suc, List, [], ◌∷◌, Bool, false, cond, Some, None, refl, sym, ap}
use Rattle.std.specs.Prelude.{slice_get}
use Rattle.std.specs.List.{list_any}
use Rattle.std.specs.declared.option.Option.{Option}
use Rattle.std.proofs.lemmas.Bool.{or_parts}
use Rattle.dms_base.specs.declared.value.Value.{Value}
use Rattle.dms_desc.specs.declared.structure.Item.{Item}
use Rattle.dms_desc.specs.Conds.{or_null}
use Rattle.dms_desc.specs.Kinds.{is_link}
use Rattle.dms_desc.specs.Lookups.{items_of, structure_of}
use Rattle.dms_desc.specs.Shape.{Described}
use Rattle.dms_findverbs.specs.Shows.{shown_of, shown_by}
use Rattle.dms_model.specs.Db.{Db}
use Rattle.dms_model.specs.Programs.{Program, Area}
use Rattle.dms_model.specs.Session.{area_number, area_of, area_values, current_of}
use Rattle.dms_model.specs.Stores.{is_link_item, kept_value, linked_from, old_of, values_of}

no_link_at : (items : List Item) (k : ℕ) → list_any (λ (i : Item). is_link i.kind) items ≡ false → is_link_item (slice_get items k) ≡ false
no_link_at [] k h = refl
no_link_at (i ∷ is) zero h = (or_parts (is_link i.kind) (list_any (λ (x : Item). is_link x.kind) is) h).0
no_link_at (i ∷ is) (suc k) h = no_link_at is k (or_parts (is_link i.kind) (list_any (λ (x : Item). is_link x.kind) is) h).1

kept_same : (o : Option Item) (old new : Value) → is_link_item o ≡ false → kept_value o old new ≡ new
kept_same None old new h = refl
kept_same (Some i) old new h = ap (λ (b : Bool). cond b old new) h

linked_none : (i : ℕ) (items : List Item) (olds vs : List Value) → list_any (λ (x : Item). is_link x.kind) items ≡ false → linked_from i items olds vs ≡ vs
linked_none i items olds [] h = refl
linked_none i items olds (v ∷ vs) h = λ j. kept_same (slice_get items i) (or_null (slice_get olds i)) v (no_link_at items i h) j ∷ linked_none (i + 1) items olds vs h j

pub shown_plain : (desc : Described) (db : Db) (p : Program) (set : ℕ) (a : Area) (items : List Item) (values : List Value) → area_of p set ≡ Some a → items ≡ items_of (structure_of desc set) → list_any (λ (x : Item). is_link x.kind) items ≡ false → values ≡ area_values a → Some values ≡ shown_of desc db p set
shown_plain desc db p set a items values has items_is none is =
    let off = ap (list_any (λ (x : Item). is_link x.kind)) (sym items_is) ∙ none in
    ap (λ (vs : List Value). Some vs) (is ∙ sym (linked_none 0 (items_of (structure_of desc set)) (values_of (old_of db set (area_number a (current_of p set)))) (area_values a) off))
    ∙ sym (ap (λ (o : Option Area). shown_by o desc db p set) has)
