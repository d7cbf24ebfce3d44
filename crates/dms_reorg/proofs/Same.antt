-- When two values, two parts of keys, or two groups are one.
use Rattle.std.proofs.Common.{◌≡◌, ◌&&◌, ℕ, true, false, eqb, length, arith, refl, sym, ap, subst, ◌∙◌}
use Rattle.std.specs.Bool.{Decides}
use Rattle.std.specs.Ordering.{is_eq, nat_cmp, int_cmp}
use Rattle.std.specs.Cmp.{booleans_Decides, ranked_equal}
use Rattle.std.specs.Str.{bytes_eq}
use Rattle.std.proofs.Math.Bool.{beq}
use Rattle.std.proofs.lemmas.Bool.{false≢true}
use Rattle.std.proofs.lemmas.Bool.Decides.{Decides-and, Decides-eqb, Decides-like, nat_tests}
use Rattle.std.proofs.lemmas.Cmp.{int_ranked, tied_itself}
use Rattle.std.proofs.lemmas.Map.Text.{is_eq-slice_cmp}
use Rattle.std.proofs.lemmas.Slice.Eq.{bytes_eq-Decides}
use Rattle.dms_base.specs.declared.value.Value.{Value}
use Rattle.dms_base.specs.declared.value.Value.TheVariants.{Null, Text, Number, Bool as Truth, Bits, Link}
use Rattle.dms_base.specs.Filled.{fill_name}
use Rattle.dms_base.specs.Orders.{value_cmp}
use Rattle.dms_base.proofs.NameTests.{Name-eq-Decides}
use Rattle.dms_base.proofs.Totals.{value_total}
use Rattle.dms_desc.specs.declared.structure.Group.{Group}
use Rattle.dms_desc.specs.declared.structure.KeyPart.{KeyPart}

tied : (a b : ℕ) → is_eq (nat_cmp a b) ≡ true → a ≡ b
tied a b e = grind (arith, nat_tests)

one_value : (a b : Value) → is_eq (value_cmp a b) ≡ true → a ≡ b
one_value (Text a) (Text b) e = ap Text ((bytes_eq-Decides a b).0 (sym (is_eq-slice_cmp a b) ∙ e))
one_value (Number a) (Number b) e = ap Number ((ranked_equal a b (int_cmp a b) (int_ranked a b (int_cmp a b) refl)).0 e)
one_value (Truth false) (Truth false) e = refl
one_value (Truth true) (Truth true) e = refl
one_value (Bits a) (Bits b) e = ap Bits (tied a b e)
one_value (Link a) (Link b) e = ap Link (tied a b e)
one_value Null Null e = refl
one_value a b e = absurd (false≢true e)

-- values that tie in their order are one
pub tied_values-Decides : (a b : Value) → Decides (is_eq (value_cmp a b)) (a ≡ b)
tied_values-Decides a b = (one_value a b, λ e. ap is_eq (subst (λ (v : Value). value_cmp a v ≡ value_cmp a a) e refl ∙ tied_itself value_total a))

-- the derived `==` of parts of keys, and of groups, decides whether they are one
pub parts-Decides : (a b : KeyPart) → Decides (eqb a.item b.item && beq a.descending b.descending) (a ≡ b)
parts-Decides a b =
    Decides-like _ (λ h. λ i. record { item = h.0 i; descending = h.1 i }) (λ e. (ap (λ (p : KeyPart). p.item) e, ap (λ (p : KeyPart). p.descending) e))
    (Decides-and (eqb a.item b.item) (beq a.descending b.descending) (Decides-eqb a.item b.item) (booleans_Decides a.descending b.descending))

pub groups-Decides : (a b : Group) → Decides ((eqb (length a.name) (length b.name) && bytes_eq (fill_name a.name) (fill_name b.name)) && (eqb a.first b.first && eqb a.count b.count)) (a ≡ b)
groups-Decides a b =
    Decides-like _ (λ h. λ i. record { name = h.0 i; first = h.1.0 i; count = h.1.1 i })
    (λ e. (ap (λ (g : Group). g.name) e, (ap (λ (g : Group). g.first) e, ap (λ (g : Group). g.count) e)))
    (Decides-and _ (eqb a.first b.first && eqb a.count b.count) (Name-eq-Decides a.name b.name)
    (Decides-and (eqb a.first b.first) (eqb a.count b.count) (Decides-eqb a.first b.first) (Decides-eqb a.count b.count)))
