use Rattle.std.proofs.Common.{◌≡◌, ℕ, ℤ, pos, List, [], Bool, true, false, cond, refl, subst}
use Rattle.std.specs.Ordering.{nat_cmp, int_cmp, ordering_then}
use Rattle.std.specs.Cmp.Lexicographic.{slice_cmp}
use Rattle.std.specs.declared.cmp.Ordering.{Ordering}
use Rattle.std.specs.declared.cmp.Ordering.TheVariants.{Less, Equal, Greater}
use Rattle.std.specs.Cmp.{IsTotalOrder, nat_cmp_total, int_cmp_total}
use Rattle.std.proofs.lemmas.Cmp.{then_total, on_total, nat_list_cmp_total}
use Rattle.dms_base.specs.declared.value.Value.{Value}
use Rattle.dms_base.specs.declared.value.Value.TheVariants.{Null, Text, Number, Bool as Truth, Bits, Link}
use Rattle.dms_base.specs.Orders.{rank, truth_cmp, value_cmp}

abbrev text_in : Value → List ℕ
text_in (Text a) = a
text_in v = []

abbrev int_in : Value → ℤ
int_in (Number a) = a
int_in v = pos 0

abbrev nat_in : Value → ℕ
nat_in (Truth b) = cond b 1 0
nat_in (Bits n) = n
nat_in (Link n) = n
nat_in v = 0

-- the order as one chain of comparisons, each over all values
abbrev ranked_cmp : Value → Value → Ordering
ranked_cmp a b = ordering_then (nat_cmp (rank a) (rank b)) (ordering_then (slice_cmp nat_cmp (text_in a) (text_in b)) (ordering_then (int_cmp (int_in a) (int_in b)) (nat_cmp (nat_in a) (nat_in b))))

then_nothing : (o : Ordering) → ordering_then o Equal ≡ o
then_nothing Less = refl
then_nothing Equal = refl
then_nothing Greater = refl

truths : (a b : Bool) → ranked_cmp (Truth a) (Truth b) ≡ truth_cmp a b
truths false false = refl
truths false true = refl
truths true false = refl
truths true true = refl

ranked_is : (a b : Value) → ranked_cmp a b ≡ value_cmp a b
ranked_is (Text a) (Text b) = then_nothing (slice_cmp nat_cmp a b)
ranked_is (Number a) (Number b) = then_nothing (int_cmp a b)
ranked_is (Truth a) (Truth b) = truths a b
ranked_is (Bits a) (Bits b) = refl
ranked_is (Link a) (Link b) = refl
ranked_is Null Null = refl
ranked_is a b = refl

pub value_total : IsTotalOrder value_cmp
value_total = subst IsTotalOrder (λ i. λ a b. ranked_is a b i)
    (then_total (on_total rank nat_cmp_total) (then_total (on_total text_in nat_list_cmp_total) (then_total (on_total int_in int_cmp_total) (on_total nat_in nat_cmp_total))))
