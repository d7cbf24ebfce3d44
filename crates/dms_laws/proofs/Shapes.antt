-- What the kind of a structure says.
use Rattle.std.proofs.Common.{◌≡◌, Bool, true, false, cond, Some, refl, arith}
use Rattle.std.specs.Prelude.{nat_lt}
use Rattle.std.proofs.lemmas.Bool.{and_parts}
use Rattle.std.proofs.lemmas.Bool.Decides.{nat_tests}
use Rattle.dms_desc.specs.Kinds.{over}
use Rattle.dms_desc.specs.Shape.{Shape}
use Rattle.dms_model.specs.Valid.{is_data_set, is_set}

-- a data set is no set or subset
pub is_no_set : (s : Shape) → is_data_set (Some s) ≡ true → is_set s ≡ false
is_no_set s h = by (is_set s) refl
  where
    by : (b : Bool) → is_set s ≡ b → b ≡ false
    by true e =
        let low = (and_parts (nat_lt 2 s.kind) (nat_lt s.kind 6) e).0 in
        let high = (and_parts (nat_lt 0 s.kind) (nat_lt s.kind 3) h).1 in
        absurd (grind (arith, nat_tests, low, high))
    by false e = refl

-- a set or subset is over its data set
pub over_is : (s : Shape) → is_set s ≡ true → over s ≡ s.set
over_is s set = by (nat_lt s.kind 3) refl (and_parts (nat_lt 2 s.kind) (nat_lt s.kind 6) set).0
  where
    by : (b : Bool) → nat_lt s.kind 3 ≡ b → nat_lt 2 s.kind ≡ true → cond b s.number s.set ≡ s.set
    by true e h = absurd (grind (arith, nat_tests, e, h))
    by false e h = refl
