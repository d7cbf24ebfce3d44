-- Two tests at once.
use Rattle.std.specs.Prelude.{Bool, true, false, ◌&&◌, IsTrue, refl}

-- where both hold each one does
pub first_of : (a b : Bool) → IsTrue (a && b) → IsTrue a
first_of true b h = refl
first_of false b h = h

pub second_of : (a b : Bool) → IsTrue (a && b) → IsTrue b
second_of true b h = h
second_of false true h = refl
second_of false false h = h

pub both_of : (a b : Bool) → IsTrue a → IsTrue b → IsTrue (a && b)
both_of true b one two = two
both_of false b one two = one
