-- One thing is taken behind another.
use Rattle.std.proofs.Common.{ℕ, ◌+◌, ◌<◌, ◌∙◌, sym, ap, subst, List, length}
use Rattle.std.specs.declared.option.Option.{Option}
use Rattle.dms_stream.specs.declared.fault.StreamFault.{StreamFault}
use Rattle.dms_stream.specs.declared.fault.StreamFault.TheVariants.{Input, Bytes, Bad, Memory}
use Rattle.dms_stream.specs.declared.reader.StreamReader.{StreamReader}
use Rattle.dms_stream.specs.Taking.{Taken, then_take, IsTaken, NotTaken}

pub both_taken : {A B : Type 0} (t : Taken A) (f : A → ℕ → List ℕ → Taken B) (sum : ℕ) (mid new : StreamReader) (left left' : Option (List ℕ)) (x : A) (y : B)
    → (a : IsTaken t sum mid left x) → IsTaken (f x (mid.taken + 1) a.rest) (mid.taken + length a.rest) new left' y → IsTaken (then_take t f) sum new left' y
both_taken t f sum mid new left left' x y a b = record { rest = b.rest; is = ap (λ u. then_take u f) a.is ∙ b.is; remains = b.remains; size = a.size ∙ b.size }

pub first_not : {A B : Type 0} (t : Taken A) (f : A → ℕ → List ℕ → Taken B) (sum : ℕ) (e : StreamFault) → NotTaken t sum e → NotTaken (then_take t f) sum e
first_not t f sum Input is = is
first_not t f sum Bytes is = is
first_not t f sum (Bad q) is = ap (λ u. then_take u f) is
first_not t f sum Memory is = is

pub second_not : {A B : Type 0} (t : Taken A) (f : A → ℕ → List ℕ → Taken B) (sum : ℕ) (mid : StreamReader) (left : Option (List ℕ)) (x : A) (e : StreamFault)
    → (a : IsTaken t sum mid left x) → NotTaken (f x (mid.taken + 1) a.rest) (mid.taken + length a.rest) e → NotTaken (then_take t f) sum e
second_not t f sum mid left x Input a is = is
second_not t f sum mid left x Bytes a is = subst (λ (n : ℕ). 2147483648 < n) (sym a.size) is
second_not t f sum mid left x (Bad q) a is = ap (λ u. then_take u f) a.is ∙ is
second_not t f sum mid left x Memory a is = is
