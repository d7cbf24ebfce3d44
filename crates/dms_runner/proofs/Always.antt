-- What holds anyway holds at Ok, and what follows from what holds there.
use Rattle.std.proofs.Common.{◌≡◌, ◌∙◌, ap, sym, Ok, Err, OnOk, IfOk, Result}

pub always_ok : {T E : Type 0} (r : Result T E) (P : Type 0) → P → OnOk r P
always_ok (Ok x) P p = p
always_ok (Err e) P p = tt

pub then_ok : {T E : Type 0} (r : Result T E) (P Q : T → Type 0) → ((x : T) → P x → Q x) → IfOk r P → IfOk r Q
then_ok (Ok x) P Q f p = f x p
then_ok (Err e) P Q f p = tt

pub then_on : {T E : Type 0} (r : Result T E) (P Q : Type 0) → (P → Q) → OnOk r P → OnOk r Q
then_on (Ok x) P Q f p = f p
then_on (Err e) P Q f p = tt

-- and what follows from two things
pub then_both : {T E : Type 0} (r : Result T E) (P Q R : Type 0) → (P → Q → R) → OnOk r P → OnOk r Q → OnOk r R
then_both (Ok x) P Q R f p q = f p q
then_both (Err e) P Q R f p q = tt

or_this : {T E : Type 0} → Result T E → E → E
or_this (Ok x) e = e
or_this (Err e) x = e

-- the same fault, of whatever else would be answered
pub fault_as : {T U E : Type 0} (r : Result T E) (s : Result U E) (a b : E) → r ≡ Err a → s ≡ Err a → r ≡ Err b → s ≡ Err b
unfolding or_this
fault_as r s a b first second same = second ∙ ap Err (ap (λ x. or_this x a) (sym first ∙ same))
