-- Where a chain is read, each of its parts is.
use Rattle.std.proofs.Common.{◌≡◌, Bool, true, false, cond, refl}
use Rattle.std.specs.declared.result.Result.{Result}
use Rattle.std.specs.declared.result.Result.TheVariants.{Ok, Err}
use Rattle.dasdl_phrases.specs.declared.fault.ParseFault.{ParseFault}
use Rattle.dasdl_phrases.specs.Reads.{◌>>=◌}

pub bind_ok : {A B : Type 0} (r : Result A ParseFault) (f : A → Result B ParseFault) (y : B) → (r >>= f) ≡ Ok y → (x : A) × (r ≡ Ok x) × (f x ≡ Ok y)
bind_ok (Ok x) f y h = (x, refl, h)
bind_ok (Err e) f y h = absurd (cc)

-- a test that is passed
pub guard_ok : {A : Type 0} (b : Bool) (x y : A) (e : ParseFault) → cond b (Ok x) (Err e) ≡ Ok y → (b ≡ true) × (x ≡ y)
guard_ok true x y e h = (refl, cc)
guard_ok false x y e h = absurd (cc)

-- a fault that isn't met
pub skip_ok : {A : Type 0} (b : Bool) (e : ParseFault) (r : Result A ParseFault) (y : A) → cond b (Err e) r ≡ Ok y → (b ≡ false) × (r ≡ Ok y)
skip_ok true e r y h = absurd (cc)
skip_ok false e r y h = (refl, h)

pub ok_same : {A : Type 0} (x y : A) → ◌≡◌ {A = Result A ParseFault} (Ok x) (Ok y) → x ≡ y
ok_same x y h = cc
