-- Calls that change nothing, before and after others.
use Rattle.std.proofs.Common.{◌≡◌, sym, ◌∙◌, subst}
use Rattle.dms_moments.specs.Moments.{Clock, Steps}
use Rattle.dms_moments.specs.MomentLaws.{steps_on}

module _ {X : Type 0} {a b c : Clock X} {step : X → X → Type 0} where
  -- a call that changes nothing, and then a step that may do nothing
  pub same_first : ((x : X) → step x x) → Steps (λ old new. new ≡ old) a b → Steps step b c → Steps step a c
  same_first none first then =
      steps_on first then
      (λ x y z now nowy one two. subst (λ w. step w z) one two)
      (λ x y now one. subst (λ w. step x w) (sym one) (none x))

  pub same_last : Steps step a b → Steps (λ old new. new ≡ old) b c → Steps step a c
  same_last first then = steps_on first then (λ x y z now nowy one two. subst (λ w. step x w) (sym two) one) (λ x y now one. one)

module _ {X : Type 0} {a b c : Clock X} where
  pub same_twice : Steps (λ (old new : X). new ≡ old) a b → Steps (λ (old new : X). new ≡ old) b c → Steps (λ (old new : X). new ≡ old) a c
  same_twice first then = steps_on first then (λ x y z now nowy one two. two ∙ one) (λ x y now one. one)
