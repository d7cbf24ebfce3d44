-- How runs and steps go on one after another.
use Rattle.std.proofs.Common.{◌⊎◌, inl, inr, ⊎_elim, arith}
use Rattle.dms_moments.specs.Moments.{Clock, Now, Runs, Steps}

module _ {X : Type 0} where
  -- no time has passed
  pub runs_none : (c : Clock X) (P : X → Type 0) → Runs c c P
  runs_none c P = record { later = omega arith; only = λ t x le now. inl now; keeps = λ t x le was. was }

  -- one run after another
  pub runs_on : {a b c : Clock X} {P Q : X → Type 0} → Runs a b P → Runs b c Q → ((x : X) → Q x → P x) → Runs a c P
  runs_on first then weaker = record {
    later = omega (arith, first.later, then.later);
    only = λ t x le left. ⊎_elim (λ was. first.only t x le was) (λ new. inr (weaker x new)) (then.only t x (omega (arith, le, first.later)) left);
    keeps = λ t x le was. then.keeps t x (omega (arith, le, first.later)) (first.keeps t x le was);
  }

  -- a run of which less is said
  pub runs_weaken : {a b : Clock X} {P Q : X → Type 0} → Runs a b P → ((x : X) → P x → Q x) → Runs a b Q
  runs_weaken run weaker = record {
    later = run.later;
    only = λ t x le left. ⊎_elim (λ was. inl was) (λ new. inr (weaker x new)) (run.only t x le left);
    keeps = run.keeps;
  }

  -- what a stop since the entry may leave
  pub runs_since : {a b : Clock X} {P : X → Type 0} → Runs a b P → (x : X) → b.left a.now x → Now a x ⊎ P x
  runs_since {a} run x left = run.only a.now x (omega arith) left

  -- One call after another, seen as one step. Of the three outcomes y is what a stop between the two may leave.
  pub steps_on : {a b c : Clock X} {r s t : X → X → Type 0} → Steps r a b → Steps s b c → ((x y z : X) → Now a x → Now b y → r x y → s y z → t x z) → ((x y : X) → Now a x → r x y → t x y) → Steps t a c
  steps_on {a} {b} {c} {r} {s} {t} first then both one = record {
    follows = λ x now. let y = then.follows x now in let z = first.follows y.0 y.1 in (z.0, z.1, both z.0 y.0 x z.1 y.1 z.2 y.2);
    runs = runs_on (runs_weaken first.runs (λ x after. (after.0, after.1, one after.0 x after.1 after.2))) then.runs
        (λ x after. let z = first.follows after.0 after.1 in (z.0, z.1, both z.0 after.0 x z.1 after.1 z.2 after.2));
  }

  -- steps of which less is said
  pub steps_weaken : {a b : Clock X} {r t : X → X → Type 0} → Steps r a b → ((x y : X) → Now a x → r x y → t x y) → Steps t a b
  steps_weaken first one = record {
    follows = λ x now. let y = first.follows x now in (y.0, y.1, one y.0 x y.1 y.2);
    runs = runs_weaken first.runs (λ x after. (after.0, after.1, one after.0 x after.1 after.2));
  }

  -- a run goes on by a call
  pub runs_step : {a b c : Clock X} {s : X → X → Type 0} {P : X → Type 0} → Runs a b P → Steps s b c → ((y x : X) → Now b y → s y x → P x) → Runs a c P
  runs_step so_far then here = runs_on so_far then.runs (λ x after. here after.0 x after.1 after.2)
