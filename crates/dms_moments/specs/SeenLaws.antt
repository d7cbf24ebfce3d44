-- What the moments of a clock say of the clock of a layer above, and what a call leaves that only looks.
use Rattle.std.proofs.Common.{ℕ, ◌≤◌, ◌≡◌, inl, inr, ⊎_elim, refl, sym, ◌∙◌, subst}
use Rattle.dms_moments.specs.Moments.{Clock, Now, Runs, Steps, seen_by, seen_as}
use Rattle.dms_moments.specs.MomentLaws.{runs_weaken}

module _ {X Y : Type 0} (sees : X → Y → Type 0) where
  -- A run is a run of the layer above.
  pub runs_seen : {old new : Clock X} {P : X → Type 0} {Q : Y → Type 0} → Runs old new P → ((x : X) (y : Y) → P x → sees x y → Q y) → Runs (seen_by sees old) (seen_by sees new) Q
  runs_seen run leads = record {
    later = run.later;
    only = λ t y le left. ⊎_elim (λ was. inl (left.0, was, left.2)) (λ now. inr (leads left.0 y now left.2)) (run.only t left.0 le left.1);
    keeps = λ t y le left. (left.0, run.keeps t left.0 le left.1, left.2);
  }

  -- And down again, where each outcome is seen and none is seen as another.
  pub runs_below : {old new : Clock X} {Q : Y → Type 0} → ((x : X) → (y : Y) × sees x y) → ((x other : X) (y : Y) → sees x y → sees other y → other ≡ x)
      → Runs (seen_by sees old) (seen_by sees new) Q → Runs old new (λ x. (y : Y) × sees x y × Q y)
  runs_below {old} {new} total one run = record {
    later = run.later;
    only = λ t x le left. let y = total x in
        ⊎_elim (λ was. inl (subst (λ (z : X). old.left t z) (one x was.0 y.0 y.1 was.2) was.1)) (λ now. inr (y.0, y.1, now)) (run.only t y.0 le (x, left, y.1));
    keeps = λ t x le was. let y = total x in let z = run.keeps t y.0 le (x, was, y.1) in subst (λ (l : X). new.left t l) (one x z.0 y.0 y.1 z.2) z.1;
  }

module _ {X Y : Type 0} (f : X → Y) where
  -- The same where an outcome is seen as a value of it.
  pub runs_seen_as : {old new : Clock X} {Q : Y → Type 0} → Runs old new (λ x. Q (f x)) → Runs (seen_as f old) (seen_as f new) Q
  runs_seen_as {Q = Q} run = runs_seen (λ x y. y ≡ f x) run (λ x y now is. subst (λ (z : Y). Q z) (sym is) now)

  pub now_seen_as : (clock : Clock X) (Q : Y → Type 0) → ((x : X) → Now clock x → Q (f x)) → (y : Y) → Now (seen_as f clock) y → Q y
  now_seen_as clock Q leads y now = subst (λ (z : Y). Q z) (sym now.2) (leads now.0 now.1)

  pub runs_below_as : {old new : Clock X} {Q : Y → Type 0} → ((x other : X) → f other ≡ f x → other ≡ x) → Runs (seen_as f old) (seen_as f new) Q → Runs old new (λ x. Q (f x))
  runs_below_as {Q = Q} one run = runs_weaken (runs_below (λ x y. y ≡ f x) (λ x. (f x, refl)) (λ x other y is_x is_other. one x other (sym is_other ∙ is_x)) run)
      (λ x seen. subst (λ (z : Y). Q z) seen.1 seen.2)

module _ {X : Type 0} where
  -- A call that only looks adds no outcome to what a stop may leave.
  pub runs_same : {old new : Clock X} → ((t : ℕ) (x : X) → t ≤ old.now → Now old x → old.left t x) → Steps (λ x y. y ≡ x) old new → Runs old new (λ x. ⊥)
  runs_same {old} counts call = record {
    later = call.runs.later;
    only = λ t x le left. ⊎_elim (λ was. inl was) (λ after. inl (subst (λ (y : X). old.left t y) (sym after.2) (counts t after.0 le after.1))) (call.runs.only t x le left);
    keeps = call.runs.keeps;
  }

  -- So whatever is said of the outcomes of a run holds of it.
  pub runs_looking : {old new : Clock X} {P : X → Type 0} → ((t : ℕ) (x : X) → t ≤ old.now → Now old x → old.left t x) → Steps (λ x y. y ≡ x) old new → Runs old new P
  runs_looking counts call = runs_weaken (runs_same counts call) (λ x none. absurd none)

  -- And what each outcome of before has each outcome of after has.
  pub now_same : {old new : Clock X} (P : X → Type 0) → Steps (λ x y. y ≡ x) old new → ((x : X) → Now old x → P x) → (x : X) → Now new x → P x
  now_same P call all x now = let before = call.follows x now in subst (λ (y : X). P y) (sym before.2) (all before.0 before.1)
