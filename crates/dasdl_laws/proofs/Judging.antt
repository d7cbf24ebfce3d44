-- Where judging gives a value, each of its steps does.
use Rattle.std.proofs.Common.{◌≡◌, subst, Bool, true, false, cond, refl, ap, ◌∙◌, List, [], ◌∷◌, ◌++◌}
use Rattle.std.specs.declared.result.Result.TheVariants.{Ok, Err}
use Rattle.dasdl_compile.specs.declared.fault.CompileFault.{CompileFault}
use Rattle.dasdl_compile.specs.Answers.{Judged, ◌>>=◌, steps}

pub bind_ok : {A B : Type 0} (r : Judged A) (f : A → Judged B) (y : B) → (r >>= f) ≡ Ok y → (x : A) × (r ≡ Ok x) × (f x ≡ Ok y)
bind_ok (Ok x) f y h = (x, refl, h)
bind_ok (Err e) f y h = absurd (cc)

-- a fault that isn't met
pub skip_ok : {A : Type 0} (b : Bool) (e : CompileFault) (r : Judged A) (y : A) → cond b (Err e) r ≡ Ok y → (b ≡ false) × (r ≡ Ok y)
skip_ok true e r y h = absurd (cc)
skip_ok false e r y h = (refl, h)

pub ok_same : {A : Type 0} (x y : A) → ◌≡◌ {A = Judged A} (Ok x) (Ok y) → x ≡ y
ok_same x y h = cc

-- what each step keeps holds at the end
pub steps_keep : {C S T : Type 0} (P : S → Type 0) (one : C → S → T → Judged S) (c : C) → ((s t : S) (x : T) → P s → one c s x ≡ Ok t → P t) → (s : S) (xs : List T) (t : S) → P s → steps one c s xs ≡ Ok t → P t
unfolding steps
steps_keep P one c keep s [] t h e = subst P (ok_same s t e) h
steps_keep P one c keep s (x ∷ xs) t h e =
    let a = bind_ok (one c s x) _ _ e in
    steps_keep P one c keep a.0 xs t (keep s a.0 x h a.1) a.2

pub steps_split : {C S T : Type 0} (one : C → S → T → Judged S) (c : C) (s : S) (xs ys : List T) (t : S) → steps one c s (xs ++ ys) ≡ Ok t → (u : S) × (steps one c s xs ≡ Ok u) × (steps one c u ys ≡ Ok t)
unfolding steps
steps_split one c s [] ys t h = (s, refl, h)
steps_split {C} {S} {T} one c s (x ∷ xs) ys t h =
    let a = bind_ok {A = S} {B = S} (one c s x) _ t h in
    let b = steps_split one c a.0 xs ys t a.2 in
    (b.0, ap (λ (r : Judged S). r >>= λ u. steps one c u xs) a.1 ∙ b.1, b.2)

pub one_step : {C S T : Type 0} (one : C → S → T → Judged S) (c : C) (s : S) (x : T) (t : S) → steps one c s (x ∷ []) ≡ Ok t → one c s x ≡ Ok t
unfolding steps
one_step {C} {S} {T} one c s x t h =
    let a = bind_ok {A = S} {B = S} (one c s x) _ t h in
    a.1 ∙ a.2
