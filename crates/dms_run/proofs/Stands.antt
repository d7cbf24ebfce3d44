-- The files that a stop leaves are states.
use Rattle.std.proofs.Common.{ℕ, ◌<◌, ◌≡◌, ◌∙◌, ◌⊎◌, inl, inr, ⊎_elim, List, [], ◌∷◌, ◌++◌, length, take, refl, sym, subst, ap, arith, append_assoc}
use Rattle.std.specs.List.{AllByRecursion}
use Rattle.dms_desc.specs.Shape.{Described}
use Rattle.dms_model.specs.Points.{Quiet}
use Rattle.dms_runner.specs.Answers.{answers_quiets, last_quiet}
use Rattle.dms_running.specs.Points.{DescribedPoint, points_of, next_in}
use Rattle.dms_restore.specs.Logging.{telling_of}
use Rattle.dms_running.proofs.Wholes.{point_below}
use Rattle.dms_model.specs.Valid.{IsValid}
use Rattle.dms_scriptlaws.proofs.Formed.{runnable}
use Rattle.dms_scriptlaws.proofs.Scripts.{tells_true, stay_valid}
use Rattle.dms_run.specs.State.{HasNext}
use Rattle.dms_run.specs.States.{HasLive}
use Rattle.dms_run.specs.Stops.{last_quiet_number, IsOneOf}
use Rattle.dms_run.proofs.Standing.{stands}
use Rattle.dms_run.proofs.Words.{last_one}
use Rattle.dms_run.specs.RunStands.{EndsStand, StopsStand}
use Rattle.dms_run.proofs.Lives.{next_is_one}
use Rattle.dms_run.proofs.SamePoints.{HasPointOf, has_behind, same_point}
use Rattle.dms_run.proofs.NoLater.{RisesBy, rises_by, number_high, no_later}

-- one of a list and another
either_part : (q : Quiet) (xs ys : List Quiet) → IsOneOf q (xs ++ ys) → IsOneOf q xs ⊎ IsOneOf q ys
either_part q [] ys one = inr one
either_part q (x ∷ xs) ys (inl is) = inl (inl is)
either_part q (x ∷ xs) ys (inr more) = ⊎_elim (λ here. inl (inr here)) (λ behind. inr behind) (either_part q xs ys more)

-- each of them has it
of_all : (P : Quiet → Type 0) (q : Quiet) (qs : List Quiet) → AllByRecursion P qs → IsOneOf q qs → P q
of_all P q [] all one = absurd one
of_all P q (x ∷ qs) all (inl is) = subst P (sym is) all.0
of_all P q (x ∷ qs) all (inr more) = of_all P q qs all.1 more

take_front : (xs ys : List Quiet) → take (length xs) (xs ++ ys) ≡ xs
take_front [] ys = refl
take_front (x ∷ xs) ys = ap (λ (l : List Quiet). x ∷ l) (take_front xs ys)

pub stand : StopsStand
stand files n desc db h next has_next entry lines x r =
    let t = telling_of h.total h.first in
    let points = points_of t files in
    let scripts = runnable desc h.formed in
    let stay = stay_valid desc scripts db h.valid next lines in
    let each_valid : (q : Quiet) → IsOneOf q (answers_quiets desc db next lines) → IsValid desc q.1 = λ q one. of_all (λ (p : Quiet). IsValid desc p.1) q (answers_quiets desc db next lines) stay.valid one in
    let rises = rises_by next _ stay.numbers in
    let low : n < next = subst (λ (k : ℕ). n < k) (next_is_one h.total h.first next files h.whole has_next) (point_below t files n h.whole h.lives.found) in
    let point = last_quiet_number n r.made in
    let now = last_quiet db r.made in
    let recovered : ((point ≡ n) × (now ≡ db)) ⊎ IsOneOf (point, now) (answers_quiets desc db next lines) =
    subst (λ (l : List Quiet). ((point ≡ n) × (now ≡ db)) ⊎ IsOneOf (point, now) l) r.front_of (last_one n db r.made r.rest) in
    let valid : IsValid desc now = ⊎_elim (λ same. subst (IsValid desc) (sym same.1) h.valid) (λ one. each_valid (point, now) one) recovered in
    record {
      point = point;
      now = now;
      state = stands.last h.total h.first x.files desc point now h.formed valid r.whole r.state;
      recovered = recovered;
      no_earlier = λ text printed is said. no_later _ next (tells_true desc scripts db h.valid next lines) rises n r.made r.rest text printed x.said r.front_of (r.text text is) said;
      text = λ t is. record { made = length r.made; point_is = ap (last_quiet_number n) (sym (ap (λ (l : List Quiet). take (length r.made) l) (sym r.front_of) ∙ take_front r.made r.rest)); printed = r.text t is };
      keeps = λ m lives. same_point h.total h.first files x.files h.whole r.whole m
          (λ schema blocks p. subst (λ (l : List DescribedPoint). HasPointOf l m schema blocks) (sym r.kept) (has_behind points r.more m schema blocks p)) lives;
      each = λ q one le. stands.at h.total h.first x.files desc q h.formed (each_valid q one) r.whole (
          elim (either_part q r.made r.rest (subst (λ (l : List Quiet). IsOneOf q l) (sym r.front_of) one)) [
            | inl made ↦ of_all (HasLive desc (points_of t x.files)) q r.made r.each made
            | inr behind ↦ absurd (omega (arith, le, number_high n next r.made r.rest q low (subst (RisesBy next) (sym r.front_of) rises) behind))
          ]
          );
      next_left = next_in t x.files;
      has_next = stands.next h.total h.first x.files r.whole;
      not_fallen = omega (arith, r.next_is);
      not_risen = r.not_risen;
    }

pub end_stands : EndsStand
end_stands total first files desc well n db begins next lines whole state next_is =
    let stay = stay_valid desc (runnable desc well) db begins next lines in
    let quiets = answers_quiets desc db next lines in
    record {
      state = stands.last total first files desc (last_quiet_number n quiets) (last_quiet db quiets) well stay.left whole state;
      has_next = subst (HasNext files) (next_is ∙ stay.next) (stands.next total first files whole);
    }
