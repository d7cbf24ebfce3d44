-- What holds of each answer of a list of refusals, and of a verb where none of them holds, holds of the verb.
use Rattle.std.proofs.Common.{◌≡◌, ℕ, List, [], ◌∷◌, Bool, true, false, cond, Some, None, refl, sym, ap, ◌∙◌, not}
use Rattle.std.specs.Prelude.{is_some}
use Rattle.std.specs.declared.option.Option.{Option}
use Rattle.dms_desc.specs.Shape.{Described}
use Rattle.dms_model.specs.declared.reply.Reply.{Reply}
use Rattle.dms_model.specs.Programs.{Program}
use Rattle.dms_model.specs.Session.{Session, Outcome, assign_refusals, current_of, delete_refusals, done_unless, first_held, holds, insert_refusals, or_zero, owner_for, remove_refusals, replies}
use Rattle.dms_model.specs.StoreLaws.{AllAnswers, NoneHolds}
use Rattle.dms_model.specs.Uses.{in_use}

pub done_by : (P : Outcome → Type 0) (s : Session) (o : Outcome) (rs : List (Bool × Reply)) → ((r : Reply) → P (replies s r)) → (NoneHolds rs → P o) → P (done_unless (first_held rs) s o)
done_by P s o [] any done = done tt
done_by P s o (r ∷ rs) any done = by r.0 refl (λ off. done_by P s o rs any (λ none. done (off, none)))
  where
    by : (b : Bool) → r.0 ≡ b → (r.0 ≡ false → P (done_unless (first_held rs) s o)) → P (done_unless (cond b (Some r.1) (first_held rs)) s o)
    by true is rest = any r.1
    by false is rest = rest is

-- the same, of each answer of the list alone
pub done_all : (P : Outcome → Type 0) (s : Session) (o : Outcome) (rs : List (Bool × Reply)) → AllAnswers (λ r. P (replies s r)) rs → (NoneHolds rs → P o) → P (done_unless (first_held rs) s o)
done_all P s o [] all done = done tt
done_all P s o (r ∷ rs) all done = by r.0 refl (λ off. done_all P s o rs all.1 (λ none. done (off, none)))
  where
    by : (b : Bool) → r.0 ≡ b → (r.0 ≡ false → P (done_unless (first_held rs) s o)) → P (done_unless (cond b (Some r.1) (first_held rs)) s o)
    by true is rest = all.0
    by false is rest = rest is

-- a number that is there, and 0 in place of none
pub some_is : (o : Option ℕ) → not (is_some o) ≡ false → o ≡ Some (or_zero o)
some_is None h = absurd (cc)
some_is (Some n) h = refl

not_off : (b : Bool) → not b ≡ false → b ≡ true
not_off true h = refl
not_off false h = absurd (cc)

-- a record that may be deleted: it is current, locked for the program, and not in use
pub record MayDelete (desc : Described) (p : Program) (s : Session) (set n : ℕ) : Type 0 where
  pub current : current_of p set ≡ Some n
  pub locked : holds p set (Some n) ≡ true
  pub free : in_use desc s.db set n ≡ false

pub may_delete : (desc : Described) (p : Program) (s : Session) (set : ℕ) → NoneHolds (delete_refusals desc p s set (or_zero (current_of p set))) → MayDelete desc p s set (or_zero (current_of p set))
may_delete desc p s set none =
    let is = some_is (current_of p set) none.0 in
    record { current = is; locked = ap (holds p set) (sym is) ∙ not_off (holds p set (current_of p set)) none.1.0; free = none.1.1.0 }

-- a record and the owner for which it is entered, or taken out
pub record HasBoth (desc : Described) (p : Program) (set subset : ℕ) : Type 0 where
  pub current : current_of p set ≡ Some (or_zero (current_of p set))
  pub owner : owner_for desc p subset ≡ Some (or_zero (owner_for desc p subset))

pub may_insert : (desc : Described) (p : Program) (s : Session) (set subset : ℕ) → NoneHolds (insert_refusals desc p s set subset) → HasBoth desc p set subset
may_insert desc p s set subset none = record { current = some_is (current_of p set) none.0; owner = some_is (owner_for desc p subset) none.1.0 }

pub may_remove : (desc : Described) (p : Program) (s : Session) (set subset : ℕ) → NoneHolds (remove_refusals desc p s set subset) → HasBoth desc p set subset
may_remove desc p s set subset none = record { current = some_is (current_of p set) none.0; owner = some_is (owner_for desc p subset) none.1.0 }

-- a record whose link is set: it is current, and locked for the program
pub record MayAssign (p : Program) (set n : ℕ) : Type 0 where
  pub current : current_of p set ≡ Some n
  pub locked : holds p set (Some n) ≡ true

pub may_assign : (desc : Described) (p : Program) (to : Option ℕ) (set : ℕ) → NoneHolds (assign_refusals to desc p set) → MayAssign p set (or_zero (current_of p set))
may_assign desc p None set none =
    let is = some_is (current_of p set) none.0 in
    record { current = is; locked = ap (holds p set) (sym is) ∙ not_off (holds p set (current_of p set)) none.1.0 }
may_assign desc p (Some to) set none =
    let is = some_is (current_of p set) none.1.0 in
    record { current = is; locked = ap (holds p set) (sym is) ∙ not_off (holds p set (current_of p set)) none.1.1.0 }
