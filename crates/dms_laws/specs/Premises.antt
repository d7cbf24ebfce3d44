-- What a store may be asked of a coherent session: records and owners that verbs name stand.
use Rattle.std.proofs.Common.{◌≡◌, ◌≤◌, ◌∙◌, ℕ, zero, suc, List, [], ◌∷◌, Bool, true, false, cond, Some, None, refl, sym, ap, subst, arith}
use Rattle.std.specs.Prelude.{◌==◌, IsTrue, is_some, slice_get}
use Rattle.std.specs.List.{AllByRecursion}
use Rattle.std.specs.declared.option.Option.{Option}
use Rattle.std.specs.FinMap.{get}
use Rattle.std.proofs.lemmas.Bool.Decides.{nat_tests}
use Rattle.dms_base.specs.declared.kind.ItemKind.{ItemKind}
use Rattle.dms_base.specs.declared.kind.ItemKind.TheVariants.{Alpha, Number as Decimal, Bool as OneBit, Field, Link}
use Rattle.dms_base.specs.declared.value.Value.{Value}
use Rattle.dms_desc.specs.Lookups.{set_of}
use Rattle.dms_desc.specs.Shape.{Described}
use Rattle.dms_model.specs.Changing.{IsLinkTarget, MayEnter}
use Rattle.dms_model.specs.Fitting.{HasRecord, IsDataSet}
use Rattle.dms_model.specs.Programs.{Program, New}
use Rattle.dms_model.specs.Session.{Session, area_of, assigned, current_of, owner_at, owner_for}
use Rattle.dms_model.specs.Seeking.{kind_target, link_target}
use Rattle.dms_model.specs.Uses.{link_value}
use Rattle.dms_model.specs.Valid.{link_stands, owner_stands}
use Rattle.dms_model.specs.Verbs.{IsAssigned}
use Rattle.dms_laws.specs.Coherent.{IsAtHand, IsCoherent}

program_at : (P : Program → Type 0) (ps : List Program) (i : ℕ) (p : Program) → slice_get ps i ≡ Some p → AllByRecursion P ps → P p
program_at P [] i p at all = absurd (cc)
program_at P (x ∷ ps) zero p at all = let is : x ≡ p = cc in subst P is all.0
program_at P (x ∷ ps) (suc i) p at all = program_at P ps i p at all.1

-- a data set has a number
pub set_low : (desc : Described) (set : ℕ) → IsDataSet desc set → 1 ≤ set
set_low desc zero h = absurd (cc)
set_low desc (suc n) h = omega arith

module _ (desc : Described) (s : Session) (coherent : IsCoherent desc s) (i : ℕ) (p : Program) (at : slice_get s.programs i ≡ Some p) where
  -- what it has at hand hangs together
  pub at_hand : IsAtHand desc s.db s.mark p
  at_hand = program_at (IsAtHand desc s.db s.mark) s.programs i p at coherent.programs

  -- a current record stands
  pub current_stands : (set n : ℕ) → IsDataSet desc set → current_of p set ≡ Some n → HasRecord s.db set n
  current_stands set n is has = at_hand.current set n (set_low desc set is) has

  -- so does the owner of what a program finds or makes in a structure
  pub owner_stands_for : (x o : ℕ) → owner_for desc p x ≡ Some o → IsTrue (owner_stands s.db.records (owner_at desc x) o)
  owner_stands_for x o is = by (owner_at desc x == 0) refl is
    where
      by : (b : Bool) → (owner_at desc x == 0) ≡ b → cond b (Some 0) (current_of p (owner_at desc x)) ≡ Some o → cond b (o == 0) (is_some (get s.db.records (owner_at desc x, o))) ≡ true
      by true e h = let same : 0 ≡ o = cc in grind (arith, nat_tests, same)
      by false e h = at_hand.current (owner_at desc x) o (grind (arith, nat_tests, e)) h

  -- and the owner of a new area
  pub new_owner_stands : (set o : ℕ) (values : List Value) → IsDataSet desc set → area_of p set ≡ Some (New values o) → IsTrue (owner_stands s.db.records (owner_at desc set) o)
  new_owner_stands set o values is has = owner_stands_for set o (at_hand.made set o values (set_low desc set is) has).1

  -- the current record of its data set may be entered in a subset, for the owner there, or taken out
  pub may_enter : (set subset n o : ℕ) → IsDataSet desc set → set_of desc subset ≡ set → current_of p set ≡ Some n → owner_for desc p subset ≡ Some o → MayEnter desc s.db subset o n
  may_enter set subset n o is over has own = record {
    member = subst (λ t. HasRecord s.db t n) (sym over) (current_stands set n is has);
    owned = owner_stands_for subset o own;
  }

  kind_stands : (k : ItemKind) (to n : ℕ) → kind_target k ≡ to → HasRecord s.db to n → link_stands s.db.records k (link_value (Some n)) ≡ true
  kind_stands (Alpha m) to n is has = refl
  kind_stands (Decimal m d t) to n is has = refl
  kind_stands OneBit to n is has = refl
  kind_stands (Field m) to n is has = refl
  kind_stands (Link t c) to n is has = ap (λ x. is_some (get s.db.records (x, n))) is ∙ has

  null_stands : (k : ItemKind) → link_stands s.db.records k (link_value None) ≡ true
  null_stands (Alpha m) = refl
  null_stands (Decimal m d t) = refl
  null_stands OneBit = refl
  null_stands (Field m) = refl
  null_stands (Link t c) = refl

  -- a link may be set to NULL, or to the current record of the data set that it refers into
  pub may_link : (to : Option ℕ) (set item : ℕ) → IsAssigned desc to set item → IsLinkTarget desc s.db set item (assigned to p)
  may_link None set item is x here = null_stands x.kind
  may_link (Some to) set item is x here = by (current_of p to) refl
    where
      by : (o : Option ℕ) → current_of p to ≡ o → link_stands s.db.records x.kind (link_value o) ≡ true
      by None has = null_stands x.kind
      by (Some n) has =
          let target : kind_target x.kind ≡ to = sym (ap link_target here) ∙ is.1 in
          kind_stands x.kind to n target (current_stands to n is.0 has)
