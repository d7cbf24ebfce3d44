-- What the store may be asked for INSERT, REMOVE and ASSIGN.
use Rattle.std.proofs.Common.{◌≡◌, ◌<◌, ◌+◌, ◌^◌, ℕ, Some, None, true, refl, sym, subst, arith}
use Rattle.std.specs.Prelude.{IfSome, slice_get}
use Rattle.std.specs.declared.option.Option.{Option}
use Rattle.dms_desc.specs.Lookups.{set_of}
use Rattle.dms_desc.specs.Shape.{Described}
use Rattle.dms_desc_bytes.specs.WellFormed.{IsWellFormed}
use Rattle.dms_laws.proofs.Formed.{low_owner}
use Rattle.dms_laws.specs.Coherent.{IsCoherent}
use Rattle.dms_laws.specs.Premises.{may_enter}
use Rattle.dms_model.specs.AreaLaws.{owner_low}
use Rattle.dms_model.specs.Areas.{WorksFit}
use Rattle.dms_model.specs.Changing.{MayEnter}
use Rattle.dms_model.specs.declared.put.Put.{Put}
use Rattle.dms_model.specs.declared.put.Put.TheVariants.{Stored, Duplicate, Full}
use Rattle.dms_model.specs.declared.verb.Verb.TheVariants.{Insert}
use Rattle.dms_model.specs.Fitting.{IsNumber, IsStored}
use Rattle.dms_model.specs.Programs.{Program}
use Rattle.dms_model.specs.Session.{Session, assigned, current_of}
use Rattle.dms_model.specs.Verbs.{IsAssigned, IsSubsetOf}
use Rattle.dms_storeverbs.specs.Costs.{appends}
use Rattle.dms_storeverbs.specs.Judging.{HasEntry}
use Rattle.dms_storeverbs.proofs.AtHand.{low_current}
use Rattle.dms_storeverbs.proofs.Related.{entered_by}
use Rattle.dms_storeverbs.proofs.Stored.{current_number}

pub entry_owner : (desc : Described) (p : Program) (set subset owner n : ℕ) → IsWellFormed desc → WorksFit desc p → HasEntry desc p set subset owner n → owner < 2 ^ 32
entry_owner desc p set subset owner n well fit has = let low : owner + 1 < 2 ^ 32 = owner_low desc p subset owner (low_owner desc well subset) fit has.owned in omega (arith, low)

pub entry_number : (desc desc' : Described) (p : Program) (set subset owner n : ℕ) → desc' ≡ desc → IsSubsetOf desc set subset → WorksFit desc p → HasEntry desc p set subset owner n → IsNumber desc' (set_of desc' subset) n
entry_number desc desc' p set subset owner n under named fit has =
    subst (λ (e : Described). IsNumber e (set_of e subset) n) (sym under)
    (subst (λ (x : ℕ). IsNumber desc x n) (sym named.over) (current_number desc p set n named.data_set fit has.current))

pub entry_may : (desc : Described) (s : Session) (i : ℕ) (p : Program) (set subset owner n : ℕ) → IsCoherent desc s → slice_get s.programs i ≡ Some p → IsSubsetOf desc set subset → HasEntry desc p set subset owner n → MayEnter desc s.db subset owner n
entry_may desc s i p set subset owner n coherent at named has = may_enter desc s coherent i p at set subset n owner named.data_set named.over has.current has.owned

-- what is entered is done
pub insert_appends : (desc : Described) (i : ℕ) (p : Program) (s : Session) (set subset owner n : ℕ) (has : HasEntry desc p set subset owner n) (a : Put) → IsStored a → appends (Insert set subset) (entered_by desc i p s set subset owner n has a) ≡ true
insert_appends desc i p s set subset owner n has (Stored m) is = refl
insert_appends desc i p s set subset owner n has (Duplicate d) is = absurd is
insert_appends desc i p s set subset owner n has Full is = absurd is

-- what a link is to refer to is a number of four bytes
pub target_low : (desc : Described) (p : Program) (to : Option ℕ) (set item : ℕ) → IsWellFormed desc → WorksFit desc p → IsAssigned desc to set item → IfSome (assigned to p) (λ n. n < 2 ^ 32)
target_low desc p None set item well fit named = tt
target_low desc p (Some e) set item well fit named = by (current_of p e) refl
  where
    by : (o : Option ℕ) → current_of p e ≡ o → IfSome o (λ n. n < 2 ^ 32)
    by None has = tt
    by (Some n) has = let low : n + 1 < 2 ^ 32 = low_current desc p e n well fit named.0 (current_number desc p e n named.0 fit has) in omega (arith, low)
