-- What was found fits its data set, and its key the structure of the path.
use Rattle.std.proofs.Common.{◌≡◌, ◌∙◌, ℕ, Bool, Some, None, true, false, cond, refl, sym, ap, subst, eqb}
use Rattle.std.specs.Prelude.{IfOk, IfSome, IsTrue, ◌-◌, slice_get}
use Rattle.std.specs.declared.option.Option.{Option}
use Rattle.std.specs.declared.result.Result.{Result}
use Rattle.std.specs.declared.result.Result.TheVariants.{Ok, Err}
use Rattle.dms_block.specs.declared.block_fault.BlockFault.{BlockFault}
use Rattle.dms_desc.specs.declared.record.Record.{Record}
use Rattle.dms_desc.specs.Lookups.{set_of, structure_of}
use Rattle.dms_desc.specs.Shape.{Shape, Described}
use Rattle.dms_findverbs.specs.Finds.{FitsFrom, FoundFits}
use Rattle.dms_model.specs.Areas.{WorksFit}
use Rattle.dms_model.specs.AtHand.{current_of}
use Rattle.dms_model.specs.declared.spot.Spot.{Spot}
use Rattle.dms_model.specs.declared.verb.Path.{Path}
use Rattle.dms_model.specs.declared.verb.Path.TheVariants.{Current}
use Rattle.dms_model.specs.Fitting.{IsDataSet, IsNumber, RecordFits, SpotFits, is_number}
use Rattle.dms_model.specs.Programs.{Program}
use Rattle.dms_model.specs.Seeking.{found_in, owner_in, path_of, spot_by}
use Rattle.dms_model.specs.Valid.{is_data_set}

-- a member of a structure
met_fits : (desc desc' : Described) (path : Path) (x : ℕ) (s : Spot) → desc' ≡ desc → found_in desc path ≡ set_of desc x → path_of path ≡ x → SpotFits desc' x s → FoundFits desc path s
met_fits desc desc' path x s under within named fits =
    let mine : SpotFits desc x s = subst (λ (d : Described). SpotFits d x s) under fits in
    record {
      number = subst (λ (n : ℕ). IsNumber desc n s.number) (sym within) mine.number;
      rec = subst (λ (n : ℕ). RecordFits desc n s.rec) (sym within) mine.rec;
      member = λ moves. subst (λ (n : ℕ). SpotFits desc n s) (sym named) mine;
    }

some_fits : (o : Option Spot) (desc desc' : Described) (p : Program) (base : ℕ) (path : Path) (x : ℕ) → desc' ≡ desc → found_in desc path ≡ set_of desc x → path_of path ≡ x → IfSome o (SpotFits desc' x) → FitsFrom desc p base path o
some_fits None desc desc' p base path x under within named fits = tt
some_fits (Some s) desc desc' p base path x under within named fits = λ own. met_fits desc desc' path x s under within named fits

pub member_fits : (result : Result (Option Spot) BlockFault) (desc desc' : Described) (p : Program) (base : ℕ) (path : Path) (x : ℕ) → desc' ≡ desc → found_in desc path ≡ set_of desc x → path_of path ≡ x
    → IfOk result (λ o. IfSome o (SpotFits desc' x)) → IfOk result (λ o. FitsFrom desc p base path o)
member_fits (Ok o) desc desc' p base path x under within named fits = some_fits o desc desc' p base path x under within named fits
member_fits (Err e) desc desc' p base path x under within named fits = tt

-- a current record

number_fits : (desc : Described) (p : Program) (set base : ℕ) (o : Option Shape) → structure_of desc set ≡ o → IsTrue (is_data_set o) → WorksFit desc p → current_of p set ≡ Some base → IsNumber desc set base
number_fits desc p set base None here named fit own = absurd (cc)
number_fits desc p set base (Some shape) here named fit own =
    let mine : IfSome (Some base) (λ n. IsTrue (is_number (Some shape) n)) = subst (λ (c : Option ℕ). IfSome c (λ n. IsTrue (is_number (Some shape) n))) own (fit set shape here).current in
    subst (λ (x : Option Shape). IsTrue (is_number x base)) (sym here) mine

-- no data set has the number 0
no_zero : (desc : Described) (set : ℕ) (C : Type 0) → IsDataSet desc set → (eqb set 0 ≡ false → C) → C
no_zero desc set C named with_number = by (eqb set 0) refl named
  where
    by : (b : Bool) → eqb set 0 ≡ b → IsTrue (is_data_set (cond b None (slice_get desc.structures (set - 1)))) → C
    by true e h = absurd (cc)
    by false e h = with_number e

pub based_number : (desc : Described) (p : Program) (set base : ℕ) → IsDataSet desc set → WorksFit desc p → owner_in p set ≡ Some base → IsNumber desc set base
based_number desc p set base named fit own =
    no_zero desc set (IsNumber desc set base) named
    (λ e. number_fits desc p set base (structure_of desc set) refl named fit (sym (ap (λ (b : Bool). cond b (Some 0) (current_of p set)) e) ∙ own))

spot_fits : (desc desc' : Described) (p : Program) (set base : ℕ) (rec : Option Record) → desc' ≡ desc → IsDataSet desc set → WorksFit desc p → IfSome rec (RecordFits desc' set) → FitsFrom desc p base (Current set) (spot_by base rec)
spot_fits desc desc' p set base None under named fit fits = tt
spot_fits desc desc' p set base (Some r) under named fit fits = λ own. record {
  number = based_number desc p set base named fit own;
  rec = subst (λ (d : Described). RecordFits d set r) under fits;
  member = λ moves. absurd (cc);
}

pub current_fits : (desc desc' : Described) (p : Program) (set base : ℕ) (path : Path) (rec : Option Record) (o : Option Spot) → desc' ≡ desc → path ≡ Current set → IsDataSet desc set → WorksFit desc p → IfSome rec (RecordFits desc' set) → o ≡ spot_by base rec → FitsFrom desc p base path o
current_fits desc desc' p set base path rec o under path_is named fit fits is =
    subst (λ (x : Path). FitsFrom desc p base x o) (sym path_is) (subst (FitsFrom desc p base (Current set)) (sym is) (spot_fits desc desc' p set base rec under named fit fits))
