-- What a search through the slots of a data set says of a database.
use Rattle.std.proofs.Common.{◌≡◌, ◌∙◌, ◌+◌, ◌*◌, ℕ, Bool, true, IsTrue, IfOk, IfSome, Some, None, refl, sym, ap, take, drop, length, min, arith}
use Rattle.std.specs.declared.option.Option.{Option}
use Rattle.std.specs.declared.result.Result.{Result}
use Rattle.std.specs.declared.result.Result.TheVariants.{Ok, Err}
use Rattle.dms_block.specs.declared.block_fault.BlockFault.{BlockFault}
use Rattle.dms_block.specs.Content.{Content}
use Rattle.dms_desc.specs.declared.bound.Bound.{Bound}
use Rattle.dms_desc.specs.declared.bound.Bound.TheVariants.{Start, End, At, From}
use Rattle.dms_desc.specs.Lookups.{structure_of}
use Rattle.dms_desc.specs.Shape.{Shape, Described}
use Rattle.dms_model.specs.declared.spot.Spot.{Spot}
use Rattle.dms_model.specs.Db.{Db}
use Rattle.dms_model.specs.Fitting.{SpotFits}
use Rattle.dms_model.specs.Members.{first_member, last_member}
use Rattle.dms_model.specs.Stores.{TellsOf}
use Rattle.dms_model.specs.Valid.{is_data_set}
use Rattle.dms_slots.specs.SlotBlocks.{per_block, slots_of}
use Rattle.dms_spelling.specs.Back.{slots_spelled}
use Rattle.dms_store.specs.Finding.{number_at}
use Rattle.dms_spelling.specs.ServingLaws.{served_at}
use Rattle.dms_store.specs.Lifted.{db_of}
use Rattle.dms_store.specs.Noted.{tells_if}
use Rattle.dms_store.specs.ScanLaws.{IsSetPath, first_at, first_end, last_at}
use Rattle.dms_store.specs.ScanSteps.{slots_long}
use Rattle.dms_store.specs.Scans.{IsRecordSpot, first_by, first_used, last_used, start_of, stop_of}
use Rattle.dms_spelling.specs.Serving.{IsServed}
use Rattle.dms_spelling.specs.Spelled.{db_in, is_spelled}
use Rattle.dms_links.specs.Rows.{file_in}
use Rattle.dms_store.specs.WithinLaws.{first_until, last_until, spot_fits}

stop_same : (bound : Bound) (n p : ℕ) → min (stop_of bound (min n p)) (min n p) ≡ min (stop_of bound n) (min n p)
stop_same Start n p = refl
stop_same End n p = omega arith
stop_same (At key k) n p = refl
stop_same (From key) n p = refl

module _ (desc : Described) (path : ℕ) (s : Shape) (served : IsServed desc) (at : structure_of desc path ≡ Some s) (is_set : is_data_set (Some s) ≡ true) where
  pub set_path : IsSetPath desc path s
  set_path = record { numbered = served.numbered; is = at; set = is_set; keyless = (served_at desc path s served at).keyless is_set }

  module _ (c : Content) (spelt : is_spelled desc c ≡ true) (owner : ℕ) where
    first_some : (from : Bound) (m : ℕ) → start_of from ≡ Some m → first_used owner (1 + m) (drop m (take s.population (slots_of s (file_in c s)))) ≡ first_member desc (db_in desc c) path owner from
    first_some from m is =
        first_until desc (db_in desc c) s owner 1 m s.population (slots_of s (file_in c s)) (omega arith) (slots_spelled desc c served spelt path s at is_set)
        ∙ sym (first_at desc path s set_path c owner from m is)

    first_if : (from : Bound) (o : Option ℕ) → start_of from ≡ o → first_by owner o (take s.population (slots_of s (file_in c s))) ≡ first_member desc (db_in desc c) path owner from
    first_if from None is = sym (first_end desc path s set_path c owner from is)
    first_if from (Some m) is = first_some from m is

    -- the first member is the first that a search finds
    pub first_seen : (from : Bound) → first_by owner (start_of from) (take s.population (slots_of s (file_in c s))) ≡ first_member desc (db_in desc c) path owner from
    first_seen from = first_if from (start_of from) refl

    -- and the last one the last
    pub last_seen : (bound : Bound) (n j : ℕ) → n ≡ length (file_in c s) → j ≡ min (stop_of bound (min (n * per_block s.items) s.population)) (min (n * per_block s.items) s.population)
        → last_used owner 1 (take j (slots_of s (file_in c s))) ≡ last_member desc (db_in desc c) path owner bound
    last_seen bound n j is stop =
        let long : length (slots_of s (file_in c s)) ≡ n * per_block s.items = slots_long s (file_in c s) ∙ ap (λ k. k * per_block s.items) (sym is) in
        let here : j ≡ min (stop_of bound (length (slots_of s (file_in c s)))) (min (length (slots_of s (file_in c s))) s.population) =
        stop ∙ stop_same bound (n * per_block s.items) s.population ∙ ap (λ k. min (stop_of bound k) (min k s.population)) (sym long) in
        last_until desc (db_in desc c) s owner (stop_of bound (length (slots_of s (file_in c s)))) j (slots_of s (file_in c s)) here (slots_spelled desc c served spelt path s at is_set)
        ∙ sym (last_at desc path s set_path c owner bound)

  fit_if : (o : Option Spot) → IfSome o (IsRecordSpot s) → IfSome o (SpotFits desc path)
  fit_if None f = tt
  fit_if (Some x) f = spot_fits desc path s x at (number_at desc path s served at) is_set ((served_at desc path s served at).keyless is_set) f

  -- what is found fits the path
  pub spots_fit : (r : Result (Option Spot) BlockFault) → IfOk r (λ o. IfSome o (IsRecordSpot s)) → IfOk r (λ o. IfSome o (SpotFits desc path))
  spots_fit (Ok o) f = fit_if o f
  spots_fit (Err e) f = tt

-- an answer is that of a told database where it is that of the one that is spelled
pub tells_ok : {A : Type 0} (told : Bool) (desc : Described) (c : Content) (f : Db → A) (x : A) (r : Result A BlockFault) → IfOk r (λ o. IsTrue told → o ≡ x) → (IsTrue told → is_spelled desc c ≡ true → x ≡ f (db_in desc c))
    → IfOk r (TellsOf (db_of desc told c) f)
tells_ok told desc c f x (Ok o) h is = tells_if told desc c f o (λ t spelt. h t ∙ is t spelt)
tells_ok told desc c f x (Err e) h is = tt
