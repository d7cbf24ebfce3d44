-- The first and the last member, each by one scan of the rows.
use Rattle.std.specs.Prelude.{ℕ, List, [], ◌∷◌, Bool, Some, None, if◌then◌else◌}
use Rattle.std.specs.declared.option.Option.{Option}
use Rattle.std.specs.Option.{option_map}
use Rattle.dms_desc.specs.declared.bound.Bound.{Bound}
use Rattle.dms_desc.specs.declared.record.Record.{Record}
use Rattle.dms_desc.specs.Shape.{Shape}
use Rattle.dms_model.specs.declared.spot.Spot.{Spot}
use Rattle.dms_model.specs.Db.{Place, SubsetEntry}
use Rattle.dms_model.specs.Members.{spot_of, belongs, is_before, is_after_bound, is_before_bound}
use Rattle.dms_plain.specs.declared.rows.RecordRow.{RecordRow}
use Rattle.dms_plain.specs.Rows.{entry_of}

module _ {A : Type 0} (less : A → A → Bool) where
  -- the lesser of one and the best so far
  abbrev pub lesser : A → Option A → Option A
  lesser x None = Some x
  lesser x (Some y) = if less x y then Some x else Some y

  -- the least that passes
  abbrev pub least : (A → Bool) → List A → Option A
  least p [] = None
  least p (x ∷ xs) = if p x then lesser x (least p xs) else least p xs

  abbrev pub greater : A → Option A → Option A
  greater x None = Some x
  greater x (Some y) = if less x y then Some y else Some x

  -- the greatest that passes
  abbrev pub greatest : (A → Bool) → List A → Option A
  greatest p [] = None
  greatest p (x ∷ xs) = if p x then greater x (greatest p xs) else greatest p xs

-- the spot of the row that is the best so far
abbrev pub spot_at : Shape → Option RecordRow → Option Spot
spot_at s best = option_map (λ r. spot_of s.parts (entry_of r)) best

-- what one row makes of the best so far
unfoldable pub sooner : Shape → List SubsetEntry → ℕ → Bound → Place × Record → Option Spot → Option Spot
sooner s manual owner from e best =
    if belongs s manual owner e then (if is_after_bound s.parts from (spot_of s.parts e) then lesser (is_before s.parts) (spot_of s.parts e) best else best) else best

unfoldable pub later : Shape → List SubsetEntry → ℕ → Bound → Place × Record → Option Spot → Option Spot
later s manual owner upto e best =
    if belongs s manual owner e then (if is_before_bound s.parts upto (spot_of s.parts e) then greater (is_before s.parts) (spot_of s.parts e) best else best) else best

-- the least after a bound, from the end of the entries on
abbrev pub soonest : Shape → List SubsetEntry → ℕ → Bound → List (Place × Record) → Option Spot
soonest s manual owner from [] = None
soonest s manual owner from (e ∷ es) = sooner s manual owner from e (soonest s manual owner from es)

-- the greatest before a bound
abbrev pub latest : Shape → List SubsetEntry → ℕ → Bound → List (Place × Record) → Option Spot
latest s manual owner upto [] = None
latest s manual owner upto (e ∷ es) = later s manual owner upto e (latest s manual owner upto es)
