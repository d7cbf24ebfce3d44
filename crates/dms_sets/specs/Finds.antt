-- The members behind and before a bound, each by one look at a set's entries.
use Rattle.dms_model.specs.declared.spot.Spot.{Spot}
use Rattle.std.proofs.Common.{◌≡◌, ℕ, List, ◌+◌, ◌^◌, ◌<◌, false, Some, ap, ◌∙◌, arith}
use Rattle.std.specs.Prelude.{◌==◌}
use Rattle.std.specs.declared.option.Option.{Option}
use Rattle.dms_desc.specs.declared.bound.Bound.{Bound}
use Rattle.dms_desc.specs.Shape.{Shape, Described}
use Rattle.dms_model.specs.Db.{Db}
use Rattle.dms_desc.specs.Lookups.{structure_of}
use Rattle.dms_model.specs.Members.{first_member, last_member}
use Rattle.dms_desc.specs.Sorted.{that_passes}
use Rattle.dms_sets.specs.Sets.{entries_of, kinds_over}
use Rattle.dms_sets.specs.Owners.{is_of}
use Rattle.dms_sets.specs.Bounds.{BoundKeyFits}
use Rattle.dms_sets.specs.Padded.{from_bytes, to_bytes, BoundSmall, entries_shaped, first_is, last_is}
use Rattle.dms_sets.specs.Spots.{and_then, spot_at, RecordsHaveSpots, all_fit, first_member_at, last_member_at}
use Rattle.dms_sets.specs.Puts.{IsNamed}
use Rattle.dms_chain.specs.Lists.{first_from, last_to}

-- the member of an entry, where it is the owner's
abbrev pub spot_by : Shape → Db → ℕ → Option (List ℕ) → Option Spot
spot_by s db owner q = and_then (that_passes (is_of owner) q) (spot_at s db)

-- The first member behind a bound is that of the first entry not below the bound's bytes.
pub first_member_by : (desc : Described) (db : Db) (path : ℕ) (s : Shape) (owner : ℕ) (bound : Bound) → structure_of desc path ≡ Some s → owner + 1 < 2 ^ 32 → (s.kind == 5) ≡ false
    → IsNamed desc s → RecordsHaveSpots desc db → BoundKeyFits (kinds_over desc s) s.parts bound → BoundSmall (kinds_over desc s) s.parts bound
    → first_member desc db path owner bound ≡ spot_by s db owner (first_from (from_bytes (kinds_over desc s) s.parts owner bound) (entries_of desc db s))
first_member_by desc db path s owner bound has own auto named records fits small =
    let all = all_fit desc db s named.items records in
    first_member_at desc db path s owner bound has (omega (arith, own)) auto all fits
    ∙ ap (spot_by s db owner) (first_is (kinds_over desc s) s.parts owner own bound (entries_of desc db s) fits small (entries_shaped desc db s all))

-- The last member before a bound is that of the last entry below the bound's bytes.
pub last_member_by : (desc : Described) (db : Db) (path : ℕ) (s : Shape) (owner : ℕ) (bound : Bound) → structure_of desc path ≡ Some s → owner + 1 < 2 ^ 32 → (s.kind == 5) ≡ false
    → IsNamed desc s → RecordsHaveSpots desc db → BoundKeyFits (kinds_over desc s) s.parts bound
    → last_member desc db path owner bound ≡ spot_by s db owner (last_to (to_bytes (kinds_over desc s) s.parts owner bound) (entries_of desc db s))
last_member_by desc db path s owner bound has own auto named records fits =
    let all = all_fit desc db s named.items records in
    last_member_at desc db path s owner bound has (omega (arith, own)) auto all fits
    ∙ ap (spot_by s db owner) (last_is (kinds_over desc s) s.parts owner own bound (entries_of desc db s) fits (entries_shaped desc db s all))
