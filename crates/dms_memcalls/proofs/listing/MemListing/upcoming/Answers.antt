use Rattle.std.proofs.Common.{◌≡◌, ◌∙◌, length, sym, rules}
use Rattle.dms_memcalls.specs.Listings.{given_past, empty_of}
use Rattle.dms_memcalls.proofs.listing.MemListing.upcoming.Goals as goal

pub loop-place-preserved : goal.loop-place-preserved
loop-place-preserved c =
    let none : length c.bytes.result.now ≡ 0 = search rules in
    given_past _ _ (sym c.bytes.ensures ∙ empty_of _ none) ∙ c.loop-place.invariant
