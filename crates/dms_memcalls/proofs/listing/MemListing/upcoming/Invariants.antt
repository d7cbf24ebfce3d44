use Rattle.std.proofs.Common.{◌≡◌}
use Rattle.dms_sitemem.specs.Slots.{files_of}
use Rattle.dms_memcalls.specs.Listings.{given_to}
use Rattle.dms_memcalls.proofs.listing.MemListing.upcoming.Given as goal

abbrev pub invariant-loop-place : goal.invariant-loop-place
invariant-loop-place l = given_to l.place (files_of l.self.names.files) ≡ given_to l.self.place (files_of l.self.names.files)
