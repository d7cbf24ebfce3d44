use Rattle.std.proofs.Common.{subst, List, ℕ}
use Rattle.dms_sitemem.specs.Slots.{files_of}
use Rattle.dms_calls.specs.World.{IsGiven}
use Rattle.dms_memcalls.specs.Listings.{given_all, given_step}
use Rattle.dms_memcalls.proofs.mem_calls.MemCallsCalls.next_name.Goals as goal

pub returns-in_default-clause-all : goal.returns-in_default-clause-all
returns-in_default-clause-all c = λ t none m i before now.
    subst (λ (l : List (List ℕ)). IsGiven l m) c.in_default.ensures (given_all _ _ m i before)

pub returns-clause-next : goal.returns-clause-next
returns-clause-next c = λ t some.
    given_step (files_of c.args.listing.now.names.files) c.in-Some.place c.args.listing.now.place c.bytes-name.result.now _ _ c.in-Some.ensures.1 c.in-Some.ensures.2 c.bytes-name.ensures c.copy_from_slice.ensures.after
