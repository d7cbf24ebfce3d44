use Rattle.std.proofs.Common.{ℕ, ◌∙◌, ap, List}
use Rattle.dms_calls.specs.World.{World}
use Rattle.dms_sitemem.specs.Slots.{files_of}
use Rattle.dms_memcalls.specs.Folders.{world_of}
use Rattle.dms_memcalls.specs.Names.{leads}
use Rattle.dms_memcalls.specs.NameLaws.{leads_same}
use Rattle.dms_memcalls.specs.Steady.{alike_world}
use Rattle.dms_memcalls.specs.Listings.{given_to, given_none}
use Rattle.dms_memcalls.proofs.mem_calls.MemCallsCalls.list.Goals as goal

pub returns-in-Ok-clause-begun : goal.returns-in-Ok-clause-begun
returns-in-Ok-clause-begun c = λ t.
    let names = files_of c.in-Ok.listing.names.files in
    let disk = c.look.new.self.story.disk in
    let each = λ (m : List ℕ). ap (λ (n : ℕ). leads n names m) c.in-Ok.ensures.count ∙ leads_same disk.count (files_of disk.names.files) names m c.in-Ok.ensures.names
    ∙ ap (λ (w : World). w.names m) (alike_world _ _ c.look.new.self.story.alike ∙ ap world_of c.look.ensures.seen) in
    (ap (λ (n : ℕ). given_to n names) c.in-Ok.ensures.place ∙ given_none names, λ i m. each m i)
