use Rattle.std.specs.Prelude.{option_map}
use Rattle.std.proofs.Common.{◌≡◌, Some, sym, ◌∙◌, ap}
use Rattle.dms_history.proofs.Picks.{some_is}
use Rattle.dms_audrec.specs.Seen.{entry_seen}
use Rattle.dms_audfile.specs.AuditTrail.{entry_there}
use Rattle.dms_restore.specs.TailTables.{control_number}
use Rattle.dms_restore.proofs.Backed.{counted_as}
use Rattle.dms_restore.proofs.tail_table.read_number.Goals as goal

pub returns-in-Some-clause-number : goal.returns-in-Some-clause-number
returns-in-Some-clause-number g c tells current e there =
    let files = g.S.Site.files c.args.site.now in
    let seen : entry_there files c.args.place.now ≡ Some (entry_seen c.in-Some.entry) =
    sym (c.entry.ensures.there files (c.in-Ok.ensures.holds tells current)) ∙ ap (option_map entry_seen) c.in-Some.is in
    c.number_of.ensures ∙ ap control_number (some_is (entry_seen c.in-Some.entry) e (sym seen ∙ there))

pub returns-in-Err-clause-disk : goal.returns-in-Err-clause-disk
returns-in-Err-clause-disk g c = counted_as _ _ _ _ c.disk_or_memory.ensures.disk c.disk_or_memory.ensures.same c.in-Err.ensures.disk
