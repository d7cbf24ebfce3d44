use Rattle.std.proofs.Common.{◌≡◌, IsTrue, List, map, take}
use Rattle.dms_audfile.specs.Reads.{OnlyReads}
use Rattle.dms_audfile.specs.Scanning.{Placed, place_in, entry_in}
use Rattle.dms_audfile.specs.AuditTrail.{AreThere}
use Rattle.dms_audfile.specs.EntryReading.{IsCurrent}
use Rattle.dms_restore.specs.SchemaSpans.{part_bytes}
use Rattle.dms_opening.proofs.describing.read_parts.Given as goal

abbrev pub invariant-loop-place : goal.invariant-loop-place
invariant-loop-place g l = record {
  current : IsTrue g.S.Site.tells → IsCurrent l.reader (g.S.Site.files l.fn.site);
  read : IsTrue g.S.Site.tells → (ps : List Placed) → l.parts ≡ map place_in ps → AreThere (g.S.Site.files l.fn.site) ps → l.bytes.items ≡ part_bytes (map entry_in (take l.place-index ps));
  reads : OnlyReads g.S.Site.tells (g.S.Site.files l.fn.site) (g.S.Site.files l.site) (g.S.Site.said l.fn.site) (g.S.Site.said l.site) (g.S.Site.clock l.fn.site) (g.S.Site.clock l.site) (g.S.Site.disk_faults l.fn.site) (g.S.Site.disk_faults l.site) (g.S.Site.say_faults l.fn.site) (g.S.Site.say_faults l.site);
  same : g.S.Site.same_site l.fn.site l.site;
  disk : g.S.Site.disk_faults l.site ≡ g.S.Site.disk_faults l.fn.site;
}
