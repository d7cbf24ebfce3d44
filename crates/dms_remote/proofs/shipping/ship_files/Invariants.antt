use Rattle.std.proofs.Common.{◌-◌, ◌≡◌, length, IsTrue}
use Rattle.dms_moments.specs.Moments.{Steps}
use Rattle.dms_stream.specs.Stream.{records_bytes}
use Rattle.dms_remote.specs.Shipping.{PrintsSome, blocks_on, AreWhole}
use Rattle.dms_remote.specs.Files.{EndsIn}
use Rattle.dms_remote.proofs.Blocks.{rest_at}
use Rattle.dms_remote.proofs.Printing.{Printing}
use Rattle.dms_remote.proofs.shipping.ship_files.Given as goal

abbrev pub invariant-loop-file : goal.invariant-loop-file
invariant-loop-file g l =
    let files = g.S.Site.files l.fn.site in
    let s = l.fn.shipment in
    record {
      size : length l.buffer ≡ 4103;
      prints : IsTrue g.S.Site.tells → IsTrue g.S.Site.tells_said → EndsIn l.fn.from s.total s.last s.count files
          → Printing (records_bytes s.total l.fn.from 1 (blocks_on s.total s.last l.fn.from files)) (g.S.Site.said l.fn.site) (g.S.Site.said l.site) (records_bytes s.total (l.file - 10000) 1 (rest_at s.total s.last l.file files));
      whole : EndsIn l.fn.from s.total s.last s.count files → AreWhole (rest_at s.total s.last l.file files);
      files : IsTrue g.S.Site.tells → g.S.Site.files l.site ≡ g.S.Site.files l.fn.site;
      moments : Steps PrintsSome (g.S.Site.clock l.fn.site) (g.S.Site.clock l.site);
      same_site : g.S.Site.same_site l.fn.site l.site;
      disk : g.S.Site.disk_faults l.site ≡ g.S.Site.disk_faults l.fn.site;
      say : g.S.Site.say_faults l.site ≡ g.S.Site.say_faults l.fn.site;
    }
