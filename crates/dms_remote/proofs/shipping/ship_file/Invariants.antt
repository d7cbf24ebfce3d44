use Rattle.std.proofs.Common.{◌+◌, ◌-◌, ◌≡◌, length, IsTrue}
use Rattle.dms_moments.specs.Moments.{Steps}
use Rattle.dms_audfile.specs.Gates.{blocks_from}
use Rattle.dms_remote.specs.Shipping.{PrintsSome, placed_bytes, AreWhole}
use Rattle.dms_remote.proofs.Printing.{Printing}
use Rattle.dms_remote.proofs.shipping.ship_file.Given as goal

abbrev pub invariant-loop-block : goal.invariant-loop-block
invariant-loop-block g l =
    let file = g.S.Site.files l.fn.site l.fn.file in
    let k = l.fn.file - 10000 in
    record {
      size : length l.buffer ≡ 4103;
      prints : IsTrue g.S.Site.tells → IsTrue g.S.Site.tells_said → AreWhole (blocks_from l.fn.count 1 file)
          → Printing (placed_bytes k 1 (blocks_from l.fn.count 1 file)) (g.S.Site.said l.fn.site) (g.S.Site.said l.site) (placed_bytes k l.block (blocks_from (l.fn.count + 1 - l.block) l.block file));
      whole : AreWhole (blocks_from l.fn.count 1 file) → AreWhole (blocks_from (l.fn.count + 1 - l.block) l.block file);
      files : IsTrue g.S.Site.tells → g.S.Site.files l.site ≡ g.S.Site.files l.fn.site;
      moments : Steps PrintsSome (g.S.Site.clock l.fn.site) (g.S.Site.clock l.site);
      same_site : g.S.Site.same_site l.fn.site l.site;
      disk : g.S.Site.disk_faults l.site ≡ g.S.Site.disk_faults l.fn.site;
      say : g.S.Site.say_faults l.site ≡ g.S.Site.say_faults l.fn.site;
    }
