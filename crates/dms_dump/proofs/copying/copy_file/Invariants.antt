use Rattle.std.proofs.Common.{◌≡◌, ◌≢◌, ◌<◌, ℕ, IsTrue, length}
use Rattle.dms_moments.specs.Moments.{Steps}
use Rattle.dms_site.specs.Files.{OnDisk, stored_of}
use Rattle.dms_dump.specs.Body.{file_bytes}
use Rattle.dms_dump.specs.Stops.{KeepsGate}
use Rattle.dms_dump.specs.Copying.{CopiesBehind}
use Rattle.dms_dump.proofs.copying.copy_file.Given as goal

abbrev pub invariant-loop-block : goal.invariant-loop-block
invariant-loop-block g l = record {
  room : length l.buffer ≡ 1024;
  copied : IsTrue g.S.Site.tells → CopiesBehind l.dump l.at (file_bytes (stored_of (g.S.Site.files l.fn.site)) l.file l.block) (g.S.Site.files l.fn.site) (g.S.Site.files l.site);
  whole : IsTrue g.S.Site.tells → (b : ℕ) → b < l.block → length (stored_of (g.S.Site.files l.fn.site) l.file b) ≡ 1024;
  others : IsTrue g.S.Site.tells → (h : ℕ) → h ≢ l.dump → g.S.Site.files l.site h ≡ g.S.Site.files l.fn.site h;
  moments : Steps (OnDisk l.dump KeepsGate) (g.S.Site.clock l.fn.site) (g.S.Site.clock l.site);
  said : g.S.Site.said l.site ≡ g.S.Site.said l.fn.site;
  same : g.S.Site.same_site l.fn.site l.site;
  disk : g.S.Site.disk_faults l.site ≡ g.S.Site.disk_faults l.fn.site;
  say_faults : g.S.Site.say_faults l.site ≡ g.S.Site.say_faults l.fn.site;
}
