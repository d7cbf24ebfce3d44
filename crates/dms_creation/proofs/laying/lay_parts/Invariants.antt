use Rattle.std.proofs.Common.{◌≡◌, ◌+◌, ◌*◌, ◌≤◌, [], IsTrue}
use Rattle.dms_moments.specs.Moments.{Steps}
use Rattle.dms_site.specs.Files.{Files}
use Rattle.dms_creation.specs.Clearing.{KeepsApart}
use Rattle.dms_creation.specs.Laid.{Laid, parts_upto}
use Rattle.dms_creation.proofs.laying.lay_parts.Given as goal

abbrev pub invariant-loop-number : goal.invariant-loop-number
invariant-loop-number g l = record {
  near : l.end.file ≤ 10001 + 2 * l.number;
  limit : l.end.limit ≡ 9999;
  kind : (l.end.total ≡ l.fn.end.total) × (l.end.tag ≡ l.fn.end.tag) × (l.end.limit ≡ l.fn.end.limit);
  laid : IsTrue g.S.Site.tells → (old : Files) → Laid l.fn.end [] old (g.S.Site.files l.fn.site) (g.S.Site.clock l.fn.site) → Laid l.end (parts_upto l.count l.number l.bytes) old (g.S.Site.files l.site) (g.S.Site.clock l.site);
  moments : IsTrue g.S.Site.tells → (old : Files) → Laid l.fn.end [] old (g.S.Site.files l.fn.site) (g.S.Site.clock l.fn.site) → Steps KeepsApart (g.S.Site.clock l.fn.site) (g.S.Site.clock l.site);
  said : g.S.Site.said l.site ≡ g.S.Site.said l.fn.site;
  same_site : g.S.Site.same_site l.fn.site l.site;
  disk : g.S.Site.disk_faults l.site ≡ g.S.Site.disk_faults l.fn.site;
  say : g.S.Site.say_faults l.site ≡ g.S.Site.say_faults l.fn.site;
}
