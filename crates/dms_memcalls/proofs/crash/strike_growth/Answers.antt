use Rattle.std.proofs.Common.{[]}
use Rattle.std.proofs.lemmas.Result.{on_ok_weaker}
use Rattle.dms_site.specs.Laws.{torn_overlaid, torn_refl}
use Rattle.dms_memcalls.specs.Views.{view}
use Rattle.dms_memcalls.proofs.Struck.{changed_files, changed_not}
use Rattle.dms_memcalls.proofs.crash.strike_growth.Goals as goal

pub returns-then-odd : goal.returns-then-odd
returns-then-odd c = on_ok_weaker c.write.result (λ now. changed_files (view c.args.left.now) c.args.file _ _ _ _ (torn_overlaid c.args.len [] _) now c.write.ensures.said) c.write.ensures.written

pub returns : goal.returns
returns c = changed_not (view c.args.left.now) c.args.file _ (torn_refl c.args.len 0)
