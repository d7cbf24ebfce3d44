use Rattle.std.proofs.lemmas.Result.{on_ok_weaker}
use Rattle.dms_sitemem.specs.Honest.{marked_torn}
use Rattle.dms_memcalls.specs.Views.{view}
use Rattle.dms_memcalls.proofs.Struck.{changed_files}
use Rattle.dms_memcalls.proofs.crash.strike_bytes.Goals as goal

pub returns : goal.returns
returns c = on_ok_weaker c.strike_write.result
    (λ now. changed_files (view c.args.left.now) c.args.file _ _ _ _ (marked_torn c.args.fill c.args.seed.now c.args.at c.args.bytes.now _) now c.strike_write.ensures.said) c.strike_write.ensures.files
