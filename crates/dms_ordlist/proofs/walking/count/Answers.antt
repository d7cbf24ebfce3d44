use Rattle.std.proofs.Common.{ℕ}
use Rattle.std.specs.declared.result.Result.TheVariants.{Ok}
use Rattle.dms_block.specs.View.{under}
use Rattle.dms_block.specs.ViewLaws.{reads_as}
use Rattle.dms_ordlist.specs.declared.walking.Gathered.{Gathered}
use Rattle.dms_chain.specs.Seen.{NoList}
use Rattle.dms_chain.specs.SeenLaws.{causes_err}
use Rattle.dms_ordlist.specs.Walks.{reads_err}
use Rattle.dms_ordlist.proofs.walking.count.Goals as goal

pub returns-in-Ok-clause-count : goal.returns-in-Ok-clause-count
returns-in-Ok-clause-count g c told xs is = (c.in-Ok.ensures.gathered told xs is).count

pub returns-in-Ok-clause-reads : goal.returns-in-Ok-clause-reads
returns-in-Ok-clause-reads g c = reads_as (Ok c.in-Ok.gathered.count) tt c.in-Ok.ensures.reads

pub returns-in-Err-clause-reads : goal.returns-in-Err-clause-reads
returns-in-Err-clause-reads g c = reads_err c.in-Err.fault c.in-Err.ensures.reads

pub returns-in-Err-clause-causes : goal.returns-in-Err-clause-causes
returns-in-Err-clause-causes g c =
    let P = NoList c.args.over.now c.args.file c.args.width in
    causes_err Gathered ℕ P P c.in-Err.fault (under c.args.over.now) (under c.walk_list.new.over) (λ f k h. h) c.in-Err.ensures.causes
