use Rattle.std.proofs.Common.{length}
use Rattle.dms_chain.specs.Seen.{NoList}
use Rattle.dms_chain.specs.SeenLaws.{causes_since}
use Rattle.dms_ordlist.proofs.removing.remove.Goals as goal

pub returns-clause-causes : goal.returns-clause-causes
returns-clause-causes g c =
    causes_since (λ f k. ⊥) (NoList c.args.over.now c.args.file (length c.args.entry.now)) c.remove_in.result c.args.over.now c.look.new.over c.remove_in.new.over
    (λ f k h. absurd h) c.in_ok-found.ensures.causes c.in_ok-found.ensures.reads c.remove_in.ensures.causes
