use Rattle.std.proofs.Common.{arith, ◌≡◌, [], ◌∙◌, sym, take, ℕ}
use Rattle.std.proofs.lemmas.List.{drop_all, length-take}
use Rattle.dms_feed.proofs.Feeding.{refilled}
use Rattle.dms_feed.proofs.feed.Feed.fill.Goals as goal

pub returns-clause-fills : goal.returns-clause-fills
returns-clause-fills g c = λ all remains.
    let f = c.self.inside in
    let empty : c.args.self.now ≡ [] = sym c.self.view_is ∙ drop_all f.at (take f.end f.buffer) (omega (arith, length-take {A = ℕ} f.end f.buffer)) in
    refilled c.args.self.now c.take.new.into c.in_ok-count.count (g.I.Source.left c.args.source.now) (g.I.Source.left c.take.new.self) all empty (omega (arith, c.in_ok-count.ensures.bound)) (omega arith) c.in_ok-count.ensures.bytes remains
