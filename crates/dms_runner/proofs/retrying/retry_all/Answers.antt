use Rattle.dms_storeverbs.proofs.Lasting.{lasts_none, lasts_on}
use Rattle.std.proofs.Common.{Bool, sym, ap, arith}
use Rattle.dms_desc.specs.Shape.{as_described}
use Rattle.dms_runner.proofs.Turns.{retrying_start, retrying_on, retrying_end, retrying_out, retrying_part, retrying_room, passes_from, part_from}
use Rattle.dms_runner.proofs.InOrder.{may_go_on, may_under}
use Rattle.dms_runner.proofs.Verbs.{held_under}
use Rattle.dms_runner.proofs.Happening.{part_all, part_err}
use Rattle.dms_runner.proofs.retrying.retry_all.Goals as goal

pub loop-turn-init : goal.loop-turn-init
loop-turn-init g c = record {
  lasts = lasts_none g.met.St.Store.same_again _ c.requires.sound;
  verbs = c.requires.verbs;
  retrying = λ s stands room held. retrying_start _ s _ _ _ stands held;
}

pub pass-requires-clause-verbs : goal.pass-requires-clause-verbs
pass-requires-clause-verbs g c = held_under c.loop-turn.waiting (ap as_described (sym c.loop-turn.invariant.lasts.description)) c.loop-turn.invariant.verbs

pub returns-in_err-pass-clause-part : goal.returns-in_err-pass-clause-part
returns-in_err-pass-clause-part g c = λ s stands room held.
    let k = c.loop-turn.invariant.retrying s stands room held in
    retrying_part _ s _ _ _ _ _ _ _ k (omega (arith, c.loop-turn-test.true, c.requires.verbs.firsts.count))
    (part_from _ _ k.at _ _ _ (ap as_described c.loop-turn.invariant.lasts.description) (part_err Bool c.from_residual.result _ _ _ _ c.from_residual.ensures.1 (c.in_err-pass.ensures.part k.at k.stands (may_under (ap as_described (sym c.loop-turn.invariant.lasts.description)) (may_go_on (retrying_room _ s _ _ _ _ _ _ k room) k.order)))))

pub returns-then-not-branch-clause-verbs : goal.returns-then-not-branch-clause-verbs
returns-then-not-branch-clause-verbs g c = held_under c.pass.new.waiting (ap as_described c.loop-turn.invariant.lasts.description) c.in_ok-pass.ensures.verbs

pub returns-then-not-branch-clause-retries : goal.returns-then-not-branch-clause-retries
returns-then-not-branch-clause-retries g c = λ s stands room held.
    let k = c.loop-turn.invariant.retrying s stands room held in
    retrying_end _ s _ _ _ _ _ _ _ _ _ k (omega (arith, c.loop-turn-test.true, c.requires.verbs.firsts.count))
    (passes_from _ _ k.at _ _ _ _ _ _ _ (ap as_described c.loop-turn.invariant.lasts.description) c.if-not-branch.true (c.in_ok-pass.ensures.passes k.at k.stands (may_under (ap as_described (sym c.loop-turn.invariant.lasts.description)) (may_go_on (retrying_room _ s _ _ _ _ _ _ k room) k.order))))

pub returns-then-not-branch-clause-part : goal.returns-then-not-branch-clause-part
returns-then-not-branch-clause-part g c = λ s stands room held.
    let k = c.loop-turn.invariant.retrying s stands room held in
    retrying_part _ s _ _ _ _ _ _ _ k (omega (arith, c.loop-turn-test.true, c.requires.verbs.firsts.count))
    (part_from _ _ k.at _ _ _ (ap as_described c.loop-turn.invariant.lasts.description) (c.in_ok-pass.ensures.part k.at k.stands (may_under (ap as_described (sym c.loop-turn.invariant.lasts.description)) (may_go_on (retrying_room _ s _ _ _ _ _ _ k room) k.order))))

pub loop-turn-preserved : goal.loop-turn-preserved
loop-turn-preserved g c = record {
  lasts = lasts_on g.met.St.Store.same_then c.loop-turn.invariant.lasts c.in_ok-pass.ensures.lasts;
  verbs = held_under c.pass.new.waiting (ap as_described c.loop-turn.invariant.lasts.description) c.in_ok-pass.ensures.verbs;
  retrying = λ s stands room held.
      let k = c.loop-turn.invariant.retrying s stands room held in
      retrying_on _ s _ _ _ _ _ _ _ _ _ k c.loop-turn.invariant.verbs.verbs (omega (arith, c.loop-turn-test.true, c.requires.verbs.firsts.count))
      (passes_from _ _ k.at _ _ _ _ _ _ _ (ap as_described c.loop-turn.invariant.lasts.description) c.if-not-branch.false (c.in_ok-pass.ensures.passes k.at k.stands (may_under (ap as_described (sym c.loop-turn.invariant.lasts.description)) (may_go_on (retrying_room _ s _ _ _ _ _ _ k room) k.order))));
}

pub returns-clause-retries : goal.returns-clause-retries
returns-clause-retries g c = λ s stands room held. retrying_out _ s _ _ _ _ _ _ (c.loop-turn.invariant.retrying s stands room held) (omega (arith, c.loop-turn-test.false, c.requires.verbs.firsts.count))

pub returns-clause-part : goal.returns-clause-part
returns-clause-part g c = λ s stands room held.
    let w = retrying_out _ s _ _ _ _ _ _ (c.loop-turn.invariant.retrying s stands room held) (omega (arith, c.loop-turn-test.false, c.requires.verbs.firsts.count)) in
    part_all (λ n none. none) _ _ _ w.ran
