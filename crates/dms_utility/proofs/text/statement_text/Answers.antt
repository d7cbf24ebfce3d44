use Rattle.std.proofs.Common.{◌∙◌, refl, arith}
use Rattle.dms_utility.proofs.Taken.{taken_start, taken_on, taken_all, taken_end, taken_over}
use Rattle.dms_utility.proofs.text.statement_text.Goals as goal

pub returns-in-Ok-None-clause-text : goal.returns-in-Ok-None-clause-text
returns-in-Ok-None-clause-text g c = λ all left.
    let t = c.loop-turn.invariant.taken all left in
    let f = (rw c.in-Ok-None.field-0-is at c.in-Ok-None.ensures.byte) t.rest t.remains in
    taken_all _ _ all _ _ t f.0

pub returns-in-Ok-None-clause-end : goal.returns-in-Ok-None-clause-end
returns-in-Ok-None-clause-end g c = λ all left.
    let t = c.loop-turn.invariant.taken all left in
    let f = (rw c.in-Ok-None.field-0-is at c.in-Ok-None.ensures.byte) t.rest t.remains in
    taken_end _ _ all _ _ _ _ t f.0 f.1

pub returns-clause-long : goal.returns-clause-long
returns-clause-long g c = λ _ all left.
    taken_over _ _ all _ _ (c.loop-turn.invariant.taken all left) (omega (arith, c.loop-turn-test.false))

pub loop-turn-init : goal.loop-turn-init
loop-turn-init g c = record {
  same = g.met.I.Source.same_again c.args.source.now;
  clean = refl;
  taken = λ all left. taken_start _ all _ _ c.new-text.ensures c.new-feed.ensures left;
}

pub loop-turn-preserved : goal.loop-turn-preserved
loop-turn-preserved g c = record {
  same = g.met.I.Source.same_then _ _ _ c.loop-turn.invariant.same c.next.ensures.same;
  clean = c.in-Ok-Some.ensures.cause.clean ∙ c.loop-turn.invariant.clean;
  taken = λ all left.
      let t = c.loop-turn.invariant.taken all left in
      let f = (rw c.in-Ok-Some.field-0-is at c.in-Ok-Some.ensures.byte) t.rest t.remains in
      taken_on _ c.in-Ok-Some.byte _ _ all _ _ _ _ t f.0 f.1 c.in-Ok.ensures.ok;
}
