use Rattle.std.proofs.Common.{ℕ, ◌+◌, ◌≤◌, ◌≡◌, refl, ◌∙◌, subst, arith}
use Rattle.dms_running.proofs.Rewriting.{rewritten_same, rewritten_on, steps_still, steps_more}
use Rattle.dms_opening.specs.Marking.{StoodWhole}
use Rattle.dms_opening.proofs.Marked.{count_at_place, files_all, files_more, structure_of}
use Rattle.dms_opening.proofs.marking.mark_short.Goals as goal

pub loop-number-init : goal.loop-number-init
loop-number-init g c = record {
  marked = λ tells f b low short. absurd (omega (arith, low, structure_of _ f b short.0));
  untouched = λ tells f up. refl;
  written = λ tells. rewritten_same StoodWhole _;
  moments = λ tells. steps_still StoodWhole _;
  said = refl;
  same = g.met.S.Site.same_again _;
  clean = refl;
  say_faults = refl;
}

pub loop-number-preserved : goal.loop-number-preserved
loop-number-preserved g c =
    let inv = c.loop-number.invariant in
    let i = c.loop-number.number in
    let m = c.mark_in.ensures in
    record {
      marked = λ tells f b low short. files_more _ _ _ c.args.counts.now c.args.table.now i _ refl (inv.untouched tells (30001 + i) (omega arith)) (m.written tells) (c.in-Ok.ensures.marked tells) (inv.marked tells) f b low short;
      untouched = λ tells f up. m.others tells f (λ same. omega (arith, up, same)) ∙ inv.untouched tells f (omega (arith, up));
      written = λ tells. rewritten_on StoodWhole _ _ _ (inv.written tells) (m.written tells);
      moments = λ tells. steps_more StoodWhole _ _ _ (inv.moments tells) (m.moments tells);
      said = m.said ∙ inv.said;
      same = g.met.S.Site.same_then _ _ _ inv.same m.same_site;
      clean = c.in-Ok.ensures.faults.clean ∙ inv.clean;
      say_faults = m.say_faults ∙ inv.say_faults;
    }

pub returns-clause-marked : goal.returns-clause-marked
returns-clause-marked g c tells = files_all _ _ c.args.counts.now c.args.table.now c.loop-number.number (omega (arith, c.loop-number-test.false)) (c.loop-number.invariant.marked tells)

pub returns-in-Err-clause-written : goal.returns-in-Err-clause-written
returns-in-Err-clause-written g c tells = rewritten_on StoodWhole _ _ _ (c.loop-number.invariant.written tells) (c.mark_in.ensures.written tells)

pub returns-in-Err-clause-moments : goal.returns-in-Err-clause-moments
returns-in-Err-clause-moments g c tells = steps_more StoodWhole _ _ _ (c.loop-number.invariant.moments tells) (c.mark_in.ensures.moments tells)

pub mark_in-requires-clause-blocks : goal.mark_in-requires-clause-blocks
mark_in-requires-clause-blocks g c = subst (λ n. n ≤ 2097152) (count_at_place c.args.counts.now c.loop-number.number) (c.requires.small (30001 + c.loop-number.number))
