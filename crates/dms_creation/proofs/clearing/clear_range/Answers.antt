use Rattle.std.proofs.Common.{◌<◌, ◌⊎◌, ◌∙◌, inl, inr, arith}
use Rattle.std.proofs.lemmas.Bool.{cases_lt}
use Rattle.dms_creation.proofs.Cleared.{out_then}
use Rattle.dms_creation.proofs.clearing.clear_range.Goals as goal

pub returns-in_err-last-clause-moments : goal.returns-in_err-last-clause-moments
returns-in_err-last-clause-moments g c = out_then c.args.low c.loop-top.top c.args.high c.loop-top.invariant.high c.loop-top.invariant.moments c.clear_last.ensures.moments

pub returns-then-last-eq0-clause-moments : goal.returns-then-last-eq0-clause-moments
returns-then-last-eq0-clause-moments g c = out_then c.args.low c.loop-top.top c.args.high c.loop-top.invariant.high c.loop-top.invariant.moments c.clear_last.ensures.moments

pub returns-then-last-eq0-clause-others : goal.returns-then-last-eq0-clause-others
returns-then-last-eq0-clause-others g c tells h out =
    let further : (h < c.args.low) ⊎ (c.loop-top.top < h) = elim out [ inl before ↦ inl before | inr behind ↦ inr (omega (arith, behind, c.loop-top.invariant.high)) ] in
    c.in_ok-last.ensures.others tells h further ∙ c.loop-top.invariant.others tells h out

pub returns-then-last-eq0-clause-cleared : goal.returns-then-last-eq0-clause-cleared
returns-then-last-eq0-clause-cleared g c tells h from upto = elim (cases_lt c.loop-top.top h) [
  | inl behind ↦ c.in_ok-last.ensures.others tells h (inr behind) ∙ c.loop-top.invariant.cleared tells h from behind upto
  | inr within ↦ c.in_ok-last.ensures.absent tells h from within (omega (arith, c.if-last-eq0.true))
]

pub loop-top-preserved : goal.loop-top-preserved
loop-top-preserved g c =
    let inv = c.loop-top.invariant in
    let last = c.in_ok-last.last in
    let bound = c.in_ok-last.ensures.bound (omega (arith, c.if-last-eq0.false)) in
    record {
      low = omega (arith, bound.0, c.requires.low);
      high = omega (arith, bound.1, inv.high);
      cleared = λ tells h from far upto. elim (cases_lt c.loop-top.top h) [
        | inl behind ↦ c.in_ok-last.ensures.others tells h (inr behind) ∙ inv.cleared tells h from behind upto
        | inr within ↦ c.in_ok-last.ensures.absent tells h from within (omega (arith, far))
      ];
      others = λ tells h out.
          let further : (h < c.args.low) ⊎ (c.loop-top.top < h) = elim out [ inl before ↦ inl before | inr behind ↦ inr (omega (arith, behind, inv.high)) ] in
          c.in_ok-last.ensures.others tells h further ∙ inv.others tells h out;
      moments = out_then c.args.low c.loop-top.top c.args.high inv.high inv.moments c.clear_last.ensures.moments;
      said = c.clear_last.ensures.said ∙ inv.said;
      same_site = g.met.S.Site.same_then _ _ _ inv.same_site c.clear_last.ensures.same_site;
      disk = c.in_ok-last.ensures.faults.clean ∙ inv.disk;
      say = c.clear_last.ensures.say_faults ∙ inv.say;
    }
