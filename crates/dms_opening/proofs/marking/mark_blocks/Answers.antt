use Rattle.std.proofs.Common.{◌+◌, ◌*◌, ◌≡◌, length, refl, sym, ◌∙◌, ap, arith}
use Rattle.dms_running.proofs.Rewriting.{rewritten_same, rewritten_on, rewritten_torn, steps_still, steps_more, steps_torn}
use Rattle.dms_restore.proofs.Writing.{within_torn, within_moments}
use Rattle.dms_opening.specs.Marking.{mark, IsBefore}
use Rattle.dms_opening.proofs.Marked.{behind_free, mark_size, mark_written, marks_more}
use Rattle.dms_opening.proofs.marking.mark_blocks.Goals as goal

pub loop-block-init : goal.loop-block-init
loop-block-init g c = record {
  low = omega arith;
  marked = λ tells b up low. absurd (omega (arith, up, low));
  written = λ tells. rewritten_same (IsBefore c.args.file c.args.from) _;
  moments = λ tells. steps_still (IsBefore c.args.file c.args.from) _;
  others = λ tells h apart. refl;
  said = refl;
  same = g.met.S.Site.same_again _;
  clean = refl;
  say_faults = refl;
}

pub loop-block-preserved : goal.loop-block-preserved
loop-block-preserved g c =
    let inv = c.loop-block.invariant in
    let f = c.args.file in
    let k = c.loop-block.block in
    let keeps = IsBefore f c.args.from in
    let at : 1024 * c.from.result ≡ 1024 * k = ap (λ n. 1024 * n) c.from.ensures in
    let place : 1024 * c.from.result ≡ 1024 * k + 0 = omega (arith, at) in
    let free = behind_free f c.args.from k inv.low in
    record {
      low = omega (arith, inv.low);
      marked = λ tells. marks_more f c.args.from k _ _ (within_torn f k 0 1024 (1024 * c.from.result) 1024 _ _ (omega arith) place refl (c.write_at.ensures.torn tells)) (mark_written f k _ _ _ mark c.requires.structure at refl (c.in-Ok.ensures.written tells)) (inv.marked tells);
      written = λ tells. rewritten_on keeps _ _ _ (inv.written tells) (rewritten_torn keeps f k _ _ c.requires.structure free (within_torn f k 0 1024 (1024 * c.from.result) 1024 _ _ (omega arith) place refl (c.write_at.ensures.torn tells)));
      moments = λ tells. steps_more keeps _ _ _ (inv.moments tells) (steps_torn keeps f k _ _ c.requires.structure free (within_moments f k 0 1024 (1024 * c.from.result) 1024 _ _ (omega arith) place refl c.write_at.ensures.moments));
      others = λ tells h apart. (c.write_at.ensures.torn tells).others h apart ∙ inv.others tells h apart;
      said = c.write_at.ensures.said ∙ inv.said;
      same = g.met.S.Site.same_then _ _ _ inv.same c.write_at.ensures.same_site;
      clean = c.in-Ok.ensures.faults.clean ∙ inv.clean;
      say_faults = c.write_at.ensures.say_faults ∙ inv.say_faults;
    }

pub returns-in-Err-clause-written : goal.returns-in-Err-clause-written
returns-in-Err-clause-written g c tells =
    let inv = c.loop-block.invariant in
    let f = c.args.file in
    let k = c.loop-block.block in
    let keeps = IsBefore f c.args.from in
    let at : 1024 * c.from.result ≡ 1024 * k = ap (λ n. 1024 * n) c.from.ensures in
    let place : 1024 * c.from.result ≡ 1024 * k + 0 = omega (arith, at) in
    rewritten_on keeps _ _ _ (inv.written tells) (rewritten_torn keeps f k _ _ c.requires.structure (behind_free f c.args.from k inv.low) (within_torn f k 0 1024 (1024 * c.from.result) 1024 _ _ (omega arith) place refl (c.write_at.ensures.torn tells)))

pub returns-in-Err-clause-moments : goal.returns-in-Err-clause-moments
returns-in-Err-clause-moments g c tells =
    let inv = c.loop-block.invariant in
    let f = c.args.file in
    let k = c.loop-block.block in
    let keeps = IsBefore f c.args.from in
    let at : 1024 * c.from.result ≡ 1024 * k = ap (λ n. 1024 * n) c.from.ensures in
    let place : 1024 * c.from.result ≡ 1024 * k + 0 = omega (arith, at) in
    steps_more keeps _ _ _ (inv.moments tells) (steps_torn keeps f k _ _ c.requires.structure (behind_free f c.args.from k inv.low) (within_moments f k 0 1024 (1024 * c.from.result) 1024 _ _ (omega arith) place refl c.write_at.ensures.moments))
