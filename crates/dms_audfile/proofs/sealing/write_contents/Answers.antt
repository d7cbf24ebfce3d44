use Rattle.std.proofs.Common.{◌≡◌, ◌+◌, ◌∙◌, ◌*◌, ◌-◌, ap, arith, length, take, drop}
use Rattle.dms_moments.specs.MomentLaws.{steps_on}
use Rattle.dms_site.specs.Files.{with_file, overlay_bytes}
use Rattle.dms_audfile.proofs.Group.{in_then, content_left, piece_long, piece_is, one_step, one_long, more_blocks}
use Rattle.dms_audfile.proofs.sealing.write_contents.Goals as goal

pub returns-in_err-write_at-clause-moments : goal.returns-in_err-write_at-clause-moments
returns-in_err-write_at-clause-moments g c =
    let inv = c.loop-i.invariant in
    let i = c.loop-i.i in
    let size = ap length (piece_is i c.args.contents.now) ∙ piece_long i c.args.blocks c.args.contents.now c.loop-i-test.true c.requires.size in
    steps_on inv.moments c.write_at.ensures.moments
    (λ z y x was now one two. content_left c.args.file c.args.count c.args.blocks i c.from-place.result (take (4096 * i + 4096 - 4096 * i) (drop (4096 * i) c.args.contents.now)) z y x c.from-place.ensures c.loop-i-test.true size one two)
    (λ z x was one. one)

pub loop-i-preserved : goal.loop-i-preserved
loop-i-preserved g c =
    let inv = c.loop-i.invariant in
    let i = c.loop-i.i in
    let piece = take (4096 * i + 4096 - 4096 * i) (drop (4096 * i) c.args.contents.now) in
    let part = piece_is i c.args.contents.now in
    let size = ap length part ∙ piece_long i c.args.blocks c.args.contents.now c.loop-i-test.true c.requires.size in
    let a = g.S.Site.files c.loop-i.site in
    let b = g.S.Site.files c.write_at.new.self in
    let n = c.args.count in
    let at = c.from-place.ensures in
    let written : (tells : _) → b ≡ with_file a c.args.file (overlay_bytes (4096 * (n + i + 1)) piece (a c.args.file)) =
    λ tells. c.in_ok-write_at.ensures.written tells ∙ ap (λ k. with_file a c.args.file (overlay_bytes (4096 * (k + 1)) piece (a c.args.file))) at in
    record {
      step = λ tells. in_then c.args.file (4096 * (n + 1)) (4096 * c.args.blocks) (4096 * (n + i + 1)) 4096 _ a b (omega arith) (omega (arith, c.loop-i-test.true)) (inv.step tells)
          (one_step c.args.file n c.args.blocks i c.args.contents.now piece a b c.loop-i-test.true size part (written tells));
      long = λ tells long. omega (arith, one_long c.args.file n c.args.blocks i c.args.contents.now piece a b c.loop-i-test.true size part (written tells));
      done = λ tells long. more_blocks c.args.file n c.args.blocks i c.args.contents.now piece a b c.loop-i-test.true size part (written tells) (inv.long tells long) (inv.done tells long);
      moments = steps_on inv.moments c.write_at.ensures.moments
          (λ z y x was now one two. content_left c.args.file n c.args.blocks i c.from-place.result piece z y x at c.loop-i-test.true size one two)
          (λ z x was one. one);
      said = c.write_at.ensures.said ∙ inv.said;
      same = g.met.S.Site.same_then _ _ _ inv.same c.write_at.ensures.same_site;
      disk = c.in_ok-write_at.ensures.faults.clean ∙ inv.disk;
      say = c.write_at.ensures.say_faults ∙ inv.say;
    }
