use Rattle.std.proofs.Common.{ℕ, ◌+◌, ◌-◌, ◌<◌, ◌≤◌, ◌≡◌, ◌∙◌, ◌++◌, ap, List, subst, refl, arith, rules}
use Rattle.dms_site.specs.Files.{Files}
use Rattle.dms_audfile.specs.Gates.{blocks_from}
use Rattle.dms_stream.specs.Stream.{records_bytes}
use Rattle.dms_remote.specs.Shipping.{PrintsFirst, placed_bytes, blocks_on, AreWhole}
use Rattle.dms_remote.specs.Files.{EndsIn}
use Rattle.dms_remote.proofs.Blocks.{rest_at, rest_behind, file_turn}
use Rattle.dms_remote.proofs.Printing.{printing_none, printing_more, printing_part, printing_done, printing_first, prints_none, prints_on}
use Rattle.dms_remote.proofs.shipping.ship_files.Goals as goal

pub loop-file-init : goal.loop-file-init
loop-file-init g c =
    let s = c.args.shipment.now in
    let k = c.args.from in
    let files = g.S.Site.files c.args.site.now in
    let at : 10000 + k - 10000 ≡ k = omega arith in
    record {
      size = c.requires.size;
      prints = λ tells told ends. printing_none _ _ _ (ap (λ (n : ℕ). records_bytes s.total n 1 (blocks_on s.total s.last k files)) at);
      whole = λ ends. ends.whole;
      files = λ tells. refl;
      moments = prints_none _;
      same_site = g.met.S.Site.same_again _;
      disk = refl;
      say = refl;
    }

pub loop-file-preserved : goal.loop-file-preserved
loop-file-preserved g c =
    let inv = c.loop-file.invariant in
    let s = c.args.shipment.now in
    let f = c.loop-file.file in
    let n = c.count_in-count.result in
    let files = g.S.Site.files c.args.site.now in
    let low : 10000 + c.args.from ≤ f = omega (arith, c.loop-file.auto.file) in
    let high : f ≤ s.last = omega (arith, c.loop-file-test.true) in
    let next : f - 10000 + 1 ≡ f + 1 - 10000 = omega (arith, low) in
    let turn = λ (ends : EndsIn c.args.from s.total s.last s.count files). file_turn c.args.from s.total s.last s.count f n files ends low high c.count_in-count.ensures.count in
    record {
      size = c.in-Ok.ensures.size;
      prints = λ tells told ends.
          let here = (turn ends).whole (inv.whole ends) in
          printing_more _ _ _ _ _ _ _ (inv.prints tells told ends)
          ((turn ends).is ∙ ap (λ (m : ℕ). placed_bytes (f - 10000) 1 (blocks_from n 1 (files f)) ++ records_bytes s.total m 1 (rest_at s.total s.last (f + 1) files)) next)
          (subst (λ (fs : Files). AreWhole (blocks_from n 1 (fs f)) → g.S.Site.said c.ship_file.new.site ≡ g.S.Site.said c.loop-file.site ++ placed_bytes (f - 10000) 1 (blocks_from n 1 (fs f))) (inv.files tells) (c.in-Ok.ensures.printed tells told) here.0);
      whole = λ ends. ((turn ends).whole (inv.whole ends)).1;
      files = λ tells. c.in-Ok.ensures.files tells ∙ inv.files tells;
      moments = prints_on inv.moments c.in-Ok.ensures.moments;
      same_site = g.met.S.Site.same_then _ _ _ inv.same_site c.in-Ok.ensures.same_site;
      disk = search rules;
      say = search rules;
    }

pub returns-in-Err-clause-part : goal.returns-in-Err-clause-part
returns-in-Err-clause-part g c = λ tells told ends.
    let inv = c.loop-file.invariant in
    let s = c.args.shipment.now in
    let f = c.loop-file.file in
    let n = c.count_in-count.result in
    let files = g.S.Site.files c.args.site.now in
    let low : 10000 + c.args.from ≤ f = omega (arith, c.loop-file.auto.file) in
    let high : f ≤ s.last = omega (arith, c.loop-file-test.true) in
    let turn = file_turn c.args.from s.total s.last s.count f n files ends low high c.count_in-count.ensures.count in
    let here = turn.whole (inv.whole ends) in
    printing_part _ _ _ _ _ _ _ (inv.prints tells told ends) turn.is
    (subst (λ (fs : Files). AreWhole (blocks_from n 1 (fs f)) → PrintsFirst (placed_bytes (f - 10000) 1 (blocks_from n 1 (fs f))) (g.S.Site.said c.loop-file.site) (g.S.Site.said c.ship_file.new.site)) (inv.files tells) (c.in-Err.ensures.part tells told) here.0)

pub returns-in-Err-clause-moments : goal.returns-in-Err-clause-moments
returns-in-Err-clause-moments g c = prints_on c.loop-file.invariant.moments c.in-Err.ensures.moments

pub returns-clause-printed : goal.returns-clause-printed
returns-clause-printed g c = λ tells told ends.
    let s = c.args.shipment.now in
    let f = c.loop-file.file in
    let files = g.S.Site.files c.args.site.now in
    let behind : s.last < f = omega (arith, c.loop-file-test.false) in
    printing_done _ _ _ _ (c.loop-file.invariant.prints tells told ends) (ap (λ (bs : List (List ℕ)). records_bytes s.total (f - 10000) 1 bs) (rest_behind s.total s.last f files behind))

pub returns-clause-part : goal.returns-clause-part
returns-clause-part g c = λ tells told ends. printing_first _ _ _ _ (c.loop-file.invariant.prints tells told ends)
