use Rattle.std.proofs.Common.{ℕ, ◌+◌, ◌-◌, ◌≡◌, ◌∙◌, ◌++◌, ap, List, subst, sym, refl, length, arith, rules}
use Rattle.dms_site.specs.Files.{Files}
use Rattle.dms_audfile.specs.Gates.{block_at, blocks_from}
use Rattle.dms_stream.specs.Stream.{record_bytes}
use Rattle.dms_remote.specs.Shipping.{PrintsFirst, placed_bytes, AreWhole}
use Rattle.dms_remote.proofs.Blocks.{blocks_turn}
use Rattle.dms_remote.proofs.Printing.{printing_none, printing_more, printing_part, printing_done, printing_first, prints_none, prints_on}
use Rattle.dms_remote.proofs.shipping.ship_file.Goals as goal

pub loop-block-init : goal.loop-block-init
loop-block-init g c =
    let count = c.args.count in
    let file = g.S.Site.files c.args.site.now c.args.file in
    let all : count + 1 - 1 ≡ count = omega arith in
    record {
      size = c.requires.size;
      prints = λ tells told whole. printing_none _ _ _ (ap (λ (n : ℕ). placed_bytes (c.args.file - 10000) 1 (blocks_from n 1 file)) all);
      whole = λ whole. subst (λ (n : ℕ). AreWhole (blocks_from n 1 file)) (sym all) whole;
      files = λ tells. refl;
      moments = prints_none _;
      same_site = g.met.S.Site.same_again _;
      disk = refl;
      say = refl;
    }

pub loop-block-preserved : goal.loop-block-preserved
loop-block-preserved g c =
    let inv = c.loop-block.invariant in
    let i = c.loop-block.block in
    let f = c.args.file in
    let k = f - 10000 in
    let file = g.S.Site.files c.args.site.now f in
    let turn = blocks_turn c.args.count i file c.loop-block-test.true in
    record {
      size = c.in-Ok.ensures.size;
      prints = λ tells told whole.
          let here = subst AreWhole turn (inv.whole whole) in
          printing_more _ _ _ _ _ _ _ (inv.prints tells told whole) (ap (λ (bs : List (List ℕ)). placed_bytes k i bs) turn)
          (subst (λ (fs : Files). length (block_at i (fs f)) ≡ 4096 → g.S.Site.said c.ship_block.new.site ≡ g.S.Site.said c.loop-block.site ++ record_bytes k i (block_at i (fs f))) (inv.files tells) (c.in-Ok.ensures.printed tells told) here.0);
      whole = λ whole. (subst AreWhole turn (inv.whole whole)).1;
      files = λ tells. c.in-Ok.ensures.files tells ∙ inv.files tells;
      moments = prints_on inv.moments c.in-Ok.ensures.moments;
      same_site = g.met.S.Site.same_then _ _ _ inv.same_site c.in-Ok.ensures.same_site;
      disk = search rules;
      say = search rules;
    }

pub returns-in-Err-clause-part : goal.returns-in-Err-clause-part
returns-in-Err-clause-part g c = λ tells told whole.
    let inv = c.loop-block.invariant in
    let i = c.loop-block.block in
    let f = c.args.file in
    let k = f - 10000 in
    let file = g.S.Site.files c.args.site.now f in
    let turn = blocks_turn c.args.count i file c.loop-block-test.true in
    let here = subst AreWhole turn (inv.whole whole) in
    printing_part _ _ _ _ _ _ _ (inv.prints tells told whole) (ap (λ (bs : List (List ℕ)). placed_bytes k i bs) turn)
    (subst (λ (fs : Files). length (block_at i (fs f)) ≡ 4096 → PrintsFirst (record_bytes k i (block_at i (fs f))) (g.S.Site.said c.loop-block.site) (g.S.Site.said c.ship_block.new.site)) (inv.files tells) (c.in-Err.ensures.part tells told) here.0)

pub returns-in-Err-clause-moments : goal.returns-in-Err-clause-moments
returns-in-Err-clause-moments g c = prints_on c.loop-block.invariant.moments c.in-Err.ensures.moments

pub returns-clause-printed : goal.returns-clause-printed
returns-clause-printed g c = λ tells told whole.
    let i = c.loop-block.block in
    let file = g.S.Site.files c.args.site.now c.args.file in
    let none : c.args.count + 1 - i ≡ 0 = omega (arith, c.loop-block-test.false) in
    printing_done _ _ _ _ (c.loop-block.invariant.prints tells told whole) (ap (λ (n : ℕ). placed_bytes (c.args.file - 10000) i (blocks_from n i file)) none)

pub returns-clause-part : goal.returns-clause-part
returns-clause-part g c = λ tells told whole. printing_first _ _ _ _ (c.loop-block.invariant.prints tells told whole)
