use Rattle.std.proofs.Common.{◌+◌, ◌<◌, ℕ, List, sym, ap, subst, slice_get, arith}
use Rattle.std.specs.Option.{option_copied}
use Rattle.std.proofs.lemmas.Result.{IfOk-weaker}
use Rattle.dms_block.specs.HeldLaws.{told_after}
use Rattle.dms_block.specs.View.{ReadsOverlay, overlay_content, under}
use Rattle.dms_block.specs.ViewLaws.{counts_seen, reads_on}
use Rattle.dms_chain.specs.declared.spelling.ListHead.{ListHead}
use Rattle.dms_ordlist.specs.declared.walking.Gathered.{Gathered}
use Rattle.dms_chain.specs.Linked.{BlockChain}
use Rattle.dms_chain.specs.ListBlocks.{head_in, leaf_in}
use Rattle.dms_ordlist.specs.Looks.{no_chain, no_head}
use Rattle.dms_chain.specs.Seen.{NoChain, NoList, NotAt}
use Rattle.dms_chain.specs.SeenLaws.{causes_err, causes_since, counts_still, file_still}
use Rattle.dms_ordlist.specs.Walks.{gathered_chain, gathered_empty, gathered_none}
use Rattle.dms_ordlist.proofs.walking.walk_list.Goals as goal

pub returns-then-count-eq0-clause-gathered : goal.returns-then-count-eq0-clause-gathered
returns-then-count-eq0-clause-gathered g c told xs is =
    let o = c.args.over.now in
    let n = counts_seen o (g.met.B.Blocks.agrees o.below c.requires.sound) told c.args.file in
    gathered_none (option_copied c.args.tail) c.args.width (overlay_content o c.args.file) xs c.nothing.result (omega (arith, n, c.count.ensures, c.if-count-eq0.true)) is c.nothing.ensures.count c.nothing.ensures.ending

pub returns-in-Err-clause-causes : goal.returns-in-Err-clause-causes
returns-in-Err-clause-causes g c =
    let o = c.args.over.now in
    let w = c.args.width in
    causes_err ListHead Gathered (NotAt head_in o c.args.file 0) (NoList o c.args.file w) c.in-Err.fault (under o) (under c.read_head.new.over)
    (λ f k h. (
      h.0,
      h.1,
      λ told.
          let n = counts_seen o (g.met.B.Blocks.agrees o.below c.requires.sound) told c.args.file in
          no_head w (overlay_content o c.args.file) (λ e. absurd (omega (arith, e, n, c.count.ensures, c.if-count-eq0.false))) (h.2 told),
    ))
    c.in-Err.ensures.causes

pub returns-then-head-eq0-clause-gathered : goal.returns-then-head-eq0-clause-gathered
returns-then-head-eq0-clause-gathered g c told xs is =
    let o = c.args.over.now in
    let n = counts_seen o (g.met.B.Blocks.agrees o.below c.requires.sound) told c.args.file in
    gathered_empty (option_copied c.args.tail) c.args.width (overlay_content o c.args.file) xs c.nothing-then-head-eq0.result c.in-Ok.head.first c.in-Ok.head.free (λ e. absurd (omega (arith, e, n, c.count.ensures, c.if-count-eq0.false))) is (c.in-Ok.ensures.head told) c.if-head-eq0.true c.nothing-then-head-eq0.ensures.count c.nothing-then-head-eq0.ensures.ending

pub returns-clause-gathered : goal.returns-clause-gathered
returns-clause-gathered g c =
    let o = c.args.over.now in
    let w = c.args.width in
    IfOk-weaker c.walk.result _ _ (λ r all told xs is.
    let n = counts_seen o (g.met.B.Blocks.agrees o.below c.requires.sound) told c.args.file in
    let still = file_still c.args.file c.in-Ok.ensures.reads told in
    gathered_chain (option_copied c.args.tail) w (overlay_content o c.args.file) xs r c.in-Ok.head.first c.in-Ok.head.free (λ e. absurd (omega (arith, e, n, c.count.ensures, c.if-count-eq0.false))) is (c.in-Ok.ensures.head told)
    (λ ls chain head. all (told_after c.in-Ok.ensures.reads.looks.passes.lasts told) ls (subst (λ (l : List (List ℕ)). BlockChain (leaf_in w) (slice_get l) ls 0) (sym still) chain) head))
    c.walk.ensures.gathered

pub returns-clause-reads : goal.returns-clause-reads
returns-clause-reads g c =
    let reads = c.in-Ok.ensures.reads in
    subst (λ n. ReadsOverlay (1 + n) c.walk.result c.args.over.now c.walk.new.over) (ap (λ (k : ℕ → ℕ). k c.args.file) (counts_still reads)) (reads_on c.walk.result g.met.B.Blocks.same_then reads c.walk.ensures.reads)

pub returns-clause-causes : goal.returns-clause-causes
returns-clause-causes g c =
    let o = c.args.over.now in
    let b = c.read_head.new.over in
    let file = c.args.file in
    let w = c.args.width in
    let reads = c.in-Ok.ensures.reads in
    let counts = ap (λ (k : ℕ → ℕ). k file) (counts_still reads) in
    causes_since {U = Gathered} (NoChain w b file c.in-Ok.head.first) (NoList o file w) c.walk.result o b c.walk.new.over
    (λ f k h. (
      h.0,
      subst (λ m. k < m) counts h.1,
      λ told.
          let n = counts_seen o (g.met.B.Blocks.agrees o.below c.requires.sound) told file in
          let still = file_still file reads told in
          no_chain w (overlay_content o file) c.in-Ok.head.first c.in-Ok.head.free (λ e. absurd (omega (arith, e, n, c.count.ensures, c.if-count-eq0.false))) (c.in-Ok.ensures.head told)
          (λ ls chain head le. h.2 (told_after reads.looks.passes.lasts told) ls (subst (λ (l : List (List ℕ)). BlockChain (leaf_in w) (slice_get l) ls 0) (sym still) chain) head (omega (arith, le, n, counts))),
    ))
    c.in-Ok.ensures.causes reads c.walk.ensures.causes
