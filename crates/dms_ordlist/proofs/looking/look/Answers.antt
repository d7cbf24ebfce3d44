use Rattle.std.proofs.Common.{◌<◌, ℕ, List, Some, None, refl, sym, ap, subst, length, slice_get, arith}
use Rattle.std.specs.declared.result.Result.TheVariants.{Err}
use Rattle.dms_block.specs.HeldLaws.{told_after}
use Rattle.dms_block.specs.View.{overlay_content, under}
use Rattle.dms_block.specs.ViewLaws.{counts_seen}
use Rattle.dms_ordlist.specs.declared.place.Look.{Look}
use Rattle.dms_ordlist.specs.declared.place.ListPlace.{ListPlace}
use Rattle.dms_chain.specs.declared.spelling.ListHead.{ListHead}
use Rattle.dms_chain.specs.Linked.{BlockChain}
use Rattle.dms_chain.specs.ListBlocks.{head_in, leaf_in}
use Rattle.dms_ordlist.specs.Looks.{look_empty, look_none, look_place, no_chain, no_head}
use Rattle.dms_chain.specs.Seen.{NoChain, NoList, NotAt}
use Rattle.dms_chain.specs.SeenLaws.{causes_err, causes_since, counts_still, file_still}
use Rattle.dms_ordlist.proofs.looking.look.Goals as goal

pub returns-then-count-eq0-clause-look : goal.returns-then-count-eq0-clause-look
returns-then-count-eq0-clause-look g c told xs is =
    let o = c.args.over.now in
    let n = counts_seen o (g.met.B.Blocks.agrees o.below c.requires.sound) told c.args.file in
    let r : Look = record { head = record { first = 0; free = 0 }; place = None } in
    look_none c.args.bytes.now (length c.args.bytes.now) (overlay_content o c.args.file) xs r (omega (arith, n, c.count.ensures, c.if-count-eq0.true)) is refl refl refl

pub returns-in-Err-clause-causes : goal.returns-in-Err-clause-causes
returns-in-Err-clause-causes g c =
    let o = c.args.over.now in
    let w = length c.args.bytes.now in
    causes_err ListHead Look (NotAt head_in o c.args.file 0) (NoList o c.args.file w) c.in-Err.fault (under o) (under c.read_head.new.over)
    (λ f k h. (
      h.0,
      h.1,
      λ told.
          let n = counts_seen o (g.met.B.Blocks.agrees o.below c.requires.sound) told c.args.file in
          no_head w (overlay_content o c.args.file) (λ e. absurd (omega (arith, e, n, c.count.ensures, c.if-count-eq0.false))) (h.2 told),
    ))
    c.in-Err.ensures.causes

pub returns-then-head-eq0-clause-look : goal.returns-then-head-eq0-clause-look
returns-then-head-eq0-clause-look g c told xs is =
    let o = c.args.over.now in
    let n = counts_seen o (g.met.B.Blocks.agrees o.below c.requires.sound) told c.args.file in
    let r : Look = record { head = c.in-Ok.head; place = None } in
    look_empty c.args.bytes.now (length c.args.bytes.now) (overlay_content o c.args.file) xs r (λ e. absurd (omega (arith, e, n, c.count.ensures, c.if-count-eq0.false))) is (c.in-Ok.ensures.head told) c.if-head-eq0.true refl

pub returns-in-Ok-reach-clause-look : goal.returns-in-Ok-reach-clause-look
returns-in-Ok-reach-clause-look g c told xs is =
    let o = c.args.over.now in
    let w = length c.args.bytes.now in
    let n = counts_seen o (g.met.B.Blocks.agrees o.below c.requires.sound) told c.args.file in
    let still = file_still c.args.file c.in-Ok.ensures.reads told in
    let r : Look = record { head = c.in-Ok.head; place = Some c.in-Ok-reach.place } in
    look_place c.args.bytes.now w (overlay_content o c.args.file) xs r c.in-Ok-reach.place (λ e. absurd (omega (arith, e, n, c.count.ensures, c.if-count-eq0.false))) is (c.in-Ok.ensures.head told) refl
    (λ ls chain head. c.in-Ok-reach.ensures.place (told_after c.in-Ok.ensures.reads.looks.passes.lasts told) ls (subst (λ (l : List (List ℕ)). BlockChain (leaf_in w) (slice_get l) ls 0) (sym still) chain) head)

pub returns-in-Err-reach-clause-causes : goal.returns-in-Err-reach-clause-causes
returns-in-Err-reach-clause-causes g c =
    let o = c.args.over.now in
    let b = c.read_head.new.over in
    let file = c.args.file in
    let w = length c.args.bytes.now in
    let reads = c.in-Ok.ensures.reads in
    let counts = ap (λ (k : ℕ → ℕ). k file) (counts_still reads) in
    causes_since {U = Look} (NoChain w b file c.in-Ok.head.first) (NoList o file w) (Err c.in-Err-reach.fault) o b c.reach.new.over
    (λ f k h. (
      h.0,
      subst (λ m. k < m) counts h.1,
      λ told.
          let n = counts_seen o (g.met.B.Blocks.agrees o.below c.requires.sound) told file in
          let still = file_still file reads told in
          no_chain w (overlay_content o file) c.in-Ok.head.first c.in-Ok.head.free (λ e. absurd (omega (arith, e, n, c.count.ensures, c.if-count-eq0.false))) (c.in-Ok.ensures.head told)
          (λ ls chain head le. h.2 (told_after reads.looks.passes.lasts told) ls (subst (λ (l : List (List ℕ)). BlockChain (leaf_in w) (slice_get l) ls 0) (sym still) chain) head (omega (arith, le, n, counts))),
    ))
    c.in-Ok.ensures.causes reads
    (causes_err ListPlace Look (NoChain w b file c.in-Ok.head.first) (NoChain w b file c.in-Ok.head.first) c.in-Err-reach.fault (under b) (under c.reach.new.over) (λ f k h. h) c.in-Err-reach.ensures.causes)
