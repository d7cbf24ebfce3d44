use Rattle.std.proofs.Common.{◌≡◌, ◌<◌, ◌∙◌, Some, None, sym, ap, option_map, arith}
use Rattle.dms_block.specs.Content.{Content}
use Rattle.dms_desc.specs.Files.{file_of}
use Rattle.dms_desc.specs.Lookups.{structure_of}
use Rattle.dms_desc.specs.Shape.{as_described}
use Rattle.dms_rowflaws.proofs.Firsts.{number_found, number_passed, numbers_passed}
use Rattle.dms_rowflaws.specs.Blocks.{block_id, unformed_at, unformed_in}
use Rattle.dms_view.specs.Looked.{looked_ok, looks_on}
use Rattle.dms_rowflaws.proofs.blocks.first_block.Goals as goal

pub returns-in-Some-clause-first : goal.returns-in-Some-clause-first
returns-in-Some-clause-first g c told =
    let d = as_described c.args.desc.now in
    let content = g.V.View.content c.args.view.now in
    let n = c.loop-number.number in
    let b = c.in-Some.block in
    let still = c.loop-number.invariant.looks.content told in
    let low : n < 201 = omega (arith, c.loop-number-test.true) in
    let found : unformed_at d content n ≡ Some (block_id (file_of n) b) =
    ap (λ (x : Content). option_map (block_id (file_of n)) (unformed_in d (structure_of d n) (x (file_of n)))) (sym still)
    ∙ ap (option_map (block_id (file_of n))) (sym (c.in_ok-block.ensures.first told) ∙ c.in-Some.is) in
    ap (λ f. Some (block_id f b)) c.file_of.ensures ∙ number_found (unformed_at d content) n _ low (block_id (file_of n) b) found (c.loop-number.invariant.walked told)

pub loop-number-preserved : goal.loop-number-preserved
loop-number-preserved g c = record {
  walked = λ told.
      let d = as_described c.args.desc.now in
      let content = g.V.View.content c.args.view.now in
      let n = c.loop-number.number in
      let still = c.loop-number.invariant.looks.content told in
      let low : n < 201 = omega (arith, c.loop-number-test.true) in
      let none : unformed_at d content n ≡ None =
      ap (λ (x : Content). option_map (block_id (file_of n)) (unformed_in d (structure_of d n) (x (file_of n)))) (sym still)
      ∙ ap (option_map (block_id (file_of n))) (sym (c.in_ok-block.ensures.first told) ∙ c.in-None.is) in
      number_passed (unformed_at d content) n _ low none (c.loop-number.invariant.walked told);
  looks = looks_on g.V.View c.args.view.now c.loop-number.view c.unformed_in.new.view (g.met.V.View.same_then _ _ _) c.loop-number.invariant.looks (looked_ok g.V.View _ _ _ c.in_ok-block.ensures.looks);
}

pub returns-clause-first : goal.returns-clause-first
returns-clause-first g c told =
    numbers_passed (unformed_at (as_described c.args.desc.now) (g.V.View.content c.args.view.now)) c.loop-number.number _ (omega (arith, c.loop-number-test.false)) (c.loop-number.invariant.walked told)
