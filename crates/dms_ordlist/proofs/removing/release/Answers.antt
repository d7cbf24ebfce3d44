use Rattle.std.proofs.Common.{◌≡◌, ◌∙◌, ap, sym}
use Rattle.std.proofs.lemmas.Result.{on_ok_weaker}
use Rattle.dms_block.specs.Content.{put_block}
use Rattle.dms_block.specs.View.{overlay_content}
use Rattle.dms_chain.specs.ListBlocks.{free_bytes, head_bytes, leaf_bytes}
use Rattle.dms_ordlist.specs.ListRemoves.{release_block}
use Rattle.dms_chain.specs.Written.{three_in, three_off, two_in, two_off}
use Rattle.dms_ordlist.proofs.removing.release.Goals as goal

pub returns-in-None-clause-seen : goal.returns-in-None-clause-seen
returns-in-None-clause-seen g c = on_ok_weaker c.write_two.result (λ wrote told.
    let a = c.args.over.now in
    let d = c.write_two.new.over in
    let file = c.args.file in
    let b = c.args.number in
    let head = head_bytes c.args.next b in
    let freed : c.free_block-freed.result.0 ≡ free_bytes c.args.head.free = c.free_block-freed.ensures in
    two_in (overlay_content a) (overlay_content d) file head b c.free_block-freed.result.0 (wrote told c.requires.sound)
    ∙ ap (λ x. put_block b x (put_block 0 head (overlay_content a file))) freed
    ∙ ap (λ o. release_block o c.args.head.first c.args.head.free b c.args.next (overlay_content a file)) (sym c.in-None.is)) c.write_two.ensures.seen

pub returns-in-None-clause-others : goal.returns-in-None-clause-others
returns-in-None-clause-others g c = on_ok_weaker c.write_two.result (λ wrote told other off.
    two_off (overlay_content c.args.over.now) (overlay_content c.write_two.new.over) c.args.file (head_bytes c.args.next c.args.number) c.args.number c.free_block-freed.result.0 other off (wrote told c.requires.sound)) c.write_two.ensures.seen

pub returns-in-Some-clause-seen : goal.returns-in-Some-clause-seen
returns-in-Some-clause-seen g c = on_ok_weaker c.write_three.result (λ wrote told.
    let a = c.args.over.now in
    let d = c.write_three.new.over in
    let file = c.args.file in
    let b = c.args.number in
    let s = c.in-Some.field-0 in
    let head = head_bytes c.args.head.first b in
    let freed : c.free_block-freed.result.0 ≡ free_bytes c.args.head.free = c.free_block-freed.ensures in
    let before : c.leaf_block.result.0 ≡ leaf_bytes c.args.next s.leaf.entries.items = c.leaf_block.ensures in
    three_in (overlay_content a) (overlay_content d) file head s.number c.leaf_block.result.0 b c.free_block-freed.result.0 (wrote told c.requires.sound)
    ∙ (λ i. put_block b (freed i) (put_block s.number (before i) (put_block 0 head (overlay_content a file))))
    ∙ ap (λ o. release_block o c.args.head.first c.args.head.free b c.args.next (overlay_content a file)) (sym c.in-Some.is)) c.write_three.ensures.seen

pub returns-in-Some-clause-others : goal.returns-in-Some-clause-others
returns-in-Some-clause-others g c = on_ok_weaker c.write_three.result (λ wrote told other off.
    three_off (overlay_content c.args.over.now) (overlay_content c.write_three.new.over) c.args.file (head_bytes c.args.head.first c.args.number) c.in-Some.field-0.number c.leaf_block.result.0 c.args.number c.free_block-freed.result.0 other off (wrote told c.requires.sound)) c.write_three.ensures.seen
