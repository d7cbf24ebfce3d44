use Rattle.std.proofs.Common.{◌≡◌, ◌∙◌, ◌<◌, ◌++◌, ◌∷◌, [], List, ap, sym, length, subst, take, get_or, arith}
use Rattle.std.specs.Global.{Vec}
use Rattle.dms_block.specs.declared.block.Block.{Block}
use Rattle.dms_memblocks.specs.Undoing.{old_in, put_in, rows}
use Rattle.dms_memblocks.specs.UndoLaws.{set_same}
use Rattle.dms_memblocks.proofs.Rows.{at_rows, set_with, take_old}
use Rattle.dms_memblocks.proofs.files.put.Goals as goal

pub returns-in-Ok-clause-files : goal.returns-in-Ok-clause-files
returns-in-Ok-clause-files c =
    let low : c.place_of-at.result < length c.args.files.now.items = subst (λ k. k < length c.args.files.now.items) (sym c.place_of-at.ensures) c.requires.file in
    set_with c.args.files.now.items c.place_of-at.result _ c.index_mut.result.now c.put_block.new.blocks (λ l. put_in c.args.change.now.id.block c.args.change.now.block l) c.place_of-at.ensures low c.index_mut.ensures.value c.in-Ok.ensures.ok

pub returns-in-Ok-clause-log : goal.returns-in-Ok-clause-log
returns-in-Ok-clause-log c =
    let low : c.place_of-at.result < length c.args.files.now.items = subst (λ k. k < length c.args.files.now.items) (sym c.place_of-at.ensures) c.requires.file in
    let file : List Block = get_or (rows c.args.files.now.items) c.place_of-at.result [] in
    let is : c.deref.result.now ≡ file = c.deref.ensures.value ∙ ap (λ (v : Vec Block). v.items) c.index.ensures ∙ sym (at_rows c.args.files.now.items c.place_of-at.result c.index.result.now low) in
    c.in_ok-push.ensures.items ∙ ap (λ o. c.args.log.now.items ++ (record { point = c.args.point; id = c.args.change.now.id; old = o }) ∷ []) (c.old_of-old.ensures ∙ ap (λ l. old_in c.args.change.now.id.block l) (is ∙ ap (λ k. get_or (rows c.args.files.now.items) k []) c.place_of-at.ensures))

pub returns-in-Err-clause-err : goal.returns-in-Err-clause-err
returns-in-Err-clause-err c =
    let low : c.place_of-at.result < length c.args.files.now.items = subst (λ k. k < length c.args.files.now.items) (sym c.place_of-at.ensures) c.requires.file in
    let long : c.len-before.result ≡ length c.args.log.now.items = omega (arith, c.len-before.ensures) in (
      set_with c.args.files.now.items c.place_of-at.result _ c.index_mut.result.now c.put_block.new.blocks (λ l. l) c.place_of-at.ensures low c.index_mut.ensures.value c.in-Err.ensures.err ∙ set_same (rows c.args.files.now.items) _,
      c.truncate.ensures.items ∙ ap (λ l. take c.len-before.result l) c.in_ok-push.ensures.items ∙ ap (λ n. take n (c.args.log.now.items ++ (record { point = c.args.point; id = c.args.change.now.id; old = c.old_of-old.result }) ∷ [])) long ∙ take_old c.args.log.now.items _,
    )
