-- A store over new blocks in memory may be used, and its last quiet point is the database that it has.
use Rattle.std.proofs.Common.{◌∙◌, subst, sym, true}
use Rattle.dms_desc.specs.Shape.{as_described}
use Rattle.dms_memblocks.specs.View.{IsNew, held_view}
use Rattle.dms_storetests.proofs.Beginning.{serves_new, mark_new}
use Rattle.dms_storetests.proofs.running.block_store.Goals as goal

pub returns-in-Ok-new : goal.returns-in-Ok-new
returns-in-Ok-new c =
    let desc = as_described c.args.desc.now in
    let made = as_described c.in-Ok-new.store.desc in
    let below = c.in-Ok-new.store.over.below in
    let new : IsNew 200 (held_view below) = subst (λ b. IsNew 200 (held_view b)) (sym c.in-Ok-new.ensures.below) c.in-Ok-under.ensures.new in
    let schema = c.in-Ok-under.ensures.schema ∙ c.in-Ok.ensures in
    let served = c.served_law.ensures desc c.requires in
    record {
      sound = c.in-Ok-new.ensures.usable tt (serves_new desc (held_view c.in-Ok-under.blocks) served c.in-Ok-under.ensures.new schema);
      desc_is = c.in-Ok-new.ensures.desc;
      mark = mark_new made (held_view below) (c.empty_law.ensures made) new true;
    }
