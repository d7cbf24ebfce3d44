use Rattle.std.proofs.Common.{◌≡◌, refl, length}
use Rattle.dms_block.specs.View.{overlay_content}
use Rattle.dms_chain.specs.ListBlocks.{free_in}
use Rattle.dms_ordlist.specs.ListChanges.{no_spare}
use Rattle.dms_chain.specs.ListIn.{list_in}
use Rattle.dms_ordlist.specs.Looks.{no_list}
use Rattle.dms_chain.specs.Seen.{NoList, NotAt}
use Rattle.dms_chain.specs.SeenLaws.{causes_since, not_at_since}
use Rattle.dms_ordlist.proofs.inserting.insert.Goals as goal

pub returns-clause-causes : goal.returns-clause-causes
returns-clause-causes g c =
    let a = c.args.over.now in
    let b = c.look.new.over in
    let file = c.args.file in
    let w = length c.args.entry.now in
    let free = c.in_ok-found.found.head.free in
    let reads = c.in_ok-found.ensures.reads in
    causes_since (λ f k. (free ≡ 0 → ⊥) × NotAt free_in b file free f k) (NoList a file w) c.insert_in.result a b c.insert_in.new.over
    (λ f k h.
    let was = not_at_since free_in a b file free reads f k h.1 in (
      was.0,
      was.1,
      λ told. no_list w (overlay_content a file) (list_in w (overlay_content a file)) refl (λ xs is.
          let l = c.in_ok-found.ensures.look told xs is in
          no_spare w (overlay_content a file) l.leaves l.spares free l.list l.free h.0 (was.2 told)),
    ))
    c.in_ok-found.ensures.causes reads c.insert_in.ensures.causes
