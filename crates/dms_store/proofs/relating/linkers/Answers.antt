use Rattle.std.proofs.Common.{◌∙◌, List, Ok, sym}
use Rattle.dms_block.specs.HeldLaws.{looks_err}
use Rattle.dms_block.specs.View.{overlay_content, under}
use Rattle.dms_block.specs.ViewLaws.{reads_as}
use Rattle.dms_chain.specs.SeenLaws.{causes_err}
use Rattle.dms_desc.specs.Shape.{as_described}
use Rattle.dms_entries.specs.Calls.{spelt_slots}
use Rattle.dms_links.specs.Linking.{linkers_are}
use Rattle.dms_links.specs.Stands.{tally_of}
use Rattle.dms_links.specs.Stepping.{none_bad_walk}
use Rattle.dms_links.specs.Walked.{BadWalk}
use Rattle.dms_model.specs.Db.{Place}
use Rattle.dms_spelling.specs.Back.{spelled_files}
use Rattle.dms_store.specs.RelatingLaws.{ready_of}
use Rattle.dms_store.proofs.relating.linkers.Goals as goal

pub returns-in-Err : goal.returns-in-Err
returns-in-Err g c =
    let desc = as_described c.args.desc.now in
    let a = c.args.over.now in
    let z = c.linkers.new.over in
    let e = c.in-Err.e in
    let reads = c.in-Err.ensures.reads in
    record {
      most = _;
      reads = record { written_still = reads.written_still; looks = looks_err e reads.looks; same = reads.same };
      causes = causes_err (List Place) (List Place) (BadWalk desc c.args.set a) (λ f k. Unit {0}) e (under a) (under z) (λ f k h. tt) c.in-Err.ensures.causes;
      below = λ told db spelt. causes_err (List Place) (List Place) (BadWalk desc c.args.set a) (λ f k. ⊥) e (under a) (under z) (none_bad_walk desc a c.args.set told (spelt_slots desc a (ready_of desc a c.requires.usable) db told spelt)) c.in-Err.ensures.causes;
      told = tt;
    }

pub returns : goal.returns
returns g c =
    let desc = as_described c.args.desc.now in
    let a = c.args.over.now in
    let places = c.in-Ok-places_of.places in
    record {
      most = _;
      reads = reads_as (Ok places) tt c.in-Ok.ensures.reads;
      causes = c.in-Ok.ensures.causes;
      below = λ told db spelt. c.in-Ok.ensures.causes;
      told = λ told db spelt has.
          c.in-Ok-places_of.ensures ∙ c.as_slice.ensures.value ∙ c.in-Ok.ensures.found told
          ∙ sym (linkers_are desc c.requires.usable.serves.served.numbered db (tally_of desc db) (overlay_content a) (spelled_files desc (overlay_content a) db c.requires.usable.serves.served spelt).slots c.args.set c.args.number);
    }
