use Rattle.std.proofs.Common.{◌≡◌, ◌∙◌, ◌+◌, ◌≤◌, ◌++◌, [], ◌∷◌, ℕ, List, ap, sym, subst, append-nil, append_assoc, arith, drop, take, length, Ok, Err}
use Rattle.std.specs.declared.result.Result.{Result}
use Rattle.dms_block.specs.Content.{Content, apply_changes}
use Rattle.dms_block.specs.HeldLaws.{told_after}
use Rattle.dms_block.specs.View.{ReadsOverlay, overlay_content}
use Rattle.dms_block.specs.ViewLaws.{reads_as, reads_more, reads_on}
use Rattle.dms_chain.specs.SeenLaws.{causes_since}
use Rattle.dms_desc.specs.Shape.{Shape, as_described, shape_of}
use Rattle.dms_model.specs.Db.{Place}
use Rattle.dms_links.specs.Linking.{linking_in, linking_of, walked_most}
use Rattle.dms_links.specs.Walked.{BadSet, BadWalk}
use Rattle.dms_links.specs.WalkedLaws.{bad_since, drop_here, none_left, shape_at, shapes_long, walked_low, walked_next}
use Rattle.dms_links.proofs.walking.linkers.Goals as goal

pub linking_set-requires-clause-sound : goal.linking_set-requires-clause-sound
linking_set-requires-clause-sound g c = c.loop-s.invariant.reads.looks.stays.sound

pub linking_set-requires-clause-few : goal.linking_set-requires-clause-few
linking_set-requires-clause-few g c =
    let at = shape_at c.as_slice-s-items.result.now c.args.desc.now.structures c.loop-s.s-index c.s-item.result c.as_slice-s-items.ensures c.loop-s-test.true c.s-item.is in
    (c.requires.slots c.loop-s.s-index (shape_of c.s-item.result) at).few

pub linking_set-requires-clause-fits : goal.linking_set-requires-clause-fits
linking_set-requires-clause-fits g c =
    let at = shape_at c.as_slice-s-items.result.now c.args.desc.now.structures c.loop-s.s-index c.s-item.result c.as_slice-s-items.ensures c.loop-s-test.true c.s-item.is in
    (c.requires.slots c.loop-s.s-index (shape_of c.s-item.result) at).fits

pub returns-in-Err-clause-reads : goal.returns-in-Err-clause-reads
returns-in-Err-clause-reads g c =
    let ss = (as_described c.args.desc.now).structures in
    let k = c.loop-s.s-index in
    let s = shape_of c.s-item.result in
    let at = shape_at c.as_slice-s-items.result.now c.args.desc.now.structures k c.s-item.result c.as_slice-s-items.ensures c.loop-s-test.true c.s-item.is in
    reads_more (walked_most c.args.set ss) (omega (arith, walked_next c.args.set ss k s at, walked_low c.args.set ss (k + 1))) (reads_on (Err c.in-Err.e) g.met.B.Blocks.same_then c.loop-s.invariant.reads c.in-Err.ensures.reads)

pub returns-in-Err-clause-causes : goal.returns-in-Err-clause-causes
returns-in-Err-clause-causes g c =
    let desc = as_described c.args.desc.now in
    let k = c.loop-s.s-index in
    let s = shape_of c.s-item.result in
    let at = shape_at c.as_slice-s-items.result.now c.args.desc.now.structures k c.s-item.result c.as_slice-s-items.ensures c.loop-s-test.true c.s-item.is in
    let a = c.args.over.now in
    let b = c.loop-s.over in
    causes_since {U = ℕ} (BadSet c.args.set s b) (BadWalk desc c.args.set a) (Err c.in-Err.e) a b c.linking_set.new.over (λ f n bad. (k, s, at, (bad.0, bad_since s a b c.loop-s.invariant.reads f n bad.1))) c.loop-s.invariant.faults c.loop-s.invariant.reads c.in-Err.ensures.causes

pub loop-s-preserved : goal.loop-s-preserved
loop-s-preserved g c =
    let desc = as_described c.args.desc.now in
    let ss = desc.structures in
    let o = c.args.over.now in
    let k = c.loop-s.s-index in
    let s = shape_of c.s-item.result in
    let at = shape_at c.as_slice-s-items.result.now c.args.desc.now.structures k c.s-item.result c.as_slice-s-items.ensures c.loop-s-test.true c.s-item.is in
    let r = c.loop-s.invariant.reads in
    record {
      reads = reads_as (Ok 0) tt (subst (λ n. ReadsOverlay n (Ok c.in-Ok.more) o c.linking_set.new.over) (sym (walked_next c.args.set ss k s at)) (reads_on (Ok c.in-Ok.more) g.met.B.Blocks.same_then r c.in-Ok.ensures.reads));
      faults = c.in-Ok.ensures.causes ∙ c.loop-s.invariant.faults;
      on = λ tells.
          let found = c.loop-s.found.items in
          let rest = linking_in c.args.set c.args.number (overlay_content o) (drop (k + 1) ss) in
          let mine = linking_of c.args.set c.args.number (overlay_content o) s in
          let still : overlay_content c.loop-s.over ≡ overlay_content o = λ j. apply_changes (r.written_still j) (r.looks.same.content tells j) in
          let here : c.in-Ok.more.items ≡ found ++ mine = c.in-Ok.ensures.found (told_after r.looks.passes.lasts tells) ∙ ap (λ (z : Content). found ++ linking_of c.args.set c.args.number z s) still in
          ap (λ (z : List Place). z ++ rest) here ∙ append_assoc found mine rest
          ∙ ap (λ (z : List Shape). found ++ linking_in c.args.set c.args.number (overlay_content o) z) (sym (drop_here ss k s at))
          ∙ c.loop-s.invariant.on tells;
    }

pub returns-clause-found : goal.returns-clause-found
returns-clause-found g c tells =
    let ss = (as_described c.args.desc.now).structures in
    let k = c.loop-s.s-index in
    let found = c.loop-s.found.items in
    let past : length ss ≤ k = omega (arith, c.loop-s-test.false, ap (λ l. length l) c.as_slice-s-items.ensures, shapes_long c.args.desc.now.structures) in
    sym (append-nil found) ∙ ap (λ (z : List Shape). found ++ linking_in c.args.set c.args.number (overlay_content c.args.over.now) z) (sym (none_left ss k past)) ∙ c.loop-s.invariant.on tells

pub returns-clause-reads : goal.returns-clause-reads
returns-clause-reads g c =
    let ss = (as_described c.args.desc.now).structures in
    reads_more (walked_most c.args.set ss) (walked_low c.args.set ss c.loop-s.s-index) (reads_as (Ok c.loop-s.found) tt c.loop-s.invariant.reads)
