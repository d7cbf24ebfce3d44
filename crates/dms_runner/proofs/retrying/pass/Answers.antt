use Rattle.dms_storeverbs.proofs.Lasting.{lasts_none, lasts_on}
use Rattle.dms_block.specs.declared.block_fault.BlockFault.TheVariants.{Memory}
use Rattle.std.proofs.Common.{Vec, Global, Bool, Some, ◌≡◌, ◌∙◌, ◌<◌, ◌++◌, ◌∷◌, [], ℕ, List, false, refl, sym, ap, subst, arith, length}
use Rattle.std.specs.Prelude.{slice_get, slice_set}
use Rattle.std.specs.declared.option.Option.{Option}
use Rattle.std.proofs.lemmas.Option.{get_or_from_slice_get, slice_get_within}
use Rattle.dms_desc.specs.declared.description.Description.{Description}
use Rattle.dms_desc.specs.Shape.{as_described}
use Rattle.dms_runner.specs.Events.{fate_of, PerformsPrefix}
use Rattle.dms_storeverbs.specs.View.{engine_view, view}
use Rattle.dms_runner.specs.declared.waiting.WaitingLine.{WaitingLine as LineWaiting}
use Rattle.dms_runner.specs.Firsts.{lines_of, standing}
use Rattle.dms_runner.specs.Waiting.{AreVerbs, has_line, retry, said_to_wait, tries}
use Rattle.dms_runner.specs.Trying.{PerformsTry}
use Rattle.dms_runner.proofs.Firsts.{standing_on}
use Rattle.dms_runner.proofs.Passes.{passing_as, passing_start, passing_reach, passing_wait, passing_answered, passing_end, passing_part}
use Rattle.dms_runner.proofs.Splits.{first_in_slot, reach, reach_none, slot_is, split_first, split_next, split_start}
use Rattle.dms_runner.proofs.InOrder.{may_under}
use Rattle.dms_runner.proofs.Verbs.{held_out, held_said, verb_of, verbs_under}
use Rattle.dms_runner.proofs.Happening.{had_room, part_all, part_err}
use Rattle.dms_runner.proofs.retrying.pass.Goals as goal

pub loop-j-init : goal.loop-j-init
loop-j-init g c = record {
  lasts = lasts_none g.met.St.Store.same_again _ c.requires.sound;
  verbs = c.requires.verbs.verbs;
  firsts = refl;
  passing = (split_start c.args.waiting.now c.requires.verbs.firsts, λ s stands may. passing_start _ s _ _ _ stands c.args.engine.now.formed may);
}

pub try_at-requires-clause-verbs : goal.try_at-requires-clause-verbs
try_at-requires-clause-verbs g c =
    subst (λ (l : List (Option LineWaiting)). AreVerbs (as_described c.loop-j.engine.desc) (standing l)) (sym c.as_slice.ensures.value) (verbs_under (lines_of c.loop-j.waiting) (ap as_described (sym c.loop-j.invariant.lasts.description)) c.loop-j.invariant.verbs)

pub returns-in_err-try_at-clause-part : goal.returns-in_err-try_at-clause-part
returns-in_err-try_at-clause-part g c = λ s stands may.
    let w = c.loop-j.waiting in
    let cut = c.loop-j.invariant.passing in
    let low : c.loop-j.j < length w.firsts.items = omega (arith, c.loop-j-test.true, c.len-j-end.ensures, c.args.waiting.now.firsts.ok.0, ap (λ (v : Vec ℕ Global). length v.items) c.loop-j.invariant.firsts) in
    let r = reach w c.loop-j.j cut.0 low in
    let f = r.first in
    let here = slot_is w c.loop-j.j f c.index-slot.result.now low c.index-slot.ensures in
    let inside : slice_get w.slots.items c.index-slot.result.now ≡ Some (Some f.line) = ap (slice_get w.slots.items) here ∙ first_in_slot w c.loop-j.j f in
    let at : slice_get c.as_slice.result.now c.index-slot.result.now ≡ Some (Some f.line) = ap (λ (l : List (Option LineWaiting)). slice_get l c.index-slot.result.now) c.as_slice.ensures.value ∙ inside in
    let has : has_line (standing f.behind) f.line.program ≡ false = f.same f.line.program ∙ f.new in
    let p = passing_reach (as_described c.args.engine.now.desc) s (lines_of c.args.waiting.now) w c.loop-j.j cut.0 r _ _ _ (cut.1 s stands may) in
    passing_part (as_described c.args.engine.now.desc) s (lines_of c.args.waiting.now) (standing f.behind) f.line (standing f.ahead) _ _ _ _ has p
    (subst (λ (d : Description). PerformsPrefix (fate_of c.from_residual.result) (engine_view c.loop-j.engine) (engine_view c.try_at.new.engine) (tries (as_described d) p.at f.line)) c.loop-j.invariant.lasts.description (part_err Bool c.from_residual.result _ _ _ _ c.from_residual.ensures.1 (c.in_err-try_at.ensures.part f.line at p.at p.stands (may_under (ap as_described (sym c.loop-j.invariant.lasts.description)) p.may))))

pub take_out-requires-clause-slot : goal.take_out-requires-clause-slot
take_out-requires-clause-slot g c = λ x is.
    let w = c.loop-j.waiting in
    let cut = c.loop-j.invariant.passing in
    let low : c.loop-j.j < length w.firsts.items = omega (arith, c.loop-j-test.true, c.len-j-end.ensures, c.args.waiting.now.firsts.ok.0, ap (λ (v : Vec ℕ Global). length v.items) c.loop-j.invariant.firsts) in
    let r = reach w c.loop-j.j cut.0 low in
    let f = r.first in
    let here = slot_is w c.loop-j.j f c.index-slot.result.now low c.index-slot.ensures in
    let inside : slice_get w.slots.items c.index-slot.result.now ≡ Some (Some f.line) = ap (slice_get w.slots.items) here ∙ first_in_slot w c.loop-j.j f in
    let same = slot_is w c.loop-j.j f x low (sym (get_or_from_slice_get w.firsts.items c.loop-j.j x x is)) in
    slice_get_within w.slots.items x (Some f.line) (ap (slice_get w.slots.items) same ∙ first_in_slot w c.loop-j.j f)

pub note_waiting-requires : goal.note_waiting-requires
note_waiting-requires g c =
    let w = c.loop-j.waiting in
    let cut = c.loop-j.invariant.passing in
    let low : c.loop-j.j < length w.firsts.items = omega (arith, c.loop-j-test.true, c.len-j-end.ensures, c.args.waiting.now.firsts.ok.0, ap (λ (v : Vec ℕ Global). length v.items) c.loop-j.invariant.firsts) in
    let r = reach w c.loop-j.j cut.0 low in
    let f = r.first in
    let here = slot_is w c.loop-j.j f c.index-slot.result.now low c.index-slot.ensures in
    let inside : slice_get w.slots.items c.index-slot.result.now ≡ Some (Some f.line) = ap (slice_get w.slots.items) here ∙ first_in_slot w c.loop-j.j f in
    slice_get_within w.slots.items c.index-slot.result.now (Some f.line) inside

pub returns-in_err-take_out-clause-part : goal.returns-in_err-take_out-clause-part
returns-in_err-take_out-clause-part g c = λ s stands may.
    let w = c.loop-j.waiting in
    let cut = c.loop-j.invariant.passing in
    let low : c.loop-j.j < length w.firsts.items = omega (arith, c.loop-j-test.true, c.len-j-end.ensures, c.args.waiting.now.firsts.ok.0, ap (λ (v : Vec ℕ Global). length v.items) c.loop-j.invariant.firsts) in
    let r = reach w c.loop-j.j cut.0 low in
    let f = r.first in
    let here = slot_is w c.loop-j.j f c.index-slot.result.now low c.index-slot.ensures in
    let inside : slice_get w.slots.items c.index-slot.result.now ≡ Some (Some f.line) = ap (slice_get w.slots.items) here ∙ first_in_slot w c.loop-j.j f in
    let at : slice_get c.as_slice.result.now c.index-slot.result.now ≡ Some (Some f.line) = ap (λ (l : List (Option LineWaiting)). slice_get l c.index-slot.result.now) c.as_slice.ensures.value ∙ inside in
    let has : has_line (standing f.behind) f.line.program ≡ false = f.same f.line.program ∙ f.new in
    let p = passing_reach (as_described c.args.engine.now.desc) s (lines_of c.args.waiting.now) w c.loop-j.j cut.0 r _ _ _ (cut.1 s stands may) in
    let done = passing_answered (as_described c.args.engine.now.desc) s (lines_of c.args.waiting.now) (standing f.behind) f.line (standing f.ahead) _ _ _ _ _ _ _ has c.if-branch.true refl p
    (subst (λ (d : Description). PerformsTry (as_described d) p.at f.line c.in_ok-try_at.field-0 (view c.try_at.new.engine) (engine_view c.loop-j.engine) (engine_view c.try_at.new.engine)) c.loop-j.invariant.lasts.description (c.in_ok-try_at.ensures.tried f.line at p.at p.stands (may_under (ap as_described (sym c.loop-j.invariant.lasts.description)) p.may))) in
    part_all (had_room c.from_residual-in_err-take_out.result Memory c.from_residual-in_err-take_out.ensures.1 tt) _ _ _ done.ran

pub returns-then-branch-clause-passes : goal.returns-then-branch-clause-passes
returns-then-branch-clause-passes g c = λ s stands may.
    let w = c.loop-j.waiting in
    let cut = c.loop-j.invariant.passing in
    let low : c.loop-j.j < length w.firsts.items = omega (arith, c.loop-j-test.true, c.len-j-end.ensures, c.args.waiting.now.firsts.ok.0, ap (λ (v : Vec ℕ Global). length v.items) c.loop-j.invariant.firsts) in
    let r = reach w c.loop-j.j cut.0 low in
    let f = r.first in
    let here = slot_is w c.loop-j.j f c.index-slot.result.now low c.index-slot.ensures in
    let inside : slice_get w.slots.items c.index-slot.result.now ≡ Some (Some f.line) = ap (slice_get w.slots.items) here ∙ first_in_slot w c.loop-j.j f in
    let at : slice_get c.as_slice.result.now c.index-slot.result.now ≡ Some (Some f.line) = ap (λ (l : List (Option LineWaiting)). slice_get l c.index-slot.result.now) c.as_slice.ensures.value ∙ inside in
    let has : has_line (standing f.behind) f.line.program ≡ false = f.same f.line.program ∙ f.new in
    let p = passing_reach (as_described c.args.engine.now.desc) s (lines_of c.args.waiting.now) w c.loop-j.j cut.0 r _ _ _ (cut.1 s stands may) in
    passing_answered (as_described c.args.engine.now.desc) s (lines_of c.args.waiting.now) (standing f.behind) f.line (standing f.ahead) _ _ _ _ _ _ _ has c.if-branch.true (c.in_ok-take_out.ensures.lines f) p
    (subst (λ (d : Description). PerformsTry (as_described d) p.at f.line c.in_ok-try_at.field-0 (view c.try_at.new.engine) (engine_view c.loop-j.engine) (engine_view c.try_at.new.engine)) c.loop-j.invariant.lasts.description (c.in_ok-try_at.ensures.tried f.line at p.at p.stands (may_under (ap as_described (sym c.loop-j.invariant.lasts.description)) p.may)))

pub returns-then-branch-clause-part : goal.returns-then-branch-clause-part
returns-then-branch-clause-part g c = λ s stands may.
    let w = c.loop-j.waiting in
    let cut = c.loop-j.invariant.passing in
    let low : c.loop-j.j < length w.firsts.items = omega (arith, c.loop-j-test.true, c.len-j-end.ensures, c.args.waiting.now.firsts.ok.0, ap (λ (v : Vec ℕ Global). length v.items) c.loop-j.invariant.firsts) in
    let r = reach w c.loop-j.j cut.0 low in
    let f = r.first in
    let here = slot_is w c.loop-j.j f c.index-slot.result.now low c.index-slot.ensures in
    let inside : slice_get w.slots.items c.index-slot.result.now ≡ Some (Some f.line) = ap (slice_get w.slots.items) here ∙ first_in_slot w c.loop-j.j f in
    let at : slice_get c.as_slice.result.now c.index-slot.result.now ≡ Some (Some f.line) = ap (λ (l : List (Option LineWaiting)). slice_get l c.index-slot.result.now) c.as_slice.ensures.value ∙ inside in
    let has : has_line (standing f.behind) f.line.program ≡ false = f.same f.line.program ∙ f.new in
    let p = passing_reach (as_described c.args.engine.now.desc) s (lines_of c.args.waiting.now) w c.loop-j.j cut.0 r _ _ _ (cut.1 s stands may) in
    let done = passing_answered (as_described c.args.engine.now.desc) s (lines_of c.args.waiting.now) (standing f.behind) f.line (standing f.ahead) _ _ _ _ _ _ _ has c.if-branch.true refl p
    (subst (λ (d : Description). PerformsTry (as_described d) p.at f.line c.in_ok-try_at.field-0 (view c.try_at.new.engine) (engine_view c.loop-j.engine) (engine_view c.try_at.new.engine)) c.loop-j.invariant.lasts.description (c.in_ok-try_at.ensures.tried f.line at p.at p.stands (may_under (ap as_described (sym c.loop-j.invariant.lasts.description)) p.may))) in
    part_all (λ n none. none) _ _ _ done.ran

pub returns-then-branch-clause-verbs : goal.returns-then-branch-clause-verbs
returns-then-branch-clause-verbs g c =
    let w = c.loop-j.waiting in
    let cut = c.loop-j.invariant.passing in
    let low : c.loop-j.j < length w.firsts.items = omega (arith, c.loop-j-test.true, c.len-j-end.ensures, c.args.waiting.now.firsts.ok.0, ap (λ (v : Vec ℕ Global). length v.items) c.loop-j.invariant.firsts) in
    let r = reach w c.loop-j.j cut.0 low in
    let f = r.first in
    let here = slot_is w c.loop-j.j f c.index-slot.result.now low c.index-slot.ensures in
    let inside : slice_get w.slots.items c.index-slot.result.now ≡ Some (Some f.line) = ap (slice_get w.slots.items) here ∙ first_in_slot w c.loop-j.j f in
    record { verbs = held_out (as_described c.args.engine.now.desc) w c.loop-j.j f _ (c.in_ok-take_out.ensures.lines f) c.loop-j.invariant.verbs; firsts = c.in_ok-take_out.ensures.firsts f }

pub loop-j-preserved : goal.loop-j-preserved
loop-j-preserved g c =
    let w = c.loop-j.waiting in
    let cut = c.loop-j.invariant.passing in
    let low : c.loop-j.j < length w.firsts.items = omega (arith, c.loop-j-test.true, c.len-j-end.ensures, c.args.waiting.now.firsts.ok.0, ap (λ (v : Vec ℕ Global). length v.items) c.loop-j.invariant.firsts) in
    let r = reach w c.loop-j.j cut.0 low in
    let f = r.first in
    let here = slot_is w c.loop-j.j f c.index-slot.result.now low c.index-slot.ensures in
    let inside : slice_get w.slots.items c.index-slot.result.now ≡ Some (Some f.line) = ap (slice_get w.slots.items) here ∙ first_in_slot w c.loop-j.j f in
    let at : slice_get c.as_slice.result.now c.index-slot.result.now ≡ Some (Some f.line) = ap (λ (l : List (Option LineWaiting)). slice_get l c.index-slot.result.now) c.as_slice.ensures.value ∙ inside in
    let has : has_line (standing f.behind) f.line.program ≡ false = f.same f.line.program ∙ f.new in
    let said : Option LineWaiting = Some (said_to_wait f.line) in
    let set : c.note_waiting.new.slots.items ≡ slice_set w.slots.items (length f.behind) said = c.note_waiting.ensures f.line inside ∙ ap (λ (k : ℕ). slice_set w.slots.items k said) here in
    let next = split_next w (record { slots = c.note_waiting.new.slots; firsts = w.firsts; count = w.count }) c.loop-j.j f low set refl refl in
    record {
      lasts = lasts_on g.met.St.Store.same_then c.loop-j.invariant.lasts c.in_ok-try_at.ensures.lasts;
      verbs = held_said (as_described c.args.engine.now.desc) w c.loop-j.j f _ (ap standing next.split.are ∙ standing_on next.split.behind next.split.ahead ∙ ap (λ (l : List LineWaiting). l ++ standing next.split.ahead) next.is_behind ∙ ap (λ (l : List (Option LineWaiting)). (standing f.behind ++ said_to_wait f.line ∷ []) ++ standing l) next.is_ahead) c.loop-j.invariant.verbs;
      firsts = c.loop-j.invariant.firsts;
      passing = (
        next.split,
        λ s stands may.
            let p = passing_reach (as_described c.args.engine.now.desc) s (lines_of c.args.waiting.now) w c.loop-j.j cut.0 r _ _ _ (cut.1 s stands may) in
            passing_as (as_described c.args.engine.now.desc) s (lines_of c.args.waiting.now) (standing f.behind ++ said_to_wait f.line ∷ []) (standing f.ahead) (standing next.split.behind) (standing next.split.ahead) _ _ _ (λ t. ap (λ (l : List LineWaiting). retry (as_described c.args.engine.now.desc) t l (standing f.ahead)) (sym next.is_behind) ∙ ap (λ (l : List (Option LineWaiting)). retry (as_described c.args.engine.now.desc) t (standing next.split.behind) (standing l)) (sym next.is_ahead))
            (passing_wait (as_described c.args.engine.now.desc) s (lines_of c.args.waiting.now) (standing f.behind) f.line (standing f.ahead) _ _ _ _ _ _ has c.if-branch.false (verb_of (as_described c.args.engine.now.desc) w c.loop-j.j f c.loop-j.invariant.verbs) p
            (subst (λ (d : Description). PerformsTry (as_described d) p.at f.line c.in_ok-try_at.field-0 (view c.try_at.new.engine) (engine_view c.loop-j.engine) (engine_view c.try_at.new.engine)) c.loop-j.invariant.lasts.description (c.in_ok-try_at.ensures.tried f.line at p.at p.stands (may_under (ap as_described (sym c.loop-j.invariant.lasts.description)) p.may)))),
      );
    }

pub returns-clause-passes : goal.returns-clause-passes
returns-clause-passes g c = λ s stands may.
    let w = c.loop-j.waiting in
    let cut = c.loop-j.invariant.passing in
    let all = reach_none w c.loop-j.j cut.0 (omega (arith, c.loop-j-test.false, c.len-j-end.ensures, c.args.waiting.now.firsts.ok.0, ap (λ (v : Vec ℕ Global). length v.items) c.loop-j.invariant.firsts)) in
    passing_end (as_described c.args.engine.now.desc) s (lines_of c.args.waiting.now) (standing cut.0.behind) (standing cut.0.ahead) (lines_of w) _ _ _ all (ap standing cut.0.are ∙ standing_on cut.0.behind cut.0.ahead) (cut.1 s stands may)

pub returns-clause-part : goal.returns-clause-part
returns-clause-part g c = λ s stands may.
    let w = c.loop-j.waiting in
    let cut = c.loop-j.invariant.passing in
    let all = reach_none w c.loop-j.j cut.0 (omega (arith, c.loop-j-test.false, c.len-j-end.ensures, c.args.waiting.now.firsts.ok.0, ap (λ (v : Vec ℕ Global). length v.items) c.loop-j.invariant.firsts)) in
    let done = passing_end (as_described c.args.engine.now.desc) s (lines_of c.args.waiting.now) (standing cut.0.behind) (standing cut.0.ahead) (lines_of w) _ _ _ all (ap standing cut.0.are ∙ standing_on cut.0.behind cut.0.ahead) (cut.1 s stands may) in
    part_all (λ n none. none) _ _ _ done.ran

pub returns-clause-verbs : goal.returns-clause-verbs
returns-clause-verbs g c = record { verbs = c.loop-j.invariant.verbs; firsts = split_first c.loop-j.waiting c.loop-j.j c.loop-j.invariant.passing.0 }
