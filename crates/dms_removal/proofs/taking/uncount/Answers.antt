use Rattle.std.proofs.Common.{◌≡◌, ◌∙◌, ◌+◌, ◌++◌, List, Bool, true, false, sym, ap, subst, drop, length, take, slice_get, arith, Ok, Err}
use Rattle.dms_desc.specs.Conds.{or_null}
use Rattle.dms_desc.specs.Shape.{as_described}
use Rattle.dms_links.specs.Releasing.{uncount_from, value_of}
use Rattle.dms_links.specs.Setting.{count_steps, target_of}
use Rattle.dms_links.specs.Stepping.{SlotStep}
use Rattle.dms_links.specs.Taking.{TakesSteps, holds_after, sound_after, takes_err, takes_off, takes_then}
use Rattle.dms_links.specs.declared.altering.SlotChange.TheVariants.{Uncounted}
use Rattle.dms_removal.specs.Releasing.{uncount_split, uncount_take}
use Rattle.dms_removal.proofs.taking.uncount.Goals as goal

pub uncount_one-requires-clause-sound : goal.uncount_one-requires-clause-sound
uncount_one-requires-clause-sound g c = sound_after (as_described c.args.desc.now) c.loop-k.k c.args.over.now c.loop-k.over c.loop-k.invariant.steps.writes

pub uncount_one-requires-clause-holds : goal.uncount_one-requires-clause-holds
uncount_one-requires-clause-holds g c = holds_after (as_described c.args.desc.now) c.loop-k.k c.args.over.now c.loop-k.over c.loop-k.invariant.steps.writes c.requires.holds

pub returns-in-Err : goal.returns-in-Err
returns-in-Err g c =
    let desc = as_described c.args.desc.now in
    let k = c.loop-k.k in
    let n = length c.args.items.now in
    let a = c.args.over.now in
    let b = c.loop-k.over in
    let d = c.uncount_one.new.over in
    let xs = uncount_from 0 (take k c.args.items.now) c.args.values.now in
    let one = count_steps c.counts_in_kind-set.result c.target_of-number.result Uncounted in
    takes_err desc (xs ++ one) _ n n c.in-Err.e a d (omega arith) (takes_then desc xs one k 1 n (Err c.in-Err.e) a b d g.met.B.Blocks.same_then (omega (arith, c.loop-k-test.true)) c.loop-k.invariant.steps c.in-Err.ensures)

pub loop-k-preserved : goal.loop-k-preserved
loop-k-preserved g c =
    let desc = as_described c.args.desc.now in
    let k = c.loop-k.k in
    let a = c.args.over.now in
    let b = c.loop-k.over in
    let d = c.uncount_one.new.over in
    let items = c.args.items.now in
    let values = c.args.values.now in
    let xs = uncount_from 0 (take k items) values in
    let one = count_steps c.counts_in_kind-set.result c.target_of-number.result Uncounted in
    let e : 0 + k ≡ k = omega arith in
    let target : c.target_of-number.result ≡ target_of (value_of values (0 + k)) = c.target_of-number.ensures ∙ ap (λ o. target_of (or_null o)) (c.value_at.ensures ∙ ap (slice_get values) (sym e)) in
    let same : xs ++ one ≡ uncount_from 0 (take (k + 1) items) values =
    (λ i. xs ++ count_steps (c.counts_in_kind-set.ensures i) (target i) Uncounted) ∙ sym (uncount_take values 0 k items c.index-items-k.result (omega (arith, c.loop-k-test.true)) c.index-items-k.is) in
    let step = subst (λ (z : Bool). TakesSteps desc one 1 (Ok z) b d) c.in-Ok-true.field-0-test c.in-Ok-true.ensures in
    record {
      bound = omega (arith, c.loop-k-test.true);
      steps = subst (λ (ys : List SlotStep). TakesSteps desc ys (k + 1) (Ok true) a d) same (takes_then desc xs one k 1 (k + 1) (Ok true) a b d g.met.B.Blocks.same_then (omega arith) c.loop-k.invariant.steps step);
    }

pub returns-in-Ok-false : goal.returns-in-Ok-false
returns-in-Ok-false g c =
    let desc = as_described c.args.desc.now in
    let k = c.loop-k.k in
    let n = length c.args.items.now in
    let a = c.args.over.now in
    let b = c.loop-k.over in
    let d = c.uncount_one.new.over in
    let items = c.args.items.now in
    let values = c.args.values.now in
    let xs = uncount_from 0 (take k items) values in
    let one = count_steps c.counts_in_kind-set.result c.target_of-number.result Uncounted in
    let rest = uncount_from (0 + (k + 1)) (drop (k + 1) items) values in
    let e : 0 + k ≡ k = omega arith in
    let target : c.target_of-number.result ≡ target_of (value_of values (0 + k)) = c.target_of-number.ensures ∙ ap (λ o. target_of (or_null o)) (c.value_at.ensures ∙ ap (slice_get values) (sym e)) in
    let same : xs ++ one ≡ uncount_from 0 (take (k + 1) items) values =
    (λ i. xs ++ count_steps (c.counts_in_kind-set.ensures i) (target i) Uncounted) ∙ sym (uncount_take values 0 k items c.index-items-k.result (omega (arith, c.loop-k-test.true)) c.index-items-k.is) in
    let all : (xs ++ one) ++ rest ≡ uncount_from 0 items values = ap (λ (ys : List SlotStep). ys ++ rest) same ∙ sym (uncount_split values 0 (k + 1) items) in
    let step = subst (λ (z : Bool). TakesSteps desc one 1 (Ok z) b d) c.in-Ok-false.field-0-test c.in-Ok-false.ensures in
    subst (λ (ys : List SlotStep). TakesSteps desc ys n (Ok false) a d) all
    (takes_off desc (xs ++ one) rest n n a d (omega arith) (takes_then desc xs one k 1 n (Ok false) a b d g.met.B.Blocks.same_then (omega (arith, c.loop-k-test.true)) c.loop-k.invariant.steps step))
