use Rattle.std.proofs.Common.{◌≡◌, ◌+◌, Bool, List, true, false, subst, length, arith, Ok}
use Rattle.dms_desc.specs.Shape.{as_described}
use Rattle.dms_desc.specs.declared.structure.Item.{Item}
use Rattle.dms_base.specs.declared.value.Value.{Value}
use Rattle.dms_links.specs.Releasing.{uncount_from}
use Rattle.dms_links.specs.Taking.{TakesSteps, holds_after, takes_err, takes_off, takes_then}
use Rattle.dms_removal.specs.Releasing.{owner_steps}
use Rattle.dms_removal.proofs.taking.release.Goals as goal

pub disown-requires-clause-holds : goal.disown-requires-clause-holds
disown-requires-clause-holds g c = holds_after (as_described c.args.desc.now) (length c.as_slice.result.now) c.args.over.now c.uncount.new.over c.in-Ok-true.ensures.writes c.requires.holds

pub returns-in-Err : goal.returns-in-Err
returns-in-Err g c =
    takes_err (as_described c.args.desc.now) (uncount_from 0 c.as_slice.result.now c.as_slice-2.result.now) _ (length c.as_slice.result.now) (length c.args.s.now.items + 1) c.in-Err.e c.args.over.now c.uncount.new.over (omega (arith, long c.as_slice.result.now c.args.s.now.items c.as_slice.ensures)) c.in-Err.ensures
  where
    long : (xs ys : List Item) → xs ≡ ys → length xs ≡ length ys
    long xs ys h i = length (h i)

pub returns-in-Ok-false : goal.returns-in-Ok-false
returns-in-Ok-false g c =
    let desc = as_described c.args.desc.now in
    let s = c.args.s.now in
    let r = c.args.rec.now in
    let n = length s.items in
    let xs = uncount_from 0 s.items r.values in
    let a = c.args.over.now in
    let b = c.uncount.new.over in
    takes_off desc xs (owner_steps s.owner r.owner) n (n + 1) a b (omega arith)
    (subst (λ (items : List Item). TakesSteps desc (uncount_from 0 items r.values) (length items) (Ok false) a b) c.as_slice.ensures
    (subst (λ (vs : List Value). TakesSteps desc (uncount_from 0 c.as_slice.result.now vs) (length c.as_slice.result.now) (Ok false) a b) c.as_slice-2.ensures
    (subst (λ (z : Bool). TakesSteps desc (uncount_from 0 c.as_slice.result.now c.as_slice-2.result.now) (length c.as_slice.result.now) (Ok z) a b) c.in-Ok-false.field-0-test c.in-Ok-false.ensures)))

pub returns-in-Ok-true : goal.returns-in-Ok-true
returns-in-Ok-true g c =
    let desc = as_described c.args.desc.now in
    let s = c.args.s.now in
    let r = c.args.rec.now in
    let n = length s.items in
    let xs = uncount_from 0 s.items r.values in
    let a = c.args.over.now in
    let b = c.uncount.new.over in
    takes_then desc xs (owner_steps s.owner r.owner) n 1 (n + 1) c.disown.result a b c.disown.new.over g.met.B.Blocks.same_then (omega arith)
    (subst (λ (items : List Item). TakesSteps desc (uncount_from 0 items r.values) (length items) (Ok true) a b) c.as_slice.ensures
    (subst (λ (vs : List Value). TakesSteps desc (uncount_from 0 c.as_slice.result.now vs) (length c.as_slice.result.now) (Ok true) a b) c.as_slice-2.ensures
    (subst (λ (z : Bool). TakesSteps desc (uncount_from 0 c.as_slice.result.now c.as_slice-2.result.now) (length c.as_slice.result.now) (Ok z) a b) c.in-Ok-true.field-0-test c.in-Ok-true.ensures)))
    c.disown.ensures
