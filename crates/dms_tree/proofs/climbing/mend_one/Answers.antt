use Rattle.std.proofs.Common.{◌≡◌, ◌+◌, ◌-◌, ◌≤◌, ◌<◌, ◌∙◌, ℕ, List, ◌++◌, ◌∷◌, [], refl, sym, ap, subst, length, get_or, take, drop, arith}
use Rattle.std.proofs.lemmas.Result.{IfOk-weaker}
use Rattle.dms_block.specs.View.{seen_counts}
use Rattle.dms_tree.specs.declared.node.InnerBlock.{InnerBlock}
use Rattle.dms_tree.specs.declared.raising.PathStep.{PathStep}
use Rattle.dms_tree.specs.Climbs.{ClimbHolds, Climbs, climbs_by, last_off}
use Rattle.dms_tree.specs.Mates.{GapHolds}
use Rattle.dms_tree.specs.UpMates.{LastMate, MatesHold, hold_last, hold_size}
use Rattle.dms_tree.proofs.climbing.mend_one.Goals as goal

pub remove-step-requires : goal.remove-step-requires
remove-step-requires g c = omega (arith, c.requires.some, c.len-above.ensures)

pub remove-mate-requires : goal.remove-mate-requires
remove-mate-requires g c =
    let m = c.args.climb in
    omega (arith, c.requires.some, c.len-last.ensures, hold_size m.gap.width (seen_counts c.args.over.now c.args.file) m.gap.path.items m.mates.items c.requires.holds.mates)

pub mend-requires-clause-holds : goal.mend-requires-clause-holds
mend-requires-clause-holds g c =
    let h = c.requires.holds.gap in
    record { wide_is = h.wide_is; near = h.near; free_low = h.free_low; more = h.more; wide = h.wide; room = h.room }

pub mend-requires-clause-passed : goal.mend-requires-clause-passed
mend-requires-clause-passed g c =
    let m = c.args.climb in
    let n = seen_counts c.args.over.now c.args.file in
    let even = hold_size m.gap.width n m.gap.path.items m.mates.items c.requires.holds.mates in
    let path = last_off m.gap.path.items c.remove-step.new.self.items (c.len-above.result - 1) c.remove-step.result (omega (arith, c.requires.some, c.len-above.ensures)) c.remove-step.ensures.value c.remove-step.ensures.by_index.2 in
    let mates = last_off m.mates.items c.remove-mate.new.self.items (c.len-last.result - 1) c.remove-mate.result (omega (arith, c.requires.some, c.len-last.ensures, even)) c.remove-mate.ensures.value c.remove-mate.ensures.by_index.2 in
    (hold_last m.gap.width n c.remove-step.new.self.items c.remove-mate.new.self.items c.remove-step.result c.remove-mate.result (subst (λ (x : List PathStep × List InnerBlock). MatesHold m.gap.width n x.0 x.1) (λ i. (path i, mates i)) c.requires.holds.mates)).passed

pub mend-requires-clause-mate : goal.mend-requires-clause-mate
mend-requires-clause-mate g c =
    let m = c.args.climb in
    let n = seen_counts c.args.over.now c.args.file in
    let even = hold_size m.gap.width n m.gap.path.items m.mates.items c.requires.holds.mates in
    let path = last_off m.gap.path.items c.remove-step.new.self.items (c.len-above.result - 1) c.remove-step.result (omega (arith, c.requires.some, c.len-above.ensures)) c.remove-step.ensures.value c.remove-step.ensures.by_index.2 in
    let mates = last_off m.mates.items c.remove-mate.new.self.items (c.len-last.result - 1) c.remove-mate.result (omega (arith, c.requires.some, c.len-last.ensures, even)) c.remove-mate.ensures.value c.remove-mate.ensures.by_index.2 in
    (hold_last m.gap.width n c.remove-step.new.self.items c.remove-mate.new.self.items c.remove-step.result c.remove-mate.result (subst (λ (x : List PathStep × List InnerBlock). MatesHold m.gap.width n x.0 x.1) (λ i. (path i, mates i)) c.requires.holds.mates)).is

pub mend-requires-clause-near : goal.mend-requires-clause-near
mend-requires-clause-near g c =
    let m = c.args.climb in
    let n = seen_counts c.args.over.now c.args.file in
    let even = hold_size m.gap.width n m.gap.path.items m.mates.items c.requires.holds.mates in
    let path = last_off m.gap.path.items c.remove-step.new.self.items (c.len-above.result - 1) c.remove-step.result (omega (arith, c.requires.some, c.len-above.ensures)) c.remove-step.ensures.value c.remove-step.ensures.by_index.2 in
    let mates = last_off m.mates.items c.remove-mate.new.self.items (c.len-last.result - 1) c.remove-mate.result (omega (arith, c.requires.some, c.len-last.ensures, even)) c.remove-mate.ensures.value c.remove-mate.ensures.by_index.2 in
    (hold_last m.gap.width n c.remove-step.new.self.items c.remove-mate.new.self.items c.remove-step.result c.remove-mate.result (subst (λ (x : List PathStep × List InnerBlock). MatesHold m.gap.width n x.0 x.1) (λ i. (path i, mates i)) c.requires.holds.mates)).near

pub returns-clause-climbs : goal.returns-clause-climbs
returns-clause-climbs g c =
    let m = c.args.climb in
    let n = seen_counts c.args.over.now c.args.file in
    let even = hold_size m.gap.width n m.gap.path.items m.mates.items c.requires.holds.mates in
    let path = last_off m.gap.path.items c.remove-step.new.self.items (c.len-above.result - 1) c.remove-step.result (omega (arith, c.requires.some, c.len-above.ensures)) c.remove-step.ensures.value c.remove-step.ensures.by_index.2 in
    let mates = last_off m.mates.items c.remove-mate.new.self.items (c.len-last.result - 1) c.remove-mate.result (omega (arith, c.requires.some, c.len-last.ensures, even)) c.remove-mate.ensures.value c.remove-mate.ensures.by_index.2 in
    climbs_by c.args.over.now c.mend.new.over c.args.file m _ c.remove-step.result c.remove-mate.result c.in_ok-gap.gap _ c.remove-mate.new.self.items c.requires.holds refl refl refl refl refl path mates refl refl c.in_ok-gap.ensures.turns

pub returns-clause-fewer : goal.returns-clause-fewer
returns-clause-fewer g c =
    let m = c.args.climb in
    let even = hold_size m.gap.width (seen_counts c.args.over.now c.args.file) m.gap.path.items m.mates.items c.requires.holds.mates in
    omega (arith, c.remove-mate.ensures.len, c.len-last.ensures, c.requires.some, even)
