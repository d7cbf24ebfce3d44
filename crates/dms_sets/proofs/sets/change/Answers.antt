use Rattle.std.proofs.Common.{◌≡◌, ◌+◌, ◌*◌, ◌-◌, true, false, sym, ap, ◌∙◌, subst, length, arith}
use Rattle.std.specs.Prelude.{◌==◌}
use Rattle.std.specs.Option.{option_copied}
use Rattle.dms_desc.specs.Shape.{shape_of, as_described}
use Rattle.dms_desc.specs.Lookups.{structure_of, items_of}
use Rattle.dms_sets.specs.Changes.{OptHasEntry, IfListed, has_number, list_of_set, is_over}
use Rattle.dms_sets.specs.Entries.{kinds_of}
use Rattle.dms_sets.specs.Sets.{entries_of, kinds_over}
use Rattle.dms_sets.specs.Told.{Upto}
use Rattle.dms_sets.specs.ToldLaws.{kinds_same, number_over, over_kept, upto_skip, upto_step, upto_end, upto_refused}
use Rattle.dms_sets.proofs.Faults.{if_that}
use Rattle.dms_sets.proofs.Turns.{shape_at, low_at, shapes_long, one_as, two_more, two_all}
use Rattle.dms_sets.proofs.sets.change.Goals as goal
use Rattle.dms_sets.proofs.sets.change.Goals.{then-is_over+in_ok-change_one+else-branch, else-is_over}

pub change_one-requires-clause-usable : goal.change_one-requires-clause-usable
change_one-requires-clause-usable g c =
    let at = shape_at c.as_slice-s-items.result.now c.args.desc.now.structures c.loop-s.s-index c.s-item.result c.as_slice-s-items.ensures c.loop-s-test.true c.s-item.is in
    c.loop-s.invariant.0 _ (c.requires.usable c.loop-s.s-index (shape_of c.s-item.result) at (sym c.is_over.ensures ∙ c.if-is_over.true))

pub change_one-requires-clause-old : goal.change_one-requires-clause-old
change_one-requires-clause-old g c =
    let at = shape_at c.as_slice-s-items.result.now c.args.desc.now.structures c.loop-s.s-index c.s-item.result c.as_slice-s-items.ensures c.loop-s-test.true c.s-item.is in
    let kinds : c.as_slice.result.now ≡ kinds_of (items_of (structure_of (as_described c.args.desc.now) c.args.set)) = c.as_slice.ensures.value ∙ c.in_ok-kinds.ensures ∙ ap kinds_of c.items_of.ensures in
    subst (λ ks. OptHasEntry ks (shape_of c.s-item.result) (option_copied c.args.old)) (sym kinds) (c.requires.old c.loop-s.s-index (shape_of c.s-item.result) at (sym c.is_over.ensures ∙ c.if-is_over.true))

pub change_one-requires-clause-new : goal.change_one-requires-clause-new
change_one-requires-clause-new g c =
    let at = shape_at c.as_slice-s-items.result.now c.args.desc.now.structures c.loop-s.s-index c.s-item.result c.as_slice-s-items.ensures c.loop-s-test.true c.s-item.is in
    let kinds : c.as_slice.result.now ≡ kinds_of (items_of (structure_of (as_described c.args.desc.now) c.args.set)) = c.as_slice.ensures.value ∙ c.in_ok-kinds.ensures ∙ ap kinds_of c.items_of.ensures in
    subst (λ ks. OptHasEntry ks (shape_of c.s-item.result) (option_copied c.args.new)) (sym kinds) (c.requires.new c.loop-s.s-index (shape_of c.s-item.result) at (sym c.is_over.ensures ∙ c.if-is_over.true))

pub returns-in_err-change_one-clause-fails : goal.returns-in_err-change_one-clause-fails
returns-in_err-change_one-clause-fails g c =
    let q = has_number (as_described c.args.desc.now).structures c.args.set in
    let k = c.loop-s.s-index in
    let n = length c.args.desc.now.structures in
    let low = low_at c.as_slice-s-items.result.now c.args.desc.now.structures k c.as_slice-s-items.ensures c.loop-s-test.true in
    let more : 2 * n - (2 * k + 2) + (2 * k + 2) ≡ 2 * n = omega (arith, low) in
    if_that _ _ _ c.from_residual-in_err-change_one.ensures.1
    (subst (λ m. g.L.Lists.fails c.in_err-change_one.field-0.0 m c.args.lists.now c.change_one.new.lists) more
    (g.met.L.Lists.fails_then _ q (2 * n - (2 * k + 2)) (2 * k + 2) _ _ _ (g.met.L.Lists.calm_none q (2 * n - (2 * k + 2)) c.args.lists.now)
    (g.met.L.Lists.fails_then _ q (2 * k) 2 _ _ _ c.loop-s.invariant.1 c.in_err-change_one.ensures.fails)))

pub returns-in_err-change_one-clause-below : goal.returns-in_err-change_one-clause-below
returns-in_err-change_one-clause-below g c =
    let q = has_number (as_described c.args.desc.now).structures c.args.set in
    let at = shape_at c.as_slice-s-items.result.now c.args.desc.now.structures c.loop-s.s-index c.s-item.result c.as_slice-s-items.ensures c.loop-s-test.true c.s-item.is in
    let s = shape_of c.s-item.result in
    let desc = as_described c.args.desc.now in
    let over : is_over s c.args.set ≡ true = sym c.is_over.ensures ∙ c.if-is_over.true in
    let kinds : c.as_slice.result.now ≡ kinds_over desc s = c.as_slice.ensures.value ∙ c.in_ok-kinds.ensures ∙ ap kinds_of c.items_of.ensures ∙ sym (kinds_same desc s c.args.set over) in
    let below : IfListed (list_of_set (g.L.Lists.listed c.loop-s.lists) (kinds_over desc s) s) (λ xs. g.L.Lists.below c.in_err-change_one.field-0.0 c.loop-s.lists c.change_one.new.lists) =
    subst (λ ks. IfListed (list_of_set (g.L.Lists.listed c.loop-s.lists) ks s) (λ xs. g.L.Lists.below c.in_err-change_one.field-0.0 c.loop-s.lists c.change_one.new.lists)) kinds c.in_err-change_one.ensures.below in
    if_that _ _ _ c.from_residual-in_err-change_one.ensures.1
    (λ db judged are.
    g.met.L.Lists.below_then _ q (2 * c.loop-s.s-index) _ _ _ c.loop-s.invariant.1
    (below (entries_of desc db s) ((c.loop-s.invariant.2 db judged are).left c.loop-s.s-index s (omega arith) at (over_kept s c.args.set over))))

pub returns-then-branch-clause-kept : goal.returns-then-branch-clause-kept
returns-then-branch-clause-kept g c db judged are =
    let at = shape_at c.as_slice-s-items.result.now c.args.desc.now.structures c.loop-s.s-index c.s-item.result c.as_slice-s-items.ensures c.loop-s-test.true c.s-item.is in
    let s = shape_of c.s-item.result in
    let desc = as_described c.args.desc.now in
    let over : is_over s c.args.set ≡ true = sym c.is_over.ensures ∙ c.if-is_over.true in
    let kinds : c.as_slice.result.now ≡ kinds_over desc s = c.as_slice.ensures.value ∙ c.in_ok-kinds.ensures ∙ ap kinds_of c.items_of.ensures ∙ sym (kinds_same desc s c.args.set over) in
    upto_refused desc db c.args.set c.args.number (option_copied c.args.old) (option_copied c.args.new) judged c.loop-s.s-index s (g.L.Lists.listed c.loop-s.lists) (g.L.Lists.listed c.change_one.new.lists) at over
    (one_as s c.args.number (option_copied c.args.old) (option_copied c.args.new) (g.L.Lists.listed c.loop-s.lists) (g.L.Lists.listed c.change_one.new.lists) c.as_slice.result.now (kinds_over desc s) c.in_ok-change_one.field-0 true kinds c.if-branch.true c.in_ok-change_one.ensures.changed)
    (c.loop-s.invariant.2 db judged are)

pub returns-then-branch-clause-calm : goal.returns-then-branch-clause-calm
returns-then-branch-clause-calm g c =
    let q = has_number (as_described c.args.desc.now).structures c.args.set in
    let k = c.loop-s.s-index in
    let n = length c.args.desc.now.structures in
    let low = low_at c.as_slice-s-items.result.now c.args.desc.now.structures k c.as_slice-s-items.ensures c.loop-s-test.true in
    let more = two_all k n low in
    let at = shape_at c.as_slice-s-items.result.now c.args.desc.now.structures k c.s-item.result c.as_slice-s-items.ensures c.loop-s-test.true c.s-item.is in
    let over : is_over (shape_of c.s-item.result) c.args.set ≡ true = sym c.is_over.ensures ∙ c.if-is_over.true in
    let one = g.met.L.Lists.calm_wider (λ m. m == c.s-item.result.number) q 2 _ _ (λ m is. number_over (as_described c.args.desc.now).structures k (shape_of c.s-item.result) c.args.set m at over is) c.in_ok-change_one.ensures.calm in
    subst (λ m. g.L.Lists.calm q m c.args.lists.now c.change_one.new.lists) more
    (g.met.L.Lists.calm_then q (2 * k + 2) (2 * n - (2 * k + 2)) _ _ _ (g.met.L.Lists.calm_then q (2 * k) 2 _ _ _ c.loop-s.invariant.1 one) (g.met.L.Lists.calm_none q (2 * n - (2 * k + 2)) _))

pub loop-s-preserved : goal.loop-s-preserved
loop-s-preserved g c =
    let q = has_number (as_described c.args.desc.now).structures c.args.set in
    let at = shape_at c.as_slice-s-items.result.now c.args.desc.now.structures c.loop-s.s-index c.s-item.result c.as_slice-s-items.ensures c.loop-s-test.true c.s-item.is in
    let s = shape_of c.s-item.result in
    let desc = as_described c.args.desc.now in
    let k = c.loop-s.s-index in
    let old = option_copied c.args.old in
    let new = option_copied c.args.new in
    elim c.if-is_over.branch [
      | then-is_over+in_ok-change_one+else-branch w ↦
          (let over : is_over s c.args.set ≡ true = sym c.is_over.ensures ∙ w.if-is_over.true in
          let kinds : w.as_slice.result.now ≡ kinds_over desc s = w.as_slice.ensures.value ∙ c.in_ok-kinds.ensures ∙ ap kinds_of c.items_of.ensures ∙ sym (kinds_same desc s c.args.set over) in
          let one = g.met.L.Lists.calm_wider (λ m. m == c.s-item.result.number) q 2 _ _ (λ m is. number_over desc.structures k s c.args.set m at over is) w.in_ok-change_one.ensures.calm in (
            λ n u. subst (λ z. g.L.Lists.usable z n) (sym w.lists-is) (w.in_ok-change_one.ensures.usable n (c.loop-s.invariant.0 n u)),
            subst (λ z. g.L.Lists.calm q (2 * (k + 1)) c.args.lists.now z) (sym w.lists-is)
                (subst (λ m. g.L.Lists.calm q m c.args.lists.now w.change_one.new.lists) (two_more k) (g.met.L.Lists.calm_then q (2 * k) 2 _ _ _ c.loop-s.invariant.1 one)),
            λ db judged are.
                subst (λ z. Upto desc db c.args.set c.args.number old new (k + 1) (g.L.Lists.listed z)) (sym w.lists-is)
                (upto_step desc db c.args.set c.args.number old new judged k s (g.L.Lists.listed c.loop-s.lists) (g.L.Lists.listed w.change_one.new.lists) at over
                (one_as s c.args.number old new (g.L.Lists.listed c.loop-s.lists) (g.L.Lists.listed w.change_one.new.lists) w.as_slice.result.now (kinds_over desc s) w.in_ok-change_one.field-0 false kinds w.if-branch.false w.in_ok-change_one.ensures.changed)
                w.in_ok-change_one.ensures.others (c.loop-s.invariant.2 db judged are)),
          ))
      | else-is_over w ↦
          (let off : is_over s c.args.set ≡ false = sym c.is_over.ensures ∙ w.if-is_over.false in (
            λ n u. subst (λ z. g.L.Lists.usable z n) (sym w.lists-is) (c.loop-s.invariant.0 n u),
            subst (λ z. g.L.Lists.calm q (2 * (k + 1)) c.args.lists.now z) (sym w.lists-is)
                (subst (λ m. g.L.Lists.calm q m c.args.lists.now c.loop-s.lists) (two_more k) (g.met.L.Lists.calm_then q (2 * k) 2 _ _ _ c.loop-s.invariant.1 (g.met.L.Lists.calm_none q 2 _))),
            λ db judged are.
                subst (λ z. Upto desc db c.args.set c.args.number old new (k + 1) (g.L.Lists.listed z)) (sym w.lists-is)
                (upto_skip desc db c.args.set c.args.number old new judged k s (g.L.Lists.listed c.loop-s.lists) at off (c.loop-s.invariant.2 db judged are)),
          ))
    ]

pub returns-clause-kept : goal.returns-clause-kept
returns-clause-kept g c db judged are =
    let k = c.loop-s.s-index in
    let desc = as_described c.args.desc.now in
    let ss = c.args.desc.now.structures in
    let all : k ≡ length desc.structures = omega (arith, c.loop-s-test.false, c.loop-s.auto.s-index-end, ap (λ l. length l) c.as_slice-s-items.ensures, shapes_long ss) in
    upto_end desc db c.args.set c.args.number (option_copied c.args.old) (option_copied c.args.new) judged (g.L.Lists.listed c.loop-s.lists)
    (subst (λ n. Upto desc db c.args.set c.args.number (option_copied c.args.old) (option_copied c.args.new) n (g.L.Lists.listed c.loop-s.lists)) all (c.loop-s.invariant.2 db judged are))
