use Rattle.std.proofs.Common.{◌≡◌, ◌+◌, ◌-◌, ◌≤◌, true, false, sym, ap, ◌∙◌, subst, length, arith}
use Rattle.std.specs.Prelude.{◌==◌}
use Rattle.dms_desc.specs.Shape.{shape_of, as_described}
use Rattle.dms_desc.specs.Lookups.{structure_of, items_of}
use Rattle.dms_sets.specs.Changes.{IfListed, list_of_set}
use Rattle.dms_sets.specs.Entries.{kinds_of}
use Rattle.dms_sets.specs.Padded.{entry_width}
use Rattle.dms_sets.specs.Sets.{kinds_over}
use Rattle.dms_sets.proofs.Faults.{if_that}
use Rattle.dms_sets.proofs.Turns.{low_at, shape_at, shapes_long}
use Rattle.dms_manual.specs.Entered.{manual_of}
use Rattle.dms_manual.specs.Naming.{NoneUpto, entered_none, entered_one, has_manual, is_manual_over, kinds_are, manual_list, manual_listed, none_more, none_skip, number_manual, shown_in}
use Rattle.dms_manual.proofs.naming.is_entered.Goals as goal
use Rattle.dms_manual.proofs.naming.is_entered.Goals.{then-is_manual_over+in_ok-names_record+else-branch, else-is_manual_over}

pub names_record-requires-clause-usable : goal.names_record-requires-clause-usable
names_record-requires-clause-usable g c =
    let at = shape_at c.as_slice-s-items.result.now c.args.desc.now.structures c.loop-s.s-index c.s-item.result c.as_slice-s-items.ensures c.loop-s-test.true c.s-item.is in
    c.loop-s.invariant.0 _ (c.requires.usable c.loop-s.s-index (shape_of c.s-item.result) at (sym c.is_manual_over.ensures ∙ c.if-is_manual_over.true))

pub names_record-requires-clause-width : goal.names_record-requires-clause-width
names_record-requires-clause-width g c =
    let at = shape_at c.as_slice-s-items.result.now c.args.desc.now.structures c.loop-s.s-index c.s-item.result c.as_slice-s-items.ensures c.loop-s-test.true c.s-item.is in
    let kinds : c.as_slice.result.now ≡ kinds_of (items_of (structure_of (as_described c.args.desc.now) c.args.set)) = c.as_slice.ensures.value ∙ c.in_ok-kinds.ensures ∙ ap kinds_of c.items_of.ensures in
    subst (λ ks. entry_width ks (shape_of c.s-item.result).parts ≤ 104) (sym kinds) (c.requires.width c.loop-s.s-index (shape_of c.s-item.result) at (sym c.is_manual_over.ensures ∙ c.if-is_manual_over.true))

pub returns-in_err-names_record-clause-fails : goal.returns-in_err-names_record-clause-fails
returns-in_err-names_record-clause-fails g c =
    let q = has_manual (as_described c.args.desc.now).structures c.args.set in
    let k = c.loop-s.s-index in
    let n = length c.args.desc.now.structures in
    let low = low_at c.as_slice-s-items.result.now c.args.desc.now.structures k c.as_slice-s-items.ensures c.loop-s-test.true in
    let more : n - (k + 1) + (k + 1) ≡ n = omega (arith, low) in
    if_that _ _ _ c.from_residual-in_err-names_record.ensures.1
    (subst (λ m. g.L.Lists.fails c.in_err-names_record.field-0.0 m c.args.lists.now c.names_record.new.lists) more
    (g.met.L.Lists.fails_then _ q (n - (k + 1)) (k + 1) _ _ _ (g.met.L.Lists.calm_none q (n - (k + 1)) c.args.lists.now)
    (g.met.L.Lists.fails_then _ q k 1 _ _ _ c.loop-s.invariant.1 c.in_err-names_record.ensures.fails)))

pub returns-in_err-names_record-clause-below : goal.returns-in_err-names_record-clause-below
returns-in_err-names_record-clause-below g c =
    let q = has_manual (as_described c.args.desc.now).structures c.args.set in
    let at = shape_at c.as_slice-s-items.result.now c.args.desc.now.structures c.loop-s.s-index c.s-item.result c.as_slice-s-items.ensures c.loop-s-test.true c.s-item.is in
    let s = shape_of c.s-item.result in
    let desc = as_described c.args.desc.now in
    let over : is_manual_over s c.args.set ≡ true = sym c.is_manual_over.ensures ∙ c.if-is_manual_over.true in
    let kinds : c.as_slice.result.now ≡ kinds_over desc s = c.as_slice.ensures.value ∙ c.in_ok-kinds.ensures ∙ ap kinds_of c.items_of.ensures ∙ sym (kinds_are desc s c.args.set over) in
    let below : IfListed (manual_list (g.L.Lists.listed c.loop-s.lists) (kinds_over desc s) s) (λ xs. g.L.Lists.below c.in_err-names_record.field-0.0 c.loop-s.lists c.names_record.new.lists) =
    subst (λ ks. IfListed (manual_list (g.L.Lists.listed c.loop-s.lists) ks s) (λ xs. g.L.Lists.below c.in_err-names_record.field-0.0 c.loop-s.lists c.names_record.new.lists)) kinds c.in_err-names_record.ensures.below in
    if_that _ _ _ c.from_residual-in_err-names_record.ensures.1
    (λ db stands are.
    g.met.L.Lists.below_then _ q c.loop-s.s-index _ _ _ c.loop-s.invariant.1
    (below (manual_of desc db s) (manual_listed s c.args.set over (g.L.Lists.listed c.loop-s.lists) (kinds_over desc s) ∙ ap (λ ls. list_of_set ls (kinds_over desc s) s) c.loop-s.invariant.2 ∙ are c.loop-s.s-index s at over)))

pub returns-then-branch-clause-answer : goal.returns-then-branch-clause-answer
returns-then-branch-clause-answer g c db stands are =
    let at = shape_at c.as_slice-s-items.result.now c.args.desc.now.structures c.loop-s.s-index c.s-item.result c.as_slice-s-items.ensures c.loop-s-test.true c.s-item.is in
    let s = shape_of c.s-item.result in
    let desc = as_described c.args.desc.now in
    let over : is_manual_over s c.args.set ≡ true = sym c.is_manual_over.ensures ∙ c.if-is_manual_over.true in
    let kinds : c.as_slice.result.now ≡ kinds_over desc s = c.as_slice.ensures.value ∙ c.in_ok-kinds.ensures ∙ ap kinds_of c.items_of.ensures ∙ sym (kinds_are desc s c.args.set over) in
    let there : list_of_set (g.L.Lists.listed c.loop-s.lists) (kinds_over desc s) s ≡ _ = ap (λ ls. list_of_set ls (kinds_over desc s) s) c.loop-s.invariant.2 ∙ are c.loop-s.s-index s at over in
    let shown = shown_in desc db c.args.set c.args.number stands c.requires.small c.loop-s.s-index s at over (g.L.Lists.listed c.loop-s.lists) c.as_slice.result.now c.in_ok-names_record.field-0 kinds there c.in_ok-names_record.ensures.answer in
    sym (entered_one desc db c.args.set c.args.number stands c.requires.small c.loop-s.s-index s at over (sym shown ∙ c.if-branch.true))

pub returns-then-branch-clause-list : goal.returns-then-branch-clause-list
returns-then-branch-clause-list g c = c.in_ok-names_record.ensures.list ∙ c.loop-s.invariant.2

pub returns-then-branch-clause-usable : goal.returns-then-branch-clause-usable
returns-then-branch-clause-usable g c n u = c.in_ok-names_record.ensures.usable n (c.loop-s.invariant.0 n u)

pub returns-then-branch-clause-calm : goal.returns-then-branch-clause-calm
returns-then-branch-clause-calm g c =
    let q = has_manual (as_described c.args.desc.now).structures c.args.set in
    let k = c.loop-s.s-index in
    let n = length c.args.desc.now.structures in
    let low = low_at c.as_slice-s-items.result.now c.args.desc.now.structures k c.as_slice-s-items.ensures c.loop-s-test.true in
    let more : (k + 1) + (n - (k + 1)) ≡ n = omega (arith, low) in
    let at = shape_at c.as_slice-s-items.result.now c.args.desc.now.structures k c.s-item.result c.as_slice-s-items.ensures c.loop-s-test.true c.s-item.is in
    let over : is_manual_over (shape_of c.s-item.result) c.args.set ≡ true = sym c.is_manual_over.ensures ∙ c.if-is_manual_over.true in
    let one = g.met.L.Lists.calm_wider (λ m. m == c.s-item.result.number) q 1 _ _ (λ m is. number_manual (as_described c.args.desc.now).structures k (shape_of c.s-item.result) c.args.set m at over is) c.in_ok-names_record.ensures.calm in
    subst (λ m. g.L.Lists.calm q m c.args.lists.now c.names_record.new.lists) more
    (g.met.L.Lists.calm_then q (k + 1) (n - (k + 1)) _ _ _ (g.met.L.Lists.calm_then q k 1 _ _ _ c.loop-s.invariant.1 one) (g.met.L.Lists.calm_none q (n - (k + 1)) _))

pub loop-s-preserved : goal.loop-s-preserved
loop-s-preserved g c =
    let q = has_manual (as_described c.args.desc.now).structures c.args.set in
    let at = shape_at c.as_slice-s-items.result.now c.args.desc.now.structures c.loop-s.s-index c.s-item.result c.as_slice-s-items.ensures c.loop-s-test.true c.s-item.is in
    let s = shape_of c.s-item.result in
    let desc = as_described c.args.desc.now in
    let k = c.loop-s.s-index in
    elim c.if-is_manual_over.branch [
      | then-is_manual_over+in_ok-names_record+else-branch w ↦
          (let over : is_manual_over s c.args.set ≡ true = sym c.is_manual_over.ensures ∙ w.if-is_manual_over.true in
          let kinds : w.as_slice.result.now ≡ kinds_over desc s = w.as_slice.ensures.value ∙ c.in_ok-kinds.ensures ∙ ap kinds_of c.items_of.ensures ∙ sym (kinds_are desc s c.args.set over) in
          let one = g.met.L.Lists.calm_wider (λ m. m == c.s-item.result.number) q 1 _ _ (λ m is. number_manual desc.structures k s c.args.set m at over is) w.in_ok-names_record.ensures.calm in (
            λ n u. subst (λ z. g.L.Lists.usable z n) (sym w.lists-is) (w.in_ok-names_record.ensures.usable n (c.loop-s.invariant.0 n u)),
            subst (λ z. g.L.Lists.calm q (k + 1) c.args.lists.now z) (sym w.lists-is) (g.met.L.Lists.calm_then q k 1 _ _ _ c.loop-s.invariant.1 one),
            ap (λ z. g.L.Lists.listed z) w.lists-is ∙ w.in_ok-names_record.ensures.list ∙ c.loop-s.invariant.2,
            λ db stands are.
                let there : list_of_set (g.L.Lists.listed c.loop-s.lists) (kinds_over desc s) s ≡ _ = ap (λ ls. list_of_set ls (kinds_over desc s) s) c.loop-s.invariant.2 ∙ are k s at over in
                let shown = shown_in desc db c.args.set c.args.number stands c.requires.small k s at over (g.L.Lists.listed c.loop-s.lists) w.as_slice.result.now w.in_ok-names_record.field-0 kinds there w.in_ok-names_record.ensures.answer in
                none_more desc db c.args.set c.args.number k s at (sym shown ∙ w.if-branch.false) (c.loop-s.invariant.3 db stands are),
          ))
      | else-is_manual_over w ↦
          (let off : is_manual_over s c.args.set ≡ false = sym c.is_manual_over.ensures ∙ w.if-is_manual_over.false in (
            λ n u. subst (λ z. g.L.Lists.usable z n) (sym w.lists-is) (c.loop-s.invariant.0 n u),
            subst (λ z. g.L.Lists.calm q (k + 1) c.args.lists.now z) (sym w.lists-is) (g.met.L.Lists.calm_then q k 1 _ _ _ c.loop-s.invariant.1 (g.met.L.Lists.calm_none q 1 _)),
            ap (λ z. g.L.Lists.listed z) w.lists-is ∙ c.loop-s.invariant.2,
            λ db stands are. none_skip desc db c.args.set c.args.number k s at off (c.loop-s.invariant.3 db stands are),
          ))
    ]

pub returns-clause-answer : goal.returns-clause-answer
returns-clause-answer g c db stands are =
    let k = c.loop-s.s-index in
    let desc = as_described c.args.desc.now in
    let all : k ≡ length desc.structures = omega (arith, c.loop-s-test.false, c.loop-s.auto.s-index-end, ap (λ l. length l) c.as_slice-s-items.ensures, shapes_long c.args.desc.now.structures) in
    sym (entered_none desc db c.args.set c.args.number stands c.requires.small (subst (NoneUpto desc db c.args.set c.args.number) all (c.loop-s.invariant.3 db stands are)))
