use Rattle.std.proofs.Common.{◌≡◌, ◌+◌, List, true, false, sym, ap, ◌∙◌, refl, subst, length, arith}
use Rattle.std.specs.Prelude.{◌==◌}
use Rattle.std.proofs.lemmas.Bool.Decides.{nat_tests}
use Rattle.dms_base.specs.declared.kind.ItemKind.{ItemKind}
use Rattle.dms_desc.specs.Shape.{shape_of, as_described}
use Rattle.dms_desc.specs.Lookups.{structure_of, items_of}
use Rattle.dms_sets.specs.Changes.{HasEntry}
use Rattle.dms_sets.specs.Entries.{kinds_of}
use Rattle.dms_sets.specs.Sets.{kinds_over}
use Rattle.dms_sets.proofs.Faults.{if_that}
use Rattle.dms_sets.proofs.Turns.{shape_at, shapes_long}
use Rattle.dms_manual.specs.Entered.{manual_of}
use Rattle.dms_manual.specs.Following.{FewFor, IfMoves, MovedUpto, Moves}
use Rattle.dms_manual.specs.FollowedAll.{most_end, most_skip, most_step, moved_end, moved_refused, moved_skip, moved_start, moved_step, off_number}
use Rattle.dms_manual.specs.Naming.{has_manual, is_manual_over, kinds_are, number_manual}
use Rattle.dms_manual.proofs.following.follow.Goals as goal
use Rattle.dms_manual.proofs.following.follow.Goals.{then-is_manual_over+in_ok-move_in+else-branch, else-is_manual_over}

pub loop-s-init : goal.loop-s-init
loop-s-init g c =
    let q = has_manual (as_described c.args.desc.now).structures c.args.set in (
      λ n u. u,
      record { count = 0; did = g.met.L.Lists.calm_none q 0 c.args.lists.now; low = λ db st are. omega arith },
      λ m f w off. refl,
      λ db st are. moved_start (as_described c.args.desc.now) db c.args.set c.args.number c.args.new.now (g.L.Lists.listed c.args.lists.now) are,
    )

pub move_in-requires-clause-kind : goal.move_in-requires-clause-kind
move_in-requires-clause-kind g c =
    let manual : is_manual_over (shape_of c.s-item.result) c.args.set ≡ true = sym c.is_manual_over.ensures ∙ c.if-is_manual_over.true in
    grind (arith, nat_tests, manual)

pub move_in-requires-clause-usable : goal.move_in-requires-clause-usable
move_in-requires-clause-usable g c =
    let at = shape_at c.as_slice-s-items.result.now c.args.desc.now.structures c.loop-s.s-index c.s-item.result c.as_slice-s-items.ensures c.loop-s-test.true c.s-item.is in
    c.loop-s.invariant.0 _ (c.requires.usable c.loop-s.s-index (shape_of c.s-item.result) at (sym c.is_manual_over.ensures ∙ c.if-is_manual_over.true))

pub move_in-requires-clause-old : goal.move_in-requires-clause-old
move_in-requires-clause-old g c =
    let at = shape_at c.as_slice-s-items.result.now c.args.desc.now.structures c.loop-s.s-index c.s-item.result c.as_slice-s-items.ensures c.loop-s-test.true c.s-item.is in
    let kinds : c.as_slice.result.now ≡ kinds_of (items_of (structure_of (as_described c.args.desc.now) c.args.set)) = c.as_slice.ensures.value ∙ c.in_ok-kinds.ensures ∙ ap kinds_of c.items_of.ensures in
    subst (λ (ks : List ItemKind). HasEntry ks (shape_of c.s-item.result) c.args.old.now.values) (sym kinds) (c.requires.old c.loop-s.s-index (shape_of c.s-item.result) at (sym c.is_manual_over.ensures ∙ c.if-is_manual_over.true))

pub move_in-requires-clause-new : goal.move_in-requires-clause-new
move_in-requires-clause-new g c =
    let at = shape_at c.as_slice-s-items.result.now c.args.desc.now.structures c.loop-s.s-index c.s-item.result c.as_slice-s-items.ensures c.loop-s-test.true c.s-item.is in
    let kinds : c.as_slice.result.now ≡ kinds_of (items_of (structure_of (as_described c.args.desc.now) c.args.set)) = c.as_slice.ensures.value ∙ c.in_ok-kinds.ensures ∙ ap kinds_of c.items_of.ensures in
    subst (λ (ks : List ItemKind). HasEntry ks (shape_of c.s-item.result) c.args.new.now.values) (sym kinds) (c.requires.new c.loop-s.s-index (shape_of c.s-item.result) at (sym c.is_manual_over.ensures ∙ c.if-is_manual_over.true))

pub returns-in_err-kinds-clause-fails : goal.returns-in_err-kinds-clause-fails
returns-in_err-kinds-clause-fails g c = if_that _ _ _ c.from_residual.ensures.1 (record { count = 0; did = g.met.L.Lists.fails_memory 0 c.args.lists.now; low = λ db st are. omega arith })

pub returns-in_err-move_in-clause-fails : goal.returns-in_err-move_in-clause-fails
returns-in_err-move_in-clause-fails g c =
    let desc = as_described c.args.desc.now in
    let q = has_manual desc.structures c.args.set in
    let k = c.loop-s.s-index in
    let s = shape_of c.s-item.result in
    let at = shape_at c.as_slice-s-items.result.now c.args.desc.now.structures k c.s-item.result c.as_slice-s-items.ensures c.loop-s-test.true c.s-item.is in
    let over : is_manual_over s c.args.set ≡ true = sym c.is_manual_over.ensures ∙ c.if-is_manual_over.true in
    let kinds : c.as_slice.result.now ≡ kinds_over desc s = c.as_slice.ensures.value ∙ c.in_ok-kinds.ensures ∙ ap kinds_of c.items_of.ensures ∙ sym (kinds_are desc s c.args.set over) in
    let a = c.loop-s.invariant.1 in
    let b = c.in_err-move_in.ensures.fails in
    if_that _ _ _ c.from_residual-in_err-move_in.ensures.1
    (record {
      count = a.count + b.count;
      did = g.met.L.Lists.fails_then _ q a.count b.count _ _ _ a.did b.did;
      low = λ db st are.
          let few = subst (λ (ks : List ItemKind). FewFor ks s c.args.number (g.L.Lists.listed c.loop-s.lists) b.count) kinds b.low in
          let here = few (manual_of desc db s) ((c.loop-s.invariant.3 db st are).left k s (omega arith) at over) in
          most_end desc db c.args.set c.args.number (k + 1) (a.count + b.count) (most_step desc db c.args.set c.args.number k s a.count b.count at over (a.low db st are) here);
    })

pub returns-in_err-move_in-clause-below : goal.returns-in_err-move_in-clause-below
returns-in_err-move_in-clause-below g c =
    let desc = as_described c.args.desc.now in
    let q = has_manual desc.structures c.args.set in
    let k = c.loop-s.s-index in
    let s = shape_of c.s-item.result in
    let at = shape_at c.as_slice-s-items.result.now c.args.desc.now.structures k c.s-item.result c.as_slice-s-items.ensures c.loop-s-test.true c.s-item.is in
    let over : is_manual_over s c.args.set ≡ true = sym c.is_manual_over.ensures ∙ c.if-is_manual_over.true in
    let kinds : c.as_slice.result.now ≡ kinds_over desc s = c.as_slice.ensures.value ∙ c.in_ok-kinds.ensures ∙ ap kinds_of c.items_of.ensures ∙ sym (kinds_are desc s c.args.set over) in
    let below = subst (λ (ks : List ItemKind). IfMoves ks s c.args.number c.args.old.now c.args.new.now (g.L.Lists.listed c.loop-s.lists) (λ db. g.L.Lists.below c.in_err-move_in.field-0.0 c.loop-s.lists c.move_in.new.lists)) kinds c.in_err-move_in.ensures.below in
    if_that _ _ _ c.from_residual-in_err-move_in.ensures.1
    (λ db st are. g.met.L.Lists.below_then _ q c.loop-s.invariant.1.count _ _ _ c.loop-s.invariant.1.did (below db (st.each k s at over) ((c.loop-s.invariant.3 db st are).left k s (omega arith) at over)))

pub returns-then-branch-clause-moved : goal.returns-then-branch-clause-moved
returns-then-branch-clause-moved g c db st are =
    let desc = as_described c.args.desc.now in
    let k = c.loop-s.s-index in
    let s = shape_of c.s-item.result in
    let at = shape_at c.as_slice-s-items.result.now c.args.desc.now.structures k c.s-item.result c.as_slice-s-items.ensures c.loop-s-test.true c.s-item.is in
    let over : is_manual_over s c.args.set ≡ true = sym c.is_manual_over.ensures ∙ c.if-is_manual_over.true in
    let kinds : c.as_slice.result.now ≡ kinds_over desc s = c.as_slice.ensures.value ∙ c.in_ok-kinds.ensures ∙ ap kinds_of c.items_of.ensures ∙ sym (kinds_are desc s c.args.set over) in
    let before = g.L.Lists.listed c.loop-s.lists in
    let after = g.L.Lists.listed c.move_in.new.lists in
    let one = subst (λ (ks : List ItemKind). Moves ks s c.args.number c.args.old.now c.args.new.now before after c.in_ok-move_in.field-0) kinds c.in_ok-move_in.ensures.moved in
    let is = subst (λ b. Moves (kinds_over desc s) s c.args.number c.args.old.now c.args.new.now before after b) c.if-branch.true one in
    let upto = c.loop-s.invariant.3 db st are in
    moved_refused desc db c.args.set c.args.number c.args.old.now c.args.new.now st k s before after at over (is db (st.each k s at over) (upto.left k s (omega arith) at over)) upto

pub returns-then-branch-clause-others : goal.returns-then-branch-clause-others
returns-then-branch-clause-others g c m f w off =
    let desc = as_described c.args.desc.now in
    let k = c.loop-s.s-index in
    let s = shape_of c.s-item.result in
    let at = shape_at c.as_slice-s-items.result.now c.args.desc.now.structures k c.s-item.result c.as_slice-s-items.ensures c.loop-s-test.true c.s-item.is in
    let over : is_manual_over s c.args.set ≡ true = sym c.is_manual_over.ensures ∙ c.if-is_manual_over.true in
    c.in_ok-move_in.ensures.others m f w (off_number desc.structures k s c.args.set m at over off) ∙ c.loop-s.invariant.2 m f w off

pub returns-then-branch-clause-usable : goal.returns-then-branch-clause-usable
returns-then-branch-clause-usable g c n u = c.in_ok-move_in.ensures.usable n (c.loop-s.invariant.0 n u)

pub returns-then-branch-clause-calm : goal.returns-then-branch-clause-calm
returns-then-branch-clause-calm g c =
    let desc = as_described c.args.desc.now in
    let q = has_manual desc.structures c.args.set in
    let k = c.loop-s.s-index in
    let s = shape_of c.s-item.result in
    let at = shape_at c.as_slice-s-items.result.now c.args.desc.now.structures k c.s-item.result c.as_slice-s-items.ensures c.loop-s-test.true c.s-item.is in
    let over : is_manual_over s c.args.set ≡ true = sym c.is_manual_over.ensures ∙ c.if-is_manual_over.true in
    let kinds : c.as_slice.result.now ≡ kinds_over desc s = c.as_slice.ensures.value ∙ c.in_ok-kinds.ensures ∙ ap kinds_of c.items_of.ensures ∙ sym (kinds_are desc s c.args.set over) in
    let a = c.loop-s.invariant.1 in
    let b = c.in_ok-move_in.ensures.calm in
    record {
      count = a.count + b.count;
      did = g.met.L.Lists.calm_then q a.count b.count _ _ _ a.did (g.met.L.Lists.calm_wider (λ m. m == c.s-item.result.number) q b.count _ _ (λ m is. number_manual desc.structures k s c.args.set m at over is) b.did);
      low = λ db st are.
          let few = subst (λ (ks : List ItemKind). FewFor ks s c.args.number (g.L.Lists.listed c.loop-s.lists) b.count) kinds b.low in
          let here = few (manual_of desc db s) ((c.loop-s.invariant.3 db st are).left k s (omega arith) at over) in
          most_end desc db c.args.set c.args.number (k + 1) (a.count + b.count) (most_step desc db c.args.set c.args.number k s a.count b.count at over (a.low db st are) here);
    }

pub loop-s-preserved : goal.loop-s-preserved
loop-s-preserved g c =
    let desc = as_described c.args.desc.now in
    let q = has_manual desc.structures c.args.set in
    let k = c.loop-s.s-index in
    let s = shape_of c.s-item.result in
    let at = shape_at c.as_slice-s-items.result.now c.args.desc.now.structures k c.s-item.result c.as_slice-s-items.ensures c.loop-s-test.true c.s-item.is in
    let a = c.loop-s.invariant.1 in
    let before = g.L.Lists.listed c.loop-s.lists in
    elim c.if-is_manual_over.branch [
      | then-is_manual_over+in_ok-move_in+else-branch w ↦
          (let over : is_manual_over s c.args.set ≡ true = sym c.is_manual_over.ensures ∙ w.if-is_manual_over.true in
          let kinds : w.as_slice.result.now ≡ kinds_over desc s = w.as_slice.ensures.value ∙ c.in_ok-kinds.ensures ∙ ap kinds_of c.items_of.ensures ∙ sym (kinds_are desc s c.args.set over) in
          let after = g.L.Lists.listed w.move_in.new.lists in
          let b = w.in_ok-move_in.ensures.calm in (
            λ n u. subst (λ z. g.L.Lists.usable z n) (sym w.lists-is) (w.in_ok-move_in.ensures.usable n (c.loop-s.invariant.0 n u)),
            record {
              count = a.count + b.count;
              did = subst (λ z. g.L.Lists.calm q (a.count + b.count) c.args.lists.now z) (sym w.lists-is)
                  (g.met.L.Lists.calm_then q a.count b.count _ _ _ a.did (g.met.L.Lists.calm_wider (λ m. m == c.s-item.result.number) q b.count _ _ (λ m is. number_manual desc.structures k s c.args.set m at over is) b.did));
              low = λ db st are.
                  let few = subst (λ (ks : List ItemKind). FewFor ks s c.args.number before b.count) kinds b.low in
                  most_step desc db c.args.set c.args.number k s a.count b.count at over (a.low db st are) (few (manual_of desc db s) ((c.loop-s.invariant.3 db st are).left k s (omega arith) at over));
            },
            λ m f v off. ap (λ z. g.L.Lists.listed z m f v) w.lists-is ∙ w.in_ok-move_in.ensures.others m f v (off_number desc.structures k s c.args.set m at over off) ∙ c.loop-s.invariant.2 m f v off,
            λ db st are.
                let upto = c.loop-s.invariant.3 db st are in
                let one = subst (λ (ks : List ItemKind). Moves ks s c.args.number c.args.old.now c.args.new.now before after w.in_ok-move_in.field-0) kinds w.in_ok-move_in.ensures.moved in
                let is = subst (λ t. Moves (kinds_over desc s) s c.args.number c.args.old.now c.args.new.now before after t) w.if-branch.false one in
                subst (λ z. MovedUpto desc db c.args.set c.args.number c.args.new.now (k + 1) (g.L.Lists.listed z)) (sym w.lists-is)
                (moved_step desc db c.args.set c.args.number c.args.old.now c.args.new.now st k s before after at over (is db (st.each k s at over) (upto.left k s (omega arith) at over)) w.in_ok-move_in.ensures.others upto),
          ))
      | else-is_manual_over w ↦
          (let off : is_manual_over s c.args.set ≡ false = sym c.is_manual_over.ensures ∙ w.if-is_manual_over.false in (
            λ n u. subst (λ z. g.L.Lists.usable z n) (sym w.lists-is) (c.loop-s.invariant.0 n u),
            record {
              count = a.count;
              did = subst (λ z. g.L.Lists.calm q a.count c.args.lists.now z) (sym w.lists-is) a.did;
              low = λ db st are. most_skip desc db c.args.set c.args.number k a.count s at (a.low db st are);
            },
            λ m f v none. ap (λ z. g.L.Lists.listed z m f v) w.lists-is ∙ c.loop-s.invariant.2 m f v none,
            λ db st are.
                subst (λ z. MovedUpto desc db c.args.set c.args.number c.args.new.now (k + 1) (g.L.Lists.listed z)) (sym w.lists-is)
                (moved_skip desc db c.args.set c.args.number c.args.old.now c.args.new.now st k s before at off (c.loop-s.invariant.3 db st are)),
          ))
    ]

pub returns-clause-moved : goal.returns-clause-moved
returns-clause-moved g c db st are =
    let k = c.loop-s.s-index in
    let desc = as_described c.args.desc.now in
    let all : k ≡ length desc.structures = omega (arith, c.loop-s-test.false, c.loop-s.auto.s-index-end, ap (λ l. length l) c.as_slice-s-items.ensures, shapes_long c.args.desc.now.structures) in
    moved_end desc db c.args.set c.args.number c.args.old.now c.args.new.now st (g.L.Lists.listed c.loop-s.lists) (subst (λ n. MovedUpto desc db c.args.set c.args.number c.args.new.now n (g.L.Lists.listed c.loop-s.lists)) all (c.loop-s.invariant.3 db st are))

pub returns-clause-calm : goal.returns-clause-calm
returns-clause-calm g c =
    let a = c.loop-s.invariant.1 in
    record { count = a.count; did = a.did; low = λ db st are. most_end (as_described c.args.desc.now) db c.args.set c.args.number c.loop-s.s-index a.count (a.low db st are) }
