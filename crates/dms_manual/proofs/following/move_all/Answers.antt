use Rattle.std.proofs.Common.{◌≡◌, ◌∙◌, ◌+◌, ◌*◌, ℕ, Bool, List, sym, ap, subst, filter, length, arith}
use Rattle.std.specs.Prelude.{◌==◌}
use Rattle.std.proofs.lemmas.Result.{IfErr-weaker, IfOk-weaker}
use Rattle.dms_desc.specs.Shape.{shape_of}
use Rattle.dms_sets.proofs.Faults.{if_that}
use Rattle.dms_sets.specs.Changes.{list_of_set}
use Rattle.dms_manual.specs.Entered.{entered}
use Rattle.dms_manual.specs.Followed.{MovedSome, some_start}
use Rattle.dms_manual.specs.Named.{tells}
use Rattle.dms_manual.specs.Naming.{manual_kept}
use Rattle.dms_manual.specs.Seen.{list_over}
use Rattle.dms_manual.proofs.following.move_all.Goals as goal

pub entries_naming-requires-clause-width : goal.entries_naming-requires-clause-width
entries_naming-requires-clause-width g c = c.requires.old.width

pub returns-in_err-found-clause-fails : goal.returns-in_err-found-clause-fails
returns-in_err-found-clause-fails g c = if_that _ _ _ c.from_residual.ensures.1 (record { count = 0; did = c.in_err-found.ensures.fails; low = λ xs is. omega arith })

pub returns-in_err-found-clause-below : goal.returns-in_err-found-clause-below
returns-in_err-found-clause-below g c = if_that _ _ _ c.from_residual.ensures.1 (λ db st is. c.in_err-found.ensures.below _ (manual_kept (shape_of c.args.s.now) c.requires.kind (g.L.Lists.listed c.args.lists.now) c.args.kinds.now ∙ is))

pub returns-clause-moved : goal.returns-clause-moved
returns-clause-moved g c =
    let s = shape_of c.args.s.now in
    let kinds = c.args.kinds.now in
    IfOk-weaker c.move_each.result _ _ (λ refused h db st is.
    let middle = list_of_set (g.L.Lists.listed c.entries_naming.new.lists) kinds s in
    let same : middle ≡ list_of_set (g.L.Lists.listed c.args.lists.now) kinds s = ap (λ ls. list_of_set ls kinds s) c.in_ok-found.ensures.list in
    let items = c.as_slice.ensures.value ∙ c.in_ok-found.ensures.found (list_over kinds s (entered s db)) (manual_kept s c.requires.kind (g.L.Lists.listed c.args.lists.now) kinds ∙ is) in
    h db st
    (subst (λ (xs : List (List ℕ)). MovedSome kinds s db c.args.number c.args.old.now c.args.new.now xs middle) (sym items) (some_start kinds s db c.args.number c.args.old.now c.args.new.now c.requires.kind c.requires.small st middle (same ∙ is))))
    c.move_each.ensures.moved

pub returns-clause-others : goal.returns-clause-others
returns-clause-others g c =
    IfOk-weaker c.move_each.result _ _ (λ refused h m k v off. h m k v off ∙ ap (λ ls. ls m k v) c.in_ok-found.ensures.list) c.move_each.ensures.others

pub returns-clause-usable : goal.returns-clause-usable
returns-clause-usable g c = IfOk-weaker c.move_each.result _ _ (λ refused h n u. h n (c.in_ok-found.ensures.usable n u)) c.move_each.ensures.usable

pub returns-clause-calm : goal.returns-clause-calm
returns-clause-calm g c =
    let p : ℕ → Bool = λ m. m == c.args.s.now.number in
    IfOk-weaker c.move_each.result _ _ (λ refused h. record {
      count = 0 + 2 * length c.as_slice.result.now;
      did = g.met.L.Lists.calm_then p 0 (2 * length c.as_slice.result.now) _ _ _ c.in_ok-found.ensures.calm h;
      low = λ xs is. (let same : length c.as_slice.result.now ≡ length (filter (tells c.args.number) xs) = ap (λ (l : List (List ℕ)). length l) (c.as_slice.ensures.value ∙ c.in_ok-found.ensures.found xs (manual_kept (shape_of c.args.s.now) c.requires.kind (g.L.Lists.listed c.args.lists.now) c.args.kinds.now ∙ is)) in omega (arith, same));
    })
    c.move_each.ensures.calm

pub returns-clause-fails : goal.returns-clause-fails
returns-clause-fails g c =
    let p : ℕ → Bool = λ m. m == c.args.s.now.number in
    IfErr-weaker c.move_each.result _ _ (λ e h. record {
      count = 0 + 2 * length c.as_slice.result.now;
      did = g.met.L.Lists.fails_then e p 0 (2 * length c.as_slice.result.now) _ _ _ c.in_ok-found.ensures.calm h;
      low = λ xs is. (let same : length c.as_slice.result.now ≡ length (filter (tells c.args.number) xs) = ap (λ (l : List (List ℕ)). length l) (c.as_slice.ensures.value ∙ c.in_ok-found.ensures.found xs (manual_kept (shape_of c.args.s.now) c.requires.kind (g.L.Lists.listed c.args.lists.now) c.args.kinds.now ∙ is)) in omega (arith, same));
    })
    c.move_each.ensures.fails

pub returns-clause-below : goal.returns-clause-below
returns-clause-below g c =
    let p : ℕ → Bool = λ m. m == c.args.s.now.number in
    let s = shape_of c.args.s.now in
    let kinds = c.args.kinds.now in
    IfErr-weaker c.move_each.result _ _ (λ e h db st is.
    let middle = list_of_set (g.L.Lists.listed c.entries_naming.new.lists) kinds s in
    let same : middle ≡ list_of_set (g.L.Lists.listed c.args.lists.now) kinds s = ap (λ ls. list_of_set ls kinds s) c.in_ok-found.ensures.list in
    let items = c.as_slice.ensures.value ∙ c.in_ok-found.ensures.found (list_over kinds s (entered s db)) (manual_kept s c.requires.kind (g.L.Lists.listed c.args.lists.now) kinds ∙ is) in
    g.met.L.Lists.below_then e p 0 _ _ _ c.in_ok-found.ensures.calm
    (h db st
    (subst (λ (xs : List (List ℕ)). MovedSome kinds s db c.args.number c.args.old.now c.args.new.now xs middle) (sym items) (some_start kinds s db c.args.number c.args.old.now c.args.new.now c.requires.kind c.requires.small st middle (same ∙ is)))))
    c.move_each.ensures.below
