use Rattle.std.proofs.Common.{◌≡◌, ◌∙◌, ◌+◌, ◌*◌, ◌-◌, ◌≤◌, ℕ, Bool, List, [], ◌∷◌, Some, sym, ap, subst, drop, length, arith}
use Rattle.std.specs.Prelude.{◌==◌}
use Rattle.std.proofs.lemmas.List.{drop_all, drop_more}
use Rattle.dms_desc.specs.Shape.{shape_of}
use Rattle.dms_sets.proofs.Faults.{if_that}
use Rattle.dms_sets.proofs.Turns.{two_all, two_more}
use Rattle.dms_sets.specs.Changes.{OneChanged, list_of_set}
use Rattle.dms_sets.specs.Sets.{owner_in}
use Rattle.dms_manual.specs.Following.{for_owner}
use Rattle.dms_manual.specs.Followed.{MovedSome, long_entry, some_end, some_refused, some_step}
use Rattle.dms_manual.proofs.following.move_each.Goals as goal

pub move_one-requires-clause-usable : goal.move_one-requires-clause-usable
move_one-requires-clause-usable g c = c.loop-entry.invariant.0 _ c.requires.usable

pub returns-in_err-move_one-clause-fails : goal.returns-in_err-move_one-clause-fails
returns-in_err-move_one-clause-fails g c =
    let p : ℕ → Bool = λ m. m == c.args.s.now.number in
    let k = c.loop-entry.entry-index in
    let n = length c.args.found.now in
    let more : 2 * n - (2 * k + 2) + (2 * k + 2) ≡ 2 * n = omega (arith, c.loop-entry-test.true) in
    if_that _ _ _ c.from_residual.ensures.1
    (subst (λ m. g.L.Lists.fails c.in_err-move_one.field-0.0 m c.args.lists.now c.move_one.new.lists) more
    (g.met.L.Lists.fails_then _ p (2 * n - (2 * k + 2)) (2 * k + 2) _ _ _ (g.met.L.Lists.calm_none p (2 * n - (2 * k + 2)) c.args.lists.now)
    (g.met.L.Lists.fails_then _ p (2 * k) 2 _ _ _ c.loop-entry.invariant.1 c.in_err-move_one.ensures.fails)))

pub returns-in_err-move_one-clause-below : goal.returns-in_err-move_one-clause-below
returns-in_err-move_one-clause-below g c =
    let p : ℕ → Bool = λ m. m == c.args.s.now.number in
    if_that _ _ _ c.from_residual.ensures.1
    (λ db st given. g.met.L.Lists.below_then _ p (2 * c.loop-entry.entry-index) _ _ _ c.loop-entry.invariant.1 (c.in_err-move_one.ensures.below _ (c.loop-entry.invariant.3 db st given).list))

pub returns-then-branch-clause-moved : goal.returns-then-branch-clause-moved
returns-then-branch-clause-moved g c db st given =
    let s = shape_of c.args.s.now in
    let kinds = c.args.kinds.now in
    let found = c.args.found.now in
    let k = c.loop-entry.entry-index in
    let q = c.entry-item.result in
    let rest = drop (k + 1) found in
    let now = list_of_set (g.L.Lists.listed c.loop-entry.lists) kinds s in
    let next = list_of_set (g.L.Lists.listed c.move_one.new.lists) kinds s in
    let cut : drop k found ≡ q ∷ rest = drop_more found k q c.loop-entry-test.true ∙ ap (λ (x : List ℕ). x ∷ rest) (sym c.entry-item.is) in
    let so : MovedSome kinds s db c.args.number c.args.old.now c.args.new.now (q ∷ rest) now = subst (λ (xs : List (List ℕ)). MovedSome kinds s db c.args.number c.args.old.now c.args.new.now xs now) cut (c.loop-entry.invariant.3 db st given) in
    let long = long_entry kinds s db c.args.number c.args.old.now c.args.new.now c.requires.kind c.requires.small st q rest now next so in
    let is : c.as_slice.result.now ≡ q = c.as_slice.ensures in
    let one = subst (λ (x : List ℕ). (xs : List (List ℕ)) → now ≡ Some xs → OneChanged kinds s c.args.number (Some (for_owner (owner_in x) c.args.old.now)) (Some (for_owner (owner_in x) c.args.new.now)) xs next c.in_ok-move_one.field-0) is
    (c.in_ok-move_one.ensures.changed (subst (λ (x : List ℕ). 4 ≤ length x) (sym is) long)) in
    some_refused kinds s db c.args.number c.args.old.now c.args.new.now c.requires.kind c.requires.small st q rest now next so c.in_ok-move_one.field-0 one c.if-branch.true

pub returns-then-branch-clause-others : goal.returns-then-branch-clause-others
returns-then-branch-clause-others g c m f v off = c.in_ok-move_one.ensures.others m f v off ∙ c.loop-entry.invariant.2 m f v off

pub returns-then-branch-clause-usable : goal.returns-then-branch-clause-usable
returns-then-branch-clause-usable g c n u = c.in_ok-move_one.ensures.usable n (c.loop-entry.invariant.0 n u)

pub returns-then-branch-clause-calm : goal.returns-then-branch-clause-calm
returns-then-branch-clause-calm g c =
    let p : ℕ → Bool = λ m. m == c.args.s.now.number in
    let k = c.loop-entry.entry-index in
    let n = length c.args.found.now in
    let low : k + 1 ≤ n = omega (arith, c.loop-entry-test.true) in
    subst (λ m. g.L.Lists.calm p m c.args.lists.now c.move_one.new.lists) (two_all k n low)
    (g.met.L.Lists.calm_then p (2 * k + 2) (2 * n - (2 * k + 2)) _ _ _ (g.met.L.Lists.calm_then p (2 * k) 2 _ _ _ c.loop-entry.invariant.1 c.in_ok-move_one.ensures.calm) (g.met.L.Lists.calm_none p (2 * n - (2 * k + 2)) _))

pub loop-entry-preserved : goal.loop-entry-preserved
loop-entry-preserved g c =
    let p : ℕ → Bool = λ m. m == c.args.s.now.number in
    let s = shape_of c.args.s.now in
    let kinds = c.args.kinds.now in
    let found = c.args.found.now in
    let k = c.loop-entry.entry-index in
    let q = c.entry-item.result in
    let rest = drop (k + 1) found in
    let now = list_of_set (g.L.Lists.listed c.loop-entry.lists) kinds s in
    let next = list_of_set (g.L.Lists.listed c.move_one.new.lists) kinds s in (
      λ n u. c.in_ok-move_one.ensures.usable n (c.loop-entry.invariant.0 n u),
      subst (λ m. g.L.Lists.calm p m c.args.lists.now c.move_one.new.lists) (two_more k) (g.met.L.Lists.calm_then p (2 * k) 2 _ _ _ c.loop-entry.invariant.1 c.in_ok-move_one.ensures.calm),
      λ m f v off. c.in_ok-move_one.ensures.others m f v off ∙ c.loop-entry.invariant.2 m f v off,
      λ db st given.
          let cut : drop k found ≡ q ∷ rest = drop_more found k q c.loop-entry-test.true ∙ ap (λ (x : List ℕ). x ∷ rest) (sym c.entry-item.is) in
          let so : MovedSome kinds s db c.args.number c.args.old.now c.args.new.now (q ∷ rest) now = subst (λ (xs : List (List ℕ)). MovedSome kinds s db c.args.number c.args.old.now c.args.new.now xs now) cut (c.loop-entry.invariant.3 db st given) in
          let long = long_entry kinds s db c.args.number c.args.old.now c.args.new.now c.requires.kind c.requires.small st q rest now next so in
          let is : c.as_slice.result.now ≡ q = c.as_slice.ensures in
          let one = subst (λ (x : List ℕ). (xs : List (List ℕ)) → now ≡ Some xs → OneChanged kinds s c.args.number (Some (for_owner (owner_in x) c.args.old.now)) (Some (for_owner (owner_in x) c.args.new.now)) xs next c.in_ok-move_one.field-0) is
          (c.in_ok-move_one.ensures.changed (subst (λ (x : List ℕ). 4 ≤ length x) (sym is) long)) in
          some_step kinds s db c.args.number c.args.old.now c.args.new.now c.requires.kind c.requires.small st q rest now next so c.in_ok-move_one.field-0 one c.if-branch.false,
    )

pub returns-clause-moved : goal.returns-clause-moved
returns-clause-moved g c db st given =
    let s = shape_of c.args.s.now in
    let kinds = c.args.kinds.now in
    let now = list_of_set (g.L.Lists.listed c.loop-entry.lists) kinds s in
    let none : drop c.loop-entry.entry-index c.args.found.now ≡ [] = drop_all c.loop-entry.entry-index c.args.found.now (omega (arith, c.loop-entry-test.false)) in
    some_end kinds s db c.args.number c.args.old.now c.args.new.now c.requires.kind c.requires.small st now
    (subst (λ (xs : List (List ℕ)). MovedSome kinds s db c.args.number c.args.old.now c.args.new.now xs now) none (c.loop-entry.invariant.3 db st given))

pub returns-clause-calm : goal.returns-clause-calm
returns-clause-calm g c =
    let p : ℕ → Bool = λ m. m == c.args.s.now.number in
    let k = c.loop-entry.entry-index in
    let n = length c.args.found.now in
    let all : 2 * k + (2 * n - 2 * k) ≡ 2 * n = omega (arith, c.loop-entry.auto.entry-index-end) in
    subst (λ m. g.L.Lists.calm p m c.args.lists.now c.loop-entry.lists) all (g.met.L.Lists.calm_then p (2 * k) (2 * n - 2 * k) _ _ _ c.loop-entry.invariant.1 (g.met.L.Lists.calm_none p (2 * n - 2 * k) _))
