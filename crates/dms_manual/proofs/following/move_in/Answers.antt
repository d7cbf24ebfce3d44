use Rattle.std.proofs.Common.{◌≡◌, ◌∙◌, sym, arith}
use Rattle.std.specs.Prelude.{◌==◌}
use Rattle.std.specs.Str.{bytes_eq}
use Rattle.std.proofs.lemmas.Bool.{and_parts}
use Rattle.std.proofs.lemmas.Slice.Eq.{bytes_eq-Decides}
use Rattle.dms_desc.specs.Keys.{key_of}
use Rattle.dms_desc.specs.Shape.{shape_of}
use Rattle.dms_key.specs.KeyBytes.{key_bytes}
use Rattle.dms_sets.proofs.Faults.{if_that}
use Rattle.dms_sets.specs.Changes.{list_of_set}
use Rattle.dms_manual.specs.Followed.{unmoved}
use Rattle.dms_manual.proofs.following.move_in.Goals as goal

pub returns-in_err-stays-clause-fails : goal.returns-in_err-stays-clause-fails
returns-in_err-stays-clause-fails g c = if_that _ _ _ c.from_residual.ensures.1 (record { count = 0; did = g.met.L.Lists.fails_memory 0 c.args.lists.now; low = λ xs is. omega arith })

pub returns-then-branch-clause-moved : goal.returns-then-branch-clause-moved
returns-then-branch-clause-moved g c db st is =
    let s = shape_of c.args.s.now in
    let kinds = c.args.kinds.now in
    let was = key_bytes kinds s.parts (key_of s.parts c.args.old.now.values) in
    let now = key_bytes kinds s.parts (key_of s.parts c.args.new.now.values) in
    let both = and_parts s.duplicates (bytes_eq was now) (sym c.in_ok-stays.ensures ∙ c.if-branch.true) in
    let same : now ≡ was = sym ((bytes_eq-Decides was now).0 both.1) in
    unmoved kinds s db c.args.number c.args.old.now c.args.new.now c.requires.kind c.requires.small st same (list_of_set (g.L.Lists.listed c.args.lists.now) kinds s) both.0 is

pub returns-then-branch-clause-calm : goal.returns-then-branch-clause-calm
returns-then-branch-clause-calm g c = record { count = 0; did = g.met.L.Lists.calm_none (λ m. m == c.args.s.now.number) 0 c.args.lists.now; low = λ xs is. omega arith }
