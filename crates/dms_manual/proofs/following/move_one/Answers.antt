use Rattle.std.proofs.Common.{◌≡◌, ◌∙◌, Some, sym, ap, subst}
use Rattle.std.specs.Prelude.{IfOk}
use Rattle.dms_desc.specs.Shape.{shape_of}
use Rattle.dms_desc.specs.declared.record.Record.{Record}
use Rattle.dms_sets.specs.Changes.{ChangesSet, HasEntry}
use Rattle.dms_sets.specs.Sets.{owner_in}
use Rattle.dms_manual.specs.Following.{for_owner}
use Rattle.dms_manual.proofs.following.move_one.Goals as goal

pub change_one-requires-clause-old : goal.change_one-requires-clause-old
change_one-requires-clause-old g c = subst (λ (r : Record). HasEntry c.args.kinds.now (shape_of c.args.s.now) r.values) (sym c.in_ok-before.ensures) c.requires.old

pub change_one-requires-clause-new : goal.change_one-requires-clause-new
change_one-requires-clause-new g c = subst (λ (r : Record). HasEntry c.args.kinds.now (shape_of c.args.s.now) r.values) (sym c.in_ok-after.ensures) c.requires.new

pub returns-clause-changed : goal.returns-clause-changed
returns-clause-changed g c long =
    let kinds = c.args.kinds.now in
    let s = shape_of c.args.s.now in
    let owner : c.owner_in-owner.result ≡ owner_in c.args.entry.now = c.owner_in-owner.ensures long in
    let was : c.in_ok-before.before ≡ for_owner (owner_in c.args.entry.now) c.args.old.now = c.in_ok-before.ensures ∙ ap (λ o. for_owner o c.args.old.now) owner in
    let is : c.in_ok-after.after ≡ for_owner (owner_in c.args.entry.now) c.args.new.now = c.in_ok-after.ensures ∙ ap (λ o. for_owner o c.args.new.now) owner in
    subst (λ (r : Record). IfOk c.change_one.result (λ refused. ChangesSet kinds s c.args.number (Some (for_owner (owner_in c.args.entry.now) c.args.old.now)) (Some r) (g.L.Lists.listed c.args.lists.now) (g.L.Lists.listed c.change_one.new.lists) refused)) is
    (subst (λ (r : Record). IfOk c.change_one.result (λ refused. ChangesSet kinds s c.args.number (Some r) (Some c.in_ok-after.after) (g.L.Lists.listed c.args.lists.now) (g.L.Lists.listed c.change_one.new.lists) refused)) was c.change_one.ensures.changed)
