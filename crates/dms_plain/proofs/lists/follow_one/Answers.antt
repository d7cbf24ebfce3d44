use Rattle.std.proofs.Common.{◌≡◌, ◌∙◌, sym}
use Rattle.std.specs.FinMap.{get}
use Rattle.std.specs.Option.{option_copied}
use Rattle.dms_desc.specs.Kinds.{over}
use Rattle.dms_desc.specs.Shape.{shape_of}
use Rattle.dms_plain.specs.Listed.{IsListOf}
use Rattle.dms_plain.specs.Rows.{records_in, restore}
use Rattle.dms_plain.proofs.Following.{followed, on_ok, restored_other, unmoved}
use Rattle.dms_plain.proofs.lists.follow_one.Goals as goal

pub returns-then-over-set : goal.returns-then-over-set
returns-then-over-set c =
    let s = shape_of c.args.s.now in
    let records = records_in c.args.rows.now in
    let new = option_copied c.args.new in
    unmoved s c.args.members.now (get records) (get (restore (c.args.set, c.args.number) new records)) c.requires.listed
    (λ n. restored_other s c.args.set c.args.number n new records (λ e. c.if-over-set.true (c.over.ensures ∙ e)))

pub returns : goal.returns
returns c =
    let s = shape_of c.args.s.now in
    let new = option_copied c.args.new in
    let same : over s ≡ c.args.set = sym c.over.ensures ∙ c.if-over-set.false in
    on_ok c.change.result _ (IsListOf s c.change.new.members (get (restore (c.args.set, c.args.number) new (records_in c.args.rows.now))))
    (λ has. followed s c.args.members.now c.change.new.members c.args.rows.now c.args.set c.args.number (option_copied c.look.result) new c.requires.in_order same c.requires.listed c.change.ensures.rising c.look.ensures has)
    c.change.ensures.has
