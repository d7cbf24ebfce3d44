use Rattle.std.proofs.Common.{List, ap, sym, subst, ◌∙◌}
use Rattle.std.specs.Prelude.{IfSome}
use Rattle.std.specs.declared.option.Option.{Option}
use Rattle.dms_desc.specs.Shape.{as_described}
use Rattle.dms_model.specs.declared.spot.Spot.{Spot}
use Rattle.dms_model.specs.Fitting.{SpotFits}
use Rattle.dms_model.specs.Founds.{last_fits}
use Rattle.dms_model.specs.Members.{last_member}
use Rattle.dms_plain.specs.declared.rows.RecordRow.{RecordRow}
use Rattle.dms_plain.specs.Rows.{db_of, records_in}
use Rattle.dms_plain.proofs.store.PlainStoreStore.last_to.Goals as goal

pub returns-clause-fits : goal.returns-clause-fits
returns-clause-fits g c =
    let d = as_described c.args.self.now.desc in
    let is = c.in_ok-last_member.ensures ∙ ap (λ (rows : List RecordRow). last_member d (db_of (records_in rows) c.args.self.now.manual.entries) c.args.path c.args.owner c.args.to.now) c.as_slice.ensures.value in
    subst (λ (o : Option Spot). IfSome o (SpotFits d c.args.path)) (sym is) (last_fits d (db_of (records_in c.args.self.now.rows.items) c.args.self.now.manual.entries) c.args.path c.args.owner c.args.self.now.fit.records c.args.to.now)
