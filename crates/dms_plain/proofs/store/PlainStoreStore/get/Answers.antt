use Rattle.std.proofs.Common.{List, ap, sym, subst, ◌∙◌}
use Rattle.std.specs.Prelude.{IfSome}
use Rattle.std.specs.declared.option.Option.{Option}
use Rattle.std.specs.FinMap.{get}
use Rattle.dms_desc.specs.declared.record.Record.{Record}
use Rattle.dms_desc.specs.Shape.{as_described}
use Rattle.dms_model.specs.Fitting.{IsNumber, RecordFits}
use Rattle.dms_plain.specs.declared.rows.RecordRow.{RecordRow}
use Rattle.dms_plain.specs.Rows.{records_in}
use Rattle.dms_plain.proofs.Fits.{got_fits, got_numbered}
use Rattle.dms_plain.proofs.store.PlainStoreStore.get.Goals as goal

pub returns-clause-fits : goal.returns-clause-fits
returns-clause-fits g c =
    let d = as_described c.args.self.now.desc in
    let is = c.in_ok-get.ensures ∙ ap (λ (rows : List RecordRow). get (records_in rows) (c.args.set, c.args.number)) c.as_slice.ensures.value in
    subst (λ (o : Option Record). IfSome o (RecordFits d c.args.set)) (sym is) (got_fits d (records_in c.args.self.now.rows.items) c.args.set c.args.number c.args.self.now.fit.records)

pub returns-clause-number : goal.returns-clause-number
returns-clause-number g c =
    let d = as_described c.args.self.now.desc in
    let is = c.in_ok-get.ensures ∙ ap (λ (rows : List RecordRow). get (records_in rows) (c.args.set, c.args.number)) c.as_slice.ensures.value in
    subst (λ (o : Option Record). IfSome o (λ r. IsNumber d c.args.set c.args.number)) (sym is) (got_numbered d (records_in c.args.self.now.rows.items) c.args.set c.args.number c.args.self.now.fit.records)
