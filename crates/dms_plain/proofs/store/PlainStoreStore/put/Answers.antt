use Rattle.std.proofs.Common.{sym, subst}
use Rattle.dms_desc.specs.Shape.{as_described}
use Rattle.dms_model.specs.Fitting.{PutFits}
use Rattle.dms_model.specs.FitLaws.{answer_fits}
use Rattle.dms_plain.specs.Rows.{db_of, records_in}
use Rattle.dms_plain.proofs.Fits.{kept_fit, put_fit}
use Rattle.dms_plain.proofs.store.PlainStoreStore.put.Goals as goal

pub returns-clause-fits : goal.returns-clause-fits
returns-clause-fits g c =
    let d = as_described c.args.self.now.desc in
    subst (PutFits d c.args.set) (sym c.in_ok-put.ensures.answer) (answer_fits d (db_of (records_in c.args.self.now.rows.items) c.args.self.now.manual.entries) c.args.set c.args.number c.args.rec.now c.requires.number)

pub invariant_of-self : goal.invariant_of-self
invariant_of-self g c =
    let d = as_described c.args.self.now.desc in
    let rows = c.args.self.now.rows.items in
    let new = c.put.new.rows.items in
    record {
      in_order = c.put.ensures.in_order;
      fit = kept_fit d rows new c.args.self.now.undo.items c.put.new.undo.items c.put.result c.args.self.now.fit
          (put_fit d rows new c.args.self.now.manual.entries c.args.set c.args.number c.args.rec.now c.put.result c.args.self.now.fit.records c.requires.fits c.requires.number c.put.ensures.answer c.put.ensures.db)
          c.put.ensures.mark c.put.ensures.err_rows c.put.ensures.err_undo;
      listed = c.put.ensures.listed;
    }
