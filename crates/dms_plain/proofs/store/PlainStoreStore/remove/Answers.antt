use Rattle.dms_desc.specs.Shape.{as_described}
use Rattle.dms_plain.specs.Rows.{records_in}
use Rattle.dms_plain.proofs.Calls.{removes}
use Rattle.dms_plain.proofs.CorrectedFits.{removal_fit}
use Rattle.dms_plain.proofs.Fits.{kept_fit}
use Rattle.dms_plain.proofs.store.PlainStoreStore.remove.Goals as goal

pub invariant_of-self : goal.invariant_of-self
invariant_of-self g c =
    let d = as_described c.args.self.now.desc in
    let rows = c.args.self.now.rows.items in
    let new = c.remove.new.rows.items in
    record {
      in_order = c.remove.ensures.in_order;
      fit = kept_fit d rows new c.args.self.now.undo.items c.remove.new.undo.items c.remove.result c.args.self.now.fit
          (removal_fit d c.args.set c.args.number rows new c.remove.result c.args.self.now.fit.records c.remove.ensures.db)
          c.remove.ensures.mark c.remove.ensures.err_rows c.remove.ensures.err_undo;
      listed = c.remove.ensures.listed;
    }

pub returns-clause-removed : goal.returns-clause-removed
returns-clause-removed g c =
    removes (as_described c.args.self.now.desc) c.args.set c.args.number (records_in c.args.self.now.rows.items) (records_in c.remove.new.rows.items) c.args.self.now.manual.entries c.entries.result.now c.in_ok-remove.field-0
    c.entries.ensures c.in_ok-remove.ensures.answer c.in_ok-remove.ensures.db
