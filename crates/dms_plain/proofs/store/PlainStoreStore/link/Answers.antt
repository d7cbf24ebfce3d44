use Rattle.dms_desc.specs.Shape.{as_described}
use Rattle.dms_plain.specs.Rows.{records_in}
use Rattle.dms_plain.proofs.Calls.{links}
use Rattle.dms_plain.proofs.CorrectedFits.{link_fit}
use Rattle.dms_plain.proofs.Fits.{kept_fit}
use Rattle.dms_plain.proofs.store.PlainStoreStore.link.Goals as goal

pub invariant_of-self : goal.invariant_of-self
invariant_of-self g c =
    let d = as_described c.args.self.now.desc in
    let rows = c.args.self.now.rows.items in
    let new = c.link.new.rows.items in
    record {
      in_order = c.link.ensures.in_order;
      fit = kept_fit d rows new c.args.self.now.undo.items c.link.new.undo.items c.link.result c.args.self.now.fit
          (link_fit d rows new c.args.set c.args.number c.args.item c.args.to c.link.result c.args.self.now.fit.records c.requires.item c.requires.to c.link.ensures.db)
          c.link.ensures.mark c.link.ensures.err_rows c.link.ensures.err_undo;
      listed = c.link.ensures.listed;
    }

pub returns-clause-linked : goal.returns-clause-linked
returns-clause-linked g c = λ has target.
    links (records_in c.args.self.now.rows.items) (records_in c.link.new.rows.items) c.args.self.now.manual.entries c.args.set c.args.number c.args.item c.args.to has c.in_ok-link.ensures.db
