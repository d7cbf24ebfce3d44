use Rattle.std.proofs.Common.{List, ap, ◌∙◌}
use Rattle.dms_desc.specs.Shape.{as_described}
use Rattle.dms_plain.specs.Linkers.{linkers_in}
use Rattle.dms_plain.specs.Rows.{entries_of}
use Rattle.dms_plain.specs.declared.rows.RecordRow.{RecordRow}
use Rattle.dms_plain.proofs.Calls.{linkers_rows}
use Rattle.dms_plain.proofs.store.PlainStoreStore.linkers.Goals as goal

pub returns-clause-found : goal.returns-clause-found
returns-clause-found g c = λ has.
    let d = as_described c.args.self.now.desc in
    c.in_ok-linkers.ensures ∙ ap (λ (rows : List RecordRow). linkers_in d c.args.set c.args.number (entries_of rows)) c.as_slice.ensures.value
    ∙ linkers_rows d c.args.self.now.rows.items c.args.self.now.manual.entries c.args.set c.args.number c.args.self.now.in_order
