use Rattle.std.proofs.Common.{◌≡◌, sym, subst, IfOk}
use Rattle.std.specs.declared.option.Option.{Option}
use Rattle.dms_desc.specs.declared.record.Record.{Record}
use Rattle.dms_plain.proofs.Maps.{db_get}
use Rattle.dms_plain.proofs.state.get.Goals as goal

pub returns : goal.returns
returns c = subst (λ (o : Option Record). IfOk c.get.result (λ r. r ≡ o)) (sym (db_get c.args.rows.now (c.args.set, c.args.number) c.requires)) c.get.ensures
