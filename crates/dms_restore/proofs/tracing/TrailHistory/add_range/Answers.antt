use Rattle.dms_restore.proofs.Results.{four_ok}
use Rattle.dms_restore.proofs.Traced.{traced_range}
use Rattle.dms_restore.proofs.tracing.TrailHistory.add_range.Goals as goal

pub returns : goal.returns
returns c = four_ok c.push.result c.push.ensures.live c.push.ensures.others c.push.ensures.rows c.push.ensures.parts (λ live others rows parts files entries f b place bytes stands t.
    traced_range files entries c.args.range f b place bytes c.args.self.now c.push.new.self stands (record { live = live; removed = others.0; rows = rows; begun = others.3; read = parts.0; all = parts.1 }) others.1 others.2 t)
