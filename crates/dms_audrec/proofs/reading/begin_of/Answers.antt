use Rattle.std.proofs.Common.{sym, ◌∙◌, ap, Some}
use Rattle.dms_history.specs.Entries.{begin_restore}
use Rattle.dms_audrec.proofs.Begins.{begin_is}
use Rattle.dms_audrec.proofs.reading.begin_of.Goals as goal

pub returns-then-kind_fits : goal.returns-then-kind_fits
returns-then-kind_fits c =
    ap (λ k. Some (begin_restore c.in_ok-n.n k, c.in_ok-list.rest.now)) c.how_of.ensures
    ∙ begin_is _ _ _ _ _ _ _ _ _ _ _ c.in_ok-n.ensures c.in_ok-how.ensures c.in_ok-dump.ensures c.in_ok-rows.ensures c.in_ok-list.ensures (sym c.kind_fits.ensures ∙ c.if-kind_fits.true)
