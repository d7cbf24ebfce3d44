use Rattle.std.proofs.Common.{length, take, sym}
use Rattle.std.proofs.lemmas.Slice.Eq.{slice_eq-Decides}
use Rattle.dms_reorg.proofs.Same.{groups-Decides}
use Rattle.dms_reorg.proofs.comparing.begins_with_groups.Goals as goal

pub returns : goal.returns
returns c =
    let first = c.args.first.now in
    let decides = slice_eq-Decides (λ a b. groups-Decides a b) first (take (length first) c.args.groups.now) c.starts_with.result c.starts_with.ensures.value in
    (λ h. sym (decides.0 h), λ e. decides.1 (sym e))
