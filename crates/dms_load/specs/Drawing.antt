-- The state of the script, as its definition sees it.
use Rattle.dms_load.specs.declared.state.LoadState.{LoadState}
use Rattle.dms_load.specs.Script.{Drawing}

abbrev pub drawing_of : LoadState → Drawing
drawing_of s = record { opened = s.opened; x = s.x; phases = s.phases }
