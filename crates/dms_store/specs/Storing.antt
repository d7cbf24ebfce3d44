-- What a store on blocks tells.
use Rattle.dms_block.specs.declared.blocks.Blocks.{Ghosts}
use Rattle.dms_desc.specs.Shape.{as_described}
use Rattle.dms_model.specs.Seen.{Seen}
use Rattle.dms_store.specs.declared.store.BlockStore.{BlockStore}
use Rattle.dms_store.specs.Lifted.{store_seen}

abbrev pub seen_by : {B : Type 0} {g : Ghosts B} → BlockStore B g → Seen
seen_by s = store_seen (as_described s.desc) s.found s.over
