-- That a store on blocks is a store: it stays the same one, and what it tells hangs together.
use Rattle.dms_block.specs.declared.blocks.Blocks.{Ghosts}
use Rattle.dms_block.specs.Held.{BlocksAgree}
use Rattle.dms_block.specs.View.{under}
use Rattle.dms_desc.specs.Shape.{as_described}
use Rattle.dms_model.specs.Seen.{StoreAgrees}
use Rattle.dms_store.specs.declared.store.BlockStore.{BlockStore}
use Rattle.dms_store.specs.Lifted.{IsUsable}
use Rattle.dms_store.specs.LiftedLaws.{agrees_lifted}
use Rattle.dms_store.specs.Storing.{seen_by}

module _ {B : Type 0} {g : Ghosts B} where
  -- the same blocks, at another time
  abbrev pub same_store : BlockStore B g → BlockStore B g → Type 0
  same_store a b = g.same_blocks a.over.below b.over.below

  -- what a usable store tells hangs together where what its blocks tell does
  pub store_agrees : ((b : B) → (g.held b).sound → BlocksAgree (g.held b)) → (s : BlockStore B g) → (seen_by s).sound → StoreAgrees (seen_by s)
  store_agrees agrees s sound =
      agrees_lifted (as_described s.desc) (IsUsable (as_described s.desc) s.over) s.found (g.pace s.over.below) (under s.over) sound.serves.schema (agrees s.over.below sound.sound)
