-- What a call leaves that counts a record at its owner.
use Rattle.std.specs.Prelude.{◌≡◌, ◌≢◌, ℕ, Bool, true, IsTrue, None}
use Rattle.dms_block.specs.View.{overlay_content, under}
use Rattle.dms_block.specs.declared.blocks.Blocks.{Ghosts}
use Rattle.dms_block.specs.declared.overlay.Overlay.{Overlay}
use Rattle.dms_desc.specs.Shape.{Described}
use Rattle.dms_links.specs.Stands.{Tally}
use Rattle.dms_model.specs.Db.{Db}
use Rattle.dms_spelling.specs.Stands.{StandsFiles}
use Rattle.dms_store.specs.PuttingOwners.{MayCount, tally_after}

-- of a data set that stands in this one, 0 for none
abbrev pub IfOwned : ℕ → Type 0 → Type 0
IfOwned set P = set ≢ 0 → P

-- Where the files stand for a database and these counts, the owner counts one more and they stand for that.
abbrev pub CountsOwner : {B : Type 0} {g : Ghosts B} → Described → ℕ → ℕ → Overlay B g → Overlay B g → Bool → Type 0
CountsOwner desc set owner a b done = (db : Db) (own : Tally) → IsTrue (under a).told → StandsFiles desc db own (overlay_content a) → IfOwned set (MayCount db own set owner)
    → (done ≡ true) × StandsFiles desc db (tally_after own set None owner) (overlay_content b)
