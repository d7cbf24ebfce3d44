-- A look at the list of a set or subset by a bound.
use Rattle.std.specs.Prelude.{ℕ, List, IfOk}
use Rattle.std.specs.declared.result.Result.{Result}
use Rattle.dms_base.specs.declared.kind.ItemKind.{ItemKind}
use Rattle.dms_block.specs.declared.block_fault.BlockFault.{BlockFault}
use Rattle.dms_block.specs.declared.blocks.Blocks.{Ghosts}
use Rattle.dms_block.specs.declared.overlay.Overlay.{Overlay}
use Rattle.dms_desc.specs.Files.{file_of}
use Rattle.dms_desc.specs.declared.bound.Bound.{Bound}
use Rattle.dms_desc.specs.declared.structure.KeyPart.{KeyPart}
use Rattle.dms_lists.specs.Forms.{IfKept}
use Rattle.dms_lists.specs.declared.form.ListForm.{ListForm}
use Rattle.dms_sets.specs.Bounds.{BoundKeyFits}
use Rattle.dms_sets.specs.Padded.{BoundSmall, entry_width}

-- the key of a bound fits, and the number behind that of a bound is one of four bytes
abbrev pub MayLook : List ItemKind → List KeyPart → Bound → Type 0
MayLook kinds ps bound = BoundKeyFits kinds ps bound × BoundSmall kinds ps bound

-- where that may be looked for, the answer is this of the list of a structure's file
abbrev pub IfLooked : {B : Type 0} {g : Ghosts B} {T : Type 0} → ListForm → List ItemKind → List KeyPart → Bound → ℕ → Overlay B g → Result T BlockFault → (T → List (List ℕ) → Type 0) → Type 0
IfLooked form kinds ps bound n o result P = MayLook kinds ps bound → IfOk result (λ x. IfKept form o (file_of n) (entry_width kinds ps) (P x))
