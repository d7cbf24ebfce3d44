use Rattle.std.proofs.Common.{◌≡◌, take, map}
use Rattle.dms_desc.specs.Shape.{shape_of}
use Rattle.dasdl_compile.specs.Compile.{shape_in}
use Rattle.dasdl_compile.proofs.compiling.structures_of.Given as goal

-- the structures so far are those of the drafts so far
abbrev pub invariant-loop-draft : goal.invariant-loop-draft
invariant-loop-draft l = map shape_of l.made ≡ take l.draft-index (map shape_in l.drafts)
