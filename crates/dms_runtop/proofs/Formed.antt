-- The parameters of a well-formed description.
use Rattle.std.proofs.Common.{ℕ, ◌<◌, ◌≤◌, arith}
use Rattle.dms_desc.specs.Shape.{Described}
use Rattle.dms_desc_bytes.specs.WellFormed.{IsWellFormed, has_parameters}
use Rattle.dms_run.proofs.Holding.{le_of}
use Rattle.dms_guard.specs.Both.{first_of, second_of}

-- at least 8 blocks in memory, and at most 9,999 audit files
pub frames_of : (d : Described) → IsWellFormed d → 0 < d.buffers
unfolding has_parameters
frames_of d w =
    let p = w.parameters in
    let buffers = second_of _ _ (first_of _ _ (first_of _ _ p)) in
    let low : 8 ≤ d.buffers = le_of 8 d.buffers (first_of _ _ buffers) in
    omega (arith, low)

pub files_of : (d : Described) → IsWellFormed d → d.files ≤ 9999
unfolding has_parameters
files_of d w = le_of d.files 9999 (second_of _ _ (second_of _ _ w.parameters))
