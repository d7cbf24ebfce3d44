use Rattle.std.proofs.Common.{◌∙◌, List, ℕ, ap, arith}
use Rattle.std.specs.Int.{w16, to_be_bytes}
use Rattle.dms_fields.specs.Fields.{lay_bytes}
use Rattle.dms_stream.proofs.Texts.{placed}
use Rattle.dms_stream.proofs.writing.put_place.Goals as goal

pub returns : goal.returns
returns c = c.put_u16.ensures ∙ ap (λ (t : List ℕ). lay_bytes 5 (to_be_bytes w16 c.args.block) t) c.put_u32.ensures ∙ placed c.args.bytes.now _ _ _ _ _ _ (omega (arith, c.requires))
