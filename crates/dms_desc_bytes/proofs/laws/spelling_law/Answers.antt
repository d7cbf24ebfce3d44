use Rattle.std.proofs.Common.{ℕ, ap, sym, ◌∙◌, List, refl}
use Rattle.dms_desc.specs.Shape.{Described}
use Rattle.dms_desc_bytes.specs.Reading.{ReadBytes, description_at}
use Rattle.dms_desc_bytes.specs.Spelling.{spelling}
use Rattle.dms_desc_bytes.proofs.DescriptionLaws.{description_again, only_read}
use Rattle.dms_desc_bytes.proofs.laws.spelling_law.Goals as goal

pub returns : goal.returns
returns c = λ d e good other same. only_read (spelling e) d e (sym (ap (λ (r : ReadBytes Described). r.0) (description_again d good)) ∙ ap (λ (bytes : List ℕ). (description_at bytes).0) same) other refl
