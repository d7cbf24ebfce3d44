use Rattle.std.proofs.Common.{◌∙◌, sym, ap, length}
use Rattle.dms_site.specs.Files.{Files}
use Rattle.dms_descfile.proofs.Found.{whole_read}
use Rattle.dms_descfile.proofs.reading.file_bytes.Goals as goal

pub returns-in-Ok-read-clause-read : goal.returns-in-Ok-read-clause-read
returns-in-Ok-read-clause-read g c tells =
    let same = ap (λ (l : Files). l 1) (c.in-Ok.ensures.files tells) in
    let read = c.in-Ok-read.ensures.bytes tells in
    whole_read _ c.deref_mut.result.now c.read.new.into c.in-Ok-from_elem.bytes.items c.in-Ok-from_elem.bytes.len c.in-Ok-read.field-0
    (c.in-Ok-from_elem.ensures.len ∙ c.in-Ok.ensures.length tells ∙ sym (ap length same)) c.deref_mut.ensures.len read.0 read.1 ∙ same
