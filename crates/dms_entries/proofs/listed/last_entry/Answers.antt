use Rattle.std.proofs.Common.{◌≡◌, ◌∙◌, ℕ, List, IfOk, Option, Some, ap, length, subst, sym}
use Rattle.dms_desc.specs.declared.structure.KeyPart.{KeyPart}
use Rattle.dms_chain.specs.Lists.{last_to}
use Rattle.dms_desc.specs.Shape.{shape_of}
use Rattle.dms_lists.specs.declared.form.ListForm.{ListForm}
use Rattle.dms_lists.specs.Forms.{IfKept, form_of}
use Rattle.dms_sets.specs.Padded.{entry_width, to_bytes}
use Rattle.dms_desc.specs.Files.{file_of}
use Rattle.dms_entries.proofs.Looking.{to_long}
use Rattle.dms_entries.proofs.listed.last_entry.Goals as goal

pub returns-in-Some-clause-found : goal.returns-in-Some-clause-found
returns-in-Some-clause-found g c may =
    let kinds = c.args.kinds.now in
    let bound = c.args.to.now in
    let o = c.args.over.now in
    let r = c.last_below.result in
    let is : c.as_slice-parts.result.now ≡ c.args.s.now.parts = c.as_slice-parts.ensures in
    let bytes : to_bytes kinds c.args.s.now.parts c.args.owner bound ≡ Some c.in-Some.bytes = ap (λ (ps : List KeyPart). to_bytes kinds ps c.args.owner bound) (sym is) ∙ sym c.in_ok-to_bytes.ensures ∙ c.in-Some.is in
    let width : c.entry_width-width.result ≡ entry_width kinds c.args.s.now.parts = c.entry_width-width.ensures ∙ ap (λ (ps : List KeyPart). entry_width kinds ps) is in
    let long = to_long kinds c.args.s.now.parts c.args.owner bound c.in-Some.bytes may bytes in
    let given = c.last_below.ensures.found (ap (λ (q : List ℕ). length q) c.as_slice.ensures ∙ long ∙ sym width) in
    let s = shape_of c.args.s.now in
    let zero = subst (λ (k : ListForm). IfOk r (λ x. IfKept k o c.file_of.result c.entry_width-width.result (λ xs. x ≡ last_to (Some c.as_slice.result.now) xs))) c.form_of.ensures given in
    let one = subst (λ (f : ℕ). IfOk r (λ x. IfKept (form_of s) o f c.entry_width-width.result (λ xs. x ≡ last_to (Some c.as_slice.result.now) xs))) c.file_of.ensures zero in
    let two = subst (λ (w : ℕ). IfOk r (λ x. IfKept (form_of s) o (file_of c.args.s.now.number) w (λ xs. x ≡ last_to (Some c.as_slice.result.now) xs))) width one in
    subst (λ (q : Option (List ℕ)). IfOk r (λ x. IfKept (form_of s) o (file_of c.args.s.now.number) (entry_width kinds c.args.s.now.parts) (λ xs. x ≡ last_to q xs))) (ap (λ (q : List ℕ). Some q) c.as_slice.ensures ∙ sym bytes) two
