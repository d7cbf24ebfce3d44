use Rattle.std.proofs.Common.{◌≡◌, ◌∙◌, ◌+◌, arith, ℕ, List, IfOk, Option, Some, ap, length, subst, sym}
use Rattle.dms_desc.specs.declared.structure.KeyPart.{KeyPart}
use Rattle.dms_chain.specs.Lists.{first_from}
use Rattle.dms_desc.specs.Shape.{shape_of}
use Rattle.dms_lists.specs.declared.form.ListForm.{ListForm}
use Rattle.dms_lists.specs.Forms.{IfKept, form_of}
use Rattle.dms_sets.specs.Padded.{BoundSmall, entry_width, from_bytes}
use Rattle.dms_desc.specs.Files.{file_of}
use Rattle.dms_tree.specs.Looks.{IfDigits, ReadsFew}
use Rattle.dms_entries.proofs.Looking.{from_long}
use Rattle.dms_entries.proofs.listed.first_entry.Goals as goal

pub returns-in-Some-clause-found : goal.returns-in-Some-clause-found
returns-in-Some-clause-found g c may =
    let kinds = c.args.kinds.now in
    let bound = c.args.from.now in
    let o = c.args.over.now in
    let r = c.first_not_below.result in
    let is : c.as_slice-parts.result.now ≡ c.args.s.now.parts = c.as_slice-parts.ensures in
    let small : BoundSmall kinds c.as_slice-parts.result.now bound = subst (λ (ps : List KeyPart). BoundSmall kinds ps bound) (sym is) may.1 in
    let bytes : from_bytes kinds c.args.s.now.parts c.args.owner bound ≡ Some c.in-Some.bytes = ap (λ (ps : List KeyPart). from_bytes kinds ps c.args.owner bound) (sym is) ∙ sym (c.in_ok-from_bytes.ensures small) ∙ c.in-Some.is in
    let width : c.entry_width-width.result ≡ entry_width kinds c.args.s.now.parts = c.entry_width-width.ensures ∙ ap (λ (ps : List KeyPart). entry_width kinds ps) is in
    let long = from_long kinds c.args.s.now.parts c.args.owner bound c.in-Some.bytes may bytes in
    let given = c.first_not_below.ensures.found (ap (λ (q : List ℕ). length q) c.as_slice.ensures ∙ long ∙ sym width) in
    let s = shape_of c.args.s.now in
    let zero = subst (λ (k : ListForm). IfOk r (λ x. IfKept k o c.file_of.result c.entry_width-width.result (λ xs. x ≡ first_from (Some c.as_slice.result.now) xs))) c.form_of.ensures given in
    let one = subst (λ (f : ℕ). IfOk r (λ x. IfKept (form_of s) o f c.entry_width-width.result (λ xs. x ≡ first_from (Some c.as_slice.result.now) xs))) c.file_of.ensures zero in
    let two = subst (λ (w : ℕ). IfOk r (λ x. IfKept (form_of s) o (file_of c.args.s.now.number) w (λ xs. x ≡ first_from (Some c.as_slice.result.now) xs))) width one in
    subst (λ (q : Option (List ℕ)). IfOk r (λ x. IfKept (form_of s) o (file_of c.args.s.now.number) (entry_width kinds c.args.s.now.parts) (λ xs. x ≡ first_from q xs))) (ap (λ (q : List ℕ). Some q) c.as_slice.ensures ∙ sym bytes) two

pub returns-in_err-from_bytes-clause-few : goal.returns-in_err-from_bytes-clause-few
returns-in_err-from_bytes-clause-few g c tree told xs is digits low = omega arith

pub returns-in-None-clause-few : goal.returns-in-None-clause-few
returns-in-None-clause-few g c tree told xs is digits low = omega arith

pub returns-in-Some-clause-few : goal.returns-in-Some-clause-few
returns-in-Some-clause-few g c tree =
    let kinds = c.args.kinds.now in
    let o = c.args.over.now in
    let o' = c.first_not_below.new.over in
    let s = shape_of c.args.s.now in
    let width : c.entry_width-width.result ≡ entry_width kinds c.args.s.now.parts = c.entry_width-width.ensures ∙ ap (λ (ps : List KeyPart). entry_width kinds ps) c.as_slice-parts.ensures in
    let given = c.first_not_below.ensures.few (c.form_of.ensures ∙ tree) in
    let zero = subst (λ (k : ListForm). IfKept k o c.file_of.result c.entry_width-width.result (λ xs. IfDigits xs (λ digits. ReadsFew (2 + digits) o o'))) c.form_of.ensures given in
    let one = subst (λ (f : ℕ). IfKept (form_of s) o f c.entry_width-width.result (λ xs. IfDigits xs (λ digits. ReadsFew (2 + digits) o o'))) c.file_of.ensures zero in
    subst (λ (w : ℕ). IfKept (form_of s) o (file_of c.args.s.now.number) w (λ xs. IfDigits xs (λ digits. ReadsFew (2 + digits) o o'))) width one
