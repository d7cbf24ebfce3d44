use Rattle.std.proofs.Common.{◌≡◌, ◌≤◌, ◌+◌, ◌-◌, ◌∙◌, ap, sym, arith, length, take, drop, false, List, ℕ, length-take}
use Rattle.dms_audfile.specs.Blocks.{entries_from}
use Rattle.dms_audfile.specs.Ends.{full_blocks, unsealed_bytes}
use Rattle.dms_audfile.specs.HeldImages.{holds_on}
use Rattle.dms_audfile.specs.declared.audit_end.AuditEnd.{AuditEnd}
use Rattle.dms_audfile.proofs.HeldImages.{in_blocks, waiting_full, waiting_last}
use Rattle.dms_audfile.proofs.audit_end.AuditEnd.holds_image.Goals as goal

few : (end : AuditEnd) → length (unsealed_bytes end) ≤ 4094
few end = omega (arith, end.few, length-take end.used (drop 2 end.block.items))

pub returns-then-group_holds : goal.returns-then-group_holds
returns-then-group_holds c =
    let end = c.args.self.now in
    sym (waiting_full c.args.file c.args.block (full_blocks end) (unsealed_bytes end) (few end)
    (sym (ap (in_blocks c.args.file c.args.block end.full 0) c.deref.ensures.value) ∙ sym c.group_holds.ensures ∙ c.if-group_holds.true))

pub returns : goal.returns
returns c =
    let end = c.args.self.now in
    let size : 2 + c.from-end.result - 2 ≡ end.used = omega (arith, c.from-end.ensures) in
    let is : take (2 + c.from-end.result - 2) (drop 2 c.deref-2.result.now) ≡ unsealed_bytes end = λ i. take (size i) (drop 2 (c.deref-2.ensures.value i)) in
    c.holds_in.ensures ∙ ap (λ (l : List ℕ). holds_on c.args.file c.args.block false (entries_from (length l) 2 l)) is
    ∙ sym (waiting_last c.args.file c.args.block (full_blocks end) (unsealed_bytes end) (few end)
    (sym (ap (in_blocks c.args.file c.args.block end.full 0) c.deref.ensures.value) ∙ sym c.group_holds.ensures ∙ c.if-group_holds.false))
