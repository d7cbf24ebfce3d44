use Rattle.std.proofs.Common.{◌≡◌, ◌∙◌, ◌+◌, ◌++◌, [], ◌∷◌, ap, refl, List, ℕ, take, drop, length, arith}
use Rattle.dms_fields.specs.Fields.{lay_bytes}
use Rattle.dms_audrec.specs.Spelling.{spelling}
use Rattle.dms_audrec.specs.Seen.{entry_seen}
use Rattle.dms_audfile.specs.Gates.{blocks_from}
use Rattle.dms_audfile.specs.Unsealed.{block_with}
use Rattle.dms_audfile.proofs.Laying.{held, held_first, written_back}
use Rattle.dms_audfile.proofs.audit_end.AuditEnd.hold.Goals as goal

pub returns-else-from-length-gt4094-clause-held : goal.returns-else-from-length-gt4094-clause-held
returns-else-from-length-gt4094-clause-held c fits =
    let s = c.args.self.now in
    let put = c.put_entry-taken-else-from-length-gt4094 in
    let new = put.new.block in
    let deref = c.deref_mut-else-from-length-gt4094 in
    let size : length new ≡ s.block.len = omega (arith, put.auto.block, deref.ensures.len) in
    let bytes = spelling (entry_seen c.args.entry.now) in
    let back : List ℕ = take s.block.len (new ++ drop (length new) s.block.items) in (
      refl,
      ap (λ k. take (s.used + k) (drop 2 back)) put.ensures.taken
          ∙ ap (λ (l : List ℕ). take (s.used + length bytes) (drop 2 l)) (written_back s.block.len new s.block.items size ∙ put.ensures.written ∙ (λ i. lay_bytes (2 + c.from-at.ensures i) bytes (deref.ensures.value i)))
          ∙ held s.used bytes s.block.items (omega (arith, s.few, s.block_size, deref.ensures.len, ap length deref.ensures.value)),
    )

pub returns-then-from-length-gt4094-clause-begun : goal.returns-then-from-length-gt4094-clause-begun
returns-then-from-length-gt4094-clause-begun c over =
    let s = c.args.self.now in
    let group = c.fill_group.new.group in
    let first = c.deref_mut in
    let second = c.deref_mut-then-from-length-gt4094 in
    let third = c.deref_mut-then-from-length-gt4094-2 in
    let put = c.put_entry-taken in
    let new = put.new.block in
    let group_size : length group ≡ s.group.len = omega (arith, c.fill_group.auto.group, second.ensures.len) in
    let size : length new ≡ s.block.len = omega (arith, put.auto.block, third.ensures.len) in
    let bytes = spelling (entry_seen c.args.entry.now) in (
      ap (blocks_from (s.full + 1) 0) (written_back s.group.len group s.group.items group_size) ∙ c.fill_group.ensures
          ∙ (λ i. blocks_from s.full 0 (second.ensures.value i) ++ block_with (take s.used (drop 2 (first.ensures.value i))) ∷ []),
      (λ i. take (put.ensures.taken i) (drop 2 (written_back s.block.len new (take s.block.len (c.fill_group.new.block ++ drop (length c.fill_group.new.block) s.block.items)) size i)))
          ∙ ap (λ (l : List ℕ). take (length bytes) (drop 2 l)) put.ensures.written
          ∙ held_first bytes third.result.now (omega (arith, s.block_size, third.ensures.len)),
    )
