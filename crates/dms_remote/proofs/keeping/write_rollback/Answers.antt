use Rattle.std.proofs.Common.{ℕ, ◌≡◌, ◌∙◌, ap, sym, refl, List, length, arith}
use Rattle.std.specs.Int.{w16, to_be_bytes}
use Rattle.dms_fields.specs.Fields.{lay_bytes}
use Rattle.dms_history.specs.Entries.{begin_restore, by_roll_back}
use Rattle.dms_audrec.specs.Spelling.{spelling}
use Rattle.dms_audfile.specs.Unsealed.{block_with}
use Rattle.dms_audfile.proofs.Laying.{finished}
use Rattle.dms_remote.proofs.Kept.{laid_back}
use Rattle.dms_remote.proofs.keeping.write_rollback.Goals as goal

pub returns : goal.returns
returns c =
    let bytes = spelling (begin_restore c.args.point by_roll_back) in
    let n = c.lay_rollback-size.result in
    let old = c.lay_rollback-size.new.block in
    let two = to_be_bytes w16 n in
    let long : length old ≡ 4096 = omega (arith, c.lay_rollback-size.auto.block, c.requires) in
    c.put_u16.ensures ∙ ap (lay_bytes 0 two) c.clear.ensures
    ∙ finished n two old long (omega (arith, c.lay_rollback-size.ensures.size)) refl refl
    ∙ ap (λ (l : List ℕ). block_with l) (laid_back bytes c.args.block.now old n c.lay_rollback-size.ensures.laid (omega (arith, c.requires)) (sym c.lay_rollback-size.ensures.size))
