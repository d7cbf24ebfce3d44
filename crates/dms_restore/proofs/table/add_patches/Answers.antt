use Rattle.std.proofs.Common.{inl, inr, map, sym, subst}
use Rattle.dms_restore.specs.declared.live.PatchAt.{PatchAt}
use Rattle.dms_restore.specs.declared.told.Told.{Told}
use Rattle.dms_restore.specs.Named.{patch_of, IsOneOf}
use Rattle.dms_restore.proofs.TableParts.{patch_one}
use Rattle.dms_restore.proofs.table.add_patches.Goals as goal

abbrev no_patch : PatchAt
no_patch = record { place = 0; length = 0; audit = 0; at = 0 }

pub returns-in-Err-clause-only : goal.returns-in-Err-clause-only
returns-in-Err-clause-only c =
    let ps = c.args.patches.now in
    elim c.in-Err.ensures.only [
      | inl memory ↦ inl memory
      | inr bad ↦ inr (
        c.patch_told.result,
        subst (λ (t : Told). IsOneOf t (map (patch_of c.args.file c.args.block) ps)) (sym c.patch_told.ensures) (patch_one c.args.file c.args.block ps c.loop-patch.patch-index no_patch c.loop-patch-test.true),
        bad,
      )
    ]
