use Rattle.std.proofs.Common.{◌≡◌, List, subst, arith}
use Rattle.std.specs.List.{list_any}
use Rattle.dms_restore.specs.declared.told.Told.{Told}
use Rattle.dms_restore.specs.declared.run.Run.{Run}
use Rattle.dms_opening.specs.Short.{is_told, is_in_run, GoesOn}
use Rattle.dms_opening.proofs.Going.{written_on}
use Rattle.dms_opening.proofs.short.first_unwritten.Goals as goal

pub loop-round-preserved : goal.loop-round-preserved
loop-round-preserved c =
    let f = c.args.file in
    let one = subst (λ (l : List Told). GoesOn (λ b. list_any (λ (t : Told). is_told f b t) l) c.loop-round.next c.behind_told-told.result) c.deref.ensures.value c.behind_told-told.ensures in
    let two = subst (λ (l : List Run). GoesOn (λ b. list_any (λ (r : Run). is_in_run f b r) l) c.behind_told-told.result c.behind_runs-further.result) c.deref-in-loop-round.ensures.value c.behind_runs-further.ensures in
    let inv = c.loop-round.invariant in
    record {
      from = omega (arith, inv.from, one.from, two.from);
      far = omega (arith, inv.far, one.from, two.from, c.if-further-next.false);
      each = written_on c.args.table.now f c.args.from c.loop-round.next c.behind_told-told.result c.behind_runs-further.result inv.each one two;
    }
