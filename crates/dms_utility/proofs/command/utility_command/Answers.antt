use Rattle.std.proofs.Common.{◌≤◌, List, length, refl, subst, sym}
use Rattle.dms_audfile.specs.Counting.{not_counted}
use Rattle.dms_statements.specs.declared.statement.NamedRow.{NamedRow}
use Rattle.dms_statements.specs.declared.statement.Statement.TheVariants.{Dump, Rebuild, Rollback, Reconstruct}
use Rattle.dms_goback.specs.ReconstructDoes.{ReconstructDoes}
use Rattle.dms_utility.proofs.Does.{carried_does, dump_of_utility, no_fault, restore_of_utility, rows_of_utility, taken_no_input, text_no_disk, text_no_ok, text_no_say, unread_does}
use Rattle.dms_utility.proofs.command.utility_command.Goals as goal

-- ---- no statement

pub returns-in-Err-clause-does : goal.returns-in-Err-clause-does
returns-in-Err-clause-does g c = unread_does g.S.Site g.I.Source c.args.site.now c.args.source.now _ c.in-Err.status c.in-Err.ensures.only c.in-Err.ensures.bad

pub returns-in-Err-clause-end : goal.returns-in-Err-clause-end
returns-in-Err-clause-end g c = λ is. absurd (text_no_ok c.in-Err.status c.in-Err.ensures.only is)

pub returns-in-Err-clause-disk : goal.returns-in-Err-clause-disk
returns-in-Err-clause-disk g c = not_counted _ _ _ (text_no_disk c.in-Err.status c.in-Err.ensures.only) refl

pub returns-in-Err-clause-say : goal.returns-in-Err-clause-say
returns-in-Err-clause-say g c = not_counted _ _ _ (text_no_say c.in-Err.status c.in-Err.ensures.only) refl

-- ---- DUMP

pub returns-in-Ok-Dump-clause-does : goal.returns-in-Ok-Dump-clause-does
returns-in-Ok-Dump-clause-does g c =
    let e = c.dump_command.ensures in
    carried_does g.S.Site g.I.Source c.args.site.now c.args.source.now _ c.dump_command.result (Dump c.in-Ok-Dump.dump) (rw c.in-Ok-Dump.field-0-is at c.in-Ok-Dump.ensures.asks) c.dump_command.new.site (dump_of_utility c.dump_command.result e.does.statuses) e.taken
    e.does

pub dump_command-requires-clause-some : goal.dump_command-requires-clause-some
dump_command-requires-clause-some g c = (rw c.in-Ok-Dump.field-0-is at c.in-Ok-Dump.ensures.fit).0

pub dump_command-requires-clause-few : goal.dump_command-requires-clause-few
dump_command-requires-clause-few g c = (rw c.in-Ok-Dump.field-0-is at c.in-Ok-Dump.ensures.fit).1

pub returns-in-Ok-Dump-clause-input : goal.returns-in-Ok-Dump-clause-input
returns-in-Ok-Dump-clause-input g c = not_counted _ _ _ (taken_no_input c.dump_command.result c.dump_command.ensures.taken) (c.in-Ok-Dump.ensures.counted.clean (no_fault _ _))

-- ---- REBUILD

pub returns-in-Ok-Rebuild-clause-does : goal.returns-in-Ok-Rebuild-clause-does
returns-in-Ok-Rebuild-clause-does g c =
    let e = c.rebuild_command.ensures in
    carried_does g.S.Site g.I.Source c.args.site.now c.args.source.now _ c.rebuild_command.result (Rebuild c.in-Ok-Rebuild.dump c.in-Ok-Rebuild.point) (rw c.in-Ok-Rebuild.field-0-is at c.in-Ok-Rebuild.ensures.asks) c.rebuild_command.new.site
    (restore_of_utility c.rebuild_command.result e.does.statuses) e.taken e.does

pub rebuild_command-requires-clause-some : goal.rebuild_command-requires-clause-some
rebuild_command-requires-clause-some g c = (rw c.in-Ok-Rebuild.field-0-is at c.in-Ok-Rebuild.ensures.fit).0

pub rebuild_command-requires-clause-few : goal.rebuild_command-requires-clause-few
rebuild_command-requires-clause-few g c = (rw c.in-Ok-Rebuild.field-0-is at c.in-Ok-Rebuild.ensures.fit).1

pub returns-in-Ok-Rebuild-clause-input : goal.returns-in-Ok-Rebuild-clause-input
returns-in-Ok-Rebuild-clause-input g c = not_counted _ _ _ (taken_no_input c.rebuild_command.result c.rebuild_command.ensures.taken) (c.in-Ok-Rebuild.ensures.counted.clean (no_fault _ _))

-- ---- ROLLBACK

pub returns-in-Ok-Rollback-clause-does : goal.returns-in-Ok-Rollback-clause-does
returns-in-Ok-Rollback-clause-does g c =
    let e = c.rollback_command.ensures in
    carried_does g.S.Site g.I.Source c.args.site.now c.args.source.now _ c.rollback_command.result (Rollback c.in-Ok-Rollback.point) (rw c.in-Ok-Rollback.field-0-is at c.in-Ok-Rollback.ensures.asks) c.rollback_command.new.site
    (restore_of_utility c.rollback_command.result e.does.statuses) e.taken e.does

pub returns-in-Ok-Rollback-clause-input : goal.returns-in-Ok-Rollback-clause-input
returns-in-Ok-Rollback-clause-input g c = not_counted _ _ _ (taken_no_input c.rollback_command.result c.rollback_command.ensures.taken) (c.in-Ok-Rollback.ensures.counted.clean (no_fault _ _))

-- ---- RECONSTRUCT

pub returns-in-Ok-Reconstruct-clause-does : goal.returns-in-Ok-Reconstruct-clause-does
returns-in-Ok-Reconstruct-clause-does g c =
    let e = c.reconstruct_command.ensures in
    let d = c.in-Ok-Reconstruct.dump in
    carried_does g.S.Site g.I.Source c.args.site.now c.args.source.now _ c.reconstruct_command.result (Reconstruct d c.in-Ok-Reconstruct.rows) (rw c.in-Ok-Reconstruct.field-0-is at c.in-Ok-Reconstruct.ensures.asks) c.reconstruct_command.new.site
    (rows_of_utility c.reconstruct_command.result e.does.statuses) e.taken
    (subst (λ (r : List NamedRow). ReconstructDoes g.S.Site d r c.args.site.now c.reconstruct_command.new.site c.reconstruct_command.result) c.as_slice.ensures e.does)

pub reconstruct_command-requires-clause-some : goal.reconstruct_command-requires-clause-some
reconstruct_command-requires-clause-some g c = (rw c.in-Ok-Reconstruct.field-0-is at c.in-Ok-Reconstruct.ensures.fit).0.0

pub reconstruct_command-requires-clause-few : goal.reconstruct_command-requires-clause-few
reconstruct_command-requires-clause-few g c = (rw c.in-Ok-Reconstruct.field-0-is at c.in-Ok-Reconstruct.ensures.fit).0.1

pub reconstruct_command-requires-clause-hundred : goal.reconstruct_command-requires-clause-hundred
reconstruct_command-requires-clause-hundred g c = subst (λ (r : List NamedRow). length r ≤ 100) (sym c.as_slice.ensures) (rw c.in-Ok-Reconstruct.field-0-is at c.in-Ok-Reconstruct.ensures.fit).1

pub returns-in-Ok-Reconstruct-clause-input : goal.returns-in-Ok-Reconstruct-clause-input
returns-in-Ok-Reconstruct-clause-input g c = not_counted _ _ _ (taken_no_input c.reconstruct_command.result c.reconstruct_command.ensures.taken) (c.in-Ok-Reconstruct.ensures.counted.clean (no_fault _ _))
