use Rattle.std.proofs.Common.{ℕ, List, ◌+◌, ◌∙◌, ap, arith}
use Rattle.std.specs.declared.result.Result.TheVariants.{Err}
use Rattle.dms_audrec.specs.Spelling.{pair_bytes, count_file, count_blocks}
use Rattle.dms_restore.specs.Counts.{file_counts}
use Rattle.dms_restore.specs.GrowLaws.{log_grows_more, log_grows_none}
use Rattle.dms_restore.specs.Views.{view_of}
use Rattle.dms_restore.proofs.CountBytes.{counts_entry, counts_few}
use Rattle.dms_wal.specs.AgreeLaws.{text}
use Rattle.dms_wal.specs.Database.{running_held, said_of, faults_of, uses_of, IsRunningUsable}
use Rattle.dms_wal.proofs.Causes.{full_seen}
use Rattle.dms_wal.proofs.Controlling.{count_table}
use Rattle.dms_wal.proofs.Grown.{control_few}
use Rattle.dms_wal.proofs.LevelSteps.{level_by, level_leaves, makes_level}
use Rattle.dms_wal.proofs.Synced.{kind_is}
use Rattle.dms_wal.proofs.running.Running.seal_level.Goals as goal

pub returns-then-number-clause-grown : goal.returns-then-number-clause-grown
returns-then-number-clause-grown g c = λ tells. log_grows_more 0 18 (view_of g.S.Site c.args.self.now.log) (view_of g.S.Site c.args.self.now.log) (omega arith) (log_grows_none (view_of g.S.Site c.args.self.now.log))

pub level-requires-clause-control : goal.level-requires-clause-control
level-requires-clause-control g c = counts_entry c.args.self.now.counts.items (count_table _ c.requires.sound.table) _ (c.count_bytes-used.ensures.bytes ∙ ap (λ (l : List ℕ). pair_bytes count_file count_blocks (file_counts 30001 l)) c.deref.ensures.value) c.args.self.now.next (c.args.self.now.next + 1) (omega arith) (omega (arith, c.if-number.false))

pub level-requires-clause-by : goal.level-requires-clause-by
level-requires-clause-by g c tells =
    let u = c.requires.sound in
    level_by (view_of g.S.Site c.args.self.now.log) c.args.self.now.pool c.args.self.now.next c.args.self.now.counts.items u.table (u.goes tells) (c.requires.settled tells) _ (c.count_bytes-used.ensures.bytes ∙ ap (λ (l : List ℕ). pair_bytes count_file count_blocks (file_counts 30001 l)) c.deref.ensures.value)

pub returns-in-Ok-clause-level : goal.returns-in-Ok-clause-level
returns-in-Ok-clause-level g c tells =
    let u = c.requires.sound in
    makes_level (view_of g.S.Site c.args.self.now.log) (view_of g.S.Site c.level.new.self) c.args.self.now.pool c.args.self.now.next c.args.self.now.counts.items c.args.schema.now u.table (u.goes tells) (c.requires.settled tells) _ (c.count_bytes-used.ensures.bytes ∙ ap (λ (l : List ℕ). pair_bytes count_file count_blocks (file_counts 30001 l)) c.deref.ensures.value) (c.in-Ok.ensures.levelled tells)

pub returns-in-Ok-clause-leaves : goal.returns-in-Ok-clause-leaves
returns-in-Ok-clause-leaves g c =
    let r = c.args.self.now in
    let l = c.level.new.self in
    let u = c.requires.sound in
    level_leaves g.S.Site.tells (IsRunningUsable g.S.Site r) (IsRunningUsable g.S.Site r) (view_of g.S.Site r.log) (view_of g.S.Site l) r.schema.items r.next r.counts.items (said_of g.S.Site r.log) (said_of g.S.Site l) (faults_of g.S.Site r) (faults_of g.S.Site r) (uses_of g.S.Site r) (uses_of g.S.Site r)
    c.args.schema.now r.next r.counts.items (kind_is c.level.ensures.kind.0 c.level.ensures.kind.3) (λ t. (u.goes t).numbered) (text g.S.Site g.met.S.Site.now_said r.log) c.level.ensures.moments c.level.ensures.silent

pub returns-in-Ok-clause-grown : goal.returns-in-Ok-clause-grown
returns-in-Ok-clause-grown g c = λ tells. log_grows_more _ 18 (view_of g.S.Site c.args.self.now.log) (view_of g.S.Site c.level.new.self) (control_few _ _ c.requires.described.1) (c.level.ensures.grown tells)

pub returns-in-Err-clause-leaves : goal.returns-in-Err-clause-leaves
returns-in-Err-clause-leaves g c =
    let r = c.args.self.now in
    let l = c.level.new.self in
    let u = c.requires.sound in
    level_leaves g.S.Site.tells (IsRunningUsable g.S.Site r) (IsRunningUsable g.S.Site r) (view_of g.S.Site r.log) (view_of g.S.Site l) r.schema.items r.next r.counts.items (said_of g.S.Site r.log) (said_of g.S.Site l) (faults_of g.S.Site r) (faults_of g.S.Site r) (uses_of g.S.Site r) (uses_of g.S.Site r)
    c.args.schema.now r.next r.counts.items (kind_is c.level.ensures.kind.0 c.level.ensures.kind.3) (λ t. (u.goes t).numbered) (text g.S.Site g.met.S.Site.now_said r.log) c.level.ensures.moments c.level.ensures.silent

pub returns-in-Err-clause-ends : goal.returns-in-Err-clause-ends
returns-in-Err-clause-ends g c n is tells =
    let seen = full_seen c.in-Err.fault c.append_fault.result _ _ _ n c.in-Err.ensures.only c.append_fault.ensures is in c.in-Err.ensures.ends (λ i. Err (seen.1 i)) tells

pub returns-in-Err-clause-grown : goal.returns-in-Err-clause-grown
returns-in-Err-clause-grown g c = λ tells. log_grows_more _ 18 (view_of g.S.Site c.args.self.now.log) (view_of g.S.Site c.level.new.self) (control_few _ _ c.requires.described.1) (c.level.ensures.grown tells)
