use Rattle.std.proofs.Common.{◌∙◌, refl, sym, subst, arith}
use Rattle.dms_running.proofs.Rewriting.{rewritten_same, rewritten_on, steps_still, steps_more}
use Rattle.dms_restore.specs.Table.{Kept, KeepsNone}
use Rattle.dms_restore.proofs.Tables.{is_run_at, runs_free_at, runs_whole_at, runs_whole_to, runs_more, runs_all}
use Rattle.dms_restore.proofs.Results.{is_fault}
use Rattle.dms_restore.proofs.restoring.copy_runs.Goals as goal

pub copy_run-requires-clause-structure : goal.copy_run-requires-clause-structure
copy_run-requires-clause-structure g c = (is_run_at c.args.runs.now c.loop-run.run-index (record { file = 0; block = 0; blocks = 0; dump = 0; at = 0 }) c.requires.runs c.loop-run-test.true).0

pub copy_run-requires-clause-blocks : goal.copy_run-requires-clause-blocks
copy_run-requires-clause-blocks g c = (is_run_at c.args.runs.now c.loop-run.run-index (record { file = 0; block = 0; blocks = 0; dump = 0; at = 0 }) c.requires.runs c.loop-run-test.true).1

pub copy_run-requires-clause-below : goal.copy_run-requires-clause-below
copy_run-requires-clause-below g c = (is_run_at c.args.runs.now c.loop-run.run-index (record { file = 0; block = 0; blocks = 0; dump = 0; at = 0 }) c.requires.runs c.loop-run-test.true).2

pub copy_run-requires-clause-place : goal.copy_run-requires-clause-place
copy_run-requires-clause-place g c = (is_run_at c.args.runs.now c.loop-run.run-index (record { file = 0; block = 0; blocks = 0; dump = 0; at = 0 }) c.requires.runs c.loop-run-test.true).3

pub loop-run-init : goal.loop-run-init
loop-run-init g c = record {
  moments = λ keeps tells free. steps_still (Kept keeps) _;
  written = λ keeps tells free. rewritten_same (Kept keeps) _;
  done = λ tells whole f b x is. absurd cc;
  left = λ tells. steps_still KeepsNone _;
  others = λ tells h low. refl;
  said = refl;
  same = g.met.S.Site.same_again _;
  disk = refl;
  say_faults = refl;
}

pub returns-in-Err-clause-moments : goal.returns-in-Err-clause-moments
returns-in-Err-clause-moments g c keeps tells free = steps_more (Kept keeps) _ _ _ (c.loop-run.invariant.moments keeps tells free) (c.copy_run.ensures.moments keeps tells (runs_free_at (Kept keeps) c.args.runs.now c.loop-run.run-index (record { file = 0; block = 0; blocks = 0; dump = 0; at = 0 }) free c.loop-run-test.true))

pub returns-in-Err-clause-written : goal.returns-in-Err-clause-written
returns-in-Err-clause-written g c keeps tells free = rewritten_on (Kept keeps) _ _ _ (c.loop-run.invariant.written keeps tells free) (c.copy_run.ensures.written keeps tells (runs_free_at (Kept keeps) c.args.runs.now c.loop-run.run-index (record { file = 0; block = 0; blocks = 0; dump = 0; at = 0 }) free c.loop-run-test.true))

pub loop-run-preserved : goal.loop-run-preserved
loop-run-preserved g c =
    let inv = c.loop-run.invariant in
    record {
      moments = λ keeps tells free. steps_more (Kept keeps) _ _ _ (inv.moments keeps tells free) (c.copy_run.ensures.moments keeps tells (runs_free_at (Kept keeps) c.args.runs.now c.loop-run.run-index (record { file = 0; block = 0; blocks = 0; dump = 0; at = 0 }) free c.loop-run-test.true));
      written = λ keeps tells free. rewritten_on (Kept keeps) _ _ _ (inv.written keeps tells free) (c.copy_run.ensures.written keeps tells (runs_free_at (Kept keeps) c.args.runs.now c.loop-run.run-index (record { file = 0; block = 0; blocks = 0; dump = 0; at = 0 }) free c.loop-run-test.true));
      done = λ tells whole. runs_more _ c.args.runs.now c.loop-run.run-index (record { file = 0; block = 0; blocks = 0; dump = 0; at = 0 }) _ c.loop-run-test.true (c.in-Ok.ensures.done _ _ tells (inv.others tells) (runs_whole_to _ c.args.runs.now c.loop-run.run-index whole) (runs_whole_at _ c.args.runs.now c.loop-run.run-index (record { file = 0; block = 0; blocks = 0; dump = 0; at = 0 }) whole c.loop-run-test.true) (inv.done tells whole));
      left = λ tells. steps_more KeepsNone _ _ _ (inv.left tells) (c.copy_run.ensures.left tells);
      others = λ tells h low. c.copy_run.ensures.others tells h low ∙ inv.others tells h low;
      said = c.copy_run.ensures.said ∙ inv.said;
      same = g.met.S.Site.same_then _ _ _ inv.same c.copy_run.ensures.same_site;
      disk = c.in-Ok.ensures.disk.clean (λ e. subst (λ r. is_fault r) (sym e) tt) ∙ inv.disk;
      say_faults = c.copy_run.ensures.say_faults ∙ inv.say_faults;
    }

pub returns-clause-done : goal.returns-clause-done
returns-clause-done g c tells whole = runs_all _ c.args.runs.now c.loop-run.run-index _ (omega (arith, c.loop-run-test.false)) (c.loop-run.invariant.done tells whole)

pub returns-in-Err-clause-only : goal.returns-in-Err-clause-only
returns-in-Err-clause-only g c tells whole = c.in-Err.ensures.only _ tells (c.loop-run.invariant.others tells) (runs_whole_at _ c.args.runs.now c.loop-run.run-index (record { file = 0; block = 0; blocks = 0; dump = 0; at = 0 }) whole c.loop-run-test.true)

pub returns-in-Err-clause-others : goal.returns-in-Err-clause-others
returns-in-Err-clause-others g c tells h low = c.copy_run.ensures.others tells h low ∙ c.loop-run.invariant.others tells h low

pub returns-in-Err-clause-left : goal.returns-in-Err-clause-left
returns-in-Err-clause-left g c tells = steps_more KeepsNone _ _ _ (c.loop-run.invariant.left tells) (c.copy_run.ensures.left tells)
