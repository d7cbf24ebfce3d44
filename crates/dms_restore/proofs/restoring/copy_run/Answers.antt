use Rattle.std.proofs.Common.{◌≡◌, Option, Err, inl, inr, ◌∙◌, ◌+◌, ◌++◌, refl, sym, ap, subst, arith, length, ◌*◌}
use Rattle.dms_running.proofs.Rewriting.{rewritten_same, rewritten_on, steps_still, steps_more}
use Rattle.dms_site.specs.Files.{range}
use Rattle.dms_history.specs.Events.{BlockBytes}
use Rattle.dms_restore.specs.Table.{Kept, KeepsNone, told_at, laid_on, StandsAs, Holds, blocks_in}
use Rattle.dms_restore.proofs.Tables.{written_low, bytes_low, file_others, run_free, run_bytes, run_step, holds_none}
use Rattle.dms_restore.proofs.Results.{is_fault}
use Rattle.dms_restore.proofs.restoring.copy_run.Goals as goal

pub loop-number-init : goal.loop-number-init
loop-number-init g c = record {
  moments = λ keeps tells free. steps_still (Kept keeps) _;
  written = λ keeps tells free. rewritten_same (Kept keeps) _;
  done = λ start ts tells low one two holds. holds_none start ts _ holds;
  left = λ tells. steps_still KeepsNone _;
  others = λ tells h low. refl;
  said = refl;
  same = g.met.S.Site.same_again _;
  disk = refl;
  say_faults = refl;
}

pub returns-in-Err-clause-moments : goal.returns-in-Err-clause-moments
returns-in-Err-clause-moments g c keeps tells free = steps_more (Kept keeps) _ _ _ (c.loop-number.invariant.moments keeps tells free) (c.write_told.ensures.moments keeps tells (run_free (Kept keeps) c.args.run.now c.args.run.now.blocks c.loop-number.number c.loop-number-test.true free))

pub returns-in-Err-clause-written : goal.returns-in-Err-clause-written
returns-in-Err-clause-written g c keeps tells free = rewritten_on (Kept keeps) _ _ _ (c.loop-number.invariant.written keeps tells free) (c.write_told.ensures.written keeps tells (run_free (Kept keeps) c.args.run.now c.args.run.now.blocks c.loop-number.number c.loop-number-test.true free))

pub loop-number-preserved : goal.loop-number-preserved
loop-number-preserved g c =
    let inv = c.loop-number.invariant in
    record {
      moments = λ keeps tells free. steps_more (Kept keeps) _ _ _ (inv.moments keeps tells free) (c.write_told.ensures.moments keeps tells (run_free (Kept keeps) c.args.run.now c.args.run.now.blocks c.loop-number.number c.loop-number-test.true free));
      written = λ keeps tells free. rewritten_on (Kept keeps) _ _ _ (inv.written keeps tells free) (c.write_told.ensures.written keeps tells (run_free (Kept keeps) c.args.run.now c.args.run.now.blocks c.loop-number.number c.loop-number-test.true free));
      done = λ start ts tells low one two holds.
          run_step start ts c.args.run.now c.loop-number.number _ _ (inv.done start ts tells low one two holds) (c.write_told.ensures.torn tells)
          (written_low start _ _ (told_at c.args.run.now c.loop-number.number) c.requires.below (λ h upto. inv.others tells h upto ∙ low h upto)
          (subst (λ k. (o : Option BlockBytes) → StandsAs (g.S.Site.files c.loop-number.site) c.args.run.now.file (c.args.run.now.block + c.loop-number.number) o
          → StandsAs (g.S.Site.files c.write_told.new.site) c.args.run.now.file (c.args.run.now.block + c.loop-number.number) (laid_on (g.S.Site.files c.loop-number.site)
          (record { file = c.args.run.now.file; block = c.args.run.now.block + c.loop-number.number; place = 0; length = 1024; audit = c.args.run.now.dump; at = c.args.run.now.at + 1024 * k }) o)) c.from.ensures (c.in-Ok.ensures.done tells)));
      left = λ tells. steps_more KeepsNone _ _ _ (inv.left tells) (c.write_told.ensures.left tells);
      others = λ tells h low. file_others _ _ _ _ c.requires.structure (c.write_told.ensures.torn tells) h low ∙ inv.others tells h low;
      said = c.write_told.ensures.said ∙ inv.said;
      same = g.met.S.Site.same_then _ _ _ inv.same c.write_told.ensures.same_site;
      disk = c.in-Ok.ensures.disk.clean (λ e. subst (λ r. is_fault r) (sym e) tt) ∙ inv.disk;
      say_faults = c.write_told.ensures.say_faults ∙ inv.say_faults;
    }

pub returns-clause-done : goal.returns-clause-done
returns-clause-done g c start ts tells low one two holds =
    let all : c.loop-number.number ≡ c.args.run.now.blocks = omega (arith, c.loop-number-test.false, c.loop-number.far-number) in
    subst (λ k. Holds start (ts ++ blocks_in c.args.run.now k) (g.S.Site.files c.loop-number.site)) all (c.loop-number.invariant.done start ts tells low one two holds)

pub returns-in-Err-clause-only : goal.returns-in-Err-clause-only
returns-in-Err-clause-only g c start tells low whole =
    let inv = c.loop-number.invariant in
    elim c.in-Err.ensures.only [
      | inl disk ↦ disk
      | inr damaged ↦ absurd (omega (arith, c.in-Err.ensures.damaged (λ i. Err (damaged i)) tells, ap length (ap (λ k. range (c.args.run.now.at + 1024 * k) 1024 (g.S.Site.files c.loop-number.site c.args.run.now.dump)) c.from.ensures), ap length (bytes_low start _ (told_at c.args.run.now c.loop-number.number) c.requires.below (λ h upto. inv.others tells h upto ∙ low h upto)), run_bytes start c.args.run.now c.args.run.now.blocks c.loop-number.number c.loop-number-test.true whole))
    ]

pub returns-in-Err-clause-others : goal.returns-in-Err-clause-others
returns-in-Err-clause-others g c tells h low = file_others _ _ _ _ c.requires.structure (c.write_told.ensures.torn tells) h low ∙ c.loop-number.invariant.others tells h low

pub returns-in-Err-clause-left : goal.returns-in-Err-clause-left
returns-in-Err-clause-left g c tells = steps_more KeepsNone _ _ _ (c.loop-number.invariant.left tells) (c.write_told.ensures.left tells)
