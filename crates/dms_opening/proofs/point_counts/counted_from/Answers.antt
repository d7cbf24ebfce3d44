use Rattle.std.proofs.Common.{ℕ, drop, refl, sym, ◌∙◌, ap, arith}
use Rattle.dms_history.specs.Pick.{reached_count}
use Rattle.dms_restore.specs.LiveEntries.{events_at}
use Rattle.dms_opening.proofs.Counted.{from_control}
use Rattle.dms_opening.proofs.point_counts.counted_from.Goals as goal
use Rattle.dms_opening.proofs.point_counts.counted_from.Goals.{then-is_control, else-is_control}

pub loop-i-init : goal.loop-i-init
loop-i-init c = record { within = omega arith; counts = λ files f. refl }

pub loop-i-preserved : goal.loop-i-preserved
loop-i-preserved c =
    let old = c.loop-i.invariant in
    elim c.if-is_control.branch [
      | then-is_control w ↦ record {
        within = omega (arith, w.from-is);
        counts = λ files f. from_control files f c.loop-i.i c.args.live.now c.loop-i-test.true (sym (c.is_control.ensures files) ∙ w.if-is_control.true)
            ∙ ap (λ (k : ℕ). reached_count f 0 (events_at files (drop k c.args.live.now))) (sym w.from-is);
      }
      | else-is_control w ↦ record {
        within = omega (arith, w.from-is, old.within);
        counts = λ files f. old.counts files f ∙ ap (λ (k : ℕ). reached_count f 0 (events_at files (drop k c.args.live.now))) (sym w.from-is);
      }
    ]
