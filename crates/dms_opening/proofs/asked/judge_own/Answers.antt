use Rattle.std.proofs.Common.{◌∙◌, sym, ap}
use Rattle.dms_restore.specs.LiveEntries.{changes_at}
use Rattle.dms_opening.specs.declared.asked.Asked.{Asked}
use Rattle.dms_opening.specs.Asked.{or_next, judge_dump, judge_own}
use Rattle.dms_opening.proofs.asked.judge_own.Goals as goal

pub returns-in-HaltLoad : goal.returns-in-HaltLoad
returns-in-HaltLoad c files = c.judge_last_point.ensures files ∙ ap (λ (a : Asked). judge_own c.args.first (changes_at files c.args.live.now) c.args.next c.args.last a c.args.look) (sym c.in-HaltLoad.is)

pub returns-in-Rollback : goal.returns-in-Rollback
returns-in-Rollback c files = c.refuse_point.ensures files ∙ ap (λ (a : Asked). judge_own c.args.first (changes_at files c.args.live.now) c.args.next c.args.last a c.args.look) (sym c.in-Rollback.is)

pub returns-in-Rebuild : goal.returns-in-Rebuild
returns-in-Rebuild c files =
    c.or_next.ensures ∙ (λ i. or_next (c.refuse_point-in-Rebuild.ensures files i) (c.judge_dump.ensures files i))
    ∙ ap (λ (a : Asked). judge_own c.args.first (changes_at files c.args.live.now) c.args.next c.args.last a c.args.look) (sym c.in-Rebuild.is)

pub returns-in-Reconstruct : goal.returns-in-Reconstruct
returns-in-Reconstruct c files =
    c.or_next-in-Reconstruct.ensures
    ∙ (λ i. or_next (c.judge_last_point-in-Reconstruct.ensures files i) ((c.judge_dump-in-Reconstruct.ensures files ∙ ap (λ m. judge_dump c.args.first (changes_at files c.args.live.now) c.args.next c.in-Reconstruct.dump c.args.look m) c.number_or.ensures) i))
    ∙ ap (λ (a : Asked). judge_own c.args.first (changes_at files c.args.live.now) c.args.next c.args.last a c.args.look) (sym c.in-Reconstruct.is)
