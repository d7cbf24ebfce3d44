use Rattle.std.proofs.Common.{◌∙◌, sym, ap, subst}
use Rattle.dms_history.specs.Events.{How}
use Rattle.dms_restore.specs.declared.live.HowAt.{HowAt}
use Rattle.dms_restore.specs.LiveEntries.{changes_at}
use Rattle.dms_restore.specs.Tracing.{MatchesHow}
use Rattle.dms_opening.specs.Asked.{judge_restore}
use Rattle.dms_opening.proofs.asked.judge_restore.Goals as goal

pub returns-in-HaltLoad : goal.returns-in-HaltLoad
returns-in-HaltLoad c files rows h m =
    c.refuse_point.ensures files ∙ ap (λ (k : How). judge_restore c.args.first c.args.next k c.args.look (changes_at files c.args.before.now) c.args.point) (sym (subst (λ (k : HowAt). MatchesHow k rows h) c.in-HaltLoad.is m))

pub returns-in-BackOut : goal.returns-in-BackOut
returns-in-BackOut c files rows h m =
    c.refuse_point-in-BackOut.ensures files ∙ ap (λ (k : How). judge_restore c.args.first c.args.next k c.args.look (changes_at files c.args.before.now) c.args.point) (sym (subst (λ (k : HowAt). MatchesHow k rows h) c.in-BackOut.is m))

pub returns-in-Rollback : goal.returns-in-Rollback
returns-in-Rollback c files rows h m =
    c.refuse_point-in-Rollback.ensures files ∙ ap (λ (k : How). judge_restore c.args.first c.args.next k c.args.look (changes_at files c.args.before.now) c.args.point) (sym (subst (λ (k : HowAt). MatchesHow k rows h) c.in-Rollback.is m))

pub returns-in-Rebuild : goal.returns-in-Rebuild
returns-in-Rebuild c files rows h m =
    c.judge_by_dump.ensures files ∙ ap (λ (k : How). judge_restore c.args.first c.args.next k c.args.look (changes_at files c.args.before.now) c.args.point) (sym (subst (λ (k : HowAt). MatchesHow k rows h) c.in-Rebuild.is m))

pub returns-in-Reconstruct : goal.returns-in-Reconstruct
returns-in-Reconstruct c files rows h m =
    c.judge_by_dump-in-Reconstruct.ensures files ∙ ap (λ (k : How). judge_restore c.args.first c.args.next k c.args.look (changes_at files c.args.before.now) c.args.point) (sym (subst (λ (k : HowAt). MatchesHow k rows h) c.in-Reconstruct.is m))
