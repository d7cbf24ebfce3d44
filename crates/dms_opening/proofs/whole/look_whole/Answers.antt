use Rattle.std.proofs.Common.{◌≡◌, ◌∙◌, sym, subst}
use Rattle.dms_site.specs.Files.{Files}
use Rattle.dms_opening.specs.Short.{NoneShort}
use Rattle.dms_opening.specs.Whole.{JudgesWhole, StaysRead}
use Rattle.dms_opening.proofs.Reading.{looked_still, reads_stay, stays_on, whole_refuses, no_full, judged_no_full}
use Rattle.dms_opening.proofs.whole.look_whole.Goals as goal

pub returns-in-Ok-judge_whole-clause-looked : goal.returns-in-Ok-judge_whole-clause-looked
returns-in-Ok-judge_whole-clause-looked g c = λ tells.
    let l = c.in-Ok.ensures in
    let r = c.judge_whole.ensures.reads in
    looked_still g.S.Site c.in-Ok.planned c.args.site c.judge_whole.new.site (l.files tells) (r.files_stay tells) r.moments (l.starts tells) (l.trail tells) (l.plans tells)

pub returns-in-Ok-judge_whole-clause-whole : goal.returns-in-Ok-judge_whole-clause-whole
returns-in-Ok-judge_whole-clause-whole g c = λ tells.
    let l = c.in-Ok.ensures in
    let p = c.in-Ok.planned in (
      record { total = p.log.end.total; first = p.log.first; trail = l.trail tells; plan = p.plan; plans = l.plans tells },
      subst (λ (x : Files). NoneShort x p.plan.counts.items p.plan.table) (l.files tells) (c.in-Ok-judge_whole.ensures.whole tells),
    )

pub returns-in-Ok-judge_whole-clause-stays : goal.returns-in-Ok-judge_whole-clause-stays
returns-in-Ok-judge_whole-clause-stays g c =
    let l = c.in-Ok.ensures in
    stays_on g.S.Site g.met.S.Site.same_then c.args.site c.in-Ok.planned.log.site c.judge_whole.new.site (record { files = l.files; moments = l.moments; said = l.said; say_faults = l.say_faults; same = l.same })
    (reads_stay g.S.Site c.in-Ok.planned.log.site c.judge_whole.new.site c.judge_whole.ensures.reads c.judge_whole.ensures.same_site)

pub returns-in-Err-judge_whole-clause-refused : goal.returns-in-Err-judge_whole-clause-refused
returns-in-Err-judge_whole-clause-refused g c = λ tells.
    let l = c.in-Ok.ensures in
    whole_refuses c.in-Ok.planned.log.end.total c.in-Ok.planned.log.first (g.S.Site.files c.args.site) c.in-Ok.planned.plan c.in-Err-judge_whole.refusal (l.trail tells) (l.plans tells)
    (subst (λ (x : Files). JudgesWhole x c.in-Ok.planned.plan c.in-Err-judge_whole.refusal) (l.files tells) (c.in-Err-judge_whole.ensures.refused tells))

pub returns-in-Err-judge_whole-clause-stays_then : goal.returns-in-Err-judge_whole-clause-stays_then
returns-in-Err-judge_whole-clause-stays_then g c =
    let l = c.in-Ok.ensures in
    stays_on g.S.Site g.met.S.Site.same_then c.args.site c.in-Ok.planned.log.site c.judge_whole.new.site (record { files = l.files; moments = l.moments; said = l.said; say_faults = l.say_faults; same = l.same })
    (reads_stay g.S.Site c.in-Ok.planned.log.site c.judge_whole.new.site c.judge_whole.ensures.reads c.judge_whole.ensures.same_site)

pub returns-in-Err-clause-room : goal.returns-in-Err-clause-room
returns-in-Err-clause-room g c = λ tells is. no_full c.in-Err.fault (c.in-Err.ensures.room tells) is

pub returns-in-Err-judge_whole-clause-room : goal.returns-in-Err-judge_whole-clause-room
returns-in-Err-judge_whole-clause-room g c = λ tells is. judged_no_full (g.S.Site.files c.in-Ok.planned.log.site) c.in-Ok.planned.plan c.in-Err-judge_whole.refusal (c.in-Err-judge_whole.ensures.refused tells) is
