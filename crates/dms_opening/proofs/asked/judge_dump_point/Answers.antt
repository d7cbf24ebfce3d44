use Rattle.std.proofs.Common.{◌∙◌, sym, ap}
use Rattle.dms_restore.specs.LiveEntries.{changes_at}
use Rattle.dms_opening.specs.declared.asked.DumpLook.{DumpLook}
use Rattle.dms_opening.specs.Asked.{Refused, is_later, or_next, judge_dump_point}
use Rattle.std.proofs.Common.{Option}
use Rattle.dms_opening.proofs.asked.judge_dump_point.Goals as goal

pub returns-in-Sealed : goal.returns-in-Sealed
returns-in-Sealed c files =
    c.or_next-in-Sealed.ensures ∙ (λ i. or_next (c.refuse_point.ensures files i) ((c.or_next.ensures ∙ (λ j. or_next (c.refuse_point-in-Sealed.ensures files j) ((c.refuse_later.ensures ∙ ap (λ n. is_later c.args.dump n c.args.chosen) c.max.ensures) j))) i))
    ∙ ap (λ (l : DumpLook). judge_dump_point (changes_at files c.args.live.now) c.args.next c.args.dump l c.args.chosen) (sym c.in-Sealed.is)
