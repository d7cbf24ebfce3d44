use Rattle.std.proofs.Common.{ℕ, ◌+◌, ◌∙◌, ap, sym, List, [], ◌∷◌, ◌++◌, arith}
use Rattle.dms_sitemem.specs.declared.event.SiteEvent.{SiteEvent}
use Rattle.dms_sitemem.specs.Events.{is_call, calls_in}
use Rattle.dms_sitemem.proofs.Kept.{More, more_files, more_said, calls_push, calls_few, at_most_one}
use Rattle.dms_sitemem.proofs.journal.Journal.keep.Goals as goal

pub overflow_add-made : goal.overflow_add-made
overflow_add-made c =
    let events = c.args.self.now.events in
    omega (arith, c.args.self.now.made_same, calls_few events.items, c.calls.ensures, at_most_one (is_call c.args.event), events.ok.0, events.small)

pub invariant_of-self-2 : goal.invariant_of-self-2
invariant_of-self-2 c =
    let events = c.args.self.now.events.items in
    let event = c.args.event in
    let more : More events event c.push.new.self.items = c.in_ok-push.ensures.items ∙ ap (λ (l : List SiteEvent). l ++ event ∷ []) c.in_ok-reserve.ensures.items in
    record {
      files_same = more_files events _ event _ _ more c.args.self.now.files_same c.in_ok-apply.ensures.files;
      said_same = more_said events _ event _ _ more c.args.self.now.said_same c.in_ok-apply.ensures.said;
      made_same = ap (λ (n : ℕ). n + c.calls.result) c.args.self.now.made_same ∙ ap (λ (n : ℕ). calls_in events + n) c.calls.ensures ∙ sym (calls_push events event) ∙ sym (ap (λ (l : List SiteEvent). calls_in l) more);
    }
