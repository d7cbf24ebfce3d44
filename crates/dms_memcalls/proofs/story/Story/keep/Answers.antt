use Rattle.std.proofs.Common.{◌∙◌, ap, List, ◌∷◌, [], ◌++◌, vec_len, vec_capacity, arith}
use Rattle.dms_memcalls.specs.declared.event.CallEvent.{CallEvent}
use Rattle.dms_memcalls.proofs.Grown.{alike_kept, surely_pushed}
use Rattle.dms_memcalls.proofs.story.Story.keep.Goals as goal

pub invariant_of-self-2 : goal.invariant_of-self-2
invariant_of-self-2 c =
    let events = c.args.self.now.events.items in
    let room = c.reserve.new.self in
    let more = surely_pushed c.push.result (vec_capacity room) (vec_len room) _ _ c.push.new.self.items c.push.ensures.full (omega (arith, c.in_ok-reserve.ensures.ok)) c.push.ensures.items in
    record { alike = alike_kept events c.push.new.self.items c.args.event _ _ c.args.self.now.alike c.in_ok-apply.ensures.done (more ∙ ap (λ (l : List CallEvent). l ++ c.args.event ∷ []) c.in_ok-reserve.ensures.items) }
