use Rattle.std.proofs.Common.{inl, inr}
use Rattle.dms_statelaws.proofs.Statements.{reopens_stand}
use Rattle.dms_dumping.proofs.Dumped.{beside_alone, beside_on, dump_alone, dump_on, ends_on, grows_on, point_is, stands_on}
use Rattle.dms_dumping.proofs.Ended.{counted_from, of_preparing, of_ready, preparing_no_say, preparing_unmade, preparing_unread, ready_room, ready_unread, ready_unrefused, says_as, unmade_says}
use Rattle.dms_dumping.proofs.dumping.dump_over.Goals as goal

pub returns-in-Ok-clause-does : goal.returns-in-Ok-clause-does
returns-in-Ok-clause-does g c =
    let d = c.args.dump in
    let some = c.requires.some in
    let few = c.requires.few in
    let old = c.args.site in
    let o = c.in-Ok.ready.opened in
    let counts = c.in-Ok.ready.counts.items in
    let new = c.write_ready.result.site in
    let status = c.write_ready.result.status in
    let p = c.in-Ok.ensures in
    let w = c.write_ready.ensures in
    record {
      statuses = of_ready status w.statuses;
      refused = λ is. absurd (ready_unrefused status w.statuses is);
      opens = λ tells. inl (p.can tells);
      complete = λ tells total first openable shut is. ready_unrefused status w.statuses is;
      full = ready_room g.S.Site old new status w.statuses;
      trail = λ tells s is. grows_on g.S.Site d some few old o counts new (p.opens tells) (p.runs tells) (g.met.S.Site.may_stay o.log.site tells) s is tells (p.grows tells) (w.others tells) (w.moments tells);
      beside = beside_on g.S.Site d some few old o counts new p.beside w.others w.moments;
      says = record {
        point = o.point;
        line = λ tells. says_as status _ _ _ _ _ p.line p.said (w.says tells);
        is = λ made tells s is. point_is g.S.Site d some few old o counts new (p.opens tells) (p.runs tells) c.states_law.ensures s is;
      };
      every_moment = λ tells. stands_on g.S.Site d some few old o counts new (p.opens tells) (p.runs tells) (g.met.S.Site.may_stay o.log.site tells) (p.moments tells) (w.moments tells);
      dump = λ tells s is. dump_on g.S.Site d some few old o counts new (p.opens tells) (p.runs tells) (g.met.S.Site.may_stay o.log.site tells) (p.moments tells) w.head p.counts (g.met.S.Site.now_said o.log.site) p.said p.beside s is (w.moments tells);
      at_ok = λ made tells.
          ends_on g.S.Site d some few old o counts new (p.opens tells) (p.runs tells) (g.met.S.Site.may_stay o.log.site tells) (p.moments tells) w.head p.counts (w.written made tells) (w.others tells) (w.durable made tells);
    }

pub returns-in-Err-clause-does : goal.returns-in-Err-clause-does
returns-in-Err-clause-does g c =
    let d = c.args.dump in
    let some = c.requires.some in
    let few = c.requires.few in
    let old = c.args.site in
    let new = c.in-Err.site in
    let status = c.in-Err.status in
    let p = c.in-Err.ensures in
    record {
      statuses = of_preparing status p.statuses;
      refused = p.refused;
      opens = λ tells. elim (p.can_then tells) [
        | inl can ↦ inl can
        | inr r ↦ inr (record { unmade = preparing_unmade status p.statuses; files = r.files tells; moments = r.moments })
      ];
      complete = p.complete;
      full = p.full;
      trail = λ tells s is. p.grows_then tells;
      beside = beside_alone g.S.Site d some few old new p.beside_then;
      says = record {
        point = 0;
        line = λ tells. unmade_says status _ _ _ p.statuses p.said_then;
        is = λ made. absurd (preparing_unmade status p.statuses made);
      };
      every_moment = λ tells. reopens_stand g.S.Site old new (p.stopped tells);
      dump = λ tells s is. dump_alone g.S.Site d some few old new p.beside_then (p.stopped tells) s is;
      at_ok = λ made. absurd (preparing_unmade status p.statuses made);
    }

pub returns-in-Ok-clause-disk : goal.returns-in-Ok-clause-disk
returns-in-Ok-clause-disk g c = counted_from _ _ _ _ c.in-Ok.ensures.clean.0 c.write_ready.ensures.disk

pub returns-in-Ok-clause-say : goal.returns-in-Ok-clause-say
returns-in-Ok-clause-say g c = counted_from _ _ _ _ c.in-Ok.ensures.clean.1 c.write_ready.ensures.say

pub returns-in-Ok-clause-same : goal.returns-in-Ok-clause-same
returns-in-Ok-clause-same g c = g.met.S.Site.same_then c.args.site c.in-Ok.ready.opened.log.site c.write_ready.result.site c.in-Ok.ensures.same c.write_ready.ensures.same

pub returns-in-Err-clause-say : goal.returns-in-Err-clause-say
returns-in-Err-clause-say g c = preparing_no_say c.in-Err.status _ _ c.in-Err.ensures.statuses c.in-Err.ensures.say_faults

pub returns-in-Ok-clause-taken : goal.returns-in-Ok-clause-taken
returns-in-Ok-clause-taken g c = ready_unread c.write_ready.result.status c.write_ready.ensures.statuses

pub returns-in-Err-clause-taken : goal.returns-in-Err-clause-taken
returns-in-Err-clause-taken g c = preparing_unread c.in-Err.status c.in-Err.ensures.statuses
