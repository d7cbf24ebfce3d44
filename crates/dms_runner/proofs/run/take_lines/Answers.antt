use Rattle.dms_runner.proofs.Blames.{none_lasts, run_on_lasts, no_fault}
use Rattle.dms_storeverbs.proofs.Lasting.{lasts_none}
use Rattle.std.proofs.Common.{◌<◌, ◌∙◌, ap, refl, sym, subst, List, arith}
use Rattle.dms_desc.specs.Shape.{as_described}
use Rattle.dms_storeverbs.specs.declared.engine.Engine.{Engine}
use Rattle.dms_storeverbs.specs.View.{engine_view, view}
use Rattle.dms_runner.specs.declared.waiting.WaitingLine.{WaitingLine}
use Rattle.dms_runner.specs.Answers.{first_state}
use Rattle.dms_runner.specs.Starting.{TakesAll}
use Rattle.dms_runner.proofs.Always.{fault_as, then_on}
use Rattle.dms_runner.specs.declared.waiting.WaitingLines.{WaitingLines}
use Rattle.dms_runner.specs.Waiting.{AreVerbs}
use Rattle.dms_runner.proofs.Verbs.{held_under}
use Rattle.dms_runner.proofs.Running.{RunsLines, read_start, read_on, read_ended, read_fits, read_last, read_lines, read_bytes, read_breaks, runs_start}
use Rattle.dms_runner.proofs.Stopping.{at_next, stops_at, stops_behind, takes_last, takes_on, takes_whole}
use Rattle.dms_runner.specs.Firsts.{lines_of}
use Rattle.dms_runner.proofs.run.take_lines.Goals as goal

pub loop-line-init : goal.loop-line-init
loop-line-init g c = record {
  lasts = lasts_none g.met.St.Store.same_again _ c.requires.sound;
  verbs = record { verbs = subst (AreVerbs (as_described c.args.engine.now.desc)) (sym c.requires.none) tt; firsts = c.requires.held };
  taken = refl;
  same_source = g.met.I.Source.same_again _;
  small = omega arith;
  few = omega arith;
  read = λ all remains. read_start all _ _ remains;
  ended = λ all remains. tt;
  runs = λ db first all stands small remains. subst (λ (hs : List WaitingLine). RunsLines (as_described c.args.engine.now.desc) (first_state db first) 0 2147483648 all (view c.args.engine.now) hs c.args.feed.now (g.I.Source.left c.args.source.now) (engine_view c.args.engine.now) (engine_view c.args.engine.now)) (sym c.requires.none) (runs_start _ c.args.engine.now.formed db first all _ _ _ _ stands remains);
}

pub one_line-requires-clause-verbs : goal.one_line-requires-clause-verbs
one_line-requires-clause-verbs g c = held_under _ (ap as_described (sym c.loop-line.invariant.lasts.description)) c.loop-line.invariant.verbs

pub loop-line-preserved : goal.loop-line-preserved
loop-line-preserved g c =
    let few : c.loop-line.line < 1000000 = omega (arith, c.loop-line-test.true) in
    let read = (rw c.in-Ok-Ended.field-0-is at c.in-Ok-Ended.ensures.read) (λ is. cc) in
    let took = (rw c.in-Ok-Ended.field-0-is at c.in-Ok-Ended.ensures.took) (λ is. cc) in
    let end = (rw c.in-Ok-Ended.field-0-is at c.in-Ok-Ended.ensures.ended) refl in
    record {
      lasts = run_on_lasts g.met.St.Store.same_then c.loop-line.invariant.lasts c.in-Ok-Ended.ensures.lasts;
      verbs = held_under _ (ap as_described c.loop-line.invariant.lasts.description) c.in-Ok-Ended.ensures.verbs;
      taken = c.in-Ok-Ended.ensures.clean (no_fault _ _) ∙ c.loop-line.invariant.taken;
      same_source = g.met.I.Source.same_then _ _ _ c.loop-line.invariant.same_source c.one_line.ensures.same_source;
      small = omega (arith, c.loop-line.invariant.small, c.one_line.ensures.room);
      few = omega (arith, few);
      read = λ all remains. let r = c.loop-line.invariant.read all remains in read_on r (read r.rest r.remains);
      ended = λ all remains. let r = c.loop-line.invariant.read all remains in read_ended r (read r.rest r.remains).some (end r.rest r.remains) (c.loop-line.invariant.ended all remains);
      runs = λ db first all stands small remains.
          let r = c.loop-line.invariant.runs db first all stands small remains in
          (takes_on c.args.engine.now c.loop-line.engine db first all _ _ _ _ _ r c.one_line.new.engine c.loop-line.invariant.lasts.description (read r.read.rest r.read.remains) (at_next c.args.engine.now c.loop-line.engine db first all _ _ _ _ _ r c.loop-line.invariant.lasts.description took few small)).0;
    }

pub returns-in-Err-clause-stops : goal.returns-in-Err-clause-stops
returns-in-Err-clause-stops g c = λ _ db first all stands small remains.
    let few : c.loop-line.line < 1000000 = omega (arith, c.loop-line-test.true) in
    let r = c.loop-line.invariant.runs db first all stands small remains in
    stops_at c.args.engine.now c.loop-line.engine db first all _ _ _ _ _ r c.in-Err.fault _ c.one_line.new.engine c.loop-line.invariant.lasts.description few (c.loop-line.invariant.ended all remains) (λ f is. at_next c.args.engine.now c.loop-line.engine db first all _ _ _ _ _ r c.loop-line.invariant.lasts.description (c.in-Err.ensures.part f is) few small) c.in-Err.ensures.untouched
    (λ is. c.in-Err.ensures.bytes is r.read.rest r.read.remains) (λ is. at_next c.args.engine.now c.loop-line.engine db first all _ _ _ _ _ r c.loop-line.invariant.lasts.description (c.in-Err.ensures.full_list is) few small) c.in-Err.ensures.no_lines (λ is. c.in-Err.ensures.failed is r.read.rest r.read.remains)

pub returns-in-Err-clause-too_many_lines : goal.returns-in-Err-clause-too_many_lines
returns-in-Err-clause-too_many_lines g c = λ e. absurd (c.in-Err.ensures.no_lines (fault_as _ _ c.in-Err.fault _ refl refl e))

pub returns-in-Err-clause-too_many_bytes : goal.returns-in-Err-clause-too_many_bytes
returns-in-Err-clause-too_many_bytes g c = λ e all remains.
    let r = c.loop-line.invariant.read all remains in
    read_bytes r (omega (arith, c.loop-line-test.true)) (c.in-Err.ensures.bytes (fault_as _ _ c.in-Err.fault _ refl refl e) r.rest r.remains)

pub returns-in-Err-clause-breaks : goal.returns-in-Err-clause-breaks
returns-in-Err-clause-breaks g c = λ e all remains.
    let r = c.loop-line.invariant.read all remains in
    read_breaks r (c.loop-line.invariant.ended all remains) c.loop-line.invariant.few (omega arith) (λ end. absurd (omega (arith, end, c.loop-line-test.true))) (c.in-Err.ensures.failed (fault_as _ _ c.in-Err.fault _ refl refl e) r.rest r.remains)

pub returns-clause-all : goal.returns-clause-all
returns-clause-all g c = then_on c.after_last.result _ _ (λ end. λ db first all stands small remains.
    let r = c.loop-line.invariant.runs db first all stands small remains in
    takes_whole c.args.engine.now c.loop-line.engine db first all _ _ _ _ _ r c.loop-line.invariant.few (end r.read.rest r.read.remains).0 small) c.after_last.ensures.end

pub returns-clause-stops : goal.returns-clause-stops
returns-clause-stops g c = λ err db first all stands small remains.
    let r = c.loop-line.invariant.runs db first all stands small remains in
    stops_behind c.args.engine.now c.loop-line.engine db first all _ _ _ _ _ r c.after_last.result _ (omega (arith, c.loop-line-test.false, c.loop-line.invariant.few)) (c.loop-line.invariant.ended all remains)
    (λ is. c.after_last.ensures.lines is r.read.rest r.read.remains) (λ is. c.after_last.ensures.failed is r.read.rest r.read.remains) c.after_last.ensures.limits c.after_last.ensures.block err

pub returns-clause-fits : goal.returns-clause-fits
returns-clause-fits g c = then_on c.after_last.result _ _ (λ end. λ all remains.
    let r = c.loop-line.invariant.read all remains in
    read_fits r c.loop-line.invariant.few (end r.rest r.remains).0) c.after_last.ensures.end

pub returns-clause-end : goal.returns-clause-end
returns-clause-end g c = then_on c.after_last.result _ _ (λ end. λ all remains.
    let r = c.loop-line.invariant.read all remains in
    (end r.rest r.remains).1) c.after_last.ensures.end

pub returns-clause-too_many_lines : goal.returns-clause-too_many_lines
returns-clause-too_many_lines g c = λ e all remains.
    let r = c.loop-line.invariant.read all remains in
    read_lines r (omega (arith, c.loop-line-test.false, c.loop-line.invariant.few)) (c.after_last.ensures.lines e r.rest r.remains)

pub returns-clause-too_many_bytes : goal.returns-clause-too_many_bytes
returns-clause-too_many_bytes g c = λ e. absurd (c.after_last.ensures.limits.0 e)

pub returns-clause-breaks : goal.returns-clause-breaks
returns-clause-breaks g c = λ e all remains.
    let r = c.loop-line.invariant.read all remains in
    read_breaks r (c.loop-line.invariant.ended all remains) c.loop-line.invariant.few (omega arith) (λ end. refl) (c.after_last.ensures.failed e r.rest r.remains)

pub returns-clause-lasts : goal.returns-clause-lasts
returns-clause-lasts g c = none_lasts c.after_last.result c.after_last.ensures.block c.loop-line.invariant.lasts

pub returns-clause-same_source : goal.returns-clause-same_source
returns-clause-same_source g c = g.met.I.Source.same_then _ _ _ c.loop-line.invariant.same_source c.after_last.ensures.same_source

pub returns-in-Ok-Last-clause-all : goal.returns-in-Ok-Last-clause-all
returns-in-Ok-Last-clause-all g c = λ db first all stands small remains.
    let few : c.loop-line.line < 1000000 = omega (arith, c.loop-line-test.true) in
    let r = c.loop-line.invariant.runs db first all stands small remains in
    let read = (rw c.in-Ok-Last.field-0-is at c.in-Ok-Last.ensures.read) (λ is. cc) r.read.rest r.read.remains in
    let took = (rw c.in-Ok-Last.field-0-is at c.in-Ok-Last.ensures.took) (λ is. cc) in
    let last = (rw c.in-Ok-Last.field-0-is at c.in-Ok-Last.ensures.last) refl r.read.rest r.read.remains in
    takes_last c.args.engine.now c.loop-line.engine db first all _ _ _ _ _ r c.one_line.new.engine c.loop-line.invariant.lasts.description read (at_next c.args.engine.now c.loop-line.engine db first all _ _ _ _ _ r c.loop-line.invariant.lasts.description took few small) last few small

pub returns-in-Ok-Last-clause-fits : goal.returns-in-Ok-Last-clause-fits
returns-in-Ok-Last-clause-fits g c = λ all remains.
    let r = c.loop-line.invariant.read all remains in
    (read_last r (omega (arith, c.loop-line-test.true)) ((rw c.in-Ok-Last.field-0-is at c.in-Ok-Last.ensures.read) (λ is. cc) r.rest r.remains) ((rw c.in-Ok-Last.field-0-is at c.in-Ok-Last.ensures.last) refl r.rest r.remains)).0

pub returns-in-Ok-Last-clause-end : goal.returns-in-Ok-Last-clause-end
returns-in-Ok-Last-clause-end g c = λ all remains.
    let r = c.loop-line.invariant.read all remains in
    (read_last r (omega (arith, c.loop-line-test.true)) ((rw c.in-Ok-Last.field-0-is at c.in-Ok-Last.ensures.read) (λ is. cc) r.rest r.remains) ((rw c.in-Ok-Last.field-0-is at c.in-Ok-Last.ensures.last) refl r.rest r.remains)).1

pub returns-in-Ok-Nothing-clause-all : goal.returns-in-Ok-Nothing-clause-all
returns-in-Ok-Nothing-clause-all g c = λ db first all stands small remains.
    let none = (rw c.in-Ok-Nothing.field-0-is at c.in-Ok-Nothing.ensures.none) refl in
    let r = c.loop-line.invariant.runs db first all stands small remains in
    subst (λ (held : WaitingLines). TakesAll c.args.engine.now c.one_line.new.engine (lines_of held) db first all) (sym none.1)
    (subst (λ (e : Engine g.row.St.Denot g.St.Store). TakesAll c.args.engine.now e (lines_of c.loop-line.waiting) db first all) (sym none.0)
    (takes_whole c.args.engine.now c.loop-line.engine db first all _ _ _ _ _ r c.loop-line.invariant.few (none.2 r.read.rest r.read.remains).0 small))

pub returns-in-Ok-Nothing-clause-fits : goal.returns-in-Ok-Nothing-clause-fits
returns-in-Ok-Nothing-clause-fits g c = λ all remains.
    let r = c.loop-line.invariant.read all remains in
    read_fits r c.loop-line.invariant.few (((rw c.in-Ok-Nothing.field-0-is at c.in-Ok-Nothing.ensures.none) refl).2 r.rest r.remains).0

pub returns-in-Ok-Nothing-clause-end : goal.returns-in-Ok-Nothing-clause-end
returns-in-Ok-Nothing-clause-end g c = λ all remains.
    let r = c.loop-line.invariant.read all remains in
    (((rw c.in-Ok-Nothing.field-0-is at c.in-Ok-Nothing.ensures.none) refl).2 r.rest r.remains).1

pub returns-in-Ok-Last-clause-lasts : goal.returns-in-Ok-Last-clause-lasts
returns-in-Ok-Last-clause-lasts g c = none_lasts _ (λ f is. cc) (run_on_lasts g.met.St.Store.same_then c.loop-line.invariant.lasts c.in-Ok-Last.ensures.lasts)

pub returns-in-Ok-Last-clause-same_source : goal.returns-in-Ok-Last-clause-same_source
returns-in-Ok-Last-clause-same_source g c = g.met.I.Source.same_then _ _ _ c.loop-line.invariant.same_source c.one_line.ensures.same_source

pub returns-in-Ok-Nothing-clause-lasts : goal.returns-in-Ok-Nothing-clause-lasts
returns-in-Ok-Nothing-clause-lasts g c = none_lasts _ (λ f is. cc) (run_on_lasts g.met.St.Store.same_then c.loop-line.invariant.lasts c.in-Ok-Nothing.ensures.lasts)

pub returns-in-Ok-Nothing-clause-same_source : goal.returns-in-Ok-Nothing-clause-same_source
returns-in-Ok-Nothing-clause-same_source g c = g.met.I.Source.same_then _ _ _ c.loop-line.invariant.same_source c.one_line.ensures.same_source
