use Rattle.std.proofs.Common.{ℕ, ◌+◌, ◌-◌, ◌*◌, ◌≤◌, ◌≡◌, ◌∙◌, ap, sym, refl, cond, Bool, true, false, arith}
use Rattle.dms_stream.specs.declared.fault.StreamFault.TheVariants.{Input}
use Rattle.dms_stream.specs.Taking.{bad, number_taken, may_begin}
use Rattle.dms_stream.proofs.Steps.{no_fault, number_turn, number_not, number_done, begins_low}
use Rattle.dms_stream.proofs.reader.StreamReader.number.Goals as goal

pub loop-done-init : goal.loop-done-init
loop-done-init g c = record {
  same = g.met.I.Source.same_again _;
  clean = refl;
  few = c.requires.few;
  small = omega arith;
  reads = λ all remains. record { todo = c.args.bytes; rest = all; count = omega arith; remains = remains; is = refl; size = refl };
}

pub loop-done-preserved : goal.loop-done-preserved
loop-done-preserved g c =
    let n = c.args.bytes - 1 - c.loop-done.done in
    let may : may_begin n c.args.low c.args.high (c.loop-done.got * 256 + c.from.result) ≡ true = sym c.may_begin.ensures ∙ c.if-not-may_begin.false in
    let few : n ≤ 3 = omega (arith, c.requires.some) in
    record {
      same = g.met.I.Source.same_then _ _ _ c.loop-done.invariant.same c.in-Ok.ensures.same;
      clean = c.in-Ok.ensures.input.clean (no_fault c.in-Ok.byte Input) ∙ c.loop-done.invariant.clean;
      few = c.in-Ok.ensures.few;
      small = begins_low n c.args.low c.args.high (c.loop-done.got * 256 + c.from.result) few may;
      reads = λ all remains.
          let on = c.loop-done.invariant.reads all remains in
          let took = c.in-Ok.ensures.took on.rest on.remains in
          let turn = number_turn c.args.bytes c.args.low c.args.high c.args.self.now.taken c.loop-done.done c.loop-done.got c.loop-done.self.taken c.loop-done.self.feed (g.I.Source.left c.loop-done.source) all on
          c.in-Ok.byte (c.byte.new.self.taken + 1) (c.loop-done.got * 256 + c.from.result) took.rest c.loop-done-test.true (λ i. c.loop-done.got * 256 + c.from.ensures i) took.is in
          record {
            todo = n;
            rest = took.rest;
            count = omega (arith, c.loop-done-test.true);
            remains = took.remains;
            is = turn.is ∙ ap (λ (b : Bool). cond b (number_taken n c.args.low c.args.high (c.loop-done.got * 256 + c.from.result) (c.byte.new.self.taken + 1) took.rest) (bad (c.loop-done.self.taken + 1))) may;
            size = omega (arith, turn.size, turn.follows);
          };
    }

pub returns-in-Err-clause-refused : goal.returns-in-Err-clause-refused
returns-in-Err-clause-refused g c = λ all remains.
    let on = c.loop-done.invariant.reads all remains in
    number_not c.args.bytes c.args.low c.args.high c.args.self.now.taken c.loop-done.done c.loop-done.got c.loop-done.self.taken c.loop-done.self.feed (g.I.Source.left c.loop-done.source) all on
    c.in-Err.fault c.loop-done-test.true (c.in-Err.ensures.refused on.rest on.remains)

pub returns-then-not-may_begin-clause-refused : goal.returns-then-not-may_begin-clause-refused
returns-then-not-may_begin-clause-refused g c = λ all remains.
    let n = c.args.bytes - 1 - c.loop-done.done in
    let not : may_begin n c.args.low c.args.high (c.loop-done.got * 256 + c.from.result) ≡ false = sym c.may_begin.ensures ∙ c.if-not-may_begin.true in
    let on = c.loop-done.invariant.reads all remains in
    let took = c.in-Ok.ensures.took on.rest on.remains in
    let turn = number_turn c.args.bytes c.args.low c.args.high c.args.self.now.taken c.loop-done.done c.loop-done.got c.loop-done.self.taken c.loop-done.self.feed (g.I.Source.left c.loop-done.source) all on
    c.in-Ok.byte (c.byte.new.self.taken + 1) (c.loop-done.got * 256 + c.from.result) took.rest c.loop-done-test.true (λ i. c.loop-done.got * 256 + c.from.ensures i) took.is in
    let at : c.loop-done.self.taken + 1 ≡ c.byte.new.self.taken = omega (arith, turn.follows) in
    turn.is ∙ ap (λ (b : Bool). cond b (number_taken n c.args.low c.args.high (c.loop-done.got * 256 + c.from.result) (c.byte.new.self.taken + 1) took.rest) (bad (c.loop-done.self.taken + 1))) not ∙ ap (λ (q : ℕ). bad q) at

pub returns-clause-took : goal.returns-clause-took
returns-clause-took g c = λ all remains.
    let on = c.loop-done.invariant.reads all remains in
    record { rest = on.rest; is = number_done c.args.bytes c.args.low c.args.high _ _ _ _ _ _ all on (omega (arith, c.loop-done-test.false)); remains = on.remains; size = on.size }
