use Rattle.std.proofs.Common.{◌≡◌, ◌+◌, ℕ, List, [], ◌∷◌, ◌++◌, cond, nat_lt, sym, ◌∙◌, subst, drop, arith}
use Rattle.dms_feed.specs.Feeds.{Remains}
use Rattle.dms_feed.proofs.Reading.{Reads, Reads-byte, Reads-feed, Reads-end, Reads-over}
use Rattle.dms_feed.proofs.raw.next_raw.Goals as goal

pub returns-in-Ok-None-clause-line : goal.returns-in-Ok-None-clause-line
returns-in-Ok-None-clause-line g c = λ all remains.
    let kept = c.loop-turn.invariant.reads all remains in
    let fed = (rw c.in-Ok-None.field-0-is at c.in-Ok-None.ensures.byte) kept.0 kept.1 in
    let e = Reads-end c.args.cap c.loop-turn.kept c.loop-turn.turn c.args.room kept.0 all fed.0 (omega arith) kept.2 in
    (rw c.at_end.ensures e.0, subst (λ (r : List ℕ). Remains c.next.new.self (g.I.Source.left c.next.new.source) r) e.1 fed.1)

pub returns-then-turn-room-clause-bytes : goal.returns-then-turn-room-clause-bytes
returns-then-turn-room-clause-bytes g c = λ _ all remains.
    let kept = c.loop-turn.invariant.reads all remains in
    let fed = (rw c.in-Ok-Some.field-0-is at c.in-Ok-Some.ensures.byte) kept.0 kept.1 in
    omega (arith, Reads-over c.args.cap c.loop-turn.kept c.loop-turn.turn c.in-Ok-Some.byte kept.0 all fed.0 kept.2, c.if-turn-room.true)

pub returns-then-byte-eq10-clause-line : goal.returns-then-byte-eq10-clause-line
returns-then-byte-eq10-clause-line g c = λ all remains.
    let kept = c.loop-turn.invariant.reads all remains in
    let fed = (rw (c.in-Ok-Some.field-0-is, c.if-byte-eq10.true) at c.in-Ok-Some.ensures.byte) kept.0 kept.1 in
    let e = Reads-feed c.args.cap c.loop-turn.kept c.loop-turn.turn kept.0 all fed.0 kept.2 in
    let grown : c.keep.new.kept ≡ cond (nat_lt c.loop-turn.turn c.args.cap) (c.loop-turn.kept ++ 10 ∷ []) c.loop-turn.kept =
    rw c.if-byte-eq10.true at c.in-Ok.ensures in
    ((e.0, grown ∙ e.1, e.2, omega (arith, c.loop-turn-test.true, c.if-turn-room.false), e.3), subst (λ (r : List ℕ). Remains c.next.new.self (g.I.Source.left c.next.new.source) r) e.4 fed.1)

pub loop-turn-preserved : goal.loop-turn-preserved
loop-turn-preserved g c = record {
  same = g.met.I.Source.same_then _ _ _ c.loop-turn.invariant.same c.next.ensures.same;
  clean = c.in-Ok-Some.ensures.cause.clean ∙ c.loop-turn.invariant.clean;
  reads = λ all remains.
      let kept = c.loop-turn.invariant.reads all remains in
      let fed = (rw c.in-Ok-Some.field-0-is at c.in-Ok-Some.ensures.byte) kept.0 kept.1 in
      (drop 1 kept.0, fed.1, subst (λ (k : List ℕ). Reads c.args.cap k (c.loop-turn.turn + 1) (drop 1 kept.0) all) (sym c.in-Ok.ensures) (Reads-byte c.args.cap c.loop-turn.kept c.loop-turn.turn c.in-Ok-Some.byte kept.0 all fed.0 c.if-byte-eq10.false kept.2));
}
