use Rattle.std.proofs.Common.{ℕ, ◌+◌, ◌<◌, ◌≤◌, ◌≡◌, ◌∙◌, subst, length, arith}
use Rattle.dms_stream.specs.declared.fault.StreamFault.TheVariants.{Input}
use Rattle.dms_stream.specs.Taking.{NotTaken, bytes_taken, got}
use Rattle.dms_stream.proofs.Steps.{no_fault, bytes_turn, bytes_not, bytes_done, bytes_size, set_length, next_place}
use Rattle.dms_stream.proofs.reader.StreamReader.bytes.Goals as goal

pub loop-place-preserved : goal.loop-place-preserved
loop-place-preserved g c = record {
  same = g.met.I.Source.same_then _ _ _ c.loop-place.invariant.same c.in-Ok.ensures.same;
  clean = c.in-Ok.ensures.input.clean (no_fault c.in-Ok.byte Input) ∙ c.loop-place.invariant.clean;
  few = c.in-Ok.ensures.few;
  size = set_length c.loop-place.into c.loop-place.place c.in-Ok.byte ∙ c.loop-place.invariant.size;
  reads = λ all remains.
      let on = c.loop-place.invariant.reads all remains in
      let took = c.in-Ok.ensures.took on.rest on.remains in
      let more : c.loop-place.place < length c.loop-place.into = omega (arith, c.loop-place-test.true, c.loop-place.invariant.size) in
      record {
        rest = took.rest;
        whole = bytes_turn _ _ _ _ _ _ all on c.in-Ok.byte (c.byte.new.self.taken + 1) took.rest more took.is;
        at = omega (arith, on.at, next_place _ _ _ on.rest took.rest took.is);
        remains = took.remains;
      };
}

pub returns-in-Err-clause-refused : goal.returns-in-Err-clause-refused
returns-in-Err-clause-refused g c = λ all remains.
    let on = c.loop-place.invariant.reads all remains in
    let more : c.loop-place.place < length c.loop-place.into = omega (arith, c.loop-place-test.true, c.loop-place.invariant.size) in
    subst (λ (n : ℕ). NotTaken (bytes_taken n (c.args.self.now.taken + 1) all) (c.args.self.now.taken + length all) c.in-Err.fault) c.loop-place.invariant.size
    (bytes_not _ _ _ _ _ _ all on c.in-Err.fault more (c.in-Err.ensures.refused on.rest on.remains))

pub returns-clause-took : goal.returns-clause-took
returns-clause-took g c = λ all remains.
    let on = c.loop-place.invariant.reads all remains in
    let none : length c.loop-place.into ≤ c.loop-place.place = omega (arith, c.loop-place-test.false, c.loop-place.invariant.size) in
    let few : c.loop-place.place ≤ length c.loop-place.into = omega (arith, c.loop-place.auto.place-end, c.loop-place.invariant.size) in
    record {
      rest = on.rest;
      is = subst (λ (n : ℕ). bytes_taken n (c.args.self.now.taken + 1) all ≡ got c.loop-place.into (c.loop-place.self.taken + 1) on.rest) c.loop-place.invariant.size (bytes_done _ _ _ _ _ _ all on none few);
      remains = on.remains;
      size = bytes_size _ _ _ _ _ _ all on none few;
    }
