use Rattle.std.proofs.Common.{ℕ, ◌+◌, ◌≡◌, sym, subst, refl, length, Some, arith}
use Rattle.std.proofs.lemmas.Bool.Decides.{nat_tests}
use Rattle.dms_stream.specs.Taking.{IsTaken, bytes_taken, behind_kind}
use Rattle.dms_stream.proofs.Chains.{both_taken}
use Rattle.dms_stream.proofs.reader.StreamReader.block.Goals as goal

pub returns-in-Ok-bytes-clause-took : goal.returns-in-Ok-bytes-clause-took
returns-in-Ok-bytes-clause-took g c = λ all remains.
    let a = c.in-Ok.ensures.took all remains in
    let f = c.in-Ok-number.ensures.took a.rest a.remains in
    let n = c.in-Ok-number-2.ensures.took f.rest f.remains in
    let long = c.in-Ok-bytes.ensures.took n.rest n.remains in
    let x = subst (λ (k : ℕ). IsTaken (bytes_taken k (c.number-3.new.self.taken + 1) n.rest) (c.number-3.new.self.taken + length n.rest) c.bytes.new.self (g.I.Source.left c.bytes.new.source) c.bytes.new.into) c.requires.size long in
    let one : c.in-Ok.kind ≡ 1 = grind (arith, nat_tests, c.if-not-more.false) in
    both_taken _ _ _ _ _ _ _ _ _ a
    (subst (λ (k : ℕ). IsTaken (behind_kind c.args.low c.args.high c.args.number k (c.number.new.self.taken + 1) a.rest) (c.number.new.self.taken + length a.rest) c.bytes.new.self (g.I.Source.left c.bytes.new.source)
    (Some (record { file = c.in-Ok-number.file; block = c.bytes.new.into }))) (sym one)
    (both_taken _ _ _ _ _ _ _ _ _ f (both_taken _ _ _ _ _ _ _ _ _ n (both_taken _ _ _ _ _ _ _ _ _ x (record { rest = x.rest; is = refl; remains = x.remains; size = refl })))))
