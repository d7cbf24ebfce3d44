use Rattle.std.proofs.Common.{ℕ, ◌+◌, ap, sym, refl}
use Rattle.dms_stream.specs.Taking.{Taken, got, Headed}
use Rattle.dms_stream.proofs.Chains.{both_taken, first_not, second_not}
use Rattle.dms_stream.proofs.reader.StreamReader.heading.Goals as goal

pub returns-in-Err-number-clause-refused : goal.returns-in-Err-number-clause-refused
returns-in-Err-number-clause-refused g c = λ all remains.
    let a = c.in-Ok.ensures.took all remains in
    let b = c.in-Ok-bytes.ensures.took a.rest a.remains in
    second_not _ _ _ _ _ _ c.in-Err-number.fault a (second_not _ _ _ _ _ _ c.in-Err-number.fault b (first_not _ _ _ c.in-Err-number.fault (c.in-Err-number.ensures.refused b.rest b.remains)))

pub returns-in-Ok-text-clause-took : goal.returns-in-Ok-text-clause-took
returns-in-Ok-text-clause-took g c = λ all remains.
    let a = c.in-Ok.ensures.took all remains in
    let b = c.in-Ok-bytes.ensures.took a.rest a.remains in
    let t = c.in-Ok-number.ensures.took b.rest b.remains in
    let x = c.in-Ok-text.ensures.took t.rest t.remains in
    let make : ℕ → Taken Headed = λ n. got (record { tag = n; total = c.in-Ok-number.total; description = c.in-Ok-text.description.items }) (c.text.new.self.taken + 1) x.rest in
    both_taken _ _ _ _ _ _ _ _ _ a (both_taken _ _ _ _ _ _ _ _ _ b (both_taken _ _ _ _ _ _ _ _ _ t (both_taken _ _ _ _ _ _ _ _ _ x
    (record {
      rest = x.rest;
      is = ap make (sym c.from_be_bytes.ensures);
      remains = x.remains;
      size = refl;
    }))))

pub returns-in-Ok-text-clause-same : goal.returns-in-Ok-text-clause-same
returns-in-Ok-text-clause-same g c =
    let then = g.met.I.Source.same_then in
    then _ _ _ (then _ _ _ (then _ _ _ c.in-Ok.ensures.same c.in-Ok-bytes.ensures.same) c.in-Ok-number.ensures.same) c.in-Ok-text.ensures.same

pub returns-in-Err-text-clause-refused : goal.returns-in-Err-text-clause-refused
returns-in-Err-text-clause-refused g c = λ all remains.
    let a = c.in-Ok.ensures.took all remains in
    let b = c.in-Ok-bytes.ensures.took a.rest a.remains in
    let t = c.in-Ok-number.ensures.took b.rest b.remains in
    let e = c.in-Err-text.fault in
    second_not _ _ _ _ _ _ e a (second_not _ _ _ _ _ _ e b (second_not _ _ _ _ _ _ e t (first_not _ _ _ e (c.in-Err-text.ensures.refused t.rest t.remains))))
