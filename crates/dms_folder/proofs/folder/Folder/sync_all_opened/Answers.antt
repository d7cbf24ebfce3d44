use Rattle.std.proofs.Common.{arith}
use Rattle.std.proofs.lemmas.Option.{slice_get_within}
use Rattle.dms_folder.proofs.folder.Folder.sync_all_opened.Goals as goal

pub returns-clause-untouched : goal.returns-clause-untouched
returns-clause-untouched g c = λ k o is.
    let l = c.loop-place in
    l.invariant.before k (omega (arith, slice_get_within l.self.opened.items k o is, l.invariant.len, c.loop-place-test.false)) o is
