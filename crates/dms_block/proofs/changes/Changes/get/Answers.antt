use Rattle.std.proofs.Common.{◌∙◌, sym, ap, Some}
use Rattle.dms_block.specs.declared.change.Change.{Change}
use Rattle.dms_block.specs.Changing.{change_index, change_none}
use Rattle.dms_block.proofs.changes.Changes.get.Goals as goal

pub returns-in-Some : goal.returns-in-Some
returns-in-Some c =
    let found = rw c.deref.ensures.value at c.in-Some.ensures.found in
    ap (λ (x : Change). Some x.block.0) c.index.ensures ∙ sym (change_index _ _ c.in-Some.i _ c.index.result.now c.args.self.now.apart found.0 found.1)

pub returns-in-None : goal.returns-in-None
returns-in-None c = sym (change_none _ _ _ (rw c.deref.ensures.value at c.in-None.ensures.none))
