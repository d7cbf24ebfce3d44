use Rattle.std.proofs.Common.{◌≡◌, ◌∙◌, ap, sym, subst, set, List, Bool, true, false, [], ◌∷◌, ◌++◌, if◌then◌else◌}
use Rattle.dms_block.specs.declared.change.Change.{Change}
use Rattle.dms_block.specs.Content.{AreApart, NoneOf, with_change}
use Rattle.dms_block.specs.Changing.{with_apart, with_new, with_old}
use Rattle.dms_block.proofs.changes.Changes.set.Goals as goal

pub returns-in-Some-clause-ok : goal.returns-in-Some-clause-ok
returns-in-Some-clause-ok c =
    let found = rw c.deref.ensures.value at c.in-Some.ensures.found in
    ap (λ (x : Change). set c.args.self.now.items.items c.in-Some.i (record { id = x.id; block = c.args.block.now })) c.index_mut.ensures.value
    ∙ sym (with_old _ _ c.in-Some.i c.args.block.now.0 _ c.index_mut.result.now c.args.self.now.apart found.0 found.1)

pub invariant_of-self : goal.invariant_of-self
invariant_of-self c =
    let found = rw c.deref.ensures.value at c.in-Some.ensures.found in
    let is : set c.args.self.now.items.items c.in-Some.i (record { id = c.index_mut.result.now.id; block = c.args.block.now }) ≡ with_change c.args.id.file c.args.id.block c.args.block.now.0 c.args.self.now.items.items =
    ap (λ (x : Change). set c.args.self.now.items.items c.in-Some.i (record { id = x.id; block = c.args.block.now })) c.index_mut.ensures.value
    ∙ sym (with_old _ _ c.in-Some.i c.args.block.now.0 _ c.index_mut.result.now c.args.self.now.apart found.0 found.1) in
    record { apart = subst AreApart (sym is) (with_apart c.args.id.file c.args.id.block c.args.block.now.0 _ c.args.self.now.apart) }

pub returns-clause-ok : goal.returns-clause-ok
returns-clause-ok c =
    let none = rw c.deref.ensures.value at c.in_default.ensures.none in
    c.in_ok-push.ensures.items ∙ sym (with_new c.args.id.file c.args.id.block c.args.block.now.0 _ none)

-- one change more, or none
kept : (b : Bool) (xs all : List Change) (x : Change) → all ≡ (if b then xs ++ x ∷ [] else xs) → AreApart xs → NoneOf x.id.file x.id.block xs → AreApart all
kept true xs all x is other none = subst AreApart (sym (is ∙ sym (with_new x.id.file x.id.block x.block.0 xs none))) (with_apart x.id.file x.id.block x.block.0 xs other)
kept false xs all x is other none = subst AreApart (sym is) other

pub invariant_of-self-2 : goal.invariant_of-self-2
invariant_of-self-2 c =
    let none = rw c.deref.ensures.value at c.in_default.ensures.none in
    record { apart = kept _ _ _ (record { id = c.args.id; block = c.args.block.now }) c.push.ensures.items c.args.self.now.apart none }
