use Rattle.std.proofs.Common.{◌∙◌, sym, []}
use Rattle.dasdl_compile.proofs.Titles.{titles-set}
use Rattle.dasdl_compile.proofs.drafts.Drafts.add_member.Goals as goal

pub invariant_of-self : goal.invariant_of-self
invariant_of-self c =
    c.self.invariant
    ∙ sym (titles-set 0 [] c.self.inside.kept.items c.args.at c.index_mut.result.now c.member_at.new.draft c.index_mut.ensures.value c.member_at.ensures.kept)
