use Rattle.std.proofs.Common.{◌≡◌, sym, subst, rules}
use Rattle.std.proofs.lemmas.Fn.{filter_same}
use Rattle.dms_model.specs.Uses.{is_not_entry}
use Rattle.dms_model.specs.Valid.{AreRising}
use Rattle.dms_plain.specs.Moves.{without_entry}
use Rattle.dms_plain.proofs.Rising.{rising_left}
use Rattle.dms_plain.proofs.manual.remove.Goals as goal

pub returns-clause-left : goal.returns-clause-left
returns-clause-left c = filter_same _ (is_not_entry c.args.subset c.args.owner c.args.number) _ (λ x b f' t. search rules) _ _ c.retain.ensures.filtered

pub returns-clause-rising : goal.returns-clause-rising
returns-clause-rising c =
    let test = is_not_entry c.args.subset c.args.owner c.args.number in
    let left : c.retain.new.self.items ≡ without_entry c.args.subset c.args.owner c.args.number c.args.kept.now.items = filter_same _ test _ (λ x b f' t. search rules) _ _ c.retain.ensures.filtered in
    subst AreRising (sym left) (rising_left test c.args.kept.now.items c.requires)
