use Rattle.std.proofs.Common.{◌≡◌, rules}
use Rattle.std.proofs.lemmas.Fn.{always_returns_same}
use Rattle.dms_model.specs.Db.{SubsetEntry}
use Rattle.dms_model.specs.Uses.{entry_of}
use Rattle.dms_model.specs.Valid.{entry_cmp}
use Rattle.dms_plain.proofs.Rising.{found}
use Rattle.dms_plain.proofs.manual.find.Goals as goal

pub returns : goal.returns
returns c =
    let ord = λ (x : SubsetEntry). entry_cmp x (entry_of c.args.subset c.args.owner c.args.number) in
    found c.args.subset c.args.owner c.args.number c.args.kept.now c.binary_search_by.result c.requires c.binary_search_by.ensures.bound
    (c.binary_search_by.ensures.position ord (always_returns_same _ (λ a r. r ≡ ord a.0.now) _ (λ a r f' t. search rules)))
