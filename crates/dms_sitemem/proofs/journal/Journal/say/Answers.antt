use Rattle.std.proofs.Common.{◌≡◌, refl, rules}
use Rattle.dms_sitemem.proofs.Kept.{say_steps}
use Rattle.dms_sitemem.proofs.journal.Journal.say.Goals as goal

pub returns-clause-moments : goal.returns-clause-moments
returns-clause-moments c =
    let same : c.in_ok-kept.kept.items ≡ c.args.bytes.now = search rules in
    say_steps _ _ c.in_ok-kept.kept _ _ same c.in_ok-keep.ensures.kept

pub returns-clause-kept : goal.returns-clause-kept
returns-clause-kept c =
    let same : c.in_ok-kept.kept.items ≡ c.args.bytes.now = search rules in
    (_, (c.in_ok-kept.kept, same, refl), c.in_ok-keep.ensures.kept)
