use Rattle.std.proofs.Common.{◌≡◌, rules, List, ℕ, subst}
use Rattle.std.proofs.lemmas.Result.{on_ok_weaker}
use Rattle.dms_moments.specs.Moments.{Steps}
use Rattle.dms_site.specs.Files.{OnDisk}
use Rattle.dms_sitemem.specs.Replay.{state_of, clock_of}
use Rattle.dms_sitemem.specs.Honest.{replace_leads}
use Rattle.dms_sitemem.proofs.Kept.{more_steps}
use Rattle.dms_sitemem.proofs.journal.Journal.replace.Goals as goal

pub returns-clause-moments : goal.returns-clause-moments
returns-clause-moments c =
    let same : c.in_ok-kept.kept.items ≡ c.args.bytes.now = search rules in
    let events = c.args.self.now.events.items in
    on_ok_weaker c.keep.result (λ more.
    subst (λ (l : List ℕ). Steps (OnDisk c.args.file (λ old new. new ≡ l)) (clock_of events) (clock_of c.keep.new.self.events.items)) same
    (more_steps _ _ _ _ more (replace_leads (state_of events) c.args.file c.in_ok-kept.kept))) c.keep.ensures.kept
