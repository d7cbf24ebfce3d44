use Rattle.dms_chain.specs.Lists.{keys_rise}
use Rattle.dms_sets.specs.Sets.{listed_in, kinds_over}
use Rattle.dms_sets.specs.Owners.{owned_entries}
use Rattle.dms_sets.specs.Padded.{entries_shaped}
use Rattle.dms_sets.specs.Spots.{all_fit}
use Rattle.dms_sets.specs.Determined.{entries_determined}
use Rattle.dms_sets.proofs.laws.sets_are_their_members.Goals as goal

pub returns-clause-rise : goal.returns-clause-rise
returns-clause-rise c desc db s = keys_rise (listed_in (kinds_over desc s) s db.records)

pub returns-clause-members : goal.returns-clause-members
returns-clause-members c desc db s owner auto named fits small = owned_entries desc db s owner small auto (all_fit desc db s named.items fits)

pub returns-clause-shaped : goal.returns-clause-shaped
returns-clause-shaped c desc db s named fits = entries_shaped desc db s (all_fit desc db s named.items fits)

pub returns-clause-only : goal.returns-clause-only
returns-clause-only c desc db s xs auto named fits is = entries_determined desc db s xs auto (all_fit desc db s named.items fits) is.rises is.entries is.members
