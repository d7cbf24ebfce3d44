use Rattle.std.proofs.Common.{refl, subst}
use Rattle.std.proofs.lemmas.Result.{IfOk-weaker}
use Rattle.dms_block.specs.HeldLaws.{causes_or_on, lasts_none, same_none}
use Rattle.dms_block.specs.View.{overlay_content, under}
use Rattle.dms_desc.specs.Shape.{as_described}
use Rattle.dms_links.specs.Altering.{wrote_none}
use Rattle.dms_links.specs.AlteringIn.{BadOf}
use Rattle.dms_links.specs.Stands.{Tally}
use Rattle.dms_links.specs.Stepping.{none_bad_of}
use Rattle.dms_links.specs.declared.altering.SlotChange.TheVariants.{Owned}
use Rattle.dms_spelling.specs.Holds.{have_slots}
use Rattle.dms_spelling.specs.Staying.{altered_stays, same_stays}
use Rattle.dms_spelling.specs.Stands.{StandsFiles}
use Rattle.dms_store.specs.LiftedLaws.{holds_served}
use Rattle.dms_store.specs.PuttingOwners.{counts, counts_none}
use Rattle.dms_store.proofs.owning.count_owner.Goals as goal

pub returns-then-set-eq0-clause-writes : goal.returns-then-set-eq0-clause-writes
returns-then-set-eq0-clause-writes g c = wrote_none 1 _ c.args.over.now g.met.B.Blocks.same_again tt refl c.requires.sound

pub returns-then-set-eq0-clause-counted : goal.returns-then-set-eq0-clause-counted
returns-then-set-eq0-clause-counted g c db own told files may =
    (refl, subst (λ (k : Tally). StandsFiles (as_described c.args.desc.now) db k (overlay_content c.args.over.now)) (counts_none own c.args.set c.args.owner c.if-set-eq0.true) files)

pub returns-then-set-eq0-clause-taken : goal.returns-then-set-eq0-clause-taken
returns-then-set-eq0-clause-taken g c told = same_stays (as_described c.args.desc.now) (overlay_content c.args.over.now) (overlay_content c.args.over.now) refl

pub alter_in-requires-clause-holds : goal.alter_in-requires-clause-holds
alter_in-requires-clause-holds g c = holds_served (as_described c.args.desc.now) (under c.args.over.now) c.requires.serves c.args.set

pub alter_in-requires-clause-may : goal.alter_in-requires-clause-may
alter_in-requires-clause-may g c s at = tt

pub returns-clause-below : goal.returns-clause-below
returns-clause-below g c told slots =
    let desc = as_described c.args.desc.now in
    let a = c.args.over.now in
    causes_or_on (BadOf desc c.args.set a) (λ f i. ⊥) c.alter_in.result (under a) (under a) (under c.alter_in.new.over) (λ f i bad. none_bad_of desc a c.args.set told (slots c.if-set-eq0.false) f i bad) refl (lasts_none (under a)) (same_none (under a)) c.alter_in.ensures.causes

pub returns-clause-counted : goal.returns-clause-counted
returns-clause-counted g c =
    IfOk-weaker c.alter_in.result _ _ (λ done h db own told files may.
    counts (as_described c.args.desc.now) c.requires.serves.served db own (overlay_content c.args.over.now) files c.args.set c.args.owner c.if-set-eq0.false (may c.if-set-eq0.false) done (overlay_content c.alter_in.new.over) (h told)) c.alter_in.ensures.altered

pub returns-clause-taken : goal.returns-clause-taken
returns-clause-taken g c =
    IfOk-weaker c.alter_in.result _ _ (λ done h told.
    let desc = as_described c.args.desc.now in
    altered_stays desc c.args.set c.args.owner Owned (overlay_content c.args.over.now) (overlay_content c.alter_in.new.over) done (have_slots desc c.requires.serves.served) (h told)) c.alter_in.ensures.altered
