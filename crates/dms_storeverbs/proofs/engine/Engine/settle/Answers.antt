use Rattle.std.proofs.Common.{◌≡◌, ◌+◌, ◌<◌, ◌^◌, ◌∙◌, refl, arith, false, rules, true, inl, inr}
use Rattle.std.proofs.lemmas.Grind.{common_steps}
use Rattle.std.proofs.lemmas.Option.{gets}
use Rattle.dms_model.specs.Session.{settle, someone_works}
use Rattle.dms_storeverbs.proofs.Calls.{if_err, quieted, synced, told_known, settled_quiets}
use Rattle.dms_block.specs.Faults.{Undamaged}
use Rattle.dms_storeverbs.proofs.Costing.{failed_costs, plain_costs, changes_none, changes_same, synced_costs, unsynced_costs}
use Rattle.std.proofs.Common.{List, ap, length, map}
use Rattle.std.proofs.lemmas.List.{with_items_is, length-map}
use Rattle.dms_desc.specs.Shape.{as_described}
use Rattle.dms_model.specs.Programs.{Program}
use Rattle.dms_model.specs.Seen.{Effort}
use Rattle.dms_model.specs.Session.{idle}
use Rattle.dms_storeverbs.proofs.AtHand.{idle_fit}
use Rattle.dms_block.specs.Faults.{IfFull}
use Rattle.dms_block.specs.Held.{AuditPace}
use Rattle.dms_block.specs.FaultLaws.{full_weaker}
use Rattle.dms_storeverbs.specs.Costs.{makes_quiet}
use Rattle.dms_storeverbs.specs.Rooms.{LeavesNoPoint}
use Rattle.dms_storeverbs.proofs.Rooms.{due_before, settled_syncs}
use Rattle.dms_storeverbs.proofs.engine.Engine.settle.Goals as goal

pub invariant_of-self-then-not-self-clause-fit : goal.invariant_of-self-then-not-self-clause-fit
invariant_of-self-then-not-self-clause-fit g c =
    let back = with_items_is c.args.self.now.programs c.clear_active.new.programs (ap length c.clear_active.ensures ∙ length-map c.as_mut_slice.result.now idle ∙ c.as_mut_slice.ensures.len) in
    idle_fit (as_described c.args.self.now.desc) c.args.self.now.programs.items _ (back ∙ c.clear_active.ensures ∙ ap (λ (ps : List Program). map idle ps) c.as_mut_slice.ensures.value) c.args.self.now.fit

pub invariant_of-self-in-Break-branch-2 : goal.invariant_of-self-in-Break-branch-2
invariant_of-self-in-Break-branch-2 g c =
    let back = with_items_is c.args.self.now.programs c.clear_active.new.programs (ap length c.clear_active.ensures ∙ length-map c.as_mut_slice.result.now idle ∙ c.as_mut_slice.ensures.len) in
    record {
      under = c.sync.ensures.causes.desc ∙ c.quiet.ensures.causes.desc ∙ c.args.self.now.under;
      formed = c.args.self.now.formed;
      fit = idle_fit (as_described c.args.self.now.desc) c.args.self.now.programs.items _ (back ∙ c.clear_active.ensures ∙ ap (λ (ps : List Program). map idle ps) c.as_mut_slice.ensures.value) c.args.self.now.fit;
    }

pub invariant_of-self-2-clause-fit : goal.invariant_of-self-2-clause-fit
invariant_of-self-2-clause-fit g c =
    let back = with_items_is c.args.self.now.programs c.clear_active.new.programs (ap length c.clear_active.ensures ∙ length-map c.as_mut_slice.result.now idle ∙ c.as_mut_slice.ensures.len) in
    idle_fit (as_described c.args.self.now.desc) c.args.self.now.programs.items _ (back ∙ c.clear_active.ensures ∙ ap (λ (ps : List Program). map idle ps) c.as_mut_slice.ensures.value) c.args.self.now.fit

pub returns-in_err-number-clause-step : goal.returns-in_err-number-clause-step
returns-in_err-number-clause-step g c = λ s stands room.
    let r : (g.St.Store.seen c.args.self.now.store).next + 1 < 2 ^ 64 = omega (arith, stands.next, room) in
    let nobody : someone_works s.programs ≡ false = cc in
    let here = (g.St.Store.seen c.args.self.now.store).here in
    let is = settled_quiets s nobody in
    record {
      answers = if_err _ _ c.from_residual.ensures.0;
      made = λ tells. if_err _ _ c.from_residual.ensures.0;
      undamaged = let u : Undamaged c.quiet.result = c.quiet.ensures.undamaged s.db stands.db in search rules;
      leaves = λ tells. quieted here (s.next, s.db) (told_known (g.St.Store.seen c.args.self.now.store) s (g.met.St.Store.agrees c.args.self.now.store c.requires.sound) stands.next stands.db) (settle s).quiets is (c.quiet.ensures.leaves tells r);
    }

pub returns-then-not-self-clause-step : goal.returns-then-not-self-clause-step
unfolding settle
returns-then-not-self-clause-step g c = λ s stands room.
    let r : (g.St.Store.seen c.args.self.now.store).next + 1 < 2 ^ 64 = omega (arith, stands.next, room) in
    let nobody : someone_works s.programs ≡ false = cc in
    let here = (g.St.Store.seen c.args.self.now.store).here in
    let is = settled_quiets s nobody in
    record {
      answers = grind (arith, common_steps, gets);
      made = λ tells. search rules;
      undamaged = tt;
      leaves = λ tells. quieted here (s.next, s.db) (told_known (g.St.Store.seen c.args.self.now.store) s (g.met.St.Store.agrees c.args.self.now.store c.requires.sound) stands.next stands.db) (settle s).quiets is (c.quiet.ensures.leaves tells r);
    }

pub returns-in_err-sync-clause-step : goal.returns-in_err-sync-clause-step
returns-in_err-sync-clause-step g c = λ s stands room.
    let r : (g.St.Store.seen c.args.self.now.store).next + 1 < 2 ^ 64 = omega (arith, stands.next, room) in
    let nobody : someone_works s.programs ≡ false = cc in
    let here = (g.St.Store.seen c.args.self.now.store).here in
    let is = settled_quiets s nobody in
    record {
      answers = if_err _ _ c.from_residual-in_err-sync.ensures.0;
      made = λ tells. if_err _ _ c.from_residual-in_err-sync.ensures.0;
      undamaged = let u : Undamaged c.sync.result = c.sync.ensures.undamaged s.db (c.in_ok-number.ensures.made.db r ∙ stands.db) in search rules;
      leaves = λ tells. synced here (s.next, s.db) (told_known (g.St.Store.seen c.args.self.now.store) s (g.met.St.Store.agrees c.args.self.now.store c.requires.sound) stands.next stands.db) (settle s).quiets is c.quiet.ensures.causes.whole (c.quiet.ensures.leaves tells r) (c.in_ok-number.ensures.made.points tells r) (c.in_ok-number.ensures.made.next r) c.quiet.ensures.mute.said (c.sync.ensures.silent.leaves (c.quiet.ensures.causes.tells tells) (omega (arith, c.in_ok-number.ensures.made.next r, stands.next, room)));
    }

pub returns-clause-step : goal.returns-clause-step
unfolding settle
returns-clause-step g c = λ s stands room.
    let r : (g.St.Store.seen c.args.self.now.store).next + 1 < 2 ^ 64 = omega (arith, stands.next, room) in
    let nobody : someone_works s.programs ≡ false = cc in
    let here = (g.St.Store.seen c.args.self.now.store).here in
    let is = settled_quiets s nobody in
    record {
      answers = grind (arith, common_steps, gets);
      made = λ tells. search rules;
      undamaged = tt;
      leaves = λ tells. synced here (s.next, s.db) (told_known (g.St.Store.seen c.args.self.now.store) s (g.met.St.Store.agrees c.args.self.now.store c.requires.sound) stands.next stands.db) (settle s).quiets is c.quiet.ensures.causes.whole (c.quiet.ensures.leaves tells r) (c.in_ok-number.ensures.made.points tells r) (c.in_ok-number.ensures.made.next r) c.quiet.ensures.mute.said (c.sync.ensures.silent.leaves (c.quiet.ensures.causes.tells tells) (omega (arith, c.in_ok-number.ensures.made.next r, stands.next, room)));
    }

pub returns-then-someone_works-clause-costs : goal.returns-then-someone_works-clause-costs
returns-then-someone_works-clause-costs g c = plain_costs c.succeed.ensures.sync (changes_none _)

pub returns-in_err-number-clause-costs : goal.returns-in_err-number-clause-costs
returns-in_err-number-clause-costs g c = failed_costs false c.from_residual.ensures.0 (changes_same c.quiet.ensures.effort)

pub returns-then-not-self-clause-costs : goal.returns-then-not-self-clause-costs
returns-then-not-self-clause-costs g c = plain_costs c.succeed-then-not-self.ensures.sync (changes_same c.quiet.ensures.effort)

pub returns-in_err-sync-clause-costs : goal.returns-in_err-sync-clause-costs
returns-in_err-sync-clause-costs g c = unsynced_costs c.from_residual-in_err-sync.ensures.0 c.quiet.ensures.effort c.sync.ensures.effort

pub returns-clause-costs : goal.returns-clause-costs
returns-clause-costs g c = synced_costs c.quiet.ensures.effort c.in_ok-sync.ensures.effort refl

pub returns-in_err-number-clause-full : goal.returns-in_err-number-clause-full
returns-in_err-number-clause-full g c = λ s stands.
    let nobody : someone_works s.programs ≡ false = cc in
    let u : IfFull c.quiet.result (λ f. makes_quiet (settle s).quiets ≡ true) = full_weaker c.quiet.result _ _ (λ f is. ap makes_quiet (settled_quiets s nobody)) c.quiet.ensures.full in
    search rules

pub returns-in_err-sync-clause-full : goal.returns-in_err-sync-clause-full
returns-in_err-sync-clause-full g c = λ s stands.
    let nobody : someone_works s.programs ≡ false = cc in
    let u : IfFull c.sync.result (λ f. makes_quiet (settle s).quiets ≡ true) = full_weaker c.sync.result _ _ (λ f is. ap makes_quiet (settled_quiets s nobody)) c.sync.ensures.full in
    search rules

pub returns-in_err-sync-clause-file : goal.returns-in_err-sync-clause-file
returns-in_err-sync-clause-file g c =
    let u : IfFull c.sync.result (λ f. f ≡ (g.St.Store.seen c.args.self.now.store).pace.last) = full_weaker c.sync.result _ _ (λ f is. is ∙ ap (λ (p : AuditPace). p.last) c.quiet.ensures.causes.pace) c.sync.ensures.full in
    search rules

pub returns-in_err-number-clause-no_point : goal.returns-in_err-number-clause-no_point
returns-in_err-number-clause-no_point g c = λ s stands room.
    let r : (g.St.Store.seen c.args.self.now.store).next + 1 < 2 ^ 64 = omega (arith, stands.next, room) in
    let u : IfFull c.quiet.result (λ n. LeavesNoPoint (g.St.Store.seen c.args.self.now.store) (g.St.Store.seen c.quiet.new.self) (settle s)) = full_weaker c.quiet.result _ _ (λ f is. inl (λ tells. is tells r)) c.quiet.ensures.no_point in
    search rules

pub returns-in_err-sync-clause-no_point : goal.returns-in_err-sync-clause-no_point
returns-in_err-sync-clause-no_point g c = λ s stands room.
    let nobody : someone_works s.programs ≡ false = cc in
    let pending : s.pending ≡ true = grind (arith, common_steps, gets) in
    let u : IfFull c.sync.result (λ n. LeavesNoPoint (g.St.Store.seen c.args.self.now.store) (g.St.Store.seen c.sync.new.self) (settle s)) = full_weaker c.sync.result _ _ (λ f due. inr (settled_syncs s nobody pending, due_before (g.St.Store.seen c.args.self.now.store) (g.St.Store.seen c.quiet.new.self) c.quiet.ensures.causes.pace (ap (λ (e : Effort). e.syncs) c.quiet.ensures.effort) due)) c.sync.ensures.due in
    search rules
