-- What an entry that is taken out of a list, and counted by its owner no more, is as one call.
use Rattle.std.proofs.Common.{◌≡◌, ◌∙◌, ℕ, List, Bool, true, false, Some, sym, ap, subst, arith}
use Rattle.std.specs.Prelude.{◌==◌}
use Rattle.std.specs.FinMap.{get}
use Rattle.std.specs.declared.result.Result.TheVariants.{Ok, Err}
use Rattle.dms_base.specs.declared.kind.ItemKind.{ItemKind}
use Rattle.dms_block.specs.Content.{Content}
use Rattle.dms_block.specs.View.{overlay_content}
use Rattle.dms_block.specs.declared.block_fault.BlockFault.{BlockFault}
use Rattle.dms_block.specs.declared.blocks.Blocks.{Ghosts}
use Rattle.dms_block.specs.declared.overlay.Overlay.{Overlay}
use Rattle.dms_desc.specs.Lookups.{structure_of}
use Rattle.dms_desc.specs.Shape.{Shape, Described}
use Rattle.dms_desc.specs.declared.record.Record.{Record}
use Rattle.dms_links.specs.Linking.{number_at}
use Rattle.dms_links.specs.Stands.{tally_of}
use Rattle.dms_links.specs.Taking.{TakesSteps}
use Rattle.dms_links.specs.declared.altering.SlotChange.TheVariants.{Disowned}
use Rattle.dms_manual.specs.Entered.{manual_of}
use Rattle.dms_manual.specs.Entering.{Takes}
use Rattle.dms_model.specs.Db.{Db}
use Rattle.dms_sets.specs.Changes.{IfListed, OtherListsStay, list_of_set}
use Rattle.dms_sets.specs.Keeping.{Calm, EndsInFault, FromBelow, seen_list}
use Rattle.dms_sets.specs.Sets.{kinds_over}
use Rattle.dms_spelling.specs.Back.{spelled_files}
use Rattle.dms_spelling.specs.Ready.{IsReady}
use Rattle.dms_spelling.specs.Serving.{IsServed}
use Rattle.dms_entries.specs.Calls.{list_failed, list_only, steps_done, steps_failed}
use Rattle.dms_entries.specs.EnterCalls.{is_member}
use Rattle.dms_entries.specs.Left.{left_list, left_says, taken_is}
use Rattle.dms_entries.specs.OneList.{list_seen}
use Rattle.dms_entries.specs.Owners.{owner_steps}
use Rattle.dms_entries.specs.Promises.{ChangesEntries, EntryTaken, Leaves, LeavesMember}

pub leaves_as : (desc : Described) → IsServed desc → (subset : ℕ) (s : Shape) → structure_of desc subset ≡ Some s → s.kind ≡ 5 → (owner number : ℕ) (db : Db) (rec : Record) (d : Content) (was : Bool) → Some rec ≡ get db.records (s.set, number)
    → LeavesMember desc s number (record rec { owner = owner }) db d was → Leaves desc subset owner number db d was
leaves_as desc served subset s at kind owner number db rec d was there h may =
    subst (λ n. EntryTaken desc db n owner number d was) (number_at desc served.numbered subset s at) (h (is_member desc subset s at kind owner number db rec there may))

module _ {B : Type 0} {g : Ghosts B} (desc : Described) (s : Shape) (at : structure_of desc s.number ≡ Some s) (kind : s.kind ≡ 5) (a : Overlay B g) (ready : IsReady desc a) (ks : List ItemKind) (kinds : ks ≡ kinds_over desc s) (number : ℕ) (rec : Record) where
  -- the list couldn't be changed,
  pub leave_failed : (e : BlockFault) (b : Overlay B g) → EndsInFault e 1 a b → IfListed (list_of_set (seen_list a) ks s) (λ xs. FromBelow e a b) → ChangesEntries desc 23 (LeavesMember desc s number rec) (Err e) a b
  leave_failed e b ends below =
      list_failed desc s at kind a ready 1 23 (LeavesMember desc s number rec) e b (omega arith) ends (λ told db spelt.
      below (manual_of desc db s) (ap (λ k. list_of_set (seen_list a) k s) kinds ∙ list_seen desc ready.served s at kind db (tally_of desc db) a told (spelled_files desc (overlay_content a) db ready.served spelt)))

  module _ (b : Overlay B g) (calm : Calm (λ m. m == s.number) 1 a b) (was : Bool) (h : Takes ks s number rec (seen_list a) (seen_list b) was) where
    taken : Takes (kinds_over desc s) s number rec (seen_list a) (seen_list b) was
    taken = subst (λ (k : List ItemKind). Takes k s number rec (seen_list a) (seen_list b) was) kinds h

    -- the entry didn't stand,
    pub leave_off : was ≡ false → ChangesEntries desc 23 (LeavesMember desc s number rec) (Ok was) a b
    leave_off off =
        list_only desc s at kind a ready b 1 calm 23 (LeavesMember desc s number rec) was (omega arith) (λ told db spelt member.
        record { is = left_says desc ready.served s at kind db a told spelt number rec member b was taken; made = λ on. absurd (clash (sym off ∙ on)) })
      where
        clash : false ≡ true → ⊥
        clash e = absurd (cc e)

    module _ (on : was ≡ true) (others : OtherListsStay s (seen_list a) (seen_list b)) (z : Overlay B g) (onward : (x y z : B) → g.same_blocks x y → g.same_blocks y z → g.same_blocks x z) where
      -- or was taken out, and then its owner's slot couldn't be written,
      pub leave_stopped : (e : BlockFault) → TakesSteps desc (owner_steps s.owner rec.owner Disowned) 1 (Err e) b z → ChangesEntries desc 23 (LeavesMember desc s number rec) (Err e) a z
      leave_stopped e steps = steps_failed desc s at kind a ready b 1 calm 23 (LeavesMember desc s number rec) (owner_steps s.owner rec.owner Disowned) e z onward (omega arith) steps

      -- or was.
      pub leave_counted : (done : Bool) → TakesSteps desc (owner_steps s.owner rec.owner Disowned) 1 (Ok done) b z → ChangesEntries desc 23 (LeavesMember desc s number rec) (Ok done) a z
      leave_counted done steps =
          steps_done desc s at kind a ready b 1 calm 23 (LeavesMember desc s number rec) (owner_steps s.owner rec.owner Disowned) done done z onward (omega arith) steps (λ told db spelt member.
          let says = left_says desc ready.served s at kind db a told spelt number rec member b was taken in
          let has = sym says ∙ on in
          let list = left_list desc ready.served s at kind db a told spelt number rec member b was taken has in
          let gone = taken_is desc ready.served s at kind db a told spelt number rec member has b 1 calm others (overlay_content z) done list (steps.altered (calm.told ∙ told)) in
          record { is = gone.0 ∙ sym has; made = λ yes. gone.1 })
