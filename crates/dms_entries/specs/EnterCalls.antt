-- What an entry that is made in a list, and counted by its owner, is as one call.
use Rattle.std.proofs.Common.{◌≡◌, ◌∙◌, ◌-◌, ℕ, List, Bool, true, false, IsTrue, Some, None, refl, sym, ap, subst, arith}
use Rattle.std.specs.Prelude.{◌==◌, is_some}
use Rattle.std.specs.FinMap.{get}
use Rattle.std.specs.declared.option.Option.{Option}
use Rattle.std.proofs.lemmas.Bool.Decides.{nat_tests}
use Rattle.std.specs.declared.result.Result.TheVariants.{Ok, Err}
use Rattle.dms_base.specs.declared.kind.ItemKind.{ItemKind}
use Rattle.dms_block.specs.Content.{Content}
use Rattle.dms_block.specs.View.{overlay_content, under}
use Rattle.dms_block.specs.declared.block_fault.BlockFault.{BlockFault}
use Rattle.dms_block.specs.declared.blocks.Blocks.{Ghosts}
use Rattle.dms_block.specs.declared.overlay.Overlay.{Overlay}
use Rattle.dms_desc.specs.Lookups.{items_of, over_of, set_of, structure_of}
use Rattle.dms_desc.specs.Shape.{Shape, Described}
use Rattle.dms_desc.specs.declared.record.Record.{Record}
use Rattle.dms_desc_bytes.specs.Finding.{owner_in as owner_of}
use Rattle.dms_links.specs.Linking.{number_at}
use Rattle.dms_links.specs.Stands.{tally_of}
use Rattle.dms_links.specs.Taking.{TakesSteps}
use Rattle.dms_links.specs.declared.altering.SlotChange.TheVariants.{Owned}
use Rattle.dms_manual.specs.Entered.{as_member, manual_of}
use Rattle.dms_manual.specs.Entering.{Enters as ListEnters, IfRoomy}
use Rattle.dms_manual.specs.Moves.{with_entry_of}
use Rattle.dms_model.specs.Changing.{MayEnter}
use Rattle.dms_model.specs.Db.{Db}
use Rattle.dms_model.specs.Fitting.{IsStored, RecordFits}
use Rattle.dms_model.specs.Valid.{is_data_set, is_manual, owner_stands}
use Rattle.dms_model.specs.declared.put.Put.{Put}
use Rattle.dms_model.specs.declared.put.Put.TheVariants.{Stored, Full}
use Rattle.dms_sets.specs.Changes.{HasEntry, OtherListsStay, list_of_set}
use Rattle.dms_sets.specs.Entries.{kinds_of}
use Rattle.dms_sets.specs.Keeping.{Calm, EndsInFault, FromBelow, seen_list}
use Rattle.dms_sets.specs.Sets.{kinds_over}
use Rattle.dms_spelling.specs.Back.{spelled_files}
use Rattle.dms_spelling.specs.Holds.{may_be_entered}
use Rattle.dms_spelling.specs.Ready.{IsReady}
use Rattle.dms_spelling.specs.Serving.{IsServed}
use Rattle.dms_spelling.specs.ServingLaws.{manual_at, structure_there}
use Rattle.dms_spelling.specs.Spelled.{database_in}
use Rattle.dms_entries.specs.Calls.{list_failed, list_only, steps_done, steps_failed}
use Rattle.dms_entries.specs.Entered.{list_made, list_says, made_is}
use Rattle.dms_entries.specs.OneList.{is_of_manual, list_room, list_seen, manual_over, over_manual}
use Rattle.dms_entries.specs.Owners.{owner_steps}
use Rattle.dms_entries.specs.Promises.{ChangesEntries, Enters, EntersMember, EntryMade, IsMember}

-- ---- a manual subset and its data set

pub kinds_are : (desc : Described) (s : Shape) → s.kind ≡ 5 → kinds_of (items_of (structure_of desc s.set)) ≡ kinds_over desc s
kinds_are desc s kind = ap (λ n. kinds_of (items_of (structure_of desc n))) (sym (over_manual s kind))

pub over_set : (desc : Described) (s : Shape) → IsServed desc → structure_of desc s.number ≡ Some s → s.kind ≡ 5 → IsTrue (is_data_set (structure_of desc s.set))
over_set desc s served at kind = (manual_at desc s.number s served at (is_of_manual s kind)).data_set

-- a record that its data set may hold may have an entry
pub entry_fits : (desc : Described) (s : Shape) (ks : List ItemKind) (rec : Record) → IsServed desc → structure_of desc s.number ≡ Some s → s.kind ≡ 5 → ks ≡ kinds_of (items_of (structure_of desc s.set)) → RecordFits desc s.set rec → HasEntry ks s rec.values
entry_fits desc s ks rec served at kind kinds fits =
    subst (λ (x : List ItemKind). HasEntry x s rec.values) (sym kinds) (by (structure_of desc s.set) refl (over_set desc s served at kind))
  where
    by : (o : Option Shape) → structure_of desc s.set ≡ o → is_data_set o ≡ true → HasEntry (kinds_of (items_of (structure_of desc s.set))) s rec.values
    by None there is = absurd (cc is)
    by (Some t) there is = may_be_entered desc s.set t rec served there fits (s.number - 1) s (structure_there desc.structures s.number s at) (manual_over s kind)

-- ---- a record that was read

pub manual_five : (desc : Described) (subset : ℕ) (s : Shape) → structure_of desc subset ≡ Some s → IsTrue (is_manual (structure_of desc subset)) → s.kind ≡ 5
manual_five desc subset s at manual = let is : is_manual (Some s) ≡ true = sym (ap is_manual at) ∙ manual in grind (arith, nat_tests, is)

pub own_at : (desc : Described) → IsServed desc → (subset : ℕ) (s : Shape) → structure_of desc subset ≡ Some s → structure_of desc s.number ≡ Some s
own_at desc served subset s at = ap (structure_of desc) (number_at desc served.numbered subset s at) ∙ at

module _ (desc : Described) (subset : ℕ) (s : Shape) (at : structure_of desc subset ≡ Some s) (kind : s.kind ≡ 5) (owner number : ℕ) (db : Db) where
  set_is : set_of desc subset ≡ s.set
  set_is = ap over_of at ∙ over_manual s kind

  -- none stands
  pub no_member : None ≡ get db.records (s.set, number) → MayEnter desc db subset owner number → ⊥
  no_member none may = clash (ap is_some none ∙ ap (λ t. is_some (get db.records (t, number))) (sym set_is) ∙ may.member)
    where
      clash : false ≡ true → ⊥
      clash h = absurd (cc h)

  -- or this one, for an owner that stands
  pub is_member : (rec : Record) → Some rec ≡ get db.records (s.set, number) → MayEnter desc db subset owner number → IsMember db s number (record rec { owner = owner })
  is_member rec there may = record {
    stands = ap (as_member owner) (sym there);
    owner = sym (ap (λ (o : Option Shape). owner_stands db.records (owner_of o) owner) at) ∙ may.owned;
  }

pub enters_as : (desc : Described) → IsServed desc → (subset : ℕ) (s : Shape) → structure_of desc subset ≡ Some s → s.kind ≡ 5 → (owner number : ℕ) (db : Db) (rec : Record) (d : Content) (p : Put) → Some rec ≡ get db.records (s.set, number)
    → EntersMember desc s number (record rec { owner = owner }) db d p → Enters desc subset owner number db d p
enters_as desc served subset s at kind owner number db rec d p there h may =
    subst (λ n. EntryMade desc db n owner number d p) (number_at desc served.numbered subset s at) (h (is_member desc subset s at kind owner number db rec there may))

-- ---- the call on the list, and the one on the slot of the owner

module _ {B : Type 0} {g : Ghosts B} (desc : Described) (s : Shape) (at : structure_of desc s.number ≡ Some s) (kind : s.kind ≡ 5) (a : Overlay B g) (ready : IsReady desc a) (ks : List ItemKind) (kinds : ks ≡ kinds_over desc s) (number : ℕ) (rec : Record) where
  -- the list couldn't be changed,
  pub enter_failed : (e : BlockFault) (b : Overlay B g) → EndsInFault e 3 a b → IfRoomy (list_of_set (seen_list a) ks s) (λ xs. FromBelow e a b) → ChangesEntries desc 67 (EntersMember desc s number rec) (Err e) a b
  enter_failed e b ends below =
      list_failed desc s at kind a ready 3 67 (EntersMember desc s number rec) e b (omega arith) ends (λ told db spelt.
      let files = spelled_files desc (overlay_content a) db ready.served spelt in
      below (manual_of desc db s) (ap (λ k. list_of_set (seen_list a) k s) kinds ∙ list_seen desc ready.served s at kind db (tally_of desc db) a told files) (list_room desc ready.served s at kind db (tally_of desc db) a told files))

  module _ (b : Overlay B g) (calm : Calm (λ m. m == s.number) 3 a b) (others : OtherListsStay s (seen_list a) (seen_list b)) (p : Put) (h : ListEnters ks s number rec (seen_list a) (seen_list b) p) where
    entered : ListEnters (kinds_over desc s) s number rec (seen_list a) (seen_list b) p
    entered = subst (λ (k : List ItemKind). ListEnters k s number rec (seen_list a) (seen_list b) p) kinds h

    -- the entry was refused,
    pub enter_refused : (IsStored p → ⊥) → ChangesEntries desc 67 (EntersMember desc s number rec) (Ok p) a b
    enter_refused none =
        list_only desc s at kind a ready b 3 calm 67 (EntersMember desc s number rec) p (omega arith) (λ told db spelt member.
        record { is = list_says desc ready.served s at kind db a told spelt number rec member b 3 calm others p entered; made = λ stored. absurd (none stored) })

  module _ (b : Overlay B g) (calm : Calm (λ m. m == s.number) 3 a b) (others : OtherListsStay s (seen_list a) (seen_list b)) (x : ℕ) (h : ListEnters ks s number rec (seen_list a) (seen_list b) (Stored x)) (z : Overlay B g)
      (onward : (x y z : B) → g.same_blocks x y → g.same_blocks y z → g.same_blocks x z) where
    -- or was made, and then its owner's slot couldn't be written,
    pub enter_stopped : (e : BlockFault) → TakesSteps desc (owner_steps s.owner rec.owner Owned) 1 (Err e) b z → ChangesEntries desc 67 (EntersMember desc s number rec) (Err e) a z
    enter_stopped e steps = steps_failed desc s at kind a ready b 3 calm 67 (EntersMember desc s number rec) (owner_steps s.owner rec.owner Owned) e z onward (omega arith) steps

    module _ (done : Bool) (steps : TakesSteps desc (owner_steps s.owner rec.owner Owned) 1 (Ok done) b z) where
      all_made : IsTrue (under a).told → (db : Db) → (spelt : database_in desc (overlay_content a) ≡ Some db) → IsMember db s number rec → (done ≡ true) × EntryMade desc db s.number rec.owner number (overlay_content z) (Stored x)
      all_made told db spelt member =
          let list = subst (λ (k : List ItemKind). ListEnters k s number rec (seen_list a) (seen_list b) (Stored x)) kinds h in
          let says = list_says desc ready.served s at kind db a told spelt number rec member b 3 calm others (Stored x) list in
          let one = list_made desc ready.served s at kind db a told spelt number rec member b 3 calm others x list in
          let made = made_is desc ready.served s at kind db a told spelt number rec member b 3 calm others (overlay_content z) done x (sym says) one.1 (steps.altered (calm.told ∙ told)) in
          (made.0, record { is = says; made = λ stored. made.1 ∙ ap (λ k. Some (with_entry_of db s.number rec.owner k)) (sym one.0) })

      -- or wasn't,
      pub enter_uncounted : done ≡ false → ChangesEntries desc 67 (EntersMember desc s number rec) (Ok Full) a z
      enter_uncounted off =
          steps_done desc s at kind a ready b 3 calm 67 (EntersMember desc s number rec) (owner_steps s.owner rec.owner Owned) done Full z onward (omega arith) steps (λ told db spelt member. absurd (clash (sym off ∙ (all_made told db spelt member).0)))
        where
          clash : false ≡ true → ⊥
          clash h = absurd (cc h)

      -- or was.
      pub enter_counted : ChangesEntries desc 67 (EntersMember desc s number rec) (Ok (Stored x)) a z
      enter_counted = steps_done desc s at kind a ready b 3 calm 67 (EntersMember desc s number rec) (owner_steps s.owner rec.owner Owned) done (Stored x) z onward (omega arith) steps (λ told db spelt member. (all_made told db spelt member).1)
