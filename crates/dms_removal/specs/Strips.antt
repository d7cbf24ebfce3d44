-- The promises of the call that takes a record out of the sets, and makes its slot free.
use Rattle.std.proofs.Common.{◌≡◌, ◌∙◌, ◌+◌, ◌*◌, ◌^◌, ◌<◌, ◌≤◌, ℕ, List, Bool, true, false, IsTrue, Some, None, inl, inr, refl, sym, ap, subst, length, replicate, arith}
use Rattle.std.specs.Prelude.{⊤}
use Rattle.std.specs.List.{list_all}
use Rattle.std.specs.declared.option.Option.{Option}
use Rattle.std.specs.declared.result.Result.{Result}
use Rattle.std.specs.declared.result.Result.TheVariants.{Ok, Err}
use Rattle.std.specs.FinMap.{get}
use Rattle.std.proofs.lemmas.Bool.{cases_eq}
use Rattle.std.proofs.lemmas.Option.{same_Some}
use Rattle.dms_block.specs.Content.{Content}
use Rattle.dms_block.specs.Held.{BlocksAgree, HasCausesOr}
use Rattle.dms_block.specs.HeldLaws.{causes_or_on, lasts_none, same_none}
use Rattle.dms_block.specs.View.{WritesOverlay, overlay_content, under}
use Rattle.dms_block.specs.ViewLaws.{counts_seen}
use Rattle.dms_block.specs.declared.block_fault.BlockFault.{BlockFault}
use Rattle.dms_block.specs.declared.blocks.Blocks.{Ghosts}
use Rattle.dms_block.specs.declared.overlay.Overlay.{Overlay}
use Rattle.dms_chain.specs.SeenLaws.{causes_err}
use Rattle.dms_desc.specs.Files.{file_of}
use Rattle.dms_desc.specs.Lookups.{structure_of}
use Rattle.dms_desc.specs.Shape.{Shape, Described}
use Rattle.dms_desc.specs.declared.record.Record.{Record}
use Rattle.dms_layout.specs.Slots.{slot_width}
use Rattle.dms_layout.specs.declared.slot.Slot.{Slot}
use Rattle.dms_layout.specs.declared.slot.SlotRead.TheVariants.{Used, Bad}
use Rattle.dms_links.specs.Altering.{WritesSlots, causes_after, writes_as, writes_err, writes_then}
use Rattle.dms_links.specs.AlteringIn.{is_slot, slot_most, slot_set}
use Rattle.dms_links.specs.Linking.{number_at}
use Rattle.dms_links.specs.Rows.{file_in}
use Rattle.dms_links.specs.Stands.{tally_of}
use Rattle.dms_links.specs.Stepping.{AreSlotFiles, none_bad_of}
use Rattle.dms_links.specs.Steps.{SlotIs}
use Rattle.dms_model.specs.Db.{Db}
use Rattle.dms_sets.specs.Changes.{has_number}
use Rattle.dms_sets.specs.Keeping.{Calm, EndsInFault, FromBelow, seen_list}
use Rattle.dms_sets.specs.Told.{AreListed, ChangeStands, IfJudged, KeepsListed}
use Rattle.dms_sets.specs.declared.answer.SetAnswer.TheVariants.{Done, Duplicate}
use Rattle.dms_slots.specs.Seen.{BadAt, count_of, with_slot}
use Rattle.dms_slots.specs.SlotBlocks.{MayPutSlot, block_of, is_block, slot_at}
use Rattle.dms_spelling.specs.Grown.{are_listed}
use Rattle.dms_spelling.specs.Calls.{calm_writes, fails_writes}
use Rattle.dms_spelling.specs.Holds.{change_stands}
use Rattle.dms_spelling.specs.Ready.{IsReady}
use Rattle.dms_spelling.specs.ServingLaws.{served_at}
use Rattle.dms_spelling.specs.Spelled.{database_in}
use Rattle.dms_spelling.specs.Staying.{files_stay}
use Rattle.dms_removal.specs.Freed.{FreesOne, freed_one, frees_none, frees_then}
use Rattle.dms_removal.specs.Stripping.{IsUsed, StripsRecord, freed_change, is_stripped, may_put, set_still, still_files}
use Rattle.dms_removal.specs.Using.{spelt_files}

-- blocks of slots stay so where one slot was made free
slot_leaves : (desc : Described) (set number : ℕ) (s : Shape) (o : Option Slot) (c d : Content) → structure_of desc set ≡ Some s → SlotIs s number o c d → AreSlotFiles desc c → AreSlotFiles desc d
slot_leaves desc set number s o c d at is files = record {
  have = files.have;
  each = λ n t there kind. elim (cases_eq n set) [
    | inl same ↦ subst (λ (y : Shape). list_all (is_block y) (file_in d y) ≡ true) (same_Some s t (sym at ∙ ap (structure_of desc) (sym same) ∙ there)) is.blocks
    | inr apart ↦
        let mine = number_at desc files.have.numbered set s at in
        let its = number_at desc files.have.numbered n t there in
        ap (list_all (is_block t)) (is.files (file_of t.number) (λ e. apart (omega (arith, e, mine, its)))) ∙ files.each n t there kind
  ];
}

module _ {B : Type 0} {g : Ghosts B} where
  -- one write over the blocks
  put_writes : {T : Type 0} {k w : ℕ} (P : ℕ → ℕ → Type 0) (r : Result T BlockFault) (a b : Overlay B g) → WritesOverlay k w r a b → HasCausesOr P r (under a) (under b) → WritesSlots w r a b
  put_writes {k = k} P r a b writes causes = record { reads = k; writes = writes; causes = causes_or_on P (λ f n. ⊤) r (under a) (under a) (under b) (λ f n h. tt) refl (lasts_none (under a)) (same_none (under a)) causes }

not_bad : (x : Slot) → Used x ≡ Bad → ⊥
not_bad x h = absurd (cc h)

module _ {B : Type 0} {g : Ghosts B} (desc : Described) (set number : ℕ) (s : Shape) (rec : Record) (n : ℕ) (le : 22 * n ≤ 44 * length desc.structures) (a : Overlay B g) (ready : IsReady desc a) (at : structure_of desc set ≡ Some s) (one : is_slot s number ≡ true) where
  small : number < 2 ^ 32
  small = omega (arith, slot_most s number one, (served_at desc set s ready.served at).population)

  judged : (told : IsTrue (under a).told) (db : Db) → database_in desc (overlay_content a) ≡ Some db → get db.records (set, number) ≡ Some rec → ChangeStands desc db set number (Some rec) None
  judged told db spelt is = change_stands desc ready.served db (tally_of desc db) (overlay_content a) (spelt_files desc a ready told db spelt).slots set number (Some rec) None small is tt

  listed : (told : IsTrue (under a).told) (db : Db) → database_in desc (overlay_content a) ≡ Some db → AreListed desc db (seen_list a)
  listed told db spelt = let files = spelt_files desc a ready told db spelt in are_listed desc ready.served db a told files.lists files.fit

  -- the sets failed
  pub strip_failed : (e : BlockFault) (b : Overlay B g) → EndsInFault e n a b → IfJudged desc set number (Some rec) None (seen_list a) (λ db. FromBelow e a b) → StripsRecord desc set number rec (Err e) a b
  strip_failed e b fails below = record {
    writes = fails_writes e n (44 * length desc.structures + 1) a b ready.sound (omega (arith, le)) fails;
    taken = tt;
    files = tt;
    stripped = tt;
    below = λ told db spelt is. causes_err (Unit {0}) Bool (λ f k. ⊥) (λ f k. ⊥) e (under a) (under b) (λ f k h. h) (below db (judged told db spelt is) (listed told db spelt) ready.sound);
  }

  module _ (b : Overlay B g) (calm : Calm (has_number desc.structures set) n a b) where
    wrote : WritesSlots {T = Unit {0}} (44 * length desc.structures) (Ok tt) a b
    wrote = calm_writes {T = Unit {0}} (has_number desc.structures set) n (44 * length desc.structures) tt a b ready.sound le calm

    told_b : IsTrue (under a).told → IsTrue (under b).told
    told_b told = calm.told ∙ told

    stay_b : IsTrue (under a).told → FreesOne desc set number (overlay_content a) (overlay_content b)
    stay_b told = frees_none desc set number (overlay_content a) (overlay_content b) (files_stay desc (overlay_content a) (overlay_content b) (set_still desc set number s n a b ready at one told calm))

    slots_b : (told : IsTrue (under a).told) (db : Db) → database_in desc (overlay_content a) ≡ Some db → AreSlotFiles desc (overlay_content b)
    slots_b told db spelt = still_files desc set number s n a b ready at one told calm db spelt

    -- a set refused nothing
    pub strip_refused : (k : ℕ) → KeepsListed desc set number (Some rec) None (seen_list a) (seen_list b) (Duplicate k) → StripsRecord desc set number rec (Ok false) a b
    strip_refused k kept = record {
      writes = calm_writes (has_number desc.structures set) n (44 * length desc.structures + 1) false a b ready.sound (omega (arith, le)) calm;
      taken = λ told. stay_b told;
      files = λ told db spelt is. slots_b told db spelt;
      stripped = λ told db spelt is may. absurd (apart (kept db (judged told db spelt is) (listed told db spelt)).answer_is);
      below = λ told db spelt is. calm.faults;
    }
      where
        apart : Duplicate k ≡ Done → ⊥
        apart h = absurd (cc h)

    -- the slot isn't freed
    pub strip_unfreed : {j : ℕ} (e : BlockFault) (d : Overlay B g) → ((x y z : B) → g.same_blocks x y → g.same_blocks y z → g.same_blocks x z) → WritesOverlay {T = Unit {0}} j 1 (Err e) b d → HasCausesOr {T = Unit {0}} (BadAt s (block_of s.items number) b) (Err e) (under b) (under d)
        → StripsRecord desc set number rec (Err e) a d
    strip_unfreed e d onward writes causes =
        let put = writes_err {U = Bool} 1 e b d (put_writes {T = Unit {0}} (BadAt s (block_of s.items number) b) (Err e) b d writes causes) in
        record {
          writes = writes_then {T = Unit {0}} (44 * length desc.structures) 1 (44 * length desc.structures + 1) (Err e) a b d onward (omega arith) wrote put;
          taken = tt;
          files = tt;
          stripped = tt;
          below = λ told db spelt is.
              let mine = causes_err (Unit {0}) Bool (BadAt s (block_of s.items number) b) (λ f k. ⊥) e (under b) (under d)
              (λ f k bad. none_bad_of desc b set (told_b told) (slots_b told db spelt) f k (s, at, slot_set s number one, bad.0)) causes in
              causes_after {T = Unit {0}} {U = Bool} (44 * length desc.structures) (Err e) a b d wrote mine;
        }

    -- or it is
    pub strip_done : {j : ℕ} (d : Overlay B g) → ((x y z : B) → g.same_blocks x y → g.same_blocks y z → g.same_blocks x z) → BlocksAgree (under a) → block_of s.items number < count_of s a → (IsTrue (under a).told → IsUsed s number (overlay_content a))
        → KeepsListed desc set number (Some rec) None (seen_list a) (seen_list b) Done → WritesOverlay {T = Unit {0}} j 1 (Ok tt) b d → (under d).faults ≡ (under b).faults
        → (IsTrue (under b).told → overlay_content d ≡ with_slot s number (replicate (slot_width s.items) 0) b) → StripsRecord desc set number rec (Ok true) a d
    strip_done d onward agrees there was kept writes causes seen =
        record {
          writes = writes_as (44 * length desc.structures + 1) true a d (writes_then {T = Unit {0}} (44 * length desc.structures) 1 (44 * length desc.structures + 1) (Ok tt) a b d onward (omega arith) wrote put);
          taken = λ told. frees_then desc set number (overlay_content a) (overlay_content b) (overlay_content d) (stay_b told) (subst (λ (x : Content). FreesOne desc set number (overlay_content b) x) (sym (seen (told_b told))) (freed_one desc ready.served.numbered set number s (overlay_content b) at (may told)));
          files = λ told db spelt is. slot_leaves desc set number s None (overlay_content b) (overlay_content d) at (freed_change desc set number s n a b ready at one told calm db spelt (overlay_content d) (next told) (seen (told_b told))) (slots_b told db spelt);
          stripped = λ told db spelt is go. (refl, is_stripped desc set number s n a b ready at one told calm db spelt (overlay_content d) (next told) (seen (told_b told)) go ((kept db (judged told db spelt is) (listed told db spelt)).lists refl));
          below = λ told db spelt is. causes ∙ calm.faults;
        }
      where
        put : WritesSlots {T = Unit {0}} 1 (Ok tt) b d
        put = put_writes {T = Unit {0}} (λ f k. ⊤) (Ok tt) b d writes causes

        same_file : IsTrue (under a).told → file_in (overlay_content b) s ≡ file_in (overlay_content a) s
        same_file told = set_still desc set number s n a b ready at one told calm set s at (slot_set s number one)

        next : IsTrue (under a).told → block_of s.items number ≤ length (file_in (overlay_content b) s)
        next told = omega (arith, there, counts_seen a agrees told (file_of s.number), ap length (same_file told))

        may : IsTrue (under a).told → MayPutSlot s (overlay_content b) number
        may told =
            let used = was told in
            may_put desc ready.served set number s (overlay_content b) at one (next told) (λ bad. not_bad used.0 (sym used.1 ∙ ap (λ (bs : List (List ℕ)). slot_at s bs number) (sym (same_file told)) ∙ bad))
