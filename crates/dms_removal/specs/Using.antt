-- Whether a record is in use: by its slot, and by the lists of manual subsets.
use Rattle.std.proofs.Common.{◌≡◌, ◌∙◌, ◌*◌, ◌≤◌, ℕ, suc, Bool, true, false, cond, IsTrue, Some, None, refl, sym, ap, subst, length}
use Rattle.std.specs.Prelude.{◌||◌, ⊤, IfErr, IfOk, OnOk, is_some, nat_lt}
use Rattle.std.proofs.lemmas.Result.{IfOk-weaker}
use Rattle.std.specs.List.{list_any}
use Rattle.std.specs.declared.option.Option.{Option}
use Rattle.std.specs.declared.result.Result.{Result}
use Rattle.std.specs.declared.result.Result.TheVariants.{Ok, Err}
use Rattle.std.proofs.lemmas.Option.{same_Some}
use Rattle.dms_block.specs.Content.{Content}
use Rattle.dms_block.specs.Held.{HasCausesOr}
use Rattle.dms_block.specs.View.{ReadsOverlay, overlay_content, under}
use Rattle.dms_block.specs.ViewLaws.{seen_still}
use Rattle.dms_block.specs.declared.block_fault.BlockFault.{BlockFault}
use Rattle.dms_block.specs.declared.blocks.Blocks.{Ghosts}
use Rattle.dms_block.specs.declared.overlay.Overlay.{Overlay}
use Rattle.dms_chain.specs.SeenLaws.{causes_err, causes_since}
use Rattle.dms_desc.specs.Lookups.{structure_of}
use Rattle.dms_desc.specs.Shape.{Shape, Described}
use Rattle.dms_layout.specs.declared.slot.Slot.{Slot}
use Rattle.dms_layout.specs.declared.slot.SlotRead.TheVariants.{Free, Used}
use Rattle.dms_layout.specs.ReadLaws.{used_one}
use Rattle.dms_links.specs.Altering.{WritesSlots, failed_read, read_alone, read_then, wrote_none}
use Rattle.dms_links.specs.AlteringIn.{is_slot, slot_low, slot_set}
use Rattle.dms_links.specs.Linking.{number_at, structure_here}
use Rattle.dms_links.specs.Rows.{file_in, rec_in, rec_opt}
use Rattle.dms_links.specs.Stepping.{none_bad_of}
use Rattle.dms_links.specs.Standing.{SlotThere, slot_there}
use Rattle.dms_links.specs.Stands.{tally_of}
use Rattle.dms_manual.specs.Naming.{AreManual, HasWidth, IfManual, ManualStands, is_manual_over, kinds_are}
use Rattle.dms_model.specs.Db.{Db}
use Rattle.dms_model.specs.Fitting.{HasRecord}
use Rattle.dms_model.specs.Uses.{in_use, is_entered}
use Rattle.dms_sets.specs.Keeping.{Calm, EndsInFault, FromBelow, seen_list}
use Rattle.dms_sets.specs.Padded.{entry_width}
use Rattle.dms_sets.specs.Told.{OfStructures}
use Rattle.dms_slots.specs.Seen.{BadAt}
use Rattle.dms_slots.specs.SlotBlocks.{block_of, slot_at}
use Rattle.dms_spelling.specs.After.{slot_files}
use Rattle.dms_spelling.specs.Grown.{are_manual}
use Rattle.dms_spelling.specs.Calls.{calm_writes, fails_writes}
use Rattle.dms_spelling.specs.Back.{spelled_files}
use Rattle.dms_spelling.specs.Holds.{manual_kind, manual_stands}
use Rattle.dms_spelling.specs.Serving.{IsServed}
use Rattle.dms_spelling.specs.ServingLaws.{manual_at}
use Rattle.dms_spelling.specs.Spelled.{database_in}
use Rattle.dms_spelling.specs.Stands.{StandsFiles}
use Rattle.dms_tally.specs.Counts.{counted_in, owned_in}
use Rattle.dms_tally.specs.Used.{in_use_is}
use Rattle.dms_removal.specs.Promises.{LooksForUse}
use Rattle.dms_spelling.specs.Ready.{IfHolds, IsReady, ready_since}

-- ---- the slot of a record that stands

module _ (desc : Described) (served : IsServed desc) (db : Db) (c : Content) (spelt : database_in desc c ≡ Some db) where
  abbrev pub files : StandsFiles desc db (tally_of desc db) c
  files = spelled_files desc c db served spelt

  module _ (set number : ℕ) (holds : HasRecord db set number) where
    abbrev pub there : SlotThere desc db (tally_of desc db) c set number
    there = slot_there desc db (tally_of desc db) c files.slots set number holds

    -- so there is such a data set,
    pub some_set : structure_of desc set ≡ None → ⊥
    some_set off = apart there.shape (sym off ∙ there.at)
      where
        apart : (u : Shape) → ◌≡◌ {A = Option Shape} None (Some u) → ⊥
        apart u h = absurd (cc h)

    its_shape : (s : Shape) → structure_of desc set ≡ Some s → there.shape ≡ s
    its_shape s at = same_Some there.shape s (sym there.at ∙ at)

    -- its number is one of the data set's,
    pub some_number : (s : Shape) → structure_of desc set ≡ Some s → is_slot s number ≡ false → ⊥
    some_number s at off =
        let on : is_slot s number ≡ true = ap (λ (x : Shape). is_slot x number) (sym (its_shape s at)) ∙ there.one in
        absurd (cc (off, on))

    -- its slot isn't free,
    pub some_slot : (s : Shape) → structure_of desc set ≡ Some s → slot_at s (file_in c s) number ≡ Free → ⊥
    some_slot s at free = apart there.slot (sym free ∙ ap (λ (x : Shape). slot_at x (file_in c x) number) (sym (its_shape s at)) ∙ there.was)
      where
        apart : (x : Slot) → Free ≡ Used x → ⊥
        apart x h = absurd (cc h)

    -- and what it counts is what the database has.
    pub slot_counts : (s : Shape) (x : Slot) → structure_of desc set ≡ Some s → slot_at s (file_in c s) number ≡ Used x → (x.counted ≡ counted_in desc db set number) × (x.owned ≡ owned_in desc db set number)
    slot_counts s x at was =
        let same : there.slot ≡ x = used_one there.slot x (sym there.was ∙ ap (λ (u : Shape). slot_at u (file_in c u) number) (its_shape s at) ∙ was) in
        let mine = number_at desc served.numbered set there.shape there.at in (
          ap (λ (y : Slot). y.counted) (sym same) ∙ there.stands.counted ∙ ap (λ t. counted_in desc db t number) mine,
          ap (λ (y : Slot). y.owned) (sym same) ∙ there.stands.owned ∙ ap (λ t. owned_in desc db t number) mine,
        )

-- ---- by what it counts

or_on : (a b c : Bool) → (a || c) ≡ true → ((a || b) || c) ≡ true
or_on true b c h = refl
or_on false true c h = refl
or_on false false c h = h

or_off : (a b c : Bool) → (a || c) ≡ false → ((a || b) || c) ≡ b
or_off true b c h = absurd (cc h)
or_off false true true h = absurd (cc h)
or_off false true false h = refl
or_off false false c h = h

module _ (desc : Described) (db : Db) (set number counted owned : ℕ) (links : counted ≡ counted_in desc db set number) (owns : owned ≡ owned_in desc db set number) where
  same_test : (nat_lt 0 counted || nat_lt 0 owned) ≡ (nat_lt 0 (counted_in desc db set number) || nat_lt 0 (owned_in desc db set number))
  same_test = λ i. nat_lt 0 (links i) || nat_lt 0 (owns i)

  -- A record whose slot counts something is in use,
  pub used_by_slot : (nat_lt 0 counted || nat_lt 0 owned) ≡ true → true ≡ in_use desc db set number
  used_by_slot h = sym (in_use_is desc db set number ∙ or_on (nat_lt 0 (counted_in desc db set number)) (list_any (is_entered desc set number) db.entries) (nat_lt 0 (owned_in desc db set number)) (sym same_test ∙ h))

  -- and one whose slot counts nothing where an entry names it.
  pub used_by_entry : (nat_lt 0 counted || nat_lt 0 owned) ≡ false → list_any (is_entered desc set number) db.entries ≡ in_use desc db set number
  used_by_entry h = sym (in_use_is desc db set number ∙ or_off (nat_lt 0 (counted_in desc db set number)) (list_any (is_entered desc set number) db.entries) (nat_lt 0 (owned_in desc db set number)) (sym same_test ∙ h))

-- ---- the lists of manual subsets

module _ {B : Type 0} {g : Ghosts B} (desc : Described) (a : Overlay B g) (ready : IsReady desc a) where
  -- their entries have few bytes
  pub widths : (set : ℕ) → OfStructures desc (λ s. is_manual_over s set ≡ true → HasWidth desc set s)
  widths set k s at own =
      let wide = (manual_at desc (suc k) s ready.served (structure_here desc.structures k s at) (manual_kind s set own)).width in
      subst (λ kinds. entry_width kinds s.parts ≤ 104) (kinds_are desc s set own) wide

  module _ (told : IsTrue (under a).told) (db : Db) (spelt : database_in desc (overlay_content a) ≡ Some db) where
    pub spelt_files : StandsFiles desc db (tally_of desc db) (overlay_content a)
    spelt_files = spelled_files desc (overlay_content a) db ready.served spelt

    pub lists_manual : (set : ℕ) → AreManual desc db set (seen_list a)
    lists_manual set = are_manual desc ready.served db set a told spelt_files.lists spelt_files.fit

    pub entries_told : (set number : ℕ) → HasRecord db set number → ManualStands desc db set number
    entries_told set number holds = manual_stands desc ready.served db (tally_of desc db) (overlay_content a) spelt_files.slots spelt_files.lists spelt_files.entries set number holds

-- ---- what is promised

-- calls on lists, as calls that write over the blocks
pub list_writes : {B : Type 0} {g : Ghosts B} {T : Type 0} (p : ℕ → Bool) (n m : ℕ) (r : Result T BlockFault) (a b : Overlay B g) → (under a).sound → 22 * n ≤ m → OnOk r (Calm p n a b) → IfErr r (λ e. EndsInFault e n a b) → WritesSlots m r a b
list_writes p n m (Ok x) a b sound le calm fails = calm_writes p n m x a b sound le calm
list_writes p n m (Err e) a b sound le calm fails = fails_writes e n m a b sound le fails

module _ {B : Type 0} {g : Ghosts B} (desc : Described) (set number : ℕ) (a : Overlay B g) (ready : IsReady desc a) where
  abbrev Answers : Bool → Type 0
  Answers used = IfHolds desc set number a (λ db. used ≡ in_use desc db set number)

  -- there is no such record
  pub look_none : ((b : B) → g.same_blocks b b) → structure_of desc set ≡ None → LooksForUse desc set number (Ok false) a a
  look_none again off = record {
    writes = wrote_none (22 * length desc.structures) (Ok false) a again tt refl ready.sound;
    answer = λ told db spelt holds. absurd (some_set desc ready.served db (overlay_content a) spelt set number holds off);
    below = λ told db spelt. refl;
  }

  module _ (s : Shape) (at : structure_of desc set ≡ Some s) where
    pub look_off : ((b : B) → g.same_blocks b b) → is_slot s number ≡ false → LooksForUse desc set number (Ok false) a a
    look_off again off = record {
      writes = wrote_none (22 * length desc.structures) (Ok false) a again tt refl ready.sound;
      answer = λ told db spelt holds. absurd (some_number desc ready.served db (overlay_content a) spelt set number holds s at off);
      below = λ told db spelt. refl;
    }

    module _ (one : is_slot s number ≡ true) where
      -- its slot isn't read
      pub look_failed : {n : ℕ} {T : Type 0} (e : BlockFault) (b : Overlay B g) → ReadsOverlay {T = T} n (Err e) a b → HasCausesOr {T = T} (BadAt s (block_of s.items number) a) (Err e) (under a) (under b) → LooksForUse desc set number (Err e) a b
      look_failed {T = T} e b reads causes = record {
        writes = failed_read (22 * length desc.structures) (BadAt s (block_of s.items number) a) e a b reads causes;
        answer = tt;
        below = λ told db spelt.
            causes_err T Bool (BadAt s (block_of s.items number) a) (λ f k. ⊥) e (under a) (under b)
            (λ f k bad. none_bad_of desc a set told (slot_files desc db (tally_of desc db) (overlay_content a) ready.served (spelt_files desc a ready told db spelt).slots) f k (s, at, slot_set s number one, bad.0)) causes;
      }

      module _ {n : ℕ} {T : Type 0} {x : T} (b : Overlay B g) (reads : ReadsOverlay n (Ok x) a b) (causes : (under b).faults ≡ (under a).faults) where
        -- none stands there
        pub look_free : (IsTrue (under a).told → slot_at s (file_in (overlay_content a) s) number ≡ Free) → LooksForUse desc set number (Ok false) a b
        look_free free = record {
          writes = read_alone (22 * length desc.structures) false a b reads causes;
          answer = λ told db spelt holds. absurd (some_slot desc ready.served db (overlay_content a) spelt set number holds s at (free told));
          below = λ told db spelt. causes;
        }

        module _ (slot : Slot) (was : IsTrue (under a).told → slot_at s (file_in (overlay_content a) s) number ≡ Used slot) where
          counts : IsTrue (under a).told → (db : Db) → database_in desc (overlay_content a) ≡ Some db → HasRecord db set number → (slot.counted ≡ counted_in desc db set number) × (slot.owned ≡ owned_in desc db set number)
          counts told db spelt holds = slot_counts desc ready.served db (overlay_content a) spelt set number holds s slot at (was told)

          -- its slot counts something,
          pub look_counts : (nat_lt 0 slot.counted || nat_lt 0 slot.owned) ≡ true → LooksForUse desc set number (Ok true) a b
          look_counts some = record {
            writes = read_alone (22 * length desc.structures) true a b reads causes;
            answer = λ told db spelt holds. (let k = counts told db spelt holds in used_by_slot desc db set number slot.counted slot.owned k.0 k.1 some);
            below = λ told db spelt. causes;
          }

          told_b : IsTrue (under a).told → IsTrue (under b).told
          told_b told = reads.looks.passes.lasts.told ∙ told

          seen_b : IsTrue (under a).told → overlay_content b ≡ overlay_content a
          seen_b told = seen_still reads told

          pub ready_b : IsReady desc b
          ready_b = ready_since desc a b reads.looks ready

          -- or the lists are asked
          pub look_lists : (r : Result Bool BlockFault) (c : Overlay B g) → ((x y z : B) → g.same_blocks x y → g.same_blocks y z → g.same_blocks x z) → (nat_lt 0 slot.counted || nat_lt 0 slot.owned) ≡ false → WritesSlots (22 * length desc.structures) r b c
              → IfOk r (λ used. IfManual desc set number (seen_list b) (λ db. used ≡ list_any (is_entered desc set number) db.entries)) → IfErr r (λ e. IfManual desc set number (seen_list b) (λ db. FromBelow e b c)) → LooksForUse desc set number r a c
          look_lists r c onward none writes answer below = record {
            writes = read_then (22 * length desc.structures) r a b c onward reads causes writes;
            answer = IfOk-weaker r _ _ (λ used h told db spelt holds.
                let spelt_b : database_in desc (overlay_content b) ≡ Some db = ap (database_in desc) (seen_b told) ∙ spelt in
                let k = counts told db spelt holds in
                h db (entries_told desc b ready_b (told_b told) db spelt_b set number holds) (lists_manual desc b ready_b (told_b told) db spelt_b set) ∙ used_by_entry desc db set number slot.counted slot.owned k.0 k.1 none) answer;
            below = λ told db spelt.
                let spelt_b : database_in desc (overlay_content b) ≡ Some db = ap (database_in desc) (seen_b told) ∙ spelt in
                let holds = holds_slot told db spelt in
                causes_since (λ f k. ⊥) (λ f k. ⊥) r a b c (λ f k z. z) causes reads
                (by_result r writes.causes (if_weaker r (λ e h. h db (entries_told desc b ready_b (told_b told) db spelt_b set number holds) (lists_manual desc b ready_b (told_b told) db spelt_b set) ready_b.sound) below));
          }
            where
              -- the record of the slot stands
              holds_slot : IsTrue (under a).told → (db : Db) → database_in desc (overlay_content a) ≡ Some db → HasRecord db set number
              holds_slot told db spelt =
                  let files = spelt_files desc a ready told db spelt in
                  ap is_some (files.slots.records set number (slot_low s number one) ∙ ap (λ (u : Option Shape). rec_in (overlay_content a) u number) at ∙ ap (λ z. cond z (rec_opt (slot_at s (file_in (overlay_content a) s) number)) None) (slot_set s number one) ∙ ap rec_opt (was told))

              if_weaker : (q : Result Bool BlockFault) {P Q : BlockFault → Type 0} → ((e : BlockFault) → P e → Q e) → IfErr q P → IfErr q Q
              if_weaker (Ok y) f h = tt
              if_weaker (Err e) f h = f e h

              by_result : (q : Result Bool BlockFault) → HasCausesOr (λ f k. ⊤) q (under b) (under c) → IfErr q (λ e. HasCausesOr {T = Unit {0}} (λ f k. ⊥) (Err e) (under b) (under c)) → HasCausesOr (λ f k. ⊥) q (under b) (under c)
              by_result (Ok y) h k = h
              by_result (Err e) h k = causes_err (Unit {0}) Bool (λ f n. ⊥) (λ f n. ⊥) e (under b) (under c) (λ f n z. z) k
