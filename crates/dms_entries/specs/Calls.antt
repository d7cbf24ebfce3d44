-- Calls that change entries, out of those that they are made of.
use Rattle.std.proofs.Common.{◌≡◌, ◌∙◌, ◌+◌, ◌*◌, ◌≤◌, ℕ, List, Bool, true, IsTrue, Some, None, refl, ap, arith}
use Rattle.std.specs.Prelude.{◌==◌}
use Rattle.std.specs.FinMap.{get}
use Rattle.std.specs.declared.option.Option.{Option}
use Rattle.std.specs.declared.result.Result.{Result}
use Rattle.std.specs.declared.result.Result.TheVariants.{Ok, Err}
use Rattle.std.proofs.lemmas.Result.{IfOk-weaker}
use Rattle.dms_block.specs.Content.{Content}
use Rattle.dms_block.specs.HeldLaws.{causes_or_on, told_after}
use Rattle.dms_block.specs.View.{ReadsOverlay, overlay_content, under}
use Rattle.dms_block.specs.ViewLaws.{seen_still}
use Rattle.dms_block.specs.declared.block_fault.BlockFault.{BlockFault}
use Rattle.dms_block.specs.declared.block_fault.BlockFault.TheVariants.{Memory}
use Rattle.dms_block.specs.declared.blocks.Blocks.{Ghosts}
use Rattle.dms_block.specs.declared.overlay.Overlay.{Overlay}
use Rattle.dms_chain.specs.SeenLaws.{causes_err}
use Rattle.dms_desc.specs.Lookups.{structure_of}
use Rattle.dms_desc.specs.Shape.{Shape, Described}
use Rattle.dms_desc.specs.declared.record.Record.{Record}
use Rattle.dms_links.specs.Altering.{WritesSlots, causes_after, failed_read, read_alone, read_then, writes_as, writes_err, writes_then, wrote_none}
use Rattle.dms_links.specs.AlteringIn.{BadOf}
use Rattle.dms_links.specs.Stands.{tally_of}
use Rattle.dms_links.specs.Stepping.{AreSlotFiles, SlotStep, none_bad_of}
use Rattle.dms_links.specs.Taking.{TakesSteps}
use Rattle.dms_model.specs.Db.{Db}
use Rattle.dms_sets.specs.Keeping.{Calm, EndsInFault, FromBelow, Usable}
use Rattle.dms_spelling.specs.After.{slot_files}
use Rattle.dms_spelling.specs.Back.{spelled_files}
use Rattle.dms_spelling.specs.Calls.{calm_writes, fails_writes}
use Rattle.dms_spelling.specs.Holds.{have_slots}
use Rattle.dms_spelling.specs.Ready.{FaultsBelow, IfSpelt, IsReady, owned_at, ready_since}
use Rattle.dms_spelling.specs.Spelled.{database_in}
use Rattle.dms_spelling.specs.Staying.{files_stay, same_stays, steps_stay, then_stays}
use Rattle.dms_entries.specs.OneList.{set_files, slots_after}
use Rattle.dms_entries.specs.Promises.{ChangesEntries, ReadsRecord}

-- ---- blocks in which a database is kept

module _ {B : Type 0} {g : Ghosts B} (desc : Described) (a : Overlay B g) (may : IsReady desc a) where
  pub spelt_slots : (db : Db) → IsTrue (under a).told → database_in desc (overlay_content a) ≡ Some db → AreSlotFiles desc (overlay_content a)
  spelt_slots db told spelt = slot_files desc db (tally_of desc db) (overlay_content a) may.served (spelled_files desc (overlay_content a) db may.served spelt).slots

  -- the list of a structure may be asked for
  pub list_usable : (s : Shape) → structure_of desc s.number ≡ Some s → Usable a s.number
  list_usable s at = (may.sound, owned_at desc a may s.number s at)

  -- they stay so after calls on lists
  pub ready_calm : (p : ℕ → Bool) (n : ℕ) (b : Overlay B g) → Calm p n a b → IsReady desc b
  ready_calm p n b calm = ready_since desc a b (calm.looks may.sound) may

-- ---- reads

module _ {B : Type 0} {g : Ghosts B} (desc : Described) (a b : Overlay B g) (may : IsReady desc a) where
  -- what is spelled before a read is afterwards
  pub spelt_since : {T : Type 0} {n : ℕ} {x : T} (P : Db → Type 0) → ReadsOverlay n (Ok x) a b → IfSpelt desc b P → IfSpelt desc a P
  spelt_since P reads h told db spelt = h (told_after reads.looks.passes.lasts told) db (ap (database_in desc) (seen_still reads told) ∙ spelt)

  -- the record wasn't read,
  pub record_failed : {T : Type 0} (m set number : ℕ) (P : Db → Content → T → Type 0) (e : BlockFault) → ReadsRecord desc set number (Err e) a b → ChangesEntries desc m P (Err e) a b
  record_failed {T = T} m set number P e read = record {
    writes = failed_read m (BadOf desc set a) e a b read.reads read.causes;
    told = tt;
    below = λ told db spelt. causes_err (Option Record) T (BadOf desc set a) (λ f k. ⊥) e (under a) (under b) (none_bad_of desc a set told (spelt_slots desc a may db told spelt)) read.causes;
    taken = tt;
  }

  -- or isn't there
  pub record_none : {T : Type 0} (m set number : ℕ) (P : Db → Content → T → Type 0) (y : T) → ReadsRecord desc set number (Ok None) a b → ((db : Db) → None ≡ get db.records (set, number) → P db (overlay_content b) y) → ChangesEntries desc m P (Ok y) a b
  record_none m set number P y read says = record {
    writes = read_alone m y a b read.reads read.causes;
    told = λ told db spelt. says db (read.found told db spelt);
    below = λ told db spelt. read.causes;
    taken = λ told. same_stays desc (overlay_content a) (overlay_content b) (seen_still read.reads told);
  }

  -- A call after a record was read.
  pub record_then : {T : Type 0} (m set number : ℕ) (P Q : Db → Content → T → Type 0) (r : Result T BlockFault) (rec : Record) (z : Overlay B g) → ((x y z : B) → g.same_blocks x y → g.same_blocks y z → g.same_blocks x z) → ReadsRecord desc set number (Ok (Some rec)) a b
      → ((db : Db) (d : Content) (x : T) → Some rec ≡ get db.records (set, number) → Q db d x → P db d x) → ChangesEntries desc m Q r b z → ChangesEntries desc m P r a z
  record_then m set number P Q r rec z onward read says next = record {
    writes = read_then m r a b z onward read.reads read.causes next.writes;
    told = IfOk-weaker r _ _ (λ x h told db spelt. says db (overlay_content z) x (read.found told db spelt) (spelt_since (λ d. Q d (overlay_content z) x) read.reads h told db spelt)) next.told;
    below = λ told db spelt.
        causes_or_on (λ f k. ⊥) (λ f k. ⊥) r (under a) (under b) (under z) (λ f k h. h) read.causes read.reads.looks.passes.lasts read.reads.looks.same
        (spelt_since (λ d. FaultsBelow r b z) read.reads next.below told db spelt);
    taken = IfOk-weaker r _ _ (λ x h told.
        then_stays desc (overlay_content a) (overlay_content b) (overlay_content z) (same_stays desc (overlay_content a) (overlay_content b) (seen_still read.reads told)) (h (told_after read.reads.looks.passes.lasts told))) next.taken;
  }

-- ---- calls on the list of a subset, and the slot of the owner

module _ {B : Type 0} {g : Ghosts B} (desc : Described) (s : Shape) (at : structure_of desc s.number ≡ Some s) (kind : s.kind ≡ 5) (a : Overlay B g) (may : IsReady desc a) where
  -- memory was refused before
  pub entry_memory : {T : Type 0} (m : ℕ) (P : Db → Content → T → Type 0) → ((x : B) → g.same_blocks x x) → ChangesEntries desc m P (Err Memory) a a
  entry_memory m P again = record { writes = wrote_none m (Err Memory) a again tt refl may.sound; told = tt; below = λ told db spelt. refl; taken = tt }

  -- the list couldn't be changed,
  pub list_failed : {T : Type 0} (n m : ℕ) (P : Db → Content → T → Type 0) (e : BlockFault) (b : Overlay B g) → 22 * n ≤ m → EndsInFault e n a b → IfSpelt desc a (λ db. FromBelow e a b) → ChangesEntries desc m P (Err e) a b
  list_failed {T = T} n m P e b le ends below = record {
    writes = fails_writes e n m a b may.sound le ends;
    told = tt;
    below = λ told db spelt. causes_err (Unit {0}) T (λ f k. ⊥) (λ f k. ⊥) e (under a) (under b) (λ f k h. h) (below told db spelt may.sound);
    taken = tt;
  }

  module _ (b : Overlay B g) (n : ℕ) (calm : Calm (λ k. k == s.number) n a b) where
    told_calm : IsTrue (under a).told → IsTrue (under b).told
    told_calm told = calm.told ∙ told

    -- or it was all that was changed,
    pub list_only : {T : Type 0} (m : ℕ) (P : Db → Content → T → Type 0) (y : T) → 22 * n ≤ m → IfSpelt desc a (λ db. P db (overlay_content b) y) → ChangesEntries desc m P (Ok y) a b
    list_only m P y le says = record {
      writes = calm_writes (λ k. k == s.number) n m y a b may.sound le calm;
      told = says;
      below = λ told db spelt. calm.faults;
      taken = λ told. files_stay desc (overlay_content a) (overlay_content b) (set_files desc may.served s at kind a b n told calm);
    }

    first : WritesSlots {T = Bool} (22 * n) (Ok true) a b
    first = calm_writes (λ k. k == s.number) n (22 * n) true a b may.sound (omega arith) calm

    slots_then : (db : Db) → IsTrue (under a).told → database_in desc (overlay_content a) ≡ Some db → AreSlotFiles desc (overlay_content b)
    slots_then db told spelt = slots_after desc may.served s at kind db (tally_of desc db) a told (spelled_files desc (overlay_content a) db may.served spelt) b n calm

    -- and then a slot couldn't be altered,
    pub steps_failed : {T : Type 0} (m : ℕ) (P : Db → Content → T → Type 0) (xs : List SlotStep) (e : BlockFault) (z : Overlay B g) → ((x y z : B) → g.same_blocks x y → g.same_blocks y z → g.same_blocks x z) → 22 * n + 1 ≤ m → TakesSteps desc xs 1 (Err e) b z
        → ChangesEntries desc m P (Err e) a z
    steps_failed {T = T} m P xs e z onward le steps = record {
      writes = writes_then (22 * n) 1 m (Err e) a b z onward le first (writes_err 1 e b z steps.writes);
      told = tt;
      below = λ told db spelt.
          causes_after {T = Bool} {U = T} {x = true} (22 * n) (Err e) a b z first (causes_err Bool T (λ f k. ⊥) (λ f k. ⊥) e (under b) (under z) (λ f k h. h) (steps.causes (told_calm told) (slots_then db told spelt)));
      taken = tt;
    }

    -- or it was.
    pub steps_done : {T : Type 0} (m : ℕ) (P : Db → Content → T → Type 0) (xs : List SlotStep) (done : Bool) (y : T) (z : Overlay B g) → ((x y z : B) → g.same_blocks x y → g.same_blocks y z → g.same_blocks x z) → 22 * n + 1 ≤ m → TakesSteps desc xs 1 (Ok done) b z
        → IfSpelt desc a (λ db. P db (overlay_content z) y) → ChangesEntries desc m P (Ok y) a z
    steps_done m P xs done y z onward le steps says = record {
      writes = writes_then (22 * n) 1 m (Ok y) a b z onward le first (writes_as 1 y b z steps.writes);
      told = says;
      below = λ told db spelt. causes_after (22 * n) (Ok y) a b z first (steps.causes (told_calm told) (slots_then db told spelt));
      taken = λ told.
          then_stays desc (overlay_content a) (overlay_content b) (overlay_content z) (files_stay desc (overlay_content a) (overlay_content b) (set_files desc may.served s at kind a b n told calm))
          (steps_stay desc xs done (overlay_content b) (overlay_content z) (have_slots desc may.served) (steps.altered (told_calm told)));
    }
