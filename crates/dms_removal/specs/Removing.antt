-- A removal: whether the record is in use, its linkers, their links made null, and then the record taken out.
use Rattle.std.proofs.Common.{◌≡◌, ◌∙◌, ◌+◌, ◌-◌, ◌*◌, ◌≤◌, ℕ, zero, suc, List, [], Bool, true, false, IsTrue, Some, None, refl, sym, ap, subst, length, arith}
use Rattle.std.specs.Prelude.{⊤, not}
use Rattle.std.specs.declared.option.Option.{Option}
use Rattle.std.specs.declared.result.Result.{Result}
use Rattle.std.specs.declared.result.Result.TheVariants.{Ok, Err}
use Rattle.std.proofs.Math.Nat as nat
use Rattle.std.proofs.lemmas.Option.{slice_get_within}
use Rattle.std.proofs.lemmas.Result.{IfOk-weaker}
use Rattle.dms_block.specs.Content.{Content}
use Rattle.dms_block.specs.Held.{HasCausesOr, Looks}
use Rattle.dms_block.specs.View.{ReadsOverlay, overlay_changes, overlay_content, under}
use Rattle.dms_block.specs.ViewLaws.{seen_still}
use Rattle.dms_block.specs.declared.block_fault.BlockFault.{BlockFault}
use Rattle.dms_block.specs.declared.blocks.Blocks.{Ghosts}
use Rattle.dms_block.specs.declared.overlay.Overlay.{Overlay}
use Rattle.dms_chain.specs.SeenLaws.{causes_err, causes_since}
use Rattle.dms_desc.specs.Lookups.{structure_of}
use Rattle.dms_desc.specs.Shape.{Shape, Described}
use Rattle.dms_links.specs.Altering.{causes_after, failed_read, read_then, told_writes, writes_as, writes_err, writes_then}
use Rattle.dms_links.specs.Cleared.{cleared, removal_steps}
use Rattle.dms_links.specs.Linking.{linkers_are, linking_in, structure_here}
use Rattle.dms_links.specs.Stands.{tally_of}
use Rattle.dms_links.specs.Stepping.{AreSlotFiles, none_bad_walk}
use Rattle.dms_links.specs.Walked.{BadWalk, HaveSlots}
use Rattle.dms_model.specs.Db.{Db, Place}
use Rattle.dms_model.specs.Fitting.{IsDataSet}
use Rattle.dms_model.specs.Uses.{linkers}
use Rattle.dms_model.specs.Valid.{is_data_set}
use Rattle.dms_spelling.specs.After.{slot_files}
use Rattle.dms_spelling.specs.Holds.{have_slots}
use Rattle.dms_spelling.specs.Serving.{IsServed}
use Rattle.dms_spelling.specs.ServingLaws.{served_at, structure_there}
use Rattle.dms_spelling.specs.Spelled.{database_in}
use Rattle.dms_spelling.specs.Staying.{same_stays}
use Rattle.dms_removal.specs.Alike.{alike_keeps, cleared_alike}
use Rattle.dms_removal.specs.Clears.{ClearsSlots}
use Rattle.dms_removal.specs.Clearing.{cleared_db, cleared_spells, corrects_stay, may_go}
use Rattle.dms_removal.specs.Freed.{FreesOne, frees_none, frees_then}
use Rattle.dms_removal.specs.Promises.{LooksForUse, RemovesRecord, RemovesUnused, TakesOut, TellsUse, removal_blocks}
use Rattle.dms_spelling.specs.Ready.{IfSpelt, IsReady, seen_below}
use Rattle.dms_removal.specs.Using.{spelt_files}

-- ---- how many blocks

-- the records whose link is made null, the lists, and the slots
pub few_blocks : (n places : ℕ) → 1 ≤ n → places + (44 * n + 62) ≤ 64 * n * (2 + places)
few_blocks zero places low = absurd (omega (arith, low))
few_blocks (suc m) places low = by (64 * suc m) refl
  where
    by : (k : ℕ) → 64 * suc m ≡ k → places + (44 * suc m + 62) ≤ k * (2 + places)
    by zero is = absurd (omega (arith, is))
    by (suc j) is =
        let more : j * 2 ≤ j * (2 + places) = nat.mul-le-mul_left j (let two : 2 ≤ 2 + places = omega arith in two) in
        omega (arith, is, more, nat.suc-mul j (2 + places))

some_structure : (desc : Described) (set : ℕ) → IsDataSet desc set → 1 ≤ length desc.structures
some_structure desc set is = by (structure_of desc set) refl is
  where
    by : (o : Option Shape) → structure_of desc set ≡ o → is_data_set o ≡ true → 1 ≤ length desc.structures
    by None at h = absurd (cc h)
    by (Some s) at h = omega (arith, slice_get_within desc.structures (set - 1) s (structure_there desc.structures set s at))

module _ {B : Type 0} {g : Ghosts B} (desc : Described) (set number : ℕ) where
  -- ---- what was written is dropped

  pub forgotten : (r : Result Bool BlockFault) (a b z : Overlay B g) → LooksForUse desc set number r a b → z.below ≡ b.below → overlay_changes z ≡ [] → TellsUse desc set number r a z
  forgotten r a b z h same none = record {
    writes = record {
      reads = h.writes.reads;
      writes = record {
        looks = subst (λ (x : B). Looks h.writes.reads r (under a) (g.held x)) (sym same) h.writes.writes.looks;
        more = omega (arith, ap length none);
        same = subst (λ (x : B). g.same_blocks a.below x) (sym same) h.writes.writes.same;
      };
      causes = subst (λ (x : B). HasCausesOr (λ f k. ⊤) r (under a) (g.held x)) (sym same) h.writes.causes;
    };
    none = none;
    answer = h.answer;
    below = λ told db spelt. subst (λ (x : B). HasCausesOr (λ f k. ⊥) r (under a) (g.held x)) (sym same) (h.below told db spelt);
  }

  -- ---- in use, or not

  -- nothing has changed
  pub seen_same : {x : Bool} (a b : Overlay B g) → overlay_changes a ≡ [] → TellsUse desc set number (Ok x) a b → IsTrue (under a).told → overlay_content b ≡ overlay_content a
  seen_same a b none asked told = seen_below b asked.none ∙ asked.writes.writes.looks.same.content told ∙ sym (seen_below a none)

  pub use_failed : (e : BlockFault) (a b : Overlay B g) → TellsUse desc set number (Err e) a b → RemovesRecord desc set number (Err e) a b
  use_failed e a b asked = record { most = 0; writes = asked.writes; few = λ told db spelt. omega arith; removed = tt; taken = tt; below = asked.below }

  pub stays_used : (a b : Overlay B g) → overlay_changes a ≡ [] → TellsUse desc set number (Ok true) a b → RemovesRecord desc set number (Ok false) a b
  stays_used a b none asked = record {
    most = 0;
    writes = writes_as 0 false a b asked.writes;
    few = λ told db spelt. omega arith;
    removed = λ told db spelt holds. (ap not (asked.answer told db spelt holds), λ h. absurd (cc h));
    taken = λ told. frees_none desc set number (overlay_content a) (overlay_content b) (same_stays desc (overlay_content a) (overlay_content b) (seen_same a b none asked told));
    below = λ told db spelt. asked.below told db spelt;
  }

  pub goes_unused : (r : Result Bool BlockFault) (a b c : Overlay B g) → ((x y z : B) → g.same_blocks x y → g.same_blocks y z → g.same_blocks x z) → overlay_changes a ≡ [] → TellsUse desc set number (Ok false) a b → RemovesUnused desc set number r b c → RemovesRecord desc set number r a c
  goes_unused r a b c onward none asked goes = record {
    most = goes.most;
    writes = writes_then 0 goes.most goes.most r a b c onward (omega arith) asked.writes goes.writes;
    few = λ told db spelt. goes.few (told_b told) db (spelt_b told db spelt);
    removed = IfOk-weaker r _ _ (λ done h told db spelt holds. gone done (h (told_b told) db (spelt_b told db spelt) holds) (asked.answer told db spelt holds)) goes.removed;
    taken = IfOk-weaker r _ _ (λ done h told. subst (λ (x : Content). FreesOne desc set number x (overlay_content c)) (seen_same a b none asked told) (h (told_b told))) goes.taken;
    below = λ told db spelt. causes_after 0 r a b c asked.writes (goes.below (told_b told) db (spelt_b told db spelt));
  }
    where
      told_b : IsTrue (under a).told → IsTrue (under b).told
      told_b told = told_writes 0 a b asked.writes told

      spelt_b : IsTrue (under a).told → (db : Db) → database_in desc (overlay_content a) ≡ Some db → database_in desc (overlay_content b) ≡ Some db
      spelt_b told db spelt = ap (database_in desc) (seen_same a b none asked told) ∙ spelt

      gone : (done : Bool) {P : Type 0} {u : Bool} → (u ≡ false → (done ≡ true) × P) → false ≡ u → (done ≡ not u) × (done ≡ true → P)
      gone done h used = let x = h (sym used) in (x.0 ∙ ap not used, λ yes. x.1)

  -- ---- one that isn't in use

  pub walk_failed : {n : ℕ} {T : Type 0} (e : BlockFault) (a b : Overlay B g) → IsReady desc a → ReadsOverlay {T = T} n (Err e) a b → HasCausesOr {T = T} (BadWalk desc set a) (Err e) (under a) (under b) → RemovesUnused desc set number (Err e) a b
  walk_failed {T = T} e a b ready reads causes = record {
    most = 0;
    writes = failed_read 0 (BadWalk desc set a) e a b reads causes;
    few = λ told db spelt. omega arith;
    removed = tt;
    taken = tt;
    below = λ told db spelt.
        let slots = slot_files desc db (tally_of desc db) (overlay_content a) ready.served (spelt_files desc a ready told db spelt).slots in
        causes_err T Bool (BadWalk desc set a) (λ f k. ⊥) e (under a) (under b) (none_bad_walk desc a set told slots) causes;
  }

  module _ {n : ℕ} {T : Type 0} {x : T} (ps : List Place) (a b : Overlay B g) (onward : (x y z : B) → g.same_blocks x y → g.same_blocks y z → g.same_blocks x z) (ready : IsReady desc a) (is : IsDataSet desc set) (reads : ReadsOverlay n (Ok x) a b) (causes : (under b).faults ≡ (under a).faults)
      (found : IsTrue (under a).told → ps ≡ linking_in set number (overlay_content a) desc.structures) where
    seen_b : IsTrue (under a).told → overlay_content b ≡ overlay_content a
    seen_b told = seen_still reads told

    told_b : IsTrue (under a).told → IsTrue (under b).told
    told_b told = reads.looks.passes.lasts.told ∙ told

    slots_b : IsTrue (under a).told → (db : Db) → database_in desc (overlay_content a) ≡ Some db → AreSlotFiles desc (overlay_content b)
    slots_b told db spelt = subst (AreSlotFiles desc) (sym (seen_b told)) (slot_files desc db (tally_of desc db) (overlay_content a) ready.served (spelt_files desc a ready told db spelt).slots)

    -- the places are those of the linkers
    places_are : IsTrue (under a).told → (db : Db) → database_in desc (overlay_content a) ≡ Some db → ps ≡ linkers desc db set number
    places_are told db spelt = found told ∙ sym (linkers_are desc ready.served.numbered db (tally_of desc db) (overlay_content a) (spelt_files desc a ready told db spelt).slots set number)

    few : (m : ℕ) → m ≤ 44 * length desc.structures + 62 → IfSpelt desc a (λ db. length ps + m ≤ removal_blocks desc db set number)
    few m le told db spelt =
        let long = ap length (places_are told db spelt) in
        subst (λ k. length ps + m ≤ 64 * length desc.structures * (2 + k)) long (omega (arith, few_blocks (length desc.structures) (length ps) (some_structure desc set is), le))

    pub clear_failed : {U : Type 0} (e : BlockFault) (c : Overlay B g) → ClearsSlots {T = U} desc set number ps (Err e) b c → RemovesUnused desc set number (Err e) a c
    clear_failed {U = U} e c h = record {
      most = length ps;
      writes = read_then (length ps) (Err e) a b c onward reads causes (writes_err (length ps) e b c h.writes);
      few = λ told db spelt. (let one = few 0 (omega arith) told db spelt in omega (arith, one));
      removed = tt;
      taken = tt;
      below = λ told db spelt. causes_since {U = Bool} (λ f k. ⊥) (λ f k. ⊥) (Err e) a b c (λ f k z. z) causes reads (causes_err U Bool (λ f k. ⊥) (λ f k. ⊥) e (under b) (under c) (λ f k z. z) (h.causes (told_b told) (slots_b told db spelt)));
    }

    module _ {U : Type 0} {y : U} (r : Result Bool BlockFault) (c d : Overlay B g) (clears : ClearsSlots desc set number ps (Ok y) b c) (takes : TakesOut desc set number r c d) where
      told_c : IsTrue (under a).told → IsTrue (under c).told
      told_c told = told_writes (length ps) b c clears.writes (told_b told)

      cleared_c : (told : IsTrue (under a).told) (db : Db) → database_in desc (overlay_content a) ≡ Some db → database_in desc (overlay_content c) ≡ Some (cleared_db desc ready.served db set number ps)
      cleared_c told db spelt = cleared_spells desc ready.served db set number ps (overlay_content b) (overlay_content c) (ap (database_in desc) (seen_b told) ∙ spelt) (clears.cleared (told_b told))

      spelt_c : (told : IsTrue (under a).told) (db : Db) → database_in desc (overlay_content a) ≡ Some db → database_in desc (overlay_content c) ≡ Some (cleared_db desc ready.served db set number (linkers desc db set number))
      spelt_c told db spelt = subst (λ (qs : List Place). database_in desc (overlay_content c) ≡ Some (cleared_db desc ready.served db set number qs)) (places_are told db spelt) (cleared_c told db spelt)

      abbrev most : ℕ
      most = length ps + (44 * length desc.structures + 62)

      pub unused_goes : RemovesUnused desc set number r a d
      unused_goes = record {
        most = most;
        writes = read_then most r a b d onward reads causes (writes_then (length ps) (44 * length desc.structures + 62) most r b c d onward (omega arith) clears.writes takes.writes);
        few = few (44 * length desc.structures + 62) (omega arith);
        removed = IfOk-weaker r _ _ (λ done h told db spelt holds unused.
            let ps = linkers desc db set number in
            let still = alike_keeps desc (cleared desc set number ps db.records) db.records (cleared_alike desc set number ps db.records) (set, number) holds in
            let gone = h (told_c told) (cleared_db desc ready.served db set number ps) (spelt_c told db spelt) still (may_go desc ready.served db set number unused) in
            (gone.0, gone.1 ∙ ap (λ (x : Db). Some x) (sym (removal_steps desc db set number)))) takes.gone;
        taken = IfOk-weaker r _ _ (λ done h told.
            let first = corrects_stay desc set number ps (overlay_content b) (overlay_content c) (have_slots desc ready.served) (clears.cleared (told_b told)) in
            let second = frees_then desc set number (overlay_content b) (overlay_content c) (overlay_content d) (frees_none desc set number (overlay_content b) (overlay_content c) first) (h (told_c told)) in
            subst (λ (x : Content). FreesOne desc set number x (overlay_content d)) (seen_b told) second) takes.taken;
        below = λ told db spelt.
            causes_since {U = Bool} (λ f k. ⊥) (λ f k. ⊥) r a b d (λ f k z. z) causes reads
            (causes_after (length ps) r b c d clears.writes (takes.below (told_c told) (cleared_db desc ready.served db set number ps) (cleared_c told db spelt)));
      }

-- the slots of all structures fit a block
pub slots_had : (desc : Described) → IsServed desc → HaveSlots desc
slots_had desc served k s at =
    let one = served_at desc (suc k) s served (structure_here desc.structures k s at) in
    record { few = one.few; fits = one.fits }
