-- Looks at the members of a structure, by its kind.
use Rattle.std.proofs.Common.{Bor, ◌≡◌, ◌∙◌, ◌+◌, ◌<◌, ℕ, List, Bool, true, false, cond, Some, refl, sym, ap, subst, inl, arith}
use Rattle.std.specs.Prelude.{◌&&◌, IfOk, nat_lt}
use Rattle.std.specs.Option.{option_copied, option_map}
use Rattle.std.specs.declared.option.Option.{Option}
use Rattle.std.specs.declared.result.Result.{Result}
use Rattle.std.proofs.lemmas.Result.{IfOk-weaker}
use Rattle.std.proofs.lemmas.Bool.Decides.{nat_tests}
use Rattle.std.proofs.lemmas.Bool.{and_from, and_parts}
use Rattle.std.proofs.lemmas.Option.{same_Some}
use Rattle.dms_block.specs.declared.blocks.Blocks.{Ghosts}
use Rattle.dms_block.specs.declared.overlay.Overlay.{Overlay}
use Rattle.dms_block.specs.declared.block_fault.BlockFault.{BlockFault}
use Rattle.dms_block.specs.View.{seen_counts, under}
use Rattle.dms_desc.specs.Kinds as kinds
use Rattle.dms_desc.specs.Kinds.{over, is_set_or_automatic}
use Rattle.dms_desc.specs.Lookups.{structure_of}
use Rattle.dms_desc.specs.Shape.{Shape, Described, shape_of}
use Rattle.dms_desc.specs.declared.structure.Structure.{Structure}
use Rattle.dms_model.specs.declared.spot.Spot.{Spot}
use Rattle.dms_model.specs.Changing.{IsManual}
use Rattle.dms_model.specs.Db.{Db}
use Rattle.dms_model.specs.Fitting.{population_of}
use Rattle.dms_model.specs.Stores.{Tells}
use Rattle.dms_model.specs.Valid.{is_data_set, is_manual}
use Rattle.dms_desc.specs.Files.{file_of}
use Rattle.dms_lists.specs.FormLaws.{manual_form}
use Rattle.dms_lists.specs.Forms.{form_of, look_reads}
use Rattle.dms_lists.specs.declared.form.ListForm.TheVariants.{List as OneChain}
use Rattle.dms_entries.specs.Found.{BadSubset}
use Rattle.dms_spelling.specs.Ready.{IfSpelt, IsReady}
use Rattle.dms_store.specs.Finding.{BadSlot, number_at, seen_below}
use Rattle.dms_spelling.specs.ServingLaws.{served_at}
use Rattle.dms_store.specs.Lifted.{IsUsable, db_under}
use Rattle.dms_store.specs.PuttingStore.{told_db}
use Rattle.dms_store.specs.Listed.{BadPath, IfIndexed, form_at, most_reads}
use Rattle.dms_store.specs.Noted.{tells_if}
use Rattle.dms_spelling.specs.Serving.{IsServed}
use Rattle.dms_spelling.specs.Spelled.{database_in, db_in, some_if}
use Rattle.dms_store.specs.Undamaged.{no_bad_slot}

-- the shape of a structure that was looked up
pub found_shape : {o : Option Shape} {found : Option (Bor Structure)} {s : Bor Structure} → option_map shape_of (option_copied found) ≡ o → found ≡ Some s → o ≡ Some (shape_of s.now)
found_shape is at = sym is ∙ ap (λ (f : Option (Bor Structure)). option_map shape_of (option_copied f)) at

module _ {desc : Described} (path : ℕ) {s : Shape} (served : IsServed desc) (at : structure_of desc path ≡ Some s) where
  -- ---- by kind

  pub number_is : s.number ≡ path
  number_is = number_at desc path s served at

  pub there_is : structure_of desc s.number ≡ Some s
  there_is = ap (structure_of desc) number_is ∙ at

  -- a data set isn't kept in a tree
  pub set_few : kinds.is_data_set s ≡ true → (db : Option Db) (P : List (List ℕ) → Type 0) → IfIndexed desc path db P
  set_few h db P t d there kept tree told =
      let same : s ≡ t = same_Some s t (sym at ∙ there) in
      let low : kinds.is_data_set t ≡ true = ap (λ (x : Shape). kinds.is_data_set x) (sym same) ∙ h in
      let two = and_parts (nat_lt 2 t.kind) (nat_lt t.kind 5) kept in
      let above : 2 < t.kind = grind (arith, nat_tests, two.0) in
      let below : t.kind < 3 = grind (arith, nat_tests, low) in
      absurd (omega (arith, above, below))

  -- nor is a manual subset
  pub manual_few : kinds.is_manual s ≡ true → (db : Option Db) (P : List (List ℕ) → Type 0) → IfIndexed desc path db P
  manual_few h db P t d there kept tree told =
      let same : s ≡ t = same_Some s t (sym at ∙ there) in
      let high : kinds.is_manual t ≡ true = ap (λ (x : Shape). kinds.is_manual x) (sym same) ∙ h in
      let two = and_parts (nat_lt 2 t.kind) (nat_lt t.kind 5) kept in
      let below : t.kind < 5 = grind (arith, nat_tests, two.1) in
      let is : t.kind ≡ 5 = grind (arith, nat_tests, high) in
      absurd (omega (arith, below, is))

  pub set_here : kinds.is_data_set s ≡ true → is_data_set (structure_of desc path) ≡ true
  set_here h =
      let low = (served_at desc path s served at).low in
      ap is_data_set at ∙ and_from (nat_lt 0 s.kind) (nat_lt s.kind 3) (grind (arith, nat_tests, low)) h

  pub kept_here : kinds.is_data_set s ≡ false → kinds.is_manual s ≡ false → is_set_or_automatic s ≡ true
  kept_here off apart =
      let most = (served_at desc path s served at).most in
      let more : 2 < s.kind = grind (arith, nat_tests, off) in
      let less : s.kind < 5 = grind (arith, nat_tests, apart, most) in
      and_from (nat_lt 2 s.kind) (nat_lt s.kind 5) (grind (arith, nat_tests, more)) (grind (arith, nat_tests, less))

  module _ {B : Type 0} {g : Ghosts B} (o : Overlay B g) where
    pub set_reads : kinds.is_data_set s ≡ true → population_of (structure_of desc path) ≡ most_reads desc path o
    set_reads h = sym (ap (λ b. cond b (population_of (structure_of desc path)) (1 + look_reads (form_at (structure_of desc path)) (seen_counts o (file_of path)))) (set_here h))

    pub kept_reads : kinds.is_data_set s ≡ false → 1 + look_reads (form_of s) (seen_counts o (file_of s.number)) ≡ most_reads desc path o
    kept_reads off =
        let no_set : is_data_set (structure_of desc path) ≡ false = ap is_data_set at ∙ off_both (nat_lt 0 s.kind) (nat_lt s.kind 3) off in
        (λ i. 1 + look_reads (form_at (sym at i)) (seen_counts o (file_of (number_is i))))
        ∙ sym (ap (λ b. cond b (population_of (structure_of desc path)) (1 + look_reads (form_at (structure_of desc path)) (seen_counts o (file_of path)))) no_set)
      where
        off_both : (a b : Bool) → b ≡ false → (a && b) ≡ false
        off_both true b h = h
        off_both false b h = refl

    -- a bad block of a data set
    pub slots_path : IsUsable desc o → kinds.is_data_set s ≡ true → (f b : ℕ) → BadSlot desc path o f b → BadPath desc path o f b
    slots_path usable is_set f b bad =
        let number : bad.0.number ≡ path = number_at desc path bad.0 served bad.1 in
        let file : f ≡ file_of bad.0.number = bad.2.0.0 in
        record {
          file = inl (file ∙ ap file_of number);
          there = subst (λ (n : ℕ). b < seen_counts o n) (sym file) bad.2.1;
          untold = λ d told. no_bad_slot desc o usable d told path f b (set_here is_set) bad;
        }

    -- ---- a manual subset

    pub manual_here : kinds.is_manual s ≡ true → IsManual desc path
    manual_here h = ap is_manual at ∙ h

    pub ready_here : IsUsable desc o → IsReady desc o
    ready_here usable = record { sound = usable.sound; served = usable.serves.served; owns = usable.serves.all }

    pub manual_reads : kinds.is_manual s ≡ true → 2 + seen_counts o (file_of path) ≡ most_reads desc path o
    manual_reads h =
        let kind : s.kind ≡ 5 = grind (arith, nat_tests, h) in
        let no_set : is_data_set (structure_of desc path) ≡ false = ap is_data_set at ∙ grind (arith, nat_tests, h) in
        let form : form_at (structure_of desc path) ≡ OneChain = ap form_at at ∙ manual_form s kind in
        let n = seen_counts o (file_of path) in
        (let e : 2 + n ≡ 1 + (1 + n) = omega arith in e)
        ∙ (λ i. 1 + look_reads (sym form i) n)
        ∙ sym (ap (λ b. cond b (population_of (structure_of desc path)) (1 + look_reads (form_at (structure_of desc path)) n)) no_set)

    -- a bad block of it, or of its data set
    pub subset_path : IsUsable desc o → (f b : ℕ) → BadSubset desc path o f b → BadPath desc path o f b
    subset_path usable f b bad = record {
      file = bad.file;
      there = bad.there;
      untold = λ d is. let t = told_db desc (under o).told (under o).content d is in bad.untold t.0 d (ap (database_in desc) (seen_below o usable.none) ∙ t.1);
    }

    -- what is told of the database that is spelled
    pub manual_tells : IsUsable desc o → (r : Result (Option Spot) BlockFault) (P : Db → Option Spot) → IfOk r (λ x. IfSpelt desc o (λ db. x ≡ P db)) → Tells (db_under desc o) r P
    manual_tells usable r P h =
        IfOk-weaker r _ _ (λ x k. tells_if (under o).told desc (under o).content P x (λ told spelt.
        k told (db_in desc (under o).content) (ap (database_in desc) (seen_below o usable.none) ∙ ap (λ b. some_if b (db_in desc (under o).content)) spelt))) h
