-- The members of a set by one look at its list, and the cause of each fault.
use Rattle.std.proofs.Common.{◌≡◌, ◌∙◌, ◌+◌, ◌^◌, ◌<◌, ◌≤◌, ℕ, List, Bool, true, false, length, IfSome, IsTrue, Some, None, refl, sym, ap, subst, inl, inr, arith}
use Rattle.std.specs.Prelude.{◌&&◌, nat_lt}
use Rattle.std.specs.declared.option.Option.{Option}
use Rattle.std.specs.declared.result.Result.{Result}
use Rattle.std.specs.declared.result.Result.TheVariants.{Ok, Err}
use Rattle.std.specs.FinMap.{entries}
use Rattle.std.proofs.lemmas.Bool.Decides.{nat_tests}
use Rattle.std.proofs.lemmas.Bool.{and_parts}
use Rattle.std.proofs.lemmas.Option.{same_Some}
use Rattle.dms_block.specs.declared.block_fault.BlockFault.{BlockFault}
use Rattle.dms_block.specs.declared.blocks.Blocks.{Ghosts}
use Rattle.dms_block.specs.declared.overlay.Overlay.{Overlay}
use Rattle.dms_block.specs.Content.{Content}
use Rattle.dms_block.specs.Held.{HasCausesOr}
use Rattle.dms_block.specs.View.{ReadsOverlay, overlay_content, seen_counts, under}
use Rattle.dms_base.specs.declared.kind.ItemKind.{ItemKind}
use Rattle.dms_desc.specs.declared.bound.Bound.{Bound}
use Rattle.dms_desc.specs.Lookups.{over_of, set_of, structure_of}
use Rattle.dms_desc.specs.Shape.{Shape, Described}
use Rattle.dms_model.specs.declared.spot.Spot.{Spot}
use Rattle.dms_model.specs.Db.{Db}
use Rattle.dms_model.specs.Fitting.{MayStart}
use Rattle.dms_model.specs.Members.{first_member, last_member}
use Rattle.dms_model.specs.Stores.{Tells, TellsOf}
use Rattle.dms_model.specs.Valid.{is_data_set}
use Rattle.dms_chain.specs.Lists.{first_from, has_entry, last_to}
use Rattle.dms_chain.specs.SeenLaws.{causes_since}
use Rattle.dms_lists.specs.declared.form.ListForm.TheVariants.{Tree}
use Rattle.dms_lists.specs.Forms.{IfKept, NoKept, form_of, kept_in}
use Rattle.dms_sets.specs.Finds.{spot_by}
use Rattle.dms_sets.specs.Listing.{AllPlaces}
use Rattle.dms_sets.specs.Padded.{entry_width, from_bytes, to_bytes}
use Rattle.dms_sets.specs.Puts.{all_small}
use Rattle.dms_sets.specs.Sets.{IsSmall, entries_of, kinds_over}
use Rattle.dms_sets.specs.Spots.{all_fit}
use Rattle.dms_desc.specs.Files.{file_of}
use Rattle.dms_tree.specs.Looks.{IfDigits, ReadsFew}
use Rattle.dms_store.specs.Files.{files_in}
use Rattle.dms_store.specs.Finding.{BadSlot, bad_since, number_at, seen_below}
use Rattle.dms_store.specs.Lifted.{IsUsable, db_of}
use Rattle.dms_store.specs.LiftedLaws.{db_same}
use Rattle.dms_store.specs.Listed.{BadEntry, BadPath, IfIndexed}
use Rattle.dms_store.specs.Noted.{tells_if}
use Rattle.dms_spelling.specs.Serving.{IsServed}
use Rattle.dms_store.specs.SetPaths.{first_look, last_look}
use Rattle.dms_entries.specs.BoundFits.{may_look}
use Rattle.dms_entries.specs.Looked.{MayLook}
use Rattle.dms_spelling.specs.ServingLaws.{set_at}
use Rattle.dms_spelling.specs.Spelled.{db_in, is_spelled, some_if, database_in}
use Rattle.dms_links.specs.Rows.{file_in}
use Rattle.dms_store.specs.SpelledLaws.{spelled_fits, spells}
use Rattle.dms_store.specs.Undamaged.{no_bad_slot, told_spelled}
use Rattle.dms_store.proofs.Standing.{over_set, stands_for}
use Rattle.dms_desc.specs.Kinds.{is_set_or_automatic}

-- ---- what is told

told_is : {A : Type 0} (told : Bool) (desc : Described) (c : Content) (f : Db → A) (x : A) → TellsOf (db_of desc told c) f x → IsTrue told → is_spelled desc c ≡ true → x ≡ f (db_in desc c)
told_is true desc c f x h t spelt = subst (λ o. TellsOf o f x) (ap (λ b. some_if b (db_in desc c)) spelt) h
told_is false desc c f x h t spelt = absurd (cc)

-- two answers that are one of each spelled database are told alike
tells_as : {A : Type 0} (told : Bool) (desc : Described) (c : Content) (f h : Db → A) (r : Result A BlockFault) → Tells (db_of desc told c) r f → (IsTrue told → is_spelled desc c ≡ true → f (db_in desc c) ≡ h (db_in desc c)) → Tells (db_of desc told c) r h
tells_as told desc c f h (Ok x) is same = tells_if told desc c h x (λ t spelt. told_is told desc c f x is t spelt ∙ same t spelt)
tells_as told desc c f h (Err e) is same = tt

-- no entry is no member
pub tells_none : (s : Shape) (owner : ℕ) (o : Option Db) → TellsOf {T = Option Spot} o (λ d. spot_by s d owner None) None
tells_none s owner None = tt
tells_none s owner (Some d) = refl

db_told : (told : Bool) (desc : Described) (c : Content) (d : Db) → db_of desc told c ≡ Some d → database_in desc c ≡ Some d
db_told true desc c d h = h
db_told false desc c d h = absurd (cc)

no_data_set : (s : Shape) → is_set_or_automatic s ≡ true → is_data_set (Some s) ≡ false
no_data_set s kept =
    let two = and_parts (nat_lt 2 s.kind) (nat_lt s.kind 5) kept in
    let off : nat_lt s.kind 3 ≡ false = grind (arith, nat_tests, two.0) in
    and_off (nat_lt 0 s.kind) (nat_lt s.kind 3) off
  where
    and_off : (a b : Bool) → b ≡ false → (a && b) ≡ false
    and_off true b h = h
    and_off false b h = refl

module _ (desc : Described) (s : Shape) (served : IsServed desc) (at : structure_of desc s.number ≡ Some s) (kept : is_set_or_automatic s ≡ true) where
  abbrev width : ℕ
  width = entry_width (kinds_over desc s) s.parts

  -- the list of a set's file
  listed_in : (c : Content) → is_spelled desc c ≡ true → kept_in (form_of s) width (file_in c s) ≡ Some (entries_of desc (db_in desc c) s)
  listed_in c spelt = (files_in desc c served spelt).lists.kept s.number s at (no_data_set s kept) kept

  all_small_in : (c : Content) (d : Db) → database_in desc c ≡ Some d → AllPlaces IsSmall (entries d.records)
  all_small_in c d is =
      all_small (kinds_over desc s) s (entries d.records) (all_fit desc d s (set_at desc s.number s served at kept).named.items (spelled_fits desc c d served is))

  module _ (told : Bool) (c : Content) (owner : ℕ) (bound : Bound) (may : MayStart desc s.number owner bound) (q : Option (List ℕ)) (r : Result (Option Spot) BlockFault) where
    -- the member of the entry that was found is the first one behind the bound
    pub first_found : (IsTrue told → (xs : List (List ℕ)) → kept_in (form_of s) width (file_in c s) ≡ Some xs → q ≡ first_from (from_bytes (kinds_over desc s) s.parts owner bound) xs)
        → Tells (db_of desc told c) r (λ d. spot_by s d owner q) → Tells (db_of desc told c) r (λ d. first_member desc d s.number owner bound)
    first_found found tells =
        tells_as told desc c (λ d. spot_by s d owner q) (λ d. first_member desc d s.number owner bound) r tells
        (λ t spelt. ap (spot_by s (db_in desc c) owner) (found t (entries_of desc (db_in desc c) s) (listed_in c spelt)) ∙ sym (first_look desc s.number s c served at kept spelt owner bound may))

    -- or the last one before it
    pub last_found : (IsTrue told → (xs : List (List ℕ)) → kept_in (form_of s) width (file_in c s) ≡ Some xs → q ≡ last_to (to_bytes (kinds_over desc s) s.parts owner bound) xs)
        → Tells (db_of desc told c) r (λ d. spot_by s d owner q) → Tells (db_of desc told c) r (λ d. last_member desc d s.number owner bound)
    last_found found tells =
        tells_as told desc c (λ d. spot_by s d owner q) (λ d. last_member desc d s.number owner bound) r tells
        (λ t spelt. ap (spot_by s (db_in desc c) owner) (found t (entries_of desc (db_in desc c) s) (listed_in c spelt)) ∙ sym (last_look desc s.number s c served at kept spelt owner bound may))

  -- ---- causes

  module _ {B : Type 0} {g : Ghosts B} (o : Overlay B g) (usable : IsUsable desc o) where
    same_file : overlay_content o (file_of s.number) ≡ file_in (under o).content s
    same_file = ap (λ (c : Content). c (file_of s.number)) (seen_below o usable.none)

    told_list : (d : Db) → db_of desc (under o).told (under o).content ≡ Some d → kept_in (form_of s) width (overlay_content o (file_of s.number)) ≡ Some (entries_of desc d s)
    told_list d told =
        let c = (under o).content in
        let spelt = (told_spelled desc (under o).told c d told).1 in
        let is : db_in desc c ≡ d = (spells desc c d (db_told (under o).told desc c d told)).is in
        ap (kept_in (form_of s) width) same_file ∙ listed_in c spelt ∙ ap (λ (x : Db). Some (entries_of desc x s)) is

    -- a file that is no list
    pub bad_list : (f b : ℕ) → NoKept (form_of s) o (file_of s.number) width f b → BadPath desc s.number o f b
    bad_list f b bad = record {
      file = inl bad.0;
      there = subst (λ (n : ℕ). b < seen_counts o n) (sym bad.0) bad.1;
      untold = λ d told.
          let none = bad.2 (told_spelled desc (under o).told (under o).content d told).0 in
          let some = told_list d told in
          absurd (cc (none, some));
    }

    slot_path : (f b : ℕ) → BadSlot desc s.set o f b → BadPath desc s.number o f b
    slot_path f b bad =
        let t = bad.0 in
        let number : t.number ≡ s.set = number_at desc s.set t served bad.1 in
        let set : set_of desc s.number ≡ s.set = ap over_of at ∙ over_set s kept in
        let file : f ≡ file_of t.number = bad.2.0.0 in
        record {
          file = inr (file ∙ ap file_of (number ∙ sym set));
          there = subst (λ (n : ℕ). b < seen_counts o n) (sym file) bad.2.1;
          untold = λ d told. no_bad_slot desc o usable d told s.set f b (set_at desc s.number s served at kept).data_set bad;
        }

    -- an entry that stands for no record, or a block of the data set
    pub bad_entry : (q : List ℕ) → 1 ≤ seen_counts o (file_of s.number) → IfKept (form_of s) o (file_of s.number) width (λ xs. has_entry q xs ≡ true) → (f b : ℕ) → BadEntry desc s q o f b → BadPath desc s.number o f b
    bad_entry q some listed f b (inl bad) = slot_path f b bad
    bad_entry q some listed f b (inr bad) = record {
      file = inl bad.0;
      there = subst (λ (n : ℕ). b < seen_counts o n) (sym bad.0) (let zero = bad.1 in omega (arith, zero, some));
      untold = λ d told.
          let has = listed (told_spelled desc (under o).told (under o).content d told).0 (entries_of desc d s) (told_list d told) in
          bad.2 d told (stands_for desc s d q (all_small_in (under o).content d (db_told (under o).told desc (under o).content d told)) has);
    }

    -- the same after reads
    pub bad_later : {T : Type 0} {n : ℕ} {x : T} (o' : Overlay B g) (q : List ℕ) → ReadsOverlay n (Ok x) o o' → 1 ≤ seen_counts o (file_of s.number) → IfKept (form_of s) o (file_of s.number) width (λ xs. has_entry q xs ≡ true)
        → (f b : ℕ) → BadEntry desc s q o' f b → BadPath desc s.number o f b
    bad_later o' q reads some listed f b (inl bad) = bad_entry q some listed f b (inl (bad.0, bad.1, bad_since bad.0 o o' reads f b bad.2))
    bad_later o' q reads some listed f b (inr bad) =
        bad_entry q some listed f b (inr (bad.0, bad.1, λ d told. bad.2 d (db_same desc (under o).told (under o').told (under o).content (under o').content reads.looks.passes.lasts.told reads.looks.same.content ∙ told)))

    -- ---- the same, of a call that is given the kinds of the items

    module _ (ks : List ItemKind) (is : ks ≡ kinds_over desc s) where
      pub list_path : (f b : ℕ) → NoKept (form_of s) o (file_of s.number) (entry_width ks s.parts) f b → BadPath desc s.number o f b
      list_path f b bad = bad_list f b (subst (λ (xs : List ItemKind). NoKept (form_of s) o (file_of s.number) (entry_width xs s.parts) f b) is bad)

      pub entry_path : {T : Type 0} {n : ℕ} {x : T} (o' : Overlay B g) (q : List ℕ) → ReadsOverlay n (Ok x) o o' → 1 ≤ seen_counts o (file_of s.number)
          → IfKept (form_of s) o (file_of s.number) (entry_width ks s.parts) (λ xs. has_entry q xs ≡ true) → (f b : ℕ) → BadEntry desc s q o' f b → BadPath desc s.number o f b
      entry_path o' q reads some listed f b bad =
          bad_later o' q reads some (subst (λ (xs : List ItemKind). IfKept (form_of s) o (file_of s.number) (entry_width xs s.parts) (λ ys. has_entry q ys ≡ true)) is listed) f b bad

      -- the cause of a fault at the entry that a look found
      pub fault_path : {n : ℕ} (x : Option (List ℕ)) (p q : List ℕ) (o' last : Overlay B g) (r : Result (Option Spot) BlockFault) → x ≡ Some p → q ≡ p → IfSome x (λ e. 1 ≤ seen_counts o (file_of s.number))
          → IfKept (form_of s) o (file_of s.number) (entry_width ks s.parts) (λ xs. IfSome x (λ e. has_entry e xs ≡ true)) → ReadsOverlay n (Ok x) o o' → (under o').faults ≡ (under o).faults
          → HasCausesOr (BadEntry desc s q o') r (under o') (under last) → HasCausesOr (BadPath desc s.number o) r (under o) (under last)
      fault_path x p q o' last r found same there listed reads still causes =
          let some : 1 ≤ seen_counts o (file_of s.number) = rw found at there in
          let entry : IfKept (form_of s) o (file_of s.number) (entry_width ks s.parts) (λ xs. has_entry q xs ≡ true) =
          subst (λ (e : List ℕ). IfKept (form_of s) o (file_of s.number) (entry_width ks s.parts) (λ xs. has_entry e xs ≡ true)) (sym same) (rw found at listed) in
          causes_since (BadEntry desc s q o') (BadPath desc s.number o) r o o' last (entry_path o' q reads some entry) still reads causes

      -- how many blocks a look at a tree and the read of a record read
      pub few_path : (o' last : Overlay B g) → (form_of s ≡ Tree → IfKept (form_of s) o (file_of s.number) (entry_width ks s.parts) (λ xs. IfDigits xs (λ digits. ReadsFew (2 + digits) o o')))
          → (under last).uses.reads ≤ (under o').uses.reads + 1 → IfIndexed desc s.number (db_of desc (under o).told (under o).content) (λ xs. IfDigits xs (λ digits. ReadsFew (3 + digits) o last))
      few_path o' last few more t d there kept tree told digits low =
          let same : s ≡ t = same_Some s t (sym at ∙ there) in
          let list = ap (λ (x : List ItemKind). kept_in (form_of s) (entry_width x s.parts) (overlay_content o (file_of s.number))) is ∙ told_list d told in
          let small : length (entries_of desc d s) < 2 ^ digits = subst (λ (x : Shape). length (entries_of desc d x) < 2 ^ digits) (sym same) low in
          let looked = few (ap (λ (x : Shape). form_of x) same ∙ tree) (told_spelled desc (under o).told (under o).content d told).0 (entries_of desc d s) list digits small in
          omega (arith, looked, more)

      module _ (owner : ℕ) (bound : Bound) (may : MayStart desc s.number owner bound) (q : Option (List ℕ)) (r : Result (Option Spot) BlockFault) where
        pub first_path : (MayLook ks s.parts bound → IfKept (form_of s) o (file_of s.number) (entry_width ks s.parts) (λ xs. q ≡ first_from (from_bytes ks s.parts owner bound) xs))
            → Tells (db_of desc (under o).told (under o).content) r (λ d. spot_by s d owner q) → Tells (db_of desc (under o).told (under o).content) r (λ d. first_member desc d s.number owner bound)
        first_path found tells =
            let given = subst (λ (ts : List ItemKind). MayLook ts s.parts bound → IfKept (form_of s) o (file_of s.number) (entry_width ts s.parts) (λ xs. q ≡ first_from (from_bytes ts s.parts owner bound) xs)) is found in
            first_found (under o).told (under o).content owner bound may q r (λ t xs at_list. given (may_look desc s.number s served at owner bound may) t xs (ap (kept_in (form_of s) width) same_file ∙ at_list)) tells

        pub last_path : (MayLook ks s.parts bound → IfKept (form_of s) o (file_of s.number) (entry_width ks s.parts) (λ xs. q ≡ last_to (to_bytes ks s.parts owner bound) xs))
            → Tells (db_of desc (under o).told (under o).content) r (λ d. spot_by s d owner q) → Tells (db_of desc (under o).told (under o).content) r (λ d. last_member desc d s.number owner bound)
        last_path found tells =
            let given = subst (λ (ts : List ItemKind). MayLook ts s.parts bound → IfKept (form_of s) o (file_of s.number) (entry_width ts s.parts) (λ xs. q ≡ last_to (to_bytes ts s.parts owner bound) xs)) is found in
            last_found (under o).told (under o).content owner bound may q r (λ t xs at_list. given (may_look desc s.number s served at owner bound may) t xs (ap (kept_in (form_of s) width) same_file ∙ at_list)) tells
