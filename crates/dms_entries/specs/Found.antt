-- Members of a manual subset, by one look at its list and one read of a record.
use Rattle.std.proofs.Common.{◌≡◌, ◌∙◌, ◌+◌, ◌<◌, ◌≤◌, ℕ, List, ◌++◌, true, false, cond, IsTrue, Some, None, IfSome, inl, inr, refl, sym, ap, subst, length, length-append, arith}
use Rattle.std.specs.Prelude.{◌⊎◌, ⊤, IfOk}
use Rattle.std.specs.Int.{w32, to_be_bytes}
use Rattle.std.specs.FinMap.{get}
use Rattle.std.specs.Option.{option_map}
use Rattle.std.specs.declared.option.Option.{Option}
use Rattle.std.specs.declared.result.Result.{Result}
use Rattle.std.specs.declared.result.Result.TheVariants.{Ok, Err}
use Rattle.std.proofs.lemmas.Result.{IfOk-weaker}
use Rattle.dms_block.specs.Held.{HasCausesOr}
use Rattle.dms_block.specs.HeldLaws.{looks_err, told_after}
use Rattle.dms_block.specs.View.{ReadsOverlay, overlay_content, seen_counts, under}
use Rattle.dms_block.specs.ViewLaws.{reads_as, reads_more, reads_none, reads_on, seen_still}
use Rattle.dms_block.specs.declared.block_fault.BlockFault.{BlockFault}
use Rattle.dms_block.specs.declared.block_fault.BlockFault.TheVariants.{Damaged, Memory}
use Rattle.dms_block.specs.declared.blocks.Blocks.{Ghosts}
use Rattle.dms_block.specs.declared.overlay.Overlay.{Overlay}
use Rattle.dms_chain.specs.Lists as list
use Rattle.dms_chain.specs.Lists.{bytes_cmp, bytes_same, first_from, is_same, last_to}
use Rattle.dms_chain.specs.SeenLaws.{causes_err, causes_since, counts_still}
use Rattle.dms_desc.specs.Files.{file_of}
use Rattle.dms_desc.specs.Keys.{key_of}
use Rattle.dms_desc.specs.Kinds.{over}
use Rattle.dms_desc.specs.Lookups.{over_of, parts_of, set_of, structure_of}
use Rattle.dms_desc.specs.Shape.{Shape, Described}
use Rattle.dms_desc.specs.declared.bound.Bound.{Bound}
use Rattle.dms_desc.specs.declared.record.Record.{Record}
use Rattle.dms_key.specs.KeyBytes.{key_bytes}
use Rattle.dms_links.specs.AlteringIn.{BadOf}
use Rattle.dms_links.specs.Linking.{number_at}
use Rattle.dms_links.specs.Stands.{tally_of}
use Rattle.dms_links.specs.Stepping.{none_bad_of}
use Rattle.dms_lists.specs.Forms.{IfKept, NoKept, form_of, kept_in, look_reads}
use Rattle.dms_lists.specs.FormLaws.{manual_form}
use Rattle.dms_manual.specs.Entered.{entered, manual_of, place_told}
use Rattle.dms_manual.specs.Listed.{bytes_for}
use Rattle.dms_manual.specs.Members.{first_at, last_at}
use Rattle.dms_manual.specs.Moves.{SmallIn, told}
use Rattle.dms_manual.specs.Refused.{Behind, any_entry, any_from, behind}
use Rattle.dms_model.specs.Db.{Db, Place}
use Rattle.dms_model.specs.Fitting.{IsNumber, MayStart, RecordFits, SpotFits}
use Rattle.dms_model.specs.MemberLaws.{equal_of}
use Rattle.dms_model.specs.Members.{first_member, last_member, spot_of}
use Rattle.dms_model.specs.declared.spot.Spot.{Spot}
use Rattle.dms_base.specs.declared.kind.ItemKind.{ItemKind}
use Rattle.dms_sets.specs.Finds.{spot_by}
use Rattle.dms_sets.specs.Owners.{is_of}
use Rattle.dms_sets.specs.Padded.{entry_width, from_bytes, to_bytes}
use Rattle.dms_sets.specs.Sets.{items_over, kinds_over, number_in, place_in_entry}
use Rattle.dms_sets.specs.Spots.{NameItems, and_then, spot_at}
use Rattle.dms_spelling.specs.Back.{spelled_files}
use Rattle.dms_spelling.specs.Holds.{records_fit, small_in}
use Rattle.dms_spelling.specs.Ready.{IfSpelt, IsReady}
use Rattle.dms_spelling.specs.ServingLaws.{manual_at}
use Rattle.dms_spelling.specs.Spelled.{database_in}
use Rattle.dms_spelling.specs.Stands.{StandsFiles}
use Rattle.dms_entries.specs.BoundFits.{may_look}
use Rattle.dms_entries.specs.Calls.{spelt_slots}
use Rattle.dms_entries.specs.Looked.{MayLook}
use Rattle.dms_entries.specs.OneList.{is_of_manual, over_manual}
use Rattle.dms_entries.specs.Promises.{ReadsRecord}

-- A block of the file of a structure, or of its data set's, of blocks that spell no database.
pub record BadSubset {B : Type 0} {g : Ghosts B} (desc : Described) (path : ℕ) (o : Overlay B g) (f b : ℕ) : Type 0 where
  pub file : (f ≡ file_of path) ⊎ (f ≡ file_of (set_of desc path))
  pub there : b < seen_counts o f
  pub untold : IfSpelt desc o (λ db. ⊥)

-- A call that finds a member of a structure: where the premise holds it is this one of the database that is spelled. What is answered
-- fits; at most n blocks are read; and a fault names a block of blocks that spell no database.
pub record FindsSpot {B : Type 0} {g : Ghosts B} (desc : Described) (path : ℕ) (M : Type 0) (P : Db → Option Spot) (n : ℕ) (result : Result (Option Spot) BlockFault) (a b : Overlay B g) : Type 0 where
  pub found : M → IfOk result (λ o. IfSpelt desc a (λ db. o ≡ P db))
  pub fits : IfOk result (λ o. IfSome o (SpotFits desc path))
  pub reads : ReadsOverlay n result a b
  pub causes : HasCausesOr (BadSubset desc path a) result (under a) (under b)

-- the first member of a manual subset behind a bound, and the last one before it
abbrev pub FindsFirst : {B : Type 0} {g : Ghosts B} → Described → ℕ → ℕ → Bound → Result (Option Spot) BlockFault → Overlay B g → Overlay B g → Type 0
FindsFirst desc path owner from result a b = FindsSpot desc path (MayStart desc path owner from) (λ db. first_member desc db path owner from) (2 + seen_counts a (file_of path)) result a b

abbrev pub FindsLast : {B : Type 0} {g : Ghosts B} → Described → ℕ → ℕ → Bound → Result (Option Spot) BlockFault → Overlay B g → Overlay B g → Type 0
FindsLast desc path owner to result a b = FindsSpot desc path (MayStart desc path owner to) (λ db. last_member desc db path owner to) (2 + seen_counts a (file_of path)) result a b

-- these bytes are an entry of the subset's list
abbrev pub HasListed : {B : Type 0} {g : Ghosts B} → Described → Shape → List ℕ → Overlay B g → Type 0
HasListed desc s q o = IfSpelt desc o (λ db. list.has_entry q (manual_of desc db s) ≡ true)

-- ---- an entry of the list

-- the record that an entry names stands
pub record EntryOf (db : Db) (s : Shape) (q : List ℕ) : Type 0 where
  pub rec : Record
  pub there : get db.records (s.set, number_in q) ≡ Some rec
  pub long : 4 ≤ length q

pub entry_of : (desc : Described) (db : Db) (s : Shape) (q : List ℕ) → SmallIn s db → list.has_entry q (manual_of desc db s) ≡ true → EntryOf db s q
entry_of desc db s q small has =
    let kinds = kinds_over desc s in
    let f = any_from (λ e. is_same q (bytes_for kinds s e.0.0 e.0.1 e.1)) (entered s db) (sym (any_entry kinds s (is_same q) (entered s db)) ∙ has) in
    let p = f.place in
    let b : Behind s db p.0 p.1 f.rec = behind s db p.0 p.1 f.rec f.at in
    let mine = bytes_for kinds s p.0 p.1 f.rec in
    let same : q ≡ mine = bytes_same q mine (equal_of (bytes_cmp q mine) f.holds) in
    let place : (p.0, p.1) ≡ place_told mine = told kinds s (p.0, p.1) f.rec mine (small.each p.0 p.1 b.has) refl in
    let number : number_in q ≡ p.1 = ap number_in same ∙ sym (ap (λ (k : Place). k.1) place) in
    record {
      rec = b.rec;
      there = ap (λ n. get db.records (s.set, n)) number ∙ b.stands;
      long = omega (arith, ap length same, length-append (to_be_bytes w32 p.0) (key_bytes kinds s.parts (key_of s.parts f.rec.values) ++ to_be_bytes w32 p.1));
    }

module _ {B : Type 0} {g : Ghosts B} (desc : Described) (s : Shape) (at : structure_of desc s.number ≡ Some s) (kind : s.kind ≡ 5) (a : Overlay B g) (ready : IsReady desc a) where
  files : (db : Db) → database_in desc (overlay_content a) ≡ Some db → StandsFiles desc db (tally_of desc db) (overlay_content a)
  files db spelt = spelled_files desc (overlay_content a) db ready.served spelt

  small_of : (db : Db) → database_in desc (overlay_content a) ≡ Some db → SmallIn s db
  small_of db spelt =
      let f = files db spelt in
      small_in desc ready.served db (tally_of desc db) (overlay_content a) f.slots f.lists f.entries s.number s at (is_of_manual s kind)

  set_is : set_of desc s.number ≡ s.set
  set_is = ap over_of at ∙ over_manual s kind

  over_is : over s ≡ s.set
  over_is = over_manual s kind

  -- ---- a member

  module _ (q : List ℕ) (owner : ℕ) (some : 1 ≤ seen_counts a (file_of s.number)) (listed : HasListed desc s q a) where
    -- it isn't the owner's,
    pub spot_off : ((x : B) → g.same_blocks x x) → is_of owner q ≡ false → FindsSpot desc s.number ⊤ (λ db. spot_by s db owner (Some q)) 1 (Ok None) a a
    spot_off again off = record {
      found = λ m told db spelt. sym (ap (λ b. and_then (cond b (Some q) None) (spot_at s db)) off);
      fits = tt;
      reads = reads_none 1 (Ok None) a again tt ready.sound;
      causes = refl;
    }

    bad_slot : (f b : ℕ) → BadOf desc s.set a f b → BadSubset desc s.number a f b
    bad_slot f b (t, there, is, bad) =
        let number : t.number ≡ s.set = number_at desc ready.served.numbered s.set t there in
        let file : f ≡ file_of t.number = bad.0.0 in
        record {
          file = inr (file ∙ ap file_of (number ∙ sym set_is));
          there = subst (λ (n : ℕ). b < seen_counts a n) (sym file) bad.1;
          untold = λ told db spelt. none_bad_of desc a s.set told (spelt_slots desc a ready db told spelt) f b (t, there, is, bad);
        }

    module _ (b : Overlay B g) (number : ℕ) (same : 4 ≤ length q → number ≡ number_in q) where
      record_there : (db : Db) → IsTrue (under a).told → database_in desc (overlay_content a) ≡ Some db → (r : Record) × (get db.records (s.set, number) ≡ Some r)
      record_there db told spelt =
          let e = entry_of desc db s q (small_of db spelt) (listed told db spelt) in
          (e.rec, ap (λ n. get db.records (s.set, n)) (same e.long) ∙ e.there)

      -- its record wasn't read,
      pub spot_failed : (e : BlockFault) → ReadsRecord desc s.set number (Err e) a b → FindsSpot desc s.number ⊤ (λ db. spot_by s db owner (Some q)) 1 (Err e) a b
      spot_failed e read = record {
        found = λ m. tt;
        fits = tt;
        reads = record { written_still = read.reads.written_still; looks = looks_err e read.reads.looks; same = read.reads.same };
        causes = causes_err (Option Record) (Option Spot) (BadOf desc s.set a) (BadSubset desc s.number a) e (under a) (under b) bad_slot read.causes;
      }

      -- doesn't stand,
      pub spot_none : (f : ℕ) → f ≡ file_of s.number → ReadsRecord desc s.set number (Ok None) a b → FindsSpot desc s.number ⊤ (λ db. spot_by s db owner (Some q)) 1 (Err (Damaged f 0)) a b
      spot_none f file read = record {
        found = λ m. tt;
        fits = tt;
        reads = reads_as (Err (Damaged f 0)) tt read.reads;
        causes = inr (
          read.causes,
          record {
            file = inl file;
            there = subst (λ (n : ℕ). 0 < seen_counts a n) (sym file) (omega (arith, some));
            untold = λ told db spelt. clash (record_there db told spelt).0 (read.found told db spelt ∙ (record_there db told spelt).1);
          },
        );
      }
        where
          clash : (r : Record) → ◌≡◌ {A = Option Record} None (Some r) → ⊥
          clash r h = absurd (cc h)

      -- there is no memory for the member,
      pub spot_memory : (rec : Record) → ReadsRecord desc s.set number (Ok (Some rec)) a b → FindsSpot desc s.number ⊤ (λ db. spot_by s db owner (Some q)) 1 (Err Memory) a b
      spot_memory rec read = record { found = λ m. tt; fits = tt; reads = reads_as (Err Memory) tt read.reads; causes = read.causes }

      -- or it is the member.
      pub spot_found : (rec : Record) (x : Spot) → is_of owner q ≡ true → x ≡ spot_of s.parts ((0, number), rec) → ReadsRecord desc s.set number (Ok (Some rec)) a b
          → FindsSpot desc s.number ⊤ (λ db. spot_by s db owner (Some q)) 1 (Ok (Some x)) a b
      spot_found rec x on is read = record {
        found = λ m told db spelt.
            let e = entry_of desc db s q (small_of db spelt) (listed told db spelt) in
            let number_is = same e.long in
            ap (λ (y : Spot). Some y) (is ∙ ap (λ n. spot_of s.parts ((0, n), rec)) number_is)
            ∙ ap (option_map (λ r. spot_of s.parts (place_in_entry s q, r))) (read.found told db spelt ∙ (λ i. get db.records (sym over_is i, number_is i)))
            ∙ sym (ap (λ b. and_then (cond b (Some q) None) (spot_at s db)) on);
        fits = subst (SpotFits desc s.number) (sym is) (record {
          number = subst (λ m. IsNumber desc m number) (sym set_is) read.numbered;
          rec = subst (λ m. RecordFits desc m rec) (sym set_is) read.fits;
          key = ap (λ o. key_of (parts_of o) rec.values) (sym at);
        });
        reads = reads_as (Ok (Some x)) tt read.reads;
        causes = read.causes;
      }

  -- ---- a look at the list

  list_is : (db : Db) → database_in desc (overlay_content a) ≡ Some db → kept_in (form_of s) (entry_width (kinds_over desc s) s.parts) (overlay_content a (file_of s.number)) ≡ Some (manual_of desc db s)
  list_is db spelt = (files db spelt).lists.manual s.number s at (is_of_manual s kind)

  module _ (owner : ℕ) (bound : Bound) (may : MayStart desc s.number owner bound) (db : Db) (spelt : database_in desc (overlay_content a) ≡ Some db) where
    named : NameItems (items_over desc s) s.parts
    named = (manual_at desc s.number s ready.served at (is_of_manual s kind)).named.items

    fit : MayLook (kinds_over desc s) s.parts bound
    fit = may_look desc s.number s ready.served at owner bound may

    -- The first member behind a bound, and the last one before it, are those of one look.
    pub first_is : first_member desc db s.number owner bound ≡ spot_by s db owner (first_from (from_bytes (kinds_over desc s) s.parts owner bound) (manual_of desc db s))
    first_is = first_at desc db s owner bound kind may.owned (small_of db spelt) named (records_fit desc ready.served db (tally_of desc db) (overlay_content a) (files db spelt).slots) fit.0 fit.1 s.number at

    pub last_is : last_member desc db s.number owner bound ≡ spot_by s db owner (last_to (to_bytes (kinds_over desc s) s.parts owner bound) (manual_of desc db s))
    last_is = last_at desc db s owner bound kind may.owned (small_of db spelt) named (records_fit desc ready.served db (tally_of desc db) (overlay_content a) (files db spelt).slots) fit.0 s.number at

  -- a call that is given the kinds of the items
  module _ (ks : List ItemKind) (kinds : ks ≡ kinds_over desc s) where
    -- a bound whose key fits may be looked for,
    pub may_at : (owner : ℕ) (bound : Bound) → MayStart desc s.number owner bound → MayLook ks s.parts bound
    may_at owner bound may = subst (λ (x : List ItemKind). MayLook x s.parts bound) (sym kinds) (may_look desc s.number s ready.served at owner bound may)

    -- and the members are those of its bytes
    pub first_of_list : (owner : ℕ) (bound : Bound) → MayStart desc s.number owner bound → (db : Db) → database_in desc (overlay_content a) ≡ Some db
        → first_member desc db s.number owner bound ≡ spot_by s db owner (first_from (from_bytes ks s.parts owner bound) (manual_of desc db s))
    first_of_list owner bound may db spelt = first_is owner bound may db spelt ∙ ap (λ (x : List ItemKind). spot_by s db owner (first_from (from_bytes x s.parts owner bound) (manual_of desc db s))) (sym kinds)

    pub last_of_list : (owner : ℕ) (bound : Bound) → MayStart desc s.number owner bound → (db : Db) → database_in desc (overlay_content a) ≡ Some db
        → last_member desc db s.number owner bound ≡ spot_by s db owner (last_to (to_bytes ks s.parts owner bound) (manual_of desc db s))
    last_of_list owner bound may db spelt = last_is owner bound may db spelt ∙ ap (λ (x : List ItemKind). spot_by s db owner (last_to (to_bytes x s.parts owner bound) (manual_of desc db s))) (sym kinds)

    -- entries of the list have at most 104 bytes
    pub entry_wide : entry_width ks s.parts ≤ 104
    entry_wide = subst (λ (x : List ItemKind). entry_width x s.parts ≤ 104) (sym kinds) (manual_at desc s.number s ready.served at (is_of_manual s kind)).width

    bad_list : (f b : ℕ) → NoKept (form_of s) a (file_of s.number) (entry_width ks s.parts) f b → BadSubset desc s.number a f b
    bad_list f b bad = record {
      file = inl bad.0;
      there = subst (λ (n : ℕ). b < seen_counts a n) (sym bad.0) bad.1;
      untold = λ told db spelt. clash (manual_of desc db s) (sym (bad.2 told) ∙ ap (λ (x : List ItemKind). kept_in (form_of s) (entry_width x s.parts) (overlay_content a (file_of s.number))) kinds ∙ list_is db spelt);
    }
      where
        clash : (xs : List (List ℕ)) → ◌≡◌ {A = Option (List (List ℕ))} None (Some xs) → ⊥
        clash xs h = absurd (cc h)

    few_reads : look_reads (form_of s) (seen_counts a (file_of s.number)) + 1 ≤ 2 + seen_counts a (file_of s.number)
    few_reads = omega (arith, ap (λ f. look_reads f (seen_counts a (file_of s.number))) (manual_form s kind))

    module _ (M : Type 0) (P : Db → Option Spot) (owner : ℕ) (Q : List (List ℕ) → Option (List ℕ)) (is : M → (db : Db) → database_in desc (overlay_content a) ≡ Some db → P db ≡ spot_by s db owner (Q (manual_of desc db s))) where
      -- there was no memory for the kinds,
      pub look_memory : ((x : B) → g.same_blocks x x) → FindsSpot desc s.number M P (2 + seen_counts a (file_of s.number)) (Err Memory) a a
      look_memory again = record { found = λ m. tt; fits = tt; reads = reads_none (2 + seen_counts a (file_of s.number)) (Err Memory) a again tt ready.sound; causes = refl }

      module _ (b : Overlay B g) where
        -- the list couldn't be looked at,
        pub look_failed : (e : BlockFault) → ReadsOverlay {T = Option (List ℕ)} (look_reads (form_of s) (seen_counts a (file_of s.number))) (Err e) a b
            → HasCausesOr {T = Option (List ℕ)} (NoKept (form_of s) a (file_of s.number) (entry_width ks s.parts)) (Err e) (under a) (under b) → FindsSpot desc s.number M P (2 + seen_counts a (file_of s.number)) (Err e) a b
        look_failed e reads causes = record {
          found = λ m. tt;
          fits = tt;
          reads = reads_more (2 + seen_counts a (file_of s.number)) (omega (arith, few_reads)) (record { written_still = reads.written_still; looks = looks_err e reads.looks; same = reads.same });
          causes = causes_err (Option (List ℕ)) (Option Spot) (NoKept (form_of s) a (file_of s.number) (entry_width ks s.parts)) (BadSubset desc s.number a) e (under a) (under b) bad_list causes;
        }

        given : (q : Option (List ℕ)) → IfKept (form_of s) a (file_of s.number) (entry_width ks s.parts) (λ xs. q ≡ Q xs) → IsTrue (under a).told → (db : Db) → database_in desc (overlay_content a) ≡ Some db → q ≡ Q (manual_of desc db s)
        given q look told db spelt = look told (manual_of desc db s) (ap (λ (x : List ItemKind). kept_in (form_of s) (entry_width x s.parts) (overlay_content a (file_of s.number))) kinds ∙ list_is db spelt)

        -- has no such entry,
        pub look_none : ReadsOverlay {T = Option (List ℕ)} (look_reads (form_of s) (seen_counts a (file_of s.number))) (Ok None) a b → (under b).faults ≡ (under a).faults
            → (M → IfKept (form_of s) a (file_of s.number) (entry_width ks s.parts) (λ xs. None ≡ Q xs)) → FindsSpot desc s.number M P (2 + seen_counts a (file_of s.number)) (Ok None) a b
        look_none reads same look = record {
          found = λ m told db spelt. ap (spot_by s db owner) (given None (look m) told db spelt) ∙ sym (is m db spelt);
          fits = tt;
          reads = reads_more (2 + seen_counts a (file_of s.number)) (omega (arith, few_reads)) (reads_as (Ok None) tt reads);
          causes = same;
        }

        module _ (q : List ℕ) (reads : ReadsOverlay (look_reads (form_of s) (seen_counts a (file_of s.number))) (Ok (Some q)) a b) (same : (under b).faults ≡ (under a).faults) where
          told_back : IsTrue (under b).told → IsTrue (under a).told
          told_back told = sym reads.looks.passes.lasts.told ∙ told

          -- or this one,
          pub look_listed : IfKept (form_of s) a (file_of s.number) (entry_width ks s.parts) (λ xs. list.has_entry q xs ≡ true) → HasListed desc s q b
          look_listed listed told db spelt =
              let before = told_back told in
              let spelt_a = ap (database_in desc) (sym (seen_still reads before)) ∙ spelt in
              listed before (manual_of desc db s) (ap (λ (x : List ItemKind). kept_in (form_of s) (entry_width x s.parts) (overlay_content a (file_of s.number))) kinds ∙ list_is db spelt_a)

          bad_since : (f k : ℕ) → BadSubset desc s.number b f k → BadSubset desc s.number a f k
          bad_since f k bad = record {
            file = bad.file;
            there = subst (λ (c : ℕ → ℕ). k < c f) (counts_still reads) bad.there;
            untold = λ told db spelt. bad.untold (told_after reads.looks.passes.lasts told) db (ap (database_in desc) (seen_still reads told) ∙ spelt);
          }

          -- which is that of a member.
          pub look_then : (r : Result (Option Spot) BlockFault) (z : Overlay B g) → ((x y z : B) → g.same_blocks x y → g.same_blocks y z → g.same_blocks x z) → (M → IfKept (form_of s) a (file_of s.number) (entry_width ks s.parts) (λ xs. Some q ≡ Q xs))
              → FindsSpot desc s.number ⊤ (λ db. spot_by s db owner (Some q)) 1 r b z → FindsSpot desc s.number M P (2 + seen_counts a (file_of s.number)) r a z
          look_then r z onward look next = record {
            found = λ m.
                IfOk-weaker r _ _ (λ o h told db spelt.
                h (told_after reads.looks.passes.lasts told) db (ap (database_in desc) (seen_still reads told) ∙ spelt)
                ∙ ap (spot_by s db owner) (given (Some q) (look m) told db spelt) ∙ sym (is m db spelt)) (next.found tt);
            fits = next.fits;
            reads = reads_more (2 + seen_counts a (file_of s.number)) few_reads (reads_on r onward reads next.reads);
            causes = causes_since (BadSubset desc s.number b) (BadSubset desc s.number a) r a b z bad_since same reads next.causes;
          }
