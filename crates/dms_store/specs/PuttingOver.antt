-- The lists of the sets and subsets that are seen over the blocks while one record is stored.
use Rattle.std.proofs.Common.{◌≡◌, ◌∙◌, ◌-◌, ◌≤◌, ℕ, suc, Bool, true, false, IsTrue, Some, None, refl, sym, ap, subst, length, arith}
use Rattle.std.specs.Prelude.{◌&&◌, ◌==◌}
use Rattle.std.specs.FinMap.{get}
use Rattle.std.specs.declared.option.Option.{Option}
use Rattle.std.proofs.lemmas.Bool.Decides.{nat_tests}
use Rattle.dms_block.specs.Content.{Content}
use Rattle.dms_block.specs.declared.blocks.Blocks.{Ghosts}
use Rattle.dms_block.specs.declared.overlay.Overlay.{Overlay}
use Rattle.dms_block.specs.View.{overlay_content, under}
use Rattle.dms_desc.specs.Files.{file_of}
use Rattle.dms_desc.specs.Kinds.{is_set_or_automatic}
use Rattle.dms_desc.specs.Lookups.{structure_of}
use Rattle.dms_desc.specs.Shape.{Shape, Described}
use Rattle.dms_desc.specs.declared.record.Record.{Record}
use Rattle.dms_links.specs.Linking.{structure_here}
use Rattle.dms_links.specs.Rows.{file_in}
use Rattle.dms_links.specs.Stands.{Tally}
use Rattle.dms_lists.specs.Forms.{form_of}
use Rattle.dms_manual.specs.Entered.{manual_of}
use Rattle.dms_manual.specs.Naming.{AreManual, has_manual, is_manual_over}
use Rattle.dms_model.specs.Db.{Db}
use Rattle.dms_model.specs.Valid.{is_data_set, is_manual}
use Rattle.dms_sets.specs.Changes.{has_number, list_of_set}
use Rattle.dms_sets.specs.Keeping.{Calm, FileStays, seen_list}
use Rattle.dms_sets.specs.KeepingLaws.{listed_still}
use Rattle.dms_sets.specs.Padded.{entry_width}
use Rattle.dms_sets.specs.Sets.{entries_of, kinds_over}
use Rattle.dms_sets.specs.Told.{AreListed}
use Rattle.dms_spelling.specs.Grown.{IsNoList, all_manual, are_manual, manual_off, no_fourth, not_manual, not_over, over_off, seen_there}
use Rattle.dms_spelling.specs.Holds.{manual_kind}
use Rattle.dms_spelling.specs.Serving.{IsServed}
use Rattle.dms_spelling.specs.ServingLaws.{structure_there}
use Rattle.dms_spelling.specs.Spelled.{list_at}
use Rattle.dms_spelling.specs.Stands.{ListsSpell, StandsFiles}
use Rattle.dms_store.specs.Finding.{number_at}
use Rattle.dms_store.specs.PuttingAfter.{list_stays, none_named, with_record}

-- The files of all sets and subsets are the lists of this database, none of which is too long; and those of data sets, and of numbers that
-- no structure has, are as they were.
pub record ListsPut (desc : Described) (db : Db) (c d : Content) : Type 0 where
  pub lists : ListsSpell desc db d
  pub few : (n : ℕ) (s : Shape) → structure_of desc n ≡ Some s → is_data_set (Some s) ≡ false → length (file_in d s) ≤ 1048576
  pub still : (n : ℕ) → IsNoList desc n → d (file_of n) ≡ c (file_of n)

-- a manual subset is no set or automatic subset
manual_no_kept : (s : Shape) → is_manual (Some s) ≡ true → is_set_or_automatic s ≡ false
manual_no_kept s h = grind (arith, nat_tests, h)

kept_no_manual : (s : Shape) → is_set_or_automatic s ≡ true → is_manual (Some s) ≡ false
kept_no_manual s h = by (is_manual (Some s)) refl
  where
    apart : true ≡ false → ⊥
    apart e = absurd (cc e)

    by : (b : Bool) → is_manual (Some s) ≡ b → b ≡ false
    by true is = absurd (apart (sym h ∙ manual_no_kept s is))
    by false is = refl

same_test : (a b : ℕ) → (a == b) ≡ true → a ≡ b
same_test a b h = grind (arith, nat_tests, h)

module _ {B : Type 0} {g : Ghosts B} (desc : Described) (served : IsServed desc) (db : Db) (own : Tally) (set number : ℕ) (made : Record) (a b : Overlay B g) (told : IsTrue (under a).told) (files : StandsFiles desc db own (overlay_content a)) (n : ℕ) (calm : Calm (has_number desc.structures set) n a b) where
  abbrev after : Db
  after = with_record db set number made

  own_number : (k : ℕ) (s : Shape) → structure_of desc k ≡ Some s → structure_of desc s.number ≡ Some s
  own_number k s at = ap (structure_of desc) (number_at desc k s served at) ∙ at

  -- the file of a manual subset is as it was
  manual_file : (k : ℕ) (s : Shape) → structure_of desc k ≡ Some s → is_manual (Some s) ≡ true → FileStays s.number a b
  manual_file k s at manual =
      calm.others s.number (over_off desc served set s.number (λ t there. ap (λ x. x && (t.set == set)) (manual_no_kept t (subst (λ (u : Shape). is_manual (Some u) ≡ true) (same_one s t (sym (own_number k s at) ∙ there)) manual))))
    where
      same_one : (s t : Shape) → ◌≡◌ {A = Option Shape} (Some s) (Some t) → s ≡ t
      same_one s t h = cc h

  manual_seen : (k : ℕ) (s : Shape) → structure_of desc k ≡ Some s → is_manual (Some s) ≡ true → list_of_set (seen_list b) (kinds_over desc s) s ≡ list_of_set (seen_list a) (kinds_over desc s) s
  manual_seen k s at manual = listed_still a b s.number (form_of s) (entry_width (kinds_over desc s) s.parts) calm.told (manual_file k s at manual)

  -- The lists of manual subsets are those of the database still,
  pub manual_before : AreManual desc db set (seen_list b)
  manual_before k s at own_set = manual_seen (suc k) s (structure_here desc.structures k s at) (manual_kind s set own_set) ∙ are_manual desc served db set a told files.lists files.fit k s at own_set

  -- and of that with a new record, which no entry names.
  pub manual_new : get db.records (set, number) ≡ None → AreManual desc after set (seen_list b)
  manual_new none k s at own_set =
      let there = structure_here desc.structures k s at in
      let manual = manual_kind s set own_set in
      let of : s.set ≡ set = set_same s own_set in
      manual_before k s at own_set
      ∙ ap Some (sym (list_stays desc db set number made s (λ same. none_named desc db number s (own_number (suc k) s there) manual (ap (λ t. get db.records (t, number)) of ∙ none) files.entries)))
    where
      set_same : (s : Shape) → is_manual_over s set ≡ true → s.set ≡ set
      set_same s h = grind (arith, nat_tests, h)

  module _ (z : Overlay B g) (m : ℕ) (moved : Calm (has_manual desc.structures set) m b z) (sets : AreListed desc after (seen_list b)) (manual : AreManual desc after set (seen_list z)) where
    -- the list of a set or automatic subset,
    kept_there : (k : ℕ) (s : Shape) → structure_of desc k ≡ Some s → is_set_or_automatic s ≡ true → (list_at desc (overlay_content z) s ≡ Some (entries_of desc after s)) × (length (file_in (overlay_content z) s) ≤ 1048576)
    kept_there k s at kept =
        let stays = moved.others s.number (manual_off desc served set s.number (λ t there. ap (λ x. x && (t.set == set)) (kept_no_manual t (subst (λ (u : Shape). is_set_or_automatic u ≡ true) (same_one s t (sym (own_number k s at) ∙ there)) kept)))) in
        let seen = listed_still b z s.number (form_of s) (entry_width (kinds_over desc s) s.parts) moved.told stays in
        seen_there desc served z s (entries_of desc after s) (seen ∙ sets (k - 1) s (structure_there desc.structures k s at) kept)
      where
        same_one : (s t : Shape) → ◌≡◌ {A = Option Shape} (Some s) (Some t) → s ≡ t
        same_one s t h = cc h

    -- of a manual subset over the data set, and of another one
    manual_there : (k : ℕ) (s : Shape) → structure_of desc k ≡ Some s → is_manual (Some s) ≡ true → (list_at desc (overlay_content z) s ≡ Some (manual_of desc after s)) × (length (file_in (overlay_content z) s) ≤ 1048576)
    manual_there k s at is = by (s.set == set) refl
      where
        off_one : (t : Shape) → (s.set == set) ≡ false → structure_of desc s.number ≡ Some t → is_manual_over t set ≡ false
        off_one t off there = subst (λ (u : Shape). is_manual_over u set ≡ false) (same_one s t (sym (own_number k s at) ∙ there)) (ap (λ x. (s.kind == 5) && x) off ∙ and_off (s.kind == 5))
          where
            same_one : (s t : Shape) → ◌≡◌ {A = Option Shape} (Some s) (Some t) → s ≡ t
            same_one s t h = cc h

            and_off : (x : Bool) → (x && false) ≡ false
            and_off true = refl
            and_off false = refl

        by : (x : Bool) → (s.set == set) ≡ x → (list_at desc (overlay_content z) s ≡ Some (manual_of desc after s)) × (length (file_in (overlay_content z) s) ≤ 1048576)
        by true own_set = seen_there desc served z s (manual_of desc after s) (manual (k - 1) s (structure_there desc.structures k s at) (λ i. is i && own_set i))
        by false off =
            let stays = moved.others s.number (manual_off desc served set s.number (λ t there. off_one t off there)) in
            let seen = listed_still b z s.number (form_of s) (entry_width (kinds_over desc s) s.parts) moved.told stays in
            let was : list_of_set (seen_list a) (kinds_over desc s) s ≡ Some (manual_of desc db s) = all_manual desc served db a told files.lists files.fit (k - 1) s (structure_there desc.structures k s at) is in
            let same = list_stays desc db set number made s (λ e. absurd (apart (sym off ∙ same_sets e))) in
            seen_there desc served z s (manual_of desc after s) (seen ∙ manual_seen k s at is ∙ was ∙ ap Some (sym same))
          where
            apart : false ≡ true → ⊥
            apart h = absurd (cc h)

            same_sets : s.set ≡ set → (s.set == set) ≡ true
            same_sets e = grind (arith, nat_tests, e)

    -- After a change of the sets, and of manual subsets, the lists are those of the database with the record.
    pub lists_put : ListsPut desc after (overlay_content a) (overlay_content z)
    lists_put = record {
      lists = record { kept = λ k s at off kept. (kept_there k s at kept).0; manual = λ k s at is. (manual_there k s at is).0 };
      few = λ k s at off. few_by k s at off (is_set_or_automatic s) (is_manual (Some s)) refl refl;
      still = λ k no. (moved.others k (not_manual desc served set k no)).1 (calm.told ∙ told) ∙ (calm.others k (not_over desc served set k no)).1 told;
    }
      where
        few_by : (k : ℕ) (s : Shape) → structure_of desc k ≡ Some s → is_data_set (Some s) ≡ false → (x y : Bool) → is_set_or_automatic s ≡ x → is_manual (Some s) ≡ y → length (file_in (overlay_content z) s) ≤ 1048576
        few_by k s at off true y kept is = (kept_there k s at kept).1
        few_by k s at off false true kept is = (manual_there k s at is).1
        few_by k s at off false false kept is = absurd (no_fourth desc k s served at off kept is)
